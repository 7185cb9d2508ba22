-- There is room for what a save writes and reads. Assumes nothing.
use Prim.Native.Nat.{ℕ, ◌+◌, ◌*◌, ◌≤◌}
use native.Mathlib.Omega.{arith}
use mathlib.Core.Path.{◌≡◌, ap}
use lib.ListN.{length}
use Rattle.grid.specs.declared.Record.{Record}
use Rattle.grid.specs.declared.stores.Lengths.{Lengths}
use Rattle.grid.specs.Inner.Sound.{Sound}
use Rattle.grid.specs.Stores.{Stores, cells, store_lengths, lengths_of}
use Rattle.format.specs.Save.{save_length}
use Rattle.puts.specs.Inner.Room.{Roomy}
use Rattle.format.proofs.Written.{pole_count_lem}

-- what the code that writes and reads needs of lengths, where the stores are the record's and there are bytes enough for its save
abbrev pub RoomFor : Record → Stores → ℕ → Type 0
RoomFor r s bytes =
    Roomy r.material_count (length s.electric) (length s.magnetic) (length s.media) (length s.psi_e) (length s.psi_h) (length s.tables) (length s.poles) (length s.aux) (length s.ids) bytes

pub roomy : (r : Record) (s : Stores) (n bytes : ℕ) → Sound r → lengths_of s ≡ store_lengths r → n ≡ save_length r → n ≤ bytes → RoomFor r s bytes
unfolding save_length store_lengths
roomy r s n bytes k fit q l =
    let e1 : length s.electric ≡ 3 * cells r = ap (λ (l : Lengths). l.electric) fit in
    let e2 : length s.magnetic ≡ 3 * cells r = ap (λ (l : Lengths). l.magnetic) fit in
    let e3 : length s.media ≡ 3 * cells r = ap (λ (l : Lengths). l.media) fit in
    let e4 : length s.psi_e ≡ 6 * cells r = ap (λ (l : Lengths). l.psi_e) fit in
    let e5 : length s.psi_h ≡ 6 * cells r = ap (λ (l : Lengths). l.psi_h) fit in
    let e6 : length s.tables ≡ 6 * (r.nx + r.ny + r.nz) = ap (λ (l : Lengths). l.tables) fit in
    let e7 : length s.poles ≡ (6 * r.pole_slots + 3) * cells r = ap (λ (l : Lengths). l.poles) fit in
    let e8 : length s.aux ≡ 2 * (r.nz + 48) = ap (λ (l : Lengths). l.aux) fit in
    let e9 : length s.ids ≡ cells r = ap (λ (l : Lengths). l.ids) fit in
    let open7 : (6 * r.pole_slots + 3) * cells r ≡ 6 * (r.pole_slots * cells r) + 3 * cells r = pole_count_lem r.pole_slots (cells r) in
    record {
      list = k.materials;
      e = omega (arith, e1, k.cells);
      h = omega (arith, e2, k.cells);
      m = omega (arith, e3, k.cells);
      pe = omega (arith, e4, k.cells);
      ph = omega (arith, e5, k.cells);
      se = omega (arith, e4, e9);
      sh = omega (arith, e5, e9);
      t = omega (arith, e6, k.xs, k.ys, k.zs);
      p = omega (arith, e7, k.poles);
      a = omega (arith, e8, k.zs);
      i = omega (arith, e9, k.cells);
      all = omega (arith, e1, e2, e3, e4, e5, e6, e7, e8, e9, open7, l, q);
    }
