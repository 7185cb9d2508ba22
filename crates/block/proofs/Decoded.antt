-- What is read from a block meets what every record in code does, so the laws on writing hold for it too. Assumes nothing.
use Prim.Native.Nat.{ℕ, zero, suc, ◌≤◌, ◌<◌}
use native.Mathlib.Omega.{arith}
use mathlib.Core.Path.{◌≡◌, refl, sym, subst}
use mathlib.Core.Bool.{Bool, true, false, cond, ◌&&◌}
use mathlib.Core.List.{List}
use lib.Dec.{T, ltb, eqb}
use lib.ListN.{length, get_or}
use lib.Ieee.{Float, binary64, of_bits}
use lib.Ieee.Bits.{of_bits-fits}
use lib.Ieee.Fits.{and_i}
use Rattle.dispersion.specs.declared.Pole.TheVariants.{Lorentz, Drude, Debye}
use Rattle.dispersion.specs.declared.DispersiveMaterial.{DispersiveMaterial}
use Rattle.dispersion.specs.Material.{blank_slot, vacuum_material}
use Rattle.cells.specs.Cells.{joined}
use Rattle.cells.specs.Reading.{length_row}
use Rattle.cells.proofs.Written.{get_d_row}
use Rattle.grid.specs.Fault.{beyond}
use Rattle.heads.specs.Numbers.{pole_of, slot_of, ml_of, gh_of}
use Rattle.heads.specs.Payloads.{head_of, count_of, entry_at, entry_material, materials_of, record_of}
use Rattle.block.specs.Block.{block_length, entries, block_record}
use Rattle.block.specs.Inner.Held.{held, pole_held, MaterialHeld, Held}
use Rattle.block.proofs.Turns.{steps_small}

any : (n : ℕ) → T (held (of_bits binary64 n))
any n = of_bits-fits binary64 n

pole_held_lem : (t : ℕ) (x y z : Float) → T (held x) → T (held y) → T (held z) → T (pole_held (pole_of t x y z))
pole_held_lem t x y z p q r = go (eqb t 1) (eqb t 2)
  where
    go : (u v : Bool) → T (pole_held (cond u (Lorentz x y z) (cond v (Drude x y) (Debye x y))))
    go true v = and_i (held x && held y) (held z) (and_i (held x) (held y) p q) r
    go false true = and_i (held x) (held y) p q
    go false false = and_i (held x) (held y) p q

slot_held : (t a b c : ℕ) → T (pole_held (slot_of t a b c))
slot_held t a b c = pole_held_lem t _ _ _ (any a) (any b) (any c)

pub read_held : (l : List ℕ) → MaterialHeld (ml_of l)
unfolding ml_of joined
read_held l = record {
  eps = any (get_or l 0 0);
  loss = any (get_or l 1 0);
  mu = any (get_or l 2 0);
  four = refl;
  each = λ i h. go i h;
}
  where
    go : (i : ℕ) → i < 4 → T (pole_held (get_or (ml_of l).poles i blank_slot))
    go zero h = slot_held (get_or l 4 0) (get_or l 5 0) (get_or l 6 0) (get_or l 7 0)
    go (suc zero) h = slot_held (get_or l 8 0) (get_or l 9 0) (get_or l 10 0) (get_or l 11 0)
    go (suc (suc zero)) h = slot_held (get_or l 12 0) (get_or l 13 0) (get_or l 14 0) (get_or l 15 0)
    go (suc (suc (suc zero))) h = slot_held (get_or l 16 0) (get_or l 17 0) (get_or l 18 0) (get_or l 19 0)
    go (suc (suc (suc (suc i)))) h = absurd (let z : ⊥ = omega arith in z)

blank_held : (i : ℕ) → i < 4 → T (pole_held (get_or vacuum_material.poles i blank_slot))
blank_held zero h = slot_held 0 0 0 0
blank_held (suc zero) h = slot_held 0 0 0 0
blank_held (suc (suc zero)) h = slot_held 0 0 0 0
blank_held (suc (suc (suc zero))) h = slot_held 0 0 0 0
blank_held (suc (suc (suc (suc i)))) h = absurd (let z : ⊥ = omega arith in z)

vacuum_held : MaterialHeld vacuum_material
vacuum_held = record { eps = any 0x3FF0000000000000; loss = any 0; mu = any 0x3FF0000000000000; four = refl; each = blank_held }

entry_held : (count : ℕ) (b : List ℕ) (i : ℕ) → MaterialHeld (entry_material count b i)
entry_held count b i = go (ltb i count)
  where
    go : (t : Bool) → MaterialHeld (cond t (ml_of (entry_at b i)) vacuum_material)
    go true = read_held (entry_at b i)
    go false = vacuum_held

head_held : (l : List ℕ) (ms : List DispersiveMaterial) → get_or l 25 0 ≤ 4294967295 → length ms ≡ 16 → ((i : ℕ) → i < 16 → MaterialHeld (get_or ms i beyond)) → Held (gh_of l ms)
unfolding gh_of
head_held l ms small e h = record {
  walls = (refl, refl);
  x = any (get_or l 20 0);
  y = any (get_or l 21 0);
  z = any (get_or l 22 0);
  t = any (get_or l 23 0);
  time = any (get_or l 24 0);
  steps = omega (arith, small);
  sixteen = e;
  each = h;
}

-- whatever GH and the entries say, if four bytes hold the steps
pub record_held : (g b : List ℕ) → get_or g 25 0 ≤ 4294967295 → Held (record_of g b)
unfolding materials_of
record_held g b small =
    head_held g (materials_of (count_of g) b) small (length_row 16 _)
    (λ i l. subst MaterialHeld (sym (get_d_row 16 (entry_material (count_of g) b) i beyond l)) (entry_held (count_of g) b i))

pub block_held : (b : List ℕ) → length b ≡ block_length → ((i : ℕ) → get_or b i 0 < 256) → Held (block_record b)
unfolding block_record
block_held b e h = record_held (head_of b) (entries b) (steps_small b e h)
