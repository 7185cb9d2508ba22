-- The payloads as code writes them, part by part. Assumes nothing.
use Prim.Native.Nat.{ℕ, ◌+◌, ◌≤◌, ◌<◌}
use native.Mathlib.Omega.{arith}
use mathlib.Core.Path.{◌≡◌, refl, sym, ap, ◌∙◌}
use mathlib.Core.List.{List, [], ◌∷◌, ◌++◌, append-nil}
use lib.Dec.{ltb}
use lib.ListN.{length, get_or, length-append}
use Rattle.codec.specs.Lists.{put}
use Rattle.codec.specs.Bytes.{le, enc, total, bits}
use Rattle.codec.proofs.Row.{put_more}
use Rattle.root.specs.declared.Spacings.{Spacings}
use Rattle.dispersion.specs.declared.Pole.{Pole}
use Rattle.dispersion.specs.declared.DispersiveMaterial.{DispersiveMaterial}
use Rattle.dispersion.specs.Material.{blank_slot}
use Rattle.cells.specs.Cells.{joined}
use Rattle.grid.specs.declared.Clock.{Clock}
use Rattle.grid.specs.declared.Region.{Region}
use Rattle.grid.specs.declared.Record.{Record}
use Rattle.grid.specs.Canon.{canon_region}
use Rattle.heads.specs.Numbers.{kind_num, flag_nums, float_nums, gh_length, gh_nums, front_widths, slot_widths, ml_length, slot_nums, ml_nums}
use Rattle.heads.specs.Payloads.{head_bytes, material_bytes}
use Rattle.heads.specs.Inner.Parts.{size_widths, flag_widths, count_widths, corner_widths, float_widths, plan_widths, scale_widths}
use Rattle.heads.proofs.Flat.{slot_long}
use Rattle.std.proofs.lemmas.List.{get_or_default}

-- ---- GH
abbrev corners : Region → List ℕ
corners g = g.i0 ∷ g.i1 ∷ g.j0 ∷ g.j1 ∷ g.k0 ∷ g.k1 ∷ []

pub corners_put : (l m o : List ℕ) (at : ℕ) (g : Region) → at + 12 ≤ length l → m ≡ put l at (enc size_widths (g.i0 ∷ g.i1 ∷ g.j0 ∷ [])) →
    o ≡ put m (at + 6) (enc size_widths (g.j1 ∷ g.k0 ∷ g.k1 ∷ [])) → o ≡ put l at (enc corner_widths (corners g))
unfolding total
corners_put l m o at g h p q = put_more l m o at size_widths size_widths (g.i0 ∷ g.i1 ∷ g.j0 ∷ []) (g.j1 ∷ g.k0 ∷ g.k1 ∷ []) refl refl (omega arith) p q

pub plan_put : (l m o n : List ℕ) (at nx ny nz built slots materials kind : ℕ) (f : List ℕ) → length f ≡ 7 → at + 17 ≤ length l →
    m ≡ put l at (enc size_widths (nx ∷ ny ∷ nz ∷ [])) → o ≡ put m (at + 6) (enc flag_widths f) → n ≡ put o (at + 13) (enc count_widths (built ∷ slots ∷ materials ∷ kind ∷ [])) →
    n ≡ put l at (enc plan_widths ((nx ∷ ny ∷ nz ∷ []) ++ f ++ (built ∷ slots ∷ materials ∷ kind ∷ [])))
unfolding total
plan_put l m o n at nx ny nz built slots materials kind f e h p q r =
    put_more l o n at (size_widths ++ flag_widths) count_widths ((nx ∷ ny ∷ nz ∷ []) ++ f) (built ∷ slots ∷ materials ∷ kind ∷ []) (omega (arith, length-append (nx ∷ ny ∷ nz ∷ []) f)) refl (omega arith)
    (put_more l m o at size_widths flag_widths (nx ∷ ny ∷ nz ∷ []) f refl (sym e) (omega arith) p q) r

pub scale_put : (l m o n t : List ℕ) (at : ℕ) (g : Region) (s : Spacings) (c : Clock) (k : ℕ) (x : List ℕ) → x ≡ float_nums s c.time → at + 57 ≤ length l →
    m ≡ put l at (enc corner_widths (corners g)) → o ≡ put m (at + 12) (enc float_widths x) → n ≡ put o (at + 52) (le 4 c.steps) → t ≡ put n (at + 56) (le 1 k) →
    t ≡ put l at (enc scale_widths (corners g ++ float_nums s c.time ++ (c.steps ∷ k ∷ [])))
unfolding total enc
scale_put l m o n t at g s c k x e h p q r u =
    put_more l n t at (corner_widths ++ float_widths ++ (4 ∷ [])) (1 ∷ []) (corners g ++ float_nums s c.time ++ (c.steps ∷ [])) (k ∷ []) refl refl (omega arith)
    (put_more l o n at (corner_widths ++ float_widths) (4 ∷ []) (corners g ++ float_nums s c.time) (c.steps ∷ []) refl refl (omega arith)
    (put_more l m o at corner_widths float_widths (corners g) (float_nums s c.time) refl refl (omega arith) p (q ∙ ap (λ (y : List ℕ). put m (at + 12) (enc float_widths y)) e)) (r ∙ ap (put o (at + 52)) (sym (append-nil (le 4 c.steps)))))
    (u ∙ ap (put n (at + 56)) (sym (append-nil (le 1 k))))

pub head_put : (l m o : List ℕ) (at : ℕ) (r : Record) (f : List ℕ) (g : Region) (k : ℕ) → f ≡ flag_nums r.periodic r.active r.layer_on → g ≡ canon_region r.region →
    k ≡ kind_num g.kind → at + gh_length ≤ length l →
    m ≡ put l at (enc plan_widths ((r.nx ∷ r.ny ∷ r.nz ∷ []) ++ f ++ (r.built_count ∷ r.pole_slots ∷ r.material_count ∷ k ∷ []))) →
    o ≡ put m (at + 17) (enc scale_widths (corners g ++ float_nums r.spacings r.clock.time ++ (r.clock.steps ∷ r.constants ∷ []))) → o ≡ put l at (head_bytes r)
unfolding total gh_nums
head_put l m o at r f g k ef eg ek h p q =
    let first : List ℕ = (r.nx ∷ r.ny ∷ r.nz ∷ []) ++ flag_nums r.periodic r.active r.layer_on ++ (r.built_count ∷ r.pole_slots ∷ r.material_count ∷ k ∷ []) in
    put_more l m o at plan_widths scale_widths first (corners g ++ float_nums r.spacings r.clock.time ++ (r.clock.steps ∷ r.constants ∷ [])) refl refl (omega arith)
    (p ∙ ap (λ (x : List ℕ). put l at (enc plan_widths ((r.nx ∷ r.ny ∷ r.nz ∷ []) ++ x ++ (r.built_count ∷ r.pole_slots ∷ r.material_count ∷ k ∷ [])))) ef) q
    ∙ rw (ek, eg)

-- ---- a material
module _ (m : DispersiveMaterial) (e : Pole) (long : length m.poles ≡ 4) where
  abbrev numbers : (i : ℕ) → List ℕ
  numbers i = slot_nums (ltb i m.pole_count) (get_or m.poles i blank_slot)

  there : (i : ℕ) (a : List ℕ) → i < 4 → a ≡ slot_nums (ltb i m.pole_count) (get_or m.poles i e) → a ≡ numbers i
  there i a h p = p ∙ ap (slot_nums (ltb i m.pole_count)) (get_or_default m.poles i e blank_slot (omega (arith, long, h)))

  abbrev front : List ℕ
  front = bits m.eps_inf ∷ bits m.sigma ∷ bits m.mu_r ∷ m.pole_count ∷ []

  -- one place more
  slot_put : (l u k : List ℕ) (at i : ℕ) (ws ns a : List ℕ) → i < 4 → length ws ≡ length ns → at + total ws + 25 ≤ length l → u ≡ put l at (enc ws ns) →
      a ≡ slot_nums (ltb i m.pole_count) (get_or m.poles i e) → k ≡ put u (at + total ws) (enc slot_widths a) → k ≡ put l at (enc (ws ++ slot_widths) (ns ++ numbers i))
  unfolding total
  slot_put l u k at i ws ns a h f room p ea q =
      put_more l u k at ws slot_widths ns (numbers i) f (sym (slot_long (ltb i m.pole_count) (get_or m.poles i blank_slot))) (omega (arith, room)) p (q ∙ ap (λ (x : List ℕ). put u (at + total ws) (enc slot_widths x)) (there i a h ea))

  pub material_put : (l u v w x y : List ℕ) (at : ℕ) (a b c d : List ℕ) → at + ml_length ≤ length l →
      a ≡ slot_nums (ltb 0 m.pole_count) (get_or m.poles 0 e) → b ≡ slot_nums (ltb 1 m.pole_count) (get_or m.poles 1 e) →
      c ≡ slot_nums (ltb 2 m.pole_count) (get_or m.poles 2 e) → d ≡ slot_nums (ltb 3 m.pole_count) (get_or m.poles 3 e) →
      u ≡ put l at (enc front_widths front) → v ≡ put u (at + 25) (enc slot_widths a) → w ≡ put v (at + 50) (enc slot_widths b) → x ≡ put w (at + 75) (enc slot_widths c) →
      y ≡ put x (at + 100) (enc slot_widths d) → y ≡ put l at (material_bytes m)
  unfolding total ml_nums joined
  material_put l u v w x y at a b c d h ea eb ec ed p q r s z =
      let w1 : List ℕ = front_widths ++ slot_widths in
      let w2 : List ℕ = w1 ++ slot_widths in
      let w3 : List ℕ = w2 ++ slot_widths in
      let n1 : List ℕ = front ++ numbers 0 in
      let n2 : List ℕ = n1 ++ numbers 1 in
      let n3 : List ℕ = n2 ++ numbers 2 in
      let k1 : length n1 ≡ 8 = length-append front (numbers 0) ∙ omega (arith, slot_long (ltb 0 m.pole_count) (get_or m.poles 0 blank_slot)) in
      let k2 : length n2 ≡ 12 = length-append n1 (numbers 1) ∙ omega (arith, k1, slot_long (ltb 1 m.pole_count) (get_or m.poles 1 blank_slot)) in
      let k3 : length n3 ≡ 16 = length-append n2 (numbers 2) ∙ omega (arith, k2, slot_long (ltb 2 m.pole_count) (get_or m.poles 2 blank_slot)) in
      slot_put l x y at 3 w3 n3 d (omega arith) (sym k3) (omega arith)
      (slot_put l w x at 2 w2 n2 c (omega arith) (sym k2) (omega arith)
      (slot_put l v w at 1 w1 n1 b (omega arith) (sym k1) (omega arith)
      (slot_put l u v at 0 front_widths front a (omega arith) refl (omega arith) p ea q) eb r) ec s) ed z
