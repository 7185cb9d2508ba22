-- Bytes that hold the counted materials of a record without fault, entry by entry: each entry says its material's numbers, and with GH they say the record
-- again, without what means nothing. Assumes nothing.
use Prim.Native.Nat.{ℕ, ◌*◌, ◌≤◌, ◌<◌}
use native.Mathlib.Omega.{arith}
use mathlib.Core.Path.{◌≡◌, refl, sym, ap, ◌∙◌}
use mathlib.Core.Bool.{Bool, true, false, cond}
use mathlib.Core.List.{List, ◌++◌, map}
use borrow.Author.Tests.{ltb-true}
use lib.Dec.{T, ltb}
use lib.ListN.{get_or, drop, take-append-drop, length-map, get_or-map}
use Rattle.std.proofs.lemmas.List.{get_or_default}
use Rattle.codec.specs.Lists.{part}
use Rattle.codec.specs.Bytes.{enc, nums, fit_all}
use Rattle.codec.proofs.Row.{nums_enc}
use Rattle.dispersion.specs.declared.DispersiveMaterial.{DispersiveMaterial}
use Rattle.dispersion.specs.Material.{vacuum_material}
use Rattle.grid.specs.declared.Record.{Record}
use Rattle.grid.specs.Canon.{canon_material, canon}
use Rattle.grid.specs.Fault.{beyond, fault_of}
use Rattle.grid.proofs.Judging.{sound}
use Rattle.heads.specs.Numbers.{gh_nums, ml_widths, ml_length, ml_nums, ml_of}
use Rattle.heads.specs.Payloads.{material_bytes, entry_at, entry_material, materials_of, record_of}
use Rattle.block.specs.Inner.Held.{Held}
use Rattle.block.proofs.Entry.{keep_row, material_fit, material_back}
use Rattle.block.proofs.Head.{few_poles, head_back}

-- numbers read from a part of a list
nums_part : (ws ns l : List ℕ) (at m : ℕ) → T (fit_all ws ns) → part l at m ≡ enc ws ns → nums ws (drop at l) ≡ ns
unfolding part
nums_part ws ns l at m t e =
    ap (nums ws) (sym (take-append-drop m (drop at l)) ∙ ap (λ (x : List ℕ). x ++ drop m (drop at l)) e) ∙ nums_enc ws ns (drop m (drop at l)) t

module _ (r : Record) (ok : fault_of r ≡ 0) (h : Held r) (p : List ℕ)
    (parts : (i : ℕ) → i < r.material_count → part p (ml_length * i) ml_length ≡ material_bytes (get_or r.materials i beyond)) where
  abbrev count : ℕ
  count = r.material_count

  abbrev material : ℕ → DispersiveMaterial
  material i = get_or r.materials i beyond

  small : count ≤ 16
  small = (sound r ok).materials

  pub entry_is : (i : ℕ) → i < count → entry_at p i ≡ ml_nums (material i)
  entry_is i l =
      nums_part ml_widths (ml_nums (material i)) p (ml_length * i) ml_length (material_fit (material i) (h.each i (omega (arith, l, small))) (few_poles r ok h i l)) (parts i l)

  pub record_back : record_of (gh_nums r) p ≡ canon r
  unfolding gh_nums materials_of
  record_back =
      head_back r ok h (materials_of count p)
      (keep_row count 16 vacuum_material (map canon_material r.materials) (entry_material count p) (length-map r.materials canon_material ∙ h.sixteen) (λ i l. go i l (ltb i count) refl))
    where
      there : (i : ℕ) → i < 16 → canon_material (material i) ≡ get_or (map canon_material r.materials) i vacuum_material
      there i l =
          sym (get_or-map canon_material r.materials i beyond)
          ∙ get_or_default (map canon_material r.materials) i _ _ (omega (arith, length-map r.materials canon_material, h.sixteen))

      go : (i : ℕ) → i < 16 → (t : Bool) → ltb i count ≡ t →
          cond t (ml_of (entry_at p i)) vacuum_material ≡ cond t (get_or (map canon_material r.materials) i vacuum_material) vacuum_material
      go i l true e = ap ml_of (entry_is i (ltb-true i count e)) ∙ material_back (material i) (h.each i l) ∙ there i l
      go i l false e = refl
