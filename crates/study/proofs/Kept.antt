-- A record and its canon in the parts that a call looks at: the built count, a material added, the first four faults. Assumes nothing.
use Prim.Native.Nat.{ℕ, zero, suc, ◌<◌}
use native.Mathlib.Numerals.{add-one}
use native.Mathlib.Omega.{arith}
use mathlib.Core.Path.{◌≡◌, refl, ap}
use mathlib.Core.Bool.{Bool}
use mathlib.Core.List.{List, [], ◌∷◌, map}
use lib.Dec.{ltb}
use lib.ListN.{set}
use Rattle.dispersion.specs.declared.DispersiveMaterial.{DispersiveMaterial}
use Rattle.dispersion.specs.Material.{vacuum_material}
use Rattle.grid.specs.declared.Record.{Record}
use Rattle.grid.specs.Canon.{keep_first, canon_material, canon}
use Rattle.grid.specs.Fault.{pole_count}
use Rattle.grid.specs.Stores.{fault_lent}
use Rattle.grid.proofs.Canonical.{material_twice, count_kept, canon_fault}
use Rattle.materials.specs.Materials.{any_below, any_pole, built_of, added}

-- ---- the built count
any_same : (f g : ℕ → Bool) (n : ℕ) → ((i : ℕ) → i < n → f i ≡ g i) → any_below f n ≡ any_below g n
unfolding any_below
any_same f g zero h = refl
any_same f g (suc n) h = rw (any_same f g n (λ i l. h i (omega arith)), h n (omega arith))

pub built_kept : (r : Record) → built_of (canon r) ≡ built_of r
unfolding built_of any_pole canon
built_kept r = rw (any_same (λ i. ltb 0 (pole_count (canon r) i)) (λ i. ltb 0 (pole_count r i)) r.material_count (λ i h. ap (ltb 0) (count_kept r i h)))

-- ---- one material more
put_after : (n : ℕ) (m : DispersiveMaterial) (l : List DispersiveMaterial) →
    set (keep_first n vacuum_material (map canon_material l)) n (canon_material m) ≡ keep_first (suc n) vacuum_material (map canon_material (set l n (canon_material m)))
unfolding keep_first
put_after n m [] = refl
put_after zero m (x ∷ l) = rw (material_twice m)
put_after (suc n) m (x ∷ l) = ap (λ (t : List DispersiveMaterial). canon_material x ∷ t) (put_after n m l)

pub added_kept : (r : Record) (m : DispersiveMaterial) → added (canon r) m ≡ canon (added r m)
unfolding added canon
added_kept r m = rw (add-one, put_after r.material_count m r.materials)

-- ---- the first four faults
pub lent_kept : (r : Record) (fits : Bool) → fault_lent (canon r) fits ≡ fault_lent r fits
unfolding fault_lent
lent_kept r fits = rw (canon_fault r)
