-- Entries one after another: where each stands, and the sixteen materials with the first i of them read. Assumes nothing.
use Prim.Native.Nat.{ℕ, ◌+◌, ◌*◌, ◌<◌}
use native.Mathlib.Nat.{eq-or-lt_of_le}
use native.Mathlib.Omega.{arith}
use mathlib.Core.Path.{◌≡◌, refl, sym, ap, ◌∙◌}
use mathlib.Core.Bool.{Bool, true, false, cond}
use mathlib.Core.List.{List, [], ◌∷◌}
use mathlib.Core.Logic.{◌⊎◌, inl, inr, ⊎_elim}
use borrow.Author.Tests.{lt-ltb, le-ltb, ltb-true, ltb-false, eqb-true, eqb-false}
use lib.Dec.{ltb, eqb}
use lib.ListN.{length, get_or, drop, set}
use lib.Seq.{drop-drop, get_or-set_same, get_or-set_other, ext_get_or}
use Rattle.dispersion.specs.declared.DispersiveMaterial.{DispersiveMaterial}
use Rattle.dispersion.specs.Material.{vacuum_material}
use Rattle.cells.specs.Reading.{length_row}
use Rattle.cells.proofs.Blocks.{joined_same}
use Rattle.cells.proofs.Written.{get_d_row}
use Rattle.heads.specs.Numbers.{ml_length, ml_of}
use Rattle.heads.specs.Payloads.{entry_of, entry_at, entry_material, materials_of}

-- entry i of those that begin at `at`
pub entry_at_lem : (b : List ℕ) (at i : ℕ) → entry_of (drop (at + ml_length * i) b) ≡ entry_at (drop at b) i
entry_at_lem b at i = ap entry_of (sym (drop-drop (ml_length * i) at b))

eq_or_ne : (j i : ℕ) → (j ≡ i) ⊎ (j ≡ i → ⊥)
eq_or_ne j i = go (eqb j i) refl
  where
    go : (t : Bool) → eqb j i ≡ t → (j ≡ i) ⊎ (j ≡ i → ⊥)
    go true e = inl (eqb-true j i e)
    go false e = inr (eqb-false j i e)

next : (j i : ℕ) → (j ≡ i → ⊥) → ltb j i ≡ ltb j (i + 1)
next j i p = go (ltb j i) refl
  where
    go : (t : Bool) → ltb j i ≡ t → t ≡ ltb j (i + 1)
    go true e = let h = ltb-true j i e in sym (lt-ltb j (i + 1) (omega arith))
    go false e = sym (le-ltb j (i + 1) (⊎_elim (λ same. absurd (p (sym same))) (λ l. omega (arith, l)) (eq-or-lt_of_le (ltb-false j i e))))

module _ (b : List ℕ) where
  abbrev by : ℕ → Bool → DispersiveMaterial
  by j t = cond t (ml_of (entry_at b j)) vacuum_material

  abbrev Read : ℕ → List DispersiveMaterial → Type 0
  Read i t = (j : ℕ) → j < 16 → get_or t j vacuum_material ≡ entry_material i b j

  pub one_read : (i : ℕ) (t : List DispersiveMaterial) (v : DispersiveMaterial) → length t ≡ 16 → i < 16 → Read i t → v ≡ ml_of (entry_at b i) → Read (i + 1) (set t i v)
  one_read i t v long h read e j l = ⊎_elim (λ same. here same) (λ apart. there apart) (eq_or_ne j i)
    where
      here : j ≡ i → get_or (set t i v) j vacuum_material ≡ entry_material (i + 1) b j
      here p =
          ap (λ (k : ℕ). get_or (set t i v) k vacuum_material) p
          ∙ get_or-set_same t i v vacuum_material (omega arith)
          ∙ e
          ∙ ap (λ (k : ℕ). ml_of (entry_at b k)) (sym p)
          ∙ sym (ap (by j) (lt-ltb j (i + 1) (omega arith)))

      there : (j ≡ i → ⊥) → get_or (set t i v) j vacuum_material ≡ entry_material (i + 1) b j
      there p = get_or-set_other t i j v vacuum_material p ∙ read j l ∙ ap (by j) (next j i p)

  pub all_read : (i count : ℕ) (t : List DispersiveMaterial) → i ≡ count → length t ≡ 16 → Read i t → t ≡ materials_of count b
  unfolding materials_of
  all_read i count t e long read =
      ext_get_or vacuum_material t (materials_of i b) (long ∙ sym (length_row 16 (entry_material i b)))
      (λ j h.
      let l : j < 16 = omega (arith, h, long) in
      read j l ∙ sym (get_d_row 16 (entry_material i b) j vacuum_material l))
      ∙ ap (λ (k : ℕ). materials_of k b) e

  -- counts that agree below sixteen
  pub same_materials : (n count : ℕ) → ((i : ℕ) → i < 16 → ltb i n ≡ ltb i count) → materials_of n b ≡ materials_of count b
  unfolding materials_of
  same_materials n count h =
      joined_same 16 (λ i. entry_material n b i ∷ []) (λ i. entry_material count b i ∷ []) (λ i l. ap (λ (t : Bool). by i t ∷ []) (h i l))
