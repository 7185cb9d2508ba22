-- A part of a store written block by block or number by number from its start, for any element type. Assumes nothing.
use mathlib.Core.Path.{◌≡◌, refl, sym, ap, ◌∙◌}
use mathlib.Core.Logic.{⊎_elim}
use mathlib.Core.List.{List, [], ◌∷◌, ◌++◌}
use Prim.Native.Nat.{ℕ, zero, suc, ◌+◌, ◌*◌, ◌≤◌, ◌<◌}
use native.Mathlib.Nat.{eq-or-lt_of_le, le_of_suc-le-suc, not-suc-le-zero}
use native.Mathlib.Numerals.{add-one}
use native.Mathlib.Omega.{arith}
use lib.ListN.{length, get_or, set, get_or-append}
use lib.Seq.{get_or-append_seam}
use Rattle.codec.specs.Lists.{put}
use Rattle.codec.proofs.Lists.{put_nil, put_one, put_next, put_length}
use Rattle.cells.specs.Cells.{joined, row}
use Rattle.cells.specs.Reading.{length_joined, length_row}

module _ {A : Type 0} where
  joined_next : (c : ℕ) (g : ℕ → List A) → joined c g ++ g c ≡ joined (c + 1) g
  unfolding joined
  joined_next c g = rw add-one refl

  pub joined_none : (s : List A) (at : ℕ) (g : ℕ → List A) → s ≡ put s at (joined 0 g)
  unfolding joined
  joined_none s at g = sym (put_nil s at)

  pub joined_more : (s t u : List A) (at c m : ℕ) (g : ℕ → List A) → ((b : ℕ) → length (g b) ≡ m) → at + (c * m + m) ≤ length s →
      t ≡ put s at (joined c g) → u ≡ put t (at + c * m) (g c) → u ≡ put s at (joined (c + 1) g)
  joined_more s t u at c m g e h p q =
      q
      ∙ ap (λ (x : List A). put x (at + c * m) (g c)) p
      ∙ put_next s at (c * m) (joined c g) (g c) (length_joined c m g (λ b _. e b)) (omega (arith, e c))
      ∙ ap (put s at) (joined_next c g)

  pub joined_all : (s t : List A) (at c n : ℕ) (g : ℕ → List A) → t ≡ put s at (joined c g) → c ≡ n → t ≡ put s at (joined n g)
  joined_all s t at c n g p e = p ∙ ap (λ (k : ℕ). put s at (joined k g)) e

  -- a row, whose parts are single numbers
  pub row_more : (s t : List A) (at c : ℕ) (v : A) (f : ℕ → A) → at + c < length s → t ≡ put s at (row c f) → v ≡ f c → set t (at + c) v ≡ put s at (row (c + 1) f)
  row_more s t at c v f h p e =
      let same = put_length s at (row c f) (omega (arith, length_row c f)) in
      ap (λ (x : List A). set x (at + c) v) p
      ∙ ap (set (put s at (row c f)) (at + c)) e
      ∙ put_one (put s at (row c f)) (at + c) (f c) (omega (arith, same))
      ∙ put_next s at c (row c f) (f c ∷ []) (length_row c f) (omega arith)
      ∙ ap (put s at) (joined_next c (λ i. f i ∷ []))

  pub get_d_row : (n : ℕ) (f : ℕ → A) (i : ℕ) (d : A) → i < n → get_or (row n f) i d ≡ f i
  unfolding joined
  get_d_row zero f i d h = absurd (not-suc-le-zero h)
  get_d_row (suc n) f i d h = ⊎_elim (λ e. last e) (λ l. before l (get_d_row n f i d l)) (eq-or-lt_of_le (le_of_suc-le-suc h))
    where
      last : i ≡ n → get_or (row n f ++ (f n ∷ [])) i d ≡ f i
      last e =
          ap (λ (k : ℕ). get_or (row n f ++ (f n ∷ [])) k d) (e ∙ sym (length_row n f))
          ∙ get_or-append_seam (row n f) (f n) [] d
          ∙ ap f (sym e)

      before : i < n → get_or (row n f) i d ≡ f i → get_or (row n f ++ (f n ∷ [])) i d ≡ f i
      before l r = get_or-append (row n f) (f n ∷ []) d i (omega (arith, length_row n f)) ∙ r
