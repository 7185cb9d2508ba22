-- A list is `cellwise` or `components` where each of its numbers is the one that the definition gives. Assumes nothing.
use mathlib.Core.Path.{◌≡◌, sym, ap, ◌∙◌}
use mathlib.Core.List.{List, [], ◌∷◌}
use Prim.Native.Nat.{ℕ, ◌+◌, ◌*◌, ◌<◌}
use native.Mathlib.Omega.{arith}
use lib.ListN.{length, get_or}
use Rattle.codec.specs.Lists.{part}
use Rattle.codec.proofs.Lists.{part_length}
use Rattle.cells.specs.Cells.{joined, row, cellwise, cell_index, components}
use Rattle.cells.specs.Reading.{block_end}
use Rattle.cells.proofs.Blocks.{joined_same}
use Rattle.cells.proofs.Sweeps.{parts_whole}
use Rattle.cells.proofs.Pointwise.{part_row, get_d_part, cellwise_same, cell_in, inner, nested_place}

module _ {A : Type 0} (d : A) (nx ny nz : ℕ) where
  -- a list by its own numbers
  own : (l : List A) → length l ≡ nz * (ny * nx) → l ≡ cellwise nx ny nz (λ i j k. get_or l (cell_index nx ny i j k) d)
  unfolding cellwise
  own l h = sym (parts_whole nz (ny * nx) l h) ∙ joined_same nz _ _ plane
    where
      plane : (k : ℕ) → k < nz → part l (k * (ny * nx)) (ny * nx) ≡ joined ny (λ j. row nx (λ i. get_or l (cell_index nx ny i j k) d))
      plane k q =
          let p : List A = part l (k * (ny * nx)) (ny * nx) in
          let long = part_length l (k * (ny * nx)) (ny * nx) (omega (arith, h, block_end k nz (ny * nx) q)) in
          sym (parts_whole ny nx p long)
          ∙ joined_same ny _ _ (λ j r. part_row p (j * nx) nx d (omega (arith, long, block_end j ny nx r))
          ∙ joined_same nx _ _ (λ i t. ap (λ (x : A). x ∷ [])
          (get_d_part l (k * (ny * nx)) (ny * nx) (j * nx + i) d (inner j i nx ny r t) ∙ ap (λ (n : ℕ). get_or l n d) (nested_place nx ny i j k))))

  pub cellwise_are : (f : ℕ → ℕ → ℕ → A) (l : List A) → length l ≡ nz * (ny * nx) →
      ((i j k : ℕ) → i < nx → j < ny → k < nz → get_or l (cell_index nx ny i j k) d ≡ f i j k) → l ≡ cellwise nx ny nz f
  cellwise_are f l h e = own l h ∙ cellwise_same nx ny nz _ f e

  pub components_are : (n : ℕ) (f : ℕ → ℕ → ℕ → ℕ → A) (s : List A) → length s ≡ n * (nz * (ny * nx)) →
      ((c i j k : ℕ) → c < n → i < nx → j < ny → k < nz → get_or s (c * (nz * (ny * nx)) + cell_index nx ny i j k) d ≡ f c i j k) → s ≡ components n nx ny nz f
  unfolding components
  components_are n f s h e = sym (parts_whole n (nz * (ny * nx)) s h) ∙ joined_same n _ _ (λ c p. each c p)
    where
      each : (c : ℕ) → c < n → part s (c * (nz * (ny * nx))) (nz * (ny * nx)) ≡ cellwise nx ny nz (f c)
      each c p =
          cellwise_are (f c) (part s (c * (nz * (ny * nx))) (nz * (ny * nx)))
          (part_length s (c * (nz * (ny * nx))) (nz * (ny * nx)) (omega (arith, h, block_end c n (nz * (ny * nx)) p)))
          (λ i j k q r t. get_d_part s (c * (nz * (ny * nx))) (nz * (ny * nx)) (cell_index nx ny i j k) d (cell_in nx ny nz i j k q r t) ∙ e c i j k p q r t)
