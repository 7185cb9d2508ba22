-- A part of a list, written over or read; a test of every element.
use Rattle.std.specs.Prelude.{ℕ, ◌+◌, List, [], ◌∷◌, ◌++◌, Bool, true, ◌&&◌, length, take, drop}

-- l with vs in the place of what stood from `at` on
unfoldable pub put : {A : Type 0} → List A → ℕ → List A → List A
put l at vs = take at l ++ vs ++ drop (at + length vs) l

-- n elements of l, from `at` on
unfoldable pub part : {A : Type 0} → List A → ℕ → ℕ → List A
part l at n = take n (drop at l)

-- whether each element of a list passes a test
unfoldable pub every : {A : Type 0} → (A → Bool) → List A → Bool
every p [] = true
every p (x ∷ xs) = p x && every p xs
