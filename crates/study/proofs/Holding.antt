-- What each element of a store tells, told of all. Assumes nothing.
use Prim.Native.Nat.{ℕ, suc, ◌<◌}
use mathlib.Core.Path.{◌≡◌, sym, subst}
use mathlib.Core.Bool.{Bool, true}
use mathlib.Core.List.{List, [], ◌∷◌}
use lib.Dec.{T, ltb, lt→ltb}
use lib.ListN.{get_or}
use lib.Ieee.{Float, nan}
use lib.Ieee.Fits.{and_i}
use Rattle.codec.specs.Lists.{every}
use Rattle.block.specs.Inner.Held.{held}

every_of : {A : Type 0} (p : A → Bool) (d : A) (l : List A) → ((i : ℕ) → T (p (get_or l i d))) → T (every p l)
unfolding every
every_of p d [] h = tt
every_of p d (x ∷ l) h = and_i (p x) (every p l) (h 0) (every_of p d l (λ i. h (suc i)))

pub all_held : (l : List Float) → ((i : ℕ) → T (held (get_or l i nan))) → T (every held l)
all_held l h = every_of held nan l h

pub all_numbers : (l : List ℕ) → ((i : ℕ) → get_or l i 0 < 4294967296) → T (every (λ n. ltb n 4294967296) l)
all_numbers l h = every_of (λ n. ltb n 4294967296) 0 l (λ i. lt→ltb (get_or l i 0) 4294967296 (h i))

pub all_bytes : (l : List ℕ) → ((i : ℕ) → get_or l i 0 < 256) → T (every (λ n. ltb n 256) l)
all_bytes l h = every_of (λ n. ltb n 256) 0 l (λ i. lt→ltb (get_or l i 0) 256 (h i))

-- floats one by one
pub held_none : T (every held [])
unfolding every
held_none = tt

pub held_more : (x : Float) (l : List Float) → held x ≡ true → T (every held l) → T (every held (x ∷ l))
unfolding every
held_more x l e t = and_i (held x) (every held l) (subst T (sym e) tt) t
