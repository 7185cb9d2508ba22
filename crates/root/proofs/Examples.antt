-- Roots computed from `root_of`, which `root` gives: the bits of a double, and the bits of its root.
use mathlib.Core.Path.{◌≡◌, refl}
use Prim.Native.Nat.{ℕ}
use mathlib.Core.List.{List, [], ◌∷◌, map}
use lib.Ieee.{binary64, of_bits}
use Rattle.root.specs.Root.{root_of}

-- 4, 2, -0, -1, the infinity, the smallest double and the largest
abbrev table : List (ℕ × ℕ)
table =
    (0x4010000000000000, 0x4000000000000000)
    ∷ (0x4000000000000000, 0x3FF6A09E667F3BCD)
    ∷ (0x8000000000000000, 0x8000000000000000)
    ∷ (0xBFF0000000000000, 0x7FF8000000000000)
    ∷ (0x7FF0000000000000, 0x7FF0000000000000)
    ∷ (1, 0x1E60000000000000)
    ∷ (0x7FEFFFFFFFFFFFFF, 0x5FEFFFFFFFFFFFFF)
    ∷ []

roots : map (λ (p : ℕ × ℕ). root_of (of_bits binary64 p.0)) table ≡ map (λ (p : ℕ × ℕ). of_bits binary64 p.1) table
unfolding root_of of_bits
roots = refl
