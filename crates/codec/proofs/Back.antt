-- Floats and ids, there and back: what was written is read back, and what was read is written back.
use mathlib.Core.Path.{◌≡◌, refl}
use mathlib.Core.List.{List, ◌++◌}
use mathlib.Core.Bool.{true}
use Prim.Native.Nat.{ℕ, ◌*◌, ◌^◌, ◌≤◌}
use lib.Dec.{T, ltb→lt, lt→ltb}
use lib.ListN.{length, take}
use lib.Ieee.{Float, binary64, to_bits, of_bits, fits}
use lib.Ieee.Bits.{of_bits-to_bits, of_bits-fits, to_bits-lt}
use Rattle.codec.specs.Bytes.{bytes_fit, fine, floats_bytes, floats_of, all_fine, floats_fit, ids_bytes, ids_of, ids_fit}
use Rattle.codec.proofs.Patterns.{bits_fine, bits_back}
use Rattle.codec.proofs.Elements.{elements_back, pass_back, bytes_back, elements_fit, all_pass_any}

-- ---- a store of floats
pub floats_back : (xs : List Float) (r : List ℕ) → T (floats_fit xs) → floats_of (length xs) (floats_bytes xs ++ r) ≡ xs
floats_back =
    elements_back 8 (to_bits binary64) (fits binary64) (of_bits binary64) (λ x t. (to_bits-lt binary64 x t, of_bits-to_bits binary64 x t))

pub floats_fine : (xs : List Float) (r : List ℕ) → T (floats_fit xs) → all_fine (length xs) (floats_bytes xs ++ r) ≡ true
floats_fine = pass_back 8 (to_bits binary64) (fits binary64) fine (λ x t. (to_bits-lt binary64 x t, bits_fine x t))

pub floats_bytes_lem : (n : ℕ) (l : List ℕ) → 8 * n ≤ length l → T (bytes_fit l) → all_fine n l ≡ true → floats_bytes (floats_of n l) ≡ take (8 * n) l
floats_bytes_lem = bytes_back 8 (of_bits binary64) (to_bits binary64) fine bits_back

pub floats_fit_lem : (n : ℕ) (l : List ℕ) → 8 * n ≤ length l → T (bytes_fit l) → T (floats_fit (floats_of n l))
floats_fit_lem = elements_fit 8 (of_bits binary64) (fits binary64) (λ b _. of_bits-fits binary64 b)

-- ---- a store of ids
pub ids_back : (ns r : List ℕ) → T (ids_fit ns) → ids_of (length ns) (ids_bytes ns ++ r) ≡ ns
ids_back = elements_back 4 (λ n. n) _ (λ n. n) (λ n t. (ltb→lt n (256 ^ 4) t, refl))

pub ids_bytes_lem : (n : ℕ) (l : List ℕ) → 4 * n ≤ length l → T (bytes_fit l) → ids_bytes (ids_of n l) ≡ take (4 * n) l
ids_bytes_lem n l h b = bytes_back 4 (λ n. n) (λ n. n) (λ _. true) (λ _ _ _. refl) n l h b (all_pass_any 4 n l)

pub ids_fit_lem : (n : ℕ) (l : List ℕ) → 4 * n ≤ length l → T (bytes_fit l) → T (ids_fit (ids_of n l))
ids_fit_lem = elements_fit 4 (λ n. n) _ (λ b h. lt→ltb b (256 ^ 4) h)
