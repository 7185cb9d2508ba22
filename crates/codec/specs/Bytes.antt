-- What a save's bytes are: numbers, floats, whole stores, and rows of numbers, each with the lowest byte first; and what such bytes say.
use Rattle.std.specs.Prelude.{ℕ, zero, suc, ◌+◌, ◌*◌, ◌/◌, ◌%◌, ◌^◌, List, [], ◌∷◌, ◌++◌, Bool, true, false, ◌&&◌, ◌||◌, not, eqb, ltb, take, drop, Float}
use Rattle.std.specs.Float.{binary64}
use Rattle.std.specs.Float.Ieee.{to_bits, of_bits, nan_bits, fits}
use Rattle.codec.specs.Lists.{every}

-- ---- numbers

-- n in w bytes, the lowest first
unfoldable pub le : ℕ → ℕ → List ℕ
le zero n = []
le (suc w) n = n % 256 ∷ le w (n / 256)

-- the number whose bytes these are, the lowest first
unfoldable pub unle : List ℕ → ℕ
unle [] = 0
unle (b ∷ bs) = b + unle bs * 256

-- whether each number of a list is a byte
abbrev pub bytes_fit : List ℕ → Bool
bytes_fit = every (λ b. ltb b 256)

-- ---- one float

-- Document 01, "Every NaN is written 7FF8000000000000": a float has one NaN here, and `to_bits` gives that pattern for it and every other float its own.
abbrev pub bits : Float → ℕ
bits x = to_bits binary64 x

abbrev pub float_bytes : Float → List ℕ
float_bytes x = le 8 (bits x)

-- Whether a pattern is one that is written: no NaN's, or 7FF8000000000000. Document 01 turns "another NaN" down.
unfoldable pub fine : ℕ → Bool
fine b = not (nan_bits binary64 b) || eqb b 0x7FF8000000000000

-- ---- a store: elements of one width, one after another

-- the number f x of each element x, in w bytes
unfoldable pub bytes_of : {A : Type 0} → ℕ → (A → ℕ) → List A → List ℕ
bytes_of w f [] = []
bytes_of w f (x ∷ xs) = le w (f x) ++ bytes_of w f xs

-- the first n elements: g of the number in each w bytes
unfoldable pub elements_of : {A : Type 0} → ℕ → (ℕ → A) → ℕ → List ℕ → List A
elements_of w g zero l = []
elements_of w g (suc n) l = g (unle (take w l)) ∷ elements_of w g n (drop w l)

-- whether the number in each of the first n times w bytes passes a test
unfoldable pub all_pass : ℕ → (ℕ → Bool) → ℕ → List ℕ → Bool
all_pass w p zero l = true
all_pass w p (suc n) l = p (unle (take w l)) && all_pass w p n (drop w l)

-- a store of floats: its bytes; its first n floats; whether each of them is a pattern that is written
abbrev pub floats_bytes : List Float → List ℕ
floats_bytes = bytes_of 8 bits

abbrev pub floats_of : ℕ → List ℕ → List Float
floats_of = elements_of 8 (of_bits binary64)

abbrev pub all_fine : ℕ → List ℕ → Bool
all_fine = all_pass 8 fine

-- whether each float of a store is one that 64 bits can hold
abbrev pub floats_fit : List Float → Bool
floats_fit = every (fits binary64)

-- a store of cell ids, four bytes each: any number that fits may stand there
abbrev pub ids_bytes : List ℕ → List ℕ
ids_bytes = bytes_of 4 (λ n. n)

abbrev pub ids_of : ℕ → List ℕ → List ℕ
ids_of = elements_of 4 (λ n. n)

abbrev pub ids_fit : List ℕ → Bool
ids_fit = every (λ n. ltb n (256 ^ 4))

-- ---- a row: numbers of given widths, one after another

-- how many bytes these widths take
unfoldable pub total : List ℕ → ℕ
total [] = 0
total (w ∷ ws) = w + total ws

-- the bytes of numbers, each in its width
unfoldable pub enc : List ℕ → List ℕ → List ℕ
enc [] ns = []
enc (w ∷ ws) [] = []
enc (w ∷ ws) (n ∷ ns) = le w n ++ enc ws ns

-- the numbers that bytes begin with, each from its width
unfoldable pub nums : List ℕ → List ℕ → List ℕ
nums [] l = []
nums (w ∷ ws) l = unle (take w l) ∷ nums ws (drop w l)

-- whether there are as many numbers as widths, and each fits its own
unfoldable pub fit_all : List ℕ → List ℕ → Bool
fit_all [] [] = true
fit_all [] (n ∷ ns) = false
fit_all (w ∷ ws) [] = false
fit_all (w ∷ ws) (n ∷ ns) = ltb n (256 ^ w) && fit_all ws ns
