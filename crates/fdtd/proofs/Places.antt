-- Where rows stand: each within the grid, apart from each other, and each with one pair (j, k). Assumes nothing.
use mathlib.Core.Path.{◌≡◌, sym, ◌∙◌, ap}
use Prim.Native.Nat.{ℕ, ◌+◌, ◌*◌, ◌/◌, ◌≤◌, ◌<◌}
use native.Mathlib.Nat.{suc-mul, mul-le-mul_right, add-mul-div_right, div-eq_of_lt, zero-add}
use native.Mathlib.Omega.{arith}

-- r rows and one more
pub row_more : (r nx : ℕ) → (r + 1) * nx ≡ r * nx + nx
row_more r nx = ap (λ (s : ℕ). s * nx) (omega arith) ∙ suc-mul r nx

-- a lower row ends where a higher one begins, or before
pub row_apart : {r s : ℕ} (nx : ℕ) → r < s → r * nx + nx ≤ s * nx
row_apart {r} nx h = omega (arith, mul-le-mul_right nx h, suc-mul r nx)

pub row_number : {j k ny nz : ℕ} → j < ny → k < nz → j + k * ny < nz * ny
row_number {j} {k} {ny} {nz} hj hk = omega (arith, row_apart ny hk)

pub row_in : {j k ny nz : ℕ} (nx : ℕ) → j < ny → k < nz → (j + k * ny) * nx + nx ≤ nz * ny * nx
row_in nx hj hk = row_apart nx (row_number hj hk)

pub row_k : {j k ny : ℕ} → j < ny → (j + k * ny) / ny ≡ k
row_k {j} {k} {ny} h = add-mul-div_right j k (omega arith) ∙ ap (λ (x : ℕ). x + k) (div-eq_of_lt h) ∙ zero-add k

pub row_one : {j k j' k' ny : ℕ} → j < ny → j' < ny → j + k * ny ≡ j' + k' * ny → k ≡ k'
row_one {j} {k} {j'} {k'} {ny} h h' e = sym (row_k h) ∙ ap (λ (x : ℕ). x / ny) e ∙ row_k h'
