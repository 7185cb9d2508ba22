-- What each place of a list in store order holds. Proved here, so that nothing of it has to be believed.
use Prim.Native.Nat.{ℕ, zero, suc, ◌+◌, ◌*◌, ◌≤◌, ◌<◌}
use Rattle.std.proofs.Common.{suc-mul, zero-mul, mul-one, mul-le-mul_right, eq-or-lt_of_le, le_of_suc-le-suc, not-suc-le-zero, sym, ◌∙◌, subst, length-append, get_or-append-add}
use Rattle.std.proofs.Math.Nat.{mul_comm}
use native.Mathlib.Omega.{arith}
use Rattle.std.specs.Prelude.{◌≡◌, refl, List, [], ◌∷◌, ◌++◌}
use Rattle.std.proofs.Math.Path.{ap}
use Rattle.std.proofs.Math.Logic.{⊎_elim}
use Rattle.std.proofs.Math.ListN.{length, get_or, get_or-append}
use Rattle.cells.specs.Cells.{joined, row, cellwise, cell_index, components}

-- ---- lengths
pub length_joined : {A : Type 0} (n m : ℕ) (g : ℕ → List A) → ((c : ℕ) → c < n → length (g c) ≡ m) → length (joined n g) ≡ n * m
unfolding joined
length_joined zero m g e = sym (zero-mul m)
length_joined (suc n) m g e =
    length-append (joined n g) (g n) ∙ omega (arith, length_joined n m g (λ c l. e c (omega arith)), e n (omega arith), suc-mul n m)

pub length_row : {A : Type 0} (n : ℕ) (f : ℕ → A) → length (row n f) ≡ n
length_row n f = length_joined n 1 (λ i. f i ∷ []) (λ c l. refl) ∙ mul-one n

pub length_cellwise : {A : Type 0} (nx ny nz : ℕ) (f : ℕ → ℕ → ℕ → A) → length (cellwise nx ny nz f) ≡ nz * (ny * nx)
unfolding cellwise
length_cellwise nx ny nz f = length_joined nz (ny * nx) _ (λ k l. length_joined ny nx _ (λ j h. length_row nx _))

-- ---- what stands where
pub block_end : (c n m : ℕ) → c < n → c * m + m ≤ n * m
block_end c n m h = let e : suc c * m ≡ c * m + m = suc-mul c m in let l : suc c * m ≤ n * m = mul-le-mul_right m h in omega arith

module _ {A : Type 0} (d : A) where
  -- element i of block c, where every block has m elements
  joined_at : (n m : ℕ) (g : ℕ → List A) → ((c : ℕ) → c < n → length (g c) ≡ m) → (c i : ℕ) → c < n → i < m → get_or (joined n g) (c * m + i) d ≡ get_or (g c) i d
  unfolding joined
  joined_at zero m g e c i p q = absurd (not-suc-le-zero p)
  joined_at (suc n) m g e c i p q = ⊎_elim last (λ h. earlier h (joined_at n m g (λ k l. e k (omega arith)) c i h q)) (eq-or-lt_of_le (le_of_suc-le-suc p))
    where
      long : length (joined n g) ≡ n * m
      long = length_joined n m g (λ k l. e k (omega arith))

      last : c ≡ n → get_or (joined n g ++ g n) (c * m + i) d ≡ get_or (g c) i d
      last h =
          subst (λ (k : ℕ). get_or (joined n g ++ g n) (k * m + i) d ≡ get_or (g k) i d) (sym h)
          (ap (λ (k : ℕ). get_or (joined n g ++ g n) (k + i) d) (sym long) ∙ get_or-append-add (joined n g) (g n) i d)

      earlier : c < n → get_or (joined n g) (c * m + i) d ≡ get_or (g c) i d → get_or (joined n g ++ g n) (c * m + i) d ≡ get_or (g c) i d
      earlier h below = get_or-append (joined n g) (g n) d (c * m + i) (omega (arith, block_end c n m h, q, long)) ∙ below

  pub row_at : (n : ℕ) (f : ℕ → A) (i : ℕ) → i < n → get_or (row n f) i d ≡ f i
  row_at n f i h =
      let e : i ≡ i * 1 + 0 = omega arith in
      ap (λ (m : ℕ). get_or (row n f) m d) e ∙ joined_at n 1 (λ i. f i ∷ []) (λ c l. refl) i 0 h (omega arith)

  -- element i of row c, of n rows of m
  pub rows_at : (n m : ℕ) (f : ℕ → ℕ → A) (c i : ℕ) → c < n → i < m → get_or (joined n (λ a. row m (f a))) (c * m + i) d ≡ f c i
  rows_at n m f c i p q = joined_at n m (λ a. row m (f a)) (λ a l. length_row m (f a)) c i p q ∙ row_at m (f c) i q

  -- cell (i, j, k)
  pub cellwise_at : (nx ny nz : ℕ) (f : ℕ → ℕ → ℕ → A) (i j k : ℕ) → i < nx → j < ny → k < nz → get_or (cellwise nx ny nz f) (cell_index nx ny i j k) d ≡ f i j k
  unfolding cellwise
  cellwise_at nx ny nz f i j k p q r =
      let t : k * (nx * ny) ≡ k * (ny * nx) = ap (λ (m : ℕ). k * m) (mul_comm nx ny) in
      let w : cell_index nx ny i j k ≡ k * (ny * nx) + (j * nx + i) = omega arith in
      ap (λ (m : ℕ). get_or (cellwise nx ny nz f) m d) w
      ∙ joined_at nz (ny * nx) _ (λ c l. length_joined ny nx _ (λ j h. length_row nx _)) k (j * nx + i) r (omega (arith, block_end j ny nx q, p))
      ∙ joined_at ny nx _ (λ c l. length_row nx _) j i q p
      ∙ row_at nx (λ i. f i j k) i p

  -- number c of cell (i, j, k)
  pub components_at : (n nx ny nz : ℕ) (f : ℕ → ℕ → ℕ → ℕ → A) (c i j k : ℕ) → c < n → i < nx → j < ny → k < nz →
      get_or (components n nx ny nz f) (c * (nx * ny * nz) + cell_index nx ny i j k) d ≡ f c i j k
  unfolding components
  components_at n nx ny nz f c i j k h p q r =
      let t : k * (ny * nx) ≡ k * (nx * ny) = ap (λ (m : ℕ). k * m) (mul_comm ny nx) in
      let e : nx * ny * nz ≡ nz * (ny * nx) = mul_comm (nx * ny) nz ∙ ap (λ (m : ℕ). nz * m) (mul_comm nx ny) in
      ap (λ (m : ℕ). get_or (components n nx ny nz f) (c * m + cell_index nx ny i j k) d) e
      ∙ joined_at n (nz * (ny * nx)) _ (λ c l. length_cellwise nx ny nz (f c)) c (cell_index nx ny i j k) h
      (omega (arith, block_end j ny nx q, block_end k nz (ny * nx) r, t, p))
      ∙ cellwise_at nx ny nz (f c) i j k p q r
