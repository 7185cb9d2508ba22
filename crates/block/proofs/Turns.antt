-- The block as code judges, reads and writes it, entry by entry, over plain lists. Assumes nothing.
use Prim.Native.Nat.{ℕ, ◌+◌, ◌*◌, ◌^◌, ◌≤◌, ◌<◌}
use native.Mathlib.Numerals.{add-one}
use native.Mathlib.Omega.{arith}
use mathlib.Core.Path.{◌≡◌, sym, ap, ◌∙◌}
use mathlib.Core.Bool.{Bool, true, false, cond, ◌&&◌, and_assoc, and-true}
use mathlib.Core.List.{List, ◌++◌}
use borrow.Author.Tests.{lt-ltb, le-ltb, eq-eqb, ne_eqb, eqb-true}
use lib.Dec.{T, ltb, eqb, lt→ltb}
use lib.ListN.{length, get_or, take, drop, replicate, length-append, drop_of_length-le, length-replicate}
use lib.Seq.{drop-cons, drop-drop}
use Rattle.codec.specs.Lists.{put, part, every}
use Rattle.codec.specs.Bytes.{bytes_fit}
use Rattle.codec.proofs.Lists.{put_next, put_whole, every_of}
use Rattle.codec.proofs.Row.{length_enc, nums_fit, fit_at}
use Rattle.dispersion.specs.declared.DispersiveMaterial.{DispersiveMaterial}
use Rattle.cells.specs.Cells.{joined}
use Rattle.cells.specs.Reading.{length_joined}
use Rattle.cells.proofs.Written.{joined_more}
use Rattle.grid.specs.declared.Record.{Record}
use Rattle.grid.specs.Fault.{beyond, all_below}
use Rattle.grid.proofs.Tests.{and_left}
use Rattle.heads.specs.Numbers.{gh_widths, gh_length, gh_nums, gh_shaped, ml_widths, ml_length, ml_nums, ml_shaped}
use Rattle.heads.specs.Payloads.{head_bytes, material_bytes, head_of, count_of, entry_of, entry_at}
use Rattle.heads.proofs.Whole.{gh_long, ml_long, gh_total, ml_total}
use Rattle.heads.proofs.Listed.{entry_at_lem}
use Rattle.block.specs.Block.{block_length, entry_bytes, block_of, entries, all_zero, entry_fine, block_fine}

-- ---- zeros: z is what the first i numbers came to
module _ (l : List ℕ) (i : ℕ) (z : Bool) (same : (z && all_zero (drop i l)) ≡ all_zero l) where
  pub zeros_more : i < length l → (z && eqb (get_or l i 0) 0 && all_zero (drop (i + 1) l)) ≡ all_zero l
  unfolding every
  zeros_more h = and_assoc z (eqb (get_or l i 0) 0) (all_zero (drop (i + 1) l)) ∙ ap (λ (t : Bool). z && t) (sym cut) ∙ same
    where
      cut : all_zero (drop i l) ≡ (eqb (get_or l i 0) 0 && all_zero (drop (i + 1) l))
      cut = rw (add-one i, drop-cons l i 0 h)

  pub zeros_all : length l ≤ i → z ≡ all_zero l
  unfolding every
  zeros_all h = sym (and-true z) ∙ ap (λ (x : List ℕ). z && all_zero x) (sym (drop_of_length-le l h)) ∙ same

-- ---- one entry, judged; count is the block's own
module _ (b : List ℕ) (i count : ℕ) (own : count ≡ count_of (head_of b)) where
  abbrev judged : Bool → Bool
  judged t = cond t (ml_shaped (entry_at (entries b) i)) (all_zero (part (entries b) (ml_length * i) ml_length))

  pub fine_inside : (n : List ℕ) (r : Bool) → i < count → n ≡ entry_of (drop (gh_length + ml_length * i) b) → r ≡ ml_shaped n → r ≡ entry_fine b i
  unfolding entry_fine
  fine_inside n r h e q = q ∙ ap ml_shaped (e ∙ entry_at_lem b gh_length i) ∙ sym (ap judged (lt-ltb i (count_of (head_of b)) (omega arith)))

  pub fine_outside : (n : List ℕ) (r : Bool) → count ≤ i → n ≡ part b (gh_length + ml_length * i) ml_length → r ≡ all_zero n → r ≡ entry_fine b i
  unfolding entry_fine part
  fine_outside n r h e q =
      q
      ∙ ap all_zero (e ∙ ap (take ml_length) (sym (drop-drop (ml_length * i) gh_length b)))
      ∙ sym (ap judged (le-ltb i (count_of (head_of b)) (omega arith)))

-- ---- the whole, judged
pub block_not : (b : List ℕ) → (length b ≡ block_length → ⊥) → false ≡ block_fine b
unfolding block_fine
block_not b h = rw (ne_eqb (length b) block_length h)

pub block_is : (b : List ℕ) (x y : Bool) → length b ≡ block_length → x ≡ gh_shaped (head_of b) → y ≡ all_below (entry_fine b) 16 → (x && y) ≡ block_fine b
unfolding block_fine
block_is b x y h p q = rw (eq-eqb (length b) block_length h, p, q)

pub block_long : (b : List ℕ) → block_fine b ≡ true → length b ≡ block_length
unfolding block_fine
block_long b e =
    let long = eqb (length b) block_length in
    eqb-true (length b) block_length (and_left long (gh_shaped (head_of b)) (and_left (long && gh_shaped (head_of b)) (all_below (entry_fine b) 16) e))

-- four bytes hold the steps
pub steps_small : (b : List ℕ) → length b ≡ block_length → ((i : ℕ) → get_or b i 0 < 256) → get_or (head_of b) 25 0 ≤ 4294967295
steps_small b e h =
    let bytes : T (bytes_fit b) = every_of (λ x. ltb x 256) b 0 (λ i _. lt→ltb (get_or b i 0) 256 (h i)) in
    let small : get_or (head_of b) 25 0 < 256 ^ 4 = fit_at gh_widths (head_of b) 25 (nums_fit gh_widths b (omega (arith, gh_total, e)) bytes) (omega arith) in
    omega arith

-- ---- written
pub entry_put : (s t : List ℕ) (at : ℕ) (counted : Bool) (m : DispersiveMaterial) → counted ≡ true → t ≡ put s at (material_bytes m) →
    t ≡ put s at (cond counted (material_bytes m) (replicate ml_length 0))
entry_put s t at counted m e p = rw e p

pub entry_none : (s t : List ℕ) (at : ℕ) (counted : Bool) (m : DispersiveMaterial) → counted ≡ false → t ≡ put s at (replicate ml_length 0) →
    t ≡ put s at (cond counted (material_bytes m) (replicate ml_length 0))
entry_none s t at counted m e p = rw e p

pub bytes_long : (r : Record) (i : ℕ) → length (entry_bytes r i) ≡ ml_length
unfolding entry_bytes
bytes_long r i = go (ltb i r.material_count)
  where
    m : DispersiveMaterial
    m = get_or r.materials i beyond

    go : (t : Bool) → length (cond t (material_bytes m) (replicate ml_length 0)) ≡ ml_length
    go true = length_enc ml_widths (ml_nums m) (sym (ml_long m)) ∙ ml_total
    go false = length-replicate {A = ℕ} ml_length 0

pub entries_more : (s t u : List ℕ) (i : ℕ) (r : Record) → length s ≡ block_length → i < 16 → t ≡ put s gh_length (joined i (entry_bytes r)) →
    u ≡ put t (gh_length + ml_length * i) (cond (ltb i r.material_count) (material_bytes (get_or r.materials i beyond)) (replicate ml_length 0)) →
    u ≡ put s gh_length (joined (i + 1) (entry_bytes r))
unfolding entry_bytes
entries_more s t u i r e h p q =
    let place : gh_length + ml_length * i ≡ gh_length + i * ml_length = omega arith in
    joined_more s t u gh_length i ml_length (entry_bytes r) (bytes_long r) (omega arith) p (q ∙ ap (λ (k : ℕ). put t k (entry_bytes r i)) place)

head_long : (r : Record) → length (head_bytes r) ≡ gh_length
head_long r = length_enc gh_widths (gh_nums r) (sym (gh_long r)) ∙ gh_total

pub block_parts : (r : Record) → (length (head_bytes r) ≡ gh_length) × (length (joined 16 (entry_bytes r)) ≡ 16 * ml_length)
block_parts r = (head_long r, length_joined 16 ml_length (entry_bytes r) (λ i _. bytes_long r i))

pub block_put : (s t u : List ℕ) (r : Record) → length s ≡ block_length → t ≡ put s 0 (head_bytes r) → u ≡ put t gh_length (joined 16 (entry_bytes r)) → u ≡ block_of r
unfolding block_of
block_put s t u r e p q =
    let h : List ℕ = head_bytes r in
    let m : List ℕ = joined 16 (entry_bytes r) in
    let long = block_parts r in
    q
    ∙ ap (λ (x : List ℕ). put x gh_length m) p
    ∙ put_next s 0 gh_length h m long.0 (omega arith)
    ∙ put_whole s (h ++ m) (length-append h m ∙ omega arith)
