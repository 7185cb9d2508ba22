-- A block with another clock put into it: a record's block still, and the record is the same but for the clock. Assumes nothing.
use Prim.Native.Nat.{ℕ, ◌+◌, ◌*◌, ◌≤◌, ◌<◌}
use native.Mathlib.Omega.{arith}
use mathlib.Core.Path.{◌≡◌, refl, sym, ap, ◌∙◌}
use mathlib.Core.Bool.{Bool, cond}
use mathlib.Core.List.{List, [], ◌∷◌, ◌++◌, append_assoc}
use lib.Dec.{T, ltb}
use lib.ListN.{length, take, drop, take-append-drop, length-drop}
use lib.Seq.{length-take-le, take-append-le, drop-append-le, drop-drop}
use lib.Ieee.{binary64}
use lib.Ieee.Bits.{of_bits-to_bits}
use Rattle.codec.specs.Lists.{put, part}
use Rattle.codec.specs.Bytes.{unle, nums, total, bits}
use Rattle.codec.proofs.Lists.{put_length, drop_put, drop_past}
use Rattle.codec.proofs.Row.{length_enc, fit_nil, fit_cons, nums_enc}
use Rattle.dispersion.specs.declared.DispersiveMaterial.{DispersiveMaterial}
use Rattle.grid.specs.declared.Clock.{Clock}
use Rattle.grid.specs.Edited.{with_clock}
use Rattle.grid.specs.Fault.{all_below}
use Rattle.grid.proofs.Judging.{all_same}
use Rattle.heads.specs.Numbers.{flags_fine, corners_fine, gh_shaped, gh_of, ml_length, ml_shaped}
use Rattle.heads.specs.Payloads.{head_of, count_of, entry_at, materials_of}
use Rattle.heads.specs.Inner.Parts.{plan_widths, corner_widths}
use Rattle.block.specs.Block.{block_length, clock_widths, clock_place, clock_bytes, clock_put, entries, all_zero, entry_fine, block_fine, block_record}
use Rattle.block.specs.Inner.Held.{held}
use Rattle.block.proofs.Entry.{bits_small}

-- ---- numbers of a row in two parts, and of bytes that begin alike
nums_append : (ws vs l : List ℕ) → nums (ws ++ vs) l ≡ nums ws l ++ nums vs (drop (total ws) l)
unfolding nums total
nums_append [] vs l = refl
nums_append (w ∷ ws) vs l =
    ap (λ (x : List ℕ). unle (take w l) ∷ x) (nums_append ws vs (drop w l) ∙ ap (λ (x : List ℕ). nums ws (drop w l) ++ nums vs x) (drop-drop (total ws) w l))

nums_front : (ws p q r : List ℕ) → total ws ≤ length p → nums ws (p ++ q) ≡ nums ws (p ++ r)
unfolding nums total
nums_front [] p q r h = refl
nums_front (w ∷ ws) p q r h =
    let a : w ≤ length p = omega arith in
    let k : total ws ≤ length (drop w p) = omega (arith, length-drop w p) in
    rw (take-append-le w p q a, take-append-le w p r a, drop-append-le w p q a, drop-append-le w p r a, nums_front ws (drop w p) q r k)

-- GH up to its clock
abbrev first_widths : List ℕ
first_widths = plan_widths ++ corner_widths ++ (8 ∷ 8 ∷ 8 ∷ 8 ∷ [])

-- and what follows the clock
abbrev past_place : ℕ
past_place = clock_place + 12

abbrev past_widths : List ℕ
past_widths = 1 ∷ []

module _ (b : List ℕ) (c : Clock) (long : length b ≡ block_length) where
  abbrev after : List ℕ
  after = clock_put c b

  bytes_long : length (clock_bytes c) ≡ 12
  unfolding clock_bytes total
  bytes_long = length_enc clock_widths (bits c.time ∷ c.steps ∷ []) refl

  after_long : length after ≡ block_length
  unfolding clock_put
  after_long = put_length b clock_place (clock_bytes c) (omega (arith, bytes_long, long)) ∙ long

  -- past the clock nothing changes
  past_same : drop past_place after ≡ drop past_place b
  unfolding clock_put
  past_same =
      let e : clock_place + length (clock_bytes c) ≡ past_place = omega (arith, bytes_long) in
      ap (λ (n : ℕ). drop n after) (sym e) ∙ drop_past b clock_place (clock_bytes c) (omega (arith, long)) ∙ ap (λ (n : ℕ). drop n b) e

  entries_same : entries after ≡ entries b
  entries_same = sym (drop-drop 1 past_place after) ∙ ap (drop 1) past_same ∙ drop-drop 1 past_place b

  -- up to the clock neither
  first_same : nums first_widths after ≡ nums first_widths b
  unfolding clock_put put total
  first_same =
      let room : clock_place ≤ length (take clock_place b) = omega (arith, length-take-le clock_place b (omega (arith, long))) in
      ap (nums first_widths) (append_assoc (take clock_place b) (clock_bytes c) (drop (clock_place + length (clock_bytes c)) b))
      ∙ nums_front first_widths (take clock_place b) (clock_bytes c ++ drop (clock_place + length (clock_bytes c)) b) (drop clock_place b) room
      ∙ ap (nums first_widths) (take-append-drop clock_place b)

  module _ (t : T (held c.time)) (s : c.steps < 4294967296) where
    abbrev two : List ℕ
    two = bits c.time ∷ c.steps ∷ []

    last_is : nums clock_widths (drop clock_place after) ≡ two
    unfolding clock_put clock_bytes
    last_is =
        ap (nums clock_widths) (drop_put b clock_place (clock_bytes c) (omega (arith, long)))
        ∙ nums_enc clock_widths two (drop (clock_place + length (clock_bytes c)) b) (fit_cons 8 _ _ _ (bits_small c.time t) (fit_cons 4 _ _ _ s fit_nil))

    abbrev last : List ℕ
    last = nums past_widths (drop past_place b)

    -- GH in three parts
    in_three : (l : List ℕ) → head_of l ≡ nums first_widths l ++ (nums clock_widths (drop clock_place l) ++ nums past_widths (drop past_place l))
    unfolding total
    in_three l =
        nums_append first_widths (clock_widths ++ past_widths) l
        ∙ ap (λ (x : List ℕ). nums first_widths l ++ x)
        (nums_append clock_widths past_widths (drop clock_place l) ∙ ap (λ (x : List ℕ). nums clock_widths (drop clock_place l) ++ nums past_widths x) (drop-drop 12 clock_place l))

    head_after : head_of after ≡ nums first_widths b ++ (two ++ last)
    head_after =
        in_three after
        ∙ ap (λ (x : List ℕ). nums first_widths after ++ (x ++ nums past_widths (drop past_place after))) last_is
        ∙ ap (λ (x : List ℕ). nums first_widths after ++ (two ++ nums past_widths x)) past_same
        ∙ ap (λ (x : List ℕ). x ++ (two ++ last)) first_same

    head_before : head_of b ≡ nums first_widths b ++ (nums clock_widths (drop clock_place b) ++ last)
    head_before = in_three b

    shaped_same : gh_shaped (head_of after) ≡ gh_shaped (head_of b)
    unfolding gh_shaped flags_fine corners_fine nums all_below
    shaped_same = ap gh_shaped head_after ∙ sym (ap gh_shaped head_before)

    count_same : count_of (head_of after) ≡ count_of (head_of b)
    unfolding nums
    count_same = ap count_of head_after ∙ sym (ap count_of head_before)

    entry_same : (i : ℕ) → entry_fine after i ≡ entry_fine b i
    unfolding entry_fine
    entry_same i =
        let judged : ℕ → List ℕ → Bool = λ n l. cond (ltb i n) (ml_shaped (entry_at l i)) (all_zero (part l (ml_length * i) ml_length)) in
        ap (λ (n : ℕ). judged n (entries after)) count_same ∙ ap (judged (count_of (head_of b))) entries_same

    pub clock_fine : block_fine (clock_put c b) ≡ block_fine b
    unfolding block_fine
    clock_fine = rw (after_long, shaped_same, all_same (entry_fine after) (entry_fine b) 16 (λ i _. entry_same i), long) refl

    pub clock_record : block_record (clock_put c b) ≡ with_clock (block_record b) c
    unfolding block_record gh_of nums
    clock_record =
        let ms : List DispersiveMaterial = materials_of (count_of (head_of b)) (entries b) in
        let moved : gh_of (nums first_widths b ++ (two ++ last)) ms ≡ with_clock (gh_of (nums first_widths b ++ (nums clock_widths (drop clock_place b) ++ last)) ms) c = rw (of_bits-to_bits binary64 c.time t) in
        ap (λ (n : ℕ). gh_of (head_of after) (materials_of n (entries after))) count_same
        ∙ ap (λ (l : List ℕ). gh_of (head_of after) (materials_of (count_of (head_of b)) l)) entries_same
        ∙ ap (λ (l : List ℕ). gh_of l ms) head_after
        ∙ moved
        ∙ sym (ap (λ (l : List ℕ). with_clock (gh_of l ms) c) head_before)
