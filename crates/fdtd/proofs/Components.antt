-- The curl and the memories of a row are what the definition has there, whichever way its sides lie. Assumes nothing.
use mathlib.Core.Path.{◌≡◌, refl, ◌∙◌, subst}
use mathlib.Core.Logic.{◌⊎◌, inl, inr, ⊎_elim}
use mathlib.Core.Bool.{Bool, true, false}
use mathlib.Core.List.{List}
use Prim.Native.Nat.{ℕ, ◌+◌, ◌≤◌, ◌<◌}
use native.Mathlib.Nat.{add_assoc}
use native.Mathlib.Omega.{arith}
use lib.ListN.{get_or}
use lib.Ieee.{Float, nan}
use Rattle.root.specs.Rounded.{◌⊖◌}
use Rattle.fdtd.specs.declared.Axis.{Axis}
use Rattle.fdtd.specs.declared.Coef.{Coef}
use Rattle.fdtd.specs.declared.rows.Side.{Side}
use Rattle.fdtd.specs.Yee.{term, curl, memory_after}
use Rattle.fdtd.specs.Inner.Cell.{curl_on, first_on, second_on}
use Rattle.fdtd.specs.Inner.Rows.{side_layered, side_memory}
use Rattle.fdtd.specs.Inner.Span.{Two}
use Rattle.fdtd.proofs.Cellwise.{memory_stays}
use Rattle.fdtd.proofs.Spans.{lt_or_ge}
use Rattle.fdtd.proofs.Stands.{Stands}

-- over variables
go_on : (go on : Bool) (k : Coef) (m d : Float) → go ≡ true → memory_after true (term on k m d) ≡ memory_after go (term on k m d)
go_on go on k m d e = rw e

module _ (A B C : Axis) (count : ℕ) (e tab mem : List Float) (q i onB onC loB hiB loC hiC : ℕ) where
  module _ (b c : Side) (db dc : Float) (sb : Stands b B C e tab mem db q i onB loB hiB A.mem) (sc : Stands c C B e tab mem dc q i onC loC hiC (A.mem + count)) where
    pub at_curl : side_layered true c tab mem i dc (side_layered false b tab mem i db (db ⊖ dc)) ≡ curl_on A B C count e tab mem (q + i) onB onC loB hiB loC hiC
    unfolding curl_on curl
    at_curl = rw (sc.layers true, sb.layers false, sb.slopes, sc.slopes)

    at_b : (go : Bool) → go ≡ true → side_memory b tab mem i db ≡ first_on A B C count e tab mem (q + i) onB onC loB hiB loC hiC go
    unfolding first_on
    at_b go g = sb.mems _ ∙ rw sb.slopes (go_on _ _ _ _ _ g)

    at_c : (go : Bool) → go ≡ true → side_memory c tab mem i dc ≡ second_on A B C count e tab mem (q + i) onB onC loB hiB loC hiC go
    unfolding second_on
    at_c go g = sc.mems _ ∙ rw sc.slopes (go_on _ _ _ _ _ g)

  stop_b : (go : Bool) → go ≡ false → get_or mem (A.mem + q + i) nan ≡ first_on A B C count e tab mem (q + i) onB onC loB hiB loC hiC go
  unfolding first_on
  stop_b go g = rw (add_assoc A.mem q i) (memory_stays _ _ _ _ _ g)

  stop_c : (go : Bool) → go ≡ false → get_or mem (A.mem + count + q + i) nan ≡ second_on A B C count e tab mem (q + i) onB onC loB hiB loC hiC go
  unfolding second_on
  stop_c go g = rw (add_assoc (A.mem + count) q i) (memory_stays _ _ _ _ _ g)

  -- a cell's new numbers hang on the memories by its own alone
  module _ (mem' : List Float) (b : get_or mem (A.mem + (q + i)) nan ≡ get_or mem' (A.mem + (q + i)) nan)
      (c : get_or mem (A.mem + count + (q + i)) nan ≡ get_or mem' (A.mem + count + (q + i)) nan) where
    pub curl_own : curl_on A B C count e tab mem (q + i) onB onC loB hiB loC hiC ≡ curl_on A B C count e tab mem' (q + i) onB onC loB hiB loC hiC
    unfolding curl_on
    curl_own = rw (b, c)

    pub b_own : (go : Bool) → first_on A B C count e tab mem (q + i) onB onC loB hiB loC hiC go ≡ first_on A B C count e tab mem' (q + i) onB onC loB hiB loC hiC go
    unfolding first_on
    b_own go = rw b

    pub c_own : (go : Bool) → second_on A B C count e tab mem (q + i) onB onC loB hiB loC hiC go ≡ second_on A B C count e tab mem' (q + i) onB onC loB hiB loC hiC go
    unfolding second_on
    c_own go = rw c

-- the memories of a row of n cells
module _ (A B C : Axis) (count : ℕ) (e tab mem : List Float) (q n : ℕ) (onB onC loB hiB loC hiC : ℕ → ℕ) (go : ℕ → Bool) where
  abbrev pub Memories : List Float → Type 0
  Memories mem' =
      Two (λ i. first_on A B C count e tab mem (q + i) (onB i) (onC i) (loB i) (hiB i) (loC i) (hiC i) (go i))
      (λ i. second_on A B C count e tab mem (q + i) (onB i) (onC i) (loB i) (hiB i) (loC i) (hiC i) (go i))
      mem (A.mem + q) (A.mem + count + q) 0 n mem'

  -- no number moves
  pub idle_mem : ((i : ℕ) → go i ≡ false) → Memories mem
  idle_mem g =
      record {
        len = refl;
        under = λ p l. refl;
        first = λ i k l. stop_b A B C count e tab mem q i _ _ _ _ _ _ (go i) (g i);
        mid = λ p l u. refl;
        second = λ i k l. stop_c A B C count e tab mem q i _ _ _ _ _ _ (go i) (g i);
        over = λ p l. refl;
      }

  -- those from a up to z do
  module _ (b c : Side) (f g : ℕ → Float) (a z : ℕ) (mem' : List Float) (most : z ≤ n) (room : n ≤ count)
      (sb : (i : ℕ) → Stands b B C e tab mem (f i) q i (onB i) (loB i) (hiB i) A.mem)
      (sc : (i : ℕ) → Stands c C B e tab mem (g i) q i (onC i) (loC i) (hiC i) (A.mem + count))
      (moves : (i : ℕ) → a ≤ i → i < z → go i ≡ true)
      (stays : (i : ℕ) → i < n → (i < a) ⊎ (z ≤ i) → go i ≡ false)
      (mm : Two (λ i. side_memory b tab mem i (f i)) (λ i. side_memory c tab mem i (g i)) mem b.mem c.mem a z mem') where
    two : Two (λ i. side_memory b tab mem i (f i)) (λ i. side_memory c tab mem i (g i)) mem (A.mem + q) (A.mem + count + q) a z mem'
    two =
        subst (λ (x : ℕ). Two (λ i. side_memory b tab mem i (f i)) (λ i. side_memory c tab mem i (g i)) mem x (A.mem + count + q) a z mem') (sb 0).begins
        (subst (λ (x : ℕ). Two (λ i. side_memory b tab mem i (f i)) (λ i. side_memory c tab mem i (g i)) mem b.mem x a z mem') (sc 0).begins mm)

    still_b : (i : ℕ) → i < n → (i < a) ⊎ (z ≤ i) → get_or mem' (A.mem + q + i) nan ≡ get_or mem (A.mem + q + i) nan
    still_b i l = ⊎_elim (λ u. two.under (A.mem + q + i) (omega arith)) (λ u. two.mid (A.mem + q + i) (omega arith) (omega arith))

    still_c : (i : ℕ) → i < n → (i < a) ⊎ (z ≤ i) → get_or mem' (A.mem + count + q + i) nan ≡ get_or mem (A.mem + count + q + i) nan
    still_c i l = ⊎_elim (λ u. two.mid (A.mem + count + q + i) (omega arith) (omega arith)) (λ u. two.over (A.mem + count + q + i) (omega arith))

    stay_b : (i : ℕ) → i < n → (i < a) ⊎ (z ≤ i) → get_or mem' (A.mem + q + i) nan ≡ first_on A B C count e tab mem (q + i) (onB i) (onC i) (loB i) (hiB i) (loC i) (hiC i) (go i)
    stay_b i l u = still_b i l u ∙ stop_b A B C count e tab mem q i _ _ _ _ _ _ (go i) (stays i l u)

    new_b : (i : ℕ) → i < n → get_or mem' (A.mem + q + i) nan ≡ first_on A B C count e tab mem (q + i) (onB i) (onC i) (loB i) (hiB i) (loC i) (hiC i) (go i)
    new_b i l =
        ⊎_elim (λ k. stay_b i l (inl k))
        (λ k. ⊎_elim (λ u. two.first i k u ∙ at_b A B C count e tab mem q i _ _ _ _ _ _ b c _ _ (sb i) (sc i) (go i) (moves i k u)) (λ u. stay_b i l (inr u)) (lt_or_ge i z)) (lt_or_ge i a)

    stay_c : (i : ℕ) → i < n → (i < a) ⊎ (z ≤ i) → get_or mem' (A.mem + count + q + i) nan ≡ second_on A B C count e tab mem (q + i) (onB i) (onC i) (loB i) (hiB i) (loC i) (hiC i) (go i)
    stay_c i l u = still_c i l u ∙ stop_c A B C count e tab mem q i _ _ _ _ _ _ (go i) (stays i l u)

    new_c : (i : ℕ) → i < n → get_or mem' (A.mem + count + q + i) nan ≡ second_on A B C count e tab mem (q + i) (onB i) (onC i) (loB i) (hiB i) (loC i) (hiC i) (go i)
    new_c i l =
        ⊎_elim (λ k. stay_c i l (inl k))
        (λ k. ⊎_elim (λ u. two.second i k u ∙ at_c A B C count e tab mem q i _ _ _ _ _ _ b c _ _ (sb i) (sc i) (go i) (moves i k u)) (λ u. stay_c i l (inr u)) (lt_or_ge i z)) (lt_or_ge i a)

    pub moved_mem : a ≤ z → Memories mem'
    moved_mem k =
        record {
          len = two.len;
          under = λ p l. two.under p (omega arith);
          first = λ i h l. new_b i l;
          mid = λ p l u. two.mid p (omega arith) (omega arith);
          second = λ i h l. new_c i l;
          over = λ p l. two.over p (omega arith);
        }
