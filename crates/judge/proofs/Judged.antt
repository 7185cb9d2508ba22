-- Bytes as code judges them, record by record, by places. Assumes nothing.
use Prim.Native.Nat.{ℕ, zero, suc, ◌+◌, ◌*◌, ◌^◌, ◌≤◌, ◌<◌}
use native.Mathlib.Numerals.{add-one}
use native.Mathlib.Omega.{arith}
use mathlib.Core.Path.{◌≡◌, refl, sym, ap, ◌∙◌}
use mathlib.Core.Bool.{Bool, true, false}
use mathlib.Core.List.{List, [], ◌∷◌}
use borrow.Author.Tests.{eq-eqb, ne_eqb, eqb-true, eqb-false}
use lib.Dec.{T, ltb, eqb, lt→ltb}
use lib.ListN.{length, get_or, drop, length-drop}
use lib.Seq.{drop-drop, drop-cons}
use Rattle.std.proofs.Common.{Result, IsErr}
use Rattle.refusals.specs.declared.Refusal.{Refusal}
use Rattle.refusals.specs.Refusals.{code}
use Rattle.codec.specs.Bytes.{bytes_fit}
use Rattle.codec.specs.Frame.{frame_fault, bad_record}
use Rattle.codec.proofs.Lists.{every_of, every_drop}
use Rattle.codec.proofs.Row.{fit_at}
use Rattle.codec.proofs.Framed.{frame_room}
use Rattle.grid.specs.declared.Record.{Record}
use Rattle.grid.specs.declared.stores.Lengths.{Lengths}
use Rattle.grid.specs.Fault.{first, fault_of}
use Rattle.grid.specs.Inner.Sound.{Sound}
use Rattle.grid.specs.Stores.{or_else, store_lengths}
use Rattle.grid.proofs.Judging.{sound}
use Rattle.grid.proofs.Settled.{own_fault, later_fault}
use Rattle.grid.proofs.Tests.{and_right, first_none, or_none}
use Rattle.heads.specs.Numbers.{gh_widths, gh_fine, gh_of, ml_length, ml_fine}
use Rattle.heads.specs.Payloads.{head_by, count_of, entry_of, entry_at}
use Rattle.heads.proofs.Listed.{entry_at_lem}
use Rattle.format.specs.Records.{Expected, record_fault, records_fault, trailing}
use Rattle.format.specs.Save.{mark_cm, mark_fe, mark_fh, mark_le, mark_lh, mark_lt, mark_pp, mark_ax}
use Rattle.format.specs.Rewind.{is_old, size_by, bare, head_good, head_record, list_record, floats_record, store_records, table, table_by, bytes_fault}
use Rattle.format.proofs.Old.{fit_by}
use Rattle.judge.specs.Inner.Places.{floats_records, Small}

-- ---- one record at a place
module _ (e : Expected) (b : List ℕ) (at : ℕ) where
  pub frame_stays : {A : Type 0} (x : Result A Refusal) → IsErr x → code x ≡ frame_fault e.mark e.size (drop at b) → code x ≡ record_fault e (drop at b)
  unfolding record_fault
  frame_stays x p q = own_fault x _ p q

  module _ (fine : 0 ≡ frame_fault e.mark e.size (drop at b)) where
    pub frame_goes : {x : ℕ} (t : Bool) → t ≡ e.test (drop (at + 6) b) → x ≡ first t bad_record 0 → x ≡ record_fault e (drop at b)
    unfolding record_fault
    frame_goes t q r = later_fault fine (r ∙ ap (λ (u : Bool). first u bad_record 0) (q ∙ ap e.test (sym (drop-drop 6 at b))))

    -- its payload is there
    pub frame_left : at ≤ length b → at + 6 + e.size ≤ length b
    frame_left l = omega (arith, frame_room e.mark e.size (drop at b) (sym fine), length-drop at b, l)

pub record_left : (e : Expected) (b : List ℕ) (at f : ℕ) → f ≡ record_fault e (drop at b) → f ≡ 0 → at ≤ length b → at + (6 + e.size) ≤ length b
unfolding record_fault
record_left e b at f p h l =
    let z = or_none (frame_fault e.mark e.size (drop at b)) _ (sym p ∙ h) in
    omega (arith, frame_room e.mark e.size (drop at b) z.0, length-drop at b, l)

-- where any payload will do, there is no more to judge
pub frame_only : {f n : ℕ} → f ≡ n → f ≡ or_else n 0
frame_only {n = zero} p = p
frame_only {n = suc n} p = p

-- ---- one record judged, and those that follow it
pub walk_room : (e : Expected) (b : List ℕ) (at : ℕ) {q : ℕ} → 0 ≡ record_fault e (drop at b) → q ≡ at + 6 + e.size → at ≤ length b → q ≤ length b
walk_room e b at fine next l = omega (arith, next, record_left e b at 0 fine refl l)

module _ (e : Expected) (es : List Expected) (b : List ℕ) (at : ℕ) where
  pub walk_stays : {A : Type 0} (x : Result A Refusal) → IsErr x → code x ≡ record_fault e (drop at b) → code x ≡ records_fault (e ∷ es) (drop at b)
  unfolding records_fault
  walk_stays x p q = own_fault x _ p q

  module _ (fine : 0 ≡ record_fault e (drop at b)) {q : ℕ} (next : q ≡ at + 6 + e.size) where
    pub walk_goes : {k : ℕ} → k ≡ records_fault es (drop q b) → k ≡ records_fault (e ∷ es) (drop at b)
    unfolding records_fault
    walk_goes w =
        let place : q ≡ at + (6 + e.size) = omega (arith, next) in
        later_fault fine (w ∙ ap (λ (i : ℕ). records_fault es (drop i b)) place ∙ ap (records_fault es) (sym (drop-drop (6 + e.size) at b)))

pub next_records : (rs : List (ℕ × ℕ)) (i : ℕ) (d : ℕ × ℕ) → i < length rs →
    floats_records (drop i rs) ≡ floats_record (get_or rs i d).0 (get_or rs i d).1 ∷ floats_records (drop (i + 1) rs)
next_records rs i d h =
    ap floats_records (drop-cons rs i d h)
    ∙ ap (λ (k : ℕ). floats_record (get_or rs i d).0 (get_or rs i d).1 ∷ floats_records (drop k rs)) (sym (add-one i))

-- nothing more
pub walk_ends : (b : List ℕ) (at : ℕ) {x : ℕ} → at ≤ length b → x ≡ first (eqb at (length b)) trailing 0 → x ≡ records_fault [] (drop at b)
unfolding records_fault
walk_ends b at k p = p ∙ ap (λ (t : Bool). first t trailing 0) (over (eqb at (length b)) refl)
  where
    over : (t : Bool) → eqb at (length b) ≡ t → t ≡ eqb (length (drop at b)) 0
    over true e = sym (eq-eqb (length (drop at b)) 0 (omega (arith, length-drop at b, eqb-true at (length b) e)))
    over false e = sym (ne_eqb (length (drop at b)) 0 (λ z. eqb-false at (length b) e (omega (arith, length-drop at b, z, k))))

-- ---- GH
pub steps_small : (old : Bool) (b : List ℕ) → 6 + size_by old ≤ length b → ((i : ℕ) → get_or b i 0 < 256) → get_or (head_by old (drop 6 b)) 25 0 ≤ 4294967295
steps_small old b e h =
    let bytes : T (bytes_fit (drop 6 b)) = every_drop _ 6 b (every_of (λ x. ltb x 256) b 0 (λ i _. lt→ltb (get_or b i 0) 256 (h i))) in
    let small : get_or (head_by old (drop 6 b)) 25 0 < 256 ^ 4 = fit_at gh_widths (head_by old (drop 6 b)) 25 (fit_by old (drop 6 b) (omega (arith, length-drop 6 b, e)) bytes) (omega arith) in
    omega arith

module _ (old : Bool) (b : List ℕ) (f : ℕ) (p : f ≡ record_fault (head_record old) b) (h : f ≡ 0) where
  abbrev own_head : List ℕ
  own_head = head_by old (drop 6 b)

  pub head_room : 6 + size_by old ≤ length b
  head_room = omega (arith, record_left (head_record old) b 0 f p h (omega arith))

  head_none : fault_of (bare own_head) ≡ 0
  unfolding record_fault head_good
  head_none =
      let z = or_none (frame_fault (head_record old).mark (size_by old) b) _ (sym p ∙ h) in
      let t = (first_none (head_good own_head) 14 0 z.1).0 in
      eqb-true _ _ (and_right (gh_fine own_head) (eqb (fault_of (bare own_head)) 0) t)

  pub head_sound : Sound (bare (head_by old (drop 6 b)))
  head_sound = sound (bare own_head) head_none

  pub head_count : count_of (head_by old (drop 6 b)) ≤ 16
  unfolding bare gh_of
  head_count = head_sound.materials

pub small_lengths : (r : Record) → Sound r → Small (store_lengths r)
unfolding store_lengths
small_lengths r k = record {
  e = omega (arith, k.cells);
  h = omega (arith, k.cells);
  m = omega (arith, k.cells);
  pe = omega (arith, k.cells);
  ph = omega (arith, k.cells);
  t = omega (arith, k.xs, k.ys, k.zs);
  p = k.poles;
  a = omega (arith, k.zs);
  i = omega (arith, k.cells);
}

abbrev eight : Lengths → List (ℕ × ℕ)
eight n =
    (mark_cm, n.media) ∷ (mark_fe, n.electric) ∷ (mark_fh, n.magnetic) ∷ (mark_le, n.psi_e) ∷ (mark_lh, n.psi_h) ∷ (mark_lt, n.tables) ∷ (mark_pp, n.poles) ∷ (mark_ax, n.aux) ∷ []

pub few_of : (n : Lengths) → Small n → (i : ℕ) (d : ℕ × ℕ) → i < 8 → (get_or (eight n) i d).1 ≤ 28311552
few_of n k zero d h = k.m
few_of n k (suc zero) d h = k.e
few_of n k (suc (suc zero)) d h = k.h
few_of n k (suc (suc (suc zero))) d h = k.pe
few_of n k (suc (suc (suc (suc zero)))) d h = k.ph
few_of n k (suc (suc (suc (suc (suc zero))))) d h = k.t
few_of n k (suc (suc (suc (suc (suc (suc zero)))))) d h = k.p
few_of n k (suc (suc (suc (suc (suc (suc (suc zero))))))) d h = k.a
few_of n k (suc (suc (suc (suc (suc (suc (suc (suc i)))))))) d h = absurd (let z : ⊥ = omega arith in z)

-- ---- ML
pub fine_at : (b : List ℕ) (at i : ℕ) (n : List ℕ) (t : Bool) → n ≡ entry_of (drop (at + ml_length * i) b) → t ≡ ml_fine n → t ≡ ml_fine (entry_at (drop at b) i)
fine_at b at i n t e q = q ∙ ap ml_fine (e ∙ entry_at_lem b at i)

pub few_materials : (g : List ℕ) → fault_of (bare g) ≡ 0 → count_of g ≤ 16
unfolding bare gh_of
few_materials g ok = (sound (bare g) ok).materials

-- ---- the whole: GH, then what its numbers g make expected
pub head_fits : (old : Bool) (b : List ℕ) {g : List ℕ} {q : ℕ} → 0 ≡ record_fault (head_record old) b → g ≡ head_by old (drop 6 b) → q ≡ 6 + size_by old → ((i : ℕ) → get_or b i 0 < 256) →
    (q ≤ length b) × (get_or g 25 0 ≤ 4294967295) × (fault_of (bare g) ≡ 0)
head_fits old b fine own next small = (
  walk_room (head_record old) b 0 fine next (omega arith),
  rw own (steps_small old b (head_room old b 0 fine refl) small),
  rw own (head_none old b 0 fine refl),
)

pub bytes_rest : {old : Bool} (b : List ℕ) {g : List ℕ} {q k : ℕ} → old ≡ is_old b → 0 ≡ record_fault (head_record old) b → g ≡ head_by old (drop 6 b) → q ≡ 6 + size_by old →
    k ≡ records_fault (list_record g ∷ store_records (store_lengths (bare g))) (drop q b) → k ≡ bytes_fault b
unfolding bytes_fault table_by table
bytes_rest {old = old} b {g = g} which fine own next w =
    walk_goes (head_record old) (list_record g ∷ store_records (store_lengths (bare g))) b 0 fine next w
    ∙ ap (λ (x : List ℕ). records_fault (head_record old ∷ list_record x ∷ store_records (store_lengths (bare x))) b) own
    ∙ ap (λ (o : Bool). records_fault (table_by o (head_by o (drop 6 b))) b) which
