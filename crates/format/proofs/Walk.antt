-- Records one after another, whatever they hold: written ones have no fault, cut short anywhere they are refused as Short, and bytes without fault are the
-- records that they are cut up into. Each law once, over any list of records. Assumes nothing.
use Prim.Native.Nat.{ℕ, zero, suc, ◌+◌, ◌-◌, ◌^◌, ◌≤◌, ◌<◌}
use native.Mathlib.Omega.{arith}
use mathlib.Core.Path.{◌≡◌, refl, sym, ap, ◌∙◌, subst}
use mathlib.Core.Bool.{Bool, true, false}
use mathlib.Core.List.{List, [], ◌∷◌, ◌++◌, append_assoc}
use borrow.Author.Tests.{eqb-true, ltb-true, ltb-false}
use lib.Dec.{T, eqb, ltb}
use lib.ListN.{length, take, drop, get_or, length-append, length-drop, take-append-drop}
use lib.Seq.{drop_at, length-take-le, take-append-add}
use Rattle.codec.specs.Bytes.{bytes_fit}
use Rattle.codec.specs.Frame.{frame_bytes, frame_fault, short}
use Rattle.codec.proofs.Lists.{every_drop}
use Rattle.codec.proofs.Framed.{length_frame, frame_back, frame_room, frame_bytes_lem, frame_cut}
use Rattle.grid.specs.Fault.{first}
use Rattle.grid.specs.Stores.{or_else}
use Rattle.grid.proofs.Tests.{first_none, or_none}
use Rattle.format.specs.Records.{Piece, piece, framed, frames, trailing, Expected, record_fault, records_fault, payload_from}

-- ---- a record that is as expected, whatever follows it
pub record Meets (e : Expected) (p : Piece) : Type 0 where
  pub same : p.mark ≡ e.mark
  pub long : length p.payload ≡ e.size
  pub low : e.mark < 256 ^ 2
  pub few : e.size < 256 ^ 4
  pub good : (r : List ℕ) → e.test (p.payload ++ r) ≡ true

unfoldable pub AllMeet : List Expected → List Piece → Type 0
AllMeet [] [] = Unit {0}
AllMeet [] (p ∷ ps) = ⊥
AllMeet (e ∷ es) [] = ⊥
AllMeet (e ∷ es) (p ∷ ps) = Meets e p × AllMeet es ps

pub meet_nil : AllMeet [] []
unfolding AllMeet
meet_nil = tt

pub meet_cons : (e : Expected) (p : Piece) (es : List Expected) (ps : List Piece) → Meets e p → AllMeet es ps → AllMeet (e ∷ es) (p ∷ ps)
unfolding AllMeet
meet_cons e p es ps h t = (h, t)

pub length_framed : (p : Piece) → length (framed p) ≡ 6 + length p.payload
length_framed p =
    length-append (frame_bytes p.mark (length p.payload)) p.payload ∙ omega (arith, length_frame p.mark (length p.payload))

module _ (e : Expected) (p : Piece) (h : Meets e p) where
  met_long : length (framed p) ≡ 6 + e.size
  met_long = length_framed p ∙ ap (λ (n : ℕ). 6 + n) h.long

  pub met_frame : (r : List ℕ) → frame_fault e.mark e.size (framed p ++ r) ≡ 0
  met_frame r =
      let n = length p.payload in
      let m = p.mark in
      let few : n < 256 ^ 4 = subst (λ (k : ℕ). k < 256 ^ 4) (sym h.long) h.few in
      let low : m < 256 ^ 2 = subst (λ (k : ℕ). k < 256 ^ 2) (sym h.same) h.low in
      ap (λ (k : ℕ). frame_fault k e.size (framed p ++ r)) (sym h.same)
      ∙ ap (λ (k : ℕ). frame_fault m k (framed p ++ r)) (sym h.long)
      ∙ ap (frame_fault m n) (append_assoc (frame_bytes m n) p.payload r)
      ∙ frame_back m p.payload r low few

  pub met_payload : (r : List ℕ) → drop 6 (framed p ++ r) ≡ p.payload ++ r
  met_payload r =
      ap (drop 6) (append_assoc (frame_bytes p.mark (length p.payload)) p.payload r)
      ∙ drop_at (frame_bytes p.mark (length p.payload)) (p.payload ++ r) 6 (length_frame p.mark (length p.payload))

  met_next : (r : List ℕ) → drop (6 + e.size) (framed p ++ r) ≡ r
  met_next r = drop_at (framed p) r (6 + e.size) met_long

  met_fault : (r : List ℕ) → record_fault e (framed p ++ r) ≡ 0
  unfolding record_fault
  met_fault r =
      rw (met_frame r, met_payload r, h.good r)

  -- cut within the record
  met_cut : (r : List ℕ) (k : ℕ) → k < 6 + e.size → record_fault e (take k (framed p ++ r)) ≡ short
  unfolding record_fault
  met_cut r k l = rw (frame_cut e.mark e.size (framed p ++ r) (met_frame r) k l)

  -- cut after it
  pub met_past : (r : List ℕ) (k : ℕ) → 6 + e.size ≤ k → take k (framed p ++ r) ≡ framed p ++ take (k - (6 + e.size)) r
  met_past r k l =
      let e0 : k ≡ length (framed p) + (k - (6 + e.size)) = omega (arith, met_long) in
      ap (λ (j : ℕ). take j (framed p ++ r)) e0 ∙ take-append-add (framed p) r (k - (6 + e.size))

  met_more : (r : List ℕ) → length (framed p ++ r) ≡ 6 + e.size + length r
  met_more r = length-append (framed p) r ∙ omega (arith, met_long)

-- ---- written ones have no fault; what is left over is 16
pub walk_met : (es : List Expected) (ps : List Piece) (r : List ℕ) → AllMeet es ps → records_fault es (frames ps ++ r) ≡ first (eqb (length r) 0) trailing 0
unfolding AllMeet records_fault frames
walk_met [] [] r t = refl
walk_met [] (p ∷ ps) r t = absurd t
walk_met (e ∷ es) [] r t = absurd t
walk_met (e ∷ es) (p ∷ ps) r t =
    ap (λ (l : List ℕ). or_else (record_fault e l) (records_fault es (drop (6 + e.size) l))) (append_assoc (framed p) (frames ps) r)
    ∙ ap (λ (n : ℕ). or_else n (records_fault es (drop (6 + e.size) (framed p ++ (frames ps ++ r))))) (met_fault e p t.0 (frames ps ++ r))
    ∙ ap (records_fault es) (met_next e p t.0 (frames ps ++ r))
    ∙ walk_met es ps r t.1

-- cut short anywhere, they are refused as Short
pub walk_cut : (es : List Expected) (ps : List Piece) (k : ℕ) → AllMeet es ps → k < length (frames ps) → records_fault es (take k (frames ps)) ≡ short
unfolding AllMeet records_fault frames
walk_cut [] [] k t h = absurd (let z : ⊥ = omega arith in z)
walk_cut [] (p ∷ ps) k t h = absurd t
walk_cut (e ∷ es) [] k t h = absurd t
walk_cut (e ∷ es) (p ∷ ps) k t h = go (λ j less. walk_cut es ps j t.1 less) (ltb k (6 + e.size)) refl
  where
    n : ℕ
    n = 6 + e.size

    go : ((j : ℕ) → j < length (frames ps) → records_fault es (take j (frames ps)) ≡ short) → (b : Bool) → ltb k n ≡ b →
        or_else (record_fault e (take k (framed p ++ frames ps))) (records_fault es (drop n (take k (framed p ++ frames ps)))) ≡ short
    go later true q =
        ap (λ (f : ℕ). or_else f (records_fault es (drop n (take k (framed p ++ frames ps))))) (met_cut e p t.0 (frames ps) k (ltb-true k n q))
    go later false q =
        let j : ℕ = k - n in
        let l : n ≤ k = ltb-false k n q in
        let less : j < length (frames ps) = omega (arith, h, l, met_more e p t.0 (frames ps)) in
        ap (λ (x : List ℕ). or_else (record_fault e x) (records_fault es (drop n x))) (met_past e p t.0 (frames ps) k l)
        ∙ ap (λ (f : ℕ). or_else f (records_fault es (drop n (framed p ++ take j (frames ps))))) (met_fault e p t.0 (take j (frames ps)))
        ∙ ap (records_fault es) (met_next e p t.0 (take j (frames ps)))
        ∙ later j less

-- and record i's payload is where it is looked for
pub walk_from : (es : List Expected) (ps : List Piece) (i : ℕ) (d : Piece) (r : List ℕ) → AllMeet es ps → i < length ps →
    payload_from es i (frames ps ++ r) ≡ (get_or ps i d).payload ++ (frames (drop (suc i) ps) ++ r)
unfolding AllMeet payload_from frames
walk_from [] [] i d r t h = absurd (let z : ⊥ = omega arith in z)
walk_from [] (p ∷ ps) i d r t h = absurd t
walk_from (e ∷ es) [] i d r t h = absurd t
walk_from (e ∷ es) (p ∷ ps) zero d r t h =
    ap (drop 6) (append_assoc (framed p) (frames ps) r) ∙ met_payload e p t.0 (frames ps ++ r)
walk_from (e ∷ es) (p ∷ ps) (suc i) d r t h =
    ap (λ (l : List ℕ). payload_from es i (drop (6 + e.size) l)) (append_assoc (framed p) (frames ps) r)
    ∙ ap (payload_from es i) (met_next e p t.0 (frames ps ++ r))
    ∙ walk_from es ps i d r t.1 (omega arith)

-- ---- the way back: bytes cut up as they are expected
unfoldable pub cut_up : List Expected → List ℕ → List Piece
cut_up [] l = []
cut_up (e ∷ es) l = piece e.mark (take e.size (drop 6 l)) ∷ cut_up es (drop (6 + e.size) l)

-- what a payload without fault meets; l are the bytes from it on
pub record Passed (e : Expected) (l : List ℕ) : Type 0 where
  pub room : e.size ≤ length l
  pub good : e.test l ≡ true
  pub bytes : T (bytes_fit l)

module _ (e : Expected) (l : List ℕ) (b : T (bytes_fit l)) (f : record_fault e l ≡ 0) where
  parts_none : (frame_fault e.mark e.size l ≡ 0) × (e.test (drop 6 l) ≡ true)
  unfolding record_fault
  parts_none =
      let t = or_none (frame_fault e.mark e.size l) _ f in
      (t.0, (first_none (e.test (drop 6 l)) 14 0 t.1).0)

  passed : Passed e (drop 6 l)
  passed = record {
    room = omega (arith, frame_room e.mark e.size l parts_none.0, length-drop 6 l);
    good = parts_none.1;
    bytes = every_drop _ 6 l b;
  }

  again : framed (piece e.mark (take e.size (drop 6 l))) ≡ take (6 + e.size) l
  again =
      let long : length (take e.size (drop 6 l)) ≡ e.size = length-take-le e.size (drop 6 l) passed.room in
      ap (λ (n : ℕ). frame_bytes e.mark n ++ take e.size (drop 6 l)) long
      ∙ sym (frame_bytes_lem e.mark e.size l parts_none.0 b)

empty : (l : List ℕ) → length l ≡ 0 → [] ≡ l
empty [] e = refl
empty (x ∷ l) e = absurd (let z : ⊥ = omega arith in z)

pub walk_back : (es : List Expected) (l : List ℕ) → T (bytes_fit l) → records_fault es l ≡ 0 → frames (cut_up es l) ≡ l
unfolding records_fault frames cut_up
walk_back [] l b f = empty l (eqb-true (length l) 0 (first_none (eqb (length l) 0) 15 0 f).0)
walk_back (e ∷ es) l b f =
    let t = or_none (record_fault e l) _ f in
    let n : ℕ = 6 + e.size in
    ap (λ (x : List ℕ). x ++ frames (cut_up es (drop n l))) (again e l b t.0)
    ∙ ap (λ (x : List ℕ). take n l ++ x) (walk_back es (drop n l) (every_drop _ n l b) t.1)
    ∙ take-append-drop n l

pub walk_passed : (es : List Expected) (l : List ℕ) (i : ℕ) (d : Expected) → T (bytes_fit l) → records_fault es l ≡ 0 → i < length es → Passed (get_or es i d) (payload_from es i l)
unfolding records_fault payload_from
walk_passed [] l i d b f h = absurd (let z : ⊥ = omega arith in z)
walk_passed (e ∷ es) l zero d b f h = passed e l b (or_none (record_fault e l) _ f).0
walk_passed (e ∷ es) l (suc i) d b f h =
    walk_passed es (drop (6 + e.size) l) i d (every_drop _ (6 + e.size) l b) (or_none (record_fault e l) _ f).1 (omega arith)
