-- Demand 3, proved once for every machine that meets the laws. Assumes nothing.
use Prim.Native.Nat.{ℕ, ◌+◌}
use mathlib.Core.Path.{◌≡◌, refl, sym, ◌∙◌, ap, subst}
use mathlib.Core.Logic.{◌⊎◌, inl, inr}
use mathlib.Core.Option.{Option, none, some}
use mathlib.Core.List.{List, [], ◌∷◌, map}
use mathlib.Core.Bool.{Bool, true, false, ◌&&◌}
use native.Mathlib.Omega.{arith}
use lib.Dec.{eqb}
use borrow.Author.Tests.{eqb-true, eq-eqb}
use Rattle.study.specs.History.{Bytes, same_bytes, opening, doing, saving, rewinding, Fate, turned, given, Reply, refused, accepted, Replay, stuck, reached, Machine, Asked, does, grow, extend, replay, Made, Gives, Measured, Fits, Honest, leaves, holds, study_in, Got, Handed, wrote_by, Wrote, Proper, RunA, begins, makes, RunB, idle, follows, pick, latest, note, past, standing, calls, replies, Alike, Claim, Returns, Repeats, since, Resumes}
use Rattle.study.specs.Inner.Laws.{Laws, Ticking, Timed}

-- No constructor is another.
no_replay : {A S : Type 0} (ans : List A) (x : Option S) → ◌≡◌ {A = Replay A S} stuck (reached ans x) → ⊥
no_replay ans x p = let z : ◌≡◌ {A = ℕ} 0 1 = cc in omega arith

pub no_outcome : {A S : Type 0} (n : ℕ) (b a : A) (s : S) → ◌≡◌ {A = Fate A S} (turned n b) (given a s) → ⊥
no_outcome n b a s p = let z : ◌≡◌ {A = ℕ} 0 1 = cc in omega arith

no_replay_none : {A S : Type 0} (ans : List A) (s : S) → ◌≡◌ {A = Replay A S} (reached [] none) (reached ans (some s)) → ⊥
no_replay_none ans s p = let z : ◌≡◌ {A = ℕ} 0 1 = cc in omega arith

no_option : {A : Type 0} (a : A) → ◌≡◌ {A = Option A} none (some a) → ⊥
no_option a p = let z : ◌≡◌ {A = ℕ} 0 1 = cc in omega arith

no_bool : ◌≡◌ {A = Bool} true false → ⊥
no_bool p = let z : ◌≡◌ {A = ℕ} 0 1 = cc in omega arith

one_some : {A : Type 0} (a b : A) → ◌≡◌ {A = Option A} (some a) (some b) → a ≡ b
one_some a b p = cc

-- The test of bytes finds them equal where they are.
pub same_true : (a b : Bytes) → same_bytes a b ≡ true → a ≡ b
same_true [] [] p = refl
same_true [] (y ∷ ys) p = absurd (no_bool (sym p))
same_true (x ∷ xs) [] p = absurd (no_bool (sym p))
same_true (x ∷ xs) (y ∷ ys) p = go (eqb x y) refl p (λ q. same_true xs ys q)
  where
    go : (t : Bool) → eqb x y ≡ t → t && same_bytes xs ys ≡ true → (same_bytes xs ys ≡ true → xs ≡ ys) → x ∷ xs ≡ y ∷ ys
    go true e q f = cc (eqb-true x y e, f q)
    go false e q f = absurd (no_bool (sym q))

pub same_refl : (a : Bytes) → same_bytes a a ≡ true
same_refl [] = refl
same_refl (x ∷ xs) = rw (eq-eqb x x refl) (same_refl xs)

module _ (M : Machine) where
  open M use {World, Study, Open, Act, Lengths, Answer, Room, Said, Lends, study, Unchanged, lengths, opens, acts, saves, loads, puts, written, bytes}

  -- No call of these is a rewind.
  abbrev NotRewind : Asked M → Type 0
  NotRewind (opening o l) = Unit {0}
  NotRewind (doing c) = Unit {0}
  NotRewind (saving n) = Unit {0}
  NotRewind (rewinding b l) = ⊥

  Plain : List (Made M) → Type 0
  Plain [] = Unit {0}
  Plain (e ∷ h) = NotRewind e.call × Plain h

  AllHonest : List (Made M) → Type 0
  AllHonest [] = Unit {0}
  AllHonest (e ∷ h) = Honest M e × AllHonest h

  -- A history whose calls the definition plays through, with the replies that were given.
  record Sound (h : List (Made M)) (x : Option Study) : Type 0 where
    ans : List Answer
    plays : replay M (calls M h) ≡ reached ans x
    honest : AllHonest h
    plain : Plain h
    replied : replies M h ≡ map accepted ans

  joins : (e : Made M) (h : List (Made M)) (x : Option Study) (a : Answer) (s : Study)
      → Sound h x → Honest M e → NotRewind e.call → e.reply ≡ accepted a → does M e.call x ≡ given a s → Sound (e ∷ h) (some s)
  unfolding AllHonest Plain
  joins e h x a s S t n r d = record {
    ans = a ∷ S.ans;
    honest = (t, S.honest);
    plain = (n, S.plain);
    plays = ap (extend M e.call) S.plays ∙ ap (grow M S.ans) d;
    replied = cc (r, S.replied);
  }

  -- A kept copy: it is sound, and its study was saved as these bytes.
  record Copy (b : Bytes) (h : List (Made M)) : Type 0 where
    of : Study
    sound : Sound h (some of)
    place : World
    there : study place ≡ some of
    names : bytes of ≡ b
    room : ℕ
    answer : Answer
    after : Study
    saved : saves room (some of) ≡ given answer after

  AllCopies : List (Bytes × List (Made M)) → Type 0
  AllCopies [] = Unit {0}
  AllCopies (k ∷ ks) = Copy k.0 k.1 × AllCopies ks

  Has : Bytes → List (Bytes × List (Made M)) → Type 0
  Has b [] = ⊥
  Has b (k ∷ ks) = (k.0 ≡ b) ⊎ Has b ks

  -- the latest copy with these bytes is one of them
  found : (b : Bytes) (d : List (Made M)) (ks : List (Bytes × List (Made M))) → AllCopies ks → Copy b d ⊎ Has b ks → Copy b (latest M b d ks)
  unfolding AllCopies Has
  found b d [] a (inl c) = c
  found b d [] a (inr h) = absurd h
  found b d (k ∷ ks) a h = go (same_bytes b k.0) refl h (λ d' q. found b d' ks a.1 q)
    where
      other : k.0 ≡ b → same_bytes b k.0 ≡ false → ⊥
      other q p = no_bool (sym (same_refl b) ∙ ap (same_bytes b) (sym q) ∙ p)

      go : (t : Bool) → same_bytes b k.0 ≡ t → Copy b d ⊎ ((k.0 ≡ b) ⊎ Has b ks) → ((d' : List (Made M)) → Copy b d' ⊎ Has b ks → Copy b (latest M b d' ks))
          → Copy b (pick t k.1 (latest M b d ks))
      go true p h' f = subst (λ c. Copy c k.1) (sym (same_true b k.0 p)) a.0
      go false p (inl c) f = f d (inl c)
      go false p (inr (inl q)) f = absurd (other q p)
      go false p (inr (inr q)) f = f d (inr q)

  keeps : (b : Bytes) (es : List (Made M)) → Wrote M b es → Has b (past M es).copies
  unfolding Has
  keeps b [] w = absurd w
  keeps b (e ∷ es) w = go e.call e.reply w (λ v. keeps b es v)
    where
      go : (c : Asked M) (r : Reply Answer) → (wrote_by M c r ≡ some b) ⊎ Wrote M b es → (Wrote M b es → Has b (past M es).copies)
          → Has b (note M e c r (past M es)).copies
      go c (refused n a) (inl p) f = absurd (no_option b p)
      go c (refused n a) (inr v) f = f v
      go (opening o l) (accepted a) (inl p) f = absurd (no_option b p)
      go (opening o l) (accepted a) (inr v) f = f v
      go (doing x) (accepted a) (inl p) f = absurd (no_option b p)
      go (doing x) (accepted a) (inr v) f = f v
      go (saving n) (accepted a) (inl p) f = inl (cc)
      go (saving n) (accepted a) (inr v) f = inr (f v)
      go (rewinding q l) (accepted a) (inl p) f = absurd (no_option b p)
      go (rewinding q l) (accepted a) (inr v) f = f v

  -- What every run A keeps true.
  record Held (es : List (Made M)) : Type 0 where
    world : World
    is : holds M es ≡ some world
    held : Study
    of : study world ≡ some held
    sound : Sound (standing M es) (some held)
    copies : AllCopies (past M es).copies

  -- What a call is handed has the study that the last accepted one left.
  got : Laws M → (w : World) (x : Option World) → Got M w x → study_in M x ≡ study w
  got L w none g = absurd g
  got L w (some v) g = sym (L.unchanged_study v w g)

  same_place : Laws M → (es : List (Made M)) (w : World) (H : Held es) → Got M w (holds M es) → ◌≡◌ {A = Option Study} (some H.held) (study w)
  same_place L es w H p = sym H.of ∙ sym (ap (study_in M) H.is) ∙ got L w (holds M es) p

  module _ (L : Laws M) where
    step : (c : Asked M) (w : World) (x : Room) (r : Reply Answer) (v : World) (y : Room) (es : List (Made M)) → Held es
        → Honest M (record { call = c; handed = w; lent = x; reply = r; left = v; back = y }) → Proper M r c w es
        → Held (record { call = c; handed = w; lent = x; reply = r; left = v; back = y } ∷ es)
    unfolding AllCopies
    step c w x (refused n a) v y es H h p = record { world = H.world; is = H.is; held = H.held; of = H.of; sound = H.sound; copies = H.copies }
    step (opening o l) w x (accepted a) v y es H h p =
        let g = h.gives in record {
          world = v;
          is = refl;
          held = g.0;
          of = g.1;
          copies = H.copies;
          sound = joins _ _ _ a g.0 H.sound h tt refl g.2;
        }
    step (doing c) w x (accepted a) v y es H h p =
        let g = h.gives in
        let d : acts c (some H.held) ≡ given a g.0 = ap (acts c) (same_place L es w H p.0) ∙ g.2 in record {
          world = v;
          is = refl;
          held = g.0;
          of = g.1;
          copies = H.copies;
          sound = joins _ _ _ a g.0 H.sound h tt refl d;
        }
    step (saving n) w x (accepted a) v y es H h p =
        let g = h.gives in
        let d : saves n (some H.held) ≡ given a g.0 = ap (saves n) (same_place L es w H p.0) ∙ g.2 in record {
          world = v;
          is = refl;
          held = g.0;
          of = g.1;
          copies = (
            record {
              of = H.held;
              sound = H.sound;
              place = H.world;
              there = H.of;
              names = sym (L.save_writes n H.held a g.0 d);
              room = n;
              answer = a;
              after = g.0;
              saved = d;
            },
            H.copies,
          );
          sound = joins _ _ _ a g.0 H.sound h tt refl d;
        }
    step (rewinding b l) w x (accepted a) v y es H h p =
        let g = h.gives in
        let k : Copy b (latest M b (standing M es) (past M es).copies) = found b (standing M es) (past M es).copies H.copies (inr (keeps b es p.1)) in
        let u : g.0 ≡ k.of = L.restores k.room k.of k.answer k.after (L.worlds_fit k.place k.of k.there) k.saved l a g.0
        (ap (λ z. loads z l) k.names ∙ g.2) in record {
          world = v;
          is = refl;
          held = g.0;
          of = g.1;
          copies = H.copies;
          sound = subst (λ s. Sound (latest M b (standing M es) (past M es).copies) (some s)) (sym u) k.sound;
        }

    run_held : {es : List (Made M)} → RunA M es → Held es
    unfolding AllCopies AllHonest Plain
    run_held (begins o l w x a v y h) =
        let g = h.gives in record {
          world = v;
          is = refl;
          held = g.0;
          of = g.1;
          copies = tt;
          sound = joins _ [] none a g.0 (record { ans = []; plays = refl; honest = tt; plain = tt; replied = refl }) h tt refl g.2;
        }
    run_held (makes e {es = es} r h p) = step e.call e.handed e.lent e.reply e.left e.back es (run_held r) h p

  -- What a call is given does not turn on more than the study that it is handed.
  place : Laws M → (c : Asked M) (w : World) (before : Option World) → Handed M c w before → does M c (study_in M before) ≡ does M c (study w)
  place L (opening o l) w before p = refl
  place L (doing c) w before p = ap (acts c) (got L w before p)
  place L (saving n) w before p = ap (saves n) (got L w before p)
  place L (rewinding b l) w before p = refl

  record Followed (bs : List (Made M)) (ans : List Answer) (x : Option Study) : Type 0 where
    answered : replies M bs ≡ map accepted ans
    at : study_in M (holds M bs) ≡ x

  follow_one : Laws M → (e : Made M) (bs : List (Made M)) → Honest M e → Handed M e.call e.handed (holds M bs)
      → (so : Replay Answer Study) → replay M (calls M bs) ≡ so
      → ((ans : List Answer) (x : Option Study) → replay M (calls M bs) ≡ reached ans x → Followed bs ans x)
      → (ans : List Answer) (x : Option Study) → extend M e.call so ≡ reached ans x → Followed (e ∷ bs) ans x
  follow_one L e bs h p stuck s f ans x q = absurd (no_replay ans x q)
  follow_one L e bs h p (reached before y) s f ans x q = go (does M e.call y) refl (f before y s)
    where
      reply_of_lem : (r : Reply Answer) (a : Answer) (t : Study) → Gives M (given a t) e.handed r e.left
          → (r ≡ accepted a) × (leaves M r e.left (holds M bs) ≡ some e.left) × (study e.left ≡ some t)
      reply_of_lem (refused n z) a t g = absurd (no_outcome n z a t (sym g.0))
      reply_of_lem (accepted z) a t g = let k : given a t ≡ given z g.0 = g.2 in let i : g.0 ≡ t = cc in (cc, refl, g.1 ∙ ap {B = Option Study} some i)

      go : (d : Fate Answer Study) → does M e.call y ≡ d → Followed bs before y → Followed (e ∷ bs) ans x
      go (turned n z) k F = absurd (no_replay ans x (sym (ap (grow M before) k) ∙ q))
      go (given a t) k F =
          let same-study : does M e.call (study e.handed) ≡ given a t = sym (place L e.call e.handed (holds M bs) p) ∙ ap (does M e.call) F.at ∙ k in
          let g = reply_of_lem e.reply a t (subst (λ z. Gives M z e.handed e.reply e.left) same-study h.gives) in
          let ends : reached (a ∷ before) (some t) ≡ reached ans x = sym (ap (grow M before) k) ∙ q in
          let list : a ∷ before ≡ ans = cc in
          let end : some t ≡ x = cc in record {
            answered = subst (λ l. replies M (e ∷ bs) ≡ map accepted l) list (cc (g.0, F.answered));
            at = ap (study_in M) g.1 ∙ g.2 ∙ end;
          }

  follow : Laws M → {bs : List (Made M)} → RunB M bs → (ans : List Answer) (x : Option Study) → replay M (calls M bs) ≡ reached ans x → Followed bs ans x
  follow L idle ans x q = let list : [] ≡ ans = cc in let end : none ≡ x = cc in record
      { answered = subst (λ l. ◌≡◌ {A = List (Reply Answer)} [] (map accepted l)) list refl; at = end }
  follow L (follows e {es = bs} r h p) ans x q = follow_one L e bs h p (replay M (calls M bs)) refl (λ a y. follow L r a y) ans x q

  -- Two made calls that the definition gives the same, by runs that hold the same study: equal replies, and the runs hold one study again.
  equal_replies : (d : Fate Answer Study) (w w' : World) (x x' : Option World) → study_in M x ≡ study_in M x' → (y z : Reply Answer) (v u : World)
      → Gives M d w y v → Gives M d w' z u → (y ≡ z) × (study_in M (leaves M y v x) ≡ study_in M (leaves M z u x'))
  equal_replies d w w' x x' p (refused n b) (refused m c) v u g h = let i : d ≡ turned n b = g.0 in let j : d ≡ turned m c = h.0 in (cc, p)
  equal_replies d w w' x x' p (refused n b) (accepted a) v u g h = absurd (no_outcome n b a h.0 (sym g.0 ∙ h.2))
  equal_replies d w w' x x' p (accepted a) (refused n b) v u g h = absurd (no_outcome n b a g.0 (sym h.0 ∙ g.2))
  equal_replies d w w' x x' p (accepted a) (accepted b) v u g h =
      let i : d ≡ given a g.0 = g.2 in
      let j : d ≡ given b h.0 = h.2 in
      let k : g.0 ≡ h.0 = cc in (cc, g.1 ∙ ap {B = Option Study} some k ∙ sym h.1)

  some_world : (x : Option World) (s : Study) → study_in M x ≡ some s → (w : World) × (x ≡ some w) × (study w ≡ some s)
  some_world none s p = absurd (no_option s p)
  some_world (some w) s p = (w, refl, p)

  measured_both : (c : Asked M) (w u : World) → Alike M c w u → Measured M c w → Measured M c u
  measured_both (opening o l) w u p f = sym p ∙ f
  measured_both (doing c) w u p f = f
  measured_both (saving n) w u p f = f
  measured_both (rewinding b l) w u p f = sym p ∙ f

  alike_sym : (c : Asked M) (w u : World) → Alike M c w u → Alike M c u w
  alike_sym (opening o l) w u p = sym p
  alike_sym (doing c) w u p = sym p
  alike_sym (saving n) w u p = sym p
  alike_sym (rewinding b l) w u p = sym p

  fits_on : (c : Asked M) (w u : World) (room : Room) → Alike M c w u → Fits M c w room → Fits M c u room
  fits_on c w u room p f = record { said = f.said; lends = f.lends; measured = measured_both c w u p f.measured }

  -- The definition gives calls with equal arguments the same.
  does_alike : (c : Asked M) (w u : World) → Alike M c w u → does M c (study w) ≡ does M c (study u)
  does_alike (opening o l) w u p = refl
  does_alike (doing c) w u p = ap (acts c) p
  does_alike (saving n) w u p = ap (saves n) p
  does_alike (rewinding b l) w u p = refl

  handed_alike : Laws M → (x x' : Option World) → study_in M x ≡ study_in M x' → (c : Asked M) (w u : World) → Handed M c w x → Handed M c u x' → lengths w ≡ lengths u → Alike M c w u
  handed_alike L x x' p (opening o l) w u g h e = e
  handed_alike L x x' p (doing c) w u g h e = sym (got L w x g) ∙ p ∙ got L u x' h
  handed_alike L x x' p (saving n) w u g h e = sym (got L w x g) ∙ p ∙ got L u x' h
  handed_alike L x x' p (rewinding b l) w u g h e = e

  saved_text : Laws M → (s : Study) (x : Option World) → study_in M x ≡ some s → (e : Made M) (n : ℕ) (a : Answer) → e.call ≡ saving n → e.reply ≡ accepted a
      → Handed M e.call e.handed x → Honest M e → written a ≡ bytes s
  saved_text L s x p e n a c r g h =
      let g' : Got M e.handed x = subst (λ z. Handed M z e.handed x) c g in
      let at : study e.handed ≡ some s = sym (got L e.handed x g') ∙ p in
      let k = subst (λ z. Gives M (does M e.call (study e.handed)) e.handed z e.left) r h.gives in
      L.save_writes n s a k.0 (sym (ap (λ z. does M z (some s)) c) ∙ sym (ap (does M e.call) at) ∙ k.2)

  pub claim : Laws M → Claim M
  claim L es A bs B same-calls =
      let H = run_held L A in
      let F = follow L B H.sound.ans (some H.held) (ap (replay M) same-calls ∙ H.sound.plays) in
      let W = some_world (holds M bs) H.held F.at in
      let a_at : study_in M (holds M es) ≡ some H.held = ap (study_in M) H.is ∙ H.of in
      let one : study_in M (holds M es) ≡ study_in M (holds M bs) = a_at ∙ sym F.at in record {
        answers = H.sound.ans;
        held = H.held;
        defined = H.sound.plays;
        a_answered = H.sound.replied;
        b_answered = F.answered;
        a_world = H.world;
        a_holds = H.is;
        a_study = H.of;
        b_world = W.0;
        b_holds = W.1;
        b_study = W.2;
        both = λ c w u room p. (λ f. fits_on c w u room p f, λ f. fits_on c u w room (alike_sym c w u p) f);
        further = λ d e c p g h.
            equal_replies (does M d.call (study d.handed)) d.handed e.handed (holds M es) (holds M bs) one d.reply e.reply d.left e.left g.gives
            (subst (λ z. Gives M z e.handed e.reply e.left) (sym (does_alike d.call d.handed e.handed p ∙ ap (λ z. does M z (study e.handed)) c)) h.gives);
        alike = λ c w u g h e. handed_alike L (holds M es) (holds M bs) one c w u g h e;
        a_saves = λ e n a c r g h. saved_text L H.held (holds M es) a_at e n a c r g h;
        b_saves = λ e n a c r g h. saved_text L H.held (holds M bs) F.at e n a c r g h;
      }

  -- What a list was reached by was given.
  ended : (before ans : List Answer) (x : Option Study) (d : Fate Answer Study) → grow M before d ≡ reached ans x → (a : Answer) × (t : Study) × (d ≡ given a t) × (x ≡ some t)
  ended before ans x (turned n a) r = absurd (no_replay ans x r)
  ended before ans x (given a t) r = (a, t, refl, cc)

  -- Where every call that can be made is made (the code always returns), run B can be made.
  ready : Laws M → (c : Asked M) (w : World) (room : Room) (bs : List (Made M)) (y : Option Study) (before ans : List Answer) (x : Option Study)
      → Fits M c w room → study_in M (holds M bs) ≡ y → grow M before (does M c y) ≡ reached ans x
      → (v : World) × Fits M c v room × Handed M c v (holds M bs)
  ready L (opening o l) w room bs y before ans x f p q = (w, f, tt)
  ready L (rewinding b l) w room bs y before ans x f p q = (w, f, tt)
  ready L (doing c) w room bs y before ans x f p q = go y p q
    where
      go : (y : Option Study) → study_in M (holds M bs) ≡ y → grow M before (acts c y) ≡ reached ans x → (v : World) × Fits M (doing c) v room × Got M v (holds M bs)
      go none p q = let d = ended before ans x (acts c none) q in absurd (L.acts_on_lem c d.0 d.1 d.2)
      go (some s) p q =
          let v = some_world (holds M bs) s p in
          (v.0, record { said = f.said; lends = f.lends; measured = tt }, subst (Got M v.0) (sym v.1) (L.unchanged_self v.0))
  ready L (saving n) w room bs y before ans x f p q = go y p q
    where
      go : (y : Option Study) → study_in M (holds M bs) ≡ y → grow M before (saves n y) ≡ reached ans x → (v : World) × Fits M (saving n) v room × Got M v (holds M bs)
      go none p q = let d = ended before ans x (saves n none) q in absurd (L.saves_of n d.0 d.1 d.2)
      go (some s) p q =
          let v = some_world (holds M bs) s p in
          (v.0, record { said = f.said; lends = f.lends; measured = tt }, subst (Got M v.0) (sym v.1) (L.unchanged_self v.0))

  abbrev Repeat : List (Made M) → Type 0
  Repeat h = (bs : List (Made M)) × RunB M bs × (calls M bs ≡ calls M h)

  again : Laws M → Returns M → (e : Made M) (h : List (Made M)) → Honest M e → (so : Replay Answer Study) → replay M (calls M h) ≡ so
      → ((ans : List Answer) (x : Option Study) → replay M (calls M h) ≡ reached ans x → Repeat h)
      → (ans : List Answer) (x : Option Study) → extend M e.call so ≡ reached ans x → Repeat (e ∷ h)
  again L R e h t stuck s f ans x q = absurd (no_replay ans x q)
  again L R e h t (reached before y) s f ans x q =
      let B = f before y s in
      let F = follow L B.1 before y (ap (replay M) B.2 ∙ s) in
      let W = ready L e.call e.handed e.lent B.0 y before ans x t.fits F.at q in
      let D = R e.call W.0 e.lent W.1 in
      (record { call = e.call; handed = W.0; lent = e.lent; reply = D.0; left = D.1; back = D.2 } ∷ B.0, follows _ B.1 D.3 W.2, ap (λ l. e.call ∷ l) B.2)

  repeat : Laws M → Returns M → (h : List (Made M)) → AllHonest h → (ans : List Answer) (x : Option Study) → replay M (calls M h) ≡ reached ans x → Repeat h
  unfolding AllHonest
  repeat L R [] t ans x q = ([], idle, refl)
  repeat L R (e ∷ h) t ans x q = again L R e h t.0 (replay M (calls M h)) refl (λ a y. repeat L R h t.1 a y) ans x q

  pub run_b : Laws M → Returns M → Repeats M
  run_b L R es A = let H = run_held L A in repeat L R (standing M es) H.sound.honest H.sound.ans (some H.held) H.sound.plays

  -- The clock.
  ticks : Laws M → (k : Ticking M) (h : List (Made M)) → Plain h → (ans : List Answer) (s : Study) → replay M (calls M h) ≡ reached ans (some s)
      → k.tick s ≡ since M k.weight (calls M h)
  unfolding Plain
  ticks L k [] p ans s q = absurd (no_replay_none ans s q)
  ticks L k (e ∷ h) p ans s q = go e.call p.0 (replay M (calls M h)) refl q (λ a t. ticks L k h p.1 a t)
    where
      gave : (before : List Answer) (d : Fate Answer Study) → grow M before d ≡ reached ans (some s) → (a : Answer) × (d ≡ given a s)
      gave before d r = let k = ended before ans (some s) d r in (k.0, k.2 ∙ ap {B = Fate Answer Study} (λ t. given k.0 t) (sym (one_some s k.1 k.3)))

      go : (c : Asked M) → NotRewind c → (so : Replay Answer Study) → replay M (calls M h) ≡ so → extend M c so ≡ reached ans (some s)
          → ((a : List Answer) (t : Study) → replay M (calls M h) ≡ reached a (some t) → k.tick t ≡ since M k.weight (calls M h))
          → k.tick s ≡ since M k.weight (c ∷ calls M h)
      go c n stuck z r f = absurd (no_replay ans (some s) r)
      go (opening o l) n (reached before x) z r f = let d = gave before (opens o l) r in k.opens_at_0 o l d.0 s d.1
      go (doing c) n (reached before none) z r f = let d = gave before (acts c none) r in absurd (L.acts_on_lem c d.0 s d.1)
      go (doing c) n (reached before (some t)) z r f = let d = gave before (acts c (some t)) r in k.acts_by c t d.0 s d.1 ∙ ap (λ m. m + k.weight c) (f before t z)
      go (saving m) n (reached before none) z r f = let d = gave before (saves m none) r in absurd (L.saves_of m d.0 s d.1)
      go (saving m) n (reached before (some t)) z r f = let d = gave before (saves m (some t)) r in k.saves_by_0 m t d.0 s d.1 ∙ f before t z
      go (rewinding b l) n (reached before x) z r f = absurd n

  pub timed : Laws M → (k : Ticking M) → Timed M k
  timed L k es A w s p q =
      let H = run_held L A in
      let e : w ≡ H.world = one_some w H.world (sym p ∙ H.is) in
      let i : s ≡ H.held = one_some s H.held (sym q ∙ ap study e ∙ H.of) in
      ap k.tick i ∙ ticks L k (standing M es) H.sound.plain H.sound.ans H.held H.sound.plays

  -- Saves can be taken up again.
  accepts : (d : Fate Answer Study) (z : Answer) (s : Study) → d ≡ given z s → (w : World) (y : Reply Answer) (v : World)
      → Gives M d w y v → (z : Answer) × (y ≡ accepted z) × (study v ≡ some s)
  accepts d z s p w (refused n b) v g = absurd (no_outcome n b z s (sym g.0 ∙ p))
  accepts d z s p w (accepted a) v g = let i : d ≡ given a g.0 = g.2 in let k : g.0 ≡ s = cc in (a, refl, g.1 ∙ ap {B = Option Study} some k)

  pub resumes : Laws M → Resumes M
  resumes L es A b W =
      let H = run_held L A in
      let k : Copy b (latest M b (standing M es) (past M es).copies) = found b (standing M es) (past M es).copies H.copies (inr (keeps b es W)) in
      let q = L.rereads k.room k.of k.answer k.after k.place k.there k.saved in record {
        answers = k.sound.ans;
        held = k.of;
        defined = k.sound.plays;
        text = sym k.names;
        world = k.place;
        of = k.there;
        rewound = λ e c h. accepts (loads b (lengths k.place)) q.0 k.of (ap (λ z. loads z (lengths k.place)) (sym k.names) ∙ q.1) e.handed e.reply e.left
            (subst (λ z. Gives M (does M z (study e.handed)) e.handed e.reply e.left) c h.gives);
      }
