-- What demand 3 speaks of, over any machine: calls, made calls, a run, what stands of it, and what the definition gives for what
-- stands. EVERY LIST HERE HAS THE NEWEST CALL FIRST. Assumes nothing; proves nothing.
use Rattle.std.specs.Prelude.{ℕ, ◌+◌, ◌≡◌, Bool, true, false, ◌&&◌, eqb, ◌⊎◌, List, [], ◌∷◌, map}
use Rattle.std.proofs.Math.Option.{Option, none, some}

-- The bytes of a save.
abbrev pub Bytes : Type 0
Bytes = List ℕ

abbrev pub same_bytes : Bytes → Bytes → Bool
same_bytes [] [] = true
same_bytes [] (y ∷ ys) = false
same_bytes (x ∷ xs) [] = false
same_bytes (x ∷ xs) (y ∷ ys) = eqb x y && same_bytes xs ys

abbrev pub pick {ℓ} : {A : Type ℓ} → Bool → A → A → A
pick true a b = a
pick false a b = b

-- A call, arguments included. Room lent to be written counts by its length: an opening and a rewind name the lengths of the record's
-- block and of the stores that they are lent, a save the length of its room, and an act that of the room for its answer.
pub data Call (Open Act Lengths : Type 0) : Type 0 where
  opening : Open → Lengths → Call Open Act Lengths
  doing : Act → Call Open Act Lengths
  saving : (room : ℕ) → Call Open Act Lengths
  rewinding : Bytes → Lengths → Call Open Act Lengths

-- What the definition gives for a call: the number of its first fault with the answers of a refusal, or the answers and the study after it.
pub data Fate (Answer Study : Type 0) : Type 0 where
  turned : ℕ → Answer → Fate Answer Study
  given : Answer → Study → Fate Answer Study

-- What a made call replied.
pub data Reply (Answer : Type 0) : Type 0 where
  refused : ℕ → Answer → Reply Answer
  accepted : Answer → Reply Answer

abbrev pub answer_in : {Answer : Type 0} → Reply Answer → Answer
answer_in (refused n a) = a
answer_in (accepted a) = a

-- What the definition gives for a list of calls: a refusal somewhere, or every answer and the study at the end (none before the first).
pub data Replay (Answer Study : Type 0) : Type 0 where
  stuck : Replay Answer Study
  reached : List Answer → Option Study → Replay Answer Study

pub record Machine : Type 1 where
  -- A record and its stores, as memory can hold them: what memory can't hold is no World.
  pub World : Type 0
  pub Study : Type 0
  pub Open : Type 0
  pub Act : Type 0
  pub Lengths : Type 0
  pub Answer : Type 0
  -- What stands in the room that a call is lent for its answer.
  pub Room : Type 0
  -- What a call is asked is such as memory can hold.
  pub Said : Call Open Act Lengths → Type 0
  -- The room is of the kind and the length that the call names.
  pub Lends : Call Open Act Lengths → Room → Type 0
  -- The study of a record and its stores: what they hold, less the unused places, all NaNs one. None where there is no record.
  pub study : World → Option Study
  -- The second is the first one unchanged: the same record, and the same numbers in every store.
  pub Unchanged : World → World → Type 0
  pub lengths : World → Lengths
  -- The definition (demand 2's), a function for each kind of call. An opening and a rewind are handed no study.
  pub opens : Open → Lengths → Fate Answer Study
  pub acts : Act → Option Study → Fate Answer Study
  pub saves : (room : ℕ) → Option Study → Fate Answer Study
  pub loads : Bytes → Lengths → Fate Answer Study
  -- The room with the answer in it, and nothing else of it changed.
  pub puts : Answer → Room → Room
  -- The bytes of a save's answer, and the bytes that a study writes.
  pub written : Answer → Bytes
  pub bytes : Study → Bytes

module _ (M : Machine) where
  open M use {World, Study, Open, Act, Lengths, Answer, Room, Said, Lends, study, Unchanged, lengths, opens, acts, saves, loads, puts, written, bytes}

  abbrev pub Asked : Type 0
  Asked = Call Open Act Lengths

  -- ---- what the definition gives

  -- One call.
  abbrev pub does : Asked → Option Study → Fate Answer Study
  does (opening o l) x = opens o l
  does (doing c) x = acts c x
  does (saving n) x = saves n x
  does (rewinding b l) x = loads b l

  -- A list of calls.
  abbrev pub grow : List Answer → Fate Answer Study → Replay Answer Study
  grow ans (turned n a) = stuck
  grow ans (given a s) = reached (a ∷ ans) (some s)

  abbrev pub extend : Asked → Replay Answer Study → Replay Answer Study
  extend c stuck = stuck
  extend c (reached ans x) = grow ans (does c x)

  abbrev pub replay : List Asked → Replay Answer Study
  replay [] = reached [] none
  replay (c ∷ cs) = extend c (replay cs)

  -- ---- a made call

  -- What was asked, on which record and stores, with what in the room for the answer; what it replied, and what it left there.
  pub record Made : Type 0 where
    pub call : Asked
    pub handed : World
    pub lent : Room
    pub reply : Reply Answer
    pub left : World
    pub back : Room

  -- The call can be made: what it is asked can be said, and the lengths that it names are those of what it is lent.
  abbrev pub Measured : Asked → World → Type 0
  Measured (opening o l) w = lengths w ≡ l
  Measured (doing c) w = Unit {0}
  Measured (saving n) w = Unit {0}
  Measured (rewinding b l) w = lengths w ≡ l

  pub record Fits (c : Asked) (w : World) (room : Room) : Type 0 where
    pub said : Said c
    pub lends : Lends c room
    pub measured : Measured c w

  -- A refusal gives the definition's number and answers, and leaves all as it was; an accepted call gives the definition's answer and
  -- leaves the definition's study.
  abbrev pub Gives : Fate Answer Study → World → Reply Answer → World → Type 0
  Gives d w (refused n a) v = (d ≡ turned n a) × Unchanged w v
  Gives d w (accepted a) v = (s : Study) × (study v ≡ some s) × (d ≡ given a s)

  -- The contract of every call, in one.
  pub record Honest (e : Made) : Type 0 where
    pub fits : Fits e.call e.handed e.lent
    pub gives : Gives (does e.call (study e.handed)) e.handed e.reply e.left
    -- the answer is what is written in the room, and all that is
    pub told : e.back ≡ puts (answer_in e.reply) e.lent

  -- ---- runs

  -- What this run's last accepted call left.
  abbrev pub leaves : Reply Answer → World → Option World → Option World
  leaves (refused n a) v before = before
  leaves (accepted a) v before = some v

  abbrev pub holds : List Made → Option World
  holds [] = none
  holds (e ∷ es) = leaves e.reply e.left (holds es)

  abbrev pub study_in : Option World → Option Study
  study_in none = none
  study_in (some w) = study w

  -- What is handed is what the last accepted call left.
  abbrev pub Got : World → Option World → Type 0
  Got w none = ⊥
  Got w (some v) = Unchanged v w

  -- Opening and rewind apart, a call gets that.
  abbrev pub Handed : Asked → World → Option World → Type 0
  Handed (opening o l) w before = Unit {0}
  Handed (doing c) w before = Got w before
  Handed (saving n) w before = Got w before
  Handed (rewinding b l) w before = Unit {0}

  -- The bytes that an accepted save wrote.
  abbrev pub wrote_by : Asked → Reply Answer → Option Bytes
  wrote_by c (refused n a) = none
  wrote_by (opening o l) (accepted a) = none
  wrote_by (doing x) (accepted a) = none
  wrote_by (saving n) (accepted a) = some (written a)
  wrote_by (rewinding b l) (accepted a) = none

  abbrev pub wrote : Made → Option Bytes
  wrote e = wrote_by e.call e.reply

  -- Some call of the list wrote these bytes.
  abbrev pub Wrote : Bytes → List Made → Type 0
  Wrote b [] = ⊥
  Wrote b (e ∷ es) = (wrote e ≡ some b) ⊎ Wrote b es

  abbrev pub Earlier : Asked → List Made → Type 0
  Earlier (opening o l) es = Unit {0}
  Earlier (doing c) es = Unit {0}
  Earlier (saving n) es = Unit {0}
  Earlier (rewinding b l) es = Wrote b es

  -- What an accepted call of run A may be handed. A refused one may be handed anything.
  abbrev pub Proper : Reply Answer → Asked → World → List Made → Type 0
  Proper (refused n a) c w es = Unit {0}
  Proper (accepted a) c w es = Handed c w (holds es) × Earlier c es

  -- Run A: from an accepted opening on.
  pub data RunA : List Made → Type 0 where
    begins : (o : Open) (l : Lengths) (w : World) (x : Room) (a : Answer) (v : World) (y : Room)
        → Honest (record { call = opening o l; handed = w; lent = x; reply = accepted a; left = v; back = y })
        → RunA (record { call = opening o l; handed = w; lent = x; reply = accepted a; left = v; back = y } ∷ [])
    makes : (e : Made) {es : List Made} → RunA es → Honest e → Proper e.reply e.call e.handed es → RunA (e ∷ es)

  -- Run B: each call, opening and rewind apart, is made on what the run's last accepted one left.
  pub data RunB : List Made → Type 0 where
    idle : RunB []
    follows : (e : Made) {es : List Made} → RunB es → Honest e → Handed e.call e.handed (holds es) → RunB (e ∷ es)

  -- ---- what stands

  -- The history of a run: what stands, and the copies that its saves kept.
  pub record Past : Type 0 where
    pub stands : List Made
    pub copies : List (Bytes × List Made)

  -- The latest copy with these bytes (`otherwise` where there is none).
  abbrev pub latest : Bytes → List Made → List (Bytes × List Made) → List Made
  latest b otherwise [] = otherwise
  latest b otherwise (k ∷ ks) = pick (same_bytes b k.0) k.1 (latest b otherwise ks)

  abbrev pub note : Made → Asked → Reply Answer → Past → Past
  note e c (refused n a) p = p
  note e (opening o l) (accepted a) p = record { stands = e ∷ p.stands; copies = p.copies }
  note e (doing x) (accepted a) p = record { stands = e ∷ p.stands; copies = p.copies }
  note e (saving n) (accepted a) p = record { stands = e ∷ p.stands; copies = (written a, p.stands) ∷ p.copies }
  note e (rewinding b l) (accepted a) p = record { stands = latest b p.stands p.copies; copies = p.copies }

  abbrev pub past : List Made → Past
  past [] = record { stands = []; copies = [] }
  past (e ∷ es) = note e e.call e.reply (past es)

  abbrev pub standing : List Made → List Made
  standing es = (past es).stands

  abbrev pub calls : List Made → List Asked
  calls es = map (λ e. e.call) es

  abbrev pub replies : List Made → List (Reply Answer)
  replies es = map (λ e. e.reply) es

  -- ---- the claim

  -- A call's arguments are equal: the study handed to it, or, for an opening or a rewind, which are handed none, the lengths lent. (Whatever
  -- else it is asked stands in the call itself.)
  abbrev pub Alike : Asked → World → World → Type 0
  Alike (opening o l) w u = lengths w ≡ lengths u
  Alike (doing c) w u = study w ≡ study u
  Alike (saving n) w u = study w ≡ study u
  Alike (rewinding b l) w u = lengths w ≡ lengths u

  -- What holds at the end of run A, with the made calls `es`, and of run B, with the made calls `bs`.
  pub record Agreed (es bs : List Made) : Type 0 where
    pub answers : List Answer
    pub held : Study
    -- "B has refused none and answered each as A did and as demand 2 asks": the definition, on the calls that stand, turns none down and gives
    -- these answers; run A gave them when it made those calls, and run B gave them.
    pub defined : replay (calls (standing es)) ≡ reached answers (some held)
    pub a_answered : replies (standing es) ≡ map accepted answers
    pub b_answered : replies bs ≡ map accepted answers
    -- "both hold the study that demand 2's definition gives for those calls"
    pub a_world : World
    pub a_holds : holds es ≡ some a_world
    pub a_study : study a_world ≡ some held
    pub b_world : World
    pub b_holds : holds bs ≡ some b_world
    pub b_study : study b_world ≡ some held
    -- "any further call with equal arguments gets equal answers": whatever worlds the runs hand to it, it can be made in both or in neither, its
    -- replies are equal, and so are the studies that the runs hold after it. What the runs may hand to it is alike where its lengths are.
    pub both : (c : Asked) (w u : World) (room : Room) → Alike c w u → (Fits c w room → Fits c u room) × (Fits c u room → Fits c w room)
    pub further : (d e : Made) → d.call ≡ e.call → Alike d.call d.handed e.handed → Honest d → Honest e
        → (d.reply ≡ e.reply) × (study_in (leaves d.reply d.left (holds es)) ≡ study_in (leaves e.reply e.left (holds bs)))
    pub alike : (c : Asked) (w u : World) → Handed c w (holds es) → Handed c u (holds bs) → lengths w ≡ lengths u → Alike c w u
    -- "their saves are byte-equal": whatever room each was lent, they are what the study writes.
    pub a_saves : (e : Made) (n : ℕ) (a : Answer) → e.call ≡ saving n → e.reply ≡ accepted a → Handed e.call e.handed (holds es) → Honest e
        → written a ≡ bytes held
    pub b_saves : (e : Made) (n : ℕ) (a : Answer) → e.call ≡ saving n → e.reply ≡ accepted a → Handed e.call e.handed (holds bs) → Honest e
        → written a ≡ bytes held

  abbrev pub Claim : Type 0
  Claim = (es : List Made) → RunA es → (bs : List Made) → RunB bs → calls bs ≡ calls (standing es) → Agreed es bs

  -- Every call that can be made has an honest outcome: the definition is never stuck, whatever is asked of whatever memory holds. (That the
  -- code returns is no part of it: that is proved function by function, with each contract.)
  abbrev pub Returns : Type 0
  Returns = (c : Asked) (w : World) (x : Room) → Fits c w x
      → (y : Reply Answer) × (v : World) × (z : Room) × Honest (record { call = c; handed = w; lent = x; reply = y; left = v; back = z })

  -- There is a run B for every run A.
  abbrev pub Repeats : Type 0
  Repeats = (es : List Made) → RunA es → (bs : List Made) × RunB bs × (calls bs ≡ calls (standing es))

  -- What the calls since the last opening add up to.
  abbrev pub since : (Act → ℕ) → List Asked → ℕ
  since f [] = 0
  since f (opening o l ∷ cs) = 0
  since f (doing c ∷ cs) = since f cs + f c
  since f (saving n ∷ cs) = since f cs
  since f (rewinding b l ∷ cs) = since f cs

  -- Bytes that run A wrote can be taken up again at its end: they are what the study writes that the definition gives for the calls of their
  -- latest copy; and into stores of that study's lengths the rewind is accepted, and gives that study.
  pub record Resumable (es : List Made) (b : Bytes) : Type 0 where
    pub answers : List Answer
    pub held : Study
    pub defined : replay (calls (latest b (standing es) (past es).copies)) ≡ reached answers (some held)
    pub text : b ≡ bytes held
    pub world : World
    pub of : study world ≡ some held
    pub rewound : (e : Made) → e.call ≡ rewinding b (lengths world) → Honest e → (z : Answer) × (e.reply ≡ accepted z) × (study e.left ≡ some held)

  abbrev pub Resumes : Type 0
  Resumes = (es : List Made) → RunA es → (b : Bytes) → Wrote b es → Resumable es b
