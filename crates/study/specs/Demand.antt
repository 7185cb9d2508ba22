-- The client's three demands as three claims about this project's C functions (include/cichowiej.h): cichowiej_open, cichowiej_save, cichowiej_rewind and every function
-- that `Act` names. A reader begins here; the client's words stand above each field. Lists have the newest call first. Definitions only.
use Rattle.std.specs.Prelude.{ℕ, ◌≡◌, true, false, List, [], ◌∷◌, T, Float}
use Rattle.std.proofs.Math.Option.{some}
use Rattle.codec.specs.Bytes.{bytes_fit}
use Rattle.grid.specs.Vacuum.{eps_of, mu_of, light_of}
use Rattle.step.specs.Step.{stepped, ticked}
use Rattle.format.specs.Save.{save_bytes}
use Rattle.format.specs.Rewind.{is_old}
use Rattle.format.specs.ReadBack.{widened}
use Rattle.study.specs.History.{doing, turned, given, refused, reached, does, replay, Made, Honest, RunA, holds, standing, calls, since, Claim, Returns, Repeats, Resumes}
use Rattle.study.specs.World.{World, Unchanged, Lent, lent_in, Study, study_of, step, run, Asked, Answer, nothing, puts, written_in}
use Rattle.study.specs.Calls.{acts_on, saves_in, loads_from, engine, weight_of}

-- Of a made call that meets its contract (`Honest`): every C function's contract says that the call it makes does.
pub record Demand1 : Type 0 where
  -- "finishes on every input": every call that can be made has an outcome (that the code returns is proved with each function)
  pub returns : Returns engine
  -- "after a refusal has written nothing": block and stores are as they were, and in the room for an answer stands the answer of a refusal, 0, +0.0, no axis or no byte
  pub unwritten : (e : Made engine) (n : ℕ) (a : Answer) → Honest engine e → e.reply ≡ refused n a → Unchanged e.handed e.left × (e.back ≡ puts a e.lent)
  -- "and names the first fault in document 01's order": the number is the definition's (`settled`, from the fault that each `foo_call` judges by)
  pub names : (e : Made engine) (n : ℕ) (a : Answer) → Honest engine e → e.reply ≡ refused n a → does engine e.call (study_of e.handed) ≡ turned n a

pub record Demand2 : Type 0 where
  -- "Each number after a step is the one that `Tfsf::step` gives": an accepted step leaves the numbers of `stepped` (step/specs/Step.antt) and moves the clock on, by the
  -- constants that the record names
  pub steps : (t u : Study) (x : Float) (a : Answer) → acts_on (step x) (some t) ≡ given a u
      → (u.rec ≡ ticked t.rec) × (u.kept ≡ stepped (eps_of t.rec) (mu_of t.rec) (light_of t.rec) t.rec x t.kept)
  -- "A save read gives the study written, NaNs again as one": of every study that memory holds, into block and stores of its lengths
  pub reads : (w : World) (t u : Study) → study_of w ≡ some t → (n : ℕ) (a : Answer) → saves_in n (some t) ≡ given a u → loads_from (written_in a) (lent_in w) ≡ given nothing t
  -- "and an accepted save is what its study writes": of all bytes that a rewind takes, whatever it is lent
  pub writes : (b : List ℕ) → T (bytes_fit b) → (l : Lent) (a : Answer) (t : Study) → loads_from b l ≡ given a t → is_old b ≡ false → save_bytes t.rec t.kept ≡ b
  -- (document 02, S-7) "a GH of 73 is still read, as 0, and the next save writes 74"
  pub widens : (b : List ℕ) → T (bytes_fit b) → (l : Lent) (a : Answer) (t : Study) → loads_from b l ≡ given a t → is_old b ≡ true → save_bytes t.rec t.kept ≡ widened b

-- the steps of a run, on top of the calls before it, and what they answer
abbrev pub steps_on : List Float → List Asked → List Asked
steps_on [] cs = cs
steps_on (x ∷ xs) cs = steps_on xs (doing (step x) ∷ cs)

abbrev pub silent_on : List Float → List Answer → List Answer
silent_on [] ans = ans
silent_on (x ∷ xs) ans = silent_on xs (nothing ∷ ans)

pub record Demand3 : Type 0 where
  -- "For every list of calls on a study record (openings, edits, steps, readings, saves, rewinds, refused ones among them) from an accepted opening on, whatever the
  -- samples: run A makes them all. In either run each accepted one, opening and rewind apart, gets the record and stores that this run's last accepted one left, and an
  -- accepted rewind a save that an earlier call of run A wrote; between calls nobody else writes these [`RunA`]. Run B makes, on its own record and stores and with
  -- otherwise equal arguments, only the accepted calls that A's rewinds left standing, in order [`RunB`, `standing`]. At the end B has refused none and answered each as A
  -- did and as demand 2 asks; both hold the study that demand 2's definition gives for those calls, every number and the clock equal; any further call with equal
  -- arguments gets equal answers, and their saves are byte-equal [`Agreed`]."
  pub claim : Claim engine
  -- "run A makes them all": for every call that can be made there is an outcome as its definition says
  pub returns : Returns engine
  -- "Run B makes ..": there is such a run for every run A
  pub repeats : Repeats engine
  -- "and the clock equal" (document 01: "An invented step number differs from the steps of the history since its last opening")
  pub clock : (es : List (Made engine)) → RunA engine es → (w : World) (t : Study) → holds engine es ≡ some w → study_of w ≡ some t
      → t.rec.clock.steps ≡ since engine weight_of (calls engine (standing engine es))
  -- "Saves are kept, and any of them can be taken up again" (document 01: "its bytes are what that list's study writes")
  pub resumes : Resumes engine
  -- "steps": where a run of many steps is accepted, its steps, one by one, reach what it reaches
  pub steps : (xs : List Float) (cs : List Asked) (ans : List Answer) (t : Study)
      → replay engine (doing (run xs) ∷ cs) ≡ reached (nothing ∷ ans) (some t) → replay engine (steps_on xs cs) ≡ reached (silent_on xs ans) (some t)
