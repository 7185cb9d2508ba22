-- What a program that calls the C functions has of demand 3: a run A that holds what its memory holds. Lists have the newest call first.
-- Definitions only.
use Rattle.std.specs.Prelude.{ℕ, ◌≡◌, List, [], ◌∷◌, ◌++◌, Float}
use Rattle.std.proofs.Math.Option.{some}
use Rattle.grid.specs.Stores.{Stores}
use Rattle.study.specs.History.{Bytes, Made, RunA, Wrote, holds, calls, doing, saving, rewinding}
use Rattle.study.specs.World.{World, Lent, Asked, step}
use Rattle.study.specs.Calls.{engine}

-- These calls are a run A, and it holds this block and these stores.
pub record Holds (es : List (Made engine)) (b : List ℕ) (s : Stores) : Type 0 where
  pub run : RunA engine es
  pub world : World
  pub held : holds engine es ≡ some world
  pub block : world.block ≡ b
  pub kept : world.kept ≡ s

-- The first call of a run, and what it left.
abbrev pub Begins : Asked → (b : List ℕ) → (s : Stores) → Type 0
Begins c b s = (d : Made engine) × (d.call ≡ c) × Holds (d ∷ []) b s

-- A call after those of a run: with it they are a run, which holds what it left.
abbrev pub Next : (es : List (Made engine)) → Asked → (b : List ℕ) → (s : Stores) → Type 0
Next es c b s = (d : Made engine) × (d.call ≡ c) × Holds (d ∷ es) b s

-- So it is after every run that holds this block and these stores, whether the call was accepted or not.
abbrev pub GoesOn : Asked → (b : List ℕ) → (s : Stores) → (b' : List ℕ) → (s' : Stores) → Type 0
GoesOn c b s b' s' = (es : List (Made engine)) → Holds es b s → Next es c b' s'

-- A save is such a call, and leaves block and stores. Where it was accepted, the run has written this text.
abbrev pub Saves : (refusal room : ℕ) → (text : Bytes) → (b : List ℕ) → (s : Stores) → Type 0
Saves n room text b s = (es : List (Made engine)) → Holds es b s
    → (d : Made engine) × (d.call ≡ saving room) × Holds (d ∷ es) b s × (n ≡ 0 → Wrote engine text (d ∷ es))

-- A rewind is one, to a text that the run has written.
abbrev pub Rewinds : (text : Bytes) → Lent → (b : List ℕ) → (s : Stores) → (b' : List ℕ) → (s' : Stores) → Type 0
Rewinds text l b s b' s' = (es : List (Made engine)) → Holds es b s → Wrote engine text es → Next es (rewinding text l) b' s'

-- A step, and a rewind to a text that the run has written.
abbrev pub StepAndBack : (sample : Float) → (text : Bytes) → (b : List ℕ) → (s : Stores) → (b' : List ℕ) → (s' : Stores) → Type 0
StepAndBack x text b s b' s' = (es : List (Made engine)) → Holds es b s → Wrote engine text es
    → (l : Lent) × (ds : List (Made engine)) × (calls engine ds ≡ rewinding text l ∷ doing (step x) ∷ []) × Holds (ds ++ es) b' s'

-- A rewind to an older text, and then one to a text of the branch that this has left.
abbrev pub OverAndBack : (older text : Bytes) → (b : List ℕ) → (s : Stores) → (b' : List ℕ) → (s' : Stores) → Type 0
OverAndBack older text b s b' s' = (es : List (Made engine)) → Holds es b s → Wrote engine older es → Wrote engine text es
    → (k l : Lent) × (ds : List (Made engine)) × (calls engine ds ≡ rewinding text l ∷ rewinding older k ∷ []) × Holds (ds ++ es) b' s'
