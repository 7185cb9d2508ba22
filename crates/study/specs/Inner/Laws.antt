-- What a machine has to show of its definition for the claim of History.antt to hold of it: the proof of demand 3 asks for these, and the claim does not speak of
-- them. Definitions only.
use Rattle.std.specs.Prelude.{ℕ, ◌+◌, ◌≡◌, List}
use Rattle.std.proofs.Math.Option.{none, some}
use Rattle.study.specs.History.{given, Machine, Made, RunA, holds, calls, standing, since}

module _ (M : Machine) where
  open M use {World, Study, Open, Act, Lengths, Answer, study, Unchanged, lengths, opens, acts, saves, loads, written, bytes}

  -- A clock: 0 at an opening, moved on by each act by its weight, kept by a save.
  pub record Ticking : Type 0 where
    pub tick : Study → ℕ
    pub weight : Act → ℕ
    pub opens_at_0 : (o : Open) (l : Lengths) (a : Answer) (t : Study) → opens o l ≡ given a t → tick t ≡ 0
    pub acts_by : (c : Act) (s : Study) (a : Answer) (t : Study) → acts c (some s) ≡ given a t → tick t ≡ tick s + weight c
    pub saves_by_0 : (n : ℕ) (s : Study) (a : Answer) (t : Study) → saves n (some s) ≡ given a t → tick t ≡ tick s

  -- The clock after run A is the one of the calls that stand.
  abbrev pub Timed : Ticking → Type 0
  Timed k = (es : List (Made M)) → RunA M es → (w : World) (s : Study) → holds M es ≡ some w → study w ≡ some s
      → k.tick s ≡ since M k.weight (calls M (standing M es))

  -- `Fitting` is the machine's own: what the study of every world has, as that the numbers fit their types.
  -- (Studies are lists of numbers of any size; a save can only give back what it has room for.) No formula has to be shown to keep it: every
  -- record and store of a run is a World.
  pub record Laws : Type 1 where
    pub Fitting : Study → Type 0
    pub worlds_fit : (w : World) (s : Study) → study w ≡ some s → Fitting s
    -- A world is itself unchanged, and what is unchanged has the same study.
    pub unchanged_self : (w : World) → Unchanged w w
    pub unchanged_study : (w v : World) → Unchanged w v → study v ≡ study w
    -- A call on no study is turned down.
    pub acts_on_lem : (c : Act) (a : Answer) (t : Study) → acts c none ≡ given a t → ⊥
    pub saves_of : (n : ℕ) (a : Answer) (t : Study) → saves n none ≡ given a t → ⊥
    -- An accepted save leaves the study, and its answer is what the study writes.
    pub save_keeps : (n : ℕ) (s : Study) (a : Answer) (t : Study) → saves n (some s) ≡ given a t → t ≡ s
    pub save_writes : (n : ℕ) (s : Study) (a : Answer) (t : Study) → saves n (some s) ≡ given a t → written a ≡ bytes s
    -- A rewind to it, where accepted, gives the study that was written; and it is accepted where what is lent has the lengths.
    pub restores : (n : ℕ) (s : Study) (a : Answer) (t : Study) → Fitting s → saves n (some s) ≡ given a t
        → (l : Lengths) (z : Answer) (u : Study) → loads (bytes s) l ≡ given z u → u ≡ s
    pub rereads : (n : ℕ) (s : Study) (a : Answer) (t : Study) (w : World) → study w ≡ some s → saves n (some s) ≡ given a t
        → (z : Answer) × (loads (bytes s) (lengths w) ≡ given z s)
