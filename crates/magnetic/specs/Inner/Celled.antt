-- The magnetic half step cell by cell: what a cell's new numbers are taken from, and the stores while the cells of a row are moved on. Definitions only.
use Rattle.std.specs.Prelude.{ℕ, ◌+◌, Bool, List, get_or, Float}
use Rattle.std.specs.Float.{nan}
use Rattle.fdtd.specs.declared.Axis.{Axis}
use Rattle.fdtd.specs.declared.Coef.{Coef}
use Rattle.fdtd.specs.declared.turns.Turn.{Turn}
use Rattle.fdtd.specs.Yee.{updated_h}
use Rattle.fdtd.specs.Inner.Begun.{Rule, Doing}
use Rattle.fdtd.specs.Inner.Cell.{curl_by, first_by, second_by}
use Rattle.fdtd.specs.Inner.Turns.{on_r, on_s, on_t}
use Rattle.magnetic.specs.Inner.Swept.{made_of, up_r, up_s, up_t}

-- as field_h of Row.antt, with the layers' numbers and whether the cell moves in hand
module _ (A B C : Axis) (count : ℕ) (e mem : List Float) (cell upB up_c : ℕ) (moves : Bool) (kb kc : Coef) where
  unfoldable pub field_by : (factor : Float) → (h : List Float) → Float
  field_by f h = updated_h moves f (curl_by A B C count e mem cell cell upB cell up_c kb kc) (get_or h (A.at + cell) nan)

-- the magnetic half step's rule: differences go from a cell to the one after
abbrev pub rule_h : (e : List Float) → (factor : Float) → Rule
rule_h e f =
    record {
      field = λ A B C count h m cell upB up_c moves kb kc. field_by A B C count e m cell upB up_c moves kb kc f h;
      first = λ A B C count m cell upB up_c moves kb kc. first_by A B C count e m cell cell upB cell up_c kb kc moves;
      second = λ A B C count m cell upB up_c moves kb kc. second_by A B C count e m cell cell upB cell up_c kb kc moves;
    }

-- the rows before (s, t) and the first i cells of it are moved on from the stores h₀ and m₀
abbrev pub Sweeping : (mu0 : Float) → Turn → (e media tab h₀ m₀ : List Float) → (s t i : ℕ) → (h m : List Float) → Type 0
Sweeping mu0 g e media tab h₀ m₀ s t i h m =
    Doing g (made_of mu0 g g.r g.s g.t on_s on_t (up_s g) (up_t g) e media tab h₀ m₀)
    (made_of mu0 g g.s g.t g.r on_t on_r (up_t g) (up_r g) e media tab h₀ m₀)
    (made_of mu0 g g.t g.r g.s on_r on_s (up_r g) (up_s g) e media tab h₀ m₀) h₀ m₀ s t i h m

-- one cell more
abbrev pub Moving : (mu0 : Float) → Turn → (e media tab : List Float) → (s t i : ℕ) → (h m h' m' : List Float) → Type 0
Moving mu0 g e media tab s t i h m h' m' =
    (h₀ m₀ : List Float) → Sweeping mu0 g e media tab h₀ m₀ s t i h m → Sweeping mu0 g e media tab h₀ m₀ s t (i + 1) h' m'
