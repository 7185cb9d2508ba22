-- The electric half step cell by cell: what a cell's new numbers are taken from, and the stores while the cells of a row are moved on. Definitions only.
use Rattle.std.specs.Prelude.{ℕ, ◌+◌, Bool, List, get_or, Float}
use Rattle.std.specs.Float.{nan}
use Rattle.fdtd.specs.declared.Axis.{Axis}
use Rattle.fdtd.specs.declared.Coef.{Coef}
use Rattle.fdtd.specs.declared.turns.Turn.{Turn}
use Rattle.fdtd.specs.Yee.{updated_e}
use Rattle.fdtd.specs.Inner.Begun.{Rule, Doing}
use Rattle.fdtd.specs.Inner.Cell.{curl_by, first_by, second_by}
use Rattle.electric.specs.declared.row.Change.{Change}
use Rattle.electric.specs.Inner.Row.{dp_of}
use Rattle.fdtd.specs.Inner.Turns.{on_r, on_s, on_t}
use Rattle.electric.specs.Inner.Swept.{made_of, down_r, down_s, down_t}

-- as field_e of Row.antt, with the layers' numbers and whether the cell moves in hand
module _ (A B C : Axis) (count : ℕ) (h mem : List Float) (cell downB down_c : ℕ) (moves : Bool) (kb kc : Coef) where
  unfoldable pub field_by : (ca cb dt dp : Float) → (e : List Float) → Float
  field_by a b dt dp e = updated_e moves a b dt dp (curl_by A B C count h mem cell downB cell down_c cell kb kc) (get_or e (A.at + cell) nan)

-- the electric half step's rule: differences go from the cell before to the cell
abbrev pub rule_e : (h : List Float) → Change → (poles : List Float) → (ca cb : Float) → Rule
rule_e h w poles a b =
    record {
      field = λ A B C count e m cell downB down_c moves kb kc. field_by A B C count h m cell downB down_c moves kb kc a b w.dt (dp_of w poles (A.at + cell)) e;
      first = λ A B C count m cell downB down_c moves kb kc. first_by A B C count h m cell downB cell down_c cell kb kc moves;
      second = λ A B C count m cell downB down_c moves kb kc. second_by A B C count h m cell downB cell down_c cell kb kc moves;
    }

-- the rows before (s, t) and the first i cells of it are moved on from the stores e₀ and m₀
abbrev pub Sweeping : (eps0 : Float) → Change → Turn → (h media tab poles e₀ m₀ : List Float) → (s t i : ℕ) → (e m : List Float) → Type 0
Sweeping eps0 w g h media tab poles e₀ m₀ s t i e m =
    Doing g (made_of eps0 w g g.r g.s g.t on_s on_t (down_s g) (down_t g) h media tab poles e₀ m₀)
    (made_of eps0 w g g.s g.t g.r on_t on_r (down_t g) (down_r g) h media tab poles e₀ m₀)
    (made_of eps0 w g g.t g.r g.s on_r on_s (down_r g) (down_s g) h media tab poles e₀ m₀) e₀ m₀ s t i e m

-- one cell more
abbrev pub Moving : (eps0 : Float) → Change → Turn → (h media tab poles : List Float) → (s t i : ℕ) → (e m e' m' : List Float) → Type 0
Moving eps0 w g h media tab poles s t i e m e' m' =
    (e₀ m₀ : List Float) → Sweeping eps0 w g h media tab poles e₀ m₀ s t i e m → Sweeping eps0 w g h media tab poles e₀ m₀ s t (i + 1) e' m'
