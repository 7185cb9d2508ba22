-- A cell's curl and memories by where its numbers stand. Definitions only.
use Rattle.std.specs.Prelude.{ℕ, ◌+◌, Bool, List, get_or, Float}
use Rattle.std.specs.Float.{nan}
use Rattle.fdtd.specs.declared.Axis.{Axis}
use Rattle.fdtd.specs.declared.Coef.{Coef}
use Rattle.fdtd.specs.Yee.{Term, term, coef_at, derivative, curl, memory_after}

-- the two terms of the number along A, with the layers' numbers in hand: the cell's differences go from loB to hiB and from loC to hiC
module _ (A B C : Axis) (count : ℕ) (field mem : List Float) (cell loB hiB loC hiC : ℕ) where
  abbrev pub term_b : Coef → Term
  term_b k = term B.on k (get_or mem (A.mem + cell) nan) (derivative B C field loB hiB)

  abbrev pub term_c : Coef → Term
  term_c k = term C.on k (get_or mem (A.mem + count + cell) nan) (derivative C B field loC hiC)

  unfoldable pub curl_by : (kb kc : Coef) → Float
  curl_by kb kc = curl (term_b kb) (term_c kc)

  unfoldable pub first_by : (kb kc : Coef) → (moves : Bool) → Float
  first_by kb kc moves = memory_after moves (term_b kb)

  unfoldable pub second_by : (kb kc : Coef) → (moves : Bool) → Float
  second_by kb kc moves = memory_after moves (term_c kc)

-- and with the tables: the cell has the places onB and onC
module _ (A B C : Axis) (count : ℕ) (field tab mem : List Float) (cell onB onC loB hiB loC hiC : ℕ) where
  unfoldable pub curl_on : Float
  curl_on = curl (term_b A B C count field mem cell loB hiB loC hiC (coef_at B tab onB)) (term_c A B C count field mem cell loB hiB loC hiC (coef_at C tab onC))

  unfoldable pub first_on : Bool → Float
  first_on moves = memory_after moves (term_b A B C count field mem cell loB hiB loC hiC (coef_at B tab onB))

  unfoldable pub second_on : Bool → Float
  second_on moves = memory_after moves (term_c A B C count field mem cell loB hiB loC hiC (coef_at C tab onC))
