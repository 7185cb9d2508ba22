use mathlib.Core.Path.{sym}
use mathlib.Core.List.{[], ◌∷◌}
use Rattle.codec.proofs.Row.{row_at}
use Rattle.reads.proofs.front_at.Goals as goal

pub returns : goal.returns
returns c = let a = c.args in rw (c.byte_at.ensures, c.get_u64-3.ensures, c.get_u64-2.ensures, c.get_u64.ensures) (sym (row_at 8 (8 ∷ 8 ∷ 1 ∷ []) a.s.now a.at))
