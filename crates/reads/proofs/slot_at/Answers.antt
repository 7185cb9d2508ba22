use mathlib.Core.Path.{sym}
use mathlib.Core.List.{[], ◌∷◌}
use Rattle.codec.proofs.Row.{row_at}
use Rattle.reads.proofs.slot_at.Goals as goal

pub returns : goal.returns
returns c = let a = c.args in rw (c.get_u64-3.ensures, c.get_u64-2.ensures, c.get_u64.ensures, c.byte_at.ensures) (sym (row_at 1 (8 ∷ 8 ∷ 8 ∷ []) a.s.now a.at))
