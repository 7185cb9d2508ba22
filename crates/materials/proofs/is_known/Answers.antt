use mathlib.Core.Path.{sym, ap}
use Rattle.materials.specs.Materials.{is_known}
use Rattle.materials.proofs.is_known.Goals as goal

pub returns-in-Numbers : goal.returns-in-Numbers
unfolding is_known
returns-in-Numbers c = sym (ap (is_known c.args.r) c.in-Numbers.is)

pub returns-in-Library : goal.returns-in-Library
unfolding is_known
returns-in-Library c = sym (ap (is_known c.args.r) c.in-Library.is)
