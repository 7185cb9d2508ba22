use denote.Floats.{passes}
use lib.Dec.{T}
use lib.Ieee.{binary64, fits}
use Rattle.root.specs.Root.{IsRoot}
use Rattle.root.proofs.Computed.{rooted}
use Rattle.root.proofs.Cases.{at_nan, at_zero, at_negative, at_inf, rest, at_positive}
use Rattle.std.proofs.Common.{sym, ◌∙◌}
use Rattle.root.proofs.root.Goals as goal
use Rattle.root.proofs.root.Goals.{then-is_nan-via-then-is_nan, then-is_nan-via-else-is_nan+then-x, then-is_nan-via-else-is_nan+else-x+then-x-2}

pub returns-then-is_nan : goal.returns-then-is_nan
returns-then-is_nan c =
    let held : T (fits binary64 c.args.x) = passes _ c.well_formed.0.1 in
    let is : IsRoot c.args.x c.args.x = elim c.then-is_nan.branch [ then-is_nan-via-then-is_nan w ↦ at_nan _ (sym c.is_nan.ensures.value ∙ w.if-is_nan.true) | then-is_nan-via-else-is_nan+then-x w ↦ at_zero _ w.if-x.true | then-is_nan-via-else-is_nan+else-x+then-x-2 w ↦ at_inf _ w.if-x-2.true ] in
    rooted _ _ held is

pub returns-then-x-3 : goal.returns-then-x-3
returns-then-x-3 c =
    let held : T (fits binary64 c.args.x) = passes _ c.well_formed.0.1 in
    rooted _ _ held (at_negative _ c.if-x-3.true)

pub of_positive-requires : goal.of_positive-requires
of_positive-requires c = rest _ (sym c.is_nan.ensures.value ∙ c.if-is_nan.false) c.if-x.false c.if-x-3.false c.if-x-2.false

pub returns : goal.returns
returns c =
    let positive = rest _ (sym c.is_nan.ensures.value ∙ c.if-is_nan.false) c.if-x.false c.if-x-3.false c.if-x-2.false in
    let held : T (fits binary64 c.args.x) = passes _ c.well_formed.0.1 in
    rooted _ _ held (at_positive _ _ positive c.of_positive.ensures)
