use Prim.Native.Nat.{◌-◌, ◌^◌, ◌<◌}
use native.Mathlib.Omega.{arith}
use denote.Floats.{passes}
use lib.Ieee.{binary64, to_bits}
use Rattle.root.proofs.Fields.{Read, read, no_nan, number_bits}
use Rattle.root.proofs.Result.{radicand_high, root_high, result_nearest}
use Rattle.root.proofs.of_positive.Goals as goal

pub scale_up-n-requires : goal.scale_up-n-requires
scale_up-n-requires c =
    let pattern : Read c.args.x (to_bits binary64 c.args.x) = read c.args.x (passes _ c.well_formed.0.1) c.requires in
    (pattern.field, omega arith, pattern.some)

pub float_from_bits-result : goal.float_from_bits-result
float_from_bits-result c =
    let high : c.digits-q.result < 2 ^ 54 - 1 = root_high _ _ c.digits-q.ensures (radicand_high _ _ _ c.scale_up-n.ensures) in
    number_bits _ (omega (arith, high, c.scale_up-n.ensures.small))

pub returns : goal.returns
returns c =
    let pattern : Read c.args.x (to_bits binary64 c.args.x) = read c.args.x (passes _ c.well_formed.0.1) c.requires in
    result_nearest c.args.x _ _ _ _ pattern.value c.scale_up-n.ensures c.digits-q.ensures

pub float_to_bits-b : goal.float_to_bits-b
float_to_bits-b c = no_nan _ c.requires
