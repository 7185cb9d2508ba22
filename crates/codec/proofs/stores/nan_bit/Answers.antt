use mathlib.Core.Path.{sym}
use native.Mathlib.Omega.{arith}
use Rattle.codec.proofs.Patterns.{low_fine}
use Rattle.codec.proofs.stores.nan_bit.Goals as goal

pub returns : goal.returns
returns c = (omega arith, λ z. sym (low_fine _ (omega (arith, z))))
