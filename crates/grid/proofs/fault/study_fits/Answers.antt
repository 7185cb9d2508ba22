use Rattle.grid.specs.Fault.{study_fits}
use Rattle.grid.proofs.Tests.{met, unless}
use Rattle.grid.proofs.Judging.{counts_of}
use Rattle.grid.proofs.fault.study_fits.Goals as goal

pub poles_fit-requires : goal.poles_fit-requires
poles_fit-requires c =
    let k = counts_of _ (met c.counts_fit.ensures c.if-counts_fit.true) in (k.1, k.0)

pub returns-then-counts_fit : goal.returns-then-counts_fit
unfolding study_fits
returns-then-counts_fit c = rw (met c.counts_fit.ensures c.if-counts_fit.true) (cc)

pub returns-else-counts_fit : goal.returns-else-counts_fit
unfolding study_fits
returns-else-counts_fit c = rw (c.if-counts_fit.false, unless c.counts_fit.ensures c.if-counts_fit.false)
