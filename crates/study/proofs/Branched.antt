-- The worked run that went back to a branch agrees with a run B of the calls that stand. Apart from Worked.antt, so that an edit of that run falls there.
use mathlib.Core.Path.{sym, ap}
use Rattle.study.specs.History.{calls, Agreed}
use Rattle.study.specs.Calls.{engine}
use Rattle.study.proofs.Proved.{demand_3}
use Rattle.study.proofs.Worked.{run₁₇, is_run₁₇, stands₁₇, run_b₁₇, is_run_b₁₇}

pub agreed₁₇ : Agreed engine run₁₇ run_b₁₇
agreed₁₇ = demand_3.claim run₁₇ is_run₁₇ run_b₁₇ is_run_b₁₇ (ap (calls engine) (sym stands₁₇))
