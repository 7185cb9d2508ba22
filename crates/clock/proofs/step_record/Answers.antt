use Rattle.std.proofs.Common.{rules, ◌≡◌, IsErr}
use Rattle.refusals.specs.Refusals.{code}
use Rattle.refusals.proofs.Numbers.{stands_in}
use Rattle.step.specs.Step.{step_call}
use Rattle.clock.proofs.Refused.{left}
use Rattle.clock.proofs.step_record.Goals as goal

pub returns-in_err-step : goal.returns-in_err-step
unfolding step_call
returns-in_err-step c =
    let same : code c.from_residual.result ≡ code c.step.result = search rules in
    let refused : IsErr c.step.result = search rules in
    let stood : IsErr c.from_residual.result = search rules in
    rw (stands_in _ stood c.args.r.clock, same) (left c.step.result _ _ _ _ _ _ _ refused c.step.ensures)
