use native.Mathlib.Omega.{arith}
use Rattle.lines.proofs.Judged.{refused_listing, study_listing}
use Rattle.lines.proofs.Written.{wrote_as, wrote_wider}
use Rattle.lines.proofs.put_listing.Goals as goal

pub returns-in-Ok : goal.returns-in-Ok
returns-in-Ok c = wrote_as (study_listing _ c.in-Ok.ensures.fault) c.put_study.ensures

pub returns-in-Err : goal.returns-in-Err
returns-in-Err c = wrote_as (refused_listing _ _ c.in-Err.ensures.fault) (wrote_wider (omega arith) c.put_refusal.ensures)
