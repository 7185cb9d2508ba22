use Rattle.std.proofs.Common.{rules, arith, ◌≡◌, ◌+◌, ◌*◌, ap, ◌∙◌, drop}
use Rattle.frames.specs.declared.Frame.{Frame}
use Rattle.refusals.specs.Refusals.{code}
use Rattle.codec.specs.Bytes.{all_fine}
use Rattle.codec.specs.Frame.{frame_fault}
use Rattle.format.specs.Rewind.{floats_record}
use Rattle.judge.proofs.Judged.{frame_stays, frame_goes, frame_left}
use Rattle.judge.proofs.take_floats.Goals as goal

pub returns-in_err-f-clause-fault : goal.returns-in_err-f-clause-fault
returns-in_err-f-clause-fault c =
    let a = c.args in
    let told : code c.from_residual.result ≡ frame_fault a.mark (8 * a.n) (drop a.at a.b.now) = search rules in
    frame_stays (floats_record a.mark a.n) a.b.now a.at _ (search rules) told

pub check_f64s-requires : goal.check_f64s-requires
check_f64s-requires c =
    let a = c.args in
    let start : c.in_ok-f.f.start ≡ a.at + 6 = ap (λ (f : Frame). f.start) c.in_ok-f.ensures.frame in
    omega (arith, start, frame_left (floats_record a.mark a.n) a.b.now a.at c.in_ok-f.ensures.fault c.requires.0)

pub returns-in_err-require-clause-fault : goal.returns-in_err-require-clause-fault
returns-in_err-require-clause-fault c =
    let a = c.args in
    let own : c.check_f64s.result ≡ all_fine a.n (drop (a.at + 6) a.b.now) = c.check_f64s.ensures ∙ ap (λ (f : Frame). all_fine a.n (drop f.start a.b.now)) c.in_ok-f.ensures.frame in
    frame_goes (floats_record a.mark a.n) a.b.now a.at c.in_ok-f.ensures.fault _ own (search rules)

pub returns-clause-fault : goal.returns-clause-fault
returns-clause-fault c =
    let a = c.args in
    let own : c.check_f64s.result ≡ all_fine a.n (drop (a.at + 6) a.b.now) = c.check_f64s.ensures ∙ ap (λ (f : Frame). all_fine a.n (drop f.start a.b.now)) c.in_ok-f.ensures.frame in
    frame_goes (floats_record a.mark a.n) a.b.now a.at c.in_ok-f.ensures.fault _ own (search rules)
