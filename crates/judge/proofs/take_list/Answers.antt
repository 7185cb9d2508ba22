use Rattle.std.proofs.Common.{rules, arith, ◌≡◌, ◌+◌, ◌*◌, ap, ◌∙◌, drop}
use Rattle.frames.specs.declared.Frame.{Frame}
use Rattle.refusals.specs.Refusals.{code}
use Rattle.codec.specs.Frame.{frame_fault}
use Rattle.heads.specs.Numbers.{ml_length}
use Rattle.heads.specs.Payloads.{count_of}
use Rattle.format.specs.Save.{mark_ml}
use Rattle.format.specs.Rewind.{list_good, list_record}
use Rattle.judge.proofs.Judged.{frame_stays, frame_goes, frame_left}
use Rattle.judge.proofs.take_list.Goals as goal

pub returns-in_err-f-clause-fault : goal.returns-in_err-f-clause-fault
returns-in_err-f-clause-fault c =
    let a = c.args in
    let told : code c.from_residual.result ≡ frame_fault mark_ml (ml_length * count_of a.g) (drop a.at a.b.now) = search rules in
    frame_stays (list_record a.g) a.b.now a.at _ (search rules) told

pub list_good-requires : goal.list_good-requires
list_good-requires c =
    let a = c.args in
    let start : c.in_ok-f.f.start ≡ a.at + 6 = ap (λ (f : Frame). f.start) c.in_ok-f.ensures.frame in
    (omega (arith, start, frame_left (list_record a.g) a.b.now a.at c.in_ok-f.ensures.fault c.requires.0), c.requires.1, c.requires.2)

pub returns-in_err-require-clause-fault : goal.returns-in_err-require-clause-fault
returns-in_err-require-clause-fault c =
    let a = c.args in
    let own : c.list_good.result ≡ list_good a.g (drop (a.at + 6) a.b.now) = c.list_good.ensures ∙ ap (λ (f : Frame). list_good a.g (drop f.start a.b.now)) c.in_ok-f.ensures.frame in
    frame_goes (list_record a.g) a.b.now a.at c.in_ok-f.ensures.fault _ own (search rules)

pub returns-clause-fault : goal.returns-clause-fault
returns-clause-fault c =
    let a = c.args in
    let own : c.list_good.result ≡ list_good a.g (drop (a.at + 6) a.b.now) = c.list_good.ensures ∙ ap (λ (f : Frame). list_good a.g (drop f.start a.b.now)) c.in_ok-f.ensures.frame in
    frame_goes (list_record a.g) a.b.now a.at c.in_ok-f.ensures.fault _ own (search rules)
