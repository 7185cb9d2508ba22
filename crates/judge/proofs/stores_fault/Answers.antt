use Rattle.std.proofs.Common.{rules, ◌≡◌, ◌+◌, ◌*◌, ap, drop}
use Rattle.frames.specs.declared.Frame.{Frame}
use Rattle.refusals.specs.Refusals.{code}
use Rattle.format.specs.Records.{record_fault}
use Rattle.format.specs.Rewind.{ids_record}
use Rattle.judge.proofs.Judged.{walk_stays, walk_goes, walk_room, few_of}
use Rattle.judge.proofs.stores_fault.Goals as goal

pub returns-in_err-ids : goal.returns-in_err-ids
returns-in_err-ids c =
    let a = c.args in
    let told : code c.from_residual.result ≡ record_fault (ids_record a.n.ids) (drop a.at a.b.now) = search rules in
    walk_stays (ids_record a.n.ids) _ a.b.now a.at _ (search rules) told

pub floats_fault-requires : goal.floats_fault-requires
floats_fault-requires c =
    let a = c.args in
    let next : c.in_ok-ids.ids.next ≡ a.at + 6 + 4 * a.n.ids = ap (λ (f : Frame). f.next) c.in_ok-ids.ensures.frame in
    (walk_room (ids_record a.n.ids) a.b.now a.at c.in_ok-ids.ensures.fault next c.requires.0, few_of a.n c.requires.1)

pub returns : goal.returns
returns c =
    let a = c.args in
    let next : c.in_ok-ids.ids.next ≡ a.at + 6 + 4 * a.n.ids = ap (λ (f : Frame). f.next) c.in_ok-ids.ensures.frame in
    walk_goes (ids_record a.n.ids) _ a.b.now a.at c.in_ok-ids.ensures.fault next c.floats_fault.ensures
