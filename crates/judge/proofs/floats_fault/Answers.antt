use Rattle.std.proofs.Common.{rules, ◌≡◌, ◌+◌, ◌*◌, refl, sym, ap, ◌∙◌, drop, get_or, drop_of_length-le}
use Rattle.refusals.specs.Refusals.{code}
use Rattle.frames.specs.declared.Frame.{Frame}
use Rattle.format.specs.Records.{record_fault, records_fault}
use Rattle.format.specs.Rewind.{floats_record}
use Rattle.judge.specs.Inner.Places.{floats_records}
use Rattle.judge.proofs.Judged.{walk_stays, walk_goes, walk_room, walk_ends, next_records}
use Rattle.judge.proofs.floats_fault.Goals as goal

pub take_floats-requires : goal.take_floats-requires
take_floats-requires c = (c.loop-mark.invariant.within, c.requires.1 c.loop-mark.mark-index _ c.loop-mark-test.true)

pub returns-in_err-at : goal.returns-in_err-at
returns-in_err-at c =
    let a = c.args in
    let l = c.loop-mark in
    let r = get_or a.records.now l.mark-index (0, 0) in
    let told : code c.from_residual.result ≡ record_fault (floats_record r.0 r.1) (drop l.at a.b.now) = search rules in
    walk_stays (floats_record r.0 r.1) (floats_records (drop (l.mark-index + 1) a.records.now)) a.b.now l.at _ (search rules) told
    ∙ sym (l.invariant.rest ∙ ap (λ es. records_fault es (drop l.at a.b.now)) (next_records a.records.now l.mark-index _ c.loop-mark-test.true))

pub loop-mark-preserved : goal.loop-mark-preserved
loop-mark-preserved c =
    let a = c.args in
    let l = c.loop-mark in
    let r = get_or a.records.now l.mark-index (0, 0) in
    let fine = c.in_ok-at.ensures.fault in
    let next : c.in_ok-at.field-0.next ≡ l.at + 6 + 8 * r.1 = ap (λ (f : Frame). f.next) c.in_ok-at.ensures.frame in
    record {
      within = walk_room (floats_record r.0 r.1) a.b.now l.at fine next l.invariant.within;
      rest = l.invariant.rest ∙ ap (λ es. records_fault es (drop l.at a.b.now)) (next_records a.records.now l.mark-index _ c.loop-mark-test.true)
          ∙ sym (walk_goes (floats_record r.0 r.1) (floats_records (drop (l.mark-index + 1) a.records.now)) a.b.now l.at fine next refl);
    }

pub returns : goal.returns
returns c =
    let a = c.args in
    let l = c.loop-mark in
    walk_ends a.b.now l.at l.invariant.within (search rules)
    ∙ sym (l.invariant.rest ∙ ap (λ rs. records_fault (floats_records rs) (drop l.at a.b.now)) (drop_of_length-le a.records.now c.loop-mark-test.false))
