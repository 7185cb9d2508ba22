use Rattle.std.proofs.Common.{rules, ◌≡◌, ◌+◌, ◌*◌, ap, sym, subst, ◌∙◌, drop}
use Rattle.frames.specs.declared.Frame.{Frame}
use Rattle.refusals.specs.Refusals.{code}
use Rattle.grid.specs.Inner.Sound.{Sound}
use Rattle.grid.specs.Stores.{store_lengths}
use Rattle.grid.proofs.Judging.{sound}
use Rattle.heads.specs.Numbers.{ml_length}
use Rattle.heads.specs.Payloads.{count_of}
use Rattle.format.specs.Records.{record_fault, records_fault}
use Rattle.format.specs.Rewind.{bare, list_record, store_records}
use Rattle.judge.specs.Inner.Places.{Small}
use Rattle.judge.proofs.Judged.{walk_stays, walk_goes, walk_room, few_materials, small_lengths}
use Rattle.judge.proofs.rest_fault.Goals as goal

pub take_list-requires : goal.take_list-requires
take_list-requires c = let p = c.requires in (p.0, few_materials c.args.g p.2, p.1)

pub returns-in_err-list : goal.returns-in_err-list
returns-in_err-list c =
    let a = c.args in
    let told : code c.from_residual.result ≡ record_fault (list_record a.g) (drop a.at a.b.now) = search rules in
    walk_stays (list_record a.g) _ a.b.now a.at _ (search rules) told

pub store_lengths-lengths-requires : goal.store_lengths-lengths-requires
store_lengths-lengths-requires c = subst Sound (sym c.bare_record.ensures) (sound (bare c.args.g) c.requires.2)

pub stores_fault-requires : goal.stores_fault-requires
stores_fault-requires c =
    let a = c.args in
    let next : c.in_ok-list.list.next ≡ a.at + 6 + ml_length * count_of a.g = ap (λ (f : Frame). f.next) c.in_ok-list.ensures.frame in (
      walk_room (list_record a.g) a.b.now a.at c.in_ok-list.ensures.fault next c.requires.0,
      subst Small (sym (c.store_lengths-lengths.ensures ∙ ap store_lengths c.bare_record.ensures)) (small_lengths (bare a.g) (sound (bare a.g) c.requires.2)),
    )

pub returns : goal.returns
returns c =
    let a = c.args in
    let next : c.in_ok-list.list.next ≡ a.at + 6 + ml_length * count_of a.g = ap (λ (f : Frame). f.next) c.in_ok-list.ensures.frame in
    let lengths = c.store_lengths-lengths.ensures ∙ ap store_lengths c.bare_record.ensures in
    walk_goes (list_record a.g) (store_records (store_lengths (bare a.g))) a.b.now a.at c.in_ok-list.ensures.fault next
    (c.stores_fault.ensures ∙ ap (λ n. records_fault (store_records n) (drop c.in_ok-list.list.next a.b.now)) lengths)
