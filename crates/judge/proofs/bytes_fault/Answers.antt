use Rattle.std.proofs.Common.{rules, arith, ◌≡◌, ◌+◌, ap, ◌∙◌, refl, drop}
use Rattle.frames.specs.declared.Frame.{Frame}
use Rattle.refusals.specs.Refusals.{code}
use Rattle.heads.specs.Payloads.{head_by}
use Rattle.format.specs.Records.{record_fault}
use Rattle.format.specs.Rewind.{is_old, size_by, head_record, table, table_by, bytes_fault}
use Rattle.judge.proofs.Judged.{walk_stays, head_room, head_fits, bytes_rest}
use Rattle.judge.proofs.bytes_fault.Goals as goal

pub returns-in_err-head : goal.returns-in_err-head
unfolding bytes_fault table_by table
returns-in_err-head c =
    let b = c.args.b.now in
    let told : code c.from_residual.result ≡ record_fault (head_record (is_old b)) (drop 0 b) = search rules in
    walk_stays (head_record (is_old b)) _ b 0 _ (search rules) told

pub head_at-g-requires : goal.head_at-g-requires
head_at-g-requires c =
    let start : c.in_ok-head.head.start ≡ 6 = ap (λ (f : Frame). f.start) c.in_ok-head.ensures.frame in
    omega (arith, start, head_room _ c.args.b.now 0 c.in_ok-head.ensures.fault refl)

pub rest_fault-requires : goal.rest_fault-requires
rest_fault-requires c =
    let b = c.args.b.now in
    let g : c.head_at-g.result ≡ head_by c.is_old-old.result (drop 6 b) = c.head_at-g.ensures ∙ ap (λ (f : Frame). head_by c.is_old-old.result (drop f.start b)) c.in_ok-head.ensures.frame in
    let next : c.in_ok-head.head.next ≡ 6 + size_by c.is_old-old.result = ap (λ (f : Frame). f.next) c.in_ok-head.ensures.frame in
    head_fits _ b c.in_ok-head.ensures.fault g next (λ i. (c.type_inv.b i).fits)

pub returns : goal.returns
returns c =
    let b = c.args.b.now in
    let g : c.head_at-g.result ≡ head_by c.is_old-old.result (drop 6 b) = c.head_at-g.ensures ∙ ap (λ (f : Frame). head_by c.is_old-old.result (drop f.start b)) c.in_ok-head.ensures.frame in
    let next : c.in_ok-head.head.next ≡ 6 + size_by c.is_old-old.result = ap (λ (f : Frame). f.next) c.in_ok-head.ensures.frame in
    bytes_rest b c.is_old-old.ensures c.in_ok-head.ensures.fault g next c.rest_fault.ensures
