use Rattle.std.proofs.Common.{rules, arith, ℕ, List, ◌≡◌, ◌≤◌, ap, sym, subst, ◌∙◌, drop, get_or}
use Rattle.frames.specs.declared.Frame.{Frame}
use Rattle.refusals.specs.Refusals.{code}
use Rattle.codec.specs.Frame.{frame_fault}
use Rattle.heads.specs.Payloads.{head_by}
use Rattle.format.specs.Save.{mark_gh}
use Rattle.format.specs.Rewind.{size_by, head_good, head_record}
use Rattle.judge.proofs.Judged.{frame_stays, frame_goes, frame_left, steps_small}
use Rattle.judge.proofs.take_head.Goals as goal

pub returns-in_err-f-clause-fault : goal.returns-in_err-f-clause-fault
returns-in_err-f-clause-fault c =
    let a = c.args in
    let told : code c.from_residual.result ≡ frame_fault mark_gh (size_by a.old) (drop 0 a.b.now) = search rules in
    frame_stays (head_record a.old) a.b.now 0 _ (search rules) told

pub head_at-g-requires : goal.head_at-g-requires
head_at-g-requires c =
    let a = c.args in
    let start : c.in_ok-f.f.start ≡ 6 = ap (λ (f : Frame). f.start) c.in_ok-f.ensures.frame in
    let fine = c.in_ok-f.ensures.fault ∙ ap (λ n. frame_fault mark_gh n a.b.now) c.size_by.ensures in
    omega (arith, start, frame_left (head_record a.old) a.b.now 0 fine (omega arith))

pub head_good-requires : goal.head_good-requires
head_good-requires c =
    let a = c.args in
    let g : c.head_at-g.result ≡ head_by a.old (drop 6 a.b.now) = c.head_at-g.ensures ∙ ap (λ (f : Frame). head_by a.old (drop f.start a.b.now)) c.in_ok-f.ensures.frame in
    let fine = c.in_ok-f.ensures.fault ∙ ap (λ n. frame_fault mark_gh n a.b.now) c.size_by.ensures in
    subst (λ (g : List ℕ). get_or g 25 0 ≤ 4294967295) (sym g)
    (steps_small a.old a.b.now (omega (arith, frame_left (head_record a.old) a.b.now 0 fine (omega arith))) (λ i. (c.type_inv.b i).fits))

pub returns-in_err-require-clause-fault : goal.returns-in_err-require-clause-fault
returns-in_err-require-clause-fault c =
    let a = c.args in
    let g : c.head_at-g.result ≡ head_by a.old (drop 6 a.b.now) = c.head_at-g.ensures ∙ ap (λ (f : Frame). head_by a.old (drop f.start a.b.now)) c.in_ok-f.ensures.frame in
    let fine = c.in_ok-f.ensures.fault ∙ ap (λ n. frame_fault mark_gh n a.b.now) c.size_by.ensures in
    frame_goes (head_record a.old) a.b.now 0 fine _ (c.head_good.ensures ∙ ap head_good g) (search rules)

pub returns-clause-fault : goal.returns-clause-fault
returns-clause-fault c =
    let a = c.args in
    let g : c.head_at-g.result ≡ head_by a.old (drop 6 a.b.now) = c.head_at-g.ensures ∙ ap (λ (f : Frame). head_by a.old (drop f.start a.b.now)) c.in_ok-f.ensures.frame in
    let fine = c.in_ok-f.ensures.fault ∙ ap (λ n. frame_fault mark_gh n a.b.now) c.size_by.ensures in
    frame_goes (head_record a.old) a.b.now 0 fine _ (c.head_good.ensures ∙ ap head_good g) (search rules)
