use Rattle.study.proofs.Holding.{held_more, held_none}
use Rattle.study.proofs.Entries.{cichowiej_put_box}
use Rattle.calls.proofs.Kept.{sent_as}
use Rattle.api.proofs.library.cichowiej_put_box.Goals as goal

pub returns : goal.returns
returns c =
    let e = sent_as c.code_of.ensures c.put_box.ensures in
    let a = c.args in
    let good = c.well_formed in
    let fit = held_more _ _ good.1.1.1.1.1.1.1.1.1.0.1 (held_more _ _ good.1.1.1.1.1.1.1.1.1.1.0.1 (held_more _ _ good.1.1.1.1.1.1.1.1.1.1.1.0.1 held_none)) in
    record { ids_after = e; honest = cichowiej_put_box _ _ _ _ a.library a.id _ _ _ _ _ _ _ fit e }
