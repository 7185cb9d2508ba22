use Rattle.fdtd.proofs.Beside.{known_of}
use Rattle.fdtd.proofs.single.find_shared.Goals as goal

pub returns : goal.returns
returns c =
    let a = c.args in
    known_of a.g a.tab.now a.s a.t a.bs a.bt a.gos a.got c.find_spot-p.ensures c.coef_of-ks.ensures c.coef_of-kt.ensures
