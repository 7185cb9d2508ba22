use Rattle.ade.proofs.Columns.{three_done}
use Rattle.ade.proofs.components.Goals as goal

pub returns : goal.returns
returns c =
    let args = c.args in
    three_done args.k args.e.now args.w.n args.i args.j args.d args.w.a args.w.z args.poles.now _ _ _ c.span.ensures c.span-2.ensures c.span-3.ensures
