use Rattle.std.proofs.Common.{rules, arith, sym}
use Rattle.codec.proofs.Elements.{length_bytes_of}
use Rattle.puts.proofs.Placed.{wrote_one}
use Rattle.puts.proofs.put_store.Goals as goal

pub returns : goal.returns
returns g c =
    let e = g.T.Element in
    let long = length_bytes_of e.WIDTH e.number c.args.xs.now in
    (search rules, wrote_one _ _ _ _ _ _ _ c.put_frame.ensures (rw c.WIDTH.ensures (sym long)) c.put_all.ensures (omega (arith, long, c.requires.0)))
