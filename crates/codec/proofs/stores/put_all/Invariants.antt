use Rattle.std.proofs.Common.{◌≡◌, take}
use Rattle.codec.specs.Lists.{put}
use Rattle.codec.specs.Bytes.{bytes_of}
use Rattle.codec.proofs.stores.put_all.Given as goal

abbrev pub invariant-loop-i : goal.invariant-loop-i
invariant-loop-i g l = let e = g.T.Element in l.out ≡ put l.initial.out l.at (bytes_of e.WIDTH e.number (take l.i l.xs))
