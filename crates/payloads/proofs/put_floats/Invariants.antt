use Rattle.std.proofs.Common.{◌≡◌, take}
use Rattle.codec.specs.Lists.{put}
use Rattle.codec.specs.Bytes.{bytes_of}
use Rattle.payloads.proofs.put_floats.Given as goal

abbrev pub invariant-loop-i : goal.invariant-loop-i
invariant-loop-i l = l.out ≡ put l.initial.out l.at (bytes_of 8 (λ n. n) (take l.i l.n))
