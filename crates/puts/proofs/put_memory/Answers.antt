use native.Mathlib.Omega.{arith}
use mathlib.Core.Path.{ap, ◌∙◌}
use mathlib.Core.List.{List}
use lib.ListN.{length}
use lib.Ieee.{Float}
use Rattle.codec.specs.Lists.{put}
use Rattle.codec.specs.Bytes.{floats_bytes}
use Rattle.cpml.proofs.Memories.{memory_long}
use Rattle.puts.proofs.put_memory.Goals as goal

pub put_all-requires : goal.put_all-requires
put_all-requires c =
    let a = c.args in
    let long = ap length c.psi-m.ensures ∙ memory_long a.which a.psi_e.now a.psi_h.now a.n c.requires.1 c.requires.2 in
    omega (arith, long, c.requires.0)

pub returns : goal.returns
returns c =
    let a = c.args in
    c.put_all.ensures ∙ ap (λ (m : List Float). put a.out.now a.at (floats_bytes m)) c.psi-m.ensures
