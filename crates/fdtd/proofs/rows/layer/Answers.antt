use native.Mathlib.Nat.{zero-add}
use Rattle.fdtd.proofs.Spans.{span_kept}
use Rattle.fdtd.proofs.Sides.{layer_curl, layer_mem, lay_off, mem_off}
use Rattle.fdtd.proofs.rows.layer.Goals as goal

pub returns-then-s : goal.returns-then-s
returns-then-s c =
    let a = c.args in
    let on = c.if-s.true in
    let calm = c.requires.calm in
    let one = c.live.ensures in
    let two = c.quiet.ensures in
    let three = c.live-then-s.ensures in
    record {
      curl = layer_curl a.second _ _ _ _ _ _ _ _ _ _ _ _ on calm one.curl one.memory two three.curl three.memory;
      memory = layer_mem a.second _ _ _ _ _ _ _ _ _ _ _ _ on calm one.curl one.memory two three.curl three.memory;
    }

pub returns-else-s : goal.returns-else-s
returns-else-s c = record { curl = span_kept _ _ _ _ _ (λ i l. rw zero-add (lay_off _ _ _ _ _ _ _ c.if-s.false)); memory = span_kept _ _ _ _ _ (λ i l. mem_off _ _ _ _ _ c.if-s.false) }
