use mathlib.Core.Path.{refl, ap, ◌∙◌}
use mathlib.Core.Bool.{true}
use Rattle.cpml.specs.declared.Advanced.{Advanced}
use Rattle.fdtd.proofs.Singles.{lone_set, lone_kept, layer_on, layer_off}
use Rattle.fdtd.proofs.Cellwise.{memory_moves, memory_off}
use Rattle.fdtd.proofs.single.join_layer.Goals as goal

pub returns-then-on : goal.returns-then-on
returns-then-on c =
    let a = c.args in
    let on = c.if-on.true in
    let moved = c.advance-moved.ensures in
    record { value = layer_on a.on a.k _ _ a.second _ on c.join.ensures (ap (λ (x : Advanced). x.answer) moved) c.stretch.ensures; lone = lone_set _ _ c.requires (ap (λ (x : Advanced). x.memory) moved ∙ memory_moves a.k _ _ true a.on refl on) }

pub returns-else-on : goal.returns-else-on
returns-else-on c =
    let a = c.args in
    record { value = layer_off a.on a.k _ _ a.second _ c.if-on.false; lone = lone_kept _ _ (memory_off a.k _ _ a.on c.if-on.false) }
