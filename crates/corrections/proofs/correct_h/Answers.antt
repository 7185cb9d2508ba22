use Rattle.corrections.proofs.Faced.{asked, hy_lower_fit, hy_upper_fit, hz_lower_fit, hz_upper_fit, corrected_h_lem}
use native.Mathlib.Omega.{arith}
use mathlib.Core.Bool.{true}
use mathlib.Core.Path.{refl, ◌∙◌}
use Rattle.corrections.proofs.correct_h.Goals as goal

pub add_face-requires : goal.add_face-requires
add_face-requires c =
    let a = c.args in
    asked true a.mu0 0 a.r a.media.now a.line.now a.h.now _ _ _ c.requires refl (omega arith) c.hy_lower.ensures (hy_lower_fit a.r c.requires.corners)

pub add_face-requires-2 : goal.add_face-requires-2
add_face-requires-2 c =
    let a = c.args in
    asked true a.mu0 0 a.r a.media.now a.line.now a.h.now _ _ _ c.requires c.add_face.auto.s (omega arith) c.hy_upper.ensures (hy_upper_fit a.r c.requires.corners)

pub add_face-requires-3 : goal.add_face-requires-3
add_face-requires-3 c =
    let a = c.args in
    asked true a.mu0 0 a.r a.media.now a.line.now a.h.now _ _ _ c.requires (c.add_face-2.auto.s ∙ c.add_face.auto.s) (omega arith) c.hz_lower.ensures (hz_lower_fit a.r c.requires.corners)

pub add_face-requires-4 : goal.add_face-requires-4
add_face-requires-4 c =
    let a = c.args in
    asked true a.mu0 0 a.r a.media.now a.line.now a.h.now _ _ _ c.requires (c.add_face-3.auto.s ∙ c.add_face-2.auto.s ∙ c.add_face.auto.s) (omega arith) c.hz_upper.ensures (hz_upper_fit a.r c.requires.corners)

pub returns : goal.returns
returns c =
    let a = c.args in
    corrected_h_lem a.mu0 a.r a.media.now a.line.now _ _ _ _ a.h.now _ _ _ _ c.requires
    c.add_face.auto.s c.add_face-2.auto.s c.add_face-3.auto.s
    (c.hy_lower.ensures, c.hy_upper.ensures, c.hz_lower.ensures, c.hz_upper.ensures)
    (c.add_face.ensures, c.add_face-2.ensures, c.add_face-3.ensures, c.add_face-4.ensures)
