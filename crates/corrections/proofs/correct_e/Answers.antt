use Rattle.corrections.proofs.Faced.{asked, ex_lower_fit, ex_upper_fit, ez_lower_fit, ez_upper_fit, corrected_e_lem}
use native.Mathlib.Omega.{arith}
use mathlib.Core.Bool.{false}
use Rattle.grid.specs.Stores.{line_length}
use mathlib.Core.Path.{refl, ◌∙◌}
use Rattle.corrections.proofs.correct_e.Goals as goal

pub add_face-requires : goal.add_face-requires
add_face-requires c =
    let a = c.args in
    asked false a.eps0 (line_length a.r.nz) a.r a.media.now a.line.now a.e.now _ _ _ c.requires refl (omega arith) c.ex_lower.ensures (ex_lower_fit a.r c.requires.corners)

pub add_face-requires-2 : goal.add_face-requires-2
add_face-requires-2 c =
    let a = c.args in
    asked false a.eps0 (line_length a.r.nz) a.r a.media.now a.line.now a.e.now _ _ _ c.requires c.add_face.auto.s (omega arith) c.ex_upper.ensures (ex_upper_fit a.r c.requires.corners)

pub add_face-requires-3 : goal.add_face-requires-3
add_face-requires-3 c =
    let a = c.args in
    asked false a.eps0 (line_length a.r.nz) a.r a.media.now a.line.now a.e.now _ _ _ c.requires (c.add_face-2.auto.s ∙ c.add_face.auto.s) (omega arith) c.ez_lower.ensures (ez_lower_fit a.r c.requires.corners)

pub add_face-requires-4 : goal.add_face-requires-4
add_face-requires-4 c =
    let a = c.args in
    asked false a.eps0 (line_length a.r.nz) a.r a.media.now a.line.now a.e.now _ _ _ c.requires (c.add_face-3.auto.s ∙ c.add_face-2.auto.s ∙ c.add_face.auto.s) (omega arith) c.ez_upper.ensures (ez_upper_fit a.r c.requires.corners)

pub returns : goal.returns
returns c =
    let a = c.args in
    corrected_e_lem a.eps0 a.r a.media.now a.line.now _ _ _ _ a.e.now _ _ _ _ c.requires
    c.add_face.auto.s c.add_face-2.auto.s c.add_face-3.auto.s
    (c.ex_lower.ensures, c.ex_upper.ensures, c.ez_lower.ensures, c.ez_upper.ensures)
    (c.add_face.ensures, c.add_face-2.ensures, c.add_face-3.ensures, c.add_face-4.ensures)
