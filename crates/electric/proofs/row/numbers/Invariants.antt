use Rattle.std.proofs.Common.{◌≡◌, ℕ, ◌+◌, ◌<◌, get_or}
use lib.Ieee.{Float, nan}
use Rattle.root.specs.Rounded.{◌⊕◌, ◌⊖◌, ◌⊗◌, ◌⊘◌}
use Rattle.fdtd.specs.Inner.Span.{Span}
use Rattle.electric.proofs.row.numbers.Given as goal

abbrev pub invariant-loop-i : goal.invariant-loop-i
invariant-loop-i g l = (t : ℕ → Float) → ((i : ℕ) (x : Float) → i < l.z → g.F.Fn.post l.term (i, tt) x → x ≡ t i) → Span (λ k. (get_or l.f.ca k nan ⊗ get_or l.initial.e (l.q + k) nan ⊕ get_or l.curl k nan ⊖ t k) ⊘ get_or l.f.cb k nan) l.initial.e l.q l.a l.i l.e
