-- What the bodies of the loops work out for one cell is what the specification has there. Over variables, so that `rw` meets small terms. Assumes nothing.
use mathlib.Core.Path.{◌≡◌, refl, sym, ap, ◌∙◌}
use mathlib.Core.Bool.{Bool, true, false, cond, not, ◌&&◌}
use lib.Ieee.{Float, eq}
use Rattle.fdtd.specs.declared.Coef.{Coef}
use Rattle.root.specs.Rounded.{◌⊖◌, ◌⊗◌, zero_f, one_f}
use Rattle.cpml.specs.declared.Advanced.{Advanced}
use Rattle.cpml.specs.Memory.{advanced}
use Rattle.fdtd.specs.Yee.{term, mem_next, memory_after, psi_added, joins, layered}

-- a memory where c is 0.0
pub stands_still : (b c m d : Float) → eq c zero_f ≡ true → advanced b c m d ≡ record { memory = m; answer = zero_f }
unfolding advanced
stands_still b c m d e = rw e

module _ {k k' : Coef} {m m' d d' : Float} where
  pub mem_law : {r : Float} → r ≡ mem_next k m d → k ≡ k' → m ≡ m' → d ≡ d' → r ≡ mem_next k' m' d'
  mem_law er ek em ed = er ∙ rw (ek, em, ed)

  pub live_law : (second : Bool) {r u u' t w : Float} → r ≡ joins second u t w → u ≡ u' → t ≡ psi_added k m d → w ≡ (one_f ⊖ k.kinv) ⊗ d → k ≡ k' → m ≡ m' → d ≡ d'
      → r ≡ layered second k' m' d' u'
  live_law second er eu et ew ek em ed = er ∙ rw (eu, et, ew, ek, em, ed)

-- ---- a memory after a half step: where it is quiet, where its number moves and its layer is on, where one of these is not so
module _ (k : Coef) (m d : Float) where
  still : eq k.c zero_f ≡ true → mem_next k m d ≡ m
  still z = ap (λ (x : Advanced). x.memory) (stands_still k.b k.c m d z)

  either : (t : Bool) → mem_next k m d ≡ m → m ≡ cond t (mem_next k m d) m
  either true e = sym e
  either false e = refl

  pub memory_quiet : (moves on : Bool) → eq k.c zero_f ≡ true → m ≡ memory_after moves (term on k m d)
  unfolding memory_after
  memory_quiet moves on z = either (moves && on && not (eq k.c zero_f)) (still z)

  live : (t : Bool) → eq k.c zero_f ≡ t → mem_next k m d ≡ cond (not t) (mem_next k m d) m
  live true z = still z
  live false z = refl

  pub memory_moves : (moves on : Bool) → moves ≡ true → on ≡ true → mem_next k m d ≡ memory_after moves (term on k m d)
  unfolding memory_after
  memory_moves moves on p o = live (eq k.c zero_f) refl ∙ rw (p, o)

  pub memory_off : (on : Bool) → on ≡ false → m ≡ memory_after true (term on k m d)
  unfolding memory_after
  memory_off on o = rw o

  pub memory_stays : (moves on : Bool) → moves ≡ false → m ≡ memory_after moves (term on k m d)
  unfolding memory_after
  memory_stays moves on p = rw p
