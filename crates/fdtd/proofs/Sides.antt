-- The layer of one side, put together from its parts. Assumes nothing.
use mathlib.Core.Path.{◌≡◌, refl, ◌∙◌, sym, ap}
use mathlib.Core.Bool.{Bool, true, false, cond}
use mathlib.Core.List.{List}
use Prim.Native.Nat.{ℕ, ◌+◌}
use native.Mathlib.Omega.{arith}
use lib.ListN.{get_or}
use lib.Ieee.{Float, nan, eq}
use Rattle.root.specs.Rounded.{◌⊖◌, ◌⊗◌, zero_f, one_f}
use Rattle.cpml.specs.declared.Advanced.{Advanced}
use Rattle.fdtd.specs.declared.Coef.{Coef}
use Rattle.fdtd.specs.declared.rows.Side.{Side}
use Rattle.fdtd.specs.Yee.{mem_next, joins, layered}
use Rattle.fdtd.specs.Inner.Rows.{k_of, side_layered, side_memory, Calm}
use Rattle.fdtd.specs.Inner.Span.{Span}
use Rattle.fdtd.proofs.Cellwise.{stands_still, memory_quiet, memory_moves, memory_off}
use Rattle.fdtd.proofs.Spans.{span_as, span_join, span_more}

-- over variables: `rw` at s.on would rewrite s itself
pick_on : (on : Bool) (x y : Float) → on ≡ true → x ≡ cond on x y
pick_on on x y e = rw e

layered_quiet : (on second : Bool) (k : Coef) (p d u : Float) → on ≡ true → eq k.c zero_f ≡ true
    → joins second u zero_f ((one_f ⊖ k.kinv) ⊗ d) ≡ cond on (layered second k p d u) u
layered_quiet on second k p d u e z =
    ap (λ (x : Advanced). joins second u x.answer ((one_f ⊖ k.kinv) ⊗ d)) (sym (stands_still k.b k.c p d z)) ∙ pick_on on _ u e

module _ (second : Bool) (s : Side) (tab mem : List Float) (i : ℕ) (d u : Float) where
  pub lay_on : s.on ≡ true → layered second (k_of s tab i) (get_or mem (s.mem + i) nan) d u ≡ side_layered second s tab mem i d u
  unfolding side_layered
  lay_on p = rw p

  pub lay_quiet : s.on ≡ true → eq (k_of s tab i).c zero_f ≡ true → joins second u zero_f ((one_f ⊖ (k_of s tab i).kinv) ⊗ d) ≡ side_layered second s tab mem i d u
  unfolding side_layered
  lay_quiet p z = layered_quiet s.on second (k_of s tab i) _ d u p z

  pub lay_off : s.on ≡ false → u ≡ side_layered second s tab mem i d u
  unfolding side_layered
  lay_off p = rw p

  pub lay_own : (mem' : List Float) {d' u' : Float} → get_or mem' (s.mem + i) nan ≡ get_or mem (s.mem + i) nan → d' ≡ d → u' ≡ u → side_layered second s tab mem' i d' u' ≡ side_layered second s tab mem i d u
  unfolding side_layered
  lay_own mem' p ed eu = rw (p, ed, eu)

module _ (s : Side) (tab mem : List Float) (i : ℕ) (d : Float) where
  pub mem_on : s.on ≡ true → mem_next (k_of s tab i) (get_or mem (s.mem + i) nan) d ≡ side_memory s tab mem i d
  unfolding side_memory
  mem_on p = memory_moves (k_of s tab i) _ d true s.on refl p

  pub mem_quiet : s.on ≡ true → eq (k_of s tab i).c zero_f ≡ true → get_or mem (s.mem + i) nan ≡ side_memory s tab mem i d
  unfolding side_memory
  mem_quiet p z = memory_quiet (k_of s tab i) _ d true s.on z

  pub mem_off : s.on ≡ false → get_or mem (s.mem + i) nan ≡ side_memory s tab mem i d
  unfolding side_memory
  mem_off p = memory_off (k_of s tab i) _ d s.on p

  pub mem_own : (mem' : List Float) {d' : Float} → get_or mem' (s.mem + i) nan ≡ get_or mem (s.mem + i) nan → d' ≡ d → side_memory s tab mem' i d' ≡ side_memory s tab mem i d
  unfolding side_memory
  mem_own mem' p ed = rw (p, ed)

-- the layer in three parts
module _ (second : Bool) (s : Side) (tab mem d c0 m1 m2 c1 c2 c3 : List Float) (f z : ℕ) (on : s.on ≡ true) (calm : Calm s tab f z)
    (a : Span (λ i. layered second (k_of s tab i) (get_or mem (s.mem + i) nan) (get_or d i nan) (get_or c0 i nan)) c0 0 f s.lo c1)
    (am : Span (λ i. mem_next (k_of s tab i) (get_or mem (s.mem + i) nan) (get_or d i nan)) mem s.mem f s.lo m1)
    (b : Span (λ i. joins second (get_or c1 i nan) zero_f ((one_f ⊖ (k_of s tab i).kinv) ⊗ get_or d i nan)) c1 0 s.lo s.hi c2)
    (y : Span (λ i. layered second (k_of s tab i) (get_or m1 (s.mem + i) nan) (get_or d i nan) (get_or c2 i nan)) c2 0 s.hi z c3)
    (ym : Span (λ i. mem_next (k_of s tab i) (get_or m1 (s.mem + i) nan) (get_or d i nan)) m1 s.mem s.hi z m2) where
  lay : ℕ → Float
  lay i = side_layered second s tab mem i (get_or d i nan) (get_or c0 i nan)

  kept : ℕ → Float
  kept i = side_memory s tab mem i (get_or d i nan)

  two : Span lay c0 0 f s.hi c2
  unfolding lay
  two =
      span_join _ _ _ _ (span_as _ _ _ _ a (λ i g h. lay_on second s tab mem i _ _ on)) b calm.from calm.order
      (λ i g h. rw (a.over i (omega arith)) (lay_quiet second s tab mem i _ _ on (calm.quiet i g h)))

  two_mem : Span kept mem s.mem f s.hi m1
  unfolding kept
  two_mem =
      span_more _ _ _ _ (span_as _ _ _ _ am (λ i g h. mem_on s tab mem i _ on)) calm.from calm.order (λ i g h. mem_quiet s tab mem i _ on (calm.quiet i g h))

  pub layer_curl : Span (λ i. side_layered second s tab mem i (get_or d i nan) (get_or c0 i nan)) c0 0 f z c3
  unfolding lay
  layer_curl =
      span_join _ _ _ _ two y (omega arith) calm.upto
      (λ i g h.
      lay_on second s tab m1 i _ _ on ∙ lay_own second s tab mem i _ _ m1 (two_mem.over (s.mem + i) (omega arith)) refl (two.over i (omega arith)))

  pub layer_mem : Span (λ i. side_memory s tab mem i (get_or d i nan)) mem s.mem f z m2
  unfolding kept
  layer_mem =
      span_join _ _ _ _ two_mem ym (omega arith) calm.upto
      (λ i g h. mem_on s tab m1 i _ on ∙ mem_own s tab mem i _ m1 (two_mem.over (s.mem + i) (omega arith)) refl)
