-- A row of one component from its passes. Assumes nothing.
use mathlib.Core.Path.{◌≡◌, refl}
use mathlib.Core.Bool.{Bool, true, false}
use mathlib.Core.List.{List}
use Prim.Native.Nat.{ℕ, ◌+◌, ◌≤◌}
use lib.ListN.{get_or}
use lib.Ieee.{Float, nan}
use Rattle.fdtd.specs.declared.rows.Scratch.{Scratch}
use Rattle.fdtd.specs.declared.rows.Side.{Side}
use Rattle.fdtd.specs.Yee.{updated_e}
use Rattle.fdtd.specs.Inner.Rows.{side_layered, side_memory}
use Rattle.fdtd.specs.Inner.Span.{Span, Two, Trio}
use Rattle.fdtd.proofs.Spans.{span_as}
use Rattle.fdtd.proofs.Passes.{curl_made, row_mem}
use Rattle.electric.specs.declared.row.Change.{Change}
use Rattle.electric.specs.declared.row.Factors.{Factors}
use Rattle.cells.specs.Box.{within}
use Rattle.electric.specs.Inner.Row.{slope_of, number_of, field_of}
use Rattle.electric.proofs.Slopes.{within_of}

-- a cell that does not move needs no curl
same : (go : Bool) (a b dt dp u u' e : Float) → (go ≡ true → u ≡ u') → updated_e go a b dt dp u e ≡ updated_e go a b dt dp u' e
unfolding updated_e
same true a b dt dp u u' e eu = rw (eu refl)
same false a b dt dp u u' e eu = refl

module _ (b c : Side) (w : Change) (h tab mem : List Float) (f : Factors) (poles e : List Float) (scr s3 : Scratch) (u4 u5 m1 m2 e1 : List Float) (n a z q : ℕ) (most : z ≤ n)
    (apart : b.mem + n ≤ c.mem)
    (three : Trio (slope_of b h n) (slope_of c h n) scr a z s3)
    (four : Span (λ i. side_layered false b tab mem i (get_or s3.first i nan) (get_or s3.curl i nan)) s3.curl 0 a z u4)
    (four-mem : Span (λ i. side_memory b tab mem i (get_or s3.first i nan)) mem b.mem a z m1)
    (five : Span (λ i. side_layered true c tab m1 i (get_or s3.second i nan) (get_or u4 i nan)) u4 0 a z u5)
    (five-mem : Span (λ i. side_memory c tab m1 i (get_or s3.second i nan)) m1 c.mem a z m2)
    (six : Span (λ i. number_of (within a z i) w f u5 poles e q i) e q 0 n e1) where
  pub row_e : Span (field_of b c w h tab mem f poles e n a z q) e q 0 n e1
  unfolding field_of number_of
  row_e =
      span_as _ _ _ _ six (λ i k l.
      same (within a z i) _ _ w.dt _ _ _ _ (λ p.
      curl_made b c (slope_of b h n) (slope_of c h n) tab mem scr s3 u4 u5 m1 m2 n a z most apart three four four-mem five five-mem i
      (within_of a z i p).0 (within_of a z i p).1))

  pub row_m : Two (λ i. side_memory b tab mem i (slope_of b h n i)) (λ i. side_memory c tab mem i (slope_of c h n i)) mem b.mem c.mem a z m2
  row_m = row_mem b c (slope_of b h n) (slope_of c h n) tab mem scr s3 u4 u5 m1 m2 n a z most apart three four four-mem five five-mem
