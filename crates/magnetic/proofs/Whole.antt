-- A row of one component from its passes. Assumes nothing.
use Rattle.std.proofs.Common.{ℕ, ◌+◌, ◌≤◌, List, true, false, get_or}
use lib.Ieee.{Float, nan}
use Rattle.root.specs.Rounded.{◌⊖◌, ◌⊗◌}
use Rattle.fdtd.specs.declared.rows.Scratch.{Scratch}
use Rattle.fdtd.specs.declared.rows.Side.{Side}
use Rattle.fdtd.specs.Inner.Rows.{side_layered, side_memory}
use Rattle.fdtd.specs.Inner.Span.{Span, Two, Trio}
use Rattle.fdtd.proofs.Spans.{span_as}
use Rattle.fdtd.proofs.Passes.{curl_made, row_mem}
use Rattle.magnetic.specs.Inner.Row.{slope_of, field_of}

module _ (b c : Side) (e tab mem fac h : List Float) (scr s3 : Scratch) (u4 u5 m1 m2 h1 : List Float) (n m q : ℕ) (most : m ≤ n) (apart : b.mem + n ≤ c.mem)
    (three : Trio (slope_of b e n) (slope_of c e n) scr 0 m s3)
    (four : Span (λ i. side_layered false b tab mem i (get_or s3.first i nan) (get_or s3.curl i nan)) s3.curl 0 0 m u4)
    (four-mem : Span (λ i. side_memory b tab mem i (get_or s3.first i nan)) mem b.mem 0 m m1)
    (five : Span (λ i. side_layered true c tab m1 i (get_or s3.second i nan) (get_or u4 i nan)) u4 0 0 m u5)
    (five-mem : Span (λ i. side_memory c tab m1 i (get_or s3.second i nan)) m1 c.mem 0 m m2)
    (six : Span (λ i. get_or h (q + i) nan ⊖ get_or fac i nan ⊗ get_or u5 i nan) h q 0 m h1) where
  pub row_h : Span (field_of b c e tab mem fac h n q) h q 0 m h1
  unfolding field_of
  row_h =
      span_as _ _ _ _ six
      (λ i k l. rw (curl_made b c (slope_of b e n) (slope_of c e n) tab mem scr s3 u4 u5 m1 m2 n 0 m most apart three four four-mem five five-mem i k l))

  pub row_m : Two (λ i. side_memory b tab mem i (slope_of b e n i)) (λ i. side_memory c tab mem i (slope_of c e n i)) mem b.mem c.mem 0 m m2
  row_m = row_mem b c (slope_of b e n) (slope_of c e n) tab mem scr s3 u4 u5 m1 m2 n 0 m most apart three four four-mem five five-mem
