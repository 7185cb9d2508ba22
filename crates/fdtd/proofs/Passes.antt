-- The curl and the memories of a row after its passes. Assumes nothing.
use mathlib.Core.Path.{◌≡◌, refl, ◌∙◌}
use mathlib.Core.Bool.{true, false}
use mathlib.Core.List.{List}
use Prim.Native.Nat.{ℕ, ◌+◌, ◌≤◌, ◌<◌}
use native.Mathlib.Omega.{arith}
use lib.ListN.{get_or}
use lib.Ieee.{Float, nan}
use Rattle.root.specs.Rounded.{◌⊖◌}
use Rattle.fdtd.specs.declared.rows.Scratch.{Scratch}
use Rattle.fdtd.specs.declared.rows.Side.{Side}
use Rattle.fdtd.specs.Inner.Rows.{side_layered, side_memory}
use Rattle.fdtd.specs.Inner.Span.{Span, Two, Trio}
use Rattle.fdtd.proofs.Spans.{first_at}
use Rattle.fdtd.proofs.Sides.{lay_own, mem_own}

-- f and g are the derivatives on the sides b and c; n cells are in the row, those from a up to z are moved
module _ (b c : Side) (f g : ℕ → Float) (tab mem : List Float) (scr s3 : Scratch) (u4 u5 m1 m2 : List Float) (n a z : ℕ) (most : z ≤ n) (apart : b.mem + n ≤ c.mem)
    (three : Trio f g scr a z s3)
    (four : Span (λ i. side_layered false b tab mem i (get_or s3.first i nan) (get_or s3.curl i nan)) s3.curl 0 a z u4)
    (four-mem : Span (λ i. side_memory b tab mem i (get_or s3.first i nan)) mem b.mem a z m1)
    (five : Span (λ i. side_layered true c tab m1 i (get_or s3.second i nan) (get_or u4 i nan)) u4 0 a z u5)
    (five-mem : Span (λ i. side_memory c tab m1 i (get_or s3.second i nan)) m1 c.mem a z m2) where
  module _ (i : ℕ) (k : a ≤ i) (l : i < z) where
    b3 : get_or s3.first i nan ≡ f i
    b3 = first_at _ _ _ three.one k l

    c3 : get_or s3.second i nan ≡ g i
    c3 = first_at _ _ _ three.two k l

    u4-is : get_or u4 i nan ≡ side_layered false b tab mem i (f i) (f i ⊖ g i)
    u4-is = first_at _ _ _ four k l ∙ lay_own false b tab mem i _ _ mem refl b3 (first_at _ _ _ three.three k l)

    own : get_or m1 (c.mem + i) nan ≡ get_or mem (c.mem + i) nan
    own = four-mem.over (c.mem + i) (omega arith)

    pub curl_made : get_or u5 i nan ≡ side_layered true c tab mem i (g i) (side_layered false b tab mem i (f i) (f i ⊖ g i))
    curl_made = first_at _ _ _ five k l ∙ lay_own true c tab mem i _ _ m1 own c3 u4-is

  pub row_mem : Two (λ i. side_memory b tab mem i (f i)) (λ i. side_memory c tab mem i (g i)) mem b.mem c.mem a z m2
  row_mem =
      record {
        len = five-mem.len ∙ four-mem.len;
        under = λ p l. five-mem.under p (omega arith) ∙ four-mem.under p l;
        first = λ i k l. five-mem.under (b.mem + i) (omega arith) ∙ four-mem.at i k l ∙ mem_own b tab mem i _ mem refl (b3 i k l);
        mid = λ p k l. five-mem.under p l ∙ four-mem.over p k;
        second = λ i k l. five-mem.at i k l ∙ mem_own c tab mem i _ m1 (own i k l) (c3 i k l);
        over = λ p l. five-mem.over p l ∙ four-mem.over p (omega arith);
      }
