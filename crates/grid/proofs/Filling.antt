-- A part of a list that is filled with one value, element by element, for any element type. Assumes nothing.
use mathlib.Core.Path.{◌≡◌, sym, ap, ◌∙◌}
use mathlib.Core.List.{List, [], ◌∷◌, ◌++◌, append_assoc}
use Prim.Native.Nat.{ℕ, suc, ◌+◌, ◌<◌}
use native.Mathlib.Nat.{zero-add}
use native.Mathlib.Omega.{arith}
use lib.ListN.{length, set, take, drop, get_or, replicate, length-append, length-replicate, replicate-append-replicate}
use lib.Seq.{length-take-le, drop-cons, set_at, append_snoc}
use Rattle.codec.specs.Lists.{put}
use Rattle.codec.proofs.Lists.{put_nil, put_whole}

pub fill_none : {A : Type 0} (l : List A) (at : ℕ) (v : A) → l ≡ put l at (replicate 0 v)
fill_none l at v = sym (put_nil l at)

pub fill_more : {A : Type 0} (l : List A) (at i : ℕ) (v : A) → at + i < length l → set (put l at (replicate i v)) (at + i) v ≡ put l at (replicate (i + 1) v)
unfolding put
fill_more {A} l at i v h =
    let p : List A = take at l ++ replicate i v in
    let n : at + length (replicate i v) ≡ at + i = ap (λ (k : ℕ). at + k) (length-replicate i v) in
    let m : suc (at + i) ≡ at + length (replicate (i + 1) v) = omega (arith, length-replicate (i + 1) v) in
    let e : length p ≡ at + i = length-append (take at l) (replicate i v) ∙ omega (arith, length-take-le at l (omega arith), length-replicate i v) in
    ap (λ (k : ℕ). set (p ++ drop k l) (at + i) v) n
    ∙ ap (λ (d : List A). set (p ++ d) (at + i) v) (drop-cons l (at + i) v h)
    ∙ set_at p (get_or l (at + i) v) (drop (suc (at + i)) l) v (at + i) e
    ∙ sym (append_snoc p v (drop (suc (at + i)) l))
    ∙ ap (λ (q : List A). q ++ drop (suc (at + i)) l) (append_assoc (take at l) (replicate i v) (v ∷ []) ∙ ap (λ (q : List A). take at l ++ q) (replicate-append-replicate i 1 v))
    ∙ ap (λ (k : ℕ). take at l ++ replicate (i + 1) v ++ drop k l) m

-- the whole of a list
pub fill_all : {A : Type 0} (l : List A) (v : A) → put l 0 (replicate (length l) v) ≡ replicate (length l) v
fill_all l v = put_whole l (replicate (length l) v) (length-replicate (length l) v)

-- from the front
pub front_more : {A : Type 0} (l : List A) (i : ℕ) (v : A) → i < length l → set (put l 0 (replicate i v)) i v ≡ put l 0 (replicate (i + 1) v)
front_more {A} l i v h = ap (λ (k : ℕ). set (put l 0 (replicate i v)) k v) (sym (zero-add i)) ∙ fill_more l 0 i v (omega arith)
