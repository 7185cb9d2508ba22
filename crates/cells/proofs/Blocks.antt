-- Lists made of blocks of one length, for any element type: their lengths, their elements, and one block replaced. Assumes nothing.
use Prim.Native.Nat.{ℕ, zero, suc, ◌+◌, ◌*◌, ◌≤◌, ◌<◌}
use native.Mathlib.Nat.{eq-or-lt_of_le, le_of_suc-le-suc, not-suc-le-zero, add-zero}
use native.Mathlib.Omega.{arith}
use mathlib.Core.Path.{◌≡◌, refl, sym, ap, ◌∙◌, subst}
use mathlib.Core.Logic.{⊎_elim}
use mathlib.Core.List.{List, ◌++◌, append_assoc}
use lib.ListN.{length, take, drop, length-drop}
use lib.Seq.{drop_at, take_all, take-add, take-append-le, drop-append-le, take-append_seam, drop-append_seam, drop-append-add, drop-drop, length-take-le}
use Rattle.codec.specs.Lists.{put, part}
use Rattle.codec.proofs.Lists.{put_whole, put_length, drop_put}
use Rattle.cells.specs.Cells.{joined}
use Rattle.cells.specs.Reading.{block_end, length_joined}
use Rattle.cells.specs.Inner.Blocks.{on}

-- equal blocks make equal lists
pub joined_same : {A : Type 0} (n : ℕ) (g h : ℕ → List A) → ((c : ℕ) → c < n → g c ≡ h c) → joined n g ≡ joined n h
unfolding joined
joined_same zero g h e = refl
joined_same (suc n) g h e = rw (joined_same n g h (λ c l. e c (omega arith)), e n (omega arith))

-- ---- parts of a list that was appended
pub part_left : {A : Type 0} (p q : List A) (at m : ℕ) → at + m ≤ length p → part (p ++ q) at m ≡ part p at m
unfolding part
part_left p q at m h = ap (take m) (drop-append-le at p q (omega arith)) ∙ take-append-le m (drop at p) q (omega (arith, length-drop at p))

pub part_right : {A : Type 0} (p q : List A) (at m : ℕ) → length p ≡ at → length q ≡ m → part (p ++ q) at m ≡ q
unfolding part
part_right p q at m e f = ap (take m) (drop_at p q at e) ∙ take_all m q (omega arith)

pub put_left : {A : Type 0} (p q : List A) (at : ℕ) (vs : List A) → at + length vs ≤ length p → put (p ++ q) at vs ≡ put p at vs ++ q
unfolding put
put_left {A} p q at vs h =
    rw (take-append-le at p q (omega arith), drop-append-le (at + length vs) p q h)
    (sym (append_assoc (take at p ++ vs) (drop (at + length vs) p) q))

take_past : {A : Type 0} (p x : List A) (a : ℕ) → take (length p + a) (p ++ x) ≡ p ++ take a x
take_past p x a = take-add (length p) a (p ++ x) ∙ rw (take-append_seam p x, drop-append_seam p x)

pub put_past : {A : Type 0} (p x : List A) (at a : ℕ) (vs : List A) → length p ≡ at → put (p ++ x) (at + a) vs ≡ p ++ put x a vs
unfolding put
put_past {A} p x at a vs e =
    let k : length p + a + length vs ≡ length p + (a + length vs) = omega arith in
    ap (λ (n : ℕ). take (n + a) (p ++ x) ++ vs ++ drop (n + a + length vs) (p ++ x)) (sym e)
    ∙ rw (k, take_past p x a, drop-append-add p x (a + length vs))
    (ap (λ (t : List A). t ++ drop (a + length vs) x) (append_assoc p (take a x) vs) ∙ append_assoc p (take a x ++ vs) (drop (a + length vs) x))

pub put_right : {A : Type 0} (p q : List A) (at : ℕ) (vs : List A) → length p ≡ at → length q ≡ length vs → put (p ++ q) at vs ≡ p ++ vs
put_right {A} p q at vs e f =
    ap (λ (n : ℕ). put (p ++ q) n vs) (sym (add-zero at)) ∙ put_past p q at 0 vs e ∙ ap (λ (t : List A). p ++ t) (put_whole q vs (sym f))

-- ---- a change within a part
pub part_within : {A : Type 0} (s : List A) (at : ℕ) (b : List A) (a m : ℕ) → at ≤ length s → a + m ≤ length b → part (put s at b) (at + a) m ≡ part b a m
unfolding part
part_within {A} s at b a m h k =
    ap (take m) (sym (drop-drop a at (put s at b)) ∙ ap (drop a) (drop_put s at b h)) ∙ part_left b (drop (at + length b) s) a m k

pub put_put : {A : Type 0} (s : List A) (at : ℕ) (b : List A) (a : ℕ) (vs : List A) → at + length b ≤ length s → a + length vs ≤ length b →
    put (put s at b) (at + a) vs ≡ put s at (put b a vs)
unfolding put
put_put {A} s at b a vs h k =
    let p : List A = take at s in
    let r : List A = drop (at + length b) s in
    let n : at + length b ≡ at + length (put b a vs) = ap (λ (i : ℕ). at + i) (sym (put_length b a vs k)) in
    ap (λ (t : List A). put t (at + a) vs) (append_assoc p b r)
    ∙ put_past p (b ++ r) at a vs (length-take-le at s (omega arith))
    ∙ ap (λ (t : List A). p ++ t) (put_left b r a vs k)
    ∙ sym (append_assoc p (put b a vs) r)
    ∙ ap (λ (i : ℕ). p ++ put b a vs ++ drop i s) n

pub on_within : {A : Type 0} (s : List A) (at : ℕ) (b : List A) (a m : ℕ) (F : List A → List A) → at + length b ≤ length s → a + m ≤ length b →
    length (F (part b a m)) ≡ m → on (at + a) m F (put s at b) ≡ put s at (on a m F b)
unfolding on
on_within {A} s at b a m F h k e =
    ap (λ (t : List A). put (put s at b) (at + a) (F t)) (part_within s at b a m (omega arith) k)
    ∙ put_put s at b a (F (part b a m)) h (omega arith)

-- ---- one block of many is changed
on_left : {A : Type 0} (p q : List A) (at m : ℕ) (F : List A → List A) → at + m ≤ length p → length (F (part p at m)) ≡ m → on at m F (p ++ q) ≡ on at m F p ++ q
unfolding on
on_left {A} p q at m F h e =
    ap (λ (t : List A). put (p ++ q) at (F t)) (part_left p q at m h) ∙ put_left p q at (F (part p at m)) (omega arith)

on_right : {A : Type 0} (p q : List A) (at m : ℕ) (F : List A → List A) → length p ≡ at → length q ≡ m → length (F q) ≡ m → on at m F (p ++ q) ≡ p ++ F q
unfolding on
on_right {A} p q at m F e f g =
    ap (λ (t : List A). put (p ++ q) at (F t)) (part_right p q at m e f) ∙ put_right p q at (F q) e (f ∙ sym g)

-- the block c ends where the next begins, within n blocks
pub part_block : {A : Type 0} (n c m : ℕ) (g : ℕ → List A) → c < n → ((b : ℕ) → b < n → length (g b) ≡ m) → part (joined n g) (c * m) m ≡ g c
unfolding joined
part_block zero c m g l e = absurd (not-suc-le-zero l)
part_block {A} (suc n) c m g l e =
    ⊎_elim (λ q. last q) (λ b. before b (part_block n c m g b (λ i h. e i (omega arith)))) (eq-or-lt_of_le (le_of_suc-le-suc l))
  where
    long : length (joined n g) ≡ n * m
    long = length_joined n m g (λ b h. e b (omega arith))

    last : c ≡ n → part (joined n g ++ g n) (c * m) m ≡ g c
    last q = rw q (part_right (joined n g) (g n) (n * m) m long (e n (omega arith)))

    before : c < n → part (joined n g) (c * m) m ≡ g c → part (joined n g ++ g n) (c * m) m ≡ g c
    before b r = part_left (joined n g) (g n) (c * m) m (omega (arith, long, block_end c n m b)) ∙ r

-- h is g with F done to its block c
pub on_block_lem : {A : Type 0} (n c m : ℕ) (g h : ℕ → List A) (F : List A → List A) → c < n → ((b : ℕ) → b < n → length (g b) ≡ m) → length (F (g c)) ≡ m →
    h c ≡ F (g c) → ((b : ℕ) → b < n → (b ≡ c → ⊥) → h b ≡ g b) → on (c * m) m F (joined n g) ≡ joined n h
unfolding joined
on_block_lem zero c m g h F l e f p q = absurd (not-suc-le-zero l)
on_block_lem {A} (suc n) c m g h F l e f p q =
    ⊎_elim (λ x. last x) (λ b. before b (on_block_lem n c m g h F b (λ i k. e i (omega arith)) f p (λ i k y. q i (omega arith) y)))
    (eq-or-lt_of_le (le_of_suc-le-suc l))
  where
    long : length (joined n g) ≡ n * m
    long = length_joined n m g (λ b k. e b (omega arith))

    last : c ≡ n → on (c * m) m F (joined n g ++ g n) ≡ joined n h ++ h n
    last x =
        let same : joined n h ≡ joined n g = joined_same n h g (λ b k. q b (omega arith) (λ y. let z : ⊥ = omega arith in z)) in
        let here : h n ≡ F (g n) = subst (λ (i : ℕ). h i ≡ F (g i)) x p in
        let fits : length (F (g n)) ≡ m = subst (λ (i : ℕ). length (F (g i)) ≡ m) x f in
        rw x (on_right (joined n g) (g n) (n * m) m F long (e n (omega arith)) fits ∙ rw (same, here))

    before : c < n → on (c * m) m F (joined n g) ≡ joined n h → on (c * m) m F (joined n g ++ g n) ≡ joined n h ++ h n
    before b r =
        let short = part_block n c m g b (λ i k. e i (omega arith)) in
        let fits : length (F (part (joined n g) (c * m) m)) ≡ m = rw short f in
        on_left (joined n g) (g n) (c * m) m F (omega (arith, long, block_end c n m b)) fits
        ∙ ap (λ (t : List A). t ++ g n) r
        ∙ ap (λ (t : List A). joined n h ++ t) (sym (q n (omega arith) (λ y. let z : ⊥ = omega arith in z)))
