-- Tables copied in number by number, and put axis by axis; what is known of a call without fault. Assumes nothing.
use Prim.Native.Nat.{ℕ, ◌+◌, ◌*◌, ◌≤◌, ◌<◌}
use native.Mathlib.Numerals.{add-one}
use native.Mathlib.Omega.{arith}
use mathlib.Core.Path.{◌≡◌, sym, ap, ◌∙◌}
use mathlib.Core.Bool.{Bool, true, false, ◌&&◌}
use mathlib.Core.List.{List, [], ◌∷◌, ◌++◌}
use borrow.Author.Tests.{eqb-true}
use lib.Dec.{eqb}
use lib.ListN.{length, take, drop, set, get_or, length-append, length-drop}
use lib.Seq.{take-suc, get_or-drop}
use lib.Ieee.{Float}
use Rattle.codec.specs.Lists.{put, part}
use Rattle.codec.proofs.Lists.{put_nil, put_one, put_next, put_whole, put_length, part_length}
use Rattle.grid.specs.declared.Record.{Record}
use Rattle.grid.specs.declared.stores.Lengths.{Lengths}
use Rattle.grid.specs.Inner.Sound.{Sound}
use Rattle.grid.specs.Stores.{zeros, store_lengths}
use Rattle.grid.proofs.Settled.{lent_none}
use Rattle.grid.proofs.Tests.{and_left, and_right}
use Rattle.opening.specs.Layer.{Layer, layer, layer_long}
use Rattle.opening.proofs.Opened.{front_next, length_inactive}
use Rattle.cpml.specs.Absorber.{axis_tables, layer_tables, cpml_fault, absorbed}

-- ---- number by number
part_more : {A : Type 0} (g : List A) (at i : ℕ) (d : A) → at + i < length g → part g at (i + 1) ≡ part g at i ++ (get_or g (at + i) d ∷ [])
unfolding part
part_more {A} g at i d h =
    ap (λ (k : ℕ). take k (drop at g)) (add-one i)
    ∙ take-suc (drop at g) i d (omega (arith, length-drop at g))
    ∙ ap (λ (x : A). take i (drop at g) ++ (x ∷ [])) (get_or-drop at g i d)

pub copy_none : {A : Type 0} (l g : List A) (at : ℕ) → l ≡ put l at (part g at 0)
unfolding part
copy_none l g at = sym (put_nil l at)

pub copy_more : {A : Type 0} (l g : List A) (at i : ℕ) (d : A) → at + i < length l → at + i < length g →
    set (put l at (part g at i)) (at + i) (get_or g (at + i) d) ≡ put l at (part g at (i + 1))
copy_more {A} l g at i d h k =
    let v : A = get_or g (at + i) d in
    let e : length (part g at i) ≡ i = part_length g at i (omega arith) in
    let f : length (put l at (part g at i)) ≡ length l = put_length l at (part g at i) (omega arith) in
    put_one (put l at (part g at i)) (at + i) v (omega arith)
    ∙ put_next l at i (part g at i) (v ∷ []) e (let z : at + i + 1 ≤ length l = omega arith in z)
    ∙ ap (put l at) (sym (part_more g at i d k))

-- ---- axis by axis
axis_long : (on : Bool) (n : ℕ) (g : List Float) → length g ≡ 6 * n → length (axis_tables on n g) ≡ 6 * n
axis_long true n g e = e
axis_long false n g e = length_inactive n

pub tables_put : (nx ny nz : ℕ) (active : List Bool) (g t t1 t2 t3 : List Float) → length t ≡ 6 * (nx + ny + nz) → length g ≡ 6 * (nx + ny + nz) →
    t1 ≡ put t 0 (axis_tables (get_or active 0 false) nx (part g 0 (6 * nx))) → t2 ≡ put t1 (6 * nx) (axis_tables (get_or active 1 false) ny (part g (6 * nx) (6 * ny))) →
    t3 ≡ put t2 (6 * nx + 6 * ny) (axis_tables (get_or active 2 false) nz (part g (6 * nx + 6 * ny) (6 * nz))) → t3 ≡ layer_tables nx ny nz active g
unfolding layer_tables
tables_put nx ny nz active g t t1 t2 t3 e f p q s =
    let x : List Float = axis_tables (get_or active 0 false) nx (part g 0 (6 * nx)) in
    let y : List Float = axis_tables (get_or active 1 false) ny (part g (6 * nx) (6 * ny)) in
    let z : List Float = axis_tables (get_or active 2 false) nz (part g (6 * nx + 6 * ny) (6 * nz)) in
    let lx : length x ≡ 6 * nx = axis_long (get_or active 0 false) nx _ (part_length g 0 (6 * nx) (omega arith)) in
    let ly : length y ≡ 6 * ny = axis_long (get_or active 1 false) ny _ (part_length g (6 * nx) (6 * ny) (omega arith)) in
    let lz : length z ≡ 6 * nz = axis_long (get_or active 2 false) nz _ (part_length g (6 * nx + 6 * ny) (6 * nz) (omega arith)) in
    let two : length (x ++ y) ≡ 6 * nx + 6 * ny = length-append x y ∙ omega arith in
    s
    ∙ ap (λ (l : List Float). put l (6 * nx + 6 * ny) z) (q ∙ ap (λ (l : List Float). put l (6 * nx) y) p ∙ front_next t (6 * nx) x y lx (omega arith))
    ∙ front_next t (6 * nx + 6 * ny) (x ++ y) z two (omega arith)
    ∙ put_whole t (x ++ y ++ z) (length-append (x ++ y) z ∙ omega arith)

-- ---- the call
-- no fault: a sound record, and the tables, lent and handed in, as long as it asks for
pub cpml_none : (r : Record) (pe ph t g : ℕ) → cpml_fault r pe ph t g ≡ 0 → Sound r × (t ≡ 6 * (r.nx + r.ny + r.nz)) × (g ≡ 6 * (r.nx + r.ny + r.nz))
unfolding cpml_fault layer_long store_lengths
cpml_none r pe ph t g e =
    let l : Lengths = store_lengths r in
    let lent : Bool = layer_long pe ph t l in
    let h = lent_none r (lent && eqb g l.tables) e in
    let memories : Bool = eqb pe l.psi_e && eqb ph l.psi_h in (
      h.0,
      eqb-true t l.tables (and_right memories (eqb t l.tables) (and_left lent (eqb g l.tables) h.1)),
      eqb-true g l.tables (and_right lent (eqb g l.tables) h.1),
    )

pub absorbed_are : (nx ny nz : ℕ) (a a' : List Bool) (g : List Float) (s : Layer) (pe ph t : List Float) → a ≡ a' → pe ≡ zeros (length s.psi_e) → ph ≡ zeros (length s.psi_h) →
    t ≡ layer_tables nx ny nz a g → absorbed a (layer pe ph t) ≡ absorbed a' (layer (zeros (length s.psi_e)) (zeros (length s.psi_h)) (layer_tables nx ny nz a' g))
absorbed_are nx ny nz a a' g s pe ph t e p q h = rw (p, q, h, e)
