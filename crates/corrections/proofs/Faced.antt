-- The faces: what the loop over each may lean on, and that it comes to the correction that the definitions name. Assumes nothing.
use Prim.Native.Nat.{ℕ, ◌+◌, ◌-◌, ◌*◌, ◌≤◌, ◌<◌}
use native.Mathlib.Nat.{one-mul, zero-mul, mul_comm}
use native.Mathlib.Omega.{arith}
use mathlib.Core.Path.{◌≡◌, sym, ap, ◌∙◌, subst}
use mathlib.Core.Bool.{Bool, true, false, cond, ◌&&◌}
use mathlib.Core.List.{List}
use lib.Dec.{leb, ltb}
use lib.ListN.{length, get_or}
use lib.Ieee.{Float, nan}
use borrow.Author.Tests.{leb-true, ltb-true}
use Rattle.root.specs.declared.Spacings.{Spacings}
use Rattle.cells.specs.declared.IndexBox.{IndexBox}
use Rattle.cells.specs.Cells.{cell_index}
use Rattle.cells.specs.Reading.{block_end}
use Rattle.cells.specs.Inner.Blocks.{on}
use Rattle.cells.proofs.Pointwise.{cells_same, nested_place}
use Rattle.grid.specs.declared.Region.{Region}
use Rattle.grid.specs.declared.Record.{Record}
use Rattle.grid.specs.Fault.{corners_fit}
use Rattle.grid.specs.Stores.{cells, line_length}
use Rattle.grid.proofs.Tests.{and_left, and_right}
use Rattle.corrections.specs.declared.Corrected.{Corrected}
use Rattle.tfsf.specs.declared.faces.Face.{Face}
use Rattle.tfsf.specs.Line.{ex_at, hy_at}
use Rattle.tfsf.specs.Corrections.{side_faces, upper_face, half_end, z_plane, y_plane, x_plane, hy_lower, hy_upper, hz_lower, hz_upper, ex_lower, ex_upper, ez_lower, ez_upper, added_h, added_e, cell_number, correct_face, correct_h, correct_e}
use Rattle.corrections.specs.Inner.Faces.{add_box, addend, addends, face_done, corrected, Inside, FaceFits, Corners, FacesReady}
use Rattle.corrections.proofs.Adding.{face_added}

-- ---- the region's corners
pub corners_of : (g : Region) (nx ny nz : ℕ) → corners_fit g nx ny nz ≡ true → Corners g nx ny nz
unfolding corners_fit
corners_of g nx ny nz e =
    let i = leb g.i0 g.i1 in
    let x = ltb g.i1 nx in
    let j = leb g.j0 g.j1 in
    let y = ltb g.j1 ny in
    let k = leb g.k0 g.k1 in
    let z = ltb g.k1 nz in
    let five = and_left (i && x && j && y && k) z e in
    let four = and_left (i && x && j && y) k five in
    let three = and_left (i && x && j) y four in
    let two = and_left (i && x) j three in
    record {
      i = leb-true g.i0 g.i1 (and_left i x two);
      j = leb-true g.j0 g.j1 (and_right (i && x) j three);
      k = leb-true g.k0 g.k1 (and_right (i && x && j && y) k five);
      x = ltb-true g.i1 nx (and_right i x two);
      y = ltb-true g.j1 ny (and_right (i && x && j) y four);
      z = ltb-true g.k1 nz (and_right (i && x && j && y && k) z e);
    }

-- ---- a face from what its parts come to
abbrev face : Bool → ℕ → IndexBox → Float → Bool → ℕ → Face
face there c b d minus o = record { there = there; component = c; b = b; d = d; minus = minus; offset = o }

pub face_same : {t u : Bool} {a o : ℕ} {b c : IndexBox} {d : Float} {m : Bool} → t ≡ u → b ≡ c → face t a b d m o ≡ face u a c d m o
face_same {t} {u} {a} {o} {b} {c} {d} {m} p q = ap (λ (x : Bool). face x a b d m o) p ∙ ap (λ (x : IndexBox). face u a x d m o) q

-- ---- the faces lie in the grid
abbrev pub Fit : Record → Face → Type 0
Fit r f = Inside f.b r.nx r.ny r.nz × (f.component < 3) × (f.offset ≤ 25)

half_high : (t : Bool) (last n : ℕ) → last < n → half_end t last ≤ n
half_high true last n h = omega arith
half_high false last n h = omega arith

half_low : (t : Bool) (a last : ℕ) → a ≤ last → a ≤ half_end t last
half_low true a last h = h
half_low false a last h = omega arith

module _ (r : Record) (c : Corners r.region r.nx r.ny r.nz) where
  abbrev g : Region
  g = r.region

  z_inside : (k : ℕ) → k < r.nz → Inside (z_plane g k) r.nx r.ny r.nz
  unfolding z_plane
  z_inside k h = record {
    i = half_low (side_faces g.kind) g.i0 g.i1 c.i;
    j = omega arith;
    k = omega arith;
    x = half_high (side_faces g.kind) g.i1 r.nx c.x;
    y = omega arith;
    z = omega arith;
  }

  y_inside : (j : ℕ) → j < r.ny → Inside (y_plane g j) r.nx r.ny r.nz
  unfolding y_plane
  y_inside j h = record {
    i = half_low (side_faces g.kind) g.i0 g.i1 c.i;
    j = omega arith;
    k = omega arith;
    x = half_high (side_faces g.kind) g.i1 r.nx c.x;
    y = omega arith;
    z = omega arith;
  }

  x_inside : (i : ℕ) → i < r.nx → Inside (x_plane g i) r.nx r.ny r.nz
  unfolding x_plane
  x_inside i h = record {
    i = omega arith;
    j = omega arith;
    k = half_low (upper_face g.kind) g.k0 g.k1 c.k;
    x = omega arith;
    y = omega arith;
    z = half_high (upper_face g.kind) g.k1 r.nz c.z;
  }

  pub hy_lower_fit : Fit r (hy_lower g r.spacings)
  unfolding hy_lower
  hy_lower_fit = (z_inside (g.k0 - 1) (omega arith), omega arith, omega arith)

  pub hy_upper_fit : Fit r (hy_upper g r.spacings)
  unfolding hy_upper
  hy_upper_fit = (z_inside g.k1 (omega arith), omega arith, omega arith)

  pub hz_lower_fit : Fit r (hz_lower g r.spacings)
  unfolding hz_lower
  hz_lower_fit = (y_inside (g.j0 - 1) (omega arith), omega arith, omega arith)

  pub hz_upper_fit : Fit r (hz_upper g r.spacings)
  unfolding hz_upper
  hz_upper_fit = (y_inside g.j1 (omega arith), omega arith, omega arith)

  pub ex_lower_fit : Fit r (ex_lower g r.spacings)
  unfolding ex_lower
  ex_lower_fit = (z_inside g.k0 (omega arith), omega arith, omega arith)

  pub ex_upper_fit : Fit r (ex_upper g r.spacings)
  unfolding ex_upper
  ex_upper_fit = (z_inside g.k1 (omega arith), omega arith, omega arith)

  pub ez_lower_fit : Fit r (ez_lower g r.spacings)
  unfolding ez_lower
  ez_lower_fit = (x_inside g.i0 (omega arith), omega arith, omega arith)

  pub ez_upper_fit : Fit r (ez_upper g r.spacings)
  unfolding ez_upper
  ez_upper_fit = (x_inside g.i1 (omega arith), omega arith, omega arith)

-- ---- what the loops lean on
abbrev pub Asked : Corrected → Face → (media line t : List Float) → Type 0
Asked w f media line t = FaceFits w f media t × (w.incident + f.offset + w.nz ≤ length line)

pub asked : (b : Bool) (unit : Float) (o : ℕ) (r : Record) (media line s t : List Float) (f g : Face) → FacesReady r media line s → length t ≡ length s →
    o ≤ line_length r.nz → f ≡ g → Fit r g → Asked (corrected b unit o r) f media line t
asked b unit o r media line s t f g p e l w q =
    let y = p.sound in
    let same : r.ny * r.nx ≡ r.nx * r.ny = mul_comm r.ny r.nx in
    subst (λ (f : Face). Asked (corrected b unit o r) f media line t) (sym w) (
      record {
        box = q.0;
        count = cells_same r.nx r.ny r.nz;
        plane = omega (arith, same, y.plane);
        few = y.cells;
        stuff = p.stuff;
        room = omega (arith, e, p.field, block_end g.component 3 (cells r) q.1);
      },
      omega (arith, p.wave, l, q.2),
    )

-- ---- a face done
module _ (w : Corrected) (f : Face) (media line s : List Float) where
  abbrev boxed : List Float
  boxed = on (f.component * w.n) (w.nz * (w.ny * w.nx)) (add_box w.nx w.ny w.nz f.b (addends w f media line)) s

  pub is_there : (t : List Float) → f.there ≡ true → t ≡ boxed → t ≡ face_done w f media line s
  unfolding face_done
  is_there t h e = e ∙ ap (λ (b : Bool). cond b boxed s) (sym h)

  pub not_there : f.there ≡ false → s ≡ face_done w f media line s
  unfolding face_done
  not_there h = ap (λ (b : Bool). cond b boxed s) (sym h)

cell_place : (r : Record) (i j k : ℕ) → k * (r.ny * r.nx) + j * r.nx + i ≡ cell_index r.nx r.ny i j k
cell_place r i j k = omega (arith, nested_place r.nx r.ny i j k)

h_agrees : (mu0 : Float) (r : Record) (media line : List Float) (f : Face) (i j k : ℕ) →
    addends (corrected true mu0 0 r) f media line i j k ≡ added_h mu0 r.spacings.dt f (cell_number r media 1 i j k) (ex_at line (k + f.offset))
unfolding addend
h_agrees mu0 r media line f i j k =
    let m : cells r + (k * (r.ny * r.nx) + j * r.nx + i) ≡ 1 * cells r + cell_index r.nx r.ny i j k = omega (arith, cell_place r i j k, one-mul (cells r)) in
    let e : 0 + f.offset + k ≡ k + f.offset = omega arith in
    ap (λ (q : ℕ). added_h mu0 r.spacings.dt f (get_or media q nan) (get_or line (0 + f.offset + k) nan)) m
    ∙ ap (λ (q : ℕ). added_h mu0 r.spacings.dt f (cell_number r media 1 i j k) (get_or line q nan)) e

e_agrees : (eps0 : Float) (r : Record) (media line : List Float) (f : Face) (i j k : ℕ) →
    addends (corrected false eps0 (line_length r.nz) r) f media line i j k ≡
    added_e eps0 r.spacings.dt f (cell_number r media 0 i j k) (cell_number r media 2 i j k) (hy_at (line_length r.nz) line (k + f.offset))
unfolding addend
e_agrees eps0 r media line f i j k =
    let m = cell_place r i j k in
    let z : cell_index r.nx r.ny i j k ≡ 0 * cells r + cell_index r.nx r.ny i j k = omega (arith, zero-mul (cells r)) in
    let e : line_length r.nz + f.offset + k ≡ line_length r.nz + (k + f.offset) = omega arith in
    ap (λ (q : ℕ). added_e eps0 r.spacings.dt f (get_or media q nan) (get_or media (2 * cells r + q) nan) (get_or line (line_length r.nz + f.offset + k) nan)) m
    ∙ ap (λ (q : ℕ). added_e eps0 r.spacings.dt f (get_or media q nan) (cell_number r media 2 i j k) (get_or line (line_length r.nz + f.offset + k) nan)) z
    ∙ ap (λ (q : ℕ). added_e eps0 r.spacings.dt f (cell_number r media 0 i j k) (cell_number r media 2 i j k) (get_or line q nan)) e

-- ---- the faces one after another
module _ (b : Bool) (unit : Float) (o : ℕ) (r : Record) (media line : List Float) (added : Face → ℕ → ℕ → ℕ → Float)
    (agrees : (f : Face) (i j k : ℕ) → addends (corrected b unit o r) f media line i j k ≡ added f i j k) where
  -- the loops took s to t over a face that comes to g
  abbrev Passed : (f g : Face) (s t : List Float) → Type 0
  Passed f g s t = (f ≡ g) × Fit r g × (t ≡ face_done (corrected b unit o r) f media line s)

  passed : (f g : Face) (s t : List Float) → length s ≡ 3 * cells r → Passed f g s t → t ≡ correct_face r g (added g) s
  unfolding face_done
  passed f g s t l p =
      let w = corrected b unit o r in
      p.2 ∙ ap (λ (x : Face). face_done w x media line s) p.0 ∙ face_added r g (addends w g media line) (added g) s p.1.1 l (agrees g)

  four : (f1 f2 f3 f4 g1 g2 g3 g4 : Face) (s0 s1 s2 s3 s4 : List Float) →
      length s0 ≡ 3 * cells r → length s1 ≡ length s0 → length s2 ≡ length s1 → length s3 ≡ length s2 →
      Passed f1 g1 s0 s1 → Passed f2 g2 s1 s2 → Passed f3 g3 s2 s3 → Passed f4 g4 s3 s4 →
      s4 ≡ correct_face r g4 (added g4) (correct_face r g3 (added g3) (correct_face r g2 (added g2) (correct_face r g1 (added g1) s0)))
  four f1 f2 f3 f4 g1 g2 g3 g4 s0 s1 s2 s3 s4 l l1 l2 l3 p1 p2 p3 p4 =
      passed f4 g4 s3 s4 (omega arith) p4
      ∙ ap (correct_face r g4 (added g4)) (passed f3 g3 s2 s3 (omega arith) p3
      ∙ ap (correct_face r g3 (added g3)) (passed f2 g2 s1 s2 (omega arith) p2
      ∙ ap (correct_face r g2 (added g2)) (passed f1 g1 s0 s1 l p1)))

module _ (unit : Float) (r : Record) (media line : List Float) (f1 f2 f3 f4 : Face) (s0 s1 s2 s3 s4 : List Float) (p : FacesReady r media line s0)
    (l1 : length s1 ≡ length s0) (l2 : length s2 ≡ length s1) (l3 : length s3 ≡ length s2) where
  abbrev Done : Corrected → Type 0
  Done w =
      (s1 ≡ face_done w f1 media line s0) × (s2 ≡ face_done w f2 media line s1) × (s3 ≡ face_done w f3 media line s2) × (s4 ≡ face_done w f4 media line s3)

  abbrev Are : (g1 g2 g3 g4 : Region → Spacings → Face) → Type 0
  Are g1 g2 g3 g4 =
      let g = r.region in
      let s = r.spacings in
      (f1 ≡ g1 g s) × (f2 ≡ g2 g s) × (f3 ≡ g3 g s) × (f4 ≡ g4 g s)

  pub corrected_h_lem : Are hy_lower hy_upper hz_lower hz_upper → Done (corrected true unit 0 r) → s4 ≡ correct_h unit r media line s0
  unfolding correct_h
  corrected_h_lem a d =
      let c = p.corners in
      four true unit 0 r media line _ (h_agrees unit r media line) f1 f2 f3 f4 _ _ _ _ s0 s1 s2 s3 s4 p.field l1 l2 l3
      (a.0, hy_lower_fit r c, d.0) (a.1, hy_upper_fit r c, d.1) (a.2, hz_lower_fit r c, d.2) (a.3, hz_upper_fit r c, d.3)

  pub corrected_e_lem : Are ex_lower ex_upper ez_lower ez_upper → Done (corrected false unit (line_length r.nz) r) → s4 ≡ correct_e unit r media line s0
  unfolding correct_e
  corrected_e_lem a d =
      let c = p.corners in
      four false unit (line_length r.nz) r media line _ (e_agrees unit r media line) f1 f2 f3 f4 _ _ _ _ s0 s1 s2 s3 s4 p.field l1 l2 l3
      (a.0, ex_lower_fit r c, d.0) (a.1, ex_upper_fit r c, d.1) (a.2, ez_lower_fit r c, d.2) (a.3, ez_upper_fit r c, d.3)
