-- The corrections where a difference crosses the region's surface: the incident field is added to or taken from it (Taflove and Hagness, the chapter on
-- plane-wave sources; tfsf.rs, `correct_h` and `correct_e`). The incident wave has ex and hy alone and runs along z: it stands in ∂Ex/∂z of Hy, ∂Ex/∂y of Hz, ∂Hy/∂z of Ex
-- and ∂Hy/∂x of Ez. H is corrected with the line's ex at n, E with its hy at n + 1/2. Eight corrections, one after another in the Rust's order, each a number added in
-- each cell of a box, so that no order of cells is in one. They are added on walls too, and to numbers that the half step left (document 01: "Corrections may write on
-- walls"). Definitions only.
use Rattle.std.specs.Prelude.{ℕ, ◌+◌, ◌-◌, Bool, true, false, cond, ◌&&◌, List, leb, eqb, Float}
use Rattle.std.specs.Float.Ieee.{neg}
use Rattle.root.specs.Rounded.{◌⊕◌, ◌⊗◌, ◌⊘◌, two_f}
use Rattle.root.specs.declared.Spacings.{Spacings}
use Rattle.cells.specs.declared.IndexBox.{IndexBox}
use Rattle.cells.specs.Box.{in_box}
use Rattle.cells.specs.Cells.{cell_index, components}
use Rattle.grid.specs.declared.RegionKind.{RegionKind}
use Rattle.grid.specs.declared.RegionKind.TheVariants.{Absent, SlabZ, InjectorZ, BoxRegion}
use Rattle.grid.specs.declared.Region.{Region}
use Rattle.grid.specs.declared.Record.{Record}
use Rattle.grid.specs.Stores.{number_at, cells, pad, line_length}
use Rattle.tfsf.specs.declared.faces.Face.{Face}
use Rattle.tfsf.specs.Line.{ex_at, hy_at}

-- ---- the region's cells in a plane
-- The region's corners i0, i1, .. are inclusive. A slab's and an injector's are those of the record too; `slab_z` and `injector_z` (Wave.antt) make them the whole of x and y.
-- Which faces are corrected: the x and y faces of a box, the upper z face of a box and a slab, the lower z face of each kind
abbrev pub side_faces : RegionKind → Bool
side_faces Absent = false
side_faces SlabZ = false
side_faces InjectorZ = false
side_faces BoxRegion = true

abbrev pub upper_face : RegionKind → Bool
upper_face Absent = false
upper_face SlabZ = true
upper_face InjectorZ = false
upper_face BoxRegion = true

-- An `IndexBox`'s upper ends are exclusive, the region's corners inclusive: hence the + 1 below. Ex, Hy and Hz lie at i + 1/2: where the upper x face is corrected their last i is i1 - 1, else i1. Ez lies at k + 1/2: so with k1
abbrev pub half_end : (corrected : Bool) → (last : ℕ) → ℕ
half_end corrected last = cond corrected last (last + 1)

-- the region's cells in the plane k, for Ex and Hy; in the plane j, for Hz; in the plane i, for Ez
unfoldable pub z_plane : Region → (k : ℕ) → IndexBox
z_plane g k = record { i0 = g.i0; i1 = half_end (side_faces g.kind) g.i1; j0 = g.j0; j1 = g.j1 + 1; k0 = k; k1 = k + 1 }

unfoldable pub y_plane : Region → (j : ℕ) → IndexBox
y_plane g j = record { i0 = g.i0; i1 = half_end (side_faces g.kind) g.i1; j0 = j; j1 = j + 1; k0 = g.k0; k1 = g.k1 + 1 }

unfoldable pub x_plane : Region → (i : ℕ) → IndexBox
x_plane g i = record { i0 = i; i1 = i + 1; j0 = g.j0; j1 = g.j1 + 1; k0 = g.k0; k1 = half_end (upper_face g.kind) g.k1 }

-- ---- the eight corrections: whether there is one (as the Rust has it: those of the lower z face only if k0 ≥ 1, hz's of the lower y face only if j0 ≥ 1, but ez's of
-- the lower x face always, i0 = 0 included), which component (0, 1, 2 along x, y, z) in which cells b, the spacing d across the face, and whether the incident number is taken away. For the plane k that number stands at k + offset of the line.
module _ (g : Region) (s : Spacings) where
  -- hy half a cell below the lower z face, which reads ex of the face
  unfoldable pub hy_lower : Face
  hy_lower = record { there = leb 1 g.k0; component = 1; b = z_plane g (g.k0 - 1); d = s.dz; minus = false; offset = pad + 1 }

  -- hy half a cell above the upper z face, which reads ex of the face
  unfoldable pub hy_upper : Face
  hy_upper = record { there = upper_face g.kind; component = 1; b = z_plane g g.k1; d = s.dz; minus = true; offset = pad }

  -- hz half a cell below the lower y face
  unfoldable pub hz_lower : Face
  hz_lower = record { there = side_faces g.kind && leb 1 g.j0; component = 2; b = y_plane g (g.j0 - 1); d = s.dy; minus = true; offset = pad }

  -- hz half a cell above the upper y face
  unfoldable pub hz_upper : Face
  hz_upper = record { there = side_faces g.kind; component = 2; b = y_plane g g.j1; d = s.dy; minus = false; offset = pad }

  -- ex on the lower z face, which reads hy half a cell below it
  unfoldable pub ex_lower : Face
  ex_lower = record { there = leb 1 g.k0; component = 0; b = z_plane g g.k0; d = s.dz; minus = false; offset = pad - 1 }

  -- ex on the upper z face
  unfoldable pub ex_upper : Face
  ex_upper = record { there = upper_face g.kind; component = 0; b = z_plane g g.k1; d = s.dz; minus = true; offset = pad }

  -- ez on the lower x face
  unfoldable pub ez_lower : Face
  ez_lower = record { there = side_faces g.kind; component = 2; b = x_plane g g.i0; d = s.dx; minus = true; offset = pad }

  -- ez on the upper x face
  unfoldable pub ez_upper : Face
  ez_upper = record { there = side_faces g.kind; component = 2; b = x_plane g g.i1; d = s.dx; minus = false; offset = pad }

-- ---- what a face adds in one cell, whose material has the relative mu and eps, and sigma
abbrev pub signed : (minus : Bool) → Float → Float
signed minus x = cond minus (neg x) x

-- to H: ± dt/(μ d), the sign taken before the product, times the incident ex
abbrev pub added_h : (mu0 dt : Float) → Face → (mu ex : Float) → Float
added_h mu0 dt f mu ex = signed f.minus (dt ⊘ (mu0 ⊗ mu ⊗ f.d)) ⊗ ex

-- to E: ± the incident hy over d (ε/dt + σ/2)
abbrev pub added_e : (eps0 dt : Float) → Face → (eps sigma hy : Float) → Float
added_e eps0 dt f eps sigma hy = signed f.minus (hy ⊘ (f.d ⊗ (eps0 ⊗ eps ⊘ dt ⊕ sigma ⊘ two_f)))

-- ---- the stores after the corrections
-- number c of the cell (i, j, k)
abbrev pub cell_number : Record → List Float → (c i j k : ℕ) → Float
cell_number r s c i j k = number_at s (cells r) c (cell_index r.nx r.ny i j k)

-- after one face: where it is there, `added i j k` is added to its component in each of its cells
unfoldable pub correct_face : Record → Face → (added : (i j k : ℕ) → Float) → List Float → List Float
correct_face r f added s =
    cond f.there (components 3 r.nx r.ny r.nz (λ c i j k.
    let x = cell_number r s c i j k in
    cond (eqb c f.component && in_box f.b i j k) (x ⊕ added i j k) x)) s

-- after one face of H, by ex of the line, and one of E, by hy
abbrev pub face_h : (mu0 : Float) → Record → (media line : List Float) → Face → List Float → List Float
face_h mu0 r media line f = correct_face r f (λ i j k. added_h mu0 r.spacings.dt f (cell_number r media 1 i j k) (ex_at line (k + f.offset)))

abbrev pub face_e : (eps0 : Float) → Record → (media line : List Float) → Face → List Float → List Float
face_e eps0 r media line f =
    correct_face r f (λ i j k. added_e eps0 r.spacings.dt f (cell_number r media 0 i j k) (cell_number r media 2 i j k) (hy_at (line_length r.nz) line (k + f.offset)))

-- hy_lower first
unfoldable pub correct_h : (mu0 : Float) → Record → (media line h : List Float) → List Float
correct_h mu0 r media line h =
    let g = r.region in
    let s = r.spacings in
    let add = face_h mu0 r media line in
    add (hz_upper g s) (add (hz_lower g s) (add (hy_upper g s) (add (hy_lower g s) h)))

-- ex_lower first
unfoldable pub correct_e : (eps0 : Float) → Record → (media line e : List Float) → List Float
correct_e eps0 r media line e =
    let g = r.region in
    let s = r.spacings in
    let add = face_e eps0 r media line in
    add (ez_upper g s) (add (ez_lower g s) (add (ex_upper g s) (add (ex_lower g s) e)))
