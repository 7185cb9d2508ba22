-- What the loops of the corrections cite: a number added in each cell of a face's box, row by row. Definitions only.
use Rattle.std.specs.Prelude.{◌≡◌, Bool, cond, List, [], ◌∷◌, ℕ, ◌+◌, ◌*◌, ◌≤◌, ◌<◌, length, get_or, Float}
use Rattle.std.specs.Float.{nan}
use Rattle.root.specs.Rounded.{◌⊕◌}
use Rattle.cells.specs.declared.IndexBox.{IndexBox}
use Rattle.cells.specs.Inner.Blocks.{on, in_blocks}
use Rattle.grid.specs.declared.Region.{Region}
use Rattle.grid.specs.declared.Record.{Record}
use Rattle.grid.specs.Inner.Sound.{Sound}
use Rattle.grid.specs.Stores.{cells, line_length}
use Rattle.corrections.specs.declared.Corrected.{Corrected}
use Rattle.tfsf.specs.declared.faces.Face.{Face}
use Rattle.tfsf.specs.Corrections.{added_h, added_e}

-- ---- f added in each cell of a row, a plane and a grid that lies in the box
unfoldable pub add_row : (nx i0 i1 : ℕ) → (ℕ → Float) → List Float → List Float
add_row nx i0 i1 f = in_blocks nx 1 i0 i1 (λ i l. (get_or l 0 nan ⊕ f i) ∷ [])

unfoldable pub add_plane : (nx ny : ℕ) → IndexBox → (ℕ → ℕ → Float) → List Float → List Float
add_plane nx ny b f = in_blocks ny nx b.j0 b.j1 (λ j. add_row nx b.i0 b.i1 (λ i. f i j))

unfoldable pub add_box : (nx ny nz : ℕ) → IndexBox → (ℕ → ℕ → ℕ → Float) → List Float → List Float
add_box nx ny nz b f = in_blocks nz (ny * nx) b.k0 b.k1 (λ k. add_plane nx ny b (λ i j. f i j k))

-- ---- a face done, by places in the stores
-- what is added at the place p of the grid, where the incident number is x
unfoldable pub addend : Corrected → Face → List Float → (x : Float) → (p : ℕ) → Float
addend w f media x p =
    cond w.magnetic (added_h w.unit w.dt f (get_or media (w.n + p) nan) x)
    (added_e w.unit w.dt f (get_or media p nan) (get_or media (2 * w.n + p) nan) x)

abbrev pub addends : Corrected → Face → (media line : List Float) → (i j k : ℕ) → Float
addends w f media line i j k = addend w f media (get_or line (w.incident + f.offset + k) nan) (k * (w.ny * w.nx) + j * w.nx + i)

unfoldable pub face_done : Corrected → Face → (media line : List Float) → List Float → List Float
face_done w f media line s =
    cond f.there (on (f.component * w.n) (w.nz * (w.ny * w.nx)) (add_box w.nx w.ny w.nz f.b (addends w f media line)) s) s

-- H or E of a record; the incident field starts at `incident` of the line
abbrev pub corrected : (magnetic : Bool) → (unit : Float) → (incident : ℕ) → Record → Corrected
corrected magnetic unit incident r =
    record { magnetic = magnetic; unit = unit; dt = r.spacings.dt; nx = r.nx; ny = r.ny; nz = r.nz; n = cells r; incident = incident }

-- ---- what the code may lean on
-- a box that lies in a grid
pub record Inside (b : IndexBox) (nx ny nz : ℕ) : Type 0 where
  pub i : b.i0 ≤ b.i1
  pub j : b.j0 ≤ b.j1
  pub k : b.k0 ≤ b.k1
  pub x : b.i1 ≤ nx
  pub y : b.j1 ≤ ny
  pub z : b.k1 ≤ nz

pub record FaceFits (w : Corrected) (f : Face) (media s : List Float) : Type 0 where
  pub box : Inside f.b w.nx w.ny w.nz
  pub count : w.n ≡ w.nz * (w.ny * w.nx)
  pub plane : w.ny * w.nx ≤ 262144
  pub few : w.n ≤ 1048576
  pub stuff : length media ≡ 3 * w.n
  pub room : f.component * w.n + w.n ≤ length s

-- the corners of a region that lies in a grid
pub record Corners (g : Region) (nx ny nz : ℕ) : Type 0 where
  pub i : g.i0 ≤ g.i1
  pub j : g.j0 ≤ g.j1
  pub k : g.k0 ≤ g.k1
  pub x : g.i1 < nx
  pub y : g.j1 < ny
  pub z : g.k1 < nz

pub record FacesReady (r : Record) (media line s : List Float) : Type 0 where
  pub sound : Sound r
  pub corners : Corners r.region r.nx r.ny r.nz
  pub stuff : length media ≡ 3 * cells r
  pub wave : length line ≡ 2 * line_length r.nz
  pub field : length s ≡ 3 * cells r

-- the sides are so few that the ends of a face do not wrap
pub record Low (g : Region) : Type 0 where
  pub i0 : g.i0 ≤ 512
  pub i1 : g.i1 ≤ 512
  pub j0 : g.j0 ≤ 512
  pub j1 : g.j1 ≤ 512
  pub k0 : g.k0 ≤ 512
  pub k1 : g.k1 ≤ 512
