-- What a side (the struct of rows.rt) gives the cell i of a row, and what the passes over the row ask of it. Definitions only.
use Rattle.std.specs.Prelude.{ℕ, ◌+◌, ◌≤◌, ◌<◌, ◌≡◌, Bool, true, cond, List, length, get_or, Float}
use Rattle.std.specs.Float.{nan}
use Rattle.std.specs.Float.Ieee.{eq}
use Rattle.root.specs.Rounded.{zero_f}
use Rattle.fdtd.specs.declared.Coef.{Coef}
use Rattle.fdtd.specs.declared.rows.Side.{Side}
use Rattle.fdtd.specs.Yee.{Term, term, in_layer, memory_after}

-- the layer's numbers
unfoldable pub k_of : Side → (tables : List Float) → ℕ → Coef
k_of s tab i =
    record {
      kinv = cond s.along (get_or tab (s.tab + i) nan) s.k.kinv;
      b = cond s.along (get_or tab (s.tab + s.len + i) nan) s.k.b;
      c = cond s.along (get_or tab (s.tab + s.len + s.len + i) nan) s.k.c;
    }

-- its term of the curl, with the derivative in hand
abbrev pub side_term : Side → (tables mem : List Float) → ℕ → (deriv : Float) → Term
side_term s tab mem i d = term s.on (k_of s tab i) (get_or mem (s.mem + i) nan) d

-- the curl once the side's layer has joined it, and the side's memory after
unfoldable pub side_layered : (second : Bool) → Side → (tables mem : List Float) → ℕ → (deriv curl : Float) → Float
side_layered second s tab mem i d curl = in_layer second (side_term s tab mem i d) curl

unfoldable pub side_memory : Side → (tables mem : List Float) → ℕ → (deriv : Float) → Float
side_memory s tab mem i d = memory_after true (side_term s tab mem i d)

-- of the cells from a up to z, those between lo and hi have a quiet layer
pub record Calm (s : Side) (tab : List Float) (a z : ℕ) : Type 0 where
  pub from : a ≤ s.lo
  pub order : s.lo ≤ s.hi
  pub upto : s.hi ≤ z
  pub quiet : (i : ℕ) → s.lo ≤ i → i < s.hi → eq (k_of s tab i).c zero_f ≡ true

-- the places that a row of n cells with this side reads and writes are there
pub record SideRoom (s : Side) (field tab mem : List Float) (n : ℕ) : Type 0 where
  pub own : s.own + n ≤ length field
  pub other : s.other + n ≤ length field
  pub tabs : s.tab + s.len + s.len + n ≤ length tab
  pub mems : s.mem + n ≤ length mem
