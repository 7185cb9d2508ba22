-- The Courant-Friedrichs-Lewy limit of the time step for Yee's scheme on rectangular cells:
--   c Δt √(1/Δx² + 1/Δy² + 1/Δz²) ≤ 1
-- (Courant, Friedrichs and Lewy 1928; Taflove and Hagness, Computational Electrodynamics, the chapter on numerical dispersion and stability.)
use Rattle.std.specs.Prelude.{Bool, Float}
use Rattle.std.specs.Float.Ieee.{le}
use Rattle.root.specs.Root.{root_of}
use Rattle.root.specs.Rounded.{◌⊕◌, ◌⊗◌, ◌⊘◌, one_f}
use Rattle.root.specs.declared.Spacings.{Spacings}

-- √(1/Δx² + 1/Δy² + 1/Δz²)
unfoldable pub courant_root : Spacings → Float
courant_root s = root_of (one_f ⊘ (s.dx ⊗ s.dx) ⊕ one_f ⊘ (s.dy ⊗ s.dy) ⊕ one_f ⊘ (s.dz ⊗ s.dz))

-- the Courant number c Δt √(..)
unfoldable pub courant_number : Float → Spacings → Float
courant_number c0 s = c0 ⊗ s.dt ⊗ courant_root s

-- the largest stable time step 1 / (c √(..))
unfoldable pub courant_limit : Float → Spacings → Float
courant_limit c0 s = one_f ⊘ (c0 ⊗ courant_root s)

-- false too where the Courant number is a NaN
unfoldable pub stable : Float → Spacings → Bool
stable c0 s = le (courant_number c0 s) one_f
