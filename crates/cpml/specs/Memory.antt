-- How one number of a memory ψ of the convolution moves on, and the twelve memories by name (Roden and Gedney 2000; cpml.rs, `advance`, `Psi`, `psi_mut`). `Advanced`
-- (src/lib.rt) has the memory after it and the answer, which joins the curl. Definitions only.
use Rattle.std.specs.Prelude.{ℕ, ◌*◌, Bool, true, false, cond, List, [], ◌∷◌, get_or, Float}
use Rattle.std.specs.Float.Ieee.{eq}
use Rattle.codec.specs.Lists.{part}
use Rattle.root.specs.Rounded.{◌⊕◌, ◌⊗◌, zero_f}
use Rattle.cpml.specs.declared.Advanced.{Advanced}
use Rattle.cpml.specs.declared.Place.{Place}
use Rattle.cpml.specs.declared.Psi.{Psi}
use Rattle.cpml.specs.declared.Psi.TheVariants.{Exy, Exz, Eyz, Eyx, Ezx, Ezy, Hxy, Hxz, Hyz, Hyx, Hzx, Hzy}

-- ψ(n+1) = b ψ(n) + c ∂F/∂w; where c is 0.0, -0.0 too, the answer is +0.0 and the memory stands
unfoldable pub advanced : (b c memory deriv : Float) → Advanced
advanced b c memory deriv =
    let v = b ⊗ memory ⊕ c ⊗ deriv in
    cond (eq c zero_f) (record { memory = memory; answer = zero_f }) (record { memory = v; answer = v })

-- ---- the twelve by name; no formula of the step needs what follows
-- which of the two stores, and which of its six parts
abbrev at : Bool → ℕ → Place
at electric number = record { electric = electric; number = number }

-- the field, then the axis of the derivative
abbrev pub place_of : Psi → Place
place_of Exy = at true 0
place_of Exz = at true 1
place_of Eyz = at true 2
place_of Eyx = at true 3
place_of Ezx = at true 4
place_of Ezy = at true 5
place_of Hxy = at false 0
place_of Hxz = at false 1
place_of Hyz = at false 2
place_of Hyx = at false 3
place_of Hzx = at false 4
place_of Hzy = at false 5

-- the letters of a memory's name: the component that it belongs to, and the axis of its derivative; 0 x, 1 y, 2 z
abbrev pub component_of : Psi → ℕ
component_of Exy = 0
component_of Exz = 0
component_of Eyz = 1
component_of Eyx = 1
component_of Ezx = 2
component_of Ezy = 2
component_of Hxy = 0
component_of Hxz = 0
component_of Hyz = 1
component_of Hyx = 1
component_of Hzx = 2
component_of Hzy = 2

abbrev pub along_of : Psi → ℕ
along_of Exy = 1
along_of Exz = 2
along_of Eyz = 2
along_of Eyx = 0
along_of Ezx = 0
along_of Ezy = 1
along_of Hxy = 1
along_of Hxz = 2
along_of Hyz = 2
along_of Hyx = 0
along_of Hzx = 0
along_of Hzy = 1

-- the k-th memory of a store, as document 01 orders the six
unfoldable pub in_order : (electric : Bool) → ℕ → Psi
in_order electric k =
    get_or (cond electric (Exy ∷ Exz ∷ Eyz ∷ Eyx ∷ Ezx ∷ Ezy ∷ []) (Hxy ∷ Hxz ∷ Hyz ∷ Hyx ∷ Hzx ∷ Hzy ∷ [])) k Exy

-- the N numbers of one memory
unfoldable pub memory_of : Psi → (psi_e psi_h : List Float) → ℕ → List Float
memory_of which psi_e psi_h n = part (cond (place_of which).electric psi_e psi_h) ((place_of which).number * n) n
