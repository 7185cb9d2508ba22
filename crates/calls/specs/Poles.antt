-- The coefficients of a pole, asked for by its tag and three numbers (`pole_of`, heads/specs/Numbers.antt), into a lent room. Definitions only.
use Rattle.std.specs.Prelude.{ℕ, cond, List, [], ◌∷◌, eqb, length, Float}
use Rattle.dispersion.specs.declared.AdeCoeffs.{AdeCoeffs}
use Rattle.dispersion.specs.Ade.{ade_coeffs, pole_fault}
use Rattle.grid.specs.Fault.{bad_study, first}
use Rattle.grid.specs.Stores.{bad_store}
use Rattle.heads.specs.Numbers.{is_tag, pole_of}
use Rattle.calls.specs.Blocks.{Readout, readout}

-- 4 for a room of another length, 3 for another tag, and then 19 (document 02, S-2)
abbrev pub coeffs_fault : (tag room refusal : ℕ) → ℕ
coeffs_fault tag n refusal = first (eqb n 3) bad_store (first (is_tag tag) bad_study refusal)

abbrev pub three : AdeCoeffs → List Float
three k = k.a1 ∷ k.a2 ∷ k.a3 ∷ []

-- the refusal, and what the room then holds
unfoldable pub coeffs_call : (eps0 dt : Float) → (tag : ℕ) → (x y z : Float) → List Float → Readout (List Float)
coeffs_call eps0 dt tag x y z out =
    let p = pole_of tag x y z in
    let n = coeffs_fault tag (length out) (pole_fault eps0 dt p) in
    readout n (cond (eqb n 0) (three (ade_coeffs eps0 dt p)) out)
