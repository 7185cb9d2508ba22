-- The study record as numbers of fixed widths: the payload of GH, and of one material in ML (document 01, "The save"). What means nothing is zero.
-- Definitions only.
use Rattle.std.specs.Prelude.{ℕ, ◌+◌, ◌*◌, Bool, false, cond, ◌&&◌, ◌||◌, List, [], ◌∷◌, ◌++◌, leb, ltb, eqb, get_or, Float}
use Rattle.std.specs.Float.{binary64}
use Rattle.std.specs.Float.Ieee.{of_bits}
use Rattle.codec.specs.Bytes.{bits, fine}
use Rattle.root.specs.declared.Spacings.{Spacings}
use Rattle.dispersion.specs.declared.Pole.{Pole}
use Rattle.dispersion.specs.declared.Pole.TheVariants.{Lorentz, Drude, Debye}
use Rattle.dispersion.specs.declared.DispersiveMaterial.{DispersiveMaterial}
use Rattle.dispersion.specs.Material.{blank_slot}
use Rattle.cells.specs.Cells.{joined, row}
use Rattle.grid.specs.declared.RegionKind.{RegionKind}
use Rattle.grid.specs.declared.RegionKind.TheVariants.{Absent, SlabZ, InjectorZ, BoxRegion}
use Rattle.grid.specs.declared.Record.{Record}
use Rattle.grid.specs.Canon.{canon_region}
use Rattle.grid.specs.Fault.{all_below}

-- ---- GH: nx ny nz; periodic, active; layer on, built count, P, M, region kind; i0 i1 j0 j1 k0 k1; dx dy dz dt; time; steps; then the constants. A GH
-- written before document 02's S-7 ends with the steps
abbrev pub old_widths : List ℕ
old_widths =
    2 ∷ 2 ∷ 2
    ∷ 1 ∷ 1 ∷ 1 ∷ 1 ∷ 1 ∷ 1
    ∷ 1 ∷ 1 ∷ 1 ∷ 1 ∷ 1
    ∷ 2 ∷ 2 ∷ 2 ∷ 2 ∷ 2 ∷ 2
    ∷ 8 ∷ 8 ∷ 8 ∷ 8 ∷ 8 ∷ 4 ∷ []

abbrev pub gh_widths : List ℕ
gh_widths = old_widths ++ (1 ∷ [])

-- the sums of these (`old_total`, `gh_total`)
abbrev pub old_length : ℕ
old_length = 73

abbrev pub gh_length : ℕ
gh_length = 74

abbrev pub flag_num : Bool → ℕ
flag_num b = cond b 1 0

abbrev pub kind_num : RegionKind → ℕ
kind_num Absent = 0
kind_num SlabZ = 1
kind_num InjectorZ = 2
kind_num BoxRegion = 3

abbrev pub flag_nums : (periodic active : List Bool) → Bool → List ℕ
flag_nums p a on =
    flag_num (get_or p 0 false) ∷ flag_num (get_or p 1 false) ∷ flag_num (get_or p 2 false)
    ∷ flag_num (get_or a 0 false) ∷ flag_num (get_or a 1 false) ∷ flag_num (get_or a 2 false) ∷ flag_num on ∷ []

abbrev pub float_nums : Spacings → (time : Float) → List ℕ
float_nums s time = bits s.dx ∷ bits s.dy ∷ bits s.dz ∷ bits s.dt ∷ bits time ∷ []

unfoldable pub gh_nums : Record → List ℕ
gh_nums r =
    let g = canon_region r.region in
    (r.nx ∷ r.ny ∷ r.nz ∷ [])
    ++ flag_nums r.periodic r.active r.layer_on
    ++ (r.built_count ∷ r.pole_slots ∷ r.material_count ∷ kind_num g.kind ∷ g.i0 ∷ g.i1 ∷ g.j0 ∷ g.j1 ∷ g.k0 ∷ g.k1 ∷ [])
    ++ float_nums r.spacings r.clock.time
    ++ (r.clock.steps ∷ r.constants ∷ [])

-- ---- ML: eps_inf, sigma, mu_r, pole count; four places of a tag and three numbers
abbrev pub front_widths : List ℕ
front_widths = 8 ∷ 8 ∷ 8 ∷ 1 ∷ []

abbrev pub slot_widths : List ℕ
slot_widths = 1 ∷ 8 ∷ 8 ∷ 8 ∷ []

abbrev pub ml_widths : List ℕ
ml_widths = front_widths ++ slot_widths ++ slot_widths ++ slot_widths ++ slot_widths

-- the sum of these (`ml_total`)
abbrev pub ml_length : ℕ
ml_length = 125

-- a pole: its tag (1 Lorentz, 2 Drude, 3 Debye) and three numbers in the Rust's field order, of which Drude and Debye have two; and back
abbrev pub pole_nums : Pole → List ℕ
pole_nums (Lorentz d w g) = 1 ∷ bits d ∷ bits w ∷ bits g ∷ []
pole_nums (Drude w g) = 2 ∷ bits w ∷ bits g ∷ 0 ∷ []
pole_nums (Debye d t) = 3 ∷ bits d ∷ bits t ∷ 0 ∷ []

abbrev pub pole_of : ℕ → (x y z : Float) → Pole
pole_of tag x y z = cond (eqb tag 1) (Lorentz x y z) (cond (eqb tag 2) (Drude x y) (Debye x y))

abbrev pub is_tag : ℕ → Bool
is_tag tag = leb 1 tag && leb tag 3

abbrev pub slot_nums : (counted : Bool) → Pole → List ℕ
slot_nums counted p = cond counted (pole_nums p) (0 ∷ 0 ∷ 0 ∷ 0 ∷ [])

unfoldable pub ml_nums : DispersiveMaterial → List ℕ
ml_nums m =
    let n = m.pole_count in
    (bits m.eps_inf ∷ bits m.sigma ∷ bits m.mu_r ∷ n ∷ [])
    ++ joined 4 (λ i. slot_nums (ltb i n) (get_or m.poles i blank_slot))

-- ---- back: GH, from its twenty-seven numbers
abbrev pub kind_of : ℕ → RegionKind
kind_of n = cond (eqb n 0) Absent (cond (eqb n 1) SlabZ (cond (eqb n 2) InjectorZ BoxRegion))

unfoldable pub gh_of : List ℕ → List DispersiveMaterial → Record
gh_of l materials =
    let n : ℕ → ℕ = λ i. get_or l i 0 in
    record {
      nx = n 0;
      ny = n 1;
      nz = n 2;
      pole_slots = n 11;
      spacings = record { dx = of_bits binary64 (n 20); dy = of_bits binary64 (n 21); dz = of_bits binary64 (n 22); dt = of_bits binary64 (n 23) };
      periodic = eqb (n 3) 1 ∷ eqb (n 4) 1 ∷ eqb (n 5) 1 ∷ [];
      active = eqb (n 6) 1 ∷ eqb (n 7) 1 ∷ eqb (n 8) 1 ∷ [];
      layer_on = eqb (n 9) 1;
      materials = materials;
      material_count = n 12;
      built_count = n 10;
      region = record { kind = kind_of (n 13); i0 = n 14; i1 = n 15; j0 = n 16; j1 = n 17; k0 = n 18; k1 = n 19 };
      clock = record { time = of_bits binary64 (n 24); steps = n 25 };
      constants = n 26;
    }

-- flags 0 or 1, a region kind up to 3
unfoldable pub flags_fine : List ℕ → Bool
flags_fine l = all_below (λ i. leb (get_or l (3 + i) 0) 1) 7 && leb (get_or l 13 0) 3

-- the corners of a missing region zero
unfoldable pub corners_fine : List ℕ → Bool
corners_fine l = ltb 0 (get_or l 13 0) || all_below (λ i. eqb (get_or l (14 + i) 0) 0) 6

-- numbers that are a record's, its floats any patterns
unfoldable pub gh_shaped : List ℕ → Bool
gh_shaped l = flags_fine l && corners_fine l

-- as a save has them: no NaN but the one
unfoldable pub gh_fine : List ℕ → Bool
gh_fine l = gh_shaped l && all_below (λ i. fine (get_or l (20 + i) 0)) 5

-- ---- back: a material, from its twenty numbers

-- f of the tag and the three numbers in place i
abbrev pub at_slot : {A : Type 0} → (f : (tag a b c : ℕ) → A) → List ℕ → ℕ → A
at_slot f l i = f (get_or l (4 + 4 * i) 0) (get_or l (5 + 4 * i) 0) (get_or l (6 + 4 * i) 0) (get_or l (7 + 4 * i) 0)

abbrev pub slot_of : (tag a b c : ℕ) → Pole
slot_of tag a b c = pole_of tag (of_bits binary64 a) (of_bits binary64 b) (of_bits binary64 c)

unfoldable pub ml_of : List ℕ → DispersiveMaterial
ml_of l =
    let n : ℕ → ℕ = λ i. get_or l i 0 in
    record {
      eps_inf = of_bits binary64 (n 0);
      sigma = of_bits binary64 (n 1);
      mu_r = of_bits binary64 (n 2);
      pole_count = n 3;
      poles = row 4 (at_slot slot_of l);
    }

-- a counted place holds one of the three kinds, and Drude and Debye no third number; any other is zero
unfoldable pub slot_shaped : (counted : Bool) → (tag a b c : ℕ) → Bool
slot_shaped counted tag a b c =
    cond counted (is_tag tag && (eqb tag 1 || eqb c 0)) (eqb tag 0 && eqb a 0 && eqb b 0 && eqb c 0)

-- numbers that are a material's, its floats any patterns
unfoldable pub ml_shaped : List ℕ → Bool
ml_shaped l = all_below (λ i. at_slot (slot_shaped (ltb i (get_or l 3 0))) l i) 4

-- as a save has them: no NaN but the one
abbrev pub three_fine : (a b c : ℕ) → Bool
three_fine a b c = fine a && fine b && fine c

unfoldable pub ml_fine : List ℕ → Bool
ml_fine l = ml_shaped l && three_fine (get_or l 0 0) (get_or l 1 0) (get_or l 2 0) && all_below (at_slot (λ _. three_fine) l) 4
