-- A material's twenty numbers as the code lists them, and a record as the code makes it of its numbers. Assumes nothing.
use Prim.Native.Nat.{ℕ}
use native.Mathlib.Omega.{arith}
use mathlib.Core.Path.{◌≡◌, refl}
use mathlib.Core.Bool.{Bool, true, false}
use mathlib.Core.List.{List, [], ◌∷◌}
use lib.Dec.{eqb}
use lib.ListN.{length, get_or}
use lib.Ieee.{Float, binary64, of_bits}
use Rattle.dispersion.specs.declared.Pole.{Pole}
use Rattle.dispersion.specs.declared.Pole.TheVariants.{Lorentz, Drude, Debye}
use Rattle.dispersion.specs.declared.DispersiveMaterial.{DispersiveMaterial}
use Rattle.grid.specs.declared.RegionKind.{RegionKind}
use Rattle.grid.specs.declared.RegionKind.TheVariants.{Absent, SlabZ, InjectorZ, BoxRegion}
use Rattle.grid.specs.declared.Region.{Region}
use Rattle.grid.specs.declared.Record.{Record}
use Rattle.grid.specs.Fault.{is_absent}
use Rattle.grid.specs.Canon.{absent_region, region_by}
use Rattle.heads.specs.Numbers.{kind_of, pole_nums, slot_nums, gh_of}

pole_long : (p : Pole) → length (pole_nums p) ≡ 4
pole_long (Lorentz a b c) = refl
pole_long (Drude a b) = refl
pole_long (Debye a b) = refl

pub slot_long : (counted : Bool) (s : Pole) → length (slot_nums counted s) ≡ 4
slot_long true s = pole_long s
slot_long false s = refl

pub head_is : (l : List ℕ) (ms : List DispersiveMaterial) (x y z t u : Float) (k : RegionKind) → x ≡ of_bits binary64 (get_or l 20 0) → y ≡ of_bits binary64 (get_or l 21 0) →
    z ≡ of_bits binary64 (get_or l 22 0) → t ≡ of_bits binary64 (get_or l 23 0) → k ≡ kind_of (get_or l 13 0) → u ≡ of_bits binary64 (get_or l 24 0) →
    ◌≡◌ {A = Record} (record {
      nx = get_or l 0 0;
      ny = get_or l 1 0;
      nz = get_or l 2 0;
      pole_slots = get_or l 11 0;
      spacings = record { dx = x; dy = y; dz = z; dt = t };
      periodic = eqb (get_or l 3 0) 1 ∷ eqb (get_or l 4 0) 1 ∷ eqb (get_or l 5 0) 1 ∷ [];
      active = eqb (get_or l 6 0) 1 ∷ eqb (get_or l 7 0) 1 ∷ eqb (get_or l 8 0) 1 ∷ [];
      layer_on = eqb (get_or l 9 0) 1;
      materials = ms;
      material_count = get_or l 12 0;
      built_count = get_or l 10 0;
      region = record { kind = k; i0 = get_or l 14 0; i1 = get_or l 15 0; j0 = get_or l 16 0; j1 = get_or l 17 0; k0 = get_or l 18 0; k1 = get_or l 19 0 };
      clock = record { time = u; steps = get_or l 25 0 };
      constants = get_or l 26 0;
    }) (gh_of l ms)
unfolding gh_of
head_is l ms x y z t u k ex ey ez et ek eu = rw (ex, ey, ez, et, ek, eu)

-- ---- a record's twenty-seven numbers
pub region_none : (k : RegionKind) (g : Region) → is_absent k ≡ true → absent_region ≡ region_by k g
region_none Absent g e = refl
region_none SlabZ g e = absurd (let z : ◌≡◌ {A = ℕ} 0 1 = cc in let w : ⊥ = omega arith in w)
region_none InjectorZ g e = absurd (let z : ◌≡◌ {A = ℕ} 0 1 = cc in let w : ⊥ = omega arith in w)
region_none BoxRegion g e = absurd (let z : ◌≡◌ {A = ℕ} 0 1 = cc in let w : ⊥ = omega arith in w)

pub region_some : (k : RegionKind) (g : Region) → is_absent k ≡ false → g ≡ region_by k g
region_some Absent g e = absurd (let z : ◌≡◌ {A = ℕ} 0 1 = cc in let w : ⊥ = omega arith in w)
region_some SlabZ g e = refl
region_some InjectorZ g e = refl
region_some BoxRegion g e = refl
