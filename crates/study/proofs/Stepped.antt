-- A step looks at no more of a record than its canon has: counted poles of counted materials, and the corners of a region that is there. Assumes nothing.
use Prim.Native.Nat.{ℕ, ◌+◌, ◌-◌, ◌*◌, ◌/◌, ◌%◌, ◌<◌}
use mathlib.Core.Path.{◌≡◌, refl, ap, ◌∙◌}
use mathlib.Core.Bool.{Bool, true, false, cond}
use mathlib.Core.Logic.{◌⊎◌, inl, inr}
use mathlib.Core.List.{List, [], ◌∷◌}
use lib.Dec.{ltb, eqb}
use lib.ListN.{get_or}
use lib.Ieee.{Float}
use borrow.Author.Tests.{ltb-true}
use Rattle.root.specs.Rounded.{◌⊖◌, summed}
use Rattle.root.proofs.Sums.{summed_same}
use Rattle.dispersion.specs.declared.DispersiveMaterial.{DispersiveMaterial}
use Rattle.dispersion.specs.declared.Pole.{Pole}
use Rattle.dispersion.specs.Ade.{ade_coeffs}
use Rattle.dispersion.specs.Material.{pole_in}
use Rattle.cells.specs.Cells.{row}
use Rattle.cells.proofs.Blocks.{joined_same}
use Rattle.grid.specs.declared.RegionKind.{RegionKind}
use Rattle.grid.specs.declared.RegionKind.TheVariants.{Absent, SlabZ, InjectorZ, BoxRegion}
use Rattle.grid.specs.declared.Region.{Region}
use Rattle.grid.specs.declared.Record.{Record}
use Rattle.grid.specs.Edited.{edited}
use Rattle.grid.specs.Fault.{material_at, is_absent}
use Rattle.grid.specs.Stores.{Stores, cells, number_at, line_length}
use Rattle.grid.specs.Canon.{region_by, canon_region, canon}
use Rattle.ade.specs.Polarization.{polarized, pole_at, pole_count_at, p_old, p_prev, p_new, p_after, p_prev_after, dp_after, pole_number, poles_after, delta_p}
use Rattle.fdtd.specs.Halves.{half_h, psi_after, first_after, second_after, moves_at, curl_at, magnetic_at, magnetic_after, half_e, electric_at, electric_after}
use Rattle.tfsf.specs.Line.{line_h, line_e}
use Rattle.tfsf.specs.Corrections.{correct_face, correct_h, correct_e}
use Rattle.step.specs.Step.{line_mid, corrected_h, corrected_e, line_end, poles_stepped, stepped, ticked}
use Rattle.grid.proofs.Canonical.{material_kept, count_kept, pole_kept}

-- ---- the half steps
module _ (r : Record) where
  pub magnetic_kept : (mu0 : Float) (e media tables psi h : List Float) → magnetic_after mu0 (canon r) e media tables psi h ≡ magnetic_after mu0 r e media tables psi h
  unfolding magnetic_after magnetic_at moves_at curl_at canon
  magnetic_kept mu0 e media tables psi h = refl

  pub psi_h_kept : (field tables mem : List Float) → psi_after half_h (canon r) field tables mem ≡ psi_after half_h r field tables mem
  unfolding psi_after first_after second_after moves_at canon
  psi_h_kept field tables mem = refl

  pub psi_e_kept : (field tables mem : List Float) → psi_after half_e (canon r) field tables mem ≡ psi_after half_e r field tables mem
  unfolding psi_after first_after second_after moves_at canon
  psi_e_kept field tables mem = refl

  pub electric_kept : (eps0 : Float) (h media tables : List Float) (dp : ℕ → ℕ → Float) (psi e : List Float)
      → electric_after eps0 (canon r) h media tables dp psi e ≡ electric_after eps0 r h media tables dp psi e
  unfolding electric_after electric_at moves_at curl_at canon
  electric_kept eps0 h media tables dp psi e = refl

  pub delta_kept : (poles : List Float) → delta_p (canon r) poles ≡ delta_p r poles
  unfolding delta_p canon
  delta_kept poles = refl

-- ---- the wave's parts
absent_by : (k : RegionKind) (g : Region) → g.kind ≡ k → is_absent (region_by k g).kind ≡ is_absent g.kind
absent_by Absent g e = rw e
absent_by SlabZ g e = refl
absent_by InjectorZ g e = refl
absent_by BoxRegion g e = refl

absent_kept : (r : Record) → is_absent (canon r).region.kind ≡ is_absent r.region.kind
unfolding canon canon_region
absent_kept r = absent_by r.region.kind r.region refl

there_by : (k : RegionKind) (g : Region) → g.kind ≡ k → (is_absent g.kind ≡ true) ⊎ (region_by k g ≡ g)
there_by Absent g e = inl (rw e)
there_by SlabZ g e = inr refl
there_by InjectorZ g e = inr refl
there_by BoxRegion g e = inr refl

there : (r : Record) → (is_absent r.region.kind ≡ true) ⊎ (canon_region r.region ≡ r.region)
unfolding canon_region
there r = there_by r.region.kind r.region refl

-- the record with other materials and another region
abbrev bare : Record → List DispersiveMaterial → Region → Record
bare r l g = edited r r.periodic r.active r.layer_on l r.material_count r.built_count g r.clock

is_bare : (r : Record) → canon r ≡ bare r (canon r).materials (canon_region r.region)
unfolding canon
is_bare r = refl

module _ (r : Record) where
  pub mid_kept : (mu0 : Float) (aux : List Float) → line_mid mu0 (canon r) aux ≡ line_mid mu0 r aux
  unfolding line_mid canon
  mid_kept mu0 aux = ap (λ (b : Bool). cond b aux (line_h mu0 r.spacings (line_length r.nz) aux)) (absent_kept r)

  pub end_kept : (eps0 c0 x : Float) (line : List Float) → line_end eps0 c0 (canon r) x line ≡ line_end eps0 c0 r x line
  unfolding line_end canon
  end_kept eps0 c0 x line = ap (λ (b : Bool). cond b line (line_e eps0 c0 r.spacings (line_length r.nz) x line)) (absent_kept r)

  bare_h : (mu0 : Float) (l : List DispersiveMaterial) (media line h : List Float) → correct_h mu0 (bare r l r.region) media line h ≡ correct_h mu0 r media line h
  unfolding correct_h correct_face
  bare_h mu0 l media line h = refl

  bare_e : (eps0 : Float) (l : List DispersiveMaterial) (media line e : List Float) → correct_e eps0 (bare r l r.region) media line e ≡ correct_e eps0 r media line e
  unfolding correct_e correct_face
  bare_e eps0 l media line e = refl

  -- where there is no region nothing is corrected, and else the region is the canon's
  picked : (b c : Bool) (x y z : List Float) → b ≡ c → (c ≡ true) ⊎ (y ≡ z) → cond b x y ≡ cond c x z
  picked b c x y z e (inl h) = rw (e, h)
  picked b c x y z e (inr h) = rw (e, h)

  h_by : (mu0 : Float) (media line h : List Float) → (is_absent r.region.kind ≡ true) ⊎ (canon_region r.region ≡ r.region)
      → (is_absent r.region.kind ≡ true) ⊎ (correct_h mu0 (canon r) media line h ≡ correct_h mu0 r media line h)
  h_by mu0 media line h (inl e) = inl e
  h_by mu0 media line h (inr e) =
      inr (ap (λ (q : Record). correct_h mu0 q media line h) (is_bare r) ∙ ap (λ (g : Region). correct_h mu0 (bare r (canon r).materials g) media line h) e
      ∙ bare_h mu0 (canon r).materials media line h)

  e_by : (eps0 : Float) (media line e : List Float) → (is_absent r.region.kind ≡ true) ⊎ (canon_region r.region ≡ r.region)
      → (is_absent r.region.kind ≡ true) ⊎ (correct_e eps0 (canon r) media line e ≡ correct_e eps0 r media line e)
  e_by eps0 media line e (inl q) = inl q
  e_by eps0 media line e (inr q) =
      inr (ap (λ (p : Record). correct_e eps0 p media line e) (is_bare r) ∙ ap (λ (g : Region). correct_e eps0 (bare r (canon r).materials g) media line e) q
      ∙ bare_e eps0 (canon r).materials media line e)

  pub h_kept : (mu0 : Float) (media line h : List Float) → corrected_h mu0 (canon r) media line h ≡ corrected_h mu0 r media line h
  unfolding corrected_h
  h_kept mu0 media line h = picked (is_absent (canon r).region.kind) (is_absent r.region.kind) h _ _ (absent_kept r) (h_by mu0 media line h (there r))

  pub e_kept : (eps0 : Float) (media line e : List Float) → corrected_e eps0 (canon r) media line e ≡ corrected_e eps0 r media line e
  unfolding corrected_e
  e_kept eps0 media line e = picked (is_absent (canon r).region.kind) (is_absent r.region.kind) e _ _ (absent_kept r) (e_by eps0 media line e (there r))

-- ---- the polarizations
counted : (b : Bool) (x y z : Float) → (b ≡ true → x ≡ y) → cond b x z ≡ cond b y z
counted true x y z h = h refl
counted false x y z h = refl

three_same : (a b : Bool) {x x' y y' z z' : Float} → x ≡ x' → y ≡ y' → z ≡ z' → cond a x (cond b y z) ≡ cond a x' (cond b y' z')
three_same a b p q s = rw (p, q, s)

-- every id that a cell has is counted, where dispersion is on
abbrev pub Known : Record → List ℕ → Type 0
Known r ids = eqb r.built_count 0 ≡ false → (m : ℕ) → m < cells r → get_or ids m 0 < r.material_count

module _ (eps0 : Float) (r : Record) (ids : List ℕ) (electric poles : List Float) where
  module _ (m : ℕ) (low : get_or ids m 0 < r.material_count) where
    of_kept : pole_count_at eps0 (canon r) ids electric poles m ≡ pole_count_at eps0 r ids electric poles m
    of_kept = count_kept r (get_or ids m 0) low

    at_kept : (slot : ℕ) → slot < pole_count_at eps0 r ids electric poles m → pole_at (canon r) (get_or ids m 0) slot ≡ pole_at r (get_or ids m 0) slot
    at_kept slot h =
        ap (λ (d : DispersiveMaterial). pole_in d slot) (material_kept r (get_or ids m 0) low) ∙ pole_kept (material_at r (get_or ids m 0)) slot h

    new_kept : (slot c : ℕ) → slot < pole_count_at eps0 r ids electric poles m → p_new eps0 (canon r) ids electric poles slot c m ≡ p_new eps0 r ids electric poles slot c m
    unfolding p_new canon
    new_kept slot c h =
        ap (λ (p : Pole). polarized (ade_coeffs eps0 r.spacings.dt p) (p_old eps0 r ids electric poles slot c m) (p_prev eps0 r ids electric poles slot c m) (number_at electric (cells r) c m))
        (at_kept slot h)

    old_same : (slot c : ℕ) → p_old eps0 (canon r) ids electric poles slot c m ≡ p_old eps0 r ids electric poles slot c m
    unfolding canon
    old_same slot c = refl

    after_kept : (slot c : ℕ) → p_after eps0 (canon r) ids electric poles slot c m ≡ p_after eps0 r ids electric poles slot c m
    after_kept slot c =
        ap (λ (n : ℕ). cond (ltb slot n) (p_new eps0 (canon r) ids electric poles slot c m) (p_old eps0 (canon r) ids electric poles slot c m)) of_kept
        ∙ ap (λ (x : Float). cond (ltb slot (pole_count_at eps0 r ids electric poles m)) (p_new eps0 (canon r) ids electric poles slot c m) x) (old_same slot c)
        ∙ counted (ltb slot (pole_count_at eps0 r ids electric poles m)) _ _ _ (λ h. new_kept slot c (ltb-true slot _ h))

    before_kept : (slot c : ℕ) → p_prev_after eps0 (canon r) ids electric poles slot c m ≡ p_prev_after eps0 r ids electric poles slot c m
    unfolding canon
    before_kept slot c =
        ap (λ (n : ℕ). cond (ltb slot n) (p_old eps0 r ids electric poles slot c m) (p_prev eps0 r ids electric poles slot c m)) of_kept

    dp_kept : (c : ℕ) → dp_after eps0 (canon r) ids electric poles c m ≡ dp_after eps0 r ids electric poles c m
    unfolding dp_after
    dp_kept c =
        ap (λ (n : ℕ). summed n (λ slot. p_new eps0 (canon r) ids electric poles slot c m ⊖ p_old eps0 (canon r) ids electric poles slot c m)) of_kept
        ∙ summed_same (pole_count_at eps0 r ids electric poles m) _ _ (λ slot h. rw (new_kept slot c h, old_same slot c))

    number_kept : (n : ℕ) → pole_number eps0 (canon r) ids electric poles n m ≡ pole_number eps0 r ids electric poles n m
    unfolding pole_number canon
    number_kept n =
        let half = 3 * r.pole_slots in
        three_same (ltb n half) (ltb n (2 * half)) (after_kept (n / 3) (n % 3)) (before_kept ((n - half) / 3) ((n - half) % 3)) (dp_kept (n - 2 * half))

  poles_same : ((m : ℕ) → m < cells r → get_or ids m 0 < r.material_count) → poles_after eps0 (canon r) ids electric poles ≡ poles_after eps0 r ids electric poles
  unfolding poles_after canon
  poles_same low =
      joined_same (6 * r.pole_slots + 3) (λ n. row (cells r) (pole_number eps0 (canon r) ids electric poles n)) (λ n. row (cells r) (pole_number eps0 r ids electric poles n))
      (λ n hn. joined_same (cells r) _ _ (λ m hm. ap (λ (x : Float). x ∷ []) (number_kept m (low m hm) n)))

  off_or_on : (b : Bool) (x y : List Float) → (b ≡ false → x ≡ y) → cond b poles x ≡ cond b poles y
  off_or_on true x y h = refl
  off_or_on false x y h = h refl

  pub poles_kept : Known r ids → poles_stepped eps0 (canon r) ids electric poles ≡ poles_stepped eps0 r ids electric poles
  unfolding poles_stepped canon
  poles_kept k = off_or_on (eqb r.built_count 0) _ _ (λ h. poles_same (k h))

-- ---- the whole step
pub stepped_kept : (eps0 mu0 c0 : Float) (r : Record) (x : Float) (s : Stores) → Known r s.ids → stepped eps0 mu0 c0 (canon r) x s ≡ stepped eps0 mu0 c0 r x s
unfolding stepped
stepped_kept eps0 mu0 c0 r x s k =
    rw (mid_kept r, magnetic_kept r, h_kept r, psi_h_kept r, poles_kept eps0 r s.ids s.electric s.poles k, delta_kept r, electric_kept r, e_kept r, psi_e_kept r, end_kept r)

pub ticked_kept : (r : Record) → ticked (canon r) ≡ canon (ticked r)
unfolding canon
ticked_kept r = refl
