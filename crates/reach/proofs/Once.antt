-- One step: what two studies share one cell farther on every side, they share after it. Assumes nothing.
use Prim.Native.Nat.{ℕ, ◌+◌, ◌*◌, ◌%◌, ◌≤◌, ◌<◌}
use native.Mathlib.Omega.{arith}
use mathlib.Core.Path.{◌≡◌, refl}
use mathlib.Core.Bool.{false}
use mathlib.Core.List.{List}
use lib.Dec.{eqb}
use lib.ListN.{get_or}
use lib.Ieee.{Float}
use Rattle.cells.proofs.Pointwise.{cell_in, cells_same}
use Rattle.grid.specs.declared.Record.{Record}
use Rattle.grid.specs.Fault.{pole_count}
use Rattle.grid.specs.Stores.{Stores, stores, cells}
use Rattle.ade.specs.Polarization.{delta_p}
use Rattle.ade.proofs.Depends.{delta_same}
use Rattle.fdtd.specs.Halves.{half_h, half_e, psi_after, magnetic_after, electric_after}
use Rattle.halves.proofs.Depends.{corrected_h_lem, corrected_e_lem, stepped_same}
use Rattle.step.specs.Step.{line_mid, line_end, corrected_h, corrected_e, poles_stepped, stepped}
use Rattle.reach.proofs.Hoods.{Cell, index, Hood, wider, Same, narrower}
use Rattle.reach.proofs.Halved.{magnetic_near, psi_h_near, electric_near, psi_e_near}

-- what two studies share near a cell
pub record Alike (r : Record) (o : Cell) (lo hi : ℕ) (s t : Stores) : Type 0 where
  pub tables : s.tables ≡ t.tables
  pub aux : s.aux ≡ t.aux
  pub electric : Same r o lo hi 3 s.electric t.electric
  pub magnetic : Same r o lo hi 3 s.magnetic t.magnetic
  pub media : Same r o lo hi 3 s.media t.media
  pub psi_e : Same r o lo hi 6 s.psi_e t.psi_e
  pub psi_h : Same r o lo hi 6 s.psi_h t.psi_h
  pub poles : Same r o lo hi (6 * r.pole_slots + 3) s.poles t.poles
  pub ids : (p : Cell) → Hood r o lo hi p → get_or s.ids (index r p) 0 ≡ get_or t.ids (index r p) 0

-- where dispersion is on, no cell's material has more poles than there are slots
abbrev pub Few : Record → List ℕ → Type 0
Few r ids = eqb r.built_count 0 ≡ false → (m : ℕ) → m < cells r → pole_count r (get_or ids m 0) ≤ r.pole_slots

-- with one list of tables, one line between the halves and one after them
module _ (eps0 mu0 : Float) (r : Record) (o : Cell) (inside : Hood r o 0 0 o) (lo hi : ℕ) (tables line end : List Float)
    (e h media psi_e psi_h poles : List Float) (ids : List ℕ) (e' h' media' psiE' psiH' poles' : List Float) (ids' : List ℕ)
    (es : Same r o (lo + 1) (hi + 1) 3 e e') (hs : Same r o (lo + 1) (hi + 1) 3 h h') (ms : Same r o (lo + 1) (hi + 1) 3 media media')
    (pes : Same r o (lo + 1) (hi + 1) 6 psi_e psiE') (phs : Same r o (lo + 1) (hi + 1) 6 psi_h psiH') (ps : Same r o (lo + 1) (hi + 1) (6 * r.pole_slots + 3) poles poles')
    (is : (p : Cell) → Hood r o (lo + 1) (hi + 1) p → get_or ids (index r p) 0 ≡ get_or ids' (index r p) 0) (few : Few r ids) where
  abbrev S : ℕ
  S = 6 * r.pole_slots + 3

  abbrev H : List Float
  H = corrected_h mu0 r media line (magnetic_after mu0 r e media tables psi_h h)

  abbrev H' : List Float
  H' = corrected_h mu0 r media' line (magnetic_after mu0 r e' media' tables psiH' h')

  abbrev P : List Float
  P = poles_stepped eps0 r ids e poles

  abbrev P' : List Float
  P' = poles_stepped eps0 r ids' e' poles'

  -- up to the bounds lo and hi
  down : (n : ℕ) (f g : List Float) → Same r o (lo + 1) (hi + 1) n f g → Same r o lo hi n f g
  down n f g = narrower r o lo hi (lo + 1) (hi + 1) n f g (omega arith) (omega arith)

  -- up to the bounds lo + 1 and hi
  half : (n : ℕ) (f g : List Float) → Same r o (lo + 1) (hi + 1) n f g → Same r o (lo + 1) hi n f g
  half n f g = narrower r o (lo + 1) hi (lo + 1) (hi + 1) n f g (omega arith) (omega arith)

  between : Same r o (lo + 1) hi 3 H H'
  between c l p n =
      corrected_h_lem r p.i p.j p.k (n 0).0 (n 1).0 (n 2).0 c l mu0 media media' line _ _ (half 3 media media' ms 1 (omega arith) p n)
      (magnetic_near r tables o inside (lo + 1) hi e e' psi_h psiH' es (half 6 psi_h psiH' phs) mu0 media media' h h' (half 3 media media' ms) (half 3 h h' hs) c l p n)

  ids_down : (p : Cell) → Hood r o lo hi p → get_or ids (index r p) 0 ≡ get_or ids' (index r p) 0
  ids_down p n = is p (wider r o lo hi (lo + 1) (hi + 1) p (omega arith) (omega arith) n)

  in_grid : (p : Cell) → Hood r o lo hi p → index r p < cells r
  in_grid p n =
      let b = cell_in r.nx r.ny r.nz p.i p.j p.k (n 0).0 (n 1).0 (n 2).0 in
      let s = cells_same r.nx r.ny r.nz in
      omega (arith, b, s)

  polarized : Same r o lo hi S P P'
  polarized c l p n =
      stepped_same eps0 r ids ids' e e' poles poles' c (index r p) l (in_grid p n) (ids_down p n) (down 3 e e' es (c % 3) (omega arith) p n)
      (λ q b u. down S poles poles' ps q b p n) (λ b. few b (index r p) (in_grid p n))

  moved : Same r o lo hi 3 (corrected_e eps0 r media line (electric_after eps0 r H media tables (delta_p r P) psi_e e))
      (corrected_e eps0 r media' line (electric_after eps0 r H' media' tables (delta_p r P') psiE' e'))
  moved c l p n =
      corrected_e_lem r p.i p.j p.k (n 0).0 (n 1).0 (n 2).0 c l eps0 media media' line _ _ (down 3 media media' ms 0 (omega arith) p n) (down 3 media media' ms 2 (omega arith) p n)
      (electric_near r tables o inside lo hi H H' psi_e psiE' between (down 6 psi_e psiE' pes) eps0 media media' (delta_p r P) (delta_p r P') e e' (down 3 media media' ms)
      (λ a b q m. delta_same r P P' a (index r q) (polarized (6 * r.pole_slots + a) (omega arith) q m)) (down 3 e e' es) c l p n)

  pub once : Alike r o lo hi
      (stores (corrected_e eps0 r media line (electric_after eps0 r H media tables (delta_p r P) psi_e e)) H media (psi_after half_e r H tables psi_e) (psi_after half_h r e tables psi_h) tables P end ids)
      (stores (corrected_e eps0 r media' line (electric_after eps0 r H' media' tables (delta_p r P') psiE' e')) H' media' (psi_after half_e r H' tables psiE') (psi_after half_h r e' tables psiH') tables P' end ids')
  once = record {
    tables = refl;
    aux = refl;
    electric = moved;
    magnetic = narrower r o lo hi (lo + 1) hi 3 H H' (omega arith) (omega arith) between;
    media = down 3 media media' ms;
    psi_e = psi_e_near r tables o inside lo hi H H' psi_e psiE' between (down 6 psi_e psiE' pes);
    psi_h = narrower r o lo hi (lo + 1) hi 6 (psi_after half_h r e tables psi_h) (psi_after half_h r e' tables psiH') (omega arith) (omega arith)
        (psi_h_near r tables o inside (lo + 1) hi e e' psi_h psiH' es (half 6 psi_h psiH' phs));
    poles = polarized;
    ids = ids_down;
  }

-- the study t, with s's tables and line in the place of its own, which are equal
pub stepped_alike : (eps0 mu0 c0 : Float) (r : Record) (x : Float) (o : Cell) → Hood r o 0 0 o → (lo hi : ℕ) (s t : Stores) → Alike r o (lo + 1) (hi + 1) s t → Few r s.ids
    → Alike r o lo hi (stepped eps0 mu0 c0 r x s) (stepped eps0 mu0 c0 r x t)
unfolding stepped
stepped_alike eps0 mu0 c0 r x o inside lo hi s t a few =
    rw (← a.tables, ← a.aux)
    (once eps0 mu0 r o inside lo hi s.tables (line_mid mu0 r s.aux) (line_end eps0 c0 r x (line_mid mu0 r s.aux)) s.electric s.magnetic s.media s.psi_e s.psi_h s.poles s.ids
    t.electric t.magnetic t.media t.psi_e t.psi_h t.poles t.ids a.electric a.magnetic a.media a.psi_e a.psi_h a.poles a.ids few)
