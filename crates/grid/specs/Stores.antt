-- The nine lent stores, how long each has to be (document 01, "Stores and study record"), refusal 4 BadStore, and what a call comes to. Definitions only.
use Rattle.std.specs.Prelude.{ℕ, zero, suc, ◌+◌, ◌*◌, Bool, ◌&&◌, List, eqb, length, get_or, replicate, Float}
use Rattle.std.specs.Float.{nan}
use Rattle.refusals.specs.declared.Refusal.TheVariants.{BadStore}
use Rattle.refusals.specs.Refusals.{number}
use Rattle.root.specs.Rounded.{zero_f}
use Rattle.grid.specs.declared.Record.{Record}
use Rattle.grid.specs.declared.stores.Lengths.{Lengths}
use Rattle.grid.specs.Fault.{fault_of, first}

-- Each store is several lists of one number a cell, one after another. electric: ex, ey, ez. magnetic: hx, hy, hz. media (document 01's cell numbers): eps_r, mu_r,
-- sigma. psi_e, psiH: the layer's memories Exy, Exz, Eyz, Eyx, Ezx, Ezy and Hxy, .. alike. poles, for S pole slots (document 01's P): p by slot and component, p_prev alike, dp. ids: of
-- each cell the number of its material. Not by cells: tables, of each axis kinv_e, b_e, c_e, kinv_h, b_h, c_h; aux, the auxiliary line's ex and hy.
pub record Stores : Type 0 where
  pub electric : List Float
  pub magnetic : List Float
  pub media : List Float
  pub psi_e : List Float
  pub psi_h : List Float
  pub tables : List Float
  pub poles : List Float
  pub aux : List Float
  pub ids : List ℕ

-- the nine as a contract names them
abbrev pub stores : (electric magnetic media psi_e psi_h tables poles aux : List Float) → List ℕ → Stores
stores e h m pe ph t p a i =
    record { electric = e; magnetic = h; media = m; psi_e = pe; psi_h = ph; tables = t; poles = p; aux = a; ids = i }

-- n numbers +0.0
abbrev pub zeros : ℕ → List Float
zeros n = replicate n zero_f

-- the auxiliary line has 24 places below k = 0 and 24 above k = nz - 1
abbrev pub pad : ℕ
pad = 24

abbrev pub line_length : (nz : ℕ) → ℕ
line_length nz = nz + 2 * pad

-- N, the number of cells
abbrev pub cells : Record → ℕ
cells r = r.nx * r.ny * r.nz

unfoldable pub store_lengths : Record → Lengths
store_lengths r = record {
  electric = 3 * cells r;
  magnetic = 3 * cells r;
  media = 3 * cells r;
  psi_e = 6 * cells r;
  psi_h = 6 * cells r;
  tables = 6 * (r.nx + r.ny + r.nz);
  poles = (6 * r.pole_slots + 3) * cells r;
  aux = 2 * line_length r.nz;
  ids = cells r;
}

abbrev pub lengths_of : Stores → Lengths
lengths_of s = record {
  electric = length s.electric;
  magnetic = length s.magnetic;
  media = length s.media;
  psi_e = length s.psi_e;
  psi_h = length s.psi_h;
  tables = length s.tables;
  poles = length s.poles;
  aux = length s.aux;
  ids = length s.ids;
}

unfoldable pub same_lengths : Lengths → Lengths → Bool
same_lengths a b =
    eqb a.electric b.electric
    && eqb a.magnetic b.magnetic
    && eqb a.media b.media
    && eqb a.psi_e b.psi_e
    && eqb a.psi_h b.psi_h
    && eqb a.tables b.tables
    && eqb a.poles b.poles
    && eqb a.aux b.aux
    && eqb a.ids b.ids

abbrev pub bad_store : ℕ
bad_store = number BadStore

-- number c of the cell with the index m, in a store of n cells
abbrev pub number_at : List Float → (n c m : ℕ) → Float
number_at s n c m = get_or s (c * n + m) nan

-- the first number that is not 0
abbrev pub or_else : ℕ → ℕ → ℕ
or_else zero n = n
or_else (suc m) n = suc m

-- a fault f of the record itself, then 4 unless what is lent has the right lengths
abbrev pub lent_fault : ℕ → Bool → ℕ
lent_fault f fits = or_else f (first fits bad_store 0)

-- the four faults that come first in every call
unfoldable pub fault_lent : Record → Bool → ℕ
fault_lent r fits = lent_fault (fault_of r) fits

-- and where all nine stores are lent
abbrev pub fault_with : Record → Lengths → ℕ
fault_with r l = fault_lent r (same_lengths l (store_lengths r))

-- what a call on a study record comes to: the refusal's number or 0, the record, and the rest: the stores that it was lent, its further answers
pub record Outcome (A : Type 0) : Type 0 where
  pub refusal : ℕ
  pub study : Record
  pub rest : A

abbrev pub outcome : {A : Type 0} → ℕ → Record → A → Outcome A
outcome n r s = record { refusal = n; study = r; rest = s }

-- refused: the record r and the rest s that the call hands it for a refusal; accepted: the new record and the new rest. That s is the lent stores as they
-- were, and each further answer 0, +0.0 or no axis, stands in each call; for every C function it is the law `silent` (study/proofs/Regular.antt)
abbrev pub settle : {A : Type 0} → ℕ → Record → A → Record → A → Outcome A
settle zero r s r' s' = outcome 0 r' s'
settle (suc n) r s r' s' = outcome (suc n) r s
