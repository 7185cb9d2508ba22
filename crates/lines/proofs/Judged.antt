-- What stands where a listing has no fault, and its two ends. Assumes nothing.
use Prim.Native.Nat.{ℕ, ◌≤◌}
use native.Mathlib.Omega.{arith}
use mathlib.Core.Path.{◌≡◌}
use mathlib.Core.Bool.{true}
use mathlib.Core.List.{List}
use borrow.Author.Tests.{leb-true, ne_eqb}
use lib.Dec.{leb}
use lib.ListN.{length}
use Rattle.refusals.specs.declared.Refusal.{Refusal}
use Rattle.refusals.specs.Refusals.{number}
use Rattle.refusals.proofs.Numbers.{numbered}
use Rattle.grid.specs.Stores.{cells}
use Rattle.grid.proofs.Tests.{and_left, first_none, or_none}
use Rattle.format.specs.Rewind.{bytes_fault, read_record, read_stores}
use Rattle.lines.specs.Listing.{fits_listing, list_fault, study_lines, refused_line, listing}

module _ (b : List ℕ) (ok : list_fault b ≡ 0) where
  parts : (bytes_fault b ≡ 0) × (fits_listing (read_record b) ≡ true)
  unfolding list_fault
  parts =
      let z = or_none (bytes_fault b) _ (first_none (leb (length b) 24576) 3 _ ok).1 in
      (z.0, (first_none (fits_listing (read_record b)) 3 0 z.1).0)

  pub no_fault : bytes_fault b ≡ 0
  no_fault = parts.0

  pub few : cells (read_record b) ≤ 64
  unfolding fits_listing
  few = leb-true (cells (read_record b)) 64 (and_left (leb (cells (read_record b)) 64) (leb (read_record b).pole_slots 1) parts.1)

-- ---- the two ends
pub refused_listing : (b : List ℕ) (f : Refusal) → number f ≡ list_fault b → refused_line (number f) ≡ listing b
unfolding listing
refused_listing b f e = rw (← e, ne_eqb (number f) 0 (λ z. let h = numbered f in omega (arith, h)))

pub study_listing : (b : List ℕ) → 0 ≡ list_fault b → study_lines (read_record b) (read_stores b) ≡ listing b
unfolding listing
study_listing b e = rw (← e)
