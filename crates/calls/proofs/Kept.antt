-- A block after a call, refused or accepted, and what C is told. Assumes nothing.
use Prim.Native.Nat.{ℕ}
use mathlib.Core.Path.{◌≡◌}
use mathlib.Core.List.{List}
use borrow.Author.Tests.{ne_eqb}
use Rattle.std.proofs.Common.{Result, IsErr}
use Rattle.refusals.specs.declared.Refusal.{Refusal}
use Rattle.refusals.specs.Refusals.{code}
use Rattle.refusals.proofs.Numbers.{some}
use Rattle.grid.specs.declared.Clock.{Clock}
use Rattle.grid.specs.declared.Record.{Record}
use Rattle.calls.specs.Blocks.{Sent, sent, Readout, readout, block_after, clock_after}

pub kept_old : {A : Type 0} (x : Result A Refusal) (r : Record) (b : List ℕ) → IsErr x → b ≡ block_after (code x) r b
unfolding block_after
kept_old x r b p = rw (ne_eqb (code x) 0 (some x p))

pub clock_old : {A : Type 0} (x : Result A Refusal) (c : Clock) (b : List ℕ) → IsErr x → b ≡ clock_after (code x) c b
unfolding clock_after
clock_old x c b p = rw (ne_eqb (code x) 0 (some x p))

-- ---- the refusal told to C in place of the result
pub sent_as : {A : Type 0} {n k : ℕ} {b : List ℕ} {s : A} {o : Sent A} → k ≡ n → sent n b s ≡ o → sent k b s ≡ o
sent_as e p = rw e p

pub readout_as : {A : Type 0} {n k : ℕ} {s : A} {o : Readout A} → k ≡ n → readout n s ≡ o → readout k s ≡ o
readout_as e p = rw e p
