-- A refused step leaves the record that it was asked for. Assumes nothing.
use Rattle.std.proofs.Common.{ℕ, ◌≡◌, Result, IsErr, ap, zero, suc}
use Rattle.refusals.specs.declared.Refusal.{Refusal}
use Rattle.refusals.specs.Refusals.{code}
use Rattle.refusals.proofs.Numbers.{some}
use Rattle.grid.specs.declared.Record.{Record}
use Rattle.grid.specs.Stores.{Outcome, outcome, settle}

pub left : {A B : Type 0} (x : Result B Refusal) (n : ℕ) (q r r' : Record) (s s' t : A) → IsErr x → outcome (code x) q t ≡ settle n r s r' s' →
    outcome (code x) r t ≡ settle n r s r' s'
left {A} x zero q r r' s s' t p e = absurd (some x p (ap (λ (o : Outcome A). o.refusal) e))
left {A} x (suc n) q r r' s s' t p e = rw (ap (λ (o : Outcome A). o.refusal) e, ap (λ (o : Outcome A). o.rest) e)
