-- From a C function's clause `honest` to a run that goes on. Assumes nothing.
use Prim.Native.Nat.{ℕ, zero, suc}
use native.Mathlib.Omega.{arith}
use mathlib.Core.Path.{◌≡◌, refl, sym}
use mathlib.Core.Logic.{◌⊎◌, inl, inr}
use mathlib.Core.Option.{Option, some}
use mathlib.Core.List.{List, [], ◌∷◌}
use lib.Dec.{T}
use lib.Ieee.{Float}
use lib.ListN.{length}
use Rattle.codec.specs.Bytes.{bytes_fit}
use Rattle.grid.specs.Stores.{Stores, lengths_of}
use Rattle.format.specs.InMemory.{StoresHeld}
use Rattle.study.specs.History.{Made, begins, makes, holds, opening, doing, saving, rewinding, Reply, refused, accepted, Honest, Got, Handed, Earlier, wrote_by, Wrote}
use Rattle.study.specs.World.{World, Opening, Act, Lent, Answer, Room, Asked, step, nothing, numbers}
use Rattle.study.specs.Calls.{engine, MadeOn, Silently, reply_of}
use Rattle.runs.specs.Runs.{Holds, Begins, GoesOn, Saves, Rewinds, StepAndBack, OverAndBack}

-- a run's world, handed on as it was left
got : (w : World) {o : Option World} → o ≡ some w → Got engine w o
got w e = rw e (refl, refl)

module _ (b b' : List ℕ) (lent : Stores → Type 0) (stored : Stores → Stores) (c : Asked) (room back : Room) (s s' : Stores)
    (bytes : T (bytes_fit b')) (fits : StoresHeld s') (given : lent s) (left : s' ≡ stored s) where
  abbrev after : World
  after = record { block = b'; kept = s'; bytes = bytes; fits = fits }

  abbrev made : World → Reply Answer → Made engine
  made w y = record { call = c; handed = w; lent = room; reply = y; left = after; back = back }

  honestly : (y : Reply Answer) → MadeOn b b' lent stored c room y back → (w : World) → w.block ≡ b → w.kept ≡ s → Honest engine (made w y)
  honestly y clause w eb es = clause w after eb (rw es given) refl (rw es left)

  -- whatever the call is, if it is handed what a run may hand to it
  goes_on : (y : Reply Answer) → MadeOn b b' lent stored c room y back → (es : List (Made engine)) (h : Holds es b s)
      → Handed engine c h.world (holds engine es) × Earlier engine c es → Holds (made h.world y ∷ es) b' s'
  goes_on (accepted a) clause es h p = record {
    run = makes (made h.world (accepted a)) h.run (honestly (accepted a) clause h.world h.block h.kept) p;
    world = after;
    held = refl;
    block = refl;
    kept = refl;
  }
  goes_on (refused n a) clause es h p =
      let w = h.world in
      let q = honestly (refused n a) clause w h.block h.kept in
      record { run = makes (made w (refused n a)) h.run q tt; world = w; held = h.held; block = sym q.gives.1.0; kept = sym q.gives.1.1 }

-- an edit, a step, a reading
pub goes : (b b' : List ℕ) (lent : Stores → Type 0) (stored : Stores → Stores) (c : Act) (room back : Room) (s s' : Stores)
    → T (bytes_fit b') → StoresHeld s' → lent s → s' ≡ stored s → (y : Reply Answer) → MadeOn b b' lent stored (doing c) room y back → GoesOn (doing c) b s b' s'
goes b b' lent stored c room back s s' bytes fits given left y clause es h =
    (_, refl, goes_on b b' lent stored (doing c) room back s s' bytes fits given left y clause es h (got h.world h.held, tt))

-- an opening, in a run and as the first call of one
module _ (b b' : List ℕ) (o : Opening) (s s' : Stores) (bytes : T (bytes_fit b)) (fits : StoresHeld s) (bytes' : T (bytes_fit b')) (fits' : StoresHeld s') where
  abbrev lengths : Lent
  lengths = record { block = length b; stores = lengths_of s }

  pub opens : (n : ℕ) → Silently b b' (λ t. t ≡ s) (λ t. s') (opening o lengths) n → GoesOn (opening o lengths) b s b' s'
  opens n clause es h =
      (_, refl, goes_on b b' (λ t. t ≡ s) (λ t. s') (opening o lengths) nothing nothing s s' bytes' fits' refl refl (reply_of n nothing nothing) clause es h (tt, tt))

  pub begun : (n : ℕ) → Silently b b' (λ t. t ≡ s) (λ t. s') (opening o lengths) n → n ≡ 0 → Begins (opening o lengths) b' s'
  begun zero clause e =
      let w : World = record { block = b; kept = s; bytes = bytes; fits = fits } in
      let v : World = record { block = b'; kept = s'; bytes = bytes'; fits = fits' } in
      (_, refl, record { run = begins o lengths w nothing nothing v nothing (clause w v refl refl refl refl); world = v; held = refl; block = refl; kept = refl })
  begun (suc n) clause e = let z : ⊥ = omega arith in absurd z

-- a save, whose text is written where it was accepted
written_now : (m n : ℕ) (text : List ℕ) (es : List (Made engine)) → n ≡ 0
    → (wrote_by engine (saving m) (reply_of n (numbers []) (numbers text)) ≡ some text) ⊎ Wrote engine text es
written_now m zero text es e = inl refl
written_now m (suc n) text es e = let z : ⊥ = omega arith in absurd z

pub saved : (b : List ℕ) (s : Stores) (m : ℕ) (room back text : List ℕ) → T (bytes_fit b) → StoresHeld s → (n : ℕ)
    → MadeOn b b (λ t. t ≡ s) (λ t. t) (saving m) (numbers room) (reply_of n (numbers []) (numbers text)) (numbers back) → Saves n m text b s
saved b s m room back text bytes fits n clause es h =
    (_, refl, goes_on b b (λ t. t ≡ s) (λ t. t) (saving m) (numbers room) (numbers back) s s bytes fits refl refl (reply_of n (numbers []) (numbers text)) clause es h (got h.world h.held, tt), written_now m n text es)

-- a rewind to a text that the run has written
pub rewound : (b b' : List ℕ) (s s' : Stores) (text : List ℕ) (l : Lent) → T (bytes_fit b') → StoresHeld s' → (n : ℕ)
    → Silently b b' (λ t. t ≡ s) (λ t. s') (rewinding text l) n → Rewinds text l b s b' s'
rewound b b' s s' text l bytes fits n clause es h wrote =
    (_, refl, goes_on b b' (λ t. t ≡ s) (λ t. s') (rewinding text l) nothing nothing s s' bytes fits refl refl (reply_of n nothing nothing) clause es h (tt, wrote))

-- ---- two calls, of which the last is a rewind
pub step_and_back : (x : Float) (text : List ℕ) (l : Lent) (b b₁ b₂ : List ℕ) (s s₁ s₂ : Stores) → GoesOn (doing (step x)) b s b₁ s₁ → Rewinds text l b₁ s₁ b₂ s₂
    → StepAndBack x text b s b₂ s₂
step_and_back x text l b b₁ b₂ s s₁ s₂ stepped back es h was =
    let (d, ed, hd) = stepped es h in
    let (e, ee, he) = back (d ∷ es) hd (inr was) in
    (l, e ∷ d ∷ [], rw (ee, ed), he)

pub over_and_back : (older text : List ℕ) (k l : Lent) (b b₁ b₂ : List ℕ) (s s₁ s₂ : Stores) → Rewinds older k b s b₁ s₁ → Rewinds text l b₁ s₁ b₂ s₂
    → OverAndBack older text b s b₂ s₂
over_and_back older text k l b b₁ b₂ s s₁ s₂ over back es h old was =
    let (d, ed, hd) = over es h old in
    let (e, ee, he) = back (d ∷ es) hd (inr was) in
    (k, l, e ∷ d ∷ [], rw (ee, ed), he)
