-- The engine meets the three demands: the third by the laws of histories. Assumes nothing.
use Prim.Native.Nat.{ℕ, zero, suc}
use native.Mathlib.Omega.{arith}
use mathlib.Core.Path.{◌≡◌, refl, sym, ap, subst, ◌∙◌}
use mathlib.Core.Bool.{Bool, true, false}
use mathlib.Core.Option.{Option, none, some}
use mathlib.Core.List.{List, []}
use lib.Dec.{T}
use lib.Ieee.{Float}
use lib.ListN.{length}
use Rattle.study.specs.History.{given, answer_in, does, Gives}
use Rattle.study.specs.Inner.Laws.{Laws, Ticking}
use Rattle.study.proofs.Standing.{no_outcome, claim, run_b, timed, resumes}
use Rattle.codec.specs.Bytes.{bytes_fit}
use Rattle.grid.specs.declared.Record.{Record}
use Rattle.grid.specs.Canon.{canon}
use Rattle.grid.specs.Fault.{bad_study}
use Rattle.grid.specs.Stores.{Stores, lengths_of, Outcome, settle, fault_with}
use Rattle.grid.specs.Vacuum.{eps_of, mu_of, light_of}
use Rattle.opening.specs.Opening.{open_stores}
use Rattle.step.specs.Step.{step_fault, stepped, ticked, step_call}
use Rattle.block.specs.Inner.Held.{Held}
use Rattle.block.specs.Block.{block_length, block_fine, block_record}
use Rattle.block.proofs.Turns.{block_long}
use Rattle.format.specs.Save.{save_bytes, save_fault}
use Rattle.format.specs.Rewind.{read_record, read_stores, rewind_fault}
use Rattle.format.specs.InMemory.{StoresHeld}
use Rattle.format.proofs.Round.{Rewound, rewind_takes}
use Rattle.calls.specs.Blocks.{lent_block}
use Rattle.study.specs.World.{World, Study, study_of, if_fine, Lent, lent_in, Act, step, Answer, nothing, numbers, puts, written_in}
use Rattle.study.specs.Calls.{form, settled, lifted, acts_on, opened_of, saves_in, loads_from, weight_of, engine}
use Rattle.study.specs.Demand.{Demand1, Demand2, Demand3}
use Rattle.study.proofs.Blocks.{under}
use Rattle.study.proofs.Saved.{fault_canon, Saved, bytes_canon, restored, reread}
use Rattle.study.proofs.Regular.{regular}
use Rattle.study.proofs.Made.{roomy, judged_first}
use Rattle.study.proofs.Returned.{returns}
use Rattle.study.proofs.Runs.{run_steps}

-- ---- what is given was not turned down
was : (f : ℕ) (z b : Answer) (x : Study) (a : Answer) (t : Study) → settled f z b x ≡ given a t → (f ≡ 0) × (a ≡ b) × (t ≡ x)
was zero z b x a t e = (refl, cc, cc)
was (suc f) z b x a t e = absurd (no_outcome (suc f) z a t e)

-- ---- an accepted act: no fault, its next record, its rest put
record Taken (c : Act) (r : Record) (s : Stores) (t : Study) : Type 0 where
  fine : (regular c).fault r s ≡ 0
  next : t.rec ≡ (regular c).next r s
  rest : t.kept ≡ (form c).stored ((regular c).rest r s) s

taken : (c : Act) (r : Record) (s : Stores) (a : Answer) (t : Study) → acts_on c (some (record { rec = r; kept = s })) ≡ given a t → Taken c r s t
taken c r s a t e =
    go ((regular c).fault r s) refl (ap (λ (o : Outcome (form c).Rest). lifted (form c) o s) (sym ((regular c).is r s)) ∙ e)
  where
    go : (f : ℕ) → (regular c).fault r s ≡ f
        → lifted (form c) (settle f r ((form c).idle s) ((regular c).next r s) ((regular c).rest r s)) s ≡ given a t → Taken c r s t
    go zero z q =
        let same : t ≡ record { rec = (regular c).next r s; kept = (form c).stored ((regular c).rest r s) s } = (was 0 ((form c).answer ((regular c).rest r s)) ((form c).answer ((regular c).rest r s)) (record { rec = (regular c).next r s; kept = (form c).stored ((regular c).rest r s) s }) a t q).2 in
        record { fine = z; next = ap (λ (x : Study). x.rec) same; rest = ap (λ (x : Study). x.kept) same }
    go (suc f) z q = absurd (no_outcome (suc f) ((form c).answer ((form c).idle s)) a t q)

-- ---- a world's study is the canon of a record that memory holds, and its stores are what memory holds
record Fitting (t : Study) : Type 0 where
  of : Record
  held : Held of
  is : canon of ≡ t.rec
  fits : StoresHeld t.kept

-- which record, and how long the block is
record Whose (w : World) (t : Study) : Type 0 where
  fitting : Fitting t
  kept : t.kept ≡ w.kept
  long : length w.block ≡ block_length

no_some : {A : Type 0} (a : A) → ◌≡◌ {A = Option A} none (some a) → ⊥
no_some a p = let z : ◌≡◌ {A = ℕ} 0 1 = cc in omega arith

whose : (w : World) (t : Study) → study_of w ≡ some t → Whose w t
whose w t e = go (block_fine w.block) refl e
  where
    go : (b : Bool) → block_fine w.block ≡ b → if_fine b (record { rec = canon (block_record w.block); kept = w.kept }) ≡ some t → Whose w t
    go true fine p =
        let q : t ≡ record { rec = canon (block_record w.block); kept = w.kept } = cc in
        let k : t.kept ≡ w.kept = ap (λ (x : Study). x.kept) q in
        record {
          fitting = record { of = block_record w.block; held = (under w fine).held; is = ap (λ (x : Study). x.rec) (sym q); fits = subst StoresHeld (sym k) w.fits };
          kept = k;
          long = block_long w.block fine;
        }
    go false fine p = absurd (no_some t p)

saved_is : (n : ℕ) (t : Study) (a : Answer) (u : Study) → saves_in n (some t) ≡ given a u
    → (save_fault t.rec (lengths_of t.kept) n ≡ 0) × (a ≡ numbers (save_bytes t.rec t.kept)) × (u ≡ t)
saved_is n t a u e = was (save_fault t.rec (lengths_of t.kept) n) (numbers []) (numbers (save_bytes t.rec t.kept)) t a u e

-- ---- an accepted save of a fitting study, as the save of the record that memory held
module _ (n : ℕ) (t : Study) (a : Answer) (u : Study) (h : Fitting t) (e : saves_in n (some t) ≡ given a u) where
  fine : save_fault h.of (lengths_of t.kept) n ≡ 0
  fine = sym (fault_canon h.of (lengths_of t.kept) n) ∙ ap (λ (r : Record). save_fault r (lengths_of t.kept) n) h.is ∙ (saved_is n t a u e).0

  well : Saved h.of t.kept n
  well = record { held = h.held; fits = h.fits; fine = fine }

  text : save_bytes t.rec t.kept ≡ save_bytes h.of t.kept
  text = sym (ap (λ (r : Record). save_bytes r t.kept) h.is) ∙ bytes_canon h.of t.kept n well

  back : (l : Lent) (z : Answer) (x : Study) → loads_from (save_bytes t.rec t.kept) l ≡ given z x → x ≡ t
  back l z x d =
      let b = save_bytes h.of t.kept in
      let q = was (lent_block (rewind_fault b l.stores) l.block) nothing nothing (record { rec = read_record b; kept = read_stores b }) z x
      (ap (λ (y : List ℕ). loads_from y l) (sym text) ∙ d) in
      let k = restored h.of t.kept n well in
      q.2 ∙ rw (k.0, k.1, h.is)

  again : (w : World) → t.kept ≡ w.kept → length w.block ≡ block_length → loads_from (save_bytes t.rec t.kept) (lent_in w) ≡ given nothing t
  again w same long =
      let k = restored h.of t.kept n well in
      let f : rewind_fault (save_bytes h.of t.kept) (lengths_of w.kept) ≡ 0
      = ap (λ (s : Stores). rewind_fault (save_bytes h.of t.kept) (lengths_of s)) (sym same) ∙ reread h.of t.kept n well in
      rw (text, roomy (rewind_fault (save_bytes h.of t.kept) (lengths_of w.kept)) (length w.block) f long, k.0, k.1, h.is)

pub laws : Laws engine
laws = record {
  Fitting = Fitting;
  worlds_fit = λ w t e. (whose w t e).fitting;
  unchanged_self = λ w. (refl, refl);
  unchanged_study = λ w v p. rw (p.0, p.1);
  acts_on_lem = λ c a t e. no_outcome bad_study (form c).nought a t e;
  saves_of = λ n a t e. no_outcome bad_study (numbers []) a t e;
  save_keeps = λ n t a u e. (saved_is n t a u e).2;
  save_writes = λ n t a u e. ap written_in (saved_is n t a u e).1;
  restores = λ n t a u h e l z x d. back n t a u h e l z x d;
  rereads = λ n t a u w i e. let k = whose w t i in (nothing, again n t a u k.fitting e w k.kept k.long);
}

-- ---- the clock
pub clock : Ticking engine
clock = record {
  tick = λ t. t.rec.clock.steps;
  weight = weight_of;
  opens_at_0 = λ o l a t e. ap (λ (x : Study). x.rec.clock.steps)
      (was (lent_block (fault_with (opened_of o) l.stores) l.block) nothing nothing (record { rec = opened_of o; kept = open_stores (opened_of o) }) a t e).2;
  acts_by = λ c t a u e.
      let h = taken c t.rec t.kept a u e in
      ap (λ (r : Record). r.clock.steps) h.next ∙ (regular c).counts t.rec t.kept;
  saves_by_0 = λ n t a u e. ap (λ (x : Study). x.rec.clock.steps) (saved_is n t a u e).2;
}

-- ---- demand 3
pub demand_3 : Demand3
unfolding clock
demand_3 = record {
  claim = claim engine laws;
  returns = returns;
  repeats = run_b engine laws returns;
  clock = λ es A w t p q. timed engine laws clock es A w t p q;
  resumes = resumes engine laws;
  steps = run_steps;
}

-- ---- demand 1
pub demand_1 : Demand1
demand_1 = record {
  returns = returns;
  unwritten = λ e n a h r.
      let g = subst (λ y. Gives engine (does engine e.call (study_of e.handed)) e.handed y e.left) r h.gives in
      (g.1, h.told ∙ ap (λ y. puts (answer_in y) e.lent) r);
  names = λ e n a h r. (subst (λ y. Gives engine (does engine e.call (study_of e.handed)) e.handed y e.left) r h.gives).0;
}

-- ---- demand 2. Bytes that a rewind took, and the study that they gave
took : (b : List ℕ) → T (bytes_fit b) → (l : Lent) (a : Answer) (t : Study) → loads_from b l ≡ given a t → Rewound b × (t ≡ record { rec = read_record b; kept = read_stores b })
took b bytes l a t e =
    let k = was (lent_block (rewind_fault b l.stores) l.block) nothing nothing (record { rec = read_record b; kept = read_stores b }) a t e in
    (rewind_takes b l.stores bytes (judged_first (rewind_fault b l.stores) l.block k.0), k.2)

-- an accepted step, from its own definition
step_leaves : (t u : Study) (x : Float) (a : Answer) → acts_on (step x) (some t) ≡ given a u
    → (u.rec ≡ ticked t.rec) × (u.kept ≡ stepped (eps_of t.rec) (mu_of t.rec) (light_of t.rec) t.rec x t.kept)
unfolding step_call
step_leaves t u x a e = go (step_fault t.rec (lengths_of t.kept) t.kept.ids 1) e
  where
    after : Stores
    after = stepped (eps_of t.rec) (mu_of t.rec) (light_of t.rec) t.rec x t.kept

    go : (f : ℕ) → lifted (form (step x)) (settle f t.rec t.kept (ticked t.rec) after) t.kept ≡ given a u → (u.rec ≡ ticked t.rec) × (u.kept ≡ after)
    go zero q =
        let k = was 0 nothing nothing (record { rec = ticked t.rec; kept = after }) a u q in
        (ap (λ (y : Study). y.rec) k.2, ap (λ (y : Study). y.kept) k.2)
    go (suc f) q = absurd (no_outcome (suc f) nothing a u q)

pub demand_2 : Demand2
demand_2 = record {
  steps = step_leaves;
  reads = λ w t u i n a e. let k = whose w t i in ap (λ b. loads_from b (lent_in w)) (ap written_in (saved_is n t a u e).1) ∙ again n t a u k.fitting e w k.kept k.long;
  writes = λ b bytes l a t e new. let k = took b bytes l a t e in ap (λ (x : Study). save_bytes x.rec x.kept) k.1 ∙ k.0.said.again new;
  widens = λ b bytes l a t e old. let k = took b bytes l a t e in ap (λ (x : Study). save_bytes x.rec x.kept) k.1 ∙ k.0.said.next old;
}
