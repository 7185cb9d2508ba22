-- Every call that can be made has an honest outcome: the definition's, which memory can hold. Assumes nothing.
use Prim.Native.Nat.{ℕ, zero, suc}
use mathlib.Core.Path.{◌≡◌, refl, sym, ap, subst, ◌∙◌}
use mathlib.Core.Bool.{Bool, true, false}
use mathlib.Core.List.{List}
use lib.Dec.{T}
use lib.ListN.{length}
use Rattle.codec.specs.Bytes.{bytes_fit}
use Rattle.study.specs.History.{opening, doing, saving, rewinding, Reply, Honest, Returns}
use Rattle.grid.specs.declared.Record.{Record}
use Rattle.grid.specs.Stores.{lengths_of, Outcome, settle, fault_with}
use Rattle.opening.specs.Opening.{open_stores}
use Rattle.block.specs.Block.{block_fine, block_record, block_of}
use Rattle.format.specs.Save.{save_call}
use Rattle.format.specs.Rewind.{read_record, read_stores, rewind_fault}
use Rattle.format.proofs.Round.{rewind_takes}
use Rattle.calls.specs.Blocks.{read_block, lent_block, open_on_block, rewind_on_block}
use Rattle.study.specs.World.{World, Lent, lent_in, Opening, SaidOpening, Act, SaidAct, Asked, Answer, nothing, numbers, floats, Room}
use Rattle.study.specs.Calls.{form, opened_of, weight_of, engine}
use Rattle.study.proofs.Blocks.{under, study_put, block_fit, after_accepted, after_refused}
use Rattle.study.proofs.Remains.{open_holds}
use Rattle.study.proofs.Regular.{Regular, regular}
use Rattle.study.proofs.Made.{LeftAs, honest_on, honest_none, judged_first, cichowiej_open, cichowiej_rewind, cichowiej_save}

abbrev Comes : Asked → World → Room → Type 0
Comes c w x = (y : Reply Answer) × (v : World) × (z : Room) × Honest engine (record { call = c; handed = w; lent = x; reply = y; left = v; back = z })

act_comes : (c : Act) → SaidAct c → (w : World) (x : Room) → (form c).lends x → Comes (doing c) w x
act_comes c said w x lends = go (block_fine w.block) refl
  where
    g : Regular (form c) (weight_of c) (SaidAct c)
    g = regular c

    r : Record
    r = block_record w.block

    o : Outcome (form c).Rest
    o = (form c).call r w.kept

    so : (f : ℕ) → g.fault r w.kept ≡ f → o ≡ settle f r ((form c).idle w.kept) (g.next r w.kept) (g.rest r w.kept)
    so f z = g.is r w.kept ∙ ap (λ (n : ℕ). settle n r ((form c).idle w.kept) (g.next r w.kept) (g.rest r w.kept)) z

    by : block_fine w.block ≡ true → (f : ℕ) → g.fault r w.kept ≡ f → Comes (doing c) w x
    by fine zero z =
        let h = g.holds said r w.kept (under w fine) z in
        let v : World = record { block = block_of (g.next r w.kept); kept = (form c).stored (g.rest r w.kept) w.kept; bytes = block_fit (g.next r w.kept); fits = h.fits } in
        let i = so 0 z in (
          _,
          v,
          _,
          honest_on w v x _ c said lends fine o refl
              (subst (λ (q : Outcome (form c).Rest). LeftAs q.refusal q.study w v) (sym i) (study_put v (g.next r w.kept) (g.sound r w.kept (under w fine).held z) h.held refl))
              (sym (ap (λ (q : Outcome (form c).Rest). (form c).stored q.rest w.kept) i)) refl,
        )
    by fine (suc n) z =
        let i = so (suc n) z in (
          _,
          w,
          _,
          honest_on w w x _ c said lends fine o refl (subst (λ (q : Outcome (form c).Rest). LeftAs q.refusal q.study w w) (sym i) refl)
              (sym (ap (λ (q : Outcome (form c).Rest). (form c).stored q.rest w.kept) i ∙ (regular c).idles w.kept)) refl,
        )

    go : (t : Bool) → block_fine w.block ≡ t → Comes (doing c) w x
    go true fine = by fine (g.fault r w.kept) refl
    go false fine = (_, w, _, honest_none w w x _ c said lends fine refl refl refl)

open_comes : (o : Opening) → SaidOpening o → (w : World) → Comes (opening o (lent_in w)) w nothing
unfolding open_on_block
open_comes o said w = go (lent_block (fault_with (opened_of o) (lengths_of w.kept)) (length w.block)) refl
  where
    r : Record
    r = opened_of o

    go : (f : ℕ) → lent_block (fault_with r (lengths_of w.kept)) (length w.block) ≡ f → Comes (opening o (lent_in w)) w nothing
    go zero z =
        let v : World = record { block = block_of r; kept = open_stores r; bytes = block_fit r; fits = (open_holds o.nx o.ny o.nz o.slots o.spacings o.constants said).fits } in
        (_, v, nothing, cichowiej_open w v o said 0 (rw (z, after_accepted r w.block)))
    go (suc n) z = (_, w, nothing, cichowiej_open w w o said (suc n) (rw (z, after_refused n r w.block)))

load_comes : (b : List ℕ) → T (bytes_fit b) → (w : World) → Comes (rewinding b (lent_in w)) w nothing
unfolding rewind_on_block
load_comes b said w = go (lent_block (rewind_fault b (lengths_of w.kept)) (length w.block)) refl
  where
    go : (f : ℕ) → lent_block (rewind_fault b (lengths_of w.kept)) (length w.block) ≡ f → Comes (rewinding b (lent_in w)) w nothing
    go zero z =
        let k = rewind_takes b (lengths_of w.kept) said (judged_first (rewind_fault b (lengths_of w.kept)) (length w.block) z) in
        let v : World = record { block = block_of (read_record b); kept = read_stores b; bytes = block_fit (read_record b); fits = k.savable.kept } in
        (_, v, nothing, cichowiej_rewind w v b said 0 (rw (z, after_accepted (read_record b) w.block)))
    go (suc n) z = (_, w, nothing, cichowiej_rewind w w b said (suc n) (rw (z, after_refused n (read_record b) w.block)))

save_comes : (room : List ℕ) (w : World) → Comes (saving (length room)) w (numbers room)
save_comes room w =
    let o = read_block (λ r. save_call r w.kept room) w.block room in
    (_, w, numbers o.rest, cichowiej_save w w room o.rest o.refusal refl refl refl)

pub returns : Returns engine
returns (opening o l) w x f =
    subst (λ (k : Lent). Comes (opening o k) w x) f.measured (subst (λ (y : Room). Comes (opening o (lent_in w)) w y) (sym f.lends) (open_comes o f.said w))
returns (doing c) w x f = act_comes c f.said w x f.lends
returns (saving n) w nothing f = absurd f.lends
returns (saving n) w (numbers l) f = subst (λ (k : ℕ). Comes (saving k) w (numbers l)) f.lends (save_comes l w)
returns (saving n) w (floats l) f = absurd f.lends
returns (rewinding b l) w x f =
    subst (λ (k : Lent). Comes (rewinding b k) w x) f.measured (subst (λ (y : Room). Comes (rewinding b (lent_in w)) w y) (sym f.lends) (load_comes b f.said w))
