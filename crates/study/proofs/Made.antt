-- A C function's clause, refusal, block, stores and room together, makes its made call honest: refused, the number and the answers are the definition's and all is as it
-- was; accepted, answer and study are the definition's. Assumes nothing.
use Prim.Native.Nat.{ℕ, zero, suc}
use mathlib.Core.Path.{◌≡◌, refl, sym, ap, subst, ◌∙◌}
use mathlib.Core.Bool.{Bool, true, false, cond}
use mathlib.Core.Option.{Option, some}
use mathlib.Core.List.{List, []}
use lib.Dec.{T}
use lib.ListN.{length, take}
use lib.Seq.{take-append_seam}
use borrow.Author.Tests.{eq-eqb}
use Rattle.codec.specs.Lists.{put}
use Rattle.codec.specs.Bytes.{bytes_fit}
use Rattle.study.specs.History.{Fate, given, Reply, opening, doing, saving, rewinding, does, answer_in, Fits, Gives, Honest}
use Rattle.grid.specs.declared.Record.{Record}
use Rattle.grid.specs.Canon.{canon}
use Rattle.grid.specs.Edited.{with_clock}
use Rattle.grid.specs.Fault.{bad_study, fault_of}
use Rattle.grid.specs.Stores.{Stores, lengths_of, Outcome, outcome, settle, fault_with, fault_lent}
use Rattle.grid.proofs.Tests.{or_none}
use Rattle.opening.specs.Opening.{open_stores}
use Rattle.opening.proofs.Opened.{open_canon}
use Rattle.format.proofs.Round.{rewind_takes}
use Rattle.block.specs.Inner.Held.{Held}
use Rattle.block.specs.Block.{block_length, block_fine, block_record, block_of}
use Rattle.format.specs.Save.{save_length, save_bytes, save_fault, save_call}
use Rattle.format.specs.Rewind.{read_record, read_stores, rewind_fault}
use Rattle.calls.specs.Blocks.{Sent, sent, block_after, passed, on_block, clock_after, clock_passed, clock_on_block, Readout, readout, read_block, lent_block, open_on_block, rewind_on_block}
use Rattle.study.specs.World.{World, Study, study_of, lent_in, Opening, SaidOpening, Act, SaidAct, Asked, Answer, nothing, numbers, Room, puts}
use Rattle.study.specs.Calls.{Form, form, settled, lifted, acts_on, opened_of, saves_in, engine, weight_of, reply_of}
use Rattle.study.proofs.Blocks.{under, study_fine, study_none, study_put, study_clock, after_accepted, after_refused, clock_accepted, clock_refused}
use Rattle.study.proofs.Saved.{fault_canon, Saved, bytes_canon, long}
use Rattle.study.proofs.Remains.{open_holds}
use Rattle.study.proofs.Regular.{Regular, regular}

-- what a call that was refused by n, or by 0 accepted, left, where it gave the record q: the block as it was, or one that says q
abbrev pub LeftAs : (n : ℕ) → (q : Record) → (w v : World) → Type 0
LeftAs zero q w v = study_of v ≡ some (record { rec = canon q; kept = v.kept })
LeftAs (suc n) q w v = v.block ≡ w.block

same_answer : (n : ℕ) (a : Answer) → answer_in (reply_of n a a) ≡ a
same_answer zero a = refl
same_answer (suc n) a = refl

-- ---- an act
module _ (w v : World) (lent back : Room) where
  -- on a block that says r
  gives_by : (f : Form) (k : ℕ) (said : Type 0) (g : Regular f k said) (r : Record) (n : ℕ) → g.fault r w.kept ≡ n → (o : Outcome f.Rest)
      → o ≡ settle n r (f.idle w.kept) (g.next r w.kept) (g.rest r w.kept)
      → LeftAs o.refusal o.study w v → v.kept ≡ f.stored o.rest w.kept
      → Gives engine (lifted f (settle n (canon r) (f.idle w.kept) (g.next (canon r) w.kept) (g.rest (canon r) w.kept)) w.kept)
      w (reply_of o.refusal (f.answer o.rest) (f.answer o.rest)) v
  gives_by f k said g r zero z o e p q =
      rw e (
        record { rec = canon (g.next r w.kept); kept = f.stored (g.rest r w.kept) w.kept },
        (rw e at p) ∙ ap {B = Option Study} (λ (s : Stores). some (record { rec = canon (g.next r w.kept); kept = s })) (rw e at q),
        rw (g.next_canon r w.kept z, g.rest_canon r w.kept z),
      )
  gives_by f k said g r (suc n) z o e p q = rw e (refl, (rw e at p, (rw e at q) ∙ g.idles w.kept))

  pub honest_on : (c : Act) → SaidAct c → (form c).lends lent → block_fine w.block ≡ true → (o : Outcome (form c).Rest) → o ≡ (form c).call (block_record w.block) w.kept
      → LeftAs o.refusal o.study w v → v.kept ≡ (form c).stored o.rest w.kept → back ≡ puts ((form c).answer o.rest) lent
      → Honest engine (record { call = doing c; handed = w; lent = lent; reply = reply_of o.refusal ((form c).answer o.rest) ((form c).answer o.rest); left = v; back = back })
  honest_on c said lends fine o e p q t =
      let g = regular c in
      let r = block_record w.block in
      let here = g.is (canon r) w.kept ∙ ap (λ (n : ℕ). settle n (canon r) ((form c).idle w.kept) (g.next (canon r) w.kept) (g.rest (canon r) w.kept)) (g.fault_canon r w.kept) in
      record {
        fits = record { said = said; lends = lends; measured = tt };
        gives = subst (λ (x : Option Study). Gives engine (acts_on c x) w (reply_of o.refusal ((form c).answer o.rest) ((form c).answer o.rest)) v) (sym (study_fine w fine))
            (subst (λ (d : Outcome (form c).Rest). Gives engine (lifted (form c) d w.kept) w (reply_of o.refusal ((form c).answer o.rest) ((form c).answer o.rest)) v) (sym here)
            (gives_by (form c) (weight_of c) (SaidAct c) g r (g.fault r w.kept) refl o (e ∙ g.is r w.kept) p q));
        told = t ∙ ap (λ (a : Answer). puts a lent) (sym (same_answer o.refusal ((form c).answer o.rest)));
      }

  pub honest_none : (c : Act) → SaidAct c → (form c).lends lent → block_fine w.block ≡ false → v.block ≡ w.block → v.kept ≡ w.kept → back ≡ puts (form c).nought lent
      → Honest engine (record { call = doing c; handed = w; lent = lent; reply = reply_of bad_study (form c).nought (form c).nought; left = v; back = back })
  honest_none c said lends fine p q t = record {
    fits = record { said = said; lends = lends; measured = tt };
    gives = subst (λ (x : Option Study). Gives engine (acts_on c x) w (reply_of bad_study (form c).nought (form c).nought) v) (sym (study_none w fine)) (refl, (p, q));
    told = t;
  }

-- ---- its C function's clause, which shows of the call's rest what g makes of it
module _ (w v : World) (c : Act) (said : SaidAct c) (lent back : Room) (lends : (form c).lends lent) {Y : Type 0} (g : (form c).Rest → Y) (n : ℕ) (y : Y) (a : Answer)
    (seen : (x : (form c).Rest) → y ≡ g x → (v.kept ≡ (form c).stored x w.kept) × (a ≡ (form c).answer x) × (back ≡ puts a lent)) where
  abbrev r : Record
  r = block_record w.block

  abbrev o : Outcome (form c).Rest
  o = (form c).call r w.kept

  abbrev shown : Record → Outcome Y
  shown q = outcome ((form c).call q w.kept).refusal ((form c).call q w.kept).study (g ((form c).call q w.kept).rest)

  abbrev Then : Type 0
  Then = Honest engine (record { call = doing c; handed = w; lent = lent; reply = reply_of n a a; left = v; back = back })

  came : block_fine w.block ≡ true → n ≡ o.refusal → y ≡ g o.rest → LeftAs o.refusal o.study w v → Then
  came fine p q l =
      let k = seen o.rest q in
      rw (p, k.1) (honest_on w v lent back c said lends fine o refl l k.0 (k.2 ∙ ap (λ (b : Answer). puts b lent) k.1))

  came_not : block_fine w.block ≡ false → n ≡ bad_study → v.block ≡ w.block → y ≡ g ((form c).idle w.kept) → Then
  came_not fine p b q =
      let k = seen ((form c).idle w.kept) q in
      let z : a ≡ (form c).nought = k.1 ∙ (regular c).silent w.kept in
      rw (p, z) (honest_none w v lent back c said lends fine b (k.0 ∙ (regular c).idles w.kept) (k.2 ∙ ap (λ (b : Answer). puts b lent) z))

  so : (f : ℕ) → (regular c).fault r w.kept ≡ f → o ≡ settle f r ((form c).idle w.kept) ((regular c).next r w.kept) ((regular c).rest r w.kept)
  so f z = (regular c).is r w.kept ∙ ap (λ (n : ℕ). settle n r ((form c).idle w.kept) ((regular c).next r w.kept) ((regular c).rest r w.kept)) z

  -- the block as the call leaves it
  left_by : block_fine w.block ≡ true → v.block ≡ block_after o.refusal o.study w.block → LeftAs o.refusal o.study w v
  left_by fine e = go ((regular c).fault r w.kept) refl o (so ((regular c).fault r w.kept) refl) e
    where
      go : (f : ℕ) → (regular c).fault r w.kept ≡ f → (x : Outcome (form c).Rest) → x ≡ settle f r ((form c).idle w.kept) ((regular c).next r w.kept) ((regular c).rest r w.kept)
          → v.block ≡ block_after x.refusal x.study w.block → LeftAs x.refusal x.study w v
      go zero z x i q =
          let next = (regular c).next r w.kept in
          let h = (regular c).holds said r w.kept (under w fine) z in
          rw i (study_put v next ((regular c).sound r w.kept (under w fine).held z) h.held ((rw i at q) ∙ after_accepted next w.block))
      go (suc m) z x i q = rw i ((rw i at q) ∙ after_refused m r w.block)

  pub on_block_lem : sent n v.block y ≡ on_block shown w.block (g ((form c).idle w.kept)) → Then
  unfolding on_block
  on_block_lem e = go (block_fine w.block) refl e
    where
      go : (t : Bool) → block_fine w.block ≡ t
          → sent n v.block y ≡ cond t (passed (shown r) w.block) (sent bad_study w.block (g ((form c).idle w.kept))) → Then
      go true fine q =
          came fine (ap (λ (s : Sent Y). s.refusal) q) (ap (λ (s : Sent Y). s.rest) q) (left_by fine (ap (λ (s : Sent Y). s.block) q))
      go false fine q = came_not fine (ap (λ (s : Sent Y). s.refusal) q) (ap (λ (s : Sent Y). s.block) q) (ap (λ (s : Sent Y). s.rest) q)

  -- a call that moves the clock alone
  clock_by : ((q : Record) → (regular c).next q w.kept ≡ with_clock q ((regular c).next q w.kept).clock) → block_fine w.block ≡ true
      → v.block ≡ clock_after o.refusal o.study.clock w.block → LeftAs o.refusal o.study w v
  clock_by alone fine e = go ((regular c).fault r w.kept) refl o (so ((regular c).fault r w.kept) refl) e
    where
      go : (f : ℕ) → (regular c).fault r w.kept ≡ f → (x : Outcome (form c).Rest) → x ≡ settle f r ((form c).idle w.kept) ((regular c).next r w.kept) ((regular c).rest r w.kept)
          → v.block ≡ clock_after x.refusal x.study.clock w.block → LeftAs x.refusal x.study w v
      go zero z x i q =
          let next = (regular c).next r w.kept in
          let h = ((regular c).holds said r w.kept (under w fine) z).held in
          rw i (study_clock w v next fine h.time h.steps (alone r) ((rw i at q) ∙ clock_accepted next.clock w.block))
      go (suc m) z x i q = rw i ((rw i at q) ∙ clock_refused m r.clock w.block)

  pub clock_block : sent n v.block y ≡ clock_on_block shown w.block (g ((form c).idle w.kept)) → ((q : Record) → (regular c).next q w.kept ≡ with_clock q ((regular c).next q w.kept).clock) → Then
  unfolding clock_on_block
  clock_block e alone = go (block_fine w.block) refl e
    where
      go : (t : Bool) → block_fine w.block ≡ t
          → sent n v.block y ≡ cond t (clock_passed (shown r) w.block) (sent bad_study w.block (g ((form c).idle w.kept))) → Then
      go true fine q =
          came fine (ap (λ (s : Sent Y). s.refusal) q) (ap (λ (s : Sent Y). s.rest) q) (clock_by alone fine (ap (λ (s : Sent Y). s.block) q))
      go false fine q = came_not fine (ap (λ (s : Sent Y). s.refusal) q) (ap (λ (s : Sent Y). s.block) q) (ap (λ (s : Sent Y). s.rest) q)

  -- a call that is lent the block to read leaves it
  read_by : v.block ≡ w.block → ((q : Record) → (regular c).next q w.kept ≡ q) → block_fine w.block ≡ true → LeftAs o.refusal o.study w v
  read_by b same fine = go ((regular c).fault r w.kept) o (so ((regular c).fault r w.kept) refl)
    where
      go : (f : ℕ) → (x : Outcome (form c).Rest) → x ≡ settle f r ((form c).idle w.kept) ((regular c).next r w.kept) ((regular c).rest r w.kept) → LeftAs x.refusal x.study w v
      go zero x i =
          rw i (study_fine v (ap block_fine b ∙ fine)
          ∙ ap {B = Option Study} (λ (q : Record). some (record { rec = canon q; kept = v.kept })) (ap block_record b ∙ sym (same r)))
      go (suc m) x i = rw i b

  pub read_block_lem : readout n y ≡ read_block shown w.block (g ((form c).idle w.kept)) → v.block ≡ w.block → ((q : Record) → (regular c).next q w.kept ≡ q) → Then
  unfolding read_block
  read_block_lem e b same = go (block_fine w.block) refl e
    where
      go : (t : Bool) → block_fine w.block ≡ t
          → readout n y ≡ cond t (readout o.refusal (g o.rest)) (readout bad_study (g ((form c).idle w.kept))) → Then
      go true fine q = came fine (ap (λ (s : Readout Y). s.refusal) q) (ap (λ (s : Readout Y). s.rest) q) (read_by b same fine)
      go false fine q = came_not fine (ap (λ (s : Readout Y). s.refusal) q) b (ap (λ (s : Readout Y). s.rest) q)

-- ---- an opening and a rewind: the record r and the stores s, or a refusal that leaves all
record Arrived (r : Record) : Type 0 where
  fine : fault_of r ≡ 0
  held : Held r
  canonical : canon r ≡ r

module _ (w v : World) (c : Asked) (fits : Fits engine c w nothing) (f : ℕ) (r q : Record) (s : Stores)
    (defined : does engine c (study_of w) ≡ settled f nothing nothing (record { rec = r; kept = s })) (there : f ≡ 0 → Arrived r) (n : ℕ)
    (e : sent n v.block v.kept ≡ passed (settle f q w.kept r s) w.block) where
  arrives : Honest engine (record { call = c; handed = w; lent = nothing; reply = reply_of n nothing nothing; left = v; back = nothing })
  arrives = record {
    fits = fits;
    gives = subst (λ (d : Fate Answer Study). Gives engine d w (reply_of n nothing nothing) v) (sym defined) (go f there e);
    told = silence n;
  }
    where
      silence : (m : ℕ) → nothing ≡ puts (answer_in (reply_of m nothing nothing)) nothing
      silence zero = refl
      silence (suc m) = refl

      go : (f : ℕ) → (f ≡ 0 → Arrived r) → sent n v.block v.kept ≡ passed (settle f q w.kept r s) w.block
          → Gives engine (settled f nothing nothing (record { rec = r; kept = s })) w (reply_of n nothing nothing) v
      go zero t k =
          let a = t refl in
          let b-is : v.block ≡ block_of r = ap (λ (x : Sent Stores). x.block) k ∙ after_accepted r w.block in
          let s-is : v.kept ≡ s = ap (λ (x : Sent Stores). x.rest) k in
          let n-is : n ≡ 0 = ap (λ (x : Sent Stores). x.refusal) k in
          rw n-is (
            record { rec = r; kept = s },
            study_put v r a.fine a.held b-is ∙ ap {B = Option Study} some (rw (s-is, a.canonical)),
            refl,
          )
      go (suc m) t k =
          let n-is : n ≡ suc m = ap (λ (x : Sent Stores). x.refusal) k in
          rw n-is (refl, (ap (λ (x : Sent Stores). x.block) k ∙ after_refused m q w.block, ap (λ (x : Sent Stores). x.rest) k))

-- 4 for a block of another length is found last
pub roomy : (f m : ℕ) → f ≡ 0 → m ≡ block_length → lent_block f m ≡ 0
unfolding lent_block
roomy f m p q = rw (p, eq-eqb m block_length q)

pub judged_first : (f n : ℕ) → lent_block f n ≡ 0 → f ≡ 0
unfolding lent_block
judged_first f n e = (or_none f _ e).0

pub cichowiej_open : (w v : World) (o : Opening) → SaidOpening o → (n : ℕ)
    → sent n v.block v.kept ≡ open_on_block o.nx o.ny o.nz o.slots o.spacings o.constants w.block w.kept
    → Honest engine (record { call = opening o (lent_in w); handed = w; lent = nothing; reply = reply_of n nothing nothing; left = v; back = nothing })
unfolding open_on_block fault_lent
cichowiej_open w v o said n e =
    arrives w v (opening o (lent_in w)) (record { said = said; lends = refl; measured = refl }) (lent_block (fault_with (opened_of o) (lengths_of w.kept)) (length w.block))
    (opened_of o) (opened_of o) (open_stores (opened_of o)) refl
    (λ z. record {
      fine = (or_none (fault_of (opened_of o)) _ (judged_first (fault_with (opened_of o) (lengths_of w.kept)) (length w.block) z)).0;
      held = (open_holds o.nx o.ny o.nz o.slots o.spacings o.constants said).held;
      canonical = open_canon o.nx o.ny o.nz o.slots o.spacings o.constants;
    }) n e

pub cichowiej_rewind : (w v : World) (save : List ℕ) → T (bytes_fit save) → (n : ℕ)
    → sent n v.block v.kept ≡ rewind_on_block save w.block w.kept
    → Honest engine (record { call = rewinding save (lent_in w); handed = w; lent = nothing; reply = reply_of n nothing nothing; left = v; back = nothing })
unfolding rewind_on_block
cichowiej_rewind w v save said n e =
    arrives w v (rewinding save (lent_in w)) (record { said = said; lends = refl; measured = refl }) (lent_block (rewind_fault save (lengths_of w.kept)) (length w.block))
    (read_record save) (read_record save) (read_stores save) refl
    (λ z.
    let k = rewind_takes save (lengths_of w.kept) said (judged_first (rewind_fault save (lengths_of w.kept)) (length w.block) z) in
    record { fine = k.said.fine; held = k.savable.held; canonical = k.said.canonical }) n e

-- ---- a save
put_none : (l : List ℕ) → put l 0 [] ≡ l
unfolding put
put_none l = refl

put_front : (room b : List ℕ) (n : ℕ) → length b ≡ n → take n (put room 0 b) ≡ b
unfolding put
put_front room b n e = rw (← e) (take-append_seam b _)

module _ (w v : World) (room room' : List ℕ) (n : ℕ) (b-is : v.block ≡ w.block) (s-is : v.kept ≡ w.kept) where
  abbrev of : Record
  of = block_record w.block

  abbrev text : List ℕ
  text = save_bytes of w.kept

  -- what is answered: the bytes at the room's front
  abbrev reply : ℕ → Reply Answer
  reply m = reply_of m (numbers []) (numbers (take (save_length of) room'))

  save_by : (f : ℕ) → save_fault of (lengths_of w.kept) (length room) ≡ f → block_fine w.block ≡ true → n ≡ (settle f of room of (put room 0 text)).refusal → room' ≡ (settle f of room of (put room 0 text)).rest
      → Gives engine (settled f (numbers []) (numbers (save_bytes (canon of) w.kept)) (record { rec = canon of; kept = w.kept })) w (reply n) v × (numbers room' ≡ puts (answer_in (reply n)) (numbers room))
  save_by zero z fine n-is r-is =
      let well : Saved of w.kept (length room) = record { held = (under w fine).held; fits = w.fits; fine = z } in
      let t-is : take (save_length of) room' ≡ text = rw r-is (put_front room text (save_length of) (long of w.kept (length room) well)) in
      rw (n-is, t-is) (
        (
          record { rec = canon of; kept = w.kept },
          study_fine v (ap block_fine b-is ∙ fine) ∙ ap {B = Option Study} some (rw (b-is, s-is)),
          ap {B = Fate Answer Study} (λ (b : List ℕ). given (numbers b) (record { rec = canon of; kept = w.kept })) (bytes_canon of w.kept (length room) well),
        ),
        ap {B = Room} numbers r-is,
      )
  save_by (suc f) z fine n-is r-is = rw n-is ((refl, (b-is, s-is)), ap {B = Room} numbers (r-is ∙ sym (put_none room)))

  pub cichowiej_save : readout n room' ≡ read_block (λ r. save_call r w.kept room) w.block room
      → Honest engine (record { call = saving (length room); handed = w; lent = numbers room; reply = reply n; left = v; back = numbers room' })
  unfolding read_block save_call
  cichowiej_save e = go (block_fine w.block) refl e
    where
      fits : Fits engine (saving (length room)) w (numbers room)
      fits = record { said = tt; lends = refl; measured = tt }

      go : (t : Bool) → block_fine w.block ≡ t
          → readout n room' ≡ cond t (readout (save_call of w.kept room).refusal (save_call of w.kept room).rest) (readout bad_study room)
          → Honest engine (record { call = saving (length room); handed = w; lent = numbers room; reply = reply n; left = v; back = numbers room' })
      go true fine q =
          let f = save_fault of (lengths_of w.kept) (length room) in
          let k = save_by f refl fine (ap (λ (x : Readout (List ℕ)). x.refusal) q) (ap (λ (x : Readout (List ℕ)). x.rest) q) in
          record {
            fits = fits;
            gives = subst (λ (x : Option Study). Gives engine (saves_in (length room) x) w (reply n) v) (sym (study_fine w fine))
                (subst (λ (m : ℕ). Gives engine (settled m (numbers []) (numbers (save_bytes (canon of) w.kept)) (record { rec = canon of; kept = w.kept })) w (reply n) v)
                (sym (fault_canon of (lengths_of w.kept) (length room))) k.0);
            told = k.1;
          }
      go false fine q =
          let n-is : n ≡ bad_study = ap (λ (x : Readout (List ℕ)). x.refusal) q in
          let r-is : room' ≡ room = ap (λ (x : Readout (List ℕ)). x.rest) q in
          record {
            fits = fits;
            gives = subst (λ (x : Option Study). Gives engine (saves_in (length room) x) w (reply n) v) (sym (study_none w fine)) (rw n-is (refl, (b-is, s-is)));
            told = rw n-is (ap {B = Room} numbers (r-is ∙ sym (put_none room)));
          }
