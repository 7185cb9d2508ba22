-- The contract of each C function on a study, its equation over block, stores and room, makes its made call honest. Assumes nothing.
use Prim.Native.Nat.{ℕ}
use mathlib.Core.Path.{◌≡◌, refl, sym, ap, subst, ◌∙◌}
use mathlib.Core.Bool.{Bool, true, false}
use mathlib.Core.List.{List, [], ◌∷◌}
use lib.Dec.{T}
use lib.ListN.{length, take, set}
use lib.Ieee.{Float}
use Rattle.codec.specs.Lists.{put}
use Rattle.codec.specs.Bytes.{bytes_fit}
use Rattle.root.specs.Rounded.{zero_f}
use Rattle.cells.specs.declared.IndexBox.{IndexBox}
use Rattle.grid.specs.declared.Record.{Record}
use Rattle.grid.specs.Edited.{with_clock}
use Rattle.grid.specs.Vacuum.{eps_of, mu_of, light_of}
use Rattle.grid.specs.Stores.{Stores, Outcome, lengths_of}
use Rattle.opening.specs.Layer.{Layer}
use Rattle.materials.specs.Materials.{Placed, placed, put_box_call, halfspace_call, build_call}
use Rattle.boundary.specs.declared.LossyAbsorber.{LossyAbsorber}
use Rattle.boundary.specs.Walls.{set_periodic_call, set_plain_call, Lossed, set_lossy_call}
use Rattle.cpml.specs.Absorber.{set_cpml_call}
use Rattle.tfsf.specs.Wave.{slab_z, injector_z, region_call}
use Rattle.fields.specs.Fields.{Reset, reset_call, energy_call, plane_call}
use Rattle.step.specs.Step.{step_call}
use Rattle.run.specs.Run.{run_call}
use Rattle.block.specs.Block.{block_record}
use Rattle.format.specs.Save.{save_length, save_call, length_call}
use Rattle.calls.specs.Blocks.{sent, on_block, clock_on_block, readout, read_block, answered, answering, add_bytes_call, asked, Told, told, telling, axis_bits, Named, named, naming, open_on_block, rewind_on_block}
use Rattle.study.specs.History.{opening, doing, saving, rewinding, Honest}
use Rattle.study.specs.World.{World, Floats, Lent, lent_in, Opening, SaidOpening, Act, SaidPut, SaidAct, put_box, assign_halfspace, add_material, build_dispersion, set_periodic, walls_periodic, walls_conductor, walls_lossy, walls_cpml, slab, injector, box_region, step, run, reset_fields, total_energy, plane_reading, ask_length, Answer, nothing, numbers, floats, Room, front, puts}
use Rattle.study.specs.Calls.{put_placed, put_poles, put_layer, put_lossed, put_aux, put_reset, layer_of, lossed_of, placed_of, reset_of, box_region_of, form, engine, reply_of, MadeOn, Silently, Numbering, Reading}
use Rattle.study.proofs.Regular.{regular, reads, moves}
use Rattle.study.proofs.Made.{on_block_lem, clock_block, read_block_lem}
use Rattle.study.proofs.Made as made

-- ---- a call that only puts stores
silently : (c : Act) → SaidAct c → (form c).lends nothing → ((x : (form c).Rest) → nothing ≡ (form c).answer x) → (n : ℕ) (y : (form c).Rest) (w v : World)
    → sent n v.block y ≡ on_block (λ r. (form c).call r w.kept) w.block ((form c).idle w.kept) → v.kept ≡ (form c).stored y w.kept
    → Honest engine (record { call = doing c; handed = w; lent = nothing; reply = reply_of n nothing nothing; left = v; back = nothing })
silently c said lends quiet n y w v e s =
    on_block_lem w v c said nothing nothing lends (λ x. x) n y nothing (λ x i. (s ∙ ap (λ (z : (form c).Rest). (form c).stored z w.kept) i, quiet x, refl)) e

-- ---- one that moves the clock besides, and nothing else of the record
moving : (c : Act) → SaidAct c → (form c).lends nothing → ((x : (form c).Rest) → nothing ≡ (form c).answer x) → (n : ℕ) (y : (form c).Rest) (w v : World)
    → sent n v.block y ≡ clock_on_block (λ r. (form c).call r w.kept) w.block ((form c).idle w.kept) → v.kept ≡ (form c).stored y w.kept
    → ((q : Record) → (regular c).next q w.kept ≡ with_clock q ((regular c).next q w.kept).clock)
    → Honest engine (record { call = doing c; handed = w; lent = nothing; reply = reply_of n nothing nothing; left = v; back = nothing })
moving c said lends quiet n y w v e s alone =
    clock_block w v c said nothing nothing lends (λ x. x) n y nothing (λ x i. (s ∙ ap (λ (z : (form c).Rest). (form c).stored z w.kept) i, quiet x, refl)) e alone

-- ---- one that answers into a room: what stands at its front after it, and nothing else of it changed
at_front : {A : Type 0} (room : List A) (x : A) → take 1 (set room 0 x) ≡ front (length room) x
at_front [] x = refl
at_front (y ∷ room) x = refl

put_back : {A : Type 0} (room : List A) (x : A) → set room 0 x ≡ put room 0 (front (length room) x)
unfolding put
put_back [] x = refl
put_back (y ∷ room) x = refl

module _ (room room' : List ℕ) (x : ℕ) (e : room' ≡ answered x room) where
  number_front : numbers (take 1 room') ≡ numbers (front (length room) x)
  number_front = ap (λ (l : List ℕ). numbers (take 1 l)) e ∙ ap {B = Answer} numbers (at_front room x)

  number_back : numbers room' ≡ puts (numbers (take 1 room')) (numbers room)
  number_back = ap {B = Room} numbers (e ∙ put_back room x) ∙ ap (λ (a : Answer). puts a (numbers room)) (sym number_front)

module _ (room room' : List Float) (x : Float) (e : room' ≡ answered x room) where
  float_front : floats (take 1 room') ≡ floats (front (length room) x)
  float_front = ap (λ (l : List Float). floats (take 1 l)) e ∙ ap {B = Answer} floats (at_front room x)

  float_back : floats room' ≡ puts (floats (take 1 room')) (floats room)
  float_back = ap {B = Room} floats (e ∙ put_back room x) ∙ ap (λ (a : Answer). puts a (floats room)) (sym float_front)

-- ---- a clause over b and b', told of blocks that are they
sent_of : {Y : Type 0} (f : Record → Outcome Y) (k : Y) {n : ℕ} {x x' b b' : List ℕ} {y : Y} → x ≡ b → x' ≡ b' → sent n b' y ≡ on_block f b k → sent n x' y ≡ on_block f x k
sent_of f k p q e = rw (p, q) e

told_of : {Y : Type 0} (f : Record → Outcome Y) (k : Y) {n : ℕ} {x b : List ℕ} {y : Y} → x ≡ b → readout n y ≡ read_block f b k → readout n y ≡ read_block f x k
told_of f k p e = rw p e

lent_of : (w : World) (b : List ℕ) (t : Stores) → w.block ≡ b → w.kept ≡ t → lent_in w ≡ record { block = length b; stores = lengths_of t }
lent_of w b t p q = rw (p, q)

-- ---- materials
said_put : (library : Bool) (id : ℕ) (eps mu sigma : Float) → Floats (eps ∷ mu ∷ sigma ∷ []) → SaidPut (asked library id eps mu sigma)
said_put true id eps mu sigma fit = tt
said_put false id eps mu sigma fit = fit

module _ (b b' : List ℕ) (n : ℕ) where
  pub cichowiej_put_box : (box : IndexBox) (library : Bool) (id : ℕ) (eps mu sigma : Float) (p p' : Placed) (room room' : List ℕ) → Floats (eps ∷ mu ∷ sigma ∷ [])
      → sent n b' (told room' p') ≡ on_block (λ r. telling (put_box_call r box (asked library id eps mu sigma) p) room) b (told (answered 0 room) p)
      → Numbering b b' (λ s. placed_of s ≡ p) (put_placed p') (doing (put_box box (asked library id eps mu sigma) (length room))) n room room'
  cichowiej_put_box box library id eps mu sigma p p' room room' fit e w v q h r s =
      let what = asked library id eps mu sigma in
      on_block_lem w v (put_box box what (length room)) (said_put library id eps mu sigma fit) (numbers room) (numbers room') refl
      (λ f. told (answered f.cells room) f.stores) n (told room' p') (numbers (take 1 room'))
      (λ f i.
      let room-is = ap (λ (k : Told). k.cells) i in
      (s ∙ ap (λ (k : Told). put_placed k.stores w.kept) i, number_front room room' f.cells room-is, number_back room room' f.cells room-is))
      (sent_of (λ r. telling (put_box_call r box what (placed_of w.kept)) room) (told (answered 0 room) (placed_of w.kept)) q r (rw h e))

  pub cichowiej_assign_material_halfspace_z : (id k0 : ℕ) (media media' : List Float) (ids ids' : List ℕ)
      → sent n b' (placed media' ids') ≡ on_block (λ r. halfspace_call r id k0 (placed media ids)) b (placed media ids)
      → Silently b b' (λ s. placed_of s ≡ placed media ids) (put_placed (placed media' ids')) (doing (assign_halfspace id k0)) n
  cichowiej_assign_material_halfspace_z id k0 media media' ids ids' e w v p q r s = silently (assign_halfspace id k0) tt refl (λ x. refl) n (placed media' ids') w v (rw (p, q, r) e) s

  pub cichowiej_add_material : (m id id' : List ℕ) → T (bytes_fit m)
      → sent n b' id' ≡ on_block (λ r. answering (add_bytes_call m r) id) b (answered 0 id)
      → Numbering b b' (λ s. Unit {0}) (λ s. s) (doing (add_material m (length id))) n id id'
  cichowiej_add_material m id id' said e w v p q r s =
      on_block_lem w v (add_material m (length id)) said (numbers id) (numbers id') refl (λ x. answered x id) n id' (numbers (take 1 id'))
      (λ x i. (s, number_front id id' x i, number_back id id' x i)) (sent_of (λ r. answering (add_bytes_call m r) id) (answered 0 id) p r e)

  pub cichowiej_build_dispersion : (poles poles' : List Float) → sent n b' poles' ≡ on_block (λ r. build_call r poles) b poles
      → Silently b b' (λ s. s.poles ≡ poles) (put_poles poles') (doing build_dispersion) n
  cichowiej_build_dispersion poles poles' e w v p q r s = silently build_dispersion tt refl (λ x. refl) n poles' w v (rw (p, q, r) e) s

  -- ---- walls
  pub cichowiej_set_periodic : (x y z : Bool) → sent n b' tt ≡ on_block (λ r. set_periodic_call r (x ∷ y ∷ z ∷ [])) b tt
      → Silently b b' (λ s. Unit {0}) (λ s. s) (doing (set_periodic x y z)) n
  cichowiej_set_periodic x y z e w v p q r s = silently (set_periodic x y z) tt refl (λ t. refl) n tt w v (rw (p, r) e) s

  pub cichowiej_set_boundary_periodic : (l l' : Layer) → sent n b' l' ≡ on_block (λ r. set_plain_call true r l) b l
      → Silently b b' (λ s. layer_of s ≡ l) (put_layer l') (doing walls_periodic) n
  cichowiej_set_boundary_periodic l l' e w v p q r s = silently walls_periodic tt refl (λ x. refl) n l' w v (rw (p, q, r) e) s

  pub cichowiej_set_boundary_conductor : (l l' : Layer) → sent n b' l' ≡ on_block (λ r. set_plain_call false r l) b l
      → Silently b b' (λ s. layer_of s ≡ l) (put_layer l') (doing walls_conductor) n
  cichowiej_set_boundary_conductor l l' e w v p q r s = silently walls_conductor tt refl (λ x. refl) n l' w v (rw (p, q, r) e) s

  pub cichowiej_set_boundary_lossy : (a : LossyAbsorber) (l l' : Lossed) → SaidAct (walls_lossy a) → sent n b' l' ≡ on_block (λ r. set_lossy_call r a l) b l
      → Silently b b' (λ s. lossed_of s ≡ l) (put_lossed l') (doing (walls_lossy a)) n
  cichowiej_set_boundary_lossy a l l' said e w v p q r s = silently (walls_lossy a) said refl (λ x. refl) n l' w v (rw (p, q, r) e) s

  pub cichowiej_set_boundary_cpml : (x y z : Bool) (t : ℕ) (given : List Float) (l l' : Layer) (room room' : List ℕ) → SaidAct (walls_cpml x y z t given (length room))
      → sent n b' (named room' l') ≡ on_block (λ r. naming (set_cpml_call r (x ∷ y ∷ z ∷ []) t given l) room) b (named (answered 0 room) l)
      → Numbering b b' (λ s. layer_of s ≡ l) (put_layer l') (doing (walls_cpml x y z t given (length room))) n room room'
  cichowiej_set_boundary_cpml x y z t given l l' room room' said e w v p q r s =
      on_block_lem w v (walls_cpml x y z t given (length room)) said (numbers room) (numbers room') refl
      (λ a. named (answered (axis_bits a.axes) room) a.stores) n (named room' l') (numbers (take 1 room'))
      (λ a i.
      let room-is = ap (λ (k : Named). k.axes) i in
      (s ∙ ap (λ (k : Named). put_layer k.stores w.kept) i, number_front room room' (axis_bits a.axes) room-is, number_back room room' (axis_bits a.axes) room-is))
      (sent_of (λ r. naming (set_cpml_call r (x ∷ y ∷ z ∷ []) t given (layer_of w.kept)) room) (named (answered 0 room) (layer_of w.kept)) p r (rw q e))

  -- ---- the wave
  pub cichowiej_slab_z : (k0 k1 : ℕ) (aux aux' : List Float) → sent n b' aux' ≡ on_block (λ r. region_call r (slab_z r k0 k1) aux) b aux
      → Silently b b' (λ s. s.aux ≡ aux) (put_aux aux') (doing (slab k0 k1)) n
  cichowiej_slab_z k0 k1 aux aux' e w v p q r s = silently (slab k0 k1) tt refl (λ x. refl) n aux' w v (rw (p, q, r) e) s

  pub cichowiej_injector_z : (k0 : ℕ) (aux aux' : List Float) → sent n b' aux' ≡ on_block (λ r. region_call r (injector_z r k0) aux) b aux
      → Silently b b' (λ s. s.aux ≡ aux) (put_aux aux') (doing (injector k0)) n
  cichowiej_injector_z k0 aux aux' e w v p q r s = silently (injector k0) tt refl (λ x. refl) n aux' w v (rw (p, q, r) e) s

  pub cichowiej_box_region : (i0 i1 j0 j1 k0 k1 : ℕ) (aux aux' : List Float) → sent n b' aux' ≡ on_block (λ r. region_call r (box_region_of i0 i1 j0 j1 k0 k1) aux) b aux
      → Silently b b' (λ s. s.aux ≡ aux) (put_aux aux') (doing (box_region i0 i1 j0 j1 k0 k1)) n
  cichowiej_box_region i0 i1 j0 j1 k0 k1 aux aux' e w v p q r s = silently (box_region i0 i1 j0 j1 k0 k1) tt refl (λ x. refl) n aux' w v (rw (p, q, r) e) s

  -- ---- steps: media, tables and ids are lent to be read, and stand in t' as in t
  pub cichowiej_step : (x : Float) (t t' : Stores) → SaidAct (step x) → sent n b' t' ≡ clock_on_block (λ r. step_call (eps_of r) (mu_of r) (light_of r) r x t) b t
      → Silently b b' (λ s. s ≡ t) (λ s. t') (doing (step x)) n
  cichowiej_step x t t' said e w v p q r s = moving (step x) said refl (λ z. refl) n t' w v (rw (p, q, r) e) s (λ z. (moves x [] z w.kept).0)

  pub cichowiej_run : (xs : List Float) (t t' : Stores) → SaidAct (run xs) → sent n b' t' ≡ clock_on_block (λ r. run_call (eps_of r) (mu_of r) (light_of r) r xs t) b t
      → Silently b b' (λ s. s ≡ t) (λ s. t') (doing (run xs)) n
  cichowiej_run xs t t' said e w v p q r s = moving (run xs) said refl (λ z. refl) n t' w v (rw (p, q, r) e) s (λ z. (moves zero_f xs z w.kept).1)

  -- ---- fields
  pub cichowiej_reset_fields : (f f' : Reset) → sent n b' f' ≡ on_block (λ r. reset_call r f) b f
      → Silently b b' (λ s. reset_of s ≡ f) (put_reset f') (doing reset_fields) n
  cichowiej_reset_fields f f' e w v p q r s = silently reset_fields tt refl (λ x. refl) n f' w v (rw (p, q, r) e) s

-- ---- what leaves the block
module _ (b : List ℕ) (n : ℕ) where
  pub cichowiej_total_energy : (e h media room room' : List Float) → readout n room' ≡ read_block (λ r. answering (energy_call (eps_of r) (mu_of r) r e h media) room) b (answered zero_f room)
      → Reading b b (λ s. (s.electric ≡ e) × (s.magnetic ≡ h) × (s.media ≡ media)) (doing (total_energy (length room))) n room room'
  cichowiej_total_energy e h media room room' k w v p q r s =
      read_block_lem w v (total_energy (length room)) tt (floats room) (floats room') refl (λ x. answered x room) n room' (floats (take 1 room'))
      (λ x i. (s, float_front room room' x i, float_back room room' x i)) (told_of (λ r. answering (energy_call (eps_of r) (mu_of r) r w.kept.electric w.kept.magnetic w.kept.media) room) (answered zero_f room) p (rw (q.0, q.1, q.2) k)) (r ∙ sym p) (λ z. (reads (length room) 0 z w.kept).0)

  pub cichowiej_plane_reading : (at : ℕ) (e h room room' : List Float) → readout n room' ≡ read_block (λ r. answering (plane_call r at e h) room) b (answered zero_f room)
      → Reading b b (λ s. (s.electric ≡ e) × (s.magnetic ≡ h)) (doing (plane_reading at (length room))) n room room'
  cichowiej_plane_reading at e h room room' k w v p q r s =
      read_block_lem w v (plane_reading at (length room)) tt (floats room) (floats room') refl (λ x. answered x room) n room' (floats (take 1 room'))
      (λ x i. (s, float_front room room' x i, float_back room room' x i)) (told_of (λ r. answering (plane_call r at w.kept.electric w.kept.magnetic) room) (answered zero_f room) p (rw (q.0, q.1) k)) (r ∙ sym p) (λ z. (reads (length room) at z w.kept).1)

  pub cichowiej_save_length : (room room' : List ℕ) → readout n room' ≡ read_block (λ r. answering (length_call r) room) b (answered 0 room)
      → Numbering b b (λ s. Unit {0}) (λ s. s) (doing (ask_length (length room))) n room room'
  cichowiej_save_length room room' k w v p q r s =
      read_block_lem w v (ask_length (length room)) tt (numbers room) (numbers room') refl (λ x. answered x room) n room' (numbers (take 1 room'))
      (λ x i. (s, number_front room room' x i, number_back room room' x i)) (told_of (λ r. answering (length_call r) room) (answered 0 room) p k) (r ∙ sym p) (λ z. (reads (length room) 0 z w.kept).2)

  -- the bytes saved are those at the room's front
  pub cichowiej_save : (t : Stores) (room room' : List ℕ) → readout n room' ≡ read_block (λ r. save_call r t room) b room
      → MadeOn b b (λ s. s ≡ t) (λ s. s) (saving (length room)) (numbers room) (reply_of n (numbers []) (numbers (take (save_length (block_record b)) room'))) (numbers room')
  cichowiej_save t room room' k w v p q r s =
      let h = made.cichowiej_save w v room room' n (r ∙ sym p) s (told_of (λ r. save_call r w.kept room) room p (rw q k)) in
      subst (λ (x : List ℕ). Honest engine (record { call = saving (length room); handed = w; lent = numbers room; reply = reply_of n (numbers []) (numbers (take (save_length (block_record x)) room')); left = v; back = numbers room' })) p h

-- ---- an opening and a rewind
module _ (b b' : List ℕ) (n : ℕ) (t t' : Stores) where
  pub cichowiej_open : (o : Opening) → SaidOpening o → sent n b' t' ≡ open_on_block o.nx o.ny o.nz o.slots o.spacings o.constants b t
      → Silently b b' (λ s. s ≡ t) (λ s. t') (opening o (record { block = length b; stores = lengths_of t })) n
  cichowiej_open o said e w v p q r s =
      subst (λ (l : Lent). Honest engine (record { call = opening o l; handed = w; lent = nothing; reply = reply_of n nothing nothing; left = v; back = nothing })) (lent_of w b t p q)
      (made.cichowiej_open w v o said n (rw (p, q, r, s) e))

  pub cichowiej_rewind : (save : List ℕ) → T (bytes_fit save) → sent n b' t' ≡ rewind_on_block save b t
      → Silently b b' (λ s. s ≡ t) (λ s. t') (rewinding save (record { block = length b; stores = lengths_of t })) n
  cichowiej_rewind save said e w v p q r s =
      subst (λ (l : Lent). Honest engine (record { call = rewinding save l; handed = w; lent = nothing; reply = reply_of n nothing nothing; left = v; back = nothing })) (lent_of w b t p q)
      (made.cichowiej_rewind w v save said n (rw (p, q, r, s) e))
