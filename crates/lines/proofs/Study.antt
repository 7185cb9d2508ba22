-- A save without fault, as its study says it and as code finds it among the bytes. Assumes nothing.
use Prim.Native.Nat.{ℕ, zero, suc, ◌+◌, ◌*◌, ◌≤◌, ◌<◌}
use native.Mathlib.Nat.{mul_assoc, mul_comm, mul-suc, mul-zero}
use native.Mathlib.Omega.{arith}
use mathlib.Core.Path.{◌≡◌, refl, sym, ap, ◌∙◌, subst}
use mathlib.Core.List.{List, ◌++◌}
use lib.Dec.{T}
use lib.ListN.{length, get_or, drop}
use lib.Ieee.{Float, binary64, of_bits, nan}
use Rattle.codec.specs.Lists.{part}
use Rattle.codec.specs.Bytes.{unle, elements_of, floats_of, bytes_fit, bits}
use Rattle.codec.proofs.Lists.{part_drop}
use Rattle.cells.specs.Cells.{joined, cell_index}
use Rattle.cells.specs.Reading.{block_end}
use Rattle.cells.proofs.Blocks.{joined_same}
use Rattle.grid.specs.declared.Record.{Record}
use Rattle.grid.specs.Inner.Sound.{Sound}
use Rattle.grid.specs.Stores.{Stores, cells, store_lengths, number_at}
use Rattle.grid.proofs.Judging.{sound}
use Rattle.heads.specs.Numbers.{gh_length, gh_of}
use Rattle.format.specs.Save.{save_length}
use Rattle.format.specs.Rewind.{is_old, head_size, bare, bytes_fault, read_record, read_stores}
use Rattle.format.proofs.Again.{read_none, read_long}
use Rattle.saves.specs.Inner.Places.{stores_from, stores_at}
use Rattle.saves.proofs.Taken.{all_bytes, stores_read}
use Rattle.lines.specs.declared.fields.Fields.{Fields}
use Rattle.lines.specs.declared.fields.Saved.{Saved}
use Rattle.lines.specs.declared.text.Text.{Text}
use Rattle.lines.specs.Listing.{cell_line, cell_lines, head_line, study_lines, list_fault}
use Rattle.lines.specs.Inner.Places.{Puts, Lies, bits_at, fields_of}
use Rattle.lines.specs.Inner.Rows.{row_text, plane_text, grid_text}
use Rattle.lines.proofs.Written.{wrote_then, wrote_wider, wrote_as, turn_fits}
use Rattle.lines.proofs.Judged.{no_fault, few}

-- ---- one number
elements_at : {A : Type 0} (w : ℕ) (g : ℕ → A) (n : ℕ) (l : List ℕ) (i : ℕ) (d : A) → i < n → get_or (elements_of w g n l) i d ≡ g (unle (part l (w * i) w))
unfolding elements_of part
elements_at w g zero l i d h = absurd (let z : ⊥ = omega arith in z)
elements_at w g (suc n) l zero d h = ap (λ (k : ℕ). g (unle (part l k w))) (sym (mul-zero w))
elements_at w g (suc n) l (suc i) d h =
    let e : w + w * i ≡ w * suc i = omega (arith, mul-suc w i) in
    elements_at w g n (drop w l) i d (omega arith)
    ∙ ap (λ (q : List ℕ). g (unle q)) (part_drop l w (w * i) w)
    ∙ ap (λ (k : ℕ). g (unle (part l k w))) e

number_at_lem : (b : List ℕ) (from n c m : ℕ) → c < 3 → m < n → bits_at b from n c m ≡ bits (number_at (floats_of (3 * n) (drop from b)) n c m)
number_at_lem b from n c m h k =
    sym
    (ap bits
    (elements_at 8 (of_bits binary64) (3 * n) (drop from b) (c * n + m) nan (omega (arith, block_end c 3 n h))
    ∙ ap (λ (q : List ℕ). of_bits binary64 (unle q)) (part_drop b from (8 * (c * n + m)) 8)))

-- ---- the cells' lines
cell_same : (i j k : ℕ) (e f h g : ℕ → ℕ) → ((c : ℕ) → c < 3 → e c ≡ f c) → ((c : ℕ) → c < 3 → h c ≡ g c) → cell_line i j k e h ≡ cell_line i j k f g
unfolding cell_line
cell_same i j k e f h g p q = rw (p 0 (omega arith), p 1 (omega arith), p 2 (omega arith), q 0 (omega arith), q 1 (omega arith), q 2 (omega arith))

-- in store order
place : (nx ny i j k : ℕ) → nx * ny * k + nx * j + i ≡ cell_index nx ny i j k
place nx ny i j k = omega (arith, mul_comm nx j, mul_comm (nx * ny) k)

inside : (nx ny nz i j k : ℕ) → i < nx → j < ny → k < nz → nx * ny * k + nx * j + i < nx * ny * nz
inside nx ny nz i j k hi hj hk = omega (arith, turn_fits nx ny j hj, turn_fits (nx * ny) nz k hk)

-- the cells' lines by the save's parts
abbrev pub grid_of : (b : List ℕ) → Fields → (nx ny nz : ℕ) → List ℕ
grid_of b f nx ny nz =
    joined nz (λ k. joined ny (λ j. joined nx (λ i.
    let m = nx * ny * k + nx * j + i in cell_line i j k (λ c. bits_at b f.electric f.cells c m) (λ c. bits_at b f.magnetic f.cells c m))))

pub grid_told : (s : Saved) → grid_text s ≡ grid_of s.bytes.now s.at s.nx s.ny s.nz
unfolding grid_text plane_text row_text
grid_told s = refl

grid_same : (b : List ℕ) (f : Fields) (nx ny nz : ℕ) (e h : List Float) → f.cells ≡ nx * ny * nz → e ≡ floats_of (3 * f.cells) (drop f.electric b) →
    h ≡ floats_of (3 * f.cells) (drop f.magnetic b) →
    grid_of b f nx ny nz ≡ cell_lines nx ny nz (λ c m. bits (number_at e f.cells c m)) (λ c m. bits (number_at h f.cells c m))
unfolding cell_lines
grid_same b f nx ny nz e h n pe ph =
    joined_same nz _ _ (λ k hk. joined_same ny _ _ (λ j hj. joined_same nx _ _ (λ i hi. one i j k (omega (arith, n, inside nx ny nz i j k hi hj hk)))))
  where
    at : (s : List Float) (from : ℕ) → s ≡ floats_of (3 * f.cells) (drop from b) → (m : ℕ) → m < f.cells → (c : ℕ) → c < 3 →
        bits_at b from f.cells c m ≡ bits (number_at s f.cells c m)
    at s from p m l c hc = number_at_lem b from f.cells c m hc l ∙ ap (λ (t : List Float). bits (number_at t f.cells c m)) (sym p)

    one : (i j k : ℕ) → nx * ny * k + nx * j + i < f.cells →
        cell_line i j k (λ c. bits_at b f.electric f.cells c (nx * ny * k + nx * j + i)) (λ c. bits_at b f.magnetic f.cells c (nx * ny * k + nx * j + i))
        ≡ cell_line i j k (λ c. bits (number_at e f.cells c (cell_index nx ny i j k))) (λ c. bits (number_at h f.cells c (cell_index nx ny i j k)))
    one i j k l =
        let m : ℕ = nx * ny * k + nx * j + i in
        cell_same i j k _ (λ c. bits (number_at e f.cells c m)) _ (λ c. bits (number_at h f.cells c m)) (at e f.electric pe m l) (at h f.magnetic ph m l)
        ∙ ap (λ (q : ℕ). cell_line i j k (λ c. bits (number_at e f.cells c q)) (λ c. bits (number_at h f.cells c q))) (place nx ny i j k)

-- ---- the study
module _ (b : List ℕ) where
  -- where its stores begin
  abbrev from : Record → ℕ
  from r = stores_from (is_old b) r.material_count

  electric_at : (read_stores b).electric ≡ floats_of (3 * cells (read_record b)) (drop (fields_of (from (read_record b)) (read_record b)).electric b)
  unfolding stores_at store_lengths bare gh_of read_record
  electric_at =
      let n = cells (read_record b) in
      let at = from (read_record b) in
      let e : at + (18 + 4 * n + 8 * (3 * n)) ≡ at + (18 + 28 * n) = omega arith in
      sym (ap (λ (s : Stores). s.electric) (stores_read b)) ∙ ap (λ (k : ℕ). floats_of (3 * n) (drop k b)) e

  magnetic_at_lem : (read_stores b).magnetic ≡ floats_of (3 * cells (read_record b)) (drop (fields_of (from (read_record b)) (read_record b)).magnetic b)
  unfolding stores_at store_lengths bare gh_of read_record
  magnetic_at_lem =
      let n = cells (read_record b) in
      let at = from (read_record b) in
      let e : at + (24 + 4 * n + 8 * (3 * n) + 8 * (3 * n)) ≡ at + (24 + 52 * n) = omega arith in
      sym (ap (λ (s : Stores). s.magnetic) (stores_read b)) ∙ ap (λ (k : ℕ). floats_of (3 * n) (drop k b)) e

  study_lines_lem : (r : Record) → r ≡ read_record b →
      head_line r.nx r.ny r.nz r.clock.steps r.material_count ++ grid_of b (fields_of (from r) r) r.nx r.ny r.nz ≡ study_lines (read_record b) (read_stores b)
  unfolding study_lines
  study_lines_lem r own =
      let q = read_record b in
      ap (λ (t : Record). head_line t.nx t.ny t.nz t.clock.steps t.material_count ++ grid_of b (fields_of (from t) t) t.nx t.ny t.nz) own
      ∙ ap (λ (t : List ℕ). head_line q.nx q.ny q.nz q.clock.steps q.material_count ++ t)
      (grid_same b (fields_of (from q) q) q.nx q.ny q.nz (read_stores b).electric (read_stores b).magnetic refl electric_at magnetic_at_lem)

  module _ (small : (i : ℕ) → get_or b i 0 < 256) (none : bytes_fault b ≡ 0) (r : Record) (own : r ≡ read_record b) where
    bytes : T (bytes_fit b)
    bytes = all_bytes b small

    pub read_sound : Sound r
    read_sound = subst Sound (sym own) (sound (read_record b) (read_none b bytes none))

    long : length b + gh_length ≡ save_length r + head_size b
    long = read_long b bytes none ∙ ap (λ (t : Record). save_length t + head_size b) (sym own)

    pub read_lies : cells r ≤ 64 → Lies (fields_of (from r) r) (length b)
    unfolding save_length
    read_lies h = record { e = omega (arith, long); h = omega (arith, long); few = h }

  module _ (small : (i : ℕ) → get_or b i 0 < 256) (ok : list_fault b ≡ 0) (r : Record) (own : r ≡ read_record b) where
    pub study_few : cells r ≤ 64
    study_few = subst (λ (t : Record). cells t ≤ 64) (sym own) (few b ok)

    pub study_sound : Sound r
    study_sound = read_sound small (no_fault b ok) r own

    pub study_most : 135 * r.nx * r.ny * r.nz ≤ 8640
    study_most =
        let e : 135 * r.nx * r.ny * r.nz ≡ 135 * cells r =
        ap (λ (x : ℕ). x * r.nz) (mul_assoc 135 r.nx r.ny) ∙ mul_assoc 135 (r.nx * r.ny) r.nz in
        omega (arith, e, study_few)

    module _ (k : ℕ) (begins : k ≡ stores_from (is_old b) r.material_count) (f : Fields) (told : f ≡ fields_of k r) where
      at : f ≡ fields_of (from r) r
      at = told ∙ ap (λ (i : ℕ). fields_of i r) begins

      pub study_lies : Lies f (length b)
      study_lies = subst (λ (x : Fields). Lies x (length b)) (sym at) (read_lies small (no_fault b ok) r own study_few)

      pub study_wrote : {l m o : Text} → Puts 77 l (head_line r.nx r.ny r.nz r.clock.steps r.material_count) m →
          Puts (135 * r.nx * r.ny * r.nz) m (grid_of b f r.nx r.ny r.nz) o → Puts 8717 l (study_lines (read_record b) (read_stores b)) o
      study_wrote {l} {m} {o} v w =
          let grid = subst (λ (x : Fields). Puts (135 * r.nx * r.ny * r.nz) m (grid_of b x r.nx r.ny r.nz) o) at w in
          wrote_as (study_lines_lem r own) (wrote_wider (omega (arith, study_most)) (wrote_then v grid))
