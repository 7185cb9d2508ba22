-- What the contracts of the inner functions of lines cite: text as code writes it, after what stands already, and a cell's numbers by their places among
-- a save's bytes. Definitions only.
use Rattle.std.specs.Prelude.{ℕ, ◌+◌, ◌*◌, ◌≤◌, ◌≡◌, List, ◌++◌, length}
use Rattle.std.specs.Float.{binary64}
use Rattle.std.specs.Float.Ieee.{of_bits}
use Rattle.codec.specs.Lists.{put, part}
use Rattle.codec.specs.Bytes.{unle, bits}
use Rattle.grid.specs.declared.Record.{Record}
use Rattle.grid.specs.Stores.{cells}
use Rattle.lines.specs.declared.fields.Fields.{Fields}
use Rattle.lines.specs.declared.text.Text.{Text}
use Rattle.lines.specs.Listing.{decimal, blank, ended, word_study, hex}

-- bytes left after the text so far
abbrev pub Room : ℕ → Text → Type 0
Room n t = t.at + n ≤ length t.out.now

-- new is old with a text of at most that many bytes after it, in the same lent bytes
pub record Puts (most : ℕ) (old : Text) (text : List ℕ) (new : Text) : Type 0 where
  pub same : new.out.ghost_name ≡ old.out.ghost_name
  pub is : new.out.now ≡ put old.out.now old.at text
  pub ends : new.at ≡ old.at + length text
  pub short : length text ≤ most
  pub room : new.at ≤ length old.out.now
  pub long : length new.out.now ≡ length old.out.now

-- the bits of number c of the cell at place m, in a store of n cells whose bytes begin at `from`
abbrev pub bits_at : (b : List ℕ) → (from n c m : ℕ) → ℕ
bits_at b from n c m = bits (of_bits binary64 (unle (part b (from + 8 * (c * n + m)) 8)))

-- the three numbers of a cell in one store
abbrev pub three_text : (b : List ℕ) → (from n m end : ℕ) → List ℕ
three_text b from n m end = ended blank (hex (bits_at b from n 0 m)) ++ ended blank (hex (bits_at b from n 1 m)) ++ ended end (hex (bits_at b from n 2 m))

-- the head's line up to the sizes
abbrev pub sizes_text : (nx ny nz : ℕ) → List ℕ
sizes_text nx ny nz = ended blank word_study ++ ended blank (decimal nx) ++ ended blank (decimal ny) ++ ended blank (decimal nz)

-- where a save of r has the fields, whose records of stores begin at a place: six bytes before each payload, and 28 a cell in CI and CM
abbrev pub fields_of : (from : ℕ) → Record → Fields
fields_of from r = record {
  electric = from + (18 + 28 * cells r);
  magnetic = from + (24 + 52 * cells r);
  cells = cells r;
}

-- both stores lie within the bytes, and the cells are few
pub record Lies (f : Fields) (bytes : ℕ) : Type 0 where
  pub e : f.electric + 24 * f.cells ≤ bytes
  pub h : f.magnetic + 24 * f.cells ≤ bytes
  pub few : f.cells ≤ 64
