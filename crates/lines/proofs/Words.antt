-- The words of a line as code writes them, one after another. Assumes nothing.
use Prim.Native.Nat.{ℕ, ◌+◌, ◌*◌}
use native.Mathlib.Omega.{arith}
use mathlib.Core.Path.{◌≡◌, ap, ◌∙◌}
use mathlib.Core.List.{List, ◌++◌, append_assoc}
use lib.Ieee.{binary64, of_bits}
use Rattle.codec.specs.Lists.{part}
use Rattle.codec.specs.Bytes.{unle, bits}
use Rattle.lines.specs.declared.fields.Saved.{Saved}
use Rattle.lines.specs.Listing.{decimal, hex, blank, newline, ended, line, word_steps, word_materials, head_line, cell_line}
use Rattle.lines.specs.Inner.Places.{bits_at, three_text, sizes_text}
use Rattle.lines.specs.Inner.Rows.{cell_text}

pub head_words : (nx ny nz steps materials : ℕ) →
    sizes_text nx ny nz ++ ended blank word_steps ++ ended blank (decimal steps) ++ ended blank word_materials ++ ended newline (decimal materials)
    ≡ head_line nx ny nz steps materials
unfolding head_line line
head_words nx ny nz steps materials = simp append_assoc

-- what is read at a place
abbrev read : List ℕ → ℕ → ℕ
read b at = bits (of_bits binary64 (unle (part b at 8)))

pub three_words : (b : List ℕ) (from n m end x y z : ℕ) → x ≡ read b (from + 8 * m) → y ≡ read b (from + 8 * (n + m)) → z ≡ read b (from + 8 * (2 * n + m)) →
    ended blank (hex x) ++ ended blank (hex y) ++ ended end (hex z) ≡ three_text b from n m end
three_words b from n m end x y z ex ey ez =
    let px : from + 8 * m ≡ from + 8 * (0 * n + m) = omega arith in
    let py : from + 8 * (n + m) ≡ from + 8 * (1 * n + m) = omega arith in
    let qx : x ≡ bits_at b from n 0 m = ex ∙ ap (read b) px in
    let qy : y ≡ bits_at b from n 1 m = ey ∙ ap (read b) py in
    ap (λ (t : ℕ). ended blank (hex t) ++ ended blank (hex y) ++ ended end (hex z)) qx
    ∙ ap (λ (t : ℕ). ended blank (hex (bits_at b from n 0 m)) ++ ended blank (hex t) ++ ended end (hex z)) qy
    ∙ ap (λ (t : ℕ). ended blank (hex (bits_at b from n 0 m)) ++ ended blank (hex (bits_at b from n 1 m)) ++ ended end (hex t)) ez

pub cell_words : (s : Saved) (i j k m : ℕ) →
    ended blank (decimal i) ++ ended blank (decimal j) ++ ended blank (decimal k) ++ three_text s.bytes.now s.at.electric s.at.cells m blank ++ three_text s.bytes.now s.at.magnetic s.at.cells m newline
    ≡ cell_text s i j k m
unfolding cell_line line
cell_words s i j k m = simp append_assoc
