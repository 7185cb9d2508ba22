-- Text written piece by piece. Assumes nothing.
use Prim.Native.Nat.{ℕ, ◌+◌, ◌-◌, ◌*◌, ◌/◌, ◌%◌, ◌≤◌, ◌<◌}
use native.Mathlib.Nat.{mul-suc, mul-le-mul_left}
use native.Mathlib.Numerals.{add-one}
use native.Mathlib.Omega.{arith}
use mathlib.Core.Path.{◌≡◌, refl, sym, ap, ◌∙◌, subst}
use mathlib.Core.List.{List, [], ◌∷◌, ◌++◌}
use lib.ListN.{length, get_or, take, length-append}
use lib.Seq.{take-suc}
use Rattle.std.proofs.Common.{take_all}
use Rattle.codec.specs.Lists.{put}
use Rattle.codec.proofs.Lists.{put_nil, put_next}
use Rattle.cells.specs.Cells.{joined}
use Rattle.lines.specs.declared.text.Text.{Text}
use Rattle.lines.specs.Listing.{glyph, hex_digits, decimal, ended}
use Rattle.lines.specs.Inner.Places.{Room, Puts}
use Rattle.lines.proofs.Numerals.{hex_none, hex_more, decimal_one, decimal_more, one_long, more_long}

-- ---- one text after another
pub wrote_then : {a b : ℕ} {l k o : Text} {s t : List ℕ} → Puts a l s k → Puts b k t o → Puts (a + b) l (s ++ t) o
wrote_then {a} {b} {l} {k} {o} {s} {t} v w =
    let long : length (s ++ t) ≡ length s + length t = length-append s t in
    record {
      same = w.same ∙ v.same;
      is =
          w.is
          ∙ ap (λ (x : List ℕ). put x k.at t) v.is
          ∙ ap (λ (i : ℕ). put (put l.out.now l.at s) i t) v.ends
          ∙ put_next l.out.now l.at (length s) s t refl (omega (arith, v.ends, w.ends, w.room, v.long));
      ends = omega (arith, v.ends, w.ends, long);
      short = omega (arith, v.short, w.short, long);
      room = omega (arith, w.room, v.long);
      long = w.long ∙ v.long;
    }

-- nothing written yet
pub wrote_none : {l : Text} → Room 0 l → Puts 0 l [] l
wrote_none {l} h = record { same = refl; is = sym (put_nil l.out.now l.at); ends = omega arith; short = omega arith; room = omega (arith, h); long = refl }

-- the same text, otherwise told
pub wrote_as : {a : ℕ} {l o : Text} {s t : List ℕ} → s ≡ t → Puts a l s o → Puts a l t o
wrote_as {a} {l} {o} e w = subst (λ (x : List ℕ). Puts a l x o) e w

pub wrote_wider : {a b : ℕ} {l o : Text} {t : List ℕ} → a ≤ b → Puts a l t o → Puts b l t o
wrote_wider h w = record { same = w.same; is = w.is; ends = w.ends; short = omega (arith, w.short); room = w.room; long = w.long }

-- ---- hex
pub hex_empty : (w n : ℕ) {l : Text} → w ≤ 0 → Room w l → Puts w l (hex_digits w n) l
hex_empty w n h r = wrote_as (sym (hex_none w n h)) (wrote_wider (omega arith) (wrote_none (omega (arith, r))))

pub hex_next : (w n : ℕ) {d : ℕ} {l k o : Text} → 0 < w → d ≡ glyph (n % 16) → Puts (w - 1) l (hex_digits (w - 1) (n / 16)) k → Puts 1 k (d ∷ []) o → Puts w l (hex_digits w n) o
hex_next w n h e v u =
    wrote_wider (omega arith) (wrote_as (ap (λ (x : ℕ). hex_digits (w - 1) (n / 16) ++ (x ∷ [])) e ∙ hex_more w n h) (wrote_then v u))

-- ---- decimal
pub decimal_first : {n d : ℕ} {l o : Text} → n < 10 → d ≡ glyph n → Puts 1 l (d ∷ []) o → Puts (length (decimal n)) l (decimal n) o
decimal_first {n} h e v = wrote_wider (omega (arith, one_long n h)) (wrote_as (ap (λ (x : ℕ). x ∷ []) e ∙ sym (decimal_one n h)) v)

pub decimal_next : {n d : ℕ} {l k o : Text} → 10 ≤ n → d ≡ glyph (n % 10) → Puts (length (decimal (n / 10))) l (decimal (n / 10)) k → Puts 1 k (d ∷ []) o →
    Puts (length (decimal n)) l (decimal n) o
decimal_next {n} h e v u =
    wrote_wider (omega (arith, more_long n h)) (wrote_as (ap (λ (x : ℕ). decimal (n / 10) ++ (x ∷ [])) e ∙ sym (decimal_more n h)) (wrote_then v u))

-- ---- a word, letter by letter
pub wrote_letter : (i : ℕ) (word : List ℕ) {l k o : Text} → i < length word → Puts i l (take i word) k → Puts 1 k (get_or word i 0 ∷ []) o →
    Puts (i + 1) l (take (i + 1) word) o
wrote_letter i word h v w = wrote_as (sym (take-suc word i 0 h) ∙ ap (λ (j : ℕ). take j word) (sym (add-one i))) (wrote_then v w)

pub wrote_word : (i : ℕ) (word : List ℕ) {end : ℕ} {l k o : Text} → length word ≤ i → i ≤ length word → Puts i l (take i word) k → Puts 1 k (end ∷ []) o →
    Puts (length word + 1) l (ended end word) o
wrote_word i word h h' v w = wrote_wider (omega arith) (wrote_then (wrote_as (take_all i word h) v) w)

-- ---- many texts one after another, each of at most m bytes
-- what turn i of n takes is there
pub turn_fits : (m n i : ℕ) → i < n → m * i + m ≤ m * n
turn_fits m n i h = omega (arith, mul-suc m i, mul-le-mul_left m h)

pub turned_none : (m : ℕ) {l : Text} (g : ℕ → List ℕ) → Room 0 l → Puts (m * 0) l (joined 0 g) l
unfolding joined
turned_none m g h = wrote_wider (omega arith) (wrote_none h)

pub turned_more : (m i : ℕ) {l k o : Text} (g : ℕ → List ℕ) → Puts (m * i) l (joined i g) k → Puts m k (g i) o → Puts (m * (i + 1)) l (joined (i + 1) g) o
unfolding joined
turned_more m i g v w =
    let more : joined i g ++ g i ≡ joined (i + 1) g = rw add-one refl in
    wrote_wider (omega (arith, mul-suc m i)) (wrote_as more (wrote_then v w))

pub turned_all : (m n i : ℕ) {l k : Text} (g : ℕ → List ℕ) → n ≤ i → i ≤ n → Puts (m * i) l (joined i g) k → Puts (m * n) l (joined n g) k
turned_all m n i {l} {k} g h h' v = let e : i ≡ n = omega arith in subst (λ (j : ℕ). Puts (m * j) l (joined j g) k) e v
