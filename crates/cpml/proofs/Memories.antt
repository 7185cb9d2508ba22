-- Where a memory lies: within its store, as the part that the lookup takes of it, and in the store's order. Assumes nothing.
use Prim.Native.Nat.{ℕ, zero, suc, ◌+◌, ◌-◌, ◌*◌, ◌≤◌, ◌<◌}
use native.Mathlib.Nat.{mul-le-mul_right}
use native.Mathlib.Omega.{arith}
use mathlib.Core.Path.{◌≡◌, refl, sym, ap, ◌∙◌}
use mathlib.Core.Bool.{Bool, true, false, cond}
use mathlib.Core.List.{List}
use lib.ListN.{length, take, drop}
use lib.Ieee.{Float}
use Rattle.codec.specs.Lists.{part}
use Rattle.codec.proofs.Lists.{part_length}
use Rattle.cpml.specs.declared.Place.{Place}
use Rattle.cpml.specs.declared.Psi.{Psi}
use Rattle.cpml.specs.declared.Psi.TheVariants.{Exy, Exz, Eyz, Eyx, Ezx, Ezy, Hxy, Hxz, Hyz, Hyx, Hzx, Hzy}
use Rattle.cpml.specs.Memory.{place_of, in_order, memory_of}

abbrev made : Bool → ℕ → Place
made on k = record { electric = on; number = k }

-- p is known by its fields, and w is the variant v
pub placed : {v : Psi} {on : Bool} {k : ℕ} (p : Place) (w : Psi) → w ≡ v → p.electric ≡ on → p.number ≡ k → made on k ≡ place_of v → p ≡ place_of w
placed {v} {on} {k} p w e a b d = let same : made p.electric p.number ≡ place_of w = cc in same

number_small : (w : Psi) → (place_of w).number ≤ 5
number_small Exy = omega arith
number_small Exz = omega arith
number_small Eyz = omega arith
number_small Eyx = omega arith
number_small Ezx = omega arith
number_small Ezy = omega arith
number_small Hxy = omega arith
number_small Hxz = omega arith
number_small Hyz = omega arith
number_small Hyx = omega arith
number_small Hzx = omega arith
number_small Hzy = omega arith

-- each of the six parts ends within the store
pub part_in : (k n : ℕ) → k ≤ 5 → k * n + n ≤ 6 * n
part_in k n small = let h : k * n ≤ 5 * n = mul-le-mul_right n small in omega (arith, h)

-- what the lookup takes, of one store or the other
pub memory_is : {on : Bool} (p : Place) (w : Psi) (e h : List Float) (n : ℕ) → p ≡ place_of w → p.electric ≡ on →
    take (p.number * n + n - p.number * n) (drop (p.number * n) (cond on e h)) ≡ memory_of w e h n
unfolding memory_of part
memory_is {on} p w e h n q t =
    let k : p.number * n + n - p.number * n ≡ n = omega arith in
    ap (λ (i : ℕ). take i (drop (p.number * n) (cond on e h))) k
    ∙ ap (λ (b : Bool). take n (drop (p.number * n) (cond b e h))) (sym t)
    ∙ ap (λ (r : Place). take n (drop (r.number * n) (cond r.electric e h))) q

pub either_long : (on : Bool) (e h : List Float) (k : ℕ) → length e ≡ k → length h ≡ k → length (cond on e h) ≡ k
either_long true e h k p q = p
either_long false e h k p q = q

pub memory_long : (w : Psi) (e h : List Float) (n : ℕ) → length e ≡ 6 * n → length h ≡ 6 * n → length (memory_of w e h n) ≡ n
unfolding memory_of
memory_long w e h n p q =
    part_length (cond (place_of w).electric e h) ((place_of w).number * n) n
    (omega (arith, part_in (place_of w).number n (number_small w), either_long (place_of w).electric e h (6 * n) p q))

place_in_order : (electric : Bool) (k : ℕ) → k < 6 → place_of (in_order electric k) ≡ made electric k
unfolding in_order
place_in_order true zero h = refl
place_in_order true (suc zero) h = refl
place_in_order true (suc (suc zero)) h = refl
place_in_order true (suc (suc (suc zero))) h = refl
place_in_order true (suc (suc (suc (suc zero)))) h = refl
place_in_order true (suc (suc (suc (suc (suc zero))))) h = refl
place_in_order true (suc (suc (suc (suc (suc (suc k)))))) h = absurd (omega arith)
place_in_order false zero h = refl
place_in_order false (suc zero) h = refl
place_in_order false (suc (suc zero)) h = refl
place_in_order false (suc (suc (suc zero))) h = refl
place_in_order false (suc (suc (suc (suc zero)))) h = refl
place_in_order false (suc (suc (suc (suc (suc zero))))) h = refl
place_in_order false (suc (suc (suc (suc (suc (suc k)))))) h = absurd (omega arith)

-- what the lookup gives for the k-th memory of a store is the k-th part of that store
pub memory_in_order : (electric : Bool) (k : ℕ) (e h : List Float) (n : ℕ) → k < 6 → memory_of (in_order electric k) e h n ≡ part (cond electric e h) (k * n) n
unfolding memory_of
memory_in_order electric k e h n small = ap (λ (p : Place). part (cond p.electric e h) (p.number * n) n) (place_in_order electric k small)
