use Rattle.std.proofs.Common.{arith, ℕ, ap, ◌≡◌, ◌+◌, ◌*◌, ◌∙◌, length, drop}
use Rattle.codec.specs.Bytes.{floats_of}
use Rattle.format.proofs.Back.{nine_same}
use Rattle.saves.specs.Inner.Places.{stores_at}
use Rattle.saves.proofs.gets.get_stores.Goals as goal

pub returns : goal.returns
unfolding stores_at
returns c =
    let a = c.args in
    let b = a.b.now in
    let k1 : c.get_store-at.result + 6 ≡ a.at + (12 + 4 * length a.ids.now) = omega (arith, c.get_store-at.ensures.next) in
    let k2 : c.get_store-at-2.result + 6 ≡ a.at + (18 + 4 * length a.ids.now + 8 * length a.media.now) = omega (arith, c.get_store-at-2.ensures.next, k1) in
    let k3 : c.get_store-at-3.result + 6 ≡ a.at + (24 + 4 * length a.ids.now + 8 * length a.media.now + 8 * length a.e.now) = omega (arith, c.get_store-at-3.ensures.next, k2) in
    let k4 : c.get_store-at-4.result + 6 ≡ a.at + (30 + 4 * length a.ids.now + 8 * length a.media.now + 8 * length a.e.now + 8 * length a.h.now) = omega (arith, c.get_store-at-4.ensures.next, k3) in
    let k5 : c.get_store-at-5.result + 6 ≡ a.at + (36 + 4 * length a.ids.now + 8 * length a.media.now + 8 * length a.e.now + 8 * length a.h.now + 8 * length a.psi_e.now) = omega (arith, c.get_store-at-5.ensures.next, k4) in
    let k6 : c.get_store-at-6.result + 6 ≡ a.at + (42 + 4 * length a.ids.now + 8 * length a.media.now + 8 * length a.e.now + 8 * length a.h.now + 8 * length a.psi_e.now + 8 * length a.psi_h.now) = omega (arith, c.get_store-at-6.ensures.next, k5) in
    let k7 : c.get_store-at-7.result + 6 ≡ a.at + (48 + 4 * length a.ids.now + 8 * length a.media.now + 8 * length a.e.now + 8 * length a.h.now + 8 * length a.psi_e.now + 8 * length a.psi_h.now + 8 * length a.tables.now) = omega (arith, c.get_store-at-7.ensures.next, k6) in
    let k8 : c.get_store-at-8.result + 6 ≡ a.at + (54 + 4 * length a.ids.now + 8 * length a.media.now + 8 * length a.e.now + 8 * length a.h.now + 8 * length a.psi_e.now + 8 * length a.psi_h.now + 8 * length a.tables.now + 8 * length a.poles.now) = omega (arith, c.get_store-at-8.ensures.next, k7) in
    nine_same _ _ _ _ _ _ _ _ _ _ _ _ _ _ _ _ _ _
    (c.get_store-at-3.ensures.store ∙ ap (λ (k : ℕ). floats_of (length a.e.now) (drop k b)) k2)
    (c.get_store-at-4.ensures.store ∙ ap (λ (k : ℕ). floats_of (length a.h.now) (drop k b)) k3)
    (c.get_store-at-2.ensures.store ∙ ap (λ (k : ℕ). floats_of (length a.media.now) (drop k b)) k1)
    (c.get_store-at-5.ensures.store ∙ ap (λ (k : ℕ). floats_of (length a.psi_e.now) (drop k b)) k4)
    (c.get_store-at-6.ensures.store ∙ ap (λ (k : ℕ). floats_of (length a.psi_h.now) (drop k b)) k5)
    (c.get_store-at-7.ensures.store ∙ ap (λ (k : ℕ). floats_of (length a.tables.now) (drop k b)) k6)
    (c.get_store-at-8.ensures.store ∙ ap (λ (k : ℕ). floats_of (length a.poles.now) (drop k b)) k7)
    (c.get_store.ensures.store ∙ ap (λ (k : ℕ). floats_of (length a.aux.now) (drop k b)) k8)
    c.get_store-at.ensures.store
