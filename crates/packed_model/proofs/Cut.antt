-- The last entry taken away: the heap stays packed and in order, and has what it had but that element.
use Rattle.laws.specs.Prelude.{Bool, Element, ◌+◌, ◌-◌, ◌<◌, ◌≡◌, ◌≤◌, arith, cond, false, key, leb, leb-false, leb-true, not-suc-le-zero, refl, subst, suc, true, zero, ℕ}
use Rattle.promise.specs.Prelude.{hit}
use Rattle.packed_model.specs.Node.{size, pick, side_if, turn_of, rest_of}
use Rattle.packed_model.specs.Heap.{under, Heap, at, cut, many, Has, Sound}
use Rattle.packed_model.proofs.Tests.{hit-has, hit-blank}

pub record Shrunk (k d r : ℕ) (e : Element) (h g : Heap k) : Type 0 where
  pub sound : Sound k d r g
  pub has : Has e
  pub sum : (f : Element → Bool) → many f k g + hit (f e) ≡ many f k h

module _ (k e r : ℕ) (h : Heap (suc k)) (s : Sound (suc k) (suc e) (suc r) h) where
  cut-above : (y : Element) (a b : Heap k) → Has y → Sound k e (r - (r - size e)) a → Sound k e (r - size e) b
      → ((f : Element → Bool) → many f k a + many f k b + hit (f y) ≡ many f k h.1 + many f k h.2) → Shrunk (suc k) (suc e) r y h (h.0, a, b)
  unfolding many
  cut-above y a b hy p q sum = record { sound = (s.0, omega (arith, sum (under (key h.0)), s.1), p, q); has = hy; sum = λ f. omega (arith, sum f) }

  module _ (room : r < size (suc e)) (il : (i : ℕ) → i < size e → Sound k e (suc i) h.1 → Shrunk k e i (at k e i h.1) h.1 (cut k e i h.1))
      (ir : (i : ℕ) → i < size e → Sound k e (suc i) h.2 → Shrunk k e i (at k e i h.2) h.2 (cut k e i h.2)) where
    cut_down : (b : Bool) → leb (size e) r ≡ b
        → Shrunk (suc k) (suc e) r (at k e (cond b (r - size e) r) (pick (side_if b) h.1 h.2)) h
        (h.0, pick (side_if b) (cut k e (cond b (r - size e) r) h.1) h.1, pick (side_if b) h.2 (cut k e (cond b (r - size e) r) h.2))
    unfolding size
    cut_down true t =
        let l : size e ≤ r = leb-true (size e) r t in
        let g = ir (r - size e) (omega (arith, l, room)) (subst (λ (i : ℕ). Sound k e i h.2) (omega (arith, l)) s.3) in
        cut-above (at k e (r - size e) h.2) h.1 (cut k e (r - size e) h.2) g.has (subst (λ (i : ℕ). Sound k e i h.1) (omega (arith, l)) s.2) g.sound
        (λ f. omega (arith, g.sum f))
    cut_down false t =
        let l : r < size e = leb-false (size e) r t in
        let g = il r l (subst (λ (i : ℕ). Sound k e i h.1) (omega (arith, l)) s.2) in
        cut-above (at k e r h.1) (cut k e r h.1) h.2 g.has
        (subst (λ (i : ℕ). Sound k e i (cut k e r h.1)) (omega (arith, l)) g.sound) (subst (λ (i : ℕ). Sound k e i h.2) (omega (arith, l)) s.3)
        (λ f. omega (arith, g.sum f))

pub cuts : (k d r : ℕ) (h : Heap k) → d < k → r < size d → Sound k d (suc r) h → Shrunk k d r (at k d r h) h (cut k d r h)
unfolding at cut many size turn_of rest_of
cuts zero d r h p q s = absurd (not-suc-le-zero p)
cuts (suc k) zero zero h p q s = record { sound = (refl, s.2, s.3); has = s.1; sum = λ f. omega (arith, hit-blank f, hit-has f h.0 s.1) }
cuts (suc k) zero (suc r) h p q s = absurd (omega arith)
cuts (suc k) (suc e) r h p q s =
    cut_down k e r h s q (λ i l t. cuts k e i h.1 (omega arith) l t) (λ i l t. cuts k e i h.2 (omega arith) l t) (leb (size e) r) refl
