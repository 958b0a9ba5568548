-- The main lemmas: a put, a sink and taking away the last entry keep the heap packed and in order, and change what it holds as they say.
use Rattle.laws.specs.Prelude.{Bool, Element, ◌+◌, ◌-◌, ◌<◌, ◌≡◌, ◌≤◌, arith, cond, false, keep, key, leb, leb-false, leb-true, not-suc-le-zero, pass, refl, subst, suc, true, zero, ℕ}
use Rattle.promise.specs.Prelude.{hit}
use Rattle.packed_model.specs.Node.{size, pick, side_if, turn_of, rest_of, none, put, step}
use Rattle.packed_model.specs.Heap.{under, Heap, run, many, Has, Sound}
use Rattle.packed_model.proofs.Tests.{not-under, under-mono, hit-has, hit-blank, hit_in-le, keep-pass, keep-le, keep-has}

pub many-le : (f g : Element → Bool) → ((e : Element) → hit (f e) ≤ hit (g e)) → (k : ℕ) (h : Heap k) → many f k h ≤ many g k h
unfolding many
many-le f g p zero h = omega arith
many-le f g p (suc k) h = omega (arith, hit_in-le f g p h.0, many-le f g p k h.1, many-le f g p k h.2)

pub many-under : (r q : ℕ) → r ≤ q → (k : ℕ) (h : Heap k) → many (under r) k h ≤ many (under q) k h
many-under r q l k h = many-le (under r) (under q) (λ e. under-mono r q e l) k h

-- nothing to do
pub run_none : (k : ℕ) (h : Heap k) → run k none h ≡ h
unfolding run step
run_none zero h = refl
run_none (suc k) h =
    let p = run_none k h.1 in
    let q = run_none k h.2 in
    λ i. (h.0, p i, q i)

-- an empty heap
pub none-held : (f : Element → Bool) (k : ℕ) (h : Heap k) → Sound k 0 0 h → many f k h ≡ 0
unfolding many
none-held f zero h s = refl
none-held f (suc k) h s = rw s.0 (omega (arith, hit-blank f, none-held f k h.1 s.1, none-held f k h.2 s.2))

-- ---- put towards the next position: of the next level r slots are taken, and now one more
pub record Grown (k d r : ℕ) (x : Element) (h g : Heap k) : Type 0 where
  pub sound : Sound k d r g
  pub sum : (f : Element → Bool) → many f k g ≡ many f k h + hit (f x)

-- at a position above it: one of the two elements stays, the other is in one of the heaps below
module _ (k e r : ℕ) (x : Element) (h : Heap (suc k)) (hx : Has x) (s : Sound (suc k) (suc e) r h) where
  put-above : (a b : Heap k) → Sound k e (suc r - (suc r - size e)) a → Sound k e (suc r - size e) b
      → ((f : Element → Bool) → many f k a + many f k b ≡ many f k h.1 + many f k h.2 + hit (f (pass x h.0)))
      → Grown (suc k) (suc e) (suc r) x h (keep x h.0, a, b)
  unfolding many
  put-above a b p q sum =
      let y : Element = keep x h.0 in
      let z : Element = pass x h.0 in
      let has = keep-has x h.0 hx s.0 in
      record {
        sound = (
          has.0,
          omega (
            arith,
            sum (under (key y)),
            s.1,
            not-under (key y) z (keep-le x h.0).1,
            many-under (key y) (key h.0) (keep-le x h.0).0 k h.1,
            many-under (key y) (key h.0) (keep-le x h.0).0 k h.2,
          ),
          p,
          q,
        );
        sum = λ f. omega (arith, sum f, keep-pass f x h.0, hit-has f y has.0, hit-has f h.0 s.0);
      }

  module _ (room : r < size (suc e))
      (il : (i : ℕ) → i < size e → (y : Element) → Has y → Sound k e i h.1 → Grown k e (suc i) y h.1 (run k (put e i y) h.1))
      (ir : (i : ℕ) → i < size e → (y : Element) → Has y → Sound k e i h.2 → Grown k e (suc i) y h.2 (run k (put e i y) h.2)) where
    put-down : (b : Bool) → leb (size e) r ≡ b
        → Grown (suc k) (suc e) (suc r) x h (keep x h.0, run k (pick (side_if b) (put e (cond b (r - size e) r) (pass x h.0)) none) h.1, run k (pick (side_if b) none (put e (cond b (r - size e) r) (pass x h.0))) h.2)
    unfolding size
    put-down true t =
        let l : size e ≤ r = leb-true (size e) r t in
        let z : Element = pass x h.0 in
        let g = ir (r - size e) (omega (arith, l, room)) z (keep-has x h.0 hx s.0).1 s.3 in
        put-above (run k none h.1) (run k (put e (r - size e) z) h.2)
        (rw (run_none k h.1) (subst (λ (i : ℕ). Sound k e i h.1) (omega (arith, l)) s.2))
        (subst (λ (i : ℕ). Sound k e i (run k (put e (r - size e) z) h.2)) (omega (arith, l)) g.sound)
        (λ f. rw (run_none k h.1) (omega (arith, g.sum f)))
    put-down false t =
        let l : r < size e = leb-false (size e) r t in
        let z : Element = pass x h.0 in
        let g = il r l z (keep-has x h.0 hx s.0).1 (subst (λ (i : ℕ). Sound k e i h.1) (omega (arith, l)) s.2) in
        put-above (run k (put e r z) h.1) (run k none h.2)
        (subst (λ (i : ℕ). Sound k e i (run k (put e r z) h.1)) (omega (arith, l)) g.sound)
        (rw (run_none k h.2) (subst (λ (i : ℕ). Sound k e i h.2) (omega (arith, l)) s.3))
        (λ f. rw (run_none k h.2) (omega (arith, g.sum f)))

pub puts : (k d r : ℕ) (x : Element) (h : Heap k) → d < k → r < size d → Has x → Sound k d r h → Grown k d (suc r) x h (run k (put d r x) h)
unfolding run step many size turn_of rest_of
puts zero d r x h p q hx s = absurd (not-suc-le-zero p)
puts (suc k) zero zero x h p q hx s =
    rw (run_none k h.1, run_none k h.2)
    (record { sound = (refl, hx, s.1, s.2); sum = λ f. rw s.0 (omega (arith, hit-blank f, hit-has f x hx)) })
puts (suc k) zero (suc r) x h p q hx s = absurd (omega arith)
puts (suc k) (suc e) r x h p q hx s =
    put-down k e r x h hx s q (λ i l y hy t. puts k e i y h.1 (omega arith) l hy t) (λ i l y hy t. puts k e i y h.2 (omega arith) l hy t) (leb (size e) r) refl
