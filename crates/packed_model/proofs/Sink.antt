-- A sink puts x in the place of the top element, and keeps the heap packed and in order.
use Rattle.laws.specs.Prelude.{Bool, Element, ◌&&◌, ◌+◌, ◌-◌, ◌<◌, ◌||◌, ◌∙◌, ◌≡◌, ◌≤◌, arith, blank, false, false≢true, key, ltb, ltb-false, ltb-true, not, refl, subst, suc, sym, true, untagged, zero, ℕ}
use Rattle.promise.specs.Prelude.{hit}
use Rattle.packed_model.specs.Node.{size, Side, lhs, rhs, pick, side_if, lower_side, lifts, none, sink, Stepped, sink_by, step, to_left, to_right}
use Rattle.packed_model.specs.Heap.{under, Heap, top, run, many, Has, Sound}
use Rattle.packed_model.proofs.Tests.{not-under, hit-has}
use Rattle.packed_model.proofs.Heap.{many-under, run_none, none-held}

pub no-blank : Has blank → ⊥
unfolding blank untagged
no-blank h = false≢true (sym h)

pub no-empty : (e : Element) → e ≡ blank → Has e → ⊥
no-empty e p h = no-blank (subst Has p h)

-- ---- the top of a packed heap: none is lower; and without it there is nothing
pub top-none : (k d r : ℕ) (h : Heap k) → Sound k d r h → untagged (top k h) ≡ true → (f : Element → Bool) → many f k h ≡ 0
unfolding many top
top-none zero d r h s u f = refl
top-none (suc k) zero zero h s u f = none-held f (suc k) h s
top-none (suc k) zero (suc r) h s u f = absurd (false≢true (sym s.1 ∙ u))
top-none (suc k) (suc e) r h s u f = absurd (false≢true (sym s.0 ∙ u))

pub top_least : (k d r : ℕ) (h : Heap k) → Sound k d r h → Has (top k h) → many (under (key (top k h))) k h ≡ 0
unfolding many top
top_least zero d r h s u = refl
top_least (suc k) zero zero h s u = absurd (no-empty h.0 s.0 u)
top_least (suc k) zero (suc r) h s u =
    let f : Element → Bool = under (key h.0) in
    omega (arith, hit-has f h.0 u, not-under (key h.0) h.0 (omega arith), none-held f k h.1 s.2, none-held f k h.2 s.3)
top_least (suc k) (suc e) r h s u =
    let f : Element → Bool = under (key h.0) in
    omega (arith, hit-has f h.0 u, not-under (key h.0) h.0 (omega arith), s.1)

-- what is no higher than the top, where there is one, may stand above the heap
pub over : (k d r : ℕ) (h : Heap k) (n : ℕ) → Sound k d r h → (Has (top k h) → n ≤ key (top k h)) → many (under n) k h ≡ 0
over k d r h n s p = go (untagged (top k h)) refl
  where
    go : (b : Bool) → untagged (top k h) ≡ b → many (under n) k h ≡ 0
    go true u = top-none k d r h s u (under n)
    go false u = omega (arith, many-under n (key (top k h)) (p u) k h, top_least k d r h s u)

-- ---- a position that has an element: its two heaps, and what may stand there instead
pub record Kids (k d r : ℕ) (h : Heap (suc k)) : Type 0 where
  pub ld : ℕ
  pub lr : ℕ
  pub rd : ℕ
  pub rr : ℕ
  pub left : Sound k ld lr h.1
  pub right : Sound k rd rr h.2
  pub back : (y : Element) (a b : Heap k) → Has y → many (under (key y)) k a + many (under (key y)) k b ≡ 0 → Sound k ld lr a → Sound k rd rr b → Sound (suc k) d r (y, a, b)

pub kids : (k d r : ℕ) (h : Heap (suc k)) → Sound (suc k) d r h → Has h.0 → Kids k d r h
kids k zero zero h s u = absurd (no-empty h.0 s.0 u)
kids k zero (suc r) h s u = record { ld = 0; lr = 0; rd = 0; rr = 0; left = s.2; right = s.3; back = λ y a b hy o p q. (s.0, hy, p, q) }
kids k (suc e) r h s u =
    record { ld = e; lr = r - (r - size e); rd = e; rr = r - size e; left = s.2; right = s.3; back = λ y a b hy o p q. (hy, o, p, q) }

-- ---- the lower child
pub side-told : lhs ≡ rhs → ⊥
side-told e = subst (λ (s : Side). go s) e tt
  where
    go : Side → Type 0
    go lhs = Unit {0}
    go rhs = ⊥

pub lower-left : (a b : Element) → lower_side a b ≡ lhs → Has b → Has a × (key a ≤ key b)
unfolding lower_side
lower-left a b p hb = go (untagged b) refl (untagged a) refl (ltb (key b) (key a)) refl p
  where
    go : (u : Bool) → untagged b ≡ u → (v : Bool) → untagged a ≡ v → (w : Bool) → ltb (key b) (key a) ≡ w → side_if (not u && (v || w)) ≡ lhs → Has a × (key a ≤ key b)
    go true x v y w z e = absurd (false≢true (sym hb ∙ x))
    go false x true y w z e = absurd (side-told (sym e))
    go false x false y true z e = absurd (side-told (sym e))
    go false x false y false z e = (y, ltb-false (key b) (key a) z)

pub lower-right : (a b : Element) → lower_side a b ≡ rhs → Has b × (Has a → key b ≤ key a)
unfolding lower_side
lower-right a b p = go (untagged b) refl (untagged a) refl (ltb (key b) (key a)) refl p
  where
    go : (u : Bool) → untagged b ≡ u → (v : Bool) → untagged a ≡ v → (w : Bool) → ltb (key b) (key a) ≡ w → side_if (not u && (v || w)) ≡ rhs → Has b × (Has a → key b ≤ key a)
    go true x v y w z e = absurd (side-told e)
    go false x true y w z e = (x, λ ha. absurd (false≢true (sym ha ∙ y)))
    go false x false y true z e = (x, λ ha. omega (arith, ltb-true (key b) (key a) z))
    go false x false y false z e = absurd (side-told e)

pub lifts-yes : (x c : Element) → lifts x c ≡ true → Has c × (key c < key x)
unfolding lifts
lifts-yes x c p = go (untagged c) refl (ltb (key c) (key x)) refl p
  where
    go : (u : Bool) → untagged c ≡ u → (v : Bool) → ltb (key c) (key x) ≡ v → (not u && v) ≡ true → Has c × (key c < key x)
    go true y v z e = absurd (false≢true e)
    go false y true z e = (y, ltb-true (key c) (key x) z)
    go false y false z e = absurd (false≢true e)

pub lifts-no : (x c : Element) → lifts x c ≡ false → Has c → key x ≤ key c
unfolding lifts
lifts-no x c p hc = go (untagged c) refl (ltb (key c) (key x)) refl p
  where
    go : (u : Bool) → untagged c ≡ u → (v : Bool) → ltb (key c) (key x) ≡ v → (not u && v) ≡ false → key x ≤ key c
    go true y v z e = absurd (false≢true (sym hc ∙ y))
    go false y true z e = absurd (false≢true (sym e))
    go false y false z e = ltb-false (key c) (key x) z

-- ---- the sink
pub record Swapped (k d r : ℕ) (x : Element) (h g : Heap k) : Type 0 where
  pub sound : Sound k d r g
  pub sum : (f : Element → Bool) → many f k g + hit (f (top k h)) ≡ many f k h + hit (f x)

module _ (k d r : ℕ) (x : Element) (h : Heap (suc k)) (hx : Has x) (s : Sound (suc k) d r h) (u : Has h.0) (ks : Kids k d r h) where
  abbrev a : Element
  a = top k h.1

  abbrev b : Element
  b = top k h.2

  abbrev after : Stepped → Heap (suc k)
  after v = (v.slot, run k (to_left v) h.1, run k (to_right v) h.2)

  -- x stays
  stays : (Has a → key x ≤ key a) → (Has b → key x ≤ key b) → Swapped (suc k) d r x h (x, run k none h.1, run k none h.2)
  unfolding many top
  stays p q =
      rw (run_none k h.1, run_none k h.2)
      (record {
        sound = ks.back x h.1 h.2 hx
            (omega (arith, over k ks.ld ks.lr h.1 (key x) ks.left p, over k ks.rd ks.rr h.2 (key x) ks.right q)) ks.left ks.right;
        sum = λ f. omega (arith, hit-has f x hx, hit-has f h.0 u);
      })

  module _ (il : Has a → Swapped k ks.ld ks.lr x h.1 (run k (sink x) h.1)) (ir : Has b → Swapped k ks.rd ks.rr x h.2 (run k (sink x) h.2)) where
    from-left : Has a → key a < key x → (Has b → key a ≤ key b) → Swapped (suc k) d r x h (a, run k (sink x) h.1, run k none h.2)
    unfolding many top
    from-left ha l q =
        let g = il ha in
        rw (run_none k h.2)
        (record {
          sound = ks.back a (run k (sink x) h.1) h.2 ha
              (omega (
                arith,
                g.sum (under (key a)),
                not-under (key a) x (omega arith),
                over k ks.ld ks.lr h.1 (key a) ks.left (λ z. omega arith),
                over k ks.rd ks.rr h.2 (key a) ks.right q,
              )) g.sound ks.right;
          sum = λ f. omega (arith, g.sum f, hit-has f a ha, hit-has f h.0 u);
        })

    from-right : Has b → key b < key x → (Has a → key b ≤ key a) → Swapped (suc k) d r x h (b, run k none h.1, run k (sink x) h.2)
    unfolding many top
    from-right hb l q =
        let g = ir hb in
        rw (run_none k h.1)
        (record {
          sound = ks.back b h.1 (run k (sink x) h.2) hb
              (omega (
                arith,
                g.sum (under (key b)),
                not-under (key b) x (omega arith),
                over k ks.rd ks.rr h.2 (key b) ks.right (λ z. omega arith),
                over k ks.ld ks.lr h.1 (key b) ks.left q,
              )) ks.left g.sound;
          sum = λ f. omega (arith, g.sum f, hit-has f b hb, hit-has f h.0 u);
        })

    sink-down : (sd : Side) → lower_side a b ≡ sd → (t : Bool) → lifts x (pick sd a b) ≡ t → Swapped (suc k) d r x h (after (sink_by t sd x a b))
    unfolding sink_by
    sink-down lhs p true q = let y = lifts-yes x a q in from-left y.0 y.1 (λ hb. (lower-left a b p hb).1)
    sink-down rhs p true q = let y = lifts-yes x b q in from-right y.0 y.1 (λ ha. (lower-right a b p).1 ha)
    sink-down lhs p false q = stays (lifts-no x a q) (λ hb. let z = lower-left a b p hb in omega (arith, z.1, lifts-no x a q z.0))
    sink-down rhs p false q = let z = lower-right a b p in stays (λ ha. omega (arith, z.1 ha, lifts-no x b q z.0)) (lifts-no x b q)

pub sinks : (k d r : ℕ) (x : Element) (h : Heap k) → Has x → Has (top k h) → Sound k d r h → Swapped k d r x h (run k (sink x) h)
unfolding run step top
sinks zero d r x h hx u s = absurd (no-blank u)
sinks (suc k) d r x h hx u s =
    let ks : Kids k d r h = kids k d r h s u in
    sink-down k d r x h hx s u ks (λ ha. sinks k ks.ld ks.lr x h.1 hx ha ks.left) (λ hb. sinks k ks.rd ks.rr x h.2 hx hb ks.right)
    (lower_side (top k h.1) (top k h.2)) refl (lifts x (pick (lower_side (top k h.1) (top k h.2)) (top k h.1) (top k h.2))) refl
