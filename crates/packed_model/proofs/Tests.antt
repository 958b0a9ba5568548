-- Tests on elements, and counting in a slot.
use Rattle.laws.specs.Prelude.{Bool, Element, ◌+◌, ◌<◌, ◌≡◌, ◌≤◌, ap, arith, blank, cond, false, keep, key, le-ltb, lt-ltb, ltb, ltb-false, ltb-true, pass, refl, suc, true, untagged, zero, ℕ}
use Rattle.promise.specs.Prelude.{hit}
use Rattle.packed_model.specs.Node.{size}
use Rattle.packed_model.specs.Heap.{Has, hit_in, under}

pub hit-le : (b : Bool) → hit b ≤ 1
hit-le true = omega arith
hit-le false = omega arith

pub not-under : (r : ℕ) (e : Element) → r ≤ key e → hit (under r e) ≡ 0
not-under r e h = ap hit (le-ltb (key e) r h)

pub under-mono : (r q : ℕ) (e : Element) → r ≤ q → hit (under r e) ≤ hit (under q e)
under-mono r q e h = go (ltb (key e) r) refl
  where
    go : (b : Bool) → ltb (key e) r ≡ b → hit b ≤ hit (under q e)
    go true p = rw (lt-ltb (key e) q (omega (arith, ltb-true (key e) r p))) (omega arith)
    go false p = omega arith

-- a slot that has an element, and the empty one
pub hit-has : (f : Element → Bool) (e : Element) → Has e → hit_in f e ≡ hit (f e)
unfolding hit_in
hit-has f e p = rw p refl

pub hit-blank : (f : Element → Bool) → hit_in f blank ≡ 0
unfolding hit_in blank untagged
hit-blank f = refl

pub hit_in-le : (f g : Element → Bool) → ((e : Element) → hit (f e) ≤ hit (g e)) → (e : Element) → hit_in f e ≤ hit_in g e
unfolding hit_in
hit_in-le f g h e = go (untagged e)
  where
    go : (b : Bool) → cond b 0 (hit (f e)) ≤ cond b 0 (hit (g e))
    go true = omega arith
    go false = h e

pub size-pos : (d : ℕ) → 0 < size d
unfolding size
size-pos zero = omega arith
size-pos (suc d) = omega (arith, size-pos d)

-- ---- of the two elements of a put, one stays and one goes on
pub keep-pass : (f : Element → Bool) (x e : Element) → hit (f (keep x e)) + hit (f (pass x e)) ≡ hit (f x) + hit (f e)
unfolding keep pass
keep-pass f x e = go (ltb (key x) (key e))
  where
    go : (b : Bool) → hit (f (cond b x e)) + hit (f (cond b e x)) ≡ hit (f x) + hit (f e)
    go true = refl
    go false = omega arith

pub keep-le : (x e : Element) → (key (keep x e) ≤ key e) × (key (keep x e) ≤ key (pass x e))
unfolding keep pass
keep-le x e = go (ltb (key x) (key e)) refl
  where
    go : (b : Bool) → ltb (key x) (key e) ≡ b → (key (cond b x e) ≤ key e) × (key (cond b x e) ≤ key (cond b e x))
    go true p = (omega (arith, ltb-true (key x) (key e) p), omega (arith, ltb-true (key x) (key e) p))
    go false p = (omega arith, omega (arith, ltb-false (key x) (key e) p))

pub keep-has : (x e : Element) → Has x → Has e → Has (keep x e) × Has (pass x e)
unfolding keep pass
keep-has x e p q = go (ltb (key x) (key e))
  where
    go : (b : Bool) → Has (cond b x e) × Has (cond b e x)
    go true = (p, q)
    go false = (q, p)
