-- The definitions say what 02's own words say.
use Rattle.laws.specs.Prelude.{Bool, Element, List, Request, [], ◌&&◌, ◌+◌, ◌<◌, ◌||◌, ◌∷◌, ◌≡◌, ◌≤◌, ap, arith, cond, eqb, eqb-false, eqb-true, false, get_or, inl, inr, key, le_of_suc-le-suc, length, ltb, ltb-false, ltb-true, not, not-suc-le-zero, precedes, refl, subst, suc, sym, true, zero, ℕ}
use native.Mathlib.Nat.{le_refl}
use Rattle.promise.proofs.Calls.{last-comes}
use Rattle.promise.specs.Prelude.{always, hit}
use Rattle.strip.proofs.Order.{Before, before-says, UpTo, upto-says}
use Rattle.cluster_model.specs.Prelude.{Comes, Fewer, IsFree, IsHighest, IsLowest, Lower, Node, Place, Puts, Side, Swaps, Takes, above, ahead, begin, clears, elem_of, ends, exchanges, fewer, fill_from, fills, finish, finished, free, free_here, gap, goes, has, high, high_elem, high_here, inside, keep, lhs, low, low_elem, low_here, lower_side, nothing_below, op_of, pass, passes, pick, place_at, put, put_by, rhs, rule, seek, side_if, sink, stays, step_of, store, swap, swap_by, take, take_by, trial_by, trial_from}
use Rattle.cluster_model.proofs.Places.{above_of, gap-has, high_is, inside-most, low-is, place-hit, set_twice, some-ahead}

-- ---- places
pub free-is : (ps : List Place) → free ps < length ps → IsFree ps (free ps)
unfolding free seek free_here place_at
free-is [] h = absurd (not-suc-le-zero h)
free-is (gap ∷ ps) h = record { empty = refl; first = λ i l. absurd (not-suc-le-zero l) }
free-is (has e ∷ ps) h = let ih = free-is ps (le_of_suc-le-suc h) in record { empty = ih.empty; first = go ih.first }
  where
    go : ((i : ℕ) → i < free ps → place_at ps i ≡ gap → ⊥) → (i : ℕ) → i < suc (free ps) → place_at (has e ∷ ps) i ≡ gap → ⊥
    go ih zero l p = gap-has e (sym p)
    go ih (suc i) l p = ih i (le_of_suc-le-suc l) p

same-has : (x y : Element) → has x ≡ has y → x ≡ y
same-has x y p = ap elem_of p

-- none of the places leaves before e
none_ahead : (ps : List Place) (e : Element) → inside (ahead e) ps ≡ 0 → (i : ℕ) (x : Element) → place_at ps i ≡ has x → UpTo e x
none_ahead ps e z i x p = go (precedes x e) refl
  where
    go : (b : Bool) → precedes x e ≡ b → precedes x e ≡ false
    go true q = absurd (not-suc-le-zero {n = 0} (omega (arith, z, place-hit (ahead e) ps i x p, ap hit q)))
    go false q = q

-- where some leave before e, the lowest does
some-all : (e : Element) (ps : List Place) → inside (ahead e) ps ≤ inside always ps
some-all e ps = inside-most (ahead e) ps

some_first : (e : Element) (ps : List Place) → 0 < inside (ahead e) ps → Before (low_elem ps) e
some_first e ps h = some-ahead e ps (low_elem ps) h (low-is ps (omega (arith, some-all e ps))).first

above-all : (e : Element) (ps : List Place) → inside (above (key e)) ps ≤ inside always ps
above-all e ps = inside-most (above (key e)) ps

none_above : (e : Element) (ps : List Place) → inside (above (key e)) ps ≡ 0 → (i : ℕ) (x : Element) → place_at ps i ≡ has x → key x < key e
none_above e ps z i x p = go (ltb (key x) (key e)) refl
  where
    go : (b : Bool) → ltb (key x) (key e) ≡ b → key x < key e
    go true q = ltb-true (key x) (key e) q
    go false q = absurd (not-suc-le-zero {n = 0} (omega (arith, z, place-hit (above (key e)) ps i x p, above_of (key e) x (ltb-false (key x) (key e) q))))

-- before the lowest all leave later
low_first : (ps : List Place) (i : ℕ) (x : Element) → i < low ps → place_at ps i ≡ has x → 0 < inside always ps → Before (low_elem ps) x
unfolding low_elem low seek low_here place_at inside
low_first [] i x l p h = absurd (not-suc-le-zero h)
low_first (gap ∷ ps) zero x l p h = absurd (gap-has x p)
low_first (gap ∷ ps) (suc i) x l p h = low_first ps i x (le_of_suc-le-suc l) p (omega arith)
low_first (has e ∷ ps) i x l p h = go (λ i l p h. low_first ps i x l p h) (eqb (inside (ahead e) ps) 0) refl i l p
  where
    go : ((i : ℕ) → i < low ps → place_at ps i ≡ has x → 0 < inside always ps → Before (low_elem ps) x) → (b : Bool) → eqb (inside (ahead e) ps) 0 ≡ b → (i : ℕ) → i < cond b 0 (suc (low ps)) → get_or (has e ∷ ps) i gap ≡ has x
        → Before (elem_of (get_or (has e ∷ ps) (cond b 0 (suc (low ps))) gap)) x
    go ih true q i l p = absurd (not-suc-le-zero l)
    go ih false q zero l p =
        subst (λ (u : Element). Before (low_elem ps) u) (same-has e x p) (some_first e ps (omega (arith, eqb-false (inside (ahead e) ps) 0 q)))
    go ih false q (suc i) l p = ih i (le_of_suc-le-suc l) p (omega (arith, eqb-false (inside (ahead e) ps) 0 q, some-all e ps))

pub lowest-is : (ps : List Place) → 0 < inside always ps → IsLowest ps (low ps) (low_elem ps)
lowest-is ps h =
    let i = low-is ps h in
    record {
      stands = i.here;
      least = λ j x p. upto-says (low_elem ps) x (none_ahead ps (low_elem ps) i.first j x p);
      first = λ j x l p. before-says (low_elem ps) x (low_first ps j x l p h);
    }

-- after the highest all are lower
high-last : (ps : List Place) (i : ℕ) (x : Element) → high ps < i → place_at ps i ≡ has x → 0 < inside always ps → key x < key (high_elem ps)
unfolding high_elem high seek high_here place_at inside
high-last [] i x l p h = absurd (not-suc-le-zero h)
high-last (gap ∷ ps) zero x l p h = absurd (gap-has x p)
high-last (gap ∷ ps) (suc i) x l p h = high-last ps i x (le_of_suc-le-suc l) p (omega arith)
high-last (has e ∷ ps) i x l p h = go (λ i l p h. high-last ps i x l p h) (eqb (inside (above (key e)) ps) 0) refl i l p
  where
    go : ((i : ℕ) → high ps < i → place_at ps i ≡ has x → 0 < inside always ps → key x < key (high_elem ps)) → (b : Bool) → eqb (inside (above (key e)) ps) 0 ≡ b → (i : ℕ) → cond b 0 (suc (high ps)) < i → get_or (has e ∷ ps) i gap ≡ has x
        → key x < key (elem_of (get_or (has e ∷ ps) (cond b 0 (suc (high ps))) gap))
    go ih b q zero l p = absurd (not-suc-le-zero l)
    go ih true q (suc i) l p = none_above e ps (eqb-true (inside (above (key e)) ps) 0 q) i x p
    go ih false q (suc i) l p = ih i (le_of_suc-le-suc l) p (omega (arith, eqb-false (inside (above (key e)) ps) 0 q, above-all e ps))

pub highest-is : (ps : List Place) → 0 < inside always ps → IsHighest ps (high ps) (high_elem ps)
unfolding key
highest-is ps h =
    let i = high_is ps h in
    record {
      stands = i.here;
      most = λ j x p. i.most (key x) (omega (arith, place-hit (above (key x)) ps j x p, above_of (key x) x (le_refl (key x))));
      last = λ j x l p. high-last ps j x l p h;
    }

-- ---- children
pub fewer-is : (n : Node) → Fewer n (fewer n)
unfolding fewer
fewer-is n = go (ltb n.right n.left) refl
  where
    go : (b : Bool) → ltb n.right n.left ≡ b → Fewer n (side_if b)
    go true e = ltb-true n.right n.left e
    go false e = ltb-false n.right n.left e

pub lower-is : (n : Node) (a b : Element) → 0 < n.left + n.right → Lower n a b (lower_side n a b)
unfolding lower_side key
lower-is n a b h = go (eqb n.right 0) refl (eqb n.left 0) refl (ltb b.rank.0 a.rank.0) refl
  where
    go : (r : Bool) → eqb n.right 0 ≡ r → (l : Bool) → eqb n.left 0 ≡ l → (t : Bool) → ltb b.rank.0 a.rank.0 ≡ t → Lower n a b (side_if (not r && (l || t)))
    go true p l q t u = (omega (arith, eqb-true n.right 0 p), inl (eqb-true n.right 0 p))
    go false p true q t u = (omega (arith, eqb-false n.right 0 p), inl (eqb-true n.left 0 q))
    go false p false q true u = (omega (arith, eqb-false n.right 0 p), inr (ltb-true b.rank.0 a.rank.0 u))
    go false p false q false u = (omega (arith, eqb-false n.left 0 q), inr (ltb-false b.rank.0 a.rank.0 u))

-- ---- the steps
store-twice : (n : Node) (j : ℕ) (p q : Place) → store j q (store j p n) ≡ store j q n
store-twice n j p q = ap (λ (ps : List Place). record { left = n.left; right = n.right; places = ps }) (set_twice n.places j p q)

store-sink : (s : Side) (n : Node) (j : ℕ) (p q : Place) → store j q (sink s (store j p n)) ≡ store j q (sink s n)
store-sink lhs n j p q = store-twice (sink lhs n) j p q
store-sink rhs n j p q = store-twice (sink rhs n) j p q

pub puts-is : (x : Element) (n : Node) (a b : Element) → Puts x n (step_of (put x) n a b)
unfolding begin put_by finish keep pass key
puts-is x n a b = go (ltb (free n.places) (length n.places)) refl (ltb x.rank.0 (high_elem n.places).rank.0) refl
  where
    e : Element
    e = high_elem n.places

    go : (t : Bool) → ltb (free n.places) (length n.places) ≡ t → (u : Bool) → ltb x.rank.0 e.rank.0 ≡ u
        → Puts x n (finish (put_by t x n).note (put_by t x n).node a b)
    go true p u q = ends (ltb-true (free n.places) (length n.places) p) lhs
    go false p true q = rw q (exchanges (ltb-false (free n.places) (length n.places) p) (ltb-true x.rank.0 e.rank.0 q))
    go false p false q = rw q (passes (ltb-false (free n.places) (length n.places) p) (ltb-false x.rank.0 e.rank.0 q))

pub takes-is : (n : Node) (a b : Element) → Takes n a b (step_of take n a b)
unfolding begin take_by finish fill_from lower_side nothing_below
takes-is n a b = go (eqb (n.left + n.right) 0) refl
  where
    go : (t : Bool) → eqb (n.left + n.right) 0 ≡ t → Takes n a b (finish (take_by t (low n.places) n).note (take_by t (low n.places) n).node a b)
    go true p = clears (eqb-true (n.left + n.right) 0 p) lhs
    go false p =
        subst (λ (m : Node). Takes n a b (finished m (lower_side n a b) take))
        (sym (store-sink (lower_side n a b) n (low n.places) gap (has (pick (lower_side n a b) a b)))) (fills (omega (arith, eqb-false (n.left + n.right) 0 p)))

pub swaps-is : (x : Element) (n : Node) (a b : Element) → Swaps x n a b (step_of (swap x) n a b)
unfolding begin swap_by finish trial_from trial_by lower_side nothing_below key
swaps-is x n a b = go (eqb (n.left + n.right) 0) refl
  where
    y : Element
    y = pick (lower_side n a b) a b

    tried : 0 < n.left + n.right → (t : Bool) → ltb y.rank.0 x.rank.0 ≡ t
        → Swaps x n a b (trial_by t (lower_side n a b) (low n.places) x (store (low n.places) (has x) n) a b)
    tried h true q =
        subst (λ (m : Node). Swaps x n a b (finished m (lower_side n a b) (swap x))) (sym (store-twice n (low n.places) (has x) (has y))) (goes h (ltb-true y.rank.0 x.rank.0 q))
    tried h false q = stays (inr (ltb-false y.rank.0 x.rank.0 q)) (lower_side n a b)

    go : (t : Bool) → eqb (n.left + n.right) 0 ≡ t → Swaps x n a b (finish (swap_by t (low n.places) x n).note (swap_by t (low n.places) x n).node a b)
    go true p = stays (inl (eqb-true (n.left + n.right) 0 p)) lhs
    go false p = tried (omega (arith, eqb-false (n.left + n.right) 0 p)) (ltb y.rank.0 x.rank.0) refl

-- ---- the calls
pub comes : (c : ℕ) (r : Request) (h : ℕ) (e : Element) → Comes c h e r (rule c r h e)
unfolding rule
comes = last-comes op_of
