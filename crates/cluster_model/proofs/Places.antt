-- The laws of counting over places, and of the three choices of a place. What comes after goes by these laws alone.
use Rattle.laws.specs.Prelude.{Bool, Element, List, [], ◌+◌, ◌<◌, ◌∷◌, ◌≡◌, ◌≤◌, ap, arith, cond, eqb, eqb-false, eqb-true, false, get_or, get_or-set_other, get_or-set_same, key, le-ltb, le_of_suc-le-suc, leb, leb-false, leb-true, length, lt-ltb, ltb, ltb-false, ltb-true, not-suc-le-zero, precedes, refl, set, subst, suc, true, zero, ℕ}
use native.Mathlib.Nat.{le_of_lt}
use Rattle.promise.specs.Prelude.{always, hit}
use Rattle.strip.proofs.Order.{Before, before-not, before-upto, rank-before, UpTo, upto_before, upto-self}
use Rattle.cluster_model.specs.Prelude.{Place, above, ahead, elem_of, free, free_here, gap, has, high, high_elem, high_here, hit_at, inside, keep, low, low_elem, low_here, pass, place_at, seek, under}

pub not-lt : (a b : ℕ) → ¬ (b < a) → a ≤ b
not-lt a b h = omega arith

-- ---- tests
pub hit-le : (b : Bool) → hit b ≤ 1
hit-le true = omega arith
hit-le false = omega arith

pub not-under : (r : ℕ) (e : Element) → r ≤ key e → hit (under r e) ≡ 0
not-under r e h = ap hit (le-ltb (key e) r h)

pub is-under : (r : ℕ) (e : Element) → key e < r → hit (under r e) ≡ 1
is-under r e h = ap hit (lt-ltb (key e) r h)

pub under-mono : (r q : ℕ) (e : Element) → r ≤ q → hit (under r e) ≤ hit (under q e)
under-mono r q e h = go (ltb (key e) r) refl
  where
    go : (b : Bool) → ltb (key e) r ≡ b → hit b ≤ hit (under q e)
    go true p = rw (lt-ltb (key e) q (omega (arith, ltb-true (key e) r p))) (omega arith)
    go false p = omega arith

-- above or under
pub parted : (r : ℕ) (e : Element) → hit (above r e) + hit (under r e) ≡ 1
parted r e = go (ltb (key e) r) refl (leb r (key e)) refl
  where
    go : (b : Bool) → ltb (key e) r ≡ b → (c : Bool) → leb r (key e) ≡ c → hit c + hit b ≡ 1
    go true p true q = omega (arith, ltb-true (key e) r p, leb-true r (key e) q)
    go true p false q = refl
    go false p true q = refl
    go false p false q = omega (arith, ltb-false (key e) r p, leb-false r (key e) q)

pub is-above : (r : ℕ) (e : Element) → 0 < hit (above r e) → r ≤ key e
is-above r e h = go (leb r (key e)) refl h
  where
    go : (b : Bool) → leb r (key e) ≡ b → 0 < hit b → r ≤ key e
    go true p h = leb-true r (key e) p
    go false p h = omega arith

pub not-above : (r : ℕ) (e : Element) → key e < r → hit (above r e) ≡ 0
not-above r e h = omega (arith, parted r e, is-under r e h)

pub above_of : (r : ℕ) (e : Element) → r ≤ key e → hit (above r e) ≡ 1
above_of r e h = omega (arith, parted r e, not-under r e h)

-- ---- counting over places
hit_at-le : (f g : Element → Bool) → ((e : Element) → hit (f e) ≤ hit (g e)) → (p : Place) → hit_at f p ≤ hit_at g p
hit_at-le f g h gap = omega arith
hit_at-le f g h (has e) = h e

pub inside-le : (f g : Element → Bool) → ((e : Element) → hit (f e) ≤ hit (g e)) → (ps : List Place) → inside f ps ≤ inside g ps
unfolding inside
inside-le f g h [] = omega arith
inside-le f g h (p ∷ ps) = omega (arith, hit_at-le f g h p, inside-le f g h ps)

pub inside-most : (f : Element → Bool) (ps : List Place) → inside f ps ≤ inside always ps
inside-most f ps = inside-le f always (λ e. hit-le (f e)) ps

hit_at-one : (p : Place) → hit_at always p ≤ 1
hit_at-one gap = omega arith
hit_at-one (has e) = omega arith

pub inside-length : (ps : List Place) → inside always ps ≤ length ps
unfolding inside
inside-length [] = omega arith
inside-length (p ∷ ps) = omega (arith, hit_at-one p, inside-length ps)

pub inside_under : (r q : ℕ) → r ≤ q → (ps : List Place) → inside (under r) ps ≤ inside (under q) ps
inside_under r q h ps = inside-le (under r) (under q) (λ e. under-mono r q e h) ps

pub inside-parted : (r : ℕ) (ps : List Place) → inside (above r) ps + inside (under r) ps ≡ inside always ps
unfolding inside
inside-parted r [] = refl
inside-parted r (p ∷ ps) = omega (arith, one p, inside-parted r ps)
  where
    one : (p : Place) → hit_at (above r) p + hit_at (under r) p ≡ hit_at always p
    one gap = refl
    one (has e) = parted r e

pub inside-set : (f : Element → Bool) (ps : List Place) (j : ℕ) (p : Place) → j < length ps
    → inside f (set ps j p) + hit_at f (place_at ps j) ≡ inside f ps + hit_at f p
unfolding inside place_at
inside-set f [] j p h = absurd (not-suc-le-zero h)
inside-set f (q ∷ ps) zero p h = omega arith
inside-set f (q ∷ ps) (suc j) p h = omega (arith, inside-set f ps j p (le_of_suc-le-suc h))

-- the same, where what stood there is known
pub inside-put : (f : Element → Bool) (ps : List Place) (j : ℕ) (q p : Place) → j < length ps → place_at ps j ≡ q
    → inside f (set ps j p) + hit_at f q ≡ inside f ps + hit_at f p
inside-put f ps j q p h e = subst (λ (q : Place). inside f (set ps j p) + hit_at f q ≡ inside f ps + hit_at f p) e (inside-set f ps j p h)

pub gap-has : (e : Element) → gap ≡ has e → ⊥
gap-has e h = subst (λ (p : Place). go p) h tt
  where
    go : Place → Type 0
    go gap = Unit {0}
    go (has e) = ⊥

pub place_here : (ps : List Place) (j : ℕ) (e : Element) → place_at ps j ≡ has e → j < length ps
unfolding place_at
place_here [] j e h = absurd (gap-has e h)
place_here (p ∷ ps) zero e h = omega arith
place_here (p ∷ ps) (suc j) e h = omega (arith, place_here ps j e h)

-- an element in a place is counted
pub place-hit : (f : Element → Bool) (ps : List Place) (j : ℕ) (e : Element) → place_at ps j ≡ has e → hit (f e) ≤ inside f ps
place-hit f ps j e h = omega (arith, inside-put f ps j (has e) gap (place_here ps j e h) h)

pub place_same : (ps : List Place) (j : ℕ) (p : Place) → j < length ps → place_at (set ps j p) j ≡ p
unfolding place_at
place_same ps j p h = get_or-set_same ps j p gap h

pub place_other : (ps : List Place) (i j : ℕ) (p : Place) → (j ≡ i → ⊥) → place_at (set ps i p) j ≡ place_at ps j
unfolding place_at
place_other ps i j p h = get_or-set_other ps i j p gap h

-- what is stored over a place's own content changes nothing; two stores are the last
pub set_own : (ps : List Place) (j : ℕ) → set ps j (place_at ps j) ≡ ps
unfolding place_at
set_own [] j = refl
set_own (p ∷ ps) zero = refl
set_own (p ∷ ps) (suc j) = ap (λ (l : List Place). p ∷ l) (set_own ps j)

pub set_twice : (ps : List Place) (j : ℕ) (p q : Place) → set (set ps j p) j q ≡ set ps j q
set_twice [] j p q = refl
set_twice (a ∷ ps) zero p q = refl
set_twice (a ∷ ps) (suc j) p q = ap (λ (l : List Place). a ∷ l) (set_twice ps j p q)

-- ---- the first gap
pub free-found : (ps : List Place) → free ps < length ps → place_at ps (free ps) ≡ gap
unfolding free seek free_here place_at
free-found [] h = absurd (not-suc-le-zero h)
free-found (gap ∷ ps) h = refl
free-found (has e ∷ ps) h = free-found ps (le_of_suc-le-suc h)

pub no-free : (ps : List Place) → length ps ≤ free ps → inside always ps ≡ length ps
unfolding free seek free_here inside
no-free [] h = refl
no-free (gap ∷ ps) h = absurd (not-suc-le-zero h)
no-free (has e ∷ ps) h = omega (arith, no-free ps (le_of_suc-le-suc h))

-- ---- the lowest: none leaves before it, so none has a lower rank
pub record IsLow (ps : List Place) (j : ℕ) (e : Element) : Type 0 where
  pub here : place_at ps j ≡ has e
  pub first : inside (ahead e) ps ≡ 0

before-hit : (a b : Element) → Before a b → hit (ahead b a) ≡ 1
before-hit a b h = ap hit h

upto-hit : (a b : Element) → UpTo a b → hit (ahead a b) ≡ 0
upto-hit a b h = ap hit h

-- where e leaves no later than x, what leaves before e leaves before x
ahead-mono : (e x u : Element) → UpTo e x → hit (ahead e u) ≤ hit (ahead x u)
ahead-mono e x u h = go (precedes u e) refl
  where
    then : (b : Bool) → precedes u x ≡ b → Before u e → precedes u x ≡ true
    then true q p = q
    then false q p = absurd (before-not x e (upto_before x u e q p) h)

    go : (b : Bool) → precedes u e ≡ b → hit b ≤ hit (ahead x u)
    go true p = omega (arith, before-hit u x (then (precedes u x) refl p))
    go false p = omega arith

under-ahead : (e u : Element) → hit (under (key e) u) ≤ hit (ahead e u)
unfolding key
under-ahead e u = go (ltb u.rank.0 e.rank.0) refl
  where
    go : (b : Bool) → ltb u.rank.0 e.rank.0 ≡ b → hit b ≤ hit (ahead e u)
    go true p = omega (arith, before-hit u e (rank-before u e (ltb-true u.rank.0 e.rank.0 p)))
    go false p = omega arith

pub low-least : (ps : List Place) (j : ℕ) (e : Element) → IsLow ps j e → inside (under (key e)) ps ≡ 0
low-least ps j e i = omega (arith, i.first, inside-le (under (key e)) (ahead e) (under-ahead e) ps)

-- of those ahead of e none leaves later than e
pub some-ahead : (e : Element) (ps : List Place) (l : Element) → 0 < inside (ahead e) ps → inside (ahead l) ps ≡ 0 → Before l e
some-ahead e ps l h z = go (precedes l e) refl
  where
    go : (b : Bool) → precedes l e ≡ b → precedes l e ≡ true
    go true p = p
    go false p = absurd (not-suc-le-zero {n = 0} (omega (arith, h, z, inside-le (ahead e) (ahead l) (λ u. ahead-mono e l u p) ps)))

pub low-is : (ps : List Place) → 0 < inside always ps → IsLow ps (low ps) (low_elem ps)
unfolding low_elem low seek low_here place_at inside
low-is [] h = absurd (not-suc-le-zero h)
low-is (gap ∷ ps) h =
    let i = low-is ps (omega arith) in
    record { here = i.here; first = omega (arith, i.first) }
low-is (has e ∷ ps) h = go (eqb (inside (ahead e) ps) 0) refl (low-is ps)
  where
    go : (b : Bool) → eqb (inside (ahead e) ps) 0 ≡ b → (0 < inside always ps → IsLow ps (low ps) (low_elem ps))
        → IsLow (has e ∷ ps) (cond b 0 (suc (low ps))) (elem_of (get_or (has e ∷ ps) (cond b 0 (suc (low ps))) gap))
    go true p ih = record { here = refl; first = omega (arith, eqb-true (inside (ahead e) ps) 0 p, upto-hit e e (upto-self e)) }
    go false p ih =
        let some : 0 < inside (ahead e) ps = omega (arith, eqb-false (inside (ahead e) ps) 0 p) in
        let i = ih (omega (arith, inside-most (ahead e) ps)) in
        let l : Before (low_elem ps) e = some-ahead e ps (low_elem ps) some i.first in
        record { here = i.here; first = omega (arith, i.first, upto-hit (low_elem ps) e (before-upto (low_elem ps) e l)) }

-- ---- the highest
pub record IsHigh (ps : List Place) (j : ℕ) (e : Element) : Type 0 where
  pub here : place_at ps j ≡ has e
  pub most : (r : ℕ) → 0 < inside (above r) ps → r ≤ key e

above-mono : (r q : ℕ) (e : Element) → r ≤ q → hit (above q e) ≤ hit (above r e)
above-mono r q e h = omega (arith, parted r e, parted q e, under-mono r q e h)

pub inside-above : (r q : ℕ) → r ≤ q → (ps : List Place) → inside (above q) ps ≤ inside (above r) ps
inside-above r q h ps = inside-le (above q) (above r) (λ e. above-mono r q e h) ps

pub high_is : (ps : List Place) → 0 < inside always ps → IsHigh ps (high ps) (high_elem ps)
unfolding high_elem high seek high_here place_at inside
high_is [] h = absurd (not-suc-le-zero h)
high_is (gap ∷ ps) h =
    let i = high_is ps (omega arith) in
    record { here = i.here; most = λ r l. i.most r (omega arith) }
high_is (has e ∷ ps) h = go (eqb (inside (above (key e)) ps) 0) refl (high_is ps)
  where
    go : (b : Bool) → eqb (inside (above (key e)) ps) 0 ≡ b → (0 < inside always ps → IsHigh ps (high ps) (high_elem ps))
        → IsHigh (has e ∷ ps) (cond b 0 (suc (high ps))) (elem_of (get_or (has e ∷ ps) (cond b 0 (suc (high ps))) gap))
    go true p ih = record {
      here = refl;
      most = λ r l. not-lt r (key e) λ (g : key e < r). omega (arith, eqb-true (inside (above (key e)) ps) 0 p, not-above r e g, inside-above (key e) r (le_of_lt g) ps);
    }
    go false p ih =
        let some : 0 < inside (above (key e)) ps = omega (arith, eqb-false (inside (above (key e)) ps) 0 p) in
        let i = ih (omega (arith, inside-most (above (key e)) ps)) in
        let l : key e ≤ key (high_elem ps) = i.most (key e) some in
        record {
          here = i.here;
          most = λ r l'. not-lt r (key (high_elem ps)) λ (g : key (high_elem ps) < r). omega (arith, i.most r (omega (arith, not-above r e (omega arith))));
        }

-- ---- of the two elements of a put, one stays and one goes on
pub keep-pass : (f : Element → Bool) (x e : Element) → hit (f (keep x e)) + hit (f (pass x e)) ≡ hit (f x) + hit (f e)
unfolding keep pass
keep-pass f x e = go (ltb (key x) (key e))
  where
    go : (b : Bool) → hit (f (cond b x e)) + hit (f (cond b e x)) ≡ hit (f x) + hit (f e)
    go true = refl
    go false = omega arith

pub keep-le : (x e : Element) → (key (keep x e) ≤ key e) × (key e ≤ key (pass x e))
unfolding keep pass
keep-le x e = go (ltb (key x) (key e)) refl
  where
    go : (b : Bool) → ltb (key x) (key e) ≡ b → (key (cond b x e) ≤ key e) × (key e ≤ key (cond b e x))
    go true p = (omega (arith, ltb-true (key x) (key e) p), omega arith)
    go false p = (omega arith, omega (arith, ltb-false (key x) (key e) p))
