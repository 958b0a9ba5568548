-- The order in which a node's elements leave: by rank, then by tag. What comes after goes by these laws.
use Prim.Native.Nat.{◌<◌, ◌≤◌}
use native.Mathlib.Omega.{arith}
use mathlib.Core.Bool.{◌&&◌, ◌||◌, Bool, false, true, true≢false}
use mathlib.Core.Logic.{◌⊎◌, inl, inr, ⊎_elim}
use mathlib.Core.Path.{◌∙◌, ◌≡◌, refl, sym}
use lib.Dec.{eqb, ltb}
use borrow.Author.Tests.{eq-eqb, eqb-false, eqb-true, le-ltb, lt-ltb, ltb-false, ltb-true, ne_eqb}
use Rattle.strip.specs.Answers.{key, precedes, turn}
use Rattle.strip.specs.declared.Element.{Element}

-- a leaves before b; a leaves no later than b
abbrev pub Before : Element → Element → Type 0
Before a b = precedes a b ≡ true

abbrev pub UpTo : Element → Element → Type 0
UpTo a b = precedes b a ≡ false

-- ---- in words: by rank, and by tag where the ranks are equal
pub before-says : (a b : Element) → Before a b → (a.rank.0 < b.rank.0) ⊎ ((a.rank.0 ≡ b.rank.0) × (a.tag.0 < b.tag.0))
unfolding precedes key
before-says a b = go (ltb a.rank.0 b.rank.0) refl (eqb a.rank.0 b.rank.0) refl (ltb a.tag.0 b.tag.0) refl
  where
    go : (p : Bool) → ltb a.rank.0 b.rank.0 ≡ p → (q : Bool) → eqb a.rank.0 b.rank.0 ≡ q → (r : Bool) → ltb a.tag.0 b.tag.0 ≡ r
        → (p || (q && r)) ≡ true → (a.rank.0 < b.rank.0) ⊎ ((a.rank.0 ≡ b.rank.0) × (a.tag.0 < b.tag.0))
    go true ep q eq r er e = inl (ltb-true a.rank.0 b.rank.0 ep)
    go false ep true eq true er e = inr (eqb-true a.rank.0 b.rank.0 eq, ltb-true a.tag.0 b.tag.0 er)
    go false ep true eq false er e = absurd (true≢false (sym e))
    go false ep false eq r er e = absurd (true≢false (sym e))

pub upto-says : (a b : Element) → UpTo a b → (a.rank.0 < b.rank.0) ⊎ ((a.rank.0 ≡ b.rank.0) × (a.tag.0 ≤ b.tag.0))
unfolding precedes key
upto-says a b = go (ltb b.rank.0 a.rank.0) refl (eqb b.rank.0 a.rank.0) refl (ltb b.tag.0 a.tag.0) refl
  where
    go : (p : Bool) → ltb b.rank.0 a.rank.0 ≡ p → (q : Bool) → eqb b.rank.0 a.rank.0 ≡ q → (r : Bool) → ltb b.tag.0 a.tag.0 ≡ r
        → (p || (q && r)) ≡ false → (a.rank.0 < b.rank.0) ⊎ ((a.rank.0 ≡ b.rank.0) × (a.tag.0 ≤ b.tag.0))
    go true ep q eq r er e = absurd (true≢false e)
    go false ep true eq true er e = absurd (true≢false e)
    go false ep true eq false er e = inr (sym (eqb-true b.rank.0 a.rank.0 eq), ltb-false b.tag.0 a.tag.0 er)
    go false ep false eq r er e =
        let ne : b.rank.0 ≡ a.rank.0 → ⊥ = eqb-false b.rank.0 a.rank.0 eq in
        inl (omega (arith, ltb-false b.rank.0 a.rank.0 ep))

-- .. and back
pub rank-before : (a b : Element) → a.rank.0 < b.rank.0 → Before a b
unfolding precedes key
rank-before a b h = rw (lt-ltb a.rank.0 b.rank.0 h)

pub tag-before : (a b : Element) → a.rank.0 ≡ b.rank.0 → a.tag.0 < b.tag.0 → Before a b
unfolding precedes key
tag-before a b e h = rw (le-ltb a.rank.0 b.rank.0 (omega arith), eq-eqb a.rank.0 b.rank.0 e, lt-ltb a.tag.0 b.tag.0 h)

pub rank-upto : (a b : Element) → a.rank.0 < b.rank.0 → UpTo a b
unfolding precedes key
rank-upto a b h = rw (le-ltb b.rank.0 a.rank.0 (omega arith), ne_eqb b.rank.0 a.rank.0 (λ e. omega arith))

pub tag-upto : (a b : Element) → a.rank.0 ≡ b.rank.0 → a.tag.0 ≤ b.tag.0 → UpTo a b
unfolding precedes key
tag-upto a b e h = rw (le-ltb b.rank.0 a.rank.0 (omega arith), eq-eqb b.rank.0 a.rank.0 (sym e), le-ltb b.tag.0 a.tag.0 h)

-- ---- the order's laws
pub upto-self : (a : Element) → UpTo a a
upto-self a = tag-upto a a refl (omega arith)

pub before-not : (a b : Element) → Before a b → UpTo b a → ⊥
before-not a b p q = true≢false (sym p ∙ q)

pub before-upto : (a b : Element) → Before a b → UpTo a b
before-upto a b p = ⊎_elim (λ l. rank-upto a b l) (λ l. tag-upto a b l.0 (omega (arith, l.1))) (before-says a b p)

pub upto_before : (a b c : Element) → UpTo a b → Before b c → Before a c
upto_before a b c p q =
    ⊎_elim (λ l. ⊎_elim (λ r. rank-before a c (omega (arith, l, r))) (λ r. rank-before a c (omega (arith, l, r.0))) (before-says b c q))
    (λ l. ⊎_elim (λ r. rank-before a c (omega (arith, l.0, r))) (λ r. tag-before a c (omega (arith, l.0, r.0)) (omega (arith, l.1, r.1))) (before-says b c q)) (upto-says a b p)

-- the rank of one that leaves no later is no higher; at equal rank its tag is no higher
pub upto-rank : (a b : Element) → UpTo a b → a.rank.0 ≤ b.rank.0
upto-rank a b p = ⊎_elim (λ l. omega (arith, l)) (λ l. omega (arith, l.0)) (upto-says a b p)

pub upto-tag : (a b : Element) → UpTo a b → b.rank.0 ≡ a.rank.0 → a.tag.0 ≤ b.tag.0
upto-tag a b p e = ⊎_elim (λ l. absurd (omega (arith, l))) (λ l. l.1) (upto-says a b p)

-- ---- the same order by one number, where both tags are words: the code compares by it
pub turn-before : (a b : Element) → a.tag.0 < 4294967296 → b.tag.0 < 4294967296 → turn a < turn b → Before a b
turn-before a b s t h = go (ltb a.rank.0 b.rank.0) refl
  where
    go : (p : Bool) → ltb a.rank.0 b.rank.0 ≡ p → Before a b
    go true e = rank-before a b (ltb-true a.rank.0 b.rank.0 e)
    go false e = tag-before a b (omega (arith, ltb-false a.rank.0 b.rank.0 e)) (omega (arith, ltb-false a.rank.0 b.rank.0 e))

pub turn-upto : (a b : Element) → a.tag.0 < 4294967296 → b.tag.0 < 4294967296 → turn a ≤ turn b → UpTo a b
turn-upto a b s t h = go (ltb a.rank.0 b.rank.0) refl
  where
    go : (p : Bool) → ltb a.rank.0 b.rank.0 ≡ p → UpTo a b
    go true e = rank-upto a b (ltb-true a.rank.0 b.rank.0 e)
    go false e = tag-upto a b (omega (arith, ltb-false a.rank.0 b.rank.0 e)) (omega (arith, ltb-false a.rank.0 b.rank.0 e))
