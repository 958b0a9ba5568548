-- The steps are the rules', and the way leads to the position.
use Rattle.laws.specs.Prelude.{Bool, Element, ◌&&◌, ◌-◌, ◌<◌, ◌||◌, ◌∙◌, ◌≡◌, ◌≤◌, ◌⊎◌, arith, cond, false, false≢true, inl, inr, keep, key, leb, leb-false, leb-true, ltb, ltb-false, ltb-true, means-no, means-off, not, pass, refl, subst, suc, sym, true, untagged, zero, ℕ}
use Rattle.packed_model.proofs.Numbers.{Deep, deep}
use Rattle.packed_model.proofs.Sink.{lifts-no, lifts-yes, side-told}
use Rattle.packed_model.specs.Heap.{Has}
use Rattle.packed_model.specs.Node.{lhs, lifts, lower_side, pick, put, rest_of, rhs, Side, side_if, sink, sink_by, size, step, turn_of}
use Rattle.packed_model.specs.Rules as rules
use Rattle.packed_model.specs.Rules.{Empty, Lower, Next, Puts, Sinks, Steered}
use Rattle.packed_model.specs.Words.{depth, towards}
use Rattle.promise.specs.Prelude.{untagged-means}

-- PUT
pub puts-is : (x s a b : Element) (d r : ℕ) → Puts x s d r (step (put d r x) s a b)
unfolding step keep pass key
puts-is x s a b zero r = rules.here r lhs
puts-is x s a b (suc e) r = go (ltb x.rank.0 s.rank.0) refl
  where
    go : (t : Bool) → ltb x.rank.0 s.rank.0 ≡ t → Puts x s (suc e) r (record { slot = cond t x s; side = turn_of e r; op = put e (rest_of e r) (cond t s x) })
    go true l = rules.exchanges e r (ltb-true x.rank.0 s.rank.0 l)
    go false l = rules.passes e r (ltb-false x.rank.0 s.rank.0 l)

-- ---- the lower child
has_some : (e : Element) → Has e → Empty e → ⊥
has_some e h = means-no (untagged-means e) h

some-has : (e : Element) → (Empty e → ⊥) → Has e
some-has e n = means-off (untagged-means e) n

-- where there is a lower child it is the one chosen
lower-is : (a b : Element) (d : Side) → Lower a b d → lower_side a b ≡ d
unfolding lower_side key
lower-is a b lhs l = go (untagged b) refl (untagged a) refl (ltb b.rank.0 a.rank.0) refl l.1
  where
    go : (u : Bool) → untagged b ≡ u → (v : Bool) → untagged a ≡ v → (w : Bool) → ltb b.rank.0 a.rank.0 ≡ w → Empty b ⊎ (a.rank.0 ≤ b.rank.0) → side_if (not u && (v || w)) ≡ lhs
    go true x v y w z c = refl
    go false x true y w z c = absurd (l.0 ((untagged-means a).says y))
    go false x false y true z (inl c) = absurd (has_some b x c)
    go false x false y true z (inr c) = absurd (omega (arith, c, ltb-true b.rank.0 a.rank.0 z))
    go false x false y false z c = refl
lower-is a b rhs l = go (untagged b) refl (untagged a) refl (ltb b.rank.0 a.rank.0) refl l.1
  where
    go : (u : Bool) → untagged b ≡ u → (v : Bool) → untagged a ≡ v → (w : Bool) → ltb b.rank.0 a.rank.0 ≡ w → Empty a ⊎ (b.rank.0 < a.rank.0) → side_if (not u && (v || w)) ≡ rhs
    go true x v y w z c = absurd (l.0 ((untagged-means b).says x))
    go false x true y w z c = refl
    go false x false y true z c = refl
    go false x false y false z (inl c) = absurd (has_some a y c)
    go false x false y false z (inr c) = absurd (omega (arith, c, ltb-false b.rank.0 a.rank.0 z))

-- the one chosen, where it has an element, is the lower child
is-lower : (a b : Element) (d : Side) → lower_side a b ≡ d → Has (pick d a b) → Lower a b d
unfolding lower_side key
is-lower a b lhs e h = (has_some a h, go (untagged b) refl (untagged a) refl (ltb b.rank.0 a.rank.0) refl e)
  where
    go : (u : Bool) → untagged b ≡ u → (v : Bool) → untagged a ≡ v → (w : Bool) → ltb b.rank.0 a.rank.0 ≡ w → side_if (not u && (v || w)) ≡ lhs → Empty b ⊎ (a.rank.0 ≤ b.rank.0)
    go true x v y w z c = inl ((untagged-means b).says x)
    go false x true y w z c = absurd (false≢true (sym h ∙ y))
    go false x false y true z c = absurd (side-told (sym c))
    go false x false y false z c = inr (ltb-false b.rank.0 a.rank.0 z)
is-lower a b rhs e h = (has_some b h, go (untagged b) refl (untagged a) refl (ltb b.rank.0 a.rank.0) refl e)
  where
    go : (u : Bool) → untagged b ≡ u → (v : Bool) → untagged a ≡ v → (w : Bool) → ltb b.rank.0 a.rank.0 ≡ w → side_if (not u && (v || w)) ≡ rhs → Empty a ⊎ (b.rank.0 < a.rank.0)
    go true x v y w z c = absurd (false≢true (sym h ∙ x))
    go false x true y w z c = inl ((untagged-means a).says y)
    go false x false y true z c = inr (ltb-true b.rank.0 a.rank.0 z)
    go false x false y false z c = absurd (side-told c)

lower-has : (a b : Element) (d : Side) → Lower a b d → Has (pick d a b)
lower-has a b lhs l = some-has a l.0
lower-has a b rhs l = some-has b l.0

-- SINK
pub sinks-is : (x s a b : Element) → Sinks x a b (step (sink x) s a b)
unfolding step sink_by key
sinks-is x s a b = go (lower_side a b) refl (lifts x (pick (lower_side a b) a b)) refl
  where
    go : (d : Side) → lower_side a b ≡ d → (t : Bool) → lifts x (pick d a b) ≡ t → Sinks x a b (sink_by t d x a b)
    go d e true l = let y = lifts-yes x (pick d a b) l in rules.lifts d (is-lower a b d e y.0) y.1
    go d e false l =
        rules.stays lhs (λ c low.
        let same : d ≡ c = sym e ∙ lower-is a b c low in
        subst (λ (z : Side). x.rank.0 ≤ (pick z a b).rank.0) same (lifts-no x (pick d a b) l (subst (λ (z : Side). Has (pick z a b)) (sym same) (lower-has a b c low))))

-- THE WAY: the next position is on the way, and one level nearer
pub next-is : (i e r : ℕ) → r < size (suc e) → Next i e r
unfolding size turn_of rest_of
next-is i e r l = go (leb (size e) r) refl
  where
    go : (b : Bool) → leb (size e) r ≡ b → Next i e r
    go true t = let g : size e ≤ r = leb-true (size e) r t in record { within = rw t (omega (arith, g, l)); same = rw t (omega (arith, g)) }
    go false t = let g : r < size e = leb-false (size e) r t in record { within = rw t g; same = rw t (omega arith) }

-- .. and a put is steered to its position
pub steered : (levels t : ℕ) (x : Element) → 0 < t → t < size levels → Steered levels t x (towards levels t x)
unfolding towards
steered levels t x p l =
    let g : Deep levels t (depth levels t) = deep levels t p l in
    record { d = depth levels t; r = t - size (depth levels t); op = refl; deep = g.within; within = omega (arith, g.upto, g.from); there = omega (arith, g.from) }
