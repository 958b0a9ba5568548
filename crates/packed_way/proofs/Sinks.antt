-- One step of a sink, by the code's tests.
use Rattle.laws.specs.Prelude.{Bool, Element, List, ◌&&◌, ◌*◌, ◌+◌, ◌<◌, ◌||◌, ◌∙◌, ◌≡◌, ◌≤◌, ap, ap₂, arith, blank, cond, eq-eqb, eqb, false, false≢true, is_blank, key, le-leb, le-ltb, leb, lt-leb, lt-ltb, ltb, ltb-false, ltb-true, ne_eqb, not, not-false, not-true, refl, sym, true, untagged, ℕ}
use Rattle.strip.proofs.Words.{blank-says}
use Rattle.packed_model.specs.Node.{lhs, lifts, lower_side, pick, rhs, Side, side_if}
use Rattle.packed_model.specs.Words.{slot_in, word}
use Rattle.packed_way.specs.Sink.{fine, slot_but, sink_to, towards}
use Rattle.packed_way.specs.declared.Goes.{Goes}
use Rattle.packed_way.specs.declared.Goes.TheVariants.{Left, Nowhere, Right}
use Rattle.std.specs.Prelude.{None, Option, Some}

-- ---- the hole
pub hole-is : (H p : ℕ) (ws : List ℕ) (m : ℕ) (e : Element) → m ≡ p → e ≡ blank → e ≡ slot_but H p ws m
unfolding slot_but
hole-is H p ws m e q b = b ∙ sym (ap (λ (t : Bool). cond t blank (slot_in H ws m)) (eq-eqb m p q))

pub hole-not : (H p : ℕ) (ws : List ℕ) (m : ℕ) → (m ≡ p → ⊥) → slot_in H ws m ≡ slot_but H p ws m
unfolding slot_but
hole-not H p ws m n = sym (ap (λ (t : Bool). cond t blank (slot_in H ws m)) (ne_eqb m p n))

-- ---- the step, by whether the children are in order, which is the lower one, and whether it is lifted
to_is : (p q : Bool) (x a b : Element) (f : Bool) → (fine p a && fine q b) ≡ f → (s : Side) → lower_side a b ≡ s → (l : Bool) → lifts x (pick s a b) ≡ l
    → sink_to p q x a b ≡ cond f (Some (cond l (towards s) Nowhere)) None
unfolding sink_to
to_is p q x a b f ef s es l el = rw (ef, es, el) refl

to-torn : (p q : Bool) (x a b : Element) → (fine p a && fine q b) ≡ false → None ≡ sink_to p q x a b
unfolding sink_to
to-torn p q x a b e = rw e refl

zero-bare : (e : Element) → is_blank e ≡ true → untagged e ≡ true
unfolding untagged
zero-bare e z = eq-eqb e.tag.0 0 (blank-says e z).1

-- no right child: the left one is the lower
only-left : (a b : Element) → untagged b ≡ true → lower_side a b ≡ lhs
unfolding lower_side
only-left a b u = rw u refl

lifts-by : (x c : Element) (u l : Bool) → untagged c ≡ u → ltb c.rank.0 x.rank.0 ≡ l → lifts x c ≡ (not u && l)
unfolding lifts key
lifts-by x c u l eu el = rw (eu, el) refl

-- ---- the right child is not held
module _ (c last : ℕ) (x a b : Element) (over : last ≤ c) where
  next-off : leb (c + 1) last ≡ false
  next-off = lt-leb (c + 1) last (omega (arith, over))

  pub last-torn : (t : Bool) → t ≡ is_blank b → not t ≡ true → None ≡ sink_to (leb c last) (leb (c + 1) last) x a b
  unfolding fine
  last-torn t e n = rw next-off (to-torn (leb c last) false x a b (go (fine (leb c last) a) (is_blank b) (sym e ∙ not-true t n)))
    where
      go : (f g : Bool) → g ≡ false → (f && g) ≡ false
      go true g z = z
      go false g z = refl

  module _ (t : Bool) (te : t ≡ is_blank b) (tz : not t ≡ false) where
    empty-b : is_blank b ≡ true
    empty-b = sym te ∙ not-false t tz

    abbrev left-only : lower_side a b ≡ lhs
    left-only = only-left a b (zero-bare b empty-b)

    -- .. nor the left one
    pub none-torn : last < c → (u : Bool) → u ≡ is_blank a → not u ≡ true → None ≡ sink_to (leb c last) (leb (c + 1) last) x a b
    unfolding fine
    none-torn l u e n = rw (next-off, lt-leb c last l) (to-torn false false x a b (ap (λ (f : Bool). f && is_blank b) (sym e ∙ not-true u n)))

    pub none_stays : last < c → (u : Bool) → u ≡ is_blank a → not u ≡ false → Some Nowhere ≡ sink_to (leb c last) (leb (c + 1) last) x a b
    unfolding fine
    none_stays l u e n =
        let za : is_blank a ≡ true = sym e ∙ not-false u n in
        rw (next-off, lt-leb c last l)
        (sym (to_is false false x a b true (rw (za, empty-b) refl) lhs left-only false (lifts-by x a true (ltb a.rank.0 x.rank.0) (zero-bare a za) refl)))

    -- .. but the left one is
    pub one-torn : c ≤ last → (u : Bool) → u ≡ untagged a → u ≡ true → None ≡ sink_to (leb c last) (leb (c + 1) last) x a b
    unfolding fine
    one-torn l u e n = rw (next-off, le-leb c last l) (to-torn true false x a b (ap (λ (f : Bool). not f && is_blank b) (sym e ∙ n)))

    module _ (l : c ≤ last) (u : Bool) (e : u ≡ untagged a) (n : u ≡ false) where
      one-by : (g : Bool) → ltb a.rank.0 x.rank.0 ≡ g → Some (cond g Left Nowhere) ≡ sink_to (leb c last) (leb (c + 1) last) x a b
      unfolding fine
      one-by g r =
          let ua : untagged a ≡ false = sym e ∙ n in
          rw (next-off, le-leb c last l) (sym (to_is true false x a b true (rw (ua, empty-b) refl) lhs left-only g (lifts-by x a false g ua r)))

      pub one-goes : a.rank.0 < x.rank.0 → Some Left ≡ sink_to (leb c last) (leb (c + 1) last) x a b
      one-goes r = one-by true (lt-ltb a.rank.0 x.rank.0 r)

      pub one-stays : x.rank.0 ≤ a.rank.0 → Some Nowhere ≡ sink_to (leb c last) (leb (c + 1) last) x a b
      one-stays r = one-by false (le-ltb a.rank.0 x.rank.0 r)

-- ---- both are held, and neither is the hole
module _ (H c last p : ℕ) (ws : List ℕ) (x : Element) (both : c < last) (off : (c ≡ p → ⊥) × (c + 1 ≡ p → ⊥)) where
  abbrev a : Element
  a = slot_in H ws c

  abbrev b : Element
  b = slot_in H ws (c + 1)

  abbrev To : Option Goes → Type 0
  To t = t ≡ sink_to (leb c last) (leb (c + 1) last) x (slot_but H p ws c) (slot_but H p ws (c + 1))

  plain : (t : Option Goes) → t ≡ sink_to true true x a b → To t
  plain t e = rw (le-leb c last (omega (arith, both)), le-leb (c + 1) last (omega (arith, both)), ← hole-not H p ws c off.0, ← hole-not H p ws (c + 1) off.1) e

  or_no : (u v : Bool) → (u || v) ≡ false → (u ≡ false) × (v ≡ false)
  or_no true v e = absurd (false≢true (sym e))
  or_no false v e = (refl, e)

  pub both-torn : (eqb a.tag.0 0 || eqb b.tag.0 0) ≡ true → To None
  unfolding fine untagged
  both-torn e = plain None (to-torn true true x a b (go (eqb a.tag.0 0) (eqb b.tag.0 0) e))
    where
      go : (u v : Bool) → (u || v) ≡ true → (not u && not v) ≡ false
      go true v e = refl
      go false true e = refl
      go false false e = sym e

  module _ (some : (eqb a.tag.0 0 || eqb b.tag.0 0) ≡ false) where
    has : (untagged a ≡ false) × (untagged b ≡ false)
    unfolding untagged
    has = or_no (eqb a.tag.0 0) (eqb b.tag.0 0) some

    in_order : (fine true a && fine true b) ≡ true
    unfolding fine
    in_order = rw (has.0, has.1) refl

    lower-side : (r : Bool) → ltb b.rank.0 a.rank.0 ≡ r → lower_side a b ≡ side_if r
    unfolding lower_side key
    lower-side r e = rw (has.0, has.1, e) refl

    pick-has : (r : Bool) → untagged (pick (side_if r) a b) ≡ false
    pick-has true = has.1
    pick-has false = has.0

    low-is : (r : Bool) → cond r b.rank.0 a.rank.0 ≡ (pick (side_if r) a b).rank.0
    low-is true = refl
    low-is false = refl

    by : (r : Bool) → ltb b.rank.0 a.rank.0 ≡ r → (g : Bool) → ltb (pick (side_if r) a b).rank.0 x.rank.0 ≡ g → To (Some (cond g (towards (side_if r)) Nowhere))
    by r e g f = plain _ (sym (to_is true true x a b true in_order (side_if r) (lower-side r e) g (lifts-by x (pick (side_if r) a b) false g (pick-has r) f)))

    module _ (low : ℕ) (is : low ≡ cond (ltb b.rank.0 a.rank.0) b.rank.0 a.rank.0) where
      pub both-stay : x.rank.0 ≤ low → To (Some Nowhere)
      both-stay l = go (ltb b.rank.0 a.rank.0) refl is
        where
          go : (r : Bool) → ltb b.rank.0 a.rank.0 ≡ r → low ≡ cond r b.rank.0 a.rank.0 → To (Some Nowhere)
          go r e q = by r e false (le-ltb (pick (side_if r) a b).rank.0 x.rank.0 (omega (arith, l, q, low-is r)))

      goes : low < x.rank.0 → (r : Bool) → ltb b.rank.0 a.rank.0 ≡ r → To (Some (towards (side_if r)))
      goes l r e = by r e true (lt-ltb (pick (side_if r) a b).rank.0 x.rank.0 (omega (arith, l, low-is r, is ∙ ap (λ (t : Bool). cond t b.rank.0 a.rank.0) e)))

      pub both_right : low < x.rank.0 → b.rank.0 < a.rank.0 → To (Some Right)
      both_right l g = goes l true (lt-ltb b.rank.0 a.rank.0 g)

      pub both_left : low < x.rank.0 → a.rank.0 ≤ b.rank.0 → To (Some Left)
      both_left l g = goes l false (le-ltb b.rank.0 a.rank.0 g)

  -- .. as they are read, from the word i at which the left child's slot begins
  module _ (i : ℕ) (at : i ≡ H + c * 3) where
    tag-left : word ws (i + 1) ≡ a.tag.0
    unfolding slot_in
    tag-left = ap (word ws) (omega (arith, at))

    tag-right : word ws (i + 4) ≡ b.tag.0
    unfolding slot_in
    tag-right = ap (word ws) (omega (arith, at))

    rank_left : word ws i ≡ a.rank.0
    unfolding slot_in
    rank_left = ap (word ws) (omega (arith, at))

    rank_right : word ws (i + 3) ≡ b.rank.0
    unfolding slot_in
    rank_right = ap (word ws) (omega (arith, at))

    tags : (eqb (word ws (i + 1)) 0 || eqb (word ws (i + 4)) 0) ≡ (eqb a.tag.0 0 || eqb b.tag.0 0)
    tags = ap₂ (λ (u v : ℕ). eqb u 0 || eqb v 0) tag-left tag-right

    pub read-torn : (eqb (word ws (i + 1)) 0 || eqb (word ws (i + 4)) 0) ≡ true → To None
    read-torn e = both-torn (sym tags ∙ e)

    module _ (some : (eqb (word ws (i + 1)) 0 || eqb (word ws (i + 4)) 0) ≡ false) (low : ℕ) (is : low ≡ cond (ltb (word ws (i + 3)) (word ws i)) (word ws (i + 3)) (word ws i)) where
      low_read : low ≡ cond (ltb b.rank.0 a.rank.0) b.rank.0 a.rank.0
      low_read = is ∙ ap₂ (λ (u v : ℕ). cond (ltb u v) u v) rank_right rank_left

      pub read-stay : x.rank.0 ≤ low → To (Some Nowhere)
      read-stay l = both-stay (sym tags ∙ some) low low_read l

      -- x goes on, to the child whose slot begins at word w
      pub record Leads (w : ℕ) : Type 0 where
        pub side : Side
        pub goes : To (Some (towards side))
        pub word : w ≡ H + (c + pick side 0 1) * 3

      pub read_goes : low < x.rank.0 → (w : ℕ) → w ≡ cond (ltb (word ws (i + 3)) (word ws i)) (i + 3) i → Leads w
      read_goes l w e = go (ltb b.rank.0 a.rank.0) refl (e ∙ ap₂ (λ (u v : ℕ). cond (ltb u v) (i + 3) i) rank_right rank_left)
        where
          go : (t : Bool) → ltb b.rank.0 a.rank.0 ≡ t → w ≡ cond (ltb b.rank.0 a.rank.0) (i + 3) i → Leads w
          go true t e =
              record {
                side = rhs;
                goes = both_right (sym tags ∙ some) low low_read l (ltb-true b.rank.0 a.rank.0 t);
                word = e ∙ ap (λ (q : Bool). cond q (i + 3) i) t ∙ omega (arith, at);
              }
          go false t e =
              record {
                side = lhs;
                goes = both_left (sym tags ∙ some) low low_read l (ltb-false b.rank.0 a.rank.0 t);
                word = e ∙ ap (λ (q : Bool). cond q (i + 3) i) t ∙ omega (arith, at);
              }
