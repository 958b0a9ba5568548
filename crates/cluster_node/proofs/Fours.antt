-- Four places by pairs, and the lower of two full children of four places each.
use Rattle.laws.specs.Prelude.{Bool, Element, List, ◌&&◌, ◌*◌, ◌+◌, ◌/◌, ◌<◌, ◌∙◌, ◌≡◌, ap, ap₂, arith, cond, element_words, eqb, eqb-false, false, le-ltb, lt-ltb, ltb, ltb-false, ltb-true, not, not-true, refl, subst, sym, true, ℕ}
use Rattle.cluster_model.specs.Prelude.{place_words, width, word}
use Rattle.cluster_node.specs.declared.Lead.{Lead}
use Rattle.cluster_node.specs.Full.{full_to, turn_at, best_to, turns, low_lead}
use Rattle.cluster_node.specs.Leaf.{elem_at, counts_ok, right_rank, ChoiceFrom, Scanned}
use Rattle.cluster_node.proofs.Fulls.{and_l, and_r, full-next, full-first, best-first, best-taken, best-stays, best-lt, peek-full}
use Rattle.cluster_node.proofs.Children.{choice-from}

-- ---- the winner of two pairs is the first of the lowest
module _ (f : ℕ → ℕ) where
  step : (j place best t : ℕ) → place ≡ best_to ltb f j → best ≡ f (best_to ltb f j) → t ≡ f j → (b : Bool) → ltb t best ≡ b
      → (cond b j place ≡ best_to ltb f (j + 1)) × (cond b t best ≡ f (best_to ltb f (j + 1)))
  step j place best t ep eb et true e = best-taken ltb f j place best t ep eb et e j t refl refl
  step j place best t ep eb et false e = best-stays ltb f j place best t ep eb et e place best refl refl

  same : (b : Bool) (x : ℕ) → cond b x x ≡ x
  same true x = refl
  same false x = refl

  -- the second pair after the winner x of the first, whose number is u
  pairs : (x u c d : ℕ) (a b : Bool) → ltb d c ≡ a → ltb c u ≡ b
      → (cond (ltb (cond a d c) u) (cond a 3 2) x ≡ cond (ltb d (cond b c u)) 3 (cond b 2 x)) × (cond (ltb (cond a d c) u) (cond a d c) u ≡ cond (ltb d (cond b c u)) d (cond b c u))
  pairs x u c d true true p q = rw (lt-ltb d u (omega (arith, ltb-true d c p, ltb-true c u q)), p) (refl, refl)
  pairs x u c d true false p q = (refl, refl)
  pairs x u c d false true p q = rw (q, p) (refl, refl)
  pairs x u c d false false p q = rw (q, le-ltb d u (omega (arith, ltb-false d c p, ltb-false c u q))) (refl, refl)

  pub four : (a b c d : ℕ) → a ≡ f 0 → b ≡ f 1 → c ≡ f 2 → d ≡ f 3 → (x u y v p w : ℕ) → x ≡ cond (ltb b a) 1 0 → u ≡ cond (ltb b a) b a
      → y ≡ cond (ltb d c) 3 2 → v ≡ cond (ltb d c) d c → p ≡ cond (ltb v u) y x → w ≡ cond (ltb v u) v u → (p ≡ best_to ltb f 4) × (w ≡ f (best_to ltb f 4))
  four a b c d ea eb ec ed x u y v p w ex eu ey ev ep ew =
      let z = best-first ltb f a ea in
      let s1 = step 0 0 a a z.0 z.1 ea (ltb a a) refl in
      let s2 = step 1 0 a b (sym (same (ltb a a) 0) ∙ s1.0) (sym (same (ltb a a) a) ∙ s1.1) eb (ltb b a) refl in
      let s3 = step 2 x u c (ex ∙ s2.0) (eu ∙ s2.1) ec (ltb c u) refl in
      let s4 = step 3 (cond (ltb c u) 2 x) (cond (ltb c u) c u) d s3.0 s3.1 ed (ltb d (cond (ltb c u) c u)) refl in
      let t = pairs x u c d (ltb d c) (ltb c u) refl refl in
      (ep ∙ ap₂ (λ (v y : ℕ). cond (ltb v u) y x) ev ey ∙ t.0 ∙ s4.0, ew ∙ ap (λ (v : ℕ). cond (ltb v u) v u) ev ∙ t.1 ∙ s4.1)

module _ (ws : List ℕ) (o : ℕ) where
  abbrev one : ℕ → Bool
  one i = eqb (word ws i) 1

  full-four : (((one (o + element_words) && one (o + (place_words + element_words))) && one (o + (2 * place_words + element_words))) && one (o + (3 * place_words + element_words))) ≡ full_to ws o 4
  full-four =
      let z : o + element_words ≡ o + 0 * place_words + element_words = omega arith in
      let f1 : one (o + element_words) ≡ full_to ws o 1 = ap one z ∙ full-next ws o 0 true (full-first ws o) in
      let f2 : (one (o + element_words) && one (o + (place_words + element_words))) ≡ full_to ws o 2 = ap (λ (i : ℕ). one (o + element_words) && one i) (omega arith) ∙ full-next ws o 1 (one (o + element_words)) f1 in
      let f3 : ((one (o + element_words) && one (o + (place_words + element_words))) && one (o + (2 * place_words + element_words))) ≡ full_to ws o 3 = ap (λ (i : ℕ). (one (o + element_words) && one (o + (place_words + element_words))) && one i) (omega arith) ∙ full-next ws o 2 (one (o + element_words) && one (o + (place_words + element_words))) f2 in
      ap (λ (i : ℕ). ((one (o + element_words) && one (o + (place_words + element_words))) && one (o + (2 * place_words + element_words))) && one i) (omega arith) ∙ full-next ws o 3 ((one (o + element_words) && one (o + (place_words + element_words))) && one (o + (2 * place_words + element_words))) f3

  pub four_low : (a b c d : ℕ) → a ≡ turn_at ws o → b ≡ turn_at ws (o + place_words) → c ≡ turn_at ws (o + 2 * place_words) → d ≡ turn_at ws (o + 3 * place_words) → (x u y v p w : ℕ) → x ≡ cond (ltb b a) 1 0
      → u ≡ cond (ltb b a) b a → y ≡ cond (ltb d c) 3 2 → v ≡ cond (ltb d c) d c → p ≡ cond (ltb v u) y x → w ≡ cond (ltb v u) v u
      → ◌≡◌ {A = Lead} (record { full = ((one (o + element_words) && one (o + (place_words + element_words))) && one (o + (2 * place_words + element_words))) && one (o + (3 * place_words + element_words)); place = p; best = w }) (low_lead ws o 4)
  four_low a b c d ea eb ec ed x u y v p w ex eu ey ev ep ew =
      let z0 : o ≡ o + 0 * place_words = omega arith in
      let r = four (turns ws o) a b c d (ea ∙ ap (turn_at ws) z0) eb ec ed x u y v p w ex eu ey ev ep ew in
      λ i. record { full = full-four i; place = r.0 i; best = r.1 i }

-- ---- two children of four places, of which both are read
pub lead-lt : (ws : List ℕ) (o : ℕ) (p : Lead) → p ≡ low_lead ws o 4 → p.place < 4
lead-lt ws o p e = subst (λ (u : Lead). u.place < 4) (sym e) (best-lt ltb (turns ws o) 4 (omega arith))

right-both : (l r a b : ℕ) → eqb l 0 ≡ false → eqb r 0 ≡ false → ltb b a ≡ right_rank l r a b
unfolding right_rank
right-both l r a b el er = rw (el, er) refl

module _ (limit : ℕ) (ws : List ℕ) (o : ℕ) (p q : Lead) (scanned : Scanned ws o p q) (small : (i : ℕ) → word ws i < 4294967296) where
  pub four-choice : (fine sound : Bool) → fine ≡ counts_ok limit ws (o + o + width 4) → sound ≡ counts_ok limit ws (o + o + width 4 + width 4) → (right : Bool) (child place : ℕ) (up : Element)
      → right ≡ ltb (q.best / 4294967296) (p.best / 4294967296) → child ≡ cond right (o + o + width 4 + width 4) (o + o + width 4) → place ≡ cond right q.place p.place → up ≡ elem_at ws (child + 2 + place * place_words)
      → (p.full && (q.full && (not (eqb (word ws o) 0) && (not (eqb (word ws (o + 1)) 0) && (fine && sound))))) ≡ true
      → ChoiceFrom 4 limit ws o (record { ok = p.full && (q.full && (not (eqb (word ws o) 0) && (not (eqb (word ws (o + 1)) 0) && (fine && sound)))); right = right; child = child; place = place; up = up })
  four-choice fine sound ef es right child place up er ec el eu t m e =
      let l : ℕ = word ws o in
      let r : ℕ = word ws (o + 1) in
      let t3 : Bool = not (eqb r 0) && (fine && sound) in
      let t2 : Bool = not (eqb l 0) && t3 in
      let t1 : Bool = q.full && t2 in
      let u1 : t1 ≡ true = and_r p.full t1 t in
      let u2 : t2 ≡ true = and_r q.full t2 u1 in
      let u3 : t3 ≡ true = and_r (not (eqb l 0)) t3 u2 in
      let u4 : (fine && sound) ≡ true = and_r (not (eqb r 0)) (fine && sound) u3 in
      let l0 : eqb l 0 ≡ false = not-true (eqb l 0) (and_l (not (eqb l 0)) t3 u2) in
      let r0 : eqb r 0 ≡ false = not-true (eqb r 0) (and_l (not (eqb r 0)) (fine && sound) u3) in
      let P = peek-full 4 limit ws (o + o + width 4) l small (omega arith) (eqb-false l 0 l0) p scanned.left (and_l p.full t1 t) fine ef in
      let Q = peek-full 4 limit ws (o + o + width 4 + width 4) r small (omega arith) (eqb-false r 0 r0) q scanned.right (and_l q.full t2 u1) sound es in
      let k : (p.full && t1) ≡ (fine && sound) = t ∙ sym u4 in
      (λ i. record { ok = k i; right = right; child = child; place = place; up = up })
      ∙ choice-from 4 limit ws m o (record { ok = fine; place = p.place; rank = p.best / 4294967296 }) (record { ok = sound; place = q.place; rank = q.best / 4294967296 }) right child place up e P Q
      (er ∙ right-both l r (p.best / 4294967296) (q.best / 4294967296) l0 r0) ec el eu
