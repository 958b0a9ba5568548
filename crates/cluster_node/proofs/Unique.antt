-- For the code: a place with the laws is the place, and the scans find it.
use Rattle.laws.specs.Prelude.{Bool, Element, List, [], ◌<◌, ◌∙◌, ◌∷◌, ◌≡◌, ◌≤◌, ◌⊎◌, ap, arith, cond, eq-eqb, eqb, eqb-false, eqb-true, false, inl, inr, key, le_of_suc-le-suc, leb, leb-false, leb-true, length, ne_eqb, not-suc-le-zero, precedes, refl, subst, suc, sym, true, zero, ℕ, ⊎_elim}
use Rattle.strip.proofs.Order.{Before, before-not, before-upto, UpTo, upto_before, upto-self}
use Rattle.promise.specs.Prelude.{hit}
use Rattle.cluster_model.specs.Prelude.{Place, above, ahead, free, free_here, gap, has, high, high_here, inside, low, low_here, place_at, seek}
use Rattle.cluster_node.specs.Scan.{lower_than, high_as, scan}
use Rattle.cluster_model.proofs.Laws.{above_of, gap-has, not-above, place_here, place-hit}

none_ahead : (x : Element) (ps : List Place) → ((i : ℕ) (u : Element) → place_at ps i ≡ has u → UpTo x u) → inside (ahead x) ps ≡ 0
unfolding inside place_at
none_ahead x [] h = refl
none_ahead x (gap ∷ ps) h = omega (arith, none_ahead x ps (λ i u e. h (suc i) u e))
none_ahead x (has y ∷ ps) h = omega (arith, none_ahead x ps (λ i u e. h (suc i) u e), ap hit (h 0 y refl))

before-then : (a b c : Element) → Before a b → UpTo b c → Before a c
before-then a b c p q = go (precedes a c) refl
  where
    go : (t : Bool) → precedes a c ≡ t → precedes a c ≡ true
    go true e = e
    go false e = absurd (before-not c b (upto_before c a b e p) q)

none_above : (r : ℕ) (ps : List Place) → ((i : ℕ) (u : Element) → place_at ps i ≡ has u → key u < r) → inside (above r) ps ≡ 0
unfolding inside place_at
none_above r [] h = refl
none_above r (gap ∷ ps) h = omega (arith, none_above r ps (λ i u e. h (suc i) u e))
none_above r (has x ∷ ps) h = omega (arith, none_above r ps (λ i u e. h (suc i) u e), not-above r x (h 0 x refl))

pub has-inj : (a b : Element) → has a ≡ has b → a ≡ b
has-inj a b e = ap (λ (p : Place). get a p) e
  where
    get : Element → Place → Element
    get d gap = d
    get d (has x) = x

pub low-unique : (ps : List Place) (j : ℕ) (e : Element) → place_at ps j ≡ has e
    → ((i : ℕ) (u : Element) → place_at ps i ≡ has u → UpTo e u × (i < j → Before e u)) → low ps ≡ j
unfolding low seek low_here place_at
low-unique [] j e p h = absurd (gap-has e p)
low-unique (gap ∷ ps) zero e p h = absurd (gap-has e p)
low-unique (gap ∷ ps) (suc j) e p h = ap suc (low-unique ps j e p (λ i u q. ((h (suc i) u q).0, λ l. (h (suc i) u q).1 (omega arith))))
low-unique (has x ∷ ps) zero e p h =
    let same : e ≡ x = sym (has-inj x e p) in
    ap (λ (b : Bool). cond b 0 (suc (low ps))) (eq-eqb (inside (ahead x) ps) 0 (none_ahead x ps (λ i u q. subst (λ (y : Element). UpTo y u) same (h (suc i) u q).0)))
low-unique (has x ∷ ps) (suc j) e p h =
    let less : hit (precedes e x) ≡ 1 = ap hit ((h 0 x refl).1 (omega arith)) in
    ap (λ (b : Bool). cond b 0 (suc (low ps))) (ne_eqb (inside (ahead x) ps) 0 (λ z. omega (arith, place-hit (ahead x) ps j e p, less)))
    ∙ ap suc (low-unique ps j e p (λ i u q. ((h (suc i) u q).0, λ l. (h (suc i) u q).1 (omega arith))))

pub high-unique : (ps : List Place) (j : ℕ) (e : Element) → place_at ps j ≡ has e
    → ((i : ℕ) (u : Element) → place_at ps i ≡ has u → (key u ≤ key e) × (j < i → key u < key e)) → high ps ≡ j
unfolding high seek high_here place_at
high-unique [] j e p h = absurd (gap-has e p)
high-unique (gap ∷ ps) zero e p h = absurd (gap-has e p)
high-unique (gap ∷ ps) (suc j) e p h = ap suc (high-unique ps j e p (λ i u q. ((h (suc i) u q).0, λ l. (h (suc i) u q).1 (omega arith))))
high-unique (has x ∷ ps) zero e p h =
    let same : key x ≡ key e = ap key (has-inj x e p) in
    ap (λ (b : Bool). cond b 0 (suc (high ps))) (eq-eqb (inside (above (key x)) ps) 0 (none_above (key x) ps (λ i u q. omega (arith, (h (suc i) u q).1 (omega arith)))))
high-unique (has x ∷ ps) (suc j) e p h =
    let less : key x ≤ key e = (h 0 x refl).0 in
    ap (λ (b : Bool). cond b 0 (suc (high ps))) (ne_eqb (inside (above (key x)) ps) 0 (λ z. omega (arith, place-hit (above (key x)) ps j e p, above_of (key x) e less)))
    ∙ ap suc (high-unique ps j e p (λ i u q. ((h (suc i) u q).0, λ l. (h (suc i) u q).1 (omega arith))))

-- the first gap: all before it are occupied
pub free-unique : (ps : List Place) (j : ℕ) → j < length ps → place_at ps j ≡ gap → ((i : ℕ) → i < j → place_at ps i ≡ gap → ⊥) → free ps ≡ j
unfolding free seek free_here place_at
free-unique [] j l p h = absurd (not-suc-le-zero l)
free-unique (gap ∷ ps) zero l p h = refl
free-unique (gap ∷ ps) (suc j) l p h = absurd (h 0 (omega arith) refl)
free-unique (has x ∷ ps) zero l p h = absurd (gap-has x (sym p))
free-unique (has x ∷ ps) (suc j) l p h = ap suc (free-unique ps j (le_of_suc-le-suc l) p (λ i g. h (suc i) (omega arith)))

pub free-none : (ps : List Place) → ((i : ℕ) → i < length ps → place_at ps i ≡ gap → ⊥) → free ps ≡ length ps
unfolding free seek free_here place_at
free-none [] h = refl
free-none (gap ∷ ps) h = absurd (h 0 (omega arith) refl)
free-none (has x ∷ ps) h = ap suc (free-none ps (λ i g. h (suc i) (omega arith)))

-- ---- the scans
-- what the scan for the lowest has after j places
record BestLow (ps : List Place) (j b : ℕ) : Type 0 where
  bound : (b < j) ⊎ (b ≡ 0)
  best : (i : ℕ) (u : Element) → i < j → place_at ps i ≡ has u → (e : Element) × (place_at ps b ≡ has e) × UpTo e u × (i < b → Before e u)

upto : (i j : ℕ) → i < suc j → (i < j) ⊎ (i ≡ j)
upto i j h = go (eqb i j) refl
  where
    go : (b : Bool) → eqb i j ≡ b → (i < j) ⊎ (i ≡ j)
    go true e = inr (eqb-true i j e)
    go false e = inl (omega (arith, eqb-false i j e))

keep_low : (ps : List Place) (j b : ℕ) → BestLow ps j b → ((u : Element) → place_at ps j ≡ has u → (e : Element) × (place_at ps b ≡ has e) × UpTo e u) → BestLow ps (suc j) b
keep_low ps j b ih h = record {
  bound = inl (⊎_elim (λ (g : b < j). omega arith) (λ (g : b ≡ 0). omega arith) ih.bound);
  best = λ i u l e. ⊎_elim (λ (g : i < j). ih.best i u g e)
      (λ (g : i ≡ j).
      let d = h u (ap (place_at ps) (sym g) ∙ e) in
      let le : b ≤ j = ⊎_elim (λ (g : b < j). omega arith) (λ (g : b ≡ 0). omega arith) ih.bound in
      (d.0, d.1, d.2, λ l. absurd (omega arith))) (upto i j l);
}

low-next : (ps : List Place) (j b : ℕ) → BestLow ps j b → (p : Place) → place_at ps j ≡ p → (q : Place) → place_at ps b ≡ q → BestLow ps (suc j) (cond (lower_than p q) j b)
unfolding lower_than
low-next ps j b ih gap ep q eq = keep_low ps j b ih (λ u e. absurd (gap-has u (sym ep ∙ e)))
low-next ps j b ih (has x) ep gap eq = record {
  bound = inl (omega arith);
  best = λ i u l e. ⊎_elim (λ (g : i < j). absurd (gap-has (ih.best i u g e).0 (sym eq ∙ (ih.best i u g e).1)))
      (λ (g : i ≡ j). (u, ap (place_at ps) (sym g) ∙ e, upto-self u, λ l. absurd (omega arith))) (upto i j l);
}
low-next ps j b ih (has x) ep (has y) eq = go (precedes x y) refl
  where
    go : (t : Bool) → precedes x y ≡ t → BestLow ps (suc j) (cond t j b)
    go true t = record {
      bound = inl (omega arith);
      best = λ i u l e. ⊎_elim
          (λ (g : i < j).
          let d = ih.best i u g e in
          let same : d.0 ≡ y = sym (has-inj y d.0 (sym eq ∙ d.1)) in
          let less : Before x u = before-then x y u t (subst (λ (z : Element). UpTo z u) same d.2) in
          (x, ep, before-upto x u less, λ l. less))
          (λ (g : i ≡ j). (u, ap (place_at ps) (sym g) ∙ e, upto-self u, λ l. absurd (omega arith))) (upto i j l);
    }
    go false t = keep_low ps j b ih (λ u e. (y, eq, subst (λ (z : Element). UpTo y z) (has-inj x u (sym ep ∙ e)) t))

scan-low : (ps : List Place) (j : ℕ) → BestLow ps j (scan lower_than ps j)
unfolding scan
scan-low ps zero = record { bound = inr refl; best = λ i u l e. absurd (not-suc-le-zero l) }
scan-low ps (suc j) = low-next ps j (scan lower_than ps j) (scan-low ps j) (place_at ps j) refl (place_at ps (scan lower_than ps j)) refl

-- where a place is occupied, the scan of all ends at the lowest
pub scan-is-low : (ps : List Place) (i : ℕ) (u : Element) → place_at ps i ≡ has u → scan lower_than ps (length ps) ≡ low ps
scan-is-low ps i u p =
    let b : ℕ = scan lower_than ps (length ps) in
    let s = scan-low ps (length ps) in
    let d = s.best i u (place_here ps i u p) p in
    sym (low-unique ps b d.0 d.1 (λ k v q.
    let f = s.best k v (place_here ps k v q) q in
    let same : f.0 ≡ d.0 = has-inj f.0 d.0 (sym f.1 ∙ d.1) in
    (subst (λ (z : Element). UpTo z v) same f.2, λ l. subst (λ (z : Element). Before z v) same (f.3 l))))

-- ---- the highest, last place on a tie
record BestHigh (ps : List Place) (j b : ℕ) : Type 0 where
  bound : (b < j) ⊎ (b ≡ 0)
  best : (i : ℕ) (u : Element) → i < j → place_at ps i ≡ has u → (e : Element) × (place_at ps b ≡ has e) × (key u ≤ key e) × (b < i → key u < key e)

keep_high : (ps : List Place) (j b : ℕ) → BestHigh ps j b → ((u : Element) → place_at ps j ≡ has u → (e : Element) × (place_at ps b ≡ has e) × (key u < key e)) → BestHigh ps (suc j) b
keep_high ps j b ih h = record {
  bound = inl (⊎_elim (λ (g : b < j). omega arith) (λ (g : b ≡ 0). omega arith) ih.bound);
  best = λ i u l e. ⊎_elim (λ (g : i < j). ih.best i u g e)
      (λ (g : i ≡ j).
      let d = h u (ap (place_at ps) (sym g) ∙ e) in
      (d.0, d.1, omega (arith, d.2), λ l. d.2)) (upto i j l);
}

-- the new place is the best
take-high : (ps : List Place) (j b : ℕ) (x : Element) → place_at ps j ≡ has x → ((i : ℕ) (u : Element) → i < j → place_at ps i ≡ has u → key u ≤ key x) → BestHigh ps (suc j) j
take-high ps j b x ep h = record {
  bound = inl (omega arith);
  best = λ i u l e. ⊎_elim (λ (g : i < j). (x, ep, h i u g e, λ l. omega arith))
      (λ (g : i ≡ j). (x, ep, omega (arith, ap key (has-inj x u (sym ep ∙ ap (place_at ps) (sym g) ∙ e))), λ l. omega arith)) (upto i j l);
}

high-next : (ps : List Place) (j b : ℕ) → BestHigh ps j b → (p : Place) → place_at ps j ≡ p → (q : Place) → place_at ps b ≡ q → BestHigh ps (suc j) (cond (high_as p q) j b)
unfolding high_as
high-next ps j b ih gap ep q eq = keep_high ps j b ih (λ u e. absurd (gap-has u (sym ep ∙ e)))
high-next ps j b ih (has x) ep gap eq = take-high ps j b x ep (λ i u g e. absurd (gap-has (ih.best i u g e).0 (sym eq ∙ (ih.best i u g e).1)))
high-next ps j b ih (has x) ep (has y) eq = go (leb (key y) (key x)) refl
  where
    go : (t : Bool) → leb (key y) (key x) ≡ t → BestHigh ps (suc j) (cond t j b)
    go true t = take-high ps j b x ep (λ i u g e.
        let d = ih.best i u g e in
        omega (arith, leb-true (key y) (key x) t, d.2, ap key (has-inj y d.0 (sym eq ∙ d.1))))
    go false t = keep_high ps j b ih (λ u e. (y, eq, omega (arith, leb-false (key y) (key x) t, ap key (has-inj x u (sym ep ∙ e)))))

scan-high : (ps : List Place) (j : ℕ) → BestHigh ps j (scan high_as ps j)
unfolding scan
scan-high ps zero = record { bound = inr refl; best = λ i u l e. absurd (not-suc-le-zero l) }
scan-high ps (suc j) = high-next ps j (scan high_as ps j) (scan-high ps j) (place_at ps j) refl (place_at ps (scan high_as ps j)) refl

pub scan-is-high : (ps : List Place) (i : ℕ) (u : Element) → place_at ps i ≡ has u → scan high_as ps (length ps) ≡ high ps
scan-is-high ps i u p =
    let b : ℕ = scan high_as ps (length ps) in
    let s = scan-high ps (length ps) in
    let d = s.best i u (place_here ps i u p) p in
    sym (high-unique ps b d.0 d.1 (λ k v q.
    let f = s.best k v (place_here ps k v q) q in
    let same : key d.0 ≡ key f.0 = ap key (has-inj d.0 f.0 (sym d.1 ∙ f.1)) in
    (omega (arith, f.2), λ l. omega (arith, f.3 l))))
