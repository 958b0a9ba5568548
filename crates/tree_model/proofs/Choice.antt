-- The laws of the three choices of a slot. What comes after goes by these laws alone.
use Rattle.laws.specs.Prelude.{All, Bool, Element, List, [], ◌&&◌, ◌*◌, ◌+◌, ◌<◌, ◌||◌, ◌∷◌, ◌≡◌, ◌≤◌, all-at, all_map, and_left, and_right, ap, arith, cond, eqb-false, eqb-true, false, get_or, le_of_suc-le-suc, leb, leb-false, leb-true, length, ltb, ltb-false, ltb-true, ne_eqb, not, not-suc-le-zero, precedes, refl, subst, suc, sym, true, true≢false, zero, ℕ}
use native.Mathlib.Nat.{le_of_lt}
use Rattle.strip.proofs.Order.{Before, before-not, before-upto, UpTo, upto_before, upto-rank, upto-self}
use Rattle.tree_model.specs.Prelude.{Slot, every, first_empty, is_empty, least_count, lowest, seek, slot_at, sum_counts, vacant}

-- ---- the first empty slot
pub empty-found : (nd : List Slot) → first_empty nd < length nd → (slot_at nd (first_empty nd)).count ≡ 0
unfolding first_empty seek slot_at is_empty
empty-found [] h = absurd (not-suc-le-zero h)
empty-found (s ∷ ss) h = go (is_empty s) refl h (empty-found ss)
  where
    go : (b : Bool) → is_empty s ≡ b → cond b 0 (suc (first_empty ss)) < suc (length ss)
        → (first_empty ss < length ss → (slot_at ss (first_empty ss)).count ≡ 0) → (get_or (s ∷ ss) (cond b 0 (suc (first_empty ss))) vacant).count ≡ 0
    go true e h ih = eqb-true s.count 0 e
    go false e h ih = ih (le_of_suc-le-suc h)

pub none-empty : (nd : List Slot) → length nd ≤ first_empty nd → All (λ s. 0 < s.count) nd
unfolding first_empty seek is_empty
none-empty [] h = tt
none-empty (s ∷ ss) h = go (is_empty s) refl h (none-empty ss)
  where
    go : (b : Bool) → is_empty s ≡ b → suc (length ss) ≤ cond b 0 (suc (first_empty ss))
        → (length ss ≤ first_empty ss → All (λ s. 0 < s.count) ss) → (0 < s.count) × All (λ s. 0 < s.count) ss
    go true e h ih = absurd (not-suc-le-zero h)
    go false e h ih = (pos s.count (eqb-false s.count 0 e), ih (le_of_suc-le-suc h))
      where
        pos : (n : ℕ) → (n ≡ 0 → ⊥) → 0 < n
        pos zero h = absurd (h refl)
        pos (suc n) h = omega arith

-- ---- the smallest count
pub every-all : (f : Slot → Bool) (ss : List Slot) → every f ss ≡ true → All (λ u. f u ≡ true) ss
unfolding every
every-all f [] e = tt
every-all f (u ∷ ss) e = (and_left (f u) (every f ss) e, every-all f ss (and_right (f u) (every f ss) e))

-- a count that some slot's count is below is not least
fails : (c n : ℕ) (ss : List Slot) → every (λ u. leb n u.count) ss ≡ false → All (λ u. c ≤ u.count) ss → c < n
unfolding every
fails c n [] e h = absurd (true≢false e)
fails c n (u ∷ ss) e h = go (leb n u.count) refl e (λ e. fails c n ss e h.1)
  where
    go : (b : Bool) → leb n u.count ≡ b → (b && every (λ u. leb n u.count) ss) ≡ false
        → (every (λ u. leb n u.count) ss ≡ false → c < n) → c < n
    go true p e ih = ih e
    go false p e ih = omega (arith, leb-false n u.count p, h.0)

-- a slot of the node, smallest, and leftmost on a tie
abbrev Leftmost : List Slot → ℕ → Type 0
Leftmost nd j = (0 < length nd → j < length nd) × All (λ u. (slot_at nd j).count ≤ u.count) nd × ((i : ℕ) → i < j → (slot_at nd j).count < (slot_at nd i).count)

leftmost : (nd : List Slot) → Leftmost nd (least_count nd)
unfolding least_count seek slot_at every
leftmost [] = (λ h. absurd (not-suc-le-zero h), tt, λ i h. absurd (not-suc-le-zero h))
leftmost (s ∷ ss) = go (every (λ u. leb s.count u.count) ss) refl (leftmost ss)
  where
    go : (b : Bool) → every (λ u. leb s.count u.count) ss ≡ b → Leftmost ss (least_count ss) → Leftmost (s ∷ ss) (cond b 0 (suc (least_count ss)))
    go true e ih = (λ h. omega arith, (omega arith, all_map _ _ (λ u p. leb-true s.count u.count p) ss (every-all _ ss e)), λ i h. absurd (not-suc-le-zero h))
    go false e ih = (λ h. omega (arith, ih.0 (longer ss e)), (le_of_lt l, ih.1), λ i h. left i h)
      where
        l : (slot_at ss (least_count ss)).count < s.count
        l = fails (slot_at ss (least_count ss)).count s.count ss e ih.1

        longer : (ss : List Slot) → every (λ u. leb s.count u.count) ss ≡ false → 0 < length ss
        longer [] e = absurd (true≢false e)
        longer (u ∷ ss) e = omega arith

        left : (i : ℕ) → i < suc (least_count ss) → (slot_at ss (least_count ss)).count < (slot_at (s ∷ ss) i).count
        left zero h = l
        left (suc i) h = ih.2 i (le_of_suc-le-suc h)

pub least-in : (nd : List Slot) → 0 < length nd → least_count nd < length nd
least-in nd = (leftmost nd).0

pub least-le : (nd : List Slot) → All (λ u. (slot_at nd (least_count nd)).count ≤ u.count) nd
least-le nd = (leftmost nd).1

-- ---- the lowest: no occupied slot leaves before it
pub record IsLowest (nd : List Slot) (j : ℕ) : Type 0 where
  pub inside : j < length nd
  pub occupied : 0 < (slot_at nd j).count
  pub least : All (λ u. 0 < u.count → UpTo (slot_at nd j).element u.element) nd

-- u is no rival of the element e
abbrev rival : Element → Slot → Bool
rival e u = is_empty u || not (precedes u.element e)

pos : (n : ℕ) → (n ≡ 0 → ⊥) → 0 < n
pos zero h = absurd (h refl)
pos (suc n) h = omega arith

pub filled : (s : Slot) → is_empty s ≡ false → 0 < s.count
unfolding is_empty
filled s e = pos s.count (eqb-false s.count 0 e)

pub void : (s : Slot) → is_empty s ≡ true → s.count ≡ 0
unfolding is_empty
void s e = eqb-true s.count 0 e

no_rival : (e : Element) (u : Slot) → rival e u ≡ true → 0 < u.count → UpTo e u.element
no_rival e u t h = go (is_empty u) refl (precedes u.element e) refl t
  where
    go : (b : Bool) → is_empty u ≡ b → (p : Bool) → precedes u.element e ≡ p → (b || not p) ≡ true → precedes u.element e ≡ false
    go true q p f t = absurd (not-suc-le-zero (subst (λ (n : ℕ). 0 < n) (void u q) h))
    go false q true f t = absurd (true≢false (sym t))
    go false q false f t = f

-- where there is a rival, one slot is occupied by an element that leaves earlier
beaten : (e c : Element) (ss : List Slot) → every (rival e) ss ≡ false → (0 < sum_counts ss) × (All (λ u. 0 < u.count → UpTo c u.element) ss → Before c e)
unfolding every sum_counts
beaten e c [] t = absurd (true≢false t)
beaten e c (u ∷ ss) t = go (is_empty u) refl (precedes u.element e) refl t (λ t. beaten e c ss t)
  where
    go : (a : Bool) → is_empty u ≡ a → (b : Bool) → precedes u.element e ≡ b → ((a || not b) && every (rival e) ss) ≡ false
        → (every (rival e) ss ≡ false → (0 < sum_counts ss) × (All (λ u. 0 < u.count → UpTo c u.element) ss → Before c e))
        → (0 < u.count + sum_counts ss) × ((0 < u.count → UpTo c u.element) × All (λ u. 0 < u.count → UpTo c u.element) ss → Before c e)
    go true p b q t ih = (omega (arith, (ih t).0), λ h. (ih t).1 h.1)
    go false p false q t ih = (omega (arith, (ih t).0), λ h. (ih t).1 h.1)
    go false p true q t ih = (omega (arith, filled u p), λ h. upto_before c u.element e (h.0 (filled u p)) q)

pub lowest-is : (nd : List Slot) → 0 < sum_counts nd → IsLowest nd (lowest nd)
unfolding lowest seek slot_at sum_counts
lowest-is [] h = absurd (not-suc-le-zero h)
lowest-is (s ∷ ss) h = go (is_empty s) refl (every (rival s.element) ss) refl (lowest-is ss)
  where
    go : (a : Bool) → is_empty s ≡ a → (b : Bool) → every (rival s.element) ss ≡ b → (0 < sum_counts ss → IsLowest ss (lowest ss))
        → IsLowest (s ∷ ss) (cond (not a && b) 0 (suc (lowest ss)))
    go true p b q ih =
        let i = ih (omega (arith, void s p)) in
        record { inside = omega (arith, i.inside); occupied = i.occupied; least = (λ h. absurd (not-suc-le-zero (subst (λ (n : ℕ). 0 < n) (void s p) h)), i.least) }
    go false p true q ih =
        record { inside = omega arith; occupied = filled s p; least = (λ h. upto-self s.element, all_map _ _ (no_rival s.element) ss (every-all _ ss q)) }
    go false p false q ih =
        let i = ih (beaten s.element s.element ss q).0 in
        record {
          inside = omega (arith, i.inside);
          occupied = i.occupied;
          least = (λ h. before-upto _ s.element ((beaten s.element _ ss q).1 i.least), i.least);
        }

-- no occupied slot has a lower rank
pub lowest-ranks : (nd : List Slot) (j : ℕ) → IsLowest nd j → All (λ u. 0 < u.count → (slot_at nd j).element.rank.0 ≤ u.element.rank.0) nd
lowest-ranks nd j i = all_map _ _ (λ u f h. upto-rank (slot_at nd j).element u.element (f h)) nd i.least

-- a bound on all counts bounds their sum
pub counts-lower : (c : ℕ) (nd : List Slot) → All (λ u. c ≤ u.count) nd → length nd * c ≤ sum_counts nd
unfolding sum_counts
counts-lower c [] h = omega arith
counts-lower c (u ∷ nd) h = omega (arith, h.0, counts-lower c nd h.1)

pub all-slot_at : (P : Slot → Type 0) (nd : List Slot) (j : ℕ) → All P nd → j < length nd → P (slot_at nd j)
unfolding slot_at
all-slot_at P nd j h lt = all-at P nd j vacant h lt

-- ---- leftmost: for the code that finds the place. A place with the laws is the place
pub least-left : (nd : List Slot) (i : ℕ) → i < least_count nd → (slot_at nd (least_count nd)).count < (slot_at nd i).count
least-left nd = (leftmost nd).2

pub least-unique : (nd : List Slot) (j : ℕ) → j < length nd
    → ((i : ℕ) → i < length nd → (slot_at nd j).count ≤ (slot_at nd i).count) → ((i : ℕ) → i < j → (slot_at nd j).count < (slot_at nd i).count) → least_count nd ≡ j
least-unique nd j inside le left =
    let b : ℕ = least_count nd in
    let b-in : b < length nd = least-in nd (omega arith) in
    let b-le : (slot_at nd b).count ≤ (slot_at nd j).count = all-slot_at (λ u. (slot_at nd b).count ≤ u.count) nd j (least-le nd) inside in
    let l : ¬ (b < j) = λ h. omega (arith, left b h) in
    let r : ¬ (j < b) = λ h. omega (arith, least-left nd j h, le b b-in) in
    omega arith

pub lowest-left : (nd : List Slot) → 0 < sum_counts nd → (i : ℕ) → i < lowest nd → 0 < (slot_at nd i).count → Before (slot_at nd (lowest nd)).element (slot_at nd i).element
unfolding lowest seek slot_at sum_counts
lowest-left [] h i l o = absurd (not-suc-le-zero h)
lowest-left (s ∷ ss) h i l o = go (is_empty s) refl (every (rival s.element) ss) refl i l o (lowest-left ss)
  where
    go : (a : Bool) → is_empty s ≡ a → (b : Bool) → every (rival s.element) ss ≡ b → (i : ℕ) → i < cond (not a && b) 0 (suc (lowest ss)) → 0 < (get_or (s ∷ ss) i vacant).count
        → (0 < sum_counts ss → (i : ℕ) → i < lowest ss → 0 < (slot_at ss i).count → Before (slot_at ss (lowest ss)).element (slot_at ss i).element)
        → Before (get_or (s ∷ ss) (cond (not a && b) 0 (suc (lowest ss))) vacant).element (get_or (s ∷ ss) i vacant).element
    go true p b q zero l o ih = absurd (not-suc-le-zero (subst (λ (n : ℕ). 0 < n) (void s p) o))
    go true p b q (suc i) l o ih = ih (omega (arith, void s p)) i (le_of_suc-le-suc l) o
    go false p true q i l o ih = absurd (not-suc-le-zero l)
    go false p false q zero l o ih = (beaten s.element _ ss q).1 (lowest-is ss (beaten s.element s.element ss q).0).least
    go false p false q (suc i) l o ih = ih (beaten s.element s.element ss q).0 i (le_of_suc-le-suc l) o

-- some slot is occupied
counts-pos : (nd : List Slot) (j : ℕ) → 0 < (slot_at nd j).count → 0 < sum_counts nd
unfolding slot_at sum_counts vacant
counts-pos [] j h = absurd (not-suc-le-zero h)
counts-pos (s ∷ ss) zero h = omega arith
counts-pos (s ∷ ss) (suc j) h = omega (arith, counts-pos ss j h)

pub lowest-unique : (nd : List Slot) (j : ℕ) → j < length nd → 0 < (slot_at nd j).count
    → ((i : ℕ) → i < length nd → 0 < (slot_at nd i).count → UpTo (slot_at nd j).element (slot_at nd i).element)
    → ((i : ℕ) → i < j → 0 < (slot_at nd i).count → Before (slot_at nd j).element (slot_at nd i).element) → lowest nd ≡ j
lowest-unique nd j inside occ le left =
    let b : ℕ = lowest nd in
    let some : 0 < sum_counts nd = counts-pos nd j occ in
    let i = lowest-is nd some in
    let b-le : UpTo (slot_at nd b).element (slot_at nd j).element = all-slot_at (λ u. 0 < u.count → UpTo (slot_at nd b).element u.element) nd j i.least inside occ in
    let l : ¬ (b < j) = λ h. before-not (slot_at nd j).element (slot_at nd b).element (left b h i.occupied) b-le in
    let r : ¬ (j < b) = λ h. before-not (slot_at nd b).element (slot_at nd j).element (lowest-left nd some j h occ) (le b i.inside i.occupied) in
    omega arith

-- where all are empty there is none, and the length stands for it
pub lowest-none : (nd : List Slot) → ((i : ℕ) → i < length nd → (slot_at nd i).count ≡ 0) → lowest nd ≡ length nd
unfolding lowest seek slot_at is_empty
lowest-none [] h = refl
lowest-none (s ∷ ss) h = rw (h 0 (omega arith)) (ap suc (lowest-none ss (λ i lt. h (suc i) (omega arith))))

-- a place with the law of the first empty one is that place
pub first-unique : (nd : List Slot) (j : ℕ) → j < length nd → ((a : ℕ) → a < j → (slot_at nd a).count ≡ 0 → ⊥) → (slot_at nd j).count ≡ 0 → first_empty nd ≡ j
unfolding first_empty seek slot_at is_empty
first-unique [] j h f g = absurd (not-suc-le-zero h)
first-unique (s ∷ nd) zero h f g = rw g
first-unique (s ∷ nd) (suc j) h f g = rw (ne_eqb s.count 0 (f 0 (omega arith))) (ap suc (first-unique nd j (le_of_suc-le-suc h) (λ a l. f (suc a) (omega arith)) g))

-- an empty slot has the smallest count, so the leftmost smallest is the first empty one where there is one
pub least-empty : (nd : List Slot) → 0 < length nd → (slot_at nd (least_count nd)).count ≡ 0 → first_empty nd ≡ least_count nd
least-empty nd h z = first-unique nd (least_count nd) (least-in nd h) (λ a l e. omega (arith, least-left nd a l)) z

pub least-full : (nd : List Slot) → ((slot_at nd (least_count nd)).count ≡ 0 → ⊥) → length nd ≤ first_empty nd
least-full nd f = go (ltb (first_empty nd) (length nd)) refl
  where
    go : (b : Bool) → ltb (first_empty nd) (length nd) ≡ b → length nd ≤ first_empty nd
    go true e =
        let i : first_empty nd < length nd = ltb-true (first_empty nd) (length nd) e in
        let z : (slot_at nd (first_empty nd)).count ≡ 0 = empty-found nd i in
        let l : (slot_at nd (least_count nd)).count ≤ (slot_at nd (first_empty nd)).count = all-slot_at (λ u. (slot_at nd (least_count nd)).count ≤ u.count) nd (first_empty nd) (least-le nd) i in
        absurd (f (omega arith))
    go false e = ltb-false (first_empty nd) (length nd) e
