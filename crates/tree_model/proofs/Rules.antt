-- The definitions are 01's rules, in 01's own words. What comes after goes by these laws.
use Rattle.laws.specs.Prelude.{Bool, Element, List, Request, [], ◌<◌, ◌||◌, ◌∷◌, ◌≡◌, ◌≤◌, blank, cond, eqb, eqb-false, false, get_or, inl, inr, key, le_of_suc-le-suc, leb, leb-false, leb-true, length, ltb, ltb-false, ltb-true, not, not-suc-le-zero, refl, suc, true, zero, ℕ}
use Rattle.promise.proofs.Calls.{last-comes}
use Rattle.strip.proofs.Order.{before-says, UpTo, upto-rank, upto-says, upto-tag}
use Rattle.tree_model.proofs.Choice.{all-slot_at, empty-found, least-in, least-le, least-left, lowest-is, lowest-left}
use Rattle.tree_model.specs.Prelude.{Comes, IsFirst, IsLeast, IsLowest, LowerTag, Put, Puts, Slot, Swaps, Takes, clears, ends, exchanges, first_empty, goes, is_empty, keep, least_count, low, lowest, move, op_of, pass, passes, put_by, put_move, receives, rule, seek, slot_at, stays, sum_counts, swap_by, swap_move, take_by, take_move, vacant}

-- ---- the choices
first-left : (nd : List Slot) (i : ℕ) → i < first_empty nd → (slot_at nd i).count ≡ 0 → ⊥
unfolding first_empty seek slot_at is_empty
first-left [] i h e = not-suc-le-zero h
first-left (s ∷ ss) i h e = go (eqb s.count 0) refl i h e (λ i h e. first-left ss i h e)
  where
    go : (b : Bool) → eqb s.count 0 ≡ b → (i : ℕ) → i < cond b 0 (suc (first_empty ss)) → (get_or (s ∷ ss) i vacant).count ≡ 0
        → ((i : ℕ) → i < first_empty ss → (slot_at ss i).count ≡ 0 → ⊥) → ⊥
    go true p i h e ih = not-suc-le-zero h
    go false p zero h e ih = eqb-false s.count 0 p e
    go false p (suc i) h e ih = ih i (le_of_suc-le-suc h) e

pub first-is : (nd : List Slot) → first_empty nd < length nd → IsFirst nd (first_empty nd)
first-is nd h = record { inside = h; empty = empty-found nd h; first = first-left nd }

pub least-is : (nd : List Slot) → 0 < length nd → IsLeast nd (least_count nd)
least-is nd h = record { inside = least-in nd h; smallest = λ i l. all-slot_at (λ u. (slot_at nd (least_count nd)).count ≤ u.count) nd i (least-le nd) l; leftmost = least-left nd }

no-earlier : (nd : List Slot) → 0 < sum_counts nd → (j : ℕ) → j < length nd → 0 < (slot_at nd j).count → UpTo (slot_at nd (lowest nd)).element (slot_at nd j).element
no-earlier nd h j l o = all-slot_at (λ u. 0 < u.count → UpTo (slot_at nd (lowest nd)).element u.element) nd j (lowest-is nd h).least l o

pub lowest-rank : (nd : List Slot) → 0 < sum_counts nd → IsLowest nd (lowest nd)
lowest-rank nd h =
    let i = lowest-is nd h in
    record {
      inside = i.inside;
      occupied = i.occupied;
      least = λ j l o. upto-says (slot_at nd (lowest nd)).element (slot_at nd j).element (no-earlier nd h j l o);
      leftmost = λ j l o. before-says (slot_at nd (lowest nd)).element (slot_at nd j).element (lowest-left nd h j l o);
    }

-- "equal ranks within one node .. leave by lower tag": what a take or a swap gives at a node, and what is lifted from one
pub lower-tag : (nd : List Slot) → 0 < sum_counts nd → LowerTag nd (low nd)
unfolding low
lower-tag nd h =
    let i = lowest-is nd h in
    record {
      place = lowest nd;
      inside = i.inside;
      occupied = i.occupied;
      stands = refl;
      rank = λ j l o. upto-rank (slot_at nd (lowest nd)).element (slot_at nd j).element (no-earlier nd h j l o);
      tag = λ j l o e. upto-tag (slot_at nd (lowest nd)).element (slot_at nd j).element (no-earlier nd h j l o) e;
    }

-- ---- the steps
pub put-rule : (x : Element) (nd : List Slot) → Puts x nd (put_move x nd)
unfolding put_move put_by keep pass key
put-rule x nd = go (ltb (first_empty nd) (length nd)) refl
  where
    s : Slot
    s = slot_at nd (least_count nd)

    over : length nd ≤ first_empty nd → (b : Bool) → ltb x.rank.0 s.element.rank.0 ≡ b
        → Puts x nd (move (least_count nd) (cond b x s.element) (suc s.count) (Put (cond b s.element x)))
    over h true f = exchanges h (ltb-true x.rank.0 s.element.rank.0 f)
    over h false f = passes h (ltb-false x.rank.0 s.element.rank.0 f)

    go : (a : Bool) → ltb (first_empty nd) (length nd) ≡ a → Puts x nd (put_by a x nd)
    go true e = ends (ltb-true (first_empty nd) (length nd) e)
    go false e = over (ltb-false (first_empty nd) (length nd) e) (ltb x.rank.0 s.element.rank.0) refl

pub take-rule : (nd : List Slot) (below : ℕ → Element) → Takes nd below (take_move nd below)
unfolding take_move take_by blank
take-rule nd below = go (leb (slot_at nd (lowest nd)).count 1) refl
  where
    go : (t : Bool) → leb (slot_at nd (lowest nd)).count 1 ≡ t → Takes nd below (take_by t nd below)
    go true e = clears (leb-true (slot_at nd (lowest nd)).count 1 e)
    go false e = receives (leb-false (slot_at nd (lowest nd)).count 1 e)

pub swap-rule : (x : Element) (nd : List Slot) (below : ℕ → Element) → Swaps x nd below (swap_move x nd below)
unfolding swap_move swap_by key
swap-rule x nd below = go (leb (slot_at nd (lowest nd)).count 1) refl (ltb (below (lowest nd)).rank.0 x.rank.0) refl
  where
    go : (a : Bool) → leb (slot_at nd (lowest nd)).count 1 ≡ a → (b : Bool) → ltb (below (lowest nd)).rank.0 x.rank.0 ≡ b → Swaps x nd below (swap_by (a || not b) x nd below)
    go true e b f = stays (inl (leb-true (slot_at nd (lowest nd)).count 1 e))
    go false e true f = goes (leb-false (slot_at nd (lowest nd)).count 1 e) (ltb-true (below (lowest nd)).rank.0 x.rank.0 f)
    go false e false f = stays (inr (ltb-false (below (lowest nd)).rank.0 x.rank.0 f))

-- ---- the request
pub comes : (c : ℕ) (r : Request) (nd : List Slot) → Comes c nd r (rule c r nd)
unfolding rule
comes c r nd = last-comes op_of c r (sum_counts nd) (low nd)
