-- How many elements of a tree pass a test; the sum of a sound node's counts; the lowest rank of a sound tree.
use Rattle.laws.specs.Prelude.{All, Bool, Element, [], ◌*◌, ◌+◌, ◌<◌, ◌∷◌, ◌≡◌, ◌≤◌, all_any, all_both, all_map, all_of_map, ap, arith, false, key, le-ltb, length, length-map, lt-ltb, ltb, ltb-true, refl, subst, suc, sum-le, sum-upper, sum-zero, sum_of, sym, true, zero, ℕ}
use lib.ListN.{get_or-map}
use Rattle.promise.specs.Prelude.{always, hit, lower}
use Rattle.tree_model.proofs.Choice.{lowest-is, lowest-ranks}
use Rattle.tree_model.specs.Prelude.{Fit, Slot, Sound, Tree, at, bare, held, low, low_of, many, nothing, own, own_by, room, slot_at, slots, something, sum_counts, vacant}

pub hit-le : (b : Bool) → hit b ≤ 1
hit-le true = omega arith
hit-le false = omega arith

own-le : (c : ℕ) (f g : Element → Bool) (e : Element) → hit (f e) ≤ hit (g e) → own_by c f e ≤ own_by c g e
own-le zero f g e h = omega arith
own-le (suc c) f g e h = h

pub many-le : (f g : Element → Bool) → ((e : Element) → hit (f e) ≤ hit (g e)) → (k : ℕ) (t : Tree k) → many f k t ≤ many g k t
unfolding many
many-le f g h zero t = omega arith
many-le f g h (suc k) t = sum-le _ _ t (all_any _ (λ z. omega (arith, own-le z.0.count f g z.0.element (h z.0.element), many-le f g h k z.1)) t)

pub many-held : (f : Element → Bool) (k : ℕ) (t : Tree k) → many f k t ≤ held k t
many-held f k t = many-le f always (λ e. hit-le (f e)) k t

pub not_lower : (r : ℕ) (e : Element) → r ≤ e.rank.0 → hit (lower r e) ≡ 0
not_lower r e h = ap hit (le-ltb e.rank.0 r h)

lower_mono : (r q : ℕ) (e : Element) → r ≤ q → hit (lower r e) ≤ hit (lower q e)
lower_mono r q e h = go (ltb e.rank.0 r) refl
  where
    go : (b : Bool) → ltb e.rank.0 r ≡ b → hit b ≤ hit (lower q e)
    go true p = rw (lt-ltb e.rank.0 q (omega (arith, ltb-true e.rank.0 r p))) (omega arith)
    go false p = omega arith

-- none lower than q, so none lower than r
pub none-lower : (r q k : ℕ) (t : Tree k) → r ≤ q → many (lower q) k t ≡ 0 → many (lower r) k t ≡ 0
none-lower r q k t h z = omega (arith, many-le (lower r) (lower q) (λ e. lower_mono r q e h) k t)

pub own-zero : (f : Element → Bool) (s : Slot) → s.count ≡ 0 → own f s ≡ 0
own-zero f s e = ap (λ (c : ℕ). own_by c f s.element) e

pub own-suc : (f : Element → Bool) (s : Slot) (c : ℕ) → s.count ≡ suc c → own f s ≡ hit (f s.element)
own-suc f s c e = ap (λ (c : ℕ). own_by c f s.element) e

-- ---- the sum of the counts
fit_count : (k : ℕ) (s : Slot) (t : Tree k) → Fit k s t → s.count ≡ own always s + held k t
unfolding vacant
fit_count k s t (nothing e h) = omega (arith, ap (λ (s : Slot). s.count) e, own-zero always s (ap (λ (s : Slot). s.count) e))
fit_count k s t (something c u) = omega (arith, own-suc always s (held k t) c)

pub sum-counts : (m k : ℕ) (t : Tree (suc k)) → All (λ z. Sound m k z.1 × Fit k z.0 z.1) t → sum_counts (slots k t) ≡ held (suc k) t
unfolding sum_counts slots many sum_of
sum-counts m k [] h = refl
sum-counts m k (z ∷ t) h = omega (arith, fit_count k z.0 z.1 h.0.1, sum-counts m k t h.1)

own-one : (c : ℕ) (f : Element → Bool) (e : Element) → own_by c f e ≤ 1
own-one zero f e = omega arith
own-one (suc c) f e = hit-le (f e)

pub held-room : (m k : ℕ) (t : Tree k) → Sound m k t → held k t ≤ room m k
unfolding many room
held-room m zero t s = omega arith
held-room m (suc k) t s =
    subst (λ (n : ℕ). held (suc k) t ≤ n * suc (room m k)) s.0
    (sum-upper _ (suc (room m k)) t (all_map _ _ (λ z h. omega (arith, own-one z.0.count always z.0.element, held-room m k z.1 h.0)) t s.1))

-- ---- slots and places
pub slot-at : (k : ℕ) (t : Tree (suc k)) (j : ℕ) → slot_at (slots k t) j ≡ (at k t j).0
unfolding slot_at slots at
slot-at k t j = get_or-map (λ (z : Slot × Tree k). z.0) t j (vacant, bare k)

pub length-slots : (k : ℕ) (t : Tree (suc k)) → length (slots k t) ≡ length t
unfolding slots
length-slots k t = length-map t (λ (z : Slot × Tree k). z.0)

pub all_slots : (k : ℕ) (P : Slot → Type 0) (t : Tree (suc k)) → All P (slots k t) → All (λ z. P z.0) t
unfolding slots
all_slots k P t h = all_of_map (λ (z : Slot × Tree k). z.0) P t h

-- ---- no element of a sound tree has a lower rank than the one that a take gives
pub fit-lower : (k r : ℕ) (s : Slot) (t : Tree k) → Fit k s t → (0 < s.count → r ≤ s.element.rank.0) → own (lower r) s + many (lower r) k t ≡ 0
unfolding vacant
fit-lower k r s t (nothing e h) l = omega (arith, own-zero (lower r) s (ap (λ (s : Slot). s.count) e), many-held (lower r) k t)
fit-lower k r s t (something c u) l =
    let h : r ≤ s.element.rank.0 = l (omega arith) in
    omega (arith, own-suc (lower r) s (held k t) c, not_lower r s.element h, none-lower r s.element.rank.0 k t h u)

pub low-least : (m k : ℕ) (t : Tree k) → Sound m k t → 0 < held k t → many (lower (low_of k t).rank.0) k t ≡ 0
unfolding many low_of low key
low-least m zero t s h = refl
low-least m (suc k) t s h =
    let i = lowest-is (slots k t) (subst (λ (n : ℕ). 0 < n) (sym (sum-counts m k t s.1)) h) in
    sum-zero _ t (all_map _ _ (λ z p. fit-lower k (low (slots k t)).rank.0 z.0 z.1 p.0.1 p.1) t
    (all_both _ _ t s.1 (all_slots k (λ u. 0 < u.count → (low (slots k t)).rank.0 ≤ u.element.rank.0) t (lowest-ranks (slots k t) _ i))))
