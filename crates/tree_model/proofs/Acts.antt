-- Put, take and swap keep a tree sound, and it holds what it held, with what came in, less what went out.
use Rattle.laws.specs.Prelude.{All, Bool, Element, ◌*◌, ◌+◌, ◌<◌, ◌∙◌, ◌≡◌, ◌≤◌, ◌⊎◌, all-at, all_map, all_set, arith, blank, false, inl, inr, length, length-set, ltb, ltb-false, ltb-true, not-suc-le-zero, pred, refl, set, subst, suc, sum-set, sym, true, zero, ℕ}
use native.Mathlib.Nat.{le_of_eq, le_of_lt, lt_of_not-le}
use lib.Seq.{set_out}
use Rattle.promise.specs.Prelude.{always, hit, lower}
use Rattle.tree_model.proofs.Choice.{all-slot_at, counts-lower, empty-found, least-in, least-le, lowest-is, none-empty}
use Rattle.tree_model.proofs.Many.{length-slots, low-least, many-held, none-lower, not_lower, own-suc, own-zero, slot-at, sum-counts}
use Rattle.tree_model.proofs.Rules.{put-rule, swap-rule, take-rule}
use Rattle.tree_model.specs.Prelude.{Can, Fit, Move, Nothing, Op, Put, Puts, Slot, Sound, Swap, Swaps, Take, Takes, Tree, act, at, bare, clears, ends, exchanges, first_empty, gain, goes, held, least_count, loss, low, low_of, lowest, many, move, nothing, op_move, own, passes, receives, room, slot_at, slots, something, stays, tree_move, vacant}

-- a slot that fits, by its count
fit-nothing : (k : ℕ) (s : Slot) (u : Tree k) → Fit k s u → s.count ≡ 0 → held k u ≡ 0
fit-nothing k s u (nothing e z) c = z
fit-nothing k s u (something d z) c = omega arith

fit-something : (k : ℕ) (s : Slot) (u : Tree k) → Fit k s u → 0 < s.count → (s.count ≡ suc (held k u)) × (many (lower s.element.rank.0) k u ≡ 0)
unfolding vacant
fit-something k s u (nothing e z) c = absurd (not-suc-le-zero (subst (λ (s : Slot). 0 < s.count) e c))
fit-something k s u (something d z) c = (d, z)

-- what an operation does to a tree
pub record Did (m k : ℕ) (t u : Tree k) (out gained : (Element → Bool) → ℕ) : Type 0 where
  pub sound : Sound m k u
  pub sum : (f : Element → Bool) → many f k u + out f ≡ many f k t + gained f

-- a move at a node, with what is left done below
abbrev played : (k : ℕ) → Move → Tree (suc k) → Tree (suc k)
played k v t = set t v.place (v.slot, act k v.rest (at k t v.place).1)

module _ (m k : ℕ) (t : Tree (suc k)) (s : Sound m (suc k) t) where
  pub sub-sound : (j : ℕ) → j < length t → Sound m k (at k t j).1
  unfolding at
  sub-sound j h = (all-at _ t j (vacant, bare k) s.1 h).0

  sub_fit : (j : ℕ) → j < length t → Fit k (slot_at (slots k t) j) (at k t j).1
  unfolding at
  sub_fit j h = rw slot-at (all-at _ t j (vacant, bare k) s.1 h).1

  -- a move does to the tree what it does to its slot and the tree below that
  did-move : (v : Move) (out gained : (Element → Bool) → ℕ) → v.place < length t
      → Sound m k (act k v.rest (at k t v.place).1)
      → Fit k v.slot (act k v.rest (at k t v.place).1)
      → ((f : Element → Bool) → own f v.slot + many f k (act k v.rest (at k t v.place).1) + out f
      ≡ own f (slot_at (slots k t) v.place) + many f k (at k t v.place).1 + gained f)
      → Did m (suc k) t (played k v t) out gained
  unfolding many at
  did-move v out gained h so fit eq =
      record {
        sound = (length-set t v.place _ ∙ s.0, all_set _ t v.place _ s.1 (so, fit));
        sum = λ f. omega (arith, sum-set (λ (z : Slot × Tree k). own f z.0 + many f k z.1) t v.place (v.slot, act k v.rest (at k t v.place).1) (vacant, bare k) h, rw slot-at at (eq f));
      }

  -- below the root a put meets no full node: the slot of the smallest count has room unless the whole node is full
  pub least-room : (j : ℕ) → j < length t → All (λ u. (slot_at (slots k t) j).count ≤ u.count) (slots k t) → 0 < (slot_at (slots k t) j).count
      → held (suc k) t < room m (suc k) → held k (at k t j).1 < room m k
  unfolding room
  least-room j inside le pos h = lt_of_not-le λ no_room.
      let c = fit-something k (slot_at (slots k t) j) (at k t j).1 (sub_fit j inside) pos in
      let l = counts-lower (suc (room m k)) (slots k t) (all_map _ _ (λ u p. omega (arith, c.0)) (slots k t) le) in
      omega (arith, rw (sum-counts m k t s.1, length-slots, s.0) at l)

  pub some-slots : held (suc k) t < room m (suc k) → 0 < length (slots k t)
  unfolding room
  some-slots h = rw (length-slots, s.0) (go m h)
    where
      go : (n : ℕ) → held (suc k) t < n * suc (room m k) → 0 < n
      go zero h = omega arith
      go (suc n) h = omega arith

  -- ---- the slot that a take or swap chooses
  pub record Chosen (j : ℕ) : Type 0 where
    pub inside : j < length t
    pub count : (slot_at (slots k t) j).count ≡ suc (held k (at k t j).1)

  pub chosen : 0 < held (suc k) t → Chosen (lowest (slots k t))
  chosen h =
      let j : ℕ = lowest (slots k t) in
      let i = lowest-is (slots k t) (subst (λ (n : ℕ). 0 < n) (sym (sum-counts m k t s.1)) h) in
      let inside : j < length t = subst (λ (n : ℕ). j < n) (length-slots k t) i.inside in
      let c = fit-something k (slot_at (slots k t) j) (at k t j).1 (sub_fit j inside) i.occupied in
      record { inside = inside; count = c.0 }

  -- the slot that a put goes on below
  pub put-chosen : length (slots k t) ≤ first_empty (slots k t) → held (suc k) t < room m (suc k)
      → (least_count (slots k t) < length t) × (0 < (slot_at (slots k t) (least_count (slots k t))).count)
  put-chosen h h' =
      let in-slots = least-in (slots k t) (some-slots h') in (
        subst (λ (n : ℕ). least_count (slots k t) < n) (length-slots k t) in-slots,
        all-slot_at (λ u. 0 < u.count) (slots k t) (least_count (slots k t)) (none-empty (slots k t) h) in-slots,
      )

  put-room : length (slots k t) ≤ first_empty (slots k t) → held (suc k) t < room m (suc k) → held k (at k t (least_count (slots k t))).1 < room m k
  put-room h h' = least-room (least_count (slots k t)) (put-chosen h h').0 (least-le (slots k t)) (put-chosen h h').1 h'

  -- with a count above one something is below
  pub some_below : 0 < held (suc k) t → 1 < (slot_at (slots k t) (lowest (slots k t))).count → 0 < held k (at k t (lowest (slots k t))).1
  some_below h e = omega (arith, (chosen h).count)

  -- what is left to do below can be done there
  put-can : (x : Element) (v : Move) → Puts x (slots k t) v → held (suc k) t < room m (suc k) → Can m k v.rest (at k t v.place).1
  put-can x v (ends h) c = tt
  put-can x v (exchanges h l) c = put-room h c
  put-can x v (passes h l) c = put-room h c

  take-can : (b : ℕ → Element) (v : Move) → Takes (slots k t) b v → 0 < held (suc k) t → Can m k v.rest (at k t v.place).1
  take-can b v (clears h) c = tt
  take-can b v (receives h) c = some_below c h

  swap-can : (x : Element) (b : ℕ → Element) (v : Move) → Swaps x (slots k t) b v → 0 < held (suc k) t → Can m k v.rest (at k t v.place).1
  swap-can x b v (stays h) c = tt
  swap-can x b v (goes h l) c = some_below c h

  pub rest-can : (o : Op) → Can m (suc k) o t → Can m k (tree_move k o t).rest (at k t (tree_move k o t).place).1
  unfolding tree_move op_move
  rest-can Nothing c = tt
  rest-can (Put x) c = put-can x _ (put-rule x (slots k t)) c
  rest-can Take c = take-can _ _ (take-rule (slots k t) _) c
  rest-can (Swap x) c = swap-can x _ _ (swap-rule x (slots k t) _) c

  module _ (ih : (o : Op) (u : Tree k) → Sound m k u → Can m k o u → Did m k u (act k o u) (loss k o u) (gain o)) where
    -- ---- put
    put-ends : (x : Element) → first_empty (slots k t) < length (slots k t) → Did m (suc k) t (played k (move (first_empty (slots k t)) x 1 Nothing) t) (loss (suc k) (Put x) t) (gain (Put x))
    put-ends x h =
        let j : ℕ = first_empty (slots k t) in
        let u : Tree k = (at k t j).1 in
        let inside : j < length t = subst (λ (n : ℕ). j < n) (length-slots k t) h in
        let c : (slot_at (slots k t) j).count ≡ 0 = empty-found (slots k t) h in
        let d = ih Nothing u (sub-sound j inside) tt in
        let z : held k u ≡ 0 = fit-nothing k (slot_at (slots k t) j) u (sub_fit j inside) c in
        let z' : held k (act k Nothing u) ≡ 0 = omega (arith, d.sum always) in
        did-move (move j x 1 Nothing) (loss (suc k) (Put x) t) (gain (Put x)) inside d.sound
        (something (omega arith) (omega (arith, many-held (lower x.rank.0) k (act k Nothing u))))
        (λ f. omega (arith, d.sum f, own-zero f (slot_at (slots k t) j) c))

    -- y stays in the slot and z goes on: of x and the slot's element, the one and the other
    put-goes : (x y z : Element) → length (slots k t) ≤ first_empty (slots k t) → held (suc k) t < room m (suc k)
        → y.rank.0 ≤ (slot_at (slots k t) (least_count (slots k t))).element.rank.0 → y.rank.0 ≤ z.rank.0
        → ((f : Element → Bool) → hit (f y) + hit (f z) ≡ hit (f x) + hit (f (slot_at (slots k t) (least_count (slots k t))).element))
        → Did m (suc k) t (played k (move (least_count (slots k t)) y (suc (slot_at (slots k t) (least_count (slots k t))).count) (Put z)) t) (loss (suc k) (Put x) t) (gain (Put x))
    put-goes x y z h h' le le' both =
        let j : ℕ = least_count (slots k t) in
        let u : Tree k = (at k t j).1 in
        let o : Slot = slot_at (slots k t) j in
        let inside : j < length t = (put-chosen h h').0 in
        let c = fit-something k o u (sub_fit j inside) (put-chosen h h').1 in
        let d = ih (Put z) u (sub-sound j inside) (put-room h h') in
        let r : ℕ = y.rank.0 in
        did-move (move j y (suc o.count) (Put z)) (loss (suc k) (Put x) t) (gain (Put x)) inside d.sound
        (something (omega (arith, d.sum always, c.0))
        (omega (arith, d.sum (lower r), not_lower r z le', none-lower r o.element.rank.0 k u le c.1)))
        (λ f. omega (arith, d.sum f, own-suc f o (held k u) c.0, both f))

    put-did : (x : Element) (v : Move) → Puts x (slots k t) v → held (suc k) t < room m (suc k) → Did m (suc k) t (played k v t) (loss (suc k) (Put x) t) (gain (Put x))
    put-did x v (ends h) c = put-ends x h
    put-did x v (exchanges h l) c = put-goes x x _ h c (le_of_lt l) (le_of_lt l) (λ f. refl)
    put-did x v (passes h l) c = put-goes x _ x h c (omega arith) l (λ f. omega arith)

    -- ---- take
    take-did : (v : Move) → Takes (slots k t) (λ j. low_of k (at k t j).1) v → 0 < held (suc k) t → Did m (suc k) t (played k v t) (loss (suc k) Take t) (gain Take)
    unfolding low_of low vacant blank
    take-did v (clears e) h =
        let j : ℕ = lowest (slots k t) in
        let u : Tree k = (at k t j).1 in
        let o : Slot = slot_at (slots k t) j in
        let c = chosen h in
        let d = ih Nothing u (sub-sound j c.inside) tt in
        did-move (move j blank 0 Nothing) (loss (suc k) Take t) (gain Take) c.inside d.sound
        (nothing refl (omega (arith, d.sum always, c.count)))
        (λ f. omega (arith, d.sum f, own-suc f o (held k u) c.count))
    take-did v (receives e) h =
        let j : ℕ = lowest (slots k t) in
        let u : Tree k = (at k t j).1 in
        let o : Slot = slot_at (slots k t) j in
        let c = chosen h in
        let more : 0 < held k u = some_below h e in
        let d = ih Take u (sub-sound j c.inside) more in
        let r : ℕ = (low_of k u).rank.0 in
        let left : pred o.count ≡ suc (held k (act k Take u)) = omega (arith, d.sum always, c.count) in
        did-move (move j (low_of k u) (pred o.count) Take) (loss (suc k) Take t) (gain Take) c.inside d.sound
        (something left
        (omega (arith, d.sum (lower r), low-least m k u (sub-sound j c.inside) more)))
        (λ f. omega (
          arith,
          d.sum f,
          own-suc f o (held k u) c.count,
          own-suc f (record { element = low_of k u; count = pred o.count }) (held k (act k Take u)) left,
        ))

    -- ---- swap
    -- nothing lower than x is below: nothing is, at count 1; or the lowest there is not lower
    none_below : (x : Element) → 0 < held (suc k) t
        → ((slot_at (slots k t) (lowest (slots k t))).count ≤ 1) ⊎ (x.rank.0 ≤ (low_of k (at k t (lowest (slots k t))).1).rank.0)
        → many (lower x.rank.0) k (at k t (lowest (slots k t))).1 ≡ 0
    none_below x h (inl e) = omega (arith, many-held (lower x.rank.0) k (at k t (lowest (slots k t))).1, (chosen h).count)
    none_below x h (inr e) = go (ltb 0 (held k (at k t (lowest (slots k t))).1)) refl
      where
        u : Tree k
        u = (at k t (lowest (slots k t))).1

        go : (b : Bool) → ltb 0 (held k u) ≡ b → many (lower x.rank.0) k u ≡ 0
        go true p = none-lower x.rank.0 (low_of k u).rank.0 k u e (low-least m k u (sub-sound _ (chosen h).inside) (ltb-true 0 (held k u) p))
        go false p = omega (arith, many-held (lower x.rank.0) k u, ltb-false 0 (held k u) p)

    swap-did : (x : Element) (v : Move) → Swaps x (slots k t) (λ j. low_of k (at k t j).1) v → 0 < held (suc k) t → Did m (suc k) t (played k v t) (loss (suc k) (Swap x) t) (gain (Swap x))
    unfolding low_of low
    swap-did x v (stays e) h =
        let j : ℕ = lowest (slots k t) in
        let u : Tree k = (at k t j).1 in
        let o : Slot = slot_at (slots k t) j in
        let c = chosen h in
        let d = ih Nothing u (sub-sound j c.inside) tt in
        did-move (move j x o.count Nothing) (loss (suc k) (Swap x) t) (gain (Swap x)) c.inside d.sound
        (something (omega (arith, d.sum always, c.count)) (omega (arith, d.sum (lower x.rank.0), none_below x h e)))
        (λ f. omega (arith, d.sum f, own-suc f o (held k u) c.count, own-suc f (record { element = x; count = o.count }) (held k u) c.count))
    swap-did x v (goes e l) h =
        let j : ℕ = lowest (slots k t) in
        let u : Tree k = (at k t j).1 in
        let o : Slot = slot_at (slots k t) j in
        let c = chosen h in
        let more : 0 < held k u = some_below h e in
        let d = ih (Swap x) u (sub-sound j c.inside) more in
        let r : ℕ = (low_of k u).rank.0 in
        let left : o.count ≡ suc (held k (act k (Swap x) u)) = omega (arith, d.sum always, c.count) in
        did-move (move j (low_of k u) o.count (Swap x)) (loss (suc k) (Swap x) t) (gain (Swap x)) c.inside d.sound
        (something left
        (omega (arith, d.sum (lower r), not_lower r x (le_of_lt l), low-least m k u (sub-sound j c.inside) more)))
        (λ f. omega (arith, d.sum f, own-suc f o (held k u) c.count, own-suc f (record { element = low_of k u; count = o.count }) (held k (act k (Swap x) u)) left))

-- every operation that can be done
pub acts : (m k : ℕ) (o : Op) (t : Tree k) → Sound m k t → Can m k o t → Did m k t (act k o t) (loss k o t) (gain o)
unfolding act many room tree_move op_move
acts m zero Nothing t s c = record { sound = tt; sum = λ f. refl }
acts m zero (Put x) t s c = absurd (not-suc-le-zero c)
acts m zero Take t s c = absurd (not-suc-le-zero c)
acts m zero (Swap x) t s c = absurd (not-suc-le-zero c)
acts m (suc k) Nothing t s c =
    subst (λ (u : Tree (suc k)). Did m (suc k) t u (λ f. 0) (λ f. 0))
    (sym (set_out t (length (slots k t)) (record { element = blank; count = 0 }, act k Nothing (at k t (length (slots k t))).1) (le_of_eq (sym (length-slots k t)))))
    (record { sound = s; sum = λ f. refl })
acts m (suc k) (Put x) t s c = put-did m k t s (acts m k) x _ (put-rule x (slots k t)) c
acts m (suc k) Take t s c = take-did m k t s (acts m k) _ (take-rule (slots k t) _) c
acts m (suc k) (Swap x) t s c = swap-did m k t s (acts m k) x _ (swap-rule x (slots k t) _) c
