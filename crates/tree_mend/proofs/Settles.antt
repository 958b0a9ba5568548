-- A tree that is only pushed into fills evenly: after n pushes place j of a node has had n / m of them, and one more where j is below n mod m. So the next
-- push goes to place n mod m, at every node of its path.
use Rattle.laws.specs.Prelude.{Bool, Element, List, Push, ◌%◌, ◌*◌, ◌+◌, ◌-◌, ◌/◌, ◌<◌, ◌∙◌, ◌≡◌, ◌≤◌, ◌⊎◌, all-at, ap, arith, cond, eqb, eqb-false, eqb-true, false, get_or, get_or-set_other, get_or-set_same, inl, inr, keep, le-ltb, length, lt-ltb, ltb, ltb-false, ltb-true, mul-le-mul_right, pass, refl, set, subst, suc, sym, true, untagged, zero, ℕ}
use native.Mathlib.Nat.{add-mul, div-add-mod', div-eq_of_lt, div-eq_of_lt-le, div-mul-le_self, mod-eq_of_lt, mod-lt, mul_comm, zero-div, zero-mod}
use Rattle.promise.proofs.Kept.{let-in}
use Rattle.promise.specs.Prelude.{always, hit}
use Rattle.tree_model.proofs.Laws.{Kept, act-none, called-kept, empty-found, first-unique, hang-at, is-queue, kept-sum, least-unique, length-slots, level-node, levels-before, node-length, node-slot, op-work, order-pos, root-commutes, root-path, size_room, slot-at, start-empty, start-kept, stored-holding, sub-sound, words-apply, words-none}
use Rattle.tree_model.specs.Prelude.{Levels, Outcome, Shape, Sound, Tree, act, apply_words, at, bare, called, first_empty, held, holding, is_nothing, least_count, level_move, levels_of, many, move, node_of, op_move, own, own_by, put_by, put_move, room, root_of, slot_at, slot_of, slots, start, step_words, step_work, stored_count, sum_counts, tree_move, tree_of, under, vacant, work, write}
use Rattle.tree_model.specs.declared.Move.{Move}
use Rattle.tree_model.specs.declared.Op.TheVariants.{Nothing, Put}
use Rattle.tree_model.specs.declared.Slot.{Slot}
use Rattle.tree_mend_model.proofs.Laws.{Here, child-here, node-slots, push-sum, root-here, tree_is, zero-all}
use Rattle.tree_mend.specs.Settle.{settled, slot}

-- how many of n pushes place j has had
unfoldable pub share : (m n j : ℕ) → ℕ
share m n j = n / m + hit (ltb j (n % m))

-- ---- of one push more
module _ (m n : ℕ) (some : 0 < m) where
  parts : n / m * m + n % m ≡ n
  parts = div-add-mod' n m

  last-part : (d : ℕ) → (n + 1) / m ≡ d → d * m + (n + 1) % m ≡ n + 1
  last-part d e = ap (λ (q : ℕ). q * m + (n + 1) % m) (sym e) ∙ div-add-mod' (n + 1) m

  abbrev Next : Type 0
  Next = (((n + 1) / m ≡ n / m) × ((n + 1) % m ≡ n % m + 1)) ⊎ ((n % m + 1 ≡ m) × ((n + 1) / m ≡ n / m + 1) × ((n + 1) % m ≡ 0))

  next : Next
  next = go (ltb (n % m + 1) m) refl
    where
      go : (b : Bool) → ltb (n % m + 1) m ≡ b → Next
      go true e =
          let l : n % m + 1 < m = ltb-true (n % m + 1) m e in
          let d : (n + 1) / m ≡ n / m = div-eq_of_lt-le m (omega (arith, parts)) (omega (arith, parts, add-mul (n / m) 1 m)) in
          inl (d, omega (arith, parts, last-part (n / m) d))
      go false e =
          let l : m ≤ n % m + 1 = ltb-false (n % m + 1) m e in
          let r : n % m < m = mod-lt n some in
          let d : (n + 1) / m ≡ n / m + 1 = div-eq_of_lt-le m (omega (arith, parts, add-mul (n / m) 1 m)) (omega (arith, parts, add-mul (n / m) 1 m, add-mul (n / m + 1) 1 m)) in
          inr (omega arith, d, omega (arith, parts, last-part (n / m + 1) d, add-mul (n / m) 1 m))

  pub share-here : share m n (n % m) ≡ n / m
  unfolding share
  share-here = rw (le-ltb (n % m) (n % m) (omega arith)) (omega arith)

  share-least : (j : ℕ) → n / m ≤ share m n j
  unfolding share
  share-least j = omega arith

  share-left : (j : ℕ) → j < n % m → share m n j ≡ n / m + 1
  unfolding share
  share-left j h = rw (lt-ltb j (n % m) h) refl

  share-more : share m (n + 1) (n % m) ≡ n / m + 1
  unfolding share
  share-more = go next
    where
      go : Next → (n + 1) / m + hit (ltb (n % m) ((n + 1) % m)) ≡ n / m + 1
      go (inl d) = rw (d.0, d.1, lt-ltb (n % m) (n % m + 1) (omega arith)) refl
      go (inr d) = rw (d.1, d.2, le-ltb (n % m) 0 (omega arith)) (omega arith)

  share_other : (j : ℕ) → j < m → (j ≡ n % m → ⊥) → share m (n + 1) j ≡ share m n j
  unfolding share
  share_other j h ne = go (ltb j (n % m)) refl next
    where
      go : (b : Bool) → ltb j (n % m) ≡ b → Next → (n + 1) / m + hit (ltb j ((n + 1) % m)) ≡ n / m + hit (ltb j (n % m))
      go true e (inl d) = let l : j < n % m = ltb-true j (n % m) e in rw (d.0, d.1, e, lt-ltb j (n % m + 1) (omega arith)) refl
      go false e (inl d) = let l : n % m ≤ j = ltb-false j (n % m) e in rw (d.0, d.1, e, le-ltb j (n % m + 1) (omega (arith, ne))) refl
      go true e (inr d) = rw (d.1, d.2, e, le-ltb j 0 (omega arith)) (omega arith)
      go false e (inr d) = let l : n % m ≤ j = ltb-false j (n % m) e in absurd (ne (omega (arith, d.0)))

-- as many pushes as there are places: each has had one
pub high : (m n : ℕ) → 0 < m → m ≤ n → 1 ≤ n / m
high m n some h = go (n / m) refl
  where
    go : (d : ℕ) → n / m ≡ d → 1 ≤ d
    go zero e = absurd (omega (arith, ap (λ (q : ℕ). q * m) e, div-add-mod' n m, mod-lt n some))
    go (suc d) e = omega arith

pub one-deep : (m n : ℕ) → n < room m 1 → n < m
unfolding room
one-deep m n d = omega arith

-- ---- the step of a put at a node that has filled evenly
module _ (m n : ℕ) (some : 0 < m) (nd : List Slot) (wide : length nd ≡ m) (even : (j : ℕ) → j < m → (slot_at nd j).count ≡ share m n j) (x : Element) where
  here : n % m < m
  here = mod-lt n some

  pub put_first : n < m → put_move x nd ≡ move n x 1 Nothing
  unfolding put_move put_by
  put_first h =
      let r : n % m ≡ n = mod-eq_of_lt h in let d : n / m ≡ 0 = div-eq_of_lt h in
      let f : first_empty nd ≡ n =
      first-unique nd n (omega arith) (λ a l z. omega (arith, even a (omega arith), share-left m n some a (omega arith)))
      (even n h ∙ ap (share m n) (sym r) ∙ share-here m n some ∙ d) in
      rw (f, lt-ltb n (length nd) (omega arith)) (ap (λ (j : ℕ). move j x 1 Nothing) f)

  pub put-least : m ≤ n → put_move x nd ≡ move (n % m) (keep x (slot_at nd (n % m)).element) (n / m + 1) (Put (pass x (slot_at nd (n % m)).element))
  unfolding put_move put_by
  put-least h =
      let l : least_count nd ≡ n % m =
      least-unique nd (n % m) (omega (arith, here)) (λ i lt. omega (arith, even (n % m) here, even i (omega arith), share-here m n some, share-least m n some i))
      (λ i lt. omega (arith, even (n % m) here, even i (omega (arith, here)), share-here m n some, share-left m n some i lt)) in
      let c : suc (slot_at nd (n % m)).count ≡ n / m + 1 = omega (arith, even (n % m) here, share-here m n some) in
      rw (le-ltb (first_empty nd) (length nd) full, l, c) refl
    where
      full : length nd ≤ first_empty nd
      full = go (ltb (first_empty nd) (length nd)) refl
        where
          go : (b : Bool) → ltb (first_empty nd) (length nd) ≡ b → length nd ≤ first_empty nd
          go true e =
              let i : first_empty nd < length nd = ltb-true (first_empty nd) (length nd) e in
              absurd (omega (arith, empty-found nd i, even (first_empty nd) (omega arith), share-least m n some (first_empty nd), high m n some h))
          go false e = ltb-false (first_empty nd) (length nd) e

-- ---- the tree
-- after n pushes: the counts, and so on below
abbrev pub Even : (m k n : ℕ) → Tree k → Type 0
Even m zero n t = Unit {0}
Even m (suc k) n t = (j : ℕ) → j < m → ((at k t j).0.count ≡ share m n j) × Even m k (share m n j - 1) (at k t j).1

-- of n pushes that a node has room for, those that go on below have room there
pub below-deep : (m k n : ℕ) → 0 < m → n < room m (suc k) → m ≤ n → n / m - 1 < room m k
unfolding room
below-deep m k n some h l = go (ltb (n / m - 1) (room m k)) refl
  where
    go : (b : Bool) → ltb (n / m - 1) (room m k) ≡ b → n / m - 1 < room m k
    go true e = ltb-true (n / m - 1) (room m k) e
    go false e =
        let r : suc (room m k) ≤ n / m = omega (arith, high m n some l, ltb-false (n / m - 1) (room m k) e) in
        absurd (omega (arith, mul-le-mul_right m r, mul_comm m (suc (room m k)), div-mul-le_self n m))

module _ (m : ℕ) (some : 0 < m) where
  even-slots : (k n : ℕ) (t : Tree (suc k)) → Even m (suc k) n t → (j : ℕ) → j < m → (slot_at (slots k t) j).count ≡ share m n j
  even-slots k n t e j h = ap (λ (s : Slot). s.count) (slot-at k t j) ∙ (e j h).0

  -- a place's slot and tree after one is written
  set-even : (k n p : ℕ) (t : Tree (suc k)) (s : Slot) (u : Tree k) → length t ≡ m → Even m (suc k) n t → p ≡ n % m → s.count ≡ n / m + 1 → Even m k (n / m) u
      → Even m (suc k) (n + 1) (set t p (s, u))
  unfolding at
  set-even k n p t s u wide e r c d j h = go (eqb j p) refl
    where
      go : (b : Bool) → eqb j p ≡ b → ((at k (set t p (s, u)) j).0.count ≡ share m (n + 1) j) × Even m k (share m (n + 1) j - 1) (at k (set t p (s, u)) j).1
      go true f =
          let i : j ≡ n % m = eqb-true j p f ∙ r in
          let v : share m (n + 1) j ≡ n / m + 1 = ap (share m (n + 1)) i ∙ share-more m n some in
          let w : n / m ≡ share m (n + 1) j - 1 = omega (arith, v) in
          subst (λ (z : Slot × Tree k). (z.0.count ≡ share m (n + 1) j) × Even m k (share m (n + 1) j - 1) z.1)
          (sym (ap (λ (a : ℕ). get_or (set t p (s, u)) a (vacant, bare k)) (eqb-true j p f) ∙ get_or-set_same t p (s, u) (vacant, bare k) (omega (arith, mod-lt n some))))
          (c ∙ sym v, subst (λ (a : ℕ). Even m k a u) w d)
      go false f =
          let v : share m (n + 1) j ≡ share m n j = share_other m n some j h (λ i. eqb-false j p f (i ∙ sym r)) in
          subst (λ (z : Slot × Tree k). (z.0.count ≡ share m (n + 1) j) × Even m k (share m (n + 1) j - 1) z.1)
          (sym (get_or-set_other t p j (s, u) (vacant, bare k) (eqb-false j p f)))
          ((e j h).0 ∙ sym v, subst (λ (a : ℕ). Even m k (a - 1) (at k t j).1) (sym v) (e j h).1)

  -- a put keeps it even
  pub even-put : (k n : ℕ) (x : Element) (t : Tree k) → Sound m k t → Even m k n t → n < room m k → Even m k (n + 1) (act k (Put x) t)
  unfolding act tree_move op_move
  even-put zero n x t so e h = tt
  even-put (suc k) n x t so e h = go (ltb n m) refl (λ y u so e h. even-put k (n / m - 1) y u so e h)
    where
      wide : length (slots k t) ≡ m
      wide = length-slots k t ∙ so.0

      after : Move → Tree (suc k)
      after v = set t v.place (v.slot, act k v.rest (at k t v.place).1)

      go : (b : Bool) → ltb n m ≡ b
          → ((y : Element) (u : Tree k) → Sound m k u → Even m k (n / m - 1) u → n / m - 1 < room m k → Even m k (n / m - 1 + 1) (act k (Put y) u))
          → Even m (suc k) (n + 1) (set t (put_move x (slots k t)).place ((put_move x (slots k t)).slot, act k (put_move x (slots k t)).rest (at k t (put_move x (slots k t)).place).1))
      go true l ih =
          let h' : n < m = ltb-true n m l in
          let d : n / m ≡ 0 = div-eq_of_lt h' in
          let z : share m n n - 1 ≡ n / m = omega (arith, ap (share m n) (sym (mod-eq_of_lt h')), share-here m n some) in
          subst (Even m (suc k) (n + 1)) (sym (ap after (put_first m n some (slots k t) wide (even-slots k n t e) x h')))
          (set-even k n n t _ _ so.0 e (sym (mod-eq_of_lt h')) (omega arith)
          (subst (Even m k (n / m)) (sym (act-none k (at k t n).1)) (subst (λ (a : ℕ). Even m k a (at k t n).1) z (e n h').1)))
      go false l ih =
          let h' : m ≤ n = ltb-false n m l in
          let p : ℕ = n % m in
          let r : p < m = mod-lt n some in
          let c : share m n p - 1 ≡ n / m - 1 = ap (λ (a : ℕ). a - 1) (share-here m n some) in
          let y : Element = pass x (slot_at (slots k t) p).element in
          let hi : n / m - 1 + 1 ≡ n / m = omega (arith, high m n some h') in
          subst (Even m (suc k) (n + 1)) (sym (ap after (put-least m n some (slots k t) wide (even-slots k n t e) x h')))
          (set-even k n p t _ _ so.0 e refl refl
          (subst (λ (a : ℕ). Even m k a (act k (Put y) (at k t p).1)) hi
          (ih y (at k t p).1 (sub-sound m k t so p (omega (arith, so.0))) (subst (λ (a : ℕ). Even m k a (at k t p).1) c (e p r).1) (below-deep m k n some h h'))))

  -- ---- on the words
  -- what a put's step does at node q: node i of the level of c nodes that begins at slot b
  put_step : (k b c i q : ℕ) (x : Element) (ws : List ℕ) → Here m b c i q → (v : Move) → put_move x (node_of m ws (q * m)) ≡ v
      → apply_words m (suc k) (work (Put x) i) b c ws ≡ apply_words m k (work v.rest (i * m + v.place)) (b + c * m) (c * m) (write ws (q * m + v.place) v.slot)
  unfolding apply_words step_words step_work level_move op_move is_nothing work
  put_step k b c i q x ws h v e =
      ap (λ (w : Move). apply_words m k (work w.rest (i * m + w.place)) (b + c * m) (c * m) (write ws (b + i * m + w.place) w.slot))
      (ap (put_move x) (level-node m ws b c i h.inside ∙ ap (node_of m ws) h.node) ∙ e)
      ∙ ap (λ (f : ℕ). apply_words m k (work v.rest (i * m + v.place)) (b + c * m) (c * m) (write ws (f + v.place) v.slot)) h.node

  -- the node and the trees below it, of a tree that is even
  node-even : (k b c i q n : ℕ) (ws : List ℕ) → Here m b c i q → Even m (suc k) n (tree_of m (suc k) (levels_of m (suc k) ws b c) i) → (j : ℕ) → j < m
      → ((slot_at (node_of m ws (q * m)) j).count ≡ share m n j) × Even m k (share m n j - 1) (tree_of m k (under m k ws b c) (i * m + j))
  unfolding at node_of
  node-even k b c i q n ws h e j l =
      let t = subst (Even m (suc k) n) (tree_is m ws k b c i q h) e in (
        ap (λ (nd : List Slot). (slot_at nd j).count) (sym (node-slots m ws k b c i q)) ∙ even-slots k n _ t j l,
        subst (Even m k (share m n j - 1)) (hang-at (node_of m ws (q * m)) (λ j. tree_of m k (under m k ws b c) (i * m + j)) j _ (omega (arith, node-length m ws (q * m)))) (t j l).1,
      )

  -- THE LAW: a put at a node that n pushes have filled evenly is push n, by arithmetic
  pub put-settles : (k b c i q n : ℕ) (x : Element) (ws : List ℕ) → Here m b c i q → Even m (suc k) n (tree_of m (suc k) (levels_of m (suc k) ws b c) i) → n < room m (suc k)
      → apply_words m (suc k) (work (Put x) i) b c ws ≡ settled m k q n x ws
  unfolding settled
  put-settles zero b c i q n x ws h e d = put_step zero b c i q x ws h _ (put_first m n some (node_of m ws (q * m)) (node-length m ws (q * m)) (λ j l. (node-even zero b c i q n ws h e j l).0) x (one-deep m n d))
      ∙ words-none m zero (work Nothing (i * m + n)) (b + c * m) (c * m) _ (op-work Nothing (i * m + n))
  put-settles (suc k) b c i q n x ws h e d = go (ltb n m) refl (λ y vs h e d. put-settles k (b + c * m) (c * m) (i * m + n % m) (suc (q * m + n % m)) (n / m - 1) y vs h e d)
    where
      nd : List Slot
      nd = node_of m ws (q * m)

      p : ℕ
      p = q * m + n % m

      lower : List ℕ → Type 0
      lower vs = Even m (suc k) (n / m - 1) (tree_of m (suc k) (levels_of m (suc k) vs (b + c * m) (c * m)) (i * m + n % m))

      go : (t : Bool) → ltb n m ≡ t
          → ((y : Element) (vs : List ℕ) → Here m (b + c * m) (c * m) (i * m + n % m) (suc p) → lower vs → n / m - 1 < room m (suc k)
          → apply_words m (suc k) (work (Put y) (i * m + n % m)) (b + c * m) (c * m) vs ≡ settled m k (suc p) (n / m - 1) y vs)
          → apply_words m (suc (suc k)) (work (Put x) i) b c ws
          ≡ cond t (write ws (q * m + n) (slot x 1)) (settled m k (suc p) (n / m - 1) (pass x (slot_of ws p).element) (write ws p (slot (keep x (slot_of ws p).element) (n / m + 1))))
      go true l ih =
          put_step (suc k) b c i q x ws h _ (put_first m n some nd (node-length m ws (q * m)) (λ j l. (node-even (suc k) b c i q n ws h e j l).0) x (ltb-true n m l))
          ∙ words-none m (suc k) (work Nothing (i * m + n)) (b + c * m) (c * m) _ (op-work Nothing (i * m + n))
      go false l ih =
          let r : n % m < m = mod-lt n some in
          let s : slot_at nd (n % m) ≡ slot_of ws p = node-slot m ws (q * m) (n % m) r in
          let v : put_move x nd ≡ move (n % m) (keep x (slot_of ws p).element) (n / m + 1) (Put (pass x (slot_of ws p).element)) =
          put-least m n some nd (node-length m ws (q * m)) (λ j l. (node-even (suc k) b c i q n ws h e j l).0) x (ltb-false n m l)
          ∙ ap (λ (u : Slot). move (n % m) (keep x u.element) (n / m + 1) (Put (pass x u.element))) s in
          let o : p < b + c * m = omega (arith, (child-here m b c i q (n % m) h r).inside, h.node) in
          let f : lower ws = subst (λ (a : ℕ). Even m (suc k) (a - 1) (tree_of m (suc k) (under m (suc k) ws b c) (i * m + n % m))) (share-here m n some) (node-even (suc k) b c i q n ws h e (n % m) r).1 in
          let g : lower (write ws p (slot (keep x (slot_of ws p).element) (n / m + 1))) =
          subst (λ (ls : Levels (suc k)). Even m (suc k) (n / m - 1) (tree_of m (suc k) ls (i * m + n % m))) (sym (levels-before m (suc k) ws (b + c * m) (c * m) p _ o)) f in
          put_step (suc k) b c i q x ws h _ v
          ∙ ih _ _ (child-here m b c i q (n % m) h r) g (below-deep m (suc k) n some d (ltb-false n m l))

-- ---- the store: after n pushes on a cleared one
pub record Filled (m k : ℕ) (ws : List ℕ) (n : ℕ) : Type 0 where
  pub kept : Kept m k ws
  pub stored : stored_count (room m (suc k)) ws always ≡ n
  pub even : Even m (suc k) n (tree_of m (suc k) (levels_of m (suc k) ws 0 1) 0)

-- a tree that holds nothing has had no push
none-share : (m j : ℕ) → share m 0 j ≡ 0
unfolding share
none-share m j = rw (zero-div m, zero-mod m, le-ltb j 0 (omega arith)) refl

none-even : (m k : ℕ) (t : Tree k) → Sound m k t → held k t ≡ 0 → Even m k 0 t
unfolding many at
none-even m zero t so z = tt
none-even m (suc k) t so z = λ j h.
    let i : j < length t = omega (arith, so.0) in
    let o : own always (at k t j).0 + held k (at k t j).1 ≡ 0 = all-at (λ (y : Slot × Tree k). own always y.0 + held k y.1 ≡ 0) t j (vacant, bare k) (zero-all _ t z) i in
    let c : (at k t j).0.count ≡ 0 = unowned (at k t j).0.count (at k t j).0.element (omega arith) in
    let s : share m 0 j - 1 ≡ 0 = omega (arith, none-share m j) in
    (c ∙ sym (none-share m j), subst (λ (n : ℕ). Even m k n (at k t j).1) (sym s) (none-even m k (at k t j).1 (sub-sound m k t so j i) (omega arith)))
  where
    unowned : (c : ℕ) (x : Element) → own_by c always x ≡ 0 → c ≡ 0
    unowned zero x e = refl
    unowned (suc c) x e = absurd (omega arith)

pub filled_none : (m k : ℕ) (ws vs : List ℕ) → Shape m (suc k) (length ws) → vs ≡ start m (suc k) ws → Filled m k vs 0
unfolding holding
filled_none m k ws vs sh e =
    subst (λ (w : List ℕ). Filled m k w 0) (sym e)
    (let kept = start-kept m k ws sh in
    record {
      kept = kept;
      stored = start-empty m k ws sh always;
      even = none-even m (suc k) (tree_of m (suc k) (levels_of m (suc k) (start m (suc k) ws) 0 1) 0) kept.store.sound
          (sym (stored-holding m k (start m (suc k) ws) always) ∙ start-empty m k ws sh always);
    })

module _ (m k n : ℕ) (x : Element) (tag : untagged x ≡ false) (ws : List ℕ) (f : Filled m k ws n) (deep : n < room m (suc k)) where
  some-order : 0 < m
  some-order = order-pos f.kept.shape

  room-left : stored_count (room m (suc k)) ws always < room m (suc k)
  room-left = omega (arith, f.stored)

  -- the push is the put at the root ..
  pub push-puts : (called m (suc k) (Push x) ws).words ≡ apply_words m (suc k) (work (Put x) 0) 0 1 ws
  unfolding called
  push-puts =
      ap (λ (o : Outcome). o.words) (let-in (is-queue m k) (Push x) ws f.kept tt
      (tag, (lt-ltb (sum_counts (root_of m ws)) (room m (suc k)) (omega (arith, room-left, kept-sum m k ws f.kept, stored-holding m k ws always)), tt)))

  -- .. which is push n by arithmetic
  pub push-settles : (called m (suc k) (Push x) ws).words ≡ settled m k 0 n x ws
  push-settles = push-puts ∙ put-settles m some-order k 0 1 0 0 n x ws (root-here m) f.even deep

  put-can : held (suc k) (tree_of m (suc k) (levels_of m (suc k) ws 0 1) 0) < room m (suc k)
  unfolding holding
  put-can = omega (arith, room-left, stored-holding m k ws always)

  put-tree : tree_of m (suc k) (levels_of m (suc k) (called m (suc k) (Push x) ws).words 0 1) 0 ≡ act (suc k) (Put x) (tree_of m (suc k) (levels_of m (suc k) ws 0 1) 0)
  put-tree =
      let ls : Levels (suc k) = levels_of m (suc k) ws 0 1 in
      ap (λ (vs : List ℕ). tree_of m (suc k) (levels_of m (suc k) vs 0 1) 0) push-puts
      ∙ ap (λ (l : Levels (suc k)). tree_of m (suc k) l 0)
      (words-apply m some-order (suc k) (work (Put x) 0) 0 1 ws (omega (arith, f.kept.shape.slice, size_room m (suc k) 1)) (root-path m some-order (suc k) (Put x) ls f.kept.store.shaped f.kept.store.sound put-can)).0
      ∙ root-commutes m some-order (suc k) (Put x) ls f.kept.store.shaped

  -- and leaves the store filled by one push more
  pub filled_more : Filled m k (called m (suc k) (Push x) ws).words (n + 1)
  filled_more =
      record {
        kept = called-kept m k (Push x) ws f.kept;
        stored = omega (arith, push-sum m k x tag ws f.kept room-left always, f.stored);
        even = subst (Even m (suc k) (n + 1)) (sym put-tree) (even-put m some-order (suc k) n x (tree_of m (suc k) (levels_of m (suc k) ws 0 1) 0) f.kept.store.sound f.even deep);
      }
