-- The step of a level, by the words of its node and of the nodes below it.
use Rattle.laws.specs.Prelude.{All, Bool, Element, List, [], ◌&&◌, ◌*◌, ◌+◌, ◌<◌, ◌||◌, ◌∙◌, ◌≡◌, ◌≤◌, all_both, all_map, and_left, ap, arith, eq-eqb, eqb, false, false≢true, get_or, leb, leb-false, leb-true, length, lt-leb, lt-ltb, ltb, not, not-suc-le-zero, not-true, pred, refl, subst, suc, sym, true, true≢false, zero, ℕ}
use native.Mathlib.Nat.{add-mul}
use Rattle.tree_model.proofs.Choice.{all-slot_at, every-all, least-le}
use Rattle.tree_model.proofs.Exactly.{slot-limit}
use Rattle.tree_model.proofs.Hang.{below_less, inside, move-ext}
use Rattle.tree_model.proofs.Path.{all-every}
use Rattle.tree_model.proofs.Words.{level-length, level-node, node-length, place_inside}
use Rattle.tree_model.specs.Prelude.{Level, Levels, Move, Nothing, Op, Put, Slot, Swap, Take, every, has_room, has_some, is_nothing, least_count, level_move, level_of, levels_of, lifts, low, lowest, node_move, node_of, node_ok, op_move, read_ok, rest_words, room, slot_at, slot_ok, step_ok, step_words, step_work, top, under, work, work_ok, write}

pub room-deep : (m k : ℕ) → 0 < room m k → 1 ≤ k
unfolding room
room-deep m zero h = absurd (not-suc-le-zero h)
room-deep m (suc k) h = omega arith

-- a step that lifts has a level below it, and lifts from a place of its node
pub above-one : (m k : ℕ) (nd : List Slot) → node_ok (room m k) nd ≡ true → leb (slot_at nd (lowest nd)).count 1 ≡ false → (1 ≤ k) × (lowest nd < length nd)
unfolding node_ok
above-one m k nd ok e =
    let h : 1 < (slot_at nd (lowest nd)).count = leb-false (slot_at nd (lowest nd)).count 1 e in
    let i : lowest nd < length nd = inside nd (lowest nd) (omega arith) in
    let l : (slot_at nd (lowest nd)).count ≤ suc (room m k) = slot-limit (room m k) (slot_at nd (lowest nd)) (all-slot_at (λ s. slot_ok (room m k) s ≡ true) nd (lowest nd) (every-all (slot_ok (room m k)) nd ok) i) in
    (room-deep m k (omega arith), i)

lifts-deep : (m k : ℕ) (o : Op) (nd : List Slot) → read_ok o (room m k) nd ≡ true → lifts o nd ≡ true → (1 ≤ k) × (lowest nd < length nd)
unfolding read_ok lifts
lifts-deep m k Nothing nd ok e = absurd (false≢true e)
lifts-deep m k (Put x) nd ok e = absurd (false≢true e)
lifts-deep m k Take nd ok e = above-one m k nd (and_left (node_ok (room m k) nd) (has_some nd) ok) (not-true (leb (slot_at nd (lowest nd)).count 1) e)
lifts-deep m k (Swap x) nd ok e = above-one m k nd (and_left (node_ok (room m k) nd) (has_some nd) ok) (not-true (leb (slot_at nd (lowest nd)).count 1) e)

-- a step depends on the node below only where it lifts
move-lift : (o : Op) (nd : List Slot) (b b' : ℕ → Element) → (lifts o nd ≡ true → b (lowest nd) ≡ b' (lowest nd)) → op_move o nd b ≡ op_move o nd b'
unfolding op_move lifts
move-lift Nothing nd b b' h = refl
move-lift (Put x) nd b b' h = refl
move-lift Take nd b b' h = move-ext Take nd b b' (λ l. h (rw (lt-leb (slot_at nd (lowest nd)).count 1 l)))
move-lift (Swap x) nd b b' h = move-ext (Swap x) nd b b' (λ l. h (rw (lt-leb (slot_at nd (lowest nd)).count 1 l)))

-- the tests of a step depend on the node below only where the node itself is in order and the step lifts
test-lift : (m k : ℕ) (o : Op) (nd : List Slot) (c c' : ℕ → List Slot) → (read_ok o (room m k) nd ≡ true → lifts o nd ≡ true → c (lowest nd) ≡ c' (lowest nd))
    → step_ok m k o nd c ≡ step_ok m k o nd c'
unfolding step_ok
test-lift m k o nd c c' h = go (read_ok o (room m k) nd) refl (lifts o nd) refl
  where
    go : (a : Bool) → read_ok o (room m k) nd ≡ a → (b : Bool) → lifts o nd ≡ b
        → (a && (not b || read_ok Take (room m (pred k)) (c (lowest nd)))) ≡ (a && (not b || read_ok Take (room m (pred k)) (c' (lowest nd))))
    go false p b q = refl
    go true p false q = refl
    go true p true q = ap (read_ok Take (room m (pred k))) (h p q)

module _ (m k b c n : ℕ) (ws : List ℕ) (Node-in : n < c) where
  -- the level, the levels below it, the node's first slot, and the first slot of the node below its first place
  abbrev pub own-level : Level
  own-level = level_of m ws b c

  abbrev pub deeper : Levels k
  deeper = under m k ws b c

  abbrev pub own-slot : ℕ
  own-slot = b + n * m

  abbrev pub child-slot : ℕ
  child-slot = b + c * m + n * m * m

  abbrev pub own-node : List Slot
  own-node = node_of m ws own-slot

  abbrev pub child : ℕ → List Slot
  child j = node_of m ws (child-slot + j * m)

  child-level : 1 ≤ k → top k deeper ≡ level_of m ws (b + c * m) (c * m)
  unfolding levels_of top
  child-level h = go k h
    where
      go : (k : ℕ) → 1 ≤ k → top k (levels_of m k ws (b + c * m) (c * m)) ≡ level_of m ws (b + c * m) (c * m)
      go zero h = absurd (not-suc-le-zero h)
      go (suc k) h = refl

  child-here : 1 ≤ k → (j : ℕ) → j < m → get_or (top k deeper) (n * m + j) [] ≡ child j
  child-here h j lt =
      ap (λ (l : Level). get_or l (n * m + j) []) (child-level h) ∙ level-node m ws (b + c * m) (c * m) (n * m + j) (below_less m n c j Node-in lt)
      ∙ ap (node_of m ws) (omega (arith, add-mul (n * m) j m))

  place-less : lowest own-node < length own-node → lowest own-node < m
  place-less h = subst (λ (a : ℕ). lowest own-node < a) (node-length m ws own-slot) h

  module _ (o : Op) where
    abbrev pub tested : Bool
    tested = step_ok m k o own-node child

    abbrev pub moved : Move
    moved = node_move m o own-slot child-slot ws

    test-here : step_ok m k o (get_or own-level n []) (λ j. get_or (top k deeper) (n * m + j) []) ≡ tested
    test-here =
        ap (λ (nd : List Slot). step_ok m k o nd (λ j. get_or (top k deeper) (n * m + j) [])) (level-node m ws b c n Node-in)
        ∙ test-lift m k o own-node _ _ (λ ok li. let d = lifts-deep m k o own-node ok li in child-here d.0 (lowest own-node) (place-less d.1))

    -- a level's work is in order exactly where the node's step is
    pub fine-here : work_ok m k (work o n) own-level (top k deeper) ≡ tested
    unfolding work_ok work is_nothing step_ok read_ok lifts
    fine-here = go o test-here
      where
        inside-level : ltb n (length own-level) ≡ true
        inside-level = lt-ltb n (length own-level) (subst (λ (a : ℕ). n < a) (sym (level-length m ws b c)) Node-in)

        go : (o : Op) → step_ok m k o (get_or own-level n []) (λ j. get_or (top k deeper) (n * m + j) []) ≡ step_ok m k o own-node child
            → work_ok m k (work o n) own-level (top k deeper) ≡ step_ok m k o own-node child
        go Nothing e = refl
        go (Put x) e = rw inside-level e
        go Take e = rw inside-level e
        go (Swap x) e = rw inside-level e

    module _ (ok : tested ≡ true) where
      own_read : read_ok o (room m k) own-node ≡ true
      unfolding step_ok
      own_read = and_left (read_ok o (room m k) own-node) _ ok

      -- the level's step is the node's
      pub move-here : level_move m o n own-level (top k deeper) ≡ moved
      unfolding level_move node_move
      move-here =
          ap (λ (nd : List Slot). op_move o nd (λ j. low (get_or (top k deeper) (n * m + j) []))) (level-node m ws b c n Node-in)
          ∙ move-lift o own-node _ _ (λ li. let d = lifts-deep m k o own-node own_read li in ap low (child-here d.0 (lowest own-node) (place-less d.1)))

      -- what it leaves for the next level
      pub rest-here : rest_words m k (work o n) b c ws ≡ work moved.rest (n * m + moved.place)
      unfolding step_work work node_move op_move level_move
      rest-here = go o move-here
        where
          go : (o : Op) → level_move m o n own-level (top k deeper) ≡ node_move m o own-slot child-slot ws
              → step_work m (work o n) own-level (top k deeper) ≡ work (node_move m o own-slot child-slot ws).rest (n * m + (node_move m o own-slot child-slot ws).place)
          go Nothing e = refl
          go (Put x) e = ap (λ (v : Move). work v.rest (n * m + v.place)) e
          go Take e = ap (λ (v : Move). work v.rest (n * m + v.place)) e
          go (Swap x) e = ap (λ (v : Move). work v.rest (n * m + v.place)) e

      -- what it writes
      pub write-here : is_nothing o ≡ false → step_words m k (work o n) b c ws ≡ write ws (own-slot + moved.place) moved.slot
      unfolding step_words work is_nothing
      write-here some = go o some move-here
        where
          go : (o : Op) → is_nothing o ≡ false → level_move m o n own-level (top k deeper) ≡ node_move m o own-slot child-slot ws
              → step_words m k (work o n) b c ws ≡ write ws (own-slot + (node_move m o own-slot child-slot ws).place) (node_move m o own-slot child-slot ws).slot
          go Nothing s e = absurd (true≢false s)
          go (Put x) s e = ap (λ (v : Move). write ws (own-slot + v.place) v.slot) e
          go Take s e = ap (λ (v : Move). write ws (own-slot + v.place) v.slot) e
          go (Swap x) s e = ap (λ (v : Move). write ws (own-slot + v.place) v.slot) e

      pub place_here : 0 < m → is_nothing o ≡ false → moved.place < m
      unfolding node_move
      place_here some ne = subst (λ (a : ℕ). moved.place < a) (node-length m ws own-slot) (place_inside o (room m k) own-node _ ne (omega (arith, node-length m ws own-slot)) own_read)

-- a put's node in order: the smallest count leaves room
pub least-room : (r : ℕ) (nd : List Slot) → 0 < length nd → node_ok r nd ≡ true → has_room r nd ≡ true → (slot_at nd (least_count nd)).count ≤ r
unfolding has_room node_ok
least-room r nd some ok h = go (leb (slot_at nd (least_count nd)).count r) refl
  where
    go : (b : Bool) → leb (slot_at nd (least_count nd)).count r ≡ b → (slot_at nd (least_count nd)).count ≤ r
    go true p = leb-true (slot_at nd (least_count nd)).count r p
    go false p =
        let lim : All (λ s. s.count ≤ suc r) nd = all_map (λ s. slot_ok r s ≡ true) _ (λ s e. slot-limit r s e) nd (every-all (slot_ok r) nd ok) in
        let full : All (λ s. eqb s.count (suc r) ≡ true) nd =
        all_map (λ s. (s.count ≤ suc r) × ((slot_at nd (least_count nd)).count ≤ s.count)) _
        (λ s q. eq-eqb s.count (suc r) (omega (arith, q.0, q.1, leb-false (slot_at nd (least_count nd)).count r p))) nd (all_both _ _ nd lim (least-le nd)) in
        absurd (true≢false (sym (all-every (λ s. eqb s.count (suc r)) nd full) ∙ not-true (every (λ s. eqb s.count (suc r)) nd) h))
