-- A machine at rest: with nothing pending the tree is the heap of the words, and it is sound in the sense of one operation at a time. The cleared machine is one.
use Rattle.laws.specs.Prelude.{Bool, Element, List, ◌*◌, ◌+◌, ◌∙◌, ◌≡◌, ◌≤◌, and_left, and_right, and-true, ap, arith, false, get_or, leb, leb-false, leb-true, length, length-replicate, mul-le-mul_right, not-suc-le-zero, refl, replicate, subst, suc, sym, true, true≢false, zero, ℕ}
use Rattle.cluster_clock_model.proofs.Flight.{Inv, note_below, Tree, within}
use Rattle.cluster_clock_model.proofs.Kept.{AllNeat, Kept, nodes-fit}
use Rattle.cluster_clock_model.proofs.Seen.{InRange, note_seen, Ranged, tree_in}
use Rattle.cluster_clock_model.specs.Prelude.{Due, Fill, Nothing, Put, Stage, Swap, below, child_of, cleared_machine, fresh, is_nothing, no_stage, quiet, stage_at, stage_count}
use Rattle.cluster_model.specs.Prelude.{Fit, Heap, Node, Shape, Sound, child, extent, heap_in, inside, lhs, many, node_in, nodes, nothing, rhs, room, spot_of, start, stored_count, width}
use Rattle.cluster_model.proofs.Laws.{clear-zeroes, start-empty, start-kept, stored-many, zero_row}

-- a heap with no note anywhere
unfoldable pub calm : (k : ℕ) → Heap k → Tree k
calm zero h = tt
calm (suc k) h = (nothing, h.0, calm k h.1, calm k h.2)

pub calm-many : (f : Element → Bool) (k : ℕ) (h : Heap k) → within f k (calm k h) ≡ many f k h
unfolding within many calm
calm-many f zero h = refl
calm-many f (suc k) h = omega (arith, calm-many f k h.1, calm-many f k h.2)

calm-fit : (K limit k : ℕ) (n : Node) (h g : Heap k) → Fit K limit nothing n (λ f. within f k (calm k h)) (λ f. within f k (calm k g)) ≡ Fit K limit nothing n (λ f. many f k h) (λ f. many f k g)
calm-fit K limit k n h g = λ i. Fit K limit nothing n (λ f. calm-many f k h i) (λ f. calm-many f k g i)

pub calm-sound : (K k : ℕ) (h : Heap k) → Inv K k (calm k h) → Sound K k h
unfolding calm
calm-sound K zero h s = tt
calm-sound K (suc k) h s = (subst (λ (T : Type 0). T) (calm-fit K (room K k) k h.0 h.1 h.2) s.0, calm-sound K k h.1 s.1, calm-sound K k h.2 s.2)

pub sound-calm : (K k : ℕ) (h : Heap k) → Sound K k h → Inv K k (calm k h)
unfolding calm
sound-calm K zero h s = tt
sound-calm K (suc k) h s = (subst (λ (T : Type 0). T) (sym (calm-fit K (room K k) k h.0 h.1 h.2)) s.0, sound-calm K k h.1 s.1, sound-calm K k h.2 s.2)

-- ---- records of nothing
is-nothing : (d : Due) → is_nothing d ≡ true → d ≡ Nothing
unfolding is_nothing
is-nothing Nothing e = refl
is-nothing (Put y) e = absurd (true≢false (sym e))
is-nothing (Fill j) e = absurd (true≢false (sym e))
is-nothing (Swap j x) e = absurd (true≢false (sym e))

seen_nothing : (q : Stage) (n : ℕ) → is_nothing q.due ≡ true → note_seen q.due q.node n ≡ nothing
unfolding note_seen
seen_nothing q n e = ap (λ (d : Due). note_seen d q.node n) (is-nothing q.due e)

module _ (K : ℕ) (rs : List Stage) (ws : List ℕ) where
  rest-next : (k a i n m : ℕ) → a + n ≡ m → quiet k rs i ≡ true → tree_in K (suc k) a i rs ws n ≡ calm (suc k) (heap_in K (suc k) ws m)
  unfolding tree_in calm heap_in note_below quiet
  rest-next zero a i n m e q =
      let p : node_in K ws (a + n) ≡ node_in K ws m = ap (node_in K ws) e in
      λ t. (nothing, p t, tt, tt)
  rest-next (suc k) a i n m e q =
      let c : note_seen (stage_at rs i).due (stage_at rs i).node n ≡ nothing = seen_nothing (stage_at rs i) n (and_left (is_nothing (stage_at rs i).due) _ q) in
      let p : node_in K ws (a + n) ≡ node_in K ws m = ap (node_in K ws) e in
      let more : quiet k rs (suc i) ≡ true = and_right (is_nothing (stage_at rs i).due) _ q in
      let l : tree_in K (suc k) (below a) (suc i) rs ws (child_of n lhs) ≡ calm (suc k) (heap_in K (suc k) ws (child m lhs)) = rest-next k (below a) (suc i) (child_of n lhs) (child m lhs) (omega arith) more in
      let r : tree_in K (suc k) (below a) (suc i) rs ws (child_of n rhs) ≡ calm (suc k) (heap_in K (suc k) ws (child m rhs)) = rest-next k (below a) (suc i) (child_of n rhs) (child m rhs) (omega arith) more in
      λ t. (c t, p t, l t, r t)

  pub rest-tree : (k : ℕ) → quiet k rs 0 ≡ true → tree_in K (suc k) 0 0 rs ws 0 ≡ calm (suc k) (heap_in K (suc k) ws 0)
  rest-tree k q = rest-next k 0 0 0 0 refl q

  -- what is stored is then all that there is
  pub rest-stored : (k : ℕ) (f : Element → Bool) → quiet k rs 0 ≡ true → within f (suc k) (tree_in K (suc k) 0 0 rs ws 0) ≡ stored_count K (suc k) ws f
  rest-stored k f q = ap (within f (suc k)) (rest-tree k q) ∙ calm-many f (suc k) (heap_in K (suc k) ws 0) ∙ sym (stored-many K (suc k) ws f)

-- ---- the cleared machine
more_room : (K k j : ℕ) → 2 ≤ K → j ≤ k → room 2 j ≤ room K k
unfolding room
more_room K k zero h l = omega arith
more_room K zero (suc j) h l = absurd (not-suc-le-zero l)
more_room K (suc k) (suc j) h l = omega (arith, more_room K k j h (omega arith))

-- two places a node with one level more than there are records for are more than the limit
room-past : room 2 (2 + stage_count) ≡ 8190
unfolding room
room-past = refl

pub few-levels : (K levels len : ℕ) → Shape K levels len → levels ≤ 1 + stage_count
few-levels K levels len sh = go (leb levels (1 + stage_count)) refl
  where
    go : (b : Bool) → leb levels (1 + stage_count) ≡ b → levels ≤ 1 + stage_count
    go true e = leb-true levels (1 + stage_count) e
    go false e = absurd (omega (arith, leb-false levels (1 + stage_count) e, more_room K levels (2 + stage_count) sh.two (omega (arith, leb-false levels (1 + stage_count) e)), room-past, sh.capacity))

fresh_at : (n i : ℕ) → stage_at (replicate n no_stage) i ≡ no_stage
fresh_at n i = replicate-at n i
  where
    replicate-at : (n i : ℕ) → get_or (replicate n no_stage) i no_stage ≡ no_stage
    replicate-at zero i = refl
    replicate-at (suc n) zero = refl
    replicate-at (suc n) (suc i) = replicate-at n i

fresh-due : (i : ℕ) → (stage_at fresh i).due ≡ Nothing
unfolding fresh
fresh-due i = ap (λ (q : Stage). q.due) (fresh_at stage_count i)

pub fresh-quiet : (k i : ℕ) → quiet k fresh i ≡ true
unfolding quiet is_nothing
fresh-quiet zero i = refl
fresh-quiet (suc k) i = and-true _ _ (ap is_nothing (fresh-due i)) (fresh-quiet k (suc i))

fresh-ranged : (k a i : ℕ) → Ranged k a i fresh
fresh-ranged zero a i = tt
fresh-ranged (suc k) a i = (subst (λ (d : Due). InRange d (stage_at fresh i).node a) (sym (fresh-due i)) tt, fresh-ranged k (below a) (suc i))

module _ (K k : ℕ) (ws : List ℕ) (sh : Shape K (suc k) (length ws)) where
  abbrev vs : List ℕ
  vs = start K (suc k) ws

  start-neat : AllNeat K (nodes (suc k)) vs
  start-neat m h =
      let inside : nodes (suc k) * width K ≤ extent K (suc k) 1 = nodes-fit K k (extent K (suc k) 1) (omega arith) in
      zero_row K vs (spot_of K m + 2) (λ i g g'. (clear-zeroes K (suc k) ws sh).1.zeros i 0 (omega (arith, mul-le-mul_right (width K) h)))

  pub start-flying : Kept K k (cleared_machine K (suc k) ws)
  unfolding fresh
  start-flying =
      record {
        shape = (start-kept K k ws sh).shape;
        count = omega (arith, length-replicate stage_count no_stage, few-levels K (suc k) (length ws) sh);
        ranged = fresh-ranged k 0 0;
        neat = start-neat;
        sound = subst (Inv K (suc k)) (sym (rest-tree K fresh vs k (fresh-quiet k 0))) (sound-calm K (suc k) (heap_in K (suc k) vs 0) (start-kept K k ws sh).sound);
      }

  pub start_none : (f : Element → Bool) → within f (suc k) (tree_in K (suc k) 0 0 fresh vs 0) ≡ 0
  start_none f = rest-stored K fresh vs k f (fresh-quiet k 0) ∙ start-empty K k ws sh f
