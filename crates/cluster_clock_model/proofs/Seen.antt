-- The words and the records as a tree: node n of a level with what the record below it says of that node. A cycle of the pass is a cycle of the tree that
-- hangs at any node.
use Rattle.laws.specs.Prelude.{Bool, Element, List, ◌*◌, ◌+◌, ◌<◌, ◌∙◌, ◌≡◌, ◌≤◌, ◌⊎◌, ap, ap₂, arith, eqb, eqb-false, eqb-true, false, get_or-set_other, get_or-set_same, inl, inr, length, length-set, ltb, ltb-false, ltb-true, mul-le-mul_right, ne_eqb, refl, set, subst, suc, sym, true, zero, ℕ, ⊎_elim}
use Rattle.cluster_clock_model.proofs.Flight.{cycle, low_of, note_below, Tree}
use Rattle.cluster_clock_model.specs.Prelude.{Due, Fill, Nothing, Put, Stage, Swap, Work, begins, below, child_of, filled, handed, level_stage, level_words, loaded, low_at, no_stage, note_of, pass, settled, stage, stage_at, waits, work, worked}
use Rattle.cluster_model.specs.Prelude.{Begun, Finished, Node, Note, Only, Op, Side, begin, child, extent, fill, finish, lhs, low, node_in, none, nothing, onto, pick, put, rhs, spot_of, swap, take, to_left, to_right, touch, trial, width, word, works}
use Rattle.cluster_model.proofs.Laws.{begin-length, child-op, finish-length, node-count, node-local, op-none, op_if, touch-length, touch-only, touch-read, twice, twice-suc}

-- ---- a record, seen from node n of the level above it
abbrev pub note_if : Bool → Note → Note
note_if true c = c
note_if false c = nothing

abbrev pub put_seen : Bool → Bool → Element → Note
put_seen true r y = onto lhs y
put_seen false true y = onto rhs y
put_seen false false y = nothing

unfoldable pub note_seen : Due → ℕ → ℕ → Note
note_seen Nothing p n = nothing
note_seen (Put y) p n = put_seen (eqb p (n + n)) (eqb p (suc (n + n))) y
note_seen (Fill j) p n = note_if (eqb p n) (fill j)
note_seen (Swap j x) p n = note_if (eqb p n) (trial j x)

abbrev pub op_at : Work → ℕ → Op
op_at w n = op_if (eqb w.node n) w.op

-- a record names a node that its level has
abbrev pub InRange : Due → ℕ → ℕ → Type 0
InRange Nothing n a = Unit {0}
InRange (Put y) n a = n < below a + 1
InRange (Fill j) n a = n < a + 1
InRange (Swap j x) n a = n < a + 1

abbrev pub Ranged : (k : ℕ) → ℕ → ℕ → List Stage → Type 0
Ranged zero a i rs = Unit {0}
Ranged (suc k) a i rs = InRange (stage_at rs i).due (stage_at rs i).node a × Ranged k (below a) (suc i) rs

-- what an operation leaves is seen at its own node alone
note-none : (b : Bool) → note_if b nothing ≡ nothing
note-none true = refl
note-none false = refl

pub loaded-seen : (c : Note) (p n : ℕ) → note_seen (loaded c p).due (loaded c p).node n ≡ note_if (eqb p n) c
unfolding note_seen loaded
loaded-seen nothing p n = sym (note-none (eqb p n))
loaded-seen (fill j) p n = refl
loaded-seen (trial j x) p n = refl
loaded-seen (onto lhs y) p n =
    ap₂ (λ (l r : Bool). put_seen l r y) (twice p n) (ne_eqb (p + p) (suc (n + n)) (λ e. omega arith)) ∙ go (eqb p n)
  where
    go : (b : Bool) → put_seen b false y ≡ note_if b (onto lhs y)
    go true = refl
    go false = refl
loaded-seen (onto rhs y) p n =
    ap₂ (λ (l r : Bool). put_seen l r y) (ne_eqb (suc (p + p)) (n + n) (λ e. omega arith)) (twice-suc p n) ∙ go (eqb p n)
  where
    go : (b : Bool) → put_seen false b y ≡ note_if b (onto rhs y)
    go true = refl
    go false = refl

-- ---- a node written, seen from another
pub node-apart : (d m p i : ℕ) → (m ≡ p → ⊥) → m * d ≤ i → i < m * d + d → (i < p * d) ⊎ (p * d + d ≤ i)
node-apart d m p i ne l h = go (ltb m p) refl
  where
    go : (b : Bool) → ltb m p ≡ b → (i < p * d) ⊎ (p * d + d ≤ i)
    go true e = inl (omega (arith, mul-le-mul_right d (ltb-true m p e)))
    go false e =
        let more : p < m = omega (arith, ltb-false m p e) in
        inr (omega (arith, mul-le-mul_right d more))

module _ (K : ℕ) where
  pub touch-apart : (t : Bool) (ws : List ℕ) (p m : ℕ) (x : Node) → length x.places ≡ K → (m ≡ p → ⊥) → node_in K (touch t ws (spot_of K p) x) m ≡ node_in K ws m
  touch-apart t ws p m x e ne =
      node-local K ws (touch t ws (spot_of K p) x) (spot_of K m) (λ i g h. touch-only K t ws (spot_of K p) x e i (node-apart (width K) m p i ne g h))

  -- node p of the level written, seen from node n of it
  touch-seen : (t : Bool) (ws : List ℕ) (a p n : ℕ) (x : Node) → length x.places ≡ K → eqb p n ≡ false → node_in K (touch t ws (spot_of K (a + p)) x) (a + n) ≡ node_in K ws (a + n)
  touch-seen t ws a p n x e q = touch-apart t ws (a + p) (a + n) x e (λ g. eqb-false p n q (omega arith))

  pub settled-length : (c : Note) (m : ℕ) (ws : List ℕ) → length (settled K c m ws).node.places ≡ K
  unfolding settled
  settled-length c m ws = finish-length c (node_in K ws m) (low_at K ws (child m lhs)) (low_at K ws (child m rhs)) ∙ node-count K ws (spot_of K m)

  pub begins-length : (a : ℕ) (w : Work) (ws vs : List ℕ) → length (begins K a w ws vs).node.places ≡ K
  unfolding begins
  begins-length a w ws vs = begin-length w.op (low (node_in K ws (a + w.node)).places) (node_in K vs (a + w.node)) ∙ node-count K vs (spot_of K (a + w.node))

  pub filled-length : (a : ℕ) (q : Stage) (ws : List ℕ) → length (filled K a q ws) ≡ length ws
  unfolding filled
  filled-length a q ws = touch-length (waits q.due) ws (spot_of K (a + q.node)) (settled K (note_of q.due) (a + q.node) ws).node

  pub worked-length : (a : ℕ) (w : Work) (ws vs : List ℕ) → length (worked K a w ws vs) ≡ length vs
  unfolding worked
  worked-length a w ws vs = touch-length (works w.op) vs (spot_of K (a + w.node)) (begins K a w ws vs).node

  -- ---- A, seen from node n: its note settled
  module _ (a n : ℕ) (ws : List ℕ) (fits : spot_of K (a + n) + width K ≤ length ws) where
    abbrev seen_by : Due → ℕ → Finished
    seen_by d p = settled K (note_seen d p n) (a + n) ws

    -- a node that waits, with its note
    waiting-node : (c : Note) (p : ℕ) → node_in K (touch true ws (spot_of K (a + p)) (settled K c (a + p) ws).node) (a + n) ≡ (settled K (note_if (eqb p n) c) (a + n) ws).node
    unfolding settled finish
    waiting-node c p = go (eqb p n) refl
      where
        no : true ≡ false → ⊥
        no z = let x : ◌≡◌ {A = ℕ} 0 1 = cc in omega arith

        go : (b : Bool) → eqb p n ≡ b → node_in K (touch true ws (spot_of K (a + p)) (settled K c (a + p) ws).node) (a + n) ≡ (settled K (note_if b c) (a + n) ws).node
        go true e = subst (λ (p : ℕ). node_in K (touch true ws (spot_of K (a + p)) (settled K c (a + p) ws).node) (a + n) ≡ (settled K c (a + n) ws).node) (sym (eqb-true p n e))
            (touch-read K true ws (spot_of K (a + n)) (settled K c (a + n) ws).node (settled-length c (a + n) ws) fits (λ z. absurd (no z)))
        go false e = touch-seen true ws a p n (settled K c (a + p) ws).node (settled-length c (a + p) ws) e

    waiting-op : (c : Note) (p : ℕ) (s : Side) → op_if (eqb (child_of p (settled K c (a + p) ws).side) (child_of n s)) (settled K c (a + p) ws).op
        ≡ pick s (to_left (settled K (note_if (eqb p n) c) (a + n) ws)) (to_right (settled K (note_if (eqb p n) c) (a + n) ws))
    unfolding settled finish
    waiting-op c p s = child-op p n (settled K c (a + p) ws).side s (settled K c (a + p) ws).op ∙ go (eqb p n) refl s
      where
        go : (b : Bool) → eqb p n ≡ b → (s : Side) → op_if b (pick s (to_left (settled K c (a + p) ws)) (to_right (settled K c (a + p) ws)))
            ≡ pick s (to_left (settled K (note_if b c) (a + n) ws)) (to_right (settled K (note_if b c) (a + n) ws))
        go true e s = ap (λ (m : ℕ). pick s (to_left (settled K c (a + m) ws)) (to_right (settled K c (a + m) ws))) (eqb-true p n e)
        go false e lhs = refl
        go false e rhs = refl

    pub filled-node : (d : Due) (p : ℕ) → node_in K (filled K a (stage d p) ws) (a + n) ≡ (seen_by d p).node
    unfolding filled settled finish note_seen touch
    filled-node Nothing p = refl
    filled-node (Put y) p = go (eqb p (n + n)) (eqb p (suc (n + n)))
      where
        go : (l r : Bool) → node_in K ws (a + n) ≡ (settled K (put_seen l r y) (a + n) ws).node
        go true r = refl
        go false true = refl
        go false false = refl
    filled-node (Fill j) p = waiting-node (fill j) p
    filled-node (Swap j x) p = waiting-node (trial j x) p

    -- .. and what its children have to do
    pub handed-op : (d : Due) (p : ℕ) (s : Side) → op_at (handed K d p a ws) (child_of n s) ≡ pick s (to_left (seen_by d p)) (to_right (seen_by d p))
    unfolding handed settled finish note_seen
    handed-op Nothing p lhs = op-none (eqb 0 (n + n))
    handed-op Nothing p rhs = op-none (eqb 0 (suc (n + n)))
    handed-op (Put y) p s = go (eqb p (n + n)) refl (eqb p (suc (n + n))) refl s
      where
        go : (l : Bool) → eqb p (n + n) ≡ l → (r : Bool) → eqb p (suc (n + n)) ≡ r → (s : Side)
            → op_if (eqb p (child_of n s)) (put y) ≡ pick s (to_left (settled K (put_seen l r y) (a + n) ws)) (to_right (settled K (put_seen l r y) (a + n) ws))
        go true e r f lhs = ap (λ (b : Bool). op_if b (put y)) e
        go true e r f rhs = ap (λ (b : Bool). op_if b (put y)) (ne_eqb p (suc (n + n)) (λ z. omega (arith, eqb-true p (n + n) e)))
        go false e true f lhs = ap (λ (b : Bool). op_if b (put y)) e
        go false e true f rhs = ap (λ (b : Bool). op_if b (put y)) f
        go false e false f lhs = ap (λ (b : Bool). op_if b (put y)) e
        go false e false f rhs = ap (λ (b : Bool). op_if b (put y)) f
    handed-op (Fill j) p s = waiting-op (fill j) p s
    handed-op (Swap j x) p s = waiting-op (trial j x) p s

  -- ---- B, seen from node n
  abbrev begin_seen : Op → ℕ → List ℕ → List ℕ → Begun
  begin_seen o m ws vs = begin o (low (node_in K ws m).places) (node_in K vs m)

  module _ (a n : ℕ) (w : Work) (ws vs : List ℕ) where
    pub worked-node : spot_of K (a + n) + width K ≤ length vs → node_in K (worked K a w ws vs) (a + n) ≡ (begin_seen (op_at w n) (a + n) ws vs).node
    unfolding worked begins works begin
    worked-node fits = go (eqb w.node n) refl
      where
        idle : (o : Op) → works o ≡ false → node_in K vs (a + n) ≡ (begin_seen o (a + n) ws vs).node
        idle none e = refl
        idle (put x) e = absurd (let z : ◌≡◌ {A = ℕ} 0 1 = cc in omega arith)
        idle take e = absurd (let z : ◌≡◌ {A = ℕ} 0 1 = cc in omega arith)
        idle (swap x) e = absurd (let z : ◌≡◌ {A = ℕ} 0 1 = cc in omega arith)

        go : (b : Bool) → eqb w.node n ≡ b → node_in K (worked K a w ws vs) (a + n) ≡ (begin_seen (op_if b w.op) (a + n) ws vs).node
        go true e = subst (λ (p : ℕ). node_in K (worked K a (work w.op p) ws vs) (a + n) ≡ (begin_seen w.op (a + n) ws vs).node) (sym (eqb-true w.node n e))
            (touch-read K (works w.op) vs (spot_of K (a + n)) (begin_seen w.op (a + n) ws vs).node (begins-length a (work w.op n) ws vs) fits (idle w.op))
        go false e = touch-seen (works w.op) vs a w.node n (begins K a w ws vs).node (begins-length a w ws vs) e

    pub worked-note : note_seen (loaded (begins K a w ws vs).note w.node).due (loaded (begins K a w ws vs).note w.node).node n ≡ (begin_seen (op_at w n) (a + n) ws vs).note
    unfolding begins begin
    worked-note = loaded-seen (begins K a w ws vs).note w.node n ∙ go (eqb w.node n) refl
      where
        go : (b : Bool) → eqb w.node n ≡ b → note_if b (begins K a w ws vs).note ≡ (begin_seen (op_if b w.op) (a + n) ws vs).note
        go true e = ap (λ (p : ℕ). (begins K a (work w.op p) ws vs).note) (eqb-true w.node n e)
        go false e = refl

  -- ---- the tree that hangs at node n of the level whose first node is a, and below which record i stands
  unfoldable pub tree_in : (k : ℕ) → ℕ → ℕ → List Stage → List ℕ → ℕ → Tree k
  tree_in zero a i rs ws n = tt
  tree_in (suc k) a i rs ws n = (
    note_below k (note_seen (stage_at rs i).due (stage_at rs i).node n),
    node_in K ws (a + n),
    tree_in k (below a) (suc i) rs ws (child_of n lhs),
    tree_in k (below a) (suc i) rs ws (child_of n rhs),
  )

  -- it is read from the level's first word on, and from its record on
  level-le : (d a m i : ℕ) → a ≤ m → m * d ≤ i → a * d ≤ i
  level-le d a m i h g = omega (arith, mul-le-mul_right d h)

  pub tree-after : (k a i n : ℕ) (rs rs' : List Stage) (ws ws' : List ℕ) → ((j : ℕ) → spot_of K a ≤ j → word ws' j ≡ word ws j)
      → ((j : ℕ) → i ≤ j → stage_at rs' j ≡ stage_at rs j) → tree_in k a i rs' ws' n ≡ tree_in k a i rs ws n
  unfolding tree_in
  tree-after zero a i n rs rs' ws ws' h g = refl
  tree-after (suc k) a i n rs rs' ws ws' h g =
      let p : note_below k (note_seen (stage_at rs' i).due (stage_at rs' i).node n) ≡ note_below k (note_seen (stage_at rs i).due (stage_at rs i).node n) =
      ap (λ (q : Stage). note_below k (note_seen q.due q.node n)) (g i (omega arith)) in
      let q : node_in K ws' (a + n) ≡ node_in K ws (a + n) = node-local K ws ws' (spot_of K (a + n)) (λ j l m. h j (level-le (width K) a (a + n) j (omega arith) l)) in
      let deeper : (j : ℕ) → spot_of K (below a) ≤ j → word ws' j ≡ word ws j = λ j l. h j (level-le (width K) a (below a) j (omega arith) l) in
      let later : (j : ℕ) → suc i ≤ j → stage_at rs' j ≡ stage_at rs j = λ j l. g j (omega arith) in
      let l : tree_in k (below a) (suc i) rs' ws' (child_of n lhs) ≡ tree_in k (below a) (suc i) rs ws (child_of n lhs) = tree-after k (below a) (suc i) (child_of n lhs) rs rs' ws ws' deeper later in
      let r : tree_in k (below a) (suc i) rs' ws' (child_of n rhs) ≡ tree_in k (below a) (suc i) rs ws (child_of n rhs) = tree-after k (below a) (suc i) (child_of n rhs) rs rs' ws ws' deeper later in
      λ t. (p t, q t, l t, r t)

  -- ---- what the pass touches
  -- one node of the level: no word but the level's
  pub level_in : (d a n : ℕ) → n < a + 1 → (a + n) * d + d ≤ a * d + (a + 1) * d
  level_in d a n h = omega (arith, mul-le-mul_right d h)

  abbrev pub LevelOnly : ℕ → List ℕ → List ℕ → Type 0
  LevelOnly a ws vs = Only (spot_of K a) (spot_of K a + (a + 1) * width K) ws vs

  node-outside : (a n i : ℕ) → n < a + 1 → (i < spot_of K a) ⊎ (spot_of K a + (a + 1) * width K ≤ i) → (i < spot_of K (a + n)) ⊎ (spot_of K (a + n) + width K ≤ i)
  node-outside a n i h g = ⊎_elim (λ (l : i < spot_of K a). inl (low (width K) l)) (λ (l : spot_of K a + (a + 1) * width K ≤ i). inr (omega (arith, level_in (width K) a n h))) g
    where
      low : (d : ℕ) → i < a * d → i < (a + n) * d
      low d l = omega arith

  pub filled-only : (a : ℕ) (d : Due) (p : ℕ) (ws : List ℕ) → InRange d p a → LevelOnly a ws (filled K a (stage d p) ws)
  unfolding filled touch
  filled-only a Nothing p ws h i g = refl
  filled-only a (Put y) p ws h i g = refl
  filled-only a (Fill j) p ws h i g = touch-only K true ws (spot_of K (a + p)) (settled K (fill j) (a + p) ws).node (settled-length (fill j) (a + p) ws) i (node-outside a p i h g)
  filled-only a (Swap j x) p ws h i g = touch-only K true ws (spot_of K (a + p)) (settled K (trial j x) (a + p) ws).node (settled-length (trial j x) (a + p) ws) i (node-outside a p i h g)

  pub worked-only : (a : ℕ) (w : Work) (ws vs : List ℕ) → w.node < a + 1 → LevelOnly a vs (worked K a w ws vs)
  unfolding worked
  worked-only a w ws vs h i g = touch-only K (works w.op) vs (spot_of K (a + w.node)) (begins K a w ws vs).node (begins-length a w ws vs) i (node-outside a w.node i h g)

  pub level-only : (a : ℕ) (w : Work) (q : Stage) (ws : List ℕ) → w.node < a + 1 → InRange q.due q.node a → LevelOnly a ws (level_words K a w q ws)
  unfolding level_words
  level-only a w q ws h r i g = worked-only a w ws (filled K a q ws) h i g ∙ filled-only a q.due q.node ws r i g

  pub level-length : (a : ℕ) (w : Work) (q : Stage) (ws : List ℕ) → length (level_words K a w q ws) ≡ length ws
  unfolding level_words
  level-length a w q ws = worked-length a w ws (filled K a q ws) ∙ filled-length a q ws

  child-below : (n a : ℕ) (s : Side) → n < a + 1 → child_of n s < below a + 1
  child-below n a lhs h = omega arith
  child-below n a rhs h = omega arith

  pub handed-in : (d : Due) (p a : ℕ) (ws : List ℕ) → InRange d p a → (handed K d p a ws).node < below a + 1
  unfolding handed
  handed-in Nothing p a ws h = omega arith
  handed-in (Put y) p a ws h = h
  handed-in (Fill j) p a ws h = child-below p a (settled K (fill j) (a + p) ws).side h
  handed-in (Swap j x) p a ws h = child-below p a (settled K (trial j x) (a + p) ws).side h

  -- the records of a level and those before it stand while the levels below run
  ranged-after : (k a i : ℕ) (rs rs' : List Stage) → ((j : ℕ) → i ≤ j → stage_at rs' j ≡ stage_at rs j) → Ranged k a i rs → Ranged k a i rs'
  ranged-after zero a i rs rs' h r = tt
  ranged-after (suc k) a i rs rs' h r = (
    subst (λ (q : Stage). InRange q.due q.node a) (sym (h i (omega arith))) r.0,
    ranged-after k (below a) (suc i) rs rs' (λ j l. h j (omega arith)) r.1,
  )

  pub set-later : (rs : List Stage) (i : ℕ) (q : Stage) (j : ℕ) → suc i ≤ j → stage_at (set rs i q) j ≡ stage_at rs j
  set-later rs i q j l = get_or-set_other rs i j q no_stage (λ e. omega arith)

  pub ranged-set : (k a i : ℕ) (rs : List Stage) (q : Stage) → Ranged k a (suc i) rs → Ranged k a (suc i) (set rs i q)
  ranged-set k a i rs q r = ranged-after k a (suc i) rs (set rs i q) (set-later rs i q) r

  -- the words of a level and of k below it
  abbrev pub Spans : ℕ → ℕ → ℕ
  Spans k a = spot_of K a + extent K (suc k) (a + 1)

  pub spans-next : (k a : ℕ) → Spans (suc k) a ≡ Spans k (below a)
  unfolding extent
  spans-next k a =
      let e : extent K (suc k) (a + 1 + (a + 1)) ≡ extent K (suc k) (below a + 1) = ap (extent K (suc k)) (omega arith) in
      omega (arith, e, next (width K))
    where
      next : (d : ℕ) → (a + a + 1) * d ≡ a * d + (a + 1) * d
      next d = omega arith

  pub spans-own : (k a : ℕ) → spot_of K a + (a + 1) * width K ≤ Spans k a
  unfolding extent
  spans-own k a = omega arith

  module _ where
    pub pass-length : (k a : ℕ) (w : Work) (i : ℕ) (rs : List Stage) (ws : List ℕ) → length (pass K k a w i rs ws).words ≡ length ws
    unfolding pass
    pass-length zero a w i rs ws = worked-length a w ws ws
    pass-length (suc k) a w i rs ws =
        let q : Stage = stage_at rs i in
        pass-length k (below a) (handed K q.due q.node a ws) (suc i) (set rs i (level_stage K a w q ws)) (level_words K a w q ws) ∙ level-length a w q ws

    pub pass-records : (k a : ℕ) (w : Work) (i : ℕ) (rs : List Stage) (ws : List ℕ) → length (pass K k a w i rs ws).records ≡ length rs
    unfolding pass
    pass-records zero a w i rs ws = refl
    pass-records (suc k) a w i rs ws =
        let q : Stage = stage_at rs i in
        pass-records k (below a) (handed K q.due q.node a ws) (suc i) (set rs i (level_stage K a w q ws)) (level_words K a w q ws) ∙ length-set rs i (level_stage K a w q ws)

    -- records before the first and past the last are left alone
    pub pass-others : (k a : ℕ) (w : Work) (i : ℕ) (rs : List Stage) (ws : List ℕ) (j : ℕ) → (j < i) ⊎ (i + k ≤ j) → stage_at (pass K k a w i rs ws).records j ≡ stage_at rs j
    unfolding pass
    pass-others zero a w i rs ws j h = refl
    pass-others (suc k) a w i rs ws j h =
        let q : Stage = stage_at rs i in
        pass-others k (below a) (handed K q.due q.node a ws) (suc i) (set rs i (level_stage K a w q ws)) (level_words K a w q ws) j (⊎_elim (λ (l : j < i). inl (omega arith)) (λ (l : i + suc k ≤ j). inr (omega arith)) h)
        ∙ get_or-set_other rs i j (level_stage K a w q ws) no_stage (λ e. ⊎_elim (λ (l : j < i). omega arith) (λ (l : i + suc k ≤ j). omega arith) h)

    -- words before the level and past the last level are not touched
    pub pass-only : (k a : ℕ) (w : Work) (i : ℕ) (rs : List Stage) (ws : List ℕ) → w.node < a + 1 → Ranged k a i rs → Only (spot_of K a) (Spans k a) ws (pass K k a w i rs ws).words
    unfolding pass
    pass-only zero a w i rs ws h r j g = worked-only a w ws ws h j (⊎_elim (λ (l : j < spot_of K a). inl l) (λ (l : Spans zero a ≤ j). inr (omega (arith, spans-own zero a))) g)
    pass-only (suc k) a w i rs ws h r j g =
        let q : Stage = stage_at rs i in
        pass-only k (below a) (handed K q.due q.node a ws) (suc i) (set rs i (level_stage K a w q ws)) (level_words K a w q ws) (handed-in q.due q.node a ws r.0) (ranged-set k (below a) i rs (level_stage K a w q ws) r.1) j
        (⊎_elim (λ (l : j < spot_of K a). inl (deep (width K) l)) (λ (l : Spans (suc k) a ≤ j). inr (omega (arith, spans-next k a))) g)
        ∙ level-only a w q ws h r.0 j (⊎_elim (λ (l : j < spot_of K a). inl l) (λ (l : Spans (suc k) a ≤ j). inr (omega (arith, spans-own (suc k) a))) g)
      where
        deep : (d : ℕ) → j < a * d → j < (a + a + 1) * d
        deep d l = omega arith

  -- ---- a cycle of the pass is a cycle of the tree at any node
  low-child : (k a i n : ℕ) (rs : List Stage) (ws : List ℕ) (s : Side) → low_at K ws (child (a + n) s) ≡ low_of (suc k) (tree_in (suc k) (below a) i rs ws (child_of n s))
  unfolding low_of tree_in
  low-child k a i n rs ws lhs = ap (low_at K ws) (omega arith)
  low-child k a i n rs ws rhs = ap (low_at K ws) (omega arith)

  pub commutes : (k a : ℕ) (w : Work) (i : ℕ) (rs : List Stage) (ws : List ℕ) (n : ℕ) → n < a + 1 → w.node < a + 1 → Ranged k a i rs → Spans k a ≤ length ws → i + k ≤ length rs
      → tree_in (suc k) a i (pass K k a w i rs ws).records (pass K k a w i rs ws).words n ≡ cycle (suc k) (op_at w n) (tree_in (suc k) a i rs ws n)
  unfolding tree_in pass cycle note_below finish settled level_words level_stage
  commutes zero a w i rs ws n h wi r fits len =
      let own : spot_of K (a + n) + width K ≤ length ws = omega (arith, level_in (width K) a n h, spans-own zero a) in
      let p : node_in K (worked K a w ws ws) (a + n) ≡ (begin (op_at w n) (low (node_in K ws (a + n)).places) (node_in K ws (a + n))).node = worked-node a n w ws ws own in
      λ t. (nothing, p t, tt, tt)
  commutes (suc k) a w i rs ws n h wi r fits len =
      let q : Stage = stage_at rs i in
      let g : Work = handed K q.due q.node a ws in
      let rs₁ : List Stage = set rs i (level_stage K a w q ws) in
      let ws₁ : List ℕ = level_words K a w q ws in
      let vs : List ℕ = filled K a q ws in
      let ws' : List ℕ = (pass K k (below a) g (suc i) rs₁ ws₁).words in
      let rs' : List Stage = (pass K k (below a) g (suc i) rs₁ ws₁).records in
      let l₁ : length ws₁ ≡ length ws = level-length a w q ws in
      let own : spot_of K (a + n) + width K ≤ length ws = omega (arith, level_in (width K) a n h, spans-own (suc k) a) in
      let gi : g.node < below a + 1 = handed-in q.due q.node a ws r.0 in
      let r₁ : Ranged k (below a) (suc i) rs₁ = ranged-set k (below a) i rs (level_stage K a w q ws) r.1 in
      let c : Note = note_seen q.due q.node n in
      let v : Finished = finish c (node_in K ws (a + n)) (low_of (suc k) (tree_in (suc k) (below a) (suc i) rs ws (child_of n lhs))) (low_of (suc k) (tree_in (suc k) (below a) (suc i) rs ws (child_of n rhs))) in
      let same : settled K c (a + n) ws ≡ v = ap₂ (λ (x y : Element). finish c (node_in K ws (a + n)) x y) (low-child k a (suc i) n rs ws lhs) (low-child k a (suc i) n rs ws rhs) in
      let fill' : node_in K vs (a + n) ≡ v.node = filled-node a n ws own q.due q.node ∙ ap (λ (u : Finished). u.node) same in
      let still : node_in K ws' (a + n) ≡ node_in K ws₁ (a + n) = node-local K ws₁ ws' (spot_of K (a + n)) (λ j x y. pass-only k (below a) g (suc i) rs₁ ws₁ gi r₁ j (inl (omega (arith, level_in (width K) a n h, deep (width K))))) in
      let node' : node_in K ws' (a + n) ≡ (begin (op_at w n) (low (node_in K ws (a + n)).places) v.node).node =
      still ∙ worked-node a n w ws vs (omega (arith, filled-length a q ws)) ∙ ap (λ (x : Node). (begin (op_at w n) (low (node_in K ws (a + n)).places) x).node) fill' in
      let at : stage_at rs' i ≡ level_stage K a w q ws = pass-others k (below a) g (suc i) rs₁ ws₁ i (inl (omega arith)) ∙ get_or-set_same rs i (level_stage K a w q ws) no_stage (omega arith) in
      let note' : note_seen (stage_at rs' i).due (stage_at rs' i).node n ≡ (begin (op_at w n) (low (node_in K ws (a + n)).places) v.node).note =
      ap (λ (x : Stage). note_seen x.due x.node n) at ∙ worked-note a n w ws vs ∙ ap (λ (x : Node). (begin (op_at w n) (low (node_in K ws (a + n)).places) x).note) fill' in
      let under : (s : Side) → tree_in (suc k) (below a) (suc i) rs' ws' (child_of n s) ≡ cycle (suc k) (pick s (to_left v) (to_right v)) (tree_in (suc k) (below a) (suc i) rs ws (child_of n s)) =
      λ s. commutes k (below a) g (suc i) rs₁ ws₁ (child_of n s) (child-below n a s h) gi r₁ (omega (arith, spans-next k a)) (omega (arith, length-set rs i (level_stage K a w q ws)))
      ∙ ap₂ (λ (o : Op) (t : Tree (suc k)). cycle (suc k) o t) (handed-op a n ws own q.due q.node s ∙ ap (λ (u : Finished). pick s (to_left u) (to_right u)) same)
      (tree-after (suc k) (below a) (suc i) (child_of n s) rs rs₁ ws ws₁ (λ j l. level-only a w q ws wi r.0 j (inr (omega (arith, deep (width K))))) (set-later rs i (level_stage K a w q ws))) in
      λ t. (note' t, node' t, under lhs t, under rhs t)
    where
      deep : (d : ℕ) → (a + a + 1) * d ≡ a * d + (a + 1) * d
      deep d = omega arith
