-- What every cycle keeps: the shape, records that name what is there, neat words, and a sound tree. A cycle on such a machine is what its ruling says: it meets no
-- damage, holds what was brought in less what was given out, and gives the least.
use Rattle.laws.specs.Prelude.{Bool, Element, List, Request, ◌*◌, ◌+◌, ◌<◌, ◌^◌, ◌∙◌, ◌≡◌, ◌≤◌, and-true, ap, arith, asks, eqb, eqb-false, eqb-true, false, get_or-set_same, inl, key, length, length-set, ltb-true, mul-le-mul_right, not, not-suc-le-zero, or_right, refl, set, subst, suc, sym, true, zero, ℕ}
use Rattle.cluster_clock_model.proofs.Exactly.{ticks, cycled-fine}
use Rattle.cluster_clock_model.proofs.Fine.{fit_count, node-fine, reach-all, some-fine, stages-fine}
use Rattle.cluster_clock_model.proofs.Flight.{cycle, cycles, Inv, low_of, note_below, Tree, tree-least, within}
use Rattle.cluster_clock_model.proofs.Seen.{begins-length, commutes, handed-in, InRange, level-length, node-apart, note_seen, pass-length, pass-others, pass-records, Ranged, ranged-set, settled-length, Spans, tree_in, filled-length}
use Rattle.cluster_clock_model.specs.Prelude.{CycleOutcome, Machine, Stage, Work, asked_ok, begins, below, child_of, clock, cycle_queue, cycle_run, cycled, filled, handed, level_stage, level_words, loaded, no_stage, note_of, pass, sane_at, settled, stage_at, stages_ok, waits, work, worked}
use Rattle.cluster_model.specs.Prelude.{Can, Neat, Node, Note, Shape, extent, fill, held_in, inside, lhs, low_elem, node_in, nodes, nothing, onto, op_of, rhs, room, root_held, rule_at, some, spot_of, touch, trial, width, works}
use Rattle.cluster_model.proofs.Laws.{can-do, is-shape, moves, neat-row, node-total, slice, touch-only, touch-written}
use Rattle.promise.proofs.Calls.{fits-least, last_fits}
use Rattle.promise.proofs.InFlight.{IsClock}
use Rattle.promise.specs.Prelude.{Clear, Least, always, brought, given, grants, last_table, lower}

-- ---- neat words stay neat
module _ (K : ℕ) where
  abbrev pub AllNeat : ℕ → List ℕ → Type 0
  AllNeat N ws = (m : ℕ) → m < N → Neat K ws (spot_of K m)

  module _ (N : ℕ) where
    lies : (m len : ℕ) → m < N → N * width K ≤ len → spot_of K m + width K ≤ len
    lies m len h g = omega (arith, mul-le-mul_right (width K) h)

    touch-neat : (t : Bool) (ws : List ℕ) (p : ℕ) (x : Node) → length x.places ≡ K → N * width K ≤ length ws → AllNeat N ws → AllNeat N (touch t ws (spot_of K p) x)
    touch-neat t ws p x e g n m h = go (eqb m p) refl
      where
        go : (b : Bool) → eqb m p ≡ b → Neat K (touch t ws (spot_of K p) x) (spot_of K m)
        go true q =
            let same : m ≡ p = eqb-true m p q in
            subst (λ (p : ℕ). Neat K (touch t ws (spot_of K p) x) (spot_of K m)) same (touch-written K t ws (spot_of K m) x e (lies m (length ws) h g) (n m h))
        go false q =
            neat-row K ws (touch t ws (spot_of K p) x) (spot_of K m + 2) (λ i l r. touch-only K t ws (spot_of K p) x e i (node-apart (width K) m p i (eqb-false m p q) (omega arith) (omega arith))) (n m h)

    level-neat : (a : ℕ) (w : Work) (q : Stage) (ws : List ℕ) → N * width K ≤ length ws → AllNeat N ws → AllNeat N (level_words K a w q ws)
    unfolding level_words worked filled
    level-neat a w q ws g n =
        touch-neat (works w.op) (filled K a q ws) (a + w.node) (begins K a w ws (filled K a q ws)).node (begins-length K a w ws (filled K a q ws)) (subst (λ (l : ℕ). N * width K ≤ l) (sym (filled-length K a q ws)) g)
        (touch-neat (waits q.due) ws (a + q.node) (settled K (note_of q.due) (a + q.node) ws).node (settled-length K (note_of q.due) (a + q.node) ws) g n)

    pub pass-neat : (k a : ℕ) (w : Work) (i : ℕ) (rs : List Stage) (ws : List ℕ) → N * width K ≤ length ws → AllNeat N ws → AllNeat N (pass K k a w i rs ws).words
    unfolding pass worked
    pass-neat zero a w i rs ws g n = touch-neat (works w.op) ws (a + w.node) (begins K a w ws ws).node (begins-length K a w ws ws) g n
    pass-neat (suc k) a w i rs ws g n =
        let q : Stage = stage_at rs i in
        pass-neat k (below a) (handed K q.due q.node a ws) (suc i) (set rs i (level_stage K a w q ws)) (level_words K a w q ws) (subst (λ (l : ℕ). N * width K ≤ l) (sym (level-length K a w q ws)) g)
        (level-neat a w q ws g n)

  -- ---- records stay within their levels
  loaded-in : (c : Note) (n a : ℕ) → n < a + 1 → InRange (loaded c n).due (loaded c n).node a
  unfolding loaded
  loaded-in nothing n a h = tt
  loaded-in (fill j) n a h = h
  loaded-in (trial j x) n a h = h
  loaded-in (onto lhs y) n a h = omega arith
  loaded-in (onto rhs y) n a h = omega arith

  pub pass-ranged : (k a : ℕ) (w : Work) (i : ℕ) (rs : List Stage) (ws : List ℕ) → w.node < a + 1 → i + k ≤ length rs → Ranged k a i rs → Ranged k a i (pass K k a w i rs ws).records
  unfolding pass level_stage
  pass-ranged zero a w i rs ws h l r = tt
  pass-ranged (suc k) a w i rs ws h l r =
      let q : Stage = stage_at rs i in
      let c : Note = (begins K a w ws (filled K a q ws)).note in
      let v : Stage = level_stage K a w q ws in
      let g : Work = handed K q.due q.node a ws in
      let rs₁ : List Stage = set rs i v in
      let ws₁ : List ℕ = level_words K a w q ws in
      let at : stage_at (pass K k (below a) g (suc i) rs₁ ws₁).records i ≡ v = pass-others K k (below a) g (suc i) rs₁ ws₁ i (inl (omega arith)) ∙ get_or-set_same rs i v no_stage (omega arith) in (
        subst (λ (x : Stage). InRange x.due x.node a) (sym at) (loaded-in c w.node a h),
        pass-ranged k (below a) g (suc i) rs₁ ws₁ (handed-in K q.due q.node a ws r.0) (omega (arith, length-set rs i v)) (ranged-set K k (below a) i rs v r.1),
      )

-- ---- what is kept
pub record Kept (K k : ℕ) (x : Machine) : Type 0 where
  pub shape : Shape K (suc k) (length x.words)
  pub count : k ≤ length x.records
  pub ranged : Ranged k 0 0 x.records
  pub neat : AllNeat K (nodes (suc k)) x.words
  pub sound : Inv K (suc k) (tree_in K (suc k) 0 0 x.records x.words 0)

some-node : (k : ℕ) → 0 < nodes (suc k)
unfolding nodes
some-node k = omega arith

-- all nodes lie within the words
pub nodes-fit : (K k len : ℕ) → extent K (suc k) 1 ≤ len → nodes (suc k) * width K ≤ len
nodes-fit K k len h = go (width K) (nodes (suc k)) (2 ^ suc k) (extent K (suc k) 1) (node-total (suc k)) (slice K (suc k)) h
  where
    go : (d n p e : ℕ) → n + 1 ≡ p → e + d ≡ p * d → e ≤ len → n * d ≤ len
    go d n p e q r h = omega (arith, rw (sym q) at r)

module _ (K k : ℕ) (x : Machine) (kept : Kept K k x) where
  abbrev rs : List Stage
  rs = x.records

  abbrev ws : List ℕ
  ws = x.words

  abbrev pub flight_of : Tree (suc k)
  flight_of = tree_in K (suc k) 0 0 rs ws 0

  abbrev in_flight : (Element → Bool) → ℕ
  in_flight f = within f (suc k) flight_of

  abbrev top : Element
  top = low_elem (node_in K ws 0).places

  two : 1 < K
  two = kept.shape.two

  fits : Spans K k 0 ≤ length ws
  fits = omega (arith, kept.shape.slice)

  -- held, from the root alone
  pub kept-held : held_in K (suc k) ws ≡ in_flight always
  unfolding tree_in within root_held
  kept-held =
      fit_count K (room K k) (note_below k (note_seen (stage_at rs 0).due (stage_at rs 0).node 0)) (node_in K ws (0 + 0)) (λ f. within f k (tree_in K k (below 0) 1 rs ws (child_of 0 lhs))) (λ f. within f k (tree_in K k (below 0) 1 rs ws (child_of 0 rhs))) kept.sound.0

  root-least : 0 < held_in K (suc k) ws → in_flight (lower (low_elem (node_in K ws 0).places).rank.0) ≡ 0
  unfolding key low_of tree_in
  root-least p = (tree-least K (suc k) flight_of two kept.sound (omega (arith, kept-held))).least

  -- where anything is held the root has an element
  pub root-some : 0 < held_in K (suc k) ws → 0 < inside always (node_in K ws 0).places
  unfolding some
  root-some h = ltb-true 0 (inside always (node_in K ws 0).places) (some-fine K two rs ws (nodes (suc k)) kept.neat k 0 0 0 kept.sound (omega (arith, kept-held)))

  pub root-sound : (n : ℕ) → n < 0 + 1 → Inv K (suc k) (tree_in K (suc k) 0 0 rs ws n)
  root-sound zero h = kept.sound
  root-sound (suc n) h = absurd (not-suc-le-zero {n = 0} (omega arith))

  -- ---- no test fails
  pub kept-root : sane_at K (room K k) ws 0 ≡ true
  kept-root = node-fine K two rs ws (nodes (suc k)) kept.neat k 0 0 0 (some-node k) kept.sound

  pub kept-asked : (r : Request) → asked_ok K (suc k) r ws ≡ true
  kept-asked r = or_right (not (asks r)) _ kept-root

  pub kept-stages : stages_ok K k 0 0 rs ws ≡ true
  kept-stages = stages-fine K two rs ws (nodes (suc k)) kept.neat k 0 0 (omega (arith, reach-all k)) root-sound kept.ranged

  -- ---- what a request that is let in does
  module _ (r : Request) (c : Clear (last_table r (held_in K (suc k) ws) (room K (suc k)))) where
    abbrev y : Machine
    y = (clock K (suc k)).moves r x

    can : Can (room K (suc k)) (op_of r) in_flight
    can = can-do (room K (suc k)) (held_in K (suc k) ws) in_flight kept-held r (last_fits r (held_in K (suc k) ws) (room K (suc k)) c)

    -- the tree goes by a cycle
    move-flight : tree_in K (suc k) 0 0 y.records y.words 0 ≡ cycle (suc k) (op_of r) flight_of
    move-flight = commutes K k 0 (work (op_of r) 0) 0 rs ws 0 (omega arith) (omega arith) kept.ranged fits (omega (arith, kept.count))

    pub move-kept : Kept K k y
    move-kept =
        let o : Work = work (op_of r) 0 in
        record {
          shape = subst (λ (n : ℕ). Shape K (suc k) n) (sym (pass-length K k 0 o 0 rs ws)) kept.shape;
          count = subst (λ (n : ℕ). k ≤ n) (sym (pass-records K k 0 o 0 rs ws)) kept.count;
          ranged = pass-ranged K k 0 o 0 rs ws (omega arith) (omega (arith, kept.count)) kept.ranged;
          neat = pass-neat K (nodes (suc k)) k 0 o 0 rs ws (nodes-fit K k (length ws) kept.shape.slice) kept.neat;
          sound = subst (Inv K (suc k)) (sym move-flight) (cycles K two (suc k) (op_of r) flight_of kept.sound can).sound;
        }

    pub move-sum : (f : Element → Bool) → within f (suc k) (tree_in K (suc k) 0 0 y.records y.words 0) + given r (grants r top) f ≡ in_flight f + brought r (grants r top) f
    unfolding low_of tree_in
    move-sum f = rw move-flight (omega (arith, (cycles K two (suc k) (op_of r) flight_of kept.sound can).sum f, moves top f r))

    pub move-least : Least in_flight r (grants r top)
    move-least = fits-least in_flight r (held_in K (suc k) ws) (room K (suc k)) top (last_fits r (held_in K (suc k) ws) (room K (suc k)) c) root-least

-- it is a clock
pub is-clock : (K k : ℕ) → IsClock (clock K (suc k)) (cycle_queue K (suc k)) (Kept K k)
is-clock K k =
    record {
      ticks = ticks K (suc k);
      shaped = λ x kept. is-shape K (suc k) (length x.words) kept.shape;
      sound = λ r x kept. and-true _ _ (kept-asked K k x kept r) (kept-stages K k x kept);
      keeps = λ r x kept c. move-kept K k x kept r c;
    }

-- a cycle answers what its ruling says
pub kept-answer : (K k : ℕ) (x : Machine) → Kept K k x → (r : Request) → (cycled K (suc k) r x.records x.words).answer ≡ (rule_at K (suc k) r x.words).answer
unfolding cycle_run
kept-answer K k x kept r = ap (λ (o : CycleOutcome). o.answer) (cycled-fine K (suc k) r x.records x.words (is-shape K (suc k) (length x.words) kept.shape) (and-true _ _ (kept-asked K k x kept r) (kept-stages K k x kept)))
