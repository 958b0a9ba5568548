-- The pass over the levels, level by level: what it leaves at a level is what that level's step alone would leave there, on the words and records as they stood; what a
-- level's step writes and what it leaves alone; and that the last level leaves nothing.
use Rattle.laws.specs.Prelude.{Bool, List, Request, ◌*◌, ◌+◌, ◌<◌, ◌∙◌, ◌≡◌, ◌≤◌, ◌⊎◌, and_left, and_right, ap, ap₂, arith, false, false≢true, get_or-set_same, inl, inr, length, length-set, ltb, ltb-true, mul-le-mul_right, not-suc-le-zero, refl, set, subst, suc, sym, true, zero, ℕ}
use Rattle.cluster_clock_model.proofs.Ends.{root_ends, work-ends}
use Rattle.cluster_clock_model.proofs.Level.{Has, like-filled, like-worked, same-begins}
use Rattle.cluster_clock_model.proofs.Seen.{begins-length, filled-length, filled-node, handed-in, InRange, level_in, level-length, level-only, node-apart, note_seen, op_at, pass-only, pass-others, Ranged, ranged-set, set-later, settled-length, Spans, spans-next, spans-own, worked-node}
use Rattle.cluster_clock_model.specs.Prelude.{Busy, Due, Fill, GivenAt, Nothing, Put, Stage, Swap, WaitsAt, Work, asked_ok, begins, below, child_of, filled, first_node, handed, is_nothing, level_stage, level_words, loaded, low_at, no_stage, note_of, pass, settled, stage_at, stage_below, stage_ok, stages_ok, waits, work, work_of, worked}
use Rattle.cluster_model.specs.Prelude.{Begun, Finished, Node, Note, Side, begin, child, fill, finish, lhs, low, low_elem, node_in, nothing, onto, rhs, rule_at, spot_of, touch, trial, width, word, works}
use Rattle.cluster_model.proofs.Laws.{Alike, node-local, touch-only}

-- ---- levels from a level on: the t-th below it, its record, its work
abbrev pub down : ℕ → ℕ → ℕ
down zero a = a
down (suc t) a = down t (below a)

abbrev pub onward : ℕ → ℕ → ℕ
onward zero i = i
onward (suc t) i = onward t (suc i)

abbrev pub stage_in : ℕ → ℕ → ℕ → List Stage → Stage
stage_in zero t i rs = no_stage
stage_in (suc k) zero i rs = stage_at rs i
stage_in (suc k) (suc t) i rs = stage_in k t (suc i) rs

deeper : (t a n : ℕ) → a ≤ down t a + n
deeper zero a n = omega arith
deeper (suc t) a n = let h : below a ≤ down t (below a) + n = deeper t (below a) n in omega arith

further : (t i : ℕ) → i ≤ onward t i
further zero i = omega arith
further (suc t) i = omega (arith, further t (suc i))

pub onward-is : (t i : ℕ) → onward t i ≡ i + t
onward-is zero i = omega arith
onward-is (suc t) i = omega (arith, onward-is t (suc i))

down-next : (t a : ℕ) → down t (below a) ≡ below (down t a)
down-next zero a = refl
down-next (suc t) a = down-next t (below a)

pub down-first : (t : ℕ) → down t 0 ≡ first_node t
unfolding first_node
down-first zero = refl
down-first (suc t) = down-next t 0 ∙ ap below (down-first t)

pub stage-here : (k t i : ℕ) (rs : List Stage) → t < k → stage_in k t i rs ≡ stage_at rs (onward t i)
stage-here zero t i rs h = absurd (not-suc-le-zero h)
stage-here (suc k) zero i rs h = refl
stage-here (suc k) (suc t) i rs h = stage-here k t (suc i) rs (omega arith)

pub stage-none : (k t i : ℕ) (rs : List Stage) → k ≤ t → stage_in k t i rs ≡ no_stage
stage-none zero t i rs h = refl
stage-none (suc k) zero i rs h = absurd (not-suc-le-zero h)
stage-none (suc k) (suc t) i rs h = stage-none k t (suc i) rs (omega arith)

pub next-first : (K i p : ℕ) → first_node (suc i) * (2 + K * 4) ≤ p → spot_of K (first_node i) + (first_node i + 1) * width K ≤ p
unfolding first_node
next-first K i p h = go (width K) (first_node i) h
  where
    go : (d b : ℕ) → below b * d ≤ p → b * d + (b + 1) * d ≤ p
    go d b h = omega arith

module _ (K : ℕ) where
  abbrev work_at : ℕ → ℕ → Work → ℕ → List Stage → List ℕ → Work
  work_at zero a w i rs ws = w
  work_at (suc t) a w i rs ws = work_at t (below a) (handed K (stage_at rs i).due (stage_at rs i).node a ws) (suc i) rs ws

  -- ---- what a level reads: its own words and those after it
  abbrev From : ℕ → List ℕ → List ℕ → Type 0
  From a ws ws' = (j : ℕ) → spot_of K a ≤ j → word ws' j ≡ word ws j

  at_least : (d a m i : ℕ) → a ≤ m → m * d ≤ i → a * d ≤ i
  at_least d a m i h g = omega (arith, mul-le-mul_right d h)

  node-from : (a m : ℕ) (ws ws' : List ℕ) → From a ws ws' → a ≤ m → node_in K ws' m ≡ node_in K ws m
  node-from a m ws ws' h l = node-local K ws ws' (spot_of K m) (λ j g g'. h j (at_least (width K) a m j l g))

  from-below : (a : ℕ) (ws ws' : List ℕ) → From a ws ws' → From (below a) ws ws'
  from-below a ws ws' h j l = h j (at_least (width K) a (below a) j (omega arith) l)

  low-from : (a m : ℕ) (ws ws' : List ℕ) → From a ws ws' → a ≤ m → low_at K ws' m ≡ low_at K ws m
  low-from a m ws ws' h l = ap (λ (n : Node). low_elem n.places) (node-from a m ws ws' h l)

  settled-from : (a m : ℕ) (c : Note) (ws ws' : List ℕ) → From a ws ws' → a ≤ m → settled K c m ws' ≡ settled K c m ws
  unfolding settled
  settled-from a m c ws ws' h l =
      let p : node_in K ws' m ≡ node_in K ws m = node-from a m ws ws' h l in
      let q : low_at K ws' (child m lhs) ≡ low_at K ws (child m lhs) = low-from a (child m lhs) ws ws' h (omega arith) in
      let r : low_at K ws' (child m rhs) ≡ low_at K ws (child m rhs) = low-from a (child m rhs) ws ws' h (omega arith) in
      λ i. finish c (p i) (q i) (r i)

  handed-from : (a : ℕ) (d : Due) (p : ℕ) (ws ws' : List ℕ) → From a ws ws' → handed K d p a ws' ≡ handed K d p a ws
  unfolding handed
  handed-from a Nothing p ws ws' h = refl
  handed-from a (Put y) p ws ws' h = refl
  handed-from a (Fill j) p ws ws' h = ap (λ (v : Finished). work v.op (child_of p v.side)) (settled-from a (a + p) (fill j) ws ws' h (omega arith))
  handed-from a (Swap j x) p ws ws' h = ap (λ (v : Finished). work v.op (child_of p v.side)) (settled-from a (a + p) (trial j x) ws ws' h (omega arith))

  work-from : (t a : ℕ) (w : Work) (i : ℕ) (rs rs' : List Stage) (ws ws' : List ℕ) → From a ws ws' → ((j : ℕ) → i ≤ j → stage_at rs' j ≡ stage_at rs j) → work_at t a w i rs' ws' ≡ work_at t a w i rs ws
  work-from zero a w i rs rs' ws ws' h g = refl
  work-from (suc t) a w i rs rs' ws ws' h g =
      let q : Stage = stage_at rs i in
      let e : handed K (stage_at rs' i).due (stage_at rs' i).node a ws' ≡ handed K q.due q.node a ws = ap (λ (q : Stage). handed K q.due q.node a ws') (g i (omega arith)) ∙ handed-from a q.due q.node ws ws' h in
      work-from t (below a) (handed K (stage_at rs' i).due (stage_at rs' i).node a ws') (suc i) rs rs' ws ws' (from-below a ws ws' h) (λ j l. g j (omega arith)) ∙ ap (λ (w : Work). work_at t (below a) w (suc i) rs ws) e

  stage-from : (k t i : ℕ) (rs rs' : List Stage) → ((j : ℕ) → i ≤ j → stage_at rs' j ≡ stage_at rs j) → stage_in k t i rs' ≡ stage_in k t i rs
  stage-from zero t i rs rs' g = refl
  stage-from (suc k) zero i rs rs' g = g i (omega arith)
  stage-from (suc k) (suc t) i rs rs' g = stage-from k t (suc i) rs rs' (λ j l. g j (omega arith))

  -- ---- a level's step, where the words from the level on are the same
  -- the words of the level whose first node is b
  abbrev pub Level : ℕ → ℕ → Type 0
  Level b p = (spot_of K b ≤ p) × (p < spot_of K b + (b + 1) * width K)

  pub has-own : (b n : ℕ) → n < b + 1 → Has K (Level b) (b + n)
  has-own b n h p l g = (at_least (width K) b (b + n) p (omega arith) l, omega (arith, level_in K (width K) b n h))

  -- on words that agree on the level, where a node that waits comes to the same
  module _ (b : ℕ) (w : Work) (q : Stage) (ws vs : List ℕ) (a : Alike (Level b) ws vs) (wi : w.node < b + 1) (s : waits q.due ≡ true → settled K (note_of q.due) (b + q.node) ws ≡ settled K (note_of q.due) (b + q.node) vs) where
    pub level-words : Alike (Level b) (level_words K b w q ws) (level_words K b w q vs)
    unfolding level_words
    level-words = like-worked K (Level b) b ws vs a w (filled K b q ws) (filled K b q vs) (like-filled K (Level b) b ws vs a q.due q.node s) (has-own b w.node wi)

    pub level-loads : level_stage K b w q ws ≡ level_stage K b w q vs
    unfolding level_stage
    level-loads = ap (λ (v : Begun). loaded v.note w.node) (same-begins K (Level b) b ws vs a w (filled K b q ws) (filled K b q vs) (like-filled K (Level b) b ws vs a q.due q.node s) (has-own b w.node wi))

  from-alike : (a b : ℕ) (ws ws' : List ℕ) → From a ws ws' → a ≤ b → spot_of K b + (b + 1) * width K ≤ length ws → length ws' ≡ length ws → Alike (Level b) ws' ws
  from-alike a b ws ws' h l fits e =
      record { one = λ p x. omega (arith, x.1); other = λ p x. omega (arith, x.1); same = λ p x. h p (at_least (width K) a b p l x.0) }

  -- a node of the level, by its own step
  pub level-node : (a : ℕ) (w : Work) (q : Stage) (ws : List ℕ) (n : ℕ) → spot_of K (a + n) + width K ≤ length ws
      → node_in K (level_words K a w q ws) (a + n) ≡ (begin (op_at w n) (low (node_in K ws (a + n)).places) (settled K (note_seen q.due q.node n) (a + n) ws).node).node
  unfolding level_words
  level-node a w q ws n fits =
      worked-node K a n w ws (filled K a q ws) (subst (λ (l : ℕ). spot_of K (a + n) + width K ≤ l) (sym (filled-length K a q ws)) fits)
      ∙ ap (λ (x : Node). (begin (op_at w n) (low (node_in K ws (a + n)).places) x).node) (filled-node K a n ws fits q.due q.node)

  -- ---- the ranges, level by level
  pub work_in : (k t a : ℕ) (w : Work) (i : ℕ) (rs : List Stage) (ws : List ℕ) → t ≤ k → w.node < a + 1 → Ranged k a i rs → (work_at t a w i rs ws).node < down t a + 1
  work_in k zero a w i rs ws h wi r = wi
  work_in zero (suc t) a w i rs ws h wi r = absurd (not-suc-le-zero h)
  work_in (suc k) (suc t) a w i rs ws h wi r =
      work_in k t (below a) (handed K (stage_at rs i).due (stage_at rs i).node a ws) (suc i) rs ws (omega arith) (handed-in K (stage_at rs i).due (stage_at rs i).node a ws r.0) r.1

  pub stage-in : (k t a i : ℕ) (rs : List Stage) → Ranged k a i rs → InRange (stage_in k t i rs).due (stage_in k t i rs).node (down t a)
  stage-in zero t a i rs r = tt
  stage-in (suc k) zero a i rs r = r.0
  stage-in (suc k) (suc t) a i rs r = stage-in k t (below a) (suc i) rs r.1

  pub down_fits : (k t a : ℕ) → t ≤ k → spot_of K (down t a) + (down t a + 1) * width K ≤ Spans K k a
  down_fits k zero a h = spans-own K k a
  down_fits zero (suc t) a h = absurd (not-suc-le-zero h)
  down_fits (suc k) (suc t) a h = omega (arith, down_fits k t (below a) (omega arith), spans-next K k a)

  pub node-fits : (a n len : ℕ) → n < a + 1 → spot_of K a + (a + 1) * width K ≤ len → spot_of K (a + n) + width K ≤ len
  node-fits a n len h g = omega (arith, level_in K (width K) a n h)

  -- the level just written leaves the words from the next level on
  next-from : (a : ℕ) (w : Work) (q : Stage) (ws : List ℕ) → w.node < a + 1 → InRange q.due q.node a → From (below a) ws (level_words K a w q ws)
  next-from a w q ws wi r j l = level-only K a w q ws wi r j (inr (omega (arith, deep (width K))))
    where
      deep : (d : ℕ) → (a + a + 1) * d ≡ a * d + (a + 1) * d
      deep d = omega arith

  -- ---- each level
  pub pass-words : (k a : ℕ) (w : Work) (i : ℕ) (rs : List Stage) (ws : List ℕ) (t p : ℕ) → t ≤ k → Level (down t a) p → w.node < a + 1 → Ranged k a i rs → Spans K k a ≤ length ws
      → word (pass K k a w i rs ws).words p ≡ word (level_words K (down t a) (work_at t a w i rs ws) (stage_in k t i rs) ws) p
  unfolding pass level_words filled touch
  pass-words zero a w i rs ws zero p h l wi r fits = refl
  pass-words zero a w i rs ws (suc t) p h l wi r fits = absurd (not-suc-le-zero h)
  pass-words (suc k) a w i rs ws zero p h l wi r fits =
      let q : Stage = stage_at rs i in
      pass-only K k (below a) (handed K q.due q.node a ws) (suc i) (set rs i (level_stage K a w q ws)) (level_words K a w q ws) (handed-in K q.due q.node a ws r.0) (ranged-set K k (below a) i rs (level_stage K a w q ws) r.1) p (inl (omega (arith, l.1, deep (width K))))
    where
      deep : (d : ℕ) → (a + a + 1) * d ≡ a * d + (a + 1) * d
      deep d = omega arith
  pass-words (suc k) a w i rs ws (suc t) p h l wi r fits =
      let q : Stage = stage_at rs i in
      let g : Work = handed K q.due q.node a ws in
      let rs₁ : List Stage = set rs i (level_stage K a w q ws) in
      let ws₁ : List ℕ = level_words K a w q ws in
      let same : From (below a) ws ws₁ = next-from a w q ws wi r.0 in
      let later : (j : ℕ) → suc i ≤ j → stage_at rs₁ j ≡ stage_at rs j = set-later K rs i (level_stage K a w q ws) in
      let gi : g.node < below a + 1 = handed-in K q.due q.node a ws r.0 in
      let b : ℕ = down t (below a) in
      let u : Work = work_at t (below a) g (suc i) rs ws in
      let v : Stage = stage_in k t (suc i) rs in
      let wide : Spans K k (below a) ≤ length ws = omega (arith, spans-next K k a) in
      pass-words k (below a) g (suc i) rs₁ ws₁ t p (omega arith) l gi (ranged-set K k (below a) i rs (level_stage K a w q ws) r.1) (omega (arith, wide, level-length K a w q ws))
      ∙ ap₂ (λ (u : Work) (v : Stage). word (level_words K b u v ws₁) p) (work-from t (below a) g (suc i) rs rs₁ ws ws₁ same later) (stage-from k t (suc i) rs rs₁ later)
      ∙ (level-words b u v ws₁ ws (from-alike (below a) b ws ws₁ same (omega (arith, deeper t (below a) 0)) (omega (arith, down_fits k t (below a) (omega arith), wide)) (level-length K a w q ws))
      (work_in k t (below a) g (suc i) rs ws (omega arith) gi r.1) (λ e. settled-from (below a) (b + v.node) (note_of v.due) ws ws₁ same (deeper t (below a) v.node))).same p l

  -- .. and each record
  pub pass-loads : (k a : ℕ) (w : Work) (i : ℕ) (rs : List Stage) (ws : List ℕ) (t : ℕ) → t < k → w.node < a + 1 → Ranged k a i rs → Spans K k a ≤ length ws → i + k ≤ length rs
      → stage_at (pass K k a w i rs ws).records (onward t i) ≡ level_stage K (down t a) (work_at t a w i rs ws) (stage_at rs (onward t i)) ws
  unfolding pass
  pass-loads zero a w i rs ws t h wi r fits len = absurd (not-suc-le-zero h)
  pass-loads (suc k) a w i rs ws zero h wi r fits len =
      let q : Stage = stage_at rs i in
      let g : Work = handed K q.due q.node a ws in
      pass-others K k (below a) g (suc i) (set rs i (level_stage K a w q ws)) (level_words K a w q ws) i (inl (omega arith)) ∙ get_or-set_same rs i (level_stage K a w q ws) no_stage (omega arith)
  pass-loads (suc k) a w i rs ws (suc t) h wi r fits len =
      let q : Stage = stage_at rs i in
      let g : Work = handed K q.due q.node a ws in
      let rs₁ : List Stage = set rs i (level_stage K a w q ws) in
      let ws₁ : List ℕ = level_words K a w q ws in
      let same : From (below a) ws ws₁ = next-from a w q ws wi r.0 in
      let later : (j : ℕ) → suc i ≤ j → stage_at rs₁ j ≡ stage_at rs j = set-later K rs i (level_stage K a w q ws) in
      let gi : g.node < below a + 1 = handed-in K q.due q.node a ws r.0 in
      let b : ℕ = down t (below a) in
      let u : Work = work_at t (below a) g (suc i) rs ws in
      let v : Stage = stage_at rs (onward t (suc i)) in
      let wide : Spans K k (below a) ≤ length ws = omega (arith, spans-next K k a) in
      pass-loads k (below a) g (suc i) rs₁ ws₁ t (omega arith) gi (ranged-set K k (below a) i rs (level_stage K a w q ws) r.1) (omega (arith, wide, level-length K a w q ws)) (omega (arith, length-set rs i (level_stage K a w q ws)))
      ∙ ap₂ (λ (u : Work) (v : Stage). level_stage K b u v ws₁) (work-from t (below a) g (suc i) rs rs₁ ws ws₁ same later) (later (onward t (suc i)) (further t (suc i)))
      ∙ level-loads b u v ws₁ ws (from-alike (below a) b ws ws₁ same (omega (arith, deeper t (below a) 0)) (omega (arith, down_fits k t (below a) (omega arith), wide)) (level-length K a w q ws))
      (work_in k t (below a) g (suc i) rs ws (omega arith) gi r.1) (λ e. settled-from (below a) (b + v.node) (note_of v.due) ws ws₁ same (deeper t (below a) v.node))

  -- ---- by the level's number
  work-is : (t a : ℕ) (w : Work) (i : ℕ) (rs : List Stage) (ws : List ℕ) → work_at (suc t) a w i rs ws ≡ handed K (stage_at rs (onward t i)).due (stage_at rs (onward t i)).node (down t a) ws
  work-is zero a w i rs ws = refl
  work-is (suc t) a w i rs ws = work-is t (below a) (handed K (stage_at rs i).due (stage_at rs i).node a ws) (suc i) rs ws

  pub works-are : (levels : ℕ) (r : Request) (rs : List Stage) (ws : List ℕ) (t : ℕ) → work_at t 0 (work (rule_at K levels r ws).op 0) 0 rs ws ≡ work_of K levels r rs ws t
  unfolding work_of
  works-are levels r rs ws zero = refl
  works-are levels r rs ws (suc t) =
      work-is t 0 (work (rule_at K levels r ws).op 0) 0 rs ws ∙ ap₂ (λ (i b : ℕ). handed K (stage_at rs i).due (stage_at rs i).node b ws) (onward-is t 0 ∙ omega arith) (down-first t)

  -- a test that is passed: every record names what is there
  stage-ranged : (k : ℕ) (d : Due) (n a : ℕ) (ws : List ℕ) → stage_ok K k d n a ws ≡ true → InRange d n a
  unfolding stage_ok
  stage-ranged k Nothing n a ws e = tt
  stage-ranged k (Put y) n a ws e = ltb-true n (below a + 1) (and_left (ltb n (below a + 1)) _ e)
  stage-ranged k (Fill j) n a ws e = ltb-true n (a + 1) (and_left (ltb n (a + 1)) _ e)
  stage-ranged k (Swap j x) n a ws e = ltb-true n (a + 1) (and_left (ltb n (a + 1)) _ e)

  pub stages-ranged : (k a i : ℕ) (rs : List Stage) (ws : List ℕ) → stages_ok K k a i rs ws ≡ true → Ranged k a i rs
  unfolding stages_ok
  stages-ranged zero a i rs ws e = tt
  stages-ranged (suc k) a i rs ws e = (
    stage-ranged k (stage_at rs i).due (stage_at rs i).node a ws (and_left (stage_ok K k (stage_at rs i).due (stage_at rs i).node a ws) _ e),
    stages-ranged k (below a) (suc i) rs ws (and_right (stage_ok K k (stage_at rs i).due (stage_at rs i).node a ws) _ e),
  )

  -- ---- which nodes stand
  touch-stands : (t : Bool) (ws : List ℕ) (m : ℕ) (x : Node) (n p : ℕ) → length x.places ≡ K → (t ≡ true → n ≡ m → ⊥) → spot_of K n ≤ p → p < spot_of K n + width K → word (touch t ws (spot_of K m) x) p ≡ word ws p
  unfolding touch
  touch-stands true ws m x n p e h l g = touch-only K true ws (spot_of K m) x e p (node-apart (width K) n m p (h refl) l g)
  touch-stands false ws m x n p e h l g = refl

  pub level-stands : (a : ℕ) (w : Work) (q : Stage) (ws : List ℕ) (n p : ℕ) → (works w.op ≡ true → n ≡ w.node → ⊥) → (waits q.due ≡ true → n ≡ q.node → ⊥)
      → spot_of K (a + n) ≤ p → p < spot_of K (a + n) + width K → word (level_words K a w q ws) p ≡ word ws p
  unfolding level_words worked filled
  level-stands a w q ws n p f h l g =
      touch-stands (works w.op) (filled K a q ws) (a + w.node) (begins K a w ws (filled K a q ws)).node (a + n) p (begins-length K a w ws (filled K a q ws)) (λ t e. f t (omega arith)) l g
      ∙ touch-stands (waits q.due) ws (a + q.node) (settled K (note_of q.due) (a + q.node) ws).node (a + n) p (settled-length K (note_of q.due) (a + q.node) ws) (λ t e. h t (omega arith)) l g

  -- with nothing to do nothing is written
  pub level-still : (a : ℕ) (w : Work) (q : Stage) (ws : List ℕ) → works w.op ≡ false → waits q.due ≡ false → level_words K a w q ws ≡ ws
  unfolding level_words worked filled touch
  level-still a w q ws e f =
      ap (λ (t : Bool). touch t (filled K a q ws) (spot_of K (a + w.node)) (begins K a w ws (filled K a q ws)).node) e
      ∙ ap (λ (t : Bool). touch t ws (spot_of K (a + q.node)) (settled K (note_of q.due) (a + q.node) ws).node) f

  -- whom a record gives something to do
  handed-given : (d : Due) (m a : ℕ) (ws : List ℕ) (n : ℕ) → works (handed K d m a ws).op ≡ true → n ≡ (handed K d m a ws).node → GivenAt d m n
  unfolding handed works
  handed-given Nothing m a ws n t e = absurd (false≢true t)
  handed-given (Put y) m a ws n t e = e
  handed-given (Fill j) m a ws n t e = go (settled K (fill j) (a + m) ws).side e
    where
      go : (s : Side) → n ≡ child_of m s → (n ≡ m + m) ⊎ (n ≡ m + m + 1)
      go lhs e = inl e
      go rhs e = inr (omega arith)
  handed-given (Swap j x) m a ws n t e = go (settled K (trial j x) (a + m) ws).side e
    where
      go : (s : Side) → n ≡ child_of m s → (n ≡ m + m) ⊎ (n ≡ m + m + 1)
      go lhs e = inl e
      go rhs e = inr (omega arith)

  pub waits-at : (d : Due) (m n : ℕ) → waits d ≡ true → n ≡ m → WaitsAt d m n
  waits-at Nothing m n t e = absurd (false≢true t)
  waits-at (Put y) m n t e = absurd (false≢true t)
  waits-at (Fill j) m n t e = e
  waits-at (Swap j x) m n t e = e

  pub work-busy : (levels : ℕ) (r : Request) (rs : List Stage) (ws : List ℕ) (i n : ℕ) → works (work_of K levels r rs ws i).op ≡ true → n ≡ (work_of K levels r rs ws i).node → Busy K levels r rs ws i n
  unfolding work_of works
  work-busy levels r rs ws zero n t e = inl (λ z. false≢true (sym (ap works z) ∙ t))
  work-busy levels r rs ws (suc i) n t e = inl (handed-given (stage_at rs i).due (stage_at rs i).node (first_node i) ws n t e)

  pub wait-busy : (levels : ℕ) (r : Request) (rs : List Stage) (ws : List ℕ) (i n : ℕ) → waits (stage_below K levels rs i).due ≡ true → n ≡ (stage_below K levels rs i).node → Busy K levels r rs ws i n
  wait-busy levels r rs ws zero n t e = inr (waits-at (stage_below K levels rs 0).due (stage_below K levels rs 0).node n t e)
  wait-busy levels r rs ws (suc i) n t e = inr (waits-at (stage_below K levels rs (suc i)).due (stage_below K levels rs (suc i)).node n t e)

  -- ---- a record of nothing is zeros
  loaded-zero : (c : Note) (n : ℕ) → (loaded c n).due ≡ Nothing → (loaded c n).node ≡ 0
  unfolding loaded is_nothing
  loaded-zero nothing n e = refl
  loaded-zero (fill j) n e = absurd (false≢true (ap is_nothing e))
  loaded-zero (trial j x) n e = absurd (false≢true (ap is_nothing e))
  loaded-zero (onto s y) n e = absurd (false≢true (ap is_nothing e))

  pub stage-zero : (a : ℕ) (w : Work) (q : Stage) (ws : List ℕ) → (level_stage K a w q ws).due ≡ Nothing → (level_stage K a w q ws).node ≡ 0
  unfolding level_stage
  stage-zero a w q ws e = loaded-zero (begins K a w ws (filled K a q ws)).note w.node e

  -- ---- the last level leaves nothing
  stage-last : (k a i : ℕ) (rs : List Stage) (ws : List ℕ) → stages_ok K (suc k) a i rs ws ≡ true → stage_ok K 0 (stage_at rs (onward k i)).due (stage_at rs (onward k i)).node (down k a) ws ≡ true
  unfolding stages_ok
  stage-last zero a i rs ws e = and_left (stage_ok K 0 (stage_at rs i).due (stage_at rs i).node a ws) _ e
  stage-last (suc k) a i rs ws e = stage-last k (below a) (suc i) rs ws (and_right (stage_ok K (suc k) (stage_at rs i).due (stage_at rs i).node a ws) _ e)

  ends-stage : (a : ℕ) (w : Work) (ws : List ℕ) → (begin w.op (low (node_in K ws (a + w.node)).places) (node_in K ws (a + w.node))).note ≡ nothing → level_stage K a w no_stage ws ≡ no_stage
  unfolding level_stage begins filled touch loaded
  ends-stage a w ws e = ap (λ (c : Note). loaded c w.node) e

  -- the work of the last level, where the tests are passed
  pub last-work : (k : ℕ) (r : Request) (rs : List Stage) (ws : List ℕ) → asked_ok K (suc k) r ws ≡ true → stages_ok K k 0 0 rs ws ≡ true → level_stage K (first_node k) (work_of K (suc k) r rs ws k) no_stage ws ≡ no_stage
  unfolding work_of first_node
  last-work zero r rs ws asked ok =
      ends-stage 0 (work (rule_at K 1 r ws).op 0) ws (subst (λ (m : ℕ). (begin (rule_at K 1 r ws).op (low (node_in K ws m).places) (node_in K ws m)).note ≡ nothing) (omega arith) (root_ends K r (low (node_in K ws 0).places) ws asked))
  last-work (suc k) r rs ws asked ok =
      let d : Due = (stage_at rs k).due in
      let n : ℕ = (stage_at rs k).node in
      let a : ℕ = first_node k in
      let w : Work = handed K d n a ws in
      let at : stage_ok K 0 d n a ws ≡ true = subst (λ (j : ℕ). stage_ok K 0 (stage_at rs j).due (stage_at rs j).node a ws ≡ true) (onward-is k 0 ∙ omega arith)
      (subst (λ (b : ℕ). stage_ok K 0 (stage_at rs (onward k 0)).due (stage_at rs (onward k 0)).node b ws ≡ true) (down-first k) (stage-last k 0 0 rs ws ok)) in
      ends-stage (below a) w ws (work-ends K d n a (low (node_in K ws (below a + w.node)).places) ws at)
