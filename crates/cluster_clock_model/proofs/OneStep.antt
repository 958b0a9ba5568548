-- Each level does its own step, on the words and the records as they stood at the cycle's start, and writes no other; and it reads no more than its own level, the
-- nodes that wait in it and above it, and their children.
use Rattle.laws.specs.Prelude.{Bool, List, Request, ◌*◌, ◌+◌, ◌<◌, ◌∙◌, ◌≡◌, ◌≤◌, ◌⊎◌, and_left, and_right, ap, ap₂, arith, cond, false, false≢true, inl, inr, length, lt-ltb, ltb, ltb-false, ltb-true, not-suc-le-zero, pred, refl, subst, suc, sym, true, zero, ℕ}
use Rattle.cluster_clock_model.proofs.Exactly.{damage-fails, sound, cycled-fine}
use Rattle.cluster_clock_model.proofs.Level.{same_at}
use Rattle.cluster_clock_model.proofs.Seen.{InRange, level-only, pass-only, pass-others, Ranged, Spans}
use Rattle.cluster_clock_model.specs.Prelude.{Busy, CycleDamage, CycleOutcome, Due, Fill, InLevel, InNode, Nothing, OneStep, Put, Reads, Stage, Swap, WaitsAt, Work, asked_ok, below, child_of, cycle_run, cycled, first_node, handed, level_stage, level_words, no_stage, note_of, pass, settled, stage_at, stage_below, waits, work, work_of}
use Rattle.cluster_model.specs.Prelude.{Finished, Node, Note, Shape, Side, child, fill, finish, lhs, low_elem, node_in, rhs, room, root_held, rule, rule_at, spot_of, trial, width, word, works}
use Rattle.cluster_model.proofs.Laws.{Alike, is-shape, node-local}
use Rattle.cluster_clock_model.proofs.Passes.{down, down-first, down_fits, has-own, last-work, Level, level-loads, level-stands, level-still, level-words, next-first, onward, onward-is, pass-loads, pass-words, stage-here, stage-in, stage-none, stage-zero, stage_in, stages-ranged, wait-busy, waits-at, work-busy, work_in, works-are}

waiting-in : (d : Due) (n a : ℕ) → waits d ≡ true → InRange d n a → n < a + 1
waiting-in Nothing n a t h = absurd (false≢true t)
waiting-in (Put y) n a t h = absurd (false≢true t)
waiting-in (Fill j) n a t h = h
waiting-in (Swap j x) n a t h = h

-- ONE STEP: a cycle with no damage, of any machine with a good shape and a record for each level from 2
module _ (K k : ℕ) (r : Request) (rs : List Stage) (ws : List ℕ) (sh : Shape K (suc k) (length ws)) (len : k ≤ length rs) (fine : CycleDamage K (suc k) r rs ws → ⊥) where
  abbrev o : Work
  o = work (rule_at K (suc k) r ws).op 0

  sound-is : sound K (suc k) r rs ws ≡ true
  sound-is = go (sound K (suc k) r rs ws) refl
    where
      go : (b : Bool) → sound K (suc k) r rs ws ≡ b → b ≡ true
      go true e = refl
      go false e = absurd (fine ((damage-fails K (suc k) r rs ws).found e))

  ranged : Ranged k 0 0 rs
  ranged = stages-ranged K k 0 0 rs ws (and_right (asked_ok K (suc k) r ws) _ sound-is)

  runs : cycled K (suc k) r rs ws ≡ cycle_run K (suc k) (rule_at K (suc k) r ws) rs ws
  runs = cycled-fine K (suc k) r rs ws (is-shape K (suc k) (length ws) sh) sound-is

  words_are : (cycled K (suc k) r rs ws).words ≡ (pass K k 0 o 0 rs ws).words
  unfolding cycle_run
  words_are = ap (λ (c : CycleOutcome). c.words) runs

  records-are : (cycled K (suc k) r rs ws).records ≡ (pass K k 0 o 0 rs ws).records
  unfolding cycle_run
  records-are = ap (λ (c : CycleOutcome). c.records) runs

  wide : Spans K k 0 ≤ length ws
  wide = omega (arith, sh.slice)

  own_in : (i : ℕ) → i ≤ k → (work_of K (suc k) r rs ws i).node < first_node i + 1
  own_in i h = subst (λ (b : ℕ). (work_of K (suc k) r rs ws i).node < b + 1) (down-first i) (subst (λ (w : Work). w.node < down i 0 + 1) (works-are K (suc k) r rs ws i) (work_in K k i 0 o 0 rs ws h (omega arith) ranged))

  stage_is : (i : ℕ) → stage_in k i 0 rs ≡ stage_below K (suc k) rs i
  stage_is i = go (ltb (suc i) (suc k)) refl
    where
      go : (b : Bool) → ltb (suc i) (suc k) ≡ b → stage_in k i 0 rs ≡ cond b (stage_at rs i) no_stage
      go true e = stage-here k i 0 rs (omega (arith, ltb-true (suc i) (suc k) e)) ∙ ap (stage_at rs) (onward-is i 0 ∙ omega arith)
      go false e = stage-none k i 0 rs (omega (arith, ltb-false (suc i) (suc k) e))

  below_in : (i : ℕ) → InRange (stage_below K (suc k) rs i).due (stage_below K (suc k) rs i).node (first_node i)
  below_in i = subst (λ (b : ℕ). InRange (stage_below K (suc k) rs i).due (stage_below K (suc k) rs i).node b) (down-first i) (subst (λ (q : Stage). InRange q.due q.node (down i 0)) (stage_is i) (stage-in K k i 0 0 rs ranged))

  -- the level's own step, on its words
  abbrev stepped : ℕ → List ℕ
  stepped i = level_words K (first_node i) (work_of K (suc k) r rs ws i) (stage_below K (suc k) rs i) ws

  words-at : (i p : ℕ) → i < suc k → Level K (first_node i) p → word (cycled K (suc k) r rs ws).words p ≡ word (stepped i) p
  words-at i p h l =
      let at : down i 0 ≡ first_node i = down-first i in
      ap (λ (v : List ℕ). word v p) words_are
      ∙ subst (λ (b : ℕ). Level K b p → word (pass K k 0 o 0 rs ws).words p ≡ word (level_words K b (work_of K (suc k) r rs ws i) (stage_below K (suc k) rs i) ws) p) at
      (λ l. pass-words K k 0 o 0 rs ws i p (omega arith) l (omega arith) ranged wide
      ∙ ap₂ (λ (w : Work) (q : Stage). word (level_words K (down i 0) w q ws) p) (works-are K (suc k) r rs ws i) (stage_is i)) l

  loads : (i : ℕ) → suc i < suc k → stage_at (cycled K (suc k) r rs ws).records i ≡ level_stage K (first_node i) (work_of K (suc k) r rs ws i) (stage_at rs i) ws
  loads i h =
      let at : onward i 0 ≡ i = onward-is i 0 ∙ omega arith in
      ap (λ (v : List Stage). stage_at v i) records-are
      ∙ subst (λ (j : ℕ). stage_at (pass K k 0 o 0 rs ws).records j ≡ level_stage K (first_node i) (work_of K (suc k) r rs ws i) (stage_at rs j) ws) at
      (pass-loads K k 0 o 0 rs ws i (omega arith) (omega arith) ranged wide (omega arith)
      ∙ ap₂ (λ (b : ℕ) (w : Work). level_stage K b w (stage_at rs (onward i 0)) ws) (down-first i) (works-are K (suc k) r rs ws i))

  bounds : (i p : ℕ) → InLevel K (suc k) i p → Level K (first_node i) p
  unfolding first_node
  bounds i p h = (h.0, up (width K) (first_node i) h.1)
    where
      up : (d b : ℕ) → p < below b * d → p < b * d + (b + 1) * d
      up d b g = omega (arith, deep d b)
        where
          deep : (d b : ℕ) → (b + b + 1) * d ≡ b * d + (b + 1) * d
          deep d b = omega arith

  one-step-at : OneStep K (suc k) r rs ws
  one-step-at =
      record {
        each = λ i n h l. node-local K (stepped i) (cycled K (suc k) r rs ws).words (spot_of K (first_node i + n)) (λ p x y. words-at i p h (has-own K (first_node i) n l p x y));
        words = λ i p h l. words-at i p h (bounds i p l);
        own = λ i h p g. level-only K (first_node i) (work_of K (suc k) r rs ws i) (stage_below K (suc k) rs i) ws (own_in i (omega arith)) (below_in i) p (outside i p g);
        stands = λ i n p h l quiet g.
            words-at i p h (has-own K (first_node i) n l p g.0 g.1)
            ∙ level-stands K (first_node i) (work_of K (suc k) r rs ws i) (stage_below K (suc k) rs i) ws n p (λ t e. quiet (work-busy K (suc k) r rs ws i n t e)) (λ t e. quiet (wait-busy K (suc k) r rs ws i n t e)) g.0 g.1;
        still = λ i p h quiet l. words-at i p h (bounds i p l) ∙ ap (λ (v : List ℕ). word v p) (unmoved i (omega arith) quiet);
        past = λ p h. ap (λ (v : List ℕ). word v p) words_are ∙ pass-only K k 0 o 0 rs ws (omega arith) ranged p (inr (omega (arith, h)));
        loads = loads;
        zeros = λ i h e. ap (λ (q : Stage). q.node) (loads i h) ∙ stage-zero K (first_node i) (work_of K (suc k) r rs ws i) (stage_at rs i) ws (sym (ap (λ (q : Stage). q.due) (loads i h)) ∙ e);
        last = last-work K k r rs ws (and_left (asked_ok K (suc k) r ws) _ sound-is) (and_right (asked_ok K (suc k) r ws) _ sound-is);
        spare = λ j h. ap (λ (v : List Stage). stage_at v j) records-are ∙ pass-others K k 0 o 0 rs ws j (inr (omega arith));
      }
    where
      outside : (i p : ℕ) → (p < first_node i * (2 + K * 4)) ⊎ (first_node (suc i) * (2 + K * 4) ≤ p) → (p < spot_of K (first_node i)) ⊎ (spot_of K (first_node i) + (first_node i + 1) * width K ≤ p)
      outside i p (inl h) = inl h
      outside i p (inr h) = inr (next-first K i p h)

      unmoved : (i : ℕ) → i ≤ k → ((n : ℕ) → n < first_node i + 1 → Busy K (suc k) r rs ws i n → ⊥) → stepped i ≡ ws
      unmoved i h quiet =
          let q : Stage = stage_below K (suc k) rs i in
          level-still K (first_node i) (work_of K (suc k) r rs ws i) q ws (off (works (work_of K (suc k) r rs ws i).op) (λ t. quiet (work_of K (suc k) r rs ws i).node (own_in i h) (work-busy K (suc k) r rs ws i _ t refl)))
          (off (waits q.due) (λ t. quiet q.node (waiting-in q.due q.node (first_node i) t (below_in i)) (wait-busy K (suc k) r rs ws i _ t refl)))
        where
          off : (b : Bool) → (b ≡ true → ⊥) → b ≡ false
          off true f = absurd (f refl)
          off false f = refl

pub one-step : (K levels : ℕ) (r : Request) (rs : List Stage) (ws : List ℕ) → Shape K levels (length ws) → pred levels ≤ length rs → (CycleDamage K levels r rs ws → ⊥) → OneStep K levels r rs ws
one-step K zero r rs ws sh len fine = absurd (not-suc-le-zero sh.some)
one-step K (suc k) r rs ws sh len fine = one-step-at K k r rs ws sh len fine

-- READS: two cycles with no damage leave the same of level i, words and record, where what it reads is the same
module _ (K k : ℕ) (r t : Request) (rs qs : List Stage) (ws vs : List ℕ) (sh : Shape K (suc k) (length ws)) (zh : Shape K (suc k) (length vs)) (len : k ≤ length rs) (lenq : k ≤ length qs)
    (fine : CycleDamage K (suc k) r rs ws → ⊥) (fineq : CycleDamage K (suc k) t qs vs → ⊥) (i : ℕ) (h : i ≤ k) (same : Reads K (suc k) i r t rs qs ws vs) where
  abbrev b : ℕ
  b = first_node i

  fits_in : (us : List ℕ) → Spans K k 0 ≤ length us → spot_of K b + (b + 1) * width K ≤ length us
  fits_in us g = subst (λ (c : ℕ). spot_of K c + (c + 1) * width K ≤ length us) (down-first i) (omega (arith, down_fits K k i 0 h))

  unbound : (p : ℕ) → Level K b p → InLevel K (suc k) i p
  unfolding first_node
  unbound p l = (l.0, omega (arith, l.1, deep (width K) b))
    where
      deep : (d c : ℕ) → (c + c + 1) * d ≡ c * d + (c + 1) * d
      deep d c = omega arith

  alike : Alike (Level K b) ws vs
  alike =
      record {
        one = λ p l. omega (arith, l.1, fits_in ws (wide K k r rs ws sh len fine));
        other = λ p l. omega (arith, l.1, fits_in vs (wide K k t qs vs zh lenq fineq));
        same = λ p l. same.own p (unbound p l);
      }

  own-node : (n : ℕ) → n < b + 1 → node_in K ws (b + n) ≡ node_in K vs (b + n)
  own-node n l = same_at K (Level K b) ws vs alike (b + n) (has-own K b n l)

  node_of : (m : ℕ) → ((p : ℕ) → InNode K (suc k) m p → word ws p ≡ word vs p) → node_in K ws m ≡ node_in K vs m
  node_of m f = node-local K vs ws (spot_of K m) (λ p x y. f p (x, y))

  settled-by : (c : Note) (m : ℕ) → node_in K ws m ≡ node_in K vs m → node_in K ws (child m lhs) ≡ node_in K vs (child m lhs) → node_in K ws (child m rhs) ≡ node_in K vs (child m rhs) → settled K c m ws ≡ settled K c m vs
  unfolding settled
  settled-by c m e f g = λ j. finish c (e j) (low_elem (f j).places) (low_elem (g j).places)

  -- the node that waits in the level
  waiting-same : waits (stage_below K (suc k) rs i).due ≡ true → settled K (note_of (stage_below K (suc k) rs i).due) (b + (stage_below K (suc k) rs i).node) ws ≡ settled K (note_of (stage_below K (suc k) rs i).due) (b + (stage_below K (suc k) rs i).node) vs
  waiting-same e =
      let q : Stage = stage_below K (suc k) rs i in
      let at : WaitsAt q.due q.node q.node = waits-at K q.due q.node q.node e refl in
      settled-by (note_of q.due) (b + q.node) (own-node q.node (waiting-in q.due q.node b e (below_in K k r rs ws sh len fine i))) (node_of (child (b + q.node) lhs) (same.children q.node at lhs))
      (node_of (child (b + q.node) rhs) (same.children q.node at rhs))

  -- the work of the level: at the root the request's ..
  root-work : i ≡ 0 → work (rule_at K (suc k) r ws).op 0 ≡ work (rule_at K (suc k) t vs).op 0
  unfolding first_node
  root-work e =
      let at : b + 0 ≡ 0 = ap (λ (j : ℕ). first_node j + 0) e ∙ omega arith in
      let n : node_in K ws 0 ≡ node_in K vs 0 = subst (λ (m : ℕ). node_in K ws m ≡ node_in K vs m) at (own-node 0 (omega arith)) in
      ap₂ (λ (r : Request) (n : Node). work (rule (room K (suc k)) r (root_held n) (low_elem n.places)).op 0) (same.asked e) n

  -- .. below it what the record between hands down
  module _ (g : ℕ) (e : i ≡ suc g) where
    child-own : (n : ℕ) (s : Side) → n < first_node g + 1 → node_in K ws (child (first_node g + n) s) ≡ node_in K vs (child (first_node g + n) s)
    unfolding first_node
    child-own n s l = subst (λ (m : ℕ). node_in K ws m ≡ node_in K vs m) (at s) (own-node (child_of n s) (in-level s))
      where
        first : b ≡ below (first_node g)
        first = ap first_node e

        at : (s : Side) → b + child_of n s ≡ child (first_node g + n) s
        at lhs = omega (arith, first)
        at rhs = omega (arith, first)

        in-level : (s : Side) → child_of n s < b + 1
        in-level lhs = omega (arith, first)
        in-level rhs = omega (arith, first)

    handed-same : (d : Due) (n : ℕ) → InRange d n (first_node g) → ((m : ℕ) → WaitsAt d n m → (p : ℕ) → InNode K (suc k) (first_node g + m) p → word ws p ≡ word vs p) → handed K d n (first_node g) ws ≡ handed K d n (first_node g) vs
    unfolding handed
    handed-same Nothing n l w = refl
    handed-same (Put y) n l w = refl
    handed-same (Fill j) n l w = ap (λ (v : Finished). work v.op (child_of n v.side)) (settled-by (fill j) (first_node g + n) (node_of (first_node g + n) (w n refl)) (child-own n lhs l) (child-own n rhs l))
    handed-same (Swap j x) n l w = ap (λ (v : Finished). work v.op (child_of n v.side)) (settled-by (trial j x) (first_node g + n) (node_of (first_node g + n) (w n refl)) (child-own n lhs l) (child-own n rhs l))

  below-is : (j : ℕ) → suc j ≤ k → stage_below K (suc k) rs j ≡ stage_at rs j
  below-is j l = ap (λ (b : Bool). cond b (stage_at rs j) no_stage) (lt-ltb (suc j) (suc k) (omega arith))

  work-same : (j : ℕ) → i ≡ j → work_of K (suc k) r rs ws j ≡ work_of K (suc k) t qs vs j
  unfolding work_of
  work-same zero e = root-work e
  work-same (suc g) e =
      let q : Stage = stage_at rs g in
      handed-same g e q.due q.node (subst (λ (q : Stage). InRange q.due q.node (first_node g)) (below-is g (omega arith)) (below_in K k r rs ws sh len fine g)) (same.waiting g e)
      ∙ ap (λ (q : Stage). handed K q.due q.node (first_node g) vs) (same.above g e)

  reads-words : (p : ℕ) → InLevel K (suc k) i p → word (cycled K (suc k) r rs ws).words p ≡ word (cycled K (suc k) t qs vs).words p
  reads-words p l =
      let at : Level K b p = bounds K k r rs ws sh len fine i p l in
      words-at K k r rs ws sh len fine i p (omega arith) at
      ∙ (level-words K b (work_of K (suc k) r rs ws i) (stage_below K (suc k) rs i) ws vs alike (own_in K k r rs ws sh len fine i h) waiting-same).same p at
      ∙ ap₂ (λ (w : Work) (q : Stage). word (level_words K b w q vs) p) (work-same i refl) same.below ∙ sym (words-at K k t qs vs zh lenq fineq i p (omega arith) at)

  reads-record : suc i ≤ k → stage_at (cycled K (suc k) r rs ws).records i ≡ stage_at (cycled K (suc k) t qs vs).records i
  reads-record l =
      loads K k r rs ws sh len fine i (omega arith) ∙ ap (λ (q : Stage). level_stage K b (work_of K (suc k) r rs ws i) q ws) (sym (below-is i l))
      ∙ level-loads K b (work_of K (suc k) r rs ws i) (stage_below K (suc k) rs i) ws vs alike (own_in K k r rs ws sh len fine i h) waiting-same
      ∙ ap₂ (λ (w : Work) (q : Stage). level_stage K b w q vs) (work-same i refl) (same.below ∙ ap (λ (b : Bool). cond b (stage_at qs i) no_stage) (lt-ltb (suc i) (suc k) (omega arith)))
      ∙ sym (loads K k t qs vs zh lenq fineq i (omega arith))

pub reads : (K levels : ℕ) (r t : Request) (rs qs : List Stage) (ws vs : List ℕ) → Shape K levels (length ws) → Shape K levels (length vs) → pred levels ≤ length rs → pred levels ≤ length qs
    → (CycleDamage K levels r rs ws → ⊥) → (CycleDamage K levels t qs vs → ⊥) → (i : ℕ) → i < levels → Reads K levels i r t rs qs ws vs
    → ((p : ℕ) → InLevel K levels i p → word (cycled K levels r rs ws).words p ≡ word (cycled K levels t qs vs).words p)
    × (suc i < levels → stage_at (cycled K levels r rs ws).records i ≡ stage_at (cycled K levels t qs vs).records i)
reads K zero r t rs qs ws vs sh zh len lenq fine fineq i h same = absurd (not-suc-le-zero sh.some)
reads K (suc k) r t rs qs ws vs sh zh len lenq fine fineq i h same = (
  reads-words K k r t rs qs ws vs sh zh len lenq fine fineq i (omega arith) same,
  λ l. reads-record K k r t rs qs ws vs sh zh len lenq fine fineq i (omega arith) same (omega arith),
)
