-- Every refusal is given exactly for its cause.
-- ---- each test for damage fails exactly where the node, the step or the path is damaged
use Rattle.laws.specs.Prelude.{All, BadShape, Bool, Damaged, Exactly, Fails, Idle, List, Means, Pop, Push, Refusal, Replace, Request, [], ◌*◌, ◌+◌, ◌<◌, ◌||◌, ◌∙◌, ◌∷◌, ◌≡◌, ◌≤◌, ◌⊎◌, and_left, and_right, ap, arith, count_number, eq-eqb, eqb, eqb-true, fails-and, fails-every, fails-leb, fails-not-eqb, fails-not-every, fails-or, fails-true, false, false≢true, get_or, inl, inr, le-ltb, leb, leb-true, length, ltb, ltb-false, ltb-true, means-and, means-by, means-leb, not, not-suc-le-zero, number_of, or_right, pred, refl, refusal_number, subst, suc, sym, true, true≢false, zero, ℕ, ⊎_elim, Result, Ok, Err, None}
use Rattle.promise.proofs.Calls as calls
use Rattle.promise.proofs.Calls.{last-guards, last-told, said, Tested}
use Rattle.promise.specs.Prelude.{Barred, Kind, blank-fails, left}
use Rattle.tree_model.proofs.Nothing.{op-work, work_none}
use Rattle.tree_model.proofs.Words.{node-length}
use Rattle.tree_model.specs.Prelude.{Level, Levels, Lifts, NodeDamaged, Nothing, Op, Outcome, PathDamaged, Put, ReadDamaged, Ruling, Shape, Slot, SlotDamaged, IsWork, StepDamaged, Swap, Take, Work, WorkDamaged, apply_words, called, clear_refusals, cleared, every, has_room, has_some, held_count, held_refusals, is_blank, is_empty, is_nothing, level_of, levels_of, lifts, lowest, node_ok, order_ok, outcome, path_ok, read_ok, refusals, room, root_of, root_ok, rule, rule_at, shape_ok, slot_at, slot_limit, slot_ok, step_ok, step_words, step_work, sum_counts, top, tree, under, way_ok, wipe, work, work_ok}

slot-fails : (r : ℕ) (s : Slot) → Fails (slot_ok r s) (SlotDamaged r s)
unfolding slot_ok is_empty
slot-fails r s =
    fails-and (leb s.count (suc r)) (not (eqb s.count 0) || is_blank s.element) (fails-leb s.count (suc r))
    (fails-or (not (eqb s.count 0)) (is_blank s.element) (fails-not-eqb s.count 0) (blank-fails s.element))

pub node-fails : (r : ℕ) (nd : List Slot) → Fails (node_ok r nd) (NodeDamaged r nd)
unfolding node_ok every
node-fails r nd = fails-every (slot_ok r) (every (slot_ok r)) refl (λ a l. refl) (slot-fails r) nd

pub room-fails : (r : ℕ) (nd : List Slot) → Fails (has_room r nd) (All (λ s. s.count ≡ suc r) nd)
unfolding has_room every
room-fails r nd = fails-not-every (λ s. eqb s.count (suc r)) (every (λ s. eqb s.count (suc r))) refl (λ a l. refl) (λ s. fails-not-eqb s.count (suc r)) nd

some-fails : (nd : List Slot) → Fails (has_some nd) (All (λ s. s.count ≡ 0) nd)
unfolding has_some every is_empty
some-fails nd = fails-not-every is_empty (every is_empty) refl (λ a l. refl) (λ s. fails-not-eqb s.count 0) nd

read-fails : (o : Op) (r : ℕ) (nd : List Slot) → Fails (read_ok o r nd) (ReadDamaged o r nd)
unfolding read_ok
read-fails Nothing r nd = fails-true
read-fails (Put x) r nd = fails-and (node_ok r nd) (has_room r nd) (node-fails r nd) (room-fails r nd)
read-fails Take r nd = fails-and (node_ok r nd) (has_some nd) (node-fails r nd) (some-fails nd)
read-fails (Swap x) r nd = fails-and (node_ok r nd) (has_some nd) (node-fails r nd) (some-fails nd)

above-fails : (c : ℕ) → Fails (not (not (leb c 1))) (1 < c)
above-fails c = go (leb c 1) (fails-leb c 1)
  where
    go : (b : Bool) → Fails b (1 < c) → Fails (not (not b)) (1 < c)
    go true p = p
    go false p = p

lifts-fails : (o : Op) (nd : List Slot) → Fails (not (lifts o nd)) (Lifts o nd)
unfolding lifts
lifts-fails Nothing nd = fails-true
lifts-fails (Put x) nd = fails-true
lifts-fails Take nd = above-fails (slot_at nd (lowest nd)).count
lifts-fails (Swap x) nd = above-fails (slot_at nd (lowest nd)).count

pub nothing-fails : (o : Op) → Fails (is_nothing o) (IsWork o)
unfolding is_nothing
nothing-fails Nothing = fails-true
nothing-fails (Put x) = record { found = λ e. tt; shown = λ d. refl }
nothing-fails Take = record { found = λ e. tt; shown = λ d. refl }
nothing-fails (Swap x) = record { found = λ e. tt; shown = λ d. refl }

module _ (m : ℕ) where
  step-fails : (k : ℕ) (o : Op) (nd : List Slot) (child : ℕ → List Slot) → Fails (step_ok m k o nd child) (StepDamaged m k o nd child)
  unfolding step_ok
  step-fails k o nd child =
      fails-and (read_ok o (room m k) nd) _ (read-fails o (room m k) nd)
      (fails-or (not (lifts o nd)) _ (lifts-fails o nd) (read-fails Take (room m (pred k)) (child (lowest nd))))

  pub work-fails : (k : ℕ) (w : Work) (l next : Level) → Fails (work_ok m k w l next) (WorkDamaged m k w l next)
  unfolding work_ok
  work-fails k w l next =
      fails-or (is_nothing w.op) _ (nothing-fails w.op)
      (fails-and (ltb w.node (length l)) _ (record { found = λ e. ltb-false w.node (length l) e; shown = λ h. le-ltb w.node (length l) h })
      (step-fails k w.op (get_or l w.node []) (λ j. get_or next (w.node * m + j) [])))

  path-fails : (k : ℕ) (w : Work) (ls : Levels k) → Fails (path_ok m k w ls) (PathDamaged m k w ls)
  unfolding path_ok
  path-fails zero w ls = fails-true
  path-fails (suc k) w ls =
      fails-and (work_ok m k w ls.0 (top k ls.1)) _ (work-fails k w ls.0 (top k ls.1))
      (path-fails k (step_work m w ls.0 (top k ls.1)) ls.1)

-- ---- the shape: the test says what 01's numbers say
order-means : (m : ℕ) → Means (order_ok m) ((m ≡ 2) ⊎ (m ≡ 4) ⊎ (m ≡ 8))
unfolding order_ok
order-means m =
    record {
      says = λ e. either (eqb m 2) refl (eqb m 4) refl (eqb m 8) refl e;
      holds = λ o. ⊎_elim (λ e. rw (eq-eqb m 2 e)) (λ d. or_right (eqb m 2) _ (⊎_elim (λ e. rw (eq-eqb m 4 e)) (λ e. or_right (eqb m 4) _ (eq-eqb m 8 e)) d)) o;
    }
  where
    either : (a : Bool) → eqb m 2 ≡ a → (b : Bool) → eqb m 4 ≡ b → (c : Bool) → eqb m 8 ≡ c → (a || (b || c)) ≡ true → (m ≡ 2) ⊎ (m ≡ 4) ⊎ (m ≡ 8)
    either true p b q c r e = inl (eqb-true m 2 p)
    either false p true q c r e = inr (inl (eqb-true m 4 q))
    either false p false q true r e = inr (inr (eqb-true m 8 r))
    either false p false q false r e = absurd (false≢true e)

pub shape-means : (m levels len : ℕ) → Means (shape_ok m levels len) (Shape m levels len)
unfolding shape_ok
shape-means m levels len =
    means-by (means-and (order-means m) (means-and (means-leb 1 levels) (means-and (means-leb (room m levels) slot_limit) (means-leb (4 * room m levels) len))))
    (λ p. record { order = p.0; some = p.1.0; capacity = p.1.1.0; slice = p.1.1.1 }) (λ s. (s.order, (s.some, (s.capacity, s.slice))))

pub shape_is : (m levels len : ℕ) → shape_ok m levels len ≡ true → Shape m levels len
shape_is m levels len = (shape-means m levels len).says

pub is-shape : (m levels len : ℕ) → Shape m levels len → shape_ok m levels len ≡ true
is-shape m levels len = (shape-means m levels len).holds

pub order-few : {m levels len : ℕ} → Shape m levels len → (0 < m) × (m ≤ 8)
order-few s = ⊎_elim (λ e. (omega arith, omega arith)) (λ d. ⊎_elim (λ e. (omega arith, omega arith)) (λ e. (omega arith, omega arith)) d) s.order

pub order-pos : {m levels len : ℕ} → Shape m levels len → 0 < m
order-pos s = (order-few s).0

-- ---- a root that is in order holds at most the capacity
pub slot-limit : (r : ℕ) (s : Slot) → slot_ok r s ≡ true → s.count ≤ suc r
unfolding slot_ok
slot-limit r s e = leb-true s.count (suc r) (and_left (leb s.count (suc r)) (not (is_empty s) || is_blank s.element) e)

every-sum : (r : ℕ) (nd : List Slot) → node_ok r nd ≡ true → sum_counts nd ≤ length nd * suc r
unfolding node_ok every sum_counts
every-sum r [] e = omega arith
every-sum r (s ∷ nd) e =
    let a = and_left (slot_ok r s) (every (slot_ok r) nd) e in
    omega (arith, slot-limit r s a, every-sum r nd (and_right (slot_ok r s) (every (slot_ok r) nd) e))

pub root-limit : (m levels : ℕ) (ws : List ℕ) → 1 ≤ levels → root_ok m levels ws ≡ true → sum_counts (root_of m ws) ≤ room m levels
unfolding room
root-limit m zero ws h e = absurd (not-suc-le-zero h)
root-limit m (suc k) ws h e = subst (λ (n : ℕ). sum_counts (root_of m ws) ≤ n * suc (room m k)) (node-length m ws 0) (every-sum (room m k) (root_of m ws) e)

-- .. and one that leaves room for a put less than that
full-all : (r : ℕ) (nd : List Slot) → node_ok r nd ≡ true → length nd * suc r ≤ sum_counts nd → All (λ s. s.count ≡ suc r) nd
unfolding node_ok every sum_counts
full-all r [] e h = tt
full-all r (s ∷ nd) e h =
    let a = slot-limit r s (and_left (slot_ok r s) (every (slot_ok r) nd) e) in
    let b = every-sum r nd (and_right (slot_ok r s) (every (slot_ok r) nd) e) in
    (omega (arith, a, b), full-all r nd (and_right (slot_ok r s) (every (slot_ok r) nd) e) (omega (arith, a, b)))

pub room-less : (r : ℕ) (nd : List Slot) → node_ok r nd ≡ true → has_room r nd ≡ true → sum_counts nd < length nd * suc r
room-less r nd ok h = go (ltb (sum_counts nd) (length nd * suc r)) refl
  where
    go : (t : Bool) → ltb (sum_counts nd) (length nd * suc r) ≡ t → sum_counts nd < length nd * suc r
    go true e = ltb-true (sum_counts nd) (length nd * suc r) e
    go false e = absurd (true≢false (sym h ∙ (room-fails r nd).shown (full-all r nd ok (ltb-false (sum_counts nd) (length nd * suc r) e))))

-- ---- the call by its tests
module _ (m levels : ℕ) (r : Request) (ws : List ℕ) where
  abbrev pub g : Ruling
  g = rule_at m levels r ws

  pub called-bad : shape_ok m levels (length ws) ≡ false → called m levels r ws ≡ outcome (Err BadShape) ws
  unfolding called
  called-bad s = rw s

  pub called-root : shape_ok m levels (length ws) ≡ true → root_ok m levels ws ≡ false → called m levels r ws ≡ outcome (Err Damaged) ws
  unfolding called
  called-root s o = rw (s, o)

  pub called-way : shape_ok m levels (length ws) ≡ true → root_ok m levels ws ≡ true → way_ok m levels g.op ws ≡ false → called m levels r ws ≡ outcome (Err Damaged) ws
  unfolding called rule
  called-way s o w = rw (s, o, w)

  pub called-fine : shape_ok m levels (length ws) ≡ true → root_ok m levels ws ≡ true → way_ok m levels g.op ws ≡ true
      → called m levels r ws ≡ outcome g.answer (apply_words m levels (work g.op 0) 0 1 ws)
  unfolding called rule
  called-fine s o w = rw (s, o, w)

-- no work writes nothing
pub words-none : (m k : ℕ) (w : Work) (b c : ℕ) (ws : List ℕ) → w.op ≡ Nothing → apply_words m k w b c ws ≡ ws
unfolding apply_words step_words is_nothing
words-none m zero w b c ws e = refl
words-none m (suc k) w b c ws e =
    words-none m k _ (b + c * m) (c * m) _ (ap (λ (v : Work). v.op) (work_none m w (level_of m ws b c) (top k (under m k ws b c)) e))
    ∙ ap (λ (o : Op). step_words m k (record { op = o; node = w.node }) b c ws) e

-- ---- EXACTLY: the columns "Exactly when" and "Left behind". Every test stands for its cause
pub tested : (m levels : ℕ) → Tested (tree m levels)
tested m levels =
    record {
      opening = λ ws. (shape-means m levels (length ws), λ s. tt);
      clearing = λ ws. (shape-means m levels (length ws), λ s. tt);
      asked = λ r ws c. tt;
      root = λ ws. node-fails (room m (pred levels)) (root_of m ws);
      way = λ o ws. path-fails m levels (work o 0) (levels_of m levels ws 0 1);
      late = λ r ws c o. last-told r (sum_counts (root_of m ws)) (room m levels) (λ p. root-limit m levels ws (shape_is m levels (length ws) c.0).some o);
      stays = λ ws. words-none m levels (work Nothing 0) 0 1 ws (op-work Nothing 0);
      tagged = λ r ws. inr (last-guards r (sum_counts (root_of m ws)) (room m levels));
    }

module _ (m levels : ℕ) (ws : List ℕ) where
  -- push, pop and replace
  pub exactly : (r : Request) → Exactly said (left ws) (called m levels r ws) (refusals m levels r ws)
  unfolding called rule
  exactly Idle = calls.exactly (tested m levels) Idle ws
  exactly (Push x) = calls.exactly (tested m levels) (Push x) ws
  exactly Pop = calls.exactly (tested m levels) Pop ws
  exactly (Replace x) = calls.exactly (tested m levels) (Replace x) ws

  pub stands : (r : Request) (n : Refusal) → said (called m levels r ws) ≡ refusal_number n → called m levels r ws ≡ left ws n
  unfolding called
  stands r = calls.stands (tested m levels) r ws

  pub cleared-fine : shape_ok m levels (length ws) ≡ true → cleared m levels ws ≡ outcome (Ok None) (wipe (room m levels) ws)
  unfolding cleared
  cleared-fine e = rw e

  pub exactly-clear : Exactly said (left ws) (cleared m levels ws) (clear_refusals m levels ws)
  unfolding cleared
  exactly-clear = calls.exactly-clear (tested m levels) ws

  pub exactly-held : Exactly count_number Err (held_count m levels ws) (held_refusals m levels ws)
  unfolding held_count
  exactly-held = calls.exactly-held (tested m levels) ws

  pub counted-either : (P : Result ℕ Refusal → Type 0) → ((x : Refusal) → P (Err x)) → P (Ok (sum_counts (root_of m ws))) → P (held_count m levels ws)
  unfolding held_count
  counted-either = calls.counted-either (tree m levels) ws

-- what is so of a refused call and of one that is done is so of the call
pub called-either : (m levels : ℕ) (r : Request) (ws : List ℕ) (P : Outcome → Type 0) → ((x : Refusal) → P (outcome (Err x) ws))
    → (shape_ok m levels (length ws) ≡ true → root_ok m levels ws ≡ true → way_ok m levels (rule_at m levels r ws).op ws ≡ true
    → P (outcome (rule_at m levels r ws).answer (apply_words m levels (work (rule_at m levels r ws).op 0) 0 1 ws)))
    → P (called m levels r ws)
unfolding called rule
called-either m levels r ws P refused done = calls.called-either (tree m levels) r ws P refused (λ c d o w. done c.0 o w)

-- KIND: of a call that is not refused a push and an idle request answer done, a pop and a replace an element
pub kind : (m levels : ℕ) (r : Request) (ws : List ℕ) → number_of (called m levels r ws).answer ≡ 0 → Kind r (called m levels r ws).answer
unfolding called
kind m levels r ws = calls.kind (tree m levels) r ws

-- BARRED: an element without a tag is never let in, whatever the words
pub barred : (m levels : ℕ) (r : Request) (ws : List ℕ) → Barred r (called m levels r ws).answer
unfolding called
barred m levels r ws = calls.barred (tested m levels) r ws
