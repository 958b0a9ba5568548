-- Every refusal is given exactly for its cause.
use Rattle.laws.specs.Prelude.{BadShape, Bool, Damaged, Exactly, Idle, List, Pop, Push, Refusal, Replace, Request, ◌&&◌, ◌*◌, ◌+◌, ◌||◌, ◌≡◌, ◌≤◌, and_left, and_right, arith, count_number, false, inr, leb, leb-true, length, not-suc-le-zero, number_of, pred, refl, refusal_number, suc, true, zero, ℕ, Err, Ok, None}
use Rattle.promise.proofs.Calls as calls
use Rattle.promise.proofs.Calls.{last-guards, last-told, said, Tested}
use Rattle.promise.specs.Prelude.{Barred, Kind, always, left}
use Rattle.cluster_model.specs.Prelude.{Node, Outcome, Ruling, begin, called, clear_refusals, cleared, extent, finish, heap, held_count, held_in, held_refusals, inside, neat_to, node_in, node_ok, none, nothing_below, outcome, refusals, room, root_held, root_ok, rule, rule_at, run_words, shape_ok, step_in, strict, touch, way_ok, width, wipe, works}
use Rattle.cluster_model.proofs.Damages.{node-fails, path-fails, shape_is, shape-means}
use Rattle.cluster_model.proofs.Pass.{node-count}
use Rattle.cluster_model.proofs.Places.{inside-length}

-- ---- a root that is in order holds at most the capacity
pub root-limit : (K levels : ℕ) (ws : List ℕ) → 1 ≤ levels → root_ok K levels ws ≡ true → held_in K levels ws ≤ room K levels
unfolding room node_ok strict root_held
root-limit K zero ws h e = absurd (not-suc-le-zero h)
root-limit K (suc k) ws h e =
    let n : Node = node_in K ws 0 in
    let a : Bool = neat_to K ws (0 * width K + 2) K in
    let l : Bool = leb n.left (room K k) in
    let r : Bool = leb n.right (room K k) in
    let c : Bool = nothing_below n || leb (length n.places) (inside always n.places) in
    let b : (l && (r && c)) ≡ true = and_right a (l && (r && c)) e in
    omega (
      arith,
      leb-true n.left (room K k) (and_left l (r && c) b),
      leb-true n.right (room K k) (and_left r c (and_right l (r && c) b)),
      inside-length n.places,
      node-count K ws (0 * width K),
    )

-- ---- the call by its tests
module _ (K levels : ℕ) (r : Request) (ws : List ℕ) where
  abbrev pub g : Ruling
  g = rule_at K levels r ws

  pub called-bad : shape_ok K levels (length ws) ≡ false → called K levels r ws ≡ outcome (Err BadShape) ws
  unfolding called
  called-bad s = rw s

  pub called-root : shape_ok K levels (length ws) ≡ true → root_ok K levels ws ≡ false → called K levels r ws ≡ outcome (Err Damaged) ws
  unfolding called
  called-root s o = rw (s, o)

  pub called-way : shape_ok K levels (length ws) ≡ true → root_ok K levels ws ≡ true → way_ok K levels g.op 0 ws ≡ false → called K levels r ws ≡ outcome (Err Damaged) ws
  unfolding called rule
  called-way s o w = rw (s, o, w)

  pub called-fine : shape_ok K levels (length ws) ≡ true → root_ok K levels ws ≡ true → way_ok K levels g.op 0 ws ≡ true
      → called K levels r ws ≡ outcome g.answer (run_words K levels g.op 0 ws)
  unfolding called rule
  called-fine s o w = rw (s, o, w)

  -- what is so of a refused call and of one that is done is so of the call
  pub called-either : (P : Outcome → Type 0) → ((x : Refusal) → P (outcome (Err x) ws))
      → (shape_ok K levels (length ws) ≡ true → root_ok K levels ws ≡ true → way_ok K levels g.op 0 ws ≡ true → P (outcome g.answer (run_words K levels g.op 0 ws)))
      → P (called K levels r ws)
  unfolding called rule
  called-either P refused done = calls.called-either (heap K levels) r ws P refused (λ c d o w. done c.0 o w)

-- ---- EXACTLY: the columns "Exactly when" and "Left behind"
-- no work writes nothing
words-none : (K k n : ℕ) (ws : List ℕ) → run_words K k none n ws ≡ ws
unfolding run_words step_in touch works begin finish
words-none K zero n ws = refl
words-none K (suc k) n ws = words-none K k _ ws

-- every test stands for its cause
pub tested : (K levels : ℕ) → Tested (heap K levels)
tested K levels =
    record {
      opening = λ ws. (shape-means K levels (length ws), λ s. tt);
      clearing = λ ws. (shape-means K levels (length ws), λ s. tt);
      asked = λ r ws c. tt;
      root = λ ws. node-fails K (room K (pred levels)) ws 0;
      way = λ o ws. path-fails K levels o 0 ws;
      late = λ r ws c o. last-told r (held_in K levels ws) (room K levels) (λ p. root-limit K levels ws (shape_is K levels (length ws) c.0).some o);
      stays = λ ws. words-none K levels 0 ws;
      tagged = λ r ws. inr (last-guards r (held_in K levels ws) (room K levels));
    }

module _ (K levels : ℕ) (ws : List ℕ) where
  -- push, pop and replace
  pub exactly : (r : Request) → Exactly said (left ws) (called K levels r ws) (refusals K levels r ws)
  unfolding called rule
  exactly Idle = calls.exactly (tested K levels) Idle ws
  exactly (Push x) = calls.exactly (tested K levels) (Push x) ws
  exactly Pop = calls.exactly (tested K levels) Pop ws
  exactly (Replace x) = calls.exactly (tested K levels) (Replace x) ws

  pub stands : (r : Request) (n : Refusal) → said (called K levels r ws) ≡ refusal_number n → called K levels r ws ≡ left ws n
  unfolding called
  stands r = calls.stands (tested K levels) r ws

  pub cleared-fine : shape_ok K levels (length ws) ≡ true → cleared K levels ws ≡ outcome (Ok None) (wipe (extent K levels 1) ws)
  unfolding cleared
  cleared-fine e = rw e

  pub exactly-clear : Exactly said (left ws) (cleared K levels ws) (clear_refusals K levels ws)
  unfolding cleared
  exactly-clear = calls.exactly-clear (tested K levels) ws

  pub exactly-held : Exactly count_number Err (held_count K levels ws) (held_refusals K levels ws)
  unfolding held_count
  exactly-held = calls.exactly-held (tested K levels) ws

-- KIND: of a call that is not refused a push and an idle request answer done, a pop and a replace an element
pub kind : (K levels : ℕ) (r : Request) (ws : List ℕ) → number_of (called K levels r ws).answer ≡ 0 → Kind r (called K levels r ws).answer
unfolding called
kind K levels r ws = calls.kind (heap K levels) r ws

-- BARRED: an element without a tag is never let in, whatever the words
pub barred : (K levels : ℕ) (r : Request) (ws : List ℕ) → Barred r (called K levels r ws).answer
unfolding called
barred K levels r ws = calls.barred (tested K levels) r ws
