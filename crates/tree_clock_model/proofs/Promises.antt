-- The promises of the clocked tree beside demand 3: each level does its one step, nothing is damaged, it holds exactly what went in and has
-- not come out, and what comes out has the lowest rank.
use Rattle.laws.specs.Prelude.{Answer, BadShape, Bool, Element, List, Request, TooSoon, [], ◌&&◌, ◌+◌, ◌∙◌, ◌∷◌, ◌≡◌, ◌≤◌, ◌⊎◌, ap, arith, cond, count_number, count_of, false, inl, inr, length, means-off, not, not-suc-le-zero, number_of, pred, refl, refusal_number, subst, suc, sym, true, zero, ℕ, Ok, None, Err}
use Rattle.tree_clock_model.proofs.Demand.{demand-idles, demand-store, fresh-mark, fresh-quiet, ran-in-step, start-in-step}
use Rattle.tree_clock_model.proofs.Drain.{drain-state, drains-as}
use Rattle.tree_clock_model.proofs.Lost.{at-rest-remains, bag, Going, idles-sum, is-clock, lowest, settles, start-remains}
use Rattle.tree_clock_model.proofs.Exactly.{barred, refused-mark}
use Rattle.tree_clock_model.proofs.Step.{same-root}
use Rattle.tree_clock_model.specs.Prelude.{CycleDamage, DrainOutcome, Machine, State, calls_of, cleared_machine, clock, clocked_cleared, clocked_queue, cycle_answers, cycle_outcome, cycled, drains, fresh, idles, marks, one_by_one, one_by_one_words, pending, pops_or_replaces, ran, record_count, remaining}
use Rattle.promise.specs.Prelude.{Drained, Holds, Least, Tagged, all_brought, all_given, always, drained_by, least-same, leaves, same as same-pair, tagged-by, triple}
use Rattle.promise.proofs.Calls.{last-all}
use Rattle.promise.proofs.InFlight as clocks
use Rattle.tree_model.proofs.Laws.{clear-zeroes, is-shape, shape-means}
use Rattle.tree_model.specs.Prelude.{Outcome, Shape, after, called, cleared, held_count, outcome, room, start, stored_count, tree_queue}
use Rattle.tree_model.proofs.Promises as tree

-- ---- the calls that are not too soon
module _ (m levels : ℕ) where
  pub calls-words : (rs : List Request) (mark : Bool) (vs : List ℕ) → one_by_one_words m levels rs mark vs ≡ leaves (tree_queue m levels) (calls_of m levels rs mark vs) vs
  unfolding calls_of leaves one_by_one
  calls-words [] mark vs = refl
  calls-words (r ∷ rs) mark vs = go (mark && pops_or_replaces r) (calls-words rs)
    where
      now : Bool → Outcome
      now t = cond t (outcome (Err TooSoon) vs) (called m levels r vs)

      go : (t : Bool) → ((b : Bool) (vs : List ℕ) → one_by_one_words m levels rs b vs ≡ leaves (tree_queue m levels) (calls_of m levels rs b vs) vs)
          → one_by_one_words m levels rs (marks r (now t).answer) (now t).words
          ≡ leaves (tree_queue m levels) (cond t (calls_of m levels rs false vs) (r ∷ calls_of m levels rs (marks r (now t).answer) (now t).words)) vs
      go true ih = ap (λ (b : Bool). one_by_one_words m levels rs b vs) (refused-mark r TooSoon) ∙ ih false vs
      go false ih = ih (marks r (called m levels r vs).answer) (called m levels r vs).words

-- ---- CLEAR: "A cleared machine has none pending and the mark off"; its words are those of the tree's clear
pub clear-fresh : (m levels : ℕ) (ws : List ℕ) → Shape m levels (length ws)
    → (cleared_machine m levels ws ≡ cycle_outcome (Ok None) (start m levels ws) fresh) × (pending m levels fresh ≡ false) × (fresh.mark ≡ false)
unfolding fresh
clear-fresh m levels ws sh = (
  ap (λ (a : Answer). cycle_outcome a (start m levels ws) fresh) (clear-zeroes m levels ws sh).0,
  ap not (fresh-quiet (pred levels) record_count 0),
  fresh-mark,
)

-- .. with a shape it is that whatever state is handed over; refused it leaves everything, the state too
pub clear-taken : (m levels : ℕ) (s : State) (ws : List ℕ) → Shape m levels (length ws) → clocked_cleared m levels s ws ≡ cleared_machine m levels ws
unfolding clocked_cleared cleared
clear-taken m levels s ws sh = rw (is-shape m levels (length ws) sh)

pub clear-stands : (m levels : ℕ) (s : State) (ws : List ℕ) → (Shape m levels (length ws) → ⊥) → clocked_cleared m levels s ws ≡ cycle_outcome (Err BadShape) ws s
unfolding clocked_cleared
clear-stands m levels s ws none = rw (means-off (shape-means m levels (length ws)) none)

-- ---- over any list of cycles from the cleared machine
module _ (m : ℕ) (ws : List ℕ) (rs : List Request) where
  -- the calls of the one-at-a-time tree beside it
  abbrev calls : ℕ → List Request
  calls levels = calls_of m levels rs false (start m levels ws)

  abbrev pub at-rest-after : ℕ → ℕ → List ℕ
  at-rest-after levels n = (idles m levels n (ran m levels rs ws).state (ran m levels rs ws).words).words

  -- nothing is pending after n idle cycles
  abbrev pub Idled : ℕ → ℕ → Type 0
  Idled levels n = pending m levels (idles m levels n (ran m levels rs ws).state (ran m levels rs ws).words).state ≡ false

  -- once idled, the words are those that these calls leave
  pub idled : (levels : ℕ) → Shape m levels (length ws) → (n : ℕ) → Idled levels n → at-rest-after levels n ≡ after m levels (calls levels) ws
  idled levels sh n e = demand-store m ws rs levels sh n e ∙ calls-words m levels rs false (start m levels ws)

  going : (k : ℕ) → Shape m (suc k) (length ws) → Going m k (ran m (suc k) rs ws)
  going k sh = (_, ran-in-step m ws rs k sh)

  -- what remains is then what is stored
  rested : (k : ℕ) → Shape m (suc k) (length ws) → (n : ℕ) → Idled (suc k) n → (f : Element → Bool) → remaining m (suc k) (ran m (suc k) rs ws) f ≡ stored_count (room m (suc k)) (at-rest-after (suc k) n) f
  rested k sh n e f = sym (idles-sum m k n (ran m (suc k) rs ws) (going k sh) f) ∙ at-rest-remains m (suc k) (idles m (suc k) n (ran m (suc k) rs ws).state (ran m (suc k) rs ws).words) sh.some e f

  -- UNDAMAGED: no cycle is refused for damage, and none for the shape
  pub undamaged : (levels : ℕ) → Shape m levels (length ws) → (r : Request) → CycleDamage m levels r (ran m levels rs ws).state (ran m levels rs ws).words → ⊥
  undamaged zero sh r = absurd (not-suc-le-zero sh.some)
  undamaged (suc k) sh r = clocks.kept-undamaged (is-clock m k) r (ran m (suc k) rs ws) (going k sh)

  -- .. so that only 0, 3, 5, 6 and 7 are answered
  pub numbers : (levels : ℕ) → Shape m levels (length ws) → (r : Request)
      → let n = number_of (cycled m levels r (ran m levels rs ws).state (ran m levels rs ws).words).answer in (n ≡ 0) ⊎ (n ≡ 3) ⊎ (n ≡ 5) ⊎ (n ≡ 6) ⊎ (n ≡ 7)
  numbers zero sh r = absurd (not-suc-le-zero sh.some)
  numbers (suc k) sh r =
      clocks.kept-numbers (is-clock m k) r (ran m (suc k) rs ws) (going k sh) (λ n. (n ≡ 0) ⊎ (n ≡ 3) ⊎ (n ≡ 5) ⊎ (n ≡ 6) ⊎ (n ≡ 7)) (inl refl)
      (inr (inl refl), last-all (λ x. let n = refusal_number x in (n ≡ 0) ⊎ (n ≡ 3) ⊎ (n ≡ 5) ⊎ (n ≡ 6) ⊎ (n ≡ 7)) (inr (inr (inr (inr refl)))) (inr (inr (inl refl))) (inr (inr (inr (inl refl)))) r _ _)

  pub shape-kept : (levels : ℕ) → Shape m levels (length ws) → Shape m levels (length (ran m levels rs ws).words)
  shape-kept zero sh = absurd (not-suc-le-zero sh.some)
  shape-kept (suc k) sh =
      let i = ran-in-step m ws rs k sh in
      subst (λ (n : ℕ). Shape m (suc k) n) (sym i.same_length) i.kept.shape

  -- HOLDS: once idled, of every kind of element as many are stored as went in and have not come out
  pub holds : (levels : ℕ) → Shape m levels (length ws) → (n : ℕ) → Idled levels n → Holds (stored_count (room m levels) (at-rest-after levels n)) rs (cycle_answers m levels rs ws)
  holds zero sh n e f = absurd (not-suc-le-zero sh.some)
  holds (suc k) sh n e f =
      omega (
        arith,
        rested k sh n e f,
        clocks.all_held (is-clock m k) (bag m k) _ (_, start-in-step m k ws sh) (start-remains m k ws sh) rs f,
      )

  -- .. so each pair as often
  pub pairs : (levels : ℕ) → Shape m levels (length ws) → (n : ℕ) → Idled levels n → (e : Element)
      → stored_count (room m levels) (at-rest-after levels n) (same-pair e) + all_given rs (cycle_answers m levels rs ws) (same-pair e) ≡ all_brought rs (cycle_answers m levels rs ws) (same-pair e)
  pairs levels sh n q e = holds levels sh n q (same-pair e)

  -- .. and each triple of rank, tag and length
  pub triples : (levels : ℕ) → Shape m levels (length ws) → (n : ℕ) → Idled levels n → (e : Element)
      → stored_count (room m levels) (at-rest-after levels n) (triple e) + all_given rs (cycle_answers m levels rs ws) (triple e) ≡ all_brought rs (cycle_answers m levels rs ws) (triple e)
  triples levels sh n q e = holds levels sh n q (triple e)

  -- TAGGED: once idled no element of tag 0 is stored, and none has come out
  pub tagged : (levels : ℕ) → Shape m levels (length ws) → (n : ℕ) → Idled levels n → Tagged (stored_count (room m levels) (at-rest-after levels n)) rs (cycle_answers m levels rs ws)
  tagged levels sh n e =
      tagged-by (clocked_queue m levels) (λ r x. barred m levels r x.state x.words) (stored_count (room m levels) (at-rest-after levels n)) rs _ (holds levels sh n e)

  -- LEAST: what a cycle gives out, of a pop or a replace, has the lowest rank of all that the store held before it, once idled
  pub least : (levels : ℕ) → Shape m levels (length ws) → (n : ℕ) → Idled levels n
      → (r : Request) → Least (stored_count (room m levels) (at-rest-after levels n)) r (cycled m levels r (ran m levels rs ws).state (ran m levels rs ws).words).answer
  least zero sh n e r = absurd (not-suc-le-zero sh.some)
  least (suc k) sh n e r =
      least-same (remaining m (suc k) (ran m (suc k) rs ws)) (stored_count (room m (suc k)) (at-rest-after (suc k) n)) (rested k sh n e) r _
      (clocks.cycle-least (is-clock m k) (lowest m k) r (ran m (suc k) rs ws) (going k sh))

  -- the call held answers, once idled, how many are stored
  pub held-says : (levels : ℕ) → Shape m levels (length ws) → (n : ℕ) → Idled levels n
      → (count_number (held_count m levels (at-rest-after levels n)) ≡ 0) × (count_of (held_count m levels (at-rest-after levels n)) ≡ stored_count (room m levels) (at-rest-after levels n) always)
  held-says levels sh n e = rw (idled levels sh n e) (tree.held-says m ws (calls levels) levels sh)

  -- .. and at any time, with work pending or not, how many went in and have not come out
  pub held-now : (levels : ℕ) → Shape m levels (length ws)
      → (count_number (held_count m levels (ran m levels rs ws).words) ≡ 0)
      × (count_of (held_count m levels (ran m levels rs ws).words) + all_given rs (cycle_answers m levels rs ws) always ≡ all_brought rs (cycle_answers m levels rs ws) always)
  unfolding held_count
  held-now zero sh = absurd (not-suc-le-zero sh.some)
  held-now (suc k) sh =
      let i = ran-in-step m ws rs k sh in
      let n : ℕ = pred (suc k) in
      let rest = demand-idles m ws rs (suc k) sh in
      let h = held-says (suc k) sh n rest in
      let same : held_count m (suc k) (ran m (suc k) rs ws).words ≡ held_count m (suc k) (at-rest-after (suc k) n) =
      rw (demand-store m ws rs (suc k) sh n rest, i.same_length, same-root m k _ _ _ i) in
      (ap count_number same ∙ h.0, ap (λ (c : ℕ). c + all_given rs (cycle_answers m (suc k) rs ws) always) (ap count_of same ∙ h.1) ∙ holds (suc k) sh n rest always)

-- ---- DRAINED: after any list of cycles a drain with a budget of levels - 1 or more is not refused, runs at most levels - 1 cycles, leaves
-- no work, and leaves the words of the one-at-a-time tree beside it
module _ (m : ℕ) (ws : List ℕ) (rs : List Request) (budget : ℕ) where
  -- the clock's own drain
  abbrev by-clock : ℕ → Drained Machine
  by-clock levels = drained_by (clock m levels) (clocked_queue m levels) budget (ran m levels rs ws)

  -- .. is done, within levels - 1 cycles, and leaves no work
  comes-to : (levels : ℕ) → Shape m levels (length ws) → pred levels ≤ budget
      → (number_of (by-clock levels).answer ≡ 0) × ((by-clock levels).cycles ≤ pred levels) × ((by-clock levels).left ≡ false) × Idled m ws rs levels (by-clock levels).cycles
  comes-to zero sh enough = absurd (not-suc-le-zero sh.some)
  comes-to (suc k) sh enough =
      let go = going m ws rs k sh in (
        clocks.drained-fine (is-clock m k) k (settles m k) (ran m (suc k) rs ws) go budget enough,
        clocks.drained-few (is-clock m k) k (settles m k) (ran m (suc k) rs ws) go budget enough,
        clocks.drained-left (is-clock m k) k (settles m k) (ran m (suc k) rs ws) go budget enough,
        clocks.drained-rest (is-clock m k) k (settles m k) (ran m (suc k) rs ws) go budget enough,
      )

module _ (m : ℕ) (ws : List ℕ) (rs : List Request) (levels : ℕ) (sh : Shape m levels (length ws)) (budget : ℕ) (enough : pred levels ≤ budget) where
  abbrev s : State
  s = (ran m levels rs ws).state

  abbrev vs : List ℕ
  vs = (ran m levels rs ws).words

  abbrev d : DrainOutcome
  d = drains m levels budget s vs

  pub drained-fine : number_of d.answer ≡ 0
  drained-fine = rw (drains-as m levels budget s vs) (comes-to m ws rs budget levels sh enough).0

  pub drained-few : d.cycles ≤ pred levels
  drained-few = rw (drains-as m levels budget s vs) (comes-to m ws rs budget levels sh enough).1

  pub drained-left : d.left ≡ false
  drained-left = rw (drains-as m levels budget s vs) (comes-to m ws rs budget levels sh enough).2

  at_rest : Idled m ws rs levels d.cycles
  at_rest = rw (drains-as m levels budget s vs) (comes-to m ws rs budget levels sh enough).3

  pub drained-words : d.words ≡ one_by_one_words m levels rs false (start m levels ws)
  drained-words = (drain-state m levels budget s vs).0 ∙ demand-store m ws rs levels sh d.cycles at_rest
