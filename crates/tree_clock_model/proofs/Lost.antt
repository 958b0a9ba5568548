-- Nothing is lost in flight: no list of cycles and drains loses an element between slots and records.
use Rattle.laws.specs.Prelude.{Bool, Element, Idle, List, Request, TooSoon, ◌&&◌, ◌+◌, ◌∙◌, ◌≡◌, ◌≤◌, and_right, and-true, ap, ap₂, arith, cond, false, length, map, not, not-suc-le-zero, refl, subst, suc, sym, true, zero, ℕ, Err}
use Rattle.tree_clock_model.proofs.Balance.{at-rest-none, balance, carried-is, carried_by, gives-work, ruled-sums, Serves, slots-are, slot_sum, struck-is, struck-there, struck_by}
use Rattle.tree_clock_model.proofs.Demand.{fresh-quiet, idles-done, idles-in-step, settled-words, start-in-step}
use Rattle.tree_clock_model.proofs.Drain.{drains-as}
use Rattle.tree_clock_model.proofs.Exactly.{timed}
use Rattle.tree_clock_model.proofs.Step.{in_step, InStep, root-fine, same_shape, spaced-whole, step-answer, steps-fine, ticks, words-then, works-then}
use Rattle.tree_clock_model.specs.Prelude.{Call, CycleOutcome, DrainOutcome, Machine, NothingLost, asked, asked_ok, call_answers, carried, carries, clock, clocked_queue, cycle_ok, cycle_run, cycle_work, cycle_works, fresh, idles, in_slots, machine, machine_queue, one_by_one, pending, pops_or_replaces, ran_calls, record_count, remaining, rule_now, strikes, struck, works_of}
use Rattle.tree_clock_model.specs.Promise.{cleared_machine}
use Rattle.promise.proofs.InFlight as clocks
use Rattle.promise.proofs.InFlight.{Bag, IsClock, Lowest}
use Rattle.promise.proofs.Kept.{none-least}
use Rattle.promise.specs.Prelude.{Least, all_brought, all_given, brought, calls, cycle, drain, given, least-same, step, triple}
use Rattle.tree_model.proofs.Laws.{kept-least, op-work, root-node, start-empty}
use Rattle.tree_model.specs.Prelude.{Levels, Ruling, Shape, called, idle, level_of, levels_of, outcome, room, root_of, shape_ok, stored_count, top, under, work_ok}
use Rattle.tree_model.specs.declared.Op.{Op}
use Rattle.tree_model.specs.declared.Slot.{Slot}

-- ---- a machine that is in step with the tree beside it
module _ (m k : ℕ) where
  -- what is struck out is there
  in-step-there : (x : Machine) (vs : List ℕ) → InStep m k x.state x.words vs → (f : Element → Bool) → struck m (suc k) x f ≤ in_slots m (suc k) x f
  unfolding cycle_ok levels_of slot_sum
  in-step-there x vs i f =
      omega (
        arith,
        struck-is f m k x,
        slots-are f m (suc k) x.words,
        struck-there f m k (works_of k x.state.records 0) (under m k x.words 0 1) (and_right (work_ok m k _ _ _) _ (steps-fine m k _ _ vs i Idle)),
      )

  module _ (x : Machine) (vs : List ℕ) (i : InStep m k x.state x.words vs) (r : Request) (f : Element → Bool) where
    abbrev g : Ruling
    g = rule_now m (suc k) r x.state x.words

    abbrev o : CycleOutcome
    o = cycle_run m (suc k) r g x.state x.words

    abbrev y : Machine
    y = machine o.state o.words

    now-sums : Serves f (root_of m x.words) r g
    now-sums = ruled-sums f (room m (suc k)) (root_of m x.words) x.state.mark r

    -- the sums of a cycle that runs
    run-sum : in_slots m (suc k) y f + carried m (suc k) y f + struck m (suc k) x f + given r g.answer f
        ≡ in_slots m (suc k) x f + carried m (suc k) x f + struck m (suc k) y f + brought r g.answer f
    unfolding carried_by struck_by cycle_works levels_of top
    run-sum =
        let ls : Levels (suc k) = levels_of m (suc k) x.words 0 1 in
        omega (
          arith,
          slots-are f m (suc k) o.words,
          ap (slot_sum f (suc k)) (words-then m k _ _ vs i r),
          carried-is f m k y,
          ap (carried_by f k) (works-then m k _ _ vs i r),
          struck-is f m k y,
          ap₂ (struck_by f k) (works-then m k _ _ vs i r) (ap (λ (l : Levels (suc k)). l.1) (words-then m k _ _ vs i r)),
          slots-are f m (suc k) x.words,
          carried-is f m k x,
          struck-is f m k x,
          balance f m (suc k) idle (cycle_work m (suc k) g.op x.state) ls tt (spaced-whole m k _ _ vs i r) tt (steps-fine m k _ _ vs i r),
          gives-work f g.op 0 (level_of m x.words 0 1),
          ap (λ (nd : List Slot). strikes g.op nd f) (root-node m x.words),
          ap (λ (o : Op). carries o f) (op-work g.op 0),
          now-sums.0,
          now-sums.1,
        )

    run-answer : o.answer ≡ g.answer
    unfolding cycle_run
    run-answer = refl

    -- a cycle: what remains then, with what it gives out, is what remained and what it brings in
    cycle-sum : remaining m (suc k) (clocked_queue m (suc k) r x).next f + given r (clocked_queue m (suc k) r x).said f
        ≡ remaining m (suc k) x f + brought r (clocked_queue m (suc k) r x).said f
    cycle-sum =
        subst
        (λ (c : CycleOutcome). remaining m (suc k) (machine c.state c.words) f + given r c.answer f ≡ remaining m (suc k) x f + brought r c.answer f) (sym (ticks m k _ _ vs i r))
        (rw run-answer (omega (
          arith,
          run-sum,
          in-step-there x vs i f,
          subst (λ (c : CycleOutcome). struck m (suc k) (machine c.state c.words) f ≤ in_slots m (suc k) (machine c.state c.words) f) (ticks m k _ _ vs i r)
              (in-step-there (clocked_queue m (suc k) r x).next _ (in_step m k _ _ vs i r) f),
        )))

-- with nothing pending, what remains is what is stored
pub at-rest-remains : (m levels : ℕ) (x : Machine) → 1 ≤ levels → pending m levels x.state ≡ false → (f : Element → Bool) → remaining m levels x f ≡ stored_count (room m levels) x.words f
at-rest-remains m zero x some e f = absurd (not-suc-le-zero some)
at-rest-remains m (suc k) x some e f = omega (arith, (at-rest-none f m k x e).0, (at-rest-none f m k x e).1)

-- ---- it is a clock: what every cycle keeps is that some tree beside is in step
abbrev pub Going : (m k : ℕ) → Machine → Type 0
Going m k x = (vs : List ℕ) × InStep m k x.state x.words vs

module _ (m k : ℕ) where
  shaped : (x : Machine) → Going m k x → shape_ok m (suc k) (length x.words) ≡ true
  shaped x g = same_shape m k _ _ g.0 g.1

  sounds : (r : Request) (x : Machine) → Going m k x → (clock m (suc k)).sound_ok r x ≡ true
  sounds r x g = and-true (asked_ok m (suc k) r x.words) _ (root-fine m k _ _ g.0 g.1 r) (steps-fine m k _ _ g.0 g.1 r)

  pub is-clock : IsClock (clock m (suc k)) (clocked_queue m (suc k)) (Going m k)
  is-clock = clocks.is-clock-by (timed m (suc k)) (Going m k) shaped sounds (λ r x g. (_, in_step m k _ _ g.0 g.1 r))

  pub bag : Bag (clock m (suc k)) (Going m k) (λ r. r) (remaining m (suc k))
  bag = clocks.bag-by (timed m (suc k)) (Going m k) shaped sounds (λ r. r) (remaining m (suc k)) refl (λ r x g f. cycle-sum m k x g.0 g.1 r f)

  pub idles-sum : (n : ℕ) (x : Machine) → Going m k x → (f : Element → Bool) → remaining m (suc k) (idles m (suc k) n x.state x.words) f ≡ remaining m (suc k) x f
  idles-sum = clocks.idles-sum is-clock bag

  pub settles : (x : Machine) → Going m k x → pending m (suc k) (idles m (suc k) k x.state x.words).state ≡ false
  settles x g = idles-done m k _ _ g.0 g.1

  -- what remains is what the tree beside stores
  pub remains-beside : (x : Machine) (vs : List ℕ) → InStep m k x.state x.words vs → (f : Element → Bool) → remaining m (suc k) x f ≡ stored_count (room m (suc k)) vs f
  remains-beside x vs i f =
      sym (idles-sum k x (vs, i) f) ∙ at-rest-remains m (suc k) (idles m (suc k) k x.state x.words) (omega arith) (settles x (vs, i)) f
      ∙ ap (λ (w : List ℕ). stored_count (room m (suc k)) w f) (settled-words m k _ _ vs (idles-in-step m k k _ _ vs i) (settles x (vs, i)))

  -- so that what a cycle gives is the least of it
  beside-least : (r : Request) (x : Machine) (vs : List ℕ) → InStep m k x.state x.words vs → Least (remaining m (suc k) x) r (clocked_queue m (suc k) r x).said
  unfolding one_by_one
  beside-least r x vs i =
      least-same (stored_count (room m (suc k)) vs) (remaining m (suc k) x) (λ f. sym (remains-beside x vs i f)) r _
      (subst (Least (stored_count (room m (suc k)) vs) r) (sym (step-answer m k _ _ vs i r)) (go (x.state.mark && pops_or_replaces r)))
    where
      go : (t : Bool) → Least (stored_count (room m (suc k)) vs) r (cond t (outcome (Err TooSoon) vs) (called m (suc k) r vs)).answer
      go true = none-least r TooSoon (stored_count (room m (suc k)) vs)
      go false = kept-least m k vs i.kept r

  pub lowest : Lowest (clock m (suc k)) (Going m k) (λ r. r) (remaining m (suc k))
  lowest = clocks.lowest_by (timed m (suc k)) (Going m k) shaped sounds (λ r. r) (remaining m (suc k)) (λ r x g. beside-least r x g.0 g.1)

  -- cycles and drains are the clock's
  alike : (c : Call) (x : Machine) → machine_queue m (suc k) c x ≡ calls (clock m (suc k)) (clocked_queue m (suc k)) c x
  alike (cycle r) x = refl
  alike (drain b) x = ap (λ (d : DrainOutcome). step d.answer (machine d.state d.words)) (drains-as m (suc k) b x.state x.words)

pub start-remains : (m k : ℕ) (ws : List ℕ) → Shape m (suc k) (length ws) → (f : Element → Bool) → remaining m (suc k) (cleared_machine m (suc k) ws) f ≡ 0
unfolding fresh
start-remains m k ws sh f = omega (arith, start-empty m k ws sh f, (at-rest-none f m k (cleared_machine m (suc k) ws) (ap not (fresh-quiet k record_count 0))).0)

-- NOTHING LOST. Any order and number of levels that pass the shape, any words to start with, any list of cycles and drains from the cleared machine
module _ (m : ℕ) (ws : List ℕ) (cs : List Call) where
  pub nothing-lost : (levels : ℕ) → Shape m levels (length ws) → NothingLost m levels (ran_calls m levels cs ws) (map asked cs) (call_answers m levels cs ws)
  nothing-lost zero sh = absurd (not-suc-le-zero sh.some)
  nothing-lost (suc k) sh =
      let go : Going m k (cleared_machine m (suc k) ws) = (_, start-in-step m k ws sh) in
      let i : Going m k (ran_calls m (suc k) cs ws) = clocks.calls-kept (is-clock m k) (machine_queue m (suc k)) (alike m k) cs _ go in
      record {
        there = λ f. in-step-there m k (ran_calls m (suc k) cs ws) i.0 i.1 f;
        remains = clocks.nothing-lost (is-clock m k) (machine_queue m (suc k)) (alike m k) (bag m k) _ go (start-remains m k ws sh) cs;
      }

  -- .. so each triple as often
  pub each-remains : (levels : ℕ) → Shape m levels (length ws) → (e : Element)
      → remaining m levels (ran_calls m levels cs ws) (triple e) + all_given (map asked cs) (call_answers m levels cs ws) (triple e) ≡ all_brought (map asked cs) (call_answers m levels cs ws) (triple e)
  each-remains levels sh e = (nothing-lost levels sh).remains (triple e)
