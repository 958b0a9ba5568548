-- The promises: from a cleared machine, over any list of cycles, nothing is damaged and nothing too soon; in the middle of any work the places and the pending puts
-- hold exactly what went in and has not come out, and what comes out has the lowest rank; and a drain leaves a sound heap.
use Rattle.laws.specs.Prelude.{Bool, Element, Idle, List, Replace, Request, ◌+◌, ◌∙◌, ◌≡◌, ◌≤◌, ◌⊎◌, ap, arith, count_number, count_of, false, inl, length, lt-ltb, map, means-off, not, not-suc-le-zero, number_of, pred, refl, subst, suc, sym, true, true≢false, zero, ℕ, Ok, Some}
use Rattle.promise.specs.Prelude.{Drained, Holds, Least, PopThenPush, SoleCall as Call, Tagged, Untagged, all_brought, all_given, always, asked, brought, calls, cycle, drain, drained_by, given, least-same, leaves-keep, outcome, step, tagged-by, triple, untagged-means}
use Rattle.cluster_clock_model.proofs.Drain.{drain-state, drains-as, idles-quiet}
use Rattle.cluster_clock_model.proofs.Exactly.{barred, held-fine, root-limit}
pub use Rattle.cluster_clock_model.proofs.Exactly.{never-soon}
use Rattle.cluster_clock_model.proofs.Flight.{Inv, within}
use Rattle.cluster_clock_model.proofs.Kept.{is-clock, Kept, kept-answer, kept-held, kept-root, move-kept, move-least, move-sum, root-some}
use Rattle.cluster_clock_model.proofs.Lost.{flight-sum}
use Rattle.cluster_clock_model.proofs.Rest.{calm-sound, rest-stored, rest-tree, start-flying, start_none}
use Rattle.cluster_clock_model.proofs.Seen.{tree_in}
use Rattle.cluster_clock_model.specs.Prelude.{AtRest, CycleDamage, DrainOutcome, Machine, call_answers, cleared_machine, clock, clock_held, cycle_answers, cycle_queue, cycled, drains, idles, machine, machine_queue, quiet, ran, ran_calls, remaining}
use Rattle.cluster_model.specs.Prelude.{IsLowest, Place, Shape, Sound, heap_in, held_in, low, low_elem, node_in, room, rule, rule_at, stored_count}
use Rattle.cluster_model.proofs.Laws.{comes, lowest-is}
use Rattle.promise.proofs.Calls.{comes-out, grants-kind, last-each}
use Rattle.promise.proofs.Kept.{last-alike}
use Rattle.promise.proofs.InFlight as clocks
use Rattle.promise.proofs.InFlight.{Bag, Lowest, Swaps}

-- ---- what remains is what the clock holds
module _ (K k : ℕ) where
  -- in the tree's words
  pub kept-remains : (x : Machine) → Kept K k x → (f : Element → Bool) → within f (suc k) (tree_in K (suc k) 0 0 x.records x.words 0) ≡ remaining K (suc k) x f
  kept-remains x kept f = flight-sum f K x.records x.words k kept.ranged

  pub bag : Bag (clock K (suc k)) (Kept K k) (λ r. r) (remaining K (suc k))
  bag =
      record {
        still = refl;
        sum = λ r x kept c f. omega (arith, kept-remains x kept f, kept-remains ((clock K (suc k)).moves r x) (move-kept K k x kept r c) f, move-sum K k x kept r c f);
      }

  pub lowest : Lowest (clock K (suc k)) (Kept K k) (λ r. r) (remaining K (suc k))
  lowest =
      record { least = λ r x kept c. least-same (λ f. within f (suc k) (tree_in K (suc k) 0 0 x.records x.words 0)) (remaining K (suc k) x) (kept-remains x kept) r _ (move-least K k x kept r c) }

  pub next-kept : (r : Request) (x : Machine) → Kept K k x → Kept K k (cycle_queue K (suc k) r x).next
  next-kept = clocks.next-kept (is-clock K k)

  pub idles-kept : (n : ℕ) (x : Machine) → Kept K k x → Kept K k (idles K (suc k) n x)
  idles-kept = clocks.idles-kept (is-clock K k)

  pub cycle-sum : (r : Request) (x : Machine) → Kept K k x → (f : Element → Bool)
      → remaining K (suc k) (cycle_queue K (suc k) r x).next f + given r (cycle_queue K (suc k) r x).said f ≡ remaining K (suc k) x f + brought r (cycle_queue K (suc k) r x).said f
  cycle-sum = clocks.cycle-sum (is-clock K k) bag

  -- what a cycle gives out is the least of it
  pub kept_gives : (x : Machine) → Kept K k x → (r : Request) → Least (remaining K (suc k) x) r (cycled K (suc k) r x.records x.words).answer
  kept_gives x kept r = clocks.cycle-least (is-clock K k) lowest r x kept

  -- .. and the lowest of the root as it stood at the cycle's start
  pub kept-lowest : (x : Machine) → Kept K k x → (r : Request) (e : Element) → (cycled K (suc k) r x.records x.words).answer ≡ Ok (Some e)
      → IsLowest (node_in K x.words 0).places (low (node_in K x.words 0).places) e
  kept-lowest x kept r e q =
      let ps : List Place = (node_in K x.words 0).places in
      let o = comes-out (room K (suc k)) (held_in K (suc k) x.words) (low_elem ps) e r (rule_at K (suc k) r x.words) (comes (room K (suc k)) r (held_in K (suc k) x.words) (low_elem ps)) (sym (kept-answer K k x kept r) ∙ q) in
      subst (IsLowest ps (low ps)) o.0 (lowest-is ps (root-some K k x kept o.1))

  -- with nothing pending what remains is what is stored, and the heap is sound
  quiet_of : (x : Machine) → AtRest K (suc k) x → quiet k x.records 0 ≡ true
  quiet_of x e = go (quiet k x.records 0) refl
    where
      go : (b : Bool) → quiet k x.records 0 ≡ b → b ≡ true
      go true q = refl
      go false q = absurd (true≢false (sym (ap not q) ∙ e))

  pub rest-remains : (x : Machine) → Kept K k x → AtRest K (suc k) x → (f : Element → Bool) → remaining K (suc k) x f ≡ stored_count K (suc k) x.words f
  rest-remains x kept e f = sym (kept-remains x kept f) ∙ rest-stored K x.records x.words k f (quiet_of x e)

  pub rest-sound : (x : Machine) → Kept K k x → AtRest K (suc k) x → Sound K (suc k) (heap_in K (suc k) x.words 0)
  rest-sound x kept e =
      calm-sound K (suc k) (heap_in K (suc k) x.words 0) (subst (Inv K (suc k)) (rest-tree K x.records x.words k (quiet_of x e)) kept.sound)

  -- no idle cycle is refused, and levels less one leave nothing pending
  idle-unrefused : (x : Machine) → Kept K k x → number_of (cycled K (suc k) Idle x.records x.words).answer ≡ 0
  unfolding rule
  idle-unrefused x kept = ap number_of (kept-answer K k x kept Idle)

  pub idles-rest : (x : Machine) → Kept K k x → AtRest K (suc k) (idles K (suc k) k x)
  idles-rest x kept = idles-quiet K (suc k) x kept.count (λ t l. idle-unrefused (idles K (suc k) t x) (idles-kept t x kept))

  pub kept-undamaged : (x : Machine) → Kept K k x → (r : Request) → CycleDamage K (suc k) r x.records x.words → ⊥
  kept-undamaged x kept r = clocks.kept-undamaged (is-clock K k) r x kept

  -- a replace is a pop and then a push
  swapping : Swaps (is-clock K k) bag
  swapping =
      record {
        kinds = λ r x. grants-kind r _;
        alike = λ e x kept tag. last-alike (λ r. r) e (low_elem (node_in K x.words 0).places) (held_in K (suc k) x.words) (room K (suc k)) (means-off (untagged-means e) tag);
        room = λ e x kept tag c. (
          means-off (untagged-means e) tag,
          (
            lt-ltb _ (room K (suc k)) (clocks.popped-less (is-clock K k) bag (λ x kept. kept-held K k x kept ∙ kept-remains x kept always)
                (room K (suc k)) (λ x kept. root-limit K (suc k) x.words kept.shape.some (kept-root K k x kept)) x kept c),
            tt,
          ),
        );
      }

  pub kept-replaces : (x : Machine) → Kept K k x → (e : Element) → (Untagged (Replace e) → ⊥)
      → PopThenPush (λ r x. outcome (cycle_queue K (suc k) r x).said (cycle_queue K (suc k) r x).next) (remaining K (suc k)) e x
  kept-replaces x kept e tag = clocks.pop-then-push (is-clock K k) bag swapping e tag x kept

  -- cycles and drains are the clock's
  alike : (c : Call) (x : Machine) → machine_queue K (suc k) c x ≡ calls (clock K (suc k)) (cycle_queue K (suc k)) c x
  alike (cycle r) x = refl
  alike (drain b) x = ap (λ (d : DrainOutcome). step d.answer (machine d.records d.words)) (drains-as K (suc k) b x.records x.words)

  pub start-remains : (ws : List ℕ) → Shape K (suc k) (length ws) → (f : Element → Bool) → remaining K (suc k) (cleared_machine K (suc k) ws) f ≡ 0
  start-remains ws sh f = sym (kept-remains (cleared_machine K (suc k) ws) (start-flying K k ws sh) f) ∙ start_none K k ws sh f

-- NOTHING LOST (02 [14], for this heap). Any K and number of levels that pass the shape, any words to start with, any list of cycles and drains from the cleared
-- machine: what stands in the places and what pending puts carry is, each as often, what was accepted less what was answered out
module _ (K : ℕ) (ws : List ℕ) (cs : List Call) where
  pub nothing-lost : (levels : ℕ) → Shape K levels (length ws) → Holds (remaining K levels (ran_calls K levels cs ws)) (map asked cs) (call_answers K levels cs ws)
  nothing-lost zero sh = absurd (not-suc-le-zero sh.some)
  nothing-lost (suc k) sh =
      clocks.nothing-lost (is-clock K k) (machine_queue K (suc k)) (alike K k) (bag K k) (cleared_machine K (suc k) ws)
      (start-flying K k ws sh) (start-remains K k ws sh) cs

  -- .. so each triple of rank, tag and length as often
  pub each-remains : (levels : ℕ) → Shape K levels (length ws) → (e : Element)
      → remaining K levels (ran_calls K levels cs ws) (triple e) + all_given (map asked cs) (call_answers K levels cs ws) (triple e) ≡ all_brought (map asked cs) (call_answers K levels cs ws) (triple e)
  each-remains levels sh e = nothing-lost levels sh (triple e)

-- THE PROMISES. Any K and number of levels that pass the shape, any words to start with, any list of cycles from the cleared machine
module _ (K : ℕ) (ws : List ℕ) (rs : List Request) where
  pub ran-kept : (k : ℕ) → Shape K (suc k) (length ws) → Kept K k (ran K (suc k) rs ws)
  ran-kept k sh = leaves-keep (cycle_queue K (suc k)) (Kept K k) (next-kept K k) rs (cleared_machine K (suc k) ws) (start-flying K k ws sh)

  -- HOLDS, at every moment
  pub holds : (levels : ℕ) → Shape K levels (length ws) → Holds (remaining K levels (ran K levels rs ws)) rs (cycle_answers K levels rs ws)
  holds zero sh = absurd (not-suc-le-zero sh.some)
  holds (suc k) sh =
      clocks.all_held (is-clock K k) (bag K k) (cleared_machine K (suc k) ws) (start-flying K k ws sh) (start-remains K k ws sh) rs

  -- UNDAMAGED: no cycle is refused for damage, and none for the shape
  pub undamaged : (levels : ℕ) → Shape K levels (length ws) → (r : Request) → CycleDamage K levels r (ran K levels rs ws).records (ran K levels rs ws).words → ⊥
  undamaged zero sh r = absurd (not-suc-le-zero sh.some)
  undamaged (suc k) sh r = kept-undamaged K k (ran K (suc k) rs ws) (ran-kept k sh) r

  pub shape-kept : (levels : ℕ) → Shape K levels (length ws) → Shape K levels (length (ran K levels rs ws).words)
  shape-kept zero sh = absurd (not-suc-le-zero sh.some)
  shape-kept (suc k) sh = (ran-kept k sh).shape

  -- .. so that only 0, 5, 6 and 7 are answered
  pub numbers : (levels : ℕ) → Shape K levels (length ws) → (r : Request)
      → let n = number_of (cycled K levels r (ran K levels rs ws).records (ran K levels rs ws).words).answer in (n ≡ 0) ⊎ (n ≡ 5) ⊎ (n ≡ 6) ⊎ (n ≡ 7)
  numbers zero sh r = absurd (not-suc-le-zero sh.some)
  numbers (suc k) sh r =
      clocks.kept-numbers (is-clock K k) r (ran K (suc k) rs ws) (ran-kept k sh) (λ n. (n ≡ 0) ⊎ (n ≡ 5) ⊎ (n ≡ 6) ⊎ (n ≡ 7)) (inl refl) (last-each r _ _)

  -- LEAST: what a cycle gives out, of a pop or a replace, has the lowest rank of all that is held, in the middle of any work
  pub least : (levels : ℕ) → Shape K levels (length ws) → (r : Request) → Least (remaining K levels (ran K levels rs ws)) r (cycled K levels r (ran K levels rs ws).records (ran K levels rs ws).words).answer
  least zero sh r = absurd (not-suc-le-zero sh.some)
  least (suc k) sh r = kept_gives K k (ran K (suc k) rs ws) (ran-kept k sh) r

  -- LOWER TAG: what a cycle gives is the lowest of the root as it stood at the cycle's start: of that node's equal ranks the lower tag, of equal rank and tag the
  -- first place (02 [12])
  pub lower-tag : (levels : ℕ) → Shape K levels (length ws) → (r : Request) (e : Element) → (cycled K levels r (ran K levels rs ws).records (ran K levels rs ws).words).answer ≡ Ok (Some e)
      → IsLowest (node_in K (ran K levels rs ws).words 0).places (low (node_in K (ran K levels rs ws).words 0).places) e
  lower-tag zero sh r e q = absurd (not-suc-le-zero sh.some)
  lower-tag (suc k) sh r e q = kept-lowest K k (ran K (suc k) rs ws) (ran-kept k sh) r e q

  -- POP-THEN-PUSH: "a replace is a pop and then a push" (02 [4]), by cycles, in the middle of any work
  pub pop-then-push : (levels : ℕ) → Shape K levels (length ws) → (e : Element) → (Untagged (Replace e) → ⊥)
      → PopThenPush (λ r x. outcome (cycle_queue K levels r x).said (cycle_queue K levels r x).next) (remaining K levels) e (ran K levels rs ws)
  pop-then-push zero sh e tag = absurd (not-suc-le-zero sh.some)
  pop-then-push (suc k) sh e tag = kept-replaces K k (ran K (suc k) rs ws) (ran-kept k sh) e tag

  -- TAGGED: no element of tag 0 is held, and none has come out
  pub tagged : (levels : ℕ) → Shape K levels (length ws) → Tagged (remaining K levels (ran K levels rs ws)) rs (cycle_answers K levels rs ws)
  tagged levels sh = tagged-by (cycle_queue K levels) (λ r x. barred K levels r x.records x.words) (remaining K levels (ran K levels rs ws)) rs _ (holds levels sh)

  -- HELD: from the root alone, exact in the middle of any work: how many went in and have not come out
  pub held-now : (levels : ℕ) → Shape K levels (length ws)
      → (count_number (clock_held K levels (ran K levels rs ws).words) ≡ 0) × (count_of (clock_held K levels (ran K levels rs ws).words) ≡ remaining K levels (ran K levels rs ws) always)
  held-now zero sh = absurd (not-suc-le-zero sh.some)
  held-now (suc k) sh =
      let x : Machine = ran K (suc k) rs ws in
      let kept = ran-kept k sh in
      let e = held-fine K (suc k) x.words kept.shape (kept-root K k x kept) in
      (ap count_number e, ap count_of e ∙ kept-held K k x kept ∙ kept-remains K k x kept always)

  -- AT REST: after levels less one idle cycles nothing is pending, and with nothing pending the store keeps the rules of [2] and holds all that is held
  pub rests : (levels : ℕ) → Shape K levels (length ws) → AtRest K levels (idles K levels (pred levels) (ran K levels rs ws))
  rests zero sh = absurd (not-suc-le-zero sh.some)
  rests (suc k) sh = idles-rest K k (ran K (suc k) rs ws) (ran-kept k sh)

  pub rested-sound : (levels : ℕ) → Shape K levels (length ws) → (n : ℕ) → AtRest K levels (idles K levels n (ran K levels rs ws)) → Sound K levels (heap_in K levels (idles K levels n (ran K levels rs ws)).words 0)
  rested-sound zero sh n e = absurd (not-suc-le-zero sh.some)
  rested-sound (suc k) sh n e = rest-sound K k (idles K (suc k) n (ran K (suc k) rs ws)) (idles-kept K k n _ (ran-kept k sh)) e

  pub rested-holds : (levels : ℕ) → Shape K levels (length ws) → (n : ℕ) → AtRest K levels (idles K levels n (ran K levels rs ws)) → Holds (stored_count K levels (idles K levels n (ran K levels rs ws)).words) rs (cycle_answers K levels rs ws)
  rested-holds zero sh n e f = absurd (not-suc-le-zero sh.some)
  rested-holds (suc k) sh n e f =
      let x : Machine = ran K (suc k) rs ws in
      omega (arith, holds (suc k) sh f, rest-remains K k (idles K (suc k) n x) (idles-kept K k n x (ran-kept k sh)) e f, clocks.idles-sum (is-clock K k) (bag K k) n x (ran-kept k sh) f)

-- ---- DRAINED: after any list of cycles a drain with a budget of levels - 1 or more is not refused, runs at most levels - 1 cycles, leaves no work, and leaves a
-- store that keeps the rules of [2] and holds exactly what was accepted and not answered out
module _ (K : ℕ) (ws : List ℕ) (rs : List Request) (budget : ℕ) where
  -- the clock's own drain
  abbrev by-clock : ℕ → Drained Machine
  by-clock levels = drained_by (clock K levels) (cycle_queue K levels) budget (ran K levels rs ws)

  -- .. is done, within levels - 1 cycles, and leaves no work
  comes-to : (levels : ℕ) → Shape K levels (length ws) → pred levels ≤ budget
      → (number_of (by-clock levels).answer ≡ 0) × ((by-clock levels).cycles ≤ pred levels) × ((by-clock levels).left ≡ false) × AtRest K levels (idles K levels (by-clock levels).cycles (ran K levels rs ws))
  comes-to zero sh enough = absurd (not-suc-le-zero sh.some)
  comes-to (suc k) sh enough =
      let kept = ran-kept K ws rs k sh in (
        clocks.drained-fine (is-clock K k) k (idles-rest K k) (ran K (suc k) rs ws) kept budget enough,
        clocks.drained-few (is-clock K k) k (idles-rest K k) (ran K (suc k) rs ws) kept budget enough,
        clocks.drained-left (is-clock K k) k (idles-rest K k) (ran K (suc k) rs ws) kept budget enough,
        clocks.drained-rest (is-clock K k) k (idles-rest K k) (ran K (suc k) rs ws) kept budget enough,
      )

module _ (K : ℕ) (ws : List ℕ) (rs : List Request) (levels : ℕ) (sh : Shape K levels (length ws)) (budget : ℕ) (enough : pred levels ≤ budget) where
  abbrev x : Machine
  x = ran K levels rs ws

  abbrev d : DrainOutcome
  d = drains K levels budget x.records x.words

  pub drained-fine : number_of d.answer ≡ 0
  drained-fine = rw (drains-as K levels budget x.records x.words) (comes-to K ws rs budget levels sh enough).0

  pub drained-few : d.cycles ≤ pred levels
  drained-few = rw (drains-as K levels budget x.records x.words) (comes-to K ws rs budget levels sh enough).1

  pub drained-left : d.left ≡ false
  drained-left = rw (drains-as K levels budget x.records x.words) (comes-to K ws rs budget levels sh enough).2

  at_rest : AtRest K levels (idles K levels d.cycles x)
  at_rest = rw (drains-as K levels budget x.records x.words) (comes-to K ws rs budget levels sh enough).3

  pub drained-sound : Sound K levels (heap_in K levels d.words 0)
  drained-sound = rw (drain-state K levels budget x.records x.words).0 (rested-sound K ws rs levels sh d.cycles at_rest)

  pub drained-holds : Holds (stored_count K levels d.words) rs (cycle_answers K levels rs ws)
  drained-holds f = rw (drain-state K levels budget x.records x.words).0 (rested-holds K ws rs levels sh d.cycles at_rest f)
