-- "from a cleared machine, for any list of cycles, refusals and ranks are those of the plain list in rank order" (02 [5]), as are those of one operation at a time
-- (`Refusals.antt`), so that the two cluster heaps of one shape answer the same numbers and ranks, call by call. Any K and levels.
use Rattle.laws.specs.Prelude.{Answer, Bool, Element, List, Pop, Replace, Request, [], ◌∙◌, ◌≡◌, ap, length, map, not-suc-le-zero, number_of, suc, sym, zero, ℕ}
use Rattle.agreement.proofs.Agreement.{heap_said}
use Rattle.agreement.proofs.Refusals.{heap-plainly}
use Rattle.agreement.proofs.Ruled.{ruled-number}
use Rattle.agreement.proofs.Ranks.{ranks-plainly, whole-empty}
use Rattle.agreement.specs.Plain.{number_for, number_rank, plainly}
use Rattle.cluster_clock_model.proofs.Exactly as clock-exactly
use Rattle.cluster_clock_model.proofs.Kept as clock-kept
use Rattle.cluster_clock_model.proofs.Promises as clock
use Rattle.cluster_clock_model.proofs.Rest as clock-rest
use Rattle.cluster_clock_model.specs.Promise as clock-says
use Rattle.cluster_clock_model.specs.Prelude.{Machine}
use Rattle.cluster_model.specs.Prelude.{Shape, held_in, low_elem, node_in, op_of, room, rule}
use Rattle.promise.specs.Prelude.{Least, always, answers}

-- ---- by cycles
module _ (K k : ℕ) where
  abbrev held : Machine → (Element → Bool) → ℕ
  held x = clock-says.remaining K (suc k) x

  clock-least : (r : Request) (x : Machine) → clock-kept.Kept K k x → Least (held x) r (clock-says.cycle_queue K (suc k) r x).said
  clock-least r x kept = clock.kept_gives K k x kept r

  clock-number : (r : Request) (x : Machine) → clock-kept.Kept K k x → number_of (clock-says.cycle_queue K (suc k) r x).said ≡ number_for (room K (suc k)) r (held x always)
  unfolding rule
  clock-number r x kept =
      ap number_of (clock-kept.kept-answer K k x kept r) ∙ ruled-number op_of (room K (suc k)) r (held_in K (suc k) x.words) (low_elem (node_in K x.words 0).places)
      ∙ ap (number_for (room K (suc k)) r) (clock-kept.kept-held K k x kept ∙ clock.kept-remains K k x kept always)

  clock-pop : (y : Element) (x : Machine) → clock-kept.Kept K k x → number_of (clock-says.cycle_queue K (suc k) (Replace y) x).said ≡ 0
      → (clock-says.cycle_queue K (suc k) (Replace y) x).said ≡ (clock-says.cycle_queue K (suc k) Pop x).said
  clock-pop y x kept e = (clock.kept-replaces K k x kept y (λ u. clock-exactly.barred K (suc k) (Replace y) x.records x.words u e)).answer

module _ (rs : List Request) where
  -- what the clocked heap answers from a cleared machine
  abbrev pub clock_said : ℕ → ℕ → List ℕ → List Answer
  clock_said K levels ws = clock-says.cycle_answers K levels rs ws

  -- CLOCK-PLAIN: refusals and ranks are those of the plain list in rank order
  pub clock-plain : (K levels : ℕ) (ws : List ℕ) → Shape K levels (length ws) → map number_rank (clock_said K levels ws) ≡ answers (plainly (room K levels)) rs []
  clock-plain K zero ws sh = absurd (not-suc-le-zero sh.some)
  clock-plain K (suc k) ws sh =
      ranks-plainly (clock-says.cycle_queue K (suc k)) (clock-kept.Kept K k) (clock.next-kept K k) (clock-says.remaining K (suc k)) (clock.cycle-sum K k) (clock-least K k) (clock-pop K k)
      (λ r x. clock-exactly.kind K (suc k) r x.records x.words) (room K (suc k)) (clock-number K k) rs (clock-says.cleared_machine K (suc k) ws) [] (clock-rest.start-flying K k ws sh)
      (whole-empty _ _ _ _ _ _ _ _ _ _ _ (clock.start-remains K k ws sh))

  -- CLOCK-AGREES: cycle by cycle the clocked heap answers the numbers and ranks of one operation at a time
  pub clock-agrees : (K levels : ℕ) (ws vs : List ℕ) → Shape K levels (length ws) → Shape K levels (length vs) → map number_rank (clock_said K levels ws) ≡ map number_rank (heap_said rs K levels vs)
  clock-agrees K levels ws vs sh sh' = clock-plain K levels ws sh ∙ sym (heap-plainly rs K levels vs sh')
