-- "Nothing lost in flight" (02 [14]), in the middle of any work: what stands in the slots, what pending work carries, and what it will still take out of a
-- slot. "As often" goes by how many pass a test, for every test on elements.
use Rattle.std.specs.Prelude.{◌+◌, ◌-◌, ◌≤◌}
use Rattle.laws.specs.Prelude.{Answer, Bool, Element, List, Request, [], get_or, suc, sum_to, ℕ}
use Rattle.tree_clock_model.specs.Calls.{drains, from_two}
use Rattle.tree_clock_model.specs.Promise.{cleared_machine, clocked_queue, level_now, Machine, machine}
use Rattle.tree_clock_model.specs.Records.{record_at}
use Rattle.promise.specs.Prelude.{Holds, Step, answers, cycle, drain, hit, leaves, step}
pub use Rattle.promise.specs.Clock.{asked, SoleCall as Call}
use Rattle.tree_model.specs.Prelude.{low, room, stored_count}
use Rattle.tree_model.specs.declared.Op.{Op}
use Rattle.tree_model.specs.declared.Op.TheVariants.{Nothing, Put, Swap, Take}
use Rattle.tree_model.specs.declared.Slot.{Slot}

-- ---- one pending operation, at its node
-- "those carried by pending puts and swaps"
abbrev pub carries : Op → (Element → Bool) → ℕ
carries Nothing f = 0
carries (Put x) f = hit (f x)
carries Take f = 0
carries (Swap x) f = hit (f x)

-- "for each pending take or swap strike out the element that its node would give next": the lowest of the node as it stands
abbrev pub strikes : Op → List Slot → (Element → Bool) → ℕ
strikes Nothing nd f = 0
strikes (Put x) nd f = 0
strikes Take nd f = hit (f (low nd))
strikes (Swap x) nd f = hit (f (low nd))

-- ---- a machine, its words and its records
module _ (m levels : ℕ) where
  -- the node that record i names. The topmost level is 0, record i belongs to level i + 1
  abbrev pub named_by : Machine → ℕ → List Slot
  named_by x i = get_or (level_now m levels x.words (suc i)) (record_at x.state.records i).node []

  -- "take the elements in all slots"
  abbrev pub in_slots : Machine → (Element → Bool) → ℕ
  in_slots x f = stored_count (room m levels) x.words f

  -- "add those carried by pending puts and swaps"
  unfoldable pub carried : Machine → (Element → Bool) → ℕ
  carried x f = sum_to (from_two levels) (λ i. carries (record_at x.state.records i).op f)

  -- "and for each pending take or swap strike out the element that its node would give next"
  unfoldable pub struck : Machine → (Element → Bool) → ℕ
  struck x f = sum_to (from_two levels) (λ i. strikes (record_at x.state.records i).op (named_by x i) f)

  -- "What remains"
  abbrev pub remaining : Machine → (Element → Bool) → ℕ
  remaining x f = in_slots x f + carried x f - struck x f

  -- NOTHING LOST: "What remains is, each as often, what was accepted less what was answered out"
  pub record NothingLost (x : Machine) (rs : List Request) (said : List Answer) : Type 0 where
    -- what is struck out stands in the slots, so that the difference is one
    pub there : (f : Element → Bool) → struck x f ≤ in_slots x f
    pub remains : Holds (remaining x) rs said

-- ---- the calls between two clearings: a cycle with any request, a drain with any budget
module _ (m levels : ℕ) where
  abbrev pub machine_queue : Call → Machine → Step Answer Machine
  machine_queue (cycle r) x = clocked_queue m levels r x
  machine_queue (drain b) x =
      let d = drains m levels b x.state x.words in
      step d.answer (machine d.state d.words)

  -- any list of them from the cleared machine: what is left, and what it is answered
  abbrev pub ran_calls : List Call → List ℕ → Machine
  ran_calls cs ws = leaves machine_queue cs (cleared_machine m levels ws)

  abbrev pub call_answers : List Call → List ℕ → List Answer
  call_answers cs ws = answers machine_queue cs (cleared_machine m levels ws)
