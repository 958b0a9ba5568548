-- A drain of any machine: idle cycles until nothing is pending or the budget is spent. A machine is a queue and what is pending in its state.
use Rattle.std.specs.Prelude.{◌<◌, ◌≡◌, ◌≤◌}
use Rattle.laws.specs.Prelude.{Answer, BadPort, BadRank, BadShape, Bool, Damaged, Empty, Full, Idle, Ladder, NoHeap, NoTag, Refusal, Request, TooSoon, cond, false, fine, is_refused, leb, not, replicate, rung, stop, suc, true, zero, ℕ, Ok, None, Err}
use Rattle.promise.specs.Queue.{leaves, Step}

-- a number capped by the budget
abbrev pub capped : ℕ → ℕ → ℕ
capped budget n = cond (leb n budget) n budget

abbrev pub is_bad_shape : Refusal → Bool
is_bad_shape BadShape = true
is_bad_shape Damaged = false
is_bad_shape TooSoon = false
is_bad_shape BadRank = false
is_bad_shape Full = false
is_bad_shape Empty = false
is_bad_shape NoTag = false
is_bad_shape BadPort = false
is_bad_shape NoHeap = false

-- what a drain reports, and the state that it leaves
pub record Drained (S : Type 0) : Type 0 where
  pub answer : Answer
  pub cycles : ℕ
  pub left : Bool
  pub state : S

abbrev pub drained : {S : Type 0} → Answer → ℕ → Bool → S → Drained S
drained a n l s = record { answer = a; cycles = n; left = l; state = s }

-- so many idle cycles
abbrev pub idled : {S : Type 0} → (Request → S → Step Answer S) → ℕ → S → S
idled queue n s = leaves queue (replicate n Idle) s

module _ {S : Type 0} (queue : Request → S → Step Answer S) (pending : S → Bool) where
  unfoldable pub drain_by : ℕ → ℕ → S → Drained S
  drain_by zero n s = drained (Ok None) n (pending s) s
  drain_by (suc b) n s =
      let o = queue Idle s in
      cond (pending s) (cond (is_refused o.said) (drained o.said n true o.next) (drain_by b (suc n) o.next)) (drained (Ok None) n false s)

  -- .. with a shape to be tested first: "at 1 it reports 0 and no work left"
  abbrev pub drains_by : Bool → ℕ → S → Drained S
  drains_by shaped b s = cond shaped (drain_by b 0 s) (drained (Err BadShape) 0 false s)

  module _ (Jam : S → Type 0) where
    -- so many idle cycles run within the budget, with work pending all along, and the next meets damage
    pub record Stuck (b n : ℕ) (s : S) : Type 0 where
      pub within : n < b
      pub waits : (j : ℕ) → j ≤ n → pending (idled queue j s) ≡ true
      pub damage : Jam (idled queue n s)

    -- how a drain with the budget b ends after so many idle cycles: done, with nothing pending or the budget spent; or stuck
    pub data Close (b more : ℕ) (s : S) (d : Drained S) : Type 0 where
      done : d.answer ≡ Ok None → (d.left ≡ true → more ≡ b) → Close b more s d
      stopped : d.answer ≡ Err Damaged → d.left ≡ true → Stuck b more s → Close b more s d

    -- the table, and what a refused drain that ran so many cycles leaves: "Drain stops at 2 and reports the cycles already run, work left; at 1 it reports 0
    -- and no work left"
    abbrev pub drain_refusals : (S → Type 0) → ℕ → S → Ladder Refusal
    drain_refusals Shape b s = rung BadShape (Shape s) (stop Damaged ((n : ℕ) × Stuck b n s) fine)

abbrev pub behind : {S : Type 0} → (Request → S → Step Answer S) → ℕ → S → Refusal → Drained S
behind queue cycles s n = let ran = cond (is_bad_shape n) 0 cycles in drained (Err n) ran (not (is_bad_shape n)) (idled queue ran s)
