-- All that is promised of a machine that works by clock cycles, as two records: of its cycles whatever stands in it (`CycleAnswers`), and from a cleared
-- machine over any list of cycles (`Running`), or of cycles and drains. A machine that shows `Ticks`, `IsClock` and `Bag` has both
-- (`promise/proofs/Ticked.antt`).
use Rattle.std.specs.Prelude.{◌≡◌, ◌≤◌, ◌⊎◌}
use Rattle.laws.specs.Prelude.{Bool, Element, Exactly, Idle, List, Request, count_number, false, map, number_of, ℕ, Err}
use Rattle.promise.specs.Calls.{left, Outcome}
use Rattle.promise.specs.Clock.{asking, Call, calls, cleared_to, Clock, count_refusals, cycled, cycle_left, cycle_refusals, cycling, drained_by, held_in, rested, sees, wipe_refusals}
use Rattle.promise.specs.Drains.{behind, Drained, drain_refusals}
use Rattle.promise.specs.Promised.{OneOf}
use Rattle.promise.specs.Queue.{answers, leaves}
use Rattle.promise.specs.Served.{Holds, Least}
use Rattle.promise.specs.Tagged.{Barred}

module _ {C M : Type 0} (k : Clock C M) where
  -- whatever stands in the machine
  pub record CycleAnswers : Type 0 where
    pub exactly : (c : C) (x : M) → Exactly (λ (o : Outcome M). number_of o.answer) (cycle_left k (cycling k) x) (cycled k c x) (cycle_refusals k c x)
    pub exactly-drain : (b : ℕ) (x : M) → let d = drained_by k (cycling k) b x in
        Exactly (λ (d : Drained M). number_of d.answer) (behind (asking k (cycling k)) d.cycles x) d (drain_refusals (asking k (cycling k)) k.pending (k.Torn (k.call Idle)) k.Shape b x)
    pub exactly-clear : (x : M) → Exactly (λ (o : Outcome M). number_of o.answer) (left x) (cleared_to k x) (wipe_refusals k x)
    pub exactly-held : (x : M) → Exactly count_number Err (held_in k x) (count_refusals k x)
    pub barred : (c : C) (x : M) → Barred (k.wants c) (cycled k c x).answer

  -- after a list of cycles
  abbrev pub ran : List C → M → M
  ran cs x = leaves (cycling k) cs x

  module _ (seen : C → Request) (stored : M → (Element → Bool) → ℕ) (most : ℕ) where
    -- from a machine x that holds nothing, as clear leaves it
    pub record Running (cs : List C) (x : M) : Type 0 where
      -- in the middle of any work it holds exactly what went in and has not come out
      pub holds : Holds (stored (ran cs x)) (map seen cs) (answers (cycling k) cs x)
      -- what comes out has the lowest rank held
      pub least : (c : C) → Least (stored (ran cs x)) (seen c) (cycled k c (ran cs x)).answer
      -- nothing is damaged, the shape is kept, and only the numbers of the later rungs are answered
      pub undamaged : (c : C) → k.Torn c (ran cs x) → ⊥
      pub shape : k.Shape (ran cs x)
      pub numbers : (c : C) → let n = number_of (cycled k c (ran cs x)).answer in (n ≡ 0) ⊎ OneOf (k.late c (ran cs x)) n
      -- so many idle cycles bring it to rest
      pub rests : k.pending (rested k (cycling k) most (ran cs x)) ≡ false
      -- a drain with that budget or more is not refused, runs no more, and leaves no work
      pub drains : (b : ℕ) → most ≤ b → let d = drained_by k (cycling k) b (ran cs x) in (number_of d.answer ≡ 0) × (d.cycles ≤ most) × (d.left ≡ false)

    -- cycles and drains mixed
    abbrev pub NothingLost : List (Call C) → M → Type 0
    NothingLost cs x = Holds (stored (leaves (calls k (cycling k)) cs x)) (map (sees seen) cs) (answers (calls k (cycling k)) cs x)
