-- A call on what was read of a lent slice: each test and what follows it leave what the definitions say.
use Rattle.laws.specs.Prelude.{Answer, BadShape, Bool, List, Request, ◌&&◌, ◌-◌, ◌∙◌, ◌≡◌, ap, cond, false, ltb, not, not-false, not-true, refl, sym, true, ℕ, Err}
use Rattle.tree_clock_model.specs.Prelude.{CycleOutcome, DrainOutcome, clocked_cleared, cycle_outcome, cycled, drain_outcome, drains, fresh, has_run}
use Rattle.tree_clock_model.specs.declared.State.{State}
use Rattle.tree_records.specs.Steps.{clear_from, cycle_from, drain_from, lends, state_of, ended, ended_cycle, ended_drain, unread}
use Rattle.tree_records.specs.declared.Read.{Read}
use Rattle.tree_records.specs.declared.Ended.{Ended}

-- what is left of an outcome, by its parts
cycle-parts : (levels : ℕ) (o : CycleOutcome) (a : Answer) (after : List ℕ) (s : State) → cycle_outcome a after s ≡ o → (ran : Bool) → ran ≡ has_run a → (n : ℕ) → n ≡ cond ran (levels - 1) 0
    → (x : Ended) → x ≡ ended a 0 false s n → (after ≡ o.words) × (x ≡ ended_cycle levels o)
cycle-parts levels o a after s p ran q n f x e = (
  ap (λ (o : CycleOutcome). o.words) p,
  e ∙ ap (ended a 0 false s) f ∙ ap (λ (b : Bool). ended a 0 false s (cond b (levels - 1) 0)) q ∙ ap (ended_cycle levels) p,
)

drain-parts : (levels : ℕ) (o : DrainOutcome) (a : Answer) (k : ℕ) (left : Bool) (after : List ℕ) (s : State) → drain_outcome a k left after s ≡ o → (n : ℕ) → n ≡ cond (ltb 0 k) (levels - 1) 0
    → (x : Ended) → x ≡ ended a k left s n → (after ≡ o.words) × (x ≡ ended_drain levels o)
drain-parts levels o a k left after s p n f x e = (
  ap (λ (o : DrainOutcome). o.words) p,
  e ∙ ap (ended a k left s) f ∙ ap (ended_drain levels) p,
)

-- a cleared machine with this mark
pub unread-is : (mark : Bool) (u : State) → u ≡ fresh → record { records = u.records; mark = mark } ≡ unread mark
unread-is mark u e = λ i. record { records = (e i).records; mark = mark }

module _ (m levels len : ℕ) (mark : Bool) (ws : List ℕ) (t : Bool) (tested : t ≡ lends levels len) where
  module _ (d : Read) where
    both : (lends levels len && d.ok) ≡ (t && d.ok)
    both = ap (λ (b : Bool). b && d.ok) (sym tested)

    module _ (e : not (t && d.ok) ≡ true) (x : Ended) (p : x ≡ ended (Err BadShape) 0 false (state_of d mark) 0) where
      pub cycle-unread : (r : Request) → (ws ≡ (cycle_from m levels len mark ws d r).words) × (x ≡ ended_cycle levels (cycle_from m levels len mark ws d r))
      unfolding cycle_from
      cycle-unread r = rw (both ∙ not-true (t && d.ok) e) (refl, p)

      pub drain-unread : (budget : ℕ) → (ws ≡ (drain_from m levels len mark ws d budget).words) × (x ≡ ended_drain levels (drain_from m levels len mark ws d budget))
      unfolding drain_from
      drain-unread budget = rw (both ∙ not-true (t && d.ok) e) (refl, p)

    module _ (e : not (t && d.ok) ≡ false) where
      pub cycle-ended : (r : Request) (a : Answer) (after : List ℕ) (s : State) → cycle_outcome a after s ≡ cycled m levels r (state_of d mark) ws
          → (ran : Bool) → ran ≡ has_run a → (n : ℕ) → n ≡ cond ran (levels - 1) 0 → (x : Ended) → x ≡ ended a 0 false s n
          → (after ≡ (cycle_from m levels len mark ws d r).words) × (x ≡ ended_cycle levels (cycle_from m levels len mark ws d r))
      unfolding cycle_from
      cycle-ended r a after s p ran q n f x g = rw (both ∙ not-false (t && d.ok) e) (cycle-parts levels (cycled m levels r (state_of d mark) ws) a after s p ran q n f x g)

      pub drain-ended : (budget : ℕ) (a : Answer) (k : ℕ) (left : Bool) (after : List ℕ) (s : State) → drain_outcome a k left after s ≡ drains m levels budget (state_of d mark) ws
          → (n : ℕ) → n ≡ cond (ltb 0 k) (levels - 1) 0 → (x : Ended) → x ≡ ended a k left s n
          → (after ≡ (drain_from m levels len mark ws d budget).words) × (x ≡ ended_drain levels (drain_from m levels len mark ws d budget))
      unfolding drain_from
      drain-ended budget a k left after s p n f x g = rw (both ∙ not-false (t && d.ok) e) (drain-parts levels (drains m levels budget (state_of d mark) ws) a k left after s p n f x g)

  -- a clear
  module _ (u : State) (is : u ≡ unread mark) where
    pub clear-unread : not t ≡ true → (x : Ended) → x ≡ ended (Err BadShape) 0 false u 0
        → (ws ≡ (clear_from m levels len mark ws).words) × (x ≡ ended_cycle levels (clear_from m levels len mark ws))
    unfolding clear_from
    clear-unread e x p = rw (sym tested ∙ not-true t e) (refl, p ∙ ap (λ (u : State). ended (Err BadShape) 0 false u 0) is)

    pub clear-ended : not t ≡ false → (a : Answer) (after : List ℕ) (s : State) → cycle_outcome a after s ≡ clocked_cleared m levels u ws
        → (ran : Bool) → ran ≡ has_run a → (n : ℕ) → n ≡ cond ran (levels - 1) 0 → (x : Ended) → x ≡ ended a 0 false s n
        → (after ≡ (clear_from m levels len mark ws).words) × (x ≡ ended_cycle levels (clear_from m levels len mark ws))
    unfolding clear_from
    clear-ended e a after s p ran q n f x g =
        rw (sym tested ∙ not-false t e)
        (cycle-parts levels (clocked_cleared m levels (unread mark) ws) a after s (p ∙ ap (λ (u : State). clocked_cleared m levels u ws) is) ran q n f x g)
