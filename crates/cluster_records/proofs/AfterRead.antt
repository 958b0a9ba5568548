-- A call on what was read of a lent slice: each test and what follows it leave what the definitions say.
use Rattle.laws.specs.Prelude.{Answer, BadShape, Bool, List, Request, ◌&&◌, ◌-◌, ◌∙◌, ◌≡◌, ap, cond, false, has_run, ltb, not, not-false, not-true, refl, sym, true, ℕ, Err}
use Rattle.cluster_clock_model.specs.Prelude.{CycleOutcome, DrainOutcome, clock_cleared, cycle_outcome, cycled, drain_outcome, drains, fresh}
use Rattle.cluster_clock_model.specs.declared.Stage.{Stage}
use Rattle.cluster_records.specs.Steps.{clear_from, cycle_from, drains_from, lends, ended_by, ended_cycle, ended_drain}
use Rattle.cluster_records.specs.declared.ClusterRead.{ClusterRead}
use Rattle.cluster_records.specs.declared.ClusterEnded.{ClusterEnded}

-- what is left of an outcome, by its parts
cycle-parts : (levels : ℕ) (o : CycleOutcome) (a : Answer) (after : List ℕ) (s : List Stage) → cycle_outcome a after s ≡ o → (ran : Bool) → ran ≡ has_run a → (n : ℕ) → n ≡ cond ran (levels - 1) 0
    → (x : ClusterEnded) → x ≡ ended_by a 0 false s n → (after ≡ o.words) × (x ≡ ended_cycle levels o)
cycle-parts levels o a after s p ran q n f x e = (
  ap (λ (o : CycleOutcome). o.words) p,
  e ∙ ap (ended_by a 0 false s) f ∙ ap (λ (b : Bool). ended_by a 0 false s (cond b (levels - 1) 0)) q ∙ ap (ended_cycle levels) p,
)

drain-parts : (levels : ℕ) (o : DrainOutcome) (a : Answer) (k : ℕ) (left : Bool) (after : List ℕ) (s : List Stage) → drain_outcome a k left after s ≡ o → (n : ℕ) → n ≡ cond (ltb 0 k) (levels - 1) 0
    → (x : ClusterEnded) → x ≡ ended_by a k left s n → (after ≡ o.words) × (x ≡ ended_drain levels o)
drain-parts levels o a k left after s p n f x e = (
  ap (λ (o : DrainOutcome). o.words) p,
  e ∙ ap (ended_by a k left s) f ∙ ap (ended_drain levels) p,
)

module _ (K levels len : ℕ) (ws : List ℕ) (t : Bool) (tested : t ≡ lends levels len) where
  module _ (d : ClusterRead) where
    both : (lends levels len && d.ok) ≡ (t && d.ok)
    both = ap (λ (b : Bool). b && d.ok) (sym tested)

    module _ (e : not (t && d.ok) ≡ true) (x : ClusterEnded) (p : x ≡ ended_by (Err BadShape) 0 false d.stages 0) where
      pub cycle-unread : (r : Request) → (ws ≡ (cycle_from K levels len ws d r).words) × (x ≡ ended_cycle levels (cycle_from K levels len ws d r))
      unfolding cycle_from
      cycle-unread r = rw (both ∙ not-true (t && d.ok) e) (refl, p)

      pub drain-unread : (budget : ℕ) → (ws ≡ (drains_from K levels len ws d budget).words) × (x ≡ ended_drain levels (drains_from K levels len ws d budget))
      unfolding drains_from
      drain-unread budget = rw (both ∙ not-true (t && d.ok) e) (refl, p)

    module _ (e : not (t && d.ok) ≡ false) where
      pub cycle-cycled : (r : Request) (a : Answer) (after : List ℕ) (s : List Stage) → cycle_outcome a after s ≡ cycled K levels r d.stages ws
          → (ran : Bool) → ran ≡ has_run a → (n : ℕ) → n ≡ cond ran (levels - 1) 0 → (x : ClusterEnded) → x ≡ ended_by a 0 false s n
          → (after ≡ (cycle_from K levels len ws d r).words) × (x ≡ ended_cycle levels (cycle_from K levels len ws d r))
      unfolding cycle_from
      cycle-cycled r a after s p ran q n f x g = rw (both ∙ not-false (t && d.ok) e) (cycle-parts levels (cycled K levels r d.stages ws) a after s p ran q n f x g)

      pub drain-cycled : (budget : ℕ) (a : Answer) (k : ℕ) (left : Bool) (after : List ℕ) (s : List Stage) → drain_outcome a k left after s ≡ drains K levels budget d.stages ws
          → (n : ℕ) → n ≡ cond (ltb 0 k) (levels - 1) 0 → (x : ClusterEnded) → x ≡ ended_by a k left s n
          → (after ≡ (drains_from K levels len ws d budget).words) × (x ≡ ended_drain levels (drains_from K levels len ws d budget))
      unfolding drains_from
      drain-cycled budget a k left after s p n f x g = rw (both ∙ not-false (t && d.ok) e) (drain-parts levels (drains K levels budget d.stages ws) a k left after s p n f x g)

  -- a clear
  module _ (u : List Stage) (is : u ≡ fresh) where
    pub clear-unread : not t ≡ true → (x : ClusterEnded) → x ≡ ended_by (Err BadShape) 0 false u 0
        → (ws ≡ (clear_from K levels len ws).words) × (x ≡ ended_cycle levels (clear_from K levels len ws))
    unfolding clear_from
    clear-unread e x p = rw (sym tested ∙ not-true t e) (refl, p ∙ ap (λ (u : List Stage). ended_by (Err BadShape) 0 false u 0) is)

    pub clear-cycled : not t ≡ false → (a : Answer) (after : List ℕ) (s : List Stage) → cycle_outcome a after s ≡ clock_cleared K levels u ws
        → (ran : Bool) → ran ≡ has_run a → (n : ℕ) → n ≡ cond ran (levels - 1) 0 → (x : ClusterEnded) → x ≡ ended_by a 0 false s n
        → (after ≡ (clear_from K levels len ws).words) × (x ≡ ended_cycle levels (clear_from K levels len ws))
    unfolding clear_from
    clear-cycled e a after s p ran q n f x g =
        rw (sym tested ∙ not-false t e)
        (cycle-parts levels (clock_cleared K levels fresh ws) a after s (p ∙ ap (λ (u : List Stage). clock_cleared K levels u ws) is) ran q n f x g)
