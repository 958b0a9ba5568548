-- The public calls: each test of the shape and what follows it make the outcome that the definitions say.
use Rattle.laws.specs.Prelude.{Answer, BadShape, Bool, List, Request, ◌∙◌, ◌≡◌, ap, cond, false, length, not, not-false, not-true, refl, sym, true, ℕ, Ok, None, Err}
use Rattle.tree_clock_model.specs.Prelude.{CycleOutcome, cleared_machine, clocked_cleared, cycle_outcome, cycled, drain_outcome, drains, fresh}
use Rattle.tree_clock_model.specs.declared.State.{State}
use Rattle.tree_clock_level.proofs.Drains.{Report, reported}
use Rattle.tree_clock_level.proofs.Cycles.{outcome-path}
use Rattle.tree_model.specs.Prelude.{Outcome, cleared, outcome, room, shape_ok, wipe}

-- ---- the shape, as the code has tested it
module _ (m levels : ℕ) (ws : List ℕ) (t : Bool) (shaped : t ≡ shape_ok m levels (length ws)) where
  shape-no : not t ≡ true → shape_ok m levels (length ws) ≡ false
  shape-no e = sym shaped ∙ not-true t e

  pub shape-yes : not t ≡ false → shape_ok m levels (length ws) ≡ true
  shape-yes e = sym shaped ∙ not-false t e

  -- where it does not fit, everything stands
  module _ (s : State) (e : not t ≡ true) where
    pub cycle-shape : (r : Request) (a : Answer) (u : State) → (a ≡ Err BadShape) × (u ≡ s) → cycle_outcome a ws u ≡ cycled m levels r s ws
    unfolding cycled
    cycle-shape r a u p = rw (shape-no e) (outcome-path a (Err BadShape) ws u s p)

    pub clear-shape : (a : Answer) (u : State) → (a ≡ Err BadShape) × (u ≡ s) → cycle_outcome a ws u ≡ clocked_cleared m levels s ws
    unfolding clocked_cleared
    clear-shape a u p = rw (shape-no e) (outcome-path a (Err BadShape) ws u s p)

    pub drain-shape : (budget : ℕ) (a : Answer) (k : ℕ) (l : Bool) (u : State) → Report a k l u (Err BadShape) 0 false s → drain_outcome a k l ws u ≡ drains m levels budget s ws
    unfolding drains
    drain-shape budget a k l u p = rw (shape-no e) (reported a (Err BadShape) k 0 l false u s ws p)

-- a machine that was never used has no state to keep
pub clear-machine : (m levels : ℕ) (ws : List ℕ) (s : State) (o : CycleOutcome) → s ≡ fresh → o ≡ clocked_cleared m levels s ws → o ≡ cleared_machine m levels ws
unfolding cleared clocked_cleared
clear-machine m levels ws s o q e = e ∙ go (shape_ok m levels (length ws))
  where
    go : (b : Bool) → cond b (cycle_outcome (Ok None) (wipe (room m levels) ws) fresh) (cycle_outcome (Err BadShape) ws s)
        ≡ (let c = cond {A = Outcome} b (outcome (Ok None) (wipe (room m levels) ws)) (outcome (Err BadShape) ws) in cycle_outcome c.answer c.words fresh)
    go true = refl
    go false = ap (λ (s : State). cycle_outcome (Err BadShape) ws s) q
