-- The calls: the shape that is tested is the definition's, and behind it stand the steps.
use Rattle.laws.specs.Prelude.{Answer, BadShape, Bool, Damaged, List, Request, ◌-◌, ◌∙◌, ◌≡◌, ap, ap₂, arith, false, length, not, not-true, pred, refl, suc, sym, true, zero, ℕ, Ok, Err}
use Rattle.cluster.proofs.Shapes.{shape-here, shape-true}
use Rattle.cluster_clock_model.proofs.Laws.{cycled-bad}
use Rattle.cluster_clock_model.specs.Prelude.{CycleOutcome, DrainOutcome, clock_cleared, clock_held, cycle_outcome, cycled, drain_outcome, drains, fresh, sane_at}
use Rattle.cluster_clock_model.specs.declared.Stage.{Stage}
use Rattle.cluster_model.specs.Prelude.{Outcome, cleared, outcome, room, shape_ok}
use Rattle.cluster_clock_level.proofs.Cycles.{shape-root}
use Rattle.cluster_clock_level.specs.Turn.{Read, RootIn}
use Rattle.cluster_clock_level.specs.declared.shaped.Root.{Root}

module _ (K levels : ℕ) (ws : List ℕ) (t : Bool) (shaped : t ≡ shape_ok K levels (length ws)) where
  -- a bad shape
  module _ (no : not t ≡ true) where
    off : shape_ok K levels (length ws) ≡ false
    off = sym shaped ∙ not-true t no

    module _ (a : Answer) (rs rs' : List Stage) (p : (a ≡ Err BadShape) × (rs' ≡ rs)) where
      pub bad-cycle : (r : Request) → cycle_outcome a ws rs' ≡ cycled K levels r rs ws
      bad-cycle r = (λ i. cycle_outcome (p.0 i) ws (p.1 i)) ∙ sym (cycled-bad K levels r rs ws off)

      pub bad-clear : cycle_outcome a ws rs' ≡ clock_cleared K levels rs ws
      unfolding clock_cleared
      bad-clear = (λ i. cycle_outcome (p.0 i) ws (p.1 i)) ∙ rw off refl

    pub bad-held : Err BadShape ≡ clock_held K levels ws
    unfolding clock_held
    bad-held = rw off refl

    pub bad-drain : (budget : ℕ) (a : Answer) (n : ℕ) (l : Bool) (rs rs' : List Stage) → (a ≡ Err BadShape) × (n ≡ 0) × (l ≡ false) × (rs' ≡ rs) → drain_outcome a n l ws rs' ≡ drains K levels budget rs ws
    unfolding drains
    bad-drain budget a n l rs rs' p = (λ i. record { answer = p.0 i; cycles = p.1 i; left = p.2 i; words = ws; records = p.3 i }) ∙ rw off refl

  -- a shape that passes
  module _ (yes' : not t ≡ false) where
    on : shape_ok K levels (length ws) ≡ true
    on = shape-true K levels ws t shaped yes'

    back : suc (levels - 1) ≡ levels
    back = omega (arith, (shape-here K levels ws t shaped yes').some)

    pub good-shape : shape_ok K (suc (levels - 1)) (length ws) ≡ true
    good-shape = ap (λ (l : ℕ). shape_ok K l (length ws)) back ∙ on

    pub good-cycle : (r : Request) (rs : List Stage) (o : CycleOutcome) → o ≡ cycled K (suc (levels - 1)) r rs ws → o ≡ cycled K levels r rs ws
    good-cycle r rs o p = p ∙ ap (λ (l : ℕ). cycled K l r rs ws) back

    pub good-drain : (budget : ℕ) (rs : List Stage) (o : DrainOutcome) → o ≡ drains K (suc (levels - 1)) budget rs ws → o ≡ drains K levels budget rs ws
    good-drain budget rs o p = p ∙ ap (λ (l : ℕ). drains K l budget rs ws) back

    pub good-clear : (rs rs' : List Stage) (a : Answer) (ws' : List ℕ) → outcome a ws' ≡ cleared K levels ws → rs' ≡ fresh → cycle_outcome a ws' rs' ≡ clock_cleared K levels rs ws
    unfolding clock_cleared cleared
    good-clear rs rs' a ws' p e =
        ap₂ (λ (o : Outcome) (u : List Stage). cycle_outcome o.answer o.words u) p e ∙ rw on refl

    module _ (top : ℕ) (room-is : top ≡ room K (levels - 1)) where
      pub good-root : RootIn K top ws
      good-root = shape-root K (levels - 1) top ws good-shape room-is

      less : pred levels ≡ levels - 1
      less = go levels
        where
          go : (n : ℕ) → pred n ≡ n - 1
          go zero = omega arith
          go (suc n) = omega arith

      limit_is : room K (pred levels) ≡ top
      limit_is = ap (room K) less ∙ sym room-is

      pub held-damaged : sane_at K top ws 0 ≡ false → Err Damaged ≡ clock_held K levels ws
      unfolding clock_held
      held-damaged bad = rw (on, limit_is, bad) refl

      pub held-fine : (o : Root) → Read K top ws o → Ok o.held ≡ clock_held K levels ws
      unfolding clock_held
      held-fine o read = rw (on, limit_is, read.ok) (ap Ok read.held)
