-- `packed_way::climb` meets its contract.
use Rattle.laws.specs.Prelude.{◌∙◌, arith, refl, subst, sym}
use Rattle.packed_way.proofs.Walked.{Climb, climb-end, climb-on, climb-top}
use Rattle.packed_way.proofs.climb.Goals as goal

pub loop-m-init : goal.loop-m-init
loop-m-init c = (omega arith, refl, λ left h is e. climb-end _ _ _ _ _ _ e)

pub loop-m-preserved : goal.loop-m-preserved
loop-m-preserved c = (omega (arith, c.loop-m.invariant.0), c.set_slot.auto.s ∙ c.loop-m.invariant.1, λ left h is e. subst (Climb c.args.heaps left c.args.x h c.args.s.now _ _) (sym c.set_slot.ensures) (climb-on _ _ _ _ _ is _ _ _ (c.loop-m.invariant.2 left h is e) c.loop-m-test.true _ c.slot-e.ensures))

pub returns : goal.returns
returns c = λ left h is e. climb-top _ _ _ _ _ is _ _ _ _ (c.loop-m.invariant.2 left h is e) (omega arith) c.set_slot-2.ensures
