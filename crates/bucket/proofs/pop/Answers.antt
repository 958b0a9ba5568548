-- `bucket::pop` meets its contract.
use Rattle.laws.specs.Prelude.{◌-◌, ◌∙◌, ap, arith, length, refl}
use Rattle.bucket_model.specs.Prelude.{popped}
use Rattle.bucket_model.proofs.Laws.{pop-bad}
use Rattle.bucket.proofs.Steps.{queue-placed}
use Rattle.bucket_step.proofs.Depths.{undeep, at-lay, none-gone, gone-here, gone-on, gone-all}
use Rattle.bucket.proofs.pop.Goals as goal
use Rattle.bucket.proofs.pop.Invariants.{call}
use Rattle.bucket.proofs.pop.Goals.{else-d-storeys, then-d-storeys}

-- what is done at the depth asked for
pub loop-d-init : goal.loop-d-init
loop-d-init c = (omega arith, omega arith, refl, refl, none-gone (call c.args.n) c.args.storeys _ _)

pub queue_of-requires : goal.queue_of-requires
queue_of-requires c = record { least = c.loop-d.invariant.0; most = omega arith }

pub pop_laid-answer-requires : goal.pop_laid-answer-requires
pop_laid-answer-requires c = queue-placed c.loop-d.d _ _ c.loop-d.invariant.0 (omega arith) c.queue_of.ensures

pub loop-d-preserved : goal.loop-d-preserved
loop-d-preserved c =
    let inv = c.loop-d.invariant in
    let a = c.args in
    elim c.if-d-storeys.branch [ then-d-storeys w ↦ (omega arith, omega arith, ap length w.bits-is ∙ w.pop_laid-answer.auto.bits ∙ inv.2, ap length w.words-is ∙ w.pop_laid-answer.auto.words ∙ inv.3, gone-here (call a.n) a.storeys _ _ _ _ _ _ _ _ _ _ _ _ inv.0 w.if-d-storeys.true inv.4 (at-lay popped _ _ _ _ _ w.queue_of.ensures w.pop_laid-answer.ensures) w.bits-is w.words-is w.answer-is) | else-d-storeys w ↦ (omega arith, omega arith, ap length w.bits-is ∙ inv.2, ap length w.words-is ∙ inv.3, gone-on (call a.n) a.storeys _ _ _ _ _ _ _ _ _ w.if-d-storeys.false inv.4 w.bits-is w.words-is w.answer-is) ]

pub shape_of-bits : goal.shape_of-bits
shape_of-bits c = c.loop-d.invariant.2

pub shape_of-words : goal.shape_of-words
shape_of-words c = c.loop-d.invariant.3

pub returns : goal.returns
returns c =
    let a = c.args in
    gone-all (call a.n) a.storeys _ _ c.loop-d.d _ (omega arith) (λ e. pop-bad _ _ _ (undeep a.storeys a.n a.bits.now a.words.now e)) c.loop-d.invariant.4
