-- What is written, with what the rest of the input would write, is the text of the whole.
use Rattle.std.proofs.Common.{arith, refl, ℕ}
use Rattle.std.proofs.lemmas.Bool.{not-false, not-true}
use Rattle.laws.specs.Prelude.{length-replicate}
use Rattle.play.proofs.Whole.{left_begin, left_next, writes_ended, writes_out}
use Rattle.trace_model.specs.Program.{empty_store}
use Rattle.play.proofs.play_input.Goals as goal

-- with every argument of the law written, no buffer is counted out
pub loop-init : goal.loop-init
unfolding empty_store
loop-init g c = λ xs known. let (bs, took, gave) = c.in_ok-play.ensures in left_begin xs _ _ _ _ bs _ _ _ _ (length-replicate {0} {A = ℕ} 393216 0) refl known took gave

pub loop-preserved : goal.loop-preserved
loop-preserved g c = λ xs known. let (bs, took, gave) = c.in_ok-play-2.ensures in
    left_next xs _ _ _ _ _ _ _ _ _ _ bs (c.loop.invariant xs known) (not-false _ c.if-not-play.false) took gave

pub returns-after-loop : goal.returns-after-loop
returns-after-loop g c = writes_out _ _ _ _ _ _ _ c.loop.invariant (omega (arith, c.loop-test.false))

pub returns-then-not-play : goal.returns-then-not-play
returns-then-not-play g c = writes_ended _ _ _ _ _ _ _ c.loop.invariant (not-true _ c.if-not-play.true)
