use Rattle.laws.specs.Prelude.{◌+◌, ◌-◌, ◌∙◌, ◌≡◌, arith, length-set}
use Rattle.lines_model.specs.Layout.{word}
use Rattle.lines_work.proofs.Shifts.{up-again, up_none}
use Rattle.lines_work.proofs.shift_up.Goals as goal

pub loop-left-preserved : goal.loop-left-preserved
loop-left-preserved c = (up-again _ c.loop-left.s c.args.b c.loop-left.left c.loop-left-test.true c.loop-left.invariant.0, omega (arith, length-set c.loop-left.s (c.args.b + (c.loop-left.left - 1) + 3) (word c.loop-left.s (c.args.b + (c.loop-left.left - 1))), c.loop-left.invariant.1), length-set c.loop-left.s (c.args.b + (c.loop-left.left - 1) + 3) (word c.loop-left.s (c.args.b + (c.loop-left.left - 1))) ∙ c.loop-left.invariant.2)

pub returns : goal.returns
returns c = let z : c.loop-left.left ≡ 0 = omega arith in up_none _ _ _ _ z c.loop-left.invariant.0
