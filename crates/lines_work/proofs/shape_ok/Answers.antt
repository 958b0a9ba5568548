use Rattle.laws.specs.Prelude.{arith}
use Rattle.lines_work.proofs.Finds.{shape-no, shape-small, shape-yes}
use Rattle.lines_work.proofs.shape_ok.Goals as goal

pub returns-then-not-fine : goal.returns-then-not-fine
returns-then-not-fine c = shape-no c.args.k _ _ c.power_of_two-power.ensures c.if-not-fine.true-raw

pub overflow_mul-result : goal.overflow_mul-result
overflow_mul-result c = omega (arith, (shape-small c.args.k c.power_of_two-power.result c.power_of_two-power.ensures c.if-not-fine.false-raw).area)

pub overflow_mul-result-2 : goal.overflow_mul-result-2
overflow_mul-result-2 c = omega (arith, (shape-small c.args.k c.power_of_two-power.result c.power_of_two-power.ensures c.if-not-fine.false-raw).area)

pub overflow_add-result : goal.overflow_add-result
overflow_add-result c = omega (arith, shape-small c.args.k c.power_of_two-power.result c.power_of_two-power.ensures c.if-not-fine.false-raw)

pub returns : goal.returns
returns c = shape-yes c.args.k _ _ c.power_of_two-power.ensures c.if-not-fine.false-raw
