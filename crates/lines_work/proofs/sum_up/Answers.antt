use Rattle.laws.specs.Prelude.{◌≡◌, arith}
use Rattle.lines_work.proofs.Counts.{below_next, below_none, total-next, total-none, totals-is}
use Rattle.lines_work.proofs.sum_up.Goals as goal

pub loop-i-init : goal.loop-i-init
loop-i-init c = (below_none _ _, total-none _, omega arith, omega arith)

pub loop-i-preserved : goal.loop-i-preserved
loop-i-preserved c = (below_next _ _ _ _ c.loop-i.invariant.0, total-next _ _ _ c.loop-i.invariant.1, omega arith, omega (arith, c.shared_slice_known-1.given c.loop-i.i))

pub returns : goal.returns
returns c = let z : c.loop-i.i ≡ c.args.n = omega arith in totals-is _ _ _ _ _ _ z c.loop-i.invariant.0 c.loop-i.invariant.1
