-- `lines_work::scan` meets its contract.
use Rattle.laws.specs.Prelude.{◌-◌, ◌≡◌, arith, refl}
use Rattle.lines_work.proofs.Choices.{more_is, scan-last, scan-on, scan-start}
use Rattle.lines_work.proofs.scan.Goals as goal

pub loop-i-init : goal.loop-i-init
loop-i-init c = scan-start _ _ _ _ c.requires.1

pub loop-i-preserved : goal.loop-i-preserved
loop-i-preserved c = scan-on c.args.s.now c.args.a c.args.c c.args.rank c.loop-i.ok c.loop-i.spot c.loop-i.last c.loop-i.i _ _ c.loop-i-test.true c.loop-i.invariant refl (more_is _ _)

pub returns : goal.returns
returns c = let z : c.args.c - c.loop-i.i ≡ 0 = omega arith in scan-last c.args.s.now c.args.a c.args.c c.args.rank c.loop-i.ok c.loop-i.spot c.loop-i.last _ _ z c.loop-i.invariant
