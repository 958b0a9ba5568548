use Rattle.cluster_clock_level.proofs.Drains.{quiet-first, quiet-last, quiet_next}
use Rattle.laws.specs.Prelude.{arith}
use Rattle.cluster_clock_level.proofs.shaped.is_quiet.Goals as goal

pub loop-i-init : goal.loop-i-init
loop-i-init c = (omega arith, quiet-first _ _)

pub offset_bounds-records-i : goal.offset_bounds-records-i
offset_bounds-records-i c = omega (arith, c.requires)

pub bounds-records-i : goal.bounds-records-i
bounds-records-i c = omega (arith, c.requires)

pub loop-i-preserved : goal.loop-i-preserved
loop-i-preserved c = (omega arith, quiet_next _ _ _ c.loop-i.ok _ c.loop-i.invariant.1 (omega arith) c.is_nothing-ok.ensures)

pub returns : goal.returns
returns c = quiet-last _ _ _ c.loop-i.ok c.loop-i.invariant.1 (omega arith)
