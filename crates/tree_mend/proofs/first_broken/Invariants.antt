-- `tree_mend::first_broken` meets its contract.
use Rattle.laws.specs.Prelude.{◌-◌, ◌≡◌, None}
use Rattle.tree_mend.proofs.Walk.{AtLevel, AtSlot}
use Rattle.tree_mend.proofs.first_broken.Given as goal

abbrev pub invariant-loop-p : goal.invariant-loop-p
invariant-loop-p l = (l.found ≡ None) × AtSlot l.order l.levels l.inner l.s l.nodes (l.levels - l.level) l.end l.p

abbrev pub invariant-walk : goal.invariant-walk
invariant-walk l = (l.found ≡ None) × AtLevel l.order l.levels l.inner l.s l.first l.nodes (l.levels - l.level)
