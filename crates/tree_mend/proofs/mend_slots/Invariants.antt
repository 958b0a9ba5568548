-- `tree_mend::mend_slots` meets its contract.
use Rattle.laws.specs.Prelude.{◌≡◌, suc, ℕ}
use Rattle.tree_model.specs.Prelude.{room}
use Rattle.tree_mend.specs.Settle.{Cleared}
use Rattle.tree_mend.proofs.Mends.{Mending}
use Rattle.tree_mend.proofs.mend_slots.Given as goal

abbrev pub invariant-loop-i : goal.invariant-loop-i
invariant-loop-i l = (k : ℕ) → Cleared l.order (suc k) l.initial.to → l.slots ≡ room l.order (suc k) → Mending l.order k l.from l.initial.to l.slots l.to l.t.pushed l.t.skipped l.i
