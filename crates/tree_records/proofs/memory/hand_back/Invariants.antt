-- `tree_records::memory::hand_back` meets its contract.
use Rattle.laws.specs.Prelude.{◌≡◌}
use Rattle.tree_records.specs.Lent.{works_back}
use Rattle.tree_records.proofs.memory.hand_back.Given as goal

abbrev pub invariant-loop-i : goal.invariant-loop-i
invariant-loop-i l = l.records ≡ works_back l.i l.ended.state.records l.initial.records
