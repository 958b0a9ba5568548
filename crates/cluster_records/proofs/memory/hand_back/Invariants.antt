-- `cluster_records::memory::hand_back` meets its contract.
use Rattle.laws.specs.Prelude.{◌≡◌}
use Rattle.cluster_records.specs.Lent.{stages_back}
use Rattle.cluster_records.proofs.memory.hand_back.Given as goal

abbrev pub invariant-loop-i : goal.invariant-loop-i
invariant-loop-i l = l.records ≡ stages_back l.i l.ended.stages l.initial.records
