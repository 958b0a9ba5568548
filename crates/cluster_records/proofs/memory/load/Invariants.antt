-- `cluster_records::memory::load` meets its contract.
use Rattle.laws.specs.Prelude.{◌≡◌}
use Rattle.cluster_records.specs.Lent.{kinds_ok, stages_read}
use Rattle.cluster_records.proofs.memory.load.Given as goal

abbrev pub invariant-loop-i : goal.invariant-loop-i
invariant-loop-i l = (l.stages ≡ stages_read l.i l.records) × (l.ok ≡ kinds_ok l.i l.records)
