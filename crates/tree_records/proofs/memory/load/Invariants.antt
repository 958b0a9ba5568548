-- `tree_records::memory::load` meets its contract.
use Rattle.laws.specs.Prelude.{◌≡◌}
use Rattle.tree_records.specs.Lent.{kinds_ok, works_read}
use Rattle.tree_records.proofs.memory.load.Given as goal

abbrev pub invariant-loop-i : goal.invariant-loop-i
invariant-loop-i l = (l.works ≡ works_read l.i l.records) × (l.ok ≡ kinds_ok l.i l.records)
