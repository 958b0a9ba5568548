-- `tree_records::memory::hand_back` meets its contract.
use Rattle.laws.specs.Prelude.{add-one}
use Rattle.tree_records.proofs.Back.{back-next}
use Rattle.tree_records.proofs.memory.hand_back.Goals as goal

pub loop-i-preserved : goal.loop-i-preserved
loop-i-preserved c =
    let was = rw c.loop-i.invariant at c.returned.ensures in
    rw (c.loop-i.invariant, add-one) (back-next c.loop-i.i c.args.ended.state.records c.args.records.now c.returned.result was)
