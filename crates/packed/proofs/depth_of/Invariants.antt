-- `packed::depth_of` meets its contract.
use Rattle.laws.specs.Prelude.{◌≡◌, ◌≤◌}
use Rattle.packed_model.specs.Words.{depth}
use Rattle.packed.proofs.depth_of.Given as goal

abbrev pub invariant-loop-k : goal.invariant-loop-k
invariant-loop-k l = (l.k ≤ l.levels) × (depth l.k l.t ≡ depth l.levels l.t)
