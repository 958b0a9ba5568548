-- `tree_node::capacity` meets its contract.
use Rattle.laws.specs.Prelude.{◌≡◌, arith, min}
use Rattle.tree_node.proofs.Steps.{sum-eight, sum-four, sum-two, summed}
use Rattle.tree_model.specs.Prelude.{room}
use Rattle.tree_node.proofs.capacity.Goals as goal

pub returns-in-2 : goal.returns-in-2
unfolding room
returns-in-2 c =
    let k : c.min.result ≡ min c.args.levels 16 = omega arith in
    let s = summed _ 2 16 _ _ _ c.in-2.is (omega arith) (omega arith) (omega arith) k (sum-two c.min.result (omega arith)) in
    record { counts = s.0; stops = s.1 }

pub returns-in-4 : goal.returns-in-4
unfolding room
returns-in-4 c =
    let k : c.min-in-4.result ≡ min c.args.levels 9 = omega arith in
    let s = summed _ 4 9 _ _ _ c.in-4.is (omega arith) (omega arith) (omega arith) k (sum-four c.min-in-4.result (omega arith)) in
    record { counts = s.0; stops = s.1 }

pub returns-in-8 : goal.returns-in-8
unfolding room
returns-in-8 c =
    let k : c.min-in-8.result ≡ min c.args.levels 6 = omega arith in
    let s = summed _ 8 6 _ _ _ c.in-8.is (omega arith) (omega arith) (omega arith) k (sum-eight c.min-in-8.result (omega arith)) in
    record { counts = s.0; stops = s.1 }
