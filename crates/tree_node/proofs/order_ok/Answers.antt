-- `tree_node::order_ok` meets its contract.
use Rattle.laws.specs.Prelude.{refl}
use Rattle.tree_model.specs.Prelude.{order_ok}
use Rattle.tree_node.proofs.order_ok.Goals as goal

pub returns : goal.returns
unfolding order_ok
returns c = refl
