-- `cluster::root_elem` meets its contract.
use Rattle.laws.specs.Prelude.{◌∙◌}
use Rattle.cluster.proofs.Root.{root-has}
use Rattle.cluster.proofs.root_elem.Goals as goal

pub returns : goal.returns
returns c = c.elem_at.ensures ∙ root-has _ _ _
