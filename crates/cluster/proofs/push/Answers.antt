-- `cluster::push` meets its contract.
use Rattle.laws.specs.Prelude.{◌∙◌, sym}
use Rattle.cluster.proofs.Called.{push-eq}
use Rattle.cluster.proofs.push.Goals as goal

pub returns-then-is_untagged : goal.returns-then-is_untagged
returns-then-is_untagged c = (c.bar.ensures c.args.x (sym c.is_untagged.ensures ∙ c.if-is_untagged.true)).0

pub returns : goal.returns
returns c = c.push_tagged.ensures ∙ push-eq _ _ _ _ (sym c.is_untagged.ensures ∙ c.if-is_untagged.false)
