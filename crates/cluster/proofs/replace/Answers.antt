-- `cluster::replace` meets its contract.
use Rattle.laws.specs.Prelude.{◌∙◌, sym}
use Rattle.cluster.proofs.Called.{replace-eq}
use Rattle.cluster.proofs.replace.Goals as goal

pub returns-then-is_untagged : goal.returns-then-is_untagged
returns-then-is_untagged c = (c.bar.ensures c.args.x (sym c.is_untagged.ensures ∙ c.if-is_untagged.true)).1

pub returns : goal.returns
returns c = c.replace_tagged.ensures ∙ replace-eq _ _ _ _ (sym c.is_untagged.ensures ∙ c.if-is_untagged.false)
