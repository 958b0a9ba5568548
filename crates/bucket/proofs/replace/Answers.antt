-- `bucket::replace` meets its contract.
use Rattle.laws.specs.Prelude.{◌∙◌, not-true, sym}
use Rattle.bucket_model.proofs.Laws.{replace-bad}
use Rattle.bucket_step.proofs.Depths.{undeep}
use Rattle.bucket.proofs.replace.Goals as goal

pub returns-then-not-is_deep : goal.returns-then-not-is_deep
returns-then-not-is_deep c = replace-bad _ _ _ c.args.e (undeep c.args.storeys c.args.n c.args.bits.now c.args.words.now (sym c.is_deep.ensures ∙ not-true c.is_deep.result c.if-not-is_deep.true-raw))
