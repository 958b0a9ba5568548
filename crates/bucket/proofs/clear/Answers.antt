-- `bucket::clear` meets its contract.
use Rattle.laws.specs.Prelude.{◌∙◌, not-true, sym}
use Rattle.bucket_model.proofs.Laws.{clear-bad}
use Rattle.bucket_step.proofs.Depths.{undeep}
use Rattle.bucket.proofs.clear.Goals as goal

pub returns-then-not-is_deep : goal.returns-then-not-is_deep
returns-then-not-is_deep c = clear-bad _ _ _ (undeep c.args.storeys c.args.n c.args.bits.now c.args.words.now (sym c.is_deep.ensures ∙ not-true c.is_deep.result c.if-not-is_deep.true-raw))
