-- `bucket::held` meets its contract.
use Rattle.laws.specs.Prelude.{◌∙◌, not-true, sym}
use Rattle.bucket_model.proofs.Laws.{held-bad}
use Rattle.bucket_step.proofs.Depths.{undeep}
use Rattle.bucket.proofs.held.Goals as goal

pub returns-then-not-is_deep : goal.returns-then-not-is_deep
returns-then-not-is_deep c = held-bad _ _ _ (undeep c.args.storeys c.args.n c.args.bits.now c.args.words.now (sym c.is_deep.ensures ∙ not-true c.is_deep.result c.if-not-is_deep.true-raw))
