-- `bucket_step::tests::links_fit` meets its contract.
use Rattle.bucket_model.specs.Prelude.{next_of}
use Rattle.bucket_step.proofs.Read.{links-empty, next-none}
use Rattle.bucket_step.proofs.tests.links_fit.Goals as goal

pub returns-then-tail-eq0 : goal.returns-then-tail-eq0
returns-then-tail-eq0 c = links-empty c.args.k.nodes c.args.head c.args.tail (next_of c.args.k c.args.words.now c.args.tail) c.args.free c.requires.free_some (next-none c.args.k c.args.words.now c.args.tail c.if-tail-eq0.true) c.if-tail-eq0.true
