-- `lines_work::wipe_words` meets its contract.
use Rattle.laws.specs.Prelude.{◌∙◌, ap}
use Rattle.std.specs.Prelude.{◌++◌, drop, replicate}
use lib.Seq.{length-take-le}
use Rattle.lines_work.proofs.Finds.{wipe_is}
use Rattle.lines_work.proofs.wipe_words.Goals as goal

pub returns : goal.returns
returns c = ap (λ l. l ++ drop c.args.n c.args.s.now) (c.fill.ensures.after (λ y e. e) ∙ ap (λ k. replicate k 0) (length-take-le _ _ c.requires)) ∙ wipe_is c.args.n c.args.s.now c.requires
