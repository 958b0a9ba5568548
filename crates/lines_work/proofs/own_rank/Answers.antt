use Rattle.lines_work.proofs.Choices.{own_is}
use Rattle.lines_work.proofs.own_rank.Goals as goal

pub returns : goal.returns
returns c = own_is _ _ _ _ c.line_of-line.ensures
