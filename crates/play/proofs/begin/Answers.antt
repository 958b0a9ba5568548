-- What was read is what the call was given, and what it made was written.
use Rattle.std.proofs.Common.{rules, take}
use Rattle.play.proofs.Whole.{gave_made, took_room}
use Rattle.play.proofs.begin.Goals as goal

pub returns : goal.returns
returns g c = (take c.in_ok-n.n c.fill.new.buf, took_room _ _ _ _ _ (search rules) c.in_ok-n.ensures.took, gave_made _ _ _ _ _ _ _ c.begin-done.ensures c.in_ok-put.ensures.text)
