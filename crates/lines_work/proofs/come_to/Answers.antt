use Rattle.lines_work.proofs.Comes.{come-idle}
use Rattle.lines_work.proofs.come_to.Goals as goal

pub returns-in-Idle : goal.returns-in-Idle
returns-in-Idle c = come-idle c.args.k c.args.s.now c.args.q c.in-Idle.is
