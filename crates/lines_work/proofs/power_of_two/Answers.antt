-- `lines_work::power_of_two` meets its contract.
use Rattle.laws.specs.Prelude.{◌&&◌, ◌∙◌, ap, leb}
use Rattle.lines_work.proofs.Powers.{powers}
use Rattle.lines_work.proofs.power_of_two.Goals as goal

pub returns : goal.returns
returns c = ap (λ b. b && leb c.args.n 512) c.is_power_of_two.ensures ∙ powers c.args.n
