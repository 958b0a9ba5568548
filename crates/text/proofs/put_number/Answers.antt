-- `text::put_number` meets its contract.
use native.Mathlib.Omega.{arith}
use Rattle.text.proofs.Laws.{decimal-short}
use Rattle.text.specs.Text.{decimal}
use Rattle.text.proofs.put_number.Goals as goal

pub returns : goal.returns
unfolding decimal
returns c = (c.put_digits.ensures.0, omega (arith, c.put_digits.ensures.0, decimal-short 20 c.args.n), c.put_digits.ensures.1)
