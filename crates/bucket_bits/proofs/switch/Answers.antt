-- `bucket_bits::switch` meets its contract.
use Rattle.bucket_bits.proofs.Up.{switch-on, switch-off}
use Rattle.bucket_bits.proofs.switch.Goals as goal

pub returns-then-on : goal.returns-then-on
returns-then-on c = switch-on c.args.bits.now c.args.on c.args.changes c.args.at c.args.k _ c.if-on.true c.requires.stays c.with.ensures

pub returns : goal.returns
returns c = switch-off c.args.bits.now c.args.on c.args.changes c.args.at c.args.k _ c.if-on.false c.requires.stays c.without-left.ensures
