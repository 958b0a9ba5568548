-- `ports_step::seat_of` meets its contract.
use Rattle.laws.specs.Prelude.{◌*◌, arith}
use Rattle.ports_step.proofs.Sums.{few-of, some_of, seat-is, tower-le, ranks-le}
use Rattle.ports_step.proofs.seat_of.Goals as goal

pub overflow_mul-result : goal.overflow_mul-result
overflow_mul-result c =
    let t = tower-le c.args.s c.queue_of-alone.result c.requires.numbers c.queue_of-alone.ensures in
    omega (arith, few-of c.args.port c.queue_of-alone.result.tower (omega (arith, c.requires.numbers.few, c.requires.port_in)) (omega arith))

pub overflow_sub-result : goal.overflow_sub-result
overflow_sub-result c =
    let r = ranks-le c.args.s c.queue_of-alone.result c.requires.numbers c.queue_of-alone.ensures in
    omega (arith, some_of c.args.s.ports (2 * c.queue_of-alone.result.ranks) c.requires.numbers.some)
