-- `packed_way::put_down` meets its contract.
use Rattle.laws.specs.Prelude.{◌+◌, ◌∙◌, arith, refl}
use Rattle.packed_way.proofs.Putted.{below_on, falls-last, falls-on, up_least}
use Rattle.packed_way.proofs.put_down.Goals as goal

pub overflow_sub-m : goal.overflow_sub-m
overflow_sub-m c = up_least c.args.heaps c.loop-k.k (c.args.end + c.args.heaps) c.loop-k.invariant.1

pub loop-k-preserved : goal.loop-k-preserved
loop-k-preserved c = (omega (arith, c.loop-k.invariant.0), below_on c.args.heaps c.loop-k.k (c.args.end + c.args.heaps) c.loop-k-test.true c.loop-k.invariant.1, c.meet-y.auto.s ∙ c.loop-k.invariant.2, λ r t l e. falls-on c.args.heaps c.requires.one c.args.end c.args.levels r t c.args.x c.args.s.now c.loop-k.k c.loop-k-test.true _ _ (c.loop-k.invariant.3 r t l e) _ refl _ _ c.meet-y.ensures.0 c.meet-y.ensures.1)

pub returns : goal.returns
returns c = λ r t l e. falls-last c.args.heaps c.requires.one c.args.end c.args.levels r t c.args.x c.args.s.now c.loop-k.k (omega arith) _ _ (c.loop-k.invariant.3 r t l e) _ c.set_slot.ensures
