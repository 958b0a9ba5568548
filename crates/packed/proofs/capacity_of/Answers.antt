-- `packed::capacity_of` meets its contract.
use Rattle.laws.specs.Prelude.{◌-◌, ap, arith, ℕ}
use Rattle.packed_model.specs.Words.{capacity}
use Rattle.packed_model.proofs.Tests.{size-pos}
use Rattle.packed.proofs.capacity_of.Goals as goal

pub overflow_sub-result : goal.overflow_sub-result
overflow_sub-result c = omega (arith, size-pos c.args.levels, c.power.ensures)

pub returns : goal.returns
unfolding capacity
returns c = ap (λ (q : ℕ). q - 1) c.power.ensures
