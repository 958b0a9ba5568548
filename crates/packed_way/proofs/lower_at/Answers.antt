-- `packed_way::lower_at` meets its contract.
use Rattle.laws.specs.Prelude.{le-ltb, lt-ltb, refl}
use Rattle.packed_way.proofs.lower_at.Goals as goal

pub returns-then-b-a : goal.returns-then-b-a
returns-then-b-a c = rw (lt-ltb _ _ c.if-b-a.true) refl

pub returns-else-b-a : goal.returns-else-b-a
returns-else-b-a c = rw (le-ltb _ _ c.if-b-a.false) refl
