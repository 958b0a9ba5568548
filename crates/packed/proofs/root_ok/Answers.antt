-- `packed::root_ok` meets its contract.
use Rattle.laws.specs.Prelude.{arith, refl}
use Rattle.packed.proofs.Shapes.{ground, root_over, root_none, root-some}
use Rattle.packed.proofs.root_ok.Goals as goal

pub offset_bounds-s-heap : goal.offset_bounds-s-heap
offset_bounds-s-heap c = omega (arith, ground c.args.heaps c.args.levels c.args.heap c.args.s.now c.requires)

pub bounds-s-heap : goal.bounds-s-heap
bounds-s-heap c = (ground c.args.heaps c.args.levels c.args.heap c.args.s.now c.requires).long

pub slot-e-requires : goal.slot-e-requires
slot-e-requires c = (ground c.args.heaps c.args.levels c.args.heap c.args.s.now c.requires).top

pub capacity_of-requires : goal.capacity_of-requires
capacity_of-requires c = (ground c.args.heaps c.args.levels c.args.heap c.args.s.now c.requires).few

pub returns-then-capacity_of-n : goal.returns-then-capacity_of-n
returns-then-capacity_of-n c = root_over _ _ _ _ _ c.slot-e.ensures _ _ refl c.capacity_of.ensures c.if-capacity_of-n.true

pub returns-then-n-eq0 : goal.returns-then-n-eq0
returns-then-n-eq0 c = root_none _ _ _ _ _ c.slot-e.ensures _ _ refl c.capacity_of.ensures c.if-capacity_of-n.false c.if-n-eq0.true _ c.is_blank.ensures

pub returns : goal.returns
returns c = root-some _ _ _ _ _ c.slot-e.ensures _ _ refl c.capacity_of.ensures c.if-capacity_of-n.false c.if-n-eq0.false _ c.is_untagged.ensures
