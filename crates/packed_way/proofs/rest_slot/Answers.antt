-- `packed_way::rest_slot` meets its contract.
use Rattle.laws.specs.Prelude.{◌∙◌, arith, length, refl}
use Rattle.packed_way.proofs.Putted.{under-lies}
use Rattle.packed_way.proofs.Walked.{down-on, down-stays, down-torn, lower_is, stands-edge, stands-last, stands-top}
use Rattle.packed_way.proofs.rest_slot.Goals as goal

pub loop-k-init : goal.loop-k-init
loop-k-init c = (omega arith, stands-top c.args.heaps c.args.left c.args.last c.args.p c.args.heap c.args.x c.args.s.now c.requires.lies)

pub returns-then-end-i : goal.returns-then-end-i
returns-then-end-i c = stands-edge c.args.heaps c.args.left c.args.last c.args.p c.args.heap c.args.x c.args.s.now c.loop-k.k c.loop-k.w c.loop-k.invariant.1 c.rest_edge.result c.rest_edge.ensures

pub returns-then-s-i : goal.returns-then-s-i
returns-then-s-i c = down-torn c.args.heaps c.args.left c.args.last c.args.p c.args.heap c.args.x c.args.s.now c.loop-k.k c.loop-k.w c.loop-k.invariant.1 c.loop-k-test.true c.requires.hole _ _ refl refl c.if-end-i.false c.if-s-i.true

pub returns-then-x-min : goal.returns-then-x-min
returns-then-x-min c = down-stays c.args.heaps c.args.left c.args.last c.args.p c.args.heap c.args.x c.args.s.now c.loop-k.k c.loop-k.w c.loop-k.invariant.1 c.loop-k-test.true c.requires.hole _ _ refl refl c.if-end-i.false c.if-s-i.false _ (c.min.ensures ∙ lower_is _ _) c.if-x-min.true

pub loop-k-preserved : goal.loop-k-preserved
loop-k-preserved c = (omega (arith, c.loop-k.invariant.0), down-on c.args.heaps c.args.left c.args.last c.args.p c.args.heap c.args.x c.args.s.now c.loop-k.k c.loop-k.w c.loop-k.invariant.1 c.loop-k-test.true c.requires.hole _ _ refl refl c.if-end-i.false c.if-s-i.false _ (c.min.ensures ∙ lower_is _ _) c.if-x-min.false _ c.lower_at-w.ensures)

pub returns : goal.returns
returns c = stands-last c.args.heaps c.args.left c.args.last c.args.p c.args.heap c.args.x c.args.s.now c.loop-k.k c.loop-k.w c.loop-k.invariant.1 (omega arith)

pub lower_at-w-requires : goal.lower_at-w-requires
lower_at-w-requires c = omega (arith, c.loop-k.invariant.1.word, under-lies c.args.heaps c.loop-k.k c.loop-k.invariant.1.m (length c.args.s.now) c.loop-k-test.true c.loop-k.invariant.1.lies)
