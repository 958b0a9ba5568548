use Rattle.cluster_clock_level.proofs.Beginning.{high-in, put-free, put_full}
use Rattle.laws.specs.Prelude.{arith, refl}
use Rattle.cluster_clock_level.proofs.put_in.Goals as goal

pub returns-then-v-k : goal.returns-then-v-k
returns-then-v-k c = put-free _ _ _ _ c.requires _ c.look_each-v.ensures _ c.if-v-k.true _ _ c.set_place.ensures c.no_stage.ensures

pub overflow_mul-i : goal.overflow_mul-i
overflow_mul-i c = let h = high-in c.args.k c.args.a c.args.n c.args.s.now c.requires c.look_each-v.result c.look_each-v.ensures c.args.y c.if-v-k.false in omega (arith, h, c.requires.lies.few)

pub overflow_add-i-2 : goal.overflow_add-i-2
overflow_add-i-2 c = let h = high-in c.args.k c.args.a c.args.n c.args.s.now c.requires c.look_each-v.result c.look_each-v.ensures c.args.y c.if-v-k.false in omega (arith, h, c.requires.lies.few, c.requires.lies.node)

pub elem_at-e-requires : goal.elem_at-e-requires
elem_at-e-requires c = let h = high-in c.args.k c.args.a c.args.n c.args.s.now c.requires c.look_each-v.result c.look_each-v.ensures c.args.y c.if-v-k.false in omega (arith, h, c.requires.lies.words)

pub raise-requires : goal.raise-requires
raise-requires c = (omega (arith, c.requires.lies.words), c.requires.left, c.requires.right)

pub set_place-requires-2 : goal.set_place-requires-2
set_place-requires-2 c = let h = high-in c.args.k c.args.a c.args.n c.args.s.now c.requires c.look_each-v.result c.look_each-v.ensures c.args.y c.if-v-k.false in omega (arith, h, c.requires.lies.words, c.raise.auto.s)

pub overflow_add-n : goal.overflow_add-n
overflow_add-n c = omega (arith, c.requires.lies.node)

pub overflow_add-n-2 : goal.overflow_add-n-2
overflow_add-n-2 c = omega (arith, c.requires.lies.node)

pub overflow_add-n-3 : goal.overflow_add-n-3
overflow_add-n-3 c = omega (arith, c.requires.lies.node)

pub returns : goal.returns
returns c = put_full _ _ _ _ c.requires _ c.look_each-v.ensures _ c.if-v-k.false _ _ _ _ _ _ _ refl c.elem_at-e.ensures c.stays-kept.ensures c.goes_down-rest.ensures c.raise.ensures c.set_place-2.ensures c.choose-node.ensures
