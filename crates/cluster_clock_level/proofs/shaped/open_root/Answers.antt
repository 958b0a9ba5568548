use Rattle.cluster_clock_level.proofs.Roots.{count-few, left-few, low-few, opened, opened-not, right-few}
use Rattle.laws.specs.Prelude.{arith, refl}
use Rattle.cluster_clock_level.proofs.shaped.open_root.Goals as goal

pub overflow_mul-v : goal.overflow_mul-v
overflow_mul-v c = let h = low-few c.args.k c.args.top c.args.s.now c.requires c.look-v.result c.look-v.ensures in omega (arith, h, c.requires.lies.few)

pub overflow_add-v : goal.overflow_add-v
overflow_add-v c = let h = low-few c.args.k c.args.top c.args.s.now c.requires c.look-v.result c.look-v.ensures in omega (arith, h, c.requires.lies.few)

pub elem_at-requires : goal.elem_at-requires
elem_at-requires c = let h = low-few c.args.k c.args.top c.args.s.now c.requires c.look-v.result c.look-v.ensures in omega (arith, h, c.requires.lies.words)

pub returns-then-not-node_ok : goal.returns-then-not-node_ok
returns-then-not-node_ok c = opened-not _ _ _ c.requires _ c.look-v.ensures _ c.node_ok.ensures c.if-not-node_ok.true-raw

pub overflow_add-result : goal.overflow_add-result
overflow_add-result c = let x = left-few c.args.k c.args.top c.args.s.now c.requires c.look-v.result c.look-v.ensures c.node_ok.result c.node_ok.ensures c.if-not-node_ok.false-raw in let y = right-few c.args.k c.args.top c.args.s.now c.requires c.look-v.result c.look-v.ensures c.node_ok.result c.node_ok.ensures c.if-not-node_ok.false-raw in let z = count-few c.args.k c.args.top c.args.s.now c.requires c.look-v.result c.look-v.ensures in omega (arith, x, y, z)

pub overflow_add-result-2 : goal.overflow_add-result-2
overflow_add-result-2 c = let x = left-few c.args.k c.args.top c.args.s.now c.requires c.look-v.result c.look-v.ensures c.node_ok.result c.node_ok.ensures c.if-not-node_ok.false-raw in let y = right-few c.args.k c.args.top c.args.s.now c.requires c.look-v.result c.look-v.ensures c.node_ok.result c.node_ok.ensures c.if-not-node_ok.false-raw in let z = count-few c.args.k c.args.top c.args.s.now c.requires c.look-v.result c.look-v.ensures in omega (arith, x, y, z, c.requires.lies.few)

pub returns : goal.returns
returns c = opened _ _ _ c.requires _ c.look-v.ensures _ c.node_ok.ensures c.if-not-node_ok.false-raw _ c.elem_at.ensures _ _ refl refl
