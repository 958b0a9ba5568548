use Rattle.cluster_node.proofs.Looks.{look-next, look-first, within_of}
use Rattle.laws.specs.Prelude.{◌∙◌, ◌≡◌, ap, arith}
use Rattle.cluster_node.specs.Seeing.{look_to}
use Rattle.cluster_node.proofs.look_each.Goals as goal

pub loop-j-init : goal.loop-j-init
loop-j-init c = (omega arith, look-first _ _)

pub see-v-requires : goal.see-v-requires
see-v-requires c = let w = within_of c.args.s.now c.args.at c.loop-j.j c.loop-j.v c.loop-j.invariant.1 in (omega arith, omega arith, w.low, w.high, w.count)

pub loop-j-preserved : goal.loop-j-preserved
loop-j-preserved c = (omega arith, look-next _ _ _ _ _ c.loop-j.invariant.1 c.see-v.ensures)

pub returns : goal.returns
returns c = let e : c.loop-j.j ≡ c.args.n = omega arith in c.loop-j.invariant.1 ∙ ap (look_to c.args.s.now c.args.at) e
