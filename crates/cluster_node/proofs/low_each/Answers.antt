use Rattle.laws.specs.Prelude.{arith, le-ltb, lt-ltb, ltb}
use Rattle.cluster_node.specs.Full.{turns}
use Rattle.cluster_node.proofs.Fulls.{full-first, full-next, low_first, low_end, best-taken, best-stays}
use Rattle.cluster_node.proofs.low_each.Goals as goal
use Rattle.cluster_node.proofs.low_each.Goals.{else-turn-best, then-turn-best}

pub loop-j-init : goal.loop-j-init
loop-j-init c = (omega arith, full-first _ _, (low_first _ _ _ c.turn_at-best.ensures).0, (low_first _ _ _ c.turn_at-best.ensures).1)

pub loop-j-preserved : goal.loop-j-preserved
loop-j-preserved c =
    let inv = c.loop-j.invariant in
    let ws = c.args.s.now in
    let o = c.args.at in
    let j = c.loop-j.j in
    let f = full-next ws o j c.loop-j.full inv.1 in
    elim c.if-turn-best.branch [ then-turn-best w ↦ let p = best-taken ltb (turns ws o) j _ _ _ inv.2 inv.3 c.turn_at-turn.ensures (lt-ltb _ _ w.if-turn-best.true) _ _ w.place-is w.best-is in (omega arith, f, p.0, p.1) | else-turn-best w ↦ let p = best-stays ltb (turns ws o) j _ _ _ inv.2 inv.3 c.turn_at-turn.ensures (le-ltb _ _ w.if-turn-best.false) _ _ w.place-is w.best-is in (omega arith, f, p.0, p.1) ]

pub returns : goal.returns
returns c = let inv = c.loop-j.invariant in low_end _ _ _ c.loop-j.j _ _ _ (omega arith) inv.1 inv.2 inv.3
