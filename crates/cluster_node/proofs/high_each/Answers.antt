use Rattle.laws.specs.Prelude.{◌*◌, ◌+◌, arith, le-leb, lt-leb, refl}
use Rattle.cluster_model.specs.Prelude.{place_words}
use Rattle.cluster_node.specs.Full.{ranks, is_high}
use Rattle.cluster_node.proofs.Fulls.{full-first, full-next, high-first, high_end, best-taken, best-stays}
use Rattle.cluster_node.proofs.high_each.Goals as goal
use Rattle.cluster_node.proofs.high_each.Goals.{else-best-rank, then-best-rank}

pub overflow_cast-best : goal.overflow_cast-best
overflow_cast-best c = omega (arith, c.type_inv.s c.args.at)

pub loop-j-init : goal.loop-j-init
loop-j-init c = let h = high-first c.args.s.now c.args.at _ refl in (omega arith, full-first c.args.s.now c.args.at, h.0, h.1)

pub overflow_cast-rank : goal.overflow_cast-rank
overflow_cast-rank c = omega (arith, c.type_inv.s (c.args.at + c.loop-j.j * place_words))

pub loop-j-preserved : goal.loop-j-preserved
loop-j-preserved c =
    let inv = c.loop-j.invariant in
    let ws = c.args.s.now in
    let o = c.args.at in
    let j = c.loop-j.j in
    let f = full-next ws o j c.loop-j.full inv.1 in
    elim c.if-best-rank.branch [ then-best-rank w ↦ let p = best-taken is_high (ranks ws o) j _ _ _ inv.2 inv.3 (refl) (le-leb _ _ w.if-best-rank.true) _ _ w.place-is w.best-is in (omega arith, f, p.0, p.1) | else-best-rank w ↦ let p = best-stays is_high (ranks ws o) j _ _ _ inv.2 inv.3 (refl) (lt-leb _ _ w.if-best-rank.false) _ _ w.place-is w.best-is in (omega arith, f, p.0, p.1) ]

pub returns : goal.returns
returns c = let inv = c.loop-j.invariant in high_end _ _ _ c.loop-j.j _ _ _ (omega arith) inv.1 inv.2 inv.3
