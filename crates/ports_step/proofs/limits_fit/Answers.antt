-- `ports_step::limits_fit` meets its contract.
use Rattle.laws.specs.Prelude.{◌&&◌, ◌∙◌, arith, leb, sym}
use Rattle.ports_model.specs.Prelude.{ceiling_of, floor_of}
use Rattle.ports_step.proofs.Sums.{all_none, all_more, floors-none, floors-more, limits-short, limits-are}
use Rattle.ports_step.proofs.limits_fit.Goals as goal

pub returns-then-limits-ports : goal.returns-then-limits-ports
returns-then-limits-ports c = limits-short c.args.s c.args.limits.now (omega arith)

pub loop-q-init : goal.loop-q-init
loop-q-init c = (all_none _, floors-none _)

pub loop-q-preserved : goal.loop-q-preserved
loop-q-preserved c =
    let l = c.loop-q in
    let lim = c.args.limits.now in
    ((λ i. l.invariant.0 i && leb (c.floor_of-floor.ensures i) (c.ceiling_of.ensures i)) ∙ sym (all_more l.q (λ q. leb (floor_of lim q) (ceiling_of lim q))), floors-more lim l.q l.sum c.floor_of-floor.result l.invariant.1 c.floor_of-floor.ensures (omega arith))

pub returns : goal.returns
returns c =
    let l = c.loop-q in
    limits-are c.args.s c.args.limits.now l.orderly l.sum l.q (omega arith) (omega arith) l.invariant.0 l.invariant.1
