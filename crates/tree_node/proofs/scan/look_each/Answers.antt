-- `tree_node::scan::look_each` meets its contract.
use Rattle.laws.specs.Prelude.{arith, rules, refl}
use Rattle.tree_node.proofs.Leads.{each-looked, sofar-start, turn-stays, turn-taken}
use Rattle.tree_node.proofs.Scans.{every-next, every_to}
use Rattle.tree_node.proofs.scan.look_each.Goals as goal
use Rattle.tree_node.proofs.scan.look_each.Goals.{else-k-low, then-k-low}

pub loop-j-init : goal.loop-j-init
unfolding every_to
loop-j-init c = (refl, sofar-start _ _ _)

pub loop-j-preserved : goal.loop-j-preserved
loop-j-preserved c =
    let inv = c.loop-j.invariant in
    let read = c.slot_at-a.ensures in
    let known = c.slot_at-a.type_inv in
    let turn = c.turn_or-k.ensures in
    let ok = every-next _ _ _ _ _ _ _ _ (search rules) inv.0 read c.slot_ok-ok.ensures in
    elim c.if-k-low.branch [ then-k-low w ↦ (ok, turn-taken _ _ _ _ _ _ _ _ (search rules) inv.1 read turn (omega (arith, known), omega (arith, known)) w.if-k-low.true _ _ w.best-is w.low-is) | else-k-low w ↦ (ok, turn-stays _ _ _ _ _ _ _ _ (search rules) inv.1 read turn (omega (arith, known), omega (arith, known)) w.if-k-low.false _ _ w.best-is w.low-is) ]

pub returns : goal.returns
returns c =
    let inv = c.loop-j.invariant in
    let p = each-looked _ _ _ _ _ _ _ _ (omega arith) inv.0 inv.1 in
    record { whole = p.0; led = p.1.0; within = p.1.1 }
