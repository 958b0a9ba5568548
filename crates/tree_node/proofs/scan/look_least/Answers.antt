-- `tree_node::scan::look_least` meets its contract.
use Rattle.laws.specs.Prelude.{arith, rules}
use Rattle.tree_node.proofs.Looks.{few-stays, few-taken, least-looked}
use Rattle.tree_node.proofs.Scans.{every-next, every_to, fewest, scan_least}
use Rattle.tree_node.proofs.scan.look_least.Goals as goal
use Rattle.tree_node.proofs.scan.look_least.Goals.{else-c-few, then-c-few}

pub loop-j-init : goal.loop-j-init
unfolding every_to scan_least fewest
loop-j-init c = search rules

pub loop-j-preserved : goal.loop-j-preserved
loop-j-preserved c =
    let inv = c.loop-j.invariant in
    let read = c.slot_at-a.ensures in
    let ok = every-next _ _ _ _ _ _ _ _ (search rules) inv.0 read c.slot_ok-ok.ensures in
    elim c.if-c-few.branch [ then-c-few w ↦ let p = few-taken _ _ _ _ _ _ _ (search rules) (search rules) inv.1 inv.2 read w.if-c-few.true _ _ w.best-is w.few-is in (ok, p.0, p.1) | else-c-few w ↦ let p = few-stays _ _ _ _ _ _ _ (search rules) (search rules) inv.1 inv.2 read w.if-c-few.false _ _ w.best-is w.few-is in (ok, p.0, p.1) ]

-- where the loop ends, j is the order
pub returns : goal.returns
returns c =
    let inv = c.loop-j.invariant in
    let p = least-looked _ _ _ _ _ _ _ (omega arith) inv.0 (omega arith) inv.1 in
    record { whole = p.0; place = p.1.0; within = p.1.1 }
