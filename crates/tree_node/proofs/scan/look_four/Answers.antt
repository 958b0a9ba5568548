-- `tree_node::scan::look_four` meets its contract.
use Rattle.laws.specs.Prelude.{List, ◌&&◌, ◌≡◌, arith, refl}
use Rattle.tree_model.specs.Prelude.{node_of, node_ok}
use Rattle.tree_model.specs.declared.Slot.{Slot}
use Rattle.tree_node.proofs.Leads.{four-led, four-none, four-ok, IsWords, Leads, left-leads, one-leads, right-leads}
use Rattle.tree_node.proofs.scan.look_four.Goals as goal
use Rattle.tree_node.proofs.scan.look_four.Goals.{After-slot_at-a, After-slot_at-b, After-slot_at-c, After-slot_at-d, After-slot_ok-4, After-turn_or-fourth, After-turn_or-high, After-turn_or-low, After-turn_or-second, Joined-fourth-high, Joined-high-low, Joined-second-low, else-fourth-high, else-high-low, else-second-low, then-fourth-high, then-high-low, then-second-low}

-- the node, once its slots are read
abbrev read : After-slot_at-d → List Slot
read c =
    let start = c.before.before.before.before.before in
    node_of 4 start.args.s.now start.args.at

-- rank and tag that were read are words
small : (c : After-slot_at-a) → IsWords c.slot_at-a.result.element
small c = (omega (arith, c.slot_at-a.type_inv), omega (arith, c.slot_at-a.type_inv))

small2 : (c : After-slot_at-b) → IsWords c.slot_at-b.result.element
small2 c = (omega (arith, c.slot_at-b.type_inv), omega (arith, c.slot_at-b.type_inv))

small3 : (c : After-slot_at-c) → IsWords c.slot_at-c.result.element
small3 c = (omega (arith, c.slot_at-c.type_inv), omega (arith, c.slot_at-c.type_inv))

small4 : (c : After-slot_at-d) → IsWords c.slot_at-d.result.element
small4 c = (omega (arith, c.slot_at-d.type_inv), omega (arith, c.slot_at-d.type_inv))

-- each slot leads its own place
lead : (c : After-turn_or-low) → Leads (read (goal.at.After-turn_or-low c).After-slot_at-d) 0 1 0 c.turn_or-low.result
lead c =
    one-leads _ _ 0 c.args.at _ _ (omega arith) (omega arith) c.slot_at-a.ensures c.turn_or-low.ensures (small (goal.at.After-turn_or-low c).After-slot_at-a)

lead2 : (c : After-turn_or-second) → Leads (read (goal.at.After-turn_or-second c).After-slot_at-d) 1 2 1 c.turn_or-second.result
lead2 c =
    one-leads _ _ 1 _ _ _ (omega arith) refl c.slot_at-b.ensures c.turn_or-second.ensures (small2 (goal.at.After-turn_or-second c).After-slot_at-b)

lead3 : (c : After-turn_or-high) → Leads (read (goal.at.After-turn_or-high c).After-slot_at-d) 2 3 2 c.turn_or-high.result
lead3 c =
    one-leads _ _ 2 _ _ _ (omega arith) refl c.slot_at-c.ensures c.turn_or-high.ensures (small3 (goal.at.After-turn_or-high c).After-slot_at-c)

lead4 : (c : After-turn_or-fourth) → Leads (read (goal.at.After-turn_or-fourth c).After-slot_at-d) 3 4 3 c.turn_or-fourth.result
lead4 c =
    one-leads _ _ 3 _ _ _ (omega arith) refl c.slot_at-d.ensures c.turn_or-fourth.ensures (small4 (goal.at.After-turn_or-fourth c).After-slot_at-d)

-- two pairs
left : (c : Joined-second-low) → Leads (read (goal.at.Joined-second-low c).After-slot_at-d) 0 2 c.if-second-low.best c.if-second-low.low
left c =
    elim c.if-second-low.branch [ then-second-low w ↦ right-leads _ 0 1 2 _ _ _ _ (lead (goal.at.Joined-second-low c).After-turn_or-low) (lead2 (goal.at.Joined-second-low c).After-turn_or-second) _ _ w.if-second-low.true w.best-is w.low-is | else-second-low w ↦ left-leads _ 0 1 2 _ _ _ _ (lead (goal.at.Joined-second-low c).After-turn_or-low) (lead2 (goal.at.Joined-second-low c).After-turn_or-second) _ _ w.if-second-low.false w.best-is w.low-is ]

-- .. the right one
right : (c : Joined-fourth-high) → Leads (read (goal.at.Joined-fourth-high c).After-slot_at-d) 2 4 c.if-fourth-high.right c.if-fourth-high.high
right c =
    elim c.if-fourth-high.branch [ then-fourth-high w ↦ right-leads _ 2 3 4 _ _ _ _ (lead3 (goal.at.Joined-fourth-high c).After-turn_or-high) (lead4 (goal.at.Joined-fourth-high c).After-turn_or-fourth) _ _ w.if-fourth-high.true w.right-is w.high-is | else-fourth-high w ↦ left-leads _ 2 3 4 _ _ _ _ (lead3 (goal.at.Joined-fourth-high c).After-turn_or-high) (lead4 (goal.at.Joined-fourth-high c).After-turn_or-fourth) _ _ w.if-fourth-high.false w.right-is w.high-is ]

-- then the winners
won : (c : Joined-high-low) → Leads (read (goal.at.Joined-high-low c).After-slot_at-d) 0 4 c.if-high-low.best c.if-high-low.low
won c =
    elim c.if-high-low.branch [ then-high-low w ↦ right-leads _ 0 2 4 _ _ _ _ (left (goal.at.Joined-high-low c).Joined-second-low) (right (goal.at.Joined-high-low c).Joined-fourth-high) _ _ w.if-high-low.true w.best-is w.low-is | else-high-low w ↦ left-leads _ 0 2 4 _ _ _ _ (left (goal.at.Joined-high-low c).Joined-second-low) (right (goal.at.Joined-high-low c).Joined-fourth-high) _ _ w.if-high-low.false w.best-is w.low-is ]

whole : (c : After-slot_ok-4) → (((c.slot_ok.result && c.slot_ok-2.result) && c.slot_ok-3.result) && c.slot_ok-4.result) ≡ node_ok c.args.room (read (goal.at.After-slot_ok-4 c).After-slot_at-d)
whole c =
    four-ok _ _ _ _ _ _ _ c.slot_at-a.ensures c.slot_at-b.ensures c.slot_at-c.ensures c.slot_at-d.ensures _ _ _ _ c.slot_ok.ensures c.slot_ok-2.ensures c.slot_ok-3.ensures c.slot_ok-4.ensures

pub returns-then-low : goal.returns-then-low
returns-then-low c = record { whole = whole (goal.at.returns-then-low c).After-slot_ok-4; led = (four-none _ _ _ _ (won (goal.at.returns-then-low c).Joined-high-low) c.if-low.true).0; within = (four-none _ _ _ _ (won (goal.at.returns-then-low c).Joined-high-low) c.if-low.true).1 }

pub returns-else-low : goal.returns-else-low
returns-else-low c = record { whole = whole (goal.at.returns-else-low c).After-slot_ok-4; led = (four-led _ _ _ _ (won (goal.at.returns-else-low c).Joined-high-low) c.if-low.false).0; within = (four-led _ _ _ _ (won (goal.at.returns-else-low c).Joined-high-low) c.if-low.false).1 }
