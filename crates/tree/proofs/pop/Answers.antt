-- `tree::pop` meets its contract.
use Rattle.laws.specs.Prelude.{arith}
use Rattle.tree.proofs.Calls.{called-damaged, called-shape, Fit, fit, Opened, opened, pop-broken, pop-done, pop-none, root_stands, shape-few, shape-here}
use Rattle.tree_path.proofs.Once.{look_in, numbers}
use Rattle.tree.proofs.pop.Goals as goal
use Rattle.tree.proofs.pop.Goals.{After-capacity-cap, Else-j-order, Start}

-- the shape is tested, and the room below the root counted
abbrev start : After-capacity-cap → Start
start c = (goal.at.After-capacity-cap c).Start

fitting : (c : After-capacity-cap) → Fit (start c).args.order (start c).args.levels c.capacity-cap.result (start c).args.store.now
fitting c = fit _ _ _ _ c.shape_ok.ensures c.if-not-shape_ok.false-raw _ c.capacity-cap.ensures.counts

-- the root is looked at, whole, and holds something
abbrev at_count : Else-j-order → After-capacity-cap
at_count c = (goal.at.Else-j-order c).After-capacity-cap

opening : (c : Else-j-order) → Opened (start (at_count c)).args.order (start (at_count c)).args.levels (at_count c).capacity-cap.result c.look_low-v.result.place (start (at_count c)).args.store.now
opening c =
    opened (fitting (at_count c)) _ _ c.look_low-v.ensures.whole c.look_low-v.ensures.place c.if-not-v.false c.if-j-order.false c.look_low-v.ensures.within

pub returns-then-not-shape_ok : goal.returns-then-not-shape_ok
returns-then-not-shape_ok c = called-shape _ _ _ _ _ c.shape_ok.ensures c.if-not-shape_ok.true-raw

pub overflow_sub-levels : goal.overflow_sub-levels
overflow_sub-levels c = omega (arith, shape-here c.args.order c.args.levels c.args.store.now _ c.shape_ok.ensures c.if-not-shape_ok.false-raw)

pub capacity-cap-requires : goal.capacity-cap-requires
capacity-cap-requires c = shape-few c.args.order c.args.levels c.args.store.now _ c.shape_ok.ensures c.if-not-shape_ok.false-raw

pub look_low-v-requires : goal.look_low-v-requires
look_low-v-requires c = look_in (root_stands (fitting c))

pub returns-then-not-v : goal.returns-then-not-v
returns-then-not-v c = called-damaged (fitting (goal.at.returns-then-not-v c).After-capacity-cap) _ _ c.look_low-v.ensures.whole c.if-not-v.true

pub returns-then-j-order : goal.returns-then-j-order
returns-then-j-order c = pop-none (fitting (goal.at.returns-then-j-order c).After-capacity-cap) _ _ c.look_low-v.ensures.whole c.look_low-v.ensures.place c.if-not-v.false c.if-j-order.true

pub slot_at-requires : goal.slot_at-requires
slot_at-requires c = omega (arith, numbers (root_stands (fitting (goal.at.slot_at-requires c).After-capacity-cap)), opening c)

pub take-requires : goal.take-requires
take-requires c = (opening (goal.at.take-requires c).Else-j-order).looked

pub returns-then-not-take : goal.returns-then-not-take
returns-then-not-take c = pop-broken (opening (goal.at.returns-then-not-take c).Else-j-order) _ c.slot_at.ensures _ _ c.take.ensures c.if-not-take.true-raw

pub returns : goal.returns
returns c = pop-done (opening (goal.at.returns c).Else-j-order) _ c.slot_at.ensures _ _ c.take.ensures c.if-not-take.false-raw
