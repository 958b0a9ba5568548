-- `tree::replace` meets its contract.
use Rattle.laws.specs.Prelude.{◌∙◌, ◌≡◌, arith, false, sym, untagged}
use Rattle.tree.proofs.Calls.{called-damaged, called-shape, Fit, fit, Opened, opened, replace-broken, replace-done, replace-none, root_stands, shape-few, shape-here}
use Rattle.tree_path.proofs.Once.{look_in, numbers}
use Rattle.tree.proofs.replace.Goals as goal
use Rattle.tree.proofs.replace.Goals.{After-capacity-cap, Else-j-order, Start}

-- the shape is tested, and the room below the root counted
abbrev start : After-capacity-cap → Start
start c = (goal.at.After-capacity-cap c).Start

has : (c : After-capacity-cap) → untagged (start c).args.x ≡ false
has c =
    sym c.is_untagged.ensures ∙ c.if-is_untagged.false

fitting : (c : After-capacity-cap) → Fit (start c).args.order (start c).args.levels c.capacity-cap.result (start c).args.store.now
fitting c = fit _ _ _ _ c.shape_ok.ensures c.if-not-shape_ok.false-raw _ c.capacity-cap.ensures.counts

-- the root is looked at, whole, and holds something
abbrev at_count : Else-j-order → After-capacity-cap
at_count c = (goal.at.Else-j-order c).After-capacity-cap

opening : (c : Else-j-order) → Opened (start (at_count c)).args.order (start (at_count c)).args.levels (at_count c).capacity-cap.result c.look_low-root.result.place (start (at_count c)).args.store.now
opening c =
    opened (fitting (at_count c)) _ _ c.look_low-root.ensures.whole c.look_low-root.ensures.place c.if-not-root.false c.if-j-order.false c.look_low-root.ensures.within

pub returns-then-is_untagged : goal.returns-then-is_untagged
returns-then-is_untagged c = (c.bar.ensures c.args.x (sym c.is_untagged.ensures ∙ c.if-is_untagged.true)).1

pub returns-then-not-shape_ok : goal.returns-then-not-shape_ok
returns-then-not-shape_ok c = called-shape _ _ _ _ _ c.shape_ok.ensures c.if-not-shape_ok.true-raw

pub overflow_sub-levels : goal.overflow_sub-levels
overflow_sub-levels c = omega (arith, shape-here c.args.order c.args.levels c.args.store.now _ c.shape_ok.ensures c.if-not-shape_ok.false-raw)

pub capacity-cap-requires : goal.capacity-cap-requires
capacity-cap-requires c = shape-few c.args.order c.args.levels c.args.store.now _ c.shape_ok.ensures c.if-not-shape_ok.false-raw

pub look_low-root-requires : goal.look_low-root-requires
look_low-root-requires c = look_in (root_stands (fitting c))

pub returns-then-not-root : goal.returns-then-not-root
returns-then-not-root c = called-damaged (fitting (goal.at.returns-then-not-root c).After-capacity-cap) _ _ c.look_low-root.ensures.whole c.if-not-root.true

pub returns-then-j-order : goal.returns-then-j-order
returns-then-j-order c = replace-none (fitting (goal.at.returns-then-j-order c).After-capacity-cap) _ _ c.look_low-root.ensures.whole c.look_low-root.ensures.place c.if-not-root.false (start (goal.at.returns-then-j-order c).After-capacity-cap).args.x (has (goal.at.returns-then-j-order c).After-capacity-cap) c.if-j-order.true

pub slot_at-requires : goal.slot_at-requires
slot_at-requires c = omega (arith, numbers (root_stands (fitting (goal.at.slot_at-requires c).After-capacity-cap)), opening c)

pub swap-requires : goal.swap-requires
swap-requires c = (opening (goal.at.swap-requires c).Else-j-order).looked

pub returns-then-not-swap : goal.returns-then-not-swap
returns-then-not-swap c = replace-broken (opening (goal.at.returns-then-not-swap c).Else-j-order) _ c.slot_at.ensures (start (at_count (goal.at.returns-then-not-swap c).Else-j-order)).args.x (has (at_count (goal.at.returns-then-not-swap c).Else-j-order)) _ _ c.swap.ensures c.if-not-swap.true-raw

pub returns : goal.returns
returns c = replace-done (opening (goal.at.returns c).Else-j-order) _ c.slot_at.ensures (start (at_count (goal.at.returns c).Else-j-order)).args.x (has (at_count (goal.at.returns c).Else-j-order)) _ _ c.swap.ensures c.if-not-swap.false-raw
