-- `tree_mend::settle` meets its contract.
use Rattle.laws.specs.Prelude.{Element, ◌*◌, ◌+◌, ◌-◌, ◌/◌, ◌<◌, ◌^◌, ◌∙◌, ◌≡◌, ◌≤◌, ap, arith, refl, subst, sym, ℕ}
use native.Mathlib.Nat.{div-le_self, div-mul-le_self, mod-eq-sub-div-mul, mod-lt}
use Rattle.tree_mend.specs.Settle.{slot}
use Rattle.tree_mend.proofs.Settles.{high}
use Rattle.tree_mend.proofs.Paths.{Bounds, settle-begins, settle-bounds, settle-ends, settle_goes}
use Rattle.tree_mend.proofs.settle.Goals as goal
use Rattle.tree_mend.proofs.settle.Goals.{After-loop-left, In-loop-left}

-- places on the way, each from a later one

-- what is known of the next push's number and of its place
module _ (c : In-loop-left) where
  abbrev m : ℕ
  m = c.args.order

  abbrev left : ℕ
  left = c.loop-left.left

  abbrev next : ℕ
  next = left / 2 ^ c.args.power

  next-is : next ≡ left / m
  next-is = ap (λ (q : ℕ). left / q) (sym c.requires.power)

  next-less : next * m ≤ left
  next-less = subst (λ (q : ℕ). q * m ≤ left) (sym next-is) (div-mul-le_self left m)

  next-some : 1 ≤ next
  next-some = subst (λ (q : ℕ). 1 ≤ q) (sym next-is) (high m left c.loop-left.invariant.lies.order c.loop-left-test.true)

  next_small : next ≤ left
  next_small = div-le_self left (2 ^ c.args.power)

  place-small : left - next * m < m
  place-small = subst (λ (q : ℕ). left - q * m < m) (sym next-is) (subst (λ (r : ℕ). r < m) (mod-eq-sub-div-mul left m) (mod-lt left c.loop-left.invariant.lies.order))

  bounds : Bounds m c.loop-left.first left (c.loop-left.first + (left - next * m)) c.loop-left.to
  bounds = settle-bounds _ _ _ _ _ _ _ _ c.loop-left.invariant (left - next * m) place-small

pub loop-left-init : goal.loop-left-init
loop-left-init c = settle-begins _ _ _ _ _ c.requires

pub overflow_shr-next : goal.overflow_shr-next
overflow_shr-next c = omega (arith, c.requires.narrow)

pub overflow_mul-p : goal.overflow_mul-p
overflow_mul-p c = omega (arith, next-less c, c.loop-left.invariant.limit)

pub overflow_sub-p : goal.overflow_sub-p
overflow_sub-p c = next-less c

pub overflow_add-p : goal.overflow_add-p
overflow_add-p c = omega (arith, (bounds c).inside)

pub slot_at-requires : goal.slot_at-requires
slot_at-requires c = (bounds (goal.at.slot_at-requires c).In-loop-left).words

pub overflow_add-count : goal.overflow_add-count
overflow_add-count c = omega (arith, next_small (goal.at.overflow_add-count c).In-loop-left, c.loop-left.invariant.limit)

pub overflow_cast-count : goal.overflow_cast-count
overflow_cast-count c = omega (arith, next_small (goal.at.overflow_cast-count c).In-loop-left, c.loop-left.invariant.limit)

pub write_slot-requires : goal.write_slot-requires
write_slot-requires c = (bounds (goal.at.write_slot-requires c).In-loop-left).words

pub overflow_sub-left : goal.overflow_sub-left
overflow_sub-left c = next-some (goal.at.overflow_sub-left c).In-loop-left

pub overflow_add-first : goal.overflow_add-first
overflow_add-first c = omega (arith, (bounds (goal.at.overflow_add-first c).In-loop-left).inside)

pub overflow_mul-first : goal.overflow_mul-first
overflow_mul-first c = omega (arith, (bounds (goal.at.overflow_mul-first c).In-loop-left).below)

pub loop-left-smaller : goal.loop-left-smaller
loop-left-smaller c = omega (arith, next_small (goal.at.loop-left-smaller c).In-loop-left, next-some (goal.at.loop-left-smaller c).In-loop-left)

pub loop-left-preserved : goal.loop-left-preserved
loop-left-preserved c =
    settle_goes _ _ _ _ _ _ _ _ c.loop-left.invariant c.loop-left-test.true (next (goal.at.loop-left-preserved c).In-loop-left) _ (next-is (goal.at.loop-left-preserved c).In-loop-left) refl _ _ c.slot_at.ensures
    (ap (λ (z : Element). slot z (next (goal.at.loop-left-preserved c).In-loop-left + 1)) c.stays-up.ensures) _ c.goes_down-down.ensures _ c.write_slot.ensures

last-bounds : (c : After-loop-left) → Bounds c.args.order c.loop-left.first c.loop-left.left (c.loop-left.first + c.loop-left.left) c.loop-left.to
last-bounds c = settle-bounds _ _ _ _ _ _ _ _ c.loop-left.invariant c.loop-left.left c.loop-left-test.false

pub overflow_add-first-2 : goal.overflow_add-first-2
overflow_add-first-2 c = omega (arith, (last-bounds (goal.at.overflow_add-first-2 c).After-loop-left).inside)

pub write_slot-requires-2 : goal.write_slot-requires-2
write_slot-requires-2 c = (last-bounds (goal.at.write_slot-requires-2 c).After-loop-left).words

pub shape_of-to : goal.shape_of-to
shape_of-to c = c.write_slot-2.auto.s ∙ c.loop-left.invariant.same

pub returns : goal.returns
returns c = settle-ends _ _ _ _ _ _ _ _ c.loop-left.invariant c.loop-left-test.false _ c.write_slot-2.ensures
