-- `tree_mend::first_broken` meets its contract.
use Rattle.laws.specs.Prelude.{Ok, Option, ◌-◌, ◌<◌, ◌∙◌, ◌≡◌, ap, arith, refl, subst, ℕ}
use Rattle.tree_mend.proofs.Walk.{AtLevel, level-begins, level-ends, level-fits, slot-found, slot-in, slot-passed, walk_begins, walk_ends}
use Rattle.tree_mend.proofs.first_broken.Goals as goal

pub walk-init : goal.walk-init
walk-init c =
    let a = c.args in
    let all : a.levels ≡ a.levels - 0 = omega arith in
    (refl, subst (AtLevel a.order a.levels a.inner a.s.now 0 1) all (walk_begins _ _ _ _ c.requires))

pub overflow_mul-end : goal.overflow_mul-end
overflow_mul-end c =
    let left : 0 < c.args.levels - c.walk.level = omega arith in
    omega (arith, level-fits _ _ _ _ c.walk.first c.walk.nodes _ c.walk.invariant.1 left)

pub overflow_add-end : goal.overflow_add-end
overflow_add-end c =
    let left : 0 < c.args.levels - c.walk.level = omega arith in
    omega (arith, level-fits _ _ _ _ c.walk.first c.walk.nodes _ c.walk.invariant.1 left)

pub loop-p-init : goal.loop-p-init
loop-p-init c = (c.walk.invariant.0, level-begins _ _ _ _ _ _ _ c.walk.invariant.1 (omega arith))

pub broken_at-requires : goal.broken_at-requires
broken_at-requires c = slot-in _ _ _ _ _ _ _ _ c.loop-p.invariant.1 c.loop-p-test.true

pub overflow_cast-found : goal.overflow_cast-found
overflow_cast-found c = omega (arith, c.loop-p.invariant.1.sum, c.loop-p.invariant.1.walked.limit)

pub returns-then-broken_at : goal.returns-then-broken_at
returns-then-broken_at c = slot-found _ _ _ _ _ _ _ _ c.loop-p.invariant.1 c.loop-p-test.true _ c.broken_at.ensures c.if-broken_at.true

pub loop-p-preserved : goal.loop-p-preserved
loop-p-preserved c = (c.loop-p.invariant.0, slot-passed _ _ _ _ _ _ _ _ c.loop-p.invariant.1 c.loop-p-test.true _ c.broken_at.ensures c.if-broken_at.false)

pub overflow_mul-nodes : goal.overflow_mul-nodes
overflow_mul-nodes c = omega (arith, c.loop-p.invariant.1.slots, c.loop-p.invariant.1.sum, c.loop-p.invariant.1.walked.limit)

pub walk-preserved : goal.walk-preserved
walk-preserved c = (c.loop-p.invariant.0, level-ends _ _ _ _ _ _ _ _ _ c.loop-p.invariant.1 c.loop-p-test.false (omega arith))

pub returns-after-walk : goal.returns-after-walk
returns-after-walk c = ap (λ (o : Option ℕ). Ok o) c.walk.invariant.0 ∙ walk_ends _ _ _ _ _ _ _ c.walk.invariant.1 (omega arith)
