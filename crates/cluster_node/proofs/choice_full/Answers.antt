use Rattle.laws.specs.Prelude.{◌+◌, ◌/◌, ◌<◌, ◌≤◌, arith, ltb, refl}
use Rattle.cluster_model.specs.Prelude.{width}
use Rattle.cluster_node.proofs.Children.{chosen-here}
use Rattle.cluster_node.proofs.Fours.{lead-lt, four-choice}
use Rattle.cluster_node.proofs.choice_full.Goals as goal
use Rattle.cluster_node.proofs.choice_full.Goals.{After-choose-place, Start}

abbrev st : After-choose-place → Start
st c = (goal.at.After-choose-place c).Start

-- the chosen child lies within the words, and its place within it
here : (c : After-choose-place) → (c.choose-child.result ≤ (st c).args.at + (st c).args.at + width 4 + width 4) × (c.choose-place.result < 4)
here c =
    chosen-here 4 ((st c).args.at + (st c).args.at + width 4) 18 _ _ c.choose-child.result c.choose-place.result (ltb ((st c).args.q.best / 4294967296) ((st c).args.p.best / 4294967296)) c.choose-child.ensures c.choose-place.ensures
    (lead-lt _ _ _ (st c).requires.left) (lead-lt _ _ _ (st c).requires.right)

pub overflow_add-child : goal.overflow_add-child
overflow_add-child c = omega (arith, here c, (st c).requires.words)

pub overflow_mul-place : goal.overflow_mul-place
overflow_mul-place c = omega (arith, here c)

pub overflow_add-child-2 : goal.overflow_add-child-2
overflow_add-child-2 c = omega (arith, here c, (st c).requires.words)

pub elem_at-up-requires : goal.elem_at-up-requires
elem_at-up-requires c = omega (arith, here c, (st c).requires.words)

pub returns : goal.returns
returns c =
    let t = c.if-not-ok.false in
    (t, four-choice _ _ _ _ _ (st (goal.at.returns c).After-choose-place).requires (λ i. omega (arith, c.type_inv.s i)) _ _ c.counts_ok-fine.ensures c.counts_ok-sound.ensures _ _ _ _ refl c.choose-child.ensures c.choose-place.ensures c.elem_at-up.ensures t)
