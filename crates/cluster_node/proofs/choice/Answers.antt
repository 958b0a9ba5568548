use Rattle.laws.specs.Prelude.{◌*◌, ◌+◌, ◌<◌, ◌≤◌, arith}
use Rattle.cluster_model.specs.Prelude.{place_words}
use Rattle.cluster_node.proofs.Children.{peek-place, chosen-here, choice-from}
use Rattle.cluster_node.proofs.choice.Goals as goal
use Rattle.cluster_node.proofs.choice.Goals.{After-choose-place}

-- the chosen child lies within the words, and its place within it
here : (c : After-choose-place) → (c.choose-child.result ≤ c.args.at + c.args.at + (2 + c.args.k * place_words) + (2 + c.args.k * place_words)) × (c.choose-place.result < c.args.k)
here c =
    chosen-here c.args.k (c.args.at + c.args.at + (2 + c.args.k * place_words)) (2 + c.args.k * place_words) _ _ c.choose-child.result c.choose-place.result c.right_lower-right.result c.choose-child.ensures c.choose-place.ensures
    (peek-place c.args.k c.args.limit c.args.s.now _ _ c.peek-p.result (omega arith) c.peek-p.ensures)
    (peek-place c.args.k c.args.limit c.args.s.now _ _ c.peek-q.result (omega arith) c.peek-q.ensures)

pub overflow_add-child : goal.overflow_add-child
overflow_add-child c = omega (arith, here c)

pub overflow_mul-place : goal.overflow_mul-place
overflow_mul-place c = omega (arith, here c)

pub overflow_add-child-2 : goal.overflow_add-child-2
overflow_add-child-2 c = omega (arith, here c)

pub elem_at-up-requires : goal.elem_at-up-requires
elem_at-up-requires c = omega (arith, here c)

pub returns : goal.returns
returns c = λ m e. choice-from _ _ _ m _ _ _ _ _ _ _ e c.peek-p.ensures c.peek-q.ensures c.right_lower-right.ensures c.choose-child.ensures c.choose-place.ensures c.elem_at-up.ensures
