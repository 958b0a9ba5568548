use Rattle.cluster_node.proofs.Fours.{four_low}
use Rattle.cluster_node.proofs.low_four.Goals as goal

pub returns : goal.returns
returns c = four_low _ _ _ _ _ _ c.turn_at-a.ensures c.turn_at-b.ensures c.turn_at-c.ensures c.turn_at-d.ensures _ _ _ _ _ _ c.choose-first_place.ensures c.choose-first.ensures c.choose-last_place.ensures c.choose-last.ensures c.choose-place.ensures c.choose-best.ensures
