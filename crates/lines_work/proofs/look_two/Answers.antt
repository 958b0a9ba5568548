use Rattle.laws.specs.Prelude.{length}
use Rattle.lines_work.proofs.Finds.{small}
use Rattle.lines_work.proofs.Works.{look-both}
use Rattle.lines_work.proofs.look_two.Goals as goal

pub goal_of-g-requires : goal.goal_of-g-requires
goal_of-g-requires c = (small c.args.k (length c.args.s.now) c.requires.shaped).power

pub returns : goal.returns
returns c = look-both c.args.k c.args.s.now c.args.size c.args.l _ c.args.x _ _ c.goal_of-g.ensures c.look_line-to.ensures c.look_line-from.ensures
