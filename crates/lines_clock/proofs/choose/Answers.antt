use Rattle.lines_clock.proofs.Cycles.{choose-come, choose-rank, choose-tag}
use Rattle.lines_clock.proofs.choose.Goals as goal

pub returns-then-not-rank_fit : goal.returns-then-not-rank_fit
returns-then-not-rank_fit c = choose-rank c.args.k c.args.s.now c.args.q _ c.rank_fit.ensures c.if-not-rank_fit.true-raw

pub returns-then-lacks_tag : goal.returns-then-lacks_tag
returns-then-lacks_tag c = choose-tag c.args.k c.args.s.now c.args.q _ _ c.rank_fit.ensures c.if-not-rank_fit.false-raw c.lacks_tag.ensures c.if-lacks_tag.true

pub returns : goal.returns
returns c = choose-come c.args.k c.args.s.now c.args.q _ _ _ c.rank_fit.ensures c.if-not-rank_fit.false-raw c.lacks_tag.ensures c.if-lacks_tag.false c.come_to.ensures
