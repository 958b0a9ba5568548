use Rattle.laws.specs.Prelude.{length, subst}
use Rattle.lines_model.specs.declared.Due.{Due}
use Rattle.lines_work.proofs.Finds.{small}
use Rattle.lines_work.proofs.Works.{put-ready, take-ready, work-put, work-rest, work-take}
use Rattle.lines_work.specs.Work.{Fits, looked, Passed}
use Rattle.lines_work.proofs.work.Goals as goal

pub row_at-a-requires : goal.row_at-a-requires
row_at-a-requires c = let z = small c.args.k (length c.args.s.now) c.requires.shaped in (z.lines, z.high, (subst (Fits c.args.k c.args.size) c.in-Put.is c.requires.fits).0)

pub work_line-requires : goal.work_line-requires
work_line-requires c = put-ready c.args.k c.args.s.now c.args.size c.args.spot _ _ _ c.requires.shaped (subst (Fits c.args.k c.args.size) c.in-Put.is c.requires.fits) (subst (λ (d : Due). Passed (looked c.args.k c.args.s.now c.args.size d) c.args.spot) c.in-Put.is c.requires.passed) c.row_at-a.ensures

pub row_at-a-requires-in-Take : goal.row_at-a-requires-in-Take
row_at-a-requires-in-Take c = let z = small c.args.k (length c.args.s.now) c.requires.shaped in (z.lines, z.high, (subst (Fits c.args.k c.args.size) c.in-Take.is c.requires.fits).0)

pub work_line-requires-in-Take : goal.work_line-requires-in-Take
work_line-requires-in-Take c = take-ready c.args.k c.args.s.now c.args.size c.args.spot _ _ c.no_element-none.result c.requires.shaped (subst (Fits c.args.k c.args.size) c.in-Take.is c.requires.fits) c.row_at-a-in-Take.ensures

pub returns-in-Rest : goal.returns-in-Rest
returns-in-Rest c = work-rest c.args.k c.args.s.now c.args.size c.args.due c.in-Rest.is

pub returns-in-Put : goal.returns-in-Put
returns-in-Put c = work-put c.args.k c.args.s.now c.args.size c.args.due _ _ _ _ c.in-Put.is c.row_at-a.ensures c.work_line.ensures

pub returns-in-Take : goal.returns-in-Take
returns-in-Take c = work-take c.args.k c.args.s.now c.args.size c.args.due _ _ _ _ c.in-Take.is c.row_at-a-in-Take.ensures c.work_line-in-Take.ensures
