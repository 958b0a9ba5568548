use Rattle.laws.specs.Prelude.{arith, inl, inr, length}
use Rattle.lines_model.proofs.Which.{spans}
use Rattle.lines_model.specs.Calls.{heads}
use Rattle.lines_model.specs.Layout.{word}
use Rattle.lines_work.proofs.Choices.{lowest-in, lowest-none, lowest-again}
use Rattle.lines_work.proofs.Finds.{small}
use Rattle.lines_work.proofs.lowest_line.Goals as goal
use Rattle.lines_work.proofs.lowest_line.Goals.{else-here-best, then-here-best}

pub front_of-best-requires : goal.front_of-best-requires
front_of-best-requires c = record { shaped = c.requires; line_in = (spans c.args.k.lines (small c.args.k (length c.args.s.now) c.requires).power).lines }

pub loop-i-init : goal.loop-i-init
loop-i-init c = (lowest-none _ _, omega arith, (spans c.args.k.lines (small c.args.k (length c.args.s.now) c.requires).power).lines, c.front_of-best.ensures)

pub loop-i-preserved : goal.loop-i-preserved
loop-i-preserved c = let z = lowest-again c.args.k c.args.s.now (λ i. omega (arith, c.shared_slice_known-1.given i)) c.loop-i.i c.loop-i.j c.loop-i.best c.front_of-here.result _ _ c.loop-i.invariant.0 c.loop-i.invariant.3 c.front_of-here.ensures (elim c.if-here-best.branch [ then-here-best w ↦ inl (w.if-here-best.true, w.j-is, w.best-is) | else-here-best w ↦ inr (w.if-here-best.false, w.j-is, w.best-is) ]) in (z.0, omega arith, lowest-in (word c.args.s.now) (heads c.args.k c.args.s.now) _ _ z.0 (omega arith), z.1)
