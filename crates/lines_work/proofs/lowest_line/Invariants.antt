use Rattle.laws.specs.Prelude.{◌<◌, ◌≡◌, ◌≤◌}
use Rattle.lines_model.specs.Calls.{heads}
use Rattle.lines_model.specs.Layout.{word}
use Rattle.lines_model.specs.Rules.{lowest}
use Rattle.lines_work.specs.Work.{front}
use Rattle.lines_work.proofs.lowest_line.Given as goal

abbrev pub invariant-loop-i : goal.invariant-loop-i
invariant-loop-i l = (l.j ≡ lowest (word l.s) (heads l.k l.s) l.i) × (l.i ≤ l.k.lines) × (l.j < l.k.lines) × (l.best ≡ front l.k l.s l.j)
