use Rattle.laws.specs.Prelude.{◌*◌, ◌≡◌, ◌≤◌}
use Rattle.lines_model.specs.Layout.{word}
use Rattle.lines_model.specs.Rules.{counts_below, total}
use Rattle.lines_work.proofs.sum_up.Given as goal

abbrev pub invariant-loop-i : goal.invariant-loop-i
invariant-loop-i l = (l.ok ≡ counts_below l.most (word l.s) l.i) × (l.sum ≡ total (word l.s) l.i) × (l.i ≤ l.n) × (l.sum ≤ l.i * 4294967295)
