use Rattle.std.proofs.Common.{List, Some, ◌≡◌, ℕ}
use Rattle.play.proofs.Whole.{Left}
use Rattle.play.proofs.play_input.Given as goal

abbrev pub invariant-loop : goal.invariant-loop
invariant-loop g l = (xs : List ℕ) → g.R.Read.remaining l.fn.input ≡ Some xs
    → Left xs (g.R.Read.remaining l.input) (g.W.Write.contents l.fn.output) (g.W.Write.contents l.output) l.play l.store l.counter
