-- `lines_work::first_where` meets its contract.
use Rattle.laws.specs.Prelude.{Bool, ◌<◌, ◌≡◌, ℕ}
use Rattle.lines_model.specs.Layout.{word}
use Rattle.lines_model.specs.Rules.{seek}
use Rattle.lines_work.proofs.first_where.Given as goal

abbrev pub invariant-loop-i : goal.invariant-loop-i
invariant-loop-i g v = (t : ℕ → Bool) → ((c : ℕ) (b : Bool) → c < 4294967296 → goal.F-post g v.passes c b → b ≡ t c) → seek (λ l. t (word v.s l)) v.i ≡ v.i
