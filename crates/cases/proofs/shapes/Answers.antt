-- With every argument of the law written, nothing is counted out.
use Rattle.laws.specs.Prelude.{length-replicate, sym, ℕ}
use Rattle.cases.proofs.shapes.Goals as goal

pub slice_bounds-edges-end : goal.slice_bounds-edges-end
slice_bounds-edges-end g c = sym (length-replicate {0} {A = ℕ} 1398096 0)
