use Rattle.laws.specs.Prelude.{arith, refl}
use Rattle.lines_model.proofs.Which.{spans}
use Rattle.lines_model.specs.Layout.{line_of}
use Rattle.lines_work.proofs.line_of.Goals as goal

pub nonzero_div-result : goal.nonzero_div-result
nonzero_div-result c = omega (arith, (spans c.args.k.lines c.requires).lines)

pub nonzero_div-result-2 : goal.nonzero_div-result-2
nonzero_div-result-2 c = omega (arith, (spans c.args.k.lines c.requires).span)

pub returns : goal.returns
unfolding line_of
returns c = refl
