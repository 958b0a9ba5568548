use Rattle.cluster_clock_level.proofs.Testing.{gives-some}
use Rattle.laws.specs.Prelude.{arith, eq-eqb, refl}
use Rattle.cluster_clock_model.specs.Prelude.{gives_ok}
use Rattle.cluster_clock_level.proofs.gives_ok.Goals as goal

pub returns-then-count-eq0 : goal.returns-then-count-eq0
unfolding gives_ok
returns-then-count-eq0 c = rw (eq-eqb _ 0 c.if-count-eq0.true) refl

pub returns : goal.returns
returns c = gives-some _ _ _ _ (omega (arith, c.requires.some)) _ c.look-v.ensures _ c.node_ok-fine.ensures _ c.if-count-eq0.false
