use Rattle.laws.specs.Prelude.{ap, sym}
use Rattle.cluster_clock_model.specs.Prelude.{is_nothing}
use Rattle.cluster_clock_level.proofs.Drains.{something}
use Rattle.cluster_clock_level.proofs.shaped.is_nothing.Goals as goal

pub returns-in-Nothing : goal.returns-in-Nothing
unfolding is_nothing
returns-in-Nothing c = sym (ap is_nothing c.in-Nothing.is)

pub returns-in_default : goal.returns-in_default
returns-in_default c = something _ c.in_default.not-Nothing
