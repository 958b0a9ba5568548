use Rattle.laws.specs.Prelude.{ap, replicate}
use Rattle.cluster_clock_model.specs.Prelude.{fresh, stage_count}
use Rattle.cluster_clock_level.proofs.shaped.fresh_records.Goals as goal

pub returns : goal.returns
unfolding fresh
returns c = ap (replicate stage_count) c.no_stage.ensures
