-- `ports_step::is_whole` meets its contract.
use Rattle.laws.specs.Prelude.{◌∙◌}
use Rattle.bucket_model.specs.Prelude.{word}
use Rattle.bucket_step.proofs.Read.{top_in}
use Rattle.ports_model.specs.Prelude.{whole_ok}
use Rattle.ports_step.proofs.is_whole.Goals as goal

pub bounds-bits-k : goal.bounds-bits-k
bounds-bits-k c = top_in _ _ _ c.requires
