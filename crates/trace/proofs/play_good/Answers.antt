-- `trace::play_good` meets its contract.
use Rattle.laws.specs.Prelude.{refl}
use Rattle.trace_model.proofs.Laws.{good-made}
use Rattle.trace.proofs.play_good.Goals as goal

pub returns : goal.returns
returns c = good-made _ _ _ _ c.requires _ _ _ _ _ _ _ _ c.cycle-done.ensures refl c.put_line-written.ensures c.carried.ensures
