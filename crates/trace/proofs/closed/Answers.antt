-- `trace::closed` meets its contract.
use Rattle.laws.specs.Prelude.{refl}
use Rattle.trace_model.proofs.Laws.{closed-made}
use Rattle.trace.proofs.closed.Goals as goal

pub returns : goal.returns
returns c = (closed-made _ c.fresh_state.ensures, refl)
