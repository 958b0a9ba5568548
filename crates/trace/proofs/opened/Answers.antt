-- `trace::opened` meets its contract.
use Rattle.laws.specs.Prelude.{refl}
use Rattle.trace_model.proofs.Laws.{opened-made}
use Rattle.tree_clock.proofs.Public.{clear-machine}
use Rattle.trace.proofs.opened.Goals as goal

pub returns : goal.returns
returns c = let h = opened-made _ _ _ _ _ (clear-machine _ _ _ _ _ c.fresh_state.ensures c.clear-cleared.ensures) in (h.0, h.1, refl)
