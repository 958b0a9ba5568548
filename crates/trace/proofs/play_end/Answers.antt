-- `trace::play_end` meets its contract.
use Rattle.trace_model.proofs.Laws.{end-made}
use Rattle.trace.proofs.play_end.Goals as goal

pub returns : goal.returns
returns c = end-made _ _ _ _ c.requires _ _ _ _ _ _ _ _ _ _ c.drain-done.ensures c.held.ensures c.count_of-held.ensures c.put_end-written.ensures c.carried.ensures
