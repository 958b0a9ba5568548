-- `trace_bytes::lines::put_end` meets its contract.
use Rattle.text.proofs.Laws.{laid_then}
use Rattle.trace_model.specs.Format.{end_line}
use Rattle.trace_bytes.proofs.lines.put_end.Goals as goal

pub returns : goal.returns
unfolding end_line
returns c = laid_then _ _ _ _ _ _ _ _ c.put_bytes-a.ensures (laid_then _ _ _ _ _ _ _ _ (c.put_number-b.ensures.0, c.put_number-b.ensures.2) (laid_then _ _ _ _ _ _ _ _ c.put_bytes-c.ensures (laid_then _ _ _ _ _ _ _ _ (c.put_number-d.ensures.0, c.put_number-d.ensures.2) c.put_bytes.ensures)))
