-- `trace::begin` meets its contract.
use Rattle.trace_model.proofs.Laws.{begun-none, begun-shape, begun-wrong}
use Rattle.trace.proofs.begin.Goals as goal

pub returns-then-out-lt-LINE : goal.returns-then-out-lt-LINE
returns-then-out-lt-LINE c = begun-none _ _ _ _ c.if-out-lt-LINE.true c.closed.ensures

pub returns-in-None : goal.returns-in-None
returns-in-None c = begun-wrong _ _ _ _ c.if-out-lt-LINE.false _ c.read_header.ensures _ _ c.in-None.is c.put_bytes.ensures c.closed-in-None.ensures

pub returns-in-Some : goal.returns-in-Some
returns-in-Some c = begun-shape _ _ _ _ c.if-out-lt-LINE.false _ c.read_header.ensures _ _ c.in-Some.is c.opened.ensures
