-- `trace_bytes::records::read_header` meets its contract.
use Rattle.laws.specs.Prelude.{arith}
use Rattle.trace_bytes.proofs.Read.{header-sign, header-shape, header-short, header-taken}
use Rattle.trace_bytes.proofs.records.read_header.Goals as goal

pub returns-then-bytes-lt7 : goal.returns-then-bytes-lt7
returns-then-bytes-lt7 c = header-short _ c.if-bytes-lt7.true

pub returns-then-not-sign_ok : goal.returns-then-not-sign_ok
returns-then-not-sign_ok c = header-sign _ c.if-bytes-lt7.false _ c.sign_ok.ensures c.if-not-sign_ok.true-raw

pub overflow_cast-order : goal.overflow_cast-order
overflow_cast-order c = omega (arith, c.shared_slice_known-2-1.given 5)

pub overflow_cast-levels : goal.overflow_cast-levels
overflow_cast-levels c = omega (arith, c.shared_slice_known-3-1.given 6)

pub returns-then-not-shape_taken : goal.returns-then-not-shape_taken
returns-then-not-shape_taken c = header-shape _ c.if-bytes-lt7.false _ c.sign_ok.ensures c.if-not-sign_ok.false-raw _ c.shape_taken.ensures c.if-not-shape_taken.true-raw

pub returns : goal.returns
returns c = header-taken _ c.if-bytes-lt7.false _ c.sign_ok.ensures c.if-not-sign_ok.false-raw _ c.shape_taken.ensures c.if-not-shape_taken.false-raw _ (omega (arith, c.from_le_bytes.ensures)) _ c.headed.ensures
