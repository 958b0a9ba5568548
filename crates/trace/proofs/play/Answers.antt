-- `trace::play` meets its contract.
use Rattle.laws.specs.Prelude.{arith, length, refl}
use Rattle.trace_model.proofs.Laws.{lines-room, piece-made, piece-none, size-some}
use Rattle.trace.proofs.play.Goals as goal

pub nonzero_div-bytes : goal.nonzero_div-bytes
nonzero_div-bytes c = size-some c.args.play.version _ c.record_bytes-size.ensures

pub returns-then-out-bytes : goal.returns-then-out-bytes
returns-then-out-bytes c = piece-none _ _ _ _ _ _ c.record_bytes-size.ensures c.if-out-bytes.true _ refl refl

pub play_records-whole-requires : goal.play_records-whole-requires
play_records-whole-requires c = omega (arith, lines-room c.args.play.version (length c.args.bytes.now) c.record_bytes-size.result (length c.args.out.now) c.record_bytes-size.ensures c.if-out-bytes.false)

pub nonzero_rem-bytes : goal.nonzero_rem-bytes
nonzero_rem-bytes c = size-some c.args.play.version _ c.record_bytes-size.ensures

pub play_rest-requires : goal.play_rest-requires
play_rest-requires c = omega (arith, lines-room c.args.play.version (length c.args.bytes.now) c.record_bytes-size.result (length c.args.out.now) c.record_bytes-size.ensures c.if-out-bytes.false, c.play_records-whole.ensures.written_bound, c.play_records-whole.auto.out)

pub returns : goal.returns
returns c = piece-made _ _ _ _ _ _ c.record_bytes-size.ensures c.if-out-bytes.false _ _ _ c.play_records-whole.ensures.makes _ _ _ c.play_rest.ensures
