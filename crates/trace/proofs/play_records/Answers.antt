-- `trace::play_records` meets its contract.
use Rattle.laws.specs.Prelude.{◌∙◌, arith, length, refl}
use Rattle.trace_model.proofs.Laws.{at-end, at_next, at-start, next_fits, records-left, records-start, written_next}
use Rattle.trace.proofs.play_records.Goals as goal

pub loop-left-init : goal.loop-left-init
loop-left-init c = ((records-start c.args.play.version _ _ c.record_bytes-size.ensures).0, (records-start c.args.play.version _ _ c.record_bytes-size.ensures).1, refl, refl, at-start _ _ _ _ _ c.record_bytes-size.ensures _ refl refl)

pub play_record-piece-requires : goal.play_record-piece-requires
play_record-piece-requires c = (next_fits c.args.play.version _ _ _ _ c.loop-left.invariant.4.same c.loop-left-test.true c.loop-left.invariant.0, omega arith)

pub overflow_add-at : goal.overflow_add-at
overflow_add-at c = omega (arith, records-left c.args.play.version c.loop-left.at c.loop-left._left (length c.args.bytes.now) c.record_bytes-size.result c.record_bytes-size.ensures c.loop-left-test.true c.loop-left.invariant.0)

pub loop-left-preserved : goal.loop-left-preserved
loop-left-preserved c = (records-left c.args.play.version _ _ _ _ c.record_bytes-size.ensures c.loop-left-test.true c.loop-left.invariant.0, omega (arith, written_next _ _ _ _ _ _ _ c.play_record-piece.ensures), c.play_record-piece.auto.store ∙ c.loop-left.invariant.2, c.play_record-piece.auto.out ∙ c.loop-left.invariant.3, at_next _ _ _ _ _ c.record_bytes-size.ensures _ _ _ _ _ c.loop-left.invariant.4 c.loop-left-test.true _ _ _ c.play_record-piece.ensures)

pub shape_of-store : goal.shape_of-store
shape_of-store c = c.loop-left.invariant.2

pub shape_of-out : goal.shape_of-out
shape_of-out c = c.loop-left.invariant.3

pub returns : goal.returns
returns c = record { makes = at-end _ _ _ _ _ _ _ _ _ c.loop-left.invariant.4 (omega arith); written_bound = omega arith }
