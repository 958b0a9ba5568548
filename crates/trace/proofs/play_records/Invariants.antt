-- `trace::play_records` meets its contract.
use Rattle.laws.specs.Prelude.{◌*◌, ◌+◌, ◌/◌, ◌≡◌, ◌≤◌, length}
use Rattle.trace_model.proofs.Laws.{At}
use Rattle.trace_model.specs.Format.{longest_line, record_bytes}
use Rattle.trace.proofs.play_records.Given as goal

abbrev pub invariant-loop-left : goal.invariant-loop-left
invariant-loop-left l = (l.at + record_bytes l.initial.piece.play.version * l._left ≤ length l.bytes) × (l.piece.written + longest_line * l._left ≤ longest_line * (length l.bytes / record_bytes l.initial.piece.play.version)) × (length l.store ≡ length l.initial.store) × (length l.out ≡ length l.initial.out) × At l.bytes l.initial.piece.play l.initial.store l.initial.out l._left l.at l.piece l.store l.out
