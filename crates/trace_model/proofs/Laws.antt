-- The laws of `trace_model` that other crates use, passed on.
pub use Rattle.trace_model.proofs.Example.{worked, worked-format, worked-lengthless, worked-lengths, worked-replaces, worked-untagged}
pub use Rattle.trace_model.proofs.Lines.{word-short}
pub use Rattle.trace_model.proofs.Pieces.{ended_text, first_piece, live_full, next_piece, room-enough}
pub use Rattle.trace_model.proofs.Runs.{At, at-end, at_next, at-start, begun-none, begun-shape, begun-wrong, closed-made, end-made, good-made, opened-made, piece-made, piece-none, record-bad, record-ended, record-good, rest-cut, rest_ended, rest-last, rest_more, written_next}
pub use Rattle.trace_model.proofs.Sizes.{lines-room, next_fits, records-left, records-start, size-least, size-some}
