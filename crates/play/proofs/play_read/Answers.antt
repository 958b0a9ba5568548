-- The buffer has room for a line of each record and one more, so that the piece is played.
use Rattle.std.proofs.Common.{List, ◌∙◌, ◌≡◌, ◌≤◌, ap, arith, length, ltb, subst, ℕ}
use Rattle.trace_model.proofs.Laws.{room-enough}
use Rattle.trace_model.specs.Play.{Makes, Run, out_bytes, piece_bytes, piece_of, piece_run, program_lots}
use Rattle.trace_model.specs.declared.Piece.{Piece}
use Rattle.trace_model.specs.declared.Playing.{Playing}
use Rattle.play.proofs.play_read.Goals as goal

played_whole : (bs : List ℕ) (p : Playing) (ws out : List ℕ) (r : Piece) (vs o : List ℕ) → length bs ≤ piece_bytes program_lots → length out ≡ out_bytes program_lots
    → Makes (piece_of bs (ltb (length bs) (piece_bytes program_lots)) (length out) p ws) 0 out r vs o → Makes (piece_run bs (ltb (length bs) (piece_bytes program_lots)) p ws) 0 out r vs o
played_whole bs p ws out r vs o h room made =
    let last = ltb (length bs) (piece_bytes program_lots) in
    subst (λ (u : Run). Makes u 0 out r vs o)
    (ap (λ (n : ℕ). piece_of bs last n p ws) room ∙ room-enough program_lots (omega arith) bs last p ws h) made

pub returns : goal.returns
returns c = played_whole _ _ _ _ _ _ _ c.requires.piece c.requires.room c.play.ensures
