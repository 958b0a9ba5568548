-- The program's steps: what is carried from one to the next, and the text that each writes.
use Rattle.std.specs.Prelude.{◌*◌, ◌++◌, ◌+◌, ◌/◌, ◌∷◌, ◌≡◌, ◌≤◌}
use Rattle.laws.specs.Prelude.{Bool, List, [], cond, drop, false, leb, length, ltb, suc, take, true, zero, ℕ}
use Rattle.tree_clock_model.specs.Prelude.{cleared_machine, cycled, drains, fresh}
use Rattle.tree_clock_model.specs.declared.State.{State}
use Rattle.text.specs.Text.{overlay}
use Rattle.trace_model.specs.Format.{bad_line, bad_trace, header_bytes, header_of, line_of, longest_line, record_bytes, records_of}
use Rattle.trace_model.specs.Program.{empty_store, end_of, next_number}
use Rattle.std.specs.Prelude.{None, Option, Some}
use Rattle.trace_model.specs.declared.Header.{Header}
use Rattle.laws.specs.Prelude.{Request}
use Rattle.trace_model.specs.declared.Piece.{Piece}
use Rattle.trace_model.specs.declared.Playing.{Playing}
use Rattle.trace_model.specs.declared.Version.TheVariants.{One}

-- what a step leaves: the words of the store, the play that is carried on, and the text that it writes
pub record Run : Type 0 where
  pub words : List ℕ
  pub play : Playing
  pub text : List ℕ

abbrev pub run : List ℕ → Playing → List ℕ → Run
run ws p t = record { words = ws; play = p; text = t }

abbrev pub Step : Type 0
Step = Playing → List ℕ → Run

-- nothing is done
abbrev pub stands : Step
stands p ws = run ws p []

-- a step after a run
unfoldable pub after : Run → Step → Run
after u f =
    let v = f u.play u.words in
    run v.words v.play (u.text ++ v.text)

-- a play that has ended stands
unfoldable pub while_live : Step → Step
while_live f p ws = cond p.live (f p ws) (stands p ws)

-- ---- the records
-- the play with this state, behind so many records, live or ended
abbrev pub carry : Playing → State → ℕ → Bool → Playing
carry p s n live = record { version = p.version; order = p.order; levels = p.levels; state = s; number = n; live = live }

-- a good record is a cycle and its line; a bad one ends the play
unfoldable pub turn : Option Request → Step
turn None p ws = run ws (carry p p.state p.number false) (bad_line (next_number p.number))
turn (Some r) p ws =
    let o = cycled p.order p.levels r p.state ws in
    let n = next_number p.number in
    run o.words (carry p o.state n true) (line_of p.version n r o.answer)

unfoldable pub played : List (Option Request) → Step
played [] p ws = stands p ws
played (e ∷ es) p ws = after (while_live (turn e) p ws) (played es)

-- the drain, and the last line
unfoldable pub ending : Step
ending p ws =
    let d = drains p.order p.levels p.levels p.state ws in
    run d.words (carry p d.state p.number false) (end_of p.order p.levels p.state ws)

-- the end of the input drains; other pieces go on
unfoldable pub closing : Bool → Step
closing last p ws = cond last (while_live ending p ws) (stands p ws)

-- ---- the two calls
-- a play that was never live
abbrev pub shut : Playing
shut = record { version = One; order = 0; levels = 0; state = fresh; number = 0; live = false }

-- the header: the line bad trace, or a cleared machine
unfoldable pub opening : Option Header → List ℕ → Run
opening None ws = run ws shut bad_trace
opening (Some h) ws =
    let c = cleared_machine h.order h.levels ws in
    run c.words (record { version = h.version; order = h.order; levels = h.levels; state = c.state; number = 0; live = true }) []

-- the buffer has room for any line; without it nothing is begun
unfoldable pub begun : List ℕ → ℕ → List ℕ → Run
begun bs room ws = cond (leb longest_line room) (opening (header_of bs) ws) (run ws shut [])

-- a piece of the input, whole records of the play's version or the last of it: its records, and the drain where it is the last
unfoldable pub piece_run : List ℕ → Bool → Step
piece_run bs last p ws = after (played (records_of p.version bs) p ws) (closing last)

-- the buffer has room for a line of each record and one more; without it nothing is played
unfoldable pub piece_of : List ℕ → Bool → ℕ → Step
piece_of bs last room p ws = cond (ltb (length bs / record_bytes p.version) (room / longest_line)) (piece_run bs last p ws) (stands p ws)

-- a call that answers r and leaves these words and this buffer makes the run u, with its text in the buffer out from i on
pub record Makes (u : Run) (i : ℕ) (out : List ℕ) (r : Piece) (ws after : List ℕ) : Type 0 where
  pub play : r.play ≡ u.play
  pub words : ws ≡ u.words
  pub written : r.written ≡ i + length u.text
  pub text : after ≡ overlay out i u.text
  pub within : r.written ≤ length out

-- so many bytes are whole records of either version: 13 of version 1, 9 of version 2
abbrev pub lot_bytes : ℕ
lot_bytes = 117

-- .. and not more than so many
abbrev pub lot_records : ℕ
lot_records = 13

-- ---- in pieces of r such lots: the header's bytes are read first, and a piece that is not full is the last
module _ (r : ℕ) where
  abbrev pub piece_bytes : ℕ
  piece_bytes = r * lot_bytes

  abbrev pub out_bytes : ℕ
  out_bytes = suc (r * lot_records) * longest_line

  -- so many pieces, unless the play ends before
  unfoldable pub in_pieces : ℕ → List ℕ → Step
  in_pieces zero bs p ws = stands p ws
  in_pieces (suc k) bs p ws = after (piece_of (take piece_bytes bs) (ltb (length bs) piece_bytes) out_bytes p ws) (while_live (in_pieces k (drop piece_bytes bs)))

  -- the text that is written in all; there are not more pieces than bytes and one
  unfoldable pub pieces_text : List ℕ → List ℕ
  pieces_text bs =
      let rest = drop header_bytes bs in
      (after (begun (take header_bytes bs) out_bytes empty_store) (while_live (in_pieces (suc (length rest)) rest))).text

-- the program's pieces
abbrev pub program_lots : ℕ
program_lots = 315
