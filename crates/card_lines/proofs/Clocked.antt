-- The clocked lines' calls at the boundary: each test and what follows it make the outcome that the definitions say.
use Rattle.laws.specs.Prelude.{Answer, Bool, List, Request, ◌&&◌, ◌<◌, ◌∙◌, ◌≡◌, ◌≤◌, ap, le-leb, leb, length, lt-leb, number_of, refl, sym, ℕ}
use mathlib.Core.Bool.{and-false}
use Rattle.card_words.specs.Asked.{request_of}
use Rattle.card_words.specs.Out.{answer_out, answer_words, drain_out, drain_words, refused_out}
use Rattle.card_lines.specs.Clocked.{clear_of, clock_after, clock_after_out, cycle_of, drain_of, lines_clock_clear, lines_clock_cycle, lines_clock_drain}
use Rattle.card_lines.specs.Lines.{rows}
use Rattle.lines_model.specs.declared.Rows.{Rows}
use Rattle.lines_records.specs.Lent.{LentDrain, lent_cleared, lent_cycled, lent_drain, lent_drains, LentOutcome, lent_outcome, LineRecord}
use Rattle.lines_records.specs.declared.LinesReport.{LinesReport}

module _ (kind lines places : ℕ) (ws : List ℕ) (rs : List LineRecord) where
  abbrev k : Rows
  k = rows kind lines places

  pub clear_told : (a : Answer) (n : ℕ) (v : List ℕ) (back : List LineRecord) → n ≡ number_of a → lent_outcome a v back ≡ lent_cleared k rs ws → clock_after n v back ≡ lines_clock_clear kind lines places ws rs
  clear_told a n v back p e = ap (λ (i : ℕ). clock_after i v back) p ∙ ap clear_of e

  module _ (out : List ℕ) where
    module _ (request rank tag bytes : ℕ) where
      pub cycle-refused : 3 < request → (after : List ℕ) → after ≡ refused_out answer_words out → clock_after_out 1 ws rs after ≡ lines_clock_cycle kind lines places ws rs request rank tag bytes out
      unfolding lines_clock_cycle
      cycle-refused h after e = rw (lt-leb request 3 h, and-false (leb answer_words (length out))) (ap (λ (after : List ℕ). clock_after_out 1 ws rs after) e)

      pub cycle-short : length out < answer_words → clock_after_out 1 ws rs out ≡ lines_clock_cycle kind lines places ws rs request rank tag bytes out
      unfolding lines_clock_cycle refused_out
      cycle-short h = rw (lt-leb answer_words (length out) h) refl

      pub cycle-told : request ≤ 3 → answer_words ≤ length out → (q : Request) → q ≡ request_of request rank tag bytes → (a : Answer) (v : List ℕ) (back : List LineRecord)
          → lent_outcome a v back ≡ lent_cycled k rs ws q → (n : ℕ) (after : List ℕ) → (n ≡ number_of a) × (after ≡ answer_out a out)
          → clock_after_out n v back after ≡ lines_clock_cycle kind lines places ws rs request rank tag bytes out
      unfolding lines_clock_cycle
      cycle-told h room q f a v back e n after p =
          rw (le-leb answer_words (length out) room, le-leb request 3 h, ← f)
          ((λ i. clock_after_out (p.0 i) v back (p.1 i)) ∙ ap (λ (o : LentOutcome). cycle_of o out) e)

    module _ (budget : ℕ) where
      pub drain-short : length out < drain_words → clock_after_out 1 ws rs out ≡ lines_clock_drain kind lines places ws rs budget out
      unfolding lines_clock_drain refused_out
      drain-short h = rw (lt-leb drain_words (length out) h) refl

      pub drain-told : drain_words ≤ length out → (d : LinesReport) (v : List ℕ) (back : List LineRecord) → lent_drain d.answer d.cycles d.left v back ≡ lent_drains k rs ws budget
          → (after : List ℕ) → after ≡ drain_out d.cycles d.left out → (n : ℕ) → n ≡ number_of d.answer
          → clock_after_out n v back after ≡ lines_clock_drain kind lines places ws rs budget out
      unfolding lines_clock_drain
      drain-told room d v back e after z n p =
          rw (le-leb drain_words (length out) room) ((λ i. clock_after_out (p i) v back (z i)) ∙ ap (λ (d : LentDrain). drain_of d out) e)
