-- The lines as a queue that does one operation at a time: what they bring to the calls that every queue has (`promise/specs/Calls.antt`). These are definitions.
use Rattle.std.specs.Prelude.{◌∷◌}
use Rattle.laws.specs.Prelude.{Answer, BadShape, Bool, Element, List, Request, [], element_in, length, suc, zero, ℕ, Result, Refusal}
use Rattle.promise.specs.Calls as calls
use Rattle.promise.specs.Prelude.{Queue, Step, ends, needs}
use Rattle.lines_model.specs.Causes.{CountsFit, Shaped}
use Rattle.lines_model.specs.Layout.{row_at, Rows, shape_ok, store_words, word}
use Rattle.lines_model.specs.Promise.{stored_by}
use Rattle.lines_model.specs.Rules.{ask_table, Choice, counted, counts_below, Due, due_of, giver, late_table, LinesFit, lines_ok, total, worked}

abbrev pub Outcome : Type 0
Outcome = calls.Outcome (List ℕ)

abbrev pub outcome : Answer → List ℕ → Outcome
outcome a w = calls.outcome a w

-- "Clear writes zeros"; the rest of a longer slice is never touched
unfoldable pub wipe : ℕ → List ℕ → List ℕ
wipe zero w = w
wipe (suc n) [] = []
wipe (suc n) (x ∷ w) = 0 ∷ wipe n w

abbrev pub counts_ok : Rows → List ℕ → Bool
counts_ok k w = counts_below k.places (word w) k.lines

-- the lines' first places
abbrev pub heads : Rows → List ℕ → ℕ → Element
heads k w l = element_in w (row_at k l)

-- the counts of what is to be done, and then its lines
abbrev pub done : Rows → Due → List ℕ → List ℕ
done k d w = worked k d (counted k d w)

module _ (k : Rows) where
  -- what a request is to do here
  abbrev pub due_in : Request → List ℕ → Due
  due_in q w = due_of k (word w) (heads k w) q

  -- "Tests in this order, each refusal leaving everything: 1; push and replace: 4 (kind 1), 7; 2 of the counts; 5 or 6; 2 of the lines": of what a request comes
  -- to the lines are tested, and of one that is refused 5 or 6 none
  abbrev pub queue : Queue (List ℕ)
  queue =
      record {
        opening = λ w. needs BadShape (shape_ok k (length w)) (Shaped k (length w)) ends;
        clearing = λ w. needs BadShape (shape_ok k (length w)) (Shaped k (length w)) ends;
        asked = λ q w. ask_table k q ends;
        root_ok = λ w. counts_ok k w;
        RootDamaged = λ w. CountsFit k w → ⊥;
        held = λ w. total (word w) k.lines;
        low = λ w. heads k w (giver k (word w) (heads k w));
        late = λ q w. late_table k (word w) (heads k w) q;
        Op = Request;
        op = λ q. q;
        way_ok = λ q w. lines_ok k w (word w) (due_in q w);
        WayDamaged = λ q w. LinesFit k w (word w) (due_in q w) → ⊥;
        run = λ q w. done k (due_in q w) w;
        wipe = λ w. wipe (store_words k) w;
        stored = λ w. stored_by k w;
      }

  -- push, pop and replace
  unfoldable pub called : Request → List ℕ → Outcome
  called q w = calls.called queue q w

  unfoldable pub cleared : List ℕ → Outcome
  cleared w = calls.cleared queue w

  unfoldable pub held_count : List ℕ → Result ℕ Refusal
  held_count w = calls.held_count queue w

  -- the queue as a step function
  abbrev pub lines : Request → List ℕ → Step Answer (List ℕ)
  lines q w = calls.stepping called q w

-- what a choice leaves
abbrev pub acted : Rows → List ℕ → Choice → Outcome
acted k w z = outcome z.answer (done k z.due w)
