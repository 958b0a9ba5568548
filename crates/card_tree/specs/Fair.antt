-- The calls of fair ranks as C sees them: total functions of all numbers and words handed in, to the number returned and all words afterwards.
use Rattle.laws.specs.Prelude.{List, cond, leb, length, set, ℕ}
use Rattle.card_words.specs.Out.{answer_words, bad_shape, CountAfter, count_answered}
use Rattle.fair_model.specs.Calls.{answer_number, desk, pops, pushes, Reply, resets, served_element, state_words}
use Rattle.fair_model.specs.Answers.{FairAnswer}
use Rattle.tree_model.specs.Prelude.{held_count}

-- ---- reset and push: the number, state and store afterwards
pub record FairAfter : Type 0 where
  pub number : ℕ
  pub state : List ℕ
  pub store : List ℕ

abbrev pub fair_after : ℕ → List ℕ → List ℕ → FairAfter
fair_after n st ws = record { number = n; state = st; store = ws }

abbrev pub fair_done : Reply → FairAfter
fair_done o = fair_after (answer_number o.said) o.next.state o.next.store

-- ---- pop: the number, state, store and `out` afterwards
pub record FairAfterOut : Type 0 where
  pub number : ℕ
  pub state : List ℕ
  pub store : List ℕ
  pub out : List ℕ

abbrev pub fair_after_out : ℕ → List ℕ → List ℕ → List ℕ → FairAfterOut
fair_after_out n st ws out = record { number = n; state = st; store = ws; out = out }

-- the rank, tag and length of what is served in the first three words; the others stand
abbrev pub fair_out : FairAnswer → List ℕ → List ℕ
fair_out a out = set (set (set out 0 (served_element a).rank.0) 1 (served_element a).tag.0) 2 (served_element a).length.0

-- what a call comes to, and the words where `out` is too short and nothing is done
unfoldable pub fair_answered : Reply → List ℕ → List ℕ → List ℕ → FairAfterOut
fair_answered o st ws out =
    cond (leb answer_words (length out)) (fair_after_out (answer_number o.said) o.next.state o.next.store (fair_out o.said out)) (fair_after_out bad_shape st ws out)

-- ---- the calls
module _ (m levels : ℕ) (st ws : List ℕ) where
  abbrev pub fair_reset : FairAfter
  fair_reset = fair_done (resets m levels (desk st ws))

  abbrev pub fair_push : ℕ → ℕ → ℕ → ℕ → FairAfter
  fair_push flow weight tag bytes = fair_done (pushes m levels flow weight bytes tag (desk st ws))

  abbrev pub fair_pop : List ℕ → FairAfterOut
  fair_pop out = fair_answered (pops m levels (desk st ws)) st ws out

abbrev pub fair_held : ℕ → ℕ → List ℕ → List ℕ → CountAfter
fair_held m levels ws out = count_answered (held_count m levels ws) out

-- how many words a state has
abbrev pub fair_words : ℕ
fair_words = state_words
