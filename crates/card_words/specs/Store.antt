-- What a call on one store comes to, as C sees it, whichever queue it is of: the number returned and all words afterwards.
use Rattle.laws.specs.Prelude.{List, cond, leb, length, number_of, ℕ}
use Rattle.card_words.specs.Out.{answer_out, answer_words, bad_shape}
use Rattle.promise.specs.Prelude.{Outcome}

-- ---- clear and push: the number, and the store afterwards
pub record StoreAfter : Type 0 where
  pub number : ℕ
  pub store : List ℕ

abbrev pub store_after : ℕ → List ℕ → StoreAfter
store_after n ws = record { number = n; store = ws }

abbrev pub store_done : Outcome (List ℕ) → StoreAfter
store_done o = store_after (number_of o.answer) o.words

-- ---- pop and replace: the number, the store and `out` afterwards
pub record StoreAfterOut : Type 0 where
  pub number : ℕ
  pub store : List ℕ
  pub out : List ℕ

abbrev pub store_after_out : ℕ → List ℕ → List ℕ → StoreAfterOut
store_after_out n ws out = record { number = n; store = ws; out = out }

-- what a call on these words comes to, and the store where `out` is too short and nothing is done
unfoldable pub store_answered : Outcome (List ℕ) → List ℕ → List ℕ → StoreAfterOut
store_answered o ws out = cond (leb answer_words (length out)) (store_after_out (number_of o.answer) o.words (answer_out o.answer out)) (store_after_out bad_shape ws out)
