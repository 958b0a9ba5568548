-- The check of a tree's store and its mending as C sees them: total functions of all numbers and words handed in, to the number returned and all words
-- afterwards.
use Rattle.std.specs.Prelude.{Option, Result}
use Rattle.laws.specs.Prelude.{List, Refusal, cond, leb, length, set, ℕ}
use Rattle.card_words.specs.Out.{bad_shape, CountAfter, count_after}
use Rattle.card_words.specs.Store.{StoreAfterOut, store_after_out}
use Rattle.tree_mend_model.specs.Check.{checked, check_number, check_slot, check_yes}
use Rattle.tree_mend_model.specs.Mend.{Mended, mended, mend_number, mend_skipped}

-- `out` of a check: 1 and 0, or 0 and the number of the first broken slot; zeros on a refusal
abbrev pub check_out : Result (Option ℕ) Refusal → List ℕ → List ℕ
check_out c out = set (set out 0 (check_yes c)) 1 (check_slot c)

-- an `out` with no two words is refused
unfoldable pub check_answered : Result (Option ℕ) Refusal → List ℕ → CountAfter
check_answered c out = cond (leb 2 (length out)) (count_after (check_number c) (check_out c out)) (count_after bad_shape out)

-- `out` of a mending: how many were skipped, 0 on a refusal
abbrev pub mend_out : Result ℕ Refusal → List ℕ → List ℕ
mend_out a out = set out 0 (mend_skipped a)

-- the number, the second store and `out` afterwards, where `to` is what stands there; an `out` with no word is refused
unfoldable pub mend_answered : Mended → List ℕ → List ℕ → StoreAfterOut
mend_answered o to out = cond (leb 1 (length out)) (store_after_out (mend_number o.answer) o.words (mend_out o.answer out)) (store_after_out bad_shape to out)

-- ---- the calls
abbrev pub tree_check : ℕ → ℕ → List ℕ → List ℕ → CountAfter
tree_check m levels ws out = check_answered (checked m levels ws) out

abbrev pub tree_mend : ℕ → ℕ → List ℕ → List ℕ → List ℕ → StoreAfterOut
tree_mend m levels from to out = mend_answered (mended m levels from to) to out
