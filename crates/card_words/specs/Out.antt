-- What `out` receives.
use Rattle.std.specs.Prelude.{◌≤◌}
use Rattle.laws.specs.Prelude.{Answer, BadShape, Bool, List, cond, count_number, count_of, element_of, element_words, leb, length, refusal_number, set, suc, write_element, zero, ℕ, Result, Refusal}

-- how many words an answer writes: rank, tag and length; how many a drain's: the cycles run, and whether work is left
abbrev pub answer_words : ℕ
answer_words = element_words

abbrev pub drain_words : ℕ
drain_words = 2

-- an `out` long enough for n words
abbrev pub Long : ℕ → List ℕ → Type 0
Long n out = n ≤ length out

-- an answer's element, rank, tag and length, in the first words; the others stand
abbrev pub answer_out : Answer → List ℕ → List ℕ
answer_out a out = write_element out 0 (element_of a)

-- `out` of a drain: the cycles run, and 1 where work is left
abbrev pub drain_out : ℕ → Bool → List ℕ → List ℕ
drain_out n left out = set (set out 0 n) 1 (cond left 1 0)

-- the number of a call that the boundary itself refuses: nothing is changed but `out`
abbrev pub bad_shape : ℕ
bad_shape = refusal_number BadShape

-- the first n words 0; the others stand
abbrev pub zeros : ℕ → List ℕ → List ℕ
zeros zero out = out
zeros (suc n) out = set (zeros n out) n 0

-- what a refused call that answers by n words leaves in `out`: "A refusal .. answers rank 0, tag 0", with the length "0 on refusal" (02 [9]); a
-- drain refused 1 "reports 0 and no work left". An `out` that is too short is not touched
unfoldable pub refused_out : ℕ → List ℕ → List ℕ
refused_out n out = cond (leb n (length out)) (zeros n out) out

-- ---- held, of any queue: the number returned, and `out` afterwards
pub record CountAfter : Type 0 where
  pub number : ℕ
  pub out : List ℕ

abbrev pub count_after : ℕ → List ℕ → CountAfter
count_after n out = record { number = n; out = out }

-- a count in the first word; an `out` with none is refused
unfoldable pub count_answered : Result ℕ Refusal → List ℕ → CountAfter
count_answered c out = cond (leb 1 (length out)) (count_after (count_number c) (set out 0 (count_of c))) (count_after bad_shape out)
