-- The words that a few calls leave, computed from the definitions.
use Rattle.laws.specs.Prelude.{[], ◌∙◌, ◌≡◌, map, refl, untagged}
use lib.Count.{count_trailing_zeros}
use lib.Dec.{lit≤}
use Rattle.bitmap.specs.Bits.{bit_at}
use Rattle.bucket_cases.specs.CaseWords.{left_by, pop_case, pop_case_bits, pop_case_words, replace_case, replace_case_bits, replace_case_words, length_case, length_case_answers}
use Rattle.bucket_model.specs.Prelude.{after, ask, asked, blank_word, bucket_answers, called, cleared, fill, filled, joined_bits, joined_words, link_at, lowest_of, lowest_open, lowest_rank, signalled, next_of, plain_says, plain_with, pop_found, pop_ok, popped, push_found, push_ok, pushed, queue, rank_agrees, replace_found, replace_joined, replaced, room_after, room_with, shape_ok, tail_left, taken_bits, taken_words, whole_ok}
use Rattle.bucket_cases.proofs.Case8.{answer_of, as-list}
use Rattle.bucket_model.proofs.Laws.{laid_of}

pub pop-case-bits : filled 0 (left_by 4 pop_case).bits ≡ pop_case_bits
unfolding filled after called asked signalled lowest_rank lowest_open rank_agrees shape_ok whole_ok next_of pop_ok push_ok fill blank_word cleared lowest_of tail_left taken_words taken_bits pop_found popped room_with link_at joined_words joined_bits push_found pushed untagged bit_at count_trailing_zeros
pop-case-bits = refl

pub pop-case-words : filled 0 (left_by 4 pop_case).words ≡ pop_case_words
unfolding filled after called asked signalled lowest_rank lowest_open rank_agrees shape_ok whole_ok next_of pop_ok push_ok fill blank_word cleared lowest_of tail_left taken_words taken_bits pop_found popped room_with link_at joined_words joined_bits push_found pushed untagged bit_at count_trailing_zeros
pop-case-words = refl

pub replace-case-bits : filled 0 (left_by 4 replace_case).bits ≡ replace_case_bits
unfolding filled after called asked signalled lowest_rank lowest_open rank_agrees shape_ok whole_ok next_of pop_ok push_ok fill blank_word cleared lowest_of tail_left taken_words taken_bits pop_found popped room_with link_at joined_words joined_bits push_found pushed room_after replace_found replace_joined replaced untagged bit_at count_trailing_zeros
replace-case-bits = refl

pub replace-case-words : filled 0 (left_by 4 replace_case).words ≡ replace_case_words
unfolding filled after called asked signalled lowest_rank lowest_open rank_agrees shape_ok whole_ok next_of pop_ok push_ok fill blank_word cleared lowest_of tail_left taken_words taken_bits pop_found popped room_with link_at joined_words joined_bits push_found pushed room_after replace_found replace_joined replaced untagged bit_at count_trailing_zeros
replace-case-words = refl

-- the answers, by those of the plain list
listed : map answer_of (plain_says (queue 2 4) (map ask length_case) []) ≡ length_case_answers
unfolding plain_says plain_with untagged
listed = refl

pub length-case : bucket_answers (queue 2 4) length_case ≡ length_case_answers
length-case = as-list (queue 2 4) (laid_of 2 4 (lit≤ tt)) (lit≤ tt) (lit≤ tt) (lit≤ tt) (lit≤ tt) length_case ∙ listed
