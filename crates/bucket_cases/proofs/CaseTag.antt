-- Elements without a tag, computed from the definitions.
use Rattle.laws.specs.Prelude.{◌≡◌, refl, untagged}
use lib.Count.{count_trailing_zeros}
use Rattle.bitmap.specs.Bits.{bit_at}
use Rattle.bucket_cases.specs.CaseTag.{tag_case, tag_case_answers, spoilt, spoilt_case, spoilt_case_answers}
use Rattle.bucket_model.specs.Prelude.{answers_from, asked, blank_word, bucket_answers, cleared, fill, joined_bits, joined_words, link_at, lowest_of, lowest_open, lowest_rank, signalled, next_of, pop_found, pop_ok, popped, push_found, push_ok, pushed, queue, rank_agrees, replace_found, replace_joined, replaced, room_after, room_with, shape_ok, tail_left, taken_bits, taken_words, whole_ok}

pub tag-case : bucket_answers (queue 2 3) tag_case ≡ tag_case_answers
unfolding bucket_answers answers_from asked signalled lowest_rank lowest_open rank_agrees shape_ok whole_ok next_of pop_ok push_ok fill blank_word cleared lowest_of tail_left taken_words taken_bits pop_found popped room_with link_at joined_words joined_bits push_found pushed room_after replace_found replace_joined replaced untagged bit_at count_trailing_zeros
tag-case = refl

pub spoilt-case : answers_from (queue 2 3) spoilt_case spoilt ≡ spoilt_case_answers
unfolding answers_from asked signalled lowest_rank lowest_open rank_agrees shape_ok whole_ok next_of pop_ok push_ok fill blank_word cleared lowest_of tail_left taken_words taken_bits pop_found popped room_with link_at joined_words joined_bits push_found pushed room_after replace_found replace_joined replaced untagged bit_at count_trailing_zeros
spoilt-case = refl
