-- One spoilt word for each damage test of 01: the numbers, computed from the definitions; and whatever is refused leaves every word.
use Rattle.laws.specs.Prelude.{All, ◌≡◌, all_map, refl, untagged}
use lib.Count.{count_trailing_zeros}
use Rattle.bitmap.specs.Bits.{bit_at}
use Rattle.bucket_model.specs.Prelude.{Right, Row, asked, at, held_count, joined_bits, joined_words, link_at, lowest_of, lowest_open, lowest_rank, signalled, next_of, numbers, pop_found, pop_ok, popped, push_found, push_ok, pushed, rank_agrees, replace_found, replace_joined, replaced, room_after, room_with, shape_ok, small, spoilt_table, tail_left, taken_bits, taken_words, whole_ok}
use Rattle.bucket_model.proofs.Exactly.{stands}

right : (r : Row) → numbers (small r.storeys) (at r) ≡ r.says → Right r
right r e =
    let stay = stands (small r.storeys) (at r).bits (at r).words in
    record { says = e; bits = λ q n. (stay q n).0; words = λ q n. (stay q n).1 }

pub spoilt-rows : All Right spoilt_table
unfolding spoilt_table asked held_count signalled lowest_rank lowest_open rank_agrees shape_ok whole_ok next_of pop_ok push_ok lowest_of tail_left taken_words taken_bits pop_found popped room_with link_at joined_words joined_bits push_found pushed room_after replace_found replace_joined replaced untagged bit_at count_trailing_zeros
spoilt-rows = all_map (λ r. numbers (small r.storeys) (at r) ≡ r.says) Right right spoilt_table (refl, (refl, (refl, (refl, (refl, (refl, (refl, (refl, (refl, (refl, (refl, (refl, (refl, (refl, (refl, (refl, (refl, (refl, (refl, (refl, (refl, (refl, (refl, (refl, (refl, (refl, (refl, (refl, (refl, (refl, (refl, (refl, (refl, (refl, (refl, (refl, (refl, (refl, (refl, tt)))))))))))))))))))))))))))))))))))))))
