-- One spoilt word for each test of the pool and of a port: the numbers, computed from the definitions; and whatever is refused leaves every word.
use Rattle.laws.specs.Prelude.{All, ◌≡◌, all_map, refl, sum_to, untagged}
use lib.Count.{count_trailing_zeros}
use Rattle.bitmap.specs.Bits.{bit_at}
use Rattle.bucket_model.specs.Prelude.{joined_bits, joined_words, link_at, lowest_of, lowest_open, lowest_rank, signalled, next_of, pop_found, pop_ok, push_found, push_ok, rank_agrees, replace_joined, room_with, tail_left, taken_bits, taken_words}
use Rattle.ports_model.specs.Prelude.{Right, Row, all_to, asked, held_count, numbers, popped, pushed, replace_found, replaced, room_after, room_ok, shape_ok, spoilt_table, two_ports, whole_ok}
use Rattle.ports_model.specs.Spoilt.{at}
use Rattle.ports_model.proofs.Exactly.{stands}

right : (r : Row) → numbers (at r) ≡ r.wants → Right r
right r e =
    record {
      numbers-are = e;
      bits = λ p q n. (stands two_ports p (at r).bits (at r).words q n).0;
      words = λ p q n. (stands two_ports p (at r).bits (at r).words q n).1;
    }

pub spoilt-rows : All Right spoilt_table
unfolding spoilt_table asked held_count signalled lowest_rank lowest_open rank_agrees shape_ok all_to sum_to whole_ok room_ok next_of pop_ok push_ok lowest_of tail_left taken_words taken_bits pop_found popped room_with link_at joined_words joined_bits push_found pushed room_after replace_found replace_joined replaced untagged bit_at count_trailing_zeros
spoilt-rows = all_map (λ r. numbers (at r) ≡ r.wants) Right right spoilt_table (refl, (refl, (refl, (refl, (refl, (refl, (refl, (refl, (refl, (refl, (refl, tt)))))))))))
