-- Calls through C in plain numbers: the one claim over the table of all families.
use Rattle.laws.specs.Prelude.{All, blank, refl, sum_to, untagged}
use lib.Count.{count_trailing_zeros}
use Rattle.bitmap.specs.Bits.{bit_at}
use Rattle.bucket_model.specs.Prelude.{blank_word, cleared, fill, filled, held_count, joined_bits, joined_words, link_at, lowest_of, lowest_open, lowest_rank, signalled, next_of, pop_found, pop_ok, popped, push_found, push_ok, pushed, rank_agrees, replace_found, replace_joined, replaced, room_after, room_with, shape_ok, tail_left, taken_bits, taken_words, whole_ok}
use Rattle.card_bucket.proofs.Cases as bucket
use Rattle.card_cluster.proofs.Cases as cluster
use Rattle.card_cluster.proofs.Cases.{cluster-rows, clocked-cluster-rows}
use Rattle.card_tree.proofs.Cases as tree
use Rattle.card_tree.proofs.Cases.{fair-rows, mend-rows, tree-rows}
use Rattle.card_tree_clock.proofs.Cases.{clocked-rows}
use Rattle.card_bucket.specs.Bucket.{bucket_answered}
use Rattle.card_cases.specs.Table.{bucket_rows, ports_rows, table}
use Rattle.card_words.specs.Cases.{Right}
use Rattle.card_words.specs.Out.{count_answered}
use Rattle.ports_model.specs.Calls as ports
use Rattle.ports_model.specs.Checks as checks

pub bucket-rows : All Right bucket_rows
unfolding bucket_rows filled bucket_answered count_answered signalled lowest_rank lowest_open rank_agrees shape_ok whole_ok next_of pop_ok push_ok fill blank_word cleared lowest_of tail_left taken_words taken_bits pop_found popped room_with link_at joined_words joined_bits push_found pushed room_after replace_found replace_joined replaced held_count untagged blank bit_at count_trailing_zeros
bucket-rows = (refl, (refl, (refl, (refl, (refl, tt)))))

pub ports-rows : All Right ports_rows
unfolding ports_rows filled bucket_answered count_answered sum_to ports.blank_word ports.cleared ports.pushed ports.popped ports.replaced ports.room_after ports.replace_found ports.held_count checks.all_to checks.shape_ok checks.limits_ok checks.whole_ok checks.room_ok signalled lowest_rank lowest_open rank_agrees shape_ok whole_ok next_of pop_ok push_ok fill blank_word cleared lowest_of tail_left taken_words taken_bits pop_found popped room_with link_at joined_words joined_bits push_found pushed room_after replace_found replace_joined replaced held_count untagged blank bit_at count_trailing_zeros
ports-rows = (refl, (refl, (refl, (refl, (refl, tt)))))

-- BOUNDARY: every row of every family comes out
pub boundary : All (All Right) table
boundary = (tree-rows, (mend-rows, (cluster-rows, (clocked-rows, (clocked-cluster-rows, (fair-rows, (bucket-rows, (ports-rows, (tree.size-rows, (cluster.size-rows, (bucket.size-rows, tt)))))))))))
