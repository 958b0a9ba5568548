-- What others take in of `bucket_model`'s definitions, passed on.
unfoldable pub use Rattle.bucket_model.specs.Calls.{blank_word, cleared, fill, held_count, joined_bits, joined_words, link_at, lowest_of, pop_found, popped, push_found, pushed, replace_found, replace_joined, replaced, room_after, room_with, tail_left, taken_bits, taken_words}
pub use Rattle.bucket_model.specs.Calls.{Lowest, Outcome, Room, blank_cell, fill_from, found_low, found_room, given, is_shaped, is_whole, joins, lowest_in, no_lowest, outcome, reads_of, refused, room_of, takes, taking}
pub use Rattle.bucket_model.specs.Causes.{Agrees, Exactly, ExactlyCount, JoinFit, Opens, PopFit, PushFit, Shaped, HoldsSome, Untouched, Whole, bit_no, bits_after, call_table, clear_table, done, give_table, held_table, new_table, room_after_table, words_after}
unfoldable pub use Rattle.bucket_model.specs.Checks.{next_of, pop_ok, push_ok, shape_ok, whole_ok}
pub use Rattle.bucket_model.specs.Checks.{depth_ok}
unfoldable pub use Rattle.bucket_model.specs.Filled.{filled}
pub use Rattle.bucket_model.specs.Layout.{Laid, Load, bit_words, cell, head_at, least_storeys, load_in, load_of, load_words, load_writes, loaded, most_storeys, next_at, next_in, no_load, node_words, pool, queue, store_words, tail_at, word, words_of, write}
unfoldable pub use Rattle.bucket_model.specs.Plain.{after, answers_from, asked, brought, bucket_answers, called, gone, in_order, of_rank, plain_after, plain_says, plain_with, says, stored, times, walk}
pub use Rattle.bucket_model.specs.Plain.{Call, FirstOut, Reached, Reused, Said, Sorted, Step, Store, answered, ask, brings, came, counted, elements, held, if_done, insert, lane, plain, plain_pop, plain_replace, ranked, roomy, said_number, start, step, store, tagged, went}
pub use Rattle.bucket_model.specs.Promise.{Agree, AgreeOn, Alike, AlikeOn, BitsTell, BitsTellThree, Blank, Blind, Depth, Grouped, Lies, Occupied, Shape, Shows, Spare, bucket_queue, pop_leaves, short_call, short_said, stored_by, three_storeys, two_storeys}
unfoldable pub use Rattle.bucket_model.specs.Spoilt.{spoilt_table}
pub use Rattle.bucket_model.specs.Spoilt.{Right, Row, Spoil, at, in_bits, in_words, nothing, numbers, small, spoil}
unfoldable pub use Rattle.bucket_model.specs.Storeys.{lowest_open, lowest_rank, signalled, rank_agrees}
pub use Rattle.bucket_model.specs.Storeys.{Storey, agree, bit_for, bit_of, edit, find, opens, storey, storeys_at, storeys_from, switched, tells_above, word_of}
pub use Rattle.bucket_model.specs.declared.Bucket.{Bucket}
pub use Rattle.bucket_model.specs.declared.Lay.{Lay}
pub use Rattle.bucket_model.specs.declared.Reads.{Reads}
pub use Rattle.bucket_model.specs.declared.Spot.{Spot}
