-- What others take in of `ports_model`'s definitions, passed on.
unfoldable pub use Rattle.ports_model.specs.Calls.{blank_word, cleared, held_count, popped, pushed, replace_found, replaced, room_after}
pub use Rattle.ports_model.specs.Calls.{blank_port, giving, known, room_of}
pub use Rattle.ports_model.specs.Cases.{in_numbers, one_push, one_push_bits, one_push_words, sharing, sharing_says, tight, tight_limits, tight_says, two_limits, two_ports}
pub use Rattle.ports_model.specs.Causes.{Fair, Room, Shaped, Whole, bits_after, call_table, clear_table, done, give_table, held_table, room_after_table, words_after}
unfoldable pub use Rattle.ports_model.specs.Checks.{all_to, limits_ok, room_ok, shape_ok, whole_ok}
pub use Rattle.ports_model.specs.Checks.{claimed_in, has_room, is_shaped, is_whole, kept_at, limits_kept, used_in}
unfoldable pub use Rattle.ports_model.specs.Edge.{edge_table}
pub use Rattle.ports_model.specs.Edge.{Edge, shape_of}
pub use Rattle.ports_model.specs.Layout.{Shape, bit_words, ceiling_at, ceiling_of, floor_at, floor_of, free_at, held_at, limit_words, most_ports, nodes_at, port_words, ranks_of, seat, store_words}
unfoldable pub use Rattle.ports_model.specs.Lists.{calls_at, heard_at, served}
pub use Rattle.ports_model.specs.Lists.{Accepts, Ask, Heard, Lists, accepts, agreed_to, answers_of, at, back, calls_if, calls_of, claim, claimed, denied, heard_if, held_in_all, none, only_if, open', touched, touched_in, yes_of, yeses}
pub use Rattle.ports_model.specs.Promise.{Alike, Blank, Bounds, FirstOut, Framed, Lies, ReadBits, ReadWords, SameAt, Sized, Spare, Swaps, Untouched, pop_leaves}
unfoldable pub use Rattle.ports_model.specs.Runs.{asked, called}
pub use Rattle.ports_model.specs.Runs.{called_at, heard_on, many_at, start, stored_at}
unfoldable pub use Rattle.ports_model.specs.Spoilt.{spoilt_table}
pub use Rattle.ports_model.specs.Spoilt.{Right, Row, numbers}
