-- What others take in of `promise`'s definitions, passed on.
pub use Rattle.promise.specs.Calls.{Comes, Damage, Fits, Outcome, PopThenPush, Queue, Ruling, called, carried_out, clear_refusals, cleared, does, empty, full, grants, held_count, held_refusals, idles, lacks, lacks_tag, last_table, left, no-tag, outcome, puts, refusals, rule_at, ruled, ruling, stepping, swaps, takes}
pub use Rattle.promise.specs.Clock.{Call, Clock, SoleCall, asked, asking, calls, cleared_to, comes, count_refusals, cycle, cycle_left, cycle_refusals, cycled, cycling, drain, drained_by, goes, held_in, rested, sees, wipe_refusals}
unfoldable pub use Rattle.promise.specs.Drains.{drain_by}
pub use Rattle.promise.specs.Drains.{Close, Drained, Stuck, behind, capped, done, drain_refusals, drained, drains_by, idled, is_bad_shape, stopped}
pub use Rattle.promise.specs.Flight.{flies}
pub use Rattle.promise.specs.Lengths.{short, short_answer, short_request}
pub use Rattle.promise.specs.Promised.{Answers, OneOf, Promised, Replaces, after}
unfoldable pub use Rattle.promise.specs.Queue.{answers, leaves}
pub use Rattle.promise.specs.Queue.{Step, answers-same, leaves-in-step, leaves-keep, step}
pub use Rattle.promise.specs.Refused.{Asks, IsPush, Untagged, asks-fails, blank-fails, limits, refusal-told, refusal_of, untagged-means, zero-ran, zero-told}
unfoldable pub use Rattle.promise.specs.Served.{all_brought, all_given}
pub use Rattle.promise.specs.Served.{Holds, IsOut, Kind, Least, all-sum, always, brought, given, hit, least-same, lower, same, triple, unrefused}
pub use Rattle.promise.specs.Table.{Clear, Each, Guards, Table, TableOf, Told, bars, decided, decided-clear, decided-either, decided-exactly, decided-same, each-any, ends, guarded, ladder, needs, stops}
pub use Rattle.promise.specs.Tagged.{Barred, Tagged, none-all, none-brought, tagged-by}
pub use Rattle.promise.specs.Ticked.{CycleAnswers, NothingLost, Running, ran}
