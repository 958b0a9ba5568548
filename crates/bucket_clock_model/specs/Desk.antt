-- The clocked bucket queue on its words: its stages and its calls, as functions of every word that they are lent to what they answer and every word that
-- they leave.
-- These are definitions, and the contracts cite them.
use Rattle.std.specs.Prelude.{◌&&◌, ◌*◌}
use Rattle.laws.specs.Prelude.{Element, Answer, BadShape, Bool, Damaged, Idle, List, Pop, Push, Refusal, Replace, Request, cond, get_or, leb, length, pred, replicate, set, suc, true, zero, ℕ, Result, Ok, Err, None}
use Rattle.bucket_model.specs.Prelude.{Storey, bit_words, blank_word, fill, shape_ok, store_words, storey, word}
use Rattle.bucket_model.specs.declared.Lay.{Lay}
use Rattle.promise.specs.Prelude.{Ruling, Step, decided, ruling, step}
use Rattle.bucket_clock_model.specs.Clock.{late_table}
use Rattle.std.specs.Prelude.{Option}
use Rattle.std.specs.Prelude.{None}
use Rattle.bucket_clock_model.specs.declared.Waiting.{Waiting}
use Rattle.bucket_clock_model.specs.Links.{bucket_leaves, bucket_ok, bucket_stage}
use Rattle.bucket_clock_model.specs.Lists.{takes}
use Rattle.bucket_clock_model.specs.Words.{Floor, floor, staged, storey_ok, way_below, way_if}

-- ---- what a machine is lent: the bucket queue's bits and words, and the counts; beside them the pending records, that behind the top storey first
pub record Desk : Type 0 where
  pub bits : List ℕ
  pub counts : List ℕ
  pub words : List ℕ
  pub records : List Waiting

abbrev pub desk : List ℕ → List ℕ → List ℕ → List Waiting → Desk
desk b c w rs = record { bits = b; counts = c; words = w; records = rs }

abbrev pub floor_of : Desk → Floor
floor_of m = floor m.bits m.counts

-- "kind 0 nothing, 1 push, 2 pop, 3 replace; the way of a pop or replace ..; x of a push or replace"
abbrev pub waiting : Request → ℕ → Waiting
waiting q w = record { does = q; way = w }

abbrev pub no_work : Waiting
no_work = waiting Idle 0

-- the record behind storey i, the top one is 0
unfoldable pub work_at : List Waiting → ℕ → Waiting
work_at rs i = get_or rs i no_work

-- "S of them, 3 in the by-value form"
abbrev pub record_count : ℕ
record_count = 3

-- "nothing pending"
unfoldable pub fresh : List Waiting
fresh = replicate record_count no_work

-- ---- a cycle of the stages

-- "The record below becomes the operation with its way"
abbrev pub handed : Storey → Waiting → List ℕ → Waiting
handed p g b = waiting g.does (way_if (takes g.does) (way_below p b g.way))

-- storey e, with d more below it, works at g; it "writes these and the record below it, no others"
abbrev pub stage_done : Lay → (e d : ℕ) → Waiting → Desk → Desk
stage_done k e d g m =
    let p = storey k.bits e in
    let f = staged p d g.does g.way (floor_of m) in
    desk f.bits f.counts m.words (set m.records e (handed p g m.bits))

-- the buckets
abbrev pub last_done : Lay → Waiting → Desk → Desk
last_done k g m = desk m.bits m.counts (bucket_stage k g.does g.way m.words) m.records

-- "every stage does one operation at most": storey e works at g, each of the d - 1 below it, and the buckets, at what was pending above. A stage's words
-- are its own, so it finds them as they stood at the cycle's start
unfoldable pub stages : Lay → (e d : ℕ) → Waiting → Desk → Step (Option Element) Desk
stages k e zero g m = step (bucket_leaves k (takes g.does) g.way m.words) (last_done k g m)
stages k e (suc d) g m = stages k (suc e) d (work_at m.records e) (stage_done k e d g m)

-- "Held changes in the request's own cycle (push + 1, pop - 1, replace not), and by no later stage"
abbrev pub held_words : Lay → Request → List ℕ → List ℕ
held_words k Idle w = w
held_words k (Push x) w = set w k.held (suc (word w k.held))
held_words k Pop w = set w k.held (pred (word w k.held))
held_words k (Replace x) w = w

-- "stage 1 the request, each other stage its record's"
unfoldable pub cycle_run : Lay → Request → Desk → Step (Option Element) Desk
cycle_run k q m =
    let r = stages k 0 k.storeys (waiting q 0) m in
    step r.said (desk r.next.bits r.next.counts (held_words k q r.next.words) r.next.records)

-- ---- the tests, "all before the first write"

-- D2 to D5, each stage on its words as they stand. "A stage with nothing to do .. reads and tests nothing"
unfoldable pub stages_ok : Lay → (e d : ℕ) → Waiting → Desk → Bool
stages_ok k e zero g m = bucket_ok k g.does g.way m.words
stages_ok k e (suc d) g m = storey_ok k (storey k.bits e) d g.does g.way (floor_of m) && stages_ok k (suc e) d (work_at m.records e) m

-- D1: "an operation is asked for and held is above N"
abbrev pub held_ok : Lay → Request → List ℕ → Bool
held_ok k Idle w = true
held_ok k (Push x) w = leb (word w k.held) k.nodes
held_ok k Pop w = leb (word w k.held) k.nodes
held_ok k (Replace x) w = leb (word w k.held) k.nodes

-- "4, 7, then 5 (push, held is N) or 6 (pop and replace, held is 0)": what the request comes to. "After 4, 5, 6 and 7 the cycle runs as an idle one"
abbrev pub rule_now : Lay → Request → Desk → Ruling Request
rule_now k q m = decided (λ n. ruling (Err n) Idle) (late_table k.ranks k.nodes q (word m.words k.held)) (ruling (Ok None) q)

-- "2 of what is pending and of held, 4, 7, then 5 .. or 6 .., then 2 of stage 1": stage 1 tests what it is handed, and that is nothing after 4 to 7
unfoldable pub cycle_ok : Lay → Request → Desk → Bool
cycle_ok k q m = held_ok k q m.words && stages_ok k 0 k.storeys (waiting (rule_now k q m).op 0) m

-- ---- the calls

-- how many counts there are: "for each bit of each storey", 64 for each word
abbrev pub count_words : Lay → ℕ
count_words k = 64 * bit_words k

-- 1: the bucket queue's shape, and "at least 4,160 words at two storeys, 266,304 at three"
unfoldable pub desk_ok : Lay → Desk → Bool
desk_ok k m = shape_ok k (length m.bits) (length m.words) && leb (count_words k) (length m.counts)

-- "An answer has two parts: the number of this cycle's request, and what leaves in this cycle, if anything"
pub record CycleOutcome : Type 0 where
  pub answer : Answer
  pub leaves : Option Element
  pub desk : Desk

abbrev pub cycle_outcome : Answer → Option Element → Desk → CycleOutcome
cycle_outcome a x m = record { answer = a; leaves = x; desk = m }

-- "after 1 and 2 nothing moves and nothing leaves"
abbrev pub cycle_still : Desk → Refusal → CycleOutcome
cycle_still m n = cycle_outcome (Err n) None m

-- what is ruled is done
abbrev pub cycle_done : Lay → Ruling Request → Desk → CycleOutcome
cycle_done k g m = let r = cycle_run k g.op m in cycle_outcome g.answer r.said r.next

-- a cycle with a request, or idle. "Push, pop and replace are cycle with that request"
unfoldable pub cycled : Lay → Request → Desk → CycleOutcome
cycled k q m = cond (desk_ok k m) (cond (cycle_ok k q m) (cycle_done k (rule_now k q m) m) (cycle_still m Damaged)) (cycle_still m BadShape)

-- "Clear clears store, counts and records"
abbrev pub wiped : Lay → Desk → Desk
wiped k m = desk (fill (λ j. 0) (bit_words k) m.bits) (fill (λ j. 0) (count_words k) m.counts) (fill (blank_word k) (store_words k) m.words) fresh

unfoldable pub clock_cleared : Lay → Desk → CycleOutcome
clock_cleared k m = cond (desk_ok k m) (cycle_outcome (Ok None) None (wiped k m)) (cycle_still m BadShape)

-- "Held is the held word, exact in the middle of any work; it tests that word alone"
unfoldable pub clock_held : Lay → Desk → Result ℕ Refusal
clock_held k m = cond (desk_ok k m) (cond (leb (word m.words k.held) k.nodes) (Ok (word m.words k.held)) (Err Damaged)) (Err BadShape)

-- the queue as a step function, for lists of cycles
pub record Heard : Type 0 where
  pub number : Answer
  pub leaves : Option Element

abbrev pub cycling : Lay → Request → Desk → Step Heard Desk
cycling k q m = let o = cycled k q m in step (record { number = o.answer; leaves = o.leaves }) o.desk
