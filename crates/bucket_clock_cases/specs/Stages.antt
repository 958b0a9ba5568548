-- The rules' table of stages, to be computed: what leaves, and every word that is not 0, cycle by cycle; and the counts' places in plain numbers. These
-- are definitions.
use Rattle.std.specs.Prelude.{◌∷◌}
use Rattle.laws.specs.Prelude.{Element, Idle, List, Pop, Push, Replace, Request, [], element, replicate, ℕ, Ok, None}
use Rattle.bucket_model.specs.Prelude.{filled, queue}
use Rattle.promise.specs.Prelude.{leaves}
use Rattle.std.specs.Prelude.{Option}
use Rattle.std.specs.Prelude.{None, Some}
use Rattle.bucket_clock_model.specs.declared.Waiting.{Waiting}
use Rattle.bucket_clock_model.specs.Desk.{clock_cleared, Desk, desk, Heard, no_work, cycling, waiting}

-- two storeys, N = 3, on slices of nines, each one word longer than it need be
abbrev pub case_start : Desk
case_start = (clock_cleared (queue 2 3) (desk (replicate 66 9) (replicate 4161 9) (replicate 8204 9) (replicate 3 (waiting Pop 9)))).desk

abbrev pub case_after : List Request → Desk
case_after qs = leaves (cycling (queue 2 3)) qs case_start

-- rank/tag/length: 7/1/64, 7/2/1500, 70/3/40 pushed and settled; then pop, replace 70/4/9000, pop, idle, idle
abbrev pub case_before : List Request
case_before = Push (element 7 1 64) ∷ Push (element 7 2 1500) ∷ Push (element 70 3 40) ∷ Idle ∷ Idle ∷ []

-- every word that is not 0, and the records
pub record Seen : Type 0 where
  pub bits : List (ℕ × ℕ)
  pub counts : List (ℕ × ℕ)
  pub words : List (ℕ × ℕ)
  pub records : List Waiting

abbrev pub seen : Desk → Seen
seen m = record { bits = filled 0 m.bits; counts = filled 0 m.counts; words = filled 0 m.words; records = m.records }

-- before: word 0 has bits 0 and 1, word 1 bit 7, word 2 bit 6. Counts: 2 and 1 below the top's bits 0 and 1, 2 of rank 7, 1 of rank 70. Bucket 7 is
-- links 1 2, bucket 70 link 3, none is free; held 3
abbrev pub seen_before : Seen
seen_before =
    record {
      bits = (0, 3) ∷ (1, 128) ∷ (2, 64) ∷ (65, 9) ∷ [];
      counts = (0, 2) ∷ (1, 1) ∷ (71, 2) ∷ (134, 1) ∷ (4160, 9) ∷ [];
      words = (7, 1) ∷ (70, 3) ∷ (4103, 2) ∷ (4166, 3) ∷ (8192, 1) ∷ (8193, 64) ∷ (8194, 2) ∷ (8195, 2) ∷ (8196, 1500) ∷ (8198, 3) ∷ (8199, 40) ∷ (8202, 3) ∷ (8203, 9) ∷ [];
      records = no_work ∷ no_work ∷ no_work ∷ [];
    }

-- pop, replace: the top's bit 0 has gone off, its bit 1 has 2 below it; the pop has come to the second storey; held is 2, and no bucket has changed
abbrev pub seen_two : Seen
seen_two =
    record {
      bits = (0, 2) ∷ (1, 128) ∷ (2, 64) ∷ (65, 9) ∷ [];
      counts = (1, 2) ∷ (71, 1) ∷ (134, 1) ∷ (4160, 9) ∷ [];
      words = (7, 1) ∷ (70, 3) ∷ (4103, 2) ∷ (4166, 3) ∷ (8192, 1) ∷ (8193, 64) ∷ (8194, 2) ∷ (8195, 2) ∷ (8196, 1500) ∷ (8198, 3) ∷ (8199, 40) ∷ (8202, 2) ∷ (8203, 9) ∷ [];
      records = waiting (Replace (element 70 4 9000)) 0 ∷ waiting Pop 7 ∷ no_work ∷ [];
    }

-- .. pop: 7/1 leaves, and its node is free; the second storey's bit 7 has gone off
abbrev pub seen_three : Seen
seen_three =
    record {
      bits = (0, 2) ∷ (2, 64) ∷ (65, 9) ∷ [];
      counts = (1, 1) ∷ (134, 2) ∷ (4160, 9) ∷ [];
      words = (7, 2) ∷ (70, 3) ∷ (4103, 2) ∷ (4166, 3) ∷ (8195, 2) ∷ (8196, 1500) ∷ (8198, 3) ∷ (8199, 40) ∷ (8201, 1) ∷ (8202, 1) ∷ (8203, 9) ∷ [];
      records = waiting Pop 1 ∷ waiting (Replace (element 70 4 9000)) 7 ∷ no_work ∷ [];
    }

-- .. idle: 7/2 leaves, and 70/4 takes the very node that it frees: bucket 70 is links 3 2, link 1 is free
abbrev pub seen_four : Seen
seen_four =
    record {
      bits = (0, 2) ∷ (2, 64) ∷ (65, 9) ∷ [];
      counts = (1, 1) ∷ (134, 1) ∷ (4160, 9) ∷ [];
      words = (70, 3) ∷ (4166, 2) ∷ (8195, 4) ∷ (8196, 9000) ∷ (8198, 3) ∷ (8199, 40) ∷ (8200, 2) ∷ (8201, 1) ∷ (8202, 1) ∷ (8203, 9) ∷ [];
      records = no_work ∷ waiting Pop 70 ∷ no_work ∷ [];
    }

-- .. idle: 70/3 leaves; links 3 1 are free, nothing is pending
abbrev pub seen_five : Seen
seen_five =
    record {
      bits = (0, 2) ∷ (2, 64) ∷ (65, 9) ∷ [];
      counts = (1, 1) ∷ (134, 1) ∷ (4160, 9) ∷ [];
      words = (70, 2) ∷ (4166, 2) ∷ (8195, 4) ∷ (8196, 9000) ∷ (8200, 1) ∷ (8201, 3) ∷ (8202, 1) ∷ (8203, 9) ∷ [];
      records = no_work ∷ no_work ∷ no_work ∷ [];
    }

-- what is heard in the five cycles: each number 0, and what leaves
abbrev pub case_now : List Request
case_now = Pop ∷ Replace (element 70 4 9000) ∷ Pop ∷ Idle ∷ Idle ∷ []

abbrev pub done : Option Element → Heard
done x = record { number = (Ok None); leaves = x }

abbrev pub case_heard : List Heard
case_heard = done None ∷ done None ∷ done (Some (element 7 1 64)) ∷ done (Some (element 7 2 1500)) ∷ done (Some (element 70 3 40)) ∷ []
