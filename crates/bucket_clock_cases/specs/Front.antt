-- The rules' table of the front, on its words, to be computed. These are definitions.
use Rattle.std.specs.Prelude.{◌∷◌}
use Rattle.laws.specs.Prelude.{Answer, Idle, List, Pop, Push, Replace, Request, [], element, replicate, ℕ, Ok, None, Some}
use Rattle.bucket_clock_model.specs.declared.Waiting.{Waiting}
use Rattle.bucket_clock_model.specs.Desk.{desk, no_work, waiting}
use Rattle.bucket_model.specs.Prelude.{filled, queue}
use Rattle.front_model.specs.Desk.{front_cleared, FrontDesk, front_desk}
use Rattle.front_model.specs.Promise.{front_queue}
use Rattle.promise.specs.Prelude.{leaves}

-- two storeys, N = 7, five places, on slices of nines, each one word longer than it need be
abbrev pub front_start : FrontDesk
front_start = (front_cleared (queue 2 7) (front_desk (replicate 17 9) (desk (replicate 66 9) (replicate 4161 9) (replicate 8216 9) (replicate 3 (waiting Pop 9))))).words

-- pushes of ranks 10, 20, .. 60 and, so that what leaks is in its bucket, two idle cycles
abbrev pub front_before : List Request
front_before =
    Push (element 10 1 100) ∷ Push (element 20 2 200) ∷ Push (element 30 3 300) ∷ Push (element 40 4 400) ∷ Push (element 50 5 500) ∷ Push (element 60 6 600)
    ∷ Idle ∷ Idle ∷ []

-- then pop, push 5, pop, replace 70, idle
abbrev pub front_now : List Request
front_now = Pop ∷ Push (element 5 7 700) ∷ Pop ∷ Replace (element 70 8 800) ∷ Idle ∷ []

abbrev pub front_after : List Request → FrontDesk
front_after qs = leaves (front_queue (queue 2 7)) qs front_start

abbrev pub front_heard : List Answer
front_heard = Ok (Some (element 10 1 100)) ∷ (Ok None) ∷ Ok (Some (element 5 7 700)) ∷ Ok (Some (element 20 2 200)) ∷ (Ok None) ∷ []

-- every word of the front that is not 0, the held word's place and value among the queue's words, and the records
pub record FrontSeen : Type 0 where
  pub front : List (ℕ × ℕ)
  pub bits : List (ℕ × ℕ)
  pub records : List Waiting

abbrev pub front_seen : FrontDesk → FrontSeen
front_seen m = record { front = filled 0 m.front; bits = filled 0 m.behind.bits; records = m.behind.records }

-- before: 10, 20, 30, 40, 50 in the front, 60 behind
abbrev pub seen_first : FrontSeen
seen_first =
    record {
      front = (0, 5) ∷ (1, 10) ∷ (2, 1) ∷ (3, 100) ∷ (4, 20) ∷ (5, 2) ∷ (6, 200) ∷ (7, 30) ∷ (8, 3) ∷ (9, 300) ∷ (10, 40) ∷ (11, 4) ∷ (12, 400) ∷ (13, 50) ∷ (14, 5) ∷ (15, 500) ∷ (16, 9) ∷ [];
      bits = (0, 1) ∷ (1, 1152921504606846976) ∷ (65, 9) ∷ [];
      records = no_work ∷ no_work ∷ no_work ∷ [];
    }

-- pop, push 5: 5, 20, 30, 40 in the front, 60 on the way, 50 has leaked
abbrev pub seen_second : FrontSeen
seen_second =
    record {
      front = (0, 4) ∷ (1, 5) ∷ (2, 7) ∷ (3, 700) ∷ (4, 20) ∷ (5, 2) ∷ (6, 200) ∷ (7, 30) ∷ (8, 3) ∷ (9, 300) ∷ (10, 40) ∷ (11, 4) ∷ (12, 400) ∷ (16, 9) ∷ [];
      bits = (0, 1) ∷ (65, 9) ∷ [];
      records = waiting (Push (element 50 5 500)) 0 ∷ waiting Pop 60 ∷ no_work ∷ [];
    }

-- .. pop, replace 70, idle: 30, 40, 50, 60, 70 in the front, and nothing behind
abbrev pub seen_last : FrontSeen
seen_last =
    record {
      front = (0, 5) ∷ (1, 30) ∷ (2, 3) ∷ (3, 300) ∷ (4, 40) ∷ (5, 4) ∷ (6, 400) ∷ (7, 50) ∷ (8, 5) ∷ (9, 500) ∷ (10, 60) ∷ (11, 6) ∷ (12, 600) ∷ (13, 70) ∷ (14, 8) ∷ (15, 800) ∷ (16, 9) ∷ [];
      bits = (65, 9) ∷ [];
      records = no_work ∷ no_work ∷ no_work ∷ [];
    }
