-- When a call at a port says no, in facts: what it asks in turn, with the refusal where it does not hold. A bucket's facts are the bucket queue's own. These are definitions.
use Rattle.std.specs.Prelude.{◌&&◌, ◌-◌, ◌<◌, ◌≡◌, ◌≤◌, ◌⊎◌}
use Rattle.laws.specs.Prelude.{BadPort, BadShape, Damaged, Element, Empty, Full, Idle, Iff, List, Pop, Push, Replace, Request, eqb, length, ltb, not, sum_to, ℕ}
use Rattle.promise.specs.Prelude.{Table, ends, grants, needs}
use Rattle.bucket_model.specs.Prelude.{JoinFit, Outcome, PopFit, given, joined_bits, joined_words, least_storeys, lowest_of, lowest_rank, most_storeys, new_table, outcome, pool, word}
use Rattle.bucket_model.specs.Causes as bucket
use Rattle.ports_model.specs.Layout.{Shape, most_ports, bit_words, store_words, free_at, held_at, floor_at, ceiling_at, seat, limit_words, floor_of, ceiling_of}
use Rattle.ports_model.specs.Checks.{is_shaped, limits_ok, used_in, claimed_in, is_whole, has_room}
use Rattle.ports_model.specs.Calls.{room_of, room_after}

-- ---- 1, bad shape

pub record Shaped (s : Shape) (b w : List ℕ) : Type 0 where
  pub two : least_storeys ≤ s.storeys
  pub three : s.storeys ≤ most_storeys
  pub low : 1 ≤ s.nodes
  pub high : s.nodes ≤ pool
  pub some : 1 ≤ s.ports
  pub few : s.ports ≤ most_ports
  pub bits : bit_words s ≤ length b
  pub words : store_words s ≤ length w

-- .. at clear: "each has a floor and a ceiling, floor at most ceiling, floors adding up to N at most"
pub record Fair (s : Shape) (lim : List ℕ) : Type 0 where
  pub long : limit_words s ≤ length lim
  pub orderly : (p : ℕ) → p < s.ports → floor_of lim p ≤ ceiling_of lim p
  pub fits : sum_to s.ports (floor_of lim) ≤ s.nodes

-- ---- 2, damaged: what every call but clear tests

pub record Whole (s : Shape) (p : ℕ) (b w : List ℕ) : Type 0 where
  pub floors : (q : ℕ) → q < s.ports → word w (floor_at s q) ≤ word w (ceiling_at s q)
  pub ceilings : (q : ℕ) → q < s.ports → word w (held_at s q) ≤ word w (ceiling_at s q)
  pub claims : claimed_in s w ≤ s.nodes
  pub free≤ : word w (free_at s) ≤ s.nodes
  pub full : Iff (word w (free_at s) ≡ 0) (used_in s w ≡ s.nodes)
  pub empty : Iff (word b (seat s p).bits ≡ 0) (word w (held_at s p) ≡ 0)

-- ---- 5, full: "accepted exactly if p holds less than its floor, or less than its ceiling while N minus the sum, over all ports, of the larger of held and floor is above zero"

abbrev pub Room : Shape → ℕ → List ℕ → Type 0
Room s p w = (word w (held_at s p) < word w (floor_at s p)) ⊎ ((word w (held_at s p) < word w (ceiling_at s p)) × (0 < s.nodes - claimed_in s w))

-- ---- the table, call by call: 1, 8, 4, 7, 2, then 5 or 6, and a bucket's tests last. A line is a refusal, the test that a call makes, and what it asks by it

abbrev pub clear_table : Shape → List ℕ → List ℕ → List ℕ → Table
clear_table s lim b w = needs BadShape (is_shaped s b w && limits_ok s lim) (Shaped s b w × Fair s lim) ends

module _ (s : Shape) (p : ℕ) (b w : List ℕ) where
  -- "An unknown port is refusal 8, first after shape"
  abbrev pub port_table : Table → Table
  port_table a = needs BadShape (is_shaped s b w) (Shaped s b w) (needs BadPort (ltb p s.ports) (p < s.ports) a)

  -- 2, of the pool and the port
  abbrev pub whole_table : Table → Table
  whole_table a = needs Damaged (is_whole s p b w) (Whole s p b w) a

  abbrev pub HoldsSome : Type 0
  HoldsSome = word w (held_at s p) ≡ 0 → ⊥

  abbrev pub held_table : Table
  held_table = port_table (whole_table ends)

  -- what a pop and a replace ask alike
  abbrev pub give_table : Table → Table
  give_table a =
      whole_table
      (needs Empty (not (eqb (word w (held_at s p)) 0)) HoldsSome
      (needs Damaged (lowest_of (seat s p) b w).good (PopFit (seat s p) b w (lowest_rank (seat s p) b)) a))

  abbrev pub room_table : Element → Table → Table
  room_table e a =
      whole_table
      (needs Full (has_room s p w) (Room s p w)
      (needs Damaged (room_of s p b w e.rank.0).good (JoinFit (seat s p) (used_in s w) b w e.rank.0) a))

  -- the store as after the pop
  abbrev pub bits_after : List ℕ
  bits_after = bucket.bits_after (seat s p) b w

  abbrev pub words_after : List ℕ
  words_after = bucket.words_after (seat s p) b w

  -- "needs no room": no line for 5
  abbrev pub room_after_table : Element → Table → Table
  room_after_table e a =
      needs Damaged (room_after s p bits_after words_after e.rank.0).good
      (Whole s p bits_after words_after × JoinFit (seat s p) (used_in s words_after) bits_after words_after e.rank.0) a

  -- asking for nothing is never refused
  abbrev pub call_table : Request → Table
  call_table Idle = ends
  call_table (Push e) = port_table (new_table (seat s p) b w (Push e) e (room_table e ends))
  call_table Pop = port_table (give_table ends)
  call_table (Replace e) = port_table (new_table (seat s p) b w (Replace e) e (give_table (room_after_table e ends)))

  -- what is done where nothing refuses
  abbrev pub bits_done : Request → List ℕ
  bits_done Idle = b
  bits_done (Push e) = joined_bits (seat s p) b e (room_of s p b w e.rank.0)
  bits_done Pop = bits_after
  bits_done (Replace e) = joined_bits (seat s p) bits_after e (room_after s p bits_after words_after e.rank.0)

  abbrev pub words_done : Request → List ℕ
  words_done Idle = w
  words_done (Push e) = joined_words (seat s p) w e (room_of s p b w e.rank.0)
  words_done Pop = words_after
  words_done (Replace e) = joined_words (seat s p) words_after e (room_after s p bits_after words_after e.rank.0)

  abbrev pub done : Request → Outcome
  done q = outcome (grants q (given (seat s p) w (lowest_of (seat s p) b w))) (bits_done q) (words_done q)
