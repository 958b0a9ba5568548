-- The table "When a queue says no" in facts: what a sound call may count on, and for each call what it asks in turn, with the refusal where it does not hold. These are definitions.
use Rattle.std.specs.Prelude.{◌%◌, ◌+◌, ◌/◌, ◌<◌, ◌∷◌, ◌≡◌, ◌≤◌}
use Rattle.laws.specs.Prelude.{BadRank, BadShape, Damaged, Element, Empty, Full, Idle, Iff, List, NoTag, Pop, Push, Refusal, Replace, Request, [], count_number, eqb, fine, length, ltb, not, number_of, untagged, ℕ, Result, Err}
use Rattle.laws.specs.Ladder as laws
use Rattle.bitmap.specs.Bits.{bit_at}
use Rattle.promise.specs.Prelude.{Table, Untagged, ends, grants, ladder, needs}
use Rattle.bucket_model.specs.Layout.{Lay, pool, least_storeys, most_storeys, bit_words, store_words, word, head_at, tail_at}
use Rattle.bucket_model.specs.Storeys.{Storey, storeys_at, word_of, find, lowest_rank}
use Rattle.bucket_model.specs.Checks.{next_of}
use Rattle.bucket_model.specs.Calls.{Outcome, outcome, refused, is_shaped, is_whole, lowest_of, given, taken_bits, taken_words, room_of, room_after, joined_bits, joined_words}

-- ---- 1, bad shape: "N or a slice length outside the above", or another depth than "both"

pub record Shaped (k : Lay) (b w : List ℕ) : Type 0 where
  pub two : least_storeys ≤ k.storeys
  pub three : k.storeys ≤ most_storeys
  pub low : 1 ≤ k.nodes
  pub high : k.nodes ≤ pool
  pub bits : bit_words k ≤ length b
  pub words : store_words k ≤ length w

-- ---- 2, damaged

-- what every call but clear tests: "held or the free link exceeds N, or one of a pair holds without the other: free link 0 and held = N; top word 0 and held 0"
pub record Whole (k : Lay) (b w : List ℕ) : Type 0 where
  pub free≤ : word w k.free ≤ k.nodes
  pub held≤ : word w k.held ≤ k.nodes
  pub full : Iff (word w k.free ≡ 0) (word w k.held ≡ k.nodes)
  pub empty : Iff (word b k.bits ≡ 0) (word w k.held ≡ 0)

-- the words on the way down to the lowest rank: none is 0
abbrev pub Opens : List ℕ → List Storey → Type 0
Opens b [] = Unit {0}
Opens b (p ∷ ps) = Opens b ps × (word b (p.base + find b ps) ≡ 0 → ⊥)

-- bit j of a storey
abbrev pub bit_no : List ℕ → Storey → ℕ → ℕ
bit_no b p j = bit_at (word_of b p j) (j % 64)

-- on the way up from bit j each bit is clear exactly if what is below it is empty
abbrev pub Agrees : List ℕ → List Storey → ℕ → Type 0 → Type 0
Agrees b [] j E = Unit {0}
Agrees b (p ∷ ps) j E = Iff E (bit_no b p j ≡ 0) × Agrees b ps (j / 64) (word_of b p j ≡ 0)

-- a pop's bucket, of rank r: its bits are set, so neither head nor tail may be 0; "no link read may exceed N; a tail's next must be 0; on a pop, the head's next is 0 exactly if head equals tail"
pub record PopFit (k : Lay) (b w : List ℕ) (r : ℕ) : Type 0 where
  pub way : Opens b (storeys_at k)
  pub head≢ : word w (head_at k r) ≡ 0 → ⊥
  pub tail≢ : word w (tail_at k r) ≡ 0 → ⊥
  pub head≤ : word w (head_at k r) ≤ k.nodes
  pub tail≤ : word w (tail_at k r) ≤ k.nodes
  pub next≤ : next_of k w (word w (head_at k r)) ≤ k.nodes
  pub behind0 : next_of k w (word w (tail_at k r)) ≡ 0
  pub ends : Iff (next_of k w (word w (head_at k r)) ≡ 0) (word w (head_at k r) ≡ word w (tail_at k r))

-- a push's bucket, of rank r: "head, tail and the rank's bit must agree on emptiness; the group's bit must agree with whether its word is 0; no link read may exceed N; a tail's next must be 0; .. on a push, the taken node is not the tail and its next is 0 exactly at held = N−1". So many nodes of the pool are in use
pub record JoinFit (k : Lay) (used : ℕ) (b w : List ℕ) (r : ℕ) : Type 0 where
  pub both : Iff (word w (head_at k r) ≡ 0) (word w (tail_at k r) ≡ 0)
  pub bits : Agrees b (storeys_at k) r (word w (head_at k r) ≡ 0)
  pub head≤ : word w (head_at k r) ≤ k.nodes
  pub tail≤ : word w (tail_at k r) ≤ k.nodes
  pub next≤ : next_of k w (word w k.free) ≤ k.nodes
  pub behind0 : next_of k w (word w (tail_at k r)) ≡ 0
  pub free≢ : word w k.free ≡ word w (tail_at k r) → ⊥
  pub ends : Iff (next_of k w (word w k.free) ≡ 0) (used + 1 ≡ k.nodes)

-- .. in a queue that has the pool for itself: what it holds is in use
abbrev pub PushFit : Lay → List ℕ → List ℕ → ℕ → Type 0
PushFit k b w r = JoinFit k (word w k.held) b w r

-- ---- the table, call by call: "For the bucket queue: 1, 4, 2, then 5 or 6". A line is a refusal, the test that a call makes, and what it asks by it

module _ (k : Lay) (b w : List ℕ) where
  abbrev pub HoldsSome : Type 0
  HoldsSome = word w k.held ≡ 0 → ⊥

  -- 1, of every call
  abbrev pub shape_table : Table → Table
  shape_table a = needs BadShape (is_shaped k b w) (Shaped k b w) a

  -- 2, of the whole queue
  abbrev pub whole_table : Table → Table
  whole_table a = needs Damaged (is_whole k b w) (Whole k b w) a

  abbrev pub clear_table : Table
  clear_table = shape_table ends

  abbrev pub held_table : Table
  held_table = shape_table (whole_table ends)

  -- what a push and a replace ask alike of their newcomer: 4, and 7, which "comes after 4 in the bucket queue"
  abbrev pub new_table : Request → Element → Table → Table
  new_table q e a = needs BadRank (ltb e.rank.0 k.ranks) (e.rank.0 < k.ranks) (needs NoTag (not (untagged e)) (Untagged q → ⊥) a)

  -- what a pop and a replace ask alike: 2 of the whole queue, 6, and "a pop with held above 0, also tests its bucket"
  abbrev pub give_table : Table → Table
  give_table a = whole_table (needs Empty (not (eqb (word w k.held) 0)) HoldsSome (needs Damaged (lowest_of k b w).good (PopFit k b w (lowest_rank k b)) a))

  -- "A push with held below N"
  abbrev pub room_table : Element → Table → Table
  room_table e a =
      whole_table
      (needs Full (not (eqb (word w k.held) k.nodes)) (word w k.held ≡ k.nodes → ⊥)
      (needs Damaged (room_of k b w e.rank.0).good (PushFit k b w e.rank.0) a))

  -- the store as after the pop
  abbrev pub bits_after : List ℕ
  bits_after = taken_bits k b (lowest_of k b w)

  abbrev pub words_after : List ℕ
  words_after = taken_words k w (lowest_of k b w)

  -- "it then makes all the push's on the store as after the pop"
  abbrev pub room_after_table : Element → Table → Table
  room_after_table e a = needs Damaged (room_after k bits_after words_after e.rank.0).good (Whole k bits_after words_after × PushFit k bits_after words_after e.rank.0) a

  -- "The order of checks puts replace's 6 with pop's"; asking for nothing is never refused
  abbrev pub call_table : Request → Table
  call_table Idle = ends
  call_table (Push e) = shape_table (new_table (Push e) e (room_table e ends))
  call_table Pop = shape_table (give_table ends)
  call_table (Replace e) = shape_table (new_table (Replace e) e (give_table (room_after_table e ends)))

  -- what is done where nothing refuses
  abbrev pub bits_done : Request → List ℕ
  bits_done Idle = b
  bits_done (Push e) = joined_bits k b e (room_of k b w e.rank.0)
  bits_done Pop = bits_after
  bits_done (Replace e) = joined_bits k bits_after e (room_after k bits_after words_after e.rank.0)

  abbrev pub words_done : Request → List ℕ
  words_done Idle = w
  words_done (Push e) = joined_words k w e (room_of k b w e.rank.0)
  words_done Pop = words_after
  words_done (Replace e) = joined_words k words_after e (room_after k bits_after words_after e.rank.0)

  abbrev pub done : Request → Outcome
  done q = outcome (grants q (given k w (lowest_of k b w))) (bits_done q) (words_done q)

-- the columns "Exactly when" and "Left behind": a refusal's number is that of the first line of the table that does not hold, and where a line does not hold there is its refusal, and everything is left behind
abbrev pub Exactly : Outcome → List ℕ → List ℕ → Table → Type 0
Exactly o b w a = laws.Exactly (λ (o : Outcome). number_of o.answer) (λ (r : Refusal). refused r b w) o (ladder a fine)

-- .. and for held, which writes nothing
abbrev pub ExactlyCount : Result ℕ Refusal → Table → Type 0
ExactlyCount c a = laws.Exactly count_number Err c (ladder a fine)

-- ---- the rest of longer slices

-- "Longer slices are taken; the rest is never touched": as many words as before, and those past each part as they were
pub record Untouched (k : Lay) (b w : List ℕ) (o : Outcome) : Type 0 where
  pub bits-long : length o.bits ≡ length b
  pub words_long : length o.words ≡ length w
  pub bits-rest : (i : ℕ) → bit_words k ≤ i → word o.bits i ≡ word b i
  pub words-rest : (i : ℕ) → store_words k ≤ i → word o.words i ≡ word w i
