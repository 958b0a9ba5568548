-- What the functions ask of their callers, and what they promise. These are definitions.
use Rattle.std.specs.Prelude.{◌&&◌, ◌+◌, ◌<◌, ◌≡◌, ◌≤◌}
use Rattle.std.specs.Prelude.{None, Option, Some}
use Rattle.laws.specs.Prelude.{Bool, Bool·beq, List, eqb, false, leb, not, true, ℕ}
use Rattle.bucket_model.specs.declared.Lay.{Lay}
use Rattle.bucket_model.specs.Calls.{Lowest}
use Rattle.bucket_model.specs.Calls.{Room}
use Rattle.bucket_model.specs.declared.Bucket.{Bucket}
use Rattle.bucket_model.specs.declared.Spot.{Spot}
use Rattle.bucket_model.specs.Prelude.{Laid, Shaped, found_low, found_room, head_at, lowest_of, next_of, rank_agrees, storeys_at, tail_at, word}
use Rattle.bucket_bits.specs.Climbs.{Switchable}
use Rattle.bucket_node.specs.Places.{Takable}

-- a store with all its words, laid out so
pub record Stands (k : Lay) (b w : List ℕ) : Type 0 where
  pub laid : Laid k
  pub shaped : Shaped k b w

-- a push's pool: not all of its nodes are in use, and one is free
pub record Roomy (k : Lay) (used : ℕ) (w : List ℕ) : Type 0 where
  pub used< : used < k.nodes
  pub free> : 1 ≤ word w k.free

-- ---- the tests of a bucket, in the parts that are made one after the other

-- a pop's bucket, whose head and tail name nodes: "no link read may exceed N; a tail's next must be 0; on a pop, the head's next is 0 exactly if head equals tail"
abbrev pub ends_ok : ℕ → ℕ → ℕ → ℕ → ℕ → Bool
ends_ok n head tail next behind = leb next n && eqb behind 0 && Bool·beq (eqb next 0) (eqb head tail)

-- the node that a push takes: "no link read may exceed N; .. its next is 0 exactly at held = N−1"
abbrev pub node_ok : ℕ → ℕ → ℕ → Bool
node_ok n used next = leb next n && Bool·beq (eqb next 0) (eqb (used + 1) n)

-- the bucket that it joins: "head, tail .. must agree on emptiness; .. no link read may exceed N; a tail's next must be 0; .. the taken node is not the tail"
abbrev pub links_ok : ℕ → ℕ → ℕ → ℕ → ℕ → Bool
links_ok n head tail behind free = Bool·beq (eqb head 0) (eqb tail 0) && leb head n && leb tail n && eqb behind 0 && not (eqb free tail)

-- .. of a store: a rank's links, and with them the node that is taken
abbrev pub links_in : Lay → List ℕ → ℕ → Bool
links_in k w r = links_ok k.nodes (word w (head_at k r)) (word w (tail_at k r)) (next_of k w (word w (tail_at k r))) (word w k.free)

abbrev pub join_ok : Lay → ℕ → List ℕ → ℕ → Bool
join_ok k used w r = node_ok k.nodes used (next_of k w (word w k.free)) && links_in k w r

-- the bucket that a push joins on the store as after a pop, but for the tests that the pop's make sure of: "top word 0 and held 0" of the whole queue, the links, the bits
unfoldable pub room_freed : Lay → List ℕ → List ℕ → ℕ → Room
room_freed k b w r =
    record {
      good =
          Bool·beq (eqb (word b k.bits) 0) (eqb (word w k.held) 0)
          && links_in k w r
          && rank_agrees k b r (eqb (word w (head_at k r)) 0);
      tail = word w (tail_at k r);
      next = next_of k w (word w k.free);
    }

-- ---- what is found

-- the lowest bucket that the rules find, whose rank is one of the ranks, and its bits can be cleared
pub record IsLow (k : Lay) (b w : List ℕ) (low : Lowest) : Type 0 where
  pub is : low ≡ lowest_of k b w
  pub rank< : low.rank < k.ranks
  pub set : Switchable false b (storeys_at k) low.rank

-- .. is found exactly if it passes the tests
abbrev pub FoundLow : Lay → List ℕ → List ℕ → Option Bucket → Type 0
FoundLow k b w None = (lowest_of k b w).good ≡ false
FoundLow k b w (Some low) = IsLow k b w (found_low low)

-- the links of a bucket to join
pub record AreLinks (k : Lay) (w : List ℕ) (r : ℕ) (to : Room) : Type 0 where
  pub tail : to.tail ≡ word w (tail_at k r)
  pub next : to.next ≡ next_of k w (word w k.free)

-- .. are found exactly if they pass these tests
abbrev pub FoundLinks : Lay → List ℕ → ℕ → Bool → Option Spot → Type 0
FoundLinks k w r test None = test ≡ false
FoundLinks k w r test (Some to) = (test ≡ true) × AreLinks k w r (found_room to)

-- links and bits pass their tests exactly if the rules' bucket does, and then it is that one
pub record FoundRoom (good? : Bool) (to room : Room) : Type 0 where
  pub good : good? ≡ room.good
  pub is : good? ≡ true → to ≡ room

-- a store that a pop can take low's head from
pub record Freeing (k : Lay) (b w : List ℕ) (low : Lowest) : Type 0 where
  pub stands : Stands k b w
  pub takable : Takable k w low
  pub set : Switchable false b (storeys_at k) low.rank
