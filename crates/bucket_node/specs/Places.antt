-- What the functions on the words ask of their callers. These are definitions.
use Rattle.std.specs.Prelude.{◌<◌, ◌≡◌, ◌≤◌}
use Rattle.laws.specs.Prelude.{List, length, ℕ}
use Rattle.bucket_model.specs.declared.Lay.{Lay}
use Rattle.bucket_model.specs.Calls.{Lowest}
use Rattle.bucket_model.specs.Calls.{Room}
use Rattle.bucket_model.specs.Prelude.{Laid, store_words, word}

-- all words of the layout are there
pub record Fits (k : Lay) (w : List ℕ) : Type 0 where
  pub laid : Laid k
  pub words : store_words k ≤ length w

-- a node's link
pub record NodeOf (k : Lay) (w : List ℕ) (link : ℕ) : Type 0 where
  pub fits : Fits k w
  pub some : 1 ≤ link
  pub high : link ≤ k.nodes

-- a bucket whose head a pop can take
pub record Takable (k : Lay) (w : List ℕ) (low : Lowest) : Type 0 where
  pub node : NodeOf k w low.head
  pub rank< : low.rank < k.ranks
  pub held> : 1 ≤ word w k.held

-- a bucket that a push can join
pub record Linkable (k : Lay) (r tail : ℕ) : Type 0 where
  pub laid : Laid k
  pub rank< : r < k.ranks
  pub tail≤ : tail ≤ k.nodes

pub record Joinable (k : Lay) (w : List ℕ) (r tail : ℕ) : Type 0 where
  pub node : NodeOf k w (word w k.free)
  pub rank< : r < k.ranks
  pub tail≤ : tail ≤ k.nodes
  pub held< : word w k.held < k.nodes

-- a bucket that the head of another, or of itself, can join; the free link stands
pub record Swappable (k : Lay) (w : List ℕ) (low : Lowest) (r : ℕ) (to : Room) : Type 0 where
  pub node : NodeOf k w low.head
  pub from< : low.rank < k.ranks
  pub held> : 1 ≤ word w k.held
  pub rank< : r < k.ranks
  pub tail≤ : to.tail ≤ k.nodes
  pub next : to.next ≡ word w k.free
