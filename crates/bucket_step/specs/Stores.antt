-- What the writes ask of a store. These are definitions.
use Rattle.std.specs.Prelude.{◌<◌, ◌^◌}
use Rattle.laws.specs.Prelude.{List, eqb, true, ℕ}
use Rattle.bucket_model.specs.declared.Lay.{Lay}
use Rattle.bucket_model.specs.Calls.{Lowest}
use Rattle.bucket_model.specs.Calls.{Room}
use Rattle.bucket_model.specs.Prelude.{storeys_at, taken_bits}
use Rattle.bucket_bits.specs.Climbs.{Tall, Signalling}
use Rattle.bucket_node.specs.Places.{Joinable, Swappable}
use Rattle.bucket_step.specs.Tested.{Stands, Freeing}

-- a bucket that a push can join; its bits can be set where it is empty, and are set where it is not
pub record Joining (k : Lay) (b w : List ℕ) (r tail : ℕ) : Type 0 where
  pub stands : Stands k b w
  pub joinable : Joinable k w r tail
  pub signals : Signalling true (eqb tail 0) b (storeys_at k) r

-- the bits of a rank, which can be set where its bucket was empty, and are set where it was not
pub record Showing (k : Lay) (b : List ℕ) (r tail : ℕ) : Type 0 where
  pub tall : Tall b k.bits k.storeys k.tower
  pub rank< : r < 64 ^ k.storeys
  pub signals : Signalling true (eqb tail 0) b (storeys_at k) r

-- a bucket that a push can join once the head of low is taken out
pub record Swapping (k : Lay) (b w : List ℕ) (low : Lowest) (r : ℕ) (to : Room) : Type 0 where
  pub frees : Freeing k b w low
  pub swappable : Swappable k w low r to
  pub signals : Signalling true (eqb to.tail 0) (taken_bits k b low) (storeys_at k) r
