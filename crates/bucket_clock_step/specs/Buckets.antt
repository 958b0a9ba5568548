-- What the buckets' functions ask of their callers, and what is found. These are definitions.
use Rattle.std.specs.Prelude.{None, Option, Some, ◌≡◌}
use Rattle.laws.specs.Prelude.{List, false, true, ℕ}
use Rattle.bucket_model.specs.declared.Lay.{Lay}
use Rattle.bucket_model.specs.declared.Bucket.{Bucket}
use Rattle.bucket_model.specs.Prelude.{head_at, next_of, tail_at, word}
use Rattle.bucket_node.specs.Places.{Fits}
use Rattle.bucket_clock_model.specs.Damage.{BucketPutFit, BucketTakeFit}
use Rattle.bucket_clock_model.specs.Links.{bucket_take_ok}

-- the head of low's rank can leave, and low is what was read of its bucket
pub record Leaves (k : Lay) (w : List ℕ) (low : Bucket) : Type 0 where
  pub fits : Fits k w
  pub fit : BucketTakeFit k low.rank w
  pub head : low.head ≡ word w (head_at k low.rank)
  pub tail : low.tail ≡ word w (tail_at k low.rank)
  pub next : low.next ≡ next_of k w (word w (head_at k low.rank))

-- low is what was read of the bucket of rank r
pub record Seen (k : Lay) (w : List ℕ) (r : ℕ) (low : Bucket) : Type 0 where
  pub rank : low.rank ≡ r
  pub head : low.head ≡ word w (head_at k r)
  pub tail : low.tail ≡ word w (tail_at k r)
  pub next : low.next ≡ next_of k w (word w (head_at k r))

-- the bucket that a way leads to is found exactly if it passes the rules' tests
abbrev pub Found : Lay → List ℕ → ℕ → Option Bucket → Type 0
Found k w way None = bucket_take_ok k way w ≡ false
Found k w way (Some low) = (bucket_take_ok k way w ≡ true) × Seen k w way low

-- an element of rank r can be joined to its bucket
pub record Joins (k : Lay) (w : List ℕ) (r : ℕ) : Type 0 where
  pub fits : Fits k w
  pub fit : BucketPutFit k r w
