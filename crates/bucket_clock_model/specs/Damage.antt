-- "A cycle is damaged exactly if a test fails": what D1 to D5 ask, in facts. These are definitions.
use Rattle.std.specs.Prelude.{◌+◌, ◌<◌, ◌≡◌, ◌≤◌}
use Rattle.laws.specs.Prelude.{Element, Bool, Idle, Iff, List, Pop, Push, Replace, Request, false, length, suc, true, zero, ℕ}
use Rattle.bucket_model.specs.Prelude.{Shaped, Storey, bit_no, head_at, next_of, storey, tail_at, word}
use Rattle.bucket_model.specs.declared.Lay.{Lay}
use Rattle.std.specs.Prelude.{Option}
use Rattle.std.specs.Prelude.{None, Some}
use Rattle.bucket_clock_model.specs.declared.Waiting.{Waiting}
use Rattle.bucket_clock_model.specs.Desk.{count_words, Desk, floor_of, rule_now, waiting, work_at}
use Rattle.bucket_clock_model.specs.Links.{bucket_take_if}
use Rattle.bucket_clock_model.specs.Lists.{newcomer, takes}
use Rattle.bucket_clock_model.specs.Pipe.{lead}
use Rattle.bucket_clock_model.specs.Words.{count_at, Floor, take_if, way_below}

-- 1: the bucket queue's shape, and a count for each bit
pub record DeskShaped (k : Lay) (m : Desk) : Type 0 where
  pub store : Shaped k m.bits m.words
  pub counts : count_words k ≤ length m.counts

-- D3: "stage i, pop: the way is at least 64^(i-1); or its word is 0; or the count of the lowest set bit is 0 or above N"
pub record TakeFit (n : ℕ) (p : Storey) (w : ℕ) (s : Floor) : Type 0 where
  pub within : w < p.words
  pub word≢ : word s.bits (p.base + w) ≡ 0 → ⊥
  pub counted : word s.counts (count_at p (way_below p s.bits w)) ≡ 0 → ⊥
  pub most : word s.counts (count_at p (way_below p s.bits w)) ≤ n

-- D2: "stage i, push: .. the bit is set and its count 0, or clear and its count not 0; or the count is N or above"
pub record PutFit (n : ℕ) (p : Storey) (j : ℕ) (s : Floor) : Type 0 where
  pub agrees : Iff (word s.counts (count_at p j) ≡ 0) (bit_no s.bits p j ≡ 0)
  pub room : word s.counts (count_at p j) < n

abbrev pub TakesFit : ℕ → Storey → Bool → ℕ → Floor → Type 0
TakesFit n p true w s = TakeFit n p w s
TakesFit n p false w s = Unit {0}

-- .. "x's rank is at least R"
abbrev pub NewFit : Lay → Storey → ℕ → Option Element → Floor → Type 0
NewFit k p d None s = Unit {0}
NewFit k p d (Some x) s = (x.rank.0 < k.ranks) × PutFit k.nodes p (lead d x.rank.0) s

abbrev pub StoreyFit : Lay → Storey → ℕ → Request → ℕ → Floor → Type 0
StoreyFit k p d q w s = TakesFit k.nodes p (takes q) w s × NewFit k p d (newcomer q) (take_if p (takes q) w s)

-- D5: "stage S + 1, pop: the way is at least R; head or tail is 0; head, tail, head's next or free link is above N; the tail's next is not 0; the head's
-- next is 0 and head is not tail, or not 0 and head is tail"
pub record BucketTakeFit (k : Lay) (r : ℕ) (w : List ℕ) : Type 0 where
  pub within : r < k.ranks
  pub free≤ : word w k.free ≤ k.nodes
  pub head≢ : word w (head_at k r) ≡ 0 → ⊥
  pub tail≢ : word w (tail_at k r) ≡ 0 → ⊥
  pub head≤ : word w (head_at k r) ≤ k.nodes
  pub tail≤ : word w (tail_at k r) ≤ k.nodes
  pub next≤ : next_of k w (word w (head_at k r)) ≤ k.nodes
  pub behind0 : next_of k w (word w (tail_at k r)) ≡ 0
  pub ends : Iff (next_of k w (word w (head_at k r)) ≡ 0) (word w (head_at k r) ≡ word w (tail_at k r))

-- D4: "stage S + 1, push: x's rank is at least R; one of head and tail is 0 and the other not; head, tail or free link is above N; the free link is 0;
-- the taken node's next is above N; the tail's next is not 0; the taken node is the tail"
pub record BucketPutFit (k : Lay) (r : ℕ) (w : List ℕ) : Type 0 where
  pub within : r < k.ranks
  pub both : Iff (word w (head_at k r) ≡ 0) (word w (tail_at k r) ≡ 0)
  pub head≤ : word w (head_at k r) ≤ k.nodes
  pub tail≤ : word w (tail_at k r) ≤ k.nodes
  pub free≤ : word w k.free ≤ k.nodes
  pub free≢ : word w k.free ≡ 0 → ⊥
  pub next≤ : next_of k w (word w k.free) ≤ k.nodes
  pub behind0 : next_of k w (word w (tail_at k r)) ≡ 0
  pub other : word w k.free ≡ word w (tail_at k r) → ⊥

abbrev pub BucketTakesFit : Lay → Bool → ℕ → List ℕ → Type 0
BucketTakesFit k true r w = BucketTakeFit k r w
BucketTakesFit k false r w = Unit {0}

abbrev pub BucketNewFit : Lay → Option Element → List ℕ → Type 0
BucketNewFit k None w = Unit {0}
BucketNewFit k (Some x) w = BucketPutFit k x.rank.0 w

abbrev pub BucketFit : Lay → Request → ℕ → List ℕ → Type 0
BucketFit k q r w = BucketTakesFit k (takes q) r w × BucketNewFit k (newcomer q) (bucket_take_if k (takes q) r w)

-- every stage
abbrev pub StagesFit : Lay → (e d : ℕ) → Waiting → Desk → Type 0
StagesFit k e zero g m = BucketFit k g.does g.way m.words
StagesFit k e (suc d) g m = StoreyFit k (storey k.bits e) d g.does g.way (floor_of m) × StagesFit k (suc e) d (work_at m.records e) m

-- D1: "an operation is asked for and held is above N"
abbrev pub HeldFit : Lay → Request → List ℕ → Type 0
HeldFit k Idle w = Unit {0}
HeldFit k (Push x) w = word w k.held ≤ k.nodes
HeldFit k Pop w = word w k.held ≤ k.nodes
HeldFit k (Replace x) w = word w k.held ≤ k.nodes

-- a cycle finds all in order
abbrev pub CycleFit : Lay → Request → Desk → Type 0
CycleFit k q m = HeldFit k q m.words × StagesFit k 0 k.storeys (waiting (rule_now k q m).op 0) m
