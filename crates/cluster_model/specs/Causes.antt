-- The causes of refusal in 02 [2]'s words, and what stands in a store.
use Rattle.std.specs.Prelude.{◌*◌, ◌+◌, ◌<◌, ◌≡◌, ◌≤◌, ◌⊎◌}
use Rattle.laws.specs.Prelude.{Bool, Element, List, Zeros, element_in, suc, sum_to, zero, ℕ}
use Rattle.promise.specs.Prelude.{always}
use Rattle.cluster_model.specs.Heap.{room}
use Rattle.cluster_model.specs.Node.{inside, lhs, Node, none, Op, put, rhs, swap, take}
use Rattle.cluster_model.specs.Way.{child, extent, node_in, step_in, under1}
use Rattle.cluster_model.specs.Words.{word}

-- ---- causes: column "Exactly when" of the table of refusals
-- what a shape must be, in 02 [2]'s numbers; anything else is cause 1
pub record Shape (K levels len : ℕ) : Type 0 where
  pub two : 2 ≤ K
  pub sixteen : K ≤ 16
  pub some : 1 ≤ levels
  pub capacity : room K levels ≤ 5460
  pub slice : extent K levels 1 ≤ len

-- one of the numbers below n
abbrev pub AnyTo : ℕ → (ℕ → Type 0) → Type 0
AnyTo zero P = ⊥
AnyTo (suc n) P = AnyTo n P ⊎ P n

-- a flag above 1, or a flag of 0 and another word not 0
abbrev pub PlaceDamaged : List ℕ → ℕ → Type 0
PlaceDamaged ws o = (1 < word ws (o + 3)) ⊎ ((word ws (o + 3) ≡ 0) × (Zeros (element_in ws o) → ⊥))

-- how many places are flagged
abbrev pub flagged : Node → ℕ
flagged n = inside always n.places

module _ (K : ℕ) where
  -- a damaged place; a count above what a child has room for; something below, and fewer than K places flagged
  abbrev pub NodeDamaged : ℕ → List ℕ → ℕ → Type 0
  NodeDamaged limit ws m =
      AnyTo K (λ j. PlaceDamaged ws (m * (2 + K * 4) + 2 + j * 4))
      ⊎ ((limit < (node_in K ws m).left) ⊎ ((limit < (node_in K ws m).right) ⊎ ((0 < (node_in K ws m).left + (node_in K ws m).right) × (flagged (node_in K ws m) < K))))

  -- a put finds every place flagged, and both counts at the limit
  abbrev pub Stuck : ℕ → Node → Type 0
  Stuck limit n = (K ≤ flagged n) × ((limit ≤ n.left) × (limit ≤ n.right))

  -- a child of this count that is read for its lowest: only where the count is not 0. It must have an element
  abbrev pub ChildDamaged : ℕ → ℕ → List ℕ → ℕ → Type 0
  ChildDamaged count limit ws m = (0 < count) × (NodeDamaged limit ws m ⊎ (flagged (node_in K ws m) ≡ 0))

  -- what a step at node m reads, with k levels below it
  abbrev pub StepDamaged : ℕ → Op → ℕ → List ℕ → Type 0
  StepDamaged k none m ws = ⊥
  StepDamaged k (put x) m ws = NodeDamaged (room K k) ws m ⊎ Stuck (room K k) (node_in K ws m)
  StepDamaged k take m ws =
      NodeDamaged (room K k) ws m
      ⊎ (ChildDamaged (node_in K ws m).left (under1 K k) ws (child m lhs) ⊎ ChildDamaged (node_in K ws m).right (under1 K k) ws (child m rhs))
  StepDamaged k (swap x) m ws =
      NodeDamaged (room K k) ws m
      ⊎ (ChildDamaged (node_in K ws m).left (under1 K k) ws (child m lhs) ⊎ ChildDamaged (node_in K ws m).right (under1 K k) ws (child m rhs))

  abbrev pub PathDamaged : (k : ℕ) → Op → ℕ → List ℕ → Type 0
  PathDamaged zero o m ws = ⊥
  PathDamaged (suc k) o m ws = StepDamaged k o m ws ⊎ PathDamaged k (step_in K k o m ws).op (child m (step_in K k o m ws).side) ws

-- ---- what a store holds
-- "2^L − 1": how many nodes there are
unfoldable pub nodes : ℕ → ℕ
nodes zero = 0
nodes (suc k) = suc (nodes k + nodes k)

-- how many places of the nodes of these levels hold an element that passes the test
unfoldable pub stored_count : ℕ → ℕ → List ℕ → (Element → Bool) → ℕ
stored_count K levels ws f = sum_to (nodes levels) (λ m. inside f (node_in K ws m).places)
