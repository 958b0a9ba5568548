-- 01's rules in 01's own words, over ranks and counts: what each step at a node does, and what a request comes to at the root. `proofs/Rules.antt`
-- shows that the definitions are these.
use Rattle.std.specs.Prelude.{◌<◌, ◌≡◌, ◌≤◌, ◌⊎◌}
use Rattle.laws.specs.Prelude.{Element, List, Request, element, length, pred, suc, ℕ}
use Rattle.promise.specs.Calls as calls
pub use Rattle.promise.specs.Calls.{empty, full, idles, lacks, no-tag, puts, swaps, takes}
use Rattle.tree_model.specs.Calls.{Ruling}
use Rattle.tree_model.specs.Node.{first_empty, least_count, low, lowest, move, slot_at, sum_counts}
use Rattle.tree_model.specs.declared.Move.{Move}
use Rattle.tree_model.specs.declared.Op.TheVariants.{Nothing, Put, Swap, Take}
use Rattle.tree_model.specs.declared.Slot.{Slot}

-- "with an empty slot, the first one"
pub record IsFirst (nd : List Slot) (j : ℕ) : Type 0 where
  pub inside : j < length nd
  pub empty : (slot_at nd j).count ≡ 0
  pub first : (i : ℕ) → i < j → (slot_at nd i).count ≡ 0 → ⊥

-- "the slot with the smallest count, leftmost on a tie"
pub record IsLeast (nd : List Slot) (j : ℕ) : Type 0 where
  pub inside : j < length nd
  pub smallest : (i : ℕ) → i < length nd → (slot_at nd j).count ≤ (slot_at nd i).count
  pub leftmost : (i : ℕ) → i < j → (slot_at nd j).count < (slot_at nd i).count

-- "the occupied slot of lowest rank"; "equal ranks within one node .. leave by lower tag, not by leftmost slot; leftmost remains for equal
-- rank and tag"
pub record IsLowest (nd : List Slot) (j : ℕ) : Type 0 where
  pub inside : j < length nd
  pub occupied : 0 < (slot_at nd j).count
  pub least : (i : ℕ) → i < length nd → 0 < (slot_at nd i).count
      → ((slot_at nd j).element.rank.0 < (slot_at nd i).element.rank.0) ⊎ (((slot_at nd j).element.rank.0 ≡ (slot_at nd i).element.rank.0) × ((slot_at nd j).element.tag.0 ≤ (slot_at nd i).element.tag.0))
  pub leftmost : (i : ℕ) → i < j → 0 < (slot_at nd i).count
      → ((slot_at nd j).element.rank.0 < (slot_at nd i).element.rank.0) ⊎ (((slot_at nd j).element.rank.0 ≡ (slot_at nd i).element.rank.0) × ((slot_at nd j).element.tag.0 < (slot_at nd i).element.tag.0))

-- an element that stands in an occupied slot of the node, of the lowest rank there, and of the slots of that rank with the lowest tag
pub record LowerTag (nd : List Slot) (e : Element) : Type 0 where
  pub place : ℕ
  pub inside : place < length nd
  pub occupied : 0 < (slot_at nd place).count
  pub stands : (slot_at nd place).element ≡ e
  pub rank : (i : ℕ) → i < length nd → 0 < (slot_at nd i).count → e.rank.0 ≤ (slot_at nd i).element.rank.0
  pub tag : (i : ℕ) → i < length nd → 0 < (slot_at nd i).count → (slot_at nd i).element.rank.0 ≡ e.rank.0 → e.tag.0 ≤ (slot_at nd i).element.tag.0

-- "Put x: with an empty slot, the first one becomes x with count 1, and that ends it. Otherwise the slot with the smallest count .. has its count
-- raised by one; if x's rank is strictly lower, x and the slot's element change places; what is left over is put into the node below"
pub data Puts (x : Element) (nd : List Slot) : Move → Type 0 where
  ends : first_empty nd < length nd → Puts x nd (move (first_empty nd) x 1 Nothing)
  exchanges : length nd ≤ first_empty nd → x.rank.0 < (slot_at nd (least_count nd)).element.rank.0
      → Puts x nd (move (least_count nd) x (suc (slot_at nd (least_count nd)).count) (Put (slot_at nd (least_count nd)).element))
  passes : length nd ≤ first_empty nd → (slot_at nd (least_count nd)).element.rank.0 ≤ x.rank.0
      → Puts x nd (move (least_count nd) (slot_at nd (least_count nd)).element (suc (slot_at nd (least_count nd)).count) (Put x))

-- "Take: the occupied slot of lowest rank .. gives its element; its count falls by one. At count 0 the slot is cleared. Otherwise it receives what
-- a take gives at the node below"
pub data Takes (nd : List Slot) (below : ℕ → Element) : Move → Type 0 where
  clears : (slot_at nd (lowest nd)).count ≤ 1 → Takes nd below (move (lowest nd) (element 0 0 0) 0 Nothing)
  receives : 1 < (slot_at nd (lowest nd)).count → Takes nd below (move (lowest nd) (below (lowest nd)) (pred (slot_at nd (lowest nd)).count) Take)

-- "Swap x: the slot that a take would choose gives its element, count unchanged. At count 1, or if the lowest rank in the node below is not strictly
-- lower than x's, x stays in the slot. Otherwise the slot receives that lowest element, and the node below is swapped with x"
pub data Swaps (x : Element) (nd : List Slot) (below : ℕ → Element) : Move → Type 0 where
  stays : ((slot_at nd (lowest nd)).count ≤ 1) ⊎ (x.rank.0 ≤ (below (lowest nd)).rank.0) → Swaps x nd below (move (lowest nd) x (slot_at nd (lowest nd)).count Nothing)
  goes : 1 < (slot_at nd (lowest nd)).count → (below (lowest nd)).rank.0 < x.rank.0
      → Swaps x nd below (move (lowest nd) (below (lowest nd)) (slot_at nd (lowest nd)).count (Swap x))

-- "Push puts at the root, pop takes there", and what else the law says of a request (`Comes` of `promise`), by the root's counts and its lowest. c is the capacity
abbrev pub Comes : ℕ → List Slot → Request → Ruling → Type 0
Comes c nd = calls.Comes Nothing Put Take Swap c (sum_counts nd) (low nd)
