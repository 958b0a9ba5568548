-- The tree that hangs at a node of a store, what it holds, and when it is sound.
use Rattle.std.specs.Prelude.{◌*◌, ◌+◌, ◌<◌, ◌∷◌, ◌≡◌}
use Rattle.laws.specs.Prelude.{All, Bool, Element, List, [], blank, get_or, length, map, set, suc, sum_of, zero, ℕ}
use Rattle.promise.specs.Prelude.{always, hit, lower}
use Rattle.tree_model.specs.declared.Slot.{Slot}
use Rattle.tree_model.specs.declared.Op.{Op}
use Rattle.tree_model.specs.declared.Op.TheVariants.{Nothing, Put, Take, Swap}
use Rattle.tree_model.specs.declared.Move.{Move}
use Rattle.tree_model.specs.Node.{vacant, op_move, low}
use Rattle.tree_model.specs.Levels.{Levels}
use Rattle.tree_model.specs.Damage.{room}

-- k levels: a node's slots, each with the tree below it
abbrev pub Tree : ℕ → Type 0
Tree zero = Unit {0}
Tree (suc k) = List (Slot × Tree k)

-- a node's slots, each with the tree for its place
unfoldable pub hang : {T : Type 0} → List Slot → (ℕ → T) → List (Slot × T)
hang [] g = []
hang (s ∷ ss) g = (s, g 0) ∷ hang ss (λ j. g (suc j))

-- the tree at node n of the first level: "Slot j of node n has below it node n_m+j of the next level"
unfoldable pub tree_of : ℕ → (k : ℕ) → Levels k → ℕ → Tree k
tree_of m zero ls n = tt
tree_of m (suc k) ls n = hang (get_or ls.0 n []) (λ j. tree_of m k ls.1 (n * m + j))

unfoldable pub bare : (k : ℕ) → Tree k
bare zero = tt
bare (suc k) = []

unfoldable pub slots : (k : ℕ) → Tree (suc k) → List Slot
slots k t = map (λ z. z.0) t

-- the slot at a place, with the tree below it
unfoldable pub at : (k : ℕ) → Tree (suc k) → ℕ → Slot × Tree k
at k t j = get_or t j (vacant, bare k)

-- what a take gives
unfoldable pub low_of : (k : ℕ) → Tree k → Element
low_of zero t = blank
low_of (suc k) t = low (slots k t)

-- the same step and the same rule, on trees
unfoldable pub tree_move : (k : ℕ) → Op → Tree (suc k) → Move
tree_move k o t = op_move o (slots k t) (λ j. low_of k (at k t j).1)

unfoldable pub act : (k : ℕ) → Op → Tree k → Tree k
act zero o t = t
act (suc k) o t =
    let v = tree_move k o t in
    set t v.place (v.slot, act k v.rest (at k t v.place).1)

-- ---- what a tree holds: how many of its elements pass a test
-- a slot holds its element where its count is not 0
abbrev pub own_by : ℕ → (Element → Bool) → Element → ℕ
own_by zero f e = 0
own_by (suc c) f e = hit (f e)

abbrev pub own : (Element → Bool) → Slot → ℕ
own f s = own_by s.count f s.element

unfoldable pub many : (Element → Bool) → (k : ℕ) → Tree k → ℕ
many f zero t = 0
many f (suc k) t = sum_of (λ z. own f z.0 + many f k z.1) t

abbrev pub held : (k : ℕ) → Tree k → ℕ
held k t = many always k t

-- ---- soundness
-- a slot and the tree below it: both empty; or "The count covers the slot's own element and all below it", none of which has a lower rank
pub data Fit (k : ℕ) (s : Slot) (t : Tree k) : Type 0 where
  nothing : s ≡ vacant → held k t ≡ 0 → Fit k s t
  something : s.count ≡ suc (held k t) → many (lower s.element.rank.0) k t ≡ 0 → Fit k s t

-- every node has m slots, and every slot fits
abbrev pub Sound : ℕ → (k : ℕ) → Tree k → Type 0
Sound m zero t = Unit {0}
Sound m (suc k) t = (length t ≡ m) × All (λ z. Sound m k z.1 × Fit k z.0 z.1) t

-- when an operation can be done
abbrev pub Can : ℕ → (k : ℕ) → Op → Tree k → Type 0
Can m k Nothing t = Unit {0}
Can m k (Put x) t = held k t < room m k
Can m k Take t = 0 < held k t
Can m k (Swap x) t = 0 < held k t

-- what it takes in and what it gives out
abbrev pub gain : Op → (Element → Bool) → ℕ
gain Nothing f = 0
gain (Put x) f = hit (f x)
gain Take f = 0
gain (Swap x) f = hit (f x)

abbrev pub loss : (k : ℕ) → Op → Tree k → (Element → Bool) → ℕ
loss k Nothing t f = 0
loss k (Put x) t f = 0
loss k Take t f = hit (f (low_of k t))
loss k (Swap x) t f = hit (f (low_of k t))
