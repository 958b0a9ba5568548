-- The rules at a position, in their own words: the lower child, put and sink; and the way to a position.
use Rattle.std.specs.Prelude.{◌*◌, ◌+◌, ◌<◌, ◌≡◌, ◌≤◌, ◌⊎◌}
use Rattle.laws.specs.Prelude.{Element, suc, zero, ℕ}
use Rattle.packed_model.specs.Node.{lhs, none, Op, pick, put, rest_of, rhs, Side, sink, size, Stepped, stepped, turn_of}
use Rattle.packed_model.specs.Words.{below}

-- "Tag 0 is an empty slot"
abbrev pub Empty : Element → Type 0
Empty e = e.tag.0 ≡ 0

-- "`lower child` ..: of its two children that are not empty the one of lower rank, left on a tie"
abbrev pub Lower : Element → Element → Side → Type 0
Lower a b lhs = (Empty a → ⊥) × (Empty b ⊎ (a.rank.0 ≤ b.rank.0))
Lower a b rhs = (Empty b → ⊥) × (Empty a ⊎ (b.rank.0 < a.rank.0))

-- "put x towards t": s is the slot's element, t is d levels deeper and r further. At t the slot becomes x; above it "x if x's rank is strictly lower than that of the
-- slot's element, else its own element", and what goes on is "put of the other of the two, towards t, at the next position of the way"
pub data Puts (x s : Element) : ℕ → ℕ → Stepped → Type 0 where
  here : (r : ℕ) (any : Side) → Puts x s zero r (stepped x any none)
  exchanges : (e r : ℕ) → x.rank.0 < s.rank.0 → Puts x s (suc e) r (stepped x (turn_of e r) (put e (rest_of e r) s))
  passes : (e r : ℕ) → s.rank.0 ≤ x.rank.0 → Puts x s (suc e) r (stepped s (turn_of e r) (put e (rest_of e r) x))

-- "sink x": a and b are the children's slots. "There is a lower child and its rank is strictly lower than x's": that child's element, and sink x at that child;
-- "otherwise": x, and nothing
pub data Sinks (x a b : Element) : Stepped → Type 0 where
  lifts : (d : Side) → Lower a b d → (pick d a b).rank.0 < x.rank.0 → Sinks x a b (stepped (pick d a b) d (sink x))
  stays : (any : Side) → ((d : Side) → Lower a b d → x.rank.0 ≤ (pick d a b).rank.0) → Sinks x a b (stepped x any none)

-- "under position i stand 2i (left) and 2i + 1 (right)", and the way to a position that is d levels deeper and r further, 2^d times i and r: the next position's own
-- distance to it is as much, one level less
pub record Next (i e r : ℕ) : Type 0 where
  pub within : rest_of e r < size e
  pub same : below i (turn_of e r) * size e + rest_of e r ≡ i * size (suc e) + r

-- "put x towards t, from position 1"
pub record Steered (levels t : ℕ) (x : Element) (o : Op) : Type 0 where
  pub d : ℕ
  pub r : ℕ
  pub op : o ≡ put d r x
  pub deep : d < levels
  pub within : r < size d
  pub there : 1 * size d + r ≡ t
