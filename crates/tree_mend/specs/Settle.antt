-- Where a push goes in a tree that is only pushed into: by arithmetic, since its counts are known. And what the mender's functions ask of the words.
use Rattle.std.specs.Prelude.{◌%◌, ◌*◌, ◌+◌, ◌-◌, ◌/◌, ◌<◌, ◌^◌, ◌≡◌}
use Rattle.laws.specs.Prelude.{Element, List, cond, keep, length, ltb, pass, suc, zero, ℕ}
use Rattle.tree_model.specs.Prelude.{Shape, room, slot_of, start, write}
use Rattle.tree_model.specs.declared.Slot.{Slot}
use Rattle.tree_mend_model.specs.Mend.{keeps}
use Rattle.tree_mend.specs.Lie.{NodeLies, SlotsLie}

abbrev pub slot : Element → ℕ → Slot
slot x c = record { element = x; count = c }

-- push n, from 0, at node q with k levels below it: it takes place n mod m, and goes on as push n / m - 1 of the node below
unfoldable pub settled : (m k q n : ℕ) → Element → List ℕ → List ℕ
settled m zero q n x ws = write ws (q * m + n) (slot x 1)
settled m (suc k) q n x ws =
    let p = q * m + n % m in
    let y = (slot_of ws p).element in
    cond (ltb n m) (write ws (q * m + n) (slot x 1)) (settled m k (suc p) (n / m - 1) (pass x y) (write ws p (slot (keep x y) (n / m + 1))))

-- there is room for push n, and its whole path lies within the words; the order is a power of two
pub record Settles (m shift n : ℕ) (ws : List ℕ) : Type 0 where
  pub power : m ≡ 2 ^ shift
  pub narrow : shift < 64
  pub below : ℕ
  pub lies : NodeLies m (suc below) 0 ws
  pub deep : n < room m (suc below)

-- a store that clear left
pub record Cleared (m levels : ℕ) (ws : List ℕ) : Type 0 where
  pub before : List ℕ
  pub shape : Shape m levels (length before)
  pub clear : ws ≡ start m levels before

-- one slot's part: its element is push n, where it is taken over
unfoldable pub settled_if : (m k n : ℕ) → Slot → List ℕ → List ℕ
settled_if m k n a ws = cond (keeps a) (settled m k 0 n a.element ws) ws

-- the first n slots lie within the words of the first store, and the second, which was cleared, has as many
pub record Mendable (m n : ℕ) (ws to : List ℕ) : Type 0 where
  pub lies : SlotsLie n ws
  pub below : ℕ
  pub slots : n ≡ room m (suc below)
  pub cleared : Cleared m (suc below) to
