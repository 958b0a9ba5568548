-- What the check's functions ask of the words.
use Rattle.std.specs.Prelude.{◌*◌, ◌+◌, ◌<◌, ◌≡◌, ◌≤◌}
use Rattle.laws.specs.Prelude.{Bool, List, [], cond, length, pred, suc, true, ℕ}
use Rattle.tree_model.specs.Prelude.{node_of, room, shape_ok, slot_limit, slot_words}
use Rattle.tree_model.specs.declared.Slot.{Slot}

-- the slots under slot p, where there are any
abbrev pub under_if : ℕ → Bool → List ℕ → ℕ → List Slot
under_if m u ws p = cond u (node_of m ws (suc p * m)) []

-- slot p lies within the words, and so does the node under it where there is one
pub record SlotIn (m p : ℕ) (u : Bool) (ws : List ℕ) : Type 0 where
  pub order : 0 < m
  pub few : m ≤ 8
  pub small : p ≤ slot_limit
  pub slot : slot_words * p + slot_words ≤ length ws
  pub under : u ≡ true → slot_words * (suc p * m + m) ≤ length ws

-- slot p of a store of m * suc inner slots, of which the first `inner` have a node under them
pub record WalkIn (m inner p : ℕ) (ws : List ℕ) : Type 0 where
  pub order : 0 < m
  pub few : m ≤ 8
  pub inside : p < m * suc inner
  pub limit : m * suc inner ≤ slot_limit
  pub words : slot_words * (m * suc inner) ≤ length ws

-- a store whose shape has been tested, of which the first `inner` slots have a node under them
pub record StoreLies (m levels inner : ℕ) (ws : List ℕ) : Type 0 where
  pub shaped : shape_ok m levels (length ws) ≡ true
  pub above : inner ≡ room m (pred levels)

-- k levels from node q on, which lies `depth` levels below the root, lie within the words
pub record NodeLies (m k q : ℕ) (ws : List ℕ) : Type 0 where
  pub order : 0 < m
  pub few : m ≤ 8
  pub depth : ℕ
  pub node : q ≤ room m depth
  pub limit : room m (depth + k) ≤ slot_limit
  pub words : slot_words * room m (depth + k) ≤ length ws

-- .. and slot p with k levels below it
pub record SlotLies (m k p : ℕ) (ws : List ℕ) : Type 0 where
  pub order : 0 < m
  pub few : m ≤ 8
  pub depth : ℕ
  pub slot : p < room m depth
  pub limit : room m (depth + k) ≤ slot_limit
  pub words : slot_words * room m (depth + k) ≤ length ws

-- the first n slots lie within the words
pub record SlotsLie (n : ℕ) (ws : List ℕ) : Type 0 where
  pub limit : n ≤ slot_limit
  pub words : slot_words * n ≤ length ws
