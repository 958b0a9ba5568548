-- What the recursions over the levels ask of the words, and what they answer and leave.
use Rattle.std.specs.Prelude.{◌*◌, ◌+◌, ◌-◌, ◌<◌, ◌≡◌, ◌≤◌}
use Rattle.laws.specs.Prelude.{Bool, List, cond, true, ℕ}
use Rattle.tree_model.specs.Prelude.{apply_words, levels_of, lowest, node_of, node_ok, path_ok, room, work}
use Rattle.tree_model.specs.declared.Op.{Op}
use Rattle.tree_node.specs.Room.{Lies}

-- k levels lie within the words (`Lies`), and the node's first slot is slot `at`. Every level above is whole, so that the node below slot i of this level begins at slot (i + 1) * m
pub record Placed (m k at b c n : ℕ) (ws : List ℕ) : Type 0 where
  pub lies : Lies m k b c n ws
  pub above : b + c * m ≡ (b + 1) * m
  pub first : at ≡ b + n * m

-- what put asks: there is such a node, with its own level at least left, and `cap` is the room below each of its slots
pub record Stands (m k at cap : ℕ) (ws : List ℕ) : Type 0 where
  pub base : ℕ
  pub nodes : ℕ
  pub node : ℕ
  pub placed : Placed m k at base nodes node ws
  pub some : 1 ≤ k
  pub fits : cap ≡ room m (k - 1)

-- what take and swap ask: the node has been looked at, is whole, and j is its lowest place
pub record Looked (m k at j cap : ℕ) (ws : List ℕ) : Type 0 where
  pub stands : Stands m k at cap ws
  pub whole : node_ok cap (node_of m ws at) ≡ true
  pub place : j ≡ lowest (node_of m ws at)
  pub inside : j < m

-- what an operation at a node answers and leaves: whether its whole path is in order and, where it is, all of its writes done
abbrev pub Carried : ℕ → ℕ → ℕ → Op → List ℕ → Bool → List ℕ → Type 0
Carried m k at o ws r ws' =
    (b c n : ℕ) → Placed m k at b c n ws → (r ≡ path_ok m k (work o n) (levels_of m k ws b c)) × (ws' ≡ cond r (apply_words m k (work o n) b c ws) ws)
