-- What the two passes over the levels ask: where the levels lie, and a level's task that finds its node in order.
use Rattle.std.specs.Prelude.{◌*◌, ◌+◌, ◌<◌, ◌≡◌, ◌≤◌}
use Rattle.laws.specs.Prelude.{List, length, suc, true, zero, ℕ}
use Rattle.cluster_clock_model.specs.Prelude.{Passed, below, sane_at, stage_count, stages_ok}
use Rattle.cluster_clock_model.specs.declared.Stage.{Stage}
use Rattle.cluster_model.specs.Prelude.{room, width, works}
use Rattle.cluster_clock_level.specs.Stage.{Gives, op_of}
use Rattle.cluster_clock_level.specs.declared.Task.{Task}

-- the number behind the last node, with k levels below the one whose first node is a
abbrev pub ends : ℕ → ℕ → ℕ
ends zero a = below a
ends (suc k) a = ends k (below a)

-- all of them lie within len words
pub record Lies (K k a len : ℕ) : Type 0 where
  pub some : 1 < K
  pub few : K ≤ 16
  pub nodes : ends k a ≤ 5460
  pub words : ends k a * width K ≤ len

-- a level's task: its node is one of the level's and in order, and it gives from the lowest place
pub record TaskIn (K k a : ℕ) (t : Task) (ws : List ℕ) : Type 0 where
  pub node : t.node < a + 1
  pub sane : works (op_of t.job) ≡ true → sane_at K (room K k) ws (a + t.node) ≡ true
  pub gives : Gives K a t ws

-- the tests have passed, and what is to be done at the first level can be done
pub record RoundReady (K k a : ℕ) (t : Task) (i : ℕ) (rs : List Stage) (ws : List ℕ) : Type 0 where
  pub lies : Lies K k a (length ws)
  pub small : room K k ≤ 5460
  pub records : k ≤ stage_count
  pub tested : stages_ok K k a i rs ws ≡ true
  pub task : TaskIn K k a t ws

abbrev pub passed : (K : ℕ) → List ℕ → List Stage → Passed K
passed K ws rs = record { words = ws; records = rs }
