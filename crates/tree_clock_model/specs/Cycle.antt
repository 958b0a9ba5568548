-- One cycle: each level does its own step, on levels and on words.
use Rattle.std.specs.Prelude.{◌&&◌, ◌*◌, ◌+◌}
use Rattle.laws.specs.Prelude.{Bool, List, suc, true, zero, ℕ}
use Rattle.tree_model.specs.Prelude.{Levels, is_nothing, step_level, step_words, step_work, top, work_ok}
use Rattle.tree_model.specs.declared.Work.{Work}

-- the work of each of k levels, the topmost first
abbrev pub Works : ℕ → Type 0
Works zero = Unit {0}
Works (suc k) = Work × Works k

module _ (m : ℕ) where
  -- "A step that goes on below does not do it: it loads the next level's record, for the next cycle". The first level is loaded with q
  unfoldable pub cycle_works : (k : ℕ) → Work → Works k → Levels k → Works k
  cycle_works zero q p ls = p
  cycle_works (suc k) q p ls = (q, cycle_works k (step_work m p.0 ls.0 (top k ls.1)) p.1 ls.1)

  -- "In a cycle every level reads what stood at the cycle's start and writes only its own level"
  unfoldable pub cycle_levels : (k : ℕ) → Works k → Levels k → Levels k
  cycle_levels zero p ls = ls
  cycle_levels (suc k) p ls = (step_level m p.0 ls.0 (top k ls.1), cycle_levels k p.1 ls.1)

  -- no level's step meets damage: "pending work reads likewise", and no "pending record names a node its level lacks"
  unfoldable pub cycle_ok : (k : ℕ) → Works k → Levels k → Bool
  cycle_ok zero p ls = true
  cycle_ok (suc k) p ls = work_ok m k p.0 ls.0 (top k ls.1) && cycle_ok k p.1 ls.1

  -- the same on the words, from the top down: at most one slot of each level is written, and a level is written after the one above has
  -- read it
  unfoldable pub cycle_words : (k : ℕ) → Works k → ℕ → ℕ → List ℕ → List ℕ
  cycle_words zero p b c ws = ws
  cycle_words (suc k) p b c ws = cycle_words k p.1 (b + c * m) (c * m) (step_words m k p.0 b c ws)

-- is nothing pending?
unfoldable pub quiet : (k : ℕ) → Works k → Bool
quiet zero p = true
quiet (suc k) p = is_nothing p.0.op && quiet k p.1
