-- The pending records: "one pending record for each level from 2".
use Rattle.laws.specs.Prelude.{List, cond, get_or, set, suc, zero, ℕ}
use Rattle.tree_clock_model.specs.Cycle.{Works}
use Rattle.tree_model.specs.Prelude.{Levels, idle, is_nothing, step_work, top, work}
use Rattle.tree_model.specs.declared.Work.{Work}

-- record i as work; "Numbers that a record's kind doesn't use are written 0 and never read"
unfoldable pub record_at : List Work → ℕ → Work
record_at rs i = work (get_or rs i idle).op (get_or rs i idle).node

-- the work of k levels, the first of which has record i
unfoldable pub works_of : (k : ℕ) → List Work → ℕ → Works k
works_of zero rs i = tt
works_of (suc k) rs i = (record_at rs i, works_of k rs (suc i))

-- what a record w becomes where the level above leaves q for it: loaded with q; with nothing to load, done work becomes nothing, and a
-- record of nothing stands as it is
unfoldable pub landed : Work → Work → Work
landed q w = cond (is_nothing q.op) (cond (is_nothing w.op) w idle) q

-- the records after a cycle: those of k levels, the first of which has record i and is loaded with q. "records past the last level are
-- left alone"
unfoldable pub records_after : ℕ → (k : ℕ) → Work → ℕ → List Work → Levels k → List Work
records_after m zero q i rs ls = rs
records_after m (suc k) q i rs ls =
    records_after m k (step_work m (record_at rs i) ls.0 (top k ls.1)) (suc i) (set rs i (landed q (get_or rs i idle))) ls.1
