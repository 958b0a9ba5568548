-- The store as levels, and an operation done to its end.
use Rattle.std.specs.Prelude.{◌*◌, ◌+◌, ◌≡◌}
use Rattle.laws.specs.Prelude.{All, List, [], get_or, length, set, suc, zero, ℕ}
use Rattle.tree_model.specs.declared.Slot.{Slot}
use Rattle.tree_model.specs.declared.Op.{Op}
use Rattle.tree_model.specs.declared.Op.TheVariants.{Nothing, Put, Take, Swap}
use Rattle.tree_model.specs.declared.Move.{Move}
use Rattle.tree_model.specs.declared.Work.{Work}
use Rattle.tree_model.specs.Node.{op_move, low}

-- a level is the list of its nodes, a node the list of its slots
abbrev pub Level : Type 0
Level = List (List Slot)

-- k levels, the topmost first
abbrev pub Levels : ℕ → Type 0
Levels zero = Unit {0}
Levels (suc k) = Level × Levels k

unfoldable pub top : (k : ℕ) → Levels k → Level
top zero ls = []
top (suc k) ls = ls.0

-- "A node has M slots; level k has M to the power k−1 nodes": c nodes on the first of these levels, and each slot has a node below it
abbrev pub Shaped : ℕ → (k : ℕ) → ℕ → Levels k → Type 0
Shaped m zero c ls = Unit {0}
Shaped m (suc k) c ls = (length ls.0 ≡ c) × All (λ nd. length nd ≡ m) ls.0 × Shaped m k (c * m) ls.1

abbrev pub idle : Work
idle = record { op = Nothing; node = 0 }

-- work at a node; "Numbers that a record's kind doesn't use are written 0"
unfoldable pub work : Op → ℕ → Work
work Nothing n = idle
work (Put x) n = record { op = Put x; node = n }
work Take n = record { op = Take; node = n }
work (Swap x) n = record { op = Swap x; node = n }

module _ (m : ℕ) where
  -- the step of an operation at node n of a level: "Slot j of node n has below it node n_m+j of the next level"
  unfoldable pub level_move : Op → ℕ → Level → Level → Move
  level_move o n l below = op_move o (get_or l n []) (λ j. low (get_or below (n * m + j) []))

  -- what a step writes: one slot of its own level
  unfoldable pub step_level : Work → Level → Level → Level
  step_level w l below =
      let v = level_move w.op w.node l below in
      set l w.node (set (get_or l w.node []) v.place v.slot)

  -- what a step leaves for the next level
  unfoldable pub step_work : Work → Level → Level → Work
  step_work w l below =
      let v = level_move w.op w.node l below in
      work v.rest (w.node * m + v.place)

  -- "the rest of the work is the same rule one level down, with the levels left falling"
  unfoldable pub apply : (k : ℕ) → Work → Levels k → Levels k
  apply zero w ls = ls
  apply (suc k) w ls = (step_level w ls.0 (top k ls.1), apply k (step_work w ls.0 (top k ls.1)) ls.1)
