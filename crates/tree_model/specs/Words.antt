-- The lent words: "Slots lie in one lent slice, level by level, node by node"; "A tree slot is then four words, with length before count" (02 [9]):
-- rank, tag, length, count.
use Rattle.std.specs.Prelude.{◌*◌, ◌++◌, ◌+◌, ◌∷◌}
use Rattle.laws.specs.Prelude.{List, [], cond, drop, element_in, element_words, get_or, replicate, set, suc, write_element, zero, ℕ}
use Rattle.tree_model.specs.declared.Slot.{Slot}
use Rattle.tree_model.specs.declared.Op.{Op}
use Rattle.tree_model.specs.declared.Move.{Move}
use Rattle.tree_model.specs.declared.Work.{Work}
use Rattle.tree_model.specs.Node.{is_nothing, op_move, low}
use Rattle.tree_model.specs.Levels.{Level, Levels, top, level_move, step_work}

-- ---- a slot's words
-- how many words a slot has: its element's, and the count behind them
abbrev pub slot_words : ℕ
slot_words = element_words + 1

-- slot i of the store
unfoldable pub slot_of : List ℕ → ℕ → Slot
slot_of ws i = record { element = element_in ws (slot_words * i); count = get_or ws (slot_words * i + element_words) 0 }

unfoldable pub write : List ℕ → ℕ → Slot → List ℕ
write ws i s = set (write_element ws (slot_words * i) s.element) (slot_words * i + element_words) s.count

-- "Clear writes zeros": the words of the first n slots
unfoldable pub wipe : ℕ → List ℕ → List ℕ
wipe n ws = replicate (n * slot_words) 0 ++ drop (n * slot_words) ws

-- ---- nodes and levels
unfoldable pub tabulate : {A : Type 0} → ℕ → (ℕ → A) → List A
tabulate zero f = []
tabulate (suc n) f = f 0 ∷ tabulate n (λ i. f (suc i))

-- the node whose first slot is slot i of the store
unfoldable pub node_of : ℕ → List ℕ → ℕ → List Slot
node_of m ws i = tabulate m (λ j. slot_of ws (i + j))

-- "Capacity is M + M² + … + M^L": how many slots k levels have, the first of them of c nodes
unfoldable pub size : ℕ → ℕ → ℕ → ℕ
size m zero c = 0
size m (suc k) c = c * m + size m k (c * m)

module _ (m : ℕ) where
  -- a level of c nodes whose first slot is slot b of the store
  unfoldable pub level_of : List ℕ → ℕ → ℕ → Level
  level_of ws b c = tabulate c (λ n. node_of m ws (b + n * m))

  unfoldable pub levels_of : (k : ℕ) → List ℕ → ℕ → ℕ → Levels k
  levels_of zero ws b c = tt
  levels_of (suc k) ws b c = (level_of ws b c, levels_of k ws (b + c * m) (c * m))

  -- the levels below the one at slot b
  abbrev pub under : (k : ℕ) → List ℕ → ℕ → ℕ → Levels k
  under k ws b c = levels_of k ws (b + c * m) (c * m)

  -- the step of a node whose first slot is slot i; the node below its first place has its first slot at f
  unfoldable pub node_move : Op → ℕ → ℕ → List ℕ → Move
  node_move o i f ws = op_move o (node_of m ws i) (λ j. low (node_of m ws (f + j * m)))

  -- what a level's step writes: at most one slot. k levels are below it
  unfoldable pub step_words : (k : ℕ) → Work → ℕ → ℕ → List ℕ → List ℕ
  step_words k w b c ws =
      let v = level_move m w.op w.node (level_of ws b c) (top k (under k ws b c)) in
      cond (is_nothing w.op) ws (write ws (b + w.node * m + v.place) v.slot)

  -- what a level's step leaves for the next level
  abbrev pub rest_words : (k : ℕ) → Work → ℕ → ℕ → List ℕ → Work
  rest_words k w b c ws = step_work m w (level_of ws b c) (top k (under k ws b c))

  -- an operation done to its end: one slot of each level on its path is written, from the top down
  unfoldable pub apply_words : (k : ℕ) → Work → ℕ → ℕ → List ℕ → List ℕ
  apply_words zero w b c ws = ws
  apply_words (suc k) w b c ws = apply_words k (rest_words k w b c ws) (b + c * m) (c * m) (step_words k w b c ws)
