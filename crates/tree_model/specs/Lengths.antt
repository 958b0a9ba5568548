-- The same with every length 0: "a length in bytes" travels with its strip and decides nothing (02 [9]).
use Rattle.laws.specs.Prelude.{List, map, suc, zero, ℕ}
use Rattle.promise.specs.Prelude.{short}
use Rattle.tree_model.specs.Levels.{Level, Levels}
use Rattle.tree_model.specs.declared.Op.{Op}
use Rattle.tree_model.specs.declared.Op.TheVariants.{Nothing, Put, Swap, Take}
use Rattle.tree_model.specs.declared.Slot.{Slot}

-- what stands in a store, and what is to be done there
abbrev pub short_slot : Slot → Slot
short_slot s = record { element = short s.element; count = s.count }

abbrev pub short_node : List Slot → List Slot
short_node nd = map short_slot nd

abbrev pub short_level : Level → Level
short_level l = map short_node l

abbrev pub short_levels : (k : ℕ) → Levels k → Levels k
short_levels zero ls = tt
short_levels (suc k) ls = (short_level ls.0, short_levels k ls.1)

abbrev pub short_op : Op → Op
short_op Nothing = Nothing
short_op (Put x) = Put (short x)
short_op Take = Take
short_op (Swap x) = Swap (short x)
