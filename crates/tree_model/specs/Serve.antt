-- A request served on levels, and what a store of levels has to be.
use Rattle.std.specs.Prelude.{◌*◌}
use Rattle.laws.specs.Prelude.{Bool, Element, Request, [], get_or, replicate, suc, zero, ℕ}
use Rattle.tree_model.specs.Calls.{rule, Ruling}
use Rattle.tree_model.specs.Damage.{room}
use Rattle.tree_model.specs.Levels.{apply, Levels, Shaped, work}
use Rattle.tree_model.specs.Node.{vacant}
use Rattle.tree_model.specs.Tree.{many, Sound, tree_of}

unfoldable pub ruled : (m k : ℕ) → Request → Levels (suc k) → Ruling
ruled m k r ls = rule (room m (suc k)) r (get_or ls.0 0 [])

unfoldable pub serve : (m k : ℕ) → Request → Levels (suc k) → Levels (suc k)
serve m k r ls = apply m (suc k) (work (ruled m k r ls).op 0) ls

-- how many elements of the store pass the test
unfoldable pub holding : (m k : ℕ) → Levels (suc k) → (Element → Bool) → ℕ
holding m k ls f = many f (suc k) (tree_of m (suc k) ls 0)

pub record Store (m k : ℕ) (ls : Levels (suc k)) : Type 0 where
  pub shaped : Shaped m (suc k) 1 ls
  pub sound : Sound m (suc k) (tree_of m (suc k) ls 0)

-- all slots empty: k levels, the first of c nodes
unfoldable pub bare_levels : ℕ → (k : ℕ) → ℕ → Levels k
bare_levels m zero c = tt
bare_levels m (suc k) c = (replicate c (replicate m vacant), bare_levels m k (c * m))
