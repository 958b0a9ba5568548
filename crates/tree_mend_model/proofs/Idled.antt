-- The clocked tree's store passes the check as soon as nothing is pending. With work pending it usually does not, and that is no damage.
use Rattle.std.specs.Prelude.{None, Ok}
use Rattle.laws.specs.Prelude.{List, Request, ◌∙◌, ◌≡◌, ap, false, length, pred, ℕ}
use Rattle.tree_clock_model.proofs.Laws.{calls-words, demand-idles, demand-store}
use Rattle.tree_clock_model.specs.Prelude.{calls_of, idles, pending, ran}
use Rattle.tree_model.specs.Prelude.{Shape, start}
use Rattle.tree_mend_model.specs.Check.{checked}
use Rattle.tree_mend_model.proofs.Passes.{reached-passes}

-- any list of cycles from the cleared machine
module _ (m levels : ℕ) (ws : List ℕ) (rs : List Request) (sh : Shape m levels (length ws)) where
  -- IDLED: so many idle cycles that nothing is pending, and the store passes
  pub idled-passes : (n : ℕ) → pending m levels (idles m levels n (ran m levels rs ws).state (ran m levels rs ws).words).state ≡ false
      → checked m levels (idles m levels n (ran m levels rs ws).state (ran m levels rs ws).words).words ≡ Ok None
  idled-passes n quiet =
      ap (checked m levels) (demand-store m ws rs levels sh n quiet ∙ calls-words m levels rs false (start m levels ws))
      ∙ reached-passes m levels ws (calls_of m levels rs false (start m levels ws)) sh

  -- .. levels - 1 of them are enough
  pub few-idles : checked m levels (idles m levels (pred levels) (ran m levels rs ws).state (ran m levels rs ws).words).words ≡ Ok None
  few-idles = idled-passes (pred levels) (demand-idles m ws rs levels sh)
