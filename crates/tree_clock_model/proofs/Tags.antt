-- "equal ranks within one node .. leave by lower tag", on the clock: what a cycle's pop or replace answers.
use Rattle.laws.specs.Prelude.{BadShape, Bool, Damaged, Element, List, Request, TooSoon, ◌&&◌, ◌≡◌, cond, false, true, ℕ, Ok, Some, Err}
use Rattle.tree_clock_model.proofs.Exactly.{cycled-either}
use Rattle.tree_clock_model.specs.Prelude.{State, cycle_run, cycled, pops_or_replaces, rule_marked, rule_now}
use Rattle.promise.proofs.Calls.{is-out}
use Rattle.tree_model.proofs.Laws.{rule-tag}
use Rattle.tree_model.specs.Prelude.{LowerTag, Ruling, root_of, rule_at, ruling}
use Rattle.tree_model.specs.declared.Op.TheVariants.{Nothing}

module _ (m levels : ℕ) (s : State) (ws : List ℕ) (e : Element) where
  now-tag : (r : Request) → (rule_now m levels r s ws).answer ≡ Ok (Some e) → LowerTag (root_of m ws) e
  unfolding rule_marked
  now-tag r = go (s.mark && pops_or_replaces r)
    where
      go : (b : Bool) → (cond {A = Ruling} b (ruling (Err TooSoon) Nothing) (rule_at m levels r ws)).answer ≡ Ok (Some e) → LowerTag (root_of m ws) e
      go true p = absurd (is-out (Err TooSoon) e p)
      go false p = rule-tag m levels ws e r p

  pub cycle-tag : (r : Request) → (cycled m levels r s ws).answer ≡ Ok (Some e) → LowerTag (root_of m ws) e
  unfolding cycle_run
  cycle-tag r p =
      cycled-either m levels r s ws (λ c. c.answer ≡ Ok (Some e) → LowerTag (root_of m ws) e) (λ q. absurd (is-out (Err BadShape) e q)) (λ q. absurd (is-out (Err Damaged) e q)) (λ f g q. now-tag r q) p
