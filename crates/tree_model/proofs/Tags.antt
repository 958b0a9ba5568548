-- "equal ranks within one node .. leave by lower tag": what a pop and a replace answer. Of equal ranks in different nodes nothing is said.
use Rattle.laws.specs.Prelude.{Element, List, Request, ◌≡◌, subst, ℕ, Ok, Some, Err}
use Rattle.promise.proofs.Calls.{comes-out, is-out}
use Rattle.tree_model.proofs.Exactly.{called-either}
use Rattle.tree_model.proofs.Rules.{comes, lower-tag}
use Rattle.tree_model.specs.Prelude.{LowerTag, Slot, called, low, room, root_of, rule_at, sum_counts}

-- ---- at the root, for any words
module _ (m levels : ℕ) (ws : List ℕ) (e : Element) where
  pub rule-tag : (r : Request) → (rule_at m levels r ws).answer ≡ Ok (Some e) → LowerTag (root_of m ws) e
  rule-tag r p =
      let nd : List Slot = root_of m ws in
      let o = comes-out (room m levels) (sum_counts nd) (low nd) e r (rule_at m levels r ws) (comes (room m levels) r nd) p in
      subst (LowerTag nd) o.0 (lower-tag nd o.1)

  pub call-tag : (r : Request) → (called m levels r ws).answer ≡ Ok (Some e) → LowerTag (root_of m ws) e
  call-tag r p = called-either m levels r ws (λ o. o.answer ≡ Ok (Some e) → LowerTag (root_of m ws) e) (λ x q. absurd (is-out (Err x) e q)) (λ s o w q. rule-tag r q) p
