-- "its ranks agree with the tree's for any calls both accept" (02 [2]): for any list of calls that each takes from a cleared store, both answer the
-- ranks of the plain list. Any K, order and levels.
use Rattle.laws.specs.Prelude.{Answer, Element, List, Pop, Replace, Request, [], ◌∙◌, ◌≡◌, length, map, not-suc-le-zero, number_of, rank_of, suc, sym, zero, ℕ}
use Rattle.agreement.proofs.Ranks.{ranks-plain, same-empty}
use Rattle.agreement.specs.Plain.{plain, Taken}
use Rattle.cluster_model.proofs.Exactly as heap-exactly
use Rattle.cluster_model.proofs.Promises as heap
use Rattle.cluster_model.specs.Calls as heap-calls
use Rattle.cluster_model.specs.Promise as heap-says
use Rattle.promise.specs.Prelude.{answers}
use Rattle.tree_model.proofs.Exactly as tree-exactly
use Rattle.tree_model.proofs.Promises as tree
use Rattle.tree_model.specs.Prelude.{called, room}
use Rattle.tree_model.specs.Promise as tree-says

-- both answer a replace that they take as a pop
pub tree-pop : (m k : ℕ) (x : Element) (ws : List ℕ) → tree.Kept m k ws → number_of (called m (suc k) (Replace x) ws).answer ≡ 0
    → (called m (suc k) (Replace x) ws).answer ≡ (called m (suc k) Pop ws).answer
tree-pop m k x ws kept e = (tree.kept-replaces m k ws kept x (λ u. tree-exactly.barred m (suc k) (Replace x) ws u e)).answer

pub heap-pop : (K k : ℕ) (x : Element) (ws : List ℕ) → heap.Kept K k ws → number_of (heap-calls.called K (suc k) (Replace x) ws).answer ≡ 0
    → (heap-calls.called K (suc k) (Replace x) ws).answer ≡ (heap-calls.called K (suc k) Pop ws).answer
heap-pop K k x ws kept e = (heap.kept-replaces K k x (λ u. heap-exactly.barred K (suc k) (Replace x) ws u e) ws kept).answer

module _ (rs : List Request) where
  -- what the tree of this order answers from a cleared store, and what the heap of K places a node does
  abbrev pub tree_said : ℕ → ℕ → List ℕ → List Answer
  tree_said m levels ws = answers (tree-says.tree_queue m levels) rs (tree-says.start m levels ws)

  abbrev pub heap_said : ℕ → ℕ → List ℕ → List Answer
  heap_said K levels ws = answers (heap-says.cluster_queue K levels) rs (heap-says.start K levels ws)

  pub tree_plain : (m levels : ℕ) (ws : List ℕ) → tree-says.Shape m levels (length ws) → Taken (tree_said m levels ws) → map rank_of (tree_said m levels ws) ≡ answers plain rs []
  tree_plain m zero ws sh t = absurd (not-suc-le-zero sh.some)
  tree_plain m (suc k) ws sh t =
      ranks-plain (tree-says.tree_queue m (suc k)) (tree.Kept m k) (tree.called-kept m k) (tree-says.stored_count (room m (suc k))) (tree.call-sum m k) (λ r ws kept. tree.kept-least m k ws kept r) (tree-pop m k)
      (λ r ws. tree-exactly.kind m (suc k) r ws) rs (tree-says.start m (suc k) ws) [] (tree.start-kept m k ws sh) (same-empty _ _ _ _ _ _ _ _ _ (tree.start-empty m k ws sh)) t

  pub heap-plain : (K levels : ℕ) (ws : List ℕ) → heap-says.Shape K levels (length ws) → Taken (heap_said K levels ws) → map rank_of (heap_said K levels ws) ≡ answers plain rs []
  heap-plain K zero ws sh t = absurd (not-suc-le-zero sh.some)
  heap-plain K (suc k) ws sh t =
      ranks-plain (heap-says.cluster_queue K (suc k)) (heap.Kept K k) (heap.called-kept K k) (heap-says.stored_count K (suc k)) (heap.call-sum K k) (heap.kept-least K k) (heap-pop K k)
      (λ r ws. heap-exactly.kind K (suc k) r ws) rs (heap-says.start K (suc k) ws) [] (heap.start-kept K k ws sh) (same-empty _ _ _ _ _ _ _ _ _ (heap.start-empty K k ws sh)) t

  -- AGREEMENT
  pub agreement : (K levels : ℕ) (ws : List ℕ) (m levels' : ℕ) (ws' : List ℕ) → heap-says.Shape K levels (length ws) → tree-says.Shape m levels' (length ws')
      → Taken (heap_said K levels ws) → Taken (tree_said m levels' ws') → map rank_of (heap_said K levels ws) ≡ map rank_of (tree_said m levels' ws')
  agreement K levels ws m levels' ws' sh sh' t t' = heap-plain K levels ws sh t ∙ sym (tree_plain m levels' ws' sh' t')
