-- With refusals: for any calls from a cleared store, refused ones among them, tree and cluster heap answer the numbers and ranks of a plain list with room for
-- their capacity. So of one capacity they answer alike, call by call; and of two, as long as neither is full. Any K, order and levels.
use Rattle.laws.specs.Prelude.{Bool, Idle, List, Pop, Push, Replace, Request, [], ◌∙◌, ◌∷◌, ◌≡◌, ap, cond, false, length, ltb, map, not-suc-le-zero, number_of, refl, subst, suc, sym, true, untagged, zero, ℕ}
use Rattle.agreement.proofs.Agreement.{heap-pop, heap_said, tree-pop, tree_said}
use Rattle.agreement.proofs.Ranks.{ranks-plainly, whole-empty}
use Rattle.agreement.proofs.Ruled.{ruled-number}
use Rattle.agreement.specs.Plain.{numbered, number_for, number_rank, plainly, Unfull}
use Rattle.cluster_model.proofs.Exactly as heap-exactly
use Rattle.cluster_model.proofs.Promises as heap
use Rattle.cluster_model.proofs.Laws.{stored-many}
use Rattle.cluster_model.specs.Prelude.{held_in, low_elem, node_in, op_of as heap_op, room as heap_room, rule as heap_rule}
use Rattle.cluster_model.specs.Promise as heap-says
use Rattle.promise.specs.Prelude.{always, answers}
use Rattle.tree_model.proofs.Exactly as tree-exactly
use Rattle.tree_model.proofs.Promises as tree
use Rattle.tree_model.specs.Prelude.{Outcome, low, op_of as tree_op, room as tree_room, root_of, rule as tree_rule, sum_counts}
use Rattle.tree_model.specs.Promise as tree-says

heap-number : (K k : ℕ) (r : Request) (ws : List ℕ) → heap.Kept K k ws → number_of (heap-says.cluster_queue K (suc k) r ws).said ≡ number_for (heap_room K (suc k)) r (heap-says.stored_count K (suc k) ws always)
unfolding heap_rule
heap-number K k r ws kept =
    ap number_of (heap.kept-answer K k r ws kept) ∙ ruled-number heap_op (heap_room K (suc k)) r (held_in K (suc k) ws) (low_elem (node_in K ws 0).places)
    ∙ ap (number_for (heap_room K (suc k)) r) (heap.kept-held K k ws kept ∙ sym (stored-many K (suc k) ws always))

tree-number : (m k : ℕ) (r : Request) (ws : List ℕ) → tree.Kept m k ws → number_of (tree-says.tree_queue m (suc k) r ws).said ≡ number_for (tree_room m (suc k)) r (tree-says.stored_count (tree_room m (suc k)) ws always)
unfolding tree_rule
tree-number m k r ws kept =
    ap (λ (o : Outcome). number_of o.answer) (tree.kept-called m k ws kept r) ∙ ruled-number tree_op (tree_room m (suc k)) r (sum_counts (root_of m ws)) (low (root_of m ws))
    ∙ ap (number_for (tree_room m (suc k)) r) (tree.kept-sum m k ws kept ∙ sym (tree.stored-holding m k ws always))

-- ---- lists of two capacities answer alike as long as neither refuses 5
same_number : (c d : ℕ) (r : Request) (h : ℕ) → (number_for c r h ≡ 5 → ⊥) → (number_for d r h ≡ 5 → ⊥) → number_for c r h ≡ number_for d r h
same_number c d Idle h u v = refl
same_number c d (Push x) h u v = go (untagged x) (ltb h c) (ltb h d) u v
  where
    go : (t f g : Bool) → (cond {A = ℕ} t 7 (cond {A = ℕ} f 0 5) ≡ 5 → ⊥) → (cond {A = ℕ} t 7 (cond {A = ℕ} g 0 5) ≡ 5 → ⊥) → cond {A = ℕ} t 7 (cond {A = ℕ} f 0 5) ≡ cond {A = ℕ} t 7 (cond {A = ℕ} g 0 5)
    go true f g u v = refl
    go false true true u v = refl
    go false true false u v = absurd (v refl)
    go false false g u v = absurd (u refl)
same_number c d Pop h u v = refl
same_number c d (Replace x) h u v = refl

numbered-says : (n : ℕ) (r : Request) (l : List ℕ) → (numbered n r l).said.0 ≡ n
numbered-says zero r l = refl
numbered-says (suc n) r l = refl

plainly-alike : (c d : ℕ) (rs : List Request) (l : List ℕ) → Unfull (answers (plainly c) rs l) → Unfull (answers (plainly d) rs l) → answers (plainly c) rs l ≡ answers (plainly d) rs l
unfolding answers plainly
plainly-alike c d [] l u v = refl
plainly-alike c d (r ∷ rs) l u v =
    let at : (b : ℕ) → (numbered (number_for b r (length l)) r l).said.0 ≡ number_for b r (length l) = λ b. numbered-says (number_for b r (length l)) r l in
    let e : number_for c r (length l) ≡ number_for d r (length l) = same_number c d r (length l) (λ z. u.0 (at c ∙ z)) (λ z. v.0 (at d ∙ z)) in
    go (number_for d r (length l)) e u.1 v.1 (plainly-alike c d rs)
  where
    go : (n : ℕ) → number_for c r (length l) ≡ n → Unfull (answers (plainly c) rs (numbered (number_for c r (length l)) r l).next) → Unfull (answers (plainly d) rs (numbered n r l).next)
        → ((l : List ℕ) → Unfull (answers (plainly c) rs l) → Unfull (answers (plainly d) rs l) → answers (plainly c) rs l ≡ answers (plainly d) rs l)
        → ◌≡◌ {A = List (ℕ × ℕ)} ((numbered (number_for c r (length l)) r l).said ∷ answers (plainly c) rs (numbered (number_for c r (length l)) r l).next) ((numbered n r l).said ∷ answers (plainly d) rs (numbered n r l).next)
    go n e u v ih =
        ap (λ (i : ℕ). (numbered i r l).said ∷ answers (plainly c) rs (numbered i r l).next) e
        ∙ ap (λ (more : List (ℕ × ℕ)). (numbered n r l).said ∷ more) (ih (numbered n r l).next (subst (λ (i : ℕ). Unfull (answers (plainly c) rs (numbered i r l).next)) e u) v)

-- capacities that are alike: a heap of 12 places a node and a tree of order 4, both with three levels, hold 84
pub one-capacity : (heap_room 12 3 ≡ 84) × (tree_room 4 3 ≡ 84)
unfolding heap_room tree_room
one-capacity = (refl, refl)

module _ (rs : List Request) where
  -- HEAP-PLAINLY, TREE-PLAINLY: refusals and ranks are those of the plain list in rank order
  pub heap-plainly : (K levels : ℕ) (ws : List ℕ) → heap-says.Shape K levels (length ws) → map number_rank (heap_said rs K levels ws) ≡ answers (plainly (heap_room K levels)) rs []
  heap-plainly K zero ws sh = absurd (not-suc-le-zero sh.some)
  heap-plainly K (suc k) ws sh =
      ranks-plainly (heap-says.cluster_queue K (suc k)) (heap.Kept K k) (heap.called-kept K k) (heap-says.stored_count K (suc k)) (heap.call-sum K k) (heap.kept-least K k) (heap-pop K k)
      (λ r ws. heap-exactly.kind K (suc k) r ws) (heap_room K (suc k)) (heap-number K k) rs (heap-says.start K (suc k) ws) [] (heap.start-kept K k ws sh)
      (whole-empty _ _ _ _ _ _ _ _ _ _ _ (heap.start-empty K k ws sh))

  pub tree-plainly : (m levels : ℕ) (ws : List ℕ) → tree-says.Shape m levels (length ws) → map number_rank (tree_said rs m levels ws) ≡ answers (plainly (tree_room m levels)) rs []
  tree-plainly m zero ws sh = absurd (not-suc-le-zero sh.some)
  tree-plainly m (suc k) ws sh =
      ranks-plainly (tree-says.tree_queue m (suc k)) (tree.Kept m k) (tree.called-kept m k) (tree-says.stored_count (tree_room m (suc k))) (tree.call-sum m k) (λ r ws kept. tree.kept-least m k ws kept r) (tree-pop m k)
      (λ r ws. tree-exactly.kind m (suc k) r ws) (tree_room m (suc k)) (tree-number m k) rs (tree-says.start m (suc k) ws) [] (tree.start-kept m k ws sh)
      (whole-empty _ _ _ _ _ _ _ _ _ _ _ (tree.start-empty m k ws sh))

  module _ (K levels : ℕ) (ws : List ℕ) (m levels' : ℕ) (ws' : List ℕ) (sh : heap-says.Shape K levels (length ws)) (sh' : tree-says.Shape m levels' (length ws')) where
    -- AGREE-REFUSING: of one capacity, they refuse the same and answer the same ranks, whatever is called
    pub agree-refusing : heap_room K levels ≡ tree_room m levels' → map number_rank (heap_said rs K levels ws) ≡ map number_rank (tree_said rs m levels' ws')
    agree-refusing e = heap-plainly K levels ws sh ∙ ap (λ (c : ℕ). answers (plainly c) rs []) e ∙ sym (tree-plainly m levels' ws' sh')

    -- AGREE-UNFULL: of any two, where neither refuses 5
    pub agree-unfull : Unfull (map number_rank (heap_said rs K levels ws)) → Unfull (map number_rank (tree_said rs m levels' ws')) → map number_rank (heap_said rs K levels ws) ≡ map number_rank (tree_said rs m levels' ws')
    agree-unfull u v =
        let h = heap-plainly K levels ws sh in
        let t = tree-plainly m levels' ws' sh' in
        h ∙ plainly-alike (heap_room K levels) (tree_room m levels') rs [] (subst Unfull h u) (subst Unfull t v) ∙ sym t
