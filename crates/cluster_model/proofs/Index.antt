-- Nodes by number and nodes by level: the same words.
use Rattle.laws.specs.Prelude.{Element, List, ◌*◌, ◌+◌, ◌<◌, ◌∙◌, ◌≡◌, ◌≤◌, ap, ap₂, arith, length, refl, subst, suc, sym, zero, zero-add, ℕ}
use Rattle.cluster_model.specs.Prelude.{Finished, Neat, Only, Op, Side, act, begin, child, extent, finish, heap_in, lhs, low, low_elem, low_in, node_in, node_of, rhs, row_of, run_words, step_in, touch, width, works}
use Rattle.cluster_model.proofs.Levels.{apply-root, child_of, heap_of, Levels, node_at, Shaped}
use Rattle.cluster_model.proofs.NeatLevels.{apply-neat, NeatLevels}
use Rattle.cluster_model.proofs.Pass.{act_words, apply-length, apply-only, apply_words, child-in, low_words, row_at, spot, words-apply}
use Rattle.cluster_model.proofs.Words.{levels_of}

-- where node m stands
pub spot_is : (w b c n m : ℕ) → b + w ≡ c * w → m + 1 ≡ c + n → b + n * w ≡ m * w
spot_is w b c n m e f = let g : (m + 1) * w ≡ (c + n) * w = ap (λ (i : ℕ). i * w) f in omega (arith, e, g)

pub base-next : (w b c : ℕ) → b + w ≡ c * w → b + c * w + w ≡ (c + c) * w
base-next w b c e = omega (arith, e)

pub child-next : (n c m : ℕ) (s : Side) → m + 1 ≡ c + n → child m s + 1 ≡ c + c + child_of n s
child-next n c m lhs f = omega arith
child-next n c m rhs f = omega arith

low-is : (K k : ℕ) (ws : List ℕ) (b c n m : ℕ) → b + width K ≡ c * width K → m + 1 ≡ c + n → low_words K k ws b n ≡ low_in K k ws m
unfolding low_words low_in
low-is K zero ws b c n m e f = refl
low-is K (suc k) ws b c n m e f = ap (λ (i : ℕ). low_elem (node_of K ws i).places) (spot_is (width K) b c n m e f)

step_is : (K k : ℕ) (o : Op) (n b c m : ℕ) (ws : List ℕ) → b + width K ≡ c * width K → m + 1 ≡ c + n → act_words K k o n b c ws ≡ step_in K k o m ws
unfolding step_in
step_is K k o n b c m ws e f =
    let at : spot K b n ≡ m * width K = spot_is (width K) b c n m e f in
    let l : low_words K k ws (b + c * width K) (child_of n lhs) ≡ low_in K k ws (child m lhs) = low-is K k ws (b + c * width K) (c + c) (child_of n lhs) (child m lhs) (base-next (width K) b c e) (child-next n c m lhs f) in
    let r : low_words K k ws (b + c * width K) (child_of n rhs) ≡ low_in K k ws (child m rhs) = low-is K k ws (b + c * width K) (c + c) (child_of n rhs) (child m rhs) (base-next (width K) b c e) (child-next n c m rhs f) in
    ap (λ (i : ℕ). finish (begin o (low (node_of K ws i).places) (node_of K ws i)).note (begin o (low (node_of K ws i).places) (node_of K ws i)).node (low_words K k ws (b + c * width K) (child_of n lhs)) (low_words K k ws (b + c * width K) (child_of n rhs))) at
    ∙ ap₂ (λ (u v : Element). finish (begin o (low (node_in K ws m).places) (node_in K ws m)).note (begin o (low (node_in K ws m).places) (node_in K ws m)).node u v) l r

pub run_is : (K k : ℕ) (o : Op) (n b c m : ℕ) (ws : List ℕ) → b + width K ≡ c * width K → m + 1 ≡ c + n → apply_words K k o n b c ws ≡ run_words K k o m ws
unfolding apply_words run_words
run_is K zero o n b c m ws e f = refl
run_is K (suc k) o n b c m ws e f =
    let v : Finished = act_words K k o n b c ws in
    let same : v ≡ step_in K k o m ws = step_is K k o n b c m ws e f in
    run_is K k v.op (child_of n v.side) (b + c * width K) (c + c) (child m v.side) (touch (works o) ws (spot K b n) v.node) (base-next (width K) b c e) (child-next n c m v.side f)
    ∙ ap₂ (λ (u : Finished) (i : ℕ). run_words K k u.op (child m u.side) (touch (works o) ws i u.node)) same (spot_is (width K) b c n m e f)

pub heap_is : (K k : ℕ) (n b c m : ℕ) (ws : List ℕ) → n < c → b + width K ≡ c * width K → m + 1 ≡ c + n → heap_of k (levels_of K k ws b c) n ≡ heap_in K k ws m
unfolding heap_of levels_of heap_in
heap_is K zero n b c m ws h e f = refl
heap_is K (suc k) n b c m ws h e f =
    let p : node_at (levels_of K (suc k) ws b c).0 n ≡ node_in K ws m = row_at K c n ws b h ∙ ap (node_of K ws) (spot_is (width K) b c n m e f) in
    let q : heap_of k (levels_of K k ws (b + c * width K) (c + c)) (child_of n lhs) ≡ heap_in K k ws (child m lhs) = heap_is K k (child_of n lhs) (b + c * width K) (c + c) (child m lhs) ws (child-in n c lhs h) (base-next (width K) b c e) (child-next n c m lhs f) in
    let r : heap_of k (levels_of K k ws (b + c * width K) (c + c)) (child_of n rhs) ≡ heap_in K k ws (child m rhs) = heap_is K k (child_of n rhs) (b + c * width K) (c + c) (child m rhs) ws (child-in n c rhs h) (base-next (width K) b c e) (child-next n c m rhs f) in
    λ i. (p i, q i, r i)

-- ---- neat nodes
abbrev pub NeatIn : ℕ → (k : ℕ) → List ℕ → ℕ → Type 0
NeatIn K zero ws m = Unit {0}
NeatIn K (suc k) ws m = Neat K ws (m * width K) × NeatIn K k ws (child m lhs) × NeatIn K k ws (child m rhs)

pub neat-in : (K k : ℕ) (n b c m : ℕ) (ws : List ℕ) → n < c → b + width K ≡ c * width K → m + 1 ≡ c + n → NeatLevels K k ws b c → NeatIn K k ws m
neat-in K zero n b c m ws h e f g = tt
neat-in K (suc k) n b c m ws h e f g = (
  subst (λ (i : ℕ). Neat K ws i) (spot_is (width K) b c n m e f) (g.0 n h),
  neat-in K k (child_of n lhs) (b + c * width K) (c + c) (child m lhs) ws (child-in n c lhs h) (base-next (width K) b c e) (child-next n c m lhs f) g.1,
  neat-in K k (child_of n rhs) (b + c * width K) (c + c) (child m rhs) ws (child-in n c rhs h) (base-next (width K) b c e) (child-next n c m rhs f) g.1,
)

-- ---- an operation at the root
row-length : (K c : ℕ) (ws : List ℕ) (b : ℕ) → length (row_of (node_of K) (width K) c ws b) ≡ c
unfolding row_of
row-length K zero ws b = refl
row-length K (suc c) ws b = ap suc (row-length K c ws (b + width K))

pub shaped_of : (K k : ℕ) (ws : List ℕ) (b c : ℕ) → Shaped k c (levels_of K k ws b c)
unfolding levels_of
shaped_of K zero ws b c = tt
shaped_of K (suc k) ws b c = (row-length K c ws b, shaped_of K k ws (b + c * width K) (c + c))

first : (K : ℕ) → 0 + width K ≡ 1 * width K
first K = omega arith

module _ (K k : ℕ) where
  pub root-heap : (ws : List ℕ) → heap_of k (levels_of K k ws 0 1) 0 ≡ heap_in K k ws 0
  root-heap ws = heap_is K k 0 0 1 0 ws (omega arith) (first K) refl

  pub root-neat : (ws : List ℕ) → NeatLevels K k ws 0 1 → NeatIn K k ws 0
  root-neat ws g = neat-in K k 0 0 1 0 ws (omega arith) (first K) refl g

  module _ (o : Op) (ws : List ℕ) where
    abbrev after : List ℕ
    after = run_words K k o 0 ws

    by_level : apply_words K k o 0 0 1 ws ≡ after
    by_level = run_is K k o 0 0 1 0 ws (first K) refl

    pub run_length : length (run_words K k o 0 ws) ≡ length ws
    run_length = ap length (sym by_level) ∙ apply-length K k o 0 0 1 ws

    -- no word past the levels is written
    pub run_only : Only 0 (extent K k 1) ws (run_words K k o 0 ws)
    run_only = subst (λ (v : List ℕ). Only 0 (extent K k 1) ws v) by_level (λ i h. apply-only K k o 0 0 1 ws (omega arith) i (rw zero-add h))

    module _ (fits : extent K k 1 ≤ length ws) where
      -- it is the operation on the heap
      pub run-heap : heap_in K k (run_words K k o 0 ws) 0 ≡ act k o (heap_in K k ws 0)
      run-heap =
          sym (root-heap after) ∙ ap (λ (v : List ℕ). heap_of k (levels_of K k v 0 1) 0) (sym by_level)
          ∙ ap (λ (ls : Levels k). heap_of k ls 0) (words-apply K k o 0 0 1 ws (omega arith) (omega arith)) ∙ apply-root k o (levels_of K k ws 0 1) (shaped_of K k ws 0 1)
          ∙ ap (act k o) (root-heap ws)

      pub run-neat : NeatLevels K k ws 0 1 → NeatLevels K k (run_words K k o 0 ws) 0 1
      run-neat g = subst (λ (v : List ℕ). NeatLevels K k v 0 1) by_level (apply-neat K k o 0 0 1 ws (omega arith) (omega arith) g)
