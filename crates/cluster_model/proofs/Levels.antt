-- The store level by level, as the proofs go through it: an operation at a node of the topmost level is the same operation on the heap that hangs at
-- that node, and changes no other.
use Rattle.laws.specs.Prelude.{Bool, Element, List, [], ◌+◌, ◌<◌, ◌∙◌, ◌≡◌, ap, ap₂, arith, blank, eq-eqb, eqb, eqb-false, eqb-true, false, get_or, get_or-replicate, get_or-set_other, get_or-set_same, length, length-replicate, length-set, ne_eqb, refl, replicate, set, subst, suc, sym, true, zero, ℕ}
use Rattle.cluster_model.specs.Prelude.{Begun, Finished, Heap, Node, Op, Side, act, begin, finish, gap, lhs, low, low_elem, lowest, none, pick, rhs, to_left, to_right}

-- ---- the store as levels, the topmost first
abbrev pub Levels : ℕ → Type 0
Levels zero = Unit {0}
Levels (suc k) = List Node × Levels k

unfoldable pub void_node : Node
void_node = record { left = 0; right = 0; places = [] }

unfoldable pub node_at : List Node → ℕ → Node
node_at l n = get_or l n void_node

-- node n has below it nodes 2n and 2n + 1 of the next level
abbrev pub child_of : ℕ → Side → ℕ
child_of n lhs = n + n
child_of n rhs = suc (n + n)

unfoldable pub low_at : (k : ℕ) → Levels k → ℕ → Element
low_at zero ls n = blank
low_at (suc k) ls n = low_elem (node_at ls.0 n).places

-- both halves at node n
abbrev pub act_at : (k : ℕ) → Op → ℕ → List Node → Levels k → Finished
act_at k o n l ls =
    let b = begin o (low (node_at l n).places) (node_at l n) in
    finish b.note b.node (low_at k ls (child_of n lhs)) (low_at k ls (child_of n rhs))

unfoldable pub apply : (k : ℕ) → Op → ℕ → Levels k → Levels k
apply zero o n ls = ls
apply (suc k) o n ls =
    let v = act_at k o n ls.0 ls.1 in
    (set ls.0 n v.node, apply k v.op (child_of n v.side) ls.1)

abbrev pub op_if : Bool → Op → Op
op_if true o = o
op_if false o = none

-- the heap that hangs at node n
unfoldable pub heap_of : (k : ℕ) → Levels k → ℕ → Heap k
heap_of zero ls n = tt
heap_of (suc k) ls n = (node_at ls.0 n, heap_of k ls.1 (child_of n lhs), heap_of k ls.1 (child_of n rhs))

-- c nodes, then twice as many in each level below
abbrev pub Shaped : (k : ℕ) → ℕ → Levels k → Type 0
Shaped zero c ls = Unit {0}
Shaped (suc k) c ls = (length ls.0 ≡ c) × Shaped k (c + c) ls.1

-- ---- a store at node j, seen from node n
pub node-same : (l : List Node) (n : ℕ) (x : Node) → n < length l → node_at (set l n x) n ≡ x
unfolding node_at
node-same l n x h = get_or-set_same l n x void_node h

pub node-other : (l : List Node) (j n : ℕ) (x : Node) → eqb j n ≡ false → node_at (set l j x) n ≡ node_at l n
unfolding node_at
node-other l j n x e = get_or-set_other l j n x void_node (λ r. eqb-false j n e (sym r))

-- ---- the work handed to a child
pub op-none : (b : Bool) → op_if b none ≡ none
op-none true = refl
op-none false = refl

pub twice : (p n : ℕ) → eqb (p + p) (n + n) ≡ eqb p n
twice p n = go (eqb p n) refl
  where
    go : (b : Bool) → eqb p n ≡ b → eqb (p + p) (n + n) ≡ b
    go true e = eq-eqb (p + p) (n + n) (omega (arith, eqb-true p n e))
    go false e = ne_eqb (p + p) (n + n) (λ q. eqb-false p n e (omega arith))

pub twice-suc : (p n : ℕ) → eqb (suc (p + p)) (suc (n + n)) ≡ eqb p n
twice-suc p n = go (eqb p n) refl
  where
    go : (b : Bool) → eqb p n ≡ b → eqb (suc (p + p)) (suc (n + n)) ≡ b
    go true e = eq-eqb (suc (p + p)) (suc (n + n)) (omega (arith, eqb-true p n e))
    go false e = ne_eqb (suc (p + p)) (suc (n + n)) (λ q. eqb-false p n e (omega arith))

pub child-op : (p n : ℕ) (t s : Side) (o : Op) → op_if (eqb (child_of p t) (child_of n s)) o ≡ op_if (eqb p n) (pick s (pick t o none) (pick t none o))
child-op p n lhs lhs o = ap (λ (b : Bool). op_if b o) (twice p n)
child-op p n rhs rhs o = ap (λ (b : Bool). op_if b o) (twice-suc p n)
child-op p n lhs rhs o = ap (λ (b : Bool). op_if b o) (ne_eqb (p + p) (suc (n + n)) (λ q. omega arith)) ∙ sym (op-none (eqb p n))
child-op p n rhs lhs o = ap (λ (b : Bool). op_if b o) (ne_eqb (suc (p + p)) (n + n) (λ q. omega arith)) ∙ sym (op-none (eqb p n))

-- ---- one at a time
pub low-heap : (k : ℕ) (ls : Levels k) (n : ℕ) → lowest k (heap_of k ls n) ≡ low_at k ls n
unfolding lowest heap_of low_at
low-heap zero ls n = refl
low-heap (suc k) ls n = refl

module _ (k : ℕ) (l : List Node) (ls : Levels k) (o : Op) (p n : ℕ) where
  act-node : n < length l → node_at (set l p (act_at k o p l ls).node) n ≡ (act_at k (op_if (eqb p n) o) n l ls).node
  unfolding begin finish
  act-node h = go (eqb p n) refl
    where
      go : (b : Bool) → eqb p n ≡ b → node_at (set l p (act_at k o p l ls).node) n ≡ (act_at k (op_if b o) n l ls).node
      go true e = subst (λ (j : ℕ). node_at (set l j (act_at k o j l ls).node) n ≡ (act_at k o n l ls).node) (sym (eqb-true p n e)) (node-same l n (act_at k o n l ls).node h)
      go false e = node-other l p n (act_at k o p l ls).node e

  act-op : (s : Side) → op_if (eqb (child_of p (act_at k o p l ls).side) (child_of n s)) (act_at k o p l ls).op
      ≡ pick s (to_left (act_at k (op_if (eqb p n) o) n l ls)) (to_right (act_at k (op_if (eqb p n) o) n l ls))
  unfolding begin finish
  act-op s = child-op p n (act_at k o p l ls).side s (act_at k o p l ls).op ∙ go (eqb p n) refl s
    where
      go : (b : Bool) → eqb p n ≡ b → (s : Side) → op_if b (pick s (to_left (act_at k o p l ls)) (to_right (act_at k o p l ls)))
          ≡ pick s (to_left (act_at k (op_if b o) n l ls)) (to_right (act_at k (op_if b o) n l ls))
      go true e s = ap (λ (j : ℕ). pick s (to_left (act_at k o j l ls)) (to_right (act_at k o j l ls))) (eqb-true p n e)
      go false e lhs = refl
      go false e rhs = refl

pub apply-commutes : (k : ℕ) (o : Op) (p : ℕ) (ls : Levels k) (c n : ℕ) → Shaped k c ls → n < c → heap_of k (apply k o p ls) n ≡ act k (op_if (eqb p n) o) (heap_of k ls n)
unfolding heap_of apply act
apply-commutes zero o p ls c n s h = refl
apply-commutes (suc k) o p ls c n s h =
    let l : List Node = ls.0 in
    let inside : n < length l = omega (arith, s.0) in
    let b : Begun = begin (op_if (eqb p n) o) (low (node_at l n).places) (node_at l n) in
    let v : Finished = finish b.note b.node (lowest k (heap_of k ls.1 (child_of n lhs))) (lowest k (heap_of k ls.1 (child_of n rhs))) in
    let same : act_at k (op_if (eqb p n) o) n l ls.1 ≡ v =
    ap₂ (λ (x : Element) (y : Element). finish b.note b.node x y) (sym (low-heap k ls.1 (child_of n lhs))) (sym (low-heap k ls.1 (child_of n rhs))) in
    let node' : node_at (set l p (act_at k o p l ls.1).node) n ≡ v.node = act-node k l ls.1 o p n inside ∙ ap (λ (u : Finished). u.node) same in
    let o' : Op = (act_at k o p l ls.1).op in
    let p' : ℕ = child_of p (act_at k o p l ls.1).side in
    let left' : heap_of k (apply k o' p' ls.1) (child_of n lhs) ≡ act k (to_left v) (heap_of k ls.1 (child_of n lhs)) =
    apply-commutes k o' p' ls.1 (c + c) (child_of n lhs) s.1 (omega arith)
    ∙ ap (λ (o : Op). act k o (heap_of k ls.1 (child_of n lhs))) (act-op k l ls.1 o p n lhs ∙ ap (λ (u : Finished). to_left u) same) in
    let right' : heap_of k (apply k o' p' ls.1) (child_of n rhs) ≡ act k (to_right v) (heap_of k ls.1 (child_of n rhs)) =
    apply-commutes k o' p' ls.1 (c + c) (child_of n rhs) s.1 (omega arith)
    ∙ ap (λ (o : Op). act k o (heap_of k ls.1 (child_of n rhs))) (act-op k l ls.1 o p n rhs ∙ ap (λ (u : Finished). to_right u) same) in
    λ i. (node' i, left' i, right' i)

pub apply-shaped : (k : ℕ) (o : Op) (p : ℕ) (ls : Levels k) (c : ℕ) → Shaped k c ls → Shaped k c (apply k o p ls)
unfolding apply
apply-shaped zero o p ls c s = tt
apply-shaped (suc k) o p ls c s = (
  length-set ls.0 p (act_at k o p ls.0 ls.1).node ∙ s.0,
  apply-shaped k (act_at k o p ls.0 ls.1).op (child_of p (act_at k o p ls.0 ls.1).side) ls.1 (c + c) s.1,
)

pub apply-root : (k : ℕ) (o : Op) (ls : Levels k) → Shaped k 1 ls → heap_of k (apply k o 0 ls) 0 ≡ act k o (heap_of k ls 0)
apply-root k o ls s = apply-commutes k o 0 ls 1 0 s (omega arith)

-- ---- cleared
unfoldable pub clear_node : ℕ → Node
clear_node K = record { left = 0; right = 0; places = replicate K gap }

unfoldable pub clear_heap : ℕ → (k : ℕ) → Heap k
clear_heap K zero = tt
clear_heap K (suc k) = (clear_node K, clear_heap K k, clear_heap K k)

unfoldable pub clear_levels : ℕ → (k : ℕ) → ℕ → Levels k
clear_levels K zero c = tt
clear_levels K (suc k) c = (replicate c (clear_node K), clear_levels K k (c + c))

pub clear-shaped : (K k c : ℕ) → Shaped k c (clear_levels K k c)
unfolding clear_levels
clear-shaped K zero c = tt
clear-shaped K (suc k) c = (length-replicate c (clear_node K), clear-shaped K k (c + c))

pub clear-heap : (K k c n : ℕ) → n < c → heap_of k (clear_levels K k c) n ≡ clear_heap K k
unfolding heap_of clear_levels clear_heap node_at
clear-heap K zero c n h = refl
clear-heap K (suc k) c n h =
    let p : get_or (replicate c (clear_node K)) n void_node ≡ clear_node K = get_or-replicate c n (clear_node K) void_node h in
    let q : heap_of k (clear_levels K k (c + c)) (child_of n lhs) ≡ clear_heap K k = clear-heap K k (c + c) (child_of n lhs) (omega arith) in
    let r : heap_of k (clear_levels K k (c + c)) (child_of n rhs) ≡ clear_heap K k = clear-heap K k (c + c) (child_of n rhs) (omega arith) in
    λ i. (p i, q i, r i)
