-- What the words of a store hold, node by node, is what the heap at its root holds; and a cleared slice is the cleared heap.
use Rattle.laws.specs.Prelude.{Bool, Element, List, ◌*◌, ◌++◌, ◌+◌, ◌-◌, ◌<◌, ◌∙◌, ◌∷◌, ◌≡◌, ◌≤◌, ap, ap₂, arith, drop, element_in, eqb, get_or, get_or-replicate, grid, length, length-append, length-drop, length-replicate, refl, replicate, suc, sum_to, sym, to-add, to-append, to-ext, to-zero, zero, zero-add, ℕ}
use lib.ListN.{get_or-append}
use lib.Seq.{get_or-append-add, get_or-drop}
use Rattle.cluster_model.specs.Prelude.{Node, Place, Zeroed, count_words, extent, gap, heap_in, inside, many, flag_at, node_in, node_of, nodes, place_by, place_of, place_words, right_at, row_of, stored_count, width, wipe, word}
use Rattle.cluster_model.proofs.Index.{root-heap}
use Rattle.cluster_model.proofs.Levels.{clear-heap, clear_heap, clear_levels, clear_node, heap_of, Levels, node_at}
use Rattle.cluster_model.proofs.Pass.{row_at}
use Rattle.cluster_model.proofs.Words.{levels_of}

-- how many nodes k levels have, the first of c nodes
unfoldable cells : ℕ → ℕ → ℕ
cells zero c = 0
cells (suc k) c = c + cells k (c + c)

cells-nodes : (k c : ℕ) → cells k c ≡ c * nodes k
unfolding cells nodes
cells-nodes zero c = omega arith
cells-nodes (suc k) c = omega (arith, cells-nodes k (c + c))

levels-sum : (f : Element → Bool) (K k : ℕ) (ws : List ℕ) (b c : ℕ)
    → sum_to (cells k c) (λ i. inside f (node_of K ws (b + i * width K)).places) ≡ sum_to c (λ n. many f k (heap_of k (levels_of K k ws b c) n))
unfolding cells many heap_of levels_of sum_to
levels-sum f K zero ws b c = sym (to-zero c)
levels-sum f K (suc k) ws b c =
    let O : ℕ → ℕ = λ i. inside f (node_of K ws (b + i * width K)).places in
    let M : ℕ → ℕ = λ n. many f k (heap_of k (levels_of K k ws (b + c * width K) (c + c)) n) in
    let S : ℕ → ℕ = λ n. sum_to 2 (λ j. M (n * 2 + j)) in
    let rows : sum_to c (λ n. many f (suc k) (heap_of (suc k) (levels_of K (suc k) ws b c) n)) ≡ sum_to c (λ n. O n + S n) =
    to-ext c (λ n. many f (suc k) (heap_of (suc k) (levels_of K (suc k) ws b c) n)) (λ n. O n + S n) (λ n l. row n l) in
    let deeper : sum_to (cells k (c + c)) (λ i. O (c + i)) ≡ sum_to (c + c) M =
    to-ext (cells k (c + c)) (λ i. O (c + i)) (λ i. inside f (node_of K ws (b + c * width K + i * width K)).places) (λ i l. ap (λ (p : ℕ). inside f (node_of K ws p).places) (spot (width K) i))
    ∙ levels-sum f K k ws (b + c * width K) (c + c) in
    let twice : c * 2 ≡ c + c = omega arith in
    let wide : sum_to (c * 2) M ≡ sum_to (c + c) M = ap (λ (n : ℕ). sum_to n M) twice in
    omega (arith, rows, to-add c O S, grid c 2 M, wide, to-append c (cells k (c + c)) O, deeper)
  where
    spot : (w i : ℕ) → b + (c + i) * w ≡ b + c * w + i * w
    spot w i = omega arith

    row : (n : ℕ) → n < c → many f (suc k) (heap_of (suc k) (levels_of K (suc k) ws b c) n)
        ≡ inside f (node_of K ws (b + n * width K)).places
        + sum_to 2 (λ j. many f k (heap_of k (levels_of K k ws (b + c * width K) (c + c)) (n * 2 + j)))
    row n l =
        let M : ℕ → ℕ = λ i. many f k (heap_of k (levels_of K k ws (b + c * width K) (c + c)) i) in
        let at : node_at (row_of (node_of K) (width K) c ws b) n ≡ node_of K ws (b + n * width K) = row_at K c n ws b l in
        let own : inside f (node_at (row_of (node_of K) (width K) c ws b) n).places ≡ inside f (node_of K ws (b + n * width K)).places = ap (λ (x : Node). inside f x.places) at in
        let left : M (n + n) ≡ M (n * 2 + 0) = ap M (omega arith) in
        let right : M (suc (n + n)) ≡ M (n * 2 + 1) = ap M (omega arith) in
        omega (arith, own, left, right)

pub stored-many : (K k : ℕ) (ws : List ℕ) (f : Element → Bool) → stored_count K k ws f ≡ many f k (heap_in K k ws 0)
unfolding stored_count sum_to
stored-many K k ws f =
    let O : ℕ → ℕ = λ i. inside f (node_in K ws i).places in
    let all : nodes k ≡ cells k 1 = omega (arith, cells-nodes k 1) in
    let size : sum_to (nodes k) O ≡ sum_to (cells k 1) O = ap (λ (n : ℕ). sum_to n O) all in
    let at : sum_to (cells k 1) O ≡ sum_to (cells k 1) (λ i. inside f (node_of K ws (0 + i * width K)).places) =
    to-ext (cells k 1) O (λ i. inside f (node_of K ws (0 + i * width K)).places) (λ i l. ap (λ (p : ℕ). inside f (node_of K ws p).places) (sym (zero-add (i * width K)))) in
    let root : many f k (heap_of k (levels_of K k ws 0 1) 0) ≡ many f k (heap_in K k ws 0) = ap (many f k) (root-heap K k ws) in
    omega (arith, size, at, levels-sum f K k ws 0 1, root)

-- ---- cleared
pub wiped : (n : ℕ) (ws : List ℕ) → n ≤ length ws → Zeroed n ws (wipe n ws)
unfolding wipe
wiped n ws h =
    record {
      length = simp (length-append, length-replicate, length-drop) (omega arith);
      zeros = λ p d l. get_or-append (replicate n 0) (drop n ws) d p (rw length-replicate l) ∙ get_or-replicate n p 0 d l;
      rest = λ p d l. behind p d l;
    }
  where
    behind : (p d : ℕ) → n ≤ p → get_or (replicate n 0 ++ drop n ws) p d ≡ get_or ws p d
    behind p d l =
        let z : List ℕ = replicate n 0 in
        let at : p ≡ length z + (p - n) = rw length-replicate (omega arith) in
        ap (λ (p : ℕ). get_or (z ++ drop n ws) p d) at ∙ get_or-append-add z (drop n ws) (p - n) d ∙ get_or-drop n ws (p - n) d ∙ ap (λ (p : ℕ). get_or ws p d) (omega arith)

zero-places : (K : ℕ) (ws : List ℕ) (o : ℕ) → ((i : ℕ) → o ≤ i → i < o + K * place_words → word ws i ≡ 0) → row_of place_of place_words K ws o ≡ replicate K gap
unfolding row_of place_of place_by
zero-places zero ws o h = refl
zero-places (suc K) ws o h =
    ap₂ (λ (p : Place) (l : List Place). p ∷ l) (ap (λ (x : ℕ). place_by (eqb x 0) (element_in ws o)) (h (flag_at o) (omega arith) (omega arith)))
    (zero-places K ws (o + place_words) (λ i g g'. h i (omega arith) (omega arith)))

zero-node : (K : ℕ) (ws : List ℕ) (o : ℕ) → ((i : ℕ) → o ≤ i → i < o + width K → word ws i ≡ 0) → node_of K ws o ≡ clear_node K
unfolding node_of clear_node
zero-node K ws o h =
    let l : word ws o ≡ 0 = h o (omega arith) (omega arith) in
    let r : word ws (right_at o) ≡ 0 = h (right_at o) (omega arith) (omega arith) in
    let p : row_of place_of place_words K ws (o + count_words) ≡ replicate K gap = zero-places K ws (o + count_words) (λ i g g'. h i (omega arith) (omega arith)) in
    λ i. record { left = l i; right = r i; places = p i }

zero_row : (K c : ℕ) (ws : List ℕ) (o : ℕ) → ((i : ℕ) → o ≤ i → i < o + c * width K → word ws i ≡ 0) → row_of (node_of K) (width K) c ws o ≡ replicate c (clear_node K)
unfolding row_of
zero_row K zero ws o h = refl
zero_row K (suc c) ws o h =
    ap₂ (λ (n : Node) (l : List Node). n ∷ l) (zero-node K ws o (λ i g g'. h i g (ends (width K) i g')))
    (zero_row K c ws (o + width K) (λ i g g'. h i (omega arith) (next (width K) i g')))
  where
    ends : (w i : ℕ) → i < o + w → i < o + suc c * w
    ends w i g = omega arith

    next : (w i : ℕ) → i < o + w + c * w → i < o + suc c * w
    next w i g = omega arith

zero-levels : (K k : ℕ) (ws : List ℕ) (b c : ℕ) → ((i : ℕ) → b ≤ i → i < b + extent K k c → word ws i ≡ 0) → levels_of K k ws b c ≡ clear_levels K k c
unfolding levels_of clear_levels extent
zero-levels K zero ws b c h = refl
zero-levels K (suc k) ws b c h =
    ap₂ (λ (l : List Node) (r : Levels k). (l, r)) (zero_row K c ws b (λ i g g'. h i g (omega arith)))
    (zero-levels K k ws (b + c * width K) (c + c) (λ i g g'. h i (base (c * width K) i g) (omega arith)))
  where
    base : (d i : ℕ) → b + d ≤ i → b ≤ i
    base d i g = omega arith

pub zero-heap : (K k : ℕ) (ws : List ℕ) → ((i : ℕ) → i < extent K k 1 → word ws i ≡ 0) → heap_in K k ws 0 ≡ clear_heap K k
zero-heap K k ws h =
    sym (root-heap K k ws) ∙ ap (λ (ls : Levels k). heap_of k ls 0) (zero-levels K k ws 0 1 (λ i g g'. h i (omega arith))) ∙ clear-heap K k 1 0 (omega arith)
