-- For the code of the shape.
use Rattle.laws.specs.Prelude.{Bool, List, ◌%◌, ◌&&◌, ◌*◌, ◌+◌, ◌-◌, ◌<◌, ◌^◌, ◌∙◌, ◌≡◌, ◌≤◌, ap, arith, cond, false, false≢true, le-leb, le-ltb, leb, leb-false, leb-true, length, lt-leb, lt-ltb, ltb, ltb-true, mul-le-mul_right, not, not-false, not-suc-le-zero, refl, subst, suc, sym, true, zero, ℕ}
use Rattle.cluster_model.specs.Prelude.{extent, room, shape_ok, width}
use Rattle.cluster.specs.Coded.{few_nodes, nodes_of}
use Rattle.cluster_node.specs.Leaf.{Here}
use Rattle.cluster.specs.Down.{Reach}

nodes-suc : (k : ℕ) → nodes_of (suc k) ≡ nodes_of k + nodes_of k + 1
unfolding nodes_of
nodes-suc k = refl

nodes-mono : (i d : ℕ) → nodes_of i ≤ nodes_of (d + i)
unfolding nodes_of
nodes-mono i zero = let z : 0 + i ≡ i = omega arith in subst (λ (n : ℕ). nodes_of i ≤ nodes_of n) (sym z) (omega arith)
nodes-mono i (suc d) = let z : suc d + i ≡ suc (d + i) = omega arith in subst (λ (n : ℕ). nodes_of i ≤ nodes_of n) (sym z) (omega (arith, nodes-mono i d))

pub nodes-up : (i j : ℕ) → i ≤ j → nodes_of i ≤ nodes_of j
nodes-up i j h = let e : j - i + i ≡ j = omega arith in subst (λ (n : ℕ). nodes_of i ≤ nodes_of n) e (nodes-mono i (j - i))

-- a number of nodes, as far as the limit asks
pub record Nodes (levels r : ℕ) : Type 0 where
  pub within : nodes_of levels ≤ 5460 → r ≡ nodes_of levels
  pub above : 5460 < nodes_of levels → 5460 < r

pub nodes-end : (levels i r : ℕ) → i ≡ levels → r ≡ nodes_of i → Nodes levels r
nodes-end levels i r e p =
    let q : r ≡ nodes_of levels = p ∙ ap nodes_of e in
    record { within = λ h. q; above = λ h. omega arith }

pub nodes-above : (levels i r : ℕ) → i ≤ levels → 5460 < r → r ≡ nodes_of i → Nodes levels r
nodes-above levels i r l a p = record { within = λ w. absurd (not-suc-le-zero {n = 0} (omega (arith, nodes-up i levels l))); above = λ w. a }

-- K (2^k − 1), and the words of 2^k − 1 nodes
many : 8191 ≡ nodes_of 13
unfolding nodes_of
many = refl

-- a shift of 1 by so many levels
pub shift_is : (k : ℕ) → k ≤ 12 → 1 * 2 ^ k % 2 ^ 64 ≡ nodes_of k + 1
unfolding nodes_of
shift_is zero h = refl
shift_is (suc zero) h = refl
shift_is (suc (suc zero)) h = refl
shift_is (suc (suc (suc zero))) h = refl
shift_is (suc (suc (suc (suc zero)))) h = refl
shift_is (suc (suc (suc (suc (suc zero))))) h = refl
shift_is (suc (suc (suc (suc (suc (suc zero)))))) h = refl
shift_is (suc (suc (suc (suc (suc (suc (suc zero))))))) h = refl
shift_is (suc (suc (suc (suc (suc (suc (suc (suc zero)))))))) h = refl
shift_is (suc (suc (suc (suc (suc (suc (suc (suc (suc zero))))))))) h = refl
shift_is (suc (suc (suc (suc (suc (suc (suc (suc (suc (suc zero)))))))))) h = refl
shift_is (suc (suc (suc (suc (suc (suc (suc (suc (suc (suc (suc zero))))))))))) h = refl
shift_is (suc (suc (suc (suc (suc (suc (suc (suc (suc (suc (suc (suc zero)))))))))))) h = refl
shift_is (suc (suc (suc (suc (suc (suc (suc (suc (suc (suc (suc (suc (suc k))))))))))))) h = absurd (not-suc-le-zero {n = k} (omega arith))

pub nodes-shift : (levels p : ℕ) → levels ≤ 12 → p ≡ nodes_of levels + 1 → p - 1 ≡ few_nodes levels
unfolding few_nodes
nodes-shift levels p h e = rw (le-ltb 12 levels h) (omega (arith, e))

pub nodes-many : (levels : ℕ) → 12 < levels → 8191 ≡ few_nodes levels
unfolding few_nodes
nodes-many levels h = rw (lt-ltb 12 levels h)

-- within the limit it is 2^levels − 1, and above it where that is
pub nodes-counted : (levels r : ℕ) → r ≡ few_nodes levels → Nodes levels r
unfolding few_nodes
nodes-counted levels r = go (ltb 12 levels) refl
  where
    go : (b : Bool) → ltb 12 levels ≡ b → r ≡ cond b 8191 (nodes_of levels) → Nodes levels r
    go true t e = nodes-above levels 13 r (ltb-true 12 levels t) (omega arith) (e ∙ many)
    go false t e = nodes-end levels levels r refl e

pub room-nodes : (K k : ℕ) → K * nodes_of k ≡ room K k
unfolding room nodes_of
room-nodes K zero = omega arith
room-nodes K (suc k) = omega (arith, room-nodes K k)

extent-nodes-at : (K k c : ℕ) → extent K k c ≡ c * (nodes_of k * width K)
unfolding extent nodes_of
extent-nodes-at K zero c = omega arith
extent-nodes-at K (suc k) c = go (width K) (nodes_of k) (extent K k (c + c)) (extent-nodes-at K k (c + c))
  where
    go : (w n e : ℕ) → e ≡ (c + c) * (n * w) → c * w + e ≡ c * ((n + n + 1) * w)
    go w n e h = omega (arith, h)

pub extent-nodes : (K k : ℕ) → nodes_of k * width K ≡ extent K k 1
extent-nodes K k = let e = extent-nodes-at K k 1 in omega (arith, e)

-- a level or more: not more nodes than places
pub nodes-room : (K k : ℕ) → 1 < K → nodes_of k ≤ room K k
nodes-room K k h = omega (arith, room-nodes K k, mul-le-mul_right (nodes_of k) h)

pub capacity-is : (K levels n : ℕ) → nodes_of levels ≤ 5460 → Nodes levels n → K * n ≡ room K levels
capacity-is K levels n h e = ap (λ (i : ℕ). K * i) (e.within h) ∙ room-nodes K levels

-- ---- the shape
module _ (K levels len : ℕ) where
  pub shape-low : K < 2 → false ≡ shape_ok K levels len
  unfolding shape_ok
  shape-low h = rw (lt-leb 2 K h) refl

  pub shape-high : 16 < K → 2 ≤ K → false ≡ shape_ok K levels len
  unfolding shape_ok
  shape-high h l = rw (le-leb 2 K l, lt-leb K 16 h) refl

  module _ (low : 2 ≤ K) (few : K ≤ 16) where
    pub shape-none : levels < 1 → false ≡ shape_ok K levels len
    unfolding shape_ok
    shape-none h = rw (le-leb 2 K low, le-leb K 16 few, lt-leb 1 levels h) refl

    module _ (some : 1 ≤ levels) (n : ℕ) (counted : Nodes levels n) where
      pub shape-above : 5460 < n → false ≡ shape_ok K levels len
      unfolding shape_ok
      shape-above h = go (leb (room K levels) 5460) refl
        where
          go : (b : Bool) → leb (room K levels) 5460 ≡ b → false ≡ (leb 2 K && (leb K 16 && (leb 1 levels && (b && leb (extent K levels 1) len))))
          go true e =
              let w : nodes_of levels ≤ 5460 = omega (arith, leb-true (room K levels) 5460 e, nodes-room K levels low) in
              let z : n ≡ nodes_of levels = counted.within w in absurd (not-suc-le-zero {n = 0} (omega arith))
          go false e = rw (le-leb 2 K low, le-leb K 16 few, le-leb 1 levels some) refl

      pub shape-rest : n ≤ 5460 → (leb (K * n) 5460 && leb (n * width K) len) ≡ shape_ok K levels len
      unfolding shape_ok
      shape-rest h =
          let w : nodes_of levels ≤ 5460 = within in
          let e : n ≡ nodes_of levels = counted.within w in
          let r : K * n ≡ room K levels = ap (λ (i : ℕ). K * i) e ∙ room-nodes K levels in
          let x : n * width K ≡ extent K levels 1 = ap (λ (i : ℕ). i * width K) e ∙ extent-nodes K levels in
          rw (le-leb 2 K low, le-leb K 16 few, le-leb 1 levels some, r, x) refl
        where
          within : nodes_of levels ≤ 5460
          within = go (leb (nodes_of levels) 5460) refl
            where
              go : (b : Bool) → leb (nodes_of levels) 5460 ≡ b → nodes_of levels ≤ 5460
              go true e = leb-true (nodes_of levels) 5460 e
              go false e = absurd (not-suc-le-zero {n = 0} (omega (arith, counted.above (leb-false (nodes_of levels) 5460 e))))

-- ---- what a shape that passes gives
pub record Passed (K levels len : ℕ) : Type 0 where
  pub low : 2 ≤ K
  pub few : K ≤ 16
  pub some : 1 ≤ levels
  pub capacity : room K levels ≤ 5460
  pub slice : extent K levels 1 ≤ len

pub shape_is : (K levels len : ℕ) → shape_ok K levels len ≡ true → Passed K levels len
unfolding shape_ok
shape_is K levels len e = go (leb 2 K) refl (leb K 16) refl (leb 1 levels) refl (leb (room K levels) 5460) refl (leb (extent K levels 1) len) refl e
  where
    go : (a : Bool) → leb 2 K ≡ a → (b : Bool) → leb K 16 ≡ b → (c : Bool) → leb 1 levels ≡ c → (d : Bool) → leb (room K levels) 5460 ≡ d → (f : Bool) → leb (extent K levels 1) len ≡ f
        → (a && (b && (c && (d && f)))) ≡ true → Passed K levels len
    go true p true q true r true s true t e = record { low = leb-true 2 K p; few = leb-true K 16 q; some = leb-true 1 levels r; capacity = leb-true (room K levels) 5460 s; slice = leb-true (extent K levels 1) len t }
    go true p true q true r true s false t e = absurd (false≢true e)
    go true p true q true r false s f t e = absurd (false≢true e)
    go true p true q false r d s f t e = absurd (false≢true e)
    go true p false q c r d s f t e = absurd (false≢true e)
    go false p b q c r d s f t e = absurd (false≢true e)

-- node m and all below it lie among the first T nodes
lies-all : (K k m T len : ℕ) → 2 ≤ K → K ≤ 16 → T ≤ 5460 → T * width K ≤ len → m * nodes_of k + m + (nodes_of k + nodes_of k) < T → Reach K k m len
unfolding nodes_of
lies-all K zero m T len a b c d h = node_in (width K) d (omega arith)
  where
    node_in : (w : ℕ) → T * width K ≤ len → m < T → Here K m len
    node_in w d l = record { some = a; few = b; node = omega arith; words = words (width K) d l }
      where
        words : (w : ℕ) → T * w ≤ len → m < T → m * w + w ≤ len
        words w d l = omega (arith, mul-le-mul_right w l)
lies-all K (suc k) m T len a b c d h = (
  record { some = a; few = b; node = omega (arith, less (nodes_of k) h); words = words (width K) d (less (nodes_of k) h) },
  lies-all K k (m + m + 1) T len a b c d (left (nodes_of k) h),
  lies-all K k (m + m + 2) T len a b c d (right (nodes_of k) h),
)
  where
    less : (n : ℕ) → m * (n + n + 1) + m + (n + n + 1 + (n + n + 1)) < T → m < T
    less n g = omega arith

    left : (n : ℕ) → m * (n + n + 1) + m + (n + n + 1 + (n + n + 1)) < T → (m + m + 1) * n + (m + m + 1) + (n + n) < T
    left n g = omega arith

    right : (n : ℕ) → m * (n + n + 1) + m + (n + n + 1 + (n + n + 1)) < T → (m + m + 2) * n + (m + m + 2) + (n + n) < T
    right n g = omega arith

    words : (w : ℕ) → T * w ≤ len → m < T → m * w + w ≤ len
    words w d l = omega (arith, mul-le-mul_right w l)

module _ (K levels : ℕ) (ws : List ℕ) (t : Bool) (shaped : t ≡ shape_ok K levels (length ws)) (yes : not t ≡ false) where
  pub shape-true : shape_ok K levels (length ws) ≡ true
  shape-true = sym shaped ∙ not-false t yes

  pub shape-here : Passed K levels (length ws)
  shape-here = shape_is K levels (length ws) shape-true

  pub nodes-here : nodes_of levels ≤ 5460
  nodes-here = omega (arith, nodes-room K levels shape-here.low, shape-here.capacity)

  pub nodes-less : nodes_of (levels - 1) ≤ 5460
  nodes-less = omega (arith, nodes-here, nodes-up (levels - 1) levels (omega arith))

  pub root-lies : Reach K (levels - 1) 0 (length ws)
  root-lies = lies-all K (levels - 1) 0 (nodes_of levels) (length ws) shape-here.low shape-here.few nodes-here (omega (arith, extent-nodes K levels, shape-here.slice)) (go levels shape-here.some)
    where
      go : (levels : ℕ) → 1 ≤ levels → 0 * nodes_of (levels - 1) + 0 + (nodes_of (levels - 1) + nodes_of (levels - 1)) < nodes_of levels
      go zero h = absurd (not-suc-le-zero h)
      go (suc k) h = let e : suc k - 1 ≡ k = omega arith in subst (λ (j : ℕ). 0 * nodes_of j + 0 + (nodes_of j + nodes_of j) < nodes_of (suc k)) (sym e) (last k)
        where
          last : (k : ℕ) → 0 * nodes_of k + 0 + (nodes_of k + nodes_of k) < nodes_of (suc k)
          last k = omega (arith, nodes-suc k)
