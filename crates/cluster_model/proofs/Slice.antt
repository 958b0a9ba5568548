-- Where the words stand, in 02's numbers: the capacity, the slice, the number of a node, and the words of a node.
use Rattle.laws.specs.Prelude.{List, ◌*◌, ◌+◌, ◌<◌, ◌^◌, ◌∙◌, ◌≡◌, ◌≤◌, ap, arith, element, eqb, get_or, le_of_suc-le-suc, not-suc-le-zero, pow-suc, refl, suc, zero, ℕ}
use Rattle.cluster_model.specs.Prelude.{Lies, Place, child, extent, lhs, node_in, node_of, nodes, place_at, place_by, place_of, rhs, room, row_of, width}
use Rattle.cluster_model.proofs.Index.{base-next, child-next, spot_is}
use Rattle.cluster_model.proofs.Levels.{child_of}
use Rattle.cluster_model.proofs.Pass.{child-in, spot_in}

-- "capacity K times (2^L − 1)"
pub capacity : (K levels : ℕ) → room K levels + K ≡ K * 2 ^ levels
unfolding room
capacity K zero = omega arith
capacity K (suc k) = omega (arith, capacity K k, ap (λ (n : ℕ). K * n) (pow-suc 2 k))

-- 2^L − 1 nodes
pub node-total : (levels : ℕ) → nodes levels + 1 ≡ 2 ^ levels
unfolding nodes
node-total zero = refl
node-total (suc k) = omega (arith, node-total k, pow-suc 2 k)

-- each of 2 + 4K words
wide : (w k c : ℕ) (e : ℕ → ℕ → ℕ) → ((c : ℕ) → e zero c ≡ 0) → ((k c : ℕ) → e (suc k) c ≡ c * w + e k (c + c)) → e k c + c * w ≡ c * 2 ^ k * w
wide w zero c e z s = omega (arith, z c)
wide w (suc k) c e z s =
    let p : c * 2 ^ suc k * w ≡ (c + c) * 2 ^ k * w = ap (λ (n : ℕ). n * w) (ap (λ (n : ℕ). c * n) (pow-suc 2 k) ∙ twice c (2 ^ k)) in
    omega (arith, s k c, wide w k (c + c) e z s, p)
  where
    twice : (c n : ℕ) → c * (n * 2) ≡ (c + c) * n
    twice c n = omega arith

pub slice : (K levels : ℕ) → extent K levels 1 + (2 + K * 4) ≡ 2 ^ levels * (2 + K * 4)
unfolding extent
slice K levels = sliced (wide (width K) levels 1 (extent K) (λ c. refl) (λ k c. refl))
  where
    sliced : extent K levels 1 + 1 * width K ≡ 1 * 2 ^ levels * width K → extent K levels 1 + (2 + K * 4) ≡ 2 ^ levels * (2 + K * 4)
    sliced e = omega (arith, e)

-- "Nodes lie level by level, node by node": the topmost level is 0, and node n of level i is number 2^i − 1 + n; below it lie nodes 2n and 2n + 1
pub numbered : (i n m : ℕ) → m + 1 ≡ 2 ^ i + n → (child m lhs + 1 ≡ 2 ^ suc i + (n + n)) × (child m rhs + 1 ≡ 2 ^ suc i + suc (n + n))
numbered i n m e = (omega (arith, e, pow-suc 2 i), omega (arith, e, pow-suc 2 i))

-- a node's words: left count, right count, then K places of rank, tag, length and flag
row-place : (K : ℕ) (ws : List ℕ) (o j : ℕ) → j < K → place_at (row_of place_of 4 K ws o) j ≡ place_of ws (o + j * 4)
unfolding row_of place_at
row-place zero ws o j h = absurd (not-suc-le-zero h)
row-place (suc K) ws o zero h = let at : o ≡ o + 0 * 4 = omega arith in ap (place_of ws) at
row-place (suc K) ws o (suc j) h = let at : o + 4 + j * 4 ≡ o + suc j * 4 = omega arith in row-place K ws (o + 4) j (le_of_suc-le-suc h) ∙ ap (place_of ws) at

abbrev pub place_in : ℕ → List ℕ → ℕ → ℕ → Place
place_in K ws m j =
    let o = m * (2 + K * 4) + 2 + j * 4 in
    place_by (eqb (get_or ws (o + 3) 0) 0) (element (get_or ws o 0) (get_or ws (o + 1) 0) (get_or ws (o + 2) 0))

pub lies : (K : ℕ) (ws : List ℕ) (m j : ℕ) → j < K
    → ((node_in K ws m).left ≡ get_or ws (m * (2 + K * 4)) 0) × ((node_in K ws m).right ≡ get_or ws (m * (2 + K * 4) + 1) 0) × (place_at (node_in K ws m).places j ≡ place_in K ws m j)
unfolding node_of place_of
lies K ws m j h = (refl, refl, row-place K ws (m * width K + 2) j h)

-- ---- every node of the levels lies within the slice's words
node-lies : (K k : ℕ) (n b c m len : ℕ) → n < c → b + width K ≡ c * width K → m + 1 ≡ c + n → b + extent K k c ≤ len → Lies K k m len
unfolding extent
node-lies K zero n b c m len h e f g = tt
node-lies K (suc k) n b c m len h e f g = (
  omega (arith, spot_is (width K) b c n m e f, spot_in K b c n h, g),
  node-lies K k (child_of n lhs) (b + c * width K) (c + c) (child m lhs) len (child-in n c lhs h) (base-next (width K) b c e) (child-next n c m lhs f) (omega arith),
  node-lies K k (child_of n rhs) (b + c * width K) (c + c) (child m rhs) len (child-in n c rhs h) (base-next (width K) b c e) (child-next n c m rhs f) (omega arith),
)

pub lies-all : (K k len : ℕ) → extent K k 1 ≤ len → Lies K k 0 len
lies-all K k len h = node-lies K k 0 0 1 0 len (omega arith) (omega arith) refl (omega arith)
