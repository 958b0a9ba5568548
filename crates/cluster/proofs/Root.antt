-- The root is node 0: its first word is word 0.
use Rattle.laws.specs.Prelude.{List, ◌*◌, ◌+◌, ◌≡◌, ap, arith, ℕ}
use Rattle.cluster_model.specs.Prelude.{place_words, width, word}
use Rattle.cluster_node.specs.declared.Seen.{Seen}
use Rattle.cluster_node.specs.Leaf.{elem_at, look_node, ok_by, place_in}
use Rattle.cluster_node.specs.Seeing.{look_to}
use Rattle.cluster.specs.Coded.{held_by}

pub root-seen : (K : ℕ) (ws : List ℕ) → look_to ws 2 K ≡ look_node K ws 0
unfolding look_node
root-seen K ws = let at : 2 ≡ 0 * width K + 2 = omega arith in ap (λ (i : ℕ). look_to ws i K) at

pub root-tested : (K limit : ℕ) (ws : List ℕ) (v : Seen) → ok_by K limit ws 0 v ≡ ok_by K limit ws (0 * width K) v
root-tested K limit ws v = let at : 0 ≡ 0 * width K = omega arith in ap (λ (i : ℕ). ok_by K limit ws i v) at

pub root-counts : (K : ℕ) (ws : List ℕ) (v : Seen) (l r : ℕ) → l ≡ word ws 0 → r ≡ word ws 1 → v.count + (l + r) ≡ held_by K ws v
unfolding held_by
root-counts K ws v l r p q =
    let left : word ws 0 ≡ word ws (0 * width K) = let at : 0 ≡ 0 * width K = omega arith in ap (word ws) at in
    let right : word ws 1 ≡ word ws (0 * width K + 1) = let at : 1 ≡ 0 * width K + 1 = omega arith in ap (word ws) at in
    omega (arith, p, q, left, right)

pub root-has : (K : ℕ) (ws : List ℕ) (j : ℕ) → elem_at ws (2 + j * place_words) ≡ elem_at ws (place_in K 0 j)
root-has K ws j = let at : 2 + j * place_words ≡ 0 * width K + 2 + j * place_words = omega arith in ap (elem_at ws) at
