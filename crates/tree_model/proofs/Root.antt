-- At the root no operation finds every count at its limit, or an empty node: that cause of damage is one of the nodes below.
use Rattle.laws.specs.Prelude.{All, List, Request, [], ◌*◌, ◌<◌, ◌∙◌, ◌∷◌, ◌≡◌, ◌≤◌, ap, arith, length, not-suc-le-zero, pred, suc, zero, ℕ}
use native.Mathlib.Nat.{mul-zero}
use Rattle.tree_model.proofs.Rules.{comes}
use Rattle.tree_model.proofs.Words.{node-length}
use Rattle.tree_model.specs.Prelude.{Comes, Ruling, Slot, Stuck, empty, full, idles, lacks, no-tag, puts, room, root_of, rule_at, sum_counts, swaps, takes}

all_same : (c : ℕ) (nd : List Slot) → All (λ s. s.count ≡ c) nd → sum_counts nd ≡ length nd * c
unfolding sum_counts
all_same c [] h = omega arith
all_same c (s ∷ nd) h = omega (arith, h.0, all_same c nd h.1)

-- "if below the root a put finds every count at one plus the room below it, or a take, swap or read for the lowest an empty node"
pub root-not-stuck : (m levels : ℕ) (r : Request) (ws : List ℕ) → 1 ≤ levels → Stuck (rule_at m levels r ws).op (room m (pred levels)) (root_of m ws) → ⊥
unfolding room
root-not-stuck m zero r ws h = absurd (not-suc-le-zero h)
root-not-stuck m (suc k) r ws h = go r _ (comes (room m (suc k)) r (root_of m ws))
  where
    none : 0 < sum_counts (root_of m ws) → All (λ s. s.count ≡ 0) (root_of m ws) → ⊥
    none h s = omega (arith, all_same 0 (root_of m ws) s, mul-zero (length (root_of m ws)))

    go : (r : Request) (g : Ruling) → Comes (m * suc (room m k)) (root_of m ws) r g → Stuck g.op (room m k) (root_of m ws) → ⊥
    go r g idles s = s
    go r g (no-tag r' u) s = s
    go r g (puts x u h) s = omega (arith, all_same (suc (room m k)) (root_of m ws) s ∙ ap (λ (n : ℕ). n * suc (room m k)) (node-length m ws 0))
    go r g (full x u h) s = s
    go r g (takes h) s = none h s
    go r g (empty h) s = s
    go r g (swaps x u h) s = none h s
    go r g (lacks x u h) s = s
