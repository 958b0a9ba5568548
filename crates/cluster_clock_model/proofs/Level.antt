-- A level's step on two slices that agree on some words: where these have the nodes that the step writes, and what a waiting node comes to is the same in both, what the
-- step leaves agrees there too, and the work begun is the same.
use Rattle.laws.specs.Prelude.{List, ◌+◌, ◌<◌, ◌≡◌, ◌≤◌, ap₂, refl, subst, true, ℕ}
use Rattle.cluster_clock_model.specs.Prelude.{Due, Fill, Nothing, Put, Swap, Work, begins, filled, note_of, settled, stage, waits, worked}
use Rattle.cluster_model.proofs.Laws.{Alike, like-touch, node-local}
use Rattle.cluster_model.specs.Prelude.{Begun, Finished, Node, begin, fill, low, node_in, spot_of, touch, trial, width, works}

module _ (K : ℕ) (P : ℕ → Type 0) where
  -- P has the words of node m
  abbrev pub Has : ℕ → Type 0
  Has m = (p : ℕ) → spot_of K m ≤ p → p < spot_of K m + width K → P p

  pub same_at : (ws vs : List ℕ) → Alike P ws vs → (m : ℕ) → Has m → node_in K ws m ≡ node_in K vs m
  same_at ws vs a m h = node-local K vs ws (spot_of K m) (λ i l g. a.same i (h i l g))

  module _ (b : ℕ) (ws vs : List ℕ) (a : Alike P ws vs) where
    pub like-filled : (d : Due) (n : ℕ) → (waits d ≡ true → settled K (note_of d) (b + n) ws ≡ settled K (note_of d) (b + n) vs) → Alike P (filled K b (stage d n) ws) (filled K b (stage d n) vs)
    unfolding filled touch
    like-filled Nothing n s = a
    like-filled (Put y) n s = a
    like-filled (Fill j) n s =
        subst (λ (v : Finished). Alike P (touch true ws (spot_of K (b + n)) (settled K (fill j) (b + n) ws).node) (touch true vs (spot_of K (b + n)) v.node)) (s refl)
        (like-touch P true ws vs (spot_of K (b + n)) (settled K (fill j) (b + n) ws).node a)
    like-filled (Swap j x) n s =
        subst (λ (v : Finished). Alike P (touch true ws (spot_of K (b + n)) (settled K (trial j x) (b + n) ws).node) (touch true vs (spot_of K (b + n)) v.node)) (s refl)
        (like-touch P true ws vs (spot_of K (b + n)) (settled K (trial j x) (b + n) ws).node a)

    pub same-begins : (w : Work) (us us' : List ℕ) → Alike P us us' → Has (b + w.node) → begins K b w ws us ≡ begins K b w vs us'
    unfolding begins
    same-begins w us us' l h = ap₂ (λ (x y : Node). begin w.op (low x.places) y) (same_at ws vs a (b + w.node) h) (same_at us us' l (b + w.node) h)

    pub like-worked : (w : Work) (us us' : List ℕ) → Alike P us us' → Has (b + w.node) → Alike P (worked K b w ws us) (worked K b w vs us')
    unfolding worked
    like-worked w us us' l h =
        subst (λ (v : Begun). Alike P (touch (works w.op) us (spot_of K (b + w.node)) (begins K b w ws us).node) (touch (works w.op) us' (spot_of K (b + w.node)) v.node)) (same-begins w us us' l h)
        (like-touch P (works w.op) us us' (spot_of K (b + w.node)) (begins K b w ws us).node l)
