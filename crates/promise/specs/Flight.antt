-- An operation on its way down a machine that works level by level: its work at level i in this cycle, and what that leaves for level i + 1 in the next, whatever is
-- asked then. Said once for every machine in which each level hands down to the next.
use Rattle.std.specs.Prelude.{◌+◌, ◌∷◌, ◌≡◌, ◌≤◌}
use Rattle.laws.specs.Prelude.{List, [], add-zero, ap, arith, length, subst, suc, ℕ, ◌∙◌}
use Rattle.promise.specs.Queue.{leaves, Step}

-- down i w x y: what the work w at level i, in the cycle that leads from x to y, leaves for the next level to do in y
module _ {C A S W : Type 0} (queue : C → S → Step A S) (down : ℕ → W → S → S → W) where
  unfoldable pub flight : ℕ → W → List C → S → W
  flight i w [] x = w
  flight i w (c ∷ cs) x = let y = (queue c x).next in flight (suc i) (down i w x y) cs y

  -- at c x i is the work of level i in the cycle c on x, of levels 0 to k: what a level leaves is the next level's work in the next cycle
  module _ (Kept : S → Type 0) (keep : (c : C) (x : S) → Kept x → Kept (queue c x).next) (at : C → S → ℕ → W) (k : ℕ)
      (hands : (c t : C) (x : S) (i : ℕ) → Kept x → suc i ≤ k → at t (queue c x).next (suc i) ≡ down i (at c x i) x (queue c x).next) where
    -- an operation is at level n + 1 in the n-th cycle after its own
    pub flies : (cs : List C) (c t : C) (x : S) (i : ℕ) → Kept x → suc (i + length cs) ≤ k → at t (leaves queue (c ∷ cs) x) (suc (i + length cs)) ≡ flight i (at c x i) (c ∷ cs) x
    unfolding leaves flight
    flies [] c t x i kept h = ap (λ (j : ℕ). at t (queue c x).next (suc j)) (add-zero i) ∙ hands c t x i kept (omega arith)
    flies (d ∷ cs) c t x i kept h =
        let y : S = (queue c x).next in
        let e : suc (i + suc (length cs)) ≡ suc (suc i + length cs) = omega arith in
        ap (at t (leaves queue (d ∷ cs) y)) e ∙ flies cs d t y (suc i) (keep c x kept) (omega arith) ∙ ap (λ (w : W). flight (suc i) w (d ∷ cs) y) (hands c d x i kept (omega arith))

    -- .. and what the last level leaves is left after as many cycles as there are levels
    module _ (P : W → Type 0) (last : (c : C) (x : S) → Kept x → P (down k (at c x k) x (queue c x).next)) where
      pub ends : (cs : List C) (c : C) (x : S) (i : ℕ) → Kept x → i + length cs ≡ k → P (flight i (at c x i) (c ∷ cs) x)
      unfolding flight
      ends [] c x i kept h =
          let e : k ≡ i = omega arith in
          subst (λ (i : ℕ). P (down i (at c x i) x (queue c x).next)) e (last c x kept)
      ends (d ∷ cs) c x i kept h =
          let y : S = (queue c x).next in
          subst (λ (w : W). P (flight (suc i) w (d ∷ cs) y)) (hands c d x i kept (omega arith)) (ends cs d y (suc i) (keep c x kept) (omega arith))
