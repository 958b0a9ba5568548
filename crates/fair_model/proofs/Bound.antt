-- The bound: over any stretch in which two flows keep one weight each and always have something waiting, their served cells times step differ by
-- at most one largest strip of each.
use Rattle.laws.specs.Prelude.{All, Any, List, [], ◌*◌, ◌+◌, ◌∙◌, ◌∷◌, ◌≡◌, ◌≤◌, all-at, all-map-both, all_snoc, ap, arith, eq-eqb, eqb, ne_eqb, subst, sym, ℕ, ℕ_discrete}
use native.Mathlib.Nat.{add-mul, zero-mul}
use Rattle.fair_model.specs.Ranks.{cell_limit, cells, step}
use Rattle.fair_model.specs.Ledger.{AllLawful, anew, Busy, bytes, cells_if, comes, cost, entry, found, goes, Lawful, Move, moved, no_strip, rank, run, served, served_by, stays, Steady, Strip, Waits, Weighs, Within, without, World}
use Rattle.fair_model.proofs.Chain.{chain-near}
use Rattle.fair_model.proofs.Orderly.{all_without, comes-other, comes-own, cost-most, goes_other, goes-own, Line, Lined, moved-orderly, Orderly, Right}

-- a flow of one weight: the clock stands between the start p of its first waiting strip and one largest strip after it
pub record Tight (i w p : ℕ) (s : World) : Type 0 where
  pub line : Line i p s
  pub near : s.clock ≤ p + cell_limit * step w
  pub steady : All (λ x. x.flow ≡ i → x.weight ≡ w) s.waiting

module _ (i w : ℕ) where
  costs : (l : List Strip) → All Right l → All (λ x. x.flow ≡ i → x.weight ≡ w) l → All (λ x. x.flow ≡ i → cost x ≤ cell_limit * step w) l
  costs l r k =
      all-map-both Right (λ x. x.flow ≡ i → x.weight ≡ w) (λ x. x.flow ≡ i → cost x ≤ cell_limit * step w)
      (λ x r k e. subst (λ (v : ℕ). cells (bytes x) * step x.weight ≤ cell_limit * step v) (k e) (cost-most x.flow x.weight (bytes x) r.good)) l r k

  -- no rank of a waiting strip is below v: then v is near
  near_by : (v p : ℕ) (s : World) → Orderly s → Waits i s → Line i p s → All (λ x. x.flow ≡ i → x.weight ≡ w) s.waiting → All (λ x. v ≤ rank x) s.waiting
      → v ≤ p + cell_limit * step w
  near_by v p s o a l k h = chain-near i v (cell_limit * step w) p s.waiting (s.last i) a h (costs s.waiting o.right k) l.chain

  tight-comes : (s : World) (f v n t p : ℕ) → Lawful (comes f v n t) s → Orderly s → Waits i s → (f ≡ i → v ≡ w) → Tight i w p s → Tight i w p (moved (comes f v n t) s)
  unfolding moved
  tight-comes s f v n t p h o a g z =
      record {
        line = elim (ℕ_discrete i f) [
          | yes e ↦ subst (λ (j : ℕ). Line j p (moved (comes f v n t) s)) (sym e)
              (comes-own s o f v n t h.0 h.1 p (subst (λ (j : ℕ). Waits j s) e a) (subst (λ (j : ℕ). Line j p s) e z.line))
          | no ne ↦ comes-other s o f v n t h.0 h.1 i p ne z.line
        ];
        near = z.near;
        steady = all_snoc (λ x. x.flow ≡ i → x.weight ≡ w) s.waiting (entry s f v n t) z.steady g;
      }

  tight-goes : (s : World) (q p : ℕ) → Lawful (goes q) s → Orderly s → Waits i s → Tight i w p s → Tight i w (p + served_by i (goes q) s * step w) (moved (goes q) s)
  unfolding moved served_by
  tight-goes s q p h o a z = elim (ℕ_discrete (found s q).flow i) [ yes e ↦ own e | no ne ↦ other ne ]
    where
      x : Strip
      x = found s q

      stays-steady : All (λ x. x.flow ≡ i → x.weight ≡ w) (without q s.waiting)
      stays-steady = all_without (λ x. x.flow ≡ i → x.weight ≡ w) q s.waiting z.steady

      own : (found s q).flow ≡ i → Tight i w (p + cells_if (eqb (found s q).flow i) (found s q) * step w) (moved (goes q) s)
      own e =
          let d = goes-own s o q h.0 h.1 i p e z.line in
          let k : (found s q).weight ≡ w = all-at (λ x. x.flow ≡ i → x.weight ≡ w) s.waiting q no_strip z.steady h.0 e in
          let r : rank (found s q) ≡ p + cells (bytes (found s q)) * step w = d.0 ∙ ap (λ (v : ℕ). p + cells (bytes (found s q)) * step v) k in
          rw (eq-eqb (found s q).flow i e)
          (subst (λ (n : ℕ). Tight i w n (moved (goes q) s)) r (record { line = d.1; near = omega arith; steady = stays-steady }))

      other : ((found s q).flow ≡ i → ⊥) → Tight i w (p + cells_if (eqb (found s q).flow i) (found s q) * step w) (moved (goes q) s)
      other ne =
          let e : p ≡ p + 0 * step w = omega (arith, zero-mul (step w)) in
          rw (ne_eqb (found s q).flow i ne)
          (subst (λ (n : ℕ). Tight i w n (moved (goes q) s)) e
          (record { line = goes_other s o q h.0 h.1 i p ne z.line; near = near_by (rank (found s q)) p s o a z.line z.steady h.1; steady = stays-steady }))

  tight-moved : (v : Move) (s : World) (p : ℕ) → Lawful v s → Orderly s → Waits i s → Weighs i w v → Tight i w p s → Tight i w (p + served_by i v s * step w) (moved v s)
  unfolding moved served_by
  tight-moved stays s p h o a g z = subst (λ (n : ℕ). Tight i w n s) (omega (arith, zero-mul (step w))) z
  tight-moved (comes f v n t) s p h o a g z = subst (λ (m : ℕ). Tight i w m (moved (comes f v n t) s)) (omega (arith, zero-mul (step w))) (tight-comes s f v n t p h o a g z)
  tight-moved (goes q) s p h o a g z = tight-goes s q p h o a z
  tight-moved anew s p h o a g z = absurd (subst (λ (l : List Strip). Any (λ x. x.flow ≡ i) l) h a)

  tight-run : (vs : List Move) (s : World) (p : ℕ) → AllLawful vs s → Orderly s → Busy i vs s → All (Weighs i w) vs → Tight i w p s
      → Tight i w (p + served i vs s * step w) (run vs s)
  unfolding run served
  tight-run [] s p h o b g z = subst (λ (n : ℕ). Tight i w n s) (omega (arith, zero-mul (step w))) z
  tight-run (v ∷ vs) s p h o b g z =
      let e : p + served_by i v s * step w + served i vs (moved v s) * step w ≡ p + (served_by i v s + served i vs (moved v s)) * step w =
      omega (arith, add-mul (served_by i v s) (served i vs (moved v s)) (step w)) in
      subst (λ (n : ℕ). Tight i w n (run vs (moved v s))) e
      (tight-run vs (moved v s) (p + served_by i v s * step w) h.1 (moved-orderly v s h.0 o) b.1 g.1 (tight-moved v s p h.0 o b.0 g.0 z))

  -- at the start of a stretch that has a call
  tight-start : (v : Move) (vs : List Move) (s : World) → Orderly s → (k : Steady i w (v ∷ vs) s) → (l : Lined i s) → Tight i w l.start s
  tight-start v vs s o k l = record { line = l.line; near = near_by s.clock l.start s o k.busy.0 l.line k.waiting o.ahead; steady = k.waiting }

-- THE BOUND, from any ledger in order
pub bound : (vs : List Move) (s : World) → Orderly s → AllLawful vs s → (i j w u : ℕ) → Steady i w vs s → Steady j u vs s
    → Within (cell_limit * step w + cell_limit * step u) (served i vs s * step w) (served j vs s * step u)
unfolding served
bound [] s o h i j w u k m = record { above = omega (arith, zero-mul (step w)); under = omega (arith, zero-mul (step u)) }
bound (v ∷ vs) s o h i j w u k m =
    let p = o.line i in
    let q = o.line j in
    let y = tight-start i w v vs s o k p in
    let z = tight-start j u v vs s o m q in
    let y' = tight-run i w (v ∷ vs) s p.start h o k.busy k.pushed y in
    let z' = tight-run j u (v ∷ vs) s q.start h o m.busy m.pushed z in
    record {
      above = omega (arith, y.near, y.line.early, z.near, z.line.early, y'.near, y'.line.early, z'.near, z'.line.early);
      under = omega (arith, y.near, y.line.early, z.near, z.line.early, y'.near, y'.line.early, z'.near, z'.line.early);
    }
