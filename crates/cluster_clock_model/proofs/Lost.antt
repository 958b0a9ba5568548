-- What the tree holds is what stands in the places and what pending puts carry: each record is seen by one node.
use Rattle.laws.specs.Prelude.{Bool, Element, List, ◌*◌, ◌+◌, ◌<◌, ◌∙◌, ◌≡◌, ap, arith, cond, eq-eqb, eqb, eqb-false, eqb-true, false, grid, ne_eqb, not-suc-le-zero, refl, suc, sum_to, sym, to-add, to-append, to-ext, to-zero, true, zero, ℕ}
use Rattle.cluster_clock_model.proofs.Fine.{reach, reach-all}
use Rattle.cluster_clock_model.proofs.Flight.{note_below, within}
use Rattle.cluster_clock_model.proofs.Seen.{InRange, note_if, note_seen, put_seen, Ranged, tree_in}
use Rattle.cluster_clock_model.specs.Prelude.{Due, Fill, Nothing, Put, Stage, Swap, below, carried_by, carries, machine, remaining, stage_at}
use Rattle.cluster_model.specs.Prelude.{carried, fill, inside, node_in, nodes, stored_count, trial}
use Rattle.promise.specs.Prelude.{hit}

-- ---- a sum with one entry
unfoldable one_at : ℕ → ℕ → ℕ → ℕ
one_at p x m = cond (eqb p m) x 0

one-here : (p x m : ℕ) → p ≡ m → one_at p x m ≡ x
unfolding one_at
one-here p x m e = ap (λ (b : Bool). cond b x 0) (eq-eqb p m e)

one-off : (p x m : ℕ) → (p ≡ m → ⊥) → one_at p x m ≡ 0
unfolding one_at
one-off p x m e = ap (λ (b : Bool). cond b x 0) (ne_eqb p m e)

one-next : (p x m : ℕ) → one_at (suc p) x (suc m) ≡ one_at p x m
one-next p x m = go (eqb p m) refl
  where
    go : (b : Bool) → eqb p m ≡ b → one_at (suc p) x (suc m) ≡ one_at p x m
    go true e = one-here (suc p) x (suc m) (omega (arith, eqb-true p m e)) ∙ sym (one-here p x m (eqb-true p m e))
    go false e = let ne : p ≡ m → ⊥ = eqb-false p m e in one-off (suc p) x (suc m) (λ z. ne (omega arith)) ∙ sym (one-off p x m ne)

one-sum : (p x n : ℕ) → p < n → sum_to n (λ m. one_at p x m) ≡ x
unfolding sum_to
one-sum p x zero h = absurd (not-suc-le-zero h)
one-sum zero x (suc n) h =
    omega (arith, one-here 0 x 0 refl, to-ext n (λ i. one_at 0 x (suc i)) (λ i. 0) (λ i l. one-off 0 x (suc i) (λ z. omega arith)), to-zero n)
one-sum (suc p) x (suc n) h =
    omega (arith, one-off (suc p) x 0 (λ z. omega arith), to-ext n (λ i. one_at (suc p) x (suc i)) (λ i. one_at p x i) (λ i l. one-next p x i), one-sum p x n (omega arith))

module _ (f : Element → Bool) where
  put-pair : (p : ℕ) (y : Element) (n : ℕ) → carried (put_seen (eqb p (n + n)) (eqb p (suc (n + n))) y) f ≡ sum_to 2 (λ j. one_at p (hit (f y)) (n * 2 + j))
  unfolding sum_to
  put-pair p y n = go (eqb p (n + n)) refl (eqb p (suc (n + n))) refl
    where
      go : (l : Bool) → eqb p (n + n) ≡ l → (r : Bool) → eqb p (suc (n + n)) ≡ r → carried (put_seen l r y) f ≡ one_at p (hit (f y)) (n * 2 + 0) + (one_at p (hit (f y)) (n * 2 + 1) + 0)
      go true e r g = omega (arith, one-here p (hit (f y)) (n * 2 + 0) (omega (arith, eqb-true p (n + n) e)), one-off p (hit (f y)) (n * 2 + 1) (λ z. omega (arith, eqb-true p (n + n) e)))
      go false e true g =
          let ne : p ≡ n + n → ⊥ = eqb-false p (n + n) e in
          omega (arith, one-off p (hit (f y)) (n * 2 + 0) (λ z. ne (omega arith)), one-here p (hit (f y)) (n * 2 + 1) (omega (arith, eqb-true p (suc (n + n)) g)))
      go false e false g =
          let ne : p ≡ n + n → ⊥ = eqb-false p (n + n) e in
          let nf : p ≡ suc (n + n) → ⊥ = eqb-false p (suc (n + n)) g in
          omega (arith, one-off p (hit (f y)) (n * 2 + 0) (λ z. ne (omega arith)), one-off p (hit (f y)) (n * 2 + 1) (λ z. nf (omega arith)))

  -- a record is seen by one node of the level above it
  seen-sum : (d : Due) (p a : ℕ) → InRange d p a → sum_to (a + 1) (λ n. carried (note_seen d p n) f) ≡ carries d f
  unfolding note_seen
  seen-sum Nothing p a h = to-zero (a + 1)
  seen-sum (Fill j) p a h = to-ext (a + 1) (λ n. carried (note_if (eqb p n) (fill j)) f) (λ n. 0) (λ n l. go (eqb p n)) ∙ to-zero (a + 1)
    where
      go : (b : Bool) → carried (note_if b (fill j)) f ≡ 0
      go true = refl
      go false = refl
  seen-sum (Swap j x) p a h = to-ext (a + 1) (λ n. carried (note_if (eqb p n) (trial j x)) f) (λ n. 0) (λ n l. go (eqb p n)) ∙ to-zero (a + 1)
    where
      go : (b : Bool) → carried (note_if b (trial j x)) f ≡ 0
      go true = refl
      go false = refl
  seen-sum (Put y) p a h =
      to-ext (a + 1) (λ n. carried (put_seen (eqb p (n + n)) (eqb p (suc (n + n))) y) f) (λ n. sum_to 2 (λ j. one_at p (hit (f y)) (n * 2 + j))) (λ n l. put-pair p y n)
      ∙ grid (a + 1) 2 (λ m. one_at p (hit (f y)) m) ∙ one-sum p (hit (f y)) ((a + 1) * 2) (omega arith)

  -- ---- a level and those below it: what stands in the places, and what the records carry
  module _ (K : ℕ) (rs : List Stage) (ws : List ℕ) where
    abbrev at : ℕ → ℕ
    at m = inside f (node_in K ws m).places

    -- how many nodes they have
    abbrev cells : ℕ → ℕ → ℕ
    cells zero a = a + 1
    cells (suc k) a = a + 1 + cells k (below a)

    cells-reach : (k a : ℕ) → a + cells k a ≡ reach k a
    cells-reach zero a = refl
    cells-reach (suc k) a = omega (arith, cells-reach k (below a))

    level-sum : (k a i : ℕ) → Ranged k a i rs
        → sum_to (a + 1) (λ n. within f (suc k) (tree_in K (suc k) a i rs ws n)) ≡ sum_to (cells k a) (λ m. at (a + m)) + sum_to k (λ t. carries (stage_at rs (i + t)).due f)
    unfolding sum_to tree_in within note_below
    level-sum zero a i r = omega (arith, to-ext (a + 1) (λ n. at (a + n) + (0 + (0 + 0))) (λ n. at (a + n)) (λ n l. omega arith))
    level-sum (suc k) a i r =
        let q : Stage = stage_at rs i in
        let W : ℕ → ℕ = λ n. within f (suc k) (tree_in K (suc k) (below a) (suc i) rs ws n) in
        let C : ℕ → ℕ = λ n. carried (note_seen q.due q.node n) f in
        let P : ℕ → ℕ = λ n. sum_to 2 (λ j. W (n * 2 + j)) in
        let rows : sum_to (a + 1) (λ n. at (a + n) + (C n + (W (n + n) + W (suc (n + n))))) ≡ sum_to (a + 1) (λ n. at (a + n) + (C n + P n)) =
        to-ext (a + 1) (λ n. at (a + n) + (C n + (W (n + n) + W (suc (n + n))))) (λ n. at (a + n) + (C n + P n)) (λ n l. row W (at (a + n)) (C n) n) in
        let size : (a + 1) * 2 ≡ below a + 1 = omega arith in
        let wide : sum_to ((a + 1) * 2) W ≡ sum_to (below a + 1) W = ap (λ (n : ℕ). sum_to n W) size in
        let deeper : sum_to (cells k (below a)) (λ m. at (a + (a + 1 + m))) ≡ sum_to (cells k (below a)) (λ m. at (below a + m)) =
        to-ext (cells k (below a)) (λ m. at (a + (a + 1 + m))) (λ m. at (below a + m)) (λ m l. ap at (omega arith)) in
        let first : carries (stage_at rs (i + 0)).due f ≡ carries q.due f = ap (λ (t : ℕ). carries (stage_at rs t).due f) (omega arith) in
        let later : sum_to k (λ t. carries (stage_at rs (i + suc t)).due f) ≡ sum_to k (λ t. carries (stage_at rs (suc i + t)).due f) =
        to-ext k (λ t. carries (stage_at rs (i + suc t)).due f) (λ t. carries (stage_at rs (suc i + t)).due f) (λ t l. ap (λ (t : ℕ). carries (stage_at rs t).due f) (omega arith)) in
        omega (
          arith,
          rows,
          to-add (a + 1) (λ n. at (a + n)) (λ n. C n + P n),
          to-add (a + 1) C P,
          seen-sum q.due q.node a r.0,
          grid (a + 1) 2 W,
          wide,
          level-sum k (below a) (suc i) r.1,
          to-append (a + 1) (cells k (below a)) (λ m. at (a + m)),
          deeper,
          first,
          later,
        )
      where
        row : (W : ℕ → ℕ) (b c n : ℕ) → b + (c + (W (n + n) + W (suc (n + n)))) ≡ b + (c + (W (n * 2 + 0) + (W (n * 2 + 1) + 0)))
        row W b c n = let l : W (n + n) ≡ W (n * 2 + 0) = ap W (omega arith) in let r : W (suc (n + n)) ≡ W (n * 2 + 1) = ap W (omega arith) in omega arith

    pub flight-sum : (k : ℕ) → Ranged k 0 0 rs → within f (suc k) (tree_in K (suc k) 0 0 rs ws 0) ≡ remaining K (suc k) (machine rs ws) f
    unfolding stored_count carried_by sum_to
    flight-sum k r =
        let all : cells k 0 ≡ nodes (suc k) = omega (arith, cells-reach k 0, reach-all k) in
        let places : sum_to (cells k 0) (λ m. at (0 + m)) ≡ sum_to (nodes (suc k)) at = to-ext (cells k 0) (λ m. at (0 + m)) at (λ m l. ap at (omega arith)) ∙ ap (λ (n : ℕ). sum_to n at) all in
        let puts : sum_to k (λ t. carries (stage_at rs (0 + t)).due f) ≡ sum_to k (λ t. carries (stage_at rs t).due f) =
        to-ext k (λ t. carries (stage_at rs (0 + t)).due f) (λ t. carries (stage_at rs t).due f) (λ t l. ap (λ (t : ℕ). carries (stage_at rs t).due f) (omega arith)) in
        omega (arith, level-sum k 0 0 r, places, puts)
