-- The cluster heap's size is the calls' own.
use Rattle.laws.specs.Prelude.{Bool, ◌&&◌, ◌*◌, ◌+◌, ◌<◌, ◌∙◌, ◌≡◌, ◌≤◌, ap, arith, cond, eqb, false, le-leb, leb, leb-true, mul-le-mul_right, ne_eqb, not, not-false, not-suc-le-zero, not-true, refl, suc, sym, true, zero, ℕ}
use Rattle.card_words.specs.Sizes.{cluster_words}
use Rattle.cluster_model.proofs.Laws.{shape_is}
use Rattle.cluster_model.specs.Prelude.{Shape, extent, room, shape_ok}
use Rattle.cluster.proofs.Shapes.{extent-nodes, Nodes, nodes-room, room-nodes}
use Rattle.cluster.specs.Coded.{nodes_of}

module _ (K levels : ℕ) where
  -- room for 5,460 places and two counts for each of at most 2,730 nodes
  any : shape_ok K levels 27300 ≡ shape_ok K levels (extent K levels 1)
  unfolding shape_ok
  any = go (leb 2 K) refl (leb (room K levels) 5460) refl
    where
      small : 2 ≤ K → room K levels ≤ 5460 → extent K levels 1 ≤ 27300
      small two most =
          let n : ℕ = nodes_of levels in
          let e : n * (2 + K * 4) ≡ extent K levels 1 = extent-nodes K levels in
          let r : K * n ≡ room K levels = room-nodes K levels in
          let h : 2 * n ≤ K * n = mul-le-mul_right n two in
          omega (arith, e, r, h, most)

      go : (a : Bool) → leb 2 K ≡ a → (b : Bool) → leb (room K levels) 5460 ≡ b
          → (a && (leb K 16 && (leb 1 levels && (b && leb (extent K levels 1) 27300)))) ≡ (a && (leb K 16 && (leb 1 levels && (b && leb (extent K levels 1) (extent K levels 1)))))
      go true p true q =
          rw (le-leb (extent K levels 1) 27300 (small (leb-true 2 K p) (leb-true (room K levels) 5460 q)), le-leb (extent K levels 1) (extent K levels 1) (omega arith)) refl
      go true p false q = refl
      go false p b q = refl

  module _ (ok : Bool) (shape : ok ≡ shape_ok K levels 27300) where
    pub words-none : not ok ≡ true → 0 ≡ cluster_words K levels
    unfolding cluster_words
    words-none e = rw (← any, ← shape, not-true ok e)

    module _ (e : not ok ≡ false) where
      pub words-shape : Shape K levels 27300
      words-shape = shape_is K levels 27300 (sym shape ∙ not-false ok e)

      module _ (n : ℕ) (counted : Nodes levels n) where
        few : nodes_of levels ≤ 5460
        few = omega (arith, nodes-room K levels words-shape.two, words-shape.capacity)

        pub words_are : n * (2 + K * 4) ≡ extent K levels 1
        words_are = ap (λ (i : ℕ). i * (2 + K * 4)) (counted.within few) ∙ extent-nodes K levels

        pub words-most : (n ≤ 5460) × (K ≤ 16) × (n * (2 + K * 4) ≤ 27300)
        words-most = (omega (arith, counted.within few, few), words-shape.sixteen, omega (arith, words_are, words-shape.slice))

        pub words-some : n * (2 + K * 4) ≡ cluster_words K levels
        unfolding cluster_words
        words-some = rw (← any, ← shape, not-false ok e) words_are

-- a heap that is taken has a node at least
some_words : (K levels : ℕ) → 1 ≤ levels → 0 < extent K levels 1
unfolding extent
some_words K zero h = absurd (not-suc-le-zero h)
some_words K (suc k) h = omega arith

-- "A shorter slice is refused": a call takes the shape exactly if the size is not 0 and the slice is as long
pub cluster-size : (K levels len : ℕ) → shape_ok K levels len ≡ (not (eqb (cluster_words K levels) 0) && leb (cluster_words K levels) len)
unfolding cluster_words shape_ok
cluster-size K levels len = go (leb 2 K) (leb K 16) (leb 1 levels) refl (leb (room K levels) 5460)
  where
    x : ℕ
    x = extent K levels 1

    go : (a b c : Bool) → leb 1 levels ≡ c → (d : Bool)
        → (a && (b && (c && (d && leb x len)))) ≡ (not (eqb (cond (a && (b && (c && (d && leb x x)))) x 0) 0) && leb (cond (a && (b && (c && (d && leb x x)))) x 0) len)
    go true true true p true =
        let some : 0 < extent K levels 1 = some_words K levels (leb-true 1 levels p) in
        let more : extent K levels 1 ≡ 0 → ⊥ = λ z. omega arith in
        rw (le-leb (extent K levels 1) (extent K levels 1) (omega arith), ne_eqb (extent K levels 1) 0 more)
    go true true true p false = refl
    go true true false p d = refl
    go true false c p d = refl
    go false b c p d = refl
