-- What a call's tests have found makes its outcome.
use Rattle.laws.specs.Prelude.{BadShape, Bool, Damaged, Element, Empty, List, ◌&&◌, ◌*◌, ◌++◌, ◌+◌, ◌-◌, ◌<◌, ◌||◌, ◌∙◌, ◌≡◌, ◌≤◌, ap, ap₂, arith, drop, eq-eqb, false, false≢true, leb, leb-true, length, ne_eqb, not, not-false, not-true, refl, replicate, subst, suc, sym, true, zero, ℕ, Ok, Err, None, Some}
use Rattle.cluster_node.specs.declared.Seen.{Seen}
use Rattle.cluster_model.specs.Prelude.{Outcome, cleared, extent, outcome, room, shape_ok, width, wipe, word}
use Rattle.cluster.specs.Coded.{held_by, opened_to, held_down, pop_down, replace_down}
use Rattle.cluster_node.specs.Seeing.{low_only}
use Rattle.cluster_node.specs.Leaf.{elem_at, bare_at, ok_by, look_node, place_in, Here}
use Rattle.cluster.specs.Down.{went, take_down, swap_down, PutReady, TakeReady, TakeMeets, SwapMeets}
use Rattle.cluster_node.proofs.Looks.{within, low-lt}
use Rattle.cluster.proofs.Downs.{lies-here}
use Rattle.cluster.proofs.Shapes.{Nodes, shape-true, shape-here, nodes-here, root-lies, extent-nodes}

room-suc : (K k : ℕ) → room K k ≤ room K (suc k)
unfolding room
room-suc K k = omega arith

room-pred : (K levels : ℕ) → room K (levels - 1) ≤ room K levels
room-pred K zero = let e : 0 - 1 ≡ 0 = omega arith in subst (λ (j : ℕ). room K j ≤ room K zero) (sym e) (omega arith)
room-pred K (suc k) = let e : suc k - 1 ≡ k = omega arith in subst (λ (j : ℕ). room K j ≤ room K (suc k)) (sym e) (room-suc K k)

-- a node in order has its counts within the limit
pub ok-counts : (K limit : ℕ) (ws : List ℕ) (o : ℕ) (v : Seen) → ok_by K limit ws o v ≡ true → (word ws o ≤ limit) × (word ws (o + 1) ≤ limit)
unfolding ok_by
ok-counts K limit ws o v e = go v.neat (leb (word ws o) limit) refl (leb (word ws (o + 1)) limit) refl e
  where
    go : (a b : Bool) → leb (word ws o) limit ≡ b → (d : Bool) → leb (word ws (o + 1)) limit ≡ d → (a && (b && (d && (bare_at ws o || leb K v.count)))) ≡ true → (word ws o ≤ limit) × (word ws (o + 1) ≤ limit)
    go true true p true q e = (leb-true (word ws o) limit p, leb-true (word ws (o + 1)) limit q)
    go true true p false q e = absurd (false≢true e)
    go true false p d q e = absurd (false≢true e)
    go false b p d q e = absurd (false≢true e)

pub bad-shape : (K levels : ℕ) (ws : List ℕ) (o : Outcome) (t : Bool) → t ≡ shape_ok K levels (length ws) → not t ≡ true → outcome (Err BadShape) ws ≡ opened_to K levels ws o
unfolding opened_to
bad-shape K levels ws o t e p = rw (← e, not-true t p) refl

pub held-shape : (K levels : ℕ) (ws : List ℕ) (t : Bool) → t ≡ shape_ok K levels (length ws) → not t ≡ true → Err BadShape ≡ held_down K levels ws
unfolding held_down
held-shape K levels ws t e p = rw (← e, not-true t p) refl

module _ (K levels : ℕ) (ws : List ℕ) (t : Bool) (shaped : t ≡ shape_ok K levels (length ws)) (yes : not t ≡ false) where
  pub root-here : Here K 0 (length ws)
  root-here = lies-here K (levels - 1) 0 (length ws) (root-lies K levels ws t shaped yes)

  pub look-count : (v : Seen) → v ≡ low_only (look_node K ws 0) → v.count ≤ 16
  unfolding look_node
  look-count v e = let h = (within ws (0 * width K + 2) K).count in omega (arith, ap (λ (u : Seen). u.count) e, h, root-here.few)

  pub look-low : (v : Seen) → v ≡ low_only (look_node K ws 0) → v.low < K
  unfolding look_node
  look-low v e = subst (λ (u : Seen). u.low < K) (sym e) (low-lt ws (0 * width K + 2) K (omega (arith, root-here.some)))

  limit-small : (limit : ℕ) → limit ≡ room K (levels - 1) → limit ≤ 5460
  limit-small limit most = omega (arith, most, room-pred K levels, (shape-here K levels ws t shaped yes).capacity)

  -- the root begins at word 0
  root-begins : 0 ≡ 0 * width K
  root-begins = omega arith

  pub put-ready : (limit : ℕ) → limit ≡ room K (levels - 1) → PutReady K (levels - 1) 0 limit ws
  put-ready limit most = record { node = 0; begins = root-begins; lies = root-lies K levels ws t shaped yes; small = limit-small limit most }

  module _ (limit : ℕ) (most : limit ≡ room K (levels - 1)) (v : Seen) (seen : v ≡ low_only (look_node K ws 0)) (u : Bool) (tested : u ≡ ok_by K limit ws (0 * width K) v) where
    tested-as : u ≡ ok_by K (room K (levels - 1)) ws (0 * width K) (look_node K ws 0)
    unfolding ok_by
    tested-as = tested ∙ ap₂ (λ (l : ℕ) (v : Seen). ok_by K l ws (0 * width K) v) most seen

    pub bad-root : (o : Outcome) → not u ≡ true → outcome (Err Damaged) ws ≡ opened_to K levels ws o
    unfolding opened_to
    bad-root o p = rw (shape-true K levels ws t shaped yes, ← tested-as, not-true u p) refl

    pub held-root : not u ≡ true → Err Damaged ≡ held_down K levels ws
    unfolding held_down
    held-root p = rw (shape-true K levels ws t shaped yes, ← tested-as, not-true u p) refl

    module _ (fine : not u ≡ false) where
      good : (o : Outcome) → o ≡ opened_to K levels ws o
      unfolding opened_to
      good o = rw (shape-true K levels ws t shaped yes, ← tested-as, not-false u fine) refl

      pub held_small : (h : ℕ) → h ≡ held_by K ws v → h < 4294967296
      unfolding held_by
      held_small h e = let c = ok-counts K limit ws (0 * width K) v (sym tested ∙ not-false u fine) in omega (arith, e, c.0, c.1, limit-small limit most, look-count v seen)

      pub held-done : (h : ℕ) → h ≡ held_by K ws v → Ok h ≡ held_down K levels ws
      unfolding held_down held_by
      held-done h e =
          let w : h ≡ held_by K ws (look_node K ws 0) = e ∙ ap (held_by K ws) seen in
          rw (shape-true K levels ws t shaped yes, ← tested-as, not-false u fine, w) refl

      pub take-ready : TakeReady K (levels - 1) 0 v.low ws
      take-ready = record { node = 0; begins = root-begins; lies = root-lies K levels ws t shaped yes; place = look-low v seen }

      module _ (h : ℕ) (counted : h ≡ held_by K ws v) where
        counted-as : h ≡ held_by K ws (look_node K ws 0)
        unfolding held_by
        counted-as = counted ∙ ap (held_by K ws) seen

        pub pop-empty : h ≡ 0 → outcome (Err Empty) ws ≡ pop_down K levels ws
        unfolding pop_down
        pop-empty e = rw (← counted-as, eq-eqb h 0 e) (good (outcome (Err Empty) ws))

        pub replace-empty : (x : Element) → h ≡ 0 → outcome (Err Empty) ws ≡ replace_down K levels x ws
        unfolding replace_down
        replace-empty x e = rw (← counted-as, eq-eqb h 0 e) (good (outcome (Err Empty) ws))

        module _ (some : h ≡ 0 → ⊥) (e : Element) (lowest : e ≡ elem_at ws (place_in K 0 v.low)) where
          lowest-as : e ≡ elem_at ws (place_in K 0 (look_node K ws 0).low)
          lowest-as = lowest ∙ ap (λ (v : Seen). elem_at ws (place_in K 0 v.low)) seen

          module _ (g : Bool) (q : List ℕ) (done : TakeMeets K (levels - 1) 0 limit v.low ws g q) where
            take-as : went g q ≡ take_down K (levels - 1) 0 (room K (levels - 1)) (look_node K ws 0).low ws
            take-as = done 0 root-begins ∙ ap₂ (λ (l : ℕ) (v : Seen). take_down K (levels - 1) 0 l v.low ws) most seen

            pub pop-stop : not g ≡ true → outcome (Err Damaged) q ≡ pop_down K levels ws
            unfolding pop_down
            pop-stop p = rw (← counted-as, ne_eqb h 0 some, ← take-as, not-true g p) (good (outcome (Err Damaged) q))

            pub pop-done : not g ≡ false → outcome (Ok (Some e)) q ≡ pop_down K levels ws
            unfolding pop_down
            pop-done p = rw (← counted-as, ne_eqb h 0 some, ← take-as, not-false g p, ← lowest-as) (good (outcome (Ok (Some e)) q))

          module _ (x : Element) (g : Bool) (q : List ℕ) (done : SwapMeets K (levels - 1) 0 limit v.low x ws g q) where
            swap-as : went g q ≡ swap_down K (levels - 1) 0 (room K (levels - 1)) (look_node K ws 0).low x ws
            swap-as = done 0 root-begins ∙ ap₂ (λ (l : ℕ) (v : Seen). swap_down K (levels - 1) 0 l v.low x ws) most seen

            pub replace-stop : not g ≡ true → outcome (Err Damaged) q ≡ replace_down K levels x ws
            unfolding replace_down
            replace-stop p = rw (← counted-as, ne_eqb h 0 some, ← swap-as, not-true g p) (good (outcome (Err Damaged) q))

            pub replace-done : not g ≡ false → outcome (Ok (Some e)) q ≡ replace_down K levels x ws
            unfolding replace_down
            replace-done p = rw (← counted-as, ne_eqb h 0 some, ← swap-as, not-false g p, ← lowest-as) (good (outcome (Ok (Some e)) q))

-- ---- clear
pub clear-shape : (K levels : ℕ) (ws : List ℕ) (t : Bool) → t ≡ shape_ok K levels (length ws) → not t ≡ true → outcome (Err BadShape) ws ≡ cleared K levels ws
unfolding cleared
clear-shape K levels ws t e p = rw (← e, not-true t p) refl

module _ (K levels : ℕ) (ws : List ℕ) (t : Bool) (shaped : t ≡ shape_ok K levels (length ws)) (yes : not t ≡ false) (n : ℕ) (counted : Nodes levels n) where
  pub clear-words : n * width K ≡ extent K levels 1
  clear-words = ap (λ (i : ℕ). i * width K) (counted.within (nodes-here K levels ws t shaped yes)) ∙ extent-nodes K levels

  pub clear-fits : n * width K ≤ length ws
  clear-fits = omega (arith, clear-words, (shape-here K levels ws t shaped yes).slice)

  pub clear-done : (q : List ℕ) → q ≡ replicate (n * width K) 0 ++ drop (n * width K) ws → outcome (Ok None) q ≡ cleared K levels ws
  unfolding cleared wipe
  clear-done q e = rw (shape-true K levels ws t shaped yes) (ap (outcome (Ok None)) (e ∙ ap (λ (i : ℕ). replicate i 0 ++ drop i ws) clear-words))
