-- What is read of the root makes the ruling on a request.
use Rattle.laws.specs.Prelude.{Element, Empty, Full, List, NoTag, Pop, Push, Replace, ◌<◌, ◌∙◌, ◌≡◌, ◌≤◌, arith, eq-eqb, false, le-ltb, lt-ltb, ne_eqb, sym, true, untagged, ℕ, Ok, None, Some, Err}
use Rattle.tree_node.specs.Room.{Capacity}
use Rattle.tree_model.specs.Prelude.{low, room, root_of, rule, rule_at, ruling, slot_limit, sum_counts}
use Rattle.tree_model.specs.declared.Op.TheVariants.{Nothing, Put, Swap, Take}

-- an element without a tag, whatever is held
module _ (m levels : ℕ) (ws : List ℕ) (x : Element) (none : untagged x ≡ true) where
  pub push-untagged : rule_at m levels (Push x) ws ≡ ruling (Err NoTag) Nothing
  unfolding rule
  push-untagged = rw none

  pub replace-untagged : rule_at m levels (Replace x) ws ≡ ruling (Err NoTag) Nothing
  unfolding rule
  replace-untagged = rw none

module _ (m levels : ℕ) (ws : List ℕ) (sum : ℕ) (summed : sum ≡ sum_counts (root_of m ws)) where
  module _ (x : Element) (tag : untagged x ≡ false) (cap : ℕ) (held_count : Capacity m levels cap) (within : room m levels ≤ slot_limit) where
    pub push-full : cap ≤ sum → rule_at m levels (Push x) ws ≡ ruling (Err Full) Nothing
    unfolding rule
    push-full h = rw (tag, le-ltb (sum_counts (root_of m ws)) (room m levels) (omega (arith, held_count.within within)))

    pub push-puts : sum < cap → rule_at m levels (Push x) ws ≡ ruling (Ok None) (Put x)
    unfolding rule
    push-puts h = rw (tag, lt-ltb (sum_counts (root_of m ws)) (room m levels) (omega (arith, held_count.within within)))

  pub pop-empty : sum ≡ 0 → rule_at m levels Pop ws ≡ ruling (Err Empty) Nothing
  unfolding rule
  pop-empty z = rw (eq-eqb (sum_counts (root_of m ws)) 0 (sym summed ∙ z))

  pub replace-empty : (x : Element) → untagged x ≡ false → sum ≡ 0 → rule_at m levels (Replace x) ws ≡ ruling (Err Empty) Nothing
  unfolding rule
  replace-empty x tag z = rw (tag, eq-eqb (sum_counts (root_of m ws)) 0 (sym summed ∙ z))

  module _ (more : sum ≡ 0 → ⊥) (least : Element) (is-low : least ≡ low (root_of m ws)) where
    pub pop-takes : rule_at m levels Pop ws ≡ ruling (Ok (Some least)) Take
    unfolding rule
    pop-takes = rw (ne_eqb (sum_counts (root_of m ws)) 0 (λ z. more (summed ∙ z)), ← is-low)

    pub replace-swaps : (x : Element) → untagged x ≡ false → rule_at m levels (Replace x) ws ≡ ruling (Ok (Some least)) (Swap x)
    unfolding rule
    replace-swaps x tag = rw (tag, ne_eqb (sum_counts (root_of m ws)) 0 (λ z. more (summed ∙ z)), ← is-low)
