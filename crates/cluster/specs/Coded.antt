-- The calls in the code's own shape.
use Rattle.std.specs.Prelude.{◌*◌, ◌+◌, ◌-◌, ◌≡◌}
use Rattle.laws.specs.Prelude.{Answer, BadShape, Bool, Damaged, Element, Empty, Full, List, Push, Replace, cond, eqb, length, ltb, suc, true, untagged, zero, ℕ, Result, Refusal, Ok, Err, None, Some}
use Rattle.cluster_node.specs.declared.Seen.{Seen}
use Rattle.cluster_model.specs.Prelude.{Outcome, called, outcome, room, shape_ok, width, word}
use Rattle.cluster_node.specs.Leaf.{elem_at, ok_by, look_node, place_in}
use Rattle.cluster.specs.Down.{Went, put_down, take_down, swap_down}

-- 2^k − 1
unfoldable pub nodes_of : ℕ → ℕ
nodes_of zero = 0
nodes_of (suc k) = nodes_of k + nodes_of k + 1

-- .. and 2^13 − 1 where there are more levels than any shape has
unfoldable pub few_nodes : ℕ → ℕ
few_nodes levels = cond (ltb 12 levels) 8191 (nodes_of levels)

unfoldable pub held_by : ℕ → List ℕ → Seen → ℕ
held_by K ws v = v.count + (word ws (0 * width K) + word ws (0 * width K + 1))

abbrev pub went_to : Answer → Went → Outcome
went_to a g = cond g.ok (outcome a g.words) (outcome (Err Damaged) g.words)

module _ (K levels : ℕ) where
  abbrev pub limit_of : ℕ
  limit_of = room K (levels - 1)

  abbrev pub root_fine : List ℕ → Bool
  root_fine ws = ok_by K limit_of ws (0 * width K) (look_node K ws 0)

  -- shape and root, then what the request comes to
  unfoldable pub opened_to : List ℕ → Outcome → Outcome
  opened_to ws o = cond (shape_ok K levels (length ws)) (cond (root_fine ws) o (outcome (Err Damaged) ws)) (outcome (Err BadShape) ws)

  unfoldable pub held_down : List ℕ → Result ℕ Refusal
  held_down ws = cond (shape_ok K levels (length ws)) (cond (root_fine ws) (Ok (held_by K ws (look_node K ws 0))) (Err Damaged)) (Err BadShape)

  -- of an element that has a tag
  unfoldable pub push_down : Element → List ℕ → Outcome
  push_down x ws =
      opened_to ws (cond (eqb (held_by K ws (look_node K ws 0)) (room K levels)) (outcome (Err Full) ws) (went_to (Ok None) (put_down K (levels - 1) 0 limit_of (look_node K ws 0) x ws)))

  unfoldable pub pop_down : List ℕ → Outcome
  pop_down ws = opened_to ws (cond (eqb (held_by K ws (look_node K ws 0)) 0) (outcome (Err Empty) ws)
      (went_to (Ok (Some (elem_at ws (place_in K 0 (look_node K ws 0).low)))) (take_down K (levels - 1) 0 limit_of (look_node K ws 0).low ws)))

  unfoldable pub replace_down : Element → List ℕ → Outcome
  replace_down x ws = opened_to ws (cond (eqb (held_by K ws (look_node K ws 0)) 0) (outcome (Err Empty) ws)
      (went_to (Ok (Some (elem_at ws (place_in K 0 (look_node K ws 0).low)))) (swap_down K (levels - 1) 0 limit_of (look_node K ws 0).low x ws)))

-- the answer of a push and of a replace of any element without a tag; every word stands
abbrev pub Bars : ℕ → ℕ → List ℕ → Answer → Type 0
Bars K levels ws a = (x : Element) → untagged x ≡ true → (outcome a ws ≡ called K levels (Push x) ws) × (outcome a ws ≡ called K levels (Replace x) ws)
