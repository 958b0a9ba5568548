-- One scan of a node's places: neat so far, how many are flagged, the first that is not, the lowest, the highest.
use Rattle.std.specs.Prelude.{◌&&◌, ◌*◌, ◌+◌}
use Rattle.laws.specs.Prelude.{Bool, List, cond, element_words, eqb, not, suc, true, zero, ℕ}
use Rattle.cluster_node.specs.declared.Seen.{Seen}
use Rattle.cluster_model.specs.Prelude.{neat_place, place_of, place_words, word}
use Rattle.cluster_node.specs.Scan.{lower_than, high_as}

unfoldable pub is_flagged : List ℕ → ℕ → Bool
is_flagged ws o = not (eqb (word ws (o + element_words)) 0)

abbrev pub no_look : Seen
no_look = record { neat = true; count = 0; free = 0; low = 0; high = 0 }

-- place j, seen after those before it; the places begin at word o
unfoldable pub see_one : List ℕ → ℕ → ℕ → Seen → Seen
see_one ws o j v = record {
  neat = v.neat && neat_place ws (o + j * place_words);
  count = cond (is_flagged ws (o + j * place_words)) (v.count + 1) v.count;
  free = cond (is_flagged ws (o + j * place_words) && eqb v.free j) (j + 1) v.free;
  low = cond (lower_than (place_of ws (o + j * place_words)) (place_of ws (o + v.low * place_words))) j v.low;
  high = cond (high_as (place_of ws (o + j * place_words)) (place_of ws (o + v.high * place_words))) j v.high;
}

unfoldable pub look_to : List ℕ → ℕ → ℕ → Seen
look_to ws o zero = no_look
look_to ws o (suc j) = see_one ws o j (look_to ws o j)

-- what the tests and a take ask of it; the rest is left 0
abbrev pub low_only : Seen → Seen
low_only v = record { neat = v.neat; count = v.count; free = 0; low = v.low; high = 0 }
