-- A node all of whose flags are 1 is scanned without a look at what is empty: the best number so far is kept, not its place's words read again.
use Rattle.std.specs.Prelude.{◌&&◌, ◌*◌, ◌+◌}
use Rattle.laws.specs.Prelude.{Bool, List, cond, element_in, element_words, eqb, leb, ltb, suc, true, turn, zero, ℕ}
use Rattle.cluster_node.specs.declared.Lead.{Lead}
use Rattle.cluster_model.specs.Prelude.{place_words, word}

-- are the flags of the first so many places 1?
unfoldable pub full_to : List ℕ → ℕ → ℕ → Bool
full_to ws o zero = true
full_to ws o (suc j) = full_to ws o j && eqb (word ws (o + j * place_words + element_words)) 1

-- rank and tag of the place at word i as one number
unfoldable pub turn_at : List ℕ → ℕ → ℕ
turn_at ws i = turn (element_in ws i)

-- the place whose number is the best of the first so many
unfoldable pub best_to : (ℕ → ℕ → Bool) → (ℕ → ℕ) → ℕ → ℕ
best_to better f zero = 0
best_to better f (suc j) = cond (better (f j) (f (best_to better f j))) j (best_to better f j)

-- the first place of the lowest turn, and the last of the highest rank
abbrev pub turns : List ℕ → ℕ → ℕ → ℕ
turns ws o j = turn_at ws (o + j * place_words)

abbrev pub ranks : List ℕ → ℕ → ℕ → ℕ
ranks ws o j = word ws (o + j * place_words)

abbrev pub is_high : ℕ → ℕ → Bool
is_high a b = leb b a

abbrev pub low_to : List ℕ → ℕ → ℕ → ℕ
low_to ws o n = best_to ltb (turns ws o) n

abbrev pub high_to : List ℕ → ℕ → ℕ → ℕ
high_to ws o n = best_to is_high (ranks ws o) n

abbrev pub low_lead : List ℕ → ℕ → ℕ → Lead
low_lead ws o n = record { full = full_to ws o n; place = low_to ws o n; best = turn_at ws (o + low_to ws o n * place_words) }

abbrev pub high_lead : List ℕ → ℕ → ℕ → Lead
high_lead ws o n = record { full = full_to ws o n; place = high_to ws o n; best = word ws (o + high_to ws o n * place_words) }
