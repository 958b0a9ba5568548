-- Worked stores of order 2, levels 2: store A of 01, stores broken in each of 02's ways, and what the mender makes of one.
use Rattle.std.specs.Prelude.{◌∷◌, ◌≡◌}
use Rattle.laws.specs.Prelude.{List, [], replicate, ℕ}
use Rattle.tree_mend_model.specs.Check.{checked, check_number, check_slot, check_yes, descended, bare_yes}
use Rattle.tree_mend_model.specs.Mend.{mended, mend_number, mend_skipped}

-- slots of rank, tag, length and count, as words
abbrev pub slots_of : List (ℕ × ℕ × ℕ × ℕ) → List ℕ
slots_of [] = []
slots_of (s ∷ ss) = s.0 ∷ s.1 ∷ s.2 ∷ s.3 ∷ slots_of ss

-- a row: order, levels and the slots; and in 01's numbers what the check says (the refusal's number, 1 for yes, the slot that is named)
pub record Row : Type 0 where
  pub order : ℕ
  pub levels : ℕ
  pub slots : List (ℕ × ℕ × ℕ × ℕ)
  pub says : ℕ × ℕ × ℕ

abbrev row : ℕ → ℕ → List (ℕ × ℕ × ℕ × ℕ) → ℕ × ℕ × ℕ → Row
row m l ss says = record { order = m; levels = l; slots = ss; says = says }

abbrev pub Right : Row → Type 0
Right r =
    let c = checked r.order r.levels (slots_of r.slots) in
    ((check_number c, check_yes c, check_slot c) ≡ r.says) × (bare_yes (descended r.order r.levels (slots_of r.slots)) ≡ check_yes c)

unfoldable pub table : List Row
table =
    -- store A
    row 2 2 ((5, 50, 0, 2) ∷ (1, 10, 0, 2) ∷ (8, 80, 0, 1) ∷ (0, 0, 0, 0) ∷ (3, 30, 0, 1) ∷ (0, 0, 0, 0) ∷ []) (0, 1, 0)
    -- a count one too high; at the last level
    ∷ row 2 2 ((5, 50, 0, 3) ∷ (1, 10, 0, 2) ∷ (8, 80, 0, 1) ∷ (0, 0, 0, 0) ∷ (3, 30, 0, 1) ∷ (0, 0, 0, 0) ∷ []) (0, 0, 0)
    ∷ row 2 2 ((5, 50, 0, 2) ∷ (1, 10, 0, 3) ∷ (8, 80, 0, 1) ∷ (0, 0, 0, 0) ∷ (3, 30, 0, 2) ∷ (0, 0, 0, 0) ∷ []) (0, 0, 4)
    -- two counts of 2^31 under a count of 1: the sum does not wrap
    ∷ row 2 2 ((5, 50, 0, 1) ∷ (0, 0, 0, 0) ∷ (8, 80, 0, 2147483648) ∷ (9, 90, 0, 2147483648) ∷ (0, 0, 0, 0) ∷ (0, 0, 0, 0) ∷ []) (0, 0, 0)
    -- a rank below that of the slot above it; an equal one is in order
    ∷ row 2 2 ((5, 50, 0, 2) ∷ (1, 10, 0, 2) ∷ (8, 80, 0, 1) ∷ (0, 0, 0, 0) ∷ (0, 30, 0, 1) ∷ (0, 0, 0, 0) ∷ []) (0, 0, 4)
    ∷ row 2 2 ((5, 50, 0, 2) ∷ (1, 10, 0, 2) ∷ (8, 80, 0, 1) ∷ (0, 0, 0, 0) ∷ (1, 30, 0, 1) ∷ (0, 0, 0, 0) ∷ []) (0, 1, 0)
    -- count 0 and another word not 0: a length, a tag, a rank; of two broken slots the first is named
    ∷ row 2 2 ((5, 50, 0, 2) ∷ (1, 10, 0, 2) ∷ (8, 80, 0, 1) ∷ (0, 0, 0, 0) ∷ (3, 30, 0, 1) ∷ (0, 0, 7, 0) ∷ []) (0, 0, 5)
    ∷ row 2 2 ((5, 50, 0, 2) ∷ (1, 10, 0, 2) ∷ (8, 80, 0, 1) ∷ (0, 0, 0, 0) ∷ (3, 30, 0, 1) ∷ (0, 7, 0, 0) ∷ []) (0, 0, 5)
    ∷ row 2 2 ((5, 50, 0, 2) ∷ (1, 10, 0, 2) ∷ (8, 80, 0, 1) ∷ (7, 0, 0, 0) ∷ (3, 30, 0, 1) ∷ (0, 7, 0, 0) ∷ []) (0, 0, 3)
    -- count 0 and a count under it not 0
    ∷ row 2 2 ((5, 50, 0, 2) ∷ (0, 0, 0, 0) ∷ (8, 80, 0, 1) ∷ (0, 0, 0, 0) ∷ (3, 30, 0, 1) ∷ (0, 0, 0, 0) ∷ []) (0, 0, 1)
    -- no tag: the check does not look at it
    ∷ row 2 2 ((5, 0, 0, 2) ∷ (1, 10, 0, 2) ∷ (8, 80, 0, 1) ∷ (0, 0, 0, 0) ∷ (3, 30, 0, 1) ∷ (0, 0, 0, 0) ∷ []) (0, 1, 0)
    -- refusal 1: the order, the levels, a slice too short
    ∷ row 3 2 ((5, 50, 0, 1) ∷ (0, 0, 0, 0) ∷ (0, 0, 0, 0) ∷ (0, 0, 0, 0) ∷ (0, 0, 0, 0) ∷ (0, 0, 0, 0) ∷ []) (1, 0, 0)
    ∷ row 2 0 ((5, 50, 0, 1) ∷ (0, 0, 0, 0) ∷ (0, 0, 0, 0) ∷ (0, 0, 0, 0) ∷ (0, 0, 0, 0) ∷ (0, 0, 0, 0) ∷ []) (1, 0, 0)
    ∷ row 2 2 ((5, 50, 0, 1) ∷ (0, 0, 0, 0) ∷ (0, 0, 0, 0) ∷ (0, 0, 0, 0) ∷ (0, 0, 0, 0) ∷ []) (1, 0, 0)
    ∷ []

-- the mender: counts that fit nothing, one slot without a tag, a rank below that above it and one under an empty slot
abbrev pub spoilt : List (ℕ × ℕ × ℕ × ℕ)
spoilt = (5, 50, 500, 7) ∷ (0, 0, 0, 0) ∷ (8, 0, 800, 4) ∷ (2, 20, 200, 9) ∷ (3, 30, 300, 1) ∷ (0, 9, 0, 0) ∷ []

-- what it leaves of a slice of nines, and what it answers
abbrev pub mend_case : List ℕ × ℕ × ℕ
mend_case =
    let o = mended 2 2 (slots_of spoilt) (replicate 26 9) in
    (o.words, mend_number o.answer, mend_skipped o.answer)

-- two elements that are kept, order 4: in slice order 5/50/500 comes first and gets the first slot. In the case above the other order would make the same words
abbrev pub mend_two : List ℕ × ℕ × ℕ
mend_two =
    let o = mended 4 1 (slots_of ((0, 7, 0, 0) ∷ (5, 50, 500, 3) ∷ (8, 0, 800, 1) ∷ (3, 30, 300, 1) ∷ [])) (replicate 16 9) in
    (o.words, mend_number o.answer, mend_skipped o.answer)
