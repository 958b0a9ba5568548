-- Calls through C in plain numbers: the number returned, the words left and the words of `out`, with rank, tag and length all different (5, 50, 500). These are
-- definitions; the claim over the rows is in proofs/.
use Rattle.std.specs.Prelude.{◌++◌, ◌∷◌}
use Rattle.laws.specs.Prelude.{List, [], replicate, ℕ}
use Rattle.bucket_model.specs.Prelude.{filled}
use Rattle.card_tree.specs.Fair.{FairAfter, FairAfterOut, fair_held, fair_pop, fair_push, fair_reset, fair_words}
use Rattle.card_tree.specs.Mend.{tree_check, tree_mend}
use Rattle.card_tree.specs.Tree.{tree_clear, tree_held, tree_pop, tree_push, tree_replace}
use Rattle.card_words.specs.Cases.{answer_got, count_got, got, Got, out4, row, Row, sized, store_got}
use Rattle.card_words.specs.Sizes.{tree_words}

-- ---- the tree: order 4, levels 2, 80 words, and one word more
abbrev tree_empty : List ℕ
tree_empty = replicate 80 0 ++ (9 ∷ [])

abbrev tree_five : List ℕ
tree_five = 5 ∷ 50 ∷ 500 ∷ 1 ∷ replicate 76 0 ++ (9 ∷ [])

unfoldable pub tree_rows : List Row
tree_rows =
    row (store_got (tree_clear 4 2 (replicate 81 9))) (got 0 (((80, 9) ∷ []) ∷ []) [])
    ∷ row (store_got (tree_push 4 2 tree_empty 5 50 500)) (got 0 (((0, 5) ∷ (1, 50) ∷ (2, 500) ∷ (3, 1) ∷ (80, 9) ∷ []) ∷ []) [])
    ∷ row (answer_got (tree_replace 4 2 tree_five 3 30 300 out4)) (got 0 (((0, 3) ∷ (1, 30) ∷ (2, 300) ∷ (3, 1) ∷ (80, 9) ∷ []) ∷ []) (5 ∷ 50 ∷ 500 ∷ 6 ∷ []))
    ∷ row (answer_got (tree_pop 4 2 tree_five out4)) (got 0 (((80, 9) ∷ []) ∷ []) (5 ∷ 50 ∷ 500 ∷ 6 ∷ []))
    ∷ row (answer_got (tree_pop 4 2 tree_empty out4)) (got 6 (((80, 9) ∷ []) ∷ []) (0 ∷ 0 ∷ 0 ∷ 6 ∷ []))
    ∷ row (answer_got (tree_pop 4 2 tree_five (9 ∷ 8 ∷ []))) (got 1 (((0, 5) ∷ (1, 50) ∷ (2, 500) ∷ (3, 1) ∷ (80, 9) ∷ []) ∷ []) (9 ∷ 8 ∷ []))
    ∷ row (count_got (tree_held 4 2 tree_five out4)) (got 0 [] (1 ∷ 8 ∷ 7 ∷ 6 ∷ []))
    ∷ row (store_got (tree_push 4 2 tree_empty 5 0 500)) (got 7 (((80, 9) ∷ []) ∷ []) [])
    ∷ []

-- check and mend: order 4, levels 1, 16 words. The second store is sound but for slot 2, an empty one with a rank; of the third slot 1 has tag 0
unfoldable pub mend_rows : List Row
mend_rows =
    row (count_got (tree_check 4 1 (5 ∷ 50 ∷ 500 ∷ 1 ∷ replicate 12 0) out4)) (got 0 [] (1 ∷ 0 ∷ 7 ∷ 6 ∷ []))
    ∷ row (count_got (tree_check 4 1 (5 ∷ 50 ∷ 500 ∷ 1 ∷ 0 ∷ 0 ∷ 0 ∷ 0 ∷ 7 ∷ replicate 7 0) out4)) (got 0 [] (0 ∷ 2 ∷ 7 ∷ 6 ∷ []))
    ∷ row (answer_got (tree_mend 4 1 (5 ∷ 50 ∷ 500 ∷ 1 ∷ 7 ∷ 0 ∷ 700 ∷ 1 ∷ replicate 8 0) (replicate 17 9) out4)) (got 0 (((0, 5) ∷ (1, 50) ∷ (2, 500) ∷ (3, 1) ∷ (16, 9) ∷ []) ∷ []) (1 ∷ 8 ∷ 7 ∷ 6 ∷ []))
    ∷ []

-- ---- ranks from weights: order 4, levels 1, 16 words; a state of 65 words, and one word more. Flow 5, weight 16: 500 bytes are 8 cells of step 4,096
abbrev pub fair_got : FairAfter → Got
fair_got o = got o.number (filled 0 o.state ∷ filled 0 o.store ∷ []) []

abbrev pub fair_out_got : FairAfterOut → Got
fair_out_got o = got o.number (filled 0 o.state ∷ filled 0 o.store ∷ []) o.out

abbrev state_zero : List ℕ
state_zero = replicate 65 0 ++ (9 ∷ [])

abbrev state_five : List ℕ
state_five = replicate 6 0 ++ (32768 ∷ replicate 58 0) ++ (9 ∷ [])

abbrev store_fair : List ℕ
store_fair = 32768 ∷ 50 ∷ 500 ∷ 1 ∷ replicate 12 0

unfoldable pub fair_rows : List Row
fair_rows =
    row (fair_got (fair_reset 4 1 (replicate 66 9) (replicate 16 0))) (got 0 (((65, 9) ∷ []) ∷ [] ∷ []) [])
    ∷ row (fair_got (fair_push 4 1 state_zero (replicate 16 0) 5 16 50 500)) (got 0 (((6, 32768) ∷ (65, 9) ∷ []) ∷ ((0, 32768) ∷ (1, 50) ∷ (2, 500) ∷ (3, 1) ∷ []) ∷ []) [])
    ∷ row (fair_out_got (fair_pop 4 1 state_five store_fair out4)) (got 0 (((0, 32768) ∷ (6, 32768) ∷ (65, 9) ∷ []) ∷ [] ∷ []) (32768 ∷ 50 ∷ 500 ∷ 6 ∷ []))
    ∷ row (fair_got (fair_reset 4 1 state_five store_fair)) (got 11 (((6, 32768) ∷ (65, 9) ∷ []) ∷ ((0, 32768) ∷ (1, 50) ∷ (2, 500) ∷ (3, 1) ∷ []) ∷ []) [])
    ∷ row (fair_got (fair_push 4 1 state_zero (replicate 16 0) 64 16 50 500)) (got 9 (((65, 9) ∷ []) ∷ [] ∷ []) [])
    ∷ row (count_got (fair_held 4 1 store_fair out4)) (got 0 [] (1 ∷ 8 ∷ 7 ∷ 6 ∷ []))
    ∷ []

-- ---- sizes: a shape's words, and 0 for a bad one
unfoldable pub size_rows : List Row
size_rows = sized (tree_words 4 2) 80 ∷ sized (tree_words 3 2) 0 ∷ sized fair_words 65 ∷ []
