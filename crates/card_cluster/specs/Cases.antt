-- Calls through C in plain numbers: the number returned, the words left and the words of `out`, with rank, tag and length all different (5, 50, 500). These are
-- definitions; the claim over the rows is in proofs/.
use Rattle.std.specs.Prelude.{◌++◌, ◌∷◌}
use Rattle.laws.specs.Prelude.{List, [], replicate, ℕ}
use Rattle.bucket_model.specs.Prelude.{filled}
use Rattle.card_cluster.specs.ClockedCluster.{ClockedClusterAfter, ClockedClusterAfterOut, clocked_cluster_clear, clocked_cluster_cycle, clocked_cluster_drain, clocked_cluster_held}
use Rattle.card_cluster.specs.Cluster.{cluster_clear, cluster_held, cluster_pop, cluster_push, cluster_replace}
use Rattle.card_words.specs.Cases.{answer_got, count_got, got, Got, out4, row, Row, sized, store_got}
use Rattle.card_words.specs.Sizes.{cluster_words}
use Rattle.cluster_records.specs.Lent.{ClusterRecord}

-- ---- the cluster heap: 3 places, levels 2, 42 words, and one word more
abbrev cluster_empty : List ℕ
cluster_empty = replicate 42 0 ++ (9 ∷ [])

abbrev cluster_five : List ℕ
cluster_five = 0 ∷ 0 ∷ 5 ∷ 50 ∷ 500 ∷ 1 ∷ replicate 36 0 ++ (9 ∷ [])

unfoldable pub cluster_rows : List Row
cluster_rows =
    row (store_got (cluster_clear 3 2 (replicate 43 9))) (got 0 (((42, 9) ∷ []) ∷ []) [])
    ∷ row (store_got (cluster_push 3 2 cluster_empty 5 50 500)) (got 0 (((2, 5) ∷ (3, 50) ∷ (4, 500) ∷ (5, 1) ∷ (42, 9) ∷ []) ∷ []) [])
    ∷ row (answer_got (cluster_replace 3 2 cluster_five 3 30 300 out4)) (got 0 (((2, 3) ∷ (3, 30) ∷ (4, 300) ∷ (5, 1) ∷ (42, 9) ∷ []) ∷ []) (5 ∷ 50 ∷ 500 ∷ 6 ∷ []))
    ∷ row (answer_got (cluster_pop 3 2 cluster_five out4)) (got 0 (((42, 9) ∷ []) ∷ []) (5 ∷ 50 ∷ 500 ∷ 6 ∷ []))
    ∷ row (count_got (cluster_held 3 2 cluster_five out4)) (got 0 [] (1 ∷ 8 ∷ 7 ∷ 6 ∷ []))
    ∷ []

-- ---- the clocked cluster heap: 3 places, levels 2, 42 words; two records, of which the second is past the shape
-- records one after the other, six numbers each
unfoldable pub sixes : List ClusterRecord → List ℕ
sixes [] = []
sixes (r ∷ rs) = r ++ sixes rs

abbrev pub stages_got : ClockedClusterAfter → Got
stages_got o = got o.number (filled 0 o.store ∷ filled 0 (sixes o.records) ∷ []) []

abbrev pub stages_out_got : ClockedClusterAfterOut → Got
stages_out_got o = got o.number (filled 0 o.store ∷ filled 0 (sixes o.records) ∷ []) o.out

abbrev six_nines : ClusterRecord
six_nines = 9 ∷ 9 ∷ 9 ∷ 9 ∷ 9 ∷ 9 ∷ []

abbrev nothing : ClusterRecord
nothing = 0 ∷ 0 ∷ 0 ∷ 0 ∷ 0 ∷ 0 ∷ []

-- the root full, 3/30/300, 2/20/200 and 4/40/400, and 6/60/600 in the left child
abbrev full_node : ℕ → List ℕ
full_node right =
    1 ∷ right ∷ 3 ∷ 30 ∷ 300 ∷ 1 ∷ 2 ∷ 20 ∷ 200 ∷ 1 ∷ 4 ∷ 40 ∷ 400 ∷ 1
    ∷ 0 ∷ 0 ∷ 6 ∷ 60 ∷ 600 ∷ 1 ∷ replicate 22 0

abbrev pub beyond_six : List (ℕ × ℕ)
beyond_six = (6, 9) ∷ (7, 9) ∷ (8, 9) ∷ (9, 9) ∷ (10, 9) ∷ (11, 9) ∷ []

abbrev lower_part : List (ℕ × ℕ)
lower_part = (10, 4) ∷ (11, 40) ∷ (12, 400) ∷ (13, 1) ∷ (16, 6) ∷ (17, 60) ∷ (18, 600) ∷ (19, 1) ∷ []

abbrev with_second : List (ℕ × ℕ)
with_second = (2, 3) ∷ (3, 30) ∷ (4, 300) ∷ (5, 1) ∷ (6, 2) ∷ (7, 20) ∷ (8, 200) ∷ (9, 1) ∷ lower_part

unfoldable pub clocked_cluster_rows : List Row
clocked_cluster_rows =
    row (stages_got (clocked_cluster_clear 3 2 (replicate 43 9) (six_nines ∷ six_nines ∷ []))) (got 0 (((42, 9) ∷ []) ∷ beyond_six ∷ []) [])
    ∷ row (stages_out_got (clocked_cluster_cycle 3 2 (full_node 0) (nothing ∷ six_nines ∷ []) 1 5 50 500 out4)) (got 0 (((0, 1) ∷ (1, 1) ∷ with_second) ∷ ((0, 1) ∷ (1, 1) ∷ (3, 5) ∷ (4, 50) ∷ (5, 500) ∷ beyond_six) ∷ []) (0 ∷ 0 ∷ 0 ∷ 6 ∷ []))
    ∷ row (stages_out_got (clocked_cluster_cycle 3 2 (full_node 0) (nothing ∷ six_nines ∷ []) 2 0 0 0 out4)) (got 0 (((0, 1) ∷ (2, 3) ∷ (3, 30) ∷ (4, 300) ∷ (5, 1) ∷ lower_part) ∷ ((0, 2) ∷ (2, 1) ∷ beyond_six) ∷ []) (2 ∷ 20 ∷ 200 ∷ 6 ∷ []))
    ∷ row (stages_out_got (clocked_cluster_cycle 3 2 (full_node 0) (nothing ∷ six_nines ∷ []) 3 5 50 500 out4)) (got 0 (((0, 1) ∷ (2, 3) ∷ (3, 30) ∷ (4, 300) ∷ (5, 1) ∷ (6, 5) ∷ (7, 50) ∷ (8, 500) ∷ (9, 1) ∷ lower_part) ∷ ((0, 3) ∷ (2, 1) ∷ (3, 5) ∷ (4, 50) ∷ (5, 500) ∷ beyond_six) ∷ []) (2 ∷ 20 ∷ 200 ∷ 6 ∷ []))
    ∷ row (stages_out_got (clocked_cluster_drain 3 2 (full_node 1) ((1 ∷ 1 ∷ 0 ∷ 5 ∷ 50 ∷ 500 ∷ []) ∷ six_nines ∷ []) 7 out4)) (got 0 (((0, 1) ∷ (1, 1) ∷ with_second ++ ((30, 5) ∷ (31, 50) ∷ (32, 500) ∷ (33, 1) ∷ [])) ∷ beyond_six ∷ []) (1 ∷ 0 ∷ 7 ∷ 6 ∷ []))
    ∷ row (count_got (clocked_cluster_held 3 2 (full_node 0) out4)) (got 0 [] (4 ∷ 8 ∷ 7 ∷ 6 ∷ []))
    ∷ []

-- ---- sizes: a shape's words, and 0 for a bad one
unfoldable pub size_rows : List Row
size_rows = sized (cluster_words 3 2) 42 ∷ sized (cluster_words 17 2) 0 ∷ []
