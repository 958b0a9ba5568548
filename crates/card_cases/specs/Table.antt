-- The bucket queue's and the ports' calls through C in plain numbers, and the table of all families. These are definitions; the claim is in proofs/.
use Rattle.std.specs.Prelude.{◌++◌, ◌∷◌}
use Rattle.laws.specs.Prelude.{List, [], replicate, ℕ}
use Rattle.card_bucket.specs.Bucket.{bucket_clear, bucket_held, bucket_pop, bucket_push, bucket_replace}
use Rattle.card_bucket.specs.Cases as bucket
use Rattle.card_bucket.specs.Cases.{bucket_got, bucket_out_got}
use Rattle.card_cluster.specs.Cases as cluster
use Rattle.card_cluster.specs.Cases.{clocked_cluster_rows, cluster_rows}
use Rattle.card_tree.specs.Cases as tree
use Rattle.card_tree.specs.Cases.{fair_rows, mend_rows, tree_rows}
use Rattle.card_tree_clock.specs.Cases.{clocked_rows}
use Rattle.card_words.specs.Cases.{count_got, got, out4, row, Row}
use Rattle.card_bucket.specs.Ports.{ports_clear, ports_held, ports_pop, ports_push, ports_replace}

-- ---- the bucket queue: two storeys, two nodes, 65 words of 64 bits and 8,200 words, and one more of each
abbrev empty_bits : List ℕ
empty_bits = replicate 65 0 ++ (9 ∷ [])

abbrev empty_words : List ℕ
empty_words = replicate 8194 0 ++ (2 ∷ 0 ∷ 0 ∷ 0 ∷ 1 ∷ 0 ∷ 9 ∷ [])

-- 5/50/500 in node 0: head and tail of 5 are link 1, the free link is 2
abbrev five_bits : List ℕ
five_bits = 1 ∷ 32 ∷ replicate 63 0 ++ (9 ∷ [])

abbrev five_words : List ℕ
five_words = replicate 5 0 ++ (1 ∷ replicate 4095 0) ++ (1 ∷ replicate 4090 0) ++ (50 ∷ 500 ∷ 0 ∷ 0 ∷ 0 ∷ 0 ∷ 2 ∷ 1 ∷ 9 ∷ [])

unfoldable pub bucket_rows : List Row
bucket_rows =
    row (bucket_got (bucket_clear (replicate 66 9) (replicate 8201 9) 2 2)) (got 0 (((65, 9) ∷ []) ∷ ((8194, 2) ∷ (8198, 1) ∷ (8200, 9) ∷ []) ∷ []) [])
    ∷ row (bucket_got (bucket_push empty_bits empty_words 2 2 5 50 500)) (got 0 (((0, 1) ∷ (1, 32) ∷ (65, 9) ∷ []) ∷ ((5, 1) ∷ (4101, 1) ∷ (8192, 50) ∷ (8193, 500) ∷ (8198, 2) ∷ (8199, 1) ∷ (8200, 9) ∷ []) ∷ []) [])
    ∷ row (bucket_out_got (bucket_replace five_bits five_words 2 2 3 30 300 out4)) (got 0 (((0, 1) ∷ (1, 8) ∷ (65, 9) ∷ []) ∷ ((3, 1) ∷ (4099, 1) ∷ (8192, 30) ∷ (8193, 300) ∷ (8198, 2) ∷ (8199, 1) ∷ (8200, 9) ∷ []) ∷ []) (5 ∷ 50 ∷ 500 ∷ 6 ∷ []))
    ∷ row (bucket_out_got (bucket_pop five_bits five_words 2 2 out4)) (got 0 (((65, 9) ∷ []) ∷ ((8194, 2) ∷ (8198, 1) ∷ (8200, 9) ∷ []) ∷ []) (5 ∷ 50 ∷ 500 ∷ 6 ∷ []))
    ∷ row (count_got (bucket_held five_bits five_words 2 2 out4)) (got 0 [] (1 ∷ 8 ∷ 7 ∷ 6 ∷ []))
    ∷ []

-- ---- two ports on two nodes, two storeys: 130 words of 64 bits and 16,397 words, and one more of each. Port 0 has floor 0 and ceiling 1, port 1 floor 1 and ceiling 2
abbrev pooled_bits : List ℕ
pooled_bits = replicate 130 0 ++ (9 ∷ [])

abbrev pooled_words : List ℕ
pooled_words = replicate 16386 0 ++ (2 ∷ 0 ∷ 0 ∷ 0 ∷ 1 ∷ 0 ∷ 0 ∷ 1 ∷ 0 ∷ 1 ∷ 2 ∷ 9 ∷ [])

-- 5/50/500 at port 1, in node 0
abbrev port_bits : List ℕ
port_bits = replicate 65 0 ++ (1 ∷ 32 ∷ replicate 63 0) ++ (9 ∷ [])

abbrev port_words : List ℕ
port_words = replicate 8197 0 ++ (1 ∷ replicate 4095 0) ++ (1 ∷ replicate 4090 0) ++ (50 ∷ 500 ∷ 0 ∷ 0 ∷ 0 ∷ 0 ∷ 2 ∷ 0 ∷ 0 ∷ 1 ∷ 1 ∷ 1 ∷ 2 ∷ 9 ∷ [])

abbrev limits : List (ℕ × ℕ)
limits = (16395, 1) ∷ (16396, 2) ∷ (16397, 9) ∷ []

unfoldable pub ports_rows : List Row
ports_rows =
    row (bucket_got (ports_clear (replicate 131 9) (replicate 16398 9) 2 2 2 (0 ∷ 1 ∷ 1 ∷ 2 ∷ []))) (got 0 (((130, 9) ∷ []) ∷ ((16386, 2) ∷ (16390, 1) ∷ (16393, 1) ∷ limits) ∷ []) [])
    ∷ row (bucket_got (ports_push pooled_bits pooled_words 2 2 2 1 5 50 500)) (got 0 (((65, 1) ∷ (66, 32) ∷ (130, 9) ∷ []) ∷ ((8197, 1) ∷ (12293, 1) ∷ (16384, 50) ∷ (16385, 500) ∷ (16390, 2) ∷ (16393, 1) ∷ (16394, 1) ∷ limits) ∷ []) [])
    ∷ row (bucket_out_got (ports_replace port_bits port_words 2 2 2 1 3 30 300 out4)) (got 0 (((65, 1) ∷ (66, 8) ∷ (130, 9) ∷ []) ∷ ((8195, 1) ∷ (12291, 1) ∷ (16384, 30) ∷ (16385, 300) ∷ (16390, 2) ∷ (16393, 1) ∷ (16394, 1) ∷ limits) ∷ []) (5 ∷ 50 ∷ 500 ∷ 6 ∷ []))
    ∷ row (bucket_out_got (ports_pop port_bits port_words 2 2 2 1 out4)) (got 0 (((130, 9) ∷ []) ∷ ((16386, 2) ∷ (16390, 1) ∷ (16393, 1) ∷ limits) ∷ []) (5 ∷ 50 ∷ 500 ∷ 6 ∷ []))
    ∷ row (count_got (ports_held port_bits port_words 2 2 2 1 out4)) (got 0 [] (1 ∷ 8 ∷ 7 ∷ 6 ∷ []))
    ∷ []

-- ---- all families
abbrev pub table : List (List Row)
table = tree_rows ∷ mend_rows ∷ cluster_rows ∷ clocked_rows ∷ clocked_cluster_rows ∷ fair_rows ∷ bucket_rows ∷ ports_rows ∷ tree.size_rows ∷ cluster.size_rows ∷ bucket.size_rows ∷ []
