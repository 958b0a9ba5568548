-- Calls through C in plain numbers: the number returned, the words left and the words of `out`, with rank, tag and length all different (5, 50, 500). These are
-- definitions; the claim over the rows is in proofs/.
use Rattle.std.specs.Prelude.{◌++◌, ◌∷◌}
use Rattle.laws.specs.Prelude.{List, [], replicate, suc, ℕ}
use Rattle.bucket_model.specs.Prelude.{filled}
use Rattle.card_tree_clock.specs.Clocked.{ClockedAfter, ClockedAfterOut, clocked_clear, clocked_cycle, clocked_drain, clocked_held}
use Rattle.card_words.specs.Cases.{count_got, got, Got, out4, row, Row}
use Rattle.tree_records.specs.declared.Record.{Record}

-- records one after the other, five numbers each
unfoldable pub fives : List Record → List ℕ
fives [] = []
fives (r ∷ rs) = r.kind ∷ r.node ∷ r.rank ∷ r.tag ∷ r.length ∷ fives rs

abbrev pub clocked_got : ClockedAfter → Got
clocked_got o = got o.number (filled 0 o.store ∷ filled 0 (fives o.records) ∷ filled 0 o.mark ∷ []) []

abbrev pub clocked_out_got : ClockedAfterOut → Got
clocked_out_got o = got o.number (filled 0 o.store ∷ filled 0 (fives o.records) ∷ filled 0 o.mark ∷ []) o.out

-- ---- the clocked tree: order 4, levels 2; two records, of which the second is past the shape; the mark with one word more
abbrev nines : Record
nines = record { kind = 9; node = 9; rank = 9; tag = 9; length = 9 }

abbrev none : Record
none = record { kind = 0; node = 0; rank = 0; tag = 0; length = 0 }

-- the root full: 2/20/200 with 7/70/700 below it, 3/30/300, 4/40/400 and 6/60/600
abbrev full_root : List ℕ
full_root =
    2 ∷ 20 ∷ 200 ∷ 2 ∷ 3 ∷ 30 ∷ 300 ∷ 1 ∷ 4 ∷ 40 ∷ 400 ∷ 1 ∷ 6 ∷ 60 ∷ 600 ∷ 1
    ∷ 7 ∷ 70 ∷ 700 ∷ 1 ∷ replicate 60 0

-- .. and a put of 5/50/500 is on its way to node 1
abbrev put_pending : List ℕ
put_pending =
    2 ∷ 20 ∷ 200 ∷ 2 ∷ 3 ∷ 30 ∷ 300 ∷ 2 ∷ 4 ∷ 40 ∷ 400 ∷ 1 ∷ 6 ∷ 60 ∷ 600 ∷ 1
    ∷ 7 ∷ 70 ∷ 700 ∷ 1 ∷ replicate 60 0

abbrev pub beyond : ℕ → List (ℕ × ℕ)
beyond n = (n, 9) ∷ (suc n, 9) ∷ (suc (suc n), 9) ∷ (suc (suc (suc n)), 9) ∷ (suc (suc (suc (suc n))), 9) ∷ []

abbrev root_from : ℕ → ℕ → ℕ → ℕ → ℕ → List (ℕ × ℕ)
root_from r t l c d =
    (0, r) ∷ (1, t) ∷ (2, l) ∷ (3, c) ∷ (4, 3) ∷ (5, 30) ∷ (6, 300) ∷ (7, d) ∷ (8, 4) ∷ (9, 40) ∷ (10, 400) ∷ (11, 1) ∷ (12, 6) ∷ (13, 60) ∷ (14, 600) ∷ (15, 1)
    ∷ (16, 7) ∷ (17, 70) ∷ (18, 700) ∷ (19, 1) ∷ []

unfoldable pub clocked_rows : List Row
clocked_rows =
    row (clocked_got (clocked_clear 4 2 (replicate 81 9) (nines ∷ nines ∷ []) (9 ∷ 8 ∷ []))) (got 0 (((80, 9) ∷ []) ∷ beyond 5 ∷ ((1, 8) ∷ []) ∷ []) [])
    ∷ row (clocked_out_got (clocked_cycle 4 2 full_root (none ∷ nines ∷ []) (0 ∷ 8 ∷ []) 1 5 50 500 out4)) (got 0 (root_from 2 20 200 2 2 ∷ ((0, 1) ∷ (1, 1) ∷ (2, 5) ∷ (3, 50) ∷ (4, 500) ∷ beyond 5) ∷ ((0, 1) ∷ (1, 8) ∷ []) ∷ []) (0 ∷ 0 ∷ 0 ∷ 6 ∷ []))
    ∷ row (clocked_out_got (clocked_cycle 4 2 full_root (none ∷ nines ∷ []) (0 ∷ 8 ∷ []) 2 0 0 0 out4)) (got 0 (root_from 7 70 700 1 1 ∷ ((0, 2) ∷ beyond 5) ∷ ((0, 1) ∷ (1, 8) ∷ []) ∷ []) (2 ∷ 20 ∷ 200 ∷ 6 ∷ []))
    ∷ row (clocked_out_got (clocked_cycle 4 2 full_root (none ∷ nines ∷ []) (0 ∷ 8 ∷ []) 3 5 50 500 out4)) (got 0 (root_from 5 50 500 2 1 ∷ beyond 5 ∷ ((0, 1) ∷ (1, 8) ∷ []) ∷ []) (2 ∷ 20 ∷ 200 ∷ 6 ∷ []))
    ∷ row (clocked_out_got (clocked_cycle 4 2 full_root (none ∷ nines ∷ []) (1 ∷ 8 ∷ []) 2 0 0 0 out4)) (got 3 (root_from 2 20 200 2 1 ∷ beyond 5 ∷ ((1, 8) ∷ []) ∷ []) (0 ∷ 0 ∷ 0 ∷ 6 ∷ []))
    ∷ row (clocked_out_got (clocked_drain 4 2 put_pending (record { kind = 1; node = 1; rank = 5; tag = 50; length = 500 } ∷ nines ∷ []) (1 ∷ 8 ∷ []) 7 out4)) (got 0 ((root_from 2 20 200 2 2 ++ ((32, 5) ∷ (33, 50) ∷ (34, 500) ∷ (35, 1) ∷ [])) ∷ beyond 5 ∷ ((1, 8) ∷ []) ∷ []) (1 ∷ 0 ∷ 7 ∷ 6 ∷ []))
    ∷ row (count_got (clocked_held 4 2 full_root out4)) (got 0 [] (5 ∷ 8 ∷ 7 ∷ 6 ∷ []))
    ∷ []
