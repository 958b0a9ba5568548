-- Calls through C in plain numbers: for each the number returned, every word of the store and every word of `out`, with rank, tag and length all different (5, 50, 500); and
-- a list of calls, each on what the one before left. These are definitions; the claims are in proofs/.
use Rattle.std.specs.Prelude.{◌++◌, ◌∷◌}
use Rattle.laws.specs.Prelude.{List, [], element, replicate, ℕ}
use Rattle.card_packed.specs.Packed.{packed_clear, packed_held, packed_pop, packed_push, packed_replace, packed_words}
use Rattle.card_packed.specs.Through.{HeapAsk, at, packed_c}
use Rattle.card_words.specs.Heard.{pop, push, replace}
use Rattle.card_words.specs.Out.{count_after, CountAfter}
use Rattle.card_words.specs.Store.{StoreAfter, StoreAfterOut, store_after, store_after_out}
use Rattle.promise.specs.Prelude.{answers, leaves}

-- what `out` holds before a call
abbrev out4 : List ℕ
out4 = 9 ∷ 8 ∷ 7 ∷ 6 ∷ []

-- ---- three heaps of two levels: 30 words, and one word more. The held words are 0 to 2; the tops 3 to 11; under those of heap 0 words 12 to 17, of heap 1 words 18 to 23, of heap 2 words 24 to 29
abbrev empty : List ℕ
empty = replicate 30 0 ++ (9 ∷ [])

-- heap 1 with 5/50/500, and with 6/60/600 under it, and with 7/70/700 as well, so that it is full
abbrev one : List ℕ
one = 0 ∷ 1 ∷ 0 ∷ 0 ∷ 0 ∷ 0 ∷ 5 ∷ 50 ∷ 500 ∷ replicate 21 0 ++ (9 ∷ [])

abbrev two : List ℕ
two = 0 ∷ 2 ∷ 0 ∷ 0 ∷ 0 ∷ 0 ∷ 5 ∷ 50 ∷ 500 ∷ replicate 9 0 ++ (6 ∷ 60 ∷ 600 ∷ replicate 9 0) ++ (9 ∷ [])

abbrev full : List ℕ
full = 0 ∷ 3 ∷ 0 ∷ 0 ∷ 0 ∷ 0 ∷ 5 ∷ 50 ∷ 500 ∷ replicate 9 0 ++ (6 ∷ 60 ∷ 600 ∷ 7 ∷ 70 ∷ 700 ∷ replicate 6 0) ++ (9 ∷ [])

-- clear, and of a store that is a word too short; a push at heap 1, into a heap that is empty, and with one that is lower than the top; at a heap that there is not; without a tag; at a full heap
unfoldable pub store_rows : List StoreAfter
store_rows =
    packed_clear 3 2 (replicate 31 9) ∷ packed_clear 3 2 (replicate 29 9) ∷ packed_push 3 2 1 empty 5 50 500 ∷ packed_push 3 2 1 one 6 60 600 ∷ packed_push 3 2 1 two 4 40 400
    ∷ packed_push 3 2 3 one 6 0 600 ∷ packed_push 3 2 1 full 4 0 400 ∷ packed_push 3 2 1 full 4 40 400 ∷ []

abbrev pub store_rows_say : List StoreAfter
store_rows_say =
    store_after 0 empty ∷ store_after 1 (replicate 29 9) ∷ store_after 0 one ∷ store_after 0 two
    ∷ store_after 0 (0 ∷ 3 ∷ 0 ∷ 0 ∷ 0 ∷ 0 ∷ 4 ∷ 40 ∷ 400 ∷ replicate 9 0 ++ (6 ∷ 60 ∷ 600 ∷ 5 ∷ 50 ∷ 500 ∷ replicate 6 0) ++ (9 ∷ []))
    ∷ store_after 12 one ∷ store_after 7 full ∷ store_after 5 full ∷ []

-- a pop, whose last entry goes to the top; a replace that is lower than the top was, and one that sinks under 6/60/600; of an empty heap, of a heap that there is not, with an `out` that is too short; a
-- pop at a heap whose held word is above 3
unfoldable pub out_rows : List StoreAfterOut
out_rows =
    packed_pop 3 2 1 two out4 ∷ packed_replace 3 2 1 two 3 30 300 out4 ∷ packed_replace 3 2 1 full 8 80 800 out4 ∷ packed_pop 3 2 0 two out4 ∷ packed_pop 3 2 3 two out4
    ∷ packed_pop 3 2 1 two (9 ∷ 8 ∷ []) ∷ packed_pop 3 2 2 (0 ∷ 2 ∷ 4 ∷ replicate 27 0) out4 ∷ []

abbrev pub out_rows_say : List StoreAfterOut
out_rows_say =
    store_after_out 0 (0 ∷ 1 ∷ 0 ∷ 0 ∷ 0 ∷ 0 ∷ 6 ∷ 60 ∷ 600 ∷ replicate 21 0 ++ (9 ∷ [])) (5 ∷ 50 ∷ 500 ∷ 6 ∷ [])
    ∷ store_after_out 0 (0 ∷ 2 ∷ 0 ∷ 0 ∷ 0 ∷ 0 ∷ 3 ∷ 30 ∷ 300 ∷ replicate 9 0 ++ (6 ∷ 60 ∷ 600 ∷ replicate 9 0) ++ (9 ∷ [])) (5 ∷ 50 ∷ 500 ∷ 6 ∷ [])
    ∷ store_after_out 0 (0 ∷ 3 ∷ 0 ∷ 0 ∷ 0 ∷ 0 ∷ 6 ∷ 60 ∷ 600 ∷ replicate 9 0 ++ (8 ∷ 80 ∷ 800 ∷ 7 ∷ 70 ∷ 700 ∷ replicate 6 0) ++ (9 ∷ [])) (5 ∷ 50 ∷ 500 ∷ 6 ∷ [])
    ∷ store_after_out 6 two (0 ∷ 0 ∷ 0 ∷ 6 ∷ []) ∷ store_after_out 12 two (0 ∷ 0 ∷ 0 ∷ 6 ∷ []) ∷ store_after_out 1 two (9 ∷ 8 ∷ [])
    ∷ store_after_out 2 (0 ∷ 2 ∷ 4 ∷ replicate 27 0) (0 ∷ 0 ∷ 0 ∷ 6 ∷ []) ∷ []

-- held at heap 1, at heap 2 and at a heap that there is not, and with an `out` of no words
unfoldable pub count_rows : List CountAfter
count_rows = packed_held 3 2 1 full out4 ∷ packed_held 3 2 2 full out4 ∷ packed_held 3 2 3 full out4 ∷ packed_held 3 2 1 full [] ∷ []

abbrev pub count_rows_say : List CountAfter
count_rows_say = count_after 0 (3 ∷ 8 ∷ 7 ∷ 6 ∷ []) ∷ count_after 0 (0 ∷ 8 ∷ 7 ∷ 6 ∷ []) ∷ count_after 12 (0 ∷ 8 ∷ 7 ∷ 6 ∷ []) ∷ count_after 1 [] ∷ []

-- the last shapes that are taken, and the first that are not
unfoldable pub size_rows : List ℕ
size_rows =
    packed_words 3 2 ∷ packed_words 1 17 ∷ packed_words 1 18 ∷ packed_words 2 16 ∷ packed_words 2 17 ∷ packed_words 3 15 ∷ packed_words 3 16 ∷ packed_words 256 9 ∷ packed_words 256 10
    ∷ packed_words 257 1 ∷ packed_words 0 1 ∷ packed_words 1 0 ∷ []

abbrev pub size_rows_say : List ℕ
size_rows_say = 30 ∷ 393214 ∷ 0 ∷ 393212 ∷ 0 ∷ 294906 ∷ 0 ∷ 392704 ∷ 0 ∷ 0 ∷ 0 ∷ 0 ∷ []

-- ---- a list of calls
-- the rules' own: two heaps of two levels in 20 words, of any contents, and one word more, cleared; pushes of 5/50, 3/30, 9/90 at heap 0 and of 8/80, 1/10 at heap 1; then heap 0 is full, heap 2 is not
-- there; at heap 0 3/30, 5/50 and 9/90 leave, and it is empty; a replace by 0/7 at heap 1 gives 1/10
abbrev begun : List HeapAsk
begun = at 0 (push (element 5 50 500)) ∷ at 0 (push (element 3 30 300)) ∷ at 0 (push (element 9 90 900)) ∷ at 1 (push (element 8 80 800)) ∷ at 1 (push (element 1 10 100)) ∷ []

abbrev ended : List HeapAsk
ended = at 0 (push (element 7 70 700)) ∷ at 2 (push (element 7 0 700)) ∷ at 0 pop ∷ at 0 pop ∷ at 0 pop ∷ at 0 pop ∷ at 1 (replace (element 0 7 70)) ∷ []

abbrev clear20 : List ℕ
clear20 = (packed_clear 2 2 (replicate 21 7)).store

unfoldable pub left_rows : List (List ℕ)
left_rows = leaves (packed_c 2 2 out4) begun clear20 ∷ leaves (packed_c 2 2 out4) (begun ++ ended) clear20 ∷ []

abbrev pub left_rows_say : List (List ℕ)
left_rows_say =
    (3 ∷ 2 ∷ 3 ∷ 30 ∷ 300 ∷ 1 ∷ 10 ∷ 100 ∷ 5 ∷ 50 ∷ 500 ∷ 9 ∷ 90 ∷ 900 ∷ 8 ∷ 80 ∷ 800 ∷ 0 ∷ 0 ∷ 0 ∷ 7 ∷ [])
    ∷ (0 ∷ 2 ∷ 0 ∷ 0 ∷ 0 ∷ 0 ∷ 7 ∷ 70 ∷ 0 ∷ 0 ∷ 0 ∷ 0 ∷ 0 ∷ 0 ∷ 8 ∷ 80 ∷ 800 ∷ 0 ∷ 0 ∷ 0 ∷ 7 ∷ []) ∷ []

unfoldable pub heard_rows : List CountAfter
heard_rows = answers (packed_c 2 2 out4) (begun ++ ended) clear20

abbrev taken : CountAfter
taken = count_after 0 out4

abbrev pub heard_rows_say : List CountAfter
heard_rows_say =
    taken ∷ taken ∷ taken ∷ taken ∷ taken ∷ count_after 5 out4 ∷ count_after 12 out4 ∷ count_after 0 (3 ∷ 30 ∷ 300 ∷ 6 ∷ []) ∷ count_after 0 (5 ∷ 50 ∷ 500 ∷ 6 ∷ []) ∷ count_after 0 (9 ∷ 90 ∷ 900 ∷ 6 ∷ [])
    ∷ count_after 6 (0 ∷ 0 ∷ 0 ∷ 6 ∷ []) ∷ count_after 0 (1 ∷ 10 ∷ 100 ∷ 6 ∷ []) ∷ []

-- ---- a pop that sinks two positions deep, and one that stays: one heap of three levels, 22 words
abbrev deep_store : List ℕ
deep_store = 6 ∷ 1 ∷ 10 ∷ 100 ∷ 3 ∷ 30 ∷ 300 ∷ 2 ∷ 20 ∷ 200 ∷ 7 ∷ 70 ∷ 700 ∷ 6 ∷ 60 ∷ 600 ∷ 5 ∷ 50 ∷ 500 ∷ 0 ∷ 0 ∷ 0 ∷ []

unfoldable pub deep_rows : List StoreAfterOut
deep_rows = packed_pop 1 3 0 deep_store out4 ∷ packed_replace 1 3 0 deep_store 4 40 400 out4 ∷ []

abbrev pub deep_rows_say : List StoreAfterOut
deep_rows_say =
    store_after_out 0 (5 ∷ 2 ∷ 20 ∷ 200 ∷ 3 ∷ 30 ∷ 300 ∷ 5 ∷ 50 ∷ 500 ∷ 7 ∷ 70 ∷ 700 ∷ 6 ∷ 60 ∷ 600 ∷ 0 ∷ 0 ∷ 0 ∷ 0 ∷ 0 ∷ 0 ∷ []) (1 ∷ 10 ∷ 100 ∷ 6 ∷ [])
    ∷ store_after_out 0 (6 ∷ 2 ∷ 20 ∷ 200 ∷ 3 ∷ 30 ∷ 300 ∷ 4 ∷ 40 ∷ 400 ∷ 7 ∷ 70 ∷ 700 ∷ 6 ∷ 60 ∷ 600 ∷ 5 ∷ 50 ∷ 500 ∷ 0 ∷ 0 ∷ 0 ∷ []) (1 ∷ 10 ∷ 100 ∷ 6 ∷ []) ∷ []
