-- 01's worked trace, one of replaces, one of elements without a tag and two of version 2, and what they give; and six of the format, byte by byte.
use Rattle.std.specs.Prelude.{◌++◌, ◌∷◌}
use Rattle.laws.specs.Prelude.{List, [], ℕ}
use Rattle.text.specs.Text.{bytes_of}

-- a record of nine bytes, of a small rank and tag
abbrev small : ℕ → ℕ → ℕ → List ℕ
small code rank tag = code ∷ rank ∷ 0 ∷ 0 ∷ 0 ∷ tag ∷ 0 ∷ 0 ∷ 0 ∷ []

-- "Order 2, levels 2, records push 5/50, pop, pop, pop"
abbrev pub example : List ℕ
example = bytes_of "PFT" ++ ((1 ∷ 0 ∷ 2 ∷ 2 ∷ []) ++ (small 1 5 50 ++ (small 2 0 0 ++ (small 2 0 0 ++ small 2 0 0))))

abbrev pub example_says : List ℕ
example_says = bytes_of "1 pushed\n2 too soon\n3 out 5 50\n4 too soon\nheld 0 drained 0\n"

-- a replace with nothing held writes `empty`, and a pop just after it is not too soon; one of a lower rank than all held writes what was held
abbrev pub emptied : List ℕ
emptied = bytes_of "PFT" ++ ((1 ∷ 0 ∷ 2 ∷ 2 ∷ []) ++ (small 3 5 50 ++ (small 2 0 0 ++ (small 1 5 50 ++ (small 0 0 0 ++ small 3 4 7)))))

abbrev pub emptied_says : List ℕ
emptied_says = bytes_of "1 empty\n2 empty\n3 pushed\n4 idle\n5 out 5 50\nheld 1 drained 0\n"

-- tag 0 is refused 7, in a good record: a pop just after it is not too soon, and a replace with the mark on is too soon first
abbrev pub untagged_ones : List ℕ
untagged_ones = bytes_of "PFT" ++ ((1 ∷ 0 ∷ 2 ∷ 2 ∷ []) ++ (small 1 5 0 ++ (small 2 0 0 ++ (small 1 5 50 ++ (small 3 1 0 ++ (small 3 0 0 ++ small 2 0 0))))))

abbrev pub untagged_says : List ℕ
untagged_says = bytes_of "1 no tag\n2 empty\n3 pushed\n4 too soon\n5 no tag\n6 out 5 50\nheld 0 drained 0\n"

-- ---- version 2
-- .. of thirteen bytes, with a small length
abbrev sized : ℕ → ℕ → ℕ → ℕ → List ℕ
sized code rank tag len = small code rank tag ++ (len ∷ 0 ∷ 0 ∷ 0 ∷ [])

-- 01's records with a length
abbrev pub lengths : List ℕ
lengths = bytes_of "PFT" ++ ((2 ∷ 0 ∷ 2 ∷ 2 ∷ []) ++ (sized 1 5 50 64 ++ (sized 2 0 0 0 ++ (sized 2 0 0 0 ++ sized 2 0 0 0))))

abbrev pub lengths_say : List ℕ
lengths_say = bytes_of "1 pushed\n2 too soon\n3 out 5 50 64\n4 too soon\nheld 0 drained 0\n"

-- "an `out` line with a third number", also where it is 0; "length 0 too on codes 0 and 2"
abbrev pub lengthless : List ℕ
lengthless = bytes_of "PFT" ++ ((2 ∷ 0 ∷ 2 ∷ 2 ∷ []) ++ (sized 1 5 50 0 ++ (sized 0 0 0 0 ++ (sized 3 4 7 9 ++ (sized 0 0 0 0 ++ sized 2 0 0 9)))))

abbrev pub lengthless_says : List ℕ
lengthless_says = bytes_of "1 pushed\n2 idle\n3 out 5 50 0\n4 idle\nbad record 5\n"

-- ---- the format, byte by byte: header and records as they stand in the input
abbrev joined : List (List ℕ) → List ℕ
joined [] = []
joined (bs ∷ more) = bs ++ joined more

-- order 4, levels 1: four slots. The bytes 4, 3, 2, 1 are 16,909,060. Tag 0 is none, a fifth element finds no room, and code 4 is a bad record, after
-- which nothing is looked at
abbrev pub wide : List ℕ
wide =
    joined
    ((80 ∷ 70 ∷ 84 ∷ 1 ∷ 0 ∷ 4 ∷ 1 ∷ [])
    ∷ (1 ∷ 4 ∷ 3 ∷ 2 ∷ 1 ∷ 8 ∷ 7 ∷ 6 ∷ 5 ∷ [])
    ∷ (1 ∷ 20 ∷ 0 ∷ 0 ∷ 2 ∷ 9 ∷ 1 ∷ 0 ∷ 0 ∷ [])
    ∷ (1 ∷ 3 ∷ 0 ∷ 0 ∷ 0 ∷ 0 ∷ 0 ∷ 0 ∷ 0 ∷ [])
    ∷ (1 ∷ 255 ∷ 255 ∷ 255 ∷ 255 ∷ 0 ∷ 0 ∷ 0 ∷ 1 ∷ [])
    ∷ (1 ∷ 12 ∷ 11 ∷ 10 ∷ 9 ∷ 16 ∷ 15 ∷ 14 ∷ 13 ∷ [])
    ∷ (1 ∷ 1 ∷ 0 ∷ 0 ∷ 0 ∷ 1 ∷ 0 ∷ 0 ∷ 0 ∷ [])
    ∷ (2 ∷ 0 ∷ 0 ∷ 0 ∷ 0 ∷ 0 ∷ 0 ∷ 0 ∷ 0 ∷ [])
    ∷ (3 ∷ 1 ∷ 2 ∷ 3 ∷ 4 ∷ 5 ∷ 6 ∷ 7 ∷ 8 ∷ [])
    ∷ (0 ∷ 0 ∷ 0 ∷ 0 ∷ 0 ∷ 0 ∷ 0 ∷ 0 ∷ 0 ∷ [])
    ∷ (3 ∷ 1 ∷ 2 ∷ 3 ∷ 4 ∷ 5 ∷ 6 ∷ 7 ∷ 8 ∷ [])
    ∷ (0 ∷ 0 ∷ 0 ∷ 0 ∷ 0 ∷ 0 ∷ 0 ∷ 0 ∷ 0 ∷ [])
    ∷ (2 ∷ 0 ∷ 0 ∷ 0 ∷ 0 ∷ 0 ∷ 0 ∷ 0 ∷ 0 ∷ [])
    ∷ (4 ∷ 0 ∷ 0 ∷ 0 ∷ 0 ∷ 0 ∷ 0 ∷ 0 ∷ 0 ∷ [])
    ∷ (2 ∷ 0 ∷ 0 ∷ 0 ∷ 0 ∷ 0 ∷ 0 ∷ 0 ∷ 0 ∷ [])
    ∷ [])

abbrev pub wide_says : List ℕ
wide_says = bytes_of "1 pushed\n2 pushed\n3 no tag\n4 pushed\n5 pushed\n6 full\n7 out 16909060 84281096\n8 too soon\n9 idle\n10 out 33554452 265\n11 idle\n12 out 67305985 134678021\nbad record 13\n"

-- version 2, order 4, levels 3: a length of four bytes, and work that is pending at the end
abbrev pub deep : List ℕ
deep =
    joined
    ((80 ∷ 70 ∷ 84 ∷ 2 ∷ 0 ∷ 4 ∷ 3 ∷ [])
    ∷ (1 ∷ 4 ∷ 3 ∷ 2 ∷ 1 ∷ 8 ∷ 7 ∷ 6 ∷ 5 ∷ 12 ∷ 11 ∷ 10 ∷ 9 ∷ [])
    ∷ (1 ∷ 50 ∷ 0 ∷ 0 ∷ 0 ∷ 2 ∷ 0 ∷ 0 ∷ 0 ∷ 3 ∷ 0 ∷ 0 ∷ 0 ∷ [])
    ∷ (1 ∷ 60 ∷ 0 ∷ 0 ∷ 0 ∷ 3 ∷ 0 ∷ 0 ∷ 0 ∷ 4 ∷ 0 ∷ 0 ∷ 0 ∷ [])
    ∷ (1 ∷ 70 ∷ 0 ∷ 0 ∷ 0 ∷ 4 ∷ 0 ∷ 0 ∷ 0 ∷ 5 ∷ 0 ∷ 0 ∷ 0 ∷ [])
    ∷ (1 ∷ 80 ∷ 0 ∷ 0 ∷ 0 ∷ 0 ∷ 0 ∷ 0 ∷ 0 ∷ 6 ∷ 0 ∷ 0 ∷ 0 ∷ [])
    ∷ (1 ∷ 40 ∷ 0 ∷ 0 ∷ 0 ∷ 6 ∷ 0 ∷ 0 ∷ 0 ∷ 0 ∷ 0 ∷ 0 ∷ 255 ∷ [])
    ∷ (0 ∷ 0 ∷ 0 ∷ 0 ∷ 0 ∷ 0 ∷ 0 ∷ 0 ∷ 0 ∷ 0 ∷ 0 ∷ 0 ∷ 0 ∷ [])
    ∷ (2 ∷ 0 ∷ 0 ∷ 0 ∷ 0 ∷ 0 ∷ 0 ∷ 0 ∷ 0 ∷ 0 ∷ 0 ∷ 0 ∷ 0 ∷ [])
    ∷ (1 ∷ 90 ∷ 0 ∷ 0 ∷ 0 ∷ 7 ∷ 0 ∷ 0 ∷ 0 ∷ 8 ∷ 0 ∷ 0 ∷ 0 ∷ [])
    ∷ (1 ∷ 30 ∷ 0 ∷ 0 ∷ 0 ∷ 8 ∷ 0 ∷ 0 ∷ 0 ∷ 9 ∷ 0 ∷ 0 ∷ 0 ∷ [])
    ∷ [])

abbrev pub deep_says : List ℕ
deep_says = bytes_of "1 pushed\n2 pushed\n3 pushed\n4 pushed\n5 no tag\n6 pushed\n7 idle\n8 out 40 6 4278190080\n9 pushed\n10 pushed\nheld 6 drained 1\n"

-- a record that is cut: 8 bytes of version 1, whatever they are ..
abbrev pub cut : List ℕ
cut =
    joined
    ((80 ∷ 70 ∷ 84 ∷ 1 ∷ 0 ∷ 4 ∷ 3 ∷ [])
    ∷ (1 ∷ 4 ∷ 3 ∷ 2 ∷ 1 ∷ 8 ∷ 7 ∷ 6 ∷ 5 ∷ [])
    ∷ (0 ∷ 0 ∷ 0 ∷ 0 ∷ 0 ∷ 0 ∷ 0 ∷ 0 ∷ [])
    ∷ [])

abbrev pub cut_says : List ℕ
cut_says = bytes_of "1 pushed\nbad record 2\n"

-- .. and 12 of version 2; a push of nine bytes would be a good one in version 1
abbrev pub cut_lengths : List ℕ
cut_lengths =
    joined
    ((80 ∷ 70 ∷ 84 ∷ 2 ∷ 0 ∷ 8 ∷ 1 ∷ [])
    ∷ (1 ∷ 4 ∷ 3 ∷ 2 ∷ 1 ∷ 8 ∷ 7 ∷ 6 ∷ 5 ∷ 12 ∷ 11 ∷ 10 ∷ 9 ∷ [])
    ∷ (0 ∷ 0 ∷ 0 ∷ 0 ∷ 0 ∷ 0 ∷ 0 ∷ 0 ∷ 0 ∷ 0 ∷ 0 ∷ 0 ∷ 0 ∷ [])
    ∷ (2 ∷ 0 ∷ 0 ∷ 0 ∷ 0 ∷ 0 ∷ 0 ∷ 0 ∷ 0 ∷ 0 ∷ 0 ∷ 0 ∷ 0 ∷ [])
    ∷ (1 ∷ 4 ∷ 3 ∷ 2 ∷ 1 ∷ 8 ∷ 7 ∷ 6 ∷ 5 ∷ 0 ∷ 0 ∷ 0 ∷ [])
    ∷ [])

abbrev pub cut_lengths_say : List ℕ
cut_lengths_say = bytes_of "1 pushed\n2 idle\n3 out 16909060 84281096 151653132\nbad record 4\n"

-- an idle record with a rank, and a pop with a tag, are bad
abbrev pub idle_ranked : List ℕ
idle_ranked =
    joined
    ((80 ∷ 70 ∷ 84 ∷ 1 ∷ 0 ∷ 4 ∷ 5 ∷ [])
    ∷ (0 ∷ 0 ∷ 0 ∷ 0 ∷ 0 ∷ 0 ∷ 0 ∷ 0 ∷ 0 ∷ [])
    ∷ (0 ∷ 0 ∷ 0 ∷ 0 ∷ 1 ∷ 0 ∷ 0 ∷ 0 ∷ 0 ∷ [])
    ∷ [])

abbrev pub idle_ranked_says : List ℕ
idle_ranked_says = bytes_of "1 idle\nbad record 2\n"

abbrev pub pop_tagged : List ℕ
pop_tagged =
    joined
    ((80 ∷ 70 ∷ 84 ∷ 2 ∷ 0 ∷ 8 ∷ 3 ∷ [])
    ∷ (2 ∷ 0 ∷ 0 ∷ 0 ∷ 0 ∷ 0 ∷ 0 ∷ 0 ∷ 0 ∷ 0 ∷ 0 ∷ 0 ∷ 0 ∷ [])
    ∷ (2 ∷ 0 ∷ 0 ∷ 0 ∷ 0 ∷ 0 ∷ 0 ∷ 0 ∷ 1 ∷ 0 ∷ 0 ∷ 0 ∷ 0 ∷ [])
    ∷ [])

abbrev pub pop_tagged_says : List ℕ
pop_tagged_says = bytes_of "1 empty\nbad record 2\n"
