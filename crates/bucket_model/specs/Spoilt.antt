-- One spoilt word for each damage test of 01, in a small store: what the calls say then, in 01's numbers. These are definitions.
use Rattle.std.specs.Prelude.{◌∷◌, ◌≡◌}
use Rattle.laws.specs.Prelude.{List, Pop, Push, Replace, Request, [], count_number, element, map, number_of, replicate, set, ℕ}
use Rattle.bucket_model.specs.Layout.{Lay, lay_of, words_of, write}
use Rattle.bucket_model.specs.Calls.{held_count}
use Rattle.bucket_model.specs.Plain.{Store, store, asked}

-- 128 ranks and four nodes, of any depth: heads at words 0 to 127, tails at words 128 to 255; link l has its tag at word 253 + 3l, length and next behind it; the free link at word 268, held at word 269
abbrev pub small : ℕ → Lay
small d = lay_of d (words_of d) 128 4

-- words that are 0 but for these, each at its place
abbrev pub only : ℕ → List (ℕ × ℕ) → List (ℕ × ℕ) → Store
only d bits words = store (write (replicate (words_of d) 0) bits) (write (replicate 270 0) words)

-- so many are held, all of rank 7, in links 1, 2, ..
abbrev pub none : Store
none = only 2 [] ((258, 2) ∷ (261, 3) ∷ (264, 4) ∷ (268, 1) ∷ [])

abbrev pub one : Store
one = only 2 ((0, 1) ∷ (1, 128) ∷ []) ((7, 1) ∷ (135, 1) ∷ (256, 50) ∷ (257, 500) ∷ (261, 3) ∷ (264, 4) ∷ (268, 2) ∷ (269, 1) ∷ [])

abbrev pub two : Store
two = only 2 ((0, 1) ∷ (1, 128) ∷ []) ((7, 1) ∷ (135, 2) ∷ (256, 50) ∷ (257, 500) ∷ (258, 2) ∷ (259, 60) ∷ (260, 600) ∷ (264, 4) ∷ (268, 3) ∷ (269, 2) ∷ [])

abbrev pub three : Store
three = only 2 ((0, 1) ∷ (1, 128) ∷ []) ((7, 1) ∷ (135, 3) ∷ (256, 50) ∷ (257, 500) ∷ (258, 2) ∷ (259, 60) ∷ (260, 600) ∷ (261, 3) ∷ (262, 70) ∷ (263, 700) ∷ (268, 4) ∷ (269, 3) ∷ [])

abbrev pub full : Store
full = only 2 ((0, 1) ∷ (1, 128) ∷ []) ((7, 1) ∷ (135, 4) ∷ (256, 50) ∷ (257, 500) ∷ (258, 2) ∷ (259, 60) ∷ (260, 600) ∷ (261, 3) ∷ (262, 70) ∷ (263, 700) ∷ (264, 4) ∷ (265, 80) ∷ (266, 800) ∷ (269, 4) ∷ [])

-- .. and two at three storeys
abbrev pub deep : Store
deep = only 3 ((0, 1) ∷ (1, 1) ∷ (65, 128) ∷ []) ((7, 1) ∷ (135, 2) ∷ (256, 50) ∷ (257, 500) ∷ (258, 2) ∷ (259, 60) ∷ (260, 600) ∷ (264, 4) ∷ (268, 3) ∷ (269, 2) ∷ [])

-- the word at a place replaced, of 64 bits or of 32
pub data Spoil : Type 0 where
  nothing : Spoil
  in_bits : ℕ → ℕ → Spoil
  in_words : ℕ → ℕ → Spoil

abbrev pub spoil : Spoil → Store → Store
spoil nothing s = s
spoil (in_bits i v) s = store (set s.bits i v) s.words
spoil (in_words i v) s = store s.bits (set s.words i v)

-- what is asked of a store, each time as it stands: held; and these
abbrev pub requests : List Request
requests =
    Pop ∷ Push (element 7 70 700) ∷ Push (element 9 90 900) ∷ Push (element 70 71 72) ∷ Replace (element 9 90 900)
    ∷ Push (element 128 0 0) ∷ Replace (element 7 0 0) ∷ []

abbrev pub numbers : Lay → Store → List ℕ
numbers k s = count_number (held_count k s.bits s.words) ∷ map (λ q. number_of (asked k q s).answer) requests

-- the storeys, a store, its spoilt word, and the numbers of held; pop; push 7, push 9, push 70; replace 9; and of a push of a rank that there is not and of a replace without a tag, which come before 2
pub record Row : Type 0 where
  pub storeys : ℕ
  pub from : Store
  pub spoilt : Spoil
  pub says : List ℕ

abbrev pub row : ℕ → Store → Spoil → List ℕ → Row
row d s x ns = record { storeys = d; from = s; spoilt = x; says = ns }

-- the store of a row
abbrev pub at : Row → Store
at r = spoil r.spoilt r.from

-- the numbers are these, and whatever is refused leaves every word
pub record Right (r : Row) : Type 0 where
  pub says : numbers (small r.storeys) (at r) ≡ r.says
  pub bits : (q : Request) → (number_of (asked (small r.storeys) q (at r)).answer ≡ 0 → ⊥) → (asked (small r.storeys) q (at r)).bits ≡ (at r).bits
  pub words : (q : Request) → (number_of (asked (small r.storeys) q (at r)).answer ≡ 0 → ⊥) → (asked (small r.storeys) q (at r)).words ≡ (at r).words

unfoldable pub spoilt_table : List Row
spoilt_table =
    -- two are held, nothing is spoilt
    row 2 two nothing (0 ∷ 0 ∷ 0 ∷ 0 ∷ 0 ∷ 0 ∷ 4 ∷ 7 ∷ [])
    -- "held or the free link exceeds N": held ..
    ∷ row 2 two (in_words 269 5) (2 ∷ 2 ∷ 2 ∷ 2 ∷ 2 ∷ 2 ∷ 4 ∷ 7 ∷ [])
    -- .. and the free link
    ∷ row 2 two (in_words 268 5) (2 ∷ 2 ∷ 2 ∷ 2 ∷ 2 ∷ 2 ∷ 4 ∷ 7 ∷ [])
    -- "one of a pair holds without the other": free link 0, and held is not N
    ∷ row 2 two (in_words 268 0) (2 ∷ 2 ∷ 2 ∷ 2 ∷ 2 ∷ 2 ∷ 4 ∷ 7 ∷ [])
    -- .. held is N, and the free link is not 0
    ∷ row 2 two (in_words 269 4) (2 ∷ 2 ∷ 2 ∷ 2 ∷ 2 ∷ 2 ∷ 4 ∷ 7 ∷ [])
    -- .. top word 0, and held is not 0
    ∷ row 2 two (in_bits 0 0) (2 ∷ 2 ∷ 2 ∷ 2 ∷ 2 ∷ 2 ∷ 4 ∷ 7 ∷ [])
    -- .. held 0, and the top word is not 0
    ∷ row 2 two (in_words 269 0) (2 ∷ 2 ∷ 2 ∷ 2 ∷ 2 ∷ 2 ∷ 4 ∷ 7 ∷ [])
    -- "head, tail and the rank's bit must agree on emptiness": no head
    ∷ row 2 two (in_words 7 0) (0 ∷ 2 ∷ 2 ∷ 0 ∷ 0 ∷ 2 ∷ 4 ∷ 7 ∷ [])
    -- .. no tail
    ∷ row 2 two (in_words 135 0) (0 ∷ 2 ∷ 2 ∷ 0 ∷ 0 ∷ 2 ∷ 4 ∷ 7 ∷ [])
    -- .. an empty bucket that has a head
    ∷ row 2 two (in_words 9 1) (0 ∷ 0 ∷ 0 ∷ 2 ∷ 0 ∷ 2 ∷ 4 ∷ 7 ∷ [])
    -- .. or a tail
    ∷ row 2 two (in_words 137 2) (0 ∷ 0 ∷ 0 ∷ 2 ∷ 0 ∷ 2 ∷ 4 ∷ 7 ∷ [])
    -- .. no bit of rank 7, whose bucket is not empty
    ∷ row 2 two (in_bits 1 256) (0 ∷ 2 ∷ 2 ∷ 0 ∷ 0 ∷ 2 ∷ 4 ∷ 7 ∷ [])
    -- .. a bit of rank 9, whose bucket is empty
    ∷ row 2 two (in_bits 1 640) (0 ∷ 0 ∷ 0 ∷ 2 ∷ 0 ∷ 2 ∷ 4 ∷ 7 ∷ [])
    -- "the group's bit must agree with whether its word is 0": a pop finds a group whose word is 0
    ∷ row 2 two (in_bits 1 0) (0 ∷ 2 ∷ 2 ∷ 2 ∷ 0 ∷ 2 ∷ 4 ∷ 7 ∷ [])
    -- .. no bit of group 0, whose word is not 0
    ∷ row 2 two (in_bits 0 2) (0 ∷ 2 ∷ 2 ∷ 2 ∷ 2 ∷ 2 ∷ 4 ∷ 7 ∷ [])
    -- .. a bit of group 1, whose word is 0
    ∷ row 2 two (in_bits 0 3) (0 ∷ 0 ∷ 0 ∷ 0 ∷ 2 ∷ 0 ∷ 4 ∷ 7 ∷ [])
    -- at three storeys, nothing is spoilt
    ∷ row 3 deep nothing (0 ∷ 0 ∷ 0 ∷ 0 ∷ 0 ∷ 0 ∷ 4 ∷ 7 ∷ [])
    -- .. a pop finds a lowest word that is 0
    ∷ row 3 deep (in_bits 65 0) (0 ∷ 2 ∷ 2 ∷ 2 ∷ 0 ∷ 2 ∷ 4 ∷ 7 ∷ [])
    -- .. or a middle one
    ∷ row 3 deep (in_bits 1 0) (0 ∷ 2 ∷ 2 ∷ 2 ∷ 2 ∷ 2 ∷ 4 ∷ 7 ∷ [])
    -- .. no middle bit over ranks 0 to 63, whose word is not 0
    ∷ row 3 deep (in_bits 1 2) (0 ∷ 2 ∷ 2 ∷ 2 ∷ 2 ∷ 2 ∷ 4 ∷ 7 ∷ [])
    -- .. a middle bit over ranks 64 to 127, whose word is 0
    ∷ row 3 deep (in_bits 1 3) (0 ∷ 0 ∷ 0 ∷ 0 ∷ 2 ∷ 0 ∷ 4 ∷ 7 ∷ [])
    -- "no link read may exceed N": the head
    ∷ row 2 two (in_words 7 5) (0 ∷ 2 ∷ 2 ∷ 0 ∷ 0 ∷ 2 ∷ 4 ∷ 7 ∷ [])
    -- .. the tail
    ∷ row 2 two (in_words 135 5) (0 ∷ 2 ∷ 2 ∷ 0 ∷ 0 ∷ 2 ∷ 4 ∷ 7 ∷ [])
    -- .. the head's next, which a push does not read
    ∷ row 2 two (in_words 258 5) (0 ∷ 2 ∷ 0 ∷ 0 ∷ 0 ∷ 2 ∷ 4 ∷ 7 ∷ [])
    -- .. the taken node's next, which a pop does not read
    ∷ row 2 two (in_words 264 5) (0 ∷ 0 ∷ 2 ∷ 2 ∷ 2 ∷ 0 ∷ 4 ∷ 7 ∷ [])
    -- "a tail's next must be 0"
    ∷ row 2 two (in_words 261 3) (0 ∷ 2 ∷ 2 ∷ 0 ∷ 0 ∷ 2 ∷ 4 ∷ 7 ∷ [])
    -- "on a pop, the head's next is 0 exactly if head equals tail": it is 0, and they differ
    ∷ row 2 two (in_words 258 0) (0 ∷ 2 ∷ 0 ∷ 0 ∷ 0 ∷ 2 ∷ 4 ∷ 7 ∷ [])
    -- .. they are equal, and it is not 0
    ∷ row 2 two (in_words 135 1) (0 ∷ 2 ∷ 2 ∷ 0 ∷ 0 ∷ 2 ∷ 4 ∷ 7 ∷ [])
    -- three are held, N − 1, nothing is spoilt
    ∷ row 2 three nothing (0 ∷ 0 ∷ 0 ∷ 0 ∷ 0 ∷ 0 ∷ 4 ∷ 7 ∷ [])
    -- "on a push, the taken node is not the tail"
    ∷ row 2 three (in_words 268 3) (0 ∷ 0 ∷ 2 ∷ 0 ∷ 0 ∷ 0 ∷ 4 ∷ 7 ∷ [])
    -- ".. and its next is 0 exactly at held = N−1": it is not 0 there
    ∷ row 2 three (in_words 267 1) (0 ∷ 0 ∷ 2 ∷ 2 ∷ 2 ∷ 0 ∷ 4 ∷ 7 ∷ [])
    -- .. it is 0 at held = N − 2
    ∷ row 2 two (in_words 264 0) (0 ∷ 0 ∷ 2 ∷ 2 ∷ 2 ∷ 0 ∷ 4 ∷ 7 ∷ [])
    -- one is held, nothing is spoilt
    ∷ row 2 one nothing (0 ∷ 0 ∷ 0 ∷ 0 ∷ 0 ∷ 0 ∷ 4 ∷ 7 ∷ [])
    -- replace makes "all the push's on the store as after the pop": the top word is 0 then, and held is 1
    ∷ row 2 one (in_words 269 2) (0 ∷ 0 ∷ 0 ∷ 0 ∷ 0 ∷ 2 ∷ 4 ∷ 7 ∷ [])
    -- nothing is held: 6
    ∷ row 2 none nothing (0 ∷ 6 ∷ 0 ∷ 0 ∷ 0 ∷ 6 ∷ 4 ∷ 7 ∷ [])
    -- .. but 2 comes first
    ∷ row 2 none (in_bits 0 1) (2 ∷ 2 ∷ 2 ∷ 2 ∷ 2 ∷ 2 ∷ 4 ∷ 7 ∷ [])
    -- four are held: 5
    ∷ row 2 full nothing (0 ∷ 0 ∷ 5 ∷ 5 ∷ 5 ∷ 0 ∷ 4 ∷ 7 ∷ [])
    -- .. but 2 comes first
    ∷ row 2 full (in_words 268 1) (2 ∷ 2 ∷ 2 ∷ 2 ∷ 2 ∷ 2 ∷ 4 ∷ 7 ∷ [])
    -- .. and a push that is full tests no bucket
    ∷ row 2 full (in_words 267 1) (0 ∷ 2 ∷ 5 ∷ 5 ∷ 5 ∷ 2 ∷ 4 ∷ 7 ∷ [])
    ∷ []
