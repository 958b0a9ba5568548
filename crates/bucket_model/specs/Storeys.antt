-- The bits, as storeys of words above one another to any depth. These are definitions.
use Rattle.std.specs.Prelude.{◌%◌, ◌&&◌, ◌*◌, ◌+◌, ◌-◌, ◌/◌, ◌^◌, ◌∷◌}
use Rattle.laws.specs.Prelude.{Bool, Bool·beq, List, [], cond, eqb, false, not, set, suc, true, zero, ℕ}
use Rattle.std.specs.Int.Count.{count_trailing_zeros}
use Rattle.bitmap.specs.Bits.{bit_at}
use Rattle.bucket_model.specs.Layout.{Lay, word, words_of}

-- a storey's place: so many words from base on. Bit j of it is bit j % 64 of its word j / 64
pub record Storey : Type 0 where
  pub base : ℕ
  pub words : ℕ

-- the storey below d others, which begin at word o
abbrev pub storey : ℕ → ℕ → Storey
storey o d = record { base = o + words_of d; words = 64 ^ d }

-- d storeys from word o on, "top first"; in the list the lowest is first, and each has a bit for each word of the one below it
abbrev pub storeys_from : ℕ → ℕ → List Storey
storeys_from o zero = []
storeys_from o (suc d) = storey o d ∷ storeys_from o d

abbrev pub storeys_at : Lay → List Storey
storeys_at k = storeys_from k.bits k.storeys

-- ---- one storey

abbrev pub word_of : List ℕ → Storey → ℕ → ℕ
word_of b p j = word b (p.base + j / 64)

abbrev pub bit_of : List ℕ → Storey → ℕ → Bool
bit_of b p j = eqb (bit_at (word_of b p j) (j % 64)) 1

-- a word with one bit more, or one less
abbrev pub switched : Bool → ℕ → ℕ → ℕ
switched true w k = w + 2 ^ k
switched false w k = w - 2 ^ k

-- .. and that bit
abbrev pub bit_for : Bool → ℕ
bit_for true = 1
bit_for false = 0

-- does the storey above change: the word was 0, or is 0 now
abbrev pub tells_above : Bool → ℕ → ℕ → Bool
tells_above true w v = eqb w 0
tells_above false w v = eqb v 0

-- ---- all storeys

-- "A bit is set exactly if something is held below it": a rank's bit set or cleared, and the bits above it as far as a word was, or becomes, 0
abbrev pub edit : Bool → List ℕ → List Storey → ℕ → List ℕ
edit on b [] j = b
edit on b (p ∷ ps) j =
    let w = word_of b p j in
    let v = switched on w (j % 64) in
    let b1 = set b (p.base + j / 64) v in
    cond (tells_above on w v) (edit on b1 ps (j / 64)) b1

-- "The lowest set bit of a word is found by the language's own count of trailing zeros": the lowest rank, from the top storey down
abbrev pub find : List ℕ → List Storey → ℕ
find b [] = 0
find b (p ∷ ps) = 64 * find b ps + count_trailing_zeros 64 (word b (p.base + find b ps))

-- on the way down no word is 0
abbrev pub opens : List ℕ → List Storey → Bool
opens b [] = true
opens b (p ∷ ps) = opens b ps && not (eqb (word b (p.base + find b ps)) 0)

-- "head, tail and the rank's bit must agree on emptiness; the group's bit must agree with whether its word is 0": on the way up from bit j each bit agrees with what is below it, a bucket that is empty or not, and then the words
abbrev pub agree : List ℕ → List Storey → ℕ → Bool → Bool
agree b [] j empty = true
agree b (p ∷ ps) j empty = not (Bool·beq empty (bit_of b p j)) && agree b ps (j / 64) (eqb (word_of b p j) 0)

-- ---- the queue's ranks

-- a rank's bits set, or cleared
unfoldable pub signalled : Bool → Lay → List ℕ → ℕ → List ℕ
signalled on k b r = edit on b (storeys_at k) r

unfoldable pub lowest_rank : Lay → List ℕ → ℕ
lowest_rank k b = find b (storeys_at k)

unfoldable pub lowest_open : Lay → List ℕ → Bool
lowest_open k b = opens b (storeys_at k)

unfoldable pub rank_agrees : Lay → List ℕ → ℕ → Bool → Bool
rank_agrees k b r empty = agree b (storeys_at k) r empty
