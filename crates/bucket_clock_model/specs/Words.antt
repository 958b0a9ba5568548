-- A storey on the words: its bits, a count for each bit, and its tests. These are definitions.
use Rattle.std.specs.Prelude.{◌%◌, ◌&&◌, ◌*◌, ◌+◌, ◌-◌, ◌/◌, ◌^◌}
use Rattle.laws.specs.Prelude.{Element, Bool, Bool·beq, List, Request, eqb, false, leb, ltb, not, pred, set, suc, true, zero, ℕ}
use Rattle.std.specs.Int.Count.{count_trailing_zeros}
use Rattle.bucket_model.specs.declared.Lay.{Lay}
use Rattle.bucket_model.specs.Prelude.{Storey, bit_of, word}
use Rattle.std.specs.Prelude.{Option}
use Rattle.std.specs.Prelude.{None, Some}
use Rattle.bucket_clock_model.specs.Lists.{newcomer, takes}
use Rattle.bucket_clock_model.specs.Pipe.{lead}

pub record Floor : Type 0 where
  pub bits : List ℕ
  pub counts : List ℕ

abbrev pub floor : List ℕ → List ℕ → Floor
floor b c = record { bits = b; counts = c }

-- "word 64 + 64 g + k belongs to bit k of word 1 + g of the bits": 64 counts for each word of bits, in their order
abbrev pub count_at : Storey → ℕ → ℕ
count_at p j = 64 * p.base + j

-- "the lowest set bit of the word that the way names; .. the way becomes way * 64 + that bit"
abbrev pub way_below : Storey → List ℕ → ℕ → ℕ
way_below p b w = 64 * w + count_trailing_zeros 64 (word b (p.base + w))

-- "its count falls by one, and at 0 the bit is cleared"
abbrev pub bit_off : Storey → ℕ → ℕ → List ℕ → List ℕ
bit_off p m zero b = set b (p.base + m / 64) (word b (p.base + m / 64) - 2 ^ (m % 64))
bit_off p m (suc n) b = b

unfoldable pub storey_take : Storey → ℕ → Floor → Floor
storey_take p m s = let n = pred (word s.counts (count_at p m)) in floor (bit_off p m n s.bits) (set s.counts (count_at p m) n)

-- "the count of x's bit rises by one; the bit is set"
abbrev pub bit_on : Storey → ℕ → ℕ → List ℕ → List ℕ
bit_on p j zero b = set b (p.base + j / 64) (word b (p.base + j / 64) + 2 ^ (j % 64))
bit_on p j (suc n) b = b

unfoldable pub storey_put : Storey → ℕ → Floor → Floor
storey_put p j s = let n = word s.counts (count_at p j) in floor (bit_on p j n s.bits) (set s.counts (count_at p j) (suc n))

-- the stage: what is taken, and then what is put
abbrev pub take_if : Storey → Bool → ℕ → Floor → Floor
take_if p true w s = storey_take p (way_below p s.bits w) s
take_if p false w s = s

abbrev pub put_if : Storey → ℕ → Option Element → Floor → Floor
put_if p d None s = s
put_if p d (Some x) s = storey_put p (lead d x.rank.0) s

-- the storey above d others works at a request that has come the way w
abbrev pub staged : Storey → ℕ → Request → ℕ → Floor → Floor
staged p d q w s = put_if p d (newcomer q) (take_if p (takes q) w s)

-- the way that goes down with an operation: "Numbers that a kind does not use are written 0"
abbrev pub way_if : Bool → ℕ → ℕ
way_if true m = m
way_if false m = 0

-- ---- the tests of a stage

-- D3, a pop that has come the way w: "the way is at least 64^(i-1); or its word is 0; or the count of the lowest set bit is 0 or above N"
unfoldable pub take_ok : ℕ → Storey → ℕ → Floor → Bool
take_ok n p w s =
    let c = word s.counts (count_at p (way_below p s.bits w)) in
    ltb w p.words && not (eqb (word s.bits (p.base + w)) 0) && not (eqb c 0) && leb c n

-- D2, a push below bit j: "the bit is set and its count 0, or clear and its count not 0; or the count is N or above"
unfoldable pub put_ok : ℕ → Storey → ℕ → Floor → Bool
put_ok n p j s =
    let c = word s.counts (count_at p j) in
    not (Bool·beq (eqb c 0) (bit_of s.bits p j)) && ltb c n

abbrev pub take_if_ok : ℕ → Storey → Bool → ℕ → Floor → Bool
take_if_ok n p true w s = take_ok n p w s
take_if_ok n p false w s = true

-- .. "x's rank is at least R"
abbrev pub put_if_ok : Lay → Storey → ℕ → Option Element → Floor → Bool
put_if_ok k p d None s = true
put_if_ok k p d (Some x) s = ltb x.rank.0 k.ranks && put_ok k.nodes p (lead d x.rank.0) s

-- "a replace makes the pop's tests, and then the push's on the words as after the pop"
unfoldable pub storey_ok : Lay → Storey → ℕ → Request → ℕ → Floor → Bool
storey_ok k p d q w s = take_if_ok k.nodes p (takes q) w s && put_if_ok k p d (newcomer q) (take_if p (takes q) w s)
