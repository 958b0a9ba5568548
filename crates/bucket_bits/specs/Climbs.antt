-- What the functions on the bits ask of their callers, and what they promise. These are definitions.
use Rattle.std.specs.Prelude.{◌%◌, ◌&&◌, ◌+◌, ◌/◌, ◌<◌, ◌^◌, ◌∷◌, ◌≡◌, ◌≤◌}
use Rattle.std.specs.Prelude.{None, Option, Some}
use Rattle.laws.specs.Prelude.{Bool, Bool·beq, List, [], cond, eqb, false, length, not, true, ℕ}
use Rattle.bitmap.specs.Bits.{bit_at}
use Rattle.bucket_model.specs.Prelude.{Storey, agree, bit_for, bit_no, edit, find, opens, storeys_from, switched, tells_above, word, word_of, words_of}
use Rattle.bucket_bits.specs.declared.Climb.{Climb}

-- storeys from word o on that are all there; no more of them than a rank has room for
pub record Tall (b : List ℕ) (o d tower : ℕ) : Type 0 where
  pub words : tower ≡ words_of d
  pub long : o + words_of d ≤ length b
  pub some : 1 ≤ d
  pub few : 64 ^ d ≤ 4294967296

-- bit j can be set, or cleared: it is not so yet, and neither are those above that it changes
abbrev pub Switchable : Bool → List ℕ → List Storey → ℕ → Type 0
Switchable on b [] j = Unit {0}
Switchable on b (p ∷ ps) j = (bit_no b p j ≡ bit_for (not on)) × (tells_above on (word_of b p j) (switched on (word_of b p j) (j % 64)) ≡ true → Switchable on b ps (j / 64))

-- a bit that does not change: it is set
abbrev pub Stays : List ℕ → List Storey → ℕ → Type 0
Stays b [] j = Unit {0}
Stays b (p ∷ ps) j = bit_no b p j ≡ 1

pub record Signalling (on changes : Bool) (b : List ℕ) (ps : List Storey) (j : ℕ) : Type 0 where
  pub turns : changes ≡ true → Switchable on b ps j
  pub stays : changes ≡ false → Stays b ps j

pub record Switching (b : List ℕ) (on changes : Bool) (at k : ℕ) : Type 0 where
  pub inside : at < length b
  pub bit< : k < 64
  pub bit : changes ≡ true → bit_at (word b at) k ≡ bit_for (not on)
  pub stays : changes ≡ false → bit_at (word b at) k ≡ 1

-- the way down where it is open: where it leads, and the rank's bits can be cleared
pub record LeadsTo (b : List ℕ) (o d : ℕ) (rank : ℕ) : Type 0 where
  pub way : opens b (storeys_from o d) ≡ true
  pub to : rank ≡ find b (storeys_from o d)
  pub within : rank < 64 ^ d
  pub set : Switchable false b (storeys_from o d) rank

-- .. and nowhere where it is not
abbrev pub Leads : List ℕ → ℕ → ℕ → Option ℕ → Type 0
Leads b o d None = opens b (storeys_from o d) ≡ false
Leads b o d (Some rank) = LeadsTo b o d rank

-- the bits that a pop leaves: those of its rank cleared, if it clears them
abbrev pub bits_left : List ℕ → ℕ → ℕ → Bool → ℕ → List ℕ
bits_left b o d clears gone = cond clears (edit false b (storeys_from o d) gone) b

-- what these bits say of a rank, and their top word where they agree
abbrev pub Agreed : List ℕ → ℕ → ℕ → Bool → ℕ → Bool → ℕ → Option ℕ → Type 0
Agreed b o d clears gone empty own None = agree (bits_left b o d clears gone) (storeys_from o d) own empty ≡ false
Agreed b o d clears gone empty own (Some top) = (agree (bits_left b o d clears gone) (storeys_from o d) own empty ≡ true) × (top ≡ word (bits_left b o d clears gone) o)

-- ---- one storey on the way up

abbrev pub cleared : ℕ → Bool → ℕ → ℕ
cleared w clears k = cond clears (switched false w k) w

-- the word that the rank's bit is in
abbrev pub word_left : List ℕ → ℕ → Bool → ℕ → ℕ → ℕ
word_left b o clears gone own = cond (eqb (gone / 64) (own / 64)) (cleared (word b (o + gone / 64)) clears (gone % 64)) (word b (o + own / 64))

-- .. and what the pop clears above, if the rank's bit agrees with what is below it
unfoldable pub climbed : List ℕ → ℕ → Climb → ℕ → ℕ → Option Climb
climbed b o c gone own =
    let w = word_left b o c.clears gone own in
    cond (Bool·beq c.empty (eqb (bit_at w (own % 64)) 1)) None
    (Some (record {
      clears = c.clears && eqb (cleared (word b (o + gone / 64)) c.clears (gone % 64)) 0;
      empty = eqb w 0;
      top = w;
    }))

pub record Climbable (b : List ℕ) (o : ℕ) (clears : Bool) (gone own : ℕ) : Type 0 where
  pub gone< : o + gone / 64 < length b
  pub own< : o + own / 64 < length b
  pub bit : clears ≡ true → bit_at (word b (o + gone / 64)) (gone % 64) ≡ 1
