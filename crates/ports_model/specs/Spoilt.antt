-- One spoilt word for each test of the pool and of a port, on two ports and three nodes: what the calls say then, in numbers. These are definitions.
use Rattle.std.specs.Prelude.{◌∷◌, ◌≡◌}
use Rattle.laws.specs.Prelude.{List, Pop, Push, Replace, Request, [], count_number, element, number_of, replicate, ℕ}
use Rattle.bucket_model.specs.Prelude.{Spoil, Store, in_bits, in_words, nothing, spoil, store, write}
use Rattle.ports_model.specs.Calls.{held_count}
use Rattle.ports_model.specs.Runs.{asked}
use Rattle.ports_model.specs.Cases.{two_ports}

-- words that are 0 but for these: port 1 has its bits from word 65 on, its heads from word 8192 on and its tails from word 12288 on; link l has its tag at word 16381 + 3l, length and next behind it; the free link at word 16393; port 0 has held, floor and ceiling at words 16394 to 16396, port 1 at words 16397 to 16399
abbrev pub shared : Store
shared =
    store (write (replicate 130 0) ((65, 1) ∷ (66, 128) ∷ []))
    (write (replicate 16400 0) ((8199, 1) ∷ (12295, 2) ∷ (16384, 50) ∷ (16385, 500) ∷ (16386, 2) ∷ (16387, 60) ∷ (16388, 600) ∷ (16393, 3) ∷ (16395, 1) ∷ (16396, 2) ∷ (16397, 2) ∷ (16399, 3) ∷ []))

abbrev pub says : ℕ → Request → Store → ℕ
says p q x = number_of (asked two_ports p q x).answer

abbrev pub says_held : ℕ → Store → ℕ
says_held p x = count_number (held_count two_ports p x.bits x.words)

-- of a store as it stands: held, a pop and a push of 9/90/900 at port 0; held, a pop, that push and a replace with 9/90/900 at port 1; and, before 2, a rank that there is not, a replace without a tag, and port 2, before both
abbrev pub numbers : Store → List ℕ
numbers x =
    says_held 0 x ∷ says 0 Pop x ∷ says 0 (Push (element 9 90 900)) x
    ∷ says_held 1 x ∷ says 1 Pop x ∷ says 1 (Push (element 9 90 900)) x ∷ says 1 (Replace (element 9 90 900)) x
    ∷ says 0 (Push (element 4096 0 0)) x ∷ says 1 (Replace (element 9 0 0)) x ∷ says 2 (Push (element 4096 0 0)) x ∷ []

-- the spoilt word, and the numbers
pub record Row : Type 0 where
  pub spoilt : Spoil
  pub wants : List ℕ

abbrev pub row : Spoil → List ℕ → Row
row x ns = record { spoilt = x; wants = ns }

abbrev pub at : Row → Store
at r = spoil r.spoilt shared

-- the numbers are these, and whatever is refused leaves every word
pub record Right (r : Row) : Type 0 where
  pub numbers-are : numbers (at r) ≡ r.wants
  pub bits : (p : ℕ) (q : Request) → (says p q (at r) ≡ 0 → ⊥) → (asked two_ports p q (at r)).bits ≡ (at r).bits
  pub words : (p : ℕ) (q : Request) → (says p q (at r) ≡ 0 → ⊥) → (asked two_ports p q (at r)).words ≡ (at r).words

unfoldable pub spoilt_table : List Row
spoilt_table =
    -- port 0 may hold 1 to 2 and holds nothing; port 1 may hold up to 3 and holds two of rank 7, in links 1 and 2: nothing is spoilt
    row nothing (0 ∷ 6 ∷ 0 ∷ 0 ∷ 0 ∷ 5 ∷ 0 ∷ 4 ∷ 7 ∷ 8 ∷ [])
    -- at every port the floor is at most the ceiling: that of port 0 is above it
    ∷ row (in_words 16396 0) (2 ∷ 2 ∷ 2 ∷ 2 ∷ 2 ∷ 2 ∷ 2 ∷ 4 ∷ 7 ∷ 8 ∷ [])
    -- .. and so is held: that of port 1 is above it
    ∷ row (in_words 16399 1) (2 ∷ 2 ∷ 2 ∷ 2 ∷ 2 ∷ 2 ∷ 2 ∷ 4 ∷ 7 ∷ 8 ∷ [])
    -- the sum of the larger of held and floor is at most N: 2 and 2 are not
    ∷ row (in_words 16395 2) (2 ∷ 2 ∷ 2 ∷ 2 ∷ 2 ∷ 2 ∷ 2 ∷ 4 ∷ 7 ∷ 8 ∷ [])
    -- the free link is at most N
    ∷ row (in_words 16393 4) (2 ∷ 2 ∷ 2 ∷ 2 ∷ 2 ∷ 2 ∷ 2 ∷ 4 ∷ 7 ∷ 8 ∷ [])
    -- free link 0 exactly if all ports together hold N: it is 0, and they hold 2
    ∷ row (in_words 16393 0) (2 ∷ 2 ∷ 2 ∷ 2 ∷ 2 ∷ 2 ∷ 2 ∷ 4 ∷ 7 ∷ 8 ∷ [])
    -- .. they hold 3, and it is not 0
    ∷ row (in_words 16394 1) (2 ∷ 2 ∷ 2 ∷ 2 ∷ 2 ∷ 2 ∷ 2 ∷ 4 ∷ 7 ∷ 8 ∷ [])
    -- a port's top word is 0 exactly if it holds nothing: that of port 1 is 0
    ∷ row (in_bits 65 0) (0 ∷ 6 ∷ 0 ∷ 2 ∷ 2 ∷ 2 ∷ 2 ∷ 4 ∷ 7 ∷ 8 ∷ [])
    -- .. that of port 0 is not
    ∷ row (in_bits 0 1) (2 ∷ 2 ∷ 2 ∷ 0 ∷ 0 ∷ 5 ∷ 0 ∷ 4 ∷ 7 ∷ 8 ∷ [])
    -- a bucket is tested by its own port alone: no head of rank 7 at port 1
    ∷ row (in_words 8199 0) (0 ∷ 6 ∷ 0 ∷ 0 ∷ 2 ∷ 5 ∷ 2 ∷ 4 ∷ 7 ∷ 8 ∷ [])
    -- the taken node's next is 0 exactly where all ports together hold N − 1
    ∷ row (in_words 16392 1) (0 ∷ 6 ∷ 2 ∷ 0 ∷ 0 ∷ 5 ∷ 0 ∷ 4 ∷ 7 ∷ 8 ∷ [])
    ∷ []
