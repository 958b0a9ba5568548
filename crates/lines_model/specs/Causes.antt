-- For which facts the lines refuse, in the words of the rules. These are definitions.
use Rattle.std.specs.Prelude.{◌+◌, ◌<◌, ◌∷◌, ◌≡◌, ◌≤◌, ◌⊎◌}
use Rattle.laws.specs.Prelude.{All, Element, Idle, List, Pop, Push, Replace, Request, [], true, ℕ}
use Rattle.lines_model.specs.Layout.{line_of, power_of_two, row_at, row_in, Rows, store_words, word}

-- ---- 1, bad shape: "the kind is 1 or 2, Q a power of two from 1 to 512, W from 1 to 1,024"
pub record Shaped (k : Rows) (long : ℕ) : Type 0 where
  pub kind : (k.kind ≡ 1) ⊎ (k.kind ≡ 2)
  pub lines : power_of_two k.lines ≡ true
  pub low : 1 ≤ k.places
  pub high : k.places ≤ 1024
  pub words : store_words k ≤ long

-- ---- 4: kind 1, "ranks 0 to 65,535; above, refusal 4"
abbrev pub InRange : Rows → Element → Type 0
InRange k x = k.kind ≡ 1 → x.rank.0 < 65536

abbrev pub Ranked : Rows → Request → Type 0
Ranked k Idle = Unit {0}
Ranked k (Push x) = InRange k x
Ranked k Pop = Unit {0}
Ranked k (Replace x) = InRange k x

-- ---- 5, by the counts c. Push: "the line of x's rank is full"; kind 2 "all lines are full"
pub record NoRoom (k : Rows) (c : ℕ → ℕ) (x : Element) : Type 0 where
  pub one : k.kind ≡ 1 → x.rank.0 < 65536 → k.places ≤ c (line_of k x.rank.0)
  pub two : (k.kind ≡ 1 → ⊥) → (l : ℕ) → l < k.lines → k.places ≤ c l

-- replace, where line l gives and x goes to line g: "where it is another one and is full"
abbrev pub NoRoomAfter : Rows → (ℕ → ℕ) → ℕ → ℕ → Type 0
NoRoomAfter k c l g = (l ≡ g → ⊥) × (k.places ≤ c g)

-- ---- 2, damaged

-- "every one of the Q counts is at most W"
abbrev pub CountsFit : Rows → List ℕ → Type 0
CountsFit k w = (l : ℕ) → l < k.lines → word w l ≤ k.places

-- "the ranks of places 0 to c − 1 ascend (each at most the next)"
abbrev pub Ascends : List Element → Type 0
Ascends [] = Unit {0}
Ascends (x ∷ []) = Unit {0}
Ascends (x ∷ y ∷ l) = (x.rank.0 ≤ y.rank.0) × Ascends (y ∷ l)

-- kind 1: "the rank .. is at most 65,535 and belongs to this line"
abbrev pub Own : Rows → ℕ → Element → Type 0
Own k l x = k.kind ≡ 1 → (x.rank.0 < 65536) × (line_of k x.rank.0 ≡ l)

-- a line of c elements; "place c, where c is below W, is 0, 0, 0"
pub record LineFit (k : Rows) (w : List ℕ) (l c : ℕ) : Type 0 where
  pub ascends : Ascends (row_in w (row_at k l) c)
  pub own : All (Own k l) (row_in w (row_at k l) c)
  pub blank : c < k.places → (word w (row_at k l + (c + c + c)) ≡ 0) × (word w (row_at k l + (c + c + c) + 1) ≡ 0) × (word w (row_at k l + (c + c + c) + 2) ≡ 0)
