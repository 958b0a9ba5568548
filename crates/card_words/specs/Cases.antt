-- Calls through C in plain numbers: what each of them is said by. The rows are with each queue's calls, with rank, tag and length all different (5, 50, 500).
use Rattle.std.specs.Prelude.{◌∷◌, ◌≡◌}
use Rattle.laws.specs.Prelude.{List, [], ℕ}
use Rattle.bucket_model.specs.Prelude.{filled}
use Rattle.card_words.specs.Out.{CountAfter}
use Rattle.card_words.specs.Store.{StoreAfter, StoreAfterOut}

-- ---- what a call comes to, in numbers: the number returned; each slice by its words that are not 0, with their places; and `out`
pub record Got : Type 0 where
  pub number : ℕ
  pub slices : List (List (ℕ × ℕ))
  pub out : List ℕ

abbrev pub got : ℕ → List (List (ℕ × ℕ)) → List ℕ → Got
got n l out = record { number = n; slices = l; out = out }

-- a row: what a call comes to, and what it is to come to
pub record Row : Type 0 where
  pub comes : Got
  pub should : Got

abbrev pub row : Got → Got → Row
row a b = record { comes = a; should = b }

abbrev pub Right : Row → Type 0
Right r = r.comes ≡ r.should

-- ---- each kind of outcome that several queues have
abbrev pub store_got : StoreAfter → Got
store_got o = got o.number (filled 0 o.store ∷ []) []

abbrev pub answer_got : StoreAfterOut → Got
answer_got o = got o.number (filled 0 o.store ∷ []) o.out

abbrev pub count_got : CountAfter → Got
count_got o = got o.number [] o.out

-- a size, and what it is to be
abbrev pub sized : ℕ → ℕ → Row
sized n k = row (got n [] []) (got k [] [])

-- what `out` holds before a call
abbrev pub out4 : List ℕ
out4 = 9 ∷ 8 ∷ 7 ∷ 6 ∷ []
