-- The strips that wait, each with its flow and weight, and what one call makes of them. A queue keeps neither flow nor weight, so which of two
-- waiting strips with one and the same element has left is not told: a ledger may strike out either.
use Rattle.std.specs.Prelude.{◌*◌, ◌++◌, ◌+◌, ◌<◌, ◌∷◌, ◌≡◌, ◌≤◌}
use Rattle.laws.specs.Prelude.{All, Any, Bool, Element, List, [], element, eqb, false, get_or, length, suc, sum_of, true, upd, zero, ℕ}
use Rattle.promise.specs.Prelude.{hit}
use Rattle.fair_model.specs.Ranks.{cells, finish, Good, latest, step}

-- a waiting strip
pub record Strip : Type 0 where
  pub flow : ℕ
  pub weight : ℕ
  pub element : Element

abbrev pub no_strip : Strip
no_strip = record { flow = 0; weight = 0; element = element 0 0 0 }

abbrev pub rank : Strip → ℕ
rank x = x.element.rank.0

abbrev pub bytes : Strip → ℕ
bytes x = x.element.length.0

-- what a strip adds to its flow's last finish
abbrev pub cost : Strip → ℕ
cost x = cells (bytes x) * step x.weight

-- a list without what stands at a place
unfoldable pub without : {A : Type 0} → ℕ → List A → List A
without n [] = []
without zero (x ∷ l) = l
without (suc n) (x ∷ l) = x ∷ without n l

-- how many waiting strips have an element that passes the test
abbrev pub listed : List Strip → (Element → Bool) → ℕ
listed l f = sum_of (λ x. hit (f x.element)) l

-- ---- clock, last finishes and ledger
pub record World : Type 0 where
  pub clock : ℕ
  pub last : ℕ → ℕ
  pub waiting : List Strip

abbrev pub fresh : World
fresh = record { clock = 0; last = λ i. 0; waiting = [] }

-- what a call comes to: nothing where it is refused, a strip that comes in, the strip at a place of the ledger that goes out, or a reset
pub data Move : Type 0 where
  stays : Move
  comes : (flow weight bytes tag : ℕ) → Move
  goes : ℕ → Move
  anew : Move

abbrev pub entry : World → ℕ → ℕ → ℕ → ℕ → Strip
entry s f w n t = record { flow = f; weight = w; element = element (finish s.clock (s.last f) w n) t n }

abbrev pub found : World → ℕ → Strip
found s p = get_or s.waiting p no_strip

-- "that is its rank, and the clock becomes the rank of what is popped"; "a reset sets the clock and all finishes to 0"
unfoldable pub moved : Move → World → World
moved stays s = s
moved (comes f w n t) s =
    record {
      clock = s.clock;
      last = upd s.last f (finish s.clock (s.last f) w n);
      waiting = s.waiting ++ entry s f w n t ∷ [];
    }
moved (goes p) s = record { clock = rank (found s p); last = s.last; waiting = without p s.waiting }
moved anew s = fresh

-- what the rules ask of a call that is not refused: limits and no spent clock; a waiting strip of the lowest rank; nothing held
abbrev pub Lawful : Move → World → Type 0
Lawful stays s = Unit {0}
Lawful (comes f w n t) s = Good f w n × (finish s.clock (s.last f) w n ≤ latest)
Lawful (goes p) s = (p < length s.waiting) × All (λ x. rank (found s p) ≤ rank x) s.waiting
Lawful anew s = s.waiting ≡ []

-- ---- lists of calls
unfoldable pub run : List Move → World → World
run [] s = s
run (v ∷ vs) s = run vs (moved v s)

abbrev pub AllLawful : List Move → World → Type 0
AllLawful [] s = Unit {0}
AllLawful (v ∷ vs) s = Lawful v s × AllLawful vs (moved v s)

-- the cells of a flow that a list of calls serves
abbrev pub cells_if : Bool → Strip → ℕ
cells_if true x = cells (bytes x)
cells_if false x = 0

unfoldable pub served_by : ℕ → Move → World → ℕ
served_by i stays s = 0
served_by i (comes f w n t) s = 0
served_by i (goes p) s = cells_if (eqb (found s p).flow i) (found s p)
served_by i anew s = 0

unfoldable pub served : ℕ → List Move → World → ℕ
served i [] s = 0
served i (v ∷ vs) s = served_by i v s + served i vs (moved v s)

-- ---- a stretch in which a flow keeps one weight and always has something waiting
abbrev pub Waits : ℕ → World → Type 0
Waits i s = Any (λ x. x.flow ≡ i) s.waiting

-- before each call
abbrev pub Busy : ℕ → List Move → World → Type 0
Busy i [] s = Unit {0}
Busy i (v ∷ vs) s = Waits i s × Busy i vs (moved v s)

abbrev pub Weighs : ℕ → ℕ → Move → Type 0
Weighs i w stays = Unit {0}
Weighs i w (comes f v n t) = f ≡ i → v ≡ w
Weighs i w (goes p) = Unit {0}
Weighs i w anew = Unit {0}

pub record Steady (i w : ℕ) (vs : List Move) (s : World) : Type 0 where
  -- "also for strips waiting at its start"
  pub waiting : All (λ x. x.flow ≡ i → x.weight ≡ w) s.waiting
  pub pushed : All (Weighs i w) vs
  pub busy : Busy i vs s

-- two numbers differ by at most d
pub record Within (d a b : ℕ) : Type 0 where
  pub above : a ≤ b + d
  pub under : b ≤ a + d
