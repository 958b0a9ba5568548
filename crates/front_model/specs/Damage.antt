-- What the front's tests ask, in facts. These are definitions.
use Rattle.std.specs.Prelude.{◌+◌, ◌<◌, ◌∷◌, ◌≡◌, ◌≤◌}
use Rattle.laws.specs.Prelude.{All, Bool, Element, List, Request, Zeros, [], false, length, true, ℕ}
use Rattle.bucket_clock_model.specs.Damage.{DeskShaped, StagesFit}
use Rattle.bucket_clock_model.specs.Desk.{waiting}
use Rattle.bucket_clock_model.specs.Lists.{takes}
use Rattle.bucket_model.specs.declared.Lay.{Lay}
use Rattle.bucket_model.specs.Prelude.{word}
use Rattle.front_model.specs.Desk.{all_held, faced, FrontDesk, front_in, front_rule, front_words, on_way, place_at, place_count}

-- 1
pub record FrontShaped (k : Lay) (m : FrontDesk) : Type 0 where
  pub desk : DeskShaped k m.behind
  pub front : front_words k ≤ length m.front

-- "the first f ranks do not ascend"
abbrev pub Ascends : List Element → Type 0
Ascends [] = Unit {0}
Ascends (x ∷ []) = Unit {0}
Ascends (x ∷ y ∷ l) = (x.rank.0 ≤ y.rank.0) × Ascends (y ∷ l)

-- "f, or f and those on the way, above k; all held above N; the first f ranks do not ascend, or one is at least R; place f, where f is below k, is not 0, 0, 0"
pub record PlacesFit (k : Lay) (m : FrontDesk) : Type 0 where
  pub places : word m.front 0 + on_way k.storeys m.behind.records 0 ≤ place_count k
  pub room : all_held k m ≤ k.nodes
  pub order : Ascends (front_in m.front)
  pub ranks : All (λ x. x.rank.0 < k.ranks) (front_in m.front)
  pub blank : word m.front 0 < place_count k
      → Zeros (place_at m.front (word m.front 0))

-- "f is 0 and a pop or replace is accepted"
abbrev pub SomeFit : Bool → ℕ → Type 0
SomeFit true f = f ≡ 0 → ⊥
SomeFit false f = Unit {0}

abbrev pub FrontFit : Lay → Request → FrontDesk → Type 0
FrontFit k q m =
    PlacesFit k m × SomeFit (takes (front_rule k q m).op) (word m.front 0) × StagesFit k 0 k.storeys (waiting (faced k (front_rule k q m).op m).hands 0) m.behind
