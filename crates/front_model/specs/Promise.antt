-- What is promised of the front is said in these words: the front as a clock, its drain, and what it holds. These are definitions.
use Rattle.std.specs.Prelude.{◌&&◌, ◌*◌, ◌+◌, ◌≡◌, ◌≤◌}
use Rattle.laws.specs.Prelude.{Answer, Bool, Element, Idle, List, Pop, Push, Replace, Request, cond, element, false, ltb, not, suc, true, zero, ℕ}
use Rattle.agreement.specs.Plain.{number_for}
use Rattle.bucket_clock_model.specs.Clock.{late_table}
use Rattle.bucket_clock_model.specs.declared.Waiting.{Waiting}
use Rattle.bucket_clock_model.specs.Desk.{work_at}
use Rattle.bucket_clock_model.specs.Lists.{many}
use Rattle.bucket_clock_model.specs.Promise.{in_machine, Rest}
use Rattle.bucket_model.specs.declared.Lay.{Lay}
use Rattle.bucket_model.specs.Prelude.{queue, word}
use Rattle.promise.specs.Prelude.{Clock, Drained, Step, drains_by, grants, step}
use Rattle.front_model.specs.Damage.{FrontFit, FrontShaped, PlacesFit}
use Rattle.front_model.specs.Desk.{all_held, FrontDesk, front_in, front_ok, front_run, front_shape_ok, front_cycled, front_wiped, front_words, place_at, place_count, places_ok}

-- ---- pending work

abbrev pub is_idle : Request → Bool
is_idle Idle = true
is_idle (Push x) = false
is_idle Pop = false
is_idle (Replace x) = false

-- nothing is pending in d records from record i on
unfoldable pub quiet : ℕ → List Waiting → ℕ → Bool
quiet zero rs i = true
quiet (suc d) rs i = is_idle (work_at rs i).does && quiet d rs (suc i)

abbrev pub front_pending : Lay → FrontDesk → Bool
front_pending k m = not (quiet k.storeys m.behind.records 0)

-- ---- the front as a clock: 1, 2, 4, 7, then 5 or 6. "Every pop is answered in its own cycle"
abbrev pub front_clock : Lay → Clock Request FrontDesk
front_clock k =
    record {
      wants = λ q. q;
      call = λ q. q;
      shape_ok = front_shape_ok k;
      Shape = FrontShaped k;
      sound_ok = front_ok k;
      Torn = λ q m. FrontFit k q m → ⊥;
      late = λ q m. late_table k.ranks k.nodes q (all_held k m);
      gives = λ q m. grants q (place_at m.front 0);
      moves = front_run k;
      root_ok = places_ok k;
      RootTorn = λ m. PlacesFit k m → ⊥;
      held = all_held k;
      wipe = front_wiped k;
      pending = front_pending k;
    }

-- the calls as steps; "Drain is the clocked tree's"
abbrev pub front_queue : Lay → Request → FrontDesk → Step Answer FrontDesk
front_queue k q m = let o = front_cycled k q m in step o.answer o.words

unfoldable pub front_drained : Lay → ℕ → FrontDesk → Drained FrontDesk
front_drained k b m = drains_by (front_queue k) (front_pending k) (front_shape_ok k m) b m

-- ---- what is held: in the front, in the buckets, and in the records
abbrev pub front_stored : FrontDesk → Lay → (Element → Bool) → ℕ
front_stored m k f = many f (front_in m.front) + in_machine k m.behind f

-- ---- "ranks and refusals are the plain list's in rank order", with 4 before the others
abbrev pub high_rank : ℕ → Request → Bool
high_rank R Idle = false
high_rank R (Push x) = not (ltb x.rank.0 R)
high_rank R Pop = false
high_rank R (Replace x) = not (ltb x.rank.0 R)

abbrev pub rank_number : ℕ → ℕ → Request → ℕ → ℕ
rank_number R c q h = cond (high_rank R q) 4 (number_for c q h)

-- ---- the front's words in plain numbers, of n nodes: five places at two storeys, seven at three
pub record FrontLies (n : ℕ) : Type 0 where
  pub places-two : place_count (queue 2 n) ≡ 5
  pub places-three : place_count (queue 3 n) ≡ 7
  pub words-two : front_words (queue 2 n) ≡ 16
  pub words-three : front_words (queue 3 n) ≡ 22
  -- "the front's count f, then k places of rank, tag, length"
  pub place : (w : List ℕ) (i : ℕ) → place_at w i ≡ element (word w (3 * i + 1)) (word w (3 * i + 2)) (word w (3 * i + 3))

-- ---- "Longer slices are taken; the rest is never touched"
pub record FrontRest (k : Lay) (m o : FrontDesk) : Type 0 where
  pub front : (i : ℕ) → front_words k ≤ i → word o.front i ≡ word m.front i
  pub behind : Rest k m.behind o.behind
