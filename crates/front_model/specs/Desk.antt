-- The front on its words, before the clocked bucket queue: its calls as functions of every word that they are lent to what they answer and every word
-- that they leave.
-- These are definitions, and the contracts cite them.
use Rattle.std.specs.Prelude.{◌%◌, ◌&&◌, ◌*◌, ◌+◌, ◌/◌, ◌∷◌}
use Rattle.laws.specs.Prelude.{BadShape, Bool, Damaged, Element, Idle, List, Request, [], blank, cond, element_in, element_numbers, eqb, false, get_or, is_blank, leb, length, ltb, not, pred, suc, true, zero, ℕ, Result, Refusal, Ok, Err, None}
use Rattle.bucket_clock_model.specs.Clock.{late_table}
use Rattle.std.specs.Prelude.{Option}
use Rattle.bucket_clock_model.specs.declared.Waiting.{Waiting}
use Rattle.bucket_clock_model.specs.Desk as clock
use Rattle.bucket_clock_model.specs.Desk.{Desk, desk_ok, stages_ok, cycle_run, waiting, work_at}
use Rattle.bucket_clock_model.specs.Links.{bucket_leaves}
use Rattle.bucket_clock_model.specs.Lists.{left, newcomer, placed, takes}
use Rattle.bucket_model.specs.Prelude.{fill, word}
use Rattle.bucket_model.specs.declared.Lay.{Lay}
use Rattle.promise.specs.Prelude.{Outcome, Ruling, decided, grants, hit, left as stood, outcome, ruling}
use Rattle.front_model.specs.Handed.{asks, handed, leaked, stays}

-- "One more slice": the front's words, and all that the clocked bucket queue is lent
pub record FrontDesk : Type 0 where
  pub front : List ℕ
  pub behind : Desk

abbrev pub front_desk : List ℕ → Desk → FrontDesk
front_desk w m = record { front = w; behind = m }

-- ---- the places

-- "A sorted front of k = 2S + 1 places"
abbrev pub place_count : Lay → ℕ
place_count k = k.storeys + k.storeys + 1

-- "at least 1 + 3k words: the front's count f, then k places of rank, tag, length"
abbrev pub front_words : Lay → ℕ
front_words k = 1 + 3 * place_count k

abbrev pub place_at : List ℕ → ℕ → Element
place_at w i = element_in w (1 + 3 * i)

-- n places from place i on
unfoldable pub places_from : List ℕ → ℕ → ℕ → List Element
places_from w i zero = []
places_from w i (suc n) = place_at w i ∷ places_from w (suc i) n

-- "elements at places 0 to f - 1"
abbrev pub front_in : List ℕ → List Element
front_in w = places_from w 0 (word w 0)

-- word j of a front that holds l: the count; rank, tag and length of each place, "all others 0, 0, 0"
abbrev pub front_word : List Element → ℕ → ℕ
front_word l zero = length l
front_word l (suc j) = get_or (element_numbers (get_or l (j / 3) blank)) (j % 3) 0

-- "Longer slices are taken; the rest is never touched"
unfoldable pub front_of : Lay → List Element → List ℕ → List ℕ
front_of k l w = fill (front_word l) (front_words k) w

-- ---- what is held

-- "On the way are as many as there are records of kind pop or replace": of d records from record i on
unfoldable pub on_way : ℕ → List Waiting → ℕ → ℕ
on_way zero rs i = 0
on_way (suc d) rs i = hit (takes (work_at rs i).does) + on_way d rs (suc i)

-- "behind are as many as the held word says"
abbrev pub behind_count : Lay → FrontDesk → ℕ
behind_count k m = word m.behind.words k.held

-- "Held is the sum of the three"
unfoldable pub all_held : Lay → FrontDesk → ℕ
all_held k m = word m.front 0 + on_way k.storeys m.behind.records 0 + behind_count k m

-- ---- a cycle

-- "y is what leaves the bucket stage in this cycle": of the last record
abbrev pub last_work : Lay → Desk → Waiting
last_work k m = work_at m.records (pred k.storeys)

unfoldable pub leaving_now : Lay → Desk → Option Element
leaving_now k m = bucket_leaves k (takes (last_work k m).does) (last_work k m).way m.words

-- what a request comes to at the front
pub record Facing : Type 0 where
  pub front : List Element
  pub hands : Request

-- 1 to 4: place 0 is taken out and, "if anything is behind, the front asks"; "y is placed, behind its equals; then x, behind its equals"; "if places
-- taken and elements on the way, y no longer and this cycle's asking included, are more than k together, the last place leaks"; "stage 1 is handed" what
-- is asked and what leaks
unfoldable pub faced : Lay → Request → FrontDesk → Facing
faced k q m =
    let a = asks (takes q) (behind_count k m) in
    let f = placed (newcomer q) (placed (leaving_now k m.behind) (left (takes q) (front_in m.front))) in
    let b = ltb (place_count k) (length f + (hit a + on_way (pred k.storeys) m.behind.records 0)) in
    record { front = stays b f; hands = handed a (leaked b f) }

unfoldable pub front_run : Lay → Request → FrontDesk → FrontDesk
front_run k q m = let x = faced k q m in front_desk (front_of k x.front m.front) (cycle_run k x.hands m.behind).next

-- "4, 7, then 5 (push, held is N) or 6 (held is 0)"; a pop and a replace answer place 0 "as it stands at the cycle's start"
abbrev pub front_rule : Lay → Request → FrontDesk → Ruling Request
front_rule k q m = decided (λ n. ruling (Err n) Idle) (late_table k.ranks k.nodes q (all_held k m)) (ruling (grants q (place_at m.front 0)) q)

-- ---- the tests

-- "the first f ranks do not ascend, or one is at least R"
abbrev pub ascends : List Element → Bool
ascends [] = true
ascends (x ∷ []) = true
ascends (x ∷ y ∷ l) = leb x.rank.0 y.rank.0 && ascends (y ∷ l)

abbrev pub within : ℕ → List Element → Bool
within r [] = true
within r (x ∷ l) = ltb x.rank.0 r && within r l

-- "place f, where f is below k, is not 0, 0, 0"
abbrev pub blank_ok : Bool → Element → Bool
blank_ok true e = is_blank e
blank_ok false e = true

-- what held tests: "f, or f and those on the way, above k; all held above N; .."
unfoldable pub places_ok : Lay → FrontDesk → Bool
places_ok k m =
    let f = word m.front 0 in
    leb (f + on_way k.storeys m.behind.records 0) (place_count k) && leb (all_held k m) k.nodes
    && ascends (front_in m.front) && within k.ranks (front_in m.front) && blank_ok (ltb f (place_count k)) (place_at m.front f)

-- "f is 0 and a pop or replace is accepted"
abbrev pub some_ok : Bool → ℕ → Bool
some_ok true f = not (eqb f 0)
some_ok false f = true

-- ".. beside D2 to D5 for what is pending and handed"
unfoldable pub front_ok : Lay → Request → FrontDesk → Bool
front_ok k q m =
    let u = (front_rule k q m).op in
    places_ok k m && some_ok (takes u) (word m.front 0) && stages_ok k 0 k.storeys (waiting (faced k u m).hands 0) m.behind

-- ---- the calls

unfoldable pub front_shape_ok : Lay → FrontDesk → Bool
front_shape_ok k m = desk_ok k m.behind && leb (front_words k) (length m.front)

-- "1, 2, 4, 7, then 5 .. or 6 .., then 2 of stage 1; after 4 to 7 as idle"
unfoldable pub front_cycled : Lay → Request → FrontDesk → Outcome FrontDesk
front_cycled k q m =
    cond (front_shape_ok k m) (cond (front_ok k q m) (let g = front_rule k q m in outcome g.answer (front_run k g.op m)) (stood m Damaged)) (stood m BadShape)

-- nothing in the front, and the queue behind cleared
abbrev pub front_wiped : Lay → FrontDesk → FrontDesk
front_wiped k m = front_desk (front_of k [] m.front) (clock.wiped k m.behind)

unfoldable pub front_cleared : Lay → FrontDesk → Outcome FrontDesk
front_cleared k m = cond (front_shape_ok k m) (outcome (Ok None) (front_wiped k m)) (stood m BadShape)

-- "it makes the front's tests .., and no stage's"
unfoldable pub front_held : Lay → FrontDesk → Result ℕ Refusal
front_held k m = cond (front_shape_ok k m) (cond (places_ok k m) (Ok (all_held k m)) (Err Damaged)) (Err BadShape)
