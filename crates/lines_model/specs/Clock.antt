-- The lines by clock cycles: "The counts change in the request's own cycle, the line in the next". What they bring to the calls that every clocked machine has
-- (`promise/specs/Clock.antt`). These are definitions.
use Rattle.std.specs.Prelude.{◌&&◌, ◌*◌, ◌+◌, ◌-◌, ◌<◌, ◌||◌, ◌≡◌, ◌≤◌, ◌⊎◌}
use Rattle.laws.specs.Prelude.{Answer, Bool, Element, List, Request, cond, eqb, false, length, ltb, true, ℕ, Result, Refusal}
use Rattle.promise.specs.Calls as calls
use Rattle.promise.specs.Prelude.{Clock, Drained, Step, cycling, drained_by, grants}
use Rattle.promise.specs.Clock as clocks
use Rattle.lines_model.specs.Causes.{CountsFit, InRange, Shaped}
use Rattle.lines_model.specs.Layout.{row_at, Rows, shape_ok, store_words, word}
use Rattle.lines_model.specs.Rules.{ask_table, Choice, choose, counted, Due, due_of, giver, goal, in_range, late_table, LinesFit, lines_ok, Put, Rest, Swap, Take, total, worked}
use Rattle.lines_model.specs.Calls.{counts_ok, heads, wipe}

-- the store, and what is pending
pub record Machine : Type 0 where
  pub words : List ℕ
  pub due : Due

abbrev pub machine : List ℕ → Due → Machine
machine w d = record { words = w; due = d }

abbrev pub is_pending : Due → Bool
is_pending Rest = false
is_pending (Put l x) = true
is_pending (Take l) = true
is_pending (Swap l x) = true

-- ---- 1. SORT: the store with all pending work done
unfoldable pub settled : Rows → Machine → List ℕ
settled k m = worked k m.due m.words

-- ---- damage

-- "the number of elements that it had before": count, less one where x comes in, one more where one leaves
abbrev pub before_put : Bool → ℕ → ℕ
before_put b n = cond b (n - 1) n

abbrev pub before_take : Bool → ℕ → ℕ
before_take b n = cond b (n + 1) n

unfoldable pub had : Rows → List ℕ → Due → ℕ → ℕ
had k w Rest j = word w j
had k w (Put l x) j = before_put (eqb j l) (word w j)
had k w (Take l) j = before_take (eqb j l) (word w j)
had k w (Swap l x) j = before_take (eqb j l) (before_put (eqb j (goal k l x)) (word w j))

-- L2 "the record's line is not below Q; or, kind 1, a push's or replace's x has a rank above 65,535, or a push's line is not that of its rank";
-- L3 "the count of a line into which the record's x goes is 0, or the count of a line that only gave is W"
unfoldable pub due_ok : Rows → List ℕ → Due → Bool
due_ok k w Rest = true
due_ok k w (Put l x) = ltb l k.lines && in_range k x && eqb (goal k l x) l && ltb 0 (word w l)
due_ok k w (Take l) = ltb l k.lines && ltb (word w l) k.places
due_ok k w (Swap l x) = ltb l k.lines && in_range k x && ltb 0 (word w (goal k l x)) && (eqb l (goal k l x) || ltb (word w l) k.places)

-- .. the facts
abbrev pub DueFit : Rows → List ℕ → Due → Type 0
DueFit k w Rest = Unit {0}
DueFit k w (Put l x) = ((l < k.lines) × InRange k x × (goal k l x ≡ l)) × (0 < word w l)
DueFit k w (Take l) = (l < k.lines) × (word w l < k.places)
DueFit k w (Swap l x) = ((l < k.lines) × InRange k x) × (0 < word w (goal k l x)) × ((l ≡ goal k l x) ⊎ (word w l < k.places))

-- L1 to L4
unfoldable pub cycle_ok : Rows → Machine → Bool
cycle_ok k m = counts_ok k m.words && due_ok k m.words m.due && lines_ok k m.words (had k m.words m.due) m.due

pub record CycleFit (k : Rows) (m : Machine) : Type 0 where
  pub counts : CountsFit k m.words
  pub due : DueFit k m.words m.due
  pub lines : LinesFit k m.words (had k m.words m.due) m.due

module _ (k : Rows) where
  -- 2. CHOOSE: "by the counts as they stand, and by first places: of a line that step 1 works at the one that step 1 leaves, of every other line the stored one"
  abbrev pub fronts : Machine → ℕ → Element
  fronts m = heads k (settled k m)

  abbrev pub due_at : Request → Machine → Due
  due_at q m = due_of k (word m.words) (fronts m) q

  abbrev pub chosen : Request → Machine → Choice
  chosen q m = choose k (word m.words) (fronts m) q

  -- 3. WRITE: "The lines of step 1 are written back; the counts .. change as one at a time; the record becomes the request's"
  abbrev pub written : Due → Machine → Machine
  written d m = machine (counted k d (settled k m)) d

  -- "Refusals in this order: 1, 2, 4 (kind 1), 7, then 5 or 6; 3 never"
  abbrev pub clock : Clock Request Machine
  clock =
      record {
        wants = λ q. q;
        call = λ q. q;
        shape_ok = λ m. shape_ok k (length m.words);
        Shape = λ m. Shaped k (length m.words);
        sound_ok = λ q m. cycle_ok k m;
        Torn = λ q m. CycleFit k m → ⊥;
        late = λ q m. ask_table k q (late_table k (word m.words) (fronts m) q);
        gives = λ q m. grants q (fronts m (giver k (word m.words) (fronts m)));
        moves = λ q m. written (due_at q m) m;
        root_ok = λ m. counts_ok k m.words;
        RootTorn = λ m. CountsFit k m.words → ⊥;
        held = λ m. total (word m.words) k.lines;
        wipe = λ m. machine (wipe (store_words k) m.words) Rest;
        pending = λ m. is_pending m.due;
      }

  -- a cycle, clear, held and a drain
  unfoldable pub cycled : Request → Machine → calls.Outcome Machine
  cycled q m = clocks.cycled clock q m

  unfoldable pub clock_cleared : Machine → calls.Outcome Machine
  clock_cleared m = clocks.cleared_to clock m

  unfoldable pub clock_held : Machine → Result ℕ Refusal
  clock_held m = clocks.held_in clock m

  unfoldable pub drains : ℕ → Machine → Drained Machine
  drains b m = drained_by clock (cycling clock) b m

  -- the clock as a step function
  abbrev pub ticking : Request → Machine → Step Answer Machine
  ticking q m = cycling clock q m

  -- "A cleared machine has nothing pending"
  abbrev pub fresh : Machine → Machine
  fresh m = (clock_cleared m).words

-- ---- what stands while work is pending

-- a word of line l
abbrev pub InLine : Rows → ℕ → ℕ → Type 0
InLine k l i = (row_at k l ≤ i) × (i < row_at k l + 3 * k.places)

-- line j is none of the record's
abbrev pub Apart : Rows → Due → ℕ → Type 0
Apart k Rest j = Unit {0}
Apart k (Put l x) j = j ≡ l → ⊥
Apart k (Take l) j = j ≡ l → ⊥
Apart k (Swap l x) j = (j ≡ l → ⊥) × (j ≡ goal k l x → ⊥)
