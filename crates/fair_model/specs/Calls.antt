-- The calls of fair ranks over the one-at-a-time tree, each a total function of all numbers and words handed in to an answer and all words afterwards.
use Rattle.std.specs.Prelude.{◌&&◌, ◌++◌, ◌<◌, ◌≤◌}
use Rattle.laws.specs.Prelude.{Answer, BadShape, Bool, Element, List, Pop, Push, blank, cond, drop, element, eqb, get_or, leb, length, ltb, refusal_number, replicate, set, suc, ℕ, Result, Refusal, Ok, Err, None, Some}
use Rattle.promise.specs.Prelude.{Step, TableOf, bars, decided, ends, needs, step}
use Rattle.tree_model.specs.Prelude.{Outcome, called, held_count}
use Rattle.fair_model.specs.Ranks.{finish, flows, Good, heaviest, latest, longest}
use Rattle.fair_model.specs.Answers.{FairAnswer}
use Rattle.std.specs.Prelude.{Ok, None, Err, Some}
use Rattle.fair_model.specs.declared.FairRefusal.{FairRefusal}
use Rattle.fair_model.specs.declared.FairRefusal.TheVariants.{BadStrip, ClockSpent, NotEmpty, Queue}

-- ---- the numbers of the refusals, and what an answer gives
abbrev pub fair_number : FairRefusal → ℕ
fair_number BadStrip = 9
fair_number ClockSpent = 10
fair_number NotEmpty = 11
fair_number (Queue r) = refusal_number r

-- .. and 0 where nothing is refused
abbrev pub answer_number : FairAnswer → ℕ
answer_number (Ok o) = 0
answer_number (Err r) = fair_number r

abbrev pub served_element : FairAnswer → Element
served_element (Ok None) = blank
served_element (Ok (Some e)) = e
served_element (Err r) = blank

-- the queue's answer, told on
abbrev pub told : Answer → FairAnswer
told (Ok None) = Ok None
told (Ok (Some e)) = Ok (Some e)
told (Err r) = Err (Queue r)

-- ---- the lent state: the clock, then the last finish of each flow. A shorter slice is refused, of a longer one the rest is never touched
abbrev pub state_words : ℕ
state_words = 65

abbrev pub clock_of : List ℕ → ℕ
clock_of st = get_or st 0 0

abbrev pub last_of : List ℕ → ℕ → ℕ
last_of st f = get_or st (suc f) 0

abbrev pub state_ok : List ℕ → Bool
state_ok st = leb state_words (length st)

-- the words lent to a call: the state, and the queue's store
pub record Desk : Type 0 where
  pub state : List ℕ
  pub store : List ℕ

abbrev pub desk : List ℕ → List ℕ → Desk
desk st ws = record { state = st; store = ws }

-- what a call comes to: its answer, and the words that it leaves
abbrev pub Reply : Type 0
Reply = Step FairAnswer Desk

abbrev pub reply : FairAnswer → Desk → Reply
reply a d = step a d

-- refused, everything is left
abbrev pub denied : FairRefusal → Desk → Reply
denied r d = reply (Err r) d

-- ---- the rules
-- "A flow, weight or length outside these limits is refused first"
unfoldable pub strip_ok : ℕ → ℕ → ℕ → Bool
strip_ok f w n = ltb f flows && (leb 1 w && (leb w heaviest && (leb 1 n && leb n longest)))

-- the finish of a strip of flow f, weight w and n bytes that is pushed now; "that is its rank"
abbrev pub next_finish : Desk → ℕ → ℕ → ℕ → ℕ
next_finish d f w n = finish (clock_of d.state) (last_of d.state f) w n

-- .. and the element that the queue gets
abbrev pub next_element : Desk → ℕ → ℕ → ℕ → ℕ → Element
next_element d f w n t = element (next_finish d f w n) t n

-- the queue has taken a strip: its finish is its flow's last
abbrev pub noted : Answer → ℕ → ℕ → List ℕ → List ℕ
noted (Ok None) f r st = set st (suc f) r
noted (Ok (Some e)) f r st = st
noted (Err n) f r st = st

-- "the clock becomes the rank of what is popped"
abbrev pub timed : Answer → List ℕ → List ℕ
timed (Ok None) st = st
timed (Ok (Some e)) st = set st 0 e.rank.0
timed (Err n) st = st

abbrev pub passed_on : Outcome → ℕ → ℕ → List ℕ → Reply
passed_on o f r st = reply (told o.answer) (desk (noted o.answer f r st) o.words)

abbrev pub handed_out : Outcome → List ℕ → Reply
handed_out o st = reply (told o.answer) (desk (timed o.answer st) o.words)

-- "a reset sets the clock and all finishes to 0"
abbrev pub blank_state : List ℕ → List ℕ
blank_state st = replicate state_words 0 ++ drop state_words st

-- ---- the tests of fair ranks' own, in order, each with the fact that it stands for
-- a state of enough words; a shorter one is refusal 1
abbrev pub Long : Desk → Type 0
Long d = state_words ≤ length d.state

abbrev pub state_table : Desk → TableOf FairRefusal → TableOf FairRefusal
state_table d l = needs (Queue BadShape) (state_ok d.state) (Long d) l

-- "A flow, weight or length outside these limits is refused first ("bad strip"); a finish above 4,294,967,295 is refused next ("clock spent")"
abbrev pub push_table : ℕ → ℕ → ℕ → Desk → TableOf FairRefusal
push_table f w n d = needs BadStrip (strip_ok f w n) (Good f w n) (state_table d (bars ClockSpent (leb (next_finish d f w n) latest) (latest < next_finish d f w n) ends))

-- a reset "is refused ("not empty") while anything is held"; where held is refused, so is the reset
abbrev pub emptied : Result ℕ Refusal → Desk → Reply
emptied (Ok n) d = cond (eqb n 0) (reply (Ok None) (desk (blank_state d.state) d.store)) (denied NotEmpty d)
emptied (Err q) d = denied (Queue q) d

module _ (m levels : ℕ) where
  -- order of tests: 9; a state too short, 1; 10; the queue's own
  unfoldable pub pushes : ℕ → ℕ → ℕ → ℕ → Desk → Reply
  pushes f w n t d =
      decided (λ x. denied x d) (push_table f w n d) (passed_on (called m levels (Push (next_element d f w n t)) d.store) f (next_finish d f w n) d.state)

  -- a state too short, 1; the queue's own
  unfoldable pub pops : Desk → Reply
  pops d = decided (λ x. denied x d) (state_table d ends) (handed_out (called m levels Pop d.store) d.state)

  -- a state too short, 1; held's own, 1 and 2; 11
  unfoldable pub resets : Desk → Reply
  resets d = decided (λ x. denied x d) (state_table d ends) (emptied (held_count m levels d.store) d)
