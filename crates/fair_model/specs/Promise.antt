-- What is promised of fair ranks is said in these words: the table of refusals, a list of calls, and the ledger that goes with it.
use Rattle.std.specs.Prelude.{◌&&◌, ◌++◌, ◌+◌, ◌<◌, ◌∷◌, ◌≡◌, ◌≤◌, ◌⊎◌}
use Rattle.laws.specs.Prelude.{All, BadShape, Bool, Element, Ladder, List, Pop, Push, Refusal, Request, [], cond, fine, get_or, leb, length, ltb, refusal_number, rung, stop, suc, take, ℕ, Ok, None, Some}
use Rattle.promise.specs.Prelude.{Step, leaves, lower, triple}
use Rattle.tree_model.specs.Prelude.{Shape, after, called, held_refusals, outcome, refusals, room, root_of, stored_count, sum_counts}
use Rattle.fair_model.specs.Calls.{answer_number, clock_of, Desk, desk, last_of, Long, next_element, next_finish, pops, pushes, Reply, resets, state_ok, state_words, strip_ok}
use Rattle.fair_model.specs.Ledger.{anew, comes, found, fresh, goes, listed, Move, moved, run, served, stays, Steady, Strip, World}
use Rattle.fair_model.specs.Ranks.{flows, Good, latest}
use Rattle.fair_model.specs.Answers.{FairAnswer}
use Rattle.std.specs.Prelude.{Ok, None, Err, Some}
use Rattle.fair_model.specs.declared.FairRefusal.{FairRefusal}
use Rattle.fair_model.specs.declared.FairRefusal.TheVariants.{BadStrip, ClockSpent, NotEmpty, Queue}

-- ---- what may be asked
pub data Call : Type 0 where
  push : (flow weight bytes tag : ℕ) → Call
  pop : Call
  reset : Call

-- fair ranks as a queue: calls on a desk
unfoldable pub fair_queue : ℕ → ℕ → Call → Desk → Step FairAnswer Desk
fair_queue m levels (push f w n t) d = pushes m levels f w n t d
fair_queue m levels pop d = pops m levels d
fair_queue m levels reset d = resets m levels d

-- ---- the table of refusals
-- the queue's own rungs, before the ladder k
abbrev pub queued : Ladder Refusal → Ladder FairRefusal → Ladder FairRefusal
queued fine k = k
queued (rung x P l) k = rung (Queue x) P (queued l k)
queued (stop x P l) k = stop (Queue x) P (queued l k)

-- "A flow, weight or length outside these limits is refused first ("bad strip"); a finish above 4,294,967,295 is refused next ("clock spent")"; a
-- reset "is refused ("not empty") while anything is held", after what held is refused for
abbrev pub fair_refusals : ℕ → ℕ → Call → Desk → Ladder FairRefusal
fair_refusals m levels (push f w n t) d =
    rung BadStrip (Good f w n)
    (rung (Queue BadShape) (Long d)
    (stop ClockSpent (latest < next_finish d f w n)
    (queued (refusals m levels (Push (next_element d f w n t)) d.store) fine)))
fair_refusals m levels pop d = rung (Queue BadShape) (Long d) (queued (refusals m levels Pop d.store) fine)
fair_refusals m levels reset d =
    rung (Queue BadShape) (Long d)
    (queued (held_refusals m levels d.store)
    (stop NotEmpty (0 < sum_counts (root_of m d.store)) fine))

-- KIND: of a call that is not refused a push and a reset answer that they are accepted, a pop an element
abbrev pub IsServed : FairAnswer → Type 0
IsServed (Ok None) = ⊥
IsServed (Ok (Some e)) = Unit {0}
IsServed (Err r) = ⊥

abbrev pub FairKind : Call → FairAnswer → Type 0
FairKind (push f w n t) a = a ≡ Ok None
FairKind pop a = IsServed a
FairKind reset a = a ≡ Ok None

-- ---- the queue below: what a call asks of it, and a list of calls
abbrev pub passed : Call → Desk → List Request
passed (push f w n t) d = cond (strip_ok f w n && (state_ok d.state && leb (next_finish d f w n) latest)) (Push (next_element d f w n t) ∷ []) []
passed pop d = cond (state_ok d.state) (Pop ∷ []) []
passed reset d = []

unfoldable pub all_passed : ℕ → ℕ → List Call → Desk → List Request
all_passed m levels [] d = []
all_passed m levels (c ∷ cs) d = passed c d ++ all_passed m levels cs (fair_queue m levels c d).next

-- ---- the ledger of a list of calls
-- a call, and the place in the ledger of the strip that it serves, if it serves one
pub record Entry : Type 0 where
  pub call : Call
  pub place : ℕ

-- what a call comes to in the ledger, by its answer
abbrev pub move_of : Call → FairAnswer → ℕ → Move
move_of (push f w n t) (Ok None) q = comes f w n t
move_of (push f w n t) (Ok (Some e)) q = stays
move_of (push f w n t) (Err r) q = stays
move_of pop (Ok None) q = stays
move_of pop (Ok (Some e)) q = goes q
move_of pop (Err r) q = stays
move_of reset (Ok None) q = anew
move_of reset (Ok (Some e)) q = stays
move_of reset (Err r) q = stays

-- the ledger strikes out a strip that has the served element: where several have it, any of them
abbrev pub Struck : FairAnswer → ℕ → World → Type 0
Struck (Ok None) q s = Unit {0}
Struck (Ok (Some e)) q s = (q < length s.waiting) × ((found s q).element ≡ e)
Struck (Err r) q s = Unit {0}

module _ (m levels : ℕ) where
  abbrev pub reply_to : Entry → Desk → Step FairAnswer Desk
  reply_to c d = fair_queue m levels c.call d

  abbrev pub move_by : Entry → Desk → Move
  move_by c d = move_of c.call (reply_to c d).said c.place

  -- what a list of calls comes to in the ledger
  unfoldable pub moves : List Entry → Desk → List Move
  moves [] d = []
  moves (c ∷ cs) d = move_by c d ∷ moves cs (reply_to c d).next

  -- every place named is one of a strip that has the served element
  abbrev pub Attributed : List Entry → Desk → World → Type 0
  Attributed [] d s = Unit {0}
  Attributed (c ∷ cs) d s = Struck (reply_to c d).said c.place s × Attributed cs (reply_to c d).next (moved (move_by c d) s)

-- an attribution: the first of the ledger's strips that has the served element
unfoldable pub place_of : Element → List Strip → ℕ
place_of e [] = 0
place_of e (x ∷ l) = cond (triple e x.element) 0 (suc (place_of e l))

abbrev pub place_by : FairAnswer → List Strip → ℕ
place_by (Ok None) l = 0
place_by (Ok (Some e)) l = place_of e l
place_by (Err r) l = 0

module _ (m levels : ℕ) where
  abbrev pub booked : Call → Desk → World → Entry
  booked c d s = record { call = c; place = place_by (fair_queue m levels c d).said s.waiting }

  unfoldable pub book : List Call → Desk → World → List Entry
  book [] d s = []
  book (c ∷ cs) d s = booked c d s ∷ book cs (fair_queue m levels c d).next (moved (move_by m levels (booked c d s) d) s)

-- ---- "from a reset on nothing else changes its queue": a queue cleared on the words ws and used by its own requests rs, a reset with the state st,
-- and then calls of fair ranks only
module _ (m levels : ℕ) (ws : List ℕ) (rs : List Request) (st : List ℕ) where
  abbrev pub opened : Reply
  opened = resets m levels (desk st (after m levels rs ws))

  -- desk and ledger after a list of calls
  abbrev pub desk_at : List Entry → Desk
  desk_at cs = leaves (reply_to m levels) cs opened.next

  abbrev pub world_at : List Entry → World
  world_at cs = run (moves m levels cs opened.next) fresh

  -- the reset is accepted, and every served strip is struck out
  pub record From (cs : List Entry) : Type 0 where
    pub shape : Shape m levels (length ws)
    pub accepted : opened.said ≡ Ok None
    pub attributed : Attributed m levels cs opened.next fresh

  -- a stretch: any calls directly after any calls
  module _ (before stretch : List Entry) where
    abbrev pub StruckIn : Type 0
    StruckIn = Attributed m levels stretch (desk_at before) (world_at before)

    -- "in which two flows keep one weight each (also for strips waiting at its start) and always have something waiting"
    abbrev pub SteadyIn : ℕ → ℕ → Type 0
    SteadyIn i w = Steady i w (moves m levels stretch (desk_at before)) (world_at before)

    abbrev pub served_in : ℕ → ℕ
    served_in i = served i (moves m levels stretch (desk_at before)) (world_at before)

-- ---- what holds after any calls from the reset: the desk d, and the ledger s
pub record Runs (m levels : ℕ) (d : Desk) (s : World) : Type 0 where
  -- the ledger's clock and finishes are the words' ..
  pub clock : s.clock ≡ clock_of d.state
  pub last : (i : ℕ) → i < flows → s.last i ≡ last_of d.state i
  -- HOLDS: .. and of every kind of element the store holds as many as wait
  pub holds : (f : Element → Bool) → stored_count (room m levels) d.store f ≡ listed s.waiting f
  -- AHEAD: no rank held is below the clock; TOP: none is above the largest
  pub ahead : stored_count (room m levels) d.store (lower (clock_of d.state)) ≡ 0
  pub top : stored_count (room m levels) d.store (λ e. ltb latest e.rank.0) ≡ 0
  -- RISES: no call but an accepted reset lets the clock or a finish fall
  pub rises : (c : Entry) → Struck (reply_to m levels c d).said c.place s → (move_by m levels c d ≡ anew → ⊥)
      → (clock_of d.state ≤ clock_of (reply_to m levels c d).next.state) × ((i : ℕ) → i < flows → last_of d.state i ≤ last_of (reply_to m levels c d).next.state i)
  -- UNDAMAGED: of the queue's refusals only 5, 6 and 7 are answered
  pub undamaged : (c : Call) (q : Refusal) → answer_number (fair_queue m levels c d).said ≡ refusal_number q → (refusal_number q ≡ 5) ⊎ (refusal_number q ≡ 6) ⊎ (refusal_number q ≡ 7)
  -- LEAST: what is served has the lowest rank held
  pub least : (e : Element) → (pops m levels d).said ≡ Ok (Some e) → stored_count (room m levels) d.store (lower e.rank.0) ≡ 0
  -- IN ORDER: no strip of its flow that still waits came before it
  pub in_order : (e : Element) (q : ℕ) → (pops m levels d).said ≡ Ok (Some e) → Struck (Ok (Some e)) q s → All (λ x. x.flow ≡ (found s q).flow → ⊥) (take q s.waiting)

-- what an accepted push writes: its rank r is the last finish of flow f, and the clock stands
pub record Noted (d : Desk) (f r : ℕ) (after : List ℕ) : Type 0 where
  pub noted : last_of after f ≡ r
  pub later : last_of d.state f < r
  pub ahead : clock_of d.state < r
  pub clock : clock_of after ≡ clock_of d.state

-- ---- word by word: what a call leaves of the state, by the places of its words. Word 0 is the clock, word 1 + f the last finish of flow f, and a longer
-- slice goes on behind word 64
-- "the clock becomes the rank of what is popped", and no other word of the state changes; the store is what the queue's pop leaves; refused, all stands
pub record PopLeaves (m levels : ℕ) (d : Desk) (z : Reply) : Type 0 where
  pub length : length z.next.state ≡ length d.state
  pub clock : (e : Element) → z.said ≡ Ok (Some e) → get_or z.next.state 0 0 ≡ e.rank.0
  pub others : (p : ℕ) → 1 ≤ p → get_or z.next.state p 0 ≡ get_or d.state p 0
  pub queue : (e : Element) → z.said ≡ Ok (Some e) → called m levels Pop d.store ≡ outcome (Ok (Some e)) z.next.store
  pub stands : (x : FairRefusal) → z.said ≡ Err x → z.next ≡ d

-- "a reset sets the clock and all finishes to 0", words 0 to 64; what stands behind them and the store are as they were; refused, all stands
pub record ResetLeaves (d : Desk) (z : Reply) : Type 0 where
  pub length : length z.next.state ≡ length d.state
  pub zeros : z.said ≡ Ok None → (p : ℕ) → p < 65 → get_or z.next.state p 0 ≡ 0
  pub rest : (p : ℕ) → 65 ≤ p → get_or z.next.state p 0 ≡ get_or d.state p 0
  pub store : z.next.store ≡ d.store
  pub stands : (x : FairRefusal) → z.said ≡ Err x → z.next ≡ d

-- an accepted push writes its finish at word 1 + f, and no other word of the state; the store is what the queue's push leaves; refused, all stands
pub record PushLeaves (m levels f : ℕ) (x : Element) (d : Desk) (z : Reply) : Type 0 where
  pub length : length z.next.state ≡ length d.state
  pub finish : z.said ≡ Ok None → get_or z.next.state (1 + f) 0 ≡ x.rank.0
  pub others : (p : ℕ) → (p ≡ 1 + f → ⊥) → get_or z.next.state p 0 ≡ get_or d.state p 0
  pub queue : z.said ≡ Ok None → called m levels (Push x) d.store ≡ outcome (Ok None) z.next.store
  pub stands : (y : FairRefusal) → z.said ≡ Err y → z.next ≡ d

-- ---- of a longer state the rest is never touched
-- two states that agree on the clock and all finishes
abbrev pub Alike : List ℕ → List ℕ → Type 0
Alike st vs = (p : ℕ) → p < state_words → get_or st p 0 ≡ get_or vs p 0

-- two outcomes that agree so: the answer, the store and the state
abbrev pub AlikeReply : Reply → Reply → Type 0
AlikeReply x y = (x.said ≡ y.said) × (x.next.store ≡ y.next.store) × Alike x.next.state y.next.state
