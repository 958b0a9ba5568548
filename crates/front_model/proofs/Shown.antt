-- What is promised of the front on its words.
use Rattle.laws.specs.Prelude.{Answer, BadRank, BadShape, Bool, Damaged, Element, Empty, Full, Idle, List, NoTag, Pop, Push, Replace, Request, [], ◌*◌, ◌+◌, ◌<◌, ◌^◌, ◌∙◌, ◌≡◌, ◌≤◌, ap, arith, cond, cond_both, element, eqb, false, length, ltb, map, not, number_of, refl, sym, true, untagged, ℕ, Ok, None, Some, Err}
use Rattle.agreement.proofs.Ranks.{ranks_by, whole-empty}
use Rattle.agreement.specs.Plain.{number_rank, plainly_by}
use Rattle.bucket_clock_model.proofs.OneStep.{run-rest}
use Rattle.bucket_clock_model.specs.Damage.{StagesFit}
use Rattle.bucket_clock_model.specs.Desk.{waiting}
use Rattle.bucket_model.proofs.Laws.{fill-past}
use Rattle.bucket_model.specs.declared.Lay.{Lay}
use Rattle.bucket_model.specs.Prelude.{Laid, word}
use Rattle.promise.proofs.Calls.{grants-kind}
use Rattle.promise.proofs.Clock as clocks
use Rattle.promise.proofs.InFlight.{cycle-least, cycle-sum, next-kept}
use Rattle.promise.proofs.Ticked.{cycle-answers, nothing-lost-so, running}
use Rattle.promise.specs.Prelude.{Call, CycleAnswers, Kind, NothingLost, Outcome, Ruling, Running, Step, always, answers, cleared_to, comes, cycled, cycling, drained_by, held_in, left, outcome, ruling}
use Rattle.front_model.specs.Damage.{FrontShaped}
use Rattle.front_model.specs.Desk.{all_held, faced, front_cleared, FrontDesk, front_held, front_of, front_ok, front_rule, front_run, front_shape_ok, front_cycled, front_wiped, front_word, front_words, place_at}
use Rattle.front_model.specs.Promise.{front_clock, front_drained, FrontLies, front_queue, FrontRest, front_stored, rank_number}
use Rattle.front_model.proofs.Clock.{bag, cleared-bare, cleared-faces, is-clock, lowest, no-tag, settles, stored_is, ticks}
use Rattle.front_model.proofs.Damage.{front-means}
use Rattle.front_model.proofs.Faces.{all_held_lem, Faces}

-- ---- the calls are the clock's

module _ (k : Lay) where
  pub cycled-as : (q : Request) (m : FrontDesk) → front_cycled k q m ≡ cycled (front_clock k) q m
  unfolding front_cycled
  cycled-as q m = refl

  pub cleared-as : (m : FrontDesk) → front_cleared k m ≡ cleared_to (front_clock k) m
  unfolding front_cleared
  cleared-as m = refl

  pub held-as : (m : FrontDesk) → front_held k m ≡ held_in (front_clock k) m
  unfolding front_held
  held-as m = refl

  pub drained-as : (b : ℕ) (m : FrontDesk) → front_drained k b m ≡ drained_by (front_clock k) (cycling (front_clock k)) b m
  unfolding front_drained front_cycled
  drained-as b m = refl

-- ANSWERS: each refusal of a cycle, a drain, clear and held is given exactly for its cause and leaves behind what the rules say, and no element without
-- a tag is let in, whatever stands in the machine
pub front-answers : (k : Lay) → 1 ≤ k.storeys → CycleAnswers (front_clock k)
front-answers k deep = cycle-answers (front_clock k) (ticks k deep) (no-tag k deep)

module _ (k : Lay) (laid : Laid k) (m : FrontDesk) (h : FrontShaped k m) where
  -- RUNNING, from a cleared front, over any list of cycles: it holds what went in and has not come out; every pop and replace answers, in its own cycle,
  -- the lowest rank of all held; it is never
  -- damaged; S idle cycles bring in all that is on the way, and a drain is never refused, runs no more than S cycles, and leaves no work
  pub front-running : (qs : List Request) → Running (front_clock k) (λ q. q) (λ m f. front_stored m k f) k.storeys qs (front_wiped k m)
  front-running = running (front_clock k) (Faces k laid) (is-clock k laid) (λ q. q) (λ m f. front_stored m k f) (bag k laid) (front_wiped k m) (cleared-faces k laid m h) (cleared-bare k laid m h) (lowest k laid) k.storeys (settles k laid)

  -- NOTHING LOST, with drains among the cycles
  pub front-nothing-lost : (cs : List (Call Request)) → NothingLost (front_clock k) (λ q. q) (λ m f. front_stored m k f) k.storeys cs (front_wiped k m)
  front-nothing-lost = nothing-lost-so (front_clock k) (Faces k laid) (is-clock k laid) (λ q. q) (λ m f. front_stored m k f) (bag k laid) (front_wiped k m) (cleared-faces k laid m h) (cleared-bare k laid m h) k.storeys

-- ---- RANKS

module _ (k : Lay) (laid : Laid k) where
  abbrev queue : Request → FrontDesk → Step Answer FrontDesk
  queue = cycling (front_clock k)

  said-is : (q : Request) (m : FrontDesk) → Faces k laid m → (queue q m).said ≡ (comes (front_clock k) q m).answer
  said-is q m x = rw ((is-clock k laid).shaped m x, (is-clock k laid).sound q m x) refl

  number-of : (m : FrontDesk) (q : Request) → number_of (comes (front_clock k) q m).answer ≡ rank_number k.ranks k.nodes q (all_held k m)
  number-of m Idle = refl
  number-of m (Push y) = push (ltb y.rank.0 k.ranks) (untagged y) (ltb (all_held k m) k.nodes)
    where
      push : (b u r : Bool) → number_of (cond {A = Ruling Request} b (cond u (ruling (Err NoTag) Idle) (cond r (ruling (Ok None) (Push y)) (ruling (Err Full) Idle))) (ruling (Err BadRank) Idle)).answer ≡ cond (not b) 4 (cond u 7 (cond r 0 5))
      push true true r = refl
      push true false true = refl
      push true false false = refl
      push false u r = refl
  number-of m Pop = pop (eqb (all_held k m) 0)
    where
      pop : (b : Bool) → number_of (cond {A = Ruling Request} b (ruling (Err Empty) Idle) (ruling (Ok (Some (place_at m.front 0))) Pop)).answer ≡ cond b 6 0
      pop true = refl
      pop false = refl
  number-of m (Replace y) = swap (ltb y.rank.0 k.ranks) (untagged y) (eqb (all_held k m) 0)
    where
      swap : (b u r : Bool) → number_of (cond {A = Ruling Request} b (cond u (ruling (Err NoTag) Idle) (cond r (ruling (Err Empty) Idle) (ruling (Ok (Some (place_at m.front 0))) (Replace y)))) (ruling (Err BadRank) Idle)).answer ≡ cond (not b) 4 (cond u 7 (cond r 6 0))
      swap true true r = refl
      swap true false true = refl
      swap true false false = refl
      swap false u r = refl

  number : (q : Request) (m : FrontDesk) → Faces k laid m → number_of (queue q m).said ≡ rank_number k.ranks k.nodes q (front_stored m k always)
  number q m x = ap number_of (said-is q m x) ∙ number-of m q ∙ ap (rank_number k.ranks k.nodes q) (all_held_lem k laid m x ∙ sym (stored_is k laid m x always))

  -- a replace answers what a pop would
  as-pop : (y : Element) (m : FrontDesk) → Faces k laid m → number_of (queue (Replace y) m).said ≡ 0 → (queue (Replace y) m).said ≡ (queue Pop m).said
  as-pop y m x e = said-is (Replace y) m x ∙ go (ltb y.rank.0 k.ranks) (untagged y) (eqb (all_held k m) 0) (ap number_of (sym (said-is (Replace y) m x)) ∙ e) ∙ sym (said-is Pop m x)
    where
      go : (b u r : Bool) → number_of (cond {A = Ruling Request} b (cond u (ruling (Err NoTag) Idle) (cond r (ruling (Err Empty) Idle) (ruling (Ok (Some (place_at m.front 0))) (Replace y)))) (ruling (Err BadRank) Idle)).answer ≡ 0
          → (cond {A = Ruling Request} b (cond u (ruling (Err NoTag) Idle) (cond r (ruling (Err Empty) Idle) (ruling (Ok (Some (place_at m.front 0))) (Replace y)))) (ruling (Err BadRank) Idle)).answer
          ≡ (cond {A = Ruling Request} r (ruling (Err Empty) Idle) (ruling (Ok (Some (place_at m.front 0))) Pop)).answer
      go true true r e = absurd (omega arith)
      go true false true e = absurd (omega arith)
      go true false false e = refl
      go false u r e = absurd (omega arith)

  kind : (q : Request) (m : FrontDesk) → number_of (queue q m).said ≡ 0 → Kind q (queue q m).said
  kind = clocks.kind (ticks k laid.deep) (λ q m. grants-kind q (place_at m.front 0))

  -- RANKS: cycle by cycle the front answers the number and the rank that a plain list in rank order answers, of so many ranks and with room for N
  pub front-ranks : (m : FrontDesk) → FrontShaped k m → (qs : List Request) → map number_rank (answers (front_queue k) qs (front_wiped k m)) ≡ answers (plainly_by (rank_number k.ranks k.nodes)) qs []
  unfolding front_cycled
  front-ranks m h qs =
      ranks_by queue (Faces k laid) (next-kept (is-clock k laid)) (λ m f. front_stored m k f) (cycle-sum (is-clock k laid) (bag k laid)) (cycle-least (is-clock k laid) (lowest k laid)) as-pop kind (rank_number k.ranks k.nodes) number
      qs (front_wiped k m) [] (cleared-faces k laid m h)
      (whole-empty queue (Faces k laid) (next-kept (is-clock k laid)) (λ m f. front_stored m k f) (cycle-sum (is-clock k laid) (bag k laid)) (cycle-least (is-clock k laid) (lowest k laid)) as-pop kind (rank_number k.ranks k.nodes) number (front_wiped k m) (cleared-bare k laid m h))

-- LIES: where the front's words stand, in plain numbers
pub front-lies : (n : ℕ) → FrontLies n
front-lies n =
    record {
      places-two = refl;
      places-three = refl;
      words-two = refl;
      words-three = refl;
      place = λ w i.
          let a : 1 + 3 * i ≡ 3 * i + 1 = omega arith in
          let b : 1 + 3 * i + 1 ≡ 3 * i + 2 = omega arith in
          let c : 1 + 3 * i + 2 ≡ 3 * i + 3 = omega arith in
          λ j. element (word w (a j)) (word w (b j)) (word w (c j));
    }

-- REST: whatever is asked and whatever stands in the machine, words past the shape and records past S are left alone
module _ (k : Lay) (laid : Laid k) where
  run-front : (m : FrontDesk) → k.storeys ≤ length m.behind.records → ((i : ℕ) → word m.behind.bits i < 2 ^ 64) → (u : Request) → StagesFit k 0 k.storeys (waiting (faced k u m).hands 0) m.behind → FrontRest k m (front_run k u m)
  unfolding front_run front_of
  run-front m long wide u f =
      record {
        front = fill-past (front_word (faced k u m).front) (front_words k) m.front;
        behind = run-rest k laid (faced k u m).hands m.behind long wide f;
      }

  pub front_rest : (q : Request) (m : FrontDesk) → k.storeys ≤ length m.behind.records → ((i : ℕ) → word m.behind.bits i < 2 ^ 64) → FrontRest k m (front_cycled k q m).words
  unfolding front_cycled
  front_rest q m long wide =
      let still : FrontRest k m m = record { front = λ i h. refl; behind = record { bits = λ i h. refl; counts = λ i h. refl; words = λ i h. refl; records = λ i h. refl } } in
      let g = front_rule k q m in
      cond_both (λ (o : Outcome FrontDesk). FrontRest k m o.words) (front_shape_ok k m) (cond (front_ok k q m) (outcome g.answer (front_run k g.op m)) (left m Damaged)) (left m BadShape)
      (λ _. cond_both (λ (o : Outcome FrontDesk). FrontRest k m o.words) (front_ok k q m) (outcome g.answer (front_run k g.op m)) (left m Damaged) (λ e. ran (front_rule k q m).op ((front-means k q m).says e).2) (λ _. still)) (λ _. still)
    where
      ran : (u : Request) → StagesFit k 0 k.storeys (waiting (faced k u m).hands 0) m.behind → FrontRest k m (front_run k u m)
      ran u f = run-front m long wide u f
