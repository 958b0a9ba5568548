-- What several ports on one pool promise, at either depth, from any clearing with fair limits on.
use Rattle.laws.specs.Prelude.{All, BadPort, Bool, Element, Idle, List, Pop, Push, Replace, [], ◌++◌, ◌+◌, ◌<◌, ◌∙◌, ◌∷◌, ◌≡◌, ◌≤◌, ap, arith, cond, eqb, false, length, ltb, refl, subst, sym, true, ℕ}
use Rattle.promise.specs.Prelude.{answers, answers-same, leaves, leaves-in-step, step}
use Rattle.bucket_model.specs.Prelude.{Call, Said, Sorted, Store, ask, brought, gone, held, of_rank, plain_with, said_number, times}
use Rattle.bucket_model.proofs.Laws.{Kept, Through, plain-kept, plain-sane, through-none, through-step}
use Rattle.ports_model.specs.Prelude.{Ask, Fair, Heard, Lists, Shape, Shaped, accepts, answers_of, back, called, calls_at, calls_of, ceiling_of, claimed, denied, heard_at, heard_if, heard_on, many_at, none, ranks_of, served, start, stored_at}
use Rattle.ports_model.proofs.Clear.{deep, clear-holds, clear-done}
use Rattle.ports_model.proofs.Isolation.{long_at, Own, own, heard-calls, step_at}
use Rattle.ports_model.proofs.Room.{reached}
use Rattle.ports_model.proofs.Steps.{Agree, calls}
use Rattle.ports_model.proofs.Store.{Holds, stored-at}

-- ---- on the plain lists

module _ (s : Shape) (lim : List ℕ) where
  -- what one port hears is one list's history
  own-through : (p : ℕ) (hs : List Heard) (l m : List Element) → Own s lim p hs l m → Sorted l → Through (calls_of hs) (answers_of hs) l m
  own-through p [] l m o z = subst (Through [] [] l) o (through-none l z)
  own-through p (h ∷ hs) l m o z =
      let y : Kept h.call l (step_at s lim p o.0 h.call l) = plain-kept (ranks_of s) _ h.call l z in
      subst (λ (x : Said). Through (h.call ∷ calls_of hs) (x ∷ answers_of hs) l m) (sym o.2)
      (through-step h.call (calls_of hs) (answers_of hs) l m (step_at s lim p o.0 h.call l) y (own-through p hs (step_at s lim p o.0 h.call l).next m o.3 y.sorted))

  -- never 2
  sane-denied : (c : Call) → said_number (denied c BadPort) ≡ 2 → ⊥
  sane-denied (ask Idle) e = omega arith
  sane-denied (ask (Push x)) e = omega arith
  sane-denied (ask Pop) e = omega arith
  sane-denied (ask (Replace x)) e = omega arith
  sane-denied held e = omega arith

  lists-undamaged : (as' : List Ask) (st : Lists) → All (λ x. said_number x ≡ 2 → ⊥) (answers (served s lim) as' st)
  unfolding answers served
  lists-undamaged [] st = tt
  lists-undamaged (a ∷ as') st = (go (ltb a.port s.ports), lists-undamaged as' (served s lim a st).next)
    where
      go : (t : Bool) → said_number (cond t (back st a.port (plain_with (ranks_of s) (accepts s lim st a.port) a.call (st a.port))) (step (denied a.call BadPort) st)).said ≡ 2 → ⊥
      go true = plain-sane (ranks_of s) (accepts s lim st a.port) a.call (st a.port)
      go false = sane-denied a.call

-- ---- from clear with fair limits on slices long enough, whatever was in them, for any list of calls at any ports

module _ (s : Shape) (lim b w : List ℕ) (shaped : Shaped s b w) (fair : Fair s lim) where
  abbrev D : 1 ≤ s.storeys
  D = deep s lim b w shaped fair

  abbrev Held : Store → Lists → Type 0
  Held x st = Holds s (deep s lim b w shaped fair) shaped.some lim x.bits x.words st

  pub start-holds : Holds s (deep s lim b w shaped fair) shaped.some lim (start s lim b w).bits (start s lim b w).words none
  start-holds = rw (clear-done s lim b w shaped fair) (clear-holds s lim b w shaped fair)

  agrees : (a : Ask) (x : Store) (st : Lists) → Held x st → Agree s D shaped.some lim (called s a x) (served s lim a st)
  agrees a x st h = calls s D shaped.some lim x st h a

  -- what one port hears of the words is what it hears of the lists
  heard-same : (p : ℕ) → p < s.ports → (as' : List Ask) (x : Store) (st : Lists) → Held x st → heard_on s p as' x ≡ heard_at (served s lim) long_at p as' st
  unfolding heard_at
  heard-same p p< [] x st h = refl
  heard-same p p< (a ∷ as') x st h =
      let y = agrees a x st h in
      (λ i. heard_if (eqb a.port p) (record { call = a.call; before = h.held p p< i; said = y.alike i }) (heard_at (called s) (many_at s) p as' (called s a x).next))
      ∙ ap (heard_if (eqb a.port p) (record { call = a.call; before = length (st p); said = (served s lim a st).said })) (heard-same p p< as' (called s a x).next (served s lim a st).next y.holds)

  module _ (as' : List Ask) where
    abbrev now : Store
    now = leaves (called s) as' (start s lim b w)

    abbrev lists : Lists
    lists = leaves (served s lim) as' none

    pub now-holds : Holds s (deep s lim b w shaped fair) shaped.some lim (leaves (called s) as' (start s lim b w)).bits (leaves (called s) as' (start s lim b w)).words (leaves (served s lim) as' none)
    now-holds = leaves-in-step (called s) (served s lim) Held (λ a x st h. (agrees a x st h).alike) (λ a x st h. (agrees a x st h).holds) as' (start s lim b w) none start-holds

    -- ANSWERS: those of the plain lists under 02's rule
    pub ports-answer : answers (called s) as' (start s lim b w) ≡ answers (served s lim) as' none
    ports-answer = answers-same (called s) (served s lim) Held (λ a x st h. (agrees a x st h).alike) (λ a x st h. (agrees a x st h).holds) as' (start s lim b w) none start-holds

    -- UNDAMAGED: no call is refused 2
    pub undamaged : All (λ x. said_number x ≡ 2 → ⊥) (answers (called s) as' (start s lim b w))
    undamaged = subst (All (λ x. said_number x ≡ 2 → ⊥)) (sym ports-answer) (lists-undamaged s lim as' none)

    -- ---- "Demand 2 is read port by port"

    module _ (p : ℕ) (p< : p < s.ports) where
      -- KEEPS: what the port's words hold is its list
      pub keeps : stored_at s p (leaves (called s) as' (start s lim b w)) ≡ leaves (served s lim) as' none p
      keeps = stored-at s D shaped.some lim now.bits now.words lists now-holds p p<

      pub hears : heard_on s p as' (start s lim b w) ≡ heard_at (served s lim) long_at p as' none
      hears = heard-same p p< as' (start s lim b w) none start-holds

      abbrev said : List Said
      said = answers_of (heard_on s p as' (start s lim b w))

      whole_run : Through (calls_at p as') (answers_of (heard_on s p as' (start s lim b w))) [] (stored_at s p (leaves (called s) as' (start s lim b w)))
      whole_run =
          rw (hears, keeps)
          (subst (λ (cs : List Call). Through cs (answers_of (heard_at (served s lim) long_at p as' none)) [] (leaves (served s lim) as' none p)) (heard-calls s lim p as' none)
          (own-through s lim p (heard_at (served s lim) long_at p as' none) [] (leaves (served s lim) as' none p) (own s lim p p< as' none) tt))

      -- it stands in leaving order
      pub in_order : Sorted (stored_at s p (leaves (called s) as' (start s lim b w)))
      in_order = whole_run.sorted

      -- FIFO: of each rank, what came in at the port is what went out there and then what it holds, in this order
      pub fifo : (r : ℕ) → of_rank r (brought (calls_at p as') (answers_of (heard_on s p as' (start s lim b w)))) ≡ of_rank r (gone (calls_at p as') (answers_of (heard_on s p as' (start s lim b w)))) ++ of_rank r (stored_at s p (leaves (called s) as' (start s lim b w)))
      unfolding of_rank
      fifo r = whole_run.fifo r

      -- HOLDS: every element is held at the port as often as it went in there and has not come out
      pub holds : (f : Element → Bool) → times f (brought (calls_at p as') (answers_of (heard_on s p as' (start s lim b w)))) ≡ times f (gone (calls_at p as') (answers_of (heard_on s p as' (start s lim b w)))) + times f (stored_at s p (leaves (called s) as' (start s lim b w)))
      unfolding times
      holds f = omega (arith, whole_run.holds f)

      -- CEILING: "No port can .. pass its own ceiling"
      pub ceiling : many_at s p (leaves (called s) as' (start s lim b w)) ≤ ceiling_of lim p
      ceiling = omega (arith, now-holds.held p p<, now-holds.sound.ceilings p p<)

    -- ROOM: what is held, or kept for floors, is never more than N
    pub room : claimed s lim (leaves (served s lim) as' none) ≤ s.nodes
    room = (reached s lim fair as').room
