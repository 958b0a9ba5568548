-- The lines are a clock: what every cycle keeps is `Flying` (`is-clock`). What follows is every clocked machine's (`promise/proofs`), with the lines' own
-- promises: every cycle is answered as one at a time, and after at most one idle cycle every word is equal.
use Rattle.laws.specs.Prelude.{BadShape, Bool, Element, Idle, List, Means, Pop, Push, Replace, Request, [], ◌+◌, ◌-◌, ◌<◌, ◌∙◌, ◌∷◌, ◌≡◌, ◌≤◌, ◌⊎◌, ap, arith, blank, cond, dec_lt, eq-eqb, eqb, false, inl, inr, length, length-append, length-set, ltb, means-and, means-by, means-eqb, means-ltb, ne_eqb, refl, runs_idle, set, subst, sym, true, true≢false, ℕ, ℕ_discrete, ⊎_elim, Ok, None}
use Rattle.lines_model.proofs.Acts.{after, counts-ok, goal-lt, shape-ok}
use Rattle.lines_model.proofs.Keeps.{row_before}
use Rattle.lines_model.proofs.Promises.{is-queue}
use Rattle.lines_model.proofs.Row.{Off, row-length, set-length, set_other}
use Rattle.lines_model.proofs.Start.{always-neat, cleared-words, start-sound}
use Rattle.lines_model.proofs.Shaped.{shape-means}
use Rattle.lines_model.proofs.Tests.{ask-told, below-means, fails-means, late-told, lines-means, or-means, range-means}
use Rattle.lines_model.proofs.Ticks.{cycle-flies, cycle-said, cycle-settled, Flying, idle-next, machine-shape, settled-counts, settled-sound, cycle-ok}
use Rattle.lines_model.proofs.Which.{total_ext}
use Rattle.lines_model.specs.Calls.{called, cleared, counts_ok, held_count, lines, wipe}
use Rattle.lines_model.specs.Causes.{CountsFit, Shaped}
use Rattle.lines_model.specs.Clock.{Apart, clock, clock_cleared, clock_held, due_at, DueFit, due_ok, fresh, fronts, had, InLine, is_pending, Machine, machine, settled, CycleFit, ticking, cycle_ok}
use Rattle.lines_model.specs.Layout.{moved, put_in, row_at, row_in, Rows, row_set, shape_ok, store_words, without, word}
use Rattle.lines_model.specs.Promise.{Neat, stored_by}
use Rattle.lines_model.specs.Rules.{ask_table, counted, Due, gave_of, giver, goal, late_table, Put, Rest, Swap, Take, worked}
use Rattle.promise.proofs.Calls.{grants-zero, tag-means}
use Rattle.promise.proofs.Clock.{Ticks}
use Rattle.promise.proofs.FirstIn.{insert-length}
use Rattle.promise.proofs.InFlight.{Bag, bag-by, is-clock-by, IsClock, Lowest, lowest_by}
use Rattle.promise.proofs.Kept.{call-sum, kept-least, start-empty}
use Rattle.promise.proofs.Ticked.{cycle-answers, nothing-lost-so, running}
use Rattle.promise.specs.Prelude.{Call, CycleAnswers, Each, NothingLost, Outcome, Running, answers, answers-same, leaves, leaves-in-step, left, outcome, rested}
use Rattle.promise.specs.FirstIn.{insert}

pub due-means : (k : Rows) (w : List ℕ) (d : Due) → Means (due_ok k w d) (DueFit k w d)
unfolding due_ok
due-means k w Rest = record { says = λ e. tt; holds = λ u. refl }
due-means k w (Put l x) =
    means-by (means-and (means-and (means-and (means-ltb l k.lines) (range-means k x)) (means-eqb (goal k l x) l)) (means-ltb 0 (word w l)))
    (λ y. ((y.0.0.0, y.0.0.1, y.0.1), y.1)) (λ y. (((y.0.0, y.0.1), y.0.2), y.1))
due-means k w (Take l) = means-and (means-ltb l k.lines) (means-ltb (word w l) k.places)
due-means k w (Swap l x) =
    let g = goal k l x in
    means-by (means-and (means-and (means-and (means-ltb l k.lines) (range-means k x)) (means-ltb 0 (word w g))) (or-means (eqb l g) (ltb (word w l) k.places) (means-eqb l g) (means-ltb (word w l) k.places)))
    (λ y. (y.0.0, y.0.1, y.1)) (λ y. ((y.0, y.1), y.2))

cycle-means : (k : Rows) (z : Machine) → Means (cycle_ok k z) (CycleFit k z)
unfolding cycle_ok
cycle-means k z =
    means-by (means-and (means-and (below-means k.places (word z.words) k.lines) (due-means k z.words z.due)) (lines-means k z.words (had k z.words z.due) z.due))
    (λ y. record { counts = y.0.0; due = y.0.1; lines = y.1 }) (λ y. ((y.counts, y.due), y.lines))

-- ---- "A line without pending work stands"

pub moved_length : (l : List Element) → length (moved l) ≡ length l
moved_length [] = refl
moved_length (x ∷ xs) = omega (arith, length-append xs (blank ∷ []))

-- a line's words are apart from another's
apart-off : (k : Rows) (l j n : ℕ) → n ≤ k.places → (j ≡ l → ⊥) → (i : ℕ) → InLine k j i → Off (row_at k l) n i
apart-off k l j n p e i b = elim (dec_lt j l) [
  | yes d ↦ inl (omega (arith, row_before k j l d, b.1))
  | no d ↦ inr (omega (arith, row_before k l j (omega arith), b.0))
]

module _ (k : Rows) (w : List ℕ) (s : Shaped k (length w)) (counts : CountsFit k w) (j i : ℕ) (b : InLine k j i) where
  put-else : (v : List ℕ) (l : ℕ) (x : Element) → l < k.lines → 0 < word w l → (j ≡ l → ⊥) → word (put_in v (row_at k l) (word w l - 1) x) i ≡ word v i
  unfolding put_in
  put-else v l x h p a =
      let row = row_in v (row_at k l) (word w l - 1) in
      set_other v (row_at k l) (insert x row) i (apart-off k l j (length (insert x row)) (omega (arith, insert-length x row, row-length v (row_at k l) (word w l - 1), counts l h)) a i b)

  take-else : (l n : ℕ) → n ≤ k.places → (j ≡ l → ⊥) → word (without w (row_at k l) n) i ≡ word w i
  unfolding without
  take-else l n p a =
      let row = row_in w (row_at k l) n in
      set_other w (row_at k l) (moved row) i (apart-off k l j (length (moved row)) (omega (arith, moved_length row, row-length w (row_at k l) n)) a i b)

  pub work-else : (d : Due) → DueFit k w d → Apart k d j → word (worked k d w) i ≡ word w i
  unfolding worked
  work-else Rest f a = refl
  work-else (Put l x) f a = put-else w l x f.0.0 f.1 a
  work-else (Take l) f a = take-else l (word w l + 1) (omega (arith, f.1)) a
  work-else (Swap l x) f a =
      let g = goal k l x in
      put-else (without w (row_at k l) (gave_of w l g)) g x (goal-lt k x ((range-means k x).holds f.0.1) (length w) s l f.0.0) f.1 a.1
      ∙ take-else l (gave_of w l g) (gave l g f.0.0 f.2) a.0
    where
      gave : (l g : ℕ) → l < k.lines → (l ≡ g) ⊎ (word w l < k.places) → gave_of w l g ≤ k.places
      gave l g h r = elim (ℕ_discrete l g) [
        | yes e ↦ rw (eq-eqb l g e) (counts l h)
        | no e ↦ rw (ne_eqb l g e) (⊎_elim (λ z. absurd (e z)) (λ z. omega arith) r)
      ]

pub settled-else : (k : Rows) (z : Machine) → Shaped k (length z.words) → CycleFit k z → (j i : ℕ) → InLine k j i → Apart k z.due j → word (settled k z) i ≡ word z.words i
unfolding settled
settled-else k z s t j i b a = work-else k z.words s t.counts j i b z.due t.due a

-- ---- every test stands for its cause

pub work-long : (k : Rows) (d : Due) (w : List ℕ) → length (worked k d w) ≡ length w
unfolding worked put_in without
work-long k Rest w = refl
work-long k (Put l x) w = set-length w (row_at k l) (insert x (row_in w (row_at k l) (word w l - 1)))
work-long k (Take l) w = set-length w (row_at k l) (moved (row_in w (row_at k l) (word w l + 1)))
work-long k (Swap l x) w =
    let g = goal k l x in
    let v = row_set w (row_at k l) (moved (row_in w (row_at k l) (gave_of w l g))) in
    set-length v (row_at k g) (insert x (row_in v (row_at k g) (word w g - 1))) ∙ set-length w (row_at k l) (moved (row_in w (row_at k l) (gave_of w l g)))

count_long : (k : Rows) (d : Due) (w : List ℕ) → length (counted k d w) ≡ length w
unfolding counted
count_long k Rest w = refl
count_long k (Put l x) w = length-set w l (word w l + 1)
count_long k (Take l) w = length-set w l (word w l - 1)
count_long k (Swap l x) w = length-set (set w l (word w l - 1)) (goal k l x) _ ∙ length-set w l (word w l - 1)

idle-late : (k : Rows) (c : ℕ → ℕ) (h : ℕ → Element) (q : Request) → Each (λ n. runs_idle n ≡ true) (ask_table k q (late_table k c h q))
idle-late k c h Idle = (refl, (refl, tt))
idle-late k c h (Push x) = (refl, (refl, (refl, tt)))
idle-late k c h Pop = (refl, (refl, (refl, tt)))
idle-late k c h (Replace x) = (refl, (refl, (refl, (refl, tt))))

pub ticks : (k : Rows) → Ticks (clock k) (ticking k)
unfolding settled
ticks k =
    record {
      same = λ q z. refl;
      shape = λ z. shape-means k (length z.words);
      torn = λ q z. fails-means (cycle-means k z);
      root = λ z. fails-means (below-means k.places (word z.words) k.lines);
      late = λ q z e f. ask-told k q (late_table k (word z.words) (fronts k z) q) (late-told k (length z.words) ((shape-means k (length z.words)).says e) (word z.words) (fronts k z) q);
      idles = λ q z. idle-late k (word z.words) (fronts k z) q;
      free = λ z. (refl, (refl, tt));
      calm = λ q z e. e;
      rest = λ z. refl;
      zero = λ q z. grants-zero q (fronts k z (giver k (word z.words) (fronts k z)));
      stays = λ q z. ap (shape_ok k) (count_long k (due_at k q z) (settled k z) ∙ work-long k z.due z.words);
    }

-- ANSWERS: whatever stands in the machine, each refusal of a cycle, a drain, clear and held for its cause and for that alone, and what it leaves
pub clock-answers-so : (k : Rows) → CycleAnswers (clock k)
clock-answers-so k = cycle-answers (clock k) (ticks k) (λ q z u c. true≢false (sym ((tag-means q).holds u) ∙ c.1.0))

-- ---- what every cycle keeps

-- what the machine holds: what it settles to holds it
abbrev pub in_flight : Rows → Machine → (Element → Bool) → ℕ
in_flight k z = stored_by k (settled k z)

module _ (k : Rows) where
  flying-shape : (z : Machine) → Flying k z → shape_ok k (length z.words) ≡ true
  flying-shape z f = shape-ok k (length z.words) (machine-shape k z f)

  settled-neat : (z : Machine) → Flying k z → Neat k (settled k z)
  settled-neat z f = (after k z.due f.rows, settled-sound k z f)

  pub is-clock : IsClock (clock k) (ticking k) (Flying k)
  is-clock = is-clock-by (ticks k) (Flying k) flying-shape (λ q z f. cycle-ok k z f) (λ q z f. cycle-flies k z f q)

  pub bag : Bag (clock k) (Flying k) (λ q. q) (in_flight k)
  bag =
      bag-by (ticks k) (Flying k) flying-shape (λ q z f. cycle-ok k z f) (λ q. q) (in_flight k) refl
      (λ q z f t. rw (cycle-said k z f q, cycle-settled k z f q) (unfold called in call-sum (is-queue k) q (settled k z) (settled-neat z f) t))

  pub lowest-given : Lowest (clock k) (Flying k) (λ q. q) (in_flight k)
  lowest-given =
      lowest_by (ticks k) (Flying k) flying-shape (λ q z f. cycle-ok k z f) (λ q. q) (in_flight k)
      (λ q z f. rw (cycle-said k z f q) (unfold called in kept-least (is-queue k) q (settled k z) (settled-neat z f)))

  rests : (z : Machine) → Flying k z → is_pending (rested (clock k) (ticking k) 1 z).due ≡ false
  unfolding leaves
  rests z f = ap (λ (y : Machine). is_pending y.due) (idle-next k z f)

-- ---- any list of cycles from clear

module _ (k : Rows) (x : Machine) (s : Shaped k (length x.words)) where
  wiped-start : fresh k x ≡ machine (wipe (store_words k) x.words) Rest
  unfolding clock_cleared
  wiped-start = ap (λ (b : Bool). (cond {A = Outcome Machine} b (outcome (Ok None) (machine (wipe (store_words k) x.words) Rest)) (left x BadShape)).words) (shape-ok k (length x.words) s)

  start_is : fresh k x ≡ machine (cleared k x.words).words Rest
  start_is = wiped-start ∙ ap (λ (v : List ℕ). machine v Rest) (sym (cleared-words k x.words s))

  start-flies : Flying k (fresh k x)
  unfolding counted
  start-flies = subst (Flying k) (sym start_is) (record { base = (cleared k x.words).words; rows = λ l. []; sound = start-sound k x.words s; granted = tt; words = refl })

  start-settled : settled k (fresh k x) ≡ (cleared k x.words).words
  unfolding settled worked
  start-settled = ap (λ (y : Machine). settled k y) start_is

  start-bare : (t : Element → Bool) → in_flight k (fresh k x) t ≡ 0
  start-bare t = ap (λ (w : List ℕ). stored_by k w t) start-settled ∙ (unfold cleared in start-empty (is-queue k) x.words (shape-ok k (length x.words) s, tt) t)

  -- RUNNING: in the middle of any work it holds exactly what went in and has not come out, what comes out has the lowest rank, nothing is damaged, 3 is never
  -- said; and one idle cycle is always enough
  pub lines-running : (qs : List Request) → Running (clock k) (λ q. q) (in_flight k) 1 qs (fresh k x)
  lines-running qs = running (clock k) (Flying k) (is-clock k) (λ q. q) (in_flight k) (bag k) (fresh k x) start-flies start-bare (lowest-given k) 1 (rests k) qs

  -- NOTHING LOST, over any list of cycles and drains
  pub lines-nothing-lost : (cs : List (Call Request)) → NothingLost (clock k) (λ q. q) (in_flight k) 1 cs (fresh k x)
  lines-nothing-lost cs = nothing-lost-so (clock k) (Flying k) (is-clock k) (λ q. q) (in_flight k) (bag k) (fresh k x) start-flies start-bare 1 cs

  -- the machine settles to the store
  abbrev Settles : Machine → List ℕ → Type 0
  Settles z v = (settled k z ≡ v) × Flying k z

  settles-said : (q : Request) (z : Machine) (v : List ℕ) → Settles z v → (ticking k q z).said ≡ (lines k q v).said
  settles-said q z v y = cycle-said k z y.1 q ∙ ap (λ (u : List ℕ). (called k q u).answer) y.0

  settles-next : (q : Request) (z : Machine) (v : List ℕ) → Settles z v → Settles (ticking k q z).next (lines k q v).next
  settles-next q z v y = (cycle-settled k z y.1 q ∙ ap (λ (u : List ℕ). (called k q u).words) y.0, cycle-flies k z y.1 q)

  module _ (qs : List Request) where
    -- after these cycles; and the one-at-a-time store after the same requests
    abbrev pub flown : Machine
    flown = leaves (ticking k) qs (fresh k x)

    abbrev pub plodded : List ℕ
    plodded = leaves (lines k) qs (cleared k x.words).words

    -- ANSWERS: every cycle's answer, number and triple, is the one-at-a-time answer to the same requests
    pub clock-answers : answers (ticking k) qs (fresh k x) ≡ answers (lines k) qs (cleared k x.words).words
    clock-answers = answers-same (ticking k) (lines k) Settles settles-said settles-next qs (fresh k x) (cleared k x.words).words (start-settled, start-flies)

    -- .. and after it the machine settles to the one-at-a-time store
    pub clock-settles : Settles flown plodded
    clock-settles = leaves-in-step (ticking k) (lines k) Settles settles-said settles-next qs (fresh k x) (cleared k x.words).words (start-settled, start-flies)

    -- DRAINED: after any cycle one idle cycle leaves the one-at-a-time store, word for word, and nothing pending
    pub clock-drained : (ticking k Idle flown).next ≡ machine plodded Rest
    clock-drained = let y = clock-settles in idle-next k flown y.1 ∙ ap (λ (v : List ℕ). machine v Rest) y.0

    -- COUNTS: with a record pending the counts are already those of that store
    pub clock-counts : (i : ℕ) → i < k.lines → word flown.words i ≡ word plodded i
    clock-counts i h = let y = clock-settles in sym (settled-counts k flown y.1 i h) ∙ ap (λ (v : List ℕ). word v i) y.0

    -- HELD: exact in the middle of any work, and it reads no record
    pub clock-held : clock_held k flown ≡ held_count k plodded
    unfolding clock_held held_count
    clock-held =
        let y = clock-settles in
        let v = always-neat k x.words s qs in
        rw (flying-shape k flown y.1, shape-ok k (length plodded) v.1.shaped, counts-same-ok, counts-ok k plodded v.0 v.1) (ap Ok (total_ext (word flown.words) (word plodded) k.lines clock-counts))
      where
        counts-same-ok : counts_ok k flown.words ≡ true
        counts-same-ok = (below-means k.places (word flown.words) k.lines).holds ((cycle-means k flown).says (cycle-ok k flown clock-settles.1)).counts

    -- LINES: .. "and so are all lines but the record's"
    pub clock-lines : (j : ℕ) → Apart k flown.due j → (i : ℕ) → InLine k j i → word flown.words i ≡ word plodded i
    clock-lines j a i b =
        let y = clock-settles in
        sym (settled-else k flown (machine-shape k flown y.1) ((cycle-means k flown).says (cycle-ok k flown y.1)) j i b a) ∙ ap (λ (v : List ℕ). word v i) y.0
