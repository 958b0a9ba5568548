-- Each level does its one step in a cycle, from what stood at its start; and an operation's last write falls within as many cycles as there are
-- levels.
use Rattle.laws.specs.Prelude.{Answer, List, Request, [], ◌*◌, ◌+◌, ◌<◌, ◌^◌, ◌∙◌, ◌∷◌, ◌≡◌, ◌≤◌, add-zero, and_left, and_right, ap, ap₂, arith, get_or, get_or-set_other, get_or-set_same, length, length-set, not-suc-le-zero, pow-suc, pred, refl, set, subst, suc, sym, true, zero, zero-add, ℕ, ℕ_discrete}
use Rattle.tree_clock_model.proofs.Demand.{ran-in-step}
use Rattle.tree_clock_model.proofs.Exactly.{no-damage-sound, cycled-fine}
use Rattle.tree_clock_model.proofs.Lost.{Going, is-clock}
use Rattle.tree_clock_model.proofs.Turn.{after-before, after-past, landed-recorded, plain-rest, recorded-work, words-cycle}
use Rattle.tree_clock_model.specs.Prelude.{CycleDamage, CycleOutcome, Machine, OneStep, Recorded, State, Works, asked_ok, clocked_queue, cycle_levels, cycle_ok, cycle_run, cycle_words, cycle_work, cycled, first_slot, flight, landed, leave_below, level_now, level_work, ran, record_at, records_after, rule_now, steps_ok, works_of}
use Rattle.promise.proofs.InFlight.{kept-undamaged, next-kept}
use Rattle.promise.specs.Prelude.{Step, flies, leaves}
use Rattle.promise.specs.Flight.{ends}
use Rattle.tree_model.proofs.Laws.{is-shape, level-wide, lies, order-pos, place_of, size_room, step-none}
use Rattle.tree_model.specs.Prelude.{Level, Levels, Ruling, Shape, four_words, idle, level_at, level_move, level_of, levels_of, rest_words, size, slot_at, step_level, step_work, top, under, vacant, work, work_ok}
use Rattle.tree_model.specs.declared.Move.{Move}
use Rattle.tree_model.specs.declared.Op.TheVariants.{Nothing}
use Rattle.tree_model.specs.declared.Slot.{Slot}
use Rattle.tree_model.specs.declared.Work.{Work}
use Rattle.tree_clock_model.proofs.Ends.{last-ends}

-- ---- level by level
top-at : (k : ℕ) (ls : Levels k) → top k ls ≡ level_at k ls 0
unfolding top level_at
top-at zero ls = refl
top-at (suc k) ls = refl

-- the work of level i
work_at : (k : ℕ) → Works k → ℕ → Work
work_at zero p i = idle
work_at (suc k) p zero = p.0
work_at (suc k) p (suc i) = work_at k p.1 i

works_at : (k : ℕ) (rs : List Work) (b i : ℕ) → i < k → work_at k (works_of k rs b) i ≡ record_at rs (b + i)
unfolding works_of work_at
works_at zero rs b i h = absurd (not-suc-le-zero h)
works_at (suc k) rs b zero h = ap (record_at rs) (omega arith)
works_at (suc k) rs b (suc i) h = works_at k rs (suc b) i (omega arith) ∙ ap (record_at rs) (omega arith)

module _ (m : ℕ) where
  cycle-level : (k : ℕ) (p : Works k) (ls : Levels k) (i : ℕ) → i < k → level_at k (cycle_levels m k p ls) i ≡ step_level m (work_at k p i) (level_at k ls i) (level_at k ls (suc i))
  unfolding cycle_levels level_at work_at
  cycle-level zero p ls i h = absurd (not-suc-le-zero h)
  cycle-level (suc k) p ls zero h = ap (step_level m p.0 ls.0) (top-at k ls.1)
  cycle-level (suc k) p ls (suc i) h = cycle-level k p.1 ls.1 i (omega arith)

  cycle-last : (k : ℕ) (p : Works (suc k)) (ls : Levels (suc k)) → cycle_ok m (suc k) p ls ≡ true → work_ok m 0 (work_at (suc k) p k) (level_at (suc k) ls k) (level_at (suc k) ls (suc k)) ≡ true
  unfolding cycle_ok level_at work_at top
  cycle-last zero p ls e = and_left (work_ok m 0 p.0 ls.0 []) _ e
  cycle-last (suc k) p ls e = cycle-last k p.1 ls.1 (and_right (work_ok m (suc k) p.0 ls.0 (top (suc k) ls.1)) _ e)

-- ---- one slot of a level
step-slot : (m : ℕ) (w : Work) (l below : Level) (n j : ℕ) → n < length l → (n ≡ w.node → j ≡ (level_move m w.op w.node l below).place → ⊥)
    → slot_at (get_or (step_level m w l below) n []) j ≡ slot_at (get_or l n []) j
unfolding step_level slot_at
step-slot m w l below n j h apart = elim (ℕ_discrete n w.node) [ yes e ↦ here e | no e ↦ ap (λ (nd : List Slot). get_or nd j vacant) (get_or-set_other l w.node n _ [] e) ]
  where
    v : Move
    v = level_move m w.op w.node l below

    here : n ≡ w.node → get_or (get_or (set l w.node (set (get_or l w.node []) v.place v.slot)) n []) j vacant ≡ get_or (get_or l n []) j vacant
    here e =
        ap (λ (a : ℕ). get_or (get_or (set l w.node (set (get_or l w.node []) v.place v.slot)) a []) j vacant) e
        ∙ ap (λ (nd : List Slot). get_or nd j vacant) (get_or-set_same l w.node _ [] (subst (λ (a : ℕ). a < length l) e h))
        ∙ get_or-set_other (get_or l w.node []) v.place j _ vacant (λ q. apart e q) ∙ ap (λ (a : ℕ). get_or (get_or l a []) j vacant) (sym e)

-- ---- the records
left-for : ℕ → (k : ℕ) → Work → ℕ → List Work → Levels k → ℕ → Work
left-for m k q i rs ls zero = q
left-for m k q i rs ls (suc j) = step_work m (record_at rs (i + j)) (level_at k ls j) (level_at k ls (suc j))

after-at : (m k : ℕ) (q : Work) (i : ℕ) (rs : List Work) (ls : Levels k) (j : ℕ) → j < k → i + k ≤ length rs
    → get_or (records_after m k q i rs ls) (i + j) idle ≡ landed (left-for m k q i rs ls j) (get_or rs (i + j) idle)
unfolding records_after left-for level_at record_at
after-at m zero q i rs ls j h fits = absurd (not-suc-le-zero h)
after-at m (suc k) q i rs ls zero h fits =
    rw add-zero (after-before m k _ (suc i) _ ls.1 i (omega arith) ∙ get_or-set_same rs i (landed q (get_or rs i idle)) idle (omega arith))
after-at m (suc k) q i rs ls (suc j) h fits =
    let at : i + suc j ≡ suc i + j = omega arith in
    let rs₁ : List Work = set rs i (landed q (get_or rs i idle)) in
    let q₁ : Work = step_work m (record_at rs i) ls.0 (top k ls.1) in
    ap (λ (a : ℕ). get_or (records_after m k q₁ (suc i) rs₁ ls.1) a idle) at
    ∙ after-at m k q₁ (suc i) rs₁ ls.1 j (omega arith) (omega (arith, length-set rs i (landed q (get_or rs i idle))))
    ∙ ap₂ landed (before j) (get_or-set_other rs i (suc i + j) _ idle (λ e. omega arith) ∙ ap (λ (a : ℕ). get_or rs a idle) (sym at))
  where
    before : (j : ℕ) → left-for m k (step_work m (record_at rs i) ls.0 (top k ls.1)) (suc i) (set rs i (landed q (get_or rs i idle))) ls.1 j ≡ left-for m (suc k) q i rs ls (suc j)
    before zero = ap₂ (λ (w : Work) (b : Level). step_work m w ls.0 b) (ap (record_at rs) (sym (add-zero i))) (top-at k ls.1)
    before (suc j) =
        let at : suc i + j ≡ i + suc j = omega arith in
        ap (λ (v : Work). step_work m (work v.op v.node) (level_at k ls.1 j) (level_at k ls.1 (suc j)))
        (get_or-set_other rs i (suc i + j) _ idle (λ e. omega arith) ∙ ap (λ (a : ℕ). get_or rs a idle) at)

-- ---- ONE-STEP
module _ (m k : ℕ) (r : Request) (s : State) (ws : List ℕ) (sh : Shape m (suc k) (length ws)) (len : k ≤ length s.records) (d : CycleDamage m (suc k) r s ws → ⊥) where
  abbrev g : Ruling
  g = rule_now m (suc k) r s ws

  abbrev p : Works (suc k)
  p = cycle_work m (suc k) g.op s

  abbrev now : List ℕ → ℕ → Level
  now = level_now m (suc k)

  abbrev after : List ℕ
  after = (cycled m (suc k) r s ws).words

  steps-ok : cycle_ok m (suc k) p (levels_of m (suc k) ws 0 1) ≡ true
  steps-ok = and_right (asked_ok m (suc k) r ws) (steps_ok m (suc k) g.op s ws) (no-damage-sound m (suc k) r s ws d)

  here : cycled m (suc k) r s ws ≡ cycle_run m (suc k) r g s ws
  here = cycled-fine m (suc k) r s ws (is-shape m (suc k) (length ws) sh) (no-damage-sound m (suc k) r s ws d)

  levels-cycled : (levels_of m (suc k) (cycle_words m (suc k) p 0 1 ws) 0 1 ≡ cycle_levels m (suc k) p (levels_of m (suc k) ws 0 1))
      × ((a : ℕ) → 4 * (0 + size m (suc k) 1) ≤ a → get_or (cycle_words m (suc k) p 0 1 ws) a 0 ≡ get_or ws a 0)
  levels-cycled = words-cycle m (order-pos sh) (suc k) p 0 1 ws (omega (arith, sh.slice, size_room m (suc k) 1)) steps-ok

  work-is : (i : ℕ) → i < suc k → work_at (suc k) p i ≡ level_work m (suc k) r s ws i
  unfolding work_at
  work-is zero h = refl
  work-is (suc i) h = works_at k s.records 0 i (omega arith) ∙ ap (record_at s.records) (zero-add i)

  each : (i : ℕ) → i < suc k → now after i ≡ step_level m (level_work m (suc k) r s ws i) (now ws i) (now ws (suc i))
  unfolding cycle_run
  each i h =
      ap (λ (c : CycleOutcome). now c.words i) here ∙ ap (λ (ls : Levels (suc k)). level_at (suc k) ls i) levels-cycled.0
      ∙ cycle-level m (suc k) p (levels_of m (suc k) ws 0 1) i h ∙ ap (λ (w : Work). step_level m w (now ws i) (now ws (suc i))) (work-is i h)

  -- the one slot
  abbrev place_in : ℕ → ℕ
  place_in i = (level_move m (level_work m (suc k) r s ws i).op (level_work m (suc k) r s ws i).node (now ws i) (now ws (suc i))).place

  abbrev slot_of : ℕ → ℕ
  slot_of i = (level_work m (suc k) r s ws i).node * m + place_in i

  -- a slot of level i, by its node and its place
  by_place : (P : ℕ → Type 0) (i q : ℕ) → q < m ^ suc i → ((n j : ℕ) → n < m ^ i → j < m → P (n * m + j)) → P q
  by_place P i q h f = let d = place_of m (m ^ i) q (subst (λ (c : ℕ). q < c) (pow-suc m i) h) in subst P (sym d.is) (f d.row d.place d.in_rows d.in_row)

  same-there : (i n j : ℕ) → i < suc k → n < m ^ i → j < m → slot_at (get_or (now after i) n []) j ≡ slot_at (get_or (now ws i) n []) j
      → four_words after (first_slot m i + (n * m + j)) ≡ four_words ws (first_slot m i + (n * m + j))
  same-there i n j hi hn hj e =
      let at : first_slot m i + (n * m + j) ≡ first_slot m i + n * m + j = omega arith in
      rw at (sym (lies m (suc k) after i n j hi hn hj) ∙ e ∙ lies m (suc k) ws i n j hi hn hj)

  others : (i q : ℕ) → i < suc k → q < m ^ suc i → (q ≡ slot_of i → ⊥) → four_words after (first_slot m i + q) ≡ four_words ws (first_slot m i + q)
  others i q hi hq =
      by_place (λ q. (q ≡ slot_of i → ⊥) → four_words after (first_slot m i + q) ≡ four_words ws (first_slot m i + q)) i q hq (λ n j hn hj apart.
      same-there i n j hi hn hj (ap (λ (l : Level). slot_at (get_or l n []) j) (each i hi)
      ∙ step-slot m (level_work m (suc k) r s ws i) (now ws i) (now ws (suc i)) n j (omega (arith, level-wide m (suc k) ws i hi)) (λ a b. apart (ap₂ (λ (n j : ℕ). n * m + j) a b))))

  still : (i q : ℕ) → i < suc k → q < m ^ suc i → (level_work m (suc k) r s ws i).op ≡ Nothing → four_words after (first_slot m i + q) ≡ four_words ws (first_slot m i + q)
  still i q hi hq e =
      by_place (λ q. four_words after (first_slot m i + q) ≡ four_words ws (first_slot m i + q)) i q hq (λ n j hn hj.
      same-there i n j hi hn hj (ap (λ (l : Level). slot_at (get_or l n []) j) (each i hi ∙ step-none m (level_work m (suc k) r s ws i) (now ws i) (now ws (suc i)) e)))

  left_is : (i : ℕ) → left-for m k (rest_words m k (work g.op 0) 0 1 ws) 0 s.records (under m k ws 0 1) i ≡ leave_below m (suc k) ws i (level_work m (suc k) r s ws i)
  unfolding left-for level_at levels_of
  left_is zero = ap (step_work m (work g.op 0) (level_of m ws 0 1)) (top-at k (under m k ws 0 1))
  left_is (suc i) = ap (λ (a : ℕ). step_work m (record_at s.records a) (level_at k (under m k ws 0 1) i) (level_at k (under m k ws 0 1) (suc i))) (zero-add i)

  records : (i : ℕ) → suc i < suc k → Recorded (leave_below m (suc k) ws i (level_work m (suc k) r s ws i)) (get_or s.records i idle) (get_or (cycled m (suc k) r s ws).state.records i idle)
  unfolding cycle_run
  records i h =
      subst (λ (v : Work). Recorded (leave_below m (suc k) ws i (level_work m (suc k) r s ws i)) (get_or s.records i idle) v)
      (sym (ap (λ (c : CycleOutcome). get_or c.state.records i idle) here
      ∙ ap (λ (a : ℕ). get_or (records_after m k (rest_words m k (work g.op 0) 0 1 ws) 0 s.records (under m k ws 0 1)) a idle) (sym (zero-add i)) ∙ after-at m k _ 0 s.records (under m k ws 0 1) i (omega arith) (omega arith)
      ∙ ap₂ landed (left_is i) (ap (λ (a : ℕ). get_or s.records a idle) (zero-add i)))) (landed-recorded _ _)

  last : (leave_below m (suc k) ws k (level_work m (suc k) r s ws k)).op ≡ Nothing
  last = last-ends m _ _ _ (subst (λ (w : Work). work_ok m 0 w (now ws k) (now ws (suc k)) ≡ true) (work-is k (omega arith)) (cycle-last m k p (levels_of m (suc k) ws 0 1) steps-ok))

pub one-step : (m levels : ℕ) (r : Request) (s : State) (ws : List ℕ) → Shape m levels (length ws) → pred levels ≤ length s.records → (CycleDamage m levels r s ws → ⊥) → OneStep m levels r s ws
unfolding cycle_run
one-step m zero r s ws sh len d = absurd (not-suc-le-zero sh.some)
one-step m (suc k) r s ws sh len d =
    record {
      each = each m k r s ws sh len d;
      slot = slot_of m k r s ws sh len d;
      others = others m k r s ws sh len d;
      still = still m k r s ws sh len d;
      past = λ a h. ap (λ (c : CycleOutcome). get_or c.words a 0) (here m k r s ws sh len d) ∙ (levels-cycled m k r s ws sh len d).1 a (omega (arith, size_room m (suc k) 1));
      records = records m k r s ws sh len d;
      last = last m k r s ws sh len d;
      spare = λ j h. ap (λ (c : CycleOutcome). get_or c.state.records j idle) (here m k r s ws sh len d) ∙ after-past m k _ 0 s.records (under m k ws 0 1) j (omega arith);
    }

module _ (m k : ℕ) where
  going_step : (r : Request) (x : Machine) → Going m k x → OneStep m (suc k) r x.state x.words
  going_step r x g = one-step m (suc k) r x.state x.words (subst (Shape m (suc k)) (sym g.1.same_length) g.1.kept.shape) g.1.records (kept-undamaged (is-clock m k) r x g)

-- .. so in every cycle of any list of cycles from the cleared machine
pub one-step-run : (m levels : ℕ) (ws : List ℕ) (rs : List Request) → Shape m levels (length ws) → (r : Request) → OneStep m levels r (ran m levels rs ws).state (ran m levels rs ws).words
one-step-run m zero ws rs sh r = absurd (not-suc-le-zero sh.some)
one-step-run m (suc k) ws rs sh r = going_step m k r (ran m (suc k) rs ws) (_, ran-in-step m ws rs k sh)

-- ---- LAST WRITE: "its last write falls within L cycles, its own included", whatever is asked after it
module _ (m k : ℕ) where
  abbrev queue : Request → Machine → Step Answer Machine
  queue = clocked_queue m (suc k)

  -- what level i leaves is the work of level i + 1 in the next cycle
  handed-down : (r t : Request) (x : Machine) (i : ℕ) → Going m k x → suc i ≤ k
      → level_work m (suc k) t (queue r x).next.state (queue r x).next.words (suc i) ≡ leave_below m (suc k) x.words i (level_work m (suc k) r x.state x.words i)
  unfolding record_at
  handed-down r t x i go h = recorded-work _ _ _ (plain-rest m _ _ _) ((going_step m k r x go).records i (omega arith))

-- an operation asked after any list of cycles is done at level n + 1 in the n-th cycle after its own, whatever is asked in between ..
pub in-flight : (m levels : ℕ) (ws : List ℕ) (before : List Request) → Shape m levels (length ws) → (r : Request) (after : List Request) → suc (length after) < levels
    → let x = ran m levels before ws in
    record_at (leaves (clocked_queue m levels) (r ∷ after) x).state.records (length after) ≡ flight m levels 0 (level_work m levels r x.state x.words 0) (r ∷ after) x
in-flight m zero ws before sh r after h = absurd (not-suc-le-zero sh.some)
in-flight m (suc k) ws before sh r after h =
    ap (record_at (leaves (clocked_queue m (suc k)) (r ∷ after) (ran m (suc k) before ws)).state.records) (sym (zero-add (length after)))
    ∙ flies (clocked_queue m (suc k)) (λ i w x y. leave_below m (suc k) x.words i w) (Going m k) (next-kept (is-clock m k)) (λ r x. level_work m (suc k) r x.state x.words) k (handed-down m k) after r r (ran m (suc k) before ws) 0
    (_, ran-in-step m ws before k sh) (omega arith)

-- .. and after as many cycles as there are levels nothing of it is left to do
pub last-write : (m levels : ℕ) (ws : List ℕ) (before : List Request) → Shape m levels (length ws) → (r : Request) (after : List Request) → length (r ∷ after) ≡ levels
    → let x = ran m levels before ws in (flight m levels 0 (level_work m levels r x.state x.words 0) (r ∷ after) x).op ≡ Nothing
last-write m zero ws before sh r after h = absurd (not-suc-le-zero sh.some)
last-write m (suc k) ws before sh r after h =
    ends (clocked_queue m (suc k)) (λ i w x y. leave_below m (suc k) x.words i w) (Going m k) (next-kept (is-clock m k)) (λ r x. level_work m (suc k) r x.state x.words) k (handed-down m k) (λ w. w.op ≡ Nothing)
    (λ r x go. (going_step m k r x go).last) after r (ran m (suc k) before ws) 0 (_, ran-in-step m ws before k sh) (omega arith)
