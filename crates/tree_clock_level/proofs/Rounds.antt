-- Level by level: what the code plans and writes makes the tests, the records and the words that the definitions say.
use Rattle.std.proofs.Common.{None, Option, Some, is_some}
use Rattle.laws.specs.Prelude.{Answer, Bool, Damaged, List, ◌&&◌, ◌*◌, ◌+◌, ◌-◌, ◌<◌, ◌∙◌, ◌≡◌, ◌≤◌, ◌⊎◌, add-one, ap, ap₂, arith, blank, cond, eq-or-lt_of_le, false, get_or, get_or-replicate, get_or-set_other, get_or-set_same, le-ltb, length, length-replicate, length-set, mul-le-mul_right, not-suc-le-zero, pred, refl, replicate, set, sub-one, subst, suc, suc-mul, sym, true, zero, ℕ, ⊎_elim, Err}
use native.Mathlib.Nat.{add-mul, mul-le-mul_left}
use Rattle.tree_clock_model.proofs.Laws.{works-set}
use Rattle.tree_clock_model.specs.Prelude.{Works, cycle_ok, cycle_outcome, cycle_words, landed, record_at, record_count, records_after, works_of}
use Rattle.tree_clock_model.specs.declared.State.{State}
use Rattle.tree_clock_level.proofs.Works.{fine-plain, rest_plain, words-plain}
use Rattle.tree_clock_level.specs.Steps.{Does, LevelIn, LevelPlanned, no_write, Rooted, RootPlanned, SecondLevel, state_of, StepOf, turned_by, written}
use Rattle.tree_clock_level.specs.Root.{RoomIs}
use Rattle.tree_clock_level.specs.declared.root.RootStep.{RootStep}
use Rattle.tree_clock_level.specs.declared.AtLevel.{AtLevel}
use Rattle.tree_clock_level.specs.declared.Step.{Step}
use Rattle.tree_clock_level.specs.declared.Write.{Write}
use Rattle.tree_node.proofs.Steps.{move-nothing, room-up}
use Rattle.tree_plan.specs.Planning.{Planned, PlanIn}
use Rattle.tree_node.specs.Room.{child_of, Lies, RoomUnder}
use Rattle.tree_model.proofs.Laws.{fine-here, is_none, level-length, levels-before, move-here, op-work, place_here, rest-here, size_room, work_none, write-here}
use Rattle.tree_model.specs.Prelude.{Level, Levels, idle, is_nothing, level_move, level_of, levels_of, move, node_move, node_of, rest_words, room, size, slot_limit, slot_words, step_ok, step_words, top, under, work, work_ok, write}
use Rattle.tree_model.specs.declared.Move.{Move}
use Rattle.tree_model.specs.declared.Op.{Op}
use Rattle.tree_model.specs.declared.Op.TheVariants.{Nothing}
use Rattle.tree_model.specs.declared.Work.{Work}

-- ---- one level's pending work
-- the numbers that the code of node n's step adds and multiplies
pub record Numbers (m b c n : ℕ) : Type 0 where
  pub slots : b + c * m ≤ slot_limit
  pub own : n * m + m ≤ c * m
  pub child : n * m * m + m * m ≤ c * m * m
  pub wide : c * m * m ≤ slot_limit * 8

module _ (m b c r u : ℕ) (ws : List ℕ) (level : LevelIn m b c r u ws) (w : Work) where
  abbrev own : ℕ
  own = b + w.node * m

  abbrev child : ℕ
  child = b + c * m + w.node * m * m

  pub level-lacks : is_nothing w.op ≡ false → c ≤ w.node → LevelPlanned m b c r u w ws None
  unfolding work_ok
  level-lacks some h k er eu = (rw (some, level-length m ws b c, le-ltb w.node c h), tt)

  module _ (inside : w.node < c) where
    pub numbers : Numbers m b c w.node
    numbers =
        let o : suc w.node * m ≤ c * m = mul-le-mul_right m inside in
        let i : suc w.node * m * m ≤ c * m * m = mul-le-mul_right m o in
        record {
          slots = level.small;
          own = omega (arith, suc-mul w.node m);
          child = omega (arith, ap (λ (a : ℕ). a * m) (suc-mul w.node m), add-mul (w.node * m) m m);
          wide = omega (arith, mul-le-mul_left (c * m) level.few, level.small);
        }

    pub plan-in : PlanIn m own child r u ws
    plan-in =
        let v = numbers in
        record {
          node = record { order = level.order; words = omega (arith, level.words, v.own) };
          few = level.few;
          limit = level.limit;
          deeper = level.deeper;
          children = λ h. omega (arith, level.children h, v.child);
        }

    level-test : (p : Option Move) → Planned m r u w.op own child ws p → (k : ℕ) → RoomIs m k r → RoomIs m (pred k) u
        → is_some p ≡ work_ok m k w (level_of m ws b c) (top k (under m k ws b c))
    level-test p planned k er eu =
        (planned k er eu).0 ∙ sym (fine-here m k b c w.node ws inside w.op) ∙ fine-plain m k w.op w.node (level_of m ws b c) (top k (under m k ws b c))

    pub level-off : Planned m r u w.op own child ws None → LevelPlanned m b c r u w ws None
    level-off planned k er eu = (level-test None planned k er eu, tt)

    module _ (v : Move) (planned : Planned m r u w.op own child ws (Some v)) where
      step-passes : (k : ℕ) → RoomIs m k r → RoomIs m (pred k) u → step_ok m k w.op (node_of m ws own) (child_of m child ws) ≡ true
      step-passes k er eu = sym (planned k er eu).0

      step_is : (k : ℕ) → RoomIs m k r → RoomIs m (pred k) u → v ≡ node_move m w.op own child ws
      step_is k er eu = (planned k er eu).1

      pub place-less : is_nothing w.op ≡ false → v.place < m
      place-less some =
          let ok = step-passes level.below level.fits level.under in
          subst (λ (v : Move). v.place < m) (sym (step_is level.below level.fits level.under)) (place_here m level.below b c w.node ws inside w.op ok level.order some)

      pub level-on : is_nothing w.op ≡ false → (s : Step) → StepOf b (w.node * m) v s → LevelPlanned m b c r u w ws (Some s)
      level-on some s of k fits deeper =
          let ea = of.0 in
          let es = of.1 in
          let er = of.2 in
          let ok = step-passes k fits deeper in
          let is : level_move m w.op w.node (level_of m ws b c) (top k (under m k ws b c)) ≡ v =
          move-here m k b c w.node ws inside w.op ok ∙ sym (step_is k fits deeper) in (
            level-test (Some v) planned k fits deeper,
            record {
              place = ea ∙ ap (λ (v : Move). own + v.place) (sym is);
              slot = es ∙ ap (λ (v : Move). v.slot) (sym is);
              rest = er ∙ ap (λ (v : Move). work v.rest (w.node * m + v.place)) (step_is k fits deeper) ∙ sym (rest-here m k b c w.node ws inside w.op ok) ∙ rest_plain m k w.op w.node (level_of m ws b c) (top k (under m k ws b c));
              own = omega (arith, ea, place-less some, numbers.own);
            },
          )

-- ---- the writes
pub written_none : (l : List Write) (ws : List ℕ) → ws ≡ written 0 l ws
unfolding written
written_none l ws = refl

pub written_next : (n : ℕ) (l : List Write) (ws now after : List ℕ) → now ≡ written n l ws → after ≡ write now (get_or l n no_write).at (get_or l n no_write).slot → after ≡ written (n + 1) l ws
unfolding written
written_next n l ws now after e p = p ∙ ap (λ (v : List ℕ). write v (get_or l n no_write).at (get_or l n no_write).slot) e ∙ ap (λ (k : ℕ). written k l ws) (sym (add-one n))

-- a write put behind the first n is none of them
written-set : (n j : ℕ) (l : List Write) (w : Write) (ws : List ℕ) → n ≤ j → written n (set l j w) ws ≡ written n l ws
unfolding written
written-set zero j l w ws h = refl
written-set (suc n) j l w ws h =
    ap₂ (λ (v : List ℕ) (w : Write). write v w.at w.slot) (written-set n j l w ws (omega arith)) (get_or-set_other l j n w no_write (λ e. omega arith))

written-more : (n : ℕ) (l : List Write) (w : Write) (ws : List ℕ) → n < length l → written (n + 1) (set l n w) ws ≡ write (written n l ws) w.at w.slot
unfolding written
written-more n l w ws h =
    ap (λ (k : ℕ). written k (set l n w) ws) (add-one n)
    ∙ ap₂ (λ (v : List ℕ) (w : Write). write v w.at w.slot) (written-set n n l w ws (omega arith)) (get_or-set_same l n w no_write h)

-- ---- the levels left, the first of which has record i: what they will test, leave and write, with the first n of the writes l done,
-- is what the whole cycle does
pub record Passing (m left b c i n r : ℕ) (ws : List ℕ) (l : List Write) (q : Work) (rs : List Work) (t : Bool) (rs' : List Work) (ws' : List ℕ) : Type 0 where
  pub lies : Lies m left b c 0 ws
  pub fits : RoomIs m (pred left) r
  pub few : n ≤ suc i
  pub spare : length l ≡ suc record_count
  pub inside : (j : ℕ) → j < n → slot_words * (get_or l j no_write).at + slot_words ≤ length ws
  pub stands : levels_of m left (written n l ws) b c ≡ levels_of m left ws b c
  pub tests : cycle_ok m left (works_of left rs i) (levels_of m left ws b c) ≡ t
  pub records : records_after m left q i rs (levels_of m left ws b c) ≡ rs'
  pub words : cycle_words m left (works_of left rs i) b c (written n l ws) ≡ ws'

-- .. by other names
pub passing-as : (m left b b' c c' i n n' r : ℕ) (ws : List ℕ) (l l' : List Write) (q q' : Work) (rs : List Work) (t : Bool) (rs' : List Work) (ws' : List ℕ)
    → Passing m left b c i n r ws l q rs t rs' ws' → b' ≡ b → c' ≡ c → n' ≡ n → l' ≡ l → q' ≡ q → Passing m left b' c' i n' r ws l' q' rs t rs' ws'
passing-as m left b b' c c' i n n' r ws l l' q q' rs t rs' ws' now eb ec en el eq =
    subst (λ (b : ℕ). Passing m left b c' i n' r ws l' q' rs t rs' ws') (sym eb)
    (subst (λ (c : ℕ). Passing m left b c i n' r ws l' q' rs t rs' ws') (sym ec)
    (subst (λ (n : ℕ). Passing m left b c i n r ws l' q' rs t rs' ws') (sym en)
    (subst (λ (l : List Write). Passing m left b c i n r ws l q' rs t rs' ws') (sym el) (subst (λ (q : Work). Passing m left b c i n r ws l q rs t rs' ws') (sym eq) now))))

module _ (m k b c i n r : ℕ) (ws : List ℕ) (l : List Write) (q : Work) (rs : List Work) (t : Bool) (rs' : List Work) (ws' : List ℕ)
    (now : Passing m (suc k) b c i n r ws l q rs t rs' ws') where
  abbrev w : Work
  w = get_or rs i idle

  abbrev here : Level
  here = level_of m ws b c

  abbrev deep : Levels k
  deep = under m k ws b c

  -- the level's numbers
  level-size : b + (c * m + size m k (c * m)) ≤ slot_limit
  unfolding size
  level-size = now.lies.small

  level-words : slot_words * (b + (c * m + size m k (c * m))) ≤ length ws
  unfolding size
  level-words = now.lies.words

  next-room : (k : ℕ) → 1 ≤ room m k → c * m * m ≤ size m k (c * m)
  unfolding room size
  next-room zero h = absurd (omega arith)
  next-room (suc k) h = omega arith

  room-limit : room m k ≤ slot_limit
  room-limit =
      omega (arith, level-size, size_room m k (c * m), mul-le-mul_right (room m k) some)
    where
      some : 1 ≤ c * m
      some = omega (arith, now.lies.order, mul-le-mul_right m now.lies.node)

  pub level_in : (u : ℕ) → RoomUnder m r u → LevelIn m b c r u ws
  level_in u f =
      let e : r ≡ room m k = now.fits in
      record {
        order = now.lies.order;
        few = now.lies.few;
        words = omega (arith, level-words);
        small = omega (arith, level-size);
        limit = omega (arith, room-limit);
        deeper = omega (arith, f k e, room-up m (pred k) k now.lies.order (omega (arith, sub-one k)), room-limit);
        below = k;
        fits = e;
        under = f k e;
        children = λ h. omega (arith, level-words, next-room k (omega (arith, h)));
      }

  pub next_small : (c * m ≤ slot_limit) × (b + c * m ≤ slot_limit)
  next_small = (omega (arith, level-size), omega (arith, level-size))

  next-lies : Lies m k (b + c * m) (c * m) 0 ws
  next-lies = record {
    order = now.lies.order;
    few = now.lies.few;
    node = omega (arith, now.lies.order, mul-le-mul_right m now.lies.node);
    words = omega (arith, level-words);
    small = omega (arith, level-size);
  }

  -- the level's work, by its record
  ok-split : (work_ok m k w here (top k deep) && cycle_ok m k (works_of k rs (suc i)) deep) ≡ t
  unfolding cycle_ok works_of levels_of record_at
  ok-split = ap (λ (a : Bool). a && cycle_ok m k (works_of k rs (suc i)) deep) (sym (fine-plain m k w.op w.node here (top k deep))) ∙ now.tests

  records-split : records_after m k (rest_words m k w b c ws) (suc i) (set rs i (landed q w)) deep ≡ rs'
  unfolding records_after levels_of record_at
  records-split =
      ap (λ (v : Work). records_after m k v (suc i) (set rs i (landed q w)) deep) (sym (rest_plain m k w.op w.node here (top k deep))) ∙ now.records

  words-split : cycle_words m k (works_of k rs (suc i)) (b + c * m) (c * m) (step_words m k w b c (written n l ws)) ≡ ws'
  unfolding cycle_words works_of record_at
  words-split =
      ap (cycle_words m k (works_of k rs (suc i)) (b + c * m) (c * m)) (sym (words-plain m k w.op w.node b c (written n l ws))) ∙ now.words

  -- damage
  pub run-levels-damaged : (u : ℕ) → RoomUnder m r u → LevelPlanned m b c r u w ws None → t ≡ false
  run-levels-damaged u f p =
      let z : work_ok m k w here (top k deep) ≡ false = sym (p k now.fits (f k now.fits)).0 in
      sym ok-split ∙ ap (λ (a : Bool). a && cycle_ok m k (works_of k rs (suc i)) deep) z

  module _ (landing : Work) (lands : landing ≡ landed q w) (u : ℕ) (f : RoomUnder m r u) where
    works-stand : works_of k (set rs i landing) (i + 1) ≡ works_of k rs (suc i)
    works-stand = works-set k rs (i + 1) i landing (omega arith) ∙ ap (works_of k rs) (add-one i)

    -- what is left once the level's step is planned, and its words are those of the first n' of the writes l'
    run-levels-on : (q' : Work) (n' : ℕ) (l' : List Write) → work_ok m k w here (top k deep) ≡ true → q' ≡ rest_words m k w b c ws
        → written n' l' ws ≡ step_words m k w b c (written n l ws) → levels_of m k (written n' l' ws) (b + c * m) (c * m) ≡ deep
        → n' ≤ suc (i + 1) → length l' ≡ suc record_count → ((j : ℕ) → j < n' → slot_words * (get_or l' j no_write).at + slot_words ≤ length ws)
        → Passing m k (b + c * m) (c * m) (i + 1) n' u ws l' q' (set rs i landing) t rs' ws'
    run-levels-on q' n' l' ok eq ew stand few spare inside = record {
      lies = next-lies;
      fits = f k now.fits;
      few = few;
      spare = spare;
      inside = inside;
      stands = stand;
      tests = ap (λ (p : Works k). cycle_ok m k p deep) works-stand ∙ sym (ap (λ (a : Bool). a && cycle_ok m k (works_of k rs (suc i)) deep) ok) ∙ ok-split;
      records =
          ap₂ (λ (v : Work) (w : Work). records_after m k v (i + 1) (set rs i w) deep) eq lands
          ∙ ap (λ (j : ℕ). records_after m k (rest_words m k w b c ws) j (set rs i (landed q w)) deep) (add-one i) ∙ records-split;
      words = ap₂ (λ (p : Works k) (v : List ℕ). cycle_words m k p (b + c * m) (c * m) v) works-stand ew ∙ words-split;
    }

    deep-stands : levels_of m k (written n l ws) (b + c * m) (c * m) ≡ deep
    unfolding levels_of
    deep-stands = ap (λ (ls : Levels (suc k)). ls.1) now.stands

    here-stands : level_of m (written n l ws) b c ≡ here
    unfolding levels_of
    here-stands = ap (λ (ls : Levels (suc k)). ls.0) now.stands

    -- a level with nothing to do
    pub run-levels-idle : (none : Work) → none ≡ idle → is_nothing w.op ≡ true → Passing m k (b + c * m) (c * m) (i + 1) n u ws l none (set rs i landing) t rs' ws'
    unfolding work_ok step_words
    run-levels-idle none en e =
        run-levels-on none n l (rw e) (en ∙ sym (work_none m w here (top k deep) (is_none w.op e))) (rw e) deep-stands (omega (arith, now.few)) now.spare now.inside

    -- a level whose step is in order
    pub run-levels-step : (s : Step) → LevelPlanned m b c r u w ws (Some s) → is_nothing w.op ≡ false → n < length l
        → Passing m k (b + c * m) (c * m) (i + 1) (n + 1) u ws (set l n s.write) s.rest (set rs i landing) t rs' ws'
    unfolding step_words
    run-levels-step s p e fit =
        let d : Does m k w b c ws s = (p k now.fits (f k now.fits)).1 in
        let more = written-more n l s.write ws fit in
        let same : level_move m w.op w.node (level_of m (written n l ws) b c) (top k (under m k (written n l ws) b c)) ≡ level_move m w.op w.node here (top k deep) =
        ap₂ (λ (l : Level) (ls : Levels k). level_move m w.op w.node l (top k ls)) here-stands deep-stands in
        run-levels-on s.rest (n + 1) (set l n s.write) (sym (p k now.fits (f k now.fits)).0) d.rest
        (more ∙ ap₂ (write (written n l ws)) d.place d.slot ∙ rw e (ap (λ (v : Move). write (written n l ws) (b + w.node * m + v.place) v.slot) (sym same)))
        (ap (λ (v : List ℕ). levels_of m k v (b + c * m) (c * m)) more ∙ levels-before m k (written n l ws) (b + c * m) (c * m) s.write.at s.write.slot d.own ∙ deep-stands)
        (omega (arith, now.few)) (length-set l n s.write ∙ now.spare)
        (λ j h. ⊎_elim
        (λ z. subst (λ (w : Write). slot_words * w.at + slot_words ≤ length ws) (sym (ap (λ (j : ℕ). get_or (set l n s.write) j no_write) z ∙ get_or-set_same l n s.write no_write fit)) (omega (arith, d.own, level-words)))
        (λ z. subst (λ (w : Write). slot_words * w.at + slot_words ≤ length ws) (sym (get_or-set_other l n j s.write no_write (λ g. omega arith))) (now.inside j z))
        (either j n (omega arith)))
      where
        either : (j n : ℕ) → j < suc n → (j ≡ n) ⊎ (j < n)
        either j n h = eq-or-lt_of_le (omega arith)

-- all levels are done
module _ (m b c i n r : ℕ) (ws : List ℕ) (l : List Write) (q : Work) (rs : List Work) (t : Bool) (rs' : List Work) (ws' : List ℕ)
    (now : Passing m 0 b c i n r ws l q rs t rs' ws') where
  pub end-tests : true ≡ t
  unfolding cycle_ok
  end-tests = now.tests

  pub end-records : rs ≡ rs'
  unfolding records_after
  end-records = now.records

  pub end-words : written n l ws ≡ ws'
  unfolding cycle_words
  end-words = now.words

-- ---- the loop over the levels: i of k are done
abbrev pub Going : ℕ → ℕ → List ℕ → Op → State → AtLevel → ℕ → ℕ → List Write → Work → List Work → Type 0
Going m k ws o s at i n l q rs =
    Passing m (k - i) at.base at.nodes i n at.room ws l q rs (cycle_ok m k (works_of k s.records 0) (under m k ws 0 1))
    (records_after m k (rest_words m k (work o 0) 0 1 ws) 0 s.records (under m k ws 0 1)) (cycle_words m (suc k) (work o 0, works_of k s.records 0) 0 1 ws)

module _ (m k b c i n r : ℕ) (ws : List ℕ) (l : List Write) (q : Work) (rs : List Work) (t : Bool) (rs' : List Work) (ws' : List ℕ)
    (now : Passing m (k - i) b c i n r ws l q rs t rs' ws') where
  pub going-here : i < k → Passing m (suc (k - (i + 1))) b c i n r ws l q rs t rs' ws'
  going-here h = let e : k - i ≡ suc (k - (i + 1)) = omega arith in subst (λ (j : ℕ). Passing m j b c i n r ws l q rs t rs' ws') e now

  pub going_end : k ≤ i → Passing m 0 b c i n r ws l q rs t rs' ws'
  going_end h = let e : k - i ≡ 0 = omega arith in subst (λ (j : ℕ). Passing m j b c i n r ws l q rs t rs' ws') e now

-- ---- the root's step comes first
module _ (m k : ℕ) (ws : List ℕ) (rooted : Rooted m k ws) (h : RootStep) (planned : RootPlanned m k h ws) where
  abbrev o : Op
  o = h.op

  abbrev v : Move
  v = h.step

  abbrev first : Write
  first = record { at = v.place; slot = v.slot }

  node-zero : 0 + 0 * m ≡ 0
  node-zero = omega arith

  child-zero : 0 + 1 * m + 0 * m * m ≡ m
  child-zero = omega arith

  root_ok : step_ok m k o (node_of m ws (0 + 0 * m)) (child_of m (0 + 1 * m + 0 * m * m) ws) ≡ true
  root_ok = ap₂ (λ (i f : ℕ). step_ok m k o (node_of m ws i) (child_of m f ws)) node-zero child-zero ∙ planned.0

  root-moved : node_move m o (0 + 0 * m) (0 + 1 * m + 0 * m * m) ws ≡ v
  root-moved = ap₂ (λ (i f : ℕ). node_move m o i f ws) node-zero child-zero ∙ sym planned.1

  root-words : (slot_words * m ≤ length ws) × (m ≤ slot_limit)
  unfolding size
  root-words = (omega (arith, rooted.lies.words), omega (arith, rooted.lies.small))

  second-lies : Lies m k m m 0 ws
  unfolding size
  second-lies =
      let one : size m k (1 * m) ≡ size m k m = ap (size m k) (omega arith) in
      record {
        order = rooted.lies.order;
        few = rooted.lies.few;
        node = rooted.lies.order;
        words = omega (arith, rooted.lies.words, one);
        small = omega (arith, rooted.lies.small, one);
      }

  second-level : levels_of m k ws m m ≡ under m k ws 0 1
  second-level = ap₂ (levels_of m k ws) (omega arith) (omega arith)

  pub root-rest : (q : Work) → q ≡ work v.rest v.place → q ≡ rest_words m k (work o 0) 0 1 ws
  root-rest q e =
      let z : v.place ≡ 0 * m + v.place = omega arith in
      e ∙ ap (work v.rest) z ∙ ap (λ (v : Move). work v.rest (0 * m + v.place)) (sym root-moved) ∙ sym (rest-here m k 0 1 0 ws (omega arith) o root_ok)

  -- what is written by then: the root's slot, or nothing
  pub record Begun (n : ℕ) : Type 0 where
    pub few : n ≤ 1
    pub words : written n (replicate (suc record_count) first) ws ≡ step_words m k (work o 0) 0 1 ws
    pub stands : levels_of m k (written n (replicate (suc record_count) first) ws) m m ≡ levels_of m k ws m m
    pub inside : (j : ℕ) → j < n → slot_words * (get_or (replicate (suc record_count) first) j no_write).at + slot_words ≤ length ws

  begun : (n : ℕ) → n ≡ cond (is_nothing o) 0 1 → Begun n
  unfolding written step_words
  begun n e = subst Begun (sym e) (go (is_nothing o) refl)
    where
      none-at : (j : ℕ) → j < 0 → slot_words * (get_or (replicate (suc record_count) first) j no_write).at + slot_words ≤ length ws
      none-at j h = absurd (not-suc-le-zero h)

      go : (b : Bool) → is_nothing o ≡ b → Begun (cond b 0 1)
      go true f = record { few = omega arith; words = rw (op-work o 0, f); stands = refl; inside = none-at }
      go false f =
          let place : v.place < m =
          subst (λ (v : Move). v.place < m) root-moved (place_here m k 0 1 0 ws (omega arith) o root_ok rooted.lies.order f) in
          let z : 0 + 0 * m + v.place ≡ v.place = omega arith in
          record {
            few = omega arith;
            words =
                ap (λ (i : ℕ). write ws i v.slot) (sym z) ∙ ap (λ (v : Move). write ws (0 + 0 * m + v.place) v.slot) (sym root-moved)
                ∙ sym (write-here m k 0 1 0 ws (omega arith) o root_ok f);
            stands = levels-before m k ws m m v.place v.slot place;
            inside = λ j h. rw (get_or-replicate (suc record_count) j first no_write (omega arith)) (omega (arith, root-words.0));
          }

  run-levels-start : (s : State) (top r n : ℕ) (q : Work) → RoomIs m k top → RoomUnder m top r → n ≡ cond (is_nothing o) 0 1 → q ≡ work v.rest v.place
      → Passing m (k - 0) m m 0 n r ws (replicate (suc record_count) first) q s.records (cycle_ok m k (works_of k s.records 0) (under m k ws 0 1)) (records_after m k (rest_words m k (work o 0) 0 1 ws) 0 s.records (under m k ws 0 1)) (cycle_words m (suc k) (work o 0, works_of k s.records 0) 0 1 ws)
  unfolding cycle_words
  run-levels-start s top r n q et er en eq =
      let go = begun n en in
      let all : k ≡ k - 0 = omega arith in
      subst (λ (j : ℕ). Passing m j m m 0 n r ws (replicate (suc record_count) first) q s.records (cycle_ok m k (works_of k s.records 0) (under m k ws 0 1)) (records_after m k (rest_words m k (work o 0) 0 1 ws) 0 s.records (under m k ws 0 1)) (cycle_words m (suc k) (work o 0, works_of k s.records 0) 0 1 ws)) all
      (record {
        lies = second-lies;
        fits = er k et;
        few = go.few;
        spare = length-replicate (suc record_count) first;
        inside = go.inside;
        stands = go.stands;
        tests = ap (cycle_ok m k (works_of k s.records 0)) second-level;
        records = ap₂ (λ (q : Work) (ls : Levels k). records_after m k q 0 s.records ls) (root-rest q eq) second-level;
        words =
            ap (λ (v : List ℕ). cycle_words m k (works_of k s.records 0) m m v) go.words
            ∙ ap₂ (λ (b c : ℕ). cycle_words m k (works_of k s.records 0) b c (step_words m k (work o 0) 0 1 ws)) (omega arith) (omega arith);
      })

  -- .. with the root's step as the code makes it
  pub root-place : v.place ≤ m
  root-place = go (is_nothing o) refl
    where
      go : (b : Bool) → is_nothing o ≡ b → v.place ≤ m
      go true f =
          let e : v.place ≡ m = ap (λ (v : Move). v.place) (planned.1 ∙ sym (move-nothing m o 0 m ws (move m blank 0 Nothing) blank (is_none o f) refl refl)) in
          omega arith
      go false f =
          let place : v.place < m =
          subst (λ (v : Move). v.place < m) root-moved (place_here m k 0 1 0 ws (omega arith) o root_ok rooted.lies.order f) in
          omega arith

  pub run-levels-root : (s : State) (root : Step) (top n : ℕ) (at : AtLevel) → StepOf 0 0 v root → RoomIs m k top → SecondLevel m top at → n ≡ cond (is_nothing o) 0 1
      → Going m k ws o s at 0 n (replicate (suc record_count) root.write) root.rest s.records
  run-levels-root s root top n at of et second en =
      let place : root.write.at ≡ v.place = of.0 ∙ omega arith in
      let z : 0 + v.place ≡ v.place = omega arith in
      passing-as m (k - 0) m at.base m at.nodes 0 n n at.room ws (replicate (suc record_count) first) (replicate (suc record_count) root.write) root.rest root.rest s.records _ _ _
      (run-levels-start s top at.room n root.rest et second.room en (of.2 ∙ ap (work v.rest) z)) second.base second.nodes refl
      (ap (replicate (suc record_count)) (λ i. record { at = place i; slot = of.1 i })) refl

  -- ---- what the cycle then leaves
  module _ (a : Answer) (mark : Bool) (s : State) where
    abbrev whole : Bool
    whole = cycle_ok m k (works_of k s.records 0) (under m k ws 0 1)

    pub cycle_run-off : (x : Answer) (u : State) → whole ≡ false → (x ≡ Err Damaged) × (u ≡ s) → cycle_outcome x ws u ≡ turned_by m k a o mark s ws
    unfolding turned_by
    cycle_run-off x u e p = rw e (λ i. record { answer = p.0 i; words = ws; state = p.1 i })

    pub cycle_run-on : (x : Answer) (u : State) (rs : List Work) (after : List ℕ) → true ≡ whole → rs ≡ records_after m k (rest_words m k (work o 0) 0 1 ws) 0 s.records (under m k ws 0 1)
        → after ≡ cycle_words m (suc k) (work o 0, works_of k s.records 0) 0 1 ws → (x ≡ a) × (u ≡ state_of rs mark) → cycle_outcome x after u ≡ turned_by m k a o mark s ws
    unfolding turned_by
    cycle_run-on x u rs after e er ew p =
        rw (← e) ((λ i. record { answer = p.0 i; words = ew i; state = p.1 i }) ∙ ap (λ (rs : List Work). cycle_outcome a (cycle_words m (suc k) (work o 0, works_of k s.records 0) 0 1 ws) (state_of rs mark)) er)
