-- One cycle keeps the clocked tree in step with the one-at-a-time tree beside it: the same answer, no damage, and all that is pending,
-- done to its end, gives that tree's store.
use Rattle.laws.specs.Prelude.{Bool, Idle, List, Request, TooSoon, [], ◌&&◌, ◌*◌, ◌+◌, ◌<◌, ◌∙◌, ◌≡◌, ◌≤◌, and_left, and_right, ap, ap₂, arith, cond, false, false≢true, get_or, length, not, or_right, refl, subst, suc, sym, true, true≢false, zero, ℕ, Ok, None, Err}
use Rattle.tree_clock_model.proofs.Clock.{clears, settled, spaced}
use Rattle.tree_clock_model.proofs.Turn.{after-length, cycle-length, plain-rest, words-cycle, works-after}
use Rattle.tree_clock_model.proofs.Undamaged.{cycle-fine, cycle-ready}
use Rattle.tree_clock_model.specs.Prelude.{Clear, CycleOutcome, Gap, PathsOk, Spaced, State, Works, asked_ok, asks, cycle_levels, cycle_run, cycle_work, cycle_works, cycled, finally, is_refused, marks, one_by_one, pops_or_replaces, quiet, rule_marked, rule_now, settle, steps_ok, works_of}
use Rattle.tree_model.proofs.Laws.{Kept, apply-length, apply-none, called-kept, comes, is_none, is-shape, kept-called, op-work, order-pos, path-none, root-node, size_room, sound-root, sound-way, words-apply, words-none}
use Rattle.tree_model.specs.Prelude.{Comes, Levels, Outcome, Ruling, Shape, apply, apply_words, called, empty, full, idle, idles, is_nothing, lacks, level_of, levels_of, no-tag, node_ok, outcome, path_ok, puts, room, root_of, rule, rule_at, ruling, shape_ok, size, slot_words, swaps, takes, under, way_ok, work}
use Rattle.tree_model.specs.declared.Op.{Op}
use Rattle.tree_model.specs.declared.Op.TheVariants.{Nothing}
use Rattle.tree_model.specs.declared.Slot.{Slot}
use Rattle.tree_model.specs.declared.Work.{Work}

-- ---- no pending work
pub quiet-clear : (k : ℕ) (p : Works k) → quiet k p ≡ true → Clear k p
unfolding quiet
quiet-clear zero p e = tt
quiet-clear (suc k) p e = is_none p.0.op (and_left (is_nothing p.0.op) (quiet k p.1) e)

quiet-more : (k : ℕ) (p : Works (suc k)) → quiet (suc k) p ≡ true → quiet k p.1 ≡ true
unfolding quiet
quiet-more k p e = and_right (is_nothing p.0.op) (quiet k p.1) e

pub quiet-spaced : (k : ℕ) (p : Works k) → quiet k p ≡ true → Spaced k p
quiet-spaced zero p e = tt
quiet-spaced (suc k) p e = (subst (λ (o : Op). Gap o (Clear k p.1)) (sym (quiet-clear (suc k) p e)) tt, quiet-spaced k p.1 (quiet-more k p e))

pub quiet-ready : (m k : ℕ) (p : Works k) (ls : Levels k) → quiet k p ≡ true → PathsOk m k p ls
quiet-ready m zero p ls e = tt
quiet-ready m (suc k) p ls e = (path-none m (suc k) p.0 _ (quiet-clear (suc k) p e), quiet-ready m k p.1 ls.1 (quiet-more k p e))

-- ---- rulings
-- a ruling's work reads the level below only for a pop or a replace
comes-gap : (c : ℕ) (nd : List Slot) (G : Type 0) (r : Request) (g : Ruling) → Comes c nd r g → (pops_or_replaces r ≡ true → G) → Gap g.op G
unfolding pops_or_replaces
comes-gap c nd G r g idles h = tt
comes-gap c nd G r g (no-tag r' u) h = tt
comes-gap c nd G r g (puts x u l) h = tt
comes-gap c nd G r g (full x u l) h = tt
comes-gap c nd G r g (takes l) h = h refl
comes-gap c nd G r g (empty l) h = tt
comes-gap c nd G r g (swaps x u l) h = h refl
comes-gap c nd G r g (lacks x u l) h = tt

-- .. and such a request is too soon with the mark on
rule_marked-gap : (mark : Bool) (r : Request) (g : Ruling) (G : Type 0) → (mark ≡ false → G) → ((pops_or_replaces r ≡ true → G) → Gap g.op G) → Gap (rule_marked mark r g).op G
unfolding rule_marked
rule_marked-gap mark r g G off h = go mark (pops_or_replaces r) off h
  where
    go : (b t : Bool) → (b ≡ false → G) → ((t ≡ true → G) → Gap g.op G) → Gap (cond (b && t) (ruling (Err TooSoon) Nothing) g).op G
    go true true off h = tt
    go true false off h = h (λ e. absurd (false≢true e))
    go false true off h = h (λ e. off refl)
    go false false off h = h (λ e. off refl)

-- a request that leaves the mark off has no work
comes-unmarked : (c : ℕ) (nd : List Slot) (r : Request) (g : Ruling) → Comes c nd r g → marks r g.answer ≡ false → g.op ≡ Nothing
unfolding marks is_refused asks
comes-unmarked c nd r g idles e = refl
comes-unmarked c nd r g (no-tag r' u) e = refl
comes-unmarked c nd r g (puts x u l) e = absurd (true≢false e)
comes-unmarked c nd r g (full x u l) e = refl
comes-unmarked c nd r g (takes l) e = absurd (true≢false e)
comes-unmarked c nd r g (empty l) e = refl
comes-unmarked c nd r g (swaps x u l) e = absurd (true≢false e)
comes-unmarked c nd r g (lacks x u l) e = refl

rule_marked-unmarked : (mark : Bool) (r : Request) (g : Ruling) → (marks r g.answer ≡ false → g.op ≡ Nothing) → marks r (rule_marked mark r g).answer ≡ false → (rule_marked mark r g).op ≡ Nothing
unfolding rule_marked
rule_marked-unmarked mark r g h e = go (mark && pops_or_replaces r) e
  where
    go : (t : Bool) → marks r (cond t (ruling (Err TooSoon) Nothing) g).answer ≡ false → (cond t (ruling (Err TooSoon) Nothing) g).op ≡ Nothing
    go true e = refl
    go false e = h e

-- an idle request is answered done, and has no work
pub idle-ruling : (mark : Bool) (c : ℕ) (nd : List Slot) → rule_marked mark Idle (rule c Idle nd) ≡ ruling (Ok None) Nothing
unfolding rule_marked rule pops_or_replaces
idle-ruling true c nd = refl
idle-ruling false c nd = refl

-- ---- the two trees in step: the clocked one with the state s and the words ws, the other with the words vs
pub record InStep (m k : ℕ) (s : State) (ws vs : List ℕ) : Type 0 where
  pub kept : Kept m k vs
  pub records : k ≤ length s.records
  pub same_length : length ws ≡ length vs
  pub past : (a : ℕ) → slot_words * room m (suc k) ≤ a → get_or ws a 0 ≡ get_or vs a 0
  pub gaps : Spaced k (works_of k s.records 0)
  pub off : s.mark ≡ false → Clear k (works_of k s.records 0)
  pub ready : PathsOk m k (works_of k s.records 0) (under m k ws 0 1)
  pub final : finally m k (works_of k s.records 0) (level_of m ws 0 1, under m k ws 0 1) ≡ levels_of m (suc k) vs 0 1

-- what the one-at-a-time tree does beside, on a kept store, by the ruling
module _ (m k : ℕ) (vs : List ℕ) (kept : Kept m k vs) (mark : Bool) (r : Request) where
  abbrev h : Ruling
  h = rule_marked mark r (rule_at m (suc k) r vs)

  pub one-by-one-is : one_by_one m (suc k) mark r vs ≡ outcome h.answer (apply_words m (suc k) (work h.op 0) 0 1 vs)
  unfolding one_by_one rule_marked
  one-by-one-is = go (mark && pops_or_replaces r)
    where
      go : (t : Bool) → cond t (outcome (Err TooSoon) vs) (called m (suc k) r vs)
          ≡ outcome (cond t (ruling (Err TooSoon) Nothing) (rule_at m (suc k) r vs)).answer
          (apply_words m (suc k) (work (cond t (ruling (Err TooSoon) Nothing) (rule_at m (suc k) r vs)).op 0) 0 1 vs)
      go true = ap (outcome (Err TooSoon)) (sym (words-none m (suc k) (work Nothing 0) 0 1 vs (op-work Nothing 0)))
      go false = kept-called m k vs kept r

  rule_marked-way : way_ok m (suc k) h.op vs ≡ true
  unfolding rule_marked
  rule_marked-way = go (mark && pops_or_replaces r)
    where
      go : (t : Bool) → way_ok m (suc k) (cond t (ruling (Err TooSoon) Nothing) (rule_at m (suc k) r vs)).op vs ≡ true
      go true = path-none m (suc k) (work Nothing 0) _ (op-work Nothing 0)
      go false = sound-way m k vs kept r

  pub one-by-one-kept : Kept m k (one_by_one m (suc k) mark r vs).words
  unfolding one_by_one
  one-by-one-kept = go (mark && pops_or_replaces r)
    where
      go : (t : Bool) → Kept m k (cond t (outcome (Err TooSoon) vs) (called m (suc k) r vs)).words
      go true = kept
      go false = called-kept m k r vs kept

module _ (m k : ℕ) (s : State) (ws vs : List ℕ) (i : InStep m k s ws vs) where
  some : 0 < m
  some = order-pos i.kept.shape

  -- the root is settled at all times
  pub same-root : root_of m ws ≡ root_of m vs
  unfolding levels_of
  same-root = sym (root-node m ws) ∙ ap (λ (l : Levels (suc k)). get_or l.0 0 []) i.final ∙ root-node m vs

  pub same_shape : shape_ok m (suc k) (length ws) ≡ true
  same_shape = is-shape m (suc k) (length ws) (subst (λ (n : ℕ). Shape m (suc k) n) (sym i.same_length) i.kept.shape)

  pub same-rule_now : (r : Request) → rule_now m (suc k) r s ws ≡ rule_marked s.mark r (rule_at m (suc k) r vs)
  same-rule_now r = ap (λ (nd : List Slot). rule_marked s.mark r (rule (room m (suc k)) r nd)) same-root

  module _ (r : Request) where
    abbrev g : Ruling
    g = rule_now m (suc k) r s ws

    abbrev w : Work
    w = work g.op 0

    abbrev p : Works (suc k)
    p = cycle_work m (suc k) g.op s

    abbrev ls : Levels (suc k)
    ls = levels_of m (suc k) ws 0 1

    abbrev vls : Levels (suc k)
    vls = levels_of m (suc k) vs 0 1

    gap : Gap w.op (Clear k (works_of k s.records 0))
    gap = rw op-work (rule_marked-gap s.mark r (rule_at m (suc k) r ws) _ i.off (comes-gap _ _ _ r _ (comes (room m (suc k)) r (root_of m ws))))

    pub spaced-whole : Spaced (suc k) p
    spaced-whole = (gap, i.gaps)

    way : path_ok m (suc k) w vls ≡ true
    way = subst (λ (h : Ruling). way_ok m (suc k) h.op vs ≡ true) (sym (same-rule_now r)) (rule_marked-way m k vs i.kept s.mark r)

    ready-whole : PathsOk m (suc k) p ls
    unfolding levels_of
    ready-whole = (ap (path_ok m (suc k) w) i.final ∙ way, i.ready)

    -- no damage
    pub steps-fine : steps_ok m (suc k) g.op s ws ≡ true
    steps-fine = cycle-fine m (suc k) p ls spaced-whole ready-whole

    pub root-fine : asked_ok m (suc k) r ws ≡ true
    root-fine = or_right (not (asks r)) _ (ap (node_ok (room m k)) same-root ∙ sound-root m k vs i.kept)

    pub ticks : cycled m (suc k) r s ws ≡ cycle_run m (suc k) r g s ws
    unfolding cycled
    ticks = rw (same_shape, root-fine, steps-fine)

    -- ---- what it leaves
    abbrev o : CycleOutcome
    o = cycle_run m (suc k) r g s ws

    abbrev vs₁ : List ℕ
    vs₁ = (one_by_one m (suc k) s.mark r vs).words

    fits : slot_words * (0 + size m (suc k) 1) ≤ length ws
    fits = omega (arith, i.kept.shape.slice, i.same_length, size_room m (suc k) 1)

    pub words-then : levels_of m (suc k) o.words 0 1 ≡ cycle_levels m (suc k) p ls
    unfolding cycle_run
    words-then = (words-cycle m some (suc k) p 0 1 ws fits steps-fine).0

    pub works-then : works_of k o.state.records 0 ≡ (cycle_works m (suc k) idle p ls).1
    unfolding cycle_run cycle_works levels_of
    works-then = works-after m k _ 0 s.records (under m k ws 0 1) (plain-rest m w _ _) (omega (arith, i.records))

    one-by-one-then : one_by_one m (suc k) s.mark r vs ≡ outcome g.answer (apply_words m (suc k) w 0 1 vs)
    one-by-one-then =
        one-by-one-is m k vs i.kept s.mark r
        ∙ ap (λ (h : Ruling). outcome h.answer (apply_words m (suc k) (work h.op 0) 0 1 vs)) (sym (same-rule_now r))

    fits-one-by-one : slot_words * (0 + size m (suc k) 1) ≤ length vs
    fits-one-by-one = omega (arith, fits, i.same_length)

    one-by-one-levels : levels_of m (suc k) vs₁ 0 1 ≡ apply m (suc k) w vls
    one-by-one-levels =
        ap (λ (b : Outcome). levels_of m (suc k) b.words 0 1) one-by-one-then ∙ (words-apply m some (suc k) w 0 1 vs fits-one-by-one way).0

    -- the pending work done to its end: what the request makes of what it came to before
    final-then : finally m k (cycle_works m (suc k) idle p ls).1 (cycle_levels m (suc k) p ls) ≡ apply m (suc k) w vls
    unfolding settle cycle_works cycle_levels levels_of
    final-then =
        sym (apply-none m (suc k) idle _ refl) ∙ settled m (suc k) idle p ls spaced-whole ∙ apply-none m (suc k) idle _ refl ∙ ap (apply m (suc k) w) i.final

    ready-then : PathsOk m k (cycle_works m (suc k) idle p ls).1 (cycle_levels m (suc k) p ls).1
    unfolding cycle_works cycle_levels
    ready-then = (cycle-ready m (suc k) idle p ls spaced-whole ready-whole (path-none m (suc k) idle _ refl)).1

    spaced-then : Spaced k (cycle_works m (suc k) idle p ls).1
    unfolding cycle_works
    spaced-then = (spaced m (suc k) idle p ls tt spaced-whole).1

    mark-is : o.state.mark ≡ marks r g.answer
    unfolding cycle_run
    mark-is = refl

    clear-then : o.state.mark ≡ false → Clear k (cycle_works m (suc k) idle p ls).1
    unfolding cycle_works levels_of
    clear-then e =
        clears m k w (works_of k s.records 0) (level_of m ws 0 1) (under m k ws 0 1)
        (op-work g.op 0 ∙ rule_marked-unmarked s.mark r (rule_at m (suc k) r ws) (comes-unmarked _ _ r _ (comes (room m (suc k)) r (root_of m ws))) (sym mark-is ∙ e))

    length-then : length o.words ≡ length ws
    unfolding cycle_run
    length-then = cycle-length m (suc k) p 0 1 ws

    past-then : (a : ℕ) → slot_words * room m (suc k) ≤ a → get_or o.words a 0 ≡ get_or ws a 0
    unfolding cycle_run
    past-then a h = (words-cycle m some (suc k) p 0 1 ws fits steps-fine).1 a (omega (arith, size_room m (suc k) 1))

    past-one-by-one : (a : ℕ) → slot_words * room m (suc k) ≤ a → get_or vs₁ a 0 ≡ get_or vs a 0
    past-one-by-one a h =
        ap (λ (b : Outcome). get_or b.words a 0) one-by-one-then ∙ (words-apply m some (suc k) w 0 1 vs fits-one-by-one way).1 a (omega (arith, size_room m (suc k) 1))

    length-one-by-one : length vs₁ ≡ length vs
    length-one-by-one = ap (λ (b : Outcome). length b.words) one-by-one-then ∙ apply-length m (suc k) w 0 1 vs

    records-then : length o.state.records ≡ length s.records
    unfolding cycle_run
    records-then = after-length m k _ 0 s.records (under m k ws 0 1)

    levels-then : ◌≡◌ {A = Levels (suc k)} (level_of m o.words 0 1, under m k o.words 0 1) (cycle_levels m (suc k) p ls)
    unfolding levels_of
    levels-then = words-then

    cycle_run-in-step : InStep m k o.state o.words vs₁
    cycle_run-in-step =
        record {
          kept = one-by-one-kept m k vs i.kept s.mark r;
          records = omega (arith, records-then, i.records);
          same_length = length-then ∙ i.same_length ∙ sym length-one-by-one;
          past = λ a h. past-then a h ∙ i.past a h ∙ sym (past-one-by-one a h);
          gaps = subst (Spaced k) (sym works-then) spaced-then;
          off = λ e. subst (Clear k) (sym works-then) (clear-then e);
          ready = subst (λ (q : Works k). PathsOk m k q (under m k o.words 0 1)) (sym works-then)
              (subst (λ (l : Levels (suc k)). PathsOk m k (cycle_works m (suc k) idle p ls).1 l.1) (sym levels-then) ready-then);
          final = ap₂ (finally m k) works-then levels-then ∙ final-then ∙ sym one-by-one-levels;
        }

    -- THE STEP: the two answer the same, and stay in step
    pub step-answer : (cycled m (suc k) r s ws).answer ≡ (one_by_one m (suc k) s.mark r vs).answer
    unfolding cycle_run
    step-answer = ap (λ (c : CycleOutcome). c.answer) ticks ∙ sym (ap (λ (b : Outcome). b.answer) one-by-one-then)

    pub step-mark : (cycled m (suc k) r s ws).state.mark ≡ marks r (one_by_one m (suc k) s.mark r vs).answer
    step-mark = ap (λ (c : CycleOutcome). c.state.mark) ticks ∙ mark-is ∙ ap (λ (b : Outcome). marks r b.answer) (sym one-by-one-then)

    pub in_step : InStep m k (cycled m (suc k) r s ws).state (cycled m (suc k) r s ws).words (one_by_one m (suc k) s.mark r vs).words
    in_step = subst (λ (c : CycleOutcome). InStep m k c.state c.words vs₁) (sym ticks) cycle_run-in-step
