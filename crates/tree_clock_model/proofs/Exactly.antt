-- Every refusal of a cycle is given exactly for its cause, and leaves behind what the table says.
use Rattle.laws.specs.Prelude.{Answer, BadShape, Bool, Damaged, Exactly, Fails, Idle, Iff, List, Means, Pop, Push, Refusal, Replace, Request, TooSoon, ◌&&◌, ◌∙◌, ◌≡◌, and_left, and_right, and-true, ap, fails-and, fails-or, fails-true, false, false≢true, left_behind, length, means-and, means-by, not, number_of, pred, refl, refusal_number, rung, runs_idle, stop, suc, sym, true, true≢false, zero, ℕ, Ok, None, Some, Err}
use Rattle.tree_clock_model.proofs.Step.{idle-ruling}
use Rattle.tree_clock_model.proofs.Turn.{cycle-length}
use Rattle.tree_clock_model.specs.Prelude.{CycleDamage, CycleOutcome, Machine, PopsOrReplaces, State, Works, WorksDamaged, all_levels, asked_ok, asks, clock, clocked_queue, cycle_left, cycle_ok, cycle_outcome, cycle_refusals, cycle_run, cycle_work, cycled, is_refused, machine, marks, pops_or_replaces, rule_marked, rule_now, steps_ok}
use Rattle.promise.specs.Prelude.{Asks, Barred, IsPush, Kind, Outcome, Step, asks-fails, bars, cycle_left as clock-left, cycling, decided-either, decided-same, ends, left, needs, step, zero-told}
use Rattle.promise.proofs.Calls.{grants-kind, grants-zero, last-all, last-ladder, last-tags, last-told}
use Rattle.promise.proofs.Clock as clocks
use Rattle.promise.proofs.Clock.{Ticks}
use Rattle.promise.proofs.Handed.{exactly-as}
use Rattle.promise.specs.Calls as calls
use Rattle.tree_model.proofs.Laws.{node-fails, root-limit, shape_is, shape-means, work-fails}
use Rattle.tree_model.specs.Prelude.{Levels, Ruling, Shape, is_nothing, levels_of, room, root_of, root_ok, rule, ruling, shape_ok, sum_counts, top, work, work_ok}
use Rattle.tree_model.specs.declared.Op.{Op}
use Rattle.tree_model.specs.declared.Op.TheVariants.{Nothing}

pub works-fails : (m k : ℕ) (p : Works k) (ls : Levels k) → Fails (cycle_ok m k p ls) (WorksDamaged m k p ls)
unfolding cycle_ok
works-fails m zero p ls = fails-true
works-fails m (suc k) p ls = fails-and (work_ok m k p.0 ls.0 (top k ls.1)) _ (work-fails m k p.0 ls.0 (top k ls.1)) (works-fails m k p.1 ls.1)

pops-mean : (r : Request) → Means (pops_or_replaces r) (PopsOrReplaces r)
unfolding pops_or_replaces
pops-mean Idle = record { says = λ e. absurd (false≢true e); holds = λ d. absurd d }
pops-mean (Push x) = record { says = λ e. absurd (false≢true e); holds = λ d. absurd d }
pops-mean Pop = record { says = λ e. tt; holds = λ d. refl }
pops-mean (Replace x) = record { says = λ e. tt; holds = λ d. refl }

soon-means : (mark : Bool) (r : Request) → Means (mark && pops_or_replaces r) (PopsOrReplaces r × (mark ≡ true))
soon-means mark r = means-by (means-and (record { says = λ e. e; holds = λ e. e }) (pops-mean r)) (λ p. (p.1, p.0)) (λ p. (p.1, p.0))

module _ (m levels : ℕ) (r : Request) (s : State) (ws : List ℕ) where
  abbrev g : Ruling
  g = rule_now m levels r s ws

  abbrev pub sound : Bool
  sound = asked_ok m levels r ws && steps_ok m levels g.op s ws

  -- ---- the cycle by its tests
  pub cycled-bad : shape_ok m levels (length ws) ≡ false → cycled m levels r s ws ≡ cycle_outcome (Err BadShape) ws s
  unfolding cycled
  cycled-bad e = rw e

  pub cycled-damaged : shape_ok m levels (length ws) ≡ true → sound ≡ false → cycled m levels r s ws ≡ cycle_outcome (Err Damaged) ws s
  unfolding cycled
  cycled-damaged e f = rw (e, f)

  pub cycled-fine : shape_ok m levels (length ws) ≡ true → sound ≡ true → cycled m levels r s ws ≡ cycle_run m levels r g s ws
  unfolding cycled
  cycled-fine e f = rw (e, f)

  -- what is so of a cycle refused for the shape or for damage, and of one that ran, is so of the cycle
  pub cycled-either : (P : CycleOutcome → Type 0) → P (cycle_outcome (Err BadShape) ws s) → P (cycle_outcome (Err Damaged) ws s)
      → (shape_ok m levels (length ws) ≡ true → sound ≡ true → P (cycle_run m levels r g s ws)) → P (cycled m levels r s ws)
  unfolding cycled
  cycled-either P bad damaged done =
      decided-either (λ n. cycle_outcome (Err n) ws s) P (needs BadShape (shape_ok m levels (length ws)) (Shape m levels (length ws)) (bars Damaged sound (CycleDamage m levels r s ws) ends))
      (cycle_run m levels r g s ws) (bad, (damaged, tt)) (λ c. done c.0 c.1.0)

  pub damage-fails : Fails sound (CycleDamage m levels r s ws)
  damage-fails =
      fails-and (asked_ok m levels r ws) (steps_ok m levels g.op s ws)
      (fails-or (not (asks r)) (root_ok m levels ws) (asks-fails r) (node-fails (room m (pred levels)) (root_of m ws)))
      (works-fails m (all_levels levels) (cycle_work m levels g.op s) (levels_of m (all_levels levels) ws 0 1))

  pub no-damage-sound : (CycleDamage m levels r s ws → ⊥) → sound ≡ true
  no-damage-sound d = go sound refl
    where
      go : (b : Bool) → sound ≡ b → b ≡ true
      go true e = refl
      go false e = absurd (d (damage-fails.found e))

  pub sound-no-damage : sound ≡ true → CycleDamage m levels r s ws → ⊥
  sound-no-damage e d = true≢false (sym e ∙ damage-fails.shown d)

-- ---- a refused request runs the cycle as idle
steps-none : (m levels : ℕ) (o : Op) (s : State) (ws : List ℕ) → steps_ok m levels o s ws ≡ true → steps_ok m levels Nothing s ws ≡ true
unfolding cycle_ok work_ok work is_nothing
steps-none m levels o s ws e =
    let ls : Levels (all_levels levels) = levels_of m (all_levels levels) ws 0 1 in
    and_right (work_ok m (pred levels) (work o 0) ls.0 (top (pred levels) ls.1)) _ e

pub refused-mark : (r : Request) (n : Refusal) → marks r (Err n) ≡ false
unfolding marks is_refused asks
refused-mark Idle n = refl
refused-mark (Push x) n = refl
refused-mark Pop n = refl
refused-mark (Replace x) n = refl

idle-mark : (a : Answer) → marks Idle a ≡ false
unfolding marks asks
idle-mark a = refl

-- an idle cycle reads no root
pub root-unread : (m levels : ℕ) (ws : List ℕ) → asked_ok m levels Idle ws ≡ true
unfolding asks
root-unread m levels ws = refl

-- a cycle that runs keeps the slice's length
pub run_length : (m levels : ℕ) (r : Request) (g : Ruling) (s : State) (ws : List ℕ) → length (cycle_run m levels r g s ws).words ≡ length ws
unfolding cycle_run
run_length m levels r g s ws = cycle-length m (all_levels levels) _ 0 1 ws

-- the mark that a cycle leaves
cycle_run-mark : (m levels : ℕ) (r : Request) (g : Ruling) (s : State) (ws : List ℕ) → (cycle_run m levels r g s ws).state.mark ≡ marks r g.answer
unfolding cycle_run
cycle_run-mark m levels r g s ws = refl

-- ---- this machine is a clock
not-soon : (mark : Bool) → (mark && pops_or_replaces Idle) ≡ false
unfolding pops_or_replaces
not-soon true = refl
not-soon false = refl

push-asks : (r : Request) → IsPush r → asks r ≡ true
unfolding asks
push-asks Idle p = absurd p
push-asks (Push x) p = refl
push-asks Pop p = absurd p
push-asks (Replace x) p = absurd p

module _ (m levels : ℕ) where
  abbrev as_step : CycleOutcome → Step Answer Machine
  as_step c = step c.answer (machine c.state c.words)

  abbrev pub shown : Outcome Machine → CycleOutcome
  shown o = cycle_outcome o.answer o.words.words o.words.state

  -- a refused request has no work and leaves the mark off
  refused_as : (r : Request) (x : Machine) (n : Refusal) → as_step (cycle_run m levels r (ruling (Err n) Nothing) x.state x.words) ≡ step (Err n) ((clock m levels).moves Idle x)
  unfolding cycle_run
  refused_as r x n =
      let o = cycle_run m levels r (ruling (Err n) Nothing) x.state x.words in
      let e : marks r (Err n) ≡ marks Idle (Ok None) = refused-mark r n ∙ sym (idle-mark (Ok None)) in
      λ i. step (Err n) (machine (record { records = o.state.records; mark = e i }) o.words)

  -- its cycle is the clock's
  same : (r : Request) (x : Machine) → clocked_queue m levels r x ≡ cycling (clock m levels) r x
  unfolding cycled cycle_run rule_marked rule
  same r x =
      decided-same as_step (λ (o : Outcome Machine). step o.answer o.words) (λ n. cycle_outcome (Err n) x.words x.state) (left x)
      (needs BadShape (shape_ok m levels (length x.words)) (Unit {0}) (bars Damaged (sound m levels r x.state x.words) (Unit {0}) ends)) _ _ (λ n. refl)
      (decided-same (λ (g : Ruling). as_step (cycle_run m levels r g x.state x.words)) (λ (g : calls.Ruling Request). step g.answer ((clock m levels).moves g.op x))
      (λ n. ruling (Err n) Nothing) (λ n. calls.ruling (Err n) Idle) ((clock m levels).late r x) _ _ (refused_as r x) refl)

  pub timed : Ticks (clock m levels) (clocked_queue m levels)
  timed =
      record {
        same = same;
        shape = λ x. shape-means m levels (length x.words);
        torn = λ r x. damage-fails m levels r x.state x.words;
        root = λ x. node-fails (room m (pred levels)) (root_of m x.words);
        late = λ r x e f. (
          soon-means x.state.mark r,
          λ n. last-told r _ _ (λ p. root-limit m levels x.words (shape_is m levels (length x.words) e).some (rw (push-asks r p) at (and_left (asked_ok m levels r x.words) _ f))),
        );
        idles = λ r x. (refl, last-all (λ n. runs_idle n ≡ true) refl refl refl r _ _);
        free = λ x. (not-soon x.state.mark, (refl, tt));
        calm = λ r x f.
            and-true (asked_ok m levels Idle x.words) _ (root-unread m levels x.words)
            (ap (λ (g : Ruling). steps_ok m levels g.op x.state x.words) (idle-ruling x.state.mark (room m levels) (root_of m x.words))
            ∙ steps-none m levels _ x.state x.words (and_right (asked_ok m levels r x.words) _ f));
        rest = λ x. refl;
        zero = λ r x. grants-zero r _;
        stays = λ r x. ap (shape_ok m levels) (run_length m levels r _ x.state x.words);
      }

abbrev pub said : CycleOutcome → ℕ
said c = number_of c.answer

-- EXACTLY: a cycle gives each refusal for its cause and for that cause only, and leaves behind what the table says
module _ (m levels : ℕ) (r : Request) (s : State) (ws : List ℕ) where
  pub exactly-cycle : Exactly said (cycle_left m levels s ws) (cycled m levels r s ws) (cycle_refusals m levels r s ws)
  exactly-cycle =
      last-ladder
      (λ l. Exactly said (cycle_left m levels s ws) (cycled m levels r s ws) (rung BadShape (Shape m levels (length ws)) (stop Damaged (CycleDamage m levels r s ws) (stop TooSoon (PopsOrReplaces r × (s.mark ≡ true)) l)))) r
      (sum_counts (root_of m ws)) (room m levels)
      (exactly-as (λ (o : Outcome Machine). number_of o.answer) (clock-left (clock m levels) (clocked_queue m levels) (machine s ws)) (shown m levels) said (λ o. refl) _ _
      (clocks.exactly-cycle (timed m levels) r (machine s ws)))

  -- LEFT BEHIND: 1 and 2 everything, mark and records too; 3, 5, 6 and 7 "cycle runs as idle"
  pub stands : (n : Refusal) → said (cycled m levels r s ws) ≡ refusal_number n → cycled m levels r s ws ≡ cycle_left m levels s ws n
  stands = left_behind said (cycle_left m levels s ws) exactly-cycle

  -- KIND: of a cycle that is not refused a push and an idle request answer done, a pop and a replace an element
  pub kind : number_of (cycled m levels r s ws).answer ≡ 0 → Kind r (cycled m levels r s ws).answer
  kind = clocks.kind (timed m levels) (λ r x. grants-kind r _) r (machine s ws)

  -- BARRED: an element without a tag is never let in, whatever stands in the machine
  pub barred : Barred r (cycled m levels r s ws).answer
  barred = clocks.barred (timed m levels) r (machine s ws) (λ u d. last-tags r _ _ u d.1)

-- ---- MARK: rows 1 and 2 aside, it is on exactly if an operation was asked for and not refused
accepts-mean : (a : Answer) → Iff (not (is_refused a) ≡ true) (Unit {0} × (number_of a ≡ 0))
unfolding is_refused
accepts-mean (Ok None) = record { to = λ e. (tt, refl); from = λ d. refl }
accepts-mean (Ok (Some x)) = record { to = λ e. (tt, refl); from = λ d. refl }
accepts-mean (Err n) = record { to = λ e. absurd (false≢true e); from = λ d. absurd (zero-told n (sym d.1)) }

marks-mean : (r : Request) (a : Answer) → Iff (marks r a ≡ true) (Asks r × (number_of a ≡ 0))
unfolding marks asks is_refused
marks-mean Idle a = record { to = λ e. absurd (false≢true e); from = λ d. absurd d.0 }
marks-mean (Push x) a = accepts-mean a
marks-mean Pop a = accepts-mean a
marks-mean (Replace x) a = accepts-mean a

pub mark-says : (m levels : ℕ) (r : Request) (s : State) (ws : List ℕ) → (number_of (cycled m levels r s ws).answer ≡ 1 → ⊥) → (number_of (cycled m levels r s ws).answer ≡ 2 → ⊥)
    → Iff ((cycled m levels r s ws).state.mark ≡ true) (Asks r × (number_of (cycled m levels r s ws).answer ≡ 0))
unfolding cycle_run
mark-says m levels r s ws =
    cycled-either m levels r s ws
    (λ c. (number_of c.answer ≡ 1 → ⊥) → (number_of c.answer ≡ 2 → ⊥) → Iff (c.state.mark ≡ true) (Asks r × (number_of c.answer ≡ 0)))
    (λ no1 no2. absurd (no1 refl)) (λ no1 no2. absurd (no2 refl)) (λ e f no1 no2. rw (cycle_run-mark m levels r (rule_now m levels r s ws) s ws) (marks-mean r (rule_now m levels r s ws).answer))
