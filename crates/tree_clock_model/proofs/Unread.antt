-- What a cycle and a drain never read: two machines that are alike are answered the same, and are alike again.
use Rattle.laws.specs.Prelude.{Answer, Bool, Idle, List, Request, ◌&&◌, ◌||◌, ◌∙◌, ◌≡◌, ◌≤◌, and_right, ap, ap₂, arith, cond, false, length, not, not-suc-le-zero, pred, refl, subst, suc, sym, true, zero, ℕ, Ok, None}
use Rattle.tree_clock_model.proofs.Drain.{cycled-length}
use Rattle.tree_clock_model.proofs.Exactly.{sound, cycled-damaged, cycled-either, cycled-fine}
use Rattle.tree_clock_model.proofs.Turn.{after-length, plain-rest, words-cycle, works-after}
use Rattle.tree_clock_model.specs.Prelude.{Alike, CycleOutcome, DrainOutcome, Machine, Works, asked_ok, asks, clocked_queue, cycle_levels, cycle_ok, cycle_run, cycle_words, cycle_work, cycle_works, cycled, drain_from, drain_outcome, drains, is_refused, machine, marks, pending, quiet, rule_marked, rule_now, steps_ok, works_of}
use Rattle.promise.specs.Prelude.{Step}
use Rattle.tree_model.proofs.Laws.{is-shape, levels-words, order-pos, same-levels, same-root, size_room}
use Rattle.tree_model.specs.Prelude.{Levels, Ruling, Shape, idle, levels_of, node_ok, rest_words, room, root_of, rule, shape_ok, under, work}
use Rattle.tree_model.specs.declared.Slot.{Slot}

-- what a machine is asked to be: a good shape, and a record for each level from 2
pub record Fits (m levels : ℕ) (x : Machine) : Type 0 where
  pub shape : Shape m levels (length x.words)
  pub records : pred levels ≤ length x.state.records

-- two outcomes that are the same but for what is never read
abbrev Same : ℕ → ℕ → CycleOutcome → CycleOutcome → Type 0
Same m levels c d = (c.answer ≡ d.answer) × Alike m levels (machine c.state c.words) (machine d.state d.words)

-- a cycle that runs, by its levels and its works
module _ (m k : ℕ) (x : Machine) (f : Fits m (suc k) x) (r : Request) where
  abbrev p : Works (suc k)
  p = cycle_work m (suc k) (rule_now m (suc k) r x.state x.words).op x.state

  cycle_run-levels : sound m (suc k) r x.state x.words ≡ true
      → levels_of m (suc k) (cycle_words m (suc k) p 0 1 x.words) 0 1 ≡ cycle_levels m (suc k) p (levels_of m (suc k) x.words 0 1)
  cycle_run-levels e =
      (words-cycle m (order-pos f.shape) (suc k) p 0 1 x.words (omega (arith, f.shape.slice, size_room m (suc k) 1))
      (and_right (asked_ok m (suc k) r x.words) (steps_ok m (suc k) (rule_now m (suc k) r x.state x.words).op x.state x.words) e)).0

  cycle_run-works : works_of k (cycle_run m (suc k) r (rule_now m (suc k) r x.state x.words) x.state x.words).state.records 0 ≡ (cycle_works m (suc k) idle p (levels_of m (suc k) x.words 0 1)).1
  unfolding cycle_run cycle_works levels_of
  cycle_run-works = works-after m k _ 0 x.state.records (under m k x.words 0 1) (plain-rest m (work (rule_now m (suc k) r x.state x.words).op 0) _ _) (omega (arith, f.records))

module _ (m k : ℕ) (x y : Machine) (fx : Fits m (suc k) x) (fy : Fits m (suc k) y) (like : Alike m (suc k) x y) where
  abbrev ls : Levels (suc k)
  ls = levels_of m (suc k) x.words 0 1

  levels-same : levels_of m (suc k) x.words 0 1 ≡ levels_of m (suc k) y.words 0 1
  levels-same = same-levels m (suc k) x.words y.words fx.shape fy.shape like.words

  root-same : root_of m x.words ≡ root_of m y.words
  root-same = same-root m (suc k) x.words y.words fx.shape fy.shape like.words

  module _ (r : Request) where
    rule_now-same : rule_now m (suc k) r x.state x.words ≡ rule_now m (suc k) r y.state y.words
    rule_now-same = ap₂ (λ (b : Bool) (nd : List Slot). rule_marked b r (rule (room m (suc k)) r nd)) like.mark root-same

    works-same : cycle_work m (suc k) (rule_now m (suc k) r x.state x.words).op x.state ≡ cycle_work m (suc k) (rule_now m (suc k) r y.state y.words).op y.state
    works-same = ap₂ (λ (g : Ruling) (p : Works k). (work g.op 0, p)) rule_now-same like.works

    sound-same : sound m (suc k) r x.state x.words ≡ sound m (suc k) r y.state y.words
    sound-same = ap₂ (λ (a b : Bool). a && b) (ap (λ (nd : List Slot). not (asks r) || node_ok (room m k) nd) root-same) (ap₂ (cycle_ok m (suc k)) works-same levels-same)

    cycle_run-alike : sound m (suc k) r x.state x.words ≡ true
        → Same m (suc k) (cycle_run m (suc k) r (rule_now m (suc k) r x.state x.words) x.state x.words) (cycle_run m (suc k) r (rule_now m (suc k) r y.state y.words) y.state y.words)
    unfolding cycle_run
    cycle_run-alike e = (
      ap (λ (g : Ruling). g.answer) rule_now-same,
      record {
        words = levels-words m (suc k) _ _ (cycle_run-levels m k x fx r e ∙ ap₂ (cycle_levels m (suc k)) works-same levels-same ∙ sym (cycle_run-levels m k y fy r (sym sound-same ∙ e)));
        works = cycle_run-works m k x fx r ∙ ap₂ (λ (p : Works (suc k)) (ls : Levels (suc k)). (cycle_works m (suc k) idle p ls).1) works-same levels-same ∙ sym (cycle_run-works m k y fy r);
        mark = ap (λ (g : Ruling). marks r g.answer) rule_now-same;
      },
    )

    -- UNREAD, a cycle
    cycle-alike : Same m (suc k) (cycled m (suc k) r x.state x.words) (cycled m (suc k) r y.state y.words)
    cycle-alike = go (sound m (suc k) r x.state x.words) refl
      where
        sx : shape_ok m (suc k) (length x.words) ≡ true
        sx = is-shape m (suc k) (length x.words) fx.shape

        sy : shape_ok m (suc k) (length y.words) ≡ true
        sy = is-shape m (suc k) (length y.words) fy.shape

        go : (b : Bool) → sound m (suc k) r x.state x.words ≡ b → Same m (suc k) (cycled m (suc k) r x.state x.words) (cycled m (suc k) r y.state y.words)
        go false e = rw (cycled-damaged m (suc k) r x.state x.words sx e, cycled-damaged m (suc k) r y.state y.words sy (sym sound-same ∙ e)) (refl, like)
        go true e = rw (cycled-fine m (suc k) r x.state x.words sx e, cycled-fine m (suc k) r y.state y.words sy (sym sound-same ∙ e)) (cycle_run-alike e)

-- every cycle keeps shape and records
fits_on : (m levels : ℕ) (r : Request) (x : Machine) → Fits m levels x → Fits m levels (clocked_queue m levels r x).next
unfolding cycle_run
fits_on m levels r x f =
    record {
      shape = subst (Shape m levels) (sym (cycled-length m levels r x.state x.words)) f.shape;
      records = cycled-either m levels r x.state x.words (λ c. pred levels ≤ length c.state.records) f.records f.records
          (λ e s. omega (arith, f.records, after-length m (pred levels) (rest_words m (pred levels) (work (rule_now m levels r x.state x.words).op 0) 0 1 x.words) 0 x.state.records (under m (pred levels) x.words 0 1)));
    }

pub unread : (m levels : ℕ) (x y : Machine) → Fits m levels x → Fits m levels y → Alike m levels x y → (r : Request)
    → ((clocked_queue m levels r x).said ≡ (clocked_queue m levels r y).said) × Alike m levels (clocked_queue m levels r x).next (clocked_queue m levels r y).next
unread m zero x y fx fy a r = absurd (not-suc-le-zero fx.shape.some)
unread m (suc k) x y fx fy a r = cycle-alike m k x y fx fy a r

-- UNREAD, a drain
abbrev SameDrain : ℕ → ℕ → DrainOutcome → DrainOutcome → Type 0
SameDrain m levels d e = (d.answer ≡ e.answer) × (d.cycles ≡ e.cycles) × (d.left ≡ e.left) × Alike m levels (machine d.state d.words) (machine e.state e.words)

module _ (m levels : ℕ) where
  from-alike : (b n : ℕ) (x y : Machine) → Fits m levels x → Fits m levels y → Alike m levels x y → SameDrain m levels (drain_from m levels b n x.state x.words) (drain_from m levels b n y.state y.words)
  unfolding drain_from
  from-alike zero n x y fx fy a = (refl, refl, ap (λ (p : Works (pred levels)). not (quiet (pred levels) p)) a.works, a)
  from-alike (suc b) n x y fx fy a =
      rw (sym same-pending, ap is_refused (sym u.0))
      (go (pending m levels x.state) (is_refused (next x).said) (from-alike b (suc n) (next x).next (next y).next (fits_on m levels Idle x fx) (fits_on m levels Idle y fy) u.1))
    where
      next : Machine → Step Answer Machine
      next = clocked_queue m levels Idle

      u : ((next x).said ≡ (next y).said) × Alike m levels (next x).next (next y).next
      u = unread m levels x y fx fy a Idle

      jam : Machine → DrainOutcome
      jam z = drain_outcome (next z).said n true (next z).next.words (next z).next.state

      on : Machine → DrainOutcome
      on z = drain_from m levels b (suc n) (next z).next.state (next z).next.words

      rest : Machine → DrainOutcome
      rest z = drain_outcome (Ok None) n false z.words z.state

      same-pending : pending m levels x.state ≡ pending m levels y.state
      same-pending = ap (λ (p : Works (pred levels)). not (quiet (pred levels) p)) a.works

      go : (p t : Bool) → SameDrain m levels (on x) (on y) → SameDrain m levels (cond p (cond t (jam x) (on x)) (rest x)) (cond p (cond t (jam y) (on y)) (rest y))
      go true true ih = (u.0, refl, refl, u.1)
      go true false ih = ih
      go false t ih = (refl, refl, refl, a)

  pub unread-drain : (b : ℕ) (x y : Machine) → Fits m levels x → Fits m levels y → Alike m levels x y
      → SameDrain m levels (drains m levels b x.state x.words) (drains m levels b y.state y.words)
  unfolding drains
  unread-drain b x y fx fy a = rw (is-shape m levels (length x.words) fx.shape, is-shape m levels (length y.words) fy.shape) (from-alike b 0 x y fx fy a)
