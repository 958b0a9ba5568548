-- A machine goes by its levels' work and its mark: two states that agree on these answer alike, leave the same words, and agree again.
use Rattle.laws.specs.Prelude.{Answer, BadShape, Bool, Damaged, Idle, List, Request, [], ◌&&◌, ◌∙◌, ◌∷◌, ◌≡◌, ◌≤◌, ap, ap₂, arith, cond, false, false≢true, length, not, pred, refl, replicate, subst, suc, sym, true, true≢false, zero, ℕ, Ok, None, Err}
use Rattle.tree_clock_model.proofs.Laws.{after-length, cycled-length, drain-state, plain-rest, sound, works-after}
use Rattle.tree_clock_model.specs.Prelude.{CycleOutcome, DrainOutcome, Works, asked_ok, cycle_ok, cycle_outcome, cycle_run, cycle_words, cycle_works, cycled, drain_from, drain_outcome, drains, is_refused, pending, quiet, rule_marked, rule_now, runs, works_of}
use Rattle.tree_clock_model.specs.declared.State.{State}
use Rattle.promise.specs.Prelude.{leaves}
use Rattle.tree_model.specs.Prelude.{Levels, Ruling, level_of, levels_of, rest_words, rule_at, shape_ok, top, under, work}
use Rattle.tree_model.specs.declared.Work.{Work}

-- two states with the same work at k levels and the same mark, each with enough records
pub record Alike (k : ℕ) (s t : State) : Type 0 where
  pub works : works_of k s.records 0 ≡ works_of k t.records 0
  pub mark : s.mark ≡ t.mark
  pub first : k ≤ length s.records
  pub second : k ≤ length t.records

pub record SameCycle (k : ℕ) (o p : CycleOutcome) : Type 0 where
  pub answer : o.answer ≡ p.answer
  pub words : o.words ≡ p.words
  pub state : Alike k o.state p.state

pub record SameDrain (k : ℕ) (d e : DrainOutcome) : Type 0 where
  pub answer : d.answer ≡ e.answer
  pub cycles : d.cycles ≡ e.cycles
  pub left : d.left ≡ e.left
  pub words : d.words ≡ e.words
  pub state : Alike k d.state e.state

module _ (m levels : ℕ) where
  abbrev k : ℕ
  k = pred levels

  rule_now-same : (r : Request) (s t : State) (ws : List ℕ) → Alike k s t → rule_now m levels r s ws ≡ rule_now m levels r t ws
  rule_now-same r s t ws a = ap (λ (b : Bool). rule_marked b r (rule_at m levels r ws)) a.mark

  sound-same : (r : Request) (s t : State) (ws : List ℕ) → Alike k s t → sound m levels r s ws ≡ sound m levels r t ws
  sound-same r s t ws a =
      ap₂ (λ (g : Ruling) (p : Works k). asked_ok m levels r ws && cycle_ok m (suc k) (work g.op 0, p) (levels_of m (suc k) ws 0 1)) (rule_now-same r s t ws a) a.works

  cycle_run-same : (r : Request) (g : Ruling) (s t : State) (ws : List ℕ) → Alike k s t → SameCycle k (cycle_run m levels r g s ws) (cycle_run m levels r g t ws)
  unfolding cycle_run
  cycle_run-same r g s t ws a =
      let q : Work = rest_words m k (work g.op 0) 0 1 ws in
      let ls : Levels k = under m k ws 0 1 in
      let plain = plain-rest m (work g.op 0) (level_of m ws 0 1) (top k ls) in
      record {
        answer = refl;
        words = ap (λ (p : Works k). cycle_words m (suc k) (work g.op 0, p) 0 1 ws) a.works;
        state = record {
          works = works-after m k q 0 s.records ls plain (omega (arith, a.first)) ∙ ap (λ (p : Works k). cycle_works m k q p ls) a.works
              ∙ sym (works-after m k q 0 t.records ls plain (omega (arith, a.second)));
          mark = refl;
          first = omega (arith, a.first, after-length m k q 0 s.records ls);
          second = omega (arith, a.second, after-length m k q 0 t.records ls);
        };
      }

  stood-same : (n : Answer) (s t : State) (ws : List ℕ) → Alike k s t → SameCycle k (cycle_outcome n ws s) (cycle_outcome n ws t)
  stood-same n s t ws a = record { answer = refl; words = refl; state = a }

  pub cycled-same : (r : Request) (s t : State) (ws : List ℕ) → Alike k s t → SameCycle k (cycled m levels r s ws) (cycled m levels r t ws)
  unfolding cycled
  cycled-same r s t ws a = go (shape_ok m levels (length ws)) (sound m levels r s ws) (sound m levels r t ws) (sound-same r s t ws a) (rule_now m levels r s ws) (rule_now m levels r t ws) (rule_now-same r s t ws a)
    where
      go : (c b d : Bool) → b ≡ d → (g h : Ruling) → g ≡ h
          → SameCycle k (cond c (cond b (cycle_run m levels r g s ws) (cycle_outcome (Err Damaged) ws s)) (cycle_outcome (Err BadShape) ws s))
          (cond c (cond d (cycle_run m levels r h t ws) (cycle_outcome (Err Damaged) ws t)) (cycle_outcome (Err BadShape) ws t))
      go false b d e g h f = stood-same (Err BadShape) s t ws a
      go true true true e g h f = subst (λ (h : Ruling). SameCycle k (cycle_run m levels r g s ws) (cycle_run m levels r h t ws)) f (cycle_run-same r g s t ws a)
      go true false false e g h f = stood-same (Err Damaged) s t ws a
      go true true false e g h f = absurd (true≢false e)
      go true false true e g h f = absurd (false≢true e)

  pending-same : (s t : State) → Alike k s t → pending m levels s ≡ pending m levels t
  pending-same s t a = ap (λ (p : Works k). not (quiet k p)) a.works

  drain-from-same : (b n : ℕ) (s t : State) (ws : List ℕ) → Alike k s t → SameDrain k (drain_from m levels b n s ws) (drain_from m levels b n t ws)
  unfolding drain_from
  drain-from-same zero n s t ws a = record { answer = refl; cycles = refl; left = pending-same s t a; words = refl; state = a }
  drain-from-same (suc b) n s t ws a =
      go (pending m levels s) (pending m levels t) (pending-same s t a) (cycled m levels Idle s ws) (cycled m levels Idle t ws) (cycled-same Idle s t ws a)
      (drain-from-same b (suc n))
    where
      go : (x y : Bool) → x ≡ y → (o p : CycleOutcome) → SameCycle k o p
          → ((s t : State) (ws : List ℕ) → Alike k s t → SameDrain k (drain_from m levels b (suc n) s ws) (drain_from m levels b (suc n) t ws))
          → SameDrain k (cond x (cond (is_refused o.answer) (drain_outcome o.answer n true o.words o.state) (drain_from m levels b (suc n) o.state o.words)) (drain_outcome (Ok None) n false ws s))
          (cond y (cond (is_refused p.answer) (drain_outcome p.answer n true p.words p.state) (drain_from m levels b (suc n) p.state p.words)) (drain_outcome (Ok None) n false ws t))
      go true true e o p c ih = inner (is_refused o.answer) (is_refused p.answer) (ap is_refused c.answer)
        where
          inner : (x y : Bool) → x ≡ y
              → SameDrain k (cond x (drain_outcome o.answer n true o.words o.state) (drain_from m levels b (suc n) o.state o.words))
              (cond y (drain_outcome p.answer n true p.words p.state) (drain_from m levels b (suc n) p.state p.words))
          inner true true e = record { answer = c.answer; cycles = refl; left = refl; words = c.words; state = c.state }
          inner false false e =
              subst (λ (v : List ℕ). SameDrain k (drain_from m levels b (suc n) o.state o.words) (drain_from m levels b (suc n) p.state v)) c.words
              (ih o.state p.state o.words c.state)
          inner true false e = absurd (true≢false e)
          inner false true e = absurd (false≢true e)
      go false false e o p c ih = record { answer = refl; cycles = refl; left = refl; words = refl; state = a }
      go true false e o p c ih = absurd (true≢false e)
      go false true e o p c ih = absurd (false≢true e)

  pub drains-same : (budget : ℕ) (s t : State) (ws : List ℕ) → Alike k s t → SameDrain k (drains m levels budget s ws) (drains m levels budget t ws)
  unfolding drains
  drains-same budget s t ws a = go (shape_ok m levels (length ws))
    where
      go : (b : Bool) → SameDrain k (cond b (drain_from m levels budget 0 s ws) (drain_outcome (Err BadShape) 0 false ws s)) (cond b (drain_from m levels budget 0 t ws) (drain_outcome (Err BadShape) 0 false ws t))
      go true = drain-from-same budget 0 s t ws a
      go false = record { answer = refl; cycles = refl; left = refl; words = refl; state = a }

-- ---- how many records and words there are stays
module _ (m levels : ℕ) where
  pub cycled-records : (r : Request) (s : State) (ws : List ℕ) → length (cycled m levels r s ws).state.records ≡ length s.records
  unfolding cycled cycle_run
  cycled-records r s ws = go (shape_ok m levels (length ws)) (sound m levels r s ws)
    where
      g : Ruling
      g = rule_now m levels r s ws

      go : (a b : Bool) → length (cond a (cond b (cycle_run m levels r g s ws) (cycle_outcome (Err Damaged) ws s)) (cycle_outcome (Err BadShape) ws s)).state.records ≡ length s.records
      go false b = refl
      go true false = refl
      go true true = after-length m (pred levels) (rest_words m (pred levels) (work g.op 0) 0 1 ws) 0 s.records (under m (pred levels) ws 0 1)

  runs-kept : (rs : List Request) (s : State) (ws : List ℕ) → (length (runs m levels rs s ws).state.records ≡ length s.records) × (length (runs m levels rs s ws).words ≡ length ws)
  unfolding leaves
  runs-kept [] s ws = (refl, refl)
  runs-kept (r ∷ rs) s ws =
      let h = runs-kept rs (cycled m levels r s ws).state (cycled m levels r s ws).words in
      (h.0 ∙ cycled-records r s ws, h.1 ∙ cycled-length m levels r s ws)

  pub drains-kept : (budget : ℕ) (s : State) (ws : List ℕ) → (length (drains m levels budget s ws).state.records ≡ length s.records) × (length (drains m levels budget s ws).words ≡ length ws)
  drains-kept budget s ws =
      let e = drain-state m levels budget s ws in
      let h = runs-kept (replicate (drains m levels budget s ws).cycles Idle) s ws in
      (ap (λ (s : State). length s.records) e.1 ∙ h.0, ap length e.0 ∙ h.1)
