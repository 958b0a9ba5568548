-- Drain: each test and what follows it make the outcome that the definition says.
use Rattle.laws.specs.Prelude.{Answer, Bool, Idle, List, ◌&&◌, ◌+◌, ◌-◌, ◌∙◌, ◌≡◌, ◌≤◌, add-one, ap, ap₂, arith, cond, false, is_refused, length, not, refl, suc, sym, true, zero, ℕ, Ok, None}
use Rattle.cluster_clock_model.specs.Prelude.{CycleOutcome, DrainOutcome, cycle_outcome, cycled, drain_from, drain_outcome, drains, is_nothing, pending, quiet, stage_at}
use Rattle.cluster_clock_model.specs.declared.Due.{Due}
use Rattle.cluster_clock_model.specs.declared.Due.TheVariants as due
use Rattle.cluster_clock_model.specs.declared.Stage.{Stage}
use Rattle.cluster_model.specs.Prelude.{shape_ok}

-- ---- is nothing pending?
pub something : (d : Due) → (d ≡ due.Nothing → ⊥) → false ≡ is_nothing d
unfolding is_nothing
something due.Nothing h = absurd (h refl)
something (due.Put y) h = refl
something (due.Fill j) h = refl
something (due.Swap j x) h = refl

-- i of k records seen
abbrev pub Quiet : ℕ → ℕ → List Stage → Bool → Type 0
Quiet k i rs ok = (ok && quiet (k - i) rs i) ≡ quiet k rs 0

pub quiet-first : (k : ℕ) (rs : List Stage) → Quiet k 0 rs true
quiet-first k rs = let e : k - 0 ≡ k = omega arith in ap (λ (j : ℕ). quiet j rs 0) e

pub quiet_next : (k i : ℕ) (rs : List Stage) (ok b : Bool) → Quiet k i rs ok → suc i ≤ k → b ≡ is_nothing (stage_at rs i).due → Quiet k (i + 1) rs (ok && b)
unfolding quiet
quiet_next k i rs ok b now h e =
    let left : k - i ≡ suc (k - (i + 1)) = omega arith in
    assoc ok b (quiet (k - (i + 1)) rs (i + 1))
    ∙ ap₂ (λ (t : Bool) (j : ℕ). ok && (t && quiet (k - (i + 1)) rs j)) e (add-one i) ∙ ap (λ (j : ℕ). ok && quiet j rs i) (sym left) ∙ now
  where
    assoc : (x y z : Bool) → ((x && y) && z) ≡ (x && (y && z))
    assoc true y z = refl
    assoc false y z = refl

pub quiet-last : (k i : ℕ) (rs : List Stage) (ok : Bool) → Quiet k i rs ok → k ≤ i → ok ≡ quiet k rs 0
unfolding quiet
quiet-last k i rs ok now h = let e : k - i ≡ 0 = omega arith in sym (all ok) ∙ ap (λ (j : ℕ). ok && quiet j rs i) (sym e) ∙ now
  where
    all : (b : Bool) → (b && true) ≡ b
    all true = refl
    all false = refl

-- ---- what a report says
abbrev pub Report : Answer → ℕ → Bool → List Stage → Answer → ℕ → Bool → List Stage → Type 0
Report a n l s b k d u = (a ≡ b) × (n ≡ k) × (l ≡ d) × (s ≡ u)

reported : (a b : Answer) (n k : ℕ) (l d : Bool) (s u : List Stage) (ws : List ℕ) → Report a n l s b k d u → drain_outcome a n l ws s ≡ drain_outcome b k d ws u
reported a b n k l d s u ws p = λ i. record { answer = p.0 i; cycles = p.1 i; left = p.2 i; words = ws; records = p.3 i }

module _ (K n k : ℕ) (s : List Stage) (ws : List ℕ) (q : Bool) (read : q ≡ quiet k s 0) where
  waits : not q ≡ pending K (suc k) s
  waits = ap not read

  pub drain-quiet : (b : ℕ) (a : Answer) (i : ℕ) (l : Bool) (u : List Stage) → q ≡ true → Report a i l u (Ok None) n false s → drain_outcome a i l ws u ≡ drain_from K (suc k) b n s ws
  unfolding drain_from
  drain-quiet zero a i l u e p = reported a (Ok None) i n l false u s ws p ∙ ap (λ (t : Bool). drain_outcome (Ok None) n t ws s) (sym (ap not e) ∙ waits)
  drain-quiet (suc b) a i l u e p = rw (sym waits ∙ ap not e) (reported a (Ok None) i n l false u s ws p)

  -- the budget is spent
  pub drain-spent : (b : ℕ) (a : Answer) (i : ℕ) (l : Bool) (u : List Stage) → b ≡ 0 → Report a i l u (Ok None) n (not q) s → drain_outcome a i l ws u ≡ drain_from K (suc k) b n s ws
  unfolding drain_from
  drain-spent b a i l u z p =
      reported a (Ok None) i n l (not q) u s ws p ∙ ap (λ (t : Bool). drain_outcome (Ok None) n t ws s) waits ∙ ap (λ (b : ℕ). drain_from K (suc k) b n s ws) (sym z)

  module _ (e : q ≡ false) where
    on : pending K (suc k) s ≡ true
    on = sym waits ∙ ap not e

    module _ (b : ℕ) (some : b ≡ 0 → ⊥) (x : Answer) (ws₁ : List ℕ) (s₁ : List Stage) (ran : cycle_outcome x ws₁ s₁ ≡ cycled K (suc k) Idle s ws) (t : Bool) (tested : t ≡ is_refused x) where
      one-cycle : drain_from K (suc k) b n s ws ≡ cond t (drain_outcome x n true ws₁ s₁) (drain_from K (suc k) (b - 1) (n + 1) s₁ ws₁)
      unfolding drain_from
      one-cycle = go b some
        where
          step : (b : ℕ) → drain_from K (suc k) (suc b) n s ws ≡ cond t (drain_outcome x n true ws₁ s₁) (drain_from K (suc k) b (suc n) s₁ ws₁)
          step b =
              ap (λ (t : Bool). cond t (cond (is_refused (cycled K (suc k) Idle s ws).answer) (drain_outcome (cycled K (suc k) Idle s ws).answer n true (cycled K (suc k) Idle s ws).words (cycled K (suc k) Idle s ws).records) (drain_from K (suc k) b (suc n) (cycled K (suc k) Idle s ws).records (cycled K (suc k) Idle s ws).words)) (drain_outcome (Ok None) n false ws s)) on
              ∙ ap (λ (o : CycleOutcome). cond (is_refused o.answer) (drain_outcome o.answer n true o.words o.records) (drain_from K (suc k) b (suc n) o.records o.words)) (sym ran)
              ∙ ap (λ (t : Bool). cond t (drain_outcome x n true ws₁ s₁) (drain_from K (suc k) b (suc n) s₁ ws₁)) (sym tested)

          go : (b : ℕ) → (b ≡ 0 → ⊥) → drain_from K (suc k) b n s ws ≡ cond t (drain_outcome x n true ws₁ s₁) (drain_from K (suc k) (b - 1) (n + 1) s₁ ws₁)
          go zero h = absurd (h refl)
          go (suc b) h =
              let e : b ≡ suc b - 1 = omega arith in
              step b ∙ ap₂ (λ (b i : ℕ). cond t (drain_outcome x n true ws₁ s₁) (drain_from K (suc k) b i s₁ ws₁)) e (sym (add-one n))

      pub drain-stops : (a : Answer) (i : ℕ) (l : Bool) (u : List Stage) → t ≡ true → Report a i l u x n true s₁ → drain_outcome a i l ws₁ u ≡ drain_from K (suc k) b n s ws
      drain-stops a i l u f p =
          reported a x i n l true u s₁ ws₁ p
          ∙ sym (one-cycle ∙ ap (λ (t : Bool). cond t (drain_outcome x n true ws₁ s₁) (drain_from K (suc k) (b - 1) (n + 1) s₁ ws₁)) f)

      pub drain-goes : (b' : ℕ) → t ≡ false → b' ≡ b - 1 → drain_from K (suc k) b' (n + 1) s₁ ws₁ ≡ drain_from K (suc k) b n s ws
      drain-goes b' f eb =
          ap (λ (b : ℕ). drain_from K (suc k) b (n + 1) s₁ ws₁) eb
          ∙ sym (one-cycle ∙ ap (λ (t : Bool). cond t (drain_outcome x n true ws₁ s₁) (drain_from K (suc k) (b - 1) (n + 1) s₁ ws₁)) f)

-- what the drain from here on leaves, with n cycles run, is what the whole drain does
abbrev pub Draining : ℕ → ℕ → ℕ → List Stage → List ℕ → ℕ → List Stage → List ℕ → Type 0
Draining K levels budget s₀ ws₀ n s ws = drain_from K levels (budget - n) n s ws ≡ drain_from K levels budget 0 s₀ ws₀

pub drain-starts : (K levels budget : ℕ) (s : List Stage) (ws : List ℕ) → Draining K levels budget s ws 0 s ws
drain-starts K levels budget s ws = let e : budget - 0 ≡ budget = omega arith in ap (λ (b : ℕ). drain_from K levels b 0 s ws) e

pub drain_runs : (K levels budget : ℕ) (s : List Stage) (ws : List ℕ) → shape_ok K levels (length ws) ≡ true → (d : DrainOutcome)
    → d ≡ drain_from K levels budget 0 s ws → d ≡ drains K levels budget s ws
unfolding drains
drain_runs K levels budget s ws shape d p = rw shape p
