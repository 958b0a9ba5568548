-- Drain: each test and what follows it make the outcome that the definition says.
use Rattle.laws.specs.Prelude.{Answer, Bool, Idle, List, ◌+◌, ◌-◌, ◌∙◌, ◌≡◌, add-one, ap, ap₂, arith, cond, false, length, not, pred, refl, suc, sym, true, zero, ℕ, Ok, None}
use Rattle.tree_clock_model.specs.Prelude.{CycleOutcome, DrainOutcome, cycle_outcome, cycled, drain_from, drain_outcome, drains, is_refused, pending, quiet, works_of}
use Rattle.tree_clock_model.specs.declared.State.{State}
use Rattle.tree_model.specs.Prelude.{shape_ok}

-- what a report says
abbrev pub Report : Answer → ℕ → Bool → State → Answer → ℕ → Bool → State → Type 0
Report a n l s b k d u = (a ≡ b) × (n ≡ k) × (l ≡ d) × (s ≡ u)

pub reported : (a b : Answer) (n k : ℕ) (l d : Bool) (s u : State) (ws : List ℕ) → Report a n l s b k d u → drain_outcome a n l ws s ≡ drain_outcome b k d ws u
reported a b n k l d s u ws p = λ i. record { answer = p.0 i; cycles = p.1 i; left = p.2 i; words = ws; state = p.3 i }

module _ (m levels n k : ℕ) (below : levels ≡ suc k) (s : State) (ws : List ℕ) (q : Bool) (read : q ≡ quiet k (works_of k s.records 0)) where
  waits : not q ≡ pending m levels s
  waits = ap not (read ∙ ap (λ (n : ℕ). quiet (pred n) (works_of (pred n) s.records 0)) (sym below))

  pub drain-quiet : (b : ℕ) (a : Answer) (k : ℕ) (l : Bool) (u : State) → q ≡ true → Report a k l u (Ok None) n false s → drain_outcome a k l ws u ≡ drain_from m levels b n s ws
  unfolding drain_from
  drain-quiet zero a k l u e p = reported a (Ok None) k n l false u s ws p ∙ ap (λ (t : Bool). drain_outcome (Ok None) n t ws s) (sym (ap not e) ∙ waits)
  drain-quiet (suc b) a k l u e p = rw (sym waits ∙ ap not e) (reported a (Ok None) k n l false u s ws p)

  -- the budget is spent
  pub drain-spent : (b : ℕ) (a : Answer) (k : ℕ) (l : Bool) (u : State) → b ≡ 0 → Report a k l u (Ok None) n (not q) s → drain_outcome a k l ws u ≡ drain_from m levels b n s ws
  unfolding drain_from
  drain-spent b a k l u z p =
      reported a (Ok None) k n l (not q) u s ws p ∙ ap (λ (t : Bool). drain_outcome (Ok None) n t ws s) waits ∙ ap (λ (b : ℕ). drain_from m levels b n s ws) (sym z)

  module _ (e : q ≡ false) where
    on : pending m levels s ≡ true
    on = sym waits ∙ ap not e

    module _ (b : ℕ) (some : b ≡ 0 → ⊥) (x : Answer) (ws₁ : List ℕ) (s₁ : State) (ran : cycle_outcome x ws₁ s₁ ≡ cycled m levels Idle s ws) (t : Bool) (tested : t ≡ is_refused x) where
      one-cycle : drain_from m levels b n s ws ≡ cond t (drain_outcome x n true ws₁ s₁) (drain_from m levels (b - 1) (n + 1) s₁ ws₁)
      unfolding drain_from
      one-cycle = go b some
        where
          step : (b : ℕ) → drain_from m levels (suc b) n s ws ≡ cond t (drain_outcome x n true ws₁ s₁) (drain_from m levels b (suc n) s₁ ws₁)
          step b =
              ap (λ (t : Bool). cond t (cond (is_refused (cycled m levels Idle s ws).answer) (drain_outcome (cycled m levels Idle s ws).answer n true (cycled m levels Idle s ws).words (cycled m levels Idle s ws).state) (drain_from m levels b (suc n) (cycled m levels Idle s ws).state (cycled m levels Idle s ws).words)) (drain_outcome (Ok None) n false ws s)) on
              ∙ ap (λ (o : CycleOutcome). cond (is_refused o.answer) (drain_outcome o.answer n true o.words o.state) (drain_from m levels b (suc n) o.state o.words)) (sym ran)
              ∙ ap (λ (t : Bool). cond t (drain_outcome x n true ws₁ s₁) (drain_from m levels b (suc n) s₁ ws₁)) (sym tested)

          go : (b : ℕ) → (b ≡ 0 → ⊥) → drain_from m levels b n s ws ≡ cond t (drain_outcome x n true ws₁ s₁) (drain_from m levels (b - 1) (n + 1) s₁ ws₁)
          go zero h = absurd (h refl)
          go (suc b) h =
              let e : b ≡ suc b - 1 = omega arith in
              step b ∙ ap₂ (λ (b k : ℕ). cond t (drain_outcome x n true ws₁ s₁) (drain_from m levels b k s₁ ws₁)) e (sym (add-one n))

      pub drain-stops : (a : Answer) (k : ℕ) (l : Bool) (u : State) → t ≡ true → Report a k l u x n true s₁ → drain_outcome a k l ws₁ u ≡ drain_from m levels b n s ws
      drain-stops a k l u f p =
          reported a x k n l true u s₁ ws₁ p
          ∙ sym (one-cycle ∙ ap (λ (t : Bool). cond t (drain_outcome x n true ws₁ s₁) (drain_from m levels (b - 1) (n + 1) s₁ ws₁)) f)

      pub drain-goes : (b' : ℕ) → t ≡ false → b' ≡ b - 1 → drain_from m levels b' (n + 1) s₁ ws₁ ≡ drain_from m levels b n s ws
      drain-goes b' f eb =
          ap (λ (b : ℕ). drain_from m levels b (n + 1) s₁ ws₁) eb ∙ sym (one-cycle ∙ ap (λ (t : Bool). cond t (drain_outcome x n true ws₁ s₁) (drain_from m levels (b - 1) (n + 1) s₁ ws₁)) f)

-- what the drain from here on leaves, with n cycles run, is what the whole drain does
abbrev pub Draining : ℕ → ℕ → ℕ → State → List ℕ → ℕ → State → List ℕ → Type 0
Draining m levels budget s₀ ws₀ n s ws = drain_from m levels (budget - n) n s ws ≡ drain_from m levels budget 0 s₀ ws₀

pub drain_runs : (m levels budget : ℕ) (s : State) (ws : List ℕ) → shape_ok m levels (length ws) ≡ true → (d : DrainOutcome)
    → d ≡ drain_from m levels budget 0 s ws → d ≡ drains m levels budget s ws
unfolding drains
drain_runs m levels budget s ws shape d p = rw shape p
