-- No work changes nothing.
use Rattle.laws.specs.Prelude.{List, [], ◌∙◌, ◌≡◌, ap, ap₂, false≢true, get_or, refl, set, set-get_or, suc, true, zero, ℕ}
use native.Mathlib.Nat.{le_refl}
use lib.Seq.{set_out}
use Rattle.tree_model.specs.Prelude.{Level, Levels, Nothing, Op, Put, Slot, Swap, Take, Work, apply, idle, is_nothing, level_move, op_move, step_level, step_work, top, work}

pub is_none : (o : Op) → is_nothing o ≡ true → o ≡ Nothing
unfolding is_nothing
is_none Nothing e = refl
is_none (Put x) e = absurd (false≢true e)
is_none Take e = absurd (false≢true e)
is_none (Swap x) e = absurd (false≢true e)

pub op-work : (o : Op) (n : ℕ) → (work o n).op ≡ o
unfolding work
op-work Nothing n = refl
op-work (Put x) n = refl
op-work Take n = refl
op-work (Swap x) n = refl

module _ (m : ℕ) where
  -- ---- no work changes nothing
  pub step-none : (w : Work) (l below : Level) → w.op ≡ Nothing → step_level m w l below ≡ l
  unfolding step_level level_move op_move
  step-none w l below e =
      ap (λ (o : Op). step_level m (record { op = o; node = w.node }) l below) e
      ∙ ap (λ (nd : List Slot). set l w.node nd) (set_out (get_or l w.node []) _ _ (le_refl _))
      ∙ set-get_or l w.node []

  pub work_none : (w : Work) (l below : Level) → w.op ≡ Nothing → step_work m w l below ≡ idle
  unfolding step_work level_move op_move work
  work_none w l below e = ap (λ (o : Op). step_work m (record { op = o; node = w.node }) l below) e

  pub apply-none : (k : ℕ) (w : Work) (ls : Levels k) → w.op ≡ Nothing → apply m k w ls ≡ ls
  unfolding apply
  apply-none zero w ls e = refl
  apply-none (suc k) w ls e =
      ap₂ (λ (l : Level) (r : Levels k). (l, r)) (step-none w ls.0 (top k ls.1) e)
      (apply-none k _ ls.1 (ap (λ (v : Work). v.op) (work_none w ls.0 (top k ls.1) e)))
