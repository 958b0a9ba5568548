-- No cycle finds damage where the one-at-a-time tree finds nothing.
use Rattle.laws.specs.Prelude.{◌∙◌, ◌≡◌, and_left, and_right, and-true, ap, ap₂, refl, suc, sym, true, zero, ℕ}
use Rattle.tree_clock_model.proofs.Clock.{gap-map, same-step_level, same-step_work, settle-top, settled}
use Rattle.tree_clock_model.specs.Prelude.{Clear, Gap, PathsOk, Spaced, Works, cycle_levels, cycle_ok, cycle_works, settle}
use Rattle.tree_model.specs.Prelude.{Level, Levels, apply, is_nothing, lifts, path_ok, step_level, step_ok, step_work, top, work_ok}
use Rattle.tree_model.specs.declared.Op.{Op}
use Rattle.tree_model.specs.declared.Op.TheVariants.{Nothing, Put, Swap, Take}
use Rattle.tree_model.specs.declared.Work.{Work}

module _ (m : ℕ) where
  fine-same : (k : ℕ) (o : Op) (n : ℕ) (l a b : Level) → Gap o (a ≡ b) → work_ok m k (record { op = o; node = n }) l a ≡ work_ok m k (record { op = o; node = n }) l b
  unfolding work_ok step_ok lifts is_nothing
  fine-same k Nothing n l a b g = refl
  fine-same k (Put x) n l a b g = refl
  fine-same k Take n l a b g = ap (λ (c : Level). work_ok m k (record { op = Take; node = n }) l c) g
  fine-same k (Swap x) n l a b g = ap (λ (c : Level). work_ok m k (record { op = Swap x; node = n }) l c) g

  same-fine : (k : ℕ) (w : Work) (p : Works k) (l : Level) (ls : Levels k) → Gap w.op (Clear k p)
      → work_ok m k w l (top k ls) ≡ work_ok m k w l (top k (settle m k p ls))
  same-fine k w p l ls g = fine-same k w.op w.node l (top k ls) (top k (settle m k p ls)) (gap-map w.op (λ c. sym (settle-top m k p ls c)) g)

  -- a cycle from such a state finds no damage
  pub cycle-fine : (k : ℕ) (p : Works k) (ls : Levels k) → Spaced k p → PathsOk m k p ls → cycle_ok m k p ls ≡ true
  unfolding cycle_ok path_ok
  cycle-fine zero p ls sp h = refl
  cycle-fine (suc k) p ls sp h =
      and-true (work_ok m k p.0 ls.0 (top k ls.1)) (cycle_ok m k p.1 ls.1)
      (same-fine k p.0 p.1 ls.0 ls.1 sp.0 ∙ and_left _ _ h.0)
      (cycle-fine k p.1 ls.1 sp.1 h.1)

  -- what a cycle leaves of the levels settles to what they settled to
  cycle-parts : (k : ℕ) (p : Works (suc k)) (ls : Levels (suc k)) → Spaced (suc k) p
      → ◌≡◌ {A = Levels (suc k)} (
        step_level m p.0 ls.0 (top k ls.1),
        settle m k (cycle_works m k (step_work m p.0 ls.0 (top k ls.1)) p.1 ls.1) (cycle_levels m k p.1 ls.1),
      )
      (settle m (suc k) p ls)
  unfolding settle apply
  cycle-parts k p ls sp =
      ap₂ (λ (l : Level) (r : Levels k). (l, r)) (same-step_level m k p.0 p.1 ls.0 ls.1 sp.0)
      (settled m k (step_work m p.0 ls.0 (top k ls.1)) p.1 ls.1 sp.1
      ∙ ap (λ (w : Work). apply m k w (settle m k p.1 ls.1)) (same-step_work m k p.0 p.1 ls.0 ls.1 sp.0))

  path-left : (k : ℕ) (p : Works (suc k)) (ls : Levels (suc k)) → Spaced (suc k) p → path_ok m (suc k) p.0 (ls.0, settle m k p.1 ls.1) ≡ true
      → path_ok m k (step_work m p.0 ls.0 (top k ls.1)) (settle m k p.1 ls.1) ≡ true
  unfolding path_ok
  path-left k p ls sp h =
      ap (λ (w : Work). path_ok m k w (settle m k p.1 ls.1)) (same-step_work m k p.0 p.1 ls.0 ls.1 sp.0)
      ∙ and_right (work_ok m k p.0 ls.0 (top k (settle m k p.1 ls.1))) _ h

  -- .. and leaves such a state, if what comes in finds its path in order
  pub cycle-ready : (k : ℕ) (q : Work) (p : Works k) (ls : Levels k) → Spaced k p → PathsOk m k p ls → path_ok m k q (settle m k p ls) ≡ true
      → PathsOk m k (cycle_works m k q p ls) (cycle_levels m k p ls)
  unfolding cycle_works cycle_levels
  cycle-ready zero q p ls sp h ok = tt
  cycle-ready (suc k) q p ls sp h ok = (
    ap (path_ok m (suc k) q) (cycle-parts k p ls sp) ∙ ok,
    cycle-ready k (step_work m p.0 ls.0 (top k ls.1)) p.1 ls.1 sp.1 h.1 (path-left k p ls sp h.0),
  )
