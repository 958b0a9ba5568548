-- A cycle changes nothing of what the store settles to, but for the work that comes in.
use Rattle.laws.specs.Prelude.{Bool, Element, List, [], ◌*◌, ◌+◌, ◌∙◌, ◌≡◌, ◌≤◌, and_left, and_right, ap, ap₂, false, get_or, le_of_suc-le-suc, not-suc-le-zero, refl, set, suc, sym, true, zero, ℕ}
use Rattle.tree_clock_model.specs.Prelude.{Clear, Gap, Lead, Spaced, Works, cycle_levels, cycle_works, quiet, settle}
use Rattle.tree_model.proofs.Laws.{apply-none, is_none, op-work, work_none}
use Rattle.tree_model.specs.Prelude.{Level, Levels, apply, is_nothing, level_move, op_move, put_by, put_move, step_level, step_work, swap_by, swap_move, take_by, take_move, top, work}
use Rattle.tree_model.specs.declared.Move.{Move}
use Rattle.tree_model.specs.declared.Op.{Op}
use Rattle.tree_model.specs.declared.Op.TheVariants.{Nothing, Put, Swap, Take}
use Rattle.tree_model.specs.declared.Slot.{Slot}
use Rattle.tree_model.specs.declared.Work.{Work}

pub gap-map : (o : Op) {G H : Type 0} → (G → H) → Gap o G → Gap o H
gap-map Nothing f g = tt
gap-map (Put x) f g = tt
gap-map Take f g = f g
gap-map (Swap x) f g = f g

-- what is left below is no reading operation unless the operation itself is
rest_put : (t : Bool) (x : Element) (nd : List Slot) (G : Type 0) → Gap (put_by t x nd).rest G
unfolding put_by
rest_put true x nd G = tt
rest_put false x nd G = tt

rest-take : (t : Bool) (nd : List Slot) (b : ℕ → Element) (G : Type 0) → G → Gap (take_by t nd b).rest G
unfolding take_by
rest-take true nd b G g = tt
rest-take false nd b G g = g

rest-swap : (t : Bool) (x : Element) (nd : List Slot) (b : ℕ → Element) (G : Type 0) → G → Gap (swap_by t x nd b).rest G
unfolding swap_by
rest-swap true x nd b G g = tt
rest-swap false x nd b G g = g

rest-gap : (o : Op) (nd : List Slot) (b : ℕ → Element) (G : Type 0) → Gap o G → Gap (op_move o nd b).rest G
unfolding op_move put_move take_move swap_move
rest-gap Nothing nd b G g = tt
rest-gap (Put x) nd b G g = rest_put _ x nd G
rest-gap Take nd b G g = rest-take _ nd b G g
rest-gap (Swap x) nd b G g = rest-swap _ x nd b G g

-- with no work on the first j levels and no more levels than that, nothing is pending
pub lead-quiet : (j k : ℕ) (p : Works k) → k ≤ j → Lead j k p → quiet k p ≡ true
unfolding quiet is_nothing
lead-quiet j zero p l h = refl
lead-quiet zero (suc k) p l h = absurd (not-suc-le-zero l)
lead-quiet (suc j) (suc k) p l h = rw (h.0, lead-quiet j k p.1 (le_of_suc-le-suc l) h.1)

module _ (m : ℕ) where
  -- ---- where nothing is pending, settling leaves the topmost level as it stands
  pub settle-top : (k : ℕ) (p : Works k) (ls : Levels k) → Clear k p → top k (settle m k p ls) ≡ top k ls
  unfolding settle top
  settle-top zero p ls c = refl
  settle-top (suc k) p ls c = ap (λ (r : Levels (suc k)). r.0) (apply-none m (suc k) p.0 (ls.0, settle m k p.1 ls.1) c)

  -- ---- an operation that does not read below does not depend on the level below
  same-level : (o : Op) (n : ℕ) (l a b : Level) → Gap o (a ≡ b) → level_move m o n l a ≡ level_move m o n l b
  unfolding level_move op_move
  same-level Nothing n l a b g = refl
  same-level (Put x) n l a b g = refl
  same-level Take n l a b g = ap (λ (c : Level). level_move m Take n l c) g
  same-level (Swap x) n l a b g = ap (λ (c : Level). level_move m (Swap x) n l c) g

  -- the two halves of a step, at a level, over the level below as it stands and as it will be
  same_step : (k : ℕ) (w : Work) (p : Works k) (l : Level) (ls : Levels k) → Gap w.op (Clear k p)
      → level_move m w.op w.node l (top k ls) ≡ level_move m w.op w.node l (top k (settle m k p ls))
  same_step k w p l ls g = same-level w.op w.node l (top k ls) (top k (settle m k p ls)) (gap-map w.op (λ c. sym (settle-top k p ls c)) g)

  pub same-step_level : (k : ℕ) (w : Work) (p : Works k) (l : Level) (ls : Levels k) → Gap w.op (Clear k p)
      → step_level m w l (top k ls) ≡ step_level m w l (top k (settle m k p ls))
  unfolding step_level
  same-step_level k w p l ls g =
      ap (λ (v : Move). set l w.node (set (get_or l w.node []) v.place v.slot)) (same_step k w p l ls g)

  pub same-step_work : (k : ℕ) (w : Work) (p : Works k) (l : Level) (ls : Levels k) → Gap w.op (Clear k p)
      → step_work m w l (top k ls) ≡ step_work m w l (top k (settle m k p ls))
  unfolding step_work
  same-step_work k w p l ls g = ap (λ (v : Move). work v.rest (w.node * m + v.place)) (same_step k w p l ls g)

  -- the main lemma: after a cycle in which q comes in, all settles to what q makes of what all settled to before
  pub settled : (k : ℕ) (q : Work) (p : Works k) (ls : Levels k) → Spaced k p
      → settle m k (cycle_works m k q p ls) (cycle_levels m k p ls) ≡ apply m k q (settle m k p ls)
  unfolding settle cycle_works cycle_levels apply
  settled zero q p ls sp = refl
  settled (suc k) q p ls sp =
      ap (apply m (suc k) q)
      (ap₂ (λ (l : Level) (r : Levels k). (l, r)) (same-step_level k p.0 p.1 ls.0 ls.1 sp.0)
      (settled k (step_work m p.0 ls.0 (top k ls.1)) p.1 ls.1 sp.1
      ∙ ap (λ (w : Work). apply m k w (settle m k p.1 ls.1)) (same-step_work k p.0 p.1 ls.0 ls.1 sp.0)))

  -- ---- the gaps stay

  pub step-gap : (w : Work) (l b : Level) (G : Type 0) → Gap w.op G → Gap (step_work m w l b).op G
  unfolding step_work level_move
  step-gap w l b G g = rw op-work (rest-gap w.op _ _ G g)

  pub clears : (k : ℕ) (w : Work) (p : Works k) (l : Level) (ls : Levels k) → w.op ≡ Nothing → Clear k (cycle_works m k (step_work m w l (top k ls)) p ls)
  unfolding cycle_works
  clears zero w p l ls c = tt
  clears (suc k) w p l ls c = ap (λ (v : Work). v.op) (work_none m w l (top (suc k) ls) c)

  pub spaced : (k : ℕ) (q : Work) (p : Works k) (ls : Levels k) → Gap q.op (Clear k p) → Spaced k p → Spaced k (cycle_works m k q p ls)
  unfolding cycle_works
  spaced zero q p ls g sp = tt
  spaced (suc k) q p ls g sp = (
    gap-map q.op (clears k p.0 p.1 ls.0 ls.1) g,
    spaced k (step_work m p.0 ls.0 (top k ls.1)) p.1 ls.1 (step-gap p.0 _ _ _ sp.0) sp.1,
  )

  -- ---- idle cycles: after j of them the first j levels have no work
  pub leads : (j k : ℕ) (q : Work) (p : Works k) (ls : Levels k) → q.op ≡ Nothing → Lead j k p → Lead (suc j) k (cycle_works m k q p ls)
  unfolding cycle_works
  leads j zero q p ls e h = tt
  leads zero (suc k) q p ls e h = (e, tt)
  leads (suc j) (suc k) q p ls e h = (e, leads j k _ p.1 ls.1 (ap (λ (v : Work). v.op) (work_none m p.0 ls.0 (top k ls.1) h.0)) h.1)

  -- with no work anywhere all is settled
  pub at_rest : (k : ℕ) (p : Works k) (ls : Levels k) → quiet k p ≡ true → settle m k p ls ≡ ls
  unfolding settle quiet
  at_rest zero p ls e = refl
  at_rest (suc k) p ls e =
      apply-none m (suc k) p.0 (ls.0, settle m k p.1 ls.1) (is_none p.0.op (and_left (is_nothing p.0.op) (quiet k p.1) e))
      ∙ ap (λ (r : Levels k). (ls.0, r)) (at_rest k p.1 ls.1 (and_right (is_nothing p.0.op) (quiet k p.1) e))
