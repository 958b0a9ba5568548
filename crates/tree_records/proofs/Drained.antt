-- "at 1 it reports 0 and no work left".
use Rattle.laws.specs.Prelude.{BadShape, Bool, List, ◌-◌, ◌≡◌, ap, arith, cond, false, length, number_of, refl, true, ℕ, Err}
use Rattle.tree_clock_model.proofs.Drain as model
use Rattle.tree_clock_model.proofs.Laws.{End, done, jammed}
use Rattle.tree_clock_model.specs.Prelude.{DrainOutcome, drains}
use Rattle.tree_clock_model.specs.declared.State.{State}
use Rattle.tree_records.specs.Lent.{drain_of, lent_drain, LentDrain, lent_drains, readable, state_read}
use Rattle.tree_records.specs.declared.Record.{Record}
use Rattle.tree_model.proofs.Laws.{shape_is}
use Rattle.tree_model.specs.Prelude.{shape_ok}

-- a drain of a good shape is done or refused 2
good : (m levels budget : ℕ) (s : State) (ws : List ℕ) → shape_ok m levels (length ws) ≡ true → number_of (drains m levels budget s ws).answer ≡ 1 → ⊥
good m levels budget s ws e h = go (model.drain-ends m levels budget s ws (shape_is m levels (length ws) e))
  where
    go : End m levels budget (drains m levels budget s ws).cycles s ws (drains m levels budget s ws) → ⊥
    go (done a l) = omega (arith, h, ap number_of a)
    go (jammed a l j) = omega (arith, h, ap number_of a)

pub drain-bad : (m levels : ℕ) (mark : Bool) (rs : List Record) (ws : List ℕ) (budget : ℕ) → number_of (lent_drains m levels mark rs ws budget).answer ≡ 1
    → ((lent_drains m levels mark rs ws budget).cycles ≡ 0) × ((lent_drains m levels mark rs ws budget).left ≡ false)
unfolding lent_drains
drain-bad m levels mark rs ws budget = go (readable (levels - 1) rs) (shape_ok m levels (length ws)) refl
  where
    s : State
    s = state_read (levels - 1) rs mark

    left : Bool → LentDrain
    left b = cond b (drain_of levels rs (drains m levels budget s ws)) (lent_drain (Err BadShape) 0 false ws rs mark)

    go : (b c : Bool) → shape_ok m levels (length ws) ≡ c → number_of (left b).answer ≡ 1 → ((left b).cycles ≡ 0) × ((left b).left ≡ false)
    go false c e h = (refl, refl)
    go true true e h = absurd (good m levels budget s ws e h)
    go true false e h = (ap (λ (d : DrainOutcome). d.cycles) (model.drain-bad m levels budget s ws e), ap (λ (d : DrainOutcome). d.left) (model.drain-bad m levels budget s ws e))
