-- The queue below: what it is asked and answers in the middle of fair ranks' calls is a list of its own requests, so that all that is promised of those
-- is promised here.
use Rattle.laws.specs.Prelude.{All, BadShape, Bool, List, Pop, Push, Request, [], ◌&&◌, ◌++◌, ◌∙◌, ◌∷◌, ◌≡◌, ap, cond, false, leb, refl, sym, true, ℕ}
use Rattle.promise.specs.Prelude.{Step, answers, leaves}
use Rattle.tree_model.specs.Prelude.{after, called, start, tree_queue}
use Rattle.fair_model.specs.Calls.{denied, Desk, desk, handed_out, next_element, next_finish, passed_on, pops, pushes, Reply, state_ok, strip_ok, told}
use Rattle.fair_model.specs.Promise.{all_passed, Call, fair_queue, opened, passed, pop, push, reset}
use Rattle.fair_model.specs.Ranks.{latest}
use Rattle.fair_model.specs.declared.FairRefusal.TheVariants.{BadStrip, ClockSpent, Queue}
use Rattle.fair_model.proofs.Outcomes.{reset-either}

leaves-both : {C A S : Type 0} (queue : C → S → Step A S) (xs ys : List C) (s : S) → leaves queue (xs ++ ys) s ≡ leaves queue ys (leaves queue xs s)
unfolding leaves
leaves-both queue [] ys s = refl
leaves-both queue (x ∷ xs) ys s = leaves-both queue xs ys (queue x s).next

-- one call: what it asks leaves the store that the call leaves, and is answered what the call tells on
pub record Asks (m levels : ℕ) (rs : List Request) (d : Desk) (z : Reply) : Type 0 where
  pub store : leaves (tree_queue m levels) rs d.store ≡ z.next.store
  pub told-on : All (λ a. z.said ≡ told a) (answers (tree_queue m levels) rs d.store)

module _ (m levels : ℕ) where
  push-asks : (f w n t : ℕ) (d : Desk) → Asks m levels (passed (push f w n t) d) d (pushes m levels f w n t d)
  unfolding pushes leaves answers
  push-asks f w n t d = go (strip_ok f w n) (state_ok d.state) (leb (next_finish d f w n) latest)
    where
      go : (a b c : Bool) → Asks m levels (cond (a && (b && c)) (Push (next_element d f w n t) ∷ []) []) d
          (cond a (cond b (cond c (passed_on (called m levels (Push (next_element d f w n t)) d.store) f (next_finish d f w n) d.state) (denied ClockSpent d)) (denied (Queue BadShape) d)) (denied BadStrip d))
      go false b c = record { store = refl; told-on = tt }
      go true false c = record { store = refl; told-on = tt }
      go true true false = record { store = refl; told-on = tt }
      go true true true = record { store = refl; told-on = (refl, tt) }

  pop-asks : (d : Desk) → Asks m levels (passed pop d) d (pops m levels d)
  unfolding pops leaves answers
  pop-asks d = go (state_ok d.state)
    where
      go : (b : Bool) → Asks m levels (cond b (Pop ∷ []) []) d (cond b (handed_out (called m levels Pop d.store) d.state) (denied (Queue BadShape) d))
      go false = record { store = refl; told-on = tt }
      go true = record { store = refl; told-on = (refl, tt) }

  -- ASKS: every call, whatever the words
  pub asks : (c : Call) (d : Desk) → Asks m levels (passed c d) d (fair_queue m levels c d)
  unfolding fair_queue leaves answers
  asks (push f w n t) d = push-asks f w n t d
  asks pop d = pop-asks d
  asks reset d = reset-either m levels d (λ (z : Reply). Asks m levels [] d z) (λ x. record { store = refl; told-on = tt }) (λ long e. record { store = refl; told-on = tt })

  pub all_asked : (cs : List Call) (d : Desk) → leaves (tree_queue m levels) (all_passed m levels cs d) d.store ≡ (leaves (fair_queue m levels) cs d).store
  unfolding all_passed leaves
  all_asked [] d = refl
  all_asked (c ∷ cs) d =
      leaves-both (tree_queue m levels) (passed c d) (all_passed m levels cs (fair_queue m levels c d).next) d.store
      ∙ ap (λ (ws : List ℕ). leaves (tree_queue m levels) (all_passed m levels cs (fair_queue m levels c d).next) ws) (asks c d).store
      ∙ all_asked cs (fair_queue m levels c d).next

  -- CARRIED: from a reset on the store is what the queue's own requests leave from a clear, those before the reset and those that the calls pass on
  pub carried : (ws : List ℕ) (rs : List Request) (st : List ℕ) (cs : List Call)
      → (leaves (fair_queue m levels) cs (opened m levels ws rs st).next).store ≡ after m levels (rs ++ all_passed m levels cs (opened m levels ws rs st).next) ws
  carried ws rs st cs =
      let d = (opened m levels ws rs st).next in
      let e : d.store ≡ after m levels rs ws = reset-either m levels (desk st (after m levels rs ws)) (λ (z : Reply). z.next.store ≡ after m levels rs ws) (λ x. refl) (λ long h. refl) in
      sym (leaves-both (tree_queue m levels) rs (all_passed m levels cs d) (start m levels ws)
      ∙ ap (λ (v : List ℕ). leaves (tree_queue m levels) (all_passed m levels cs d) v) (sym e) ∙ all_asked cs d)
