-- "of a longer one the rest is never touched": no call writes a word of the state behind the last finish, and none reads one.
use Rattle.laws.specs.Prelude.{Answer, Bool, List, Pop, Push, ◌+◌, ◌-◌, ◌<◌, ◌∙◌, ◌≡◌, ◌≤◌, arith, cond, drop, eqb, false, get_or, get_or-set_other, get_or-set_same, le-leb, leb, length, length-replicate, refl, replicate, set, subst, suc, sym, true, ℕ, ℕ_discrete, Result, Refusal, Ok, Err, None, Some}
use lib.Seq.{get_or-append-add, get_or-drop}
use Rattle.tree_model.specs.Prelude.{called, held_count}
use Rattle.fair_model.specs.Calls.{blank_state, denied, Desk, desk, emptied, next_element, next_finish, noted, passed_on, pops, pushes, Reply, reply, resets, state_words, strip_ok, timed}
use Rattle.fair_model.specs.Promise.{Alike, AlikeReply, Call, fair_queue, pop, push, reset}
use Rattle.fair_model.specs.Ranks.{latest}
use Rattle.std.specs.Prelude.{Ok, None}
use Rattle.fair_model.specs.declared.FairRefusal.TheVariants.{BadStrip, ClockSpent, NotEmpty}
use Rattle.fair_model.proofs.Outcomes.{blank-at, pop-either, push-either, reset-either, strip-means}

-- ---- not written
pub blank-past : (st : List ℕ) (p : ℕ) → state_words ≤ p → get_or (blank_state st) p 0 ≡ get_or st p 0
blank-past st p h =
    let e : p ≡ 65 + (p - 65) = omega arith in
    let n : length (replicate {A = ℕ} state_words 0) ≡ 65 = length-replicate {A = ℕ} state_words 0 in
    subst (λ (q : ℕ). get_or (blank_state st) q 0 ≡ get_or st q 0) (sym e)
    (subst (λ (q : ℕ). get_or (blank_state st) (q + (p - 65)) 0 ≡ get_or st (65 + (p - 65)) 0) n
    (get_or-append-add (replicate state_words 0) (drop state_words st) (p - 65) 0 ∙ get_or-drop state_words st (p - 65) 0))

noted-past : (a : Answer) (f r : ℕ) (st : List ℕ) (p : ℕ) → suc f < p → get_or (noted a f r st) p 0 ≡ get_or st p 0
noted-past (Ok None) f r st p h = get_or-set_other st (suc f) p r 0 (λ z. omega arith)
noted-past (Ok (Some e)) f r st p h = refl
noted-past (Err x) f r st p h = refl

timed-past : (a : Answer) (st : List ℕ) (p : ℕ) → 0 < p → get_or (timed a st) p 0 ≡ get_or st p 0
timed-past (Ok None) st p h = refl
timed-past (Ok (Some e)) st p h = get_or-set_other st 0 p e.rank.0 0 (λ z. omega arith)
timed-past (Err x) st p h = refl

-- PAST: whatever the words
pub past-stands : (m levels : ℕ) (c : Call) (d : Desk) (p : ℕ) → state_words ≤ p → get_or (fair_queue m levels c d).next.state p 0 ≡ get_or d.state p 0
unfolding fair_queue
past-stands m levels (push f w n t) d p h =
    push-either m levels d f w n t (λ (z : Reply). get_or z.next.state p 0 ≡ get_or d.state p 0) (λ x. refl)
    (λ good long fits. noted-past (called m levels (Push (next_element d f w n t)) d.store).answer f (next_finish d f w n) d.state p (omega (arith, good.known)))
past-stands m levels pop d p h =
    pop-either m levels d (λ (z : Reply). get_or z.next.state p 0 ≡ get_or d.state p 0) (λ x. refl) (λ long. timed-past (called m levels Pop d.store).answer d.state p (omega arith))
past-stands m levels reset d p h =
    reset-either m levels d (λ (z : Reply). get_or z.next.state p 0 ≡ get_or d.state p 0) (λ x. refl) (λ long e. blank-past d.state p h)

-- ---- not read
module _ (st vs ws : List ℕ) (long : state_words ≤ length st) (wide : state_words ≤ length vs) (same : Alike st vs) where
  set-alike : (i r : ℕ) → i < state_words → Alike (set st i r) (set vs i r)
  set-alike i r h p l = elim (ℕ_discrete p i) [
    | yes e ↦ subst (λ (q : ℕ). get_or (set st i r) q 0 ≡ get_or (set vs i r) q 0) (sym e) (get_or-set_same st i r 0 (omega arith) ∙ sym (get_or-set_same vs i r 0 (omega arith)))
    | no ne ↦ get_or-set_other st i p r 0 ne ∙ same p l ∙ sym (get_or-set_other vs i p r 0 ne)
  ]

  noted-alike : (a : Answer) (f r : ℕ) → f < 64 → Alike (noted a f r st) (noted a f r vs)
  noted-alike (Ok None) f r h = set-alike (suc f) r (omega arith)
  noted-alike (Ok (Some e)) f r h = same
  noted-alike (Err x) f r h = same

  timed-alike : (a : Answer) → Alike (timed a st) (timed a vs)
  timed-alike (Ok None) = same
  timed-alike (Ok (Some e)) = set-alike 0 e.rank.0 (omega arith)
  timed-alike (Err x) = same

  push-alike : (m levels f w n t : ℕ) → AlikeReply (pushes m levels f w n t (desk st ws)) (pushes m levels f w n t (desk vs ws))
  unfolding pushes
  push-alike m levels f w n t = rw (le-leb state_words (length st) long, le-leb state_words (length vs) wide) (go (strip_ok f w n) refl)
    where
      r : ℕ
      r = next_finish (desk st ws) f w n

      q : ℕ
      q = next_finish (desk vs ws) f w n

      by : (b : Bool) → f < 64 → AlikeReply (cond b (passed_on (called m levels (Push (next_element (desk st ws) f w n t)) ws) f r st) (denied ClockSpent (desk st ws)))
          (cond b (passed_on (called m levels (Push (next_element (desk st ws) f w n t)) ws) f r vs) (denied ClockSpent (desk vs ws)))
      by true h = (refl, refl, noted-alike (called m levels (Push (next_element (desk st ws) f w n t)) ws).answer f r h)
      by false h = (refl, refl, same)

      go : (b : Bool) → strip_ok f w n ≡ b
          → AlikeReply (cond b (cond (leb r latest) (passed_on (called m levels (Push (next_element (desk st ws) f w n t)) ws) f r st) (denied ClockSpent (desk st ws))) (denied BadStrip (desk st ws)))
          (cond b (cond (leb q latest) (passed_on (called m levels (Push (next_element (desk vs ws) f w n t)) ws) f q vs) (denied ClockSpent (desk vs ws))) (denied BadStrip (desk vs ws)))
      go false e = (refl, refl, same)
      go true e =
          let h = ((strip-means f w n).says e).known in
          let z : get_or st 0 0 ≡ get_or vs 0 0 = same 0 (omega arith) in
          let y : get_or st (suc f) 0 ≡ get_or vs (suc f) 0 = same (suc f) (omega arith) in
          rw (← z, ← y) (by (leb (next_finish (desk st ws) f w n) latest) h)

  pop-alike : (m levels : ℕ) → AlikeReply (pops m levels (desk st ws)) (pops m levels (desk vs ws))
  unfolding pops
  pop-alike m levels = rw (le-leb state_words (length st) long, le-leb state_words (length vs) wide) (refl, refl, timed-alike (called m levels Pop ws).answer)

  emptied-alike : (h : Result ℕ Refusal) → AlikeReply (emptied h (desk st ws)) (emptied h (desk vs ws))
  emptied-alike (Err q) = (refl, refl, same)
  emptied-alike (Ok n) = go (eqb n 0)
    where
      go : (b : Bool) → AlikeReply (cond b (reply (Ok None) (desk (blank_state st) ws)) (denied NotEmpty (desk st ws))) (cond b (reply (Ok None) (desk (blank_state vs) ws)) (denied NotEmpty (desk vs ws)))
      go true = (refl, refl, λ p l. blank-at st p l ∙ sym (blank-at vs p l))
      go false = (refl, refl, same)

  reset-alike : (m levels : ℕ) → AlikeReply (resets m levels (desk st ws)) (resets m levels (desk vs ws))
  unfolding resets
  reset-alike m levels = rw (le-leb state_words (length st) long, le-leb state_words (length vs) wide) (emptied-alike (held_count m levels ws))

  -- UNREAD: whatever stands behind
  pub unread : (m levels : ℕ) (c : Call) → AlikeReply (fair_queue m levels c (desk st ws)) (fair_queue m levels c (desk vs ws))
  unfolding fair_queue
  unread m levels (push f w n t) = push-alike m levels f w n t
  unread m levels pop = pop-alike m levels
  unread m levels reset = reset-alike m levels
