-- What a call may come to: a refusal that leaves everything, or what the queue makes of what is passed on to it.
use Rattle.laws.specs.Prelude.{Answer, Bool, Element, List, Means, Pop, Push, Refusal, Request, ◌<◌, ◌∙◌, ◌≡◌, ◌≤◌, ap, arith, cond, drop, eqb, eqb-true, false, get_or, get_or-replicate, leb-true, left_behind, length, length-append, length-replicate, means-and, means-by, means-leb, means-ltb, number_of, refl, replicate, subst, sym, true, ℕ, Result, Ok, Err, None, Some}
use lib.ListN.{get_or-append}
use Rattle.promise.specs.Prelude.{IsOut, decided-either, each-any, ends}
use Rattle.tree_model.proofs.Laws.{exactly, kind}
use Rattle.tree_model.specs.Prelude.{Outcome, called, held_count, outcome}
use Rattle.fair_model.specs.Calls.{blank_state, denied, Desk, desk, emptied, handed_out, Long, next_element, next_finish, passed_on, pops, pushes, push_table, Reply, reply, resets, state_table, state_words, strip_ok}
use Rattle.fair_model.specs.Ranks.{flows, Good, heaviest, latest, longest}
use Rattle.std.specs.Prelude.{Ok, None}
use Rattle.fair_model.specs.declared.FairRefusal.{FairRefusal}
use Rattle.fair_model.specs.declared.FairRefusal.TheVariants.{NotEmpty, Queue}

-- the test of a strip
pub strip-means : (f w n : ℕ) → Means (strip_ok f w n) (Good f w n)
unfolding strip_ok
strip-means f w n =
    means-by (means-and (means-ltb f flows) (means-and (means-leb 1 w) (means-and (means-leb w heaviest) (means-and (means-leb 1 n) (means-leb n longest)))))
    (λ h. record { known = h.0; some = h.1.0; light = h.1.1.0; long = h.1.1.1.0; short = h.1.1.1.1 })
    (λ g. (g.known, (g.some, (g.light, (g.long, g.short)))))

-- a push answers no element, a pop always one: whatever the words
pub push-gives-none : (m levels : ℕ) (ws : List ℕ) (x e : Element) → (called m levels (Push x) ws).answer ≡ Ok (Some e) → ⊥
push-gives-none m levels ws x e p =
    let q : (called m levels (Push x) ws).answer ≡ (Ok None) = kind m levels (Push x) ws (rw p) in
    let z : ◌≡◌ {A = ℕ} 0 1 = cc in
    omega arith

pub pop-not-done : (m levels : ℕ) (ws : List ℕ) → (called m levels Pop ws).answer ≡ Ok None → ⊥
pop-not-done m levels ws p = subst (λ (a : Answer). IsOut a) p (kind m levels Pop ws (rw p))

-- .. and refused, the queue's words stand
pub refused-stands : (m levels : ℕ) (r : Request) (ws : List ℕ) (y : Refusal) → (called m levels r ws).answer ≡ Err y → (called m levels r ws).words ≡ ws
refused-stands m levels r ws y e =
    ap (λ (o : Outcome). o.words)
    (left_behind (λ (o : Outcome). number_of o.answer) (λ (x : Refusal). outcome (Err x) ws) (exactly m levels ws r) y (ap number_of e))

module _ (m levels : ℕ) (d : Desk) where
  -- what is so of every refusal, and of a push that is passed on, is so of a push
  pub push-either : (f w n t : ℕ) (P : Reply → Type 0) → ((x : FairRefusal) → P (denied x d))
      → (Good f w n → Long d → next_finish d f w n ≤ latest
      → P (passed_on (called m levels (Push (next_element d f w n t)) d.store) f (next_finish d f w n) d.state)) → P (pushes m levels f w n t d)
  unfolding pushes
  push-either f w n t P refused done =
      decided-either (λ x. denied x d) P (push_table f w n d) _ (each-any (λ x. P (denied x d)) refused (push_table f w n d))
      (λ c. done ((strip-means f w n).says c.0) (leb-true state_words (length d.state) c.1.0) (leb-true (next_finish d f w n) latest c.1.1.0))

  pub pop-either : (P : Reply → Type 0) → ((x : FairRefusal) → P (denied x d)) → (Long d → P (handed_out (called m levels Pop d.store) d.state)) → P (pops m levels d)
  unfolding pops
  pop-either P refused done =
      decided-either (λ x. denied x d) P (state_table d ends) _ (each-any (λ x. P (denied x d)) refused (state_table d ends)) (λ c. done (leb-true state_words (length d.state) c.0))

  -- a reset that is accepted has found that nothing is held
  pub reset-either : (P : Reply → Type 0) → ((x : FairRefusal) → P (denied x d))
      → (Long d → held_count m levels d.store ≡ Ok 0 → P (reply (Ok None) (desk (blank_state d.state) d.store))) → P (resets m levels d)
  unfolding resets
  reset-either P refused done =
      decided-either (λ x. denied x d) P (state_table d ends) _ (each-any (λ x. P (denied x d)) refused (state_table d ends))
      (λ c. counted (leb-true state_words (length d.state) c.0) (held_count m levels d.store) refl)
    where
      none : Long d → (n : ℕ) → held_count m levels d.store ≡ Ok n → (b : Bool) → eqb n 0 ≡ b
          → P (cond b (reply (Ok None) (desk (blank_state d.state) d.store)) (denied NotEmpty d))
      none long n e true z = done long (e ∙ ap Ok (eqb-true n 0 z))
      none long n e false z = refused NotEmpty

      counted : Long d → (h : Result ℕ Refusal) → held_count m levels d.store ≡ h → P (emptied h d)
      counted long (Ok n) e = none long n e (eqb n 0) refl
      counted long (Err q) e = refused (Queue q)

-- the state that a reset leaves
pub blank-at : (st : List ℕ) (j : ℕ) → j < state_words → get_or (blank_state st) j 0 ≡ 0
blank-at st j h =
    get_or-append (replicate state_words 0) (drop state_words st) 0 j (subst (λ (v : ℕ). j < v) (sym (length-replicate {A = ℕ} state_words 0)) h) ∙ get_or-replicate state_words j 0 0 h

pub blank-length : (st : List ℕ) → state_words ≤ length (blank_state st)
blank-length st = simp (length-append, length-replicate) (omega arith)
