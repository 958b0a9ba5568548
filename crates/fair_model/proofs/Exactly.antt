-- EXACTLY: each refusal is given for its causes and no others, and leaves everything, whatever the words.
use Rattle.laws.specs.Prelude.{Answer, BadPort, BadRank, BadShape, Bool, Damaged, Empty, Exactly, First, Full, Ladder, NoHeap, NoTag, Pop, Push, Refusal, Request, TooSoon, ◌<◌, ◌∙◌, ◌≡◌, ◌≤◌, ap, arith, climb-by, climb-fine, climb-stop, cond, eqb, eqb-false, eqb-true, fails-leb, false, fine, inl, inr, length, means-leb, number_of, pred, refl, refusal_number, rung, stop, subst, sym, true, true≢false, ℕ, ⊎_elim, Ok, Err, None, Some}
use native.Mathlib.Nat.{pos_of_ne-zero}
use Rattle.promise.specs.Prelude.{Clear, IsOut, TableOf, Told, decided, decided-exactly, each-any, ends, ladder, refusal-told, zero-told}
use Rattle.tree_model.proofs.Exactly as tree
use Rattle.tree_model.specs.Prelude.{Outcome, called, held_count, held_refusals, outcome, refusals, room, root_of, root_ok, shape_ok, sum_counts}
use Rattle.fair_model.specs.Calls.{answer_number, blank_state, denied, Desk, desk, emptied, fair_number, handed_out, next_element, next_finish, passed_on, pops, pushes, push_table, Reply, reply, resets, state_table, state_words, told}
use Rattle.fair_model.specs.Promise.{Call, FairKind, fair_queue, fair_refusals, IsServed, pop, push, queued, reset}
use Rattle.fair_model.specs.Ranks.{latest}
use Rattle.std.specs.Prelude.{Ok, None}
use Rattle.fair_model.specs.declared.FairRefusal.{FairRefusal}
use Rattle.fair_model.specs.declared.FairRefusal.TheVariants.{BadStrip, ClockSpent, NotEmpty, Queue}
use Rattle.fair_model.proofs.Outcomes.{pop-either, push-either, reset-either, strip-means}

-- ---- the numbers tell the refusals apart: none of a queue is 9, 10 or 11
apart : (r : Refusal) (n : ℕ) → refusal_number r ≡ n → 9 ≤ n → n ≤ 11 → ⊥
apart BadShape n e low high = omega arith
apart Damaged n e low high = omega arith
apart TooSoon n e low high = omega arith
apart BadRank n e low high = omega arith
apart Full n e low high = omega arith
apart Empty n e low high = omega arith
apart NoTag n e low high = omega arith
apart BadPort n e low high = omega arith
apart NoHeap n e low high = omega arith

answer-apart : (a : Answer) (n : ℕ) → number_of a ≡ n → 9 ≤ n → n ≤ 11 → ⊥
answer-apart (Ok None) n e low high = omega arith
answer-apart (Ok (Some x)) n e low high = omega arith
answer-apart (Err r) n e low high = apart r n e low high

pub fair-told : (x y : FairRefusal) → fair_number x ≡ fair_number y → x ≡ y
fair-told BadStrip BadStrip e = refl
fair-told BadStrip ClockSpent e = absurd (omega arith)
fair-told BadStrip NotEmpty e = absurd (omega arith)
fair-told BadStrip (Queue y) e = absurd (apart y 9 (sym e) (omega arith) (omega arith))
fair-told ClockSpent BadStrip e = absurd (omega arith)
fair-told ClockSpent ClockSpent e = refl
fair-told ClockSpent NotEmpty e = absurd (omega arith)
fair-told ClockSpent (Queue y) e = absurd (apart y 10 (sym e) (omega arith) (omega arith))
fair-told NotEmpty BadStrip e = absurd (omega arith)
fair-told NotEmpty ClockSpent e = absurd (omega arith)
fair-told NotEmpty NotEmpty e = refl
fair-told NotEmpty (Queue y) e = absurd (apart y 11 (sym e) (omega arith) (omega arith))
fair-told (Queue x) BadStrip e = absurd (apart x 9 e (omega arith) (omega arith))
fair-told (Queue x) ClockSpent e = absurd (apart x 10 e (omega arith) (omega arith))
fair-told (Queue x) NotEmpty e = absurd (apart x 11 e (omega arith) (omega arith))
fair-told (Queue x) (Queue y) e = ap Queue (refusal-told x y e)

told-number : (a : Answer) → answer_number (told a) ≡ number_of a
told-number (Ok None) = refl
told-number (Ok (Some e)) = refl
told-number (Err r) = refl

-- ---- the queue's own table
first-queued : (l : Ladder Refusal) (k : Ladder FairRefusal) (q : Refusal) → First l q → First (queued l k) (Queue q)
first-queued fine k q h = absurd h
first-queued (rung x P l) k q h = ⊎_elim (λ u. inl (u.0, ap Queue u.1)) (λ u. inr (u.0, first-queued l k q u.1)) h
first-queued (stop x P l) k q h = ⊎_elim (λ u. inl (u.0, ap Queue u.1)) (λ u. inr (u.0, first-queued l k q u.1)) h

pub queued-first : (Q : FairRefusal → Type 0) (l : Ladder Refusal) (k : Ladder FairRefusal) → ((q : Refusal) → First l q → Q (Queue q)) → ((r : FairRefusal) → First k r → Q r)
    → (r : FairRefusal) → First (queued l k) r → Q r
queued-first Q fine k f g r h = g r h
queued-first Q (rung x P l) k f g r h = ⊎_elim (λ u. subst Q (sym u.1) (f x (inl (u.0, refl)))) (λ u. queued-first Q l k (λ q v. f q (inr (u.0, v))) g r u.1) h
queued-first Q (stop x P l) k f g r h = ⊎_elim (λ u. subst Q (sym u.1) (f x (inl (u.0, refl)))) (λ u. queued-first Q l k (λ q v. f q (inr (u.0, v))) g r u.1) h

module _ (m levels : ℕ) (d : Desk) where
  abbrev says : Reply → ℕ
  says o = answer_number o.said

  abbrev left : FairRefusal → Reply
  left r = denied r d

  -- what the queue answers is told on: g is what becomes of its outcome
  queue-exactly : (r : Request) (g : Outcome → Reply) → ((o : Outcome) → (g o).said ≡ told o.answer) → ((q : Refusal) → g (outcome (Err q) d.store) ≡ left (Queue q))
      → Exactly says left (g (called m levels r d.store)) (queued (refusals m levels r d.store) fine)
  queue-exactly r g same stood =
      record {
        only = λ x e. by x (sym (told-number (called m levels r d.store).answer) ∙ ap answer_number (sym (same (called m levels r d.store))) ∙ e);
        always = λ x h. queued-first (λ y. g (called m levels r d.store) ≡ left y) (refusals m levels r d.store) fine
            (λ q v. ap g ((tree.exactly m levels d.store r).always q v) ∙ stood q) (λ y v. absurd v) x h;
      }
    where
      by : (x : FairRefusal) → number_of (called m levels r d.store).answer ≡ fair_number x → First (queued (refusals m levels r d.store) fine) x
      by BadStrip e = absurd (answer-apart (called m levels r d.store).answer 9 e (omega arith) (omega arith))
      by ClockSpent e = absurd (answer-apart (called m levels r d.store).answer 10 e (omega arith) (omega arith))
      by NotEmpty e = absurd (answer-apart (called m levels r d.store).answer 11 e (omega arith) (omega arith))
      by (Queue q) e = first-queued (refusals m levels r d.store) fine q ((tree.exactly m levels d.store r).only q e)

  -- a table of fair ranks' own, before what comes then
  own-exactly : (a : TableOf FairRefusal) (o : Reply) (l : Ladder FairRefusal) → Told a → (Clear a → Exactly says left o l) → Exactly says left (decided left a o) (ladder a l)
  own-exactly a o l t = decided-exactly says left fair-told (λ (z : Reply). z) left a o l t (each-any (λ x. left x ≡ left x) (λ x. refl) a)

  exactly-push : (f w n t : ℕ) → Exactly says left (pushes m levels f w n t d) (fair_refusals m levels (push f w n t) d)
  unfolding pushes
  exactly-push f w n t =
      own-exactly (push_table f w n d) _ _ (strip-means f w n, λ good. (means-leb state_words (length d.state), λ long. (fails-leb (next_finish d f w n) latest, λ fits. tt)))
      (λ c. queue-exactly (Push (next_element d f w n t)) (λ o. passed_on o f (next_finish d f w n) d.state) (λ o. refl) (λ q. refl))

  exactly-pop : Exactly says left (pops m levels d) (fair_refusals m levels pop d)
  unfolding pops
  exactly-pop =
      own-exactly (state_table d ends) _ _ (means-leb state_words (length d.state), λ long. tt)
      (λ c. queue-exactly Pop (λ o. handed_out o d.state) (λ o. refl) (λ q. refl))

  granted : (r : FairRefusal) → 0 ≡ fair_number r → ⊥
  granted BadStrip e = omega arith
  granted ClockSpent e = omega arith
  granted NotEmpty e = omega arith
  granted (Queue q) e = zero-told q e

  -- what held is refused for is passed on; held is then the sum of the root's counts
  exactly-reset : Exactly says left (resets m levels d) (fair_refusals m levels reset d)
  unfolding resets held_count
  exactly-reset = own-exactly (state_table d ends) _ _ (means-leb state_words (length d.state), λ long. tt) (λ c. go (shape_ok m levels (length d.store)) refl (root_ok m levels d.store) refl)
    where
      n : ℕ
      n = sum_counts (root_of m d.store)

      empty : (b : Bool) → eqb n 0 ≡ b → Exactly says left (cond b (reply (Ok None) (desk (blank_state d.state) d.store)) (denied NotEmpty d)) (stop NotEmpty (0 < n) fine)
      empty true e = climb-stop says left fair-told NotEmpty (0 < n) _ fine (inl ((λ h. omega (arith, h, eqb-true n 0 e)), climb-fine says left _ granted))
      empty false e = climb-stop says left fair-told NotEmpty (0 < n) _ fine (inr (pos_of_ne-zero (eqb-false n 0 e), refl))

      go : (a : Bool) → shape_ok m levels (length d.store) ≡ a → (b : Bool) → root_ok m levels d.store ≡ b
          → Exactly says left (emptied (cond a (cond b (Ok n) (Err Damaged)) (Err BadShape)) d) (queued (held_refusals m levels d.store) (stop NotEmpty (0 < n) fine))
      go false s b o = climb-by says left fair-told (Queue BadShape) _ _ _ (inr ((λ h. true≢false (sym (tree.is-shape m levels (length d.store) h) ∙ s)), refl))
      go true s false o =
          climb-by says left fair-told (Queue BadShape) _ _ _ (inl (
            tree.shape_is m levels (length d.store) s,
            climb-stop says left fair-told (Queue Damaged) _ _ _ (inr ((tree.node-fails (room m (pred levels)) (root_of m d.store)).found o, refl)),
          ))
      go true s true o =
          climb-by says left fair-told (Queue BadShape) _ _ _ (inl (
            tree.shape_is m levels (length d.store) s,
            climb-stop says left fair-told (Queue Damaged) _ _ _ (inl ((λ h. true≢false (sym o ∙ (tree.node-fails (room m (pred levels)) (root_of m d.store)).shown h)), empty (eqb n 0) refl)),
          ))

  -- EXACTLY: the table, by the number that a call says, and with everything left behind
  pub exactly : (c : Call) → Exactly says left (fair_queue m levels c d) (fair_refusals m levels c d)
  unfolding fair_queue
  exactly (push f w n t) = exactly-push f w n t
  exactly pop = exactly-pop
  exactly reset = exactly-reset

-- ---- KIND: no call says that it is done and does nothing
push-kind : (b : Answer) → (number_of b ≡ 0 → b ≡ Ok None) → answer_number (told b) ≡ 0 → told b ≡ Ok None
push-kind b h e = ap told (h (sym (told-number b) ∙ e))

pop-kind : (b : Answer) → (number_of b ≡ 0 → IsOut b) → answer_number (told b) ≡ 0 → IsServed (told b)
pop-kind (Ok None) h e = h refl
pop-kind (Ok (Some y)) h e = tt
pop-kind (Err r) h e = absurd (zero-told r (sym e))

pub fair-kind : (m levels : ℕ) (c : Call) (d : Desk) → answer_number (fair_queue m levels c d).said ≡ 0 → FairKind c (fair_queue m levels c d).said
unfolding fair_queue
fair-kind m levels (push f w n t) d =
    push-either m levels d f w n t (λ (z : Reply). answer_number z.said ≡ 0 → z.said ≡ Ok None) (λ x e. absurd (granted m levels d x (sym e)))
    (λ good long fits. push-kind (called m levels (Push (next_element d f w n t)) d.store).answer (tree.kind m levels (Push (next_element d f w n t)) d.store))
fair-kind m levels pop d =
    pop-either m levels d (λ (z : Reply). answer_number z.said ≡ 0 → IsServed z.said) (λ x e. absurd (granted m levels d x (sym e)))
    (λ long. pop-kind (called m levels Pop d.store).answer (tree.kind m levels Pop d.store))
fair-kind m levels reset d =
    reset-either m levels d (λ (z : Reply). answer_number z.said ≡ 0 → z.said ≡ Ok None) (λ x e. absurd (granted m levels d x (sym e))) (λ long e z. refl)
