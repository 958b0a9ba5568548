-- REPLACE: "the pop and then the push". Where it is not refused 5 it is answered as a pop is, the push on what the pop leaves is taken, and of every kind of
-- element as many are stored. In kind 2 it is never 5.
use Rattle.laws.specs.Prelude.{Bool, Element, Empty, Full, List, Pop, Push, Replace, Request, ◌∙◌, ◌≡◌, ap, arith, cond, eq-eqb, eqb, false, is-upd, length, ne_eqb, number_of, refl, sym, true, untagged, ℕ, ℕ_discrete, Ok, None, Some}
use Rattle.lines_model.proofs.Acts.{after, behind-length, called_is, Granted, keeps, lets, taken}
use Rattle.lines_model.proofs.Promises.{is-queue, tested}
use Rattle.lines_model.proofs.Tests.{room-fails}
use Rattle.lines_model.specs.Calls.{acted, called, done, heads, Outcome}
use Rattle.lines_model.specs.Causes.{NoRoom}
use Rattle.lines_model.specs.Layout.{behind, line_of, Rows, word}
use Rattle.lines_model.specs.Promise.{Sound, stored_by}
use Rattle.lines_model.specs.Rules.{ask_table, Choice, choice, choose, denied, due_of, giver, goal, has_room, in_range, late_table, room_after, Swap, Take, taker, total}
use Rattle.promise.proofs.Calls.{stands}
use Rattle.promise.proofs.Kept.{call-sum, called-kept, replaces_by}
use Rattle.promise.specs.Prelude.{Clear, PopThenPush, decided-clear, decided-either, each-any, grants, left, zero-told}

module _ (k : Rows) (c : ℕ → ℕ) (h : ℕ → Element) where
  -- what is not refused has passed every test, and is let in
  pub choose-clear : (q : Request) → number_of (choose k c h q).answer ≡ 0 → Clear (ask_table k q (late_table k c h q))
  unfolding choose
  choose-clear q =
      let a = ask_table k q (late_table k c h q) in
      decided-either denied (λ (z : Choice). number_of z.answer ≡ 0 → Clear a) a (choice (grants q (h (giver k c h))) (due_of k c h q)) (each-any _ (λ n z. absurd (zero-told n (sym z))) a) (λ p z. p)

  pub choose-let : (q : Request) → Clear (ask_table k q (late_table k c h q)) → choose k c h q ≡ choice (grants q (h (giver k c h))) (due_of k c h q)
  unfolding choose
  choose-let q p = decided-clear denied (ask_table k q (late_table k c h q)) (choice (grants q (h (giver k c h))) (due_of k c h q)) p

module _ (k : Rows) (w : List ℕ) (m : ℕ → List Element) (s : Sound k w m) (x : Element) where
  abbrev g : ℕ
  g = giver k (word w) (heads k w)

  abbrev swapped : Outcome
  swapped = called k (Replace x) w

  come-to : (q : Request) → number_of (called k q w).answer ≡ 0 → Clear (ask_table k q (late_table k (word w) (heads k w) q))
  come-to q e = choose-clear k (word w) (heads k w) q (ap (λ (o : Outcome). number_of o.answer) (sym (called_is k w m s q)) ∙ e)

  let-in : (q : Request) → Clear (ask_table k q (late_table k (word w) (heads k w) q)) → called k q w ≡ acted k w (choice (grants q (heads k w g)) (due_of k (word w) (heads k w) q))
  let-in q p = called_is k w m s q ∙ ap (acted k w) (choose-let k (word w) (heads k w) q p)

  pop-clear : Clear (ask_table k (Replace x) (late_table k (word w) (heads k w) (Replace x))) → Clear (ask_table k Pop (late_table k (word w) (heads k w) Pop))
  pop-clear p = (refl, (refl, (p.1.1.0, tt)))

  -- a replace that is taken is answered as a pop is
  pub replace-pop : number_of swapped.answer ≡ 0 → swapped.answer ≡ (called k Pop w).answer
  replace-pop e =
      let p = come-to (Replace x) e in
      ap (λ (o : Outcome). o.answer) (let-in (Replace x) p) ∙ sym (ap (λ (o : Outcome). o.answer) (let-in Pop (pop-clear p)))

  -- the push on what the pop leaves is taken
  room-left : Clear (ask_table k (Replace x) (late_table k (word w) (heads k w) (Replace x))) → NoRoom k (word (done k (Take g) w)) x → ⊥
  room-left p n =
      let y = lets k w m s (heads k w) (Replace x) p.0 p.1.1 in
      full-again (unfold due_of in y)
    where
      full-again : Granted k m (Swap (giver k (word w) (heads k w)) x) → ⊥
      full-again y =
          let v = keeps k w m s (Take g) (y.0, y.1) in
          let left = behind-length (m g) y.1 in
          let fit = s.fit g y.0 in
          elim (ℕ_discrete k.kind 1) [
            | yes e ↦ (let at : goal k g x ≡ line_of k x.rank.0 = unfold goal in rw (eq-eqb k.kind 1 e) refl in
                let r = n.one e (y.3 e).0 in
                let c : word (done k (Take g) w) (line_of k x.rank.0) ≡ length (taken m g (line_of k x.rank.0)) = v.count (line_of k x.rank.0) (rw (← at) y.2) in
                elim (ℕ_discrete (line_of k x.rank.0) g) [
                  | yes q ↦ (let z : length (taken m g (line_of k x.rank.0)) ≡ length (behind (m g)) = ap (λ (i : ℕ). length (taken m g i)) q ∙ ap length (is-upd m g (behind (m g))).here in omega arith)
                  | no q ↦ (let z : length (taken m g (line_of k x.rank.0)) ≡ length (m (line_of k x.rank.0)) = ap length ((is-upd m g (behind (m g))).else (line_of k x.rank.0) q) in
                      let u : length (m (goal k g x)) ≡ length (m (line_of k x.rank.0)) = ap (λ (i : ℕ). length (m i)) at in
                      omega (arith, y.4 (λ f. q (sym at ∙ sym f))))
                ])
            | no e ↦ (let r = n.two e g y.0 in
                let c : word (done k (Take g) w) g ≡ length (taken m g g) = v.count g y.0 in
                let z : length (taken m g g) ≡ length (behind (m g)) = ap length (is-upd m g (behind (m g))).here in
                omega arith)
          ]

  push-taken : number_of swapped.answer ≡ 0 → (called k (Push x) (called k Pop w).words).answer ≡ Ok None
  unfolding due_of
  push-taken e =
      let p = come-to (Replace x) e in
      let pc = pop-clear p in
      let y = lets k w m s (heads k w) Pop refl (p.1.1.0, tt) in
      let v = done k (due_of k (word w) (heads k w) Pop) w in
      let n = after k (due_of k (word w) (heads k w) Pop) m in
      let so = keeps k w m s (due_of k (word w) (heads k w) Pop) y in
      let f = room-fails k (length v) so.shaped (word v) x in
      let room : has_room k (word v) (taker k (word v) x) ≡ true = not-refused (has_room k (word v) (taker k (word v) x)) (λ z. room-left p (f.found z)) in
      ap (λ (o : Outcome). (called k (Push x) o.words).answer) (let-in Pop pc)
      ∙ ap (λ (o : Outcome). o.answer) (called_is k v n so (Push x)) ∙ ap (λ (z : Choice). z.answer) (choose-let k (word v) (heads k v) (Push x) (p.0, (p.1.0, (room, tt))))
    where
      not-refused : (b : Bool) → (b ≡ false → ⊥) → b ≡ true
      not-refused true h = refl
      not-refused false h = absurd (h refl)

  module _ (fit : in_range k x ≡ true) (tag : untagged x ≡ false) (room : number_of swapped.answer ≡ 5 → ⊥) where
    same-choice : (number_of (choose k (word w) (heads k w) (Replace x)).answer ≡ 5 → ⊥) → (choose k (word w) (heads k w) (Replace x)).answer ≡ (choose k (word w) (heads k w) Pop).answer
    unfolding choose
    same-choice = rw (fit, tag) (go (eqb (total (word w) k.lines) 0) (room_after k (word w) g (goal k g x)))
      where
        go : (a b : Bool) → (number_of (cond {A = Choice} a (denied Empty) (cond b (choice (Ok (Some (heads k w g))) (due_of k (word w) (heads k w) (Replace x))) (denied Full))).answer ≡ 5 → ⊥)
            → (cond {A = Choice} a (denied Empty) (cond b (choice (Ok (Some (heads k w g))) (due_of k (word w) (heads k w) (Replace x))) (denied Full))).answer
            ≡ (cond {A = Choice} a (denied Empty) (choice (Ok (Some (heads k w g))) (due_of k (word w) (heads k w) Pop))).answer
        go true b n = refl
        go false true n = refl
        go false false n = absurd (n refl)

    same_answer : swapped.answer ≡ (called k Pop w).answer
    same_answer =
        let e = called_is k w m s (Replace x) in
        ap (λ (o : Outcome). o.answer) e ∙ same-choice (λ z. room (ap (λ (o : Outcome). number_of o.answer) e ∙ z)) ∙ sym (ap (λ (o : Outcome). o.answer) (called_is k w m s Pop))

    -- POP-THEN-PUSH
    pub pop-then-push : PopThenPush (called k) (stored_by k) x w
    unfolding called
    pop-then-push =
        replaces_by (called k) (stored_by k) x w (left w) (λ q. stands (tested k) q w) same_answer push-taken (call-sum (is-queue k) (Replace x) w (m, s)) (call-sum (is-queue k) Pop w (m, s))
        (call-sum (is-queue k) (Push x) (called k Pop w).words (called-kept (is-queue k) Pop w (m, s)))

-- kind 2 never refuses a replace for room
pub never-full : (k : Rows) (c : ℕ → ℕ) (h : ℕ → Element) (x : Element) → (k.kind ≡ 1 → ⊥) → room_after k c (giver k c h) (goal k (giver k c h) x) ≡ true
unfolding goal
never-full k c h x e = rw (ne_eqb k.kind 1 e, eq-eqb (giver k c h) (giver k c h) refl) refl
