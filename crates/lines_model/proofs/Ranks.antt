-- Kind 2: numbers and ranks are those of the plain list with room for QW, call by call. Tags among equal ranks may differ.
use Rattle.laws.specs.Prelude.{All, Answer, Bool, Element, Empty, Full, Idle, Iff, List, NoTag, Pop, Push, Refusal, Replace, Request, [], ◌*◌, ◌+◌, ◌<◌, ◌∙◌, ◌∷◌, ◌≡◌, ◌≤◌, and_left, ap, ap₂, arith, cond, dec_lt, eq-eqb, eqb, false, le-ltb, length, lt-ltb, ltb, ltb-true, map, ne_eqb, refl, subst, sym, true, true≢false, untagged, ℕ, ℕ_discrete, Ok, None, Some, Err}
use Rattle.lines_model.proofs.Acts.{after, called_is, called-keeps, giver-fits, goal-lt, put, taken}
use Rattle.lines_model.proofs.Full.{full-two, total-most}
use Rattle.lines_model.proofs.Order.{order-none}
use Rattle.lines_model.proofs.Serve.{giver-least, held-length, none-lower, put-sum, stored_is, take-sum}
use Rattle.lines_model.proofs.Start.{start-sound}
use Rattle.lines_model.proofs.Swaps.{never-full}
use Rattle.lines_model.specs.Calls.{cleared, heads, lines, Outcome}
use Rattle.lines_model.specs.Causes.{Shaped}
use Rattle.lines_model.specs.Layout.{Rows, word}
use Rattle.lines_model.specs.Plain.{bounded, is_none, number_rank}
use Rattle.lines_model.specs.Promise.{in_order, Sound}
use Rattle.lines_model.specs.Rules.{Choice, choice, choose, denied, due_of, giver, goal, has_room, in_range, Put, room_after, Swap, Take, taker, total}
use Rattle.promise.proofs.FirstIn.{insert-sorted, times-all, times-insert}
use Rattle.promise.specs.FirstIn.{insert, plain_by, served, Sorted, times}
use Rattle.promise.specs.Prelude.{Step, answers, hit, lower, step}

module _ (k : Rows) (two : k.kind ≡ 1 → ⊥) where
  abbrev size : ℕ
  size = k.lines * k.places

  -- as many of every rank
  abbrev OfRanks : List Element → List Element → Type 0
  OfRanks a b = (g : ℕ → Bool) → times (λ x. g x.rank.0) a ≡ times (λ x. g x.rank.0) b

  pub record Alike (w : List ℕ) (l : List Element) : Type 0 where
    pub rows : ℕ → List Element
    pub sound : Sound k w rows
    pub sorted : Sorted l
    pub ranks : OfRanks (in_order rows 0 k.lines) l

  fits-any : (x : Element) → in_range k x ≡ true
  fits-any x = rw (ne_eqb k.kind 1 two) refl

  module _ (w : List ℕ) (l : List Element) (a : Alike w l) where
    abbrev m : ℕ → List Element
    m = a.rows

    abbrev L : List Element
    L = in_order a.rows 0 k.lines

    abbrev g : ℕ
    g = giver k (word w) (heads k w)

    abbrev y : Element
    y = heads k w (giver k (word w) (heads k w))

    long-is : total (word w) k.lines ≡ length l
    long-is = held-length k w a.rows a.sound ∙ sym (times-all (in_order a.rows 0 k.lines)) ∙ a.ranks (λ r. true) ∙ times-all l

    -- ---- push
    room-is : (x : Element) → has_room k (word w) (taker k (word w) x) ≡ ltb (length l) (k.lines * k.places)
    room-is x = go (has_room k (word w) (taker k (word w) x)) refl
      where
        f : Iff (has_room k (word w) (taker k (word w) x) ≡ false) (total (word w) k.lines ≡ k.lines * k.places)
        f = full-two k w a.rows a.sound two x

        most : total (word w) k.lines ≤ k.lines * k.places
        most = total-most (word w) k.lines k.places (λ i h. omega (arith, a.sound.count i h, a.sound.fit i h))

        go : (b : Bool) → has_room k (word w) (taker k (word w) x) ≡ b → b ≡ ltb (length l) (k.lines * k.places)
        go true e = sym (lt-ltb (length l) (k.lines * k.places) (elim (ℕ_discrete (total (word w) k.lines) (k.lines * k.places)) [
          | yes z ↦ absurd (true≢false (sym e ∙ f.from z))
          | no z ↦ omega (arith, long-is, most)
        ]))
        go false e = sym (le-ltb (length l) (k.lines * k.places) (omega (arith, long-is, f.to e)))

    put-ranks : (x : Element) (n : ℕ → List Element) (h : List Element) (j : ℕ) → j < k.lines → OfRanks (in_order n 0 k.lines) h → OfRanks (in_order (put n j x) 0 k.lines) (insert x h)
    put-ranks x n h j b o t = omega (arith, put-sum k w a.rows a.sound (λ x. t x.rank.0) n j x b, times-insert (λ x. t x.rank.0) x h, o t)

    -- ---- pop
    module _ (z : Element) (h : List Element) (e : l ≡ z ∷ h) where
      some : total (word w) k.lines ≡ 0 → ⊥
      some n = omega (arith, long-is, ap length e)

      fits : (giver k (word w) (heads k w) < k.lines) × (0 < word w (giver k (word w) (heads k w)))
      fits = giver-fits k (length w) a.sound.shaped (word w) (heads k w) some

      gone : (t : Element → Bool) → times t (in_order (taken a.rows (giver k (word w) (heads k w))) 0 k.lines) + hit (t (heads k w (giver k (word w) (heads k w)))) ≡ times t (in_order a.rows 0 k.lines)
      gone t = take-sum k w a.rows a.sound t g fits.0 (omega (arith, fits.1, a.sound.count g fits.0))

      front_of : (t : Element → Bool) → times t l ≡ hit (t z) + times t h
      front_of t = ap (times t) e ∙ (unfold times in refl)

      hit-low : (n r : ℕ) → hit (ltb n r) ≡ 0 → r ≤ n
      hit-low n r i = elim (dec_lt n r) [ yes d ↦ absurd (omega (arith, ap hit (lt-ltb n r d))) | no d ↦ omega arith ]

      same_rank : (heads k w (giver k (word w) (heads k w))).rank.0 ≡ z.rank.0
      same_rank =
          let low : times (lower y.rank.0) l ≡ 0 =
          sym (a.ranks (λ r. ltb r y.rank.0)) ∙ ap (times (lower y.rank.0)) (sym (stored_is k w a.rows a.sound)) ∙ giver-least k w a.rows a.sound some in
          let high : times (lower z.rank.0) (in_order a.rows 0 k.lines) ≡ 0 =
          a.ranks (λ r. ltb r z.rank.0) ∙ none-lower z.rank.0 l (subst (All (λ x. z.rank.0 ≤ x.rank.0)) (sym e) (omega arith, (subst Sorted e a.sorted).0)) in
          omega (arith, hit-low z.rank.0 y.rank.0 (omega (arith, low, front_of (lower y.rank.0))), hit-low y.rank.0 z.rank.0 (omega (arith, high, gone (lower z.rank.0))))

      pop-ranks : OfRanks (in_order (taken a.rows (giver k (word w) (heads k w))) 0 k.lines) h
      pop-ranks t = omega (arith, gone (λ x. t x.rank.0), front_of (λ x. t x.rank.0), a.ranks t, ap (λ (r : ℕ). hit (t r)) same_rank)

    -- ---- one call
    pub record Agree (c : Choice) (s : Step Answer (List Element)) : Type 0 where
      pub said : number_rank c.answer ≡ number_rank s.said
      pub sorted : Sorted s.next
      pub ranks : OfRanks (in_order (after k c.due a.rows) 0 k.lines) s.next

    same : (r : Refusal) → Agree (denied r) (step (Err r) l)
    same r = record { said = refl; sorted = a.sorted; ranks = a.ranks }

    agree-if : (t : Bool) (c d : Choice) (s u : Step Answer (List Element)) → (t ≡ true → Agree c s) → (t ≡ false → Agree d u) → Agree (cond t c d) (cond t s u)
    agree-if true c d s u p q = p refl
    agree-if false c d s u p q = q refl

    push-agrees : (x : Element) → Agree (cond (has_room k (word w) (taker k (word w) x)) (choice (Ok None) (Put (taker k (word w) x) x)) (denied Full)) (cond (ltb (length l) (k.lines * k.places)) (step (Ok None) (insert x l)) (step (Err Full) l))
    push-agrees x =
        subst (λ (b : Bool). Agree (cond (has_room k (word w) (taker k (word w) x)) (choice (Ok None) (Put (taker k (word w) x) x)) (denied Full)) (cond b (step (Ok None) (insert x l)) (step (Err Full) l))) (room-is x)
        (agree-if (has_room k (word w) (taker k (word w) x)) _ _ _ _
        (λ e. record { said = refl; sorted = insert-sorted x l a.sorted; ranks = put-ranks x a.rows l (taker k (word w) x) (ltb-true (taker k (word w) x) k.lines (and_left (ltb (taker k (word w) x) k.lines) _ e)) a.ranks })
        (λ e. same Full))

    pop-agrees : (h : List Element) → l ≡ h → Agree (cond (eqb (total (word w) k.lines) 0) (denied Empty) (choice (Ok (Some y)) (Take g))) (cond (is_none l) (step (Err Empty) l) (served Pop l))
    pop-agrees [] e =
        rw (eq-eqb (total (word w) k.lines) 0 (long-is ∙ ap length e))
        (subst (λ (v : List Element). Agree (denied Empty) (cond (is_none v) (step (Err Empty) v) (served Pop v))) (sym e) (record { said = refl; sorted = tt; ranks = subst (OfRanks (in_order a.rows 0 k.lines)) e a.ranks }))
    pop-agrees (z ∷ h) e =
        rw (ne_eqb (total (word w) k.lines) 0 (some z h e))
        (subst (λ (v : List Element). Agree (choice (Ok (Some y)) (Take g)) (cond (is_none v) (step (Err Empty) v) (served Pop v))) (sym e)
        (record { said = ap (λ (r : ℕ). (0, r)) (same_rank z h e); sorted = (subst Sorted e a.sorted).1; ranks = pop-ranks z h e }))

    replace-agrees : (x : Element) (h : List Element) → l ≡ h
        → Agree (cond (eqb (total (word w) k.lines) 0) (denied Empty) (cond (room_after k (word w) g (goal k g x)) (choice (Ok (Some y)) (Swap g x)) (denied Full))) (cond (is_none l) (step (Err Empty) l) (served (Replace x) l))
    replace-agrees x [] e =
        rw (eq-eqb (total (word w) k.lines) 0 (long-is ∙ ap length e))
        (subst (λ (v : List Element). Agree (denied Empty) (cond (is_none v) (step (Err Empty) v) (served (Replace x) v))) (sym e) (record { said = refl; sorted = tt; ranks = subst (OfRanks (in_order a.rows 0 k.lines)) e a.ranks }))
    replace-agrees x (z ∷ h) e =
        rw (ne_eqb (total (word w) k.lines) 0 (some z h e), never-full k (word w) (heads k w) x two)
        (subst (λ (v : List Element). Agree (choice (Ok (Some y)) (Swap g x)) (cond (is_none v) (step (Err Empty) v) (served (Replace x) v))) (sym e)
        (record {
          said = ap (λ (r : ℕ). (0, r)) (same_rank z h e);
          sorted = insert-sorted x h (subst Sorted e a.sorted).1;
          ranks = put-ranks x (taken a.rows g) h (goal k g x) (goal-lt k x (fits-any x) (length w) a.sound.shaped g (fits z h e).0) (pop-ranks z h e);
        }))

    agrees : (q : Request) → Agree (choose k (word w) (heads k w) q) (bounded (k.lines * k.places) q l)
    unfolding choose plain_by due_of
    agrees Idle = record { said = refl; sorted = a.sorted; ranks = a.ranks }
    agrees (Push x) = rw (fits-any x) (agree-if (untagged x) _ _ _ _ (λ t. same NoTag) (λ t. push-agrees x))
    agrees Pop = pop-agrees l refl
    agrees (Replace x) = rw (fits-any x) (agree-if (untagged x) _ _ _ _ (λ t. same NoTag) (λ t. replace-agrees x l refl))

    pub alike-said : (q : Request) → number_rank (lines k q w).said ≡ number_rank (bounded (k.lines * k.places) q l).said
    alike-said q = ap (λ (o : Outcome). number_rank o.answer) (called_is k w a.rows a.sound q) ∙ (agrees q).said

    pub alike_next : (q : Request) → Alike (lines k q w).next (bounded (k.lines * k.places) q l).next
    alike_next q =
        record {
          rows = after k (choose k (word w) (heads k w) q).due a.rows;
          sound = called-keeps k w a.rows a.sound q;
          sorted = (agrees q).sorted;
          ranks = (agrees q).ranks;
        }

  ranks-from : (qs : List Request) (w : List ℕ) (l : List Element) → Alike w l → map number_rank (answers (lines k) qs w) ≡ map number_rank (answers (bounded (k.lines * k.places)) qs l)
  unfolding answers
  ranks-from [] w l a = refl
  ranks-from (q ∷ qs) w l a = ap₂ (λ (p : ℕ × ℕ) (ps : List (ℕ × ℕ)). p ∷ ps) (alike-said w l a q) (ranks-from qs _ _ (alike_next w l a q))

  -- RANKS: from clear, any list of requests: number and rank are the plain list's
  pub plain-ranks : (w : List ℕ) → Shaped k (length w) → (qs : List Request) → map number_rank (answers (lines k) qs (cleared k w).words) ≡ map number_rank (answers (bounded (k.lines * k.places)) qs [])
  plain-ranks w s qs =
      ranks-from qs (cleared k w).words []
      (record { rows = λ l. []; sound = start-sound k w s; sorted = tt; ranks = λ t. ap (times (λ x. t x.rank.0)) (order-none (λ l. []) 0 k.lines (λ j a b. refl)) })
