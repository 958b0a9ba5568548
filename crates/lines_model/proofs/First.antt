-- Kind 1, and one line in either kind: the lines one behind the other are the plain first-in list, call by call, with "full" where as many as W of that line's
-- ranks are held. So equal ranks leave first in, first out.
use Rattle.laws.specs.Prelude.{All, Answer, BadRank, Bool, Element, Empty, Full, Idle, List, NoTag, Pop, Push, Refusal, Replace, Request, [], ◌++◌, ◌+◌, ◌<◌, ◌∙◌, ◌∷◌, ◌≡◌, ◌≤◌, all_any, all_map, ap, ap₂, arith, cond, eq-eqb, eqb, false, is-upd, le-ltb, length, lt-ltb, ltb, ne_eqb, refl, subst, suc, sym, true, true≢false, untagged, zero, ℕ, ℕ_discrete, ⊎_elim, Ok, None, Some, Err}
use mathlib.Core.List.{append-nil}
use Rattle.lines_model.proofs.Acts.{after, behind-length, called_is, called-keeps, giver-fits, goal-own, in-range, keeps, put, taken, uncons}
use Rattle.lines_model.proofs.Order.{order-none, order-pop, order-push}
use Rattle.lines_model.proofs.Serve.{before-empty, behind-higher, empty-line, head-is, stored_is}
use Rattle.lines_model.proofs.Start.{start-sound}
use Rattle.lines_model.proofs.Which.{line-lt, spans, total-le}
use Rattle.lines_model.specs.Calls.{cleared, done, heads, lines, Outcome}
use Rattle.lines_model.specs.Causes.{Own, Shaped}
use Rattle.lines_model.specs.Layout.{behind, line_of, Rows, word}
use Rattle.lines_model.specs.Plain.{home, is_none, mates, of_line, plain, plain_table, Single}
use Rattle.lines_model.specs.Promise.{in_order, Sound, stored}
use Rattle.lines_model.specs.Rules.{Choice, choice, choose, denied, due_of, giver, goal, has_room, in_range, Put, room_after, seek, Swap, Take, taker, total}
use Rattle.promise.proofs.FirstIn.{first_out}
use Rattle.promise.specs.FirstIn.{FirstOut, insert, plain_by, served}
use Rattle.promise.specs.Prelude.{Step, answers, answers-same, leaves, leaves-in-step, step}

-- ---- the elements of a line

module _ (k : Rows) (r : ℕ) where
  of-append : (xs ys : List Element) → of_line k r (xs ++ ys) ≡ of_line k r xs ++ of_line k r ys
  unfolding of_line
  of-append [] ys = refl
  of-append (x ∷ xs) ys = go (eqb (home k x) r) (of-append xs ys)
    where
      go : (t : Bool) → of_line k r (xs ++ ys) ≡ of_line k r xs ++ of_line k r ys → cond t (x ∷ of_line k r (xs ++ ys)) (of_line k r (xs ++ ys)) ≡ cond t (x ∷ of_line k r xs) (of_line k r xs) ++ of_line k r ys
      go true ih = ap (λ (l : List Element). x ∷ l) ih
      go false ih = ih

  of-all : (xs : List Element) → All (λ y. home k y ≡ r) xs → of_line k r xs ≡ xs
  unfolding of_line
  of-all [] h = refl
  of-all (x ∷ xs) h = rw (eq-eqb (home k x) r h.0) (ap (λ (l : List Element). x ∷ l) (of-all xs h.1))

  of_none : (j : ℕ) → (j ≡ r → ⊥) → (xs : List Element) → All (λ y. home k y ≡ j) xs → of_line k r xs ≡ []
  unfolding of_line
  of_none j n [] h = refl
  of_none j n (x ∷ xs) h = rw (ne_eqb (home k x) r (λ e. n (sym h.0 ∙ e))) (of_none j n xs h.1)

  module _ (m : ℕ → List Element) (q : ℕ) (own : (j : ℕ) → j < q → All (λ y. home k y ≡ j) (m j)) where
    order-past : (i n : ℕ) → r < i → i + n ≤ q → of_line k r (in_order m i n) ≡ []
    unfolding in_order of_line
    order-past i zero a b = refl
    order-past i (suc n) a b = of-append (m i) (in_order m (suc i) n) ∙ ap₂ (λ (x y : List Element). x ++ y) (of_none i (λ e. omega arith) (m i) (own i (omega arith))) (order-past (suc i) n (omega arith) (omega arith))

    pub order-of : (i n : ℕ) → i ≤ r → r < i + n → i + n ≤ q → of_line k r (in_order m i n) ≡ m r
    unfolding in_order
    order-of i zero a b c = absurd (omega arith)
    order-of i (suc n) a b c = of-append (m i) (in_order m (suc i) n) ∙ elim (ℕ_discrete i r) [
      | yes p ↦ ap₂ (λ (x y : List Element). x ++ y) (ap (λ (j : ℕ). of_line k r (m j)) p ∙ of-all (m r) (own r (omega arith))) (order-past (suc i) n (omega arith) (omega arith)) ∙ append-nil (m r)
      | no p ↦ ap₂ (λ (x y : List Element). x ++ y) (of_none i p (m i) (own i (omega arith))) (order-of (suc i) n (omega arith) (omega arith) (omega arith))
    ]

-- ---- where x belongs

home-one : (k : Rows) → k.kind ≡ 1 → (x : Element) → home k x ≡ line_of k x.rank.0
unfolding goal
home-one k e x = rw (eq-eqb k.kind 1 e) refl

home-two : (k : Rows) → (k.kind ≡ 1 → ⊥) → (x : Element) → home k x ≡ 0
unfolding goal
home-two k e x = rw (ne_eqb k.kind 1 e) refl

module _ (k : Rows) (alone : Single k) where
  one_line : (k.kind ≡ 1 → ⊥) → k.lines ≡ 1
  one_line e = ⊎_elim (λ z. absurd (e z)) (λ z. z) alone

  home-own : (w : List ℕ) (m : ℕ → List Element) → Sound k w m → (j : ℕ) → j < k.lines → All (λ y. home k y ≡ j) (m j)
  home-own w m s j h = elim (ℕ_discrete k.kind 1) [
    | yes e ↦ all_map _ _ (λ y o. home-one k e y ∙ (o e).1) (m j) (s.own j h)
    | no e ↦ all_any _ (λ y. omega (arith, home-two k e y, one_line e)) (m j)
  ]

  higher : (w : List ℕ) (m : ℕ → List Element) → Sound k w m → (i j : ℕ) → i < j → j < k.lines → (x : Element) → Own k i x → (y : Element) → Own k j y → x.rank.0 < y.rank.0
  higher w m s i j l b x p y q = elim (ℕ_discrete k.kind 1) [
    | yes e ↦ behind-higher k w m s e i j l x p y q
    | no e ↦ absurd (omega (arith, one_line e))
  ]

  -- the line that x goes to after a take
  goal-home : (l : ℕ) (x : Element) → l < k.lines → goal k l x ≡ home k x
  goal-home l x h = elim (ℕ_discrete k.kind 1) [
    | yes e ↦ (unfold goal in rw (eq-eqb k.kind 1 e) refl)
    | no e ↦ (unfold goal in rw (ne_eqb k.kind 1 e) (nought e))
  ]
    where
      nought : (k.kind ≡ 1 → ⊥) → l ≡ 0
      nought e = omega (arith, one_line e)

  -- .. and of a push: where there is room it is x's own
  pub record Takes (c : ℕ → ℕ) (x : Element) : Type 0 where
    pub room : has_room k c (taker k c x) ≡ ltb (c (home k x)) k.places
    pub where_to : has_room k c (taker k c x) ≡ true → taker k c x ≡ home k x
    pub within : home k x < k.lines

  takes : (long : ℕ) → Shaped k long → (c : ℕ → ℕ) (x : Element) → in_range k x ≡ true → Takes c x
  takes long s c x f = elim (ℕ_discrete k.kind 1) [ yes e ↦ one e | no e ↦ two e ]
    where
      one : k.kind ≡ 1 → Takes c x
      one e =
          let at : taker k c x ≡ line_of k x.rank.0 = unfold taker in rw (eq-eqb k.kind 1 e) refl in
          let ht : home k x ≡ line_of k x.rank.0 = home-one k e x in
          let b : line_of k x.rank.0 < k.lines = line-lt k (spans k.lines s.lines) x.rank.0 (in-range k x f e) in
          record { room = rw (at, ht, lt-ltb (line_of k x.rank.0) k.lines b) refl; where_to = λ r. at ∙ sym ht; within = omega arith }

      two : (k.kind ≡ 1 → ⊥) → Takes c x
      two e = go (ltb (c 0) k.places) refl
        where
          at : taker k c x ≡ cond (ltb (c 0) k.places) 0 1
          at = unfold taker seek in rw (ne_eqb k.kind 1 e, one_line e) refl

          go : (b : Bool) → ltb (c 0) k.places ≡ b → Takes c x
          go true p =
              let z : taker k c x ≡ 0 = at ∙ ap (λ (b : Bool). cond b 0 1) p in
              let y : home k x ≡ 0 = home-two k e x in
              record { room = rw (z, y, lt-ltb 0 k.lines (omega (arith, one_line e))) refl; where_to = λ r. z ∙ sym y; within = omega (arith, one_line e) }
          go false p =
              let z : taker k c x ≡ 1 = at ∙ ap (λ (b : Bool). cond b 0 1) p in
              let y : home k x ≡ 0 = home-two k e x in
              let n : has_room k c (taker k c x) ≡ false = rw (z, le-ltb 1 k.lines (omega (arith, one_line e))) refl in
              record { room = n ∙ sym (ap (λ (i : ℕ). ltb (c i) k.places) y ∙ p); where_to = λ r. absurd (true≢false (sym r ∙ n)); within = omega (arith, one_line e) }

  -- a newcomer of line r
  insert-line : (w : List ℕ) (m : ℕ → List Element) (s : Sound k w m) (x : Element) (r : ℕ) → r < k.lines → Own k r x → insert x (in_order m 0 k.lines) ≡ in_order (put m r x) 0 k.lines
  insert-line w m s x r h o =
      order-push m x r k.lines
      (λ j l. all_map _ _ (λ y p. let z = higher w m s j r l h y p x o in omega arith) (m j) (s.own j (omega arith)))
      (λ j l b. all_map _ _ (λ y p. higher w m s r j l b x o y p) (m j) (s.own j b))
      0 k.lines (omega arith) (omega arith) (omega arith)

  -- ---- one call

  -- as many of x's line are held as its count says
  mates-are : (w : List ℕ) (m : ℕ → List Element) → Sound k w m → (x : Element) → home k x < k.lines → mates k x (in_order m 0 k.lines) ≡ length (m (home k x))
  mates-are w m s x h = ap length (order-of k (home k x) m k.lines (home-own w m s) 0 k.lines (omega arith) (omega arith) (omega arith))

  module _ (w : List ℕ) (m : ℕ → List Element) (s : Sound k w m) where
    abbrev L : List Element
    L = in_order m 0 k.lines

    pub record Agree (z : Choice) (y : Step Answer (List Element)) : Type 0 where
      pub alike : z.answer ≡ y.said
      pub holds : in_order (after k z.due m) 0 k.lines ≡ y.next

    agree-if : (t : Bool) (a b : Choice) (c d : Step Answer (List Element)) → (t ≡ true → Agree a c) → (t ≡ false → Agree b d) → Agree (cond t a b) (cond t c d)
    agree-if true a b c d p q = p refl
    agree-if false a b c d p q = q refl

    same : (r : Refusal) → Agree (denied r) (step (Err r) L)
    same r = record { alike = refl; holds = refl }

    -- 4 and 7 alike
    same_asked : (x : Element) (z : Choice) (y : Step Answer (List Element)) → (in_range k x ≡ true → Agree z y)
        → Agree (cond (in_range k x) (cond (untagged x) (denied NoTag) z) (denied BadRank)) (cond (in_range k x) (cond (untagged x) (step (Err NoTag) L) y) (step (Err BadRank) L))
    same_asked x z y h = agree-if (in_range k x) _ _ _ _ (λ p. agree-if (untagged x) _ _ _ _ (λ t. same NoTag) (λ t. h p)) (λ p. same BadRank)

    own_home : (x : Element) → in_range k x ≡ true → Own k (home k x) x
    own_home x f = goal-own k x f 0

    push-agrees : (x : Element) → in_range k x ≡ true
        → Agree (cond (has_room k (word w) (taker k (word w) x)) (choice (Ok None) (Put (taker k (word w) x) x)) (denied Full)) (cond (ltb (mates k x L) k.places) (step (Ok None) (insert x L)) (step (Err Full) L))
    push-agrees x f =
        let t = takes (length w) s.shaped (word w) x f in
        let e : has_room k (word w) (taker k (word w) x) ≡ ltb (mates k x L) k.places =
        t.room ∙ ap (λ (n : ℕ). ltb n k.places) (s.count (home k x) t.within ∙ sym (mates-are w m s x t.within)) in
        subst (λ (b : Bool). Agree (cond (has_room k (word w) (taker k (word w) x)) (choice (Ok None) (Put (taker k (word w) x) x)) (denied Full)) (cond b (step (Ok None) (insert x L)) (step (Err Full) L))) e
        (agree-if (has_room k (word w) (taker k (word w) x)) _ _ _ _
        (λ r. record { alike = refl; holds = ap (λ (l : ℕ). in_order (put m l x) 0 k.lines) (t.where_to r) ∙ sym (insert-line w m s x (home k x) t.within (own_home x f)) })
        (λ r. same Full))

    -- ---- pop

    abbrev g : ℕ
    g = giver k (word w) (heads k w)

    none_before : (total (word w) k.lines ≡ 0 → ⊥) → (j : ℕ) → j < giver k (word w) (heads k w) → m j ≡ []
    none_before some j l = elim (ℕ_discrete k.kind 1) [
      | yes e ↦ before-empty k w m s some e j l
      | no e ↦ absurd (omega (arith, (giver-fits k (length w) s.shaped (word w) (heads k w) some).0, one_line e))
    ]

    module _ (some : total (word w) k.lines ≡ 0 → ⊥) where
      g-fits : (giver k (word w) (heads k w) < k.lines) × (0 < word w (giver k (word w) (heads k w)))
      g-fits = giver-fits k (length w) s.shaped (word w) (heads k w) some

      g_some : 0 < length (m (giver k (word w) (heads k w)))
      g_some = omega (arith, g-fits.1, s.count g g-fits.0)

      -- what is held is the first place, and then the others
      pub popped-is : in_order m 0 k.lines ≡ heads k w (giver k (word w) (heads k w)) ∷ in_order (taken m (giver k (word w) (heads k w))) 0 k.lines
      popped-is =
          let u = uncons (m g) g_some in
          let hd = head-is k w m s g g-fits.0 u.0 u.1 u.2 in
          let e : m g ≡ heads k w g ∷ behind (m g) = u.2 ∙ ap₂ (λ (y : Element) (ys : List Element). y ∷ ys) (sym hd) (sym (ap behind u.2)) in
          order-pop m g (heads k w g) (behind (m g)) e 0 k.lines (omega arith) (omega (arith, g-fits.0)) (none_before some)

    nothing-held : total (word w) k.lines ≡ 0 → in_order m 0 k.lines ≡ []
    nothing-held z = order-none m 0 k.lines (λ j a b. empty-line (m j) (omega (arith, s.count j (omega arith), total-le (word w) k.lines j (omega arith))))

    pop-agrees : Agree (cond (eqb (total (word w) k.lines) 0) (denied Empty) (choice (Ok (Some (heads k w g))) (Take g))) (cond (is_none L) (step (Err Empty) L) (served Pop L))
    pop-agrees = elim (ℕ_discrete (total (word w) k.lines) 0) [
      | yes z ↦ rw (eq-eqb (total (word w) k.lines) 0 z, nothing-held z) (record { alike = refl; holds = nothing-held z })
      | no z ↦ rw (ne_eqb (total (word w) k.lines) 0 z, popped-is z) (record { alike = refl; holds = refl })
    ]

    -- ---- replace

    module _ (x : Element) (f : in_range k x ≡ true) where
      abbrev lined : Choice
      lined = cond (eqb (total (word w) k.lines) 0) (denied Empty) (cond (room_after k (word w) g (goal k g x)) (choice (Ok (Some (heads k w g))) (Swap g x)) (denied Full))

      abbrev listed : List Element → Step Answer (List Element)
      listed l = cond (is_none l) (step (Err Empty) l) (cond (ltb (mates k x (behind l)) k.places) (served (Replace x) l) (step (Err Full) l))

      room-again : (g : ℕ) → (g < k.lines) × (0 < word w g) → home k x < k.lines → room_after k (word w) g (home k x) ≡ ltb (length (taken m g (home k x))) k.places
      room-again g gf b = elim (ℕ_discrete (home k x) g) [
        | yes e ↦
            let a : length (taken m g (home k x)) ≡ length (behind (m g)) = ap (λ (i : ℕ). length (taken m g i)) e ∙ ap length (is-upd m g (behind (m g))).here in
            rw (eq-eqb g (home k x) (sym e), lt-ltb (length (taken m g (home k x))) k.places (omega (arith, behind-length (m g) (omega (arith, gf.1, s.count g gf.0)), s.fit g gf.0))) refl
        | no e ↦ rw (ne_eqb g (home k x) (λ y. e (sym y)), s.count (home k x) b, (is-upd m g (behind (m g))).else (home k x) e) refl
      ]

      swap-agrees : (total (word w) k.lines ≡ 0 → ⊥) → Agree lined (listed L)
      swap-agrees z =
          let t = taken m g in
          let gf = g-fits z in
          let s1 = keeps k w m s (Take g) (gf.0, g_some z) in
          let ge : goal k g x ≡ home k x = goal-home g x gf.0 in
          let b = (takes (length w) s.shaped (word w) x f).within in
          let re : room_after k (word w) g (home k x) ≡ ltb (mates k x (in_order t 0 k.lines)) k.places =
          room-again g gf b ∙ ap (λ (n : ℕ). ltb n k.places) (sym (mates-are (done k (Take g) w) t s1 x b)) in
          rw (ne_eqb (total (word w) k.lines) 0 z, ge, re, popped-is z)
          (agree-if (ltb (mates k x (in_order t 0 k.lines)) k.places) _ _ _ _
          (λ e. record { alike = refl; holds = ap (λ (l : ℕ). in_order (put t l x) 0 k.lines) ge ∙ sym (insert-line (done k (Take g) w) t s1 x (home k x) b (own_home x f)) })
          (λ e. record { alike = refl; holds = popped-is z }))

      replace-agrees : Agree lined (listed L)
      replace-agrees = elim (ℕ_discrete (total (word w) k.lines) 0) [
        | yes z ↦ rw (eq-eqb (total (word w) k.lines) 0 z, nothing-held z) (record { alike = refl; holds = nothing-held z })
        | no z ↦ swap-agrees z
      ]

    -- every request
    pub agrees : (q : Request) → Agree (choose k (word w) (heads k w) q) (plain k q L)
    unfolding choose plain_by due_of
    agrees Idle = record { alike = refl; holds = refl }
    agrees (Push x) = same_asked x _ _ (λ f. push-agrees x f)
    agrees Pop = pop-agrees
    agrees (Replace x) = same_asked x _ _ (λ f. replace-agrees x f)

  -- ---- any list of requests

  -- the words hold the list
  abbrev pub Lists : List ℕ → List Element → Type 0
  Lists w l = (m : ℕ → List Element) × Sound k w m × (in_order m 0 k.lines ≡ l)

  lists-said : (q : Request) (w : List ℕ) (l : List Element) → Lists w l → (lines k q w).said ≡ (plain k q l).said
  lists-said q w l y =
      ap (λ (o : Outcome). o.answer) (called_is k w y.0 y.1 q) ∙ (agrees w y.0 y.1 q).alike ∙ ap (λ (l : List Element). (plain k q l).said) y.2

  lists-next : (q : Request) (w : List ℕ) (l : List Element) → Lists w l → Lists (lines k q w).next (plain k q l).next
  lists-next q w l y =
      (after k (choose k (word w) (heads k w) q).due y.0, called-keeps k w y.0 y.1 q, (agrees w y.0 y.1 q).holds ∙ ap (λ (l : List Element). (plain k q l).next) y.2)

  module _ (w : List ℕ) (s : Shaped k (length w)) (qs : List Request) where
    start-lists : Lists (cleared k w).words []
    start-lists = ((λ l. []), start-sound k w s, order-none (λ l. []) 0 k.lines (λ j a b. refl))

    -- PLAIN: from clear, any list of requests is answered as by the plain first-in list, number and triple
    pub plain-answers : answers (lines k) qs (cleared k w).words ≡ answers (plain k) qs []
    plain-answers = answers-same (lines k) (plain k) Lists lists-said lists-next qs (cleared k w).words [] start-lists

    -- .. and what the store then holds, line by line, is that list
    pub plain-stored : stored k (leaves (lines k) qs (cleared k w).words) ≡ leaves (plain k) qs []
    plain-stored =
        let y = leaves-in-step (lines k) (plain k) Lists lists-said lists-next qs (cleared k w).words [] start-lists in
        stored_is k (leaves (lines k) qs (cleared k w).words) y.0 y.1 ∙ y.2

    -- FIRST IN, FIRST OUT: of each rank, what came in is what went out and then what is held, in that order
    pub lines-first-out : FirstOut [] qs (answers (lines k) qs (cleared k w).words) (stored k (leaves (lines k) qs (cleared k w).words))
    lines-first-out = rw (plain-answers, plain-stored) (first_out (plain_table k) qs [] tt)
