-- Where a queue takes every request of a list, its ranks are those of the plain list: for any queue that holds what went in and has not come out,
-- gives the least, and answers a replace as a pop.
use Rattle.laws.specs.Prelude.{Answer, Bool, Element, Idle, List, Pop, Push, Replace, Request, [], ◌+◌, ◌<◌, ◌∙◌, ◌∷◌, ◌≡◌, ◌≤◌, ap, ap₂, arith, blank, cond, element_of, false, le-ltb, length, lt-ltb, ltb, ltb-false, ltb-true, map, not-suc-le-zero, number_of, rank_of, refl, subst, suc, sym, true, zero, ℕ, Ok, None, Some, Err}
use Rattle.agreement.specs.Plain.{insert, numbered, number_for, plain, plainly, plainly_by, Taken}
use Rattle.promise.specs.Prelude.{Kind, Least, Step, always, answers, brought, given, hit, lower, unrefused}

-- ---- a list in rank order: how many of its ranks are below q
unfoldable below : ℕ → List ℕ → ℕ
below q [] = 0
below q (r ∷ l) = hit (ltb r q) + below q l

abbrev Sorted : List ℕ → Type 0
Sorted [] = Unit {0}
Sorted (r ∷ l) = (below r l ≡ 0) × Sorted l

hit-lt : (r q : ℕ) → r < q → hit (ltb r q) ≡ 1
hit-lt r q h = ap hit (lt-ltb r q h)

hit-ge : (r q : ℕ) → q ≤ r → hit (ltb r q) ≡ 0
hit-ge r q h = ap hit (le-ltb r q h)

hit-mono : (r p q : ℕ) → p ≤ q → hit (ltb r p) ≤ hit (ltb r q)
hit-mono r p q h = go (ltb r p) refl
  where
    go : (b : Bool) → ltb r p ≡ b → hit b ≤ hit (ltb r q)
    go true e = omega (arith, hit-lt r q (omega (arith, ltb-true r p e)))
    go false e = omega arith

below-mono : (p q : ℕ) (l : List ℕ) → p ≤ q → below p l ≤ below q l
unfolding below
below-mono p q [] h = omega arith
below-mono p q (r ∷ l) h = omega (arith, hit-mono r p q h, below-mono p q l h)

insert-below : (q r : ℕ) (l : List ℕ) → below q (insert r l) ≡ hit (ltb r q) + below q l
unfolding below insert
insert-below q r [] = refl
insert-below q r (p ∷ l) = go (ltb r p) (insert-below q r l)
  where
    go : (b : Bool) → below q (insert r l) ≡ hit (ltb r q) + below q l → below q (cond b (r ∷ p ∷ l) (p ∷ insert r l)) ≡ hit (ltb r q) + (hit (ltb p q) + below q l)
    go true ih = refl
    go false ih = omega arith

insert-sorted : (r : ℕ) (l : List ℕ) → Sorted l → Sorted (insert r l)
unfolding insert below
insert-sorted r [] s = (refl, tt)
insert-sorted r (p ∷ l) s = go (ltb r p) refl (insert-sorted r l s.1)
  where
    go : (b : Bool) → ltb r p ≡ b → Sorted (insert r l) → Sorted (cond b (r ∷ p ∷ l) (p ∷ insert r l))
    go true e ih = (omega (arith, hit-ge p r (omega (arith, ltb-true r p e)), below-mono r p l (omega (arith, ltb-true r p e)), s.0), s)
    go false e ih = (omega (arith, insert-below p r l, hit-ge r p (ltb-false r p e), s.0), ih)

insert-length : (r : ℕ) (l : List ℕ) → length (insert r l) ≡ suc (length l)
unfolding insert
insert-length r [] = refl
insert-length r (p ∷ l) = go (ltb r p) (insert-length r l)
  where
    go : (b : Bool) → length (insert r l) ≡ suc (length l) → length (cond b (r ∷ p ∷ l) (p ∷ insert r l)) ≡ suc (suc (length l))
    go true ih = refl
    go false ih = ap suc ih

-- a refused request has rank 0, brings nothing in and gives nothing out
refused-rank : (a : Answer) (n : ℕ) → number_of a ≡ suc n → rank_of a ≡ 0
unfolding blank
refused-rank (Ok None) n e = refl
refused-rank (Ok (Some x)) n e = absurd (omega arith)
refused-rank (Err x) n e = refl

refused-still : (r : Request) (a : Answer) (n : ℕ) → number_of a ≡ suc n → (f : Element → Bool) → (given r a f ≡ 0) × (brought r a f ≡ 0)
refused-still Idle a n e f = (refl, refl)
refused-still (Push x) a n e f = (refl, ap (λ (i : ℕ). unrefused i (hit (f x))) e)
refused-still Pop a n e f = (ap (λ (i : ℕ). unrefused i (hit (f (element_of a)))) e, refl)
refused-still (Replace x) a n e f = (ap (λ (i : ℕ). unrefused i (hit (f (element_of a)))) e, ap (λ (i : ℕ). unrefused i (hit (f x))) e)

-- ---- any queue
module _ {S : Type 0} (queue : Request → S → Step Answer S) (Kept : S → Type 0) (keep : (r : Request) (s : S) → Kept s → Kept (queue r s).next)
    (held : S → (Element → Bool) → ℕ)
    (sum : (r : Request) (s : S) → Kept s → (f : Element → Bool) → held (queue r s).next f + given r (queue r s).said f ≡ held s f + brought r (queue r s).said f)
    (least : (r : Request) (s : S) → Kept s → Least (held s) r (queue r s).said)
    (as-pop : (x : Element) (s : S) → Kept s → number_of (queue (Replace x) s).said ≡ 0 → (queue (Replace x) s).said ≡ (queue Pop s).said)
    (kind : (r : Request) (s : S) → number_of (queue r s).said ≡ 0 → Kind r (queue r s).said) where
  -- the list has the ranks of what is held, in order
  pub record Same (s : S) (l : List ℕ) : Type 0 where
    ranks : (q : ℕ) → held s (lower q) ≡ below q l
    sorted : Sorted l

  -- nothing held is the empty list
  pub same-empty : (s : S) → ((f : Element → Bool) → held s f ≡ 0) → Same s []
  unfolding below
  same-empty s h = record { ranks = λ q. h (lower q); sorted = tt }

  pub record Follows (r : Request) (s : S) (l : List ℕ) : Type 0 where
    rank : rank_of (queue r s).said ≡ (plain r l).said
    same : Same (queue r s).next (plain r l).next

  module _ (s : S) (kept : Kept s) where
    -- what a request gives and brings in where it is not refused
    out_of : (a : Answer) → number_of a ≡ 0 → (q : ℕ) → unrefused (number_of a) (hit (lower q (element_of a))) ≡ hit (ltb (rank_of a) q)
    out_of a e q = ap (λ (n : ℕ). unrefused n (hit (lower q (element_of a)))) e

    into : (a : Answer) (x : Element) → number_of a ≡ 0 → (q : ℕ) → unrefused (number_of a) (hit (lower q x)) ≡ hit (ltb x.rank.0 q)
    into a x e q = ap (λ (n : ℕ). unrefused n (hit (lower q x))) e

    -- an element of this rank is held where one comes out, so the list is not empty ..
    none-empty : (e : ℕ) → Same s [] → 1 ≤ held s (lower (suc e)) → ⊥
    unfolding below
    none-empty e m h = not-suc-le-zero {n = 0} (omega (arith, m.ranks (suc e)))

    -- .. and its head has the rank that comes out
    head-rank : (e r : ℕ) (l : List ℕ) → Same s (r ∷ l) → 1 ≤ held s (lower (suc e)) → held s (lower e) ≡ 0 → e ≡ r
    unfolding below
    head-rank e r l m one none =
        let up : e < r → ⊥ = λ h. omega (arith, m.ranks (suc e), hit-ge r (suc e) (omega arith), below-mono (suc e) r l (omega arith), m.sorted.0) in
        let down : r < e → ⊥ = λ h. omega (arith, m.ranks e, hit-lt r e h) in
        omega arith

    -- what a pop gives was held, and so what a replace gives
    pop-held : (a : Answer) → number_of a ≡ 0 → (queue Pop s).said ≡ a → 1 ≤ held s (lower (suc (rank_of a)))
    pop-held a e p =
        let h : held (queue Pop s).next (lower (suc (rank_of a))) + given Pop a (lower (suc (rank_of a))) ≡ held s (lower (suc (rank_of a))) =
        subst (λ (b : Answer). held (queue Pop s).next (lower (suc (rank_of a))) + given Pop b (lower (suc (rank_of a))) ≡ held s (lower (suc (rank_of a)))) p (omega (arith, sum Pop s kept (lower (suc (rank_of a))))) in
        omega (arith, h, out_of a e (suc (rank_of a)), hit-lt (rank_of a) (suc (rank_of a)) (omega arith))

    follow : (r : Request) (l : List ℕ) → Same s l → number_of (queue r s).said ≡ 0 → Follows r s l
    unfolding plain below blank
    follow Idle l m e =
        record {
          rank = ap rank_of (kind Idle s e);
          same = record { ranks = λ q. omega (arith, sum Idle s kept (lower q), m.ranks q); sorted = m.sorted };
        }
    follow (Push x) l m e =
        record {
          rank = ap rank_of (kind (Push x) s e);
          same = record {
            ranks = λ q. omega (arith, sum (Push x) s kept (lower q), into (queue (Push x) s).said x e q, m.ranks q, insert-below q x.rank.0 l);
            sorted = insert-sorted x.rank.0 l m.sorted;
          };
        }
    follow Pop [] m e = absurd (none-empty (rank_of (queue Pop s).said) m (pop-held (queue Pop s).said e refl))
    follow Pop (r ∷ l) m e =
        let a : Answer = (queue Pop s).said in
        let one : 1 ≤ held s (lower (suc (rank_of a))) = pop-held a e refl in
        let is : rank_of a ≡ r = head-rank (rank_of a) r l m one (least Pop s kept e) in
        record {
          rank = is;
          same = record {
            ranks = λ q. omega (arith, sum Pop s kept (lower q), out_of a e q, m.ranks q, ap (λ (n : ℕ). hit (ltb n q)) is);
            sorted = m.sorted.1;
          };
        }
    follow (Replace x) [] m e = absurd (none-empty (rank_of (queue (Replace x) s).said) m (pop-held (queue (Replace x) s).said e (sym (as-pop x s kept e))))
    follow (Replace x) (r ∷ l) m e =
        let a : Answer = (queue (Replace x) s).said in
        let one : 1 ≤ held s (lower (suc (rank_of a))) = pop-held a e (sym (as-pop x s kept e)) in
        let is : rank_of a ≡ r = head-rank (rank_of a) r l m one (least (Replace x) s kept e) in
        record {
          rank = is;
          same = record {
            ranks = λ q. omega (arith, sum (Replace x) s kept (lower q), out_of a e q, into a x e q, m.ranks q, insert-below q x.rank.0 l, ap (λ (n : ℕ). hit (ltb n q)) is);
            sorted = insert-sorted x.rank.0 l m.sorted.1;
          };
        }

  pub ranks-plain : (rs : List Request) (s : S) (l : List ℕ) → Kept s → Same s l → Taken (answers queue rs s) → map rank_of (answers queue rs s) ≡ answers plain rs l
  unfolding answers
  ranks-plain [] s l kept m t = refl
  ranks-plain (r ∷ rs) s l kept m t =
      let f = follow s kept r l m t.0 in
      ap₂ (λ (a : ℕ) (l : List ℕ). a ∷ l) f.rank (ranks-plain rs (queue r s).next (plain r l).next (keep r s kept) f.same t.1)

  -- ---- with its refusals: a queue that refuses as the list does, by a number for each request and how many are held
  module _ (for : Request → ℕ → ℕ) (number : (r : Request) (s : S) → Kept s → number_of (queue r s).said ≡ for r (held s always)) where
    -- the list has as many ranks as are held
    pub record Whole (s : S) (l : List ℕ) : Type 0 where
      same : Same s l
      count : held s always ≡ length l

    pub whole-empty : (s : S) → ((f : Element → Bool) → held s f ≡ 0) → Whole s []
    whole-empty s h = record { same = same-empty s h; count = h always }

    -- how many are held after a request that is not refused
    count_next : (r : Request) (s : S) (l : List ℕ) → Kept s → Whole s l → number_of (queue r s).said ≡ 0 → held (queue r s).next always ≡ length (plain r l).next
    unfolding plain
    count_next Idle s l kept w e = omega (arith, sum Idle s kept always, w.count)
    count_next (Push x) s l kept w e = omega (arith, sum (Push x) s kept always, ap (λ (n : ℕ). unrefused n 1) e, w.count, insert-length x.rank.0 l)
    count_next Pop s [] kept w e = absurd (none-empty s kept (rank_of (queue Pop s).said) w.same (pop-held s kept (queue Pop s).said e refl))
    count_next Pop s (r ∷ l) kept w e = omega (arith, sum Pop s kept always, ap (λ (n : ℕ). unrefused n 1) e, w.count)
    count_next (Replace x) s [] kept w e = absurd (none-empty s kept (rank_of (queue (Replace x) s).said) w.same (pop-held s kept (queue (Replace x) s).said e (sym (as-pop x s kept e))))
    count_next (Replace x) s (r ∷ l) kept w e = omega (arith, sum (Replace x) s kept always, ap (λ (n : ℕ). unrefused n 1) e, w.count, insert-length x.rank.0 l)

    goes_by : (n : ℕ) (r : Request) (s : S) (l : List ℕ) → Kept s → Whole s l → number_of (queue r s).said ≡ n
        → (◌≡◌ {A = ℕ × ℕ} (number_of (queue r s).said, rank_of (queue r s).said) (numbered n r l).said) × Whole (queue r s).next (numbered n r l).next
    goes_by zero r s l kept w e =
        let f = follow s kept r l w.same e in
        ((λ i. (e i, f.rank i)), record { same = f.same; count = count_next r s l kept w e })
    goes_by (suc n) r s l kept w e =
        let rank : rank_of (queue r s).said ≡ 0 = refused-rank (queue r s).said n e in
        let stays : (f : Element → Bool) → held (queue r s).next f ≡ held s f = λ f. omega (arith, sum r s kept f, (refused-still r (queue r s).said n e f).0, (refused-still r (queue r s).said n e f).1) in
        ((λ i. (e i, rank i)), record { same = record { ranks = λ q. stays (lower q) ∙ w.same.ranks q; sorted = w.same.sorted }; count = stays always ∙ w.count })

    pub ranks_by : (rs : List Request) (s : S) (l : List ℕ) → Kept s → Whole s l → map (λ a. (number_of a, rank_of a)) (answers queue rs s) ≡ answers (plainly_by for) rs l
    unfolding answers plainly_by
    ranks_by [] s l kept w = refl
    ranks_by (r ∷ rs) s l kept w =
        let g = goes_by (for r (length l)) r s l kept w (number r s kept ∙ ap (for r) w.count) in
        ap₂ (λ (a : ℕ × ℕ) (l : List (ℕ × ℕ)). a ∷ l) g.0 (ranks_by rs (queue r s).next (plainly_by for r l).next (keep r s kept) g.1)

  -- .. of one that has room for c
  pub ranks-plainly : (c : ℕ) (number : (r : Request) (s : S) → Kept s → number_of (queue r s).said ≡ number_for c r (held s always)) (rs : List Request) (s : S) (l : List ℕ) → Kept s → Whole (number_for c) number s l
      → map (λ a. (number_of a, rank_of a)) (answers queue rs s) ≡ answers (plainly c) rs l
  unfolding plainly plainly_by
  ranks-plainly c number rs s l kept w = ranks_by (number_for c) number rs s l kept w
