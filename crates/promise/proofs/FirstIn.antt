-- The plain first-in list, one call after another: in leaving order, and first in first out within a rank, whatever its table refuses.
use Rattle.laws.specs.Prelude.{All, Answer, Bool, Element, Empty, Idle, List, Pop, Push, Refusal, Replace, Request, [], ◌++◌, ◌+◌, ◌<◌, ◌∙◌, ◌∷◌, ◌≡◌, ◌≤◌, all_map, ap, arith, blank, cond, dec_lt, eqb, false, le-ltb, length, lt-ltb, ltb, ne_eqb, refl, refusal_number, suc, sym, true, zero, ℕ, ℕ_discrete, Err}
use mathlib.Core.List.{append_assoc, append-nil}
use Rattle.promise.specs.FirstIn.{all_came, all_went, came, FirstOut, if_done, insert, of_rank, plain_by, served, Sorted, times, went}
use Rattle.promise.specs.Prelude.{Step, Table, always, answers, decided-either, each-any, hit, leaves, step, zero-told}

-- ---- a newcomer
pub insert_all : (P : Element → Type 0) (e : Element) (l : List Element) → P e → All P l → All P (insert e l)
insert_all P e [] p h = (p, tt)
insert_all P e (x ∷ l) p h = go (ltb e.rank.0 x.rank.0) (insert_all P e l p h.1)
  where
    go : (t : Bool) → All P (insert e l) → All P (cond t (e ∷ x ∷ l) (x ∷ insert e l))
    go true ih = (p, h)
    go false ih = (h.0, ih)

pub insert-length : (e : Element) (l : List Element) → length (insert e l) ≡ suc (length l)
insert-length e [] = refl
insert-length e (x ∷ l) = go (ltb e.rank.0 x.rank.0) (insert-length e l)
  where
    go : (t : Bool) → length (insert e l) ≡ suc (length l) → length (cond t (e ∷ x ∷ l) (x ∷ insert e l)) ≡ suc (suc (length l))
    go true ih = refl
    go false ih = ap suc ih

pub insert-sorted : (e : Element) (l : List Element) → Sorted l → Sorted (insert e l)
insert-sorted e [] s = (tt, tt)
insert-sorted e (x ∷ l) s = elim (dec_lt e.rank.0 x.rank.0) [
  | yes h ↦ rw (lt-ltb e.rank.0 x.rank.0 h) ((omega arith, all_map _ _ (λ y a. omega arith) l s.0), s)
  | no h ↦ rw (le-ltb e.rank.0 x.rank.0 (omega arith)) (insert_all (λ y. x.rank.0 ≤ y.rank.0) e l (omega arith) s.0, insert-sorted e l s.1)
]

-- behind a row of ranks no higher it goes into what follows; before a row of higher ranks it goes into what stands before
pub insert-past : (e : Element) (xs ys : List Element) → All (λ y. y.rank.0 ≤ e.rank.0) xs → insert e (xs ++ ys) ≡ xs ++ insert e ys
insert-past e [] ys h = refl
insert-past e (x ∷ xs) ys h = rw (le-ltb e.rank.0 x.rank.0 h.0) (ap (λ (l : List Element). x ∷ l) (insert-past e xs ys h.1))

pub insert-before : (e : Element) (xs ys : List Element) → All (λ y. e.rank.0 < y.rank.0) ys → insert e (xs ++ ys) ≡ insert e xs ++ ys
insert-before e [] [] h = refl
insert-before e [] (y ∷ ys) h = rw (lt-ltb e.rank.0 y.rank.0 h.0) refl
insert-before e (x ∷ xs) ys h = go (ltb e.rank.0 x.rank.0) (insert-before e xs ys h)
  where
    go : (t : Bool) → insert e (xs ++ ys) ≡ insert e xs ++ ys → cond t (e ∷ x ∷ (xs ++ ys)) (x ∷ insert e (xs ++ ys)) ≡ cond t (e ∷ x ∷ xs) (x ∷ insert e xs) ++ ys
    go true ih = refl
    go false ih = ap (λ (l : List Element). x ∷ l) ih

-- ---- counting
pub times-insert : (f : Element → Bool) (e : Element) (l : List Element) → times f (insert e l) ≡ hit (f e) + times f l
unfolding times
times-insert f e [] = refl
times-insert f e (x ∷ l) = go (ltb e.rank.0 x.rank.0) (times-insert f e l)
  where
    go : (t : Bool) → times f (insert e l) ≡ hit (f e) + times f l → times f (cond t (e ∷ x ∷ l) (x ∷ insert e l)) ≡ hit (f e) + (hit (f x) + times f l)
    go true ih = refl
    go false ih = omega arith

pub times-append : (f : Element → Bool) (xs ys : List Element) → times f (xs ++ ys) ≡ times f xs + times f ys
unfolding times
times-append f [] ys = omega arith
times-append f (x ∷ xs) ys = omega (arith, times-append f xs ys)

pub times-all : (l : List Element) → times always l ≡ length l
unfolding times
times-all [] = refl
times-all (x ∷ l) = omega (arith, times-all l)

-- ---- the elements of a rank
rank-nil : (r : ℕ) → of_rank r [] ≡ []
unfolding of_rank
rank-nil r = refl

pub rank-append : (r : ℕ) (xs ys : List Element) → of_rank r (xs ++ ys) ≡ of_rank r xs ++ of_rank r ys
unfolding of_rank
rank-append r [] ys = refl
rank-append r (x ∷ xs) ys = go (eqb x.rank.0 r) (rank-append r xs ys)
  where
    go : (t : Bool) → of_rank r (xs ++ ys) ≡ of_rank r xs ++ of_rank r ys → cond t (x ∷ of_rank r (xs ++ ys)) (of_rank r (xs ++ ys)) ≡ cond t (x ∷ of_rank r xs) (of_rank r xs) ++ of_rank r ys
    go true ih = ap (λ (l : List Element). x ∷ l) ih
    go false ih = ih

rank-none : (r : ℕ) (l : List Element) → All (λ y. r < y.rank.0) l → of_rank r l ≡ []
unfolding of_rank
rank-none r [] h = refl
rank-none r (x ∷ l) h = rw (ne_eqb x.rank.0 r (λ e. omega (arith, h.0))) (rank-none r l h.1)

-- before all that have a higher rank it is the last of its own too
front-rank : (r : ℕ) (e : Element) (l : List Element) → All (λ y. e.rank.0 < y.rank.0) l → of_rank r (e ∷ l) ≡ of_rank r l ++ of_rank r (e ∷ [])
front-rank r e l h = rank-append r (e ∷ []) l ∙ elim (ℕ_discrete e.rank.0 r) [ yes q ↦ own q | no q ↦ other q ]
  where
    own : e.rank.0 ≡ r → of_rank r (e ∷ []) ++ of_rank r l ≡ of_rank r l ++ of_rank r (e ∷ [])
    own q =
        let z : of_rank r l ≡ [] = rank-none r l (all_map _ _ (λ y a. omega arith) l h) in
        rw z (append-nil (of_rank r (e ∷ [])))

    other : (e.rank.0 ≡ r → ⊥) → of_rank r (e ∷ []) ++ of_rank r l ≡ of_rank r l ++ of_rank r (e ∷ [])
    other q = let z : of_rank r (e ∷ []) ≡ [] = unfold of_rank in rw (ne_eqb e.rank.0 r q) in rw z (sym (append-nil (of_rank r l)))

-- behind all of its rank
pub insert-rank : (r : ℕ) (e : Element) (l : List Element) → Sorted l → of_rank r (insert e l) ≡ of_rank r l ++ of_rank r (e ∷ [])
insert-rank r e [] s = sym (ap (λ (l : List Element). l ++ of_rank r (e ∷ [])) (rank-nil r))
insert-rank r e (x ∷ l) s = elim (dec_lt e.rank.0 x.rank.0) [
  | yes h ↦ rw (lt-ltb e.rank.0 x.rank.0 h) (front h)
  | no h ↦ rw (le-ltb e.rank.0 x.rank.0 (omega arith)) (behind (insert-rank r e l s.1))
]
  where
    front : e.rank.0 < x.rank.0 → of_rank r (e ∷ x ∷ l) ≡ of_rank r (x ∷ l) ++ of_rank r (e ∷ [])
    front h = front-rank r e (x ∷ l) (h, all_map _ _ (λ y a. omega arith) l s.0)

    behind : of_rank r (insert e l) ≡ of_rank r l ++ of_rank r (e ∷ []) → of_rank r (x ∷ insert e l) ≡ of_rank r (x ∷ l) ++ of_rank r (e ∷ [])
    behind ih =
        rank-append r (x ∷ []) (insert e l) ∙ ap (λ (m : List Element). of_rank r (x ∷ []) ++ m) ih
        ∙ sym (append_assoc (of_rank r (x ∷ [])) (of_rank r l) (of_rank r (e ∷ []))) ∙ ap (λ (m : List Element). m ++ of_rank r (e ∷ [])) (sym (rank-append r (x ∷ []) l))

rank-still : (r : ℕ) (l : List Element) → of_rank r l ++ of_rank r [] ≡ of_rank r [] ++ of_rank r l
rank-still r l = rw (rank-nil r) (append-nil (of_rank r l))

-- ---- one call: in order again, and of each rank what was there, with what came behind it, is what went and then what is there
pub record Kept (q : Request) (l : List Element) (x : Step Answer (List Element)) : Type 0 where
  pub sorted : Sorted x.next
  pub fifo : (r : ℕ) → of_rank r l ++ of_rank r (came q x.said) ≡ of_rank r (went q x.said) ++ of_rank r x.next

-- what is refused brings nothing in, and gives nothing out
if-refused : (x : Refusal) (e : Element) → if_done (refusal_number x) e ≡ []
if-refused x e = go (refusal_number x) refl
  where
    go : (n : ℕ) → refusal_number x ≡ n → if_done n e ≡ []
    go zero i = absurd (zero-told x (sym i))
    go (suc n) i = refl

none_in : (q : Request) (x : Refusal) → came q (Err x) ≡ []
none_in Idle x = refl
none_in (Push e) x = if-refused x e
none_in Pop x = refl
none_in (Replace e) x = if-refused x e

none_out : (q : Request) (x : Refusal) → went q (Err x) ≡ []
none_out Idle x = refl
none_out (Push e) x = refl
none_out Pop x = if-refused x blank
none_out (Replace e) x = if-refused x blank

kept-refused : (q : Request) (l : List Element) (x : Refusal) → Sorted l → Kept q l (step (Err x) l)
kept-refused q l x s = record { sorted = s; fifo = λ r. rw (none_in q x, none_out q x) (rank-still r l) }

kept-served : (q : Request) (l : List Element) → Sorted l → Kept q l (served q l)
kept-served Idle l s = record { sorted = s; fifo = λ r. rank-still r l }
kept-served (Push e) l s =
    record { sorted = insert-sorted e l s; fifo = λ r. sym (insert-rank r e l s) ∙ sym (ap (λ (m : List Element). m ++ of_rank r (insert e l)) (rank-nil r)) }
kept-served Pop [] s = kept-refused Pop [] Empty s
kept-served Pop (x ∷ l) s =
    record { sorted = s.1; fifo = λ r. ap (λ (m : List Element). of_rank r (x ∷ l) ++ m) (rank-nil r) ∙ append-nil (of_rank r (x ∷ l)) ∙ rank-append r (x ∷ []) l }
kept-served (Replace e) [] s = kept-refused (Replace e) [] Empty s
kept-served (Replace e) (x ∷ l) s =
    record {
      sorted = insert-sorted e l s.1;
      fifo = λ r.
          ap (λ (m : List Element). m ++ of_rank r (e ∷ [])) (rank-append r (x ∷ []) l)
          ∙ append_assoc (of_rank r (x ∷ [])) (of_rank r l) (of_rank r (e ∷ []))
          ∙ ap (λ (m : List Element). of_rank r (x ∷ []) ++ m) (sym (insert-rank r e l s.1));
    }

module _ (table : Request → List Element → Table) where
  pub plain-kept : (q : Request) (l : List Element) → Sorted l → Kept q l (plain_by table q l)
  unfolding plain_by
  plain-kept q l s = decided-either (λ x. step (Err x) l) (Kept q l) (table q l) (served q l) (each-any _ (λ x. kept-refused q l x s) (table q l)) (λ c. kept-served q l s)

  -- ---- any list of calls
  pub plain-sorted : (qs : List Request) (l : List Element) → Sorted l → Sorted (leaves (plain_by table) qs l)
  unfolding leaves
  plain-sorted [] l s = s
  plain-sorted (q ∷ qs) l s = plain-sorted qs (plain_by table q l).next (plain-kept q l s).sorted

  pub first_out : (qs : List Request) (l : List Element) → Sorted l → FirstOut l qs (answers (plain_by table) qs l) (leaves (plain_by table) qs l)
  unfolding answers leaves all_came all_went
  first_out [] l s r = rank-still r l
  first_out (q ∷ qs) l s r =
      let x = plain_by table q l in
      let a = all_came qs (answers (plain_by table) qs x.next) in
      let b = all_went qs (answers (plain_by table) qs x.next) in
      let y = plain-kept q l s in
      rw (rank-append r (came q x.said) a, rank-append r (went q x.said) b)
      (sym (append_assoc (of_rank r l) (of_rank r (came q x.said)) (of_rank r a)) ∙ ap (λ (z : List Element). z ++ of_rank r a) (y.fifo r)
      ∙ append_assoc (of_rank r (went q x.said)) (of_rank r x.next) (of_rank r a) ∙ ap (λ (z : List Element). of_rank r (went q x.said) ++ z) (first_out qs x.next y.sorted r)
      ∙ sym (append_assoc (of_rank r (went q x.said)) (of_rank r b) (of_rank r (leaves (plain_by table) qs x.next))))
