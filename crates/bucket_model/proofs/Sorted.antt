-- The plain list, one call after another: in leaving order, first in first out within a rank, nothing lost.
use Rattle.laws.specs.Prelude.{All, BadRank, Bool, Element, Empty, Full, Idle, List, NoTag, Pop, Push, Refusal, Replace, [], ◌++◌, ◌+◌, ◌<◌, ◌∙◌, ◌∷◌, ◌≡◌, ◌≤◌, all_map, ap, arith, blank, cond, dec_lt, eqb, false, le-ltb, length, lt-ltb, ltb, ne_eqb, not, refl, refusal_number, subst, suc, sym, true, untagged, zero, ℕ, ℕ_discrete, Ok, None, Some, Err}
use mathlib.Core.List.{append_assoc, append-nil}
use Rattle.promise.specs.Prelude.{decided-either, ends, needs, zero-told}
use Rattle.bucket_model.specs.Layout.{Lay}
use Rattle.bucket_model.specs.Prelude.{Call, Said, Sorted, Step, answered, ask, brought, came, counted, gone, held, if_done, insert, of_rank, plain, plain_after, plain_replace, plain_says, plain_with, step, times, went}

-- ---- the elements of a rank

rank-nil : (r : ℕ) → of_rank r [] ≡ []
unfolding of_rank
rank-nil r = refl

pub rank-append : (r : ℕ) (xs ys : List Element) → of_rank r (xs ++ ys) ≡ of_rank r xs ++ of_rank r ys
unfolding of_rank
rank-append r [] ys = refl
rank-append r (x ∷ xs) ys = go (eqb x.rank.0 r) (rank-append r xs ys)
  where
    go : (t : Bool) → of_rank r (xs ++ ys) ≡ of_rank r xs ++ of_rank r ys → cond t (x ∷ of_rank r (xs ++ ys)) (of_rank r (xs ++ ys)) ≡ cond t (x ∷ of_rank r xs) (of_rank r xs) ++ of_rank r ys
    go true ih = ap (λ (l : List Element). x ∷ l) ih
    go false ih = ih

rank-none : (r : ℕ) (l : List Element) → All (λ y. r < y.rank.0) l → of_rank r l ≡ []
unfolding of_rank
rank-none r [] h = refl
rank-none r (x ∷ l) h = rw (ne_eqb x.rank.0 r (λ e. omega (arith, h.0))) (rank-none r l h.1)

-- ---- a newcomer

pub insert_all : (P : Element → Type 0) (e : Element) (l : List Element) → P e → All P l → All P (insert e l)
insert_all P e [] p h = (p, tt)
insert_all P e (x ∷ l) p h = go (ltb e.rank.0 x.rank.0) (insert_all P e l p h.1)
  where
    go : (t : Bool) → All P (insert e l) → All P (cond t (e ∷ x ∷ l) (x ∷ insert e l))
    go true ih = (p, h)
    go false ih = (h.0, ih)

pub insert-length : (e : Element) (l : List Element) → length (insert e l) ≡ suc (length l)
insert-length e [] = refl
insert-length e (x ∷ l) = go (ltb e.rank.0 x.rank.0) (insert-length e l)
  where
    go : (t : Bool) → length (insert e l) ≡ suc (length l) → length (cond t (e ∷ x ∷ l) (x ∷ insert e l)) ≡ suc (suc (length l))
    go true ih = refl
    go false ih = ap suc ih

pub insert-sorted : (e : Element) (l : List Element) → Sorted l → Sorted (insert e l)
insert-sorted e [] s = (tt, tt)
insert-sorted e (x ∷ l) s = elim (dec_lt e.rank.0 x.rank.0) [
  | yes h ↦ rw (lt-ltb e.rank.0 x.rank.0 h) ((omega arith, all_map _ _ (λ y a. omega arith) l s.0), s)
  | no h ↦ rw (le-ltb e.rank.0 x.rank.0 (omega arith)) (insert_all (λ y. x.rank.0 ≤ y.rank.0) e l (omega arith) s.0, insert-sorted e l s.1)
]

-- before all that have a higher rank it is the last of its own too
front-rank : (r : ℕ) (e : Element) (l : List Element) → All (λ y. e.rank.0 < y.rank.0) l → of_rank r (e ∷ l) ≡ of_rank r l ++ of_rank r (e ∷ [])
front-rank r e l h = rank-append r (e ∷ []) l ∙ elim (ℕ_discrete e.rank.0 r) [ yes q ↦ own q | no q ↦ other q ]
  where
    own : e.rank.0 ≡ r → of_rank r (e ∷ []) ++ of_rank r l ≡ of_rank r l ++ of_rank r (e ∷ [])
    own q =
        let z : of_rank r l ≡ [] = rank-none r l (all_map _ _ (λ y a. omega arith) l h) in
        rw z (append-nil (of_rank r (e ∷ [])))

    other : (e.rank.0 ≡ r → ⊥) → of_rank r (e ∷ []) ++ of_rank r l ≡ of_rank r l ++ of_rank r (e ∷ [])
    other q = let z : of_rank r (e ∷ []) ≡ [] = unfold of_rank in rw (ne_eqb e.rank.0 r q) in rw z (sym (append-nil (of_rank r l)))

-- behind all of its rank
pub insert-rank : (r : ℕ) (e : Element) (l : List Element) → Sorted l → of_rank r (insert e l) ≡ of_rank r l ++ of_rank r (e ∷ [])
insert-rank r e [] s = sym (ap (λ (l : List Element). l ++ of_rank r (e ∷ [])) (rank-nil r))
insert-rank r e (x ∷ l) s = elim (dec_lt e.rank.0 x.rank.0) [
  | yes h ↦ rw (lt-ltb e.rank.0 x.rank.0 h) (front h)
  | no h ↦ rw (le-ltb e.rank.0 x.rank.0 (omega arith)) (behind (insert-rank r e l s.1))
]
  where
    front : e.rank.0 < x.rank.0 → of_rank r (e ∷ x ∷ l) ≡ of_rank r (x ∷ l) ++ of_rank r (e ∷ [])
    front h = front-rank r e (x ∷ l) (h, all_map _ _ (λ y a. omega arith) l s.0)

    behind : of_rank r (insert e l) ≡ of_rank r l ++ of_rank r (e ∷ []) → of_rank r (x ∷ insert e l) ≡ of_rank r (x ∷ l) ++ of_rank r (e ∷ [])
    behind ih =
        rank-append r (x ∷ []) (insert e l) ∙ ap (λ (m : List Element). of_rank r (x ∷ []) ++ m) ih
        ∙ sym (append_assoc (of_rank r (x ∷ [])) (of_rank r l) (of_rank r (e ∷ []))) ∙ ap (λ (m : List Element). m ++ of_rank r (e ∷ [])) (sym (rank-append r (x ∷ []) l))

-- ---- one call

-- P of what a call does that is not refused
abbrev pub Does : Call → List Element → (Step (List Element) → Type 0) → Type 0
Does (ask Idle) l P = P (step (answered (Ok None)) l)
Does (ask (Push e)) l P = P (step (answered (Ok None)) (insert e l))
Does (ask Pop) l P = (x : Element) (m : List Element) → l ≡ x ∷ m → P (step (answered (Ok (Some x))) m)
Does (ask (Replace e)) l P = (x : Element) (m : List Element) → l ≡ x ∷ m → P (step (answered (Ok (Some x))) (insert e m))
Does held l P = P (step (counted (Ok (length l))) l)

-- what is so of that, and of every refusal but 2, which leaves the list, is so of every call
pub plain-either : (ranks : ℕ) (room : Bool) (c : Call) (l : List Element) (P : Step (List Element) → Type 0) → ((x : Refusal) → (refusal_number x ≡ 2 → ⊥) → P (step (answered (Err x)) l)) → Does c l P
    → P (plain_with ranks room c l)
unfolding plain_with
plain-either ranks room (ask Idle) l P f h = h
plain-either ranks room (ask (Push e)) l P f h =
    decided-either (λ x. step (answered (Err x)) l) P (needs BadRank (ltb e.rank.0 ranks) (Unit {0}) (needs NoTag (not (untagged e)) (Unit {0}) (needs Full room (Unit {0}) ends)))
    (step (answered (Ok None)) (insert e l)) (f BadRank (λ n. omega arith), (f NoTag (λ n. omega arith), (f Full (λ n. omega arith), tt))) (λ _. h)
plain-either ranks room (ask Pop) [] P f h = f Empty (λ n. omega arith)
plain-either ranks room (ask Pop) (x ∷ l) P f h = h x l refl
plain-either ranks room (ask (Replace e)) l P f h =
    decided-either (λ x. step (answered (Err x)) l) P (needs BadRank (ltb e.rank.0 ranks) (Unit {0}) (needs NoTag (not (untagged e)) (Unit {0}) ends))
    (plain_replace e l) (f BadRank (λ n. omega arith), (f NoTag (λ n. omega arith), tt)) (λ _. go l refl)
  where
    go : (m : List Element) → l ≡ m → P (plain_replace e l)
    go [] i = rw i (subst (λ (m : List Element). P (step (answered (Err Empty)) m)) i (f Empty (λ n. omega arith)))
    go (x ∷ m) i = rw i (h x m i)
plain-either ranks room held l P f h = h

-- in order again; of each rank what was there, with what came behind it, is what went and then what is there; and nothing is lost
pub record Kept (c : Call) (l : List Element) (x : Step (List Element)) : Type 0 where
  pub sorted : Sorted x.next
  pub fifo : (r : ℕ) → of_rank r l ++ of_rank r (came c x.said) ≡ of_rank r (went c x.said) ++ of_rank r x.next
  pub holds : (g : Element → Bool) → times g l + times g (came c x.said) ≡ times g (went c x.said) + times g x.next

rank-still : (r : ℕ) (l : List Element) → of_rank r l ++ of_rank r [] ≡ of_rank r [] ++ of_rank r l
rank-still r l = rw (rank-nil r) (append-nil (of_rank r l))

pub times-insert : (g : Element → Bool) (e : Element) (l : List Element) → times g (insert e l) ≡ cond (g e) 1 0 + times g l
unfolding times
times-insert g e [] = refl
times-insert g e (x ∷ l) = go (ltb e.rank.0 x.rank.0) (times-insert g e l)
  where
    go : (t : Bool) → times g (insert e l) ≡ cond (g e) 1 0 + times g l → times g (cond t (e ∷ x ∷ l) (x ∷ insert e l)) ≡ cond (g e) 1 0 + (cond (g x) 1 0 + times g l)
    go true ih = refl
    go false ih = omega arith

-- what is refused brings nothing in, and gives nothing out
if-refused : (x : Refusal) (e : Element) → if_done (refusal_number x) e ≡ []
if-refused x e = go (refusal_number x) refl
  where
    go : (n : ℕ) → refusal_number x ≡ n → if_done n e ≡ []
    go zero i = absurd (zero-told x (sym i))
    go (suc n) i = refl

-- a step that says no
kept-no : (c : Call) (l : List Element) (x : Step (List Element)) → Sorted l → came c x.said ≡ [] → went c x.said ≡ [] → x.next ≡ l → Kept c l x
unfolding times
kept-no c l x s a b e =
    record {
      sorted = subst Sorted (sym e) s;
      fifo = λ r. rw (a, b, e) (rank-still r l);
      holds = λ g. rw (a, b, e) (omega arith);
    }

kept_push : (e : Element) (l : List Element) → Sorted l → Kept (ask (Push e)) l (step (answered (Ok None)) (insert e l))
unfolding times
kept_push e l s =
    record {
      sorted = insert-sorted e l s;
      fifo = λ r. sym (insert-rank r e l s) ∙ sym (ap (λ (m : List Element). m ++ of_rank r (insert e l)) (rank-nil r));
      holds = λ g. omega (arith, times-insert g e l);
    }

kept-pop : (x : Element) (l : List Element) → Sorted (x ∷ l) → Kept (ask Pop) (x ∷ l) (step (answered (Ok (Some x))) l)
unfolding times
kept-pop x l s =
    record {
      sorted = s.1;
      fifo = λ r. ap (λ (m : List Element). of_rank r (x ∷ l) ++ m) (rank-nil r) ∙ append-nil (of_rank r (x ∷ l)) ∙ rank-append r (x ∷ []) l;
      holds = λ g. omega arith;
    }

kept-replace : (e x : Element) (l : List Element) → Sorted (x ∷ l) → Kept (ask (Replace e)) (x ∷ l) (step (answered (Ok (Some x))) (insert e l))
unfolding times
kept-replace e x l s =
    record {
      sorted = insert-sorted e l s.1;
      fifo = λ r.
          ap (λ (m : List Element). m ++ of_rank r (e ∷ [])) (rank-append r (x ∷ []) l)
          ∙ append_assoc (of_rank r (x ∷ [])) (of_rank r l) (of_rank r (e ∷ []))
          ∙ ap (λ (m : List Element). of_rank r (x ∷ []) ++ m) (sym (insert-rank r e l s.1));
      holds = λ g. omega (arith, times-insert g e l);
    }

pub plain-kept : (ranks : ℕ) (room : Bool) (c : Call) (l : List Element) → Sorted l → Kept c l (plain_with ranks room c l)
plain-kept ranks room c l s = plain-either ranks room c l (Kept c l) (λ x n. kept-no c l (step (answered (Err x)) l) s (none_in c x) (none_out c x) refl) (does c)
  where
    none_in : (c : Call) (x : Refusal) → came c (answered (Err x)) ≡ []
    none_in (ask Idle) x = refl
    none_in (ask (Push e)) x = if-refused x e
    none_in (ask Pop) x = refl
    none_in (ask (Replace e)) x = if-refused x e
    none_in held x = refl

    none_out : (c : Call) (x : Refusal) → went c (answered (Err x)) ≡ []
    none_out (ask Idle) x = refl
    none_out (ask (Push e)) x = refl
    none_out (ask Pop) x = if-refused x blank
    none_out (ask (Replace e)) x = if-refused x blank
    none_out held x = refl

    does : (c : Call) → Does c l (Kept c l)
    does (ask Idle) = kept-no (ask Idle) l (step (answered (Ok None)) l) s refl refl refl
    does (ask (Push e)) = kept_push e l s
    does (ask Pop) = λ x m i. rw i (kept-pop x m (subst Sorted i s))
    does (ask (Replace e)) = λ x m i. rw i (kept-replace e x m (subst Sorted i s))
    does held = kept-no held l (step (counted (Ok (length l))) l) s refl refl refl

-- ---- any list of calls

pub times-append : (g : Element → Bool) (xs ys : List Element) → times g (xs ++ ys) ≡ times g xs + times g ys
unfolding times
times-append g [] ys = omega arith
times-append g (x ∷ xs) ys = omega (arith, times-append g xs ys)

pub record Through (cs : List Call) (ss : List Said) (l m : List Element) : Type 0 where
  pub sorted : Sorted m
  pub fifo : (r : ℕ) → of_rank r l ++ of_rank r (brought cs ss) ≡ of_rank r (gone cs ss) ++ of_rank r m
  pub holds : (g : Element → Bool) → times g l + times g (brought cs ss) ≡ times g (gone cs ss) + times g m

-- one call, and then the others
pub through-step : (c : Call) (cs : List Call) (ss : List Said) (l m : List Element) (x : Step (List Element)) → Kept c l x → Through cs ss x.next m → Through (c ∷ cs) (x.said ∷ ss) l m
unfolding brought gone
through-step c cs ss l m x y t =
    record {
      sorted = t.sorted;
      fifo = λ r.
          let A = of_rank r (brought cs ss) in
          rw (rank-append r (came c x.said) (brought cs ss), rank-append r (went c x.said) (gone cs ss))
          (sym (append_assoc (of_rank r l) (of_rank r (came c x.said)) A) ∙ ap (λ (z : List Element). z ++ A) (y.fifo r)
          ∙ append_assoc (of_rank r (went c x.said)) (of_rank r x.next) A ∙ ap (λ (z : List Element). of_rank r (went c x.said) ++ z) (t.fifo r)
          ∙ sym (append_assoc (of_rank r (went c x.said)) (of_rank r (gone cs ss)) (of_rank r m)));
      holds = λ g.
          rw (times-append g (came c x.said) (brought cs ss), times-append g (went c x.said) (gone cs ss))
          (omega (arith, y.holds g, t.holds g));
    }

-- no call
pub through-none : (l : List Element) → Sorted l → Through [] [] l l
unfolding brought gone times
through-none l s = record { sorted = s; fifo = λ r. rank-still r l; holds = λ g. omega arith }

pub through : (k : Lay) (cs : List Call) (l : List Element) → Sorted l → Through cs (plain_says k cs l) l (plain_after k cs l)
unfolding plain_says plain_after
through k [] l s = through-none l s
through k (c ∷ cs) l s =
    let y = plain-kept k.ranks (ltb (length l) k.nodes) c l s in
    through-step c cs (plain_says k cs (plain k c l).next) l (plain_after k cs (plain k c l).next) (plain k c l) y (through k cs (plain k c l).next y.sorted)
