-- How lists and their counts change.
use Rattle.laws.specs.Prelude.{All, Bool, Element, List, [], ◌++◌, ◌+◌, ◌∷◌, ◌≡◌, ◌≤◌, ap, arith, cond, false, le-ltb, length, ltb, ltb-false, refl, suc, true, ℕ}
use Rattle.bucket_model.specs.Prelude.{Sorted, insert}
use Rattle.bucket_model.proofs.Laws.{insert-sorted}
use Rattle.promise.specs.Prelude.{always, hit, lower}
use Rattle.std.specs.Prelude.{Option}
use Rattle.std.specs.Prelude.{None, Some}
use Rattle.bucket_clock_model.specs.Lists.{arrives, at, but_last, coming, first, last, left, many, moved, placed, taken}

pub hit-le : (b : Bool) → hit b ≤ 1
hit-le true = omega arith
hit-le false = omega arith

pub at-le : (f : Element → Bool) (x : Option Element) → at f x ≤ 1
at-le f None = omega arith
at-le f (Some x) = hit-le (f x)

pub many-le : (f : Element → Bool) (l : List Element) → many f l ≤ length l
unfolding many
many-le f [] = omega arith
many-le f (x ∷ l) = omega (arith, hit-le (f x), many-le f l)

pub many-always : (l : List Element) → many always l ≡ length l
unfolding many
many-always [] = refl
many-always (x ∷ l) = omega (arith, many-always l)

insert-many : (f : Element → Bool) (e : Element) (l : List Element) → many f (insert e l) ≡ hit (f e) + many f l
unfolding many
insert-many f e [] = refl
insert-many f e (x ∷ l) = go (ltb e.rank.0 x.rank.0) (insert-many f e l)
  where
    go : (t : Bool) → many f (insert e l) ≡ hit (f e) + many f l → many f (cond t (e ∷ x ∷ l) (x ∷ insert e l)) ≡ hit (f e) + (hit (f x) + many f l)
    go true ih = refl
    go false ih = omega arith

pub placed-many : (f : Element → Bool) (x : Option Element) (l : List Element) → many f (placed x l) ≡ at f x + many f l
placed-many f None l = omega arith
placed-many f (Some x) l = insert-many f x l

pub left-many : (f : Element → Bool) (t : Bool) (l : List Element) → many f (left t l) + at f (taken t l) ≡ many f l
unfolding many
left-many f false l = omega arith
left-many f true [] = refl
left-many f true (x ∷ l) = omega arith

pub last-many : (f : Element → Bool) (l : List Element) → many f (but_last l) + at f (last l) ≡ many f l
unfolding many
last-many f [] = refl
last-many f (x ∷ []) = omega arith
last-many f (x ∷ y ∷ l) = omega (arith, last-many f (y ∷ l))

-- ---- the way

pub coming-le : (f : Element → Bool) (w : List (Option Element)) → coming f w ≤ length w
unfolding coming
coming-le f [] = omega arith
coming-le f (y ∷ w) = omega (arith, at-le f y, coming-le f w)

pub coming-end : (f : Element → Bool) (w : List (Option Element)) (z : Option Element) → coming f (w ++ z ∷ []) ≡ coming f w + at f z
unfolding coming
coming-end f [] z = omega arith
coming-end f (y ∷ w) z = omega (arith, coming-end f w z)

pub moved-coming : (f : Element → Bool) (w : List (Option Element)) (z : Option Element) → coming f (moved w z) + at f (arrives w z) ≡ coming f w + at f z
unfolding coming
moved-coming f [] z = omega arith
moved-coming f (y ∷ w) z = omega (arith, coming-end f w z)

end-length : (w : List (Option Element)) (z : Option Element) → length (w ++ z ∷ []) ≡ suc (length w)
end-length [] z = refl
end-length (y ∷ w) z = ap suc (end-length w z)

pub moved_length : (w : List (Option Element)) (z : Option Element) → length (moved w z) ≡ length w
moved_length [] z = refl
moved_length (y ∷ w) z = end-length w z

-- ---- order

pub placed-sorted : (x : Option Element) (l : List Element) → Sorted l → Sorted (placed x l)
placed-sorted None l s = s
placed-sorted (Some x) l s = insert-sorted x l s

pub left-sorted : (t : Bool) (l : List Element) → Sorted l → Sorted (left t l)
left-sorted false l s = s
left-sorted true [] s = s
left-sorted true (x ∷ l) s = s.1

last-all : (P : Element → Type 0) (l : List Element) → All P l → All P (but_last l)
last-all P [] h = tt
last-all P (x ∷ []) h = tt
last-all P (x ∷ y ∷ l) h = (h.0, last-all P (y ∷ l) h.1)

pub last-sorted : (l : List Element) → Sorted l → Sorted (but_last l)
last-sorted [] s = tt
last-sorted (x ∷ []) s = tt
last-sorted (x ∷ y ∷ l) s = (last-all (λ z. x.rank.0 ≤ z.rank.0) (y ∷ l) s.0, last-sorted (y ∷ l) s.1)

-- none of a list that has no rank below r is below q, where q is no higher
none-low : (q r : ℕ) (l : List Element) → q ≤ r → All (λ z. r ≤ z.rank.0) l → many (lower q) l ≡ 0
unfolding many
none-low q r [] h a = refl
none-low q r (x ∷ l) h a = omega (arith, ap hit (le-ltb x.rank.0 q (omega (arith, a.0))), none-low q r l h a.1)

-- where the first is not below q, none is
pub first-high : (q : ℕ) (l : List Element) → Sorted l → at (lower q) (first l) ≡ 0 → many (lower q) l ≡ 0
unfolding many
first-high q [] s e = refl
first-high q (x ∷ l) s e = go (ltb x.rank.0 q) refl e
  where
    go : (b : Bool) → ltb x.rank.0 q ≡ b → hit b ≡ 0 → hit (ltb x.rank.0 q) + many (lower q) l ≡ 0
    go true p e = absurd (omega arith)
    go false p e = omega (arith, ap hit p, none-low q x.rank.0 l (ltb-false x.rank.0 q p) s.0)

-- where the last is below q, all are
pub last-low : (q : ℕ) (l : List Element) → Sorted l → at (lower q) (last l) ≡ 1 → many (lower q) (but_last l) ≡ length (but_last l)
unfolding many
last-low q [] s e = refl
last-low q (x ∷ []) s e = refl
last-low q (x ∷ y ∷ l) s e = go (ltb x.rank.0 q) refl (last-low q (y ∷ l) s.1 e)
  where
    go : (b : Bool) → ltb x.rank.0 q ≡ b → many (lower q) (but_last (y ∷ l)) ≡ length (but_last (y ∷ l)) → hit (ltb x.rank.0 q) + many (lower q) (but_last (y ∷ l)) ≡ suc (length (but_last (y ∷ l)))
    go true p ih = omega (arith, ap hit p)
    go false p ih =
        absurd (omega (arith, e, last-many (lower q) (y ∷ l), none-low q x.rank.0 (y ∷ l) (ltb-false x.rank.0 q p) s.0))
