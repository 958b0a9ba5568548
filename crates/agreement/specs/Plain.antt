-- A plain list of ranks, the lowest first: what "lower rank leaves first" comes to where nothing is refused; and with its refusals, where it has room for so many.
use Rattle.std.specs.Prelude.{◌∷◌, ◌≡◌}
use Rattle.laws.specs.Prelude.{All, Answer, Idle, List, Pop, Push, Replace, Request, [], cond, eqb, length, ltb, number_of, rank_of, suc, untagged, zero, ℕ}
use Rattle.promise.specs.Prelude.{Step, step}

unfoldable pub insert : ℕ → List ℕ → List ℕ
insert r [] = r ∷ []
insert r (q ∷ l) = cond (ltb r q) (r ∷ q ∷ l) (q ∷ insert r l)

-- the rank that a request is answered, 0 where it is answered none, and the list left. Replace is a pop and then a push
unfoldable pub plain : Request → List ℕ → Step ℕ (List ℕ)
plain Idle l = step 0 l
plain (Push x) l = step 0 (insert x.rank.0 l)
plain Pop [] = step 0 []
plain Pop (r ∷ l) = step r l
plain (Replace x) [] = step 0 []
plain (Replace x) (r ∷ l) = step r (insert x.rank.0 l)

-- none of these answers is a refusal
abbrev pub Taken : List Answer → Type 0
Taken said = All (λ a. number_of a ≡ 0) said

-- ---- "refusals and ranks .. of the plain list in rank order" (02 [5])
-- the number that a request is answered where h are held and there is room for c: 7, then 5 or 6
abbrev pub number_for : ℕ → Request → ℕ → ℕ
number_for c Idle h = 0
number_for c (Push x) h = cond (untagged x) 7 (cond (ltb h c) 0 5)
number_for c Pop h = cond (eqb h 0) 6 0
number_for c (Replace x) h = cond (untagged x) 7 (cond (eqb h 0) 6 0)

-- a refused request is answered rank 0 and leaves the list
abbrev pub numbered : ℕ → Request → List ℕ → Step (ℕ × ℕ) (List ℕ)
numbered zero r l = step (0, (plain r l).said) (plain r l).next
numbered (suc n) r l = step (suc n, 0) l

-- number and rank, of a list that refuses by a number for each request, by how many are held
unfoldable pub plainly_by : (Request → ℕ → ℕ) → Request → List ℕ → Step (ℕ × ℕ) (List ℕ)
plainly_by number r l = numbered (number r (length l)) r l

-- .. of one with room for c
unfoldable pub plainly : ℕ → Request → List ℕ → Step (ℕ × ℕ) (List ℕ)
plainly c r l = numbered (number_for c r (length l)) r l

-- what is answered: the number, and the rank
abbrev pub number_rank : Answer → ℕ × ℕ
number_rank a = (number_of a, rank_of a)

-- none of these numbers is 5
abbrev pub Unfull : List (ℕ × ℕ) → Type 0
Unfull said = All (λ a. a.0 ≡ 5 → ⊥) said
