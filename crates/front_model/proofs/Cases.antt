-- The cases, computed.
use Rattle.laws.specs.Prelude.{Pop, ◌≡◌, arith, element, refl, untagged, ℕ, Ok, Some}
use Rattle.promise.specs.Prelude.{Least, answers, leaves}
use Rattle.front_model.specs.Cases.{case_equal, case_equal_answers, case_even, case_even_leaves, case_even_one, case_even_one_leaves, case_even_three, case_even_three_leaves, case_front, case_front_answers, case_front_leaves}
use Rattle.bucket_clock_model.specs.Lists.{coming, many}
use Rattle.front_model.specs.Front.{fresh, fronted, held, cycled}

pub case-front : answers (fronted 5 100) case_front (fresh 2) ≡ case_front_answers
unfolding answers fronted cycled many coming untagged
case-front = refl

pub case-front-leaves : leaves (fronted 5 100) case_front (fresh 2) ≡ case_front_leaves
unfolding leaves fronted cycled many coming untagged
case-front-leaves = refl

-- k = 2p is too few: a pop answers rank 1, and rank 0 is held
pub case-even-leaves : leaves (fronted 4 100) case_even (fresh 2) ≡ case_even_leaves
unfolding leaves fronted cycled many coming untagged
case-even-leaves = refl

pub case-even : (fronted 4 100 Pop case_even_leaves).said ≡ Ok (Some (element 1 5 0))
unfolding fronted many coming
case-even = refl

pub even-wrong : Least (λ f. held f case_even_leaves) Pop (fronted 4 100 Pop case_even_leaves).said → ⊥
unfolding fronted many coming
even-wrong h = let e : ◌≡◌ {A = ℕ} 1 0 = h refl in omega arith

pub even-wrong-one : (leaves (fronted 2 100) case_even_one (fresh 1) ≡ case_even_one_leaves) × (Least (λ f. held f case_even_one_leaves) Pop (fronted 2 100 Pop case_even_one_leaves).said → ⊥)
unfolding leaves fronted cycled many coming untagged
even-wrong-one = (refl, λ h. let e : ◌≡◌ {A = ℕ} 1 0 = h refl in omega arith)

pub even-wrong-three : (leaves (fronted 6 100) case_even_three (fresh 3) ≡ case_even_three_leaves) × (Least (λ f. held f case_even_three_leaves) Pop (fronted 6 100 Pop case_even_three_leaves).said → ⊥)
unfolding leaves fronted cycled many coming untagged
even-wrong-three = (refl, λ h. let e : ◌≡◌ {A = ℕ} 1 0 = h refl in omega arith)

-- equal ranks do not leave first in, first out
pub case-equal : answers (fronted 3 100) case_equal (fresh 1) ≡ case_equal_answers
unfolding answers fronted cycled many coming untagged
case-equal = refl
