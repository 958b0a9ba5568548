-- What is due on the way, from cycle to cycle.
use Rattle.laws.specs.Prelude.{Bool, Element, List, [], ◌++◌, ◌+◌, ◌<◌, ◌∷◌, ◌≡◌, ◌≤◌, arith, length, refl, suc, zero, ℕ}
use Rattle.bucket_clock_model.proofs.Counts.{moved-coming, moved_length}
use Rattle.std.specs.Prelude.{Option}
use Rattle.bucket_clock_model.specs.Lists.{arrives, at, coming, moved}
use Rattle.front_model.specs.Front.{due}

-- what is due before the last cycle does not see what joins at the end ..
due-before : (f : Element → Bool) (j : ℕ) (w : List (Option Element)) (z : Option Element) → j ≤ length w → due j f (w ++ z ∷ []) ≡ due j f w
unfolding due
due-before f zero w z h = refl
due-before f (suc j) [] z h = absurd (omega arith)
due-before f (suc j) (y ∷ w) z h = omega (arith, due-before f j w z (omega arith))

due_all : (f : Element → Bool) (j : ℕ) (w : List (Option Element)) → length w ≤ j → due j f w ≡ coming f w
unfolding due coming
due_all f zero [] h = refl
due_all f zero (y ∷ w) h = absurd (omega arith)
due_all f (suc j) [] h = refl
due_all f (suc j) (y ∷ w) h = omega (arith, due_all f j w (omega arith))

pub moved-due : (f : Element → Bool) (j : ℕ) (w : List (Option Element)) (z : Option Element) → j < length w → due j f (moved w z) + at f (arrives w z) ≡ due (suc j) f w
unfolding due
moved-due f j [] z h = absurd (omega arith)
moved-due f j (y ∷ w) z h = omega (arith, due-before f j w z (omega arith))

-- .. and in the last cycle all is due
pub moved-last : (f : Element → Bool) (j : ℕ) (w : List (Option Element)) (z : Option Element) → length w ≤ j → due j f (moved w z) + at f (arrives w z) ≡ coming f w + at f z
moved-last f j w z h = omega (arith, due_all f j (moved w z) (omega (arith, moved_length w z)), moved-coming f w z)

pub due-end : (f : Element → Bool) (j : ℕ) (w : List (Option Element)) → length w ≤ j → due j f w ≡ coming f w
due-end f j w h = due_all f j w h
