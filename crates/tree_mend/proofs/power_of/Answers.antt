-- `tree_mend::power_of` meets its contract.
use Rattle.laws.specs.Prelude.{◌<◌, ◌^◌, ◌≡◌, arith, refl, subst, sym, ℕ, ⊎_elim}
use lib.Count.{count_trailing_zeros}
use Rattle.tree_mend.proofs.power_of.Goals as goal

abbrev Power : ℕ → Type 0
Power m = (m ≡ 2 ^ count_trailing_zeros 64 m) × (count_trailing_zeros 64 m < 64)

two : Power 2
unfolding count_trailing_zeros
two = (refl, omega arith)

four : Power 4
unfolding count_trailing_zeros
four = (refl, omega arith)

eight : Power 8
unfolding count_trailing_zeros
eight = (refl, omega arith)

pub returns : goal.returns
returns c = ⊎_elim (λ e. subst Power (sym e) two) (λ d. ⊎_elim (λ e. subst Power (sym e) four) (λ e. subst Power (sym e) eight) d) c.requires
