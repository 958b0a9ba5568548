-- A list with one more at its end.
use Rattle.std.specs.Prelude.{List, [], ◌∷◌, ◌++◌}
use Rattle.laws.specs.Lists.{All, all_map, all_both}

module _ {A : Type 0} where
  pub all_snoc : (P : A → Type 0) (xs : List A) (y : A) → All P xs → P y → All P (xs ++ y ∷ [])
  all_snoc P [] y h p = (p, tt)
  all_snoc P (x ∷ xs) y h p = (h.0, all_snoc P xs y h.1 p)

  -- what follows from two facts of every element
  pub all-map-both : (P Q R : A → Type 0) → ((a : A) → P a → Q a → R a) → (xs : List A) → All P xs → All Q xs → All R xs
  all-map-both P Q R f xs h k = all_map (λ a. P a × Q a) R (λ a p. f a p.0 p.1) xs (all_both P Q xs h k)
