-- Shapes, floors and ceilings at their edges: the tests computed, on slices of any contents.
use Rattle.laws.specs.Prelude.{All, BadShape, Bool, List, ◌&&◌, ◌∙◌, ◌≡◌, ◌≤◌, all_map, ap, arith, cond, false, inl, le-leb, length, number_of, refl, sum_to, true, ℕ}
use Rattle.bucket_model.specs.Prelude.{Outcome}
use Rattle.ports_model.specs.Prelude.{Edge, Shape, Shaped, all_to, bit_words, cleared, edge_table, is_shaped, limits_ok, shape_of, shape_ok, store_words}
use Rattle.ports_model.specs.Edge.{Right}
use Rattle.ports_model.proofs.Exactly.{exactly-clear}

-- by slices just long enough
abbrev number : Shape → List ℕ → ℕ
number s lim = cond (shape_ok s (bit_words s) (store_words s) && limits_ok s lim) 0 1

-- a longer slice passes the same tests
same_shape : (s : Shape) (b w : List ℕ) → bit_words s ≤ length b → store_words s ≤ length w → is_shaped s b w ≡ shape_ok s (bit_words s) (store_words s)
unfolding shape_ok
same_shape s b w p q =
    rw (le-leb (bit_words s) (length b) p, le-leb (store_words s) (length w) q, le-leb (bit_words s) (bit_words s) (omega arith), le-leb (store_words s) (store_words s) (omega arith)) refl

by-test : (t : Bool) (x y : Outcome) → number_of x.answer ≡ 0 → number_of y.answer ≡ 1 → number_of (cond t x y).answer ≡ cond t 0 1
by-test true x y p q = p
by-test false x y p q = q

clear-says : (s : Shape) (lim b w : List ℕ) → bit_words s ≤ length b → store_words s ≤ length w → number_of (cleared s lim b w).answer ≡ number s lim
unfolding cleared
clear-says s lim b w p q = rw (same_shape s b w p q) (by-test (shape_ok s (bit_words s) (store_words s) && limits_ok s lim) _ _ refl refl)

refuses : (s : Shape) (lim b w : List ℕ) → (Shaped s b w → ⊥) → number_of (cleared s lim b w).answer ≡ 1
refuses s lim b w h = ap (λ (o : Outcome). number_of o.answer) ((exactly-clear s lim b w).always BadShape (inl ((λ g. h g.0), refl)))

-- an edge whose numbers are those of the definitions
abbrev Computed : Edge → Type 0
Computed e = (bit_words (shape_of e) ≡ e.bits) × (store_words (shape_of e) ≡ e.words) × (number (shape_of e) e.limits ≡ e.says)

right : (e : Edge) → Computed e → Right e
right e c =
    record {
      long = λ b w p q. clear-says (shape_of e) e.limits b w (omega (arith, c.0)) (omega (arith, c.1)) ∙ c.2;
      few_bits = λ b w p. refuses (shape_of e) e.limits b w (λ h. omega (arith, c.0, h.bits));
      few_words = λ b w p. refuses (shape_of e) e.limits b w (λ h. omega (arith, c.1, h.words));
    }

pub edges : All Right edge_table
unfolding edge_table shape_ok limits_ok all_to sum_to
edges = all_map Computed Right right edge_table ((refl, refl, refl), ((refl, refl, refl), ((refl, refl, refl), ((refl, refl, refl), ((refl, refl, refl), ((refl, refl, refl), ((refl, refl, refl), ((refl, refl, refl), ((refl, refl, refl), ((refl, refl, refl), ((refl, refl, refl), ((refl, refl, refl), ((refl, refl, refl), ((refl, refl, refl), ((refl, refl, refl), ((refl, refl, refl), ((refl, refl, refl), ((refl, refl, refl), ((refl, refl, refl), ((refl, refl, refl), ((refl, refl, refl), ((refl, refl, refl), tt))))))))))))))))))))))
