-- For the code of the scans.
use Rattle.laws.specs.Prelude.{Bool, Element, List, ◌*◌, ◌+◌, ◌<◌, ◌∙◌, ◌≡◌, ap, arith, element_in, element_words, false, get_or, key, le_of_suc-le-suc, leb, ltb, ltb-false, ltb-true, ne_eqb, not-suc-le-zero, precedes, refl, suc, sym, true, turn, zero, ℕ}
use Rattle.strip.proofs.Order.{turn-before, turn-upto}
use Rattle.cluster_model.specs.Prelude.{place_at, place_by, place_of, place_words, row_of, word}
use Rattle.cluster_node.specs.Full.{turn_at}
use Rattle.cluster_node.specs.Scan.{lower_than, high_as}

pub lower-none : (ws : List ℕ) (i k : ℕ) → get_or ws (i + element_words) 0 ≡ 0 → false ≡ lower_than (place_of ws i) (place_of ws k)
unfolding lower_than place_of place_by
lower-none ws i k e = rw e

pub lower-over : (ws : List ℕ) (i k : ℕ) → (get_or ws (i + element_words) 0 ≡ 0 → ⊥) → get_or ws (k + element_words) 0 ≡ 0 → true ≡ lower_than (place_of ws i) (place_of ws k)
unfolding lower_than place_of place_by
lower-over ws i k n e = rw (ne_eqb (get_or ws (i + element_words) 0) 0 n, e)

pub precedes-turn : (a b : Element) → a.tag.0 < 4294967296 → b.tag.0 < 4294967296 → precedes a b ≡ ltb (turn a) (turn b)
precedes-turn a b s t = go (ltb (turn a) (turn b)) refl
  where
    go : (c : Bool) → ltb (turn a) (turn b) ≡ c → precedes a b ≡ c
    go true e = turn-before a b s t (ltb-true (turn a) (turn b) e)
    go false e = turn-upto b a t s (ltb-false (turn a) (turn b) e)

pub lower-both : (ws : List ℕ) (i k t u : ℕ) → ((i : ℕ) → word ws i < 4294967296) → t ≡ turn_at ws i → u ≡ turn_at ws k → (get_or ws (i + element_words) 0 ≡ 0 → ⊥) → (get_or ws (k + element_words) 0 ≡ 0 → ⊥)
    → ltb t u ≡ lower_than (place_of ws i) (place_of ws k)
unfolding lower_than place_of place_by turn_at
lower-both ws i k t u small e f n n' =
    rw (e, f, ne_eqb (get_or ws (i + element_words) 0) 0 n, ne_eqb (get_or ws (k + element_words) 0) 0 n') (sym (precedes-turn (element_in ws i) (element_in ws k) (small (i + 1)) (small (k + 1))))

pub high-none : (ws : List ℕ) (i k : ℕ) → get_or ws (i + element_words) 0 ≡ 0 → false ≡ high_as (place_of ws i) (place_of ws k)
unfolding high_as place_of place_by
high-none ws i k e = rw e

pub high-over : (ws : List ℕ) (i k : ℕ) → (get_or ws (i + element_words) 0 ≡ 0 → ⊥) → get_or ws (k + element_words) 0 ≡ 0 → true ≡ high_as (place_of ws i) (place_of ws k)
unfolding high_as place_of place_by
high-over ws i k n e = rw (ne_eqb (get_or ws (i + element_words) 0) 0 n, e)

pub high-both : (ws : List ℕ) (i k : ℕ) → (get_or ws (i + element_words) 0 ≡ 0 → ⊥) → (get_or ws (k + element_words) 0 ≡ 0 → ⊥) → leb (get_or ws k 0) (get_or ws i 0) ≡ high_as (place_of ws i) (place_of ws k)
unfolding high_as place_of place_by key
high-both ws i k n n' = rw (ne_eqb (get_or ws (i + element_words) 0) 0 n, ne_eqb (get_or ws (k + element_words) 0) 0 n')

-- ---- the loop
pub row-place : (n : ℕ) (ws : List ℕ) (o j : ℕ) → j < n → place_at (row_of place_of place_words n ws o) j ≡ place_of ws (o + j * place_words)
unfolding place_at row_of
row-place zero ws o j h = absurd (not-suc-le-zero h)
row-place (suc n) ws o zero h =
    let at : o ≡ o + 0 * place_words = omega arith in
    ap (place_of ws) at
row-place (suc n) ws o (suc j) h =
    let at : o + place_words + j * place_words ≡ o + suc j * place_words = omega arith in
    row-place n ws (o + place_words) j (le_of_suc-le-suc h) ∙ ap (place_of ws) at
