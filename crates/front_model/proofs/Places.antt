-- The front's words and its list: what is written is read again.
use Rattle.laws.specs.Prelude.{Element, List, [], ◌%◌, ◌*◌, ◌+◌, ◌/◌, ◌<◌, ◌∙◌, ◌∷◌, ◌≡◌, ◌≤◌, ap, ap₂, arith, blank, element_numbers, element_words, get_or, length, not-suc-le-zero, refl, suc, zero, ℕ}
use Rattle.strip.proofs.Words.{read-numbers}
use Rattle.bucket_model.proofs.Laws.{fill-at, fill-length}
use Rattle.bucket_model.specs.declared.Lay.{Lay}
use Rattle.bucket_model.specs.Prelude.{word}
use Rattle.front_model.specs.Desk.{front_in, front_of, front_word, front_words, place_at, place_count, places_from}

pub places-length : (w : List ℕ) (i n : ℕ) → length (places_from w i n) ≡ n
unfolding places_from
places-length w i zero = refl
places-length w i (suc n) = ap suc (places-length w (suc i) n)

-- where there is a place, it is the first
pub places-first : (w : List ℕ) (n : ℕ) → (n ≡ 0 → ⊥) → (t : List Element) × (places_from w 0 n ≡ place_at w 0 ∷ t)
unfolding places_from
places-first w zero h = absurd (h refl)
places-first w (suc n) h = (places_from w 1 n, refl)

-- places that are those of a list, one by one
places-are : (w : List ℕ) (i : ℕ) (l : List Element) → ((j : ℕ) → j < length l → place_at w (i + j) ≡ get_or l j blank) → places_from w i (length l) ≡ l
unfolding places_from
places-are w i [] h = refl
places-are w i (x ∷ l) h =
    let a : i + 0 ≡ i = omega arith in
    ap₂ (λ (y : Element) (t : List Element). y ∷ t) (rw a at (h 0 (omega arith)))
    (places-are w (suc i) l (λ j b. let c : suc i + j ≡ i + suc j = omega arith in rw c (h (suc j) (omega arith))))

pub past_end : (l : List Element) (i : ℕ) → length l ≤ i → get_or l i blank ≡ blank
past_end [] i h = refl
past_end (x ∷ l) zero h = absurd (not-suc-le-zero h)
past_end (x ∷ l) (suc i) h = past_end l i (omega arith)

module _ (k : Lay) (l : List Element) (w : List ℕ) (long : front_words k ≤ length w) where
  cell-is : (j i n a : ℕ) → j < front_words k → j ≡ suc a → a / 3 ≡ i → a % 3 ≡ n → word (front_of k l w) j ≡ get_or (element_numbers (get_or l i blank)) n 0
  unfolding front_of
  cell-is j i n a h e d r =
      fill-at (front_word l) (front_words k) w j h long ∙ ap (front_word l) e ∙ ap₂ (λ (x y : ℕ). get_or (element_numbers (get_or l x blank)) y 0) d r

  pub front-count : word (front_of k l w) 0 ≡ length l
  unfolding front_of
  front-count = fill-at (front_word l) (front_words k) w 0 (omega arith) long

  pub front-place : (i : ℕ) → i < place_count k → place_at (front_of k l w) i ≡ get_or l i blank
  front-place i h =
      read-numbers (front_of k l w) (1 + 3 * i) (get_or l i blank) (λ j b. cell-is (1 + 3 * i + j) i j (3 * i + j) (omega arith) (omega arith) (omega arith) (omega arith))

  -- READ AGAIN
  pub front-in : length l ≤ place_count k → front_in (front_of k l w) ≡ l
  front-in h =
      ap (places_from (front_of k l w) 0) front-count
      ∙ places-are (front_of k l w) 0 l (λ j b. let e : 0 + j ≡ j = omega arith in rw e (front-place j (omega arith)))

  pub front_long : length (front_of k l w) ≡ length w
  unfolding front_of
  front_long = fill-length (front_word l) (front_words k) w
