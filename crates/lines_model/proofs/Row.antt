-- A line's words: what is read of them, and what a line written leaves of the others.
use Rattle.laws.specs.Prelude.{Element, List, [], ◌*◌, ◌++◌, ◌+◌, ◌<◌, ◌∙◌, ◌∷◌, ◌≡◌, ◌≤◌, ◌⊎◌, ap, ap₂, arith, element_in, get_or-set_other, get_or-set_same, inl, inr, length, refl, set, suc, sym, write_element, zero, ℕ}
use Rattle.strip.proofs.Words.{read-local, write-apart, write-back, write-length, write-past}
use Rattle.lines_model.specs.Layout.{row_in, row_set, word}

pub same : (w : List ℕ) (a v : ℕ) → a < length w → word (set w a v) a ≡ v
same w a v h = get_or-set_same w a v 0 h

pub other : (w : List ℕ) (a v j : ℕ) → (j ≡ a → ⊥) → word (set w a v) j ≡ word w j
other w a v j h = get_or-set_other w a j v 0 h

-- ---- a place

-- outside a stretch of n places from word a on
abbrev pub Off : ℕ → ℕ → ℕ → Type 0
Off a n i = (i < a) ⊎ (a + 3 * n ≤ i)

pub place_other : (w : List ℕ) (a : ℕ) (x : Element) (i : ℕ) → Off a 1 i → word (write_element w a x) i ≡ word w i
place_other w a x i h = write-apart w a i x h

-- ---- a row

pub row-length : (w : List ℕ) (a n : ℕ) → length (row_in w a n) ≡ n
unfolding row_in
row-length w a zero = refl
row-length w a (suc n) = ap suc (row-length w (a + 3) n)

pub row-ext : (w v : List ℕ) (a n : ℕ) → ((i : ℕ) → a ≤ i → i < a + 3 * n → word w i ≡ word v i) → row_in w a n ≡ row_in v a n
unfolding row_in
row-ext w v a zero h = refl
row-ext w v a (suc n) h =
    ap₂ (λ (x : Element) (l : List Element). x ∷ l)
    (read-local v w a (λ i p q. h i p (omega arith)))
    (row-ext w v (a + 3) n (λ i p q. h i (omega arith) (omega arith)))

pub set-length : (w : List ℕ) (a : ℕ) (xs : List Element) → length (row_set w a xs) ≡ length w
unfolding row_set
set-length w a [] = refl
set-length w a (x ∷ xs) = set-length (write_element w a x) (a + 3) xs ∙ write-length w a x

pub set_other : (w : List ℕ) (a : ℕ) (xs : List Element) (i : ℕ) → Off a (length xs) i → word (row_set w a xs) i ≡ word w i
unfolding row_set
set_other w a [] i h = refl
set_other w a (x ∷ xs) i (inl h) = set_other (write_element w a x) (a + 3) xs i (inl (omega arith)) ∙ place_other w a x i (inl h)
set_other w a (x ∷ xs) i (inr h) = set_other (write_element w a x) (a + 3) xs i (inr (omega arith)) ∙ place_other w a x i (inr (omega arith))

-- what is written is read
pub set_here : (w : List ℕ) (a : ℕ) (xs : List Element) → a + 3 * length xs ≤ length w → row_in (row_set w a xs) a (length xs) ≡ xs
unfolding row_in row_set
set_here w a [] h = refl
set_here w a (x ∷ xs) h =
    ap₂ (λ (y : Element) (l : List Element). y ∷ l)
    (read-local (write_element w a x) (row_set (write_element w a x) (a + 3) xs) a (λ i p q. set_other (write_element w a x) (a + 3) xs i (inl (omega arith)))
    ∙ write-back w a x (omega arith))
    (set_here (write_element w a x) (a + 3) xs (omega (arith, write-length w a x)))

-- the last of a row
pub set_snoc : (w : List ℕ) (a : ℕ) (xs : List Element) (y : Element) → row_set w a (xs ++ y ∷ []) ≡ write_element (row_set w a xs) (a + 3 * length xs) y
unfolding row_set
set_snoc w a [] y = ap (λ (b : ℕ). write_element w b y) (omega arith)
set_snoc w a (x ∷ xs) y = set_snoc (write_element w a x) (a + 3) xs y ∙ ap (λ (b : ℕ). write_element (row_set (write_element w a x) (a + 3) xs) b y) (omega arith)

-- n places, and then the others
pub row-split : (w : List ℕ) (a n : ℕ) (xs : List Element) (y : Element) → row_in w a n ≡ xs ++ y ∷ [] → row_in w a (length xs) ≡ xs
unfolding row_in
row-split w a zero [] y e = refl
row-split w a zero (x ∷ xs) y e = let z : ◌≡◌ {A = ℕ} 0 1 = cc in absurd (omega arith)
row-split w a (suc n) [] y e = refl
row-split w a (suc n) (x ∷ xs) y e =
    let p : element_in w a ≡ x = cc in
    let q : row_in w (a + 3) n ≡ xs ++ y ∷ [] = cc in
    ap₂ (λ (y : Element) (l : List Element). y ∷ l) p (row-split w (a + 3) n xs y q)

-- a word before a row may be written after it
pub set_past : (w : List ℕ) (i v a : ℕ) (xs : List Element) → i < a → row_set (set w i v) a xs ≡ set (row_set w a xs) i v
unfolding row_set
set_past w i v a [] h = refl
set_past w i v a (x ∷ xs) h = ap (λ (u : List ℕ). row_set u (a + 3) xs) (sym (write-past w a i v x (inl h))) ∙ set_past (write_element w a x) i v (a + 3) xs (omega arith)

pub row-past : (w : List ℕ) (i v a n : ℕ) → i < a → row_in (set w i v) a n ≡ row_in w a n
row-past w i v a n h = row-ext (set w i v) w a n (λ j p q. other w i v j (λ e. omega arith))
