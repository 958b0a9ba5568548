-- Every line stays sorted and neat: what is to be done at a line does to its list what it says, and leaves the others.
use Rattle.laws.specs.Prelude.{All, Element, List, Upd, [], ◌*◌, ◌++◌, ◌+◌, ◌-◌, ◌<◌, ◌∙◌, ◌∷◌, ◌≡◌, ◌≤◌, ap, arith, blank, dec_lt, element_in, inl, inr, is-upd, length, length-append, length-set, mul-le-mul_right, set, subst, suc, sym, upd, ℕ, ℕ_discrete, ⊎_elim}
use Rattle.strip.proofs.Words.{blank-words, write-back}
use Rattle.lines_model.proofs.Row.{Off, other, row-ext, row-past, row-split, same, set_here, set-length, set_other, set_snoc}
use Rattle.lines_model.specs.Causes.{Own, Shaped}
use Rattle.lines_model.specs.Layout.{moved, put_in, row_at, row_in, Rows, row_set, store_words, without, word}
use Rattle.lines_model.specs.Promise.{Sound}
use Rattle.lines_model.specs.Rules.{counted, Put, Take, worked}
use Rattle.promise.proofs.FirstIn.{insert_all, insert-length, insert-sorted}
use Rattle.promise.specs.FirstIn.{insert, Sorted}

-- ---- places of lines

pub row_before : (k : Rows) (l j : ℕ) → l < j → row_at k l + 3 * k.places ≤ row_at k j
row_before k l j h = omega (arith, mul-le-mul_right k.places h)

pub row_within : (k : Rows) (l : ℕ) → l < k.lines → row_at k l + 3 * k.places ≤ store_words k
row_within k l h = omega (arith, mul-le-mul_right k.places h)

-- ---- one line changed

-- w' is w but for the count and the words of line l
pub record Changed (k : Rows) (w w' : List ℕ) (l : ℕ) (xs : List Element) : Type 0 where
  pub long : length w' ≡ length w
  pub count : word w' l ≡ length xs
  pub fit : length xs ≤ k.places
  pub row : row_in w' (row_at k l) (length xs) ≡ xs
  pub neat : (i : ℕ) → row_at k l + 3 * length xs ≤ i → i < row_at k l + 3 * k.places → word w' i ≡ 0
  pub else : (i : ℕ) → (i ≡ l → ⊥) → Off (row_at k l) k.places i → word w' i ≡ word w i

module _ (k : Rows) (w : List ℕ) (m : ℕ → List Element) (s : Sound k w m) (l : ℕ) (h : l < k.lines) where
  module _ (w' : List ℕ) (xs : List Element) (c : Changed k w w' l xs) (so : Sorted xs) (ow : All (Own k l) xs) where
    abbrev u : Upd m (upd m l xs) l xs
    u = is-upd m l xs

    -- .. at line l, and at another
    by : (P : ℕ → List Element → Type 0) → P l xs → ((j : ℕ) → j < k.lines → (j ≡ l → ⊥) → P j (m j)) → (j : ℕ) → j < k.lines → P j (upd m l xs j)
    by P p q j b = elim (ℕ_discrete j l) [
      | yes e ↦ subst (λ (i : ℕ). P i (upd m l xs i)) (sym e) (subst (P l) (sym (is-upd m l xs).here) p)
      | no e ↦ subst (P j) (sym ((is-upd m l xs).else j e)) (q j b e)
    ]

    -- the words of another line
    away : (j : ℕ) → j < k.lines → (j ≡ l → ⊥) → (i : ℕ) → row_at k j ≤ i → i < row_at k j + 3 * k.places → word w' i ≡ word w i
    away j b e i p q = elim (dec_lt j l) [
      | yes d ↦ c.else i (λ z. omega arith) (inl (omega (arith, row_before k j l d)))
      | no d ↦ c.else i (λ z. omega arith) (inr (omega (arith, row_before k l j (omega arith))))
    ]

    pub changed : Sound k w' (upd m l xs)
    changed =
        record {
          shaped = subst (Shaped k) (sym c.long) s.shaped;
          count = by (λ j ys. word w' j ≡ length ys) c.count (λ j b e. c.else j e (inl (omega arith)) ∙ s.count j b);
          fit = by (λ j ys. length ys ≤ k.places) c.fit (λ j b e. s.fit j b);
          row = by (λ j ys. row_in w' (row_at k j) (length ys) ≡ ys) c.row
              (λ j b e. row-ext w' w (row_at k j) (length (m j)) (λ i p q. away j b e i p (omega (arith, s.fit j b))) ∙ s.row j b);
          neat = by (λ j ys. (i : ℕ) → row_at k j + 3 * length ys ≤ i → i < row_at k j + 3 * k.places → word w' i ≡ 0) c.neat
              (λ j b e i p q. away j b e i (omega arith) q ∙ s.neat j b i p q);
          sorted = by (λ j ys. Sorted ys) so (λ j b e. s.sorted j b);
          own = by (λ j ys. All (Own k j) ys) ow (λ j b e. s.own j b);
        }

  -- ---- put

  module _ (x : Element) (room : length (m l) < k.places) (mine : Own k l x) where
    abbrev W : List ℕ
    W = set w l (word w l + 1)

    abbrev ys : List Element
    ys = insert x (m l)

    room-all : k.lines + 3 * (k.lines * k.places) ≤ length w
    room-all = s.shaped.words

    put_is : worked k (Put l x) (counted k (Put l x) w) ≡ row_set W (row_at k l) ys
    unfolding worked counted put_in
    put_is =
        let e : word W l - 1 ≡ length (m l) = omega (arith, same w l (word w l + 1) (omega (arith, room-all)), s.count l h) in
        ap (λ (n : ℕ). row_set W (row_at k l) (insert x (row_in W (row_at k l) n))) e
        ∙ ap (λ (r : List Element). row_set W (row_at k l) (insert x r)) (row-past w l (word w l + 1) (row_at k l) (length (m l)) (omega arith) ∙ s.row l h)

    put-changed : Changed k w (row_set W (row_at k l) ys) l ys
    put-changed =
        let n : length ys ≡ suc (length (m l)) = insert-length x (m l) in
        let long : length W ≡ length w = length-set w l (word w l + 1) in
        record {
          long = set-length W (row_at k l) ys ∙ length-set w l (word w l + 1);
          count = set_other W (row_at k l) ys l (inl (omega arith)) ∙ same w l (word w l + 1) (omega (arith, room-all)) ∙ omega (arith, s.count l h);
          fit = omega arith;
          row = set_here W (row_at k l) ys (omega (arith, room-all, row_within k l h));
          neat = λ i p q. set_other W (row_at k l) ys i (inr p) ∙ other w l (word w l + 1) i (λ e. omega arith) ∙ s.neat l h i (omega arith) q;
          else = λ i ne o. set_other W (row_at k l) ys i (⊎_elim (λ a. inl a) (λ a. inr (omega arith)) o) ∙ other w l (word w l + 1) i ne;
        }

    pub put_keeps : Sound k (worked k (Put l x) (counted k (Put l x) w)) (upd m l (insert x (m l)))
    put_keeps = subst (λ (v : List ℕ). Sound k v (upd m l ys)) (sym put_is) (changed (row_set W (row_at k l) ys) ys put-changed (insert-sorted x (m l) (s.sorted l h)) (insert_all (Own k l) x (m l) mine (s.own l h)))

  -- ---- take

  module _ (x : Element) (xs : List Element) (e : m l ≡ x ∷ xs) where
    abbrev Z : List ℕ
    Z = set w l (word w l - 1)

    full : k.lines + 3 * (k.lines * k.places) ≤ length w
    full = s.shaped.words

    long-is : length (m l) ≡ suc (length xs)
    long-is = ap length e

    pub take-is : worked k (Take l) (counted k (Take l) w) ≡ row_set Z (row_at k l) (xs ++ blank ∷ [])
    unfolding worked counted without
    take-is =
        let n : word Z l + 1 ≡ length (m l) = omega (arith, same w l (word w l - 1) (omega (arith, full)), s.count l h, long-is) in
        ap (λ (n : ℕ). row_set Z (row_at k l) (moved (row_in Z (row_at k l) n))) n
        ∙ ap (λ (r : List Element). row_set Z (row_at k l) (moved r)) (row-past w l (word w l - 1) (row_at k l) (length (m l)) (omega arith) ∙ s.row l h ∙ e)

    take-changed : Changed k w (row_set Z (row_at k l) (xs ++ blank ∷ [])) l xs
    unfolding blank
    take-changed =
        let a = row_at k l in
        let n : length (xs ++ blank ∷ []) ≡ length xs + 1 = length-append xs (blank ∷ []) in
        let long : length Z ≡ length w = length-set w l (word w l - 1) in
        let fit : length (m l) ≤ k.places = s.fit l h in
        let at : element_in (row_set Z a (xs ++ blank ∷ [])) (a + 3 * length xs) ≡ blank =
        ap (λ (v : List ℕ). element_in v (a + 3 * length xs)) (set_snoc Z a xs blank) ∙ write-back (row_set Z a xs) (a + 3 * length xs) blank (omega (arith, set-length Z a xs, full, row_within k l h, long-is)) in
        record {
          long = set-length Z a (xs ++ blank ∷ []) ∙ long;
          count = set_other Z a (xs ++ blank ∷ []) l (inl (omega arith)) ∙ same w l (word w l - 1) (omega (arith, full)) ∙ omega (arith, s.count l h, long-is);
          fit = omega (arith, long-is);
          row = row-split (row_set Z a (xs ++ blank ∷ [])) a (length (xs ++ blank ∷ [])) xs blank (set_here Z a (xs ++ blank ∷ []) (omega (arith, full, row_within k l h, long-is)));
          neat = λ i p q. elim (dec_lt i (a + 3 * length xs + 3)) [
            | yes d ↦ zeros i p d at
            | no d ↦ set_other Z a (xs ++ blank ∷ []) i (inr (omega arith)) ∙ other w l (word w l - 1) i (λ z. omega arith) ∙ s.neat l h i (omega (arith, long-is)) q
          ];
          else = λ i ne o. set_other Z a (xs ++ blank ∷ []) i (⊎_elim (λ b. inl b) (λ b. inr (omega (arith, long-is))) o) ∙ other w l (word w l - 1) i ne;
        }
      where
        zeros : (i : ℕ) → row_at k l + 3 * length xs ≤ i → i < row_at k l + 3 * length xs + 3
            → element_in (row_set Z (row_at k l) (xs ++ blank ∷ [])) (row_at k l + 3 * length xs) ≡ blank → word (row_set Z (row_at k l) (xs ++ blank ∷ [])) i ≡ 0
        zeros i p q z = blank-words (row_set Z (row_at k l) (xs ++ blank ∷ [])) (row_at k l + 3 * length xs) i z p q

    pub take-keeps : Sound k (worked k (Take l) (counted k (Take l) w)) (upd m l xs)
    take-keeps =
        subst (λ (v : List ℕ). Sound k v (upd m l xs)) (sym take-is)
        (changed (row_set Z (row_at k l) (xs ++ blank ∷ [])) xs take-changed (subst Sorted e (s.sorted l h)).1 (subst (All (Own k l)) e (s.own l h)).1)
