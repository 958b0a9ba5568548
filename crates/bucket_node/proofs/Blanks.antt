-- What clear writes, word by word; and a list filled from the front in parts.
use borrow.Rule.Slice.PartMut.{put_mid}
use Rattle.std.proofs.Common.{◌++◌, drop, replicate}
use Rattle.laws.specs.Prelude.{List, [], ◌%◌, ◌*◌, ◌+◌, ◌-◌, ◌/◌, ◌<◌, ◌∙◌, ◌∷◌, ◌≡◌, ◌≤◌, ap, ap₂, arith, eq-eqb, le-ltb, le_of_suc-le-suc, length, lt-ltb, ne_eqb, not-suc-le-zero, refl, set, suc, sym, zero, ℕ}
use Rattle.bucket_model.specs.declared.Lay.{Lay}
use Rattle.bucket_model.specs.Prelude.{Laid, blank_cell, blank_word, fill, fill_from, load_words, node_words}
use Rattle.bucket_model.proofs.Laws.{fill_step, from-zeros}

-- ---- in parts

-- by another function that says the same of those words
from-same : (f g : ℕ → ℕ) (i k : ℕ) (w : List ℕ) → ((j : ℕ) → i ≤ j → j < i + k → f j ≡ g j) → fill_from f i k w ≡ fill_from g i k w
from-same f g i zero w h = refl
from-same f g i (suc k) [] h = refl
from-same f g i (suc k) (x ∷ xs) h =
    ap₂ (λ (y : ℕ) (ys : List ℕ). y ∷ ys) (h i (omega arith) (omega arith)) (from-same f g (suc i) k xs (λ j u l. h j (omega arith) (omega arith)))

pub fill-same : (f g : ℕ → ℕ) (k : ℕ) (w : List ℕ) → ((j : ℕ) → j < k → f j ≡ g j) → fill f k w ≡ fill g k w
unfolding fill
fill-same f g k w h = from-same f g 0 k w (λ j u l. h j (omega arith))

-- zeros behind a part, where the function says so
from-behind : (f : ℕ → ℕ) (i a m k : ℕ) (w : List ℕ) → k ≡ a + m → k ≤ length w → ((j : ℕ) → i + a ≤ j → f j ≡ 0) → put_mid a m (fill_from f i a w) (replicate m 0) ≡ fill_from f i k w
from-behind f i zero m k w e h z =
    let n : k ≡ m = omega (arith, e) in
    let zeros : replicate m 0 ++ drop m w ≡ fill_from f i m w = from-zeros i m w (omega (arith, n, h)) ∙ from-same (λ j. 0) f i m w (λ j u l. sym (z j (omega (arith, u)))) in
    zeros ∙ ap (λ (n : ℕ). fill_from f i n w) (sym n)
from-behind f i (suc a) m zero w e h z = absurd (omega arith)
from-behind f i (suc a) m (suc k) [] e h z = absurd (not-suc-le-zero h)
from-behind f i (suc a) m (suc k) (x ∷ xs) e h z =
    ap (λ (l : List ℕ). f i ∷ l) (from-behind f (suc i) a m k xs (omega (arith, e)) (le_of_suc-le-suc h) (λ j l. z j (omega (arith, l))))

pub fill-behind : (f : ℕ → ℕ) (a m k : ℕ) (w : List ℕ) → k ≡ a + m → k ≤ length w → ((j : ℕ) → a ≤ j → f j ≡ 0) → put_mid a m (fill f a w) (replicate m 0) ≡ fill f k w
unfolding fill
fill-behind f a m k w e h z = from-behind f 0 a m k w e h (λ j l. z j (omega (arith, l)))

-- ---- word by word

module _ (k : Lay) where
  pub blank-list : (j : ℕ) → j < k.stem + node_words → 0 ≡ blank_word k j
  unfolding blank_word
  blank-list j h = rw (lt-ltb j (k.stem + node_words) h) refl

  pub blank-lists : (w : List ℕ) → fill (λ j. 0) (k.stem + node_words) w ≡ fill (blank_word k) (k.stem + node_words) w
  blank-lists w = fill-same (λ j. 0) (blank_word k) (k.stem + node_words) w blank-list

  module _ (laid : Laid k) where
    -- word i of the node that link l names
    blank-cell : (l i : ℕ) → 1 ≤ l → l ≤ k.nodes → i < node_words → blank_cell k.nodes l i ≡ blank_word k (k.stem + node_words * l + i)
    unfolding blank_word
    blank-cell l i some high small =
        let j = k.stem + node_words * l + i in
        let d : (j - k.stem) / node_words ≡ l = omega arith in let m : (j - k.stem) % node_words ≡ i = omega arith in
        rw (le-ltb j (k.stem + node_words) (omega arith), lt-ltb j k.free (omega (arith, laid.pool)), d, m) refl

    -- a node's three words, one after the other
    pub fill-node : (w s : List ℕ) (l at next : ℕ) → 1 ≤ l → l ≤ k.nodes → k.free < length w → s ≡ fill (blank_word k) at w → at ≡ k.stem + node_words * l →
        next ≡ blank_cell k.nodes l load_words → set (set (set s (at + 0) 0) (at + 1) 0) (at + 2) next ≡ fill (blank_word k) (at + node_words) w
    fill-node w s l at next some high long e f g =
        let z : at + 0 ≡ at = omega arith in
        let x : 0 ≡ blank_word k at = blank-cell l 0 some high (omega arith) ∙ ap (blank_word k) (omega arith) in
        let y : 0 ≡ blank_word k (at + 1) = blank-cell l 1 some high (omega arith) ∙ ap (blank_word k) (omega arith) in
        let v : next ≡ blank_word k (at + 2) = g ∙ blank-cell l load_words some high (omega arith) ∙ ap (blank_word k) (omega arith) in
        let first : set s (at + 0) 0 ≡ fill (blank_word k) (at + 1) w =
        ap₂ (λ (i : ℕ) (u : List ℕ). set u i 0) z e ∙ ap (set (fill (blank_word k) at w) at) x ∙ fill_step (blank_word k) at w (omega (arith, laid.pool)) in
        let second : set (fill (blank_word k) (at + 1) w) (at + 1) 0 ≡ fill (blank_word k) (at + 2) w =
        ap (set (fill (blank_word k) (at + 1) w) (at + 1)) y ∙ fill_step (blank_word k) (at + 1) w (omega (arith, laid.pool)) ∙ ap (λ (i : ℕ). fill (blank_word k) i w) (omega arith) in
        let third : set (fill (blank_word k) (at + 2) w) (at + 2) next ≡ fill (blank_word k) (at + node_words) w =
        ap (set (fill (blank_word k) (at + 2) w) (at + 2)) v ∙ fill_step (blank_word k) (at + 2) w (omega (arith, laid.pool)) ∙ ap (λ (i : ℕ). fill (blank_word k) i w) (omega arith) in
        ap (λ (u : List ℕ). set (set u (at + 1) 0) (at + 2) next) first ∙ ap (λ (u : List ℕ). set u (at + 2) next) second ∙ third

    pub blank-free : 1 ≡ blank_word k k.free
    unfolding blank_word
    blank-free = rw (le-ltb k.free (k.stem + node_words) (omega (arith, laid.pool)), le-ltb k.free k.free (omega arith), eq-eqb k.free k.free refl) refl

    pub blank-behind : (j : ℕ) → k.free < j → 0 ≡ blank_word k j
    unfolding blank_word
    blank-behind j h = rw (le-ltb j (k.stem + node_words) (omega (arith, laid.pool)), le-ltb j k.free (omega arith), ne_eqb j k.free (λ e. omega arith)) refl

    -- the free link behind them
    pub ends-lists : (w s : List ℕ) (at : ℕ) → s ≡ fill (blank_word k) at w → at ≡ k.free → k.free < length w → set s at 1 ≡ fill (blank_word k) (k.free + 1) w
    ends-lists w s at f g long =
        let r : s ≡ fill (blank_word k) k.free w = f ∙ ap (λ (i : ℕ). fill (blank_word k) i w) g in
        ap₂ (λ (u : List ℕ) (i : ℕ). set u i 1) r g ∙ ap (set (fill (blank_word k) k.free w) k.free) blank-free ∙ fill_step (blank_word k) k.free w long
