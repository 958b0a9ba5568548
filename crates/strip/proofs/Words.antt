-- An element in its words: what is written is read back, and no other word changes. Whoever lays elements out goes by these laws, and not by the numbers of words.
use Prim.Native.Nat.{◌+◌, ◌-◌, ◌<◌, ◌≤◌, suc, zero, ℕ}
use native.Mathlib.Omega.{arith}
use mathlib.Core.Bool.{◌&&◌, Bool, true, true≢false, false}
use mathlib.Core.List.{[], ◌∷◌, List}
use mathlib.Core.Logic.{◌⊎◌, inl, inr, ⊎_elim}
use mathlib.Core.Path.{◌∙◌, ◌≡◌, ap, refl, subst, sym}
use lib.Dec.{eqb}
use lib.ListN.{get_or, length, length-set, set}
use lib.Seq.{get_or-set_other, get_or-set_same, set_comm, set-set}
use borrow.Author.Tests.{eq-eqb, eqb-true, le-ltb, lt-ltb}
use Rattle.strip.specs.Answers.{blank, element, key}
use Rattle.strip.specs.Words.{element_in, element_numbers, element_words, is_blank, keep, pass, write_element, Zeros}
use Rattle.strip.specs.declared.Element.{Element}

-- an element by its numbers
pub element-path : {r r' t t' l l' : ℕ} → r ≡ r' → t ≡ t' → l ≡ l' → element r t l ≡ element r' t' l'
element-path p q u = λ i. element (p i) (q i) (u i)

-- word i is none of the element's that begins at word o
abbrev pub Apart : ℕ → ℕ → Type 0
Apart i o = (i < o) ⊎ (o + element_words ≤ i)

off : (i o a : ℕ) → a < 3 → Apart i o → i ≡ o + a → ⊥
off i o a l h e = ⊎_elim (λ (g : i < o). omega arith) (λ (g : o + 3 ≤ i). omega arith) h

off-first : (i o : ℕ) → Apart i o → i ≡ o → ⊥
off-first i o h e = off i o 0 (omega arith) h (omega arith)

-- ---- reading: its own words alone, wherever they lie
pub read_same : (ws ws' : List ℕ) (o o' : ℕ) → ((j : ℕ) → j < element_words → get_or ws' (o' + j) 0 ≡ get_or ws (o + j) 0) → element_in ws' o' ≡ element_in ws o
read_same ws ws' o o' h =
    let at : (n : ℕ) → n ≡ n + 0 = λ n. omega arith in
    element-path (ap (λ (n : ℕ). get_or ws' n 0) (at o') ∙ h 0 (omega arith) ∙ ap (λ (n : ℕ). get_or ws n 0) (sym (at o))) (h 1 (omega arith)) (h 2 (omega arith))

pub read-numbers : (ws : List ℕ) (o : ℕ) (e : Element) → ((j : ℕ) → j < element_words → get_or ws (o + j) 0 ≡ get_or (element_numbers e) j 0) → element_in ws o ≡ e
read-numbers ws o e h =
    let at : o ≡ o + 0 = omega arith in
    element-path (ap (λ (n : ℕ). get_or ws n 0) at ∙ h 0 (omega arith)) (h 1 (omega arith)) (h 2 (omega arith))

pub read-local : (ws ws' : List ℕ) (o : ℕ) → ((i : ℕ) → o ≤ i → i < o + element_words → get_or ws' i 0 ≡ get_or ws i 0) → element_in ws' o ≡ element_in ws o
read-local ws ws' o h = element-path (h o (omega arith) (omega arith)) (h (o + 1) (omega arith) (omega arith)) (h (o + 2) (omega arith) (omega arith))

-- .. and where two elements read are the same, so are their words
pub same-words : (ws vs : List ℕ) (o j : ℕ) → j < element_words → element_in ws o ≡ element_in vs o → get_or ws (o + j) 0 ≡ get_or vs (o + j) 0
same-words ws vs o zero h e = let at : o + 0 ≡ o = omega arith in rw at (ap (λ (x : Element). x.rank.0) e)
same-words ws vs o (suc zero) h e = ap (λ (x : Element). x.tag.0) e
same-words ws vs o (suc (suc zero)) h e = ap (λ (x : Element). x.length.0) e
same-words ws vs o (suc (suc (suc j))) h e = absurd (omega arith)

-- no element's words are zeros
pub blank-words : (ws : List ℕ) (o i : ℕ) → element_in ws o ≡ blank → o ≤ i → i < o + element_words → get_or ws i 0 ≡ 0
unfolding blank
blank-words ws o i e p q = let at : o + (i - o) ≡ i = omega arith in subst (λ (n : ℕ). get_or ws n 0 ≡ 0) at (go (i - o) (omega arith))
  where
    go : (j : ℕ) → j < element_words → get_or ws (o + j) 0 ≡ 0
    go zero h = let at : o + 0 ≡ o = omega arith in rw at (ap (λ (x : Element). x.rank.0) e)
    go (suc zero) h = ap (λ (x : Element). x.tag.0) e
    go (suc (suc zero)) h = ap (λ (x : Element). x.length.0) e
    go (suc (suc (suc j))) h = absurd (omega arith)

-- zeros are no element
pub read-zeros : (ws : List ℕ) (o : ℕ) → ((i : ℕ) → o ≤ i → i < o + element_words → get_or ws i 0 ≡ 0) → element_in ws o ≡ blank
unfolding blank
read-zeros ws o h = element-path (h o (omega arith) (omega arith)) (h (o + 1) (omega arith) (omega arith)) (h (o + 2) (omega arith) (omega arith))

-- ---- writing
pub write-length : (ws : List ℕ) (o : ℕ) (e : Element) → length (write_element ws o e) ≡ length ws
write-length ws o e = simp length-set

pub write-back : (ws : List ℕ) (o : ℕ) (e : Element) → o + element_words ≤ length ws → element_in (write_element ws o e) o ≡ e
write-back ws o e h =
    let a : List ℕ = set ws o e.rank.0 in
    let b : List ℕ = set a (o + 1) e.tag.0 in
    let la : length a ≡ length ws = length-set ws _ _ in
    let lb : length b ≡ length a = length-set a _ _ in
    element-path
    (get_or-set_other b (o + 2) o e.length.0 0 (omega arith) ∙ get_or-set_other a (o + 1) o e.tag.0 0 (omega arith) ∙ get_or-set_same ws o e.rank.0 0 (omega arith))
    (get_or-set_other b (o + 2) (o + 1) e.length.0 0 (omega arith) ∙ get_or-set_same a (o + 1) e.tag.0 0 (omega arith))
    (get_or-set_same b (o + 2) e.length.0 0 (omega arith))

-- no other word changes
pub write-apart : (ws : List ℕ) (o i : ℕ) (e : Element) → Apart i o → get_or (write_element ws o e) i 0 ≡ get_or ws i 0
write-apart ws o i e h =
    let a : List ℕ = set ws o e.rank.0 in
    let b : List ℕ = set a (o + 1) e.tag.0 in
    get_or-set_other b (o + 2) i e.length.0 0 (off i o 2 (omega arith) h) ∙ get_or-set_other a (o + 1) i e.tag.0 0 (off i o 1 (omega arith) h)
    ∙ get_or-set_other ws o i e.rank.0 0 (off-first i o h)

-- .. so that another word may be set before or after
pub write-past : (ws : List ℕ) (o i v : ℕ) (e : Element) → Apart i o → set (write_element ws o e) i v ≡ write_element (set ws i v) o e
write-past ws o i v e h =
    let r : ℕ = e.rank.0 in
    let t : ℕ = e.tag.0 in
    let l : ℕ = e.length.0 in
    set_comm (set (set ws o r) (o + 1) t) (o + 2) i l v (λ p. off i o 2 (omega arith) h (sym p))
    ∙ ap (λ (q : List ℕ). set q (o + 2) l) (set_comm (set ws o r) (o + 1) i t v (λ p. off i o 1 (omega arith) h (sym p)))
    ∙ ap (λ (q : List ℕ). set (set q (o + 1) t) (o + 2) l) (set_comm ws o i r v (λ p. off-first i o h (sym p)))

-- .. and another element, where neither has a word of the other
pub write-comm : (ws : List ℕ) (o p : ℕ) (e x : Element) → (o + element_words ≤ p) ⊎ (p + element_words ≤ o)
    → write_element (write_element ws o e) p x ≡ write_element (write_element ws p x) o e
write-comm ws o p e x h =
    let r : ℕ = x.rank.0 in
    let t : ℕ = x.tag.0 in
    let l : ℕ = x.length.0 in
    let first : Apart p o = ⊎_elim (λ (g : o + 3 ≤ p). inr (omega arith)) (λ (g : p + 3 ≤ o). inl (omega arith)) h in
    let second : Apart (p + 1) o = ⊎_elim (λ (g : o + 3 ≤ p). inr (omega arith)) (λ (g : p + 3 ≤ o). inl (omega arith)) h in
    let third : Apart (p + 2) o = ⊎_elim (λ (g : o + 3 ≤ p). inr (omega arith)) (λ (g : p + 3 ≤ o). inl (omega arith)) h in
    ap (λ (q : List ℕ). set (set q (p + 1) t) (p + 2) l) (write-past ws o p r e first)
    ∙ ap (λ (q : List ℕ). set q (p + 2) l) (write-past (set ws p r) o (p + 1) t e second)
    ∙ write-past (set (set ws p r) (p + 1) t) o (p + 2) l e third

-- .. and an element written over another is as if it alone were written
pub write-over : (ws : List ℕ) (o : ℕ) (e x : Element) → write_element (write_element ws o e) o x ≡ write_element ws o x
write-over ws o e x =
    let a : List ℕ = set ws o x.rank.0 in
    ap (λ (v : List ℕ). set (set v (o + 1) x.tag.0) (o + 2) x.length.0)
    (set_comm (set (set ws o e.rank.0) (o + 1) e.tag.0) (o + 2) o e.length.0 x.rank.0 (λ p. omega arith)
    ∙ ap (λ (v : List ℕ). set v (o + 2) e.length.0) (set_comm (set ws o e.rank.0) (o + 1) o e.tag.0 x.rank.0 (λ p. omega arith)
    ∙ ap (λ (v : List ℕ). set v (o + 1) e.tag.0) (set-set ws o e.rank.0 x.rank.0)))
    ∙ ap (λ (v : List ℕ). set v (o + 2) x.length.0)
    (set_comm (set a (o + 1) e.tag.0) (o + 2) (o + 1) e.length.0 x.tag.0 (λ p. omega arith)
    ∙ ap (λ (v : List ℕ). set v (o + 2) e.length.0) (set-set a (o + 1) e.tag.0 x.tag.0))
    ∙ set-set (set a (o + 1) x.tag.0) (o + 2) e.length.0 x.length.0

-- .. and so two slices: what every word set in both keeps between them, an element written in both does
pub write-both : (R : List ℕ → List ℕ → Type 0) (o : ℕ) → ((us vs : List ℕ) (i v : ℕ) → o ≤ i → i < o + element_words → R us vs → R (set us i v) (set vs i v))
    → (us vs : List ℕ) (e : Element) → R us vs → R (write_element us o e) (write_element vs o e)
write-both R o h us vs e r = h _ _ (o + 2) _ (omega arith) (omega arith) (h _ _ (o + 1) _ (omega arith) (omega arith) (h us vs o _ (omega arith) (omega arith) r))

-- a word set to what it is
pub set_own : (ws : List ℕ) (i v : ℕ) → v ≡ get_or ws i 0 → set ws i v ≡ ws
set_own [] i v e = refl
set_own (w ∷ ws) zero v e = ap (λ (u : ℕ). u ∷ ws) e
set_own (w ∷ ws) (suc i) v e = ap (λ (l : List ℕ). w ∷ l) (set_own ws i v e)

-- .. and an element written over itself
pub write-own : (ws : List ℕ) (o : ℕ) (e : Element) → e ≡ element_in ws o → write_element ws o e ≡ ws
write-own ws o e p =
    let r : set ws o e.rank.0 ≡ ws = set_own ws o e.rank.0 (ap (λ (x : Element). x.rank.0) p) in
    let t : set ws (o + 1) e.tag.0 ≡ ws = set_own ws (o + 1) e.tag.0 (ap (λ (x : Element). x.tag.0) p) in
    let l : set ws (o + 2) e.length.0 ≡ ws = set_own ws (o + 2) e.length.0 (ap (λ (x : Element). x.length.0) p) in
    ap (λ (q : List ℕ). set (set q (o + 1) e.tag.0) (o + 2) e.length.0) r ∙ ap (λ (q : List ℕ). set q (o + 2) e.length.0) t ∙ l

-- ---- none
pub blank-says : (e : Element) → is_blank e ≡ true → Zeros e
unfolding is_blank
blank-says e = go (eqb e.rank.0 0) refl (eqb e.tag.0 0) refl (eqb e.length.0 0) refl
  where
    go : (a : Bool) → eqb e.rank.0 0 ≡ a → (b : Bool) → eqb e.tag.0 0 ≡ b → (c : Bool) → eqb e.length.0 0 ≡ c → (a && (b && c)) ≡ true → Zeros e
    go true p true q true s h = (eqb-true e.rank.0 0 p, eqb-true e.tag.0 0 q, eqb-true e.length.0 0 s)
    go true p true q false s h = absurd (true≢false (sym h))
    go true p false q c s h = absurd (true≢false (sym h))
    go false p b q c s h = absurd (true≢false (sym h))

pub blank-holds : (e : Element) → Zeros e → is_blank e ≡ true
unfolding is_blank
blank-holds e h = rw (eq-eqb e.rank.0 0 h.0, eq-eqb e.tag.0 0 h.1, eq-eqb e.length.0 0 h.2)

pub blank_none : is_blank blank ≡ true
unfolding is_blank blank
blank_none = refl

pub blank-zeros : (e : Element) → e ≡ blank → Zeros e
unfolding blank
blank-zeros e p = (ap (λ (x : Element). x.rank.0) p, ap (λ (x : Element). x.tag.0) p, ap (λ (x : Element). x.length.0) p)

pub blank-is : (e : Element) → Zeros e → e ≡ blank
unfolding blank
blank-is e h = element-path h.0 h.1 h.2

-- ---- the exchange: "if x's rank is strictly lower, x and the slot's element change places", whole; else both stand
pub exchanged : (x e : Element) → x.rank.0 < e.rank.0 → (keep x e ≡ x) × (pass x e ≡ e)
unfolding keep pass key
exchanged x e h = rw (lt-ltb x.rank.0 e.rank.0 h) (refl, refl)

pub unchanged : (x e : Element) → e.rank.0 ≤ x.rank.0 → (keep x e ≡ e) × (pass x e ≡ x)
unfolding keep pass key
unchanged x e h = rw (le-ltb x.rank.0 e.rank.0 h) (refl, refl)
