-- In a neat node a write of one place and the two counts is the write of the whole node; what is written is neat.
use Rattle.laws.specs.Prelude.{Bool, Element, List, ◌&&◌, ◌*◌, ◌+◌, ◌<◌, ◌||◌, ◌∙◌, ◌≡◌, ◌≤◌, ap, arith, element_in, eqb, eqb-true, false, false≢true, get_or-set_other, inr, is_blank, le_of_suc-le-suc, not-suc-le-zero, refl, set, suc, sym, true, zero, ℕ}
pub use Rattle.strip.proofs.Words.{set_own as set_word}
use Rattle.strip.proofs.Words.{blank-is, blank-says, read-local, write-own}
use Rattle.cluster_model.specs.Prelude.{Neat, NeatPlace, NeatRow, Place, elem_of, flag_at, flag_of, neat_place, node_of, place_by, place_of, place_words, row_of, word, write_node, write_place, write_row}
use Rattle.cluster_model.proofs.Words.{row-local, place-local, write-only}

-- a neat place written over itself
own-place : (ws : List ℕ) (o : ℕ) → NeatPlace ws o → write_place ws o (place_of ws o) ≡ ws
unfolding write_place
own-place ws o h =
    let p : Place = place_of ws o in
    ap (λ (l : List ℕ). set l (flag_at o) (flag_of p)) (write-own ws o (elem_of p) h.0) ∙ set_word ws (flag_at o) (flag_of p) h.1

-- the same words, as neat
pub neat-local : (ws ws' : List ℕ) (o : ℕ) → ((i : ℕ) → o ≤ i → i < o + place_words → word ws' i ≡ word ws i) → NeatPlace ws o → NeatPlace ws' o
neat-local ws ws' o h n =
    let same : place_of ws' o ≡ place_of ws o = place-local ws ws' o h in (
      ap elem_of same ∙ n.0 ∙ sym (read-local ws ws' o (λ i g g'. h i g (omega arith))),
      ap flag_of same ∙ n.1 ∙ sym (h (flag_at o) (omega arith) (omega arith)),
    )

pub neat-row : (K : ℕ) (ws ws' : List ℕ) (o : ℕ) → ((i : ℕ) → o ≤ i → i < o + K * place_words → word ws' i ≡ word ws i) → NeatRow K ws o → NeatRow K ws' o
neat-row zero ws ws' o h n = tt
neat-row (suc K) ws ws' o h n = (
  neat-local ws ws' o (λ i g g'. h i g (omega arith)) n.0,
  neat-row K ws ws' (o + place_words) (λ i g g'. h i (omega arith) (omega arith)) n.1,
)

own_row : (K : ℕ) (ws : List ℕ) (o : ℕ) → NeatRow K ws o → write_row (row_of place_of place_words K ws o) ws o ≡ ws
unfolding write_row row_of
own_row zero ws o n = refl
own_row (suc K) ws o n = ap (λ (l : List ℕ). write_row (row_of place_of place_words K ws (o + place_words)) l (o + place_words)) (own-place ws o n.0) ∙ own_row K ws (o + place_words) n.1

set-row : (K j : ℕ) (ws : List ℕ) (o : ℕ) (p : Place) → j < K → NeatRow K ws o → write_row (set (row_of place_of place_words K ws o) j p) ws o ≡ write_place ws (o + j * place_words) p
unfolding write_row row_of
set-row zero j ws o p h n = absurd (not-suc-le-zero h)
set-row (suc K) zero ws o p h n =
    let ws' : List ℕ = write_place ws o p in
    let at : o ≡ o + 0 * place_words = omega arith in
    let away : (i : ℕ) → o + place_words ≤ i → i < o + place_words + K * place_words → word ws' i ≡ word ws i = λ i g g'. write-only ws o p i (inr g) in
    let same : row_of place_of place_words K ws (o + place_words) ≡ row_of place_of place_words K ws' (o + place_words) = sym (row-local place_of place_words place-local K ws ws' (o + place_words) away) in
    ap (λ (l : List Place). write_row l ws' (o + place_words)) same ∙ own_row K ws' (o + place_words) (neat-row K ws ws' (o + place_words) away n.1) ∙ ap (λ (i : ℕ). write_place ws i p) at
set-row (suc K) (suc j) ws o p h n =
    let at : o + place_words + j * place_words ≡ o + suc j * place_words = omega arith in
    ap (λ (l : List ℕ). write_row (set (row_of place_of place_words K ws (o + place_words)) j p) l (o + place_words)) (own-place ws o n.0)
    ∙ set-row K j ws (o + place_words) p (le_of_suc-le-suc h) n.1 ∙ ap (λ (i : ℕ). write_place ws i p) at

-- the whole node: two counts and one place
pub few_words : (K : ℕ) (ws : List ℕ) (o l r j : ℕ) (p : Place) → j < K → Neat K ws o
    → write_node ws o (record { left = l; right = r; places = set (node_of K ws o).places j p }) ≡ write_place (set (set ws o l) (o + 1) r) (o + 2 + j * place_words) p
unfolding write_node node_of
few_words K ws o l r j p h n =
    let ws' : List ℕ = set (set ws o l) (o + 1) r in
    let away : (i : ℕ) → o + 2 ≤ i → i < o + 2 + K * place_words → word ws' i ≡ word ws i =
    λ i g g'. get_or-set_other (set ws o l) (o + 1) i r 0 (λ e. omega arith) ∙ get_or-set_other ws o i l 0 (λ e. omega arith) in
    let same : row_of place_of place_words K ws (o + 2) ≡ row_of place_of place_words K ws' (o + 2) = sym (row-local place_of place_words place-local K ws ws' (o + 2) away) in
    ap (λ (q : List Place). write_row (set q j p) ws' (o + 2)) same ∙ set-row K j ws' (o + 2) p h (neat-row K ws ws' (o + 2) away n)

-- a node that is written as it stands changes no word
pub no_words : (K : ℕ) (ws : List ℕ) (o : ℕ) → Neat K ws o → write_node ws o (node_of K ws o) ≡ ws
unfolding write_node node_of
no_words K ws o n =
    ap (λ (u : List ℕ). write_row (row_of place_of place_words K ws (o + 2)) (set u (o + 1) (word ws (o + 1))) (o + 2)) (set_word ws o (word ws o) refl)
    ∙ ap (λ (u : List ℕ). write_row (row_of place_of place_words K ws (o + 2)) u (o + 2)) (set_word ws (o + 1) (word ws (o + 1)) refl)
    ∙ own_row K ws (o + 2) n

-- ---- the test
impossible : (n : ℕ) → n ≡ 0 → n ≡ 1 → ⊥
impossible n p q = omega arith

pub neat-test : (ws : List ℕ) (o : ℕ) → neat_place ws o ≡ true → NeatPlace ws o
unfolding neat_place place_of place_by flag_of
neat-test ws o e = go (eqb m 0) refl (is_blank x) refl (eqb m 1) refl e
  where
    x : Element
    x = element_in ws o

    m : ℕ
    m = word ws (flag_at o)

    go : (a : Bool) → eqb m 0 ≡ a → (b : Bool) → is_blank x ≡ b → (u : Bool) → eqb m 1 ≡ u → ((a && b) || u) ≡ true → (elem_of (place_by a x) ≡ x) × (flag_of (place_by a x) ≡ m)
    go true p true q u r e = (sym (blank-is x (blank-says x q)), sym (eqb-true m 0 p))
    go true p false q true r e = absurd (impossible m (eqb-true m 0 p) (eqb-true m 1 r))
    go true p false q false r e = absurd (false≢true e)
    go false p b q true r e = (refl, sym (eqb-true m 1 r))
    go false p b q false r e = absurd (false≢true e)
