-- What is written in the words of one node is a store into that node of its level, and nothing else changes.
use Rattle.laws.specs.Prelude.{Element, List, ◌*◌, ◌+◌, ◌<◌, ◌∙◌, ◌∷◌, ◌≡◌, ◌≤◌, ap, ap₂, arith, element_in, eqb, get_or-set_other, get_or-set_same, inl, inr, le_of_suc-le-suc, length, length-set, mul-le-mul_right, not-suc-le-zero, refl, set, suc, sym, write_element, zero, ℕ, ⊎_elim}
use Rattle.strip.proofs.Words.{read-local, write-apart as element-apart, write-back, write-length as element-length}
use Rattle.cluster_model.specs.Prelude.{Node, Only, Place, count_words, elem_of, gap, has, flag_at, flag_of, node_of, place_by, place_of, place_words, right_at, row_of, width, word, write_place}
use Rattle.cluster_model.proofs.Levels.{Levels}

-- k levels from word b on, the first of c nodes
unfoldable pub levels_of : ℕ → (k : ℕ) → List ℕ → ℕ → ℕ → Levels k
levels_of K zero ws b c = tt
levels_of K (suc k) ws b c = (row_of (node_of K) (width K) c ws b, levels_of K k ws (b + c * width K) (c + c))

-- a reader that reads d words
abbrev pub Local : {A : Type 0} → (List ℕ → ℕ → A) → ℕ → Type 0
Local rd d = (ws ws' : List ℕ) (o : ℕ) → ((i : ℕ) → o ≤ i → i < o + d → word ws' i ≡ word ws i) → rd ws' o ≡ rd ws o

module _ {A : Type 0} (rd : List ℕ → ℕ → A) (d : ℕ) (local : Local rd d) where
  pub row-local : (c : ℕ) → Local (row_of rd d c) (c * d)
  unfolding row_of
  row-local zero ws ws' o h = refl
  row-local (suc c) ws ws' o h =
      ap₂ (λ (a : A) (l : List A). a ∷ l) (local ws ws' o (λ i l r. h i l (omega arith)))
      (row-local c ws ws' (o + d) (λ i l r. h i (omega arith) (omega arith)))

  pub row_write : (c j o : ℕ) (ws ws' : List ℕ) (x : A) → j < c → rd ws' (o + j * d) ≡ x → Only (o + j * d) (o + j * d + d) ws ws'
      → row_of rd d c ws' o ≡ set (row_of rd d c ws o) j x
  unfolding row_of
  row_write zero j o ws ws' x h e only = absurd (not-suc-le-zero h)
  row_write (suc c) zero o ws ws' x h e only =
      let at : o + 0 * d ≡ o = omega arith in
      ap₂ (λ (a : A) (l : List A). a ∷ l) (ap (rd ws') (sym at) ∙ e)
      (row-local c ws ws' (o + d) (λ i l r. only i (inr (omega arith))))
  row_write (suc c) (suc j) o ws ws' x h e only =
      let at : o + d + j * d ≡ o + suc j * d = omega arith in
      ap₂ (λ (a : A) (l : List A). a ∷ l) (local ws ws' o (λ i l r. only i (inl (omega arith))))
      (row_write c j (o + d) ws ws' x (le_of_suc-le-suc h) (ap (rd ws') at ∙ e) (λ i h. only i (⊎_elim (λ g. inl (omega arith)) (λ g. inr (omega arith)) h)))

-- ---- a place
-- an element and a flag, put together
place-path : {e e' : Element} {d d' : ℕ} → e ≡ e' → d ≡ d' → place_by (eqb d 0) e ≡ place_by (eqb d' 0) e'
place-path p s = λ i. place_by (eqb (s i) 0) (p i)

pub place-local : Local place_of place_words
unfolding place_of
place-local ws ws' o h = place-path (read-local ws ws' o (λ i l r. h i l (omega arith))) (h (flag_at o) (omega arith) (omega arith))

pub write-only : (ws : List ℕ) (o : ℕ) (p : Place) → Only o (o + place_words) ws (write_place ws o p)
unfolding write_place
write-only ws o p i (inl h) = get_or-set_other (write_element ws o (elem_of p)) (flag_at o) i (flag_of p) 0 (λ e. omega arith) ∙ element-apart ws o i (elem_of p) (inl h)
write-only ws o p i (inr h) = get_or-set_other (write_element ws o (elem_of p)) (flag_at o) i (flag_of p) 0 (λ e. omega arith) ∙ element-apart ws o i (elem_of p) (inr (omega arith))

pub write-length : (ws : List ℕ) (o : ℕ) (p : Place) → length (write_place ws o p) ≡ length ws
unfolding write_place
write-length ws o p = length-set (write_element ws o (elem_of p)) (flag_at o) (flag_of p) ∙ element-length ws o (elem_of p)

coded : (p : Place) → place_by (eqb (flag_of p) 0) (elem_of p) ≡ p
unfolding place_by flag_of
coded gap = refl
coded (has e) = refl

-- what is written is read back, and stands so in the words
pub record Written (ws : List ℕ) (o : ℕ) (p : Place) : Type 0 where
  pub element : element_in (write_place ws o p) o ≡ elem_of p
  pub flag : word (write_place ws o p) (flag_at o) ≡ flag_of p

pub written : (ws : List ℕ) (o : ℕ) (p : Place) → o + place_words ≤ length ws → Written ws o p
unfolding write_place
written ws o p h =
    let v : List ℕ = write_element ws o (elem_of p) in
    record {
      element = read-local v (set v (flag_at o) (flag_of p)) o (λ i l r. get_or-set_other v (flag_at o) i (flag_of p) 0 (λ e. omega arith)) ∙ write-back ws o (elem_of p) (omega arith);
      flag = get_or-set_same v (flag_at o) (flag_of p) 0 (omega (arith, element-length ws o (elem_of p)));
    }

pub write-place : (ws : List ℕ) (o : ℕ) (p : Place) → o + place_words ≤ length ws → place_of (write_place ws o p) o ≡ p
unfolding place_of
write-place ws o p h = let w = written ws o p h in place-path w.element w.flag ∙ coded p

-- ---- a node
pub node-local : (K : ℕ) → Local (node_of K) (width K)
unfolding node_of
node-local K ws ws' b h =
    let l : word ws' b ≡ word ws b = h b (omega arith) (omega arith) in
    let r : word ws' (right_at b) ≡ word ws (right_at b) = h (right_at b) (omega arith) (omega arith) in
    let p : row_of place_of place_words K ws' (b + count_words) ≡ row_of place_of place_words K ws (b + count_words) = row-local place_of place_words place-local K ws ws' (b + count_words) (λ i g g'. h i (omega arith) (omega arith)) in
    λ i. record { left = l i; right = r i; places = p i }

-- ---- levels
pub levels-after : (K k : ℕ) (ws ws' : List ℕ) (b c : ℕ) → ((i : ℕ) → b ≤ i → word ws' i ≡ word ws i) → levels_of K k ws' b c ≡ levels_of K k ws b c
unfolding levels_of
levels-after K zero ws ws' b c h = refl
levels-after K (suc k) ws ws' b c h =
    let p : row_of (node_of K) (width K) c ws' b ≡ row_of (node_of K) (width K) c ws b = row-local (node_of K) (width K) (node-local K) c ws ws' b (λ i g g'. h i g) in
    let q : levels_of K k ws' (b + c * width K) (c + c) ≡ levels_of K k ws (b + c * width K) (c + c) = levels-after K k ws ws' (b + c * width K) (c + c) (λ i g. h i (base b (c * width K) i g)) in
    λ i. (p i, q i)
  where
    base : (b d i : ℕ) → b + d ≤ i → b ≤ i
    base b d i g = omega arith

-- words of node n of the first level changed, and no other: a store into that level alone
pub levels-write : (K k : ℕ) (ws ws' : List ℕ) (b c n : ℕ) (x : Node) → n < c → node_of K ws' (b + n * width K) ≡ x → Only (b + n * width K) (b + n * width K + width K) ws ws'
    → levels_of K (suc k) ws' b c ≡ (set (levels_of K (suc k) ws b c).0 n x, (levels_of K (suc k) ws b c).1)
unfolding levels_of
levels-write K k ws ws' b c n x h e only =
    let p : row_of (node_of K) (width K) c ws' b ≡ set (row_of (node_of K) (width K) c ws b) n x = row_write (node_of K) (width K) (node-local K) c n b ws ws' x h e only in
    let q : levels_of K k ws' (b + c * width K) (c + c) ≡ levels_of K k ws (b + c * width K) (c + c) =
    levels-after K k ws ws' (b + c * width K) (c + c) (λ i g. only i (inr (past (width K) i g))) in
    λ i. (p i, q i)
  where
    past : (d i : ℕ) → b + c * d ≤ i → b + n * d + d ≤ i
    past d i g = omega (arith, mul-le-mul_right d h)
