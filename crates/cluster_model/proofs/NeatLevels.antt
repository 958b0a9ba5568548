-- The words stay neat: what an operation writes is neat, and so is a cleared slice.
use Rattle.laws.specs.Prelude.{Bool, List, [], ◌*◌, ◌+◌, ◌<◌, ◌^◌, ◌∙◌, ◌∷◌, ◌≡◌, ◌≤◌, ap, arith, element_in, eqb, eqb-false, eqb-true, false, inl, inr, length, length-set, ltb, ltb-false, ltb-true, mul-le-mul_right, pow-suc, refl, set, subst, suc, sym, true, zero, ℕ}
use Rattle.strip.proofs.Words.{read-zeros}
use Rattle.cluster_model.specs.Prelude.{Finished, Neat, NeatPlace, NeatRow, Node, Only, Op, Place, count_words, elem_of, extent, gap, flag_at, flag_of, place_by, place_of, place_words, touch, width, word, works, write_node, write_place, write_row}
use Rattle.cluster_model.proofs.Levels.{child_of}
use Rattle.cluster_model.proofs.Words.{written, write-length, write-place}
use Rattle.cluster_model.proofs.Neat.{neat-local, neat-row}
use Rattle.cluster_model.proofs.Pass.{act_words, apply_words, spot, row-only, touch-only, touch-length, spot_in, act-count, child-in, apply-only}

-- every node of k levels is neat
abbrev pub NeatLevels : ℕ → (k : ℕ) → List ℕ → ℕ → ℕ → Type 0
NeatLevels K zero ws b c = Unit {0}
NeatLevels K (suc k) ws b c = ((n : ℕ) → n < c → Neat K ws (spot K b n)) × NeatLevels K k ws (b + c * width K) (c + c)

-- ---- what is written is neat
place-written : (ws : List ℕ) (o : ℕ) (p : Place) → o + place_words ≤ length ws → NeatPlace (write_place ws o p) o
place-written ws o p h =
    let w = written ws o p h in
    let same : place_of (write_place ws o p) o ≡ p = write-place ws o p h in
    (ap elem_of same ∙ sym w.element, ap flag_of same ∙ sym w.flag)

row_written : (ps : List Place) (ws : List ℕ) (o : ℕ) → o + length ps * place_words ≤ length ws → NeatRow (length ps) (write_row ps ws o) o
unfolding write_row
row_written [] ws o h = tt
row_written (p ∷ ps) ws o h =
    let ws₁ : List ℕ = write_place ws o p in
    let len : length ws₁ ≡ length ws = write-length ws o p in (
      neat-local ws₁ (write_row ps ws₁ (o + place_words)) o (λ i g g'. row-only ps ws₁ (o + place_words) i (inl g')) (place-written ws o p (omega arith)),
      row_written ps ws₁ (o + place_words) (omega arith),
    )

pub node-written : (K : ℕ) (ws : List ℕ) (o : ℕ) (n : Node) → length n.places ≡ K → o + width K ≤ length ws → Neat K (write_node ws o n) o
unfolding write_node
node-written K ws o n e h =
    let w1 : List ℕ = set ws o n.left in
    let w2 : List ℕ = set w1 (o + 1) n.right in
    let l2 : length w2 ≡ length ws = length-set w1 (o + 1) n.right ∙ length-set ws o n.left in
    subst (λ (c : ℕ). NeatRow c (write_row n.places w2 (o + count_words)) (o + count_words)) e (row_written n.places w2 (o + count_words) (omega (arith, e, l2)))

pub touch-written : (K : ℕ) (t : Bool) (ws : List ℕ) (o : ℕ) (n : Node) → length n.places ≡ K → o + width K ≤ length ws → Neat K ws o → Neat K (touch t ws o n) o
unfolding touch
touch-written K true ws o n e h g = node-written K ws o n e h
touch-written K false ws o n e h g = g

-- ---- levels
neat-after : (K k : ℕ) (ws ws' : List ℕ) (b c : ℕ) → ((i : ℕ) → b ≤ i → word ws' i ≡ word ws i) → NeatLevels K k ws b c → NeatLevels K k ws' b c
neat-after K zero ws ws' b c h n = tt
neat-after K (suc k) ws ws' b c h n = (
  λ m l. neat-row K ws ws' (spot K b m + count_words) (λ i g g'. h i (down (m * width K) i g)) (n.0 m l),
  neat-after K k ws ws' (b + c * width K) (c + c) (λ i g. h i (base (c * width K) i g)) n.1,
)
  where
    down : (d i : ℕ) → b + d + 2 ≤ i → b ≤ i
    down d i g = omega arith

    base : (d i : ℕ) → b + d ≤ i → b ≤ i
    base d i g = omega arith

-- node m of the first level written
neat-write : (K k : ℕ) (ws ws' : List ℕ) (b c m : ℕ) → m < c → Neat K ws' (spot K b m) → Only (spot K b m) (spot K b m + width K) ws ws' → NeatLevels K (suc k) ws b c → NeatLevels K (suc k) ws' b c
neat-write K k ws ws' b c m h own only n = (
  λ j l. go j l (eqb j m) refl (ltb j m) refl,
  neat-after K k ws ws' (b + c * width K) (c + c) (λ i g. only i (inr (omega (arith, spot_in K b c m h)))) n.1,
)
  where
    before : (j d : ℕ) → j < m → b + j * d + d ≤ b + m * d
    before j d l = omega (arith, mul-le-mul_right d l)

    past : (j d : ℕ) → m < j → b + m * d + d ≤ b + j * d
    past j d l = omega (arith, mul-le-mul_right d l)

    go : (j : ℕ) → j < c → (e : Bool) → eqb j m ≡ e → (t : Bool) → ltb j m ≡ t → Neat K ws' (spot K b j)
    go j l true e t q = subst (λ (i : ℕ). Neat K ws' (spot K b i)) (sym (eqb-true j m e)) own
    go j l false e true q = neat-row K ws ws' (spot K b j + count_words) (λ i g g'. only i (inl (omega (arith, before j (width K) (ltb-true j m q))))) (n.0 j l)
    go j l false e false q =
        let more : m < j = omega (arith, ltb-false j m q, eqb-false j m e) in
        neat-row K ws ws' (spot K b j + count_words) (λ i g g'. only i (inr (omega (arith, past j (width K) more)))) (n.0 j l)

-- ---- how many words: extent K L 1 = (3K + 2)(2^L - 1)
pub extent-is : (K k c : ℕ) → extent K k c + c * width K ≡ c * 2 ^ k * width K
unfolding extent
extent-is K zero c = omega arith
extent-is K (suc k) c = go (width K) (extent K k (c + c)) (2 ^ k) (2 ^ suc k) (pow-suc 2 k) (extent-is K k (c + c))
  where
    go : (d e p q : ℕ) → q ≡ p * 2 → e + (c + c) * d ≡ (c + c) * p * d → c * d + e + c * d ≡ c * q * d
    go d e p q g h = rw g (omega arith)

-- ---- the passes keep all neat
pub apply-neat : (K k : ℕ) (o : Op) (n b c : ℕ) (ws : List ℕ) → n < c → b + extent K k c ≤ length ws → NeatLevels K k ws b c → NeatLevels K k (apply_words K k o n b c ws) b c
unfolding apply_words extent
apply-neat K zero o n b c ws h fits g = tt
apply-neat K (suc k) o n b c ws h fits g =
    let v : Finished = act_words K k o n b c ws in
    let b' : ℕ = b + c * width K in
    let ws₁ : List ℕ = touch (works o) ws (spot K b n) v.node in
    let len : length ws₁ ≡ length ws = touch-length (works o) ws (spot K b n) v.node in
    let g₁ : NeatLevels K (suc k) ws₁ b c =
    neat-write K k ws ws₁ b c n h (touch-written K (works o) ws (spot K b n) v.node (act-count K k o n b c ws) (omega (arith, spot_in K b c n h)) (g.0 n h)) (touch-only K (works o) ws (spot K b n) v.node (act-count K k o n b c ws)) g in
    let ws₂ : List ℕ = apply_words K k v.op (child_of n v.side) b' (c + c) ws₁ in (
      λ j l. neat-row K ws₁ ws₂ (spot K b j + count_words) (λ i x y. apply-only K k v.op (child_of n v.side) b' (c + c) ws₁ (child-in n c v.side h) i (inl (omega (arith, spot_in K b c j l)))) (g₁.0 j l),
      apply-neat K k v.op (child_of n v.side) b' (c + c) ws₁ (child-in n c v.side h) (omega arith) g₁.1,
    )

-- a cleared slice is neat
pub zero_row : (K : ℕ) (ws : List ℕ) (o : ℕ) → ((i : ℕ) → o ≤ i → i < o + K * place_words → word ws i ≡ 0) → NeatRow K ws o
unfolding place_of place_by flag_of
zero_row zero ws o h = tt
zero_row (suc K) ws o h =
    let m : word ws (flag_at o) ≡ 0 = h (flag_at o) (omega arith) (omega arith) in
    let p : place_of ws o ≡ gap = ap (λ (x : ℕ). place_by (eqb x 0) (element_in ws o)) m in (
      (ap elem_of p ∙ sym (read-zeros ws o (λ i g g'. h i g (omega arith))), ap flag_of p ∙ sym m),
      zero_row K ws (o + place_words) (λ i g g'. h i (omega arith) (omega arith)),
    )

pub clear-neat : (K k : ℕ) (ws : List ℕ) (b c : ℕ) → ((i : ℕ) → b ≤ i → i < b + extent K k c → word ws i ≡ 0) → NeatLevels K k ws b c
unfolding extent
clear-neat K zero ws b c h = tt
clear-neat K (suc k) ws b c h = (
  λ n l. zero_row K ws (spot K b n + count_words) (λ i g g'. h i (down (n * width K) i g) (omega (arith, spot_in K b c n l))),
  clear-neat K k ws (b + c * width K) (c + c) (λ i g g'. h i (base (c * width K) i g) (omega arith)),
)
  where
    down : (d i : ℕ) → b + d + 2 ≤ i → b ≤ i
    down d i g = omega arith

    base : (d i : ℕ) → b + d ≤ i → b ≤ i
    base d i g = omega arith
