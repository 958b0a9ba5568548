-- The pass over the words, from the top down, is the operation on the levels that the words hold.
use Rattle.laws.specs.Prelude.{Bool, Element, List, [], ◌*◌, ◌+◌, ◌<◌, ◌∙◌, ◌∷◌, ◌≡◌, ◌≤◌, ap, ap₂, arith, blank, false, get_or-set_other, get_or-set_same, inl, inr, key, le_of_suc-le-suc, length, length-set, ltb, mul-le-mul_right, not-suc-le-zero, refl, set, subst, suc, sym, true, true≢false, zero, ℕ, ⊎_elim}
use Rattle.cluster_model.specs.Prelude.{Begun, Finished, Node, Note, Only, Op, Place, Side, begin, extent, fewer, fill, fill_from, finish, free, gap, has, high, high_elem, keep, lhs, low, low_elem, lower_side, node_of, none, nothing, nothing_below, onto, pick, place_of, put, put_by, raise, rhs, row_of, sink, store, swap, swap_by, take, take_by, touch, trial, trial_by, trial_from, width, word, works, write_node, write_place, write_row}
use Rattle.cluster_model.proofs.Levels.{Levels, node_at, child_of, low_at, act_at, apply}
use Rattle.cluster_model.proofs.Words.{levels_of, row-local, place-local, write-only, write-length, write-place, node-local, levels-write}

-- where node n of a level stands that begins at b
abbrev pub spot : ℕ → ℕ → ℕ → ℕ
spot K b n = b + n * width K

-- the lowest of node n of the level that begins at b, of k levels left
unfoldable pub low_words : ℕ → (k : ℕ) → List ℕ → ℕ → ℕ → Element
low_words K zero ws b n = blank
low_words K (suc k) ws b n = low_elem (node_of K ws (spot K b n)).places

abbrev pub settle_words : ℕ → (k : ℕ) → Note → Node → ℕ → ℕ → ℕ → List ℕ → Finished
settle_words K k a x n b c ws = finish a x (low_words K k ws (b + c * width K) (child_of n lhs)) (low_words K k ws (b + c * width K) (child_of n rhs))

abbrev pub act_words : ℕ → (k : ℕ) → Op → ℕ → ℕ → ℕ → List ℕ → Finished
act_words K k o n b c ws =
    let x = node_of K ws (spot K b n) in
    let g = begin o (low x.places) x in
    settle_words K k g.note g.node n b c ws

-- an operation at node n of the level of c nodes that begins at b
unfoldable pub apply_words : ℕ → (k : ℕ) → Op → ℕ → ℕ → ℕ → List ℕ → List ℕ
apply_words K zero o n b c ws = ws
apply_words K (suc k) o n b c ws =
    let v = act_words K k o n b c ws in
    apply_words K k v.op (child_of n v.side) (b + c * width K) (c + c) (touch (works o) ws (spot K b n) v.node)

-- ---- a node written whole
pub row-only : (ps : List Place) (ws : List ℕ) (o : ℕ) → Only o (o + length ps * 4) ws (write_row ps ws o)
unfolding write_row
row-only [] ws o i h = refl
row-only (p ∷ ps) ws o i h =
    row-only ps (write_place ws o p) (o + 4) i (⊎_elim (λ (g : i < o). inl (omega arith)) (λ (g : o + suc (length ps) * 4 ≤ i). inr (omega arith)) h)
    ∙ write-only ws o p i (⊎_elim (λ (g : i < o). inl g) (λ (g : o + suc (length ps) * 4 ≤ i). inr (omega arith)) h)

row-length : (ps : List Place) (ws : List ℕ) (o : ℕ) → length (write_row ps ws o) ≡ length ws
unfolding write_row
row-length [] ws o = refl
row-length (p ∷ ps) ws o = row-length ps (write_place ws o p) (o + 4) ∙ write-length ws o p

row_read : (ps : List Place) (ws : List ℕ) (o : ℕ) → o + length ps * 4 ≤ length ws → row_of place_of 4 (length ps) (write_row ps ws o) o ≡ ps
unfolding write_row row_of
row_read [] ws o h = refl
row_read (p ∷ ps) ws o h =
    let ws₁ : List ℕ = write_place ws o p in
    let len : length ws₁ ≡ length ws = write-length ws o p in
    ap₂ (λ (a : Place) (l : List Place). a ∷ l)
    (place-local ws₁ (write_row ps ws₁ (o + 4)) o (λ i g g'. row-only ps ws₁ (o + 4) i (inl g')) ∙ write-place ws o p (omega arith))
    (row_read ps ws₁ (o + 4) (omega arith))

pub node-only : (K : ℕ) (ws : List ℕ) (o : ℕ) (n : Node) → length n.places ≡ K → Only o (o + width K) ws (write_node ws o n)
unfolding write_node
node-only K ws o n e i h =
    let w1 : List ℕ = set ws o n.left in
    row-only n.places (set w1 (o + 1) n.right) (o + 2) i (⊎_elim (λ (g : i < o). inl (omega arith)) (λ (g : o + width K ≤ i). inr (omega (arith, e))) h)
    ∙ get_or-set_other w1 (o + 1) i n.right 0 (λ q. ⊎_elim (λ (g : i < o). omega arith) (λ (g : o + width K ≤ i). omega arith) h)
    ∙ get_or-set_other ws o i n.left 0 (λ q. ⊎_elim (λ (g : i < o). omega arith) (λ (g : o + width K ≤ i). omega arith) h)

pub node-length : (ws : List ℕ) (o : ℕ) (n : Node) → length (write_node ws o n) ≡ length ws
unfolding write_node
node-length ws o n =
    row-length n.places (set (set ws o n.left) (o + 1) n.right) (o + 2) ∙ length-set (set ws o n.left) (o + 1) n.right ∙ length-set ws o n.left

pub node-read : (K : ℕ) (ws : List ℕ) (o : ℕ) (n : Node) → length n.places ≡ K → o + width K ≤ length ws → node_of K (write_node ws o n) o ≡ n
unfolding node_of write_node
node-read K ws o n e h =
    let w1 : List ℕ = set ws o n.left in
    let w2 : List ℕ = set w1 (o + 1) n.right in
    let w3 : List ℕ = write_row n.places w2 (o + 2) in
    let l1 : length w1 ≡ length ws = length-set ws o n.left in
    let l2 : length w2 ≡ length ws = length-set w1 (o + 1) n.right ∙ l1 in
    let l : word w3 o ≡ n.left = row-only n.places w2 (o + 2) o (inl (omega arith)) ∙ get_or-set_other w1 (o + 1) o n.right 0 (λ q. omega arith) ∙ get_or-set_same ws o n.left 0 (omega arith) in
    let r : word w3 (o + 1) ≡ n.right = row-only n.places w2 (o + 2) (o + 1) (inl (omega arith)) ∙ get_or-set_same w1 (o + 1) n.right 0 (omega arith) in
    let p : row_of place_of 4 K w3 (o + 2) ≡ n.places = subst (λ (c : ℕ). row_of place_of 4 c w3 (o + 2) ≡ n.places) e (row_read n.places w2 (o + 2) (omega (arith, e, l2))) in
    λ i. record { left = l i; right = r i; places = p i }

-- ---- a node written, or not touched
pub touch-only : (K : ℕ) (t : Bool) (ws : List ℕ) (o : ℕ) (n : Node) → length n.places ≡ K → Only o (o + width K) ws (touch t ws o n)
unfolding touch
touch-only K true ws o n e = node-only K ws o n e
touch-only K false ws o n e = λ i h. refl

pub touch-length : (t : Bool) (ws : List ℕ) (o : ℕ) (n : Node) → length (touch t ws o n) ≡ length ws
unfolding touch
touch-length true ws o n = node-length ws o n
touch-length false ws o n = refl

pub touch-read : (K : ℕ) (t : Bool) (ws : List ℕ) (o : ℕ) (n : Node) → length n.places ≡ K → o + width K ≤ length ws → (t ≡ false → node_of K ws o ≡ n) → node_of K (touch t ws o n) o ≡ n
unfolding touch
touch-read K true ws o n e h q = node-read K ws o n e h
touch-read K false ws o n e h q = q refl

-- where nothing is written the node is as it was
pub idle-act : (o : Op) (i : ℕ) (n : Node) (a b : Element) → works o ≡ false → n ≡ (finish (begin o i n).note (begin o i n).node a b).node
unfolding works begin finish
idle-act none i n a b e = refl
idle-act (put x) i n a b e = absurd (true≢false e)
idle-act take i n a b e = absurd (true≢false e)
idle-act (swap x) i n a b e = absurd (true≢false e)

-- ---- a node keeps its number of places
row_count : (K : ℕ) (ws : List ℕ) (o : ℕ) → length (row_of place_of 4 K ws o) ≡ K
unfolding row_of
row_count zero ws o = refl
row_count (suc K) ws o = ap suc (row_count K ws (o + 4))

pub node-count : (K : ℕ) (ws : List ℕ) (o : ℕ) → length (node_of K ws o).places ≡ K
unfolding node_of
node-count K ws o = row_count K ws (o + 2)

pub begin-length : (o : Op) (i : ℕ) (n : Node) → length (begin o i n).node.places ≡ length n.places
unfolding begin put_by take_by swap_by
begin-length none i n = refl
begin-length (put y) i n = go (ltb (free n.places) (length n.places)) (fewer n)
  where
    go : (b : Bool) (s : Side) → length (put_by b y n).node.places ≡ length n.places
    go true s = length-set n.places (free n.places) (has y)
    go false s = raised (fewer n)
      where
        raised : (s : Side) → length (raise s (store (high n.places) (has (keep y (high_elem n.places))) n)).places ≡ length n.places
        raised lhs = length-set n.places (high n.places) (has (keep y (high_elem n.places)))
        raised rhs = length-set n.places (high n.places) (has (keep y (high_elem n.places)))
begin-length take i n = go (nothing_below n)
  where
    go : (b : Bool) → length (take_by b i n).node.places ≡ length n.places
    go true = length-set n.places i gap
    go false = length-set n.places i gap
begin-length (swap x) i n = go (nothing_below n)
  where
    go : (b : Bool) → length (swap_by b i x n).node.places ≡ length n.places
    go true = length-set n.places i (has x)
    go false = length-set n.places i (has x)

pub finish-length : (c : Note) (n : Node) (a b : Element) → length (finish c n a b).node.places ≡ length n.places
unfolding finish fill_from trial_from trial_by
finish-length nothing n a b = refl
finish-length (fill j) n a b = go (lower_side n a b)
  where
    go : (s : Side) → length (set (sink s n).places j (has (pick s a b))) ≡ length n.places
    go lhs = length-set n.places j (has a)
    go rhs = length-set n.places j (has b)
finish-length (trial j x) n a b = go (lower_side n a b) (ltb (key (pick (lower_side n a b) a b)) (key x))
  where
    go : (s : Side) (t : Bool) → length (trial_by t s j x n a b).node.places ≡ length n.places
    go s true = length-set n.places j (has (pick s a b))
    go s false = refl
finish-length (onto s y) n a b = refl

-- ---- reading a level
pub row_at : (K c n : ℕ) (ws : List ℕ) (b : ℕ) → n < c → node_at (row_of (node_of K) (width K) c ws b) n ≡ node_of K ws (spot K b n)
unfolding node_at row_of
row_at K zero n ws b h = absurd (not-suc-le-zero h)
row_at K (suc c) zero ws b h =
    let at : b ≡ b + 0 * width K = omega arith in
    ap (node_of K ws) at
row_at K (suc c) (suc n) ws b h = row_at K c n ws (b + width K) (le_of_suc-le-suc h) ∙ ap (node_of K ws) (next (width K))
  where
    next : (d : ℕ) → b + d + n * d ≡ b + suc n * d
    next d = omega arith

pub low-words : (K k : ℕ) (ws : List ℕ) (b c n : ℕ) → n < c → low_at k (levels_of K k ws b c) n ≡ low_words K k ws b n
unfolding low_at levels_of low_words
low-words K zero ws b c n h = refl
low-words K (suc k) ws b c n h = ap (λ (x : Node). low_elem x.places) (row_at K c n ws b h)

pub child-in : (n c : ℕ) (s : Side) → n < c → child_of n s < c + c
child-in n c lhs h = omega arith
child-in n c rhs h = omega arith

-- node n's words end within its level
pub spot_in : (K b c n : ℕ) → n < c → spot K b n + width K ≤ b + c * width K
spot_in K b c n h = go (width K)
  where
    go : (d : ℕ) → b + n * d + d ≤ b + c * d
    go d = omega (arith, mul-le-mul_right d h)

same-settle : (K k : ℕ) (a : Note) (x : Node) (ws : List ℕ) (b c n : ℕ) → n < c
    → finish a x (low_at k (levels_of K (suc k) ws b c).1 (child_of n lhs)) (low_at k (levels_of K (suc k) ws b c).1 (child_of n rhs)) ≡ settle_words K k a x n b c ws
unfolding levels_of
same-settle K k a x ws b c n h =
    ap₂ (λ (u : Element) (v : Element). finish a x u v)
    (low-words K k ws (b + c * width K) (c + c) (child_of n lhs) (child-in n c lhs h))
    (low-words K k ws (b + c * width K) (c + c) (child_of n rhs) (child-in n c rhs h))

-- ---- one at a time
pub apply-length : (K k : ℕ) (o : Op) (n b c : ℕ) (ws : List ℕ) → length (apply_words K k o n b c ws) ≡ length ws
unfolding apply_words
apply-length K zero o n b c ws = refl
apply-length K (suc k) o n b c ws =
    let v : Finished = act_words K k o n b c ws in
    apply-length K k v.op (child_of n v.side) (b + c * width K) (c + c) (touch (works o) ws (spot K b n) v.node) ∙ touch-length (works o) ws (spot K b n) v.node

pub act-count : (K k : ℕ) (o : Op) (n b c : ℕ) (ws : List ℕ) → length (act_words K k o n b c ws).node.places ≡ K
act-count K k o n b c ws =
    let x : Node = node_of K ws (spot K b n) in
    let g : Begun = begin o (low x.places) x in
    finish-length g.note g.node (low_words K k ws (b + c * width K) (child_of n lhs)) (low_words K k ws (b + c * width K) (child_of n rhs))
    ∙ begin-length o (low x.places) x ∙ node-count K ws (spot K b n)

-- words before the level, and past the last, are not touched
pub apply-only : (K k : ℕ) (o : Op) (n b c : ℕ) (ws : List ℕ) → n < c → Only b (b + extent K k c) ws (apply_words K k o n b c ws)
unfolding apply_words extent
apply-only K zero o n b c ws h i g = refl
apply-only K (suc k) o n b c ws h i g =
    let v : Finished = act_words K k o n b c ws in
    apply-only K k v.op (child_of n v.side) (b + c * width K) (c + c) (touch (works o) ws (spot K b n) v.node) (child-in n c v.side h) i
    (⊎_elim (λ (l : i < b). inl (low_of (c * width K) l)) (λ (l : b + (c * width K + extent K k (c + c)) ≤ i). inr (omega arith)) g)
    ∙ touch-only K (works o) ws (spot K b n) v.node (act-count K k o n b c ws) i
    (⊎_elim (λ (l : i < b). inl (low_of (n * width K) l)) (λ (l : b + (c * width K + extent K k (c + c)) ≤ i). inr (omega (arith, spot_in K b c n h))) g)
  where
    low_of : (d : ℕ) → i < b → i < b + d
    low_of d l = omega arith

pub words-apply : (K k : ℕ) (o : Op) (n b c : ℕ) (ws : List ℕ) → n < c → b + extent K k c ≤ length ws
    → levels_of K k (apply_words K k o n b c ws) b c ≡ apply k o n (levels_of K k ws b c)
unfolding apply_words apply levels_of extent
words-apply K zero o n b c ws h fits = refl
words-apply K (suc k) o n b c ws h fits =
    let l : List Node = row_of (node_of K) (width K) c ws b in
    let b' : ℕ = b + c * width K in
    let ls : Levels k = levels_of K k ws b' (c + c) in
    let v : Finished = act_words K k o n b c ws in
    let x : Node = node_of K ws (spot K b n) in
    let same : v ≡ act_at k o n l ls =
    sym (ap (λ (y : Node). finish (begin o (low y.places) y).note (begin o (low y.places) y).node (low_at k ls (child_of n lhs)) (low_at k ls (child_of n rhs))) (row_at K c n ws b h)
    ∙ same-settle K k (begin o (low x.places) x).note (begin o (low x.places) x).node ws b c n h) in
    let ws₁ : List ℕ = touch (works o) ws (spot K b n) v.node in
    let wrote : levels_of K (suc k) ws₁ b c ≡ (set l n v.node, ls) =
    levels-write K k ws ws₁ b c n v.node h (touch-read K (works o) ws (spot K b n) v.node (act-count K k o n b c ws) (omega (arith, spot_in K b c n h)) (idle-act o (low x.places) x (low_words K k ws b' (child_of n lhs)) (low_words K k ws b' (child_of n rhs))))
    (touch-only K (works o) ws (spot K b n) v.node (act-count K k o n b c ws)) in
    let ws₂ : List ℕ = apply_words K k v.op (child_of n v.side) b' (c + c) ws₁ in
    let first : row_of (node_of K) (width K) c ws₂ b ≡ set l n (act_at k o n l ls).node =
    row-local (node_of K) (width K) (node-local K) c ws₁ ws₂ b (λ i g g'. apply-only K k v.op (child_of n v.side) b' (c + c) ws₁ (child-in n c v.side h) i (inl g'))
    ∙ ap (λ (u : Levels (suc k)). u.0) wrote ∙ ap (λ (u : Finished). set l n u.node) same in
    let later : levels_of K k ws₂ b' (c + c) ≡ apply k (act_at k o n l ls).op (child_of n (act_at k o n l ls).side) ls =
    words-apply K k v.op (child_of n v.side) b' (c + c) ws₁ (child-in n c v.side h) (omega (arith, touch-length (works o) ws (spot K b n) v.node))
    ∙ ap (apply k v.op (child_of n v.side)) (ap (λ (u : Levels (suc k)). u.1) wrote)
    ∙ ap (λ (u : Finished). apply k u.op (child_of n u.side) ls) same in
    λ i. (first i, later i)
