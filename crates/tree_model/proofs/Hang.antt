-- An operation at a node of a store is the operation on the tree that hangs there, and leaves every other node's tree as it was.
use Rattle.laws.specs.Prelude.{All, Element, List, [], ◌*◌, ◌+◌, ◌<◌, ◌∙◌, ◌∷◌, ◌≡◌, ◌≢◌, ◌≤◌, ◌⊎◌, all-at, all-set', ap, ap₂, arith, get_or, get_or-set_other, get_or-set_same, inl, inr, le_of_suc-le-suc, length, length-map, length-set, map, mul-le-mul_right, not-suc-le-zero, pred, refl, set, subst, suc, sym, zero, ℕ, ⊎_elim}
use native.Mathlib.Nat.{le_of_eq, lt_of_not-le}
use lib.ListN.{get_or-eq_default}
use lib.Seq.{set_out}
use Rattle.tree_model.proofs.Choice.{least-in}
use Rattle.tree_model.proofs.Nothing.{apply-none}
use Rattle.tree_model.proofs.Rules.{put-rule, swap-rule, take-rule}
use Rattle.tree_model.specs.Prelude.{Level, Levels, Move, Nothing, Op, Put, Puts, Shaped, Slot, Swap, Swaps, Take, Takes, Tree, Work, act, apply, at, bare, clears, ends, exchanges, goes, hang, idle, level_move, low, low_of, lowest, move, op_move, passes, receives, slot_at, slots, stays, step_level, step_work, swap_move, take_move, top, tree_move, tree_of, vacant, work}

-- ---- a node's slots with their trees
module _ {T : Type 0} where
  pub slots-hang : (nd : List Slot) (g : ℕ → T) → map (λ (z : Slot × T). z.0) (hang nd g) ≡ nd
  unfolding hang
  slots-hang [] g = refl
  slots-hang (s ∷ nd) g = ap (λ (r : List Slot). s ∷ r) (slots-hang nd (λ j. g (suc j)))

  pub hang-at : (nd : List Slot) (g : ℕ → T) (j : ℕ) (d : Slot × T) → j < length nd → (get_or (hang nd g) j d).1 ≡ g j
  unfolding hang
  hang-at [] g j d h = absurd (not-suc-le-zero h)
  hang-at (s ∷ nd) g zero d h = refl
  hang-at (s ∷ nd) g (suc j) d h = hang-at nd (λ j. g (suc j)) j d (le_of_suc-le-suc h)

  hang-ext : (nd : List Slot) (g g' : ℕ → T) → ((i : ℕ) → i < length nd → g i ≡ g' i) → hang nd g ≡ hang nd g'
  unfolding hang
  hang-ext [] g g' h = refl
  hang-ext (s ∷ nd) g g' h =
      ap₂ (λ (u : T) (r : List (Slot × T)). (s, u) ∷ r) (h 0 (omega arith)) (hang-ext nd (λ j. g (suc j)) (λ j. g' (suc j)) (λ i l. h (suc i) (omega arith)))

  hang-set : (nd : List Slot) (g g' : ℕ → T) (p : ℕ) (s : Slot) (u : T) → (p < length nd → g' p ≡ u) → ((i : ℕ) → i < length nd → i ≢ p → g' i ≡ g i)
      → hang (set nd p s) g' ≡ set (hang nd g) p (s, u)
  unfolding hang
  hang-set [] g g' p s u h h' = refl
  hang-set (o ∷ nd) g g' zero s u h h' =
      ap₂ (λ (u : T) (r : List (Slot × T)). (s, u) ∷ r) (h (omega arith)) (hang-ext nd (λ j. g' (suc j)) (λ j. g (suc j)) (λ i l. h' (suc i) (omega arith) (omega arith)))
  hang-set (o ∷ nd) g g' (suc p) s u h h' =
      ap₂ (λ (u : T) (r : List (Slot × T)). (o, u) ∷ r) (h' 0 (omega arith) (omega arith))
      (hang-set nd (λ j. g (suc j)) (λ j. g' (suc j)) p s u (λ l. h (omega arith)) (λ i l n. h' (suc i) (omega arith) (omega arith)))

-- ---- a step goes on below only from a place of its node
pub past : (nd : List Slot) (j : ℕ) → length nd ≤ j → (slot_at nd j).count ≡ 0
unfolding slot_at vacant
past nd j h = ap (λ (s : Slot). s.count) (get_or-eq_default nd vacant h)

pub inside : (nd : List Slot) (j : ℕ) → 0 < (slot_at nd j).count → j < length nd
inside nd j h = lt_of_not-le (λ l. omega (arith, past nd j l))

abbrev pub Inside : Op → List Slot → ℕ → Type 0
Inside Nothing nd j = Unit {0}
Inside (Put x) nd j = j < length nd
Inside Take nd j = j < length nd
Inside (Swap x) nd j = j < length nd

put-inside : (x : Element) (nd : List Slot) (v : Move) → Puts x nd v → 0 < length nd → Inside v.rest nd v.place
put-inside x nd v (ends h) l = tt
put-inside x nd v (exchanges h e) l = least-in nd l
put-inside x nd v (passes h e) l = least-in nd l

take-inside : (nd : List Slot) (b : ℕ → Element) (v : Move) → Takes nd b v → Inside v.rest nd v.place
take-inside nd b v (clears h) = tt
take-inside nd b v (receives h) = inside nd (lowest nd) (omega arith)

swap-inside : (x : Element) (nd : List Slot) (b : ℕ → Element) (v : Move) → Swaps x nd b v → Inside v.rest nd v.place
swap-inside x nd b v (stays h) = tt
swap-inside x nd b v (goes h e) = inside nd (lowest nd) (omega arith)

pub rest-inside : (o : Op) (nd : List Slot) (b : ℕ → Element) → 0 < length nd → Inside (op_move o nd b).rest nd (op_move o nd b).place
unfolding op_move
rest-inside Nothing nd b h = tt
rest-inside (Put x) nd b h = put-inside x nd _ (put-rule x nd) h
rest-inside Take nd b h = take-inside nd b _ (take-rule nd b)
rest-inside (Swap x) nd b h = swap-inside x nd b _ (swap-rule x nd b)

-- ---- a step depends on the element below the chosen place alone, and on that only with a count above one
take_ext : (nd : List Slot) (b b' : ℕ → Element) → (1 < (slot_at nd (lowest nd)).count → b (lowest nd) ≡ b' (lowest nd)) → take_move nd b ≡ take_move nd b'
take_ext nd b b' p = go _ _ (take-rule nd b) (take-rule nd b')
  where
    go : (v w : Move) → Takes nd b v → Takes nd b' w → v ≡ w
    go v w (clears h) (clears h') = refl
    go v w (clears h) (receives h') = absurd (omega arith)
    go v w (receives h) (clears h') = absurd (omega arith)
    go v w (receives h) (receives h') = ap (λ (e : Element). move (lowest nd) e (pred (slot_at nd (lowest nd)).count) Take) (p h)

swap-ext : (x : Element) (nd : List Slot) (b b' : ℕ → Element) → (1 < (slot_at nd (lowest nd)).count → b (lowest nd) ≡ b' (lowest nd)) → swap_move x nd b ≡ swap_move x nd b'
swap-ext x nd b b' p = go _ _ (swap-rule x nd b) (swap-rule x nd b')
  where
    ranks : 1 < (slot_at nd (lowest nd)).count → (b (lowest nd)).rank.0 ≡ (b' (lowest nd)).rank.0
    ranks h = ap (λ (e : Element). e.rank.0) (p h)

    apart : (c : ℕ → Element) (r : ℕ) → 1 < (slot_at nd (lowest nd)).count → ((slot_at nd (lowest nd)).count ≤ 1) ⊎ (x.rank.0 ≤ (c (lowest nd)).rank.0) → (c (lowest nd)).rank.0 ≡ r → r < x.rank.0 → ⊥
    apart c r h (inl l) e o = omega arith
    apart c r h (inr l) e o = omega arith

    go : (v w : Move) → Swaps x nd b v → Swaps x nd b' w → v ≡ w
    go v w (stays h) (stays h') = refl
    go v w (stays h) (goes h' l) = absurd (apart b _ h' h (ranks h') l)
    go v w (goes h l) (stays h') = absurd (apart b' _ h h' (sym (ranks h)) l)
    go v w (goes h l) (goes h' l') = ap (λ (e : Element). move (lowest nd) e (slot_at nd (lowest nd)).count (Swap x)) (p h)

pub move-ext : (o : Op) (nd : List Slot) (b b' : ℕ → Element) → (1 < (slot_at nd (lowest nd)).count → b (lowest nd) ≡ b' (lowest nd)) → op_move o nd b ≡ op_move o nd b'
unfolding op_move
move-ext Nothing nd b b' h = refl
move-ext (Put x) nd b b' h = refl
move-ext Take nd b b' h = take_ext nd b b' h
move-ext (Swap x) nd b b' h = swap-ext x nd b b' h

-- ---- numbers of nodes
pub digits : (m n n' j p : ℕ) → j < m → p < m → n * m + j ≡ n' * m + p → n ≡ n'
digits m n n' j p h h' e =
    let a : ¬ (n < n') = λ l. omega (arith, mul-le-mul_right m l) in
    let b : ¬ (n' < n) = λ l. omega (arith, mul-le-mul_right m l) in
    omega arith

pub below_less : (m n c j : ℕ) → n < c → j < m → n * m + j < c * m
below_less m n c j h h' = omega (arith, mul-le-mul_right m h)

-- the lowest of the tree at a node is the lowest of the node
low-top : (m k : ℕ) (ls : Levels k) (i : ℕ) → low_of k (tree_of m k ls i) ≡ low (get_or (top k ls) i [])
unfolding low_of tree_of top low slot_at vacant slots
low-top m zero ls i = refl
low-top m (suc k) ls i = ap (λ (nd : List Slot). (get_or nd (lowest nd) vacant).element) (slots-hang (get_or ls.0 i []) (λ j. tree_of m k ls.1 (i * m + j)))

pub act-none : (k : ℕ) (t : Tree k) → act k Nothing t ≡ t
unfolding act tree_move op_move slots
act-none zero t = refl
act-none (suc k) t = set_out t _ _ (le_of_eq (sym (length-map t (λ (z : Slot × Tree k). z.0))))

-- work at node i of c is in range, and not at node n
abbrev Away : Op → ℕ → ℕ → ℕ → Type 0
Away Nothing i n c = Unit {0}
Away (Put x) i n c = (i < c) × (i ≢ n)
Away Take i n c = (i < c) × (i ≢ n)
Away (Swap x) i n c = (i < c) × (i ≢ n)

away-work : (o : Op) (i n c : ℕ) → Away o i n c → Away (work o i).op (work o i).node n c
unfolding work
away-work Nothing i n c a = tt
away-work (Put x) i n c a = a
away-work Take i n c a = a
away-work (Swap x) i n c a = a

-- .. from what holds where there is work
away_of : (r : Op) (nd : List Slot) (p i n c : ℕ) → Inside r nd p → (p < length nd → (i < c) × (i ≢ n)) → Away r i n c
away_of Nothing nd p i n c h f = tt
away_of (Put x) nd p i n c h f = f h
away_of Take nd p i n c h f = f h
away_of (Swap x) nd p i n c h f = f h

-- .. and back
away-to : (o : Op) (i n c : ℕ) → Away o i n c → (o ≡ Nothing) ⊎ ((i < c) × (i ≢ n))
away-to Nothing i n c a = inl refl
away-to (Put x) i n c a = inr a
away-to Take i n c a = inr a
away-to (Swap x) i n c a = inr a

module _ (m : ℕ) (some : 0 < m) where
  node-length : (l : Level) (n : ℕ) → All (λ nd. length nd ≡ m) l → length (get_or l n []) ≤ m
  node-length [] n h = omega arith
  node-length (nd ∷ l) zero h = le_of_eq h.0
  node-length (nd ∷ l) (suc n) h = node-length l n h.1

  -- ---- what hangs at another node stays
  other-node : (w : Work) (l b : Level) (n : ℕ) → w.node ≢ n → get_or (step_level m w l b) n [] ≡ get_or l n []
  unfolding step_level
  other-node w l b n h = get_or-set_other l w.node n _ [] (λ e. h (sym e))

  module _ (c : ℕ) (w : Work) (l b : Level) (len : length l ≡ c) (sh : All (λ nd. length nd ≡ m) l) (h : w.node < c) where
    pub own-length : length (get_or l w.node []) ≡ m
    own-length = all-at _ l w.node [] sh (subst (λ (n : ℕ). w.node < n) (sym len) h)

    -- what is left to do is below the node, and so not at i, if no place of the node has i below it
    next-away : (i : ℕ) → ((level_move m w.op w.node l b).place < m → w.node * m + (level_move m w.op w.node l b).place ≢ i)
        → Away (step_work m w l b).op (step_work m w l b).node i (c * m)
    unfolding step_work level_move
    next-away i ne =
        let nd : List Slot = get_or l w.node [] in
        let v : Move = op_move w.op nd (λ j. low (get_or b (w.node * m + j) [])) in
        away-work v.rest (w.node * m + v.place) i (c * m)
        (away_of v.rest nd v.place (w.node * m + v.place) i (c * m) (rest-inside w.op nd _ (omega (arith, own-length)))
        (λ lt. (below_less m w.node c v.place h (omega (arith, own-length)), ne (omega (arith, own-length)))))

  pub frame : (k : ℕ) (w : Work) (n c : ℕ) (ls : Levels k) → Shaped m k c ls → Away w.op w.node n c → tree_of m k (apply m k w ls) n ≡ tree_of m k ls n
  unfolding tree_of apply
  frame zero w n c ls sh a = refl
  frame (suc k) w n c ls sh a = ⊎_elim still (moves (frame k)) (away-to w.op w.node n c a)
    where
      still : w.op ≡ Nothing → tree_of m (suc k) (apply m (suc k) w ls) n ≡ tree_of m (suc k) ls n
      still e = ap (λ (r : Levels (suc k)). tree_of m (suc k) r n) (apply-none m (suc k) w ls e)

      moves : ((w : Work) (n c : ℕ) (ls : Levels k) → Shaped m k c ls → Away w.op w.node n c → tree_of m k (apply m k w ls) n ≡ tree_of m k ls n)
          → (w.node < c) × (w.node ≢ n) → tree_of m (suc k) (apply m (suc k) w ls) n ≡ tree_of m (suc k) ls n
      moves ih h =
          ap (λ (nd : List Slot). hang nd (λ j. tree_of m k (apply m (suc k) w ls).1 (n * m + j))) (other-node w ls.0 (top k ls.1) n h.1)
          ∙ hang-ext (get_or ls.0 n []) _ _ (λ i lt. ih (step_work m w ls.0 (top k ls.1)) (n * m + i) (c * m) ls.1 sh.2
          (next-away c w ls.0 (top k ls.1) sh.0 sh.1 h.0 (n * m + i)
          (λ lp e. h.1 (digits m w.node n _ i lp (omega (arith, node-length ls.0 n sh.1)) e))))

  -- ---- what hangs at the node itself has the operation done
  abbrev Commutes : ℕ → Type 0
  Commutes k = (w : Work) (c : ℕ) (ls : Levels k) → Shaped m k c ls → w.node < c → tree_of m k (apply m k w ls) w.node ≡ act k w.op (tree_of m k ls w.node)

  at-work : (k : ℕ) → Commutes k → (r : Op) (i c : ℕ) (ls : Levels k) → Shaped m k c ls → i < c → tree_of m k (apply m k (work r i) ls) i ≡ act k r (tree_of m k ls i)
  unfolding work
  at-work k ih Nothing i c ls sh h = ap (λ (r : Levels k). tree_of m k r i) (apply-none m k idle ls refl) ∙ sym (act-none k (tree_of m k ls i))
  at-work k ih (Put x) i c ls sh h = ih (record { op = Put x; node = i }) c ls sh h
  at-work k ih Take i c ls sh h = ih (record { op = Take; node = i }) c ls sh h
  at-work k ih (Swap x) i c ls sh h = ih (record { op = Swap x; node = i }) c ls sh h

  module _ (k : ℕ) (w : Work) (c : ℕ) (ls : Levels (suc k)) (sh : Shaped m (suc k) c ls) (h : w.node < c) where
    abbrev pub n : ℕ
    n = w.node

    abbrev pub nd : List Slot
    nd = get_or ls.0 w.node []

    abbrev pub v : Move
    v = level_move m w.op w.node ls.0 (top k ls.1)

    abbrev pub g : ℕ → Tree k
    g j = tree_of m k ls.1 (w.node * m + j)

    len : length nd ≡ m
    len = own-length c w ls.0 (top k ls.1) sh.0 sh.1 h

    pub same_move : tree_move k w.op (hang nd g) ≡ v
    unfolding tree_move level_move slots at
    same_move =
        ap (λ (s : List Slot). op_move w.op s (λ j. low_of k (get_or (hang nd g) j (vacant, bare k)).1)) (slots-hang nd g)
        ∙ move-ext w.op nd _ _ (λ h. ap (low_of k) (hang-at nd g (lowest nd) (vacant, bare k) (inside nd (lowest nd) (omega arith))) ∙ low-top m k ls.1 (n * m + lowest nd))

    own-node : get_or (step_level m w ls.0 (top k ls.1)) n [] ≡ set nd v.place v.slot
    unfolding step_level
    own-node = get_or-set_same ls.0 n _ [] (subst (λ (a : ℕ). n < a) (sym sh.0) h)

    step-commutes : Commutes k → tree_of m (suc k) (apply m (suc k) w ls) n ≡ act (suc k) w.op (tree_of m (suc k) ls n)
    unfolding tree_of apply act step_work at
    step-commutes ih =
        ap (λ (r : List Slot). hang r (λ j. tree_of m k (apply m (suc k) w ls).1 (n * m + j))) own-node
        ∙ hang-set nd g (λ j. tree_of m k (apply m (suc k) w ls).1 (n * m + j)) v.place v.slot (act k v.rest (at k (hang nd g) v.place).1)
        (λ lt. at-work k ih v.rest (n * m + v.place) (c * m) ls.1 sh.2 (below_less m n c v.place h (omega (arith, len)))
        ∙ ap (act k v.rest) (sym (hang-at nd g v.place (vacant, bare k) lt)))
        (λ i lt ne. frame k (step_work m w ls.0 (top k ls.1)) (n * m + i) (c * m) ls.1 sh.2
        (next-away c w ls.0 (top k ls.1) sh.0 sh.1 h (n * m + i) (λ lp e. ne (omega arith))))
        ∙ ap (λ (v : Move). set (hang nd g) v.place (v.slot, act k v.rest (at k (hang nd g) v.place).1)) (sym same_move)

  pub commutes : (k : ℕ) → Commutes k
  unfolding tree_of apply act
  commutes zero w c ls sh h = refl
  commutes (suc k) w c ls sh h = step-commutes k w c ls sh h (commutes k)

  -- the store's tree is the tree at the root
  pub root-commutes : (k : ℕ) (o : Op) (ls : Levels k) → Shaped m k 1 ls → tree_of m k (apply m k (work o 0) ls) 0 ≡ act k o (tree_of m k ls 0)
  root-commutes k o ls sh = at-work k (commutes k) o 0 1 ls sh (omega arith)

  -- an operation keeps the shape
  pub apply-shaped : (k : ℕ) (w : Work) (c : ℕ) (ls : Levels k) → Shaped m k c ls → Shaped m k c (apply m k w ls)
  unfolding apply step_level
  apply-shaped zero w c ls sh = tt
  apply-shaped (suc k) w c ls sh = (
    length-set ls.0 w.node _ ∙ sh.0,
    all-set' _ ls.0 w.node _ sh.1 (λ lt. length-set (get_or ls.0 w.node []) _ _ ∙ all-at _ ls.0 w.node [] sh.1 lt),
    apply-shaped k _ (c * m) ls.1 sh.2,
  )
