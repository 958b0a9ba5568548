-- A slot written to the words is a slot written to its level, and no other level changes; so an operation on the words is the operation
-- on the levels.
use Rattle.laws.specs.Prelude.{All, Bool, Element, List, [], ◌&&◌, ◌*◌, ◌+◌, ◌<◌, ◌∙◌, ◌∷◌, ◌≡◌, ◌≢◌, ◌≤◌, ◌⊎◌, and_left, and_right, ap, ap₂, arith, cond, cond-path, element_words, false, get_or, get_or-set_other, get_or-set_same, inl, inr, le_of_suc-le-suc, length, length-set, ltb, ltb-false, ltb-true, not-suc-le-zero, not-true, refl, set, set_comm, subst, suc, sym, true, true≢false, write_element, zero, ℕ}
use native.Mathlib.Nat.{mul_assoc, mul-suc, mul-zero}
use Rattle.strip.proofs.Words.{Apart, read-local, write-apart as element-apart, write-back, write-comm as element-comm, write-length as element-length, write-past}
use Rattle.tree_model.proofs.Choice.{filled, least-in, lowest-is}
use Rattle.tree_model.proofs.Hang.{below_less, digits}
use Rattle.tree_model.proofs.Nothing.{is_none, step-none}
use Rattle.tree_model.proofs.Rules.{put-rule, swap-rule, take-rule}
use Rattle.tree_model.specs.Prelude.{Level, Levels, Move, Nothing, Op, Put, Puts, Slot, Swap, Swaps, Take, Takes, Work, apply, apply_words, clears, ends, every, exchanges, goes, has_some, is_empty, is_nothing, level_move, level_of, levels_of, node_of, node_ok, op_move, passes, path_ok, read_ok, receives, rest_words, room, size, slot_at, slot_of, slot_words, stays, step_level, step_ok, step_words, step_work, sum_counts, tabulate, top, under, vacant, work_ok, write}

module _ {A : Type 0} where
  pub length-tab : (n : ℕ) (f : ℕ → A) → length (tabulate n f) ≡ n
  unfolding tabulate
  length-tab zero f = refl
  length-tab (suc n) f = ap suc (length-tab n (λ i. f (suc i)))

  pub get_or-tab : (n : ℕ) (f : ℕ → A) (i : ℕ) (d : A) → i < n → get_or (tabulate n f) i d ≡ f i
  unfolding tabulate
  get_or-tab zero f i d h = absurd (not-suc-le-zero h)
  get_or-tab (suc n) f zero d h = refl
  get_or-tab (suc n) f (suc i) d h = get_or-tab n (λ i. f (suc i)) i d (le_of_suc-le-suc h)

  pub tab-ext : (n : ℕ) (f g : ℕ → A) → ((i : ℕ) → i < n → f i ≡ g i) → tabulate n f ≡ tabulate n g
  unfolding tabulate
  tab-ext zero f g h = refl
  tab-ext (suc n) f g h = ap₂ (λ (a : A) (r : List A). a ∷ r) (h 0 (omega arith)) (tab-ext n (λ i. f (suc i)) (λ i. g (suc i)) (λ i l. h (suc i) (omega arith)))

  tab-set : (n : ℕ) (f g : ℕ → A) (j : ℕ) (a : A) → (j < n → g j ≡ a) → ((i : ℕ) → i < n → i ≢ j → g i ≡ f i) → tabulate n g ≡ set (tabulate n f) j a
  unfolding tabulate
  tab-set zero f g j a h h' = refl
  tab-set (suc n) f g zero a h h' =
      ap₂ (λ (a : A) (r : List A). a ∷ r) (h (omega arith)) (tab-ext n (λ i. g (suc i)) (λ i. f (suc i)) (λ i l. h' (suc i) (omega arith) (omega arith)))
  tab-set (suc n) f g (suc j) a h h' =
      ap₂ (λ (a : A) (r : List A). a ∷ r) (h' 0 (omega arith) (omega arith))
      (tab-set n (λ i. f (suc i)) (λ i. g (suc i)) j a (λ l. h (omega arith)) (λ i l ne. h' (suc i) (omega arith) (omega arith)))

  pub all-tab : (P : A → Type 0) (n : ℕ) (f : ℕ → A) → ((i : ℕ) → P (f i)) → All P (tabulate n f)
  unfolding tabulate
  all-tab P zero f h = tt
  all-tab P (suc n) f h = (h 0, all-tab P n (λ i. f (suc i)) (λ i. h (suc i)))

-- ---- one slot
pub write-length : (ws : List ℕ) (i : ℕ) (s : Slot) → length (write ws i s) ≡ length ws
unfolding write
write-length ws i s = length-set (write_element ws (slot_words * i) s.element) _ _ ∙ element-length ws (slot_words * i) s.element

-- a slot by its element and its count
pub slot-path : {e e' : Element} {c c' : ℕ} → e ≡ e' → c ≡ c' → ◌≡◌ {A = Slot} (record { element = e; count = c }) (record { element = e'; count = c' })
slot-path p o = λ i. record { element = p i; count = o i }

pub write_same : (ws : List ℕ) (i : ℕ) (s : Slot) → slot_words * i + slot_words ≤ length ws → slot_of (write ws i s) i ≡ s
unfolding write slot_of
write_same ws i s h =
    let o : ℕ = slot_words * i in
    let v : List ℕ = write_element ws o s.element in
    slot-path
    (read-local v (set v (o + element_words) s.count) o (λ p l r. get_or-set_other v (o + element_words) p s.count 0 (omega arith)) ∙ write-back ws o s.element (omega arith))
    (get_or-set_same v (o + element_words) s.count 0 (omega (arith, element-length ws (slot_words * i) s.element)))

-- word p is none of slot i's
abbrev Outside : ℕ → ℕ → Type 0
Outside p i = (p < slot_words * i) ⊎ (slot_words * suc i ≤ p)

-- .. where it is one of another slot's
outside : (i i' p : ℕ) → i' ≢ i → slot_words * i' ≤ p → p < slot_words * suc i' → Outside p i
outside i i' p ne l r = go (ltb p (slot_words * i)) refl
  where
    go : (b : Bool) → ltb p (slot_words * i) ≡ b → Outside p i
    go true e = inl (ltb-true p (slot_words * i) e)
    go false e = inr (omega (arith, ltb-false p (slot_words * i) e, ne))

off-element : (p i : ℕ) → Outside p i → Apart p (slot_words * i)
off-element p i (inl h) = inl h
off-element p i (inr h) = inr (omega arith)

off-count : (p i : ℕ) → Outside p i → p ≢ slot_words * i + element_words
off-count p i (inl h) e = omega arith
off-count p i (inr h) e = omega arith

-- a word that is none of the slot's own stands
write-apart : (ws : List ℕ) (i p : ℕ) (s : Slot) → Outside p i → get_or (write ws i s) p 0 ≡ get_or ws p 0
unfolding write
write-apart ws i p s h =
    get_or-set_other (write_element ws (slot_words * i) s.element) (slot_words * i + element_words) p s.count 0 (off-count p i h)
    ∙ element-apart ws (slot_words * i) p s.element (off-element p i h)

pub write-other : (ws : List ℕ) (i i' : ℕ) (s : Slot) → i' ≢ i → slot_of (write ws i s) i' ≡ slot_of ws i'
unfolding slot_of
write-other ws i i' s h =
    slot-path (read-local ws (write ws i s) (slot_words * i') (λ p l r. write-apart ws i p s (outside i i' p h l (omega arith))))
    (write-apart ws i (slot_words * i' + element_words) s (outside i i' (slot_words * i' + element_words) h (omega arith) (omega arith)))

-- writes of different slots commute
pub write-comm : (ws : List ℕ) (i j : ℕ) (s t : Slot) → i ≢ j → write (write ws i s) j t ≡ write (write ws j t) i s
unfolding write
write-comm ws i j s t h =
    let a : ℕ = slot_words * i in
    let b : ℕ = slot_words * j in
    let x : Element = s.element in
    let y : Element = t.element in
    let n : ℕ = s.count in
    let c : ℕ = t.count in
    let last-i : Apart (a + element_words) b = off-element (slot_words * i + element_words) j (outside j i (slot_words * i + element_words) h (omega arith) (omega arith)) in
    let last-j : Apart (b + element_words) a = off-element (slot_words * j + element_words) i (outside i j (slot_words * j + element_words) (λ e. h (sym e)) (omega arith) (omega arith)) in
    ap (λ (q : List ℕ). set q (b + element_words) c) (sym (write-past (write_element ws a x) b (a + element_words) n y last-i))
    ∙ set_comm (write_element (write_element ws a x) b y) (a + element_words) (b + element_words) n c (omega arith)
    ∙ ap (λ (q : List ℕ). set (set q (b + element_words) c) (a + element_words) n) (element-comm ws a b x y (far h))
    ∙ ap (λ (q : List ℕ). set q (a + element_words) n) (write-past (write_element ws b y) a (b + element_words) c x last-j)
  where
    far : i ≢ j → (slot_words * i + element_words ≤ slot_words * j) ⊎ (slot_words * j + element_words ≤ slot_words * i)
    far ne = go (ltb i j) refl
      where
        go : (b : Bool) → ltb i j ≡ b → (slot_words * i + element_words ≤ slot_words * j) ⊎ (slot_words * j + element_words ≤ slot_words * i)
        go true e = inl (omega (arith, ltb-true i j e))
        go false e = inr (omega (arith, ltb-false i j e, ne))

-- a write changes its own slot's words alone: past that slot every word stands
slot-past : (ws : List ℕ) (i p : ℕ) (s : Slot) → slot_words * suc i ≤ p → get_or (write ws i s) p 0 ≡ get_or ws p 0
slot-past ws i p s h = write-apart ws i p s (inr h)

-- ---- numbers
pub size_room : (m k c : ℕ) → size m k c ≡ c * room m k
unfolding size room
size_room m zero c = sym (mul-zero c)
size_room m (suc k) c = rw (size_room m k (c * m)) (omega (arith, mul-suc (c * m) (room m k), mul_assoc c m (suc (room m k))))

pub node-length : (m : ℕ) (ws : List ℕ) (i : ℕ) → length (node_of m ws i) ≡ m
unfolding node_of
node-length m ws i = length-tab m _

pub node-slot : (m : ℕ) (ws : List ℕ) (i j : ℕ) → j < m → slot_at (node_of m ws i) j ≡ slot_of ws (i + j)
unfolding slot_at node_of
node-slot m ws i j h = get_or-tab m _ j vacant h

module _ (m : ℕ) where
  pub level-length : (ws : List ℕ) (b c : ℕ) → length (level_of m ws b c) ≡ c
  unfolding level_of
  level-length ws b c = length-tab c _

  pub level-node : (ws : List ℕ) (b c n : ℕ) → n < c → get_or (level_of m ws b c) n [] ≡ node_of m ws (b + n * m)
  unfolding level_of
  level-node ws b c n h = get_or-tab c (λ n. node_of m ws (b + n * m)) n [] h

  -- a slot of this node is written
  node-write : (ws : List ℕ) (i j : ℕ) (s : Slot) → slot_words * (i + j) + slot_words ≤ length ws → node_of m (write ws (i + j) s) i ≡ set (node_of m ws i) j s
  unfolding node_of
  node-write ws i j s h = tab-set m _ _ j s (λ l. write_same ws (i + j) s h) (λ a l ne. write-other ws (i + j) (i + a) s (λ e. ne (omega arith)))

  -- a slot outside this node is written
  pub node-other : (ws : List ℕ) (i p : ℕ) (s : Slot) → ((j : ℕ) → j < m → i + j ≢ p) → node_of m (write ws p s) i ≡ node_of m ws i
  unfolding node_of
  node-other ws i p s h = tab-ext m _ _ (λ j l. write-other ws p (i + j) s (h j l))

  -- a slot of this level is written
  level-write : (ws : List ℕ) (b c n j : ℕ) (s : Slot) → n < c → j < m → slot_words * (b + n * m + j) + slot_words ≤ length ws
      → level_of m (write ws (b + n * m + j) s) b c ≡ set (level_of m ws b c) n (set (get_or (level_of m ws b c) n []) j s)
  unfolding level_of
  level-write ws b c n j s hn hj h =
      tab-set c _ _ n _ (λ l. node-write ws (b + n * m) j s h ∙ ap (λ (nd : List Slot). set nd j s) (sym (level-node ws b c n hn)))
      (λ i l ne. node-other ws (b + i * m) (b + n * m + j) s (λ a ha e. ne (digits m i n a j ha hj (omega arith))))

  -- a slot outside this level is written
  level-other : (ws : List ℕ) (b c i : ℕ) (s : Slot) → ((n j : ℕ) → n < c → j < m → b + n * m + j ≢ i) → level_of m (write ws i s) b c ≡ level_of m ws b c
  unfolding level_of
  level-other ws b c i s h = tab-ext c _ _ (λ n hn. node-other ws (b + n * m) i s (λ j hj. h n j hn hj))

  -- a slot before these levels is written
  pub levels-before : (k : ℕ) (ws : List ℕ) (b c i : ℕ) (s : Slot) → i < b → levels_of m k (write ws i s) b c ≡ levels_of m k ws b c
  unfolding levels_of
  levels-before zero ws b c i s h = refl
  levels-before (suc k) ws b c i s h =
      ap₂ (λ (l : Level) (r : Levels k). (l, r)) (level-other ws b c i s (λ n j hn hj. omega arith)) (levels-before k ws (b + c * m) (c * m) i s (omega arith))

  -- levels go by their slots
  pub level-ext : (ws ws' : List ℕ) (b c : ℕ) → ((i : ℕ) → i < b + c * m → slot_of ws i ≡ slot_of ws' i) → level_of m ws b c ≡ level_of m ws' b c
  unfolding level_of node_of
  level-ext ws ws' b c h = tab-ext c _ _ (λ n hn. tab-ext m _ _ (λ j hj. h (b + n * m + j) (omega (arith, below_less m n c j hn hj))))

-- ---- where the tests pass, a step writes to a place of its node
pub some-sum : (nd : List Slot) → every is_empty nd ≡ false → 0 < sum_counts nd
unfolding every sum_counts
some-sum [] e = absurd (true≢false e)
some-sum (u ∷ nd) e = go (is_empty u) refl e (some-sum nd)
  where
    go : (b : Bool) → is_empty u ≡ b → (b && every is_empty nd) ≡ false → (every is_empty nd ≡ false → 0 < sum_counts nd) → 0 < u.count + sum_counts nd
    go true p e ih = omega (arith, ih e)
    go false p e ih = omega (arith, filled u p)

pub has-sum : (nd : List Slot) → has_some nd ≡ true → 0 < sum_counts nd
unfolding has_some
has-sum nd e = some-sum nd (not-true (every is_empty nd) e)

take-place : (nd : List Slot) (b : ℕ → Element) (v : Move) → Takes nd b v → 0 < sum_counts nd → v.place < length nd
take-place nd b v (clears e) h = (lowest-is nd h).inside
take-place nd b v (receives e) h = (lowest-is nd h).inside

swap-place : (x : Element) (nd : List Slot) (b : ℕ → Element) (v : Move) → Swaps x nd b v → 0 < sum_counts nd → v.place < length nd
swap-place x nd b v (stays e) h = (lowest-is nd h).inside
swap-place x nd b v (goes e l) h = (lowest-is nd h).inside

put-place : (x : Element) (nd : List Slot) (v : Move) → Puts x nd v → 0 < length nd → v.place < length nd
put-place x nd v (ends e) h = e
put-place x nd v (exchanges e l) h = least-in nd h
put-place x nd v (passes e l) h = least-in nd h

pub place_inside : (o : Op) (r : ℕ) (nd : List Slot) (b : ℕ → Element) → is_nothing o ≡ false → 0 < length nd → read_ok o r nd ≡ true → (op_move o nd b).place < length nd
unfolding read_ok op_move is_nothing
place_inside Nothing r nd b n h e = absurd (true≢false n)
place_inside (Put x) r nd b n h e = put-place x nd _ (put-rule x nd) h
place_inside Take r nd b n h e = take-place nd b _ (take-rule nd b) (has-sum nd (and_right (node_ok r nd) (has_some nd) e))
place_inside (Swap x) r nd b n h e = swap-place x nd b _ (swap-rule x nd b) (has-sum nd (and_right (node_ok r nd) (has_some nd) e))

-- ---- the step of a level on the words
module _ (m : ℕ) where
  pub step-length : (k : ℕ) (w : Work) (b c : ℕ) (ws : List ℕ) → length (step_words m k w b c ws) ≡ length ws
  unfolding step_words
  step-length k w b c ws = cond-path length (is_nothing w.op) ws _ (length ws) refl (write-length ws _ _)

  -- no slot before the level changes
  pub step-before : (k : ℕ) (w : Work) (b c : ℕ) (ws : List ℕ) (i : ℕ) → i < b → slot_of (step_words m k w b c ws) i ≡ slot_of ws i
  unfolding step_words
  step-before k w b c ws i h = cond-path (λ (r : List ℕ). slot_of r i) (is_nothing w.op) ws _ (slot_of ws i) refl (write-other ws _ i _ (λ e. omega arith))

  -- a level's work that passes its tests
  module _ (some : 0 < m) (k : ℕ) (w : Work) (b c : ℕ) (ws : List ℕ) (fits : slot_words * (b + c * m) ≤ length ws)
      (ok : work_ok m k w (level_of m ws b c) (top k (under m k ws b c)) ≡ true) where
    abbrev l : Level
    l = level_of m ws b c

    abbrev u : Levels k
    u = under m k ws b c

    abbrev v : Move
    v = level_move m w.op w.node l (top k u)

    module _ (e : is_nothing w.op ≡ false) where
      fine-here : (ltb w.node (length l) && step_ok m k w.op (get_or l w.node []) (λ j. get_or (top k u) (w.node * m + j) [])) ≡ true
      unfolding work_ok
      fine-here = rw e at ok

      node_in : w.node < c
      node_in = subst (λ (n : ℕ). w.node < n) (level-length m ws b c) (ltb-true w.node (length l) (and_left (ltb w.node (length l)) _ fine-here))

      own_read : read_ok w.op (room m k) (get_or l w.node []) ≡ true
      unfolding step_ok
      own_read = and_left (read_ok w.op (room m k) (get_or l w.node [])) _ (and_right (ltb w.node (length l)) _ fine-here)

      its-length : length (get_or l w.node []) ≡ m
      its-length = ap length (level-node m ws b c w.node node_in) ∙ node-length m ws (b + w.node * m)

      place_in : v.place < m
      unfolding level_move
      place_in =
          subst (λ (n : ℕ). v.place < n) its-length (place_inside w.op (room m k) (get_or l w.node []) _ e (omega (arith, its-length)) own_read)

      slot-in : b + w.node * m + v.place < b + c * m
      slot-in = omega (arith, below_less m w.node c v.place node_in place_in)

    -- the level's slot is written, and the deeper levels stay
    pub step_words_lem : levels_of m (suc k) (step_words m k w b c ws) b c ≡ (step_level m w l (top k u), u)
    unfolding step_words levels_of step_level
    step_words_lem = go (is_nothing w.op) refl
      where
        go : (t : Bool) → is_nothing w.op ≡ t → levels_of m (suc k) (cond t ws (write ws (b + w.node * m + v.place) v.slot)) b c ≡ (step_level m w l (top k u), u)
        go true e = ap (λ (x : Level). (x, u)) (sym (step-none m w l (top k u) (is_none w.op e)))
        go false e =
            ap₂ (λ (x : Level) (r : Levels k). (x, r))
            (level-write m ws b c w.node v.place v.slot (node_in e) (place_in e) (omega (arith, slot-in e)))
            (levels-before m k ws (b + c * m) (c * m) (b + w.node * m + v.place) v.slot (slot-in e))

    -- no word past the level changes
    pub step_past : (p : ℕ) → slot_words * (b + c * m) ≤ p → get_or (step_words m k w b c ws) p 0 ≡ get_or ws p 0
    unfolding step_words
    step_past p h = go (is_nothing w.op) refl
      where
        go : (t : Bool) → is_nothing w.op ≡ t → get_or (cond t ws (write ws (b + w.node * m + v.place) v.slot)) p 0 ≡ get_or ws p 0
        go true e = refl
        go false e = slot-past ws (b + w.node * m + v.place) p v.slot (omega (arith, slot-in e))

  -- ---- an operation to its end
  apply-before : (k : ℕ) (w : Work) (b c : ℕ) (ws : List ℕ) (i : ℕ) → i < b → slot_of (apply_words m k w b c ws) i ≡ slot_of ws i
  unfolding apply_words
  apply-before zero w b c ws i h = refl
  apply-before (suc k) w b c ws i h = apply-before k _ (b + c * m) (c * m) _ i (omega arith) ∙ step-before k w b c ws i h

  -- a slot before the level: its write may come before the step or after it
  level_before : (ws : List ℕ) (b c i : ℕ) (s : Slot) → i < b → level_of m (write ws i s) b c ≡ level_of m ws b c
  level_before ws b c i s h = level-other m ws b c i s (λ n j hn hj. omega arith)

  rest-write : (k : ℕ) (w : Work) (b c : ℕ) (ws : List ℕ) (i : ℕ) (s : Slot) → i < b → rest_words m k w b c (write ws i s) ≡ rest_words m k w b c ws
  rest-write k w b c ws i s h =
      ap₂ (λ (l : Level) (u : Levels k). step_work m w l (top k u)) (level_before ws b c i s h) (levels-before m k ws (b + c * m) (c * m) i s (omega arith))

  step-write : (k : ℕ) (w : Work) (b c : ℕ) (ws : List ℕ) (i : ℕ) (s : Slot) → i < b → step_words m k w b c (write ws i s) ≡ write (step_words m k w b c ws) i s
  unfolding step_words
  step-write k w b c ws i s h =
      ap₂ (λ (l : Level) (u : Levels k). at-move (is_nothing w.op) (level_move m w.op w.node l (top k u)) (write ws i s)) (level_before ws b c i s h) (levels-before m k ws (b + c * m) (c * m) i s (omega arith))
      ∙ go (is_nothing w.op) (level_move m w.op w.node (level_of m ws b c) (top k (under m k ws b c)))
    where
      at-move : Bool → Move → List ℕ → List ℕ
      at-move t v r = cond t r (write r (b + w.node * m + v.place) v.slot)

      go : (t : Bool) (v : Move) → at-move t v (write ws i s) ≡ write (at-move t v ws) i s
      go true v = refl
      go false v = write-comm ws i (b + w.node * m + v.place) s v.slot (λ e. omega arith)

  -- .. and before the whole operation or after it
  pub apply-write : (k : ℕ) (w : Work) (b c : ℕ) (ws : List ℕ) (i : ℕ) (s : Slot) → i < b → apply_words m k w b c (write ws i s) ≡ write (apply_words m k w b c ws) i s
  unfolding apply_words
  apply-write zero w b c ws i s h = refl
  apply-write (suc k) w b c ws i s h =
      ap₂ (λ (w : Work) (r : List ℕ). apply_words m k w (b + c * m) (c * m) r) (rest-write k w b c ws i s h) (step-write k w b c ws i s h)
      ∙ apply-write k (rest_words m k w b c ws) (b + c * m) (c * m) (step_words m k w b c ws) i s (omega arith)

  pub apply-length : (k : ℕ) (w : Work) (b c : ℕ) (ws : List ℕ) → length (apply_words m k w b c ws) ≡ length ws
  unfolding apply_words
  apply-length zero w b c ws = refl
  apply-length (suc k) w b c ws = apply-length k _ (b + c * m) (c * m) _ ∙ step-length k w b c ws

  -- THE LAW that ties words and levels: where the path is in order, the operation on the words is the operation on the levels, and every
  -- word past the capacity stands
  pub words-apply : 0 < m → (k : ℕ) (w : Work) (b c : ℕ) (ws : List ℕ) → slot_words * (b + size m k c) ≤ length ws → path_ok m k w (levels_of m k ws b c) ≡ true
      → (levels_of m k (apply_words m k w b c ws) b c ≡ apply m k w (levels_of m k ws b c))
      × ((p : ℕ) → slot_words * (b + size m k c) ≤ p → get_or (apply_words m k w b c ws) p 0 ≡ get_or ws p 0)
  unfolding apply_words path_ok levels_of apply size
  words-apply some zero w b c ws fits ok = (refl, λ p h. refl)
  words-apply some (suc k) w b c ws fits ok =
      let l : Level = level_of m ws b c in
      let u : Levels k = under m k ws b c in
      let w' : Work = step_work m w l (top k u) in
      let ws₁ : List ℕ = step_words m k w b c ws in
      let f : work_ok m k w l (top k u) ≡ true = and_left (work_ok m k w l (top k u)) (path_ok m k w' u) ok in
      let fits₁ : slot_words * (b + c * m) ≤ length ws = omega arith in
      let s : levels_of m (suc k) ws₁ b c ≡ (step_level m w l (top k u), u) = step_words_lem some k w b c ws fits₁ f in
      let deeper : levels_of m k ws₁ (b + c * m) (c * m) ≡ u = ap (λ (r : Levels (suc k)). r.1) s in
      let i = words-apply some k w' (b + c * m) (c * m) ws₁ (omega (arith, step-length k w b c ws))
      (ap (path_ok m k w') deeper ∙ and_right (work_ok m k w l (top k u)) (path_ok m k w' u) ok) in (
        ap₂ (λ (x : Level) (r : Levels k). (x, r))
            (level-ext m (apply_words m k w' (b + c * m) (c * m) ws₁) ws₁ b c (λ i lt. apply-before k w' (b + c * m) (c * m) ws₁ i lt)
            ∙ ap (λ (r : Levels (suc k)). r.0) s)
            (i.0 ∙ ap (apply m k w') deeper),
        λ p h. i.1 p (omega arith) ∙ step_past some k w b c ws fits₁ f p (omega arith),
      )
