-- Words and heaps: what is written in one slot, which slots a heap has, and that an operation on the words is the operation on the heap that hangs there.
use Rattle.laws.specs.Prelude.{Bool, Element, List, ◌*◌, ◌+◌, ◌<◌, ◌∙◌, ◌≡◌, ◌≤◌, ◌⊎◌, ap, arith, blank, element, false, get_or-set_other, get_or-set_same, inl, inr, length, length-set, not-suc-le-zero, refl, set, suc, sym, true, zero, ℕ, ⊎_elim}
use Rattle.packed_model.specs.Node.{Side, lhs, rhs, pick, turn_of, rest_of, Op, none, put, sink, Stepped, step, to_left, to_right}
use Rattle.packed_model.specs.Heap.{Heap, top, run, at, cut}
use Rattle.packed_model.specs.Words.{word, works, slot_in, write_slot, child, Lies, top_in, heap_in, slot_at, step_in, touch, run_words}
use Rattle.packed_model.proofs.Heap.{run_none}

-- three words, put together
element-path : {a b c a' b' c' : ℕ} → a ≡ a' → b ≡ b' → c ≡ c' → element a b c ≡ element a' b' c'
element-path p q r = λ i. element (p i) (q i) (r i)

-- three words set in a row, read back
module _ (ws : List ℕ) (o a b c : ℕ) where
  abbrev three : List ℕ
  three = set (set (set ws o a) (o + 1) b) (o + 2) c

  three-other : (i : ℕ) → (i ≡ o → ⊥) → (i ≡ o + 1 → ⊥) → (i ≡ o + 2 → ⊥) → word three i ≡ word ws i
  three-other i p q r =
      get_or-set_other (set (set ws o a) (o + 1) b) (o + 2) i c 0 r ∙ get_or-set_other (set ws o a) (o + 1) i b 0 q ∙ get_or-set_other ws o i a 0 p

  module _ (fits : o + 3 ≤ length ws) where
    three-0 : word three o ≡ a
    three-0 =
        get_or-set_other (set (set ws o a) (o + 1) b) (o + 2) o c 0 (λ e. omega arith) ∙ get_or-set_other (set ws o a) (o + 1) o b 0 (λ e. omega arith)
        ∙ get_or-set_same ws o a 0 (omega arith)

    three-1 : word three (o + 1) ≡ b
    three-1 =
        get_or-set_other (set (set ws o a) (o + 1) b) (o + 2) (o + 1) c 0 (λ e. omega arith) ∙ get_or-set_same (set ws o a) (o + 1) b 0 (simp length-set (omega arith))

    three-2 : word three (o + 2) ≡ c
    three-2 = get_or-set_same (set (set ws o a) (o + 1) b) (o + 2) c 0 (simp length-set (omega arith))

module _ (H : ℕ) where
  -- ---- one slot
  pub write-length : (ws : List ℕ) (m : ℕ) (e : Element) → length (write_slot H ws m e) ≡ length ws
  unfolding write_slot
  write-length ws m e = simp length-set

  -- a word that is none of the slot's
  pub write_word : (ws : List ℕ) (m : ℕ) (e : Element) (i : ℕ) → (i < H + m * 3) ⊎ (H + m * 3 + 3 ≤ i) → word (write_slot H ws m e) i ≡ word ws i
  unfolding write_slot
  write_word ws m e i h =
      let n : (a : ℕ) → a < 3 → i ≡ H + m * 3 + a → ⊥ = λ a l q. ⊎_elim (λ (g : i < H + m * 3). omega arith) (λ (g : H + m * 3 + 3 ≤ i). omega arith) h in
      three-other ws (H + m * 3) _ _ _ i (λ q. n 0 (omega arith) (omega arith)) (n 1 (omega arith)) (n 2 (omega arith))

  pub write_same : (ws : List ℕ) (m : ℕ) (e : Element) → H + m * 3 + 3 ≤ length ws → slot_in H (write_slot H ws m e) m ≡ e
  unfolding write_slot slot_in
  write_same ws m e l = element-path (three-0 ws (H + m * 3) _ _ _ l) (three-1 ws (H + m * 3) _ _ _ l) (three-2 ws (H + m * 3) _ _ _ l)

  sides : (m p j : ℕ) → j < 3 → (p ≡ m → ⊥) → (H + p * 3 + j < H + m * 3) ⊎ (H + m * 3 + 3 ≤ H + p * 3 + j)
  sides m p j l n = go m p n
    where
      go : (m p : ℕ) → (p ≡ m → ⊥) → (H + p * 3 + j < H + m * 3) ⊎ (H + m * 3 + 3 ≤ H + p * 3 + j)
      go zero zero n = absurd (n refl)
      go zero (suc p) n = inr (omega arith)
      go (suc m) zero n = inl (omega arith)
      go (suc m) (suc p) n = ⊎_elim (λ g. inl (omega (arith, g))) (λ g. inr (omega (arith, g))) (go m p (λ e. n (ap suc e)))

  pub write-other : (ws : List ℕ) (m : ℕ) (e : Element) (p : ℕ) → (p ≡ m → ⊥) → slot_in H (write_slot H ws m e) p ≡ slot_in H ws p
  unfolding slot_in
  write-other ws m e p n =
      let z : H + p * 3 ≡ H + p * 3 + 0 = omega arith in
      let g : (j : ℕ) → j < 3 → word (write_slot H ws m e) (H + p * 3 + j) ≡ word ws (H + p * 3 + j) = λ j l. write_word ws m e (H + p * 3 + j) (sides m p j l n) in
      element-path (ap (word (write_slot H ws m e)) z ∙ g 0 (omega arith) ∙ ap (word ws) (sym z)) (g 1 (omega arith)) (g 2 (omega arith))

  -- a held word is no slot's
  pub held-other : (ws : List ℕ) (i v p : ℕ) → i < H → slot_in H (set ws i v) p ≡ slot_in H ws p
  unfolding slot_in
  held-other ws i v p l =
      element-path (get_or-set_other ws i (H + p * 3) v 0 (λ e. omega arith)) (get_or-set_other ws i (H + p * 3 + 1) v 0 (λ e. omega arith))
      (get_or-set_other ws i (H + p * 3 + 2) v 0 (λ e. omega arith))

  -- ---- the slots of a heap of k levels at slot m, and what is none of them
  abbrev pub In : ℕ → ℕ → ℕ → Type 0
  In zero m p = ⊥
  In (suc k) m p = (p ≡ m) ⊎ (In k (child H m lhs) p ⊎ In k (child H m rhs) p)

  abbrev pub Off : ℕ → ℕ → ℕ → Type 0
  Off zero m p = Unit {0}
  Off (suc k) m p = (p ≡ m → ⊥) × Off k (child H m lhs) p × Off k (child H m rhs) p

  pub off-before : (k m p : ℕ) → p < m → Off k m p
  off-before zero m p l = tt
  off-before (suc k) m p l = ((λ e. omega arith), off-before k (child H m lhs) p (omega arith), off-before k (child H m rhs) p (omega arith))

  in-from : (k m p : ℕ) → In k m p → m ≤ p
  in-from zero m p i = absurd i
  in-from (suc k) m p i = ⊎_elim (λ (e : p ≡ m). omega arith) (λ j. ⊎_elim (λ a. omega (arith, in-from k (child H m lhs) p a)) (λ a. omega (arith, in-from k (child H m rhs) p a)) j) i

  -- two slots of one level, where H is not 0: each comes before the other's children
  pub record Near (a b : ℕ) : Type 0 where
    pub there : a < b + b + H
    pub back : b < a + a + H

  near-child : (a b : ℕ) (s t : Side) → Near a b → Near (child H a s) (child H b t)
  near-child a b lhs lhs n = record { there = omega (arith, n.there); back = omega (arith, n.back) }
  near-child a b lhs rhs n = record { there = omega (arith, n.there); back = omega (arith, n.back) }
  near-child a b rhs lhs n = record { there = omega (arith, n.there); back = omega (arith, n.back) }
  near-child a b rhs rhs n = record { there = omega (arith, n.there); back = omega (arith, n.back) }

  child-apart : (a b : ℕ) (s t : Side) → (a ≡ b → ⊥) → child H a s ≡ child H b t → ⊥
  child-apart a b lhs lhs n e = n (omega (arith, e))
  child-apart a b lhs rhs n e = n (omega (arith, e))
  child-apart a b rhs lhs n e = n (omega (arith, e))
  child-apart a b rhs rhs n e = n (omega (arith, e))

  -- heaps at different slots of one level have no slot in common
  pub apart : (j k a b p : ℕ) → Near a b → (a ≡ b → ⊥) → In j b p → Off k a p
  apart zero k a b p n d i = absurd i
  apart (suc j) zero a b p n d i = tt
  apart (suc j) (suc k) a b p n d i =
      ⊎_elim here (λ u. ⊎_elim (λ v. there lhs v (λ t. apart j k (child H a t) (child H b lhs) p (near-child a b t lhs n) (child-apart a b t lhs d) v))
      (λ v. there rhs v (λ t. apart j k (child H a t) (child H b rhs) p (near-child a b t rhs n) (child-apart a b t rhs d) v)) u) i
    where
      here : p ≡ b → Off (suc k) a p
      here e = (
        (λ (z : p ≡ a). d (sym z ∙ e)),
        off-before k (child H a lhs) p (omega (arith, e, n.back)),
        off-before k (child H a rhs) p (omega (arith, e, n.back)),
      )

      from-child : (s : Side) → child H b s ≤ p → b + b + H ≤ p
      from-child lhs l = l
      from-child rhs l = omega (arith, l)

      there : (s : Side) → In j (child H b s) p → ((t : Side) → Off k (child H a t) p) → Off (suc k) a p
      there s v ih =
          let l : b + b + H ≤ p = from-child s (in-from j (child H b s) p v) in
          ((λ (z : p ≡ a). omega (arith, z, l, n.there)), ih lhs, ih rhs)

  near-sides : (m : ℕ) → 0 < H → Near (child H m lhs) (child H m rhs)
  near-sides m l = record { there = omega arith; back = omega arith }

  near-back : (a b : ℕ) → Near a b → Near b a
  near-back a b n = record { there = n.back; back = n.there }

  -- a heap is the words of its slots
  pub heap-local : (k m : ℕ) (ws vs : List ℕ) → ((p : ℕ) → In k m p → slot_in H vs p ≡ slot_in H ws p) → heap_in H k vs m ≡ heap_in H k ws m
  unfolding heap_in
  heap-local zero m ws vs f = refl
  heap-local (suc k) m ws vs f =
      let a = f m (inl refl) in
      let b = heap-local k (child H m lhs) ws vs (λ p i. f p (inr (inl i))) in
      let c = heap-local k (child H m rhs) ws vs (λ p i. f p (inr (inr i))) in
      λ i. (a i, b i, c i)

  -- a slot above it written, or a held word
  pub heap-below : (k m p : ℕ) (ws : List ℕ) (e : Element) → p < m → heap_in H k (write_slot H ws p e) m ≡ heap_in H k ws m
  heap-below k m p ws e l = heap-local k m ws (write_slot H ws p e) (λ q i. write-other ws p e q (λ z. omega (arith, l, z, in-from k m q i)))

  pub heap-held : (k m i v : ℕ) (ws : List ℕ) → i < H → heap_in H k (set ws i v) m ≡ heap_in H k ws m
  heap-held k m i v ws l = heap-local k m ws (set ws i v) (λ q z. held-other ws i v q l)

  pub top-is : (k m : ℕ) (ws : List ℕ) → top k (heap_in H k ws m) ≡ top_in H k ws m
  unfolding top heap_in top_in
  top-is zero m ws = refl
  top-is (suc k) m ws = refl

  -- ---- an operation
  pub words-none : (k m : ℕ) (ws : List ℕ) → run_words H k none m ws ≡ ws
  unfolding run_words step_in step touch works
  words-none zero m ws = refl
  words-none (suc k) m ws = words-none k (child H m lhs) ws

  pub run_length : (k : ℕ) (o : Op) (m : ℕ) (ws : List ℕ) → length (run_words H k o m ws) ≡ length ws
  unfolding run_words touch
  run_length zero o m ws = refl
  run_length (suc k) o m ws = let v : Stepped = step_in H k o m ws in go (works o) v.slot _ (run_length k v.op (child H m v.side) ws)
    where
      go : (b : Bool) (e : Element) (vs : List ℕ) → length vs ≡ length ws → length (touch H b vs m e) ≡ length ws
      go true e vs l = write-length vs m e ∙ l
      go false e vs l = l

  off-child : (k m p : ℕ) (s : Side) → Off (suc k) m p → Off k (child H m s) p
  off-child k m p lhs o = o.1
  off-child k m p rhs o = o.2

  pub run-off : (k : ℕ) (o : Op) (m : ℕ) (ws : List ℕ) (p : ℕ) → Off k m p → slot_in H (run_words H k o m ws) p ≡ slot_in H ws p
  unfolding run_words touch
  run-off zero o m ws p h = refl
  run-off (suc k) o m ws p h = let v : Stepped = step_in H k o m ws in touch-off (works o) v.slot _ (run-off k v.op (child H m v.side) ws p (off-child k m p v.side h))
    where
      touch-off : (b : Bool) (e : Element) (vs : List ℕ) → slot_in H vs p ≡ slot_in H ws p → slot_in H (touch H b vs m e) p ≡ slot_in H ws p
      touch-off true e vs l = write-other vs m e p h.0 ∙ l
      touch-off false e vs l = l

  -- what is at another slot of that level stands
  pub run-apart : (j k : ℕ) (o : Op) (m q : ℕ) (ws : List ℕ) → Near m q → (m ≡ q → ⊥) → heap_in H j (run_words H k o m ws) q ≡ heap_in H j ws q
  run-apart j k o m q ws n d = heap-local j q ws (run_words H k o m ws) (λ p i. run-off k o m ws p (apart j k m q p n d i))

  sides-differ : (m : ℕ) → child H m lhs ≡ child H m rhs → ⊥
  sides-differ m e = omega (arith, e)

  module _ (pos : 0 < H) where
    run-left : (k m : ℕ) (ws : List ℕ) (s : Side) (o : Op) → heap_in H k (run_words H k o (child H m s) ws) (child H m s) ≡ run k o (heap_in H k ws (child H m s))
        → heap_in H k (run_words H k o (child H m s) ws) (child H m lhs) ≡ run k (pick s o none) (heap_in H k ws (child H m lhs))
    run-left k m ws lhs o ih = ih
    run-left k m ws rhs o ih =
        run-apart k k o (child H m rhs) (child H m lhs) ws (near-back _ _ (near-sides m pos)) (λ e. sides-differ m (sym e)) ∙ sym (run_none k (heap_in H k ws (child H m lhs)))

    run-right : (k m : ℕ) (ws : List ℕ) (s : Side) (o : Op) → heap_in H k (run_words H k o (child H m s) ws) (child H m s) ≡ run k o (heap_in H k ws (child H m s))
        → heap_in H k (run_words H k o (child H m s) ws) (child H m rhs) ≡ run k (pick s none o) (heap_in H k ws (child H m rhs))
    run-right k m ws lhs o ih =
        run-apart k k o (child H m lhs) (child H m rhs) ws (near-sides m pos) (sides-differ m) ∙ sym (run_none k (heap_in H k ws (child H m rhs)))
    run-right k m ws rhs o ih = ih

    abbrev step_heap : (k m : ℕ) → List ℕ → Stepped → Heap (suc k)
    step_heap k m ws v = (v.slot, run k (to_left v) (heap_in H k ws (child H m lhs)), run k (to_right v) (heap_in H k ws (child H m rhs)))

    step-heap : (k m : ℕ) (ws : List ℕ) (v : Stepped) → H + m * 3 + 3 ≤ length ws
        → heap_in H k (run_words H k v.op (child H m v.side) ws) (child H m v.side) ≡ run k v.op (heap_in H k ws (child H m v.side))
        → heap_in H (suc k) (write_slot H (run_words H k v.op (child H m v.side) ws) m v.slot) m ≡ step_heap k m ws v
    unfolding heap_in
    step-heap k m ws v l ih =
        let vs : List ℕ = run_words H k v.op (child H m v.side) ws in
        let a = write_same vs m v.slot (omega (arith, l, run_length k v.op (child H m v.side) ws)) in
        let b = heap-below k (child H m lhs) m vs v.slot (omega arith) ∙ run-left k m ws v.side v.op ih in
        let c = heap-below k (child H m rhs) m vs v.slot (omega arith) ∙ run-right k m ws v.side v.op ih in
        λ i. (a i, b i, c i)

    lies-child : (k m n : ℕ) (s : Side) → Lies H (suc k) m n → Lies H k (child H m s) n
    lies-child k m n lhs l = l.1
    lies-child k m n rhs l = l.2

    -- the step on the words is the step on the heap
    step_is : (k : ℕ) (o : Op) (m : ℕ) (ws : List ℕ) → step_in H k o m ws ≡ step o (slot_in H ws m) (top k (heap_in H k ws (child H m lhs))) (top k (heap_in H k ws (child H m rhs)))
    unfolding step_in
    step_is k o m ws =
        let a = sym (top-is k (child H m lhs) ws) in
        let b = sym (top-is k (child H m rhs) ws) in
        λ i. step o (slot_in H ws m) (a i) (b i)

    pub words-run : (k : ℕ) (o : Op) (m : ℕ) (ws : List ℕ) → Lies H k m (length ws) → heap_in H k (run_words H k o m ws) m ≡ run k o (heap_in H k ws m)
    unfolding heap_in run_words run touch works
    words-run zero o m ws l = refl
    words-run (suc k) none m ws l = ap (λ (vs : List ℕ). heap_in H (suc k) vs m) (words-none (suc k) m ws) ∙ sym (run_none (suc k) (heap_in H (suc k) ws m))
    words-run (suc k) (put d r x) m ws l =
        let v : Stepped = step_in H k (put d r x) m ws in
        step-heap k m ws v l.0 (words-run k v.op (child H m v.side) ws (lies-child k m (length ws) v.side l)) ∙ ap (step_heap k m ws) (step_is k (put d r x) m ws)
    words-run (suc k) (sink x) m ws l =
        let v : Stepped = step_in H k (sink x) m ws in
        step-heap k m ws v l.0 (words-run k v.op (child H m v.side) ws (lies-child k m (length ws) v.side l)) ∙ ap (step_heap k m ws) (step_is k (sink x) m ws)

  -- ---- the position d levels deeper and r further
  spot-off : (k m d r q : ℕ) → d < k → Off k m q → q ≡ slot_at H m d r → ⊥
  unfolding slot_at
  spot-off zero m d r q l o e = absurd (not-suc-le-zero l)
  spot-off (suc k) m zero r q l o e = o.0 e
  spot-off (suc k) m (suc d) r q l o e = spot-off k (child H m (turn_of d r)) d (rest_of d r) q (omega arith) (off-child k m q (turn_of d r) o) e

  pub spot-from : (m d r : ℕ) → m ≤ slot_at H m d r
  unfolding slot_at
  spot-from m zero r = omega arith
  spot-from m (suc d) r = omega (arith, spot-from (child H m (turn_of d r)) d (rest_of d r), go (turn_of d r))
    where
      go : (s : Side) → m ≤ child H m s
      go lhs = omega arith
      go rhs = omega arith

  pub spot-lies : (k m d r n : ℕ) → d < k → Lies H k m n → H + slot_at H m d r * 3 + 3 ≤ n
  unfolding slot_at
  spot-lies zero m d r n l z = absurd (not-suc-le-zero l)
  spot-lies (suc k) m zero r n l z = z.0
  spot-lies (suc k) m (suc d) r n l z = go (turn_of d r) (λ s. spot-lies k (child H m s) d (rest_of d r) n (omega arith))
    where
      go : (s : Side) → ((s : Side) → Lies H k (child H m s) n → H + slot_at H (child H m s) d (rest_of d r) * 3 + 3 ≤ n) → H + slot_at H (child H m s) d (rest_of d r) * 3 + 3 ≤ n
      go lhs f = f lhs z.1
      go rhs f = f rhs z.2

  pub words-at : (k m d r : ℕ) (ws : List ℕ) → d < k → slot_in H ws (slot_at H m d r) ≡ at k d r (heap_in H k ws m)
  unfolding slot_at at heap_in
  words-at zero m d r ws l = absurd (not-suc-le-zero l)
  words-at (suc k) m zero r ws l = refl
  words-at (suc k) m (suc d) r ws l = go (turn_of d r) (λ s. words-at k (child H m s) d (rest_of d r) ws (omega arith))
    where
      go : (s : Side) → ((s : Side) → slot_in H ws (slot_at H (child H m s) d (rest_of d r)) ≡ at k d (rest_of d r) (heap_in H k ws (child H m s)))
          → slot_in H ws (slot_at H (child H m s) d (rest_of d r)) ≡ at k d (rest_of d r) (pick s (heap_in H k ws (child H m lhs)) (heap_in H k ws (child H m rhs)))
      go lhs f = f lhs
      go rhs f = f rhs

  -- a slot of one heap written, and another heap of that level
  pub spot-apart : (j k m q d r : ℕ) (ws : List ℕ) (e : Element) → d < k → Near m q → (m ≡ q → ⊥) → heap_in H j (write_slot H ws (slot_at H m d r) e) q ≡ heap_in H j ws q
  spot-apart j k m q d r ws e l n ne =
      heap-local j q ws (write_slot H ws (slot_at H m d r) e) (λ p i. write-other ws (slot_at H m d r) e p (spot-off k m d r p l (apart j k m q p n ne i)))

  module _ (pos : 0 < H) (ws : List ℕ) where
    pub words-cut : (k m d r : ℕ) → d < k → Lies H k m (length ws) → heap_in H k (write_slot H ws (slot_at H m d r) blank) m ≡ cut k d r (heap_in H k ws m)
    unfolding slot_at cut heap_in
    words-cut zero m d r l z = absurd (not-suc-le-zero l)
    words-cut (suc k) m zero r l z =
        let a = write_same ws m blank z.0 in
        let b = heap-below k (child H m lhs) m ws blank (omega arith) in
        let c = heap-below k (child H m rhs) m ws blank (omega arith) in
        λ i. (a i, b i, c i)
    words-cut (suc k) m (suc d) r l z = go (turn_of d r) (λ s. words-cut k (child H m s) d (rest_of d r) (omega arith))
      where
        go : (s : Side) → ((s : Side) → Lies H k (child H m s) (length ws) → heap_in H k (write_slot H ws (slot_at H (child H m s) d (rest_of d r)) blank) (child H m s) ≡ cut k d (rest_of d r) (heap_in H k ws (child H m s)))
            → heap_in H (suc k) (write_slot H ws (slot_at H (child H m s) d (rest_of d r)) blank) m
            ≡ (slot_in H ws m, pick s (cut k d (rest_of d r) (heap_in H k ws (child H m lhs))) (heap_in H k ws (child H m lhs)), pick s (heap_in H k ws (child H m rhs)) (cut k d (rest_of d r) (heap_in H k ws (child H m rhs))))
        go lhs f =
            let a = write-other ws (slot_at H (child H m lhs) d (rest_of d r)) blank m (λ e. omega (arith, e, spot-from (child H m lhs) d (rest_of d r))) in
            let b = f lhs z.1 in
            let c = spot-apart k k (child H m lhs) (child H m rhs) d (rest_of d r) ws blank (omega arith) (near-sides m pos) (sides-differ m) in
            λ i. (a i, b i, c i)
        go rhs f =
            let a = write-other ws (slot_at H (child H m rhs) d (rest_of d r)) blank m (λ e. omega (arith, e, spot-from (child H m rhs) d (rest_of d r))) in
            let b = spot-apart k k (child H m rhs) (child H m lhs) d (rest_of d r) ws blank (omega arith) (near-back _ _ (near-sides m pos)) (λ e. sides-differ m (sym e)) in
            let c = f rhs z.2 in
            λ i. (a i, b i, c i)
