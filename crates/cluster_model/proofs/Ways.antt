-- On a sound heap whose words are neat, every test of an operation that can be done is passed.
use Rattle.laws.specs.Prelude.{Bool, Element, List, ◌&&◌, ◌*◌, ◌+◌, ◌<◌, ◌||◌, ◌∙◌, ◌≡◌, ◌≤◌, and-true, ap, ap₂, arith, element_in, eq-eqb, eqb, eqb-false, false, is_blank, le-leb, length, lt-ltb, ltb, ltb-false, not-suc-le-zero, refl, subst, suc, sym, true, zero, ℕ}
use Rattle.promise.specs.Prelude.{always}
use Rattle.strip.proofs.Words.{blank_none}
use Rattle.cluster_model.specs.Prelude.{Bag, Begun, Can, Finished, Fit, Heap, Neat, NeatPlace, NeatRow, Node, Op, Place, Side, Sound, begin, child, children_ok, count_words, elem_of, finish, heap_in, inside, lhs, low, low_elem, low_in, lowest, many, flag_at, flag_of, neat_place, neat_to, node_in, node_ok, none, nothing, nothing_below, own_ok, pick, place_by, place_of, place_words, put, read_ok, rhs, room, roomy, some, step_in, strict, swap, take, under1, way_ok, width, word}
use Rattle.cluster_model.proofs.Places.{place-hit}
use Rattle.cluster_model.proofs.Step.{begins, children-can, Least, low-fit}
use Rattle.cluster_model.proofs.Heap.{ask, heap-bag, heap-least}
use Rattle.cluster_model.proofs.Index.{NeatIn}

pub or-not : (a b : Bool) → (a ≡ false → b ≡ true) → (a || b) ≡ true
or-not true b h = refl
or-not false b h = h refl

-- ---- neat places pass their test
neat-place : (ws : List ℕ) (o : ℕ) → NeatPlace ws o → neat_place ws o ≡ true
unfolding neat_place place_of place_by flag_of
neat-place ws o n = go (eqb (word ws (flag_at o)) 0) refl n
  where
    x : Element
    x = element_in ws o

    go : (b : Bool) → eqb (word ws (flag_at o)) 0 ≡ b → (elem_of (place_by b x) ≡ x) × (flag_of (place_by b x) ≡ word ws (flag_at o)) → ((b && is_blank x) || eqb (word ws (flag_at o)) 1) ≡ true
    go true e n = rw (ap is_blank (sym n.0) ∙ blank_none)
    go false e n = rw (eq-eqb (word ws (flag_at o)) 1 (sym n.1)) refl

neat-at : (K : ℕ) (ws : List ℕ) (o j : ℕ) → j < K → NeatRow K ws o → NeatPlace ws (o + j * place_words)
neat-at zero ws o j h n = absurd (not-suc-le-zero h)
neat-at (suc K) ws o zero h n = let at : o ≡ o + 0 * place_words = omega arith in subst (λ (i : ℕ). NeatPlace ws i) at n.0
neat-at (suc K) ws o (suc j) h n = let at : o + place_words + j * place_words ≡ o + suc j * place_words = omega arith in subst (λ (i : ℕ). NeatPlace ws i) at (neat-at K ws (o + place_words) j (omega arith) n.1)

pub neat-to : (K : ℕ) (ws : List ℕ) (o n : ℕ) → n ≤ K → NeatRow K ws o → neat_to K ws o n ≡ true
unfolding neat_to
neat-to K ws o zero h g = refl
neat-to K ws o (suc n) h g = and-true _ _ (neat-to K ws o n (omega arith) g) (neat-place ws (o + n * place_words) (neat-at K ws o n h g))

-- ---- a node that fits
strict-fit : (K limit : ℕ) (n : Node) (α β : Bag) → Fit K limit nothing n α β → strict limit n ≡ true
unfolding strict nothing_below
strict-fit K limit n α β fit =
    and-true _ _ (le-leb n.left limit fit.left-room)
    (and-true _ _ (le-leb n.right limit fit.right-room)
    (or-not (eqb (n.left + n.right) 0) _ (λ e. le-leb (length n.places) (inside always n.places)
    (omega (arith, fit.order.packed (omega (arith, fit.left, fit.right, eqb-false (n.left + n.right) 0 e)))))))

pub node-fine : (K limit : ℕ) (ws : List ℕ) (m : ℕ) (α β : Bag) → Neat K ws (m * width K) → Fit K limit nothing (node_in K ws m) α β → node_ok K limit ws m ≡ true
unfolding node_ok
node-fine K limit ws m α β n fit = and-true _ _ (neat-to K ws (m * width K + count_words) K (omega arith) n) (strict-fit K limit (node_in K ws m) α β fit)

module _ (K : ℕ) (two : 1 < K) (ws : List ℕ) where
  -- node m's heap, and what its two children hold
  abbrev at : (k : ℕ) → ℕ → Heap k
  at k m = heap_in K k ws m

  abbrev bag : (k : ℕ) → ℕ → Bag
  bag k m f = many f k (heap_in K k ws m)

  some-fine : (k m : ℕ) → Sound K (suc k) (at (suc k) m) → 0 < bag (suc k) m always → some (node_in K ws m) ≡ true
  unfolding some many heap_in
  some-fine k m s h =
      let ps : List Place = (node_in K ws m).places in
      let i = low-fit K (room K k) nothing (node_in K ws m) (bag k (child m lhs)) (bag k (child m rhs)) two s.0 (omega arith) in
      lt-ltb 0 (inside always ps) (omega (arith, place-hit always ps (low ps) (low_elem ps) i.0.here))

  room-fine : (k m : ℕ) → Sound K (suc k) (at (suc k) m) → bag (suc k) m always < room K (suc k) → roomy (room K k) (node_in K ws m) ≡ true
  unfolding roomy room many heap_in
  room-fine k m s h =
      let n : Node = node_in K ws m in
      or-not (ltb (inside always n.places) (length n.places)) _ (λ p.
      or-not (ltb n.left (room K k)) _ (λ q.
      lt-ltb n.right (room K k) (omega (
        arith,
        ltb-false (inside always n.places) (length n.places) p,
        ltb-false n.left (room K k) q,
        s.0.left,
        s.0.right,
        s.0.size,
      ))))

  read-fine : (k m x : ℕ) → NeatIn K k ws m → Sound K k (at k m) → x ≡ bag k m always → read_ok K (eqb x 0) (under1 K k) ws m ≡ true
  unfolding read_ok under1 heap_in many
  read-fine zero m x n s e = ap (λ (b : Bool). read_ok K b 0 ws m) (eq-eqb x 0 e)
  read-fine (suc k) m x n s e = go (eqb x 0) refl
    where
      go : (b : Bool) → eqb x 0 ≡ b → read_ok K b (room K k) ws m ≡ true
      go true p = refl
      go false p = and-true _ _ (node-fine K (room K k) ws m (bag k (child m lhs)) (bag k (child m rhs)) n.0 s.0) (some-fine k m s (omega (arith, eqb-false x 0 p)))

  module _ (k m : ℕ) (n : NeatIn K (suc k) ws m) (s : Sound K (suc k) (at (suc k) m)) where
    own-node : node_ok K (room K k) ws m ≡ true
    unfolding heap_in
    own-node = node-fine K (room K k) ws m (bag k (child m lhs)) (bag k (child m rhs)) n.0 s.0

    own-children : children_ok K k ws m ≡ true
    unfolding heap_in children_ok
    own-children =
        and-true _ _ (read-fine k (child m lhs) (node_in K ws m).left n.1 s.1 (omega (arith, s.0.left)))
        (read-fine k (child m rhs) (node_in K ws m).right n.2 s.2 (omega (arith, s.0.right)))

    own-fine : (o : Op) → Can (room K (suc k)) o (bag (suc k) m) → own_ok K k o m ws ≡ true
    unfolding own_ok
    own-fine none c = refl
    own-fine (put x) c = and-true _ _ own-node (room-fine k m s c)
    own-fine take c = and-true _ _ own-node own-children
    own-fine (swap x) c = and-true _ _ own-node own-children

  lowest-is : (k m : ℕ) → lowest k (at k m) ≡ low_in K k ws m
  unfolding lowest low_in heap_in
  lowest-is zero m = refl
  lowest-is (suc k) m = refl

  pub way-fine : (k : ℕ) (o : Op) (m : ℕ) → NeatIn K k ws m → Sound K k (at k m) → Can (room K k) o (bag k m) → way_ok K k o m ws ≡ true
  unfolding way_ok step_in heap_in many room
  way-fine zero o m n s c = refl
  way-fine (suc k) o m n s c =
      let x : Node = node_in K ws m in
      let ps : List Place = x.places in
      let α : Bag = bag k (child m lhs) in
      let β : Bag = bag k (child m rhs) in
      let a : Element = lowest k (at k (child m lhs)) in
      let b : Element = lowest k (at k (child m rhs)) in
      let la : 0 < α always → Least α a = heap-least K k (at k (child m lhs)) two s.1 in
      let lb : 0 < β always → Least β b = heap-least K k (at k (child m rhs)) two s.2 in
      let hα = heap-bag k (at k (child m lhs)) in
      let hβ = heap-bag k (at k (child m rhs)) in
      let g = begins K (room K k) x α β hα hβ (omega arith) s.0 o (low ps) (low_elem ps)
      (ask (K + (room K k + room K k)) o ps (low ps) (low_elem ps) (α always + β always) (bag (suc k) m) c (omega arith)
      (λ p. (low-fit K (room K k) nothing x α β two s.0 (omega arith)).0.here)) in
      let v₀ : Begun = begin o (low ps) x in
      let v : Finished = finish v₀.note v₀.node a b in
      let can = children-can α β hα hβ a b la lb K (room K k) v₀.node v₀.note g.fit in
      let same : v ≡ step_in K k o m ws = ap₂ (λ (a b : Element). finish v₀.note v₀.node a b) (lowest-is k (child m lhs)) (lowest-is k (child m rhs)) in
      and-true _ _ (own-fine k m n s o c)
      (subst (λ (u : Finished). way_ok K k u.op (child m u.side) ws ≡ true) same
      (go v.side v.op can.0 can.1 (λ o'. way-fine k o' (child m lhs) n.1 s.1) (λ o'. way-fine k o' (child m rhs) n.2 s.2)))
    where
      go : (d : Side) (o' : Op) → Can (room K k) (pick d o' none) (bag k (child m lhs)) → Can (room K k) (pick d none o') (bag k (child m rhs))
          → ((o'' : Op) → Can (room K k) o'' (bag k (child m lhs)) → way_ok K k o'' (child m lhs) ws ≡ true)
          → ((o'' : Op) → Can (room K k) o'' (bag k (child m rhs)) → way_ok K k o'' (child m rhs) ws ≡ true) → way_ok K k o' (child m d) ws ≡ true
      go lhs o' p q f h = f o' p
      go rhs o' p q f h = h o' q
