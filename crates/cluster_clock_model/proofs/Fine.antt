-- On a sound tree whose words are neat every test of a cycle is passed.
use Rattle.laws.specs.Prelude.{Bool, Element, List, ◌*◌, ◌+◌, ◌<◌, ◌^◌, ◌∙◌, ◌≡◌, ◌≤◌, and-true, ap, arith, eq-eqb, eqb, eqb-false, false, le-leb, length, length-set, lt-ltb, ltb, ltb-false, ne_eqb, not, pow-suc, refl, subst, suc, sym, true, zero, ℕ}
use Rattle.cluster_clock_model.proofs.Flight.{Inv, note_below, Tree, within}
use Rattle.cluster_clock_model.proofs.Seen.{InRange, note_if, note_seen, put_seen, Ranged, tree_in}
use Rattle.cluster_clock_model.specs.Prelude.{Due, Fill, Nothing, Put, Stage, Swap, below, child_of, gives_ok, is_gap, sane, sane_at, stage_at, stage_ok, stages_ok, wait_ok}
use Rattle.cluster_model.specs.Prelude.{Bag, Fit, Neat, Node, Note, Place, Side, carried, child, fill, gap, has, inside, lhs, low, low_elem, node_in, nodes, nothing, nothing_below, onto, rhs, room, roomy, some, spot_of, trial}
use Rattle.cluster_model.proofs.Laws.{inside-put, low-fit, neat-to, node-total, or-not, place_here, place-hit}
use Rattle.promise.specs.Prelude.{always}

-- ---- a node that fits, whatever its note
-- the counts and the places are all that it holds
pub fit_count : (K limit : ℕ) (c : Note) (n : Node) (α β : Bag) → Fit K limit c n α β → inside always n.places + (n.left + n.right) ≡ inside always n.places + (carried c always + (α always + β always))
fit_count K limit nothing n α β fit = omega (arith, fit.left, fit.right)
fit_count K limit (fill j) n α β fit = omega (arith, fit.left, fit.right)
fit_count K limit (trial j x) n α β fit = omega (arith, fit.left, fit.right)
fit_count K limit (onto lhs y) n α β fit = omega (arith, fit.left, fit.right)
fit_count K limit (onto rhs y) n α β fit = omega (arith, fit.left, fit.right)

-- with something below at most one place is not flagged
pub fit-packed : (K limit : ℕ) (c : Note) (n : Node) (α β : Bag) → Fit K limit c n α β → 0 < n.left + n.right → length n.places ≤ suc (inside always n.places)
fit-packed K limit nothing n α β fit h = omega (arith, fit.order.packed (omega (arith, fit.left, fit.right)))
fit-packed K limit (fill j) n α β fit h = omega (arith, fit.order.packed)
fit-packed K limit (trial j x) n α β fit h =
    omega (arith, fit.order.1.packed, inside-put always n.places j (has x) gap (place_here n.places j x fit.order.0) fit.order.0, length-set n.places j gap)
fit-packed K limit (onto s y) n α β fit h = omega (arith, fit.order.packed (omega arith))

sane-fit : (K limit : ℕ) (c : Note) (n : Node) (α β : Bag) → Fit K limit c n α β → sane limit n ≡ true
unfolding sane nothing_below
sane-fit K limit c n α β fit =
    and-true _ _ (le-leb n.left limit fit.left-room)
    (and-true _ _ (le-leb n.right limit fit.right-room)
    (or-not (eqb (n.left + n.right) 0) _ (λ e.
    let some : n.left + n.right ≡ 0 → ⊥ = eqb-false (n.left + n.right) 0 e in
    le-leb (length n.places) (suc (inside always n.places)) (fit-packed K limit c n α β fit (omega arith)))))

-- ---- the nodes by number
-- how many nodes there are, with k levels below the one whose first node is a
abbrev pub reach : ℕ → ℕ → ℕ
reach zero a = a + (a + 1)
reach (suc k) a = reach k (below a)

reach-is : (k a : ℕ) → reach k a + 1 ≡ (a + 1) * 2 ^ suc k
reach-is zero a = omega (arith, pow-suc 2 0)
reach-is (suc k) a =
    let e : reach k (below a) + 1 ≡ (below a + 1) * 2 ^ suc k = reach-is k (below a) in
    go (2 ^ suc k) (2 ^ suc (suc k)) (pow-suc 2 (suc k)) e
  where
    go : (p q : ℕ) → q ≡ p * 2 → reach k (below a) + 1 ≡ (below a + 1) * p → reach k (below a) + 1 ≡ (a + 1) * q
    go p q g e = rw g (omega (arith, e))

pub reach-all : (k : ℕ) → reach k 0 ≡ nodes (suc k)
reach-all k = omega (arith, reach-is k 0, node-total (suc k))

reach-own : (k a n : ℕ) → n < a + 1 → a + n < reach k a
reach-own zero a n h = omega arith
reach-own (suc k) a n h = let b : below a + 0 < reach k (below a) = reach-own k (below a) 0 (omega arith) in omega arith

-- every node is a child
pub halve : (d : ℕ) → (p : ℕ) × (s : Side) × (d ≡ child_of p s)
halve zero = (0, lhs, refl)
halve (suc d) = go (halve d).0 (halve d).1 (halve d).2
  where
    go : (p : ℕ) (s : Side) → d ≡ child_of p s → (q : ℕ) × (t : Side) × (suc d ≡ child_of q t)
    go p lhs e = (p, rhs, omega arith)
    go p rhs e = (suc p, lhs, omega arith)

halve-in : (d p a : ℕ) (s : Side) → d ≡ child_of p s → d < below a + 1 → p < a + 1
halve-in d p a lhs e h = omega arith
halve-in d p a rhs e h = omega arith

module _ (K : ℕ) (two : 1 < K) (rs : List Stage) (ws : List ℕ) where
  abbrev tree : (k a i n : ℕ) → Tree k
  tree k a i n = tree_in K k a i rs ws n

  -- all trees of a level are sound, and so are those of the next
  abbrev pub Sounds : (k a i : ℕ) → Type 0
  Sounds k a i = (n : ℕ) → n < a + 1 → Inv K (suc k) (tree (suc k) a i n)

  pub sounds-next : (k a i : ℕ) → Sounds (suc k) a i → Sounds k (below a) (suc i)
  unfolding tree_in
  sounds-next k a i s d h = go (halve d).0 (halve d).1 (halve d).2
    where
      go : (p : ℕ) (t : Side) → d ≡ child_of p t → Inv K (suc k) (tree (suc k) (below a) (suc i) d)
      go p lhs e = subst (λ (x : ℕ). Inv K (suc k) (tree (suc k) (below a) (suc i) x)) (sym e) (s p (halve-in d p a lhs e h)).1
      go p rhs e = subst (λ (x : ℕ). Inv K (suc k) (tree (suc k) (below a) (suc i) x)) (sym e) (s p (halve-in d p a rhs e h)).2

  module _ (N : ℕ) (neat : (m : ℕ) → m < N → Neat K ws (spot_of K m)) where
    sane-fine : (limit m : ℕ) (c : Note) (α β : Bag) → m < N → Fit K limit c (node_in K ws m) α β → sane_at K limit ws m ≡ true
    unfolding sane_at
    sane-fine limit m c α β h fit = and-true _ _ (neat-to K ws (spot_of K m + 2) K (omega arith) (neat m h)) (sane-fit K limit c (node_in K ws m) α β fit)

    -- the root of a sound tree passes the test of a node
    pub node-fine : (k a i n : ℕ) → a + n < N → Inv K (suc k) (tree (suc k) a i n) → sane_at K (room K k) ws (a + n) ≡ true
    unfolding tree_in
    node-fine k a i n h s =
        sane-fine (room K k) (a + n) (note_below k (note_seen (stage_at rs i).due (stage_at rs i).node n)) (λ f. within f k (tree k (below a) (suc i) (child_of n lhs))) (λ f. within f k (tree k (below a) (suc i) (child_of n rhs))) h s.0

    pub some-fine : (k a i n : ℕ) → Inv K (suc k) (tree (suc k) a i n) → 0 < within always (suc k) (tree (suc k) a i n) → some (node_in K ws (a + n)) ≡ true
    unfolding some tree_in within
    some-fine k a i n s h =
        let ps : List Place = (node_in K ws (a + n)).places in
        let g = low-fit K (room K k) (note_below k (note_seen (stage_at rs i).due (stage_at rs i).node n)) (node_in K ws (a + n)) (λ f. within f k (tree k (below a) (suc i) (child_of n lhs))) (λ f. within f k (tree k (below a) (suc i) (child_of n rhs))) two s.0 h in
        lt-ltb 0 (inside always ps) (omega (arith, place-hit always ps (low ps) (low_elem ps) g.0.here))

    room-fine : (k a i n : ℕ) → Inv K (suc k) (tree (suc k) a i n) → within always (suc k) (tree (suc k) a i n) < room K (suc k) → roomy (room K k) (node_in K ws (a + n)) ≡ true
    unfolding roomy room within tree_in
    room-fine k a i n s h =
        let v : Node = node_in K ws (a + n) in
        or-not (ltb (inside always v.places) (length v.places)) _ (λ p.
        or-not (ltb v.left (room K k)) _ (λ q.
        lt-ltb v.right (room K k) (omega (
          arith,
          ltb-false (inside always v.places) (length v.places) p,
          ltb-false v.left (room K k) q,
          fit_count K (room K k) (note_below k (note_seen (stage_at rs i).due (stage_at rs i).node n)) v (λ f. within f k (tree k (below a) (suc i) (child_of n lhs))) (λ f. within f k (tree k (below a) (suc i) (child_of n rhs))) s.0,
          s.0.size,
        ))))

    gives-fine : (k a i n x : ℕ) → a + n < N → Inv K (suc k) (tree (suc k) a i n) → x ≡ within always (suc k) (tree (suc k) a i n) → gives_ok K (eqb x 0) (room K k) ws (a + n) ≡ true
    unfolding gives_ok
    gives-fine k a i n x h s e = go (eqb x 0) refl
      where
        go : (b : Bool) → eqb x 0 ≡ b → gives_ok K b (room K k) ws (a + n) ≡ true
        go true p = refl
        go false p =
            let ne : x ≡ 0 → ⊥ = eqb-false x 0 p in
            and-true _ _ (node-fine k a i n h s) (some-fine k a i n s (omega arith))

    -- ---- a node that waits
    module _ (k a i n : ℕ) (h : n < a + 1) (deep : below a + (below a + 1) ≤ N) (s : Inv K (suc (suc k)) (tree (suc (suc k)) a i n)) where
      abbrev v : Node
      v = node_in K ws (a + n)

      abbrev α : Bag
      α f = within f (suc k) (tree (suc k) (below a) (suc i) (child_of n lhs))

      abbrev β : Bag
      β f = within f (suc k) (tree (suc k) (below a) (suc i) (child_of n rhs))

      wait-fine : v.left ≡ α always → v.right ≡ β always → 0 < α always + β always → wait_ok K k (a + n) ws ≡ true
      unfolding wait_ok tree_in nothing_below
      wait-fine l r some =
          let ne : v.left + v.right ≡ 0 → ⊥ = λ z. omega arith in
          let no : not (eqb (v.left + v.right) 0) ≡ true = ap not (ne_eqb (v.left + v.right) 0 ne) in
          and-true _ _ (node-fine (suc k) a i n (omega arith) s)
          (and-true _ _ no
          (and-true _ _
          (subst (λ (m : ℕ). gives_ok K (eqb v.left 0) (room K k) ws m ≡ true) (left-child) (gives-fine k (below a) (suc i) (child_of n lhs) v.left (omega arith) s.1 l))
          (subst (λ (m : ℕ). gives_ok K (eqb v.right 0) (room K k) ws m ≡ true) (right_child) (gives-fine k (below a) (suc i) (child_of n rhs) v.right (omega arith) s.2 r))))
        where
          left-child : below a + (n + n) ≡ child (a + n) lhs
          left-child = omega arith

          right_child : below a + suc (n + n) ≡ child (a + n) rhs
          right_child = omega arith

    -- ---- a record
    module _ (k a i : ℕ) (deep : below a + (below a + 1) ≤ N) (s : Sounds (suc k) a i) where
      put-fine : (y : Element) (d : ℕ) → (stage_at rs i).due ≡ Put y → (stage_at rs i).node ≡ d → d < below a + 1 → stage_ok K k (Put y) d a ws ≡ true
      unfolding stage_ok tree_in note_below note_seen
      put-fine y d e f h = go (halve d).0 (halve d).1 (halve d).2
        where
          done : (p : ℕ) (t : Side) → d ≡ child_of p t → Inv K (suc k) (tree (suc k) (below a) (suc i) (child_of p t)) → within always (suc k) (tree (suc k) (below a) (suc i) (child_of p t)) < room K (suc k)
              → stage_ok K k (Put y) d a ws ≡ true
          done p t g inv few = subst (λ (d : ℕ). stage_ok K k (Put y) d a ws ≡ true) (sym g)
              (and-true _ _ (lt-ltb (child_of p t) (below a + 1) (omega (arith, g)))
              (and-true _ _ (node-fine k (below a) (suc i) (child_of p t) (omega (arith, g)) inv) (room-fine k (below a) (suc i) (child_of p t) inv few)))

          seen : (p : ℕ) → note_seen (stage_at rs i).due (stage_at rs i).node p ≡ note_seen (Put y) d p
          seen p = ap (λ (x : Due). note_seen x (stage_at rs i).node p) e ∙ ap (λ (x : ℕ). note_seen (Put y) x p) f

          go : (p : ℕ) (t : Side) → d ≡ child_of p t → stage_ok K k (Put y) d a ws ≡ true
          go p lhs g =
              let c : note_seen (stage_at rs i).due (stage_at rs i).node p ≡ onto lhs y = seen p ∙ ap (λ (b : Bool). put_seen b (eqb d (suc (p + p))) y) (eq-eqb d (p + p) g) in
              let inv = s p (halve-in d p a lhs g h) in
              let fit : Fit K (room K (suc k)) (onto lhs y) (node_in K ws (a + p)) (λ f. within f (suc k) (tree (suc k) (below a) (suc i) (child_of p lhs))) (λ f. within f (suc k) (tree (suc k) (below a) (suc i) (child_of p rhs))) =
              subst (λ (c : Note). Fit K (room K (suc k)) c (node_in K ws (a + p)) (λ f. within f (suc k) (tree (suc k) (below a) (suc i) (child_of p lhs))) (λ f. within f (suc k) (tree (suc k) (below a) (suc i) (child_of p rhs)))) c inv.0 in
              done p lhs g inv.1 (omega (arith, fit.left, fit.left-room))
          go p rhs g =
              let c : note_seen (stage_at rs i).due (stage_at rs i).node p ≡ onto rhs y = seen p
              ∙ ap (λ (b : Bool). put_seen b (eqb d (suc (p + p))) y) (ne_eqb d (p + p) (λ z. omega arith)) ∙ ap (λ (b : Bool). put_seen false b y) (eq-eqb d (suc (p + p)) g) in
              let inv = s p (halve-in d p a rhs g h) in
              let fit : Fit K (room K (suc k)) (onto rhs y) (node_in K ws (a + p)) (λ f. within f (suc k) (tree (suc k) (below a) (suc i) (child_of p lhs))) (λ f. within f (suc k) (tree (suc k) (below a) (suc i) (child_of p rhs))) =
              subst (λ (c : Note). Fit K (room K (suc k)) c (node_in K ws (a + p)) (λ f. within f (suc k) (tree (suc k) (below a) (suc i) (child_of p lhs))) (λ f. within f (suc k) (tree (suc k) (below a) (suc i) (child_of p rhs)))) c inv.0 in
              done p rhs g inv.2 (omega (arith, fit.right, fit.right-room))

      -- the note of a node that waits, with its tree
      noted : (c : Note) (n : ℕ) → n < a + 1 → note_seen (stage_at rs i).due (stage_at rs i).node n ≡ c
          → Fit K (room K (suc k)) c (node_in K ws (a + n)) (λ f. within f (suc k) (tree (suc k) (below a) (suc i) (child_of n lhs))) (λ f. within f (suc k) (tree (suc k) (below a) (suc i) (child_of n rhs)))
      unfolding tree_in note_below
      noted c n h e =
          subst (λ (c : Note). Fit K (room K (suc k)) c (node_in K ws (a + n)) (λ f. within f (suc k) (tree (suc k) (below a) (suc i) (child_of n lhs))) (λ f. within f (suc k) (tree (suc k) (below a) (suc i) (child_of n rhs)))) e (s n h).0

      stage-fine : (d : Due) (n : ℕ) → (stage_at rs i).due ≡ d → (stage_at rs i).node ≡ n → InRange d n a → stage_ok K k d n a ws ≡ true
      unfolding stage_ok note_seen is_gap
      stage-fine Nothing n e f h = refl
      stage-fine (Put y) n e f h = put-fine y n e f h
      stage-fine (Fill j) n e f h =
          let c : note_seen (stage_at rs i).due (stage_at rs i).node n ≡ fill j = ap (λ (x : Due). note_seen x (stage_at rs i).node n) e ∙ ap (λ (x : ℕ). note_seen (Fill j) x n) f ∙ ap (λ (b : Bool). note_if b (fill j)) (eq-eqb n n refl) in
          let fit = noted (fill j) n h c in
          and-true _ _ (lt-ltb n (a + 1) h)
          (and-true _ _ (lt-ltb j K (omega (arith, fit.order.here, fit.size)))
          (and-true _ _ (ap is_gap fit.order.vacant)
          (wait-fine k a i n h deep (s n h) (omega (arith, fit.left)) (omega (arith, fit.right)) (omega (arith, fit.order.some)))))
      stage-fine (Swap j x) n e f h =
          let c : note_seen (stage_at rs i).due (stage_at rs i).node n ≡ trial j x = ap (λ (x : Due). note_seen x (stage_at rs i).node n) e ∙ ap (λ (m : ℕ). note_seen (Swap j x) m n) f ∙ ap (λ (b : Bool). note_if b (trial j x)) (eq-eqb n n refl) in
          let fit = noted (trial j x) n h c in
          and-true _ _ (lt-ltb n (a + 1) h)
          (and-true _ _ (lt-ltb j K (omega (arith, place_here (node_in K ws (a + n)).places j x fit.order.0, fit.size)))
          (and-true _ _ (ap (λ (p : Place). not (is_gap p)) fit.order.0)
          (wait-fine k a i n h deep (s n h) (omega (arith, fit.left)) (omega (arith, fit.right)) (omega (arith, fit.order.1.some)))))

    pub stages-fine : (k a i : ℕ) → reach k a ≤ N → Sounds k a i → Ranged k a i rs → stages_ok K k a i rs ws ≡ true
    unfolding stages_ok
    stages-fine zero a i h s r = refl
    stages-fine (suc k) a i h s r =
        let last : below a + below a < reach k (below a) = reach-own k (below a) (below a) (omega arith) in
        and-true _ _ (stage-fine k a i (omega arith) s (stage_at rs i).due (stage_at rs i).node refl refl r.0) (stages-fine k (below a) (suc i) h (sounds-next k a i s) r.1)
