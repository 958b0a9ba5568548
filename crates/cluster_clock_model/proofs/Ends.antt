-- The last level leaves nothing: in a cycle that meets no damage the work there has nothing below it, and a put finds a free place.
use Rattle.laws.specs.Prelude.{Bool, Element, List, Request, ◌&&◌, ◌*◌, ◌+◌, ◌<◌, ◌||◌, ◌∙◌, ◌≡◌, and_left, and_right, ap, arith, asks, eq-eqb, eqb, eqb-false, false, key, le-ltb, leb, leb-true, length, ltb, ltb-false, ltb-true, ne_eqb, not, not-true, refl, subst, suc, sym, true, true≢false, ℕ}
use native.Mathlib.Nat.{pos_of_ne-zero}
use Rattle.cluster_clock_model.specs.Prelude.{Due, Fill, Nothing, Put, Swap, asked_ok, below, child_of, gives_ok, handed, is_gap, low_at, sane, sane_at, settled, stage_ok, wait_ok}
use Rattle.cluster_model.proofs.Laws.{comes, lower-is, no-free, node-count}
use Rattle.cluster_model.specs.Prelude.{Comes, Lower, Node, Op, Ruling, Side, begin, child, count, empty, fill, fill_from, finish, free, full, held_in, idles, inside, lacks, lhs, low_elem, lower_side, neat_to, no-tag, node_in, none, nothing, nothing_below, pick, place_at, put, put_by, puts, rhs, room, roomy, root_held, rule_at, spot_of, swap, swap_by, swaps, take, take_by, takes, trial, trial_by, trial_from, width}
use Rattle.promise.specs.Prelude.{always}

-- nothing below a node, and where something is put a free place: nothing is left to be done
begin-ends : (o : Op) (i : ℕ) (n : Node) → n.left + n.right ≡ 0 → ((y : Element) → o ≡ put y → inside always n.places < length n.places) → (begin o i n).note ≡ nothing
unfolding begin put_by take_by swap_by nothing_below
begin-ends none i n e f = refl
begin-ends (put y) i n e f = go (ltb (free n.places) (length n.places)) refl
  where
    go : (t : Bool) → ltb (free n.places) (length n.places) ≡ t → (put_by t y n).note ≡ nothing
    go true p = refl
    go false p = absurd (omega (arith, f y refl, no-free n.places (ltb-false (free n.places) (length n.places) p)))
begin-ends take i n e f = rw (eq-eqb (n.left + n.right) 0 e) refl
begin-ends (swap x) i n e f = rw (eq-eqb (n.left + n.right) 0 e) refl

-- only a put is a put
putting : Op → ℕ
putting none = 0
putting (put y) = 1
putting take = 0
putting (swap x) = 0

take_put : (y : Element) → take ≡ put y → ⊥
unfolding putting
take_put y p = omega (arith, ap putting p)

swap-put : (x y : Element) → swap x ≡ put y → ⊥
unfolding putting
swap-put x y p = omega (arith, ap putting p)

-- in a root that is its own last level
few-inside : (K : ℕ) (ws : List ℕ) → held_in K 1 ws < room K 1 → inside always (node_in K ws 0).places < length (node_in K ws 0).places
unfolding room root_held
few-inside K ws l = omega (arith, node-count K ws (0 * width K))

module _ (K : ℕ) where
  -- a node in order with no room below its children has nothing below it
  sane-none : (ws : List ℕ) (m : ℕ) → sane_at K (room K 0) ws m ≡ true → (node_in K ws m).left + (node_in K ws m).right ≡ 0
  unfolding sane_at sane room
  sane-none ws m e =
      let n : Node = node_in K ws m in
      let c : Bool = nothing_below n || leb (length n.places) (suc (inside always n.places)) in
      let s : (leb n.left 0 && (leb n.right 0 && c)) ≡ true = and_right (neat_to K ws (spot_of K m + 2) K) (leb n.left 0 && (leb n.right 0 && c)) e in
      omega (arith, leb-true n.left 0 (and_left (leb n.left 0) _ s), leb-true n.right 0 (and_left (leb n.right 0) c (and_right (leb n.left 0) _ s)))

  roomy-free : (n : Node) → roomy (room K 0) n ≡ true → inside always n.places < length n.places
  unfolding roomy room
  roomy-free n e = go (ltb (inside always n.places) (length n.places)) refl e
    where
      go : (t : Bool) → ltb (inside always n.places) (length n.places) ≡ t → (t || (ltb n.left 0 || ltb n.right 0)) ≡ true → inside always n.places < length n.places
      go true p f = ltb-true (inside always n.places) (length n.places) p
      go false p f = absurd (true≢false (sym f ∙ rw (le-ltb n.left 0 (omega arith), le-ltb n.right 0 (omega arith)) refl))

  -- the child that gives, of a node that waits just above the last level
  module _ (m : ℕ) (ws : List ℕ) (e : wait_ok K 0 m ws ≡ true) where
    abbrev v : Node
    v = node_in K ws m

    abbrev side : Side
    side = lower_side v (low_at K ws (child m lhs)) (low_at K ws (child m rhs))

    -- the tests of its children
    abbrev gives : Side → Bool
    gives s = gives_ok K (eqb (count s v) 0) (room K 0) ws (child m s)

    rest : (not (nothing_below v) && (gives lhs && gives rhs)) ≡ true
    unfolding wait_ok
    rest = and_right (sane_at K (room K 1) ws m) _ e

    some_below : 0 < v.left + v.right
    unfolding nothing_below
    some_below = pos_of_ne-zero (eqb-false (v.left + v.right) 0 (not-true (eqb (v.left + v.right) 0) (and_left (not (nothing_below v)) (gives lhs && gives rhs) rest)))

    child-none : (s : Side) → gives s ≡ true → 0 < count s v → (node_in K ws (child m s)).left + (node_in K ws (child m s)).right ≡ 0
    unfolding gives_ok
    child-none s g h =
        let ne : count s v ≡ 0 → ⊥ = λ z. omega arith in
        sane-none ws (child m s) (and_left (sane_at K (room K 0) ws (child m s)) _ (subst (λ (t : Bool). gives_ok K t (room K 0) ws (child m s) ≡ true) (ne_eqb (count s v) 0 ne) g))

    giver-none : (node_in K ws (child m side)).left + (node_in K ws (child m side)).right ≡ 0
    giver-none = go side (lower-is v (low_at K ws (child m lhs)) (low_at K ws (child m rhs)) some_below)
      where
        both : (gives lhs && gives rhs) ≡ true
        both = and_right (not (nothing_below v)) (gives lhs && gives rhs) rest

        go : (s : Side) → Lower v (low_at K ws (child m lhs)) (low_at K ws (child m rhs)) s → (node_in K ws (child m s)).left + (node_in K ws (child m s)).right ≡ 0
        go lhs l = child-none lhs (and_left (gives lhs) (gives rhs) both) l.0
        go rhs l = child-none rhs (and_right (gives lhs) (gives rhs) both) l.0

  child-at : (a n : ℕ) (s : Side) → child (a + n) s ≡ below a + child_of n s
  child-at a n lhs = omega arith
  child-at a n rhs = omega arith

  -- what the child that gives has to do, for a gap or an element on trial above it
  module _ (a n i : ℕ) (ws : List ℕ) (e : wait_ok K 0 (a + n) ws ≡ true) where
    bare : (node_in K ws (below a + child_of n (side (a + n) ws e))).left + (node_in K ws (below a + child_of n (side (a + n) ws e))).right ≡ 0
    bare = subst (λ (m : ℕ). (node_in K ws m).left + (node_in K ws m).right ≡ 0) (child-at a n (side (a + n) ws e)) (giver-none (a + n) ws e)

    fill-ends : (j : ℕ) → (begin (settled K (fill j) (a + n) ws).op i (node_in K ws (below a + child_of n (settled K (fill j) (a + n) ws).side))).note ≡ nothing
    unfolding settled finish fill_from
    fill-ends j = begin-ends take i (node_in K ws (below a + child_of n (side (a + n) ws e))) bare (λ y p. absurd (take_put y p))

    trial-ends : (j : ℕ) (x : Element) → (begin (settled K (trial j x) (a + n) ws).op i (node_in K ws (below a + child_of n (settled K (trial j x) (a + n) ws).side))).note ≡ nothing
    unfolding settled finish trial_from trial_by begin
    trial-ends j x = go (ltb (key (pick s (low_at K ws (child (a + n) lhs)) (low_at K ws (child (a + n) rhs)))) (key x))
      where
        s : Side
        s = side (a + n) ws e

        go : (t : Bool) → let f = trial_by t s j x (node_in K ws (a + n)) (low_at K ws (child (a + n) lhs)) (low_at K ws (child (a + n) rhs)) in
            (begin f.op i (node_in K ws (below a + child_of n f.side))).note ≡ nothing
        go true = begin-ends (swap x) i (node_in K ws (below a + child_of n s)) bare (λ y p. absurd (swap-put x y p))
        go false = refl

  -- the work that a record just above the last level hands down
  pub work-ends : (d : Due) (n a i : ℕ) (ws : List ℕ) → stage_ok K 0 d n a ws ≡ true → (begin (handed K d n a ws).op i (node_in K ws (below a + (handed K d n a ws).node))).note ≡ nothing
  unfolding stage_ok handed begin
  work-ends Nothing n a i ws e = refl
  work-ends (Put y) n a i ws e =
      let m : ℕ = below a + n in
      let t : (sane_at K (room K 0) ws m && roomy (room K 0) (node_in K ws m)) ≡ true = and_right (ltb n (below a + 1)) _ e in
      begin-ends (put y) i (node_in K ws m) (sane-none ws m (and_left (sane_at K (room K 0) ws m) _ t)) (λ x p. roomy-free (node_in K ws m) (and_right (sane_at K (room K 0) ws m) _ t))
  work-ends (Fill j) n a i ws e = fill-ends a n i ws (and_right (is_gap (place_at (node_in K ws (a + n)).places j)) _ (and_right (ltb j K) _ (and_right (ltb n (a + 1)) _ e))) j
  work-ends (Swap j x) n a i ws e = trial-ends a n i ws (and_right (not (is_gap (place_at (node_in K ws (a + n)).places j))) _ (and_right (ltb j K) _ (and_right (ltb n (a + 1)) _ e))) j x

  -- .. and what a request comes to, where the root is the last level
  pub root_ends : (r : Request) (i : ℕ) (ws : List ℕ) → asked_ok K 1 r ws ≡ true → (begin (rule_at K 1 r ws).op i (node_in K ws 0)).note ≡ nothing
  unfolding begin asks
  root_ends r i ws e = go r (rule_at K 1 r ws) (comes (room K 1) r (held_in K 1 ws) (low_elem (node_in K ws 0).places)) e
    where
      n : Node
      n = node_in K ws 0

      go : (r : Request) (g : Ruling) → Comes (room K 1) (held_in K 1 ws) (low_elem n.places) r g → asked_ok K 1 r ws ≡ true → (begin g.op i n).note ≡ nothing
      go r g idles e = refl
      go r g (no-tag r' u) e = refl
      go r g (puts x u l) e = begin-ends (put x) i n (sane-none ws 0 e) (λ y p. few-inside K ws l)
      go r g (full x u l) e = refl
      go r g (takes l) e = begin-ends take i n (sane-none ws 0 e) (λ y p. absurd (take_put y p))
      go r g (empty l) e = refl
      go r g (swaps x u l) e = begin-ends (swap x) i n (sane-none ws 0 e) (λ y p. absurd (swap-put x y p))
      go r g (lacks x u l) e = refl
