-- What the tests say: a record that passes names a node that waits, or hands down work to a node in order; and settling it leaves every node fit to be worked at.
use Rattle.laws.specs.Prelude.{Bool, Element, List, ◌&&◌, ◌*◌, ◌+◌, ◌<◌, ◌||◌, ◌∙◌, ◌≡◌, ◌≤◌, ap, ap₂, arith, eqb, eqb-false, false, false≢true, key, leb, leb-true, length, ltb, ltb-true, mul-le-mul_right, ne_eqb, not, not-true, pred, refl, subst, suc, sym, true, zero, ℕ, ℕ_discrete}
use Rattle.promise.specs.Prelude.{always}
use Rattle.cluster.proofs.Commute.{neat-of}
use Rattle.cluster_node.proofs.Fulls.{and_l, and_r}
use Rattle.cluster_clock_model.proofs.Laws.{InRange, node-apart, settled-length}
use Rattle.cluster_clock_model.specs.Prelude.{below, child_of, filled, gives_ok, handed, is_gap, low_at, sane, sane_at, settled, stage, stage_ok, wait_ok}
use Rattle.cluster_clock_model.specs.declared.Due.{Due}
use Rattle.cluster_clock_model.specs.declared.Due.TheVariants as due
use Rattle.cluster_model.proofs.Laws.{neat-row, node-length, node-only, node-read, node-written}
use Rattle.cluster_model.specs.Prelude.{Neat, Node, Side, child, fill, fill_from, finish, inside, lhs, lower_side, neat_to, node_in, node_of, nothing_below, pick, place_at, rhs, room, roomy, side_if, sink, some, spot_of, touch, trial, trial_by, trial_from, width, word, works, write_node}
use Rattle.cluster_node.proofs.Bridge.{both_zero}
use Rattle.cluster_node.specs.Leaf.{bare_at, Here}
use Rattle.cluster_clock_level.specs.Round.{ends, Lies}
use Rattle.cluster_clock_level.proofs.Testing.{level-three, node_in_lem}
use Rattle.cluster_clock_level.specs.Stage.{LevelIn, Pends, Sited, Waits}

-- ---- where the levels lie
pub ends-own : (k a : ℕ) → below a ≤ ends k a
ends-own zero a = omega arith
ends-own (suc k) a = omega (arith, ends-own k (below a))

pub node-lies : (K k a n len : ℕ) → Lies K k a len → n < a + 1 → Here K (a + n) len
node-lies K k a n len l h = node_in_lem K (ends k a) (a + n) len l.some l.few l.nodes l.words (omega (arith, ends-own k a))

pub level-lies : (K k a len : ℕ) → Lies K (suc k) a len → LevelIn K a len
level-lies K k a len l = record {
  some = l.some;
  few = l.few;
  nodes = omega (arith, l.nodes, ends-own k (below a));
  words = words (width K) l.words (ends-own k (below a));
}
  where
    words : (w : ℕ) → ends k (below a) * w ≤ len → below (below a) ≤ ends k (below a) → below (below a) * w ≤ len
    words w d h = omega (arith, mul-le-mul_right w h)

pub lies-next : (K k a len : ℕ) → Lies K (suc k) a len → Lies K k (below a) len
lies-next K k a len l = record { some = l.some; few = l.few; nodes = l.nodes; words = l.words }

-- ---- a node that passes
module _ (K limit : ℕ) (ws : List ℕ) (m : ℕ) (ok : sane_at K limit ws m ≡ true) where
  pub sane-neat : Neat K ws (m * width K)
  unfolding sane_at
  sane-neat = neat-of K ws (m * width K) (and_l (neat_to K ws (m * width K + 2) K) (sane limit (node_in K ws m)) ok)

  pub sane-counts : (word ws (m * width K) ≤ limit) × (word ws (m * width K + 1) ≤ limit)
  unfolding sane_at sane node_of
  sane-counts =
      let o : ℕ = m * width K in
      let n : Node = node_in K ws m in
      let x : Bool = leb (word ws o) limit in
      let y : Bool = leb (word ws (o + 1)) limit in
      let z : Bool = nothing_below n || leb (length n.places) (suc (inside always n.places)) in
      let e : (x && (y && z)) ≡ true = and_r (neat_to K ws (o + 2) K) (x && (y && z)) ok in
      (leb-true (word ws o) limit (and_l x (y && z) e), leb-true (word ws (o + 1)) limit (and_l y z (and_r x (y && z) e)))

  pub sane-sited : Here K m (length ws) → limit ≤ 5460 → Sited K m ws
  sane-sited h l = record { lies = h; neat = sane-neat; left = omega (arith, sane-counts.0); right = omega (arith, sane-counts.1) }

-- ---- a node that waits
module _ (K k : ℕ) (ws : List ℕ) (m : ℕ) (ok : wait_ok K k m ws ≡ true) where
  abbrev n : Node
  n = node_in K ws m

  abbrev A : Bool
  A = sane_at K (room K (suc k)) ws m

  abbrev B : Bool
  B = not (nothing_below (node_in K ws m))

  abbrev C : Bool
  C = gives_ok K (eqb (node_in K ws m).left 0) (room K k) ws (child m lhs)

  abbrev D : Bool
  D = gives_ok K (eqb (node_in K ws m).right 0) (room K k) ws (child m rhs)

  test : (A && (B && (C && D))) ≡ true
  unfolding wait_ok
  test = ok

  wait-sane : sane_at K (room K (suc k)) ws m ≡ true
  wait-sane = and_l A (B && (C && D)) test

  wait-more : nothing_below (node_in K ws m) ≡ false
  wait-more = not-true (nothing_below (node_in K ws m)) (and_l B (C && D) (and_r A (B && (C && D)) test))

  wait-left : C ≡ true
  wait-left = and_l C D (and_r B (C && D) (and_r A (B && (C && D)) test))

  wait-right : D ≡ true
  wait-right = and_r C D (and_r B (C && D) (and_r A (B && (C && D)) test))

  -- a child of count not 0 is in order, and holds something
  gave : (d x : ℕ) → gives_ok K (eqb x 0) (room K k) ws d ≡ true → (x ≡ 0 → ⊥) → (sane_at K (room K k) ws d ≡ true) × (0 < inside always (node_in K ws d).places)
  unfolding gives_ok some
  gave d x e ne =
      let u : Bool = sane_at K (room K k) ws d in
      let v : Bool = ltb 0 (inside always (node_in K ws d).places) in
      let t : (u && v) ≡ true = ap (λ (b : Bool). gives_ok K b (room K k) ws d) (sym (ne_eqb x 0 ne)) ∙ e in
      (and_l u v t, ltb-true 0 (inside always (node_in K ws d).places) (and_r u v t))

  -- the lower child is one of count not 0
  lower-child : (a b : Element) → sane_at K (room K k) ws (child m (lower_side (node_in K ws m) a b)) ≡ true
  unfolding lower_side nothing_below
  lower-child a b = go (eqb n.left 0) refl (eqb n.right 0) refl (ltb (key b) (key a))
    where
      L : eqb n.left 0 ≡ false → sane_at K (room K k) ws (child m lhs) ≡ true
      L e = (gave (child m lhs) n.left wait-left (eqb-false n.left 0 e)).0

      R : eqb n.right 0 ≡ false → sane_at K (room K k) ws (child m rhs) ≡ true
      R e = (gave (child m rhs) n.right wait-right (eqb-false n.right 0 e)).0

      none : eqb n.left 0 ≡ true → eqb n.right 0 ≡ true → ⊥
      none p q = false≢true (sym wait-more ∙ sym (both_zero n.left n.right) ∙ ap₂ (λ (s t : Bool). s && t) p q)

      go : (l : Bool) → eqb n.left 0 ≡ l → (r : Bool) → eqb n.right 0 ≡ r → (t : Bool) → sane_at K (room K k) ws (child m (side_if (not r && (l || t)))) ≡ true
      go true p true q t = absurd (none p q)
      go true p false q t = R q
      go false p true q t = L p
      go false p false q true = R q
      go false p false q false = L p

-- ---- a record that passes
module _ (K k a : ℕ) (ws : List ℕ) where
  -- a gap or a trial: the node, the place, and that the node waits
  waits_there : (n j : ℕ) (g : Bool) → (ltb n (a + 1) && (ltb j K && (g && wait_ok K k (a + n) ws))) ≡ true → (n < a + 1) × (j < K) × (wait_ok K k (a + n) ws ≡ true)
  waits_there n j g e =
      let w : Bool = wait_ok K k (a + n) ws in
      let x : Bool = ltb n (a + 1) in
      let y : Bool = ltb j K in
      let e₁ : (y && (g && w)) ≡ true = and_r x (y && (g && w)) e in
      (ltb-true n (a + 1) (and_l x (y && (g && w)) e), ltb-true j K (and_l y (g && w) e₁), and_r g w (and_r y (g && w) e₁))

  pub in-range : (d : Due) (n : ℕ) → stage_ok K k d n a ws ≡ true → InRange d n a
  unfolding stage_ok
  in-range due.Nothing n e = tt
  in-range (due.Put y) n e = ltb-true n (below a + 1) (and_l (ltb n (below a + 1)) (sane_at K (room K k) ws (below a + n) && roomy (room K k) (node_in K ws (below a + n))) e)
  in-range (due.Fill j) n e = (waits_there n j (is_gap (place_at (node_in K ws (a + n)).places j)) e).0
  in-range (due.Swap j x) n e = (waits_there n j (not (is_gap (place_at (node_in K ws (a + n)).places j))) e).0

  waiting : (n j : ℕ) → LevelIn K a (length ws) → (n < a + 1) × (j < K) × (wait_ok K k (a + n) ws ≡ true) → Waits K (a + n) j ws
  unfolding bare_at node_of nothing_below
  waiting n j l w =
      let m : ℕ = a + n in
      let o : ℕ = m * width K in
      record {
        lies = level-three K a n (length ws) l (omega (arith, w.0));
        neat = sane-neat K (room K (suc k)) ws m (wait-sane K k ws m w.2);
        place = w.1;
        more = both_zero (word ws o) (word ws (o + 1)) ∙ wait-more K k ws m w.2;
        left = λ ne. (gave K k ws m w.2 (child m lhs) (word ws o) (wait-left K k ws m w.2) ne).1;
        right = λ ne. (gave K k ws m w.2 (child m rhs) (word ws (o + 1)) (wait-right K k ws m w.2) ne).1;
      }

  pub pends : (d : Due) (n : ℕ) → LevelIn K a (length ws) → stage_ok K k d n a ws ≡ true → Pends d K (a + n) ws
  unfolding stage_ok
  pends due.Nothing n l e = tt
  pends (due.Put y) n l e = tt
  pends (due.Fill j) n l e = waiting n j l (waits_there n j (is_gap (place_at (node_in K ws (a + n)).places j)) e)
  pends (due.Swap j x) n l e = waiting n j l (waits_there n j (not (is_gap (place_at (node_in K ws (a + n)).places j))) e)

  child-below : (n : ℕ) (s : Side) → child (a + n) s ≡ below a + child_of n s
  child-below n lhs = omega arith
  child-below n rhs = omega arith

  lower-sane : (n : ℕ) (s : Side) (x y : Element) → s ≡ lower_side (node_in K ws (a + n)) x y → wait_ok K k (a + n) ws ≡ true → sane_at K (room K k) ws (below a + child_of n s) ≡ true
  lower-sane n s x y e w =
      subst (λ (i : ℕ). sane_at K (room K k) ws i ≡ true) (ap (child (a + n)) (sym e) ∙ child-below n s) (lower-child K k ws (a + n) w x y)

  trial-side : (t : Bool) (s : Side) (j : ℕ) (x : Element) (n : Node) (u v : Element) → (trial_by t s j x n u v).side ≡ s
  unfolding trial_by
  trial-side true s j x n u v = refl
  trial-side false s j x n u v = refl

  -- work that is handed down finds its node in order
  pub handed-sane : (d : Due) (n : ℕ) → stage_ok K k d n a ws ≡ true → works (handed K d n a ws).op ≡ true → sane_at K (room K k) ws (below a + (handed K d n a ws).node) ≡ true
  unfolding stage_ok handed works settled finish fill_from trial_from
  handed-sane due.Nothing n e w = absurd (false≢true w)
  handed-sane (due.Put y) n e w =
      let x : Bool = ltb n (below a + 1) in
      let u : Bool = sane_at K (room K k) ws (below a + n) in
      let v : Bool = roomy (room K k) (node_in K ws (below a + n)) in
      and_l u v (and_r x (u && v) e)
  handed-sane (due.Fill j) n e w =
      lower-sane n (settled K (fill j) (a + n) ws).side (low_at K ws (child (a + n) lhs)) (low_at K ws (child (a + n) rhs)) refl
      (waits_there n j (is_gap (place_at (node_in K ws (a + n)).places j)) e).2
  handed-sane (due.Swap j x) n e w =
      let p : Element = low_at K ws (child (a + n) lhs) in
      let q : Element = low_at K ws (child (a + n) rhs) in
      let s : Side = lower_side (node_in K ws (a + n)) p q in
      lower-sane n (settled K (trial j x) (a + n) ws).side p q (trial-side (ltb (key (pick s p q)) (key x)) s j x (node_in K ws (a + n)) p q)
      (waits_there n j (not (is_gap (place_at (node_in K ws (a + n)).places j))) e).2

-- ---- a node fit to be worked at stays so while another, or the same, is settled
module _ (K : ℕ) (ws : List ℕ) where
  written-sited : (p m : ℕ) (x : Node) → length x.places ≡ K → spot_of K p + width K ≤ length ws → x.left ≤ (node_in K ws p).left → x.right ≤ (node_in K ws p).right
      → Sited K m ws → Sited K m (write_node ws (spot_of K p) x)
  unfolding node_of
  written-sited p m x e fits hl hr s = elim (ℕ_discrete m p) [
    | yes q ↦ subst (λ (m : ℕ). Sited K m ws → Sited K m (write_node ws (spot_of K p) x)) (sym q) same s
    | no q ↦ apart q
  ]
    where
      vs : List ℕ
      vs = write_node ws (spot_of K p) x

      len : length (write_node ws (spot_of K p) x) ≡ length ws
      len = node-length ws (spot_of K p) x

      here : (m : ℕ) → Here K m (length ws) → Here K m (length (write_node ws (spot_of K p) x))
      here m h = subst (Here K m) (sym len) h

      same : Sited K p ws → Sited K p (write_node ws (spot_of K p) x)
      same s =
          let r : node_in K (write_node ws (spot_of K p) x) p ≡ x = node-read K ws (spot_of K p) x e fits in
          let l : word (write_node ws (spot_of K p) x) (p * width K) ≡ x.left = ap (λ (n : Node). n.left) r in
          let g : word (write_node ws (spot_of K p) x) (p * width K + 1) ≡ x.right = ap (λ (n : Node). n.right) r in
          record { lies = here p s.lies; neat = node-written K ws (spot_of K p) x e fits; left = omega (arith, l, s.left); right = omega (arith, g, s.right) }

      apart : (m ≡ p → ⊥) → Sited K m (write_node ws (spot_of K p) x)
      apart ne =
          let stands : (i : ℕ) → m * width K ≤ i → i < m * width K + width K → word (write_node ws (spot_of K p) x) i ≡ word ws i =
          λ i l h. node-only K ws (spot_of K p) x e i (node-apart (width K) m p i ne l h) in
          let l : word (write_node ws (spot_of K p) x) (m * width K) ≡ word ws (m * width K) = stands (m * width K) (omega arith) (omega arith) in
          let g : word (write_node ws (spot_of K p) x) (m * width K + 1) ≡ word ws (m * width K + 1) = stands (m * width K + 1) (omega arith) (omega arith) in
          record {
            lies = here m s.lies;
            neat = neat-row K ws (write_node ws (spot_of K p) x) (m * width K + 2) (λ i h h'. stands i (omega arith) (omega arith)) s.neat;
            left = omega (arith, l, s.left);
            right = omega (arith, g, s.right);
          }

  less : (x : ℕ) → pred x ≤ x
  less zero = omega arith
  less (suc x) = omega arith

  equal : (x : ℕ) → x ≤ x
  equal x = omega arith

  sunk : (s : Side) (n : Node) → ((sink s n).left ≤ n.left) × ((sink s n).right ≤ n.right)
  sunk lhs n = (less n.left, equal n.right)
  sunk rhs n = (equal n.left, less n.right)

  kept : (t : Bool) (s : Side) (j : ℕ) (x : Element) (n : Node) (u v : Element) → ((trial_by t s j x n u v).node.left ≤ n.left) × ((trial_by t s j x n u v).node.right ≤ n.right)
  unfolding trial_by
  kept true s j x n u v = (omega arith, omega arith)
  kept false s j x n u v = (omega arith, omega arith)

  pub filled-sited : (a : ℕ) (d : Due) (n m : ℕ) → Pends d K (a + n) ws → Sited K m ws → Sited K m (filled K a (stage d n) ws)
  unfolding filled touch settled finish fill_from trial_from
  filled-sited a due.Nothing n m w s = s
  filled-sited a (due.Put y) n m w s = s
  filled-sited a (due.Fill j) n m w s =
      let v : Node = (settled K (fill j) (a + n) ws).node in
      let c = sunk (settled K (fill j) (a + n) ws).side (node_in K ws (a + n)) in
      written-sited (a + n) m (settled K (fill j) (a + n) ws).node (settled-length K (fill j) (a + n) ws) w.lies.0.words c.0 c.1 s
  filled-sited a (due.Swap j x) n m w s =
      let p : Element = low_at K ws (child (a + n) lhs) in
      let q : Element = low_at K ws (child (a + n) rhs) in
      let sd : Side = lower_side (node_in K ws (a + n)) p q in
      let c = kept (ltb (key (pick sd p q)) (key x)) sd j x (node_in K ws (a + n)) p q in
      written-sited (a + n) m (settled K (trial j x) (a + n) ws).node (settled-length K (trial j x) (a + n) ws) w.lies.0.words c.0 c.1 s
