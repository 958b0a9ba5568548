-- A node that waits: the lower child that the code finds is the definitions', and so are the words and the work that are left.
use Rattle.laws.specs.Prelude.{Bool, Element, List, ◌&&◌, ◌*◌, ◌+◌, ◌<◌, ◌||◌, ◌∙◌, ◌≡◌, add-one, ap, ap₂, arith, cond, eqb, eqb-false, false, key, ltb, not, not-false, not-suc-le-zero, not-true, refl, subst, sym, true, ℕ}
use Rattle.promise.specs.Prelude.{always}
use Rattle.cluster.proofs.Commute.{low-elem, low-place}
use Rattle.cluster.proofs.Taken.{one_place, sunk-place}
use Rattle.cluster_model.proofs.Laws.{no_words}
use Rattle.cluster_model.specs.Prelude.{Side, child, fill, fill_from, finish, has, inside, lhs, low, lower_side, node_in, node_of, none, pick, rhs, side_if, sink, store, swap, take, touch, trial, trial_by, trial_from, width, word, write_node, write_place}
use Rattle.cluster_node.specs.Leaf.{bare_at, begun, choice_by, choice_of, elem_at, look_node, peek_at, peek_here, peek_of, place_in, right_lower, sink_words, Under}
use Rattle.cluster_node.specs.declared.Chosen.{Chosen}
use Rattle.cluster_node.specs.declared.Found.{Found}
use Rattle.cluster_clock_model.specs.Prelude.{below, child_of, filled, handed, low_at, settled, work}
use Rattle.cluster_clock_model.specs.declared.Due.{Due}
use Rattle.cluster_clock_model.specs.declared.Due.TheVariants as due
use Rattle.cluster_clock_model.specs.declared.Stage.{Stage}
use Rattle.cluster_clock_level.specs.Stage.{Gives, Lowest, op_of, Settles, Three, Waits, work_of}
use Rattle.cluster_clock_level.specs.declared.Job.TheVariants as job
use Rattle.cluster_clock_level.specs.declared.Task.{Task}

-- ---- the lower child of node m, and the place that gives there
record Lower (K : ℕ) (ws : List ℕ) (m : ℕ) (c : Chosen) : Type 0 where
  side : side_if c.right ≡ lower_side (node_in K ws m) (low_at K ws (child m lhs)) (low_at K ws (child m rhs))
  up : c.up ≡ pick (side_if c.right) (low_at K ws (child m lhs)) (low_at K ws (child m rhs))
  held : 0 < inside always (node_in K ws (child m (side_if c.right))).places
  place : c.place ≡ low (node_in K ws (child m (side_if c.right))).places

-- a child of a count x that is not 0, and that holds something
record Met (K limit : ℕ) (ws : List ℕ) (d x : ℕ) : Type 0 where
  held : 0 < inside always (node_in K ws d).places
  place : (peek_of K limit ws d x).place ≡ low (node_in K ws d).places
  elem : elem_at ws (place_in K d (peek_of K limit ws d x).place) ≡ low_at K ws d

met : (K limit : ℕ) (ws : List ℕ) (d x : ℕ) → eqb x 0 ≡ false → 0 < inside always (node_in K ws d).places → Met K limit ws d x
unfolding peek_at peek_here look_node
met K limit ws d x z h =
    let p : (peek_of K limit ws d x).place ≡ low (node_in K ws d).places = rw z (low-place K ws d h) in
    record { held = h; place = p; elem = ap (λ (j : ℕ). elem_at ws (place_in K d j)) p ∙ low-elem K ws d h }

module _ (K limit : ℕ) (ws : List ℕ) (m : ℕ) where
  abbrev l : ℕ
  l = word ws (m * width K)

  abbrev r : ℕ
  r = word ws (m * width K + 1)

  abbrev a : Element
  a = low_at K ws (child m lhs)

  abbrev b : Element
  b = low_at K ws (child m rhs)

  abbrev goes-right : Bool
  goes-right = not (eqb r 0) && (eqb l 0 || ltb (key b) (key a))

  by_left : (p q : Found) (ea eb : Element) (t : Bool) → t ≡ goes-right → t ≡ false → 0 < inside always (node_in K ws (m + m + 1)).places
      → p.place ≡ low (node_in K ws (m + m + 1)).places → ea ≡ a
      → Lower K ws m (record { ok = p.ok && q.ok; right = t; child = cond t (m + m + 2) (m + m + 1); place = cond t q.place p.place; up = cond t eb ea })
  unfolding lower_side node_of
  by_left p q ea eb true e z h j u = absurd (not-suc-le-zero {n = 0} (let y : ◌≡◌ {A = ℕ} 0 1 = cc in omega arith))
  by_left p q ea eb false e z h j u = record { side = ap side_if e; up = u; held = h; place = j }

  by_right : (p q : Found) (ea eb : Element) (t : Bool) → t ≡ goes-right → t ≡ true → 0 < inside always (node_in K ws (m + m + 2)).places
      → q.place ≡ low (node_in K ws (m + m + 2)).places → eb ≡ b
      → Lower K ws m (record { ok = p.ok && q.ok; right = t; child = cond t (m + m + 2) (m + m + 1); place = cond t q.place p.place; up = cond t eb ea })
  unfolding lower_side node_of
  by_right p q ea eb false e z h j u = absurd (not-suc-le-zero {n = 0} (let y : ◌≡◌ {A = ℕ} 0 1 = cc in omega arith))
  by_right p q ea eb true e z h j u = record { side = ap side_if e; up = u; held = h; place = j }

  abbrev p₀ : Found
  p₀ = peek_of K limit ws (m + m + 1) l

  abbrev q₀ : Found
  q₀ = peek_of K limit ws (m + m + 2) r

  abbrev ea₀ : Element
  ea₀ = elem_at ws (place_in K (m + m + 1) (peek_of K limit ws (m + m + 1) l).place)

  abbrev eb₀ : Element
  eb₀ = elem_at ws (place_in K (m + m + 2) (peek_of K limit ws (m + m + 2) r).place)

  lower-is : bare_at ws (m * width K) ≡ false → ((l ≡ 0 → ⊥) → 0 < inside always (node_in K ws (child m lhs)).places) → ((r ≡ 0 → ⊥) → 0 < inside always (node_in K ws (child m rhs)).places)
      → Lower K ws m (choice_of K limit ws m)
  unfolding choice_of choice_by right_lower bare_at
  lower-is more hl hr = go (eqb l 0) refl (eqb r 0) refl more
    where
      L : eqb l 0 ≡ false → Met K limit ws (m + m + 1) l
      L x = met K limit ws (m + m + 1) l x (hl (eqb-false l 0 x))

      R : eqb r 0 ≡ false → Met K limit ws (m + m + 2) r
      R y = met K limit ws (m + m + 2) r y (hr (eqb-false r 0 y))

      either : Met K limit ws (m + m + 1) l → Met K limit ws (m + m + 2) r → (t : Bool) → (choice_of K limit ws m).right ≡ t → Lower K ws m (choice_of K limit ws m)
      either u v true t = by_right p₀ q₀ ea₀ eb₀ (choice_of K limit ws m).right (rw (u.elem, v.elem) refl) t v.held v.place v.elem
      either u v false t = by_left p₀ q₀ ea₀ eb₀ (choice_of K limit ws m).right (rw (u.elem, v.elem) refl) t u.held u.place u.elem

      go : (x : Bool) → eqb l 0 ≡ x → (y : Bool) → eqb r 0 ≡ y → (eqb l 0 && eqb r 0) ≡ false → Lower K ws m (choice_of K limit ws m)
      go true x true y z = absurd (not-suc-le-zero {n = 0} (let w : ◌≡◌ {A = ℕ} 0 1 = cc in omega arith))
      go true x false y z = by_right p₀ q₀ ea₀ eb₀ (choice_of K limit ws m).right (rw (x, y) refl) (rw (x, y) refl) (R y).held (R y).place (R y).elem
      go false x true y z = by_left p₀ q₀ ea₀ eb₀ (choice_of K limit ws m).right (rw (x, y) refl) (rw (x, y) refl) (L x).held (L x).place (L x).elem
      go false x false y z = either (L x) (R y) (choice_of K limit ws m).right refl

-- ---- the numbers of a node's children
pub under-is : (n node : ℕ) (b : Bool) → node ≡ cond b (n + n + 1) (n + n) → node ≡ child_of n (side_if b)
under-is n node true e = e ∙ add-one (n + n)
under-is n node false e = e

child-is : (a n : ℕ) (s : Side) → child (a + n) s ≡ below a + child_of n s
child-is a n lhs = omega arith
child-is a n rhs = omega arith

-- ---- a node that waits is settled
module _ (K a n j : ℕ) (ws : List ℕ) (w : Waits K (a + n) j ws) (limit : ℕ) (c : Chosen) (chosen : c ≡ begun K (choice_of K limit ws (a + n))) (node : ℕ) (numbered : node ≡ cond c.right (n + n + 1) (n + n)) where
  abbrev m : ℕ
  m = a + n

  abbrev s : Side
  s = lower_side (node_in K ws (a + n)) (low_at K ws (child (a + n) lhs)) (low_at K ws (child (a + n) rhs))

  abbrev up : Element
  up = pick s (low_at K ws (child (a + n) lhs)) (low_at K ws (child (a + n) rhs))

  lower-here : Lower K ws (a + n) c
  lower-here =
      let l = lower-is K limit ws (a + n) w.more w.left w.right in
      subst (Lower K ws (a + n)) (sym chosen) (record { side = l.side; up = l.up; held = l.held; place = l.place })

  lifted : c.up ≡ up
  lifted = lower-here.up ∙ ap (λ (s : Side). pick s (low_at K ws (child (a + n) lhs)) (low_at K ws (child (a + n) rhs))) lower-here.side

  at-child : node ≡ child_of n s
  at-child = under-is n node c.right numbered ∙ ap (child_of n) lower-here.side

  lowest : Lowest K (below a + node) c.place ws
  lowest =
      let e : child (a + n) (side_if c.right) ≡ below a + node = child-is a n (side_if c.right) ∙ ap (λ (i : ℕ). below a + i) (sym (under-is n node c.right numbered)) in
      record {
        place = lower-here.place ∙ ap (λ (i : ℕ). low (node_in K ws i).places) e;
        held = subst (λ (i : ℕ). 0 < inside always (node_in K ws i).places) e lower-here.held;
      }

  -- the gap is filled
  pub fill-settles : (ws₁ ws₂ : List ℕ) → ws₁ ≡ sink_words c.right ws (m * width K) (word ws (m * width K)) (word ws (m * width K + 1)) → ws₂ ≡ write_place ws₁ (place_in K m j) (has c.up)
      → Settles K a n (fill j) ws ws₂ (record { job = job.Take; node = node; place = c.place })
  unfolding settled finish fill_from op_of
  fill-settles ws₁ ws₂ e f = record {
    words =
        f ∙ ap₂ (λ (u : List ℕ) (x : Element). write_place u (place_in K m j) (has x)) e lifted
        ∙ sym (sunk-place K ws m j (has up) c.right w.place w.neat)
        ∙ ap (λ (s : Side). write_node ws (m * width K) (store j (has up) (sink s (node_in K ws m)))) lower-here.side;
    task = ap (work take) at-child;
    gives = lowest;
  }

  -- the element on trial changes places, or stays
  module _ (x : Element) (t : Bool) (lifts : t ≡ ltb (key c.up) (key x)) where
    test : ltb (key up) (key x) ≡ t
    test = ap (λ (e : Element). ltb (key e) (key x)) (sym lifted) ∙ sym lifts

    pub lift-settles : not t ≡ false → (ws₁ : List ℕ) → ws₁ ≡ write_place ws (place_in K m j) (has c.up)
        → Settles K a n (trial j x) ws ws₁ (record { job = job.Swap x; node = node; place = c.place })
    unfolding settled finish trial_from trial_by op_of
    lift-settles y ws₁ e = record {
      words = rw (test ∙ not-false t y) (e ∙ ap (λ (x : Element). write_place ws (place_in K m j) (has x)) lifted ∙ sym (one_place K ws m j (has up) w.place w.neat));
      task = rw (test ∙ not-false t y) (ap (work (swap x)) at-child);
      gives = lowest;
    }

    pub stay-settles : not t ≡ true → Settles K a n (trial j x) ws ws (record { job = job.Rest; node = node; place = 0 })
    unfolding settled finish trial_from trial_by op_of
    stay-settles y = record {
      words = rw (test ∙ not-true t y) (sym (no_words K ws (m * width K) w.neat));
      task = rw (test ∙ not-true t y) (ap (work none) at-child);
      gives = tt;
    }

-- ---- a record, by what is due
module _ (K a : ℕ) (q : Stage) (ws : List ℕ) where
  -- the words after, the work handed down, and where it gives from
  abbrev pub Settled : Due → List ℕ → Task → Type 0
  Settled d ws₁ t = (ws₁ ≡ filled K a (record { due = d; node = q.node }) ws) × (work_of t ≡ handed K d q.node a ws) × Gives K (below a) t ws

  pub settle-none : q.due ≡ due.Nothing → Settled q.due ws (record { job = job.Rest; node = 0; place = 0 })
  unfolding filled handed touch op_of
  settle-none e = subst (λ (d : Due). Settled d ws (record { job = job.Rest; node = 0; place = 0 })) (sym e) (refl, refl, tt)

  pub settle-put : (y : Element) → q.due ≡ due.Put y → Settled q.due ws (record { job = job.Put y; node = q.node; place = 0 })
  unfolding filled handed touch op_of
  settle-put y e = subst (λ (d : Due). Settled d ws (record { job = job.Put y; node = q.node; place = 0 })) (sym e) (refl, refl, tt)

  pub settle-fill : (j : ℕ) → q.due ≡ due.Fill j → (ws₁ : List ℕ) (t : Task) → Settles K a q.node (fill j) ws ws₁ t → Settled q.due ws₁ t
  unfolding filled handed touch
  settle-fill j e ws₁ t s = subst (λ (d : Due). Settled d ws₁ t) (sym e) (s.words, s.task, s.gives)

  pub settle-swap : (j : ℕ) (x : Element) → q.due ≡ due.Swap j x → (ws₁ : List ℕ) (t : Task) → Settles K a q.node (trial j x) ws ws₁ t → Settled q.due ws₁ t
  unfolding filled handed touch
  settle-swap j x e ws₁ t s = subst (λ (d : Due). Settled d ws₁ t) (sym e) (s.words, s.task, s.gives)

-- what the choice between the children asks
pub under-here : (K m len : ℕ) → Three K m len → Under K (m * width K) len
under-here K m len t = record { some = t.0.some; few = t.0.few; words = omega (arith, t.2.words) }
