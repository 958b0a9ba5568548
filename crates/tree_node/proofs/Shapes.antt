-- What the code of a shape has counted makes the shape that the definitions say.
use Rattle.laws.specs.Prelude.{Bool, ◌&&◌, ◌*◌, ◌-◌, ◌<◌, ◌∙◌, ◌≡◌, ◌≤◌, and_left, and_right, ap, arith, cond, eq-eqb, eqb, false, le-leb, leb, mul-le-mul_right, ne_eqb, not, refl, sub-one, suc, sym, true, true≢false, zero, ℕ}
use Rattle.tree_node.proofs.Steps.{shape-above, shape-levels, shape-order, shape-slice}
use Rattle.tree_node.specs.Room.{Capacity, RoomUnder}
use Rattle.tree_node.specs.Shaping.{is_tree, Shaped}
use Rattle.tree_node.specs.declared.shape.Shape.{Shape}
use Rattle.tree_model.proofs.Laws.{is-shape, order-pos, shape_is}
use Rattle.tree_model.specs.Prelude.{order_ok, room, shape_ok, slot_limit, slot_words}

-- ---- no such tree
none : (m levels : ℕ) (s : Shape) → false ≡ is_tree m levels → (s.slots ≡ 0) × (s.below ≡ 0) × (s.room ≡ 0) → Shaped m levels s
unfolding room
none m levels s e z = record {
  slots = z.0 ∙ ap (λ (b : Bool). cond b (room m levels) 0) e;
  below = z.1 ∙ ap (λ (b : Bool). cond b (levels - 1) 0) e;
  fits = z.2 ∙ ap (room m) (sym z.1);
  most = omega (arith, z.0);
}

module _ (m levels : ℕ) (ok : Bool) (order : ok ≡ order_ok m) (s : Shape) where
  pub shaped-order : not ok ≡ true → (s.slots ≡ 0) × (s.below ≡ 0) × (s.room ≡ 0) → Shaped m levels s
  shaped-order e z = none m levels s (shape-order m levels (slot_words * slot_limit) ok order e) z

  pub shaped-none : levels ≡ 0 → (s.slots ≡ 0) × (s.below ≡ 0) × (s.room ≡ 0) → Shaped m levels s
  shaped-none e z = none m levels s (shape-levels m levels (slot_words * slot_limit) ok order e) z

  module _ (e : not ok ≡ false) (ne : levels ≡ 0 → ⊥) (r : ℕ) (held_count : Capacity m levels r) where
    pub shaped-above : slot_limit < r → (s.slots ≡ 0) × (s.below ≡ 0) × (s.room ≡ 0) → Shaped m levels s
    shaped-above h z = none m levels s (shape-above m levels (slot_words * slot_limit) ok order r e ne held_count h) z

    -- ---- a tree
    module _ (h : r ≤ slot_limit) where
      tree : is_tree m levels ≡ true
      tree = sym (shape-slice m levels (slot_words * slot_limit) ok order r e ne held_count h) ∙ le-leb (slot_words * r) (slot_words * slot_limit) (omega arith)

      slots-are : r ≡ room m levels
      slots-are = held_count.within (shape_is m levels (slot_words * slot_limit) tree).capacity

      pub shaped-tree : (u : ℕ) → RoomUnder m r u → s.slots ≡ r → s.below ≡ levels - 1 → s.room ≡ u → Shaped m levels s
      shaped-tree u f es eb er = record {
        slots = es ∙ slots-are ∙ ap (λ (b : Bool). cond b (room m levels) 0) (sym tree);
        below = eb ∙ ap (λ (b : Bool). cond b (levels - 1) 0) (sym tree);
        fits = er ∙ f levels slots-are ∙ ap (room m) (sym (eb ∙ sub-one levels));
        most = omega (arith, es);
      }

-- ---- the slice
-- a tree that a slice holds is one
pub held-tree : (m levels len : ℕ) → shape_ok m levels len ≡ true → is_tree m levels ≡ true
held-tree m levels len e =
    let sh = shape_is m levels len e in
    is-shape m levels (slot_words * slot_limit) (record { order = sh.order; some = sh.some; capacity = sh.capacity; slice = omega (arith, sh.capacity) })

room-some : (m levels : ℕ) → 0 < m → 1 ≤ levels → 1 ≤ room m levels
unfolding room
room-some m zero h l = absurd (omega arith)
room-some m (suc k) h l = omega (arith, mul-le-mul_right (suc (room m k)) h)

tree-slice : (m levels len : ℕ) → is_tree m levels ≡ true → leb (slot_words * room m levels) len ≡ shape_ok m levels len
unfolding shape_ok
tree-slice m levels len e =
    let first : order_ok m ≡ true = and_left (order_ok m) _ e in
    let rest = and_right (order_ok m) (leb 1 levels && (leb (room m levels) slot_limit && leb (slot_words * room m levels) (slot_words * slot_limit))) e in
    let last = and_right (leb 1 levels) (leb (room m levels) slot_limit && leb (slot_words * room m levels) (slot_words * slot_limit)) rest in
    rw (first, and_left (leb 1 levels) _ rest, and_left (leb (room m levels) slot_limit) _ last)

pub fits-is : (m levels len : ℕ) (s : Shape) → Shaped m levels s → (not (eqb s.slots 0) && leb (slot_words * s.slots) len) ≡ shape_ok m levels len
fits-is m levels len s sh = go (is_tree m levels) refl
  where
    no : is_tree m levels ≡ false → (d : Bool) → shape_ok m levels len ≡ d → false ≡ d
    no e true f = absurd (true≢false (sym (held-tree m levels len f) ∙ e))
    no e false f = refl

    go : (b : Bool) → is_tree m levels ≡ b → (not (eqb s.slots 0) && leb (slot_words * s.slots) len) ≡ shape_ok m levels len
    go true e =
        let tr = shape_is m levels (slot_words * slot_limit) e in
        let is : s.slots ≡ room m levels = sh.slots ∙ ap (λ (b : Bool). cond b (room m levels) 0) e in
        let more : s.slots ≡ 0 → ⊥ = λ z. omega (arith, room-some m levels (order-pos tr) tr.some) in
        rw (ne_eqb s.slots 0 more) (ap (λ (n : ℕ). leb (slot_words * n) len) is ∙ tree-slice m levels len e)
    go false e =
        let is : s.slots ≡ 0 = sh.slots ∙ ap (λ (b : Bool). cond b (room m levels) 0) e in
        rw (eq-eqb s.slots 0 is) (no e (shape_ok m levels len) refl)

-- ---- what a slice that holds the tree says of its shape
module _ (m levels len : ℕ) (s : Shape) (sh : Shaped m levels s) (e : shape_ok m levels len ≡ true) where
  pub shaped-below : s.below ≡ levels - 1
  shaped-below = sh.below ∙ ap (λ (b : Bool). cond b (levels - 1) 0) (held-tree m levels len e)

  pub shaped-levels : levels ≡ suc s.below
  shaped-levels = omega (arith, shaped-below, (shape_is m levels len e).some)

  pub shaped-slots : s.slots ≡ room m levels
  shaped-slots = sh.slots ∙ ap (λ (b : Bool). cond b (room m levels) 0) (held-tree m levels len e)
