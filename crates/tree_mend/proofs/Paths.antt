-- The path of one push by arithmetic, node by node; and a slot's part in the mending.
use Rattle.laws.specs.Prelude.{Bool, Element, List, ◌%◌, ◌*◌, ◌+◌, ◌-◌, ◌/◌, ◌<◌, ◌∙◌, ◌≡◌, ◌≤◌, add-one, ap, ap₂, arith, cond, false, keep, le-ltb, length, lt-ltb, ltb, ltb-false, pass, refl, subst, suc, sym, true, zero, ℕ}
use native.Mathlib.Nat.{div-le_self, mod-eq-sub-div-mul, mod-lt, mul-le-mul}
use Rattle.tree_model.proofs.Laws.{write-length}
use Rattle.tree_model.specs.Prelude.{room, slot_limit, slot_of, slot_words, write}
use Rattle.tree_model.specs.declared.Slot.{Slot}
use Rattle.tree_mend_model.proofs.Laws.{room-grows}
use Rattle.tree_mend.proofs.Descent.{node-lies, slot-inside, slot-lies}
use Rattle.tree_mend.proofs.Settles.{below-deep, one-deep}
use Rattle.tree_mend.specs.Lie.{NodeLies}
use Rattle.tree_mend.specs.Settle.{settled, Settles, slot}

-- how many levels there are does not matter where there is room
settled-any : (m k k' q n : ℕ) (x : Element) (ws : List ℕ) → 0 < m → n < room m (suc k) → n < room m (suc k') → settled m k q n x ws ≡ settled m k' q n x ws
unfolding settled
settled-any m zero zero q n x ws some h h' = refl
settled-any m zero (suc k') q n x ws some h h' = rw (lt-ltb n m (one-deep m n h)) refl
settled-any m (suc k) zero q n x ws some h h' = rw (lt-ltb n m (one-deep m n h')) refl
settled-any m (suc k) (suc k') q n x ws some h h' = go (ltb n m) refl (λ p y vs d d'. settled-any m k k' p (n / m - 1) y vs some d d')
  where
    go : (b : Bool) → ltb n m ≡ b
        → ((p : ℕ) (y : Element) (vs : List ℕ) → n / m - 1 < room m (suc k) → n / m - 1 < room m (suc k') → settled m k p (n / m - 1) y vs ≡ settled m k' p (n / m - 1) y vs)
        → let p = q * m + n % m in let y = (slot_of ws p).element in
        cond b (write ws (q * m + n) (slot x 1)) (settled m k (suc p) (n / m - 1) (pass x y) (write ws p (slot (keep x y) (n / m + 1))))
        ≡ cond b (write ws (q * m + n) (slot x 1)) (settled m k' (suc p) (n / m - 1) (pass x y) (write ws p (slot (keep x y) (n / m + 1))))
    go true e ih = refl
    go false e ih = ih _ _ _ (below-deep m (suc k) n some h (ltb-false n m e)) (below-deep m (suc k') n some h' (ltb-false n m e))

-- on its path: push n at the node whose first slot is `first` makes the whole, push n₀ at the root of the words ws₀
pub record Settling (m n₀ : ℕ) (x₀ : Element) (ws₀ ws : List ℕ) (n first : ℕ) (x : Element) : Type 0 where
  pub left : ℕ
  pub node : ℕ
  pub starts : first ≡ node * m
  pub lies : NodeLies m (suc left) node ws
  pub deep : n < room m (suc left)
  pub limit : n ≤ slot_limit
  pub same : length ws ≡ length ws₀
  pub whole : (k : ℕ) → n₀ < room m (suc k) → settled m left node n x ws ≡ settled m k 0 n₀ x₀ ws₀

-- its bounds: of its place p, and of the node below
pub record Bounds (m first n p : ℕ) (ws : List ℕ) : Type 0 where
  pub few : m ≤ 8
  pub inside : p + 1 ≤ slot_limit
  pub words : slot_words * p + slot_words ≤ length ws
  pub below : (p + 1) * m ≤ slot_limit * 8

module _ (m n₀ : ℕ) (x₀ : Element) (ws₀ ws : List ℕ) (n first : ℕ) (x : Element) (g : Settling m n₀ x₀ ws₀ ws n first x) where
  pub settle-bounds : (j : ℕ) → j < m → Bounds m first n (first + j) ws
  settle-bounds j h =
      let i = slot-inside m (suc g.left - 1) (first + j) ws (slot-lies m (suc g.left) g.node (first + j) ws g.lies (λ e. omega arith) (omega (arith, g.starts))) in
      record {
        few = g.lies.few;
        inside = i.0;
        words = omega (arith, i.1);
        below = mul-le-mul i.0 g.lies.few;
      }

  -- it ends in an empty place
  pub settle-ends : n < m → (vs : List ℕ) → vs ≡ write ws (first + n) (slot x 1) → (k : ℕ) → n₀ < room m (suc k) → vs ≡ settled m k 0 n₀ x₀ ws₀
  unfolding settled
  settle-ends h vs e k d = e ∙ ap (λ (f : ℕ). write ws (f + n) (slot x 1)) g.starts ∙ sym (last g.left) ∙ g.whole k d
    where
      last : (l : ℕ) → settled m l g.node n x ws ≡ write ws (g.node * m + n) (slot x 1)
      last zero = refl
      last (suc l) = rw (lt-ltb n m h) refl

  -- or goes on below, one exchanged for the other
  pub settle_goes : m ≤ n → (next p : ℕ) → next ≡ n / m → p ≡ first + (n - next * m) → (a kept : Slot) → a ≡ slot_of ws p → kept ≡ slot (keep x a.element) (next + 1)
      → (y : Element) → y ≡ pass x a.element → (vs : List ℕ) → vs ≡ write ws p kept → Settling m n₀ x₀ ws₀ vs (next - 1) ((p + 1) * m) y
  unfolding settled
  settle_goes h next p e f a kept read w y d vs v = go g.left g.lies g.deep g.whole
    where
      some : 0 < m
      some = g.lies.order

      j : n % m < m
      j = mod-lt n some

      place : p ≡ g.node * m + n % m
      place = f ∙ ap₂ (λ (i r : ℕ). i + r) g.starts (ap (λ (q : ℕ). n - q * m) e ∙ sym (mod-eq-sub-div-mul n m))

      slot_is : a ≡ slot_of ws (g.node * m + n % m)
      slot_is = read ∙ ap (slot_of ws) place

      words_are : vs ≡ write ws (g.node * m + n % m) (slot (keep x (slot_of ws (g.node * m + n % m)).element) (n / m + 1))
      words_are =
          v ∙ ap₂ (λ (i : ℕ) (s : Slot). write ws i s) place
          (w ∙ ap₂ (λ (s : Slot) (q : ℕ). slot (keep x s.element) (q + 1)) slot_is e)

      passed : y ≡ pass x (slot_of ws (g.node * m + n % m)).element
      passed = d ∙ ap (λ (s : Slot). pass x s.element) slot_is

      same_length : length vs ≡ length ws
      same_length = ap length v ∙ write-length ws p kept

      go : (l : ℕ) → NodeLies m (suc l) g.node ws → n < room m (suc l) → ((k : ℕ) → n₀ < room m (suc k) → settled m l g.node n x ws ≡ settled m k 0 n₀ x₀ ws₀)
          → Settling m n₀ x₀ ws₀ vs (next - 1) ((p + 1) * m) y
      go zero lies deep whole = absurd (omega (arith, one-deep m n deep))
      go (suc l) lies deep whole =
          let z : suc (suc l) - 1 ≡ suc l = omega arith in
          let under = node-lies m (suc (suc l) - 1) p ws (slot-lies m (suc (suc l)) g.node p ws lies (λ e. omega arith) (omega (arith, place, j))) in
          record {
            left = l;
            node = p + 1;
            starts = refl;
            lies = moved (subst (λ (k : ℕ). NodeLies m k (p + 1) ws) z under);
            deep = subst (λ (q : ℕ). q - 1 < room m (suc l)) (sym e) (below-deep m (suc l) n some deep h);
            limit = omega (arith, e, div-le_self n m, g.limit);
            same = same_length ∙ g.same;
            whole = λ k d. deeper l k d whole;
          }
        where
          moved : NodeLies m (suc l) (p + 1) ws → NodeLies m (suc l) (p + 1) vs
          moved u = record { order = u.order; few = u.few; depth = u.depth; node = u.node; limit = u.limit; words = subst (λ (i : ℕ). slot_words * room m (u.depth + suc l) ≤ i) (sym same_length) u.words }

          deeper : (l k : ℕ) → n₀ < room m (suc k) → ((k : ℕ) → n₀ < room m (suc k) → settled m (suc l) g.node n x ws ≡ settled m k 0 n₀ x₀ ws₀)
              → settled m l (p + 1) (next - 1) y vs ≡ settled m k 0 n₀ x₀ ws₀
          deeper l k d whole =
              ap (λ (i : ℕ). settled m l i (next - 1) y vs) (add-one p ∙ ap suc place)
              ∙ ap₂ (λ (q : ℕ) (z : Element). settled m l (suc (g.node * m + n % m)) (q - 1) z vs) e passed
              ∙ ap (settled m l (suc (g.node * m + n % m)) (n / m - 1) (pass x (slot_of ws (g.node * m + n % m)).element)) words_are
              ∙ sym (rw (le-ltb n m h) refl) ∙ whole k d

-- where it begins: at the root
pub settle-begins : (m shift n : ℕ) (x : Element) (ws : List ℕ) → Settles m shift n ws → Settling m n x ws ws n 0 x
settle-begins m shift n x ws s =
    let l = s.lies in
    let e : suc s.below + l.depth ≡ l.depth + suc s.below = omega arith in
    let r : room m (suc s.below) ≤ room m (l.depth + suc s.below) = subst (λ (k : ℕ). room m (suc s.below) ≤ room m k) e (room-grows m (suc s.below) l.depth l.order) in
    record {
      left = s.below;
      node = 0;
      starts = omega arith;
      lies = l;
      deep = s.deep;
      limit = omega (arith, s.deep, r, l.limit);
      same = refl;
      whole = λ k d. settled-any m s.below k 0 n x ws l.order s.deep d;
    }
