-- The numbers of a level, and what a step at one of its nodes needs.
use Rattle.laws.specs.Prelude.{List, ◌*◌, ◌+◌, ◌-◌, ◌<◌, ◌≡◌, ◌≤◌, ap, arith, length, mul-le-mul_right, not-suc-le-zero, refl, subst, suc, suc-mul, zero, ℕ}
use native.Mathlib.Nat.{add-mul, mul-le-mul_left}
use Rattle.tree_node.specs.Room.{ChildrenIn, Lies, StepIn}
use Rattle.tree_model.proofs.Laws.{size_room}
use Rattle.tree_model.specs.Prelude.{room, size, slot_limit, slot_words}

pub not-zero : {n : ℕ} → 1 ≤ n → n ≡ 0 → ⊥
not-zero h e = omega arith

-- levels left that are not 0 are one more than the levels below
at_level : (P : ℕ → ℕ → Type 0) → ((k : ℕ) → P (suc k) k) → (left : ℕ) → (left ≡ 0 → ⊥) → P left (left - 1)
at_level P f zero ne = absurd (ne refl)
at_level P f (suc k) ne = let e : k ≡ suc k - 1 = omega arith in subst (λ (j : ℕ). P (suc k) j) e (f k)

pub size_step : (m k c : ℕ) → size m (suc k) c ≡ c * m + size m k (c * m)
unfolding size
size_step m k c = refl

size-room-one : (m k c : ℕ) → 0 < c → room m k ≤ size m k c
size-room-one m k c h = omega (arith, size_room m k c, mul-le-mul_right (room m k) h)

-- the numbers of a level: all that its code adds and multiplies
pub record Level (m b c n len : ℕ) : Type 0 where
  pub slots : b + c * m ≤ slot_limit
  pub words : slot_words * (b + c * m) ≤ len
  pub own : n * m + m ≤ c * m
  pub child : n * m * m + m * m ≤ c * m * m
  pub wide : c * m * m ≤ slot_limit * 8

pub level-of : (m left b c n : ℕ) (ws : List ℕ) → Lies m left b c n ws → (left ≡ 0 → ⊥) → Level m b c n (length ws)
level-of m left b c n ws lies ne = at_level (λ left k. Lies m left b c n ws → Level m b c n (length ws)) go left ne lies
  where
    go : (k : ℕ) → Lies m (suc k) b c n ws → Level m b c n (length ws)
    go k l =
        let s : size m (suc k) c ≡ c * m + size m k (c * m) = size_step m k c in
        let o : suc n * m ≤ c * m = mul-le-mul_right m l.node in
        let i : suc n * m * m ≤ c * m * m = mul-le-mul_right m o in
        record {
          slots = omega (arith, l.small);
          words = omega (arith, l.words);
          own = omega (arith, suc-mul n m);
          child = omega (arith, ap (λ (a : ℕ). a * m) (suc-mul n m), add-mul (n * m) m m);
          wide = omega (arith, mul-le-mul_left (c * m) l.few, l.small);
        }

module _ (m b c n : ℕ) (ws : List ℕ) where
  -- the step's node and its children lie within the words
  pub step_in : (left : ℕ) → Lies m left b c n ws → (left ≡ 0 → ⊥) → StepIn m (b + n * m) (b + c * m + n * m * m) (left - 1) ws
  step_in left lies ne = at_level (λ left k. Lies m left b c n ws → StepIn m (b + n * m) (b + c * m + n * m * m) k ws) go left ne lies
    where
      go : (k : ℕ) → Lies m (suc k) b c n ws → StepIn m (b + n * m) (b + c * m + n * m * m) k ws
      go k l =
          let v = level-of m (suc k) b c n ws l (λ e. omega arith) in
          record {
            node = record { order = l.order; words = omega (arith, v.own, v.words) };
            few = l.few;
            limit = omega (arith, size-room-one m k (c * m) (omega (arith, v.own, l.order)), size_step m k c, l.small);
            children = λ h. below_in k l v h;
          }
        where
          below_in : (k : ℕ) → Lies m (suc k) b c n ws → Level m b c n (length ws) → 1 ≤ k → ChildrenIn m (b + c * m + n * m * m) ws
          below_in zero l v h = absurd (not-suc-le-zero h)
          below_in (suc k) l v h = omega (arith, size_step m (suc k) c, size_step m k (c * m), l.words, v.child)
