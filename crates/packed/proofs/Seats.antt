-- Slots of one heap stand in the order of their positions, and where a sink gets to lies in the slice.
use Rattle.laws.specs.Prelude.{Element, List, ◌*◌, ◌+◌, ◌-◌, ◌<◌, ◌≡◌, ◌≤◌, ap, arith, mul-le-mul_right, suc, zero, ℕ}
use native.Mathlib.Nat.{le-mul_of_pos_right, mul-le-mul_left}
use Rattle.packed_model.proofs.Places.{above, below, Order, order, same}
use Rattle.packed_model.proofs.Slice.{size_is}
use Rattle.packed_model.proofs.Tests.{size-pos}
use Rattle.packed_model.specs.Node.{lhs, rhs, size}
use Rattle.packed_model.specs.Words.{Lies}
use Rattle.packed_way.specs.Sink.{Gets, HeldTo, on, Seat, top}

module _ (H h : ℕ) (pos : 0 < H) where
  -- a seat of an earlier level
  before : (i m j p : ℕ) (s : Seat H h i m) (t : Seat H h j p) → size s.e + size s.e ≤ size t.e → (i < j) × (m < p)
  before i m j p s t o =
      let a : h * (size s.e + size s.e) ≤ h * size t.e = mul-le-mul_left h o in
      let b : H * (size s.e + size s.e) ≤ H * size t.e = mul-le-mul_left H o in
      let c : 1 * size s.e ≤ H * size s.e = mul-le-mul_right (size s.e) pos in
      (omega (arith, s.place, t.place, s.within, o), omega (arith, s.slot, t.slot, s.within, a, b, c, size-pos s.e))

  pub seats : (i m j p : ℕ) → Seat H h i m → Seat H h j p → (i ≤ j → m ≤ p) × (m ≤ p → i ≤ j)
  seats i m j p s t = go (order s.e t.e)
    where
      go : Order s.e t.e → (i ≤ j → m ≤ p) × (m ≤ p → i ≤ j)
      go (below o) = let g = before i m j p s t o in ((λ l. omega (arith, g.1)), (λ l. omega (arith, g.0)))
      go (same o) =
          let a : h * size s.e ≡ h * size t.e = ap (λ (z : ℕ). h * z) o in
          let b : H * size s.e ≡ H * size t.e = ap (λ (z : ℕ). H * z) o in
          ((λ l. omega (arith, l, s.place, t.place, s.slot, t.slot, a, b, o)), (λ l. omega (arith, l, s.place, t.place, s.slot, t.slot, a, b, o)))
      go (above o) = let g = before j p i m t s o in ((λ l. omega (arith, g.0, l)), (λ l. omega (arith, g.1, l)))

pub held_to : (H h n last : ℕ) → 0 < H → Seat H h n last → HeldTo H h n last
held_to H h n last pos t i m s = seats H h pos i m n last s t

-- the last entry taken away: up to the slot before it
pub held-before : (H h n last : ℕ) → 0 < H → 0 < n → 0 < last → Seat H h n last → HeldTo H h (n - 1) (last - 1)
held-before H h n last pos some more t i m s =
    let f = seats H h pos i m n last s t in
    let g = seats H h pos n last i m t s in
    ((λ l. under (λ z. omega (arith, l, g.1 z, some))), (λ l. under' (λ z. omega (arith, l, g.0 z, more))))
  where
    under : (last ≤ m → ⊥) → m ≤ last - 1
    under z = omega arith

    under' : (n ≤ i → ⊥) → i ≤ n - 1
    under' z = omega arith

-- below the first level no slot is a top
double : (H e : ℕ) → 0 < H → H < H * size (suc e)
unfolding size
double H e pos =
    let a : H ≤ H * size e = le-mul_of_pos_right H (size-pos e) in
    let b : H * (size e + size e) ≡ H * size e + H * size e = omega arith in
    omega (arith, a, b, pos)

pub not_top : (H h n last : ℕ) → 0 < H → 1 < n → Seat H h n last → 0 < last
not_top H h n last pos l t = go t.e t.j t.place t.within t.slot
  where
    first : size 0 ≡ 1
    first = size_is 0

    go : (e j : ℕ) → n ≡ size e + j → j < size e → last + H ≡ h * size e + H * size e + j → 0 < last
    go zero j p w s = absurd (omega (arith, p, w, l, first))
    go (suc e) j p w s = omega (arith, s, double H e pos)

pub gets-lies : (H left : ℕ) (x : Element) (h : ℕ) (us : List ℕ) (len k m : ℕ) → Gets H left x h us k m → Lies H (suc left) h len → Lies H (suc k) m len
gets-lies H left x h us len k m top l = l
gets-lies H left x h us len k m (on j q lhs g s) l = (gets-lies H left x h us len (suc k) q g l).1
gets-lies H left x h us len k m (on j q rhs g s) l = (gets-lies H left x h us len (suc k) q g l).2
