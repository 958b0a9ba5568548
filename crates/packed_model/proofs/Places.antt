-- "positions 1 to held are occupied and no others", in the words.
use Rattle.laws.specs.Prelude.{Bool, Element, List, ◌+◌, ◌-◌, ◌<◌, ◌∙◌, ◌≡◌, ◌≤◌, ap, arith, blank, cond, false, leb, leb-false, leb-true, length, not-suc-le-zero, refl, subst, suc, sym, true, zero, ℕ}
use Rattle.packed_model.specs.Node.{size, Side, lhs, rhs, pick, side_if, turn_of, rest_of}
use Rattle.packed_model.specs.Heap.{Heap, at, Has, Sound}
use Rattle.packed_model.specs.Words.{word, slot_in, slot_at, heap_in}
use Rattle.packed_model.specs.Causes.{Shape}
use Rattle.packed_model.specs.Promise.{after, Packed}
use Rattle.promise.specs.Forest.{At}
use Rattle.packed_model.proofs.Tests.{size-pos}
use Rattle.packed_model.proofs.Numbers.{size-grow}
use Rattle.packed_model.proofs.Words.{words-at}
use Rattle.packed_model.proofs.Promises.{packed}

-- of two powers
pub data Order (a b : ℕ) : Type 0 where
  below : size a + size a ≤ size b → Order a b
  same : size a ≡ size b → Order a b
  above : size b + size b ≤ size a → Order a b

pub order : (a b : ℕ) → Order a b
order a b = go (leb (suc a) b) refl (leb (suc b) a) refl
  where
    go : (p : Bool) → leb (suc a) b ≡ p → (q : Bool) → leb (suc b) a ≡ q → Order a b
    go true p q w = below (size-grow a b (leb-true (suc a) b p))
    go false p true w = above (size-grow b a (leb-true (suc b) a w))
    go false p false w = same (ap size (omega (arith, leb-false (suc a) b p, leb-false (suc b) a w)))

-- position 2^e + j of a heap with d full levels and r slots more
abbrev Filled : (k e j d r : ℕ) → Heap k → Type 0
Filled k e j d r h = (size e + j < size d + r → Has (at k e j h)) × (size d + r ≤ size e + j → at k e j h ≡ blank)

at-empty : (k e j : ℕ) (h : Heap k) → Sound k 0 0 h → at k e j h ≡ blank
unfolding at
at-empty zero e j h s = refl
at-empty (suc k) zero j h s = s.0
at-empty (suc k) (suc e) j h s = go (turn_of e j) (at-empty k e (rest_of e j) h.1 s.1) (at-empty k e (rest_of e j) h.2 s.2)
  where
    go : (t : Side) → at k e (rest_of e j) h.1 ≡ blank → at k e (rest_of e j) h.2 ≡ blank → at k e (rest_of e j) (pick t h.1 h.2) ≡ blank
    go lhs a b = a
    go rhs a b = b

-- one level down
module _ (k e j d r : ℕ) (l q : Heap k) (je : j < size e + size e) (rd : r ≤ size d + size d) (fl : (i : ℕ) → i < size e → Filled k e i d (r - (r - size d)) l)
    (fr : (i : ℕ) → i < size e → Filled k e i d (r - size d) q) where
  abbrev Goal : Element → Type 0
  Goal x = (size e + size e + j < size d + size d + r → Has x) × (size d + size d + r ≤ size e + size e + j → x ≡ blank)

  turn-left : j < size e → Goal (at k e j l)
  turn-left c = go (order e d)
    where
      go : Order e d → Goal (at k e j l)
      go (below o) = ((λ z. (fl j c).0 (omega (arith, o, c, size-pos d))), (λ z. absurd (omega (arith, o, c, z, size-pos e))))
      go (same o) = ((λ z. (fl j c).0 (omega (arith, o, c, z))), (λ z. (fl j c).1 (omega (arith, o, c, z))))
      go (above o) = ((λ z. absurd (omega (arith, o, z, rd))), (λ z. (fl j c).1 (omega (arith, o))))

  turn-right : size e ≤ j → Goal (at k e (j - size e) q)
  turn-right c = go (order e d)
    where
      i : j - size e < size e
      i = omega (arith, je, c)

      go : Order e d → Goal (at k e (j - size e) q)
      go (below o) = ((λ z. (fr (j - size e) i).0 (omega (arith, o, c, je))), (λ z. absurd (omega (arith, o, je, z, size-pos e))))
      go (same o) = ((λ z. (fr (j - size e) i).0 (omega (arith, o, c, z))), (λ z. (fr (j - size e) i).1 (omega (arith, o, c, z))))
      go (above o) = ((λ z. absurd (omega (arith, o, z, rd))), (λ z. (fr (j - size e) i).1 (omega (arith, o, rd))))

  turn-both : (b : Bool) → leb (size e) j ≡ b → Goal (at k e (cond b (j - size e) j) (pick (side_if b) l q))
  turn-both true t = turn-right (leb-true (size e) j t)
  turn-both false t = turn-left (leb-false (size e) j t)

pub filled : (k e j d r : ℕ) (h : Heap k) → r ≤ size d → Sound k d r h → e < k → j < size e → Filled k e j d r h
unfolding at size turn_of rest_of
filled zero e j d r h m s l i = absurd (not-suc-le-zero l)
filled (suc k) zero j zero zero h m s l i = ((λ z. absurd (omega (arith, z))), (λ z. s.0))
filled (suc k) zero j zero (suc r) h m s l i = ((λ z. s.1), (λ z. absurd (omega (arith, z, i))))
filled (suc k) zero j (suc d) r h m s l i = ((λ z. s.0), (λ z. absurd (omega (arith, z, i, size-pos d))))
filled (suc k) (suc e) j zero zero h m s l i = ((λ z. absurd (omega (arith, z, size-pos e))), (λ z. at-empty (suc k) (suc e) j h s))
filled (suc k) (suc e) j zero (suc r) h m s l i =
    ((λ z. absurd (omega (arith, z, s.0, size-pos e))), (λ z. at-empty (suc k) (suc e) j (blank, h.1, h.2) (refl, s.2, s.3)))
filled (suc k) (suc e) j (suc d) r h m s l i =
    turn-both k e j d r h.1 h.2 i m (λ a b. filled k e a d (r - (r - size d)) h.1 (omega (arith, size-pos d)) s.2 (omega arith) b)
    (λ a b. filled k e a d (r - size d) h.2 (omega arith) s.3 (omega arith) b) (leb (size e) j) refl

-- PACKED, in the rules' words: after any calls, the slot of position 2^e + j of heap h has an element exactly if that position is not above held; else it is
-- three zeros
pub places : (H : ℕ) (ws : List ℕ) (cs : List At) (levels : ℕ) → Shape H levels (length ws) → (h : ℕ) → h < H → (e j : ℕ) → e < levels → j < size e
    → let vs = after H levels cs ws in
    (size e + j ≤ word vs h → Has (slot_in H vs (slot_at H h e j))) × (word vs h < size e + j → slot_in H vs (slot_at H h e j) ≡ blank)
places H ws cs levels sh h l e j le lj =
    let vs : List ℕ = after H levels cs ws in
    let p : Packed H levels vs h = packed H ws cs levels sh h l in
    let g : Filled levels e j p.d p.r (heap_in H levels vs h) = filled levels e j p.d p.r (heap_in H levels vs h) p.fits p.sound le lj in
    let w : slot_in H vs (slot_at H h e j) ≡ at levels e j (heap_in H levels vs h) = words-at H levels h e j vs le in
    ((λ z. subst Has (sym w) (g.0 (omega (arith, z, p.held)))), (λ z. w ∙ g.1 (omega (arith, z, p.held))))
