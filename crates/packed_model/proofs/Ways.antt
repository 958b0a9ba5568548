-- In a packed heap nothing is found damaged: positions up to n are occupied, and no others.
use Rattle.laws.specs.Prelude.{Bool, Element, List, ◌*◌, ◌+◌, ◌-◌, ◌<◌, ◌≡◌, ◌≤◌, and-true, arith, blank, false, le-leb, leb, leb-false, leb-true, lt-leb, pass, refl, subst, suc, true, untagged, zero, ℕ}
use native.Mathlib.Nat.{le-mul_of_pos_right}
use Rattle.strip.proofs.Words.{blank-words}
use Rattle.packed_model.specs.Node.{size, Side, lhs, rhs, pick, turn_of, rest_of, lower_side, lifts, Op, none, put, sink, step, sink_by}
use Rattle.packed_model.specs.Heap.{Has, Sound}
use Rattle.packed_model.specs.Words.{word, spot, slot_in, child, Lies, top_in, heap_in, step_in, zero_slot, tagged, place_ok, own_ok, below, way_ok}
use Rattle.packed_model.proofs.Tests.{size-pos}
use Rattle.packed_model.proofs.Sink.{lifts-yes, no-empty}

-- ---- positions: with d full levels under position i, and r slots of the next one, position n is where the occupied ones end
abbrev Full : ℕ → ℕ → ℕ → Type 0
Full n i zero = Unit {0}
Full n i (suc e) = i * size e + size e ≤ n + 1

pub record Reach (n i d r : ℕ) : Type 0 where
  pub next : r < size d → n < i * size d + r
  pub last : 0 < r → i * size d + r ≤ n + 1
  pub full : Full n i d
  pub end : n < i * size d + i * size d

reach-left : (n i e r : ℕ) → Reach n i (suc e) r → Reach n (i + i) e (r - (r - size e))
unfolding size
reach-left n i e r p = record {
  next = λ l. omega (arith, p.next (omega arith));
  last = λ l. omega (arith, p.last (omega arith));
  full = half e p.full;
  end = omega (arith, p.end);
}
  where
    half : (e : ℕ) → i * size e + size e ≤ n + 1 → Full n (i + i) e
    half zero h = tt
    half (suc e) h = omega (arith, h)

reach-right : (n i e r : ℕ) → Reach n i (suc e) r → Reach n (i + i + 1) e (r - size e)
unfolding size
reach-right n i e r p = record {
  next = λ l. omega (arith, p.next (omega (arith, size-pos e)));
  last = λ l. omega (arith, p.last (omega arith));
  full = half e p.full;
  end = omega (arith, p.end);
}
  where
    half : (e : ℕ) → i * size e + size e ≤ n + 1 → Full n (i + i + 1) e
    half zero h = tt
    half (suc e) h = omega (arith, h)

-- the root: position 1
pub reach-root : (n d r : ℕ) → r ≤ size d → n + 1 ≡ size d + r → Reach n 1 d r
unfolding size
reach-root n d r l e = record { next = λ g. omega (arith, e); last = λ g. omega (arith, e); full = go d (e) l; end = omega (arith, e, l, size-pos d) }
  where
    go : (d : ℕ) → n + 1 ≡ size d + r → r ≤ size d → Full n 1 d
    go zero p q = tt
    go (suc e) p q = omega (arith, p)

module _ (H : ℕ) where
  -- ---- a slot
  pub zero-blank : (ws : List ℕ) (m : ℕ) → slot_in H ws m ≡ blank → zero_slot H ws m ≡ true
  unfolding slot_in blank zero_slot
  zero-blank ws m e =
      let a : word ws (spot H m) ≡ 0 = blank-words ws (spot H m) (spot H m) e (omega arith) (omega arith) in
      let b : word ws (spot H m + 1) ≡ 0 = blank-words ws (spot H m) (spot H m + 1) e (omega arith) (omega arith) in
      let c : word ws (spot H m + 2) ≡ 0 = blank-words ws (spot H m) (spot H m + 2) e (omega arith) (omega arith) in
      rw (a, b, c) refl

  pub tagged-has : (ws : List ℕ) (m : ℕ) → Has (slot_in H ws m) → tagged H ws m ≡ true
  unfolding slot_in untagged tagged
  tagged-has ws m h = rw h refl

  place-fine : (k n i d r m : ℕ) (ws : List ℕ) → 0 < i → Sound (suc k) d r (heap_in H (suc k) ws m) → Reach n i d r → place_ok H n i ws m ≡ true
  unfolding heap_in place_ok size
  place-fine k n i zero zero m ws p s t = rw (lt-leb i n (omega (arith, t.next (omega arith)))) (zero-blank ws m s.0)
  place-fine k n i zero (suc r) m ws p s t = rw (le-leb i n (omega (arith, s.0, t.last (omega arith)))) (tagged-has ws m s.1)
  place-fine k n i (suc e) r m ws p s t =
      let q : i ≤ i * size e = le-mul_of_pos_right i (size-pos e) in
      rw (le-leb i n (omega (arith, t.full, size-pos e, q))) (tagged-has ws m s.0)

  pub way-none : (k n i m : ℕ) (ws : List ℕ) → way_ok H k n none i m ws ≡ true
  unfolding way_ok step_in step own_ok
  way-none zero n i m ws = refl
  way-none (suc k) n i m ws = way-none k n (i + i) (child H m lhs) ws

  -- ---- a put towards the next position
  pub way-put : (k n d r : ℕ) (x : Element) (i m : ℕ) (ws : List ℕ) → d < k → r < size d → Sound k d r (heap_in H k ws m) → way_ok H k n (put d r x) i m ws ≡ true
  unfolding way_ok step_in step own_ok heap_in size turn_of rest_of
  way-put zero n d r x i m ws l q s = refl
  way-put (suc k) n zero zero x i m ws l q s = and-true _ _ (zero-blank ws m s.0) (way-none k n (i + i) (child H m lhs) ws)
  way-put (suc k) n zero (suc r) x i m ws l q s = absurd (omega arith)
  way-put (suc k) n (suc e) r x i m ws l q s =
      and-true _ _ (tagged-has ws m s.0) (put_on k n e r (pass x (slot_in H ws m)) i m ws q s.2 s.3
      (λ j y p c g t. way-put k n e j y p c ws (omega arith) g t) (leb (size e) r) refl)
    where
      put_on : (k n e r : ℕ) (y : Element) (i m : ℕ) (ws : List ℕ) → r < size e + size e → Sound k e (r - (r - size e)) (heap_in H k ws (child H m lhs))
          → Sound k e (r - size e) (heap_in H k ws (child H m rhs))
          → ((j : ℕ) (y : Element) (p c : ℕ) → j < size e → Sound k e j (heap_in H k ws c) → way_ok H k n (put e j y) p c ws ≡ true)
          → (b : Bool) → leb (size e) r ≡ b → way_ok H k n (put e (rest_of e r) y) (below i (turn_of e r)) (child H m (turn_of e r)) ws ≡ true
      put_on k n e r y i m ws q a b ih true w =
          let g : size e ≤ r = leb-true (size e) r w in
          rw w (ih (r - size e) y (below i rhs) (child H m rhs) (omega (arith, g, q)) b)
      put_on k n e r y i m ws q a b ih false w =
          let g : r < size e = leb-false (size e) r w in
          rw w (ih r y (below i lhs) (child H m lhs) g (subst (λ (j : ℕ). Sound k e j (heap_in H k ws (child H m lhs))) (omega (arith, g)) a))

  -- ---- a sink
  step-sink : (k : ℕ) (x : Element) (m : ℕ) (ws : List ℕ) (P : Op → Side → Type 0) → P none lhs
      → ((s : Side) → Has (top_in H k ws (child H m s)) → P (sink x) s) → P (step_in H k (sink x) m ws).op (step_in H k (sink x) m ws).side
  unfolding step_in step sink_by
  step-sink k x m ws P p q = go (lower_side a b) (lifts x (pick (lower_side a b) a b)) refl
    where
      a : Element
      a = top_in H k ws (child H m lhs)

      b : Element
      b = top_in H k ws (child H m rhs)

      go : (s : Side) (t : Bool) → lifts x (pick s a b) ≡ t → P (sink_by t s x a b).op (sink_by t s x a b).side
      go s false e = p
      go lhs true e = q lhs (lifts-yes x a e).0
      go rhs true e = q rhs (lifts-yes x b e).0

  -- the children of a position that has an element: packed, and where their positions end
  pub record Below (k n i m : ℕ) (ws : List ℕ) (s : Side) : Type 0 where
    pub d : ℕ
    pub r : ℕ
    pub sound : Sound k d r (heap_in H k ws (child H m s))
    pub reach : Reach n (below i s) d r

  belows : (k n i d r m : ℕ) (ws : List ℕ) (s : Side) → Sound (suc k) d r (heap_in H (suc k) ws m) → Has (slot_in H ws m) → Reach n i d r → Below k n i m ws s
  unfolding heap_in size
  belows k n i zero zero m ws s t h p = absurd (no-empty (slot_in H ws m) t.0 h)
  belows k n i zero (suc r) m ws lhs t h p = record { d = 0; r = 0; sound = t.2; reach = record { next = λ l. omega (arith, p.end); last = λ l. omega arith; full = tt; end = omega (arith, p.end) } }
  belows k n i zero (suc r) m ws rhs t h p = record { d = 0; r = 0; sound = t.3; reach = record { next = λ l. omega (arith, p.end); last = λ l. omega arith; full = tt; end = omega (arith, p.end) } }
  belows k n i (suc e) r m ws lhs t h p = record { d = e; r = r - (r - size e); sound = t.2; reach = reach-left n i e r p }
  belows k n i (suc e) r m ws rhs t h p = record { d = e; r = r - size e; sound = t.3; reach = reach-right n i e r p }

  below-pos : (i : ℕ) (s : Side) → 0 < i → 0 < below i s
  below-pos i lhs l = omega arith
  below-pos i rhs l = omega arith

  pub way-sink : (k n : ℕ) (x : Element) (i d r m : ℕ) (ws : List ℕ) → 0 < i → Sound k d r (heap_in H k ws m) → Has (top_in H k ws m) → Reach n i d r
      → way_ok H k n (sink x) i m ws ≡ true
  unfolding way_ok own_ok top_in
  way-sink zero n x i d r m ws p s h t = refl
  way-sink (suc zero) n x i d r m ws p s h t = refl
  way-sink (suc (suc k)) n x i d r m ws p s h t =
      let c : (s : Side) → Below (suc k) n i m ws s = λ z. belows (suc k) n i d r m ws z s h t in
      and-true _ _
      (and-true _ _ (place-fine k n (i + i) (c lhs).d (c lhs).r (child H m lhs) ws (omega arith) (c lhs).sound (c lhs).reach)
      (place-fine k n (i + i + 1) (c rhs).d (c rhs).r (child H m rhs) ws (omega arith) (c rhs).sound (c rhs).reach))
      (step-sink (suc k) x m ws (λ o z. way_ok H (suc k) n o (below i z) (child H m z) ws ≡ true) (way-none (suc k) n (i + i) (child H m lhs) ws)
      (λ z g. way-sink (suc k) n x (below i z) (c z).d (c z).r (child H m z) ws (below-pos i z p) (c z).sound g (c z).reach))

  -- ---- the slots lie in the slice
  pub lies : (k m a n len : ℕ) → m + H < a → a * size k ≤ n + n + (H + H) → H + n * 3 ≤ len → Lies H k m len
  unfolding size
  lies zero m a n len p q l = tt
  lies (suc k) m a n len p q l =
      let g : a ≤ a * size k = le-mul_of_pos_right a (size-pos k) in (
        omega (arith, g, q),
        lies k (child H m lhs) (a + a) n len (omega arith) (omega (arith, q)) l,
        lies k (child H m rhs) (a + a) n len (omega arith) (omega (arith, q)) l,
      )
