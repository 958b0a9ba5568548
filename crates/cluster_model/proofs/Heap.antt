-- The main lemma: an operation that can be done keeps the heap sound, and changes what it holds by what comes in and what is given.
use Rattle.laws.specs.Prelude.{Bool, Element, List, ◌+◌, ◌<◌, ◌≡◌, ◌≤◌, arith, not-suc-le-zero, refl, suc, zero, ℕ}
use Rattle.promise.specs.Prelude.{always, hit}
use Rattle.cluster_model.specs.Prelude.{Bag, Became, Begun, Can, Finished, Heap, Op, Place, Sound, act, begin, finish, has, inside, low, low_elem, lowest, many, none, nothing, place_at, put, room, swap, take, to_left, to_right, under}
use Rattle.cluster_model.proofs.Places.{hit-le, under-mono, inside-le, inside-length, place-hit, low-least}
use Rattle.cluster_model.proofs.Step.{IsBag, Least, Asks, begins, Finishes, children-can, finishes, low-fit}

-- ---- what a heap holds
pub many-le : (f g : Element → Bool) → ((e : Element) → hit (f e) ≤ hit (g e)) → (k : ℕ) (h : Heap k) → many f k h ≤ many g k h
unfolding many
many-le f g p zero h = omega arith
many-le f g p (suc k) h = omega (arith, inside-le f g p h.0.places, many-le f g p k h.1, many-le f g p k h.2)

pub heap-bag : (k : ℕ) (h : Heap k) → IsBag (λ f. many f k h)
heap-bag k h = record {
  most = λ f. many-le f always (λ e. hit-le (f e)) k h;
  lower = λ r q l. many-le (under r) (under q) (λ e. under-mono r q e l) k h;
}

-- it holds no more than it has room for
pub held-room : (K k : ℕ) (h : Heap k) → Sound K k h → many always k h ≤ room K k
unfolding many room
held-room K zero h s = omega arith
held-room K (suc k) h s = omega (arith, s.0.left, s.0.right, s.0.left-room, s.0.right-room, inside-length h.0.places, s.0.size)

-- the element that is given is held, and none is lower
pub heap-least : (K k : ℕ) (h : Heap k) → 1 < K → Sound K k h → 0 < many always k h → Least (λ f. many f k h) (lowest k h)
unfolding many lowest
heap-least K zero h two s p = absurd (not-suc-le-zero p)
heap-least K (suc k) h two s p =
    let ps : List Place = h.0.places in
    let i = low-fit K (room K k) nothing h.0 (λ f. many f k h.1) (λ f. many f k h.2) two s.0 (omega arith) in
    record {
      member = λ f. omega (arith, place-hit f ps (low ps) (low_elem ps) i.0.here);
      least = omega (arith, low-least ps (low ps) (low_elem ps) i.0, i.1);
    }

pub ask : (total : ℕ) (o : Op) (ps : List Place) (i : ℕ) (e : Element) (b : ℕ) (β : Bag) → Can total o β → inside always ps + b ≡ β always
    → (0 < β always → place_at ps i ≡ has e) → Asks total o ps i e b
ask total none ps i e b β c p q = tt
ask total (put x) ps i e b β c p q = omega arith
ask total take ps i e b β c p q = q c
ask total (swap x) ps i e b β c p q = q c

pub record Acted (K k : ℕ) (o : Op) (h g : Heap k) : Type 0 where
  pub sound : Sound K k g
  pub sum : Became o (lowest k h) (λ f. many f k h) (λ f. many f k g)

pub acts : (K : ℕ) → 1 < K → (k : ℕ) (o : Op) (h : Heap k) → Sound K k h → Can (room K k) o (λ f. many f k h) → Acted K k o h (act k o h)
unfolding many room act lowest
acts K two zero none h s c = record { sound = tt; sum = λ f. refl }
acts K two zero (put x) h s c = absurd (not-suc-le-zero c)
acts K two zero take h s c = absurd (not-suc-le-zero c)
acts K two zero (swap x) h s c = absurd (not-suc-le-zero c)
acts K two (suc k) o h s c =
    let α : Bag = λ f. many f k h.1 in
    let β : Bag = λ f. many f k h.2 in
    let a : Element = lowest k h.1 in
    let b : Element = lowest k h.2 in
    let la : 0 < α always → Least α a = heap-least K k h.1 two s.1 in
    let lb : 0 < β always → Least β b = heap-least K k h.2 two s.2 in
    let hα = heap-bag k h.1 in
    let hβ = heap-bag k h.2 in
    let ps : List Place = h.0.places in
    let g = begins K (room K k) h.0 α β hα hβ (omega arith) s.0 o (low ps) (low_elem ps)
    (ask (K + (room K k + room K k)) o ps (low ps) (low_elem ps) (α always + β always) (λ f. many f (suc k) h) c (omega arith)
    (λ p. (low-fit K (room K k) nothing h.0 α β two s.0 (omega arith)).0.here)) in
    let v₀ : Begun = begin o (low ps) h.0 in
    let v : Finished = finish v₀.note v₀.node a b in
    let can = children-can α β hα hβ a b la lb K (room K k) v₀.node v₀.note g.fit in
    let d = acts K two k (to_left v) h.1 s.1 can.0 in
    let e = acts K two k (to_right v) h.2 s.2 can.1 in
    let α' : Bag = λ f. many f k (act k (to_left v) h.1) in
    let β' : Bag = λ f. many f k (act k (to_right v) h.2) in
    let fin : Finishes K (room K k) v₀.note v₀.node v α β α' β' = finishes α β hα hβ a b la lb K (room K k) v₀.node v₀.note g.fit α' β' d.sum e.sum in
    record {
      sound = (fin.fit, d.sound, e.sound);
      sum = λ f. omega (arith, g.sum f, fin.sum f);
    }
