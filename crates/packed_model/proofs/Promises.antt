-- The promises: from a cleared store, over any list of calls at any heaps, every heap is packed and in order, nothing is damaged, each heap holds exactly what went
-- in and has not come out, and what comes out has the lowest rank. What is kept between calls makes each heap a queue (`is-queue`) and all of them a forest
-- (`is-forest`); what follows is every queue's (`promise/proofs/Kept.antt`, `Forest.antt`).
use Rattle.laws.specs.Prelude.{Bool, Element, List, Replace, Request, ◌*◌, ◌+◌, ◌<◌, ◌∙◌, ◌≡◌, ◌⊎◌, ap, arith, blank, count_number, count_of, element, false, inl, inr, leb, leb-false, leb-true, length, lt-ltb, ltb-true, map, not-suc-le-zero, number_of, refl, subst, suc, sym, true, untagged, zero, ℕ, ℕ_discrete, Ok, None}
use Rattle.laws.specs.Zeros.{Zeroed, zeroed}
use Rattle.packed_model.proofs.Exactly.{barred, root-limit, shape-means, tested}
use Rattle.packed_model.proofs.Heap.{none-held}
use Rattle.packed_model.proofs.Numbers.{count}
use Rattle.packed_model.proofs.Serve.{all-served, Change, low-least, move-packed, root-fine, Served, shape-lies}
use Rattle.packed_model.specs.Calls.{called, cleared, does, heap, held_count, Outcome, reads_ok, rule_at, wipe}
use Rattle.packed_model.specs.Causes.{RootDamaged, Shape, WayDamaged}
use Rattle.packed_model.specs.Heap.{Heap, many, Sound}
use Rattle.packed_model.specs.Node.{lhs, rhs, size}
use Rattle.packed_model.specs.Promise.{after, Packed, packed_queue, said, start, stored}
use Rattle.packed_model.specs.Words.{capacity, child, extent, heap_in, Lies, slot_in, word}
use Rattle.promise.proofs.Calls.{fits-least, last-each, last_fits, last-tags}
use Rattle.promise.proofs.Forest.{forest-holds, forest-kept, IsForest, seen-barred, seen_none}
use Rattle.promise.proofs.Kept as queue
use Rattle.promise.proofs.Kept.{IsQueue}
use Rattle.promise.specs.Calls as calls
use Rattle.promise.specs.Prelude.{Clear, Holds, Least, Tagged, Untagged, all_brought, all_given, always, brought, decided-clear, given, grants, last_table, leaves-keep, triple}
use Rattle.promise.specs.Forest.{At, seen_by}

-- what is kept between calls: the shape, and every heap packed and in order
pub record Kept (H k : ℕ) (ws : List ℕ) : Type 0 where
  pub shape : Shape H (suc k) (length ws)
  pub heaps : (h : ℕ) → h < H → Packed H (suc k) ws h

module _ (H k : ℕ) where
  abbrev L : ℕ
  L = suc k

  is-shape : (ws : List ℕ) → Kept H k ws → Clear ((heap H L 0).clearing ws)
  is-shape ws kept = ((shape-means H L (length ws)).holds kept.shape, tt)

  -- ---- a cleared store
  zero-sound : (j m : ℕ) (ws : List ℕ) (n : ℕ) → ((i : ℕ) → i < n → word ws i ≡ 0) → Lies H j m n → Sound j 0 0 (heap_in H j ws m)
  unfolding heap_in slot_in blank
  zero-sound zero m ws n z l = (refl, refl)
  zero-sound (suc j) m ws n z l =
      let a = z (H + m * 3) (omega (arith, l.0)) in
      let b = z (H + m * 3 + 1) (omega (arith, l.0)) in
      let c = z (H + m * 3 + 2) (omega (arith, l.0)) in (
        (λ i. element (a i) (b i) (c i)),
        zero-sound j (child H m lhs) ws n z l.1,
        zero-sound j (child H m rhs) ws n z l.2,
      )

module _ (H k : ℕ) (ws : List ℕ) (sh : Shape H (suc k) (length ws)) where
  abbrev vs : List ℕ
  vs = wipe (extent H (suc k)) ws

  pub wiped : Zeroed (extent H (suc k)) ws vs
  unfolding wipe
  wiped = zeroed (extent H (suc k)) ws sh.slice

  tight : Shape H (suc k) (extent H (suc k))
  tight = record { one = sh.one; most = sh.most; some = sh.some; slots = sh.slots; slice = omega arith }

  wiped-sound : (h : ℕ) → h < H → Sound (suc k) 0 0 (heap_in H (suc k) vs h)
  wiped-sound h l = zero-sound H k (suc k) h vs (extent H (suc k)) (λ i g. wiped.zeros i 0 g) (shape-lies H (suc k) h (extent H (suc k)) tight l)

  wiped-word : (h : ℕ) → h < H → word vs h ≡ 0
  unfolding extent
  wiped-word h l = wiped.zeros h 0 (omega (arith, l))

  wiped-kept : Kept H k vs
  unfolding size
  wiped-kept =
      record {
        shape = subst (λ (n : ℕ). Shape H (suc k) n) (sym wiped.length) sh;
        heaps = λ h l. record { d = 0; r = 0; fits = omega arith; held = omega (arith, wiped-word h l); sound = wiped-sound h l };
      }

  wiped-empty : (h : ℕ) → h < H → (f : Element → Bool) → stored H (suc k) h vs f ≡ 0
  wiped-empty h l f = none-held f (suc k) (heap_in H (suc k) vs h) (wiped-sound h l)

-- ---- one request that is let in, on a kept store
module _ (H k h : ℕ) (is : h < H) (ws : List ℕ) (kept : Kept H k ws) where
  own : Packed H (suc k) ws h
  own = kept.heaps h is

  kept-opens : Clear ((heap H (suc k) h).opening ws)
  kept-opens = ((shape-means H (suc k) (length ws)).holds kept.shape, (lt-ltb h H is, tt))

  kept-root : (heap H (suc k) h).root_ok ws ≡ true
  kept-root = root-fine H k h ws kept.shape is own

  kept-counts : word ws h ≡ stored H (suc k) h ws always
  kept-counts = omega (arith, own.held, count (suc k) own.d own.r (heap_in H (suc k) ws h) own.fits own.sound)

  module _ (r : Request) (c : Clear (last_table r (word ws h) (capacity (suc k)))) where
    served : Served H k h ws kept.shape is own r
    served = all-served H k h ws kept.shape is own r (λ u. last-tags r (word ws h) (capacity (suc k)) u c) (last_fits r (word ws h) (capacity (suc k)) c)

    change : Change H (suc k) h ws (does H (suc k) h r ws)
    change = served.done.change

    run-kept : Kept H k (does H (suc k) h r ws)
    run-kept =
        record {
          shape = subst (λ (n : ℕ). Shape H (suc k) n) (sym change.size) kept.shape;
          heaps = λ q g. elim (ℕ_discrete h q) [
            | yes e ↦ subst (λ (i : ℕ). Packed H (suc k) (does H (suc k) h r ws) i) e change.own
            | no e ↦ move-packed H (suc k) q ws (does H (suc k) h r ws) (change.words q g e) (change.heaps q g e) (kept.heaps q g)
          ];
        }

    run-least : Least (stored H (suc k) h ws) r (grants r (slot_in H ws h))
    run-least =
        fits-least (stored H (suc k) h ws) r (word ws h) (capacity (suc k)) (slot_in H ws h) (last_fits r (word ws h) (capacity (suc k)) c) (λ l. low-least H k h ws kept.shape is own l)

-- EACH HEAP IS A QUEUE, and all of them are a forest
pub is-queue : (H k h : ℕ) → h < H → IsQueue (heap H (suc k) h) (Kept H k)
unfolding reads_ok
is-queue H k h is =
    record {
      tested = tested H (suc k) h;
      opens = kept-opens H k h is;
      root = kept-root H k h is;
      way = λ r ws kept d c. (served H k h is ws kept r c).way;
      idles = λ ws kept. refl;
      keeps = λ r ws kept d c. run-kept H k h is ws kept r c;
      sum = λ r ws kept d c. (served H k h is ws kept r c).done.sum;
      least = λ r ws kept d c. run-least H k h is ws kept r c;
      counts = kept-counts H k h is;
      wiped = λ ws c. wiped-kept H k ws ((shape-means H (suc k) (length ws)).says c.0);
      bare = λ ws c. wiped-empty H k ws ((shape-means H (suc k) (length ws)).says c.0) h is;
    }

swaps : (H k h : ℕ) (is : h < H) → queue.Swaps (is-queue H k h is)
swaps H k h is =
    queue.last-swaps (is-queue H k h is) (capacity (suc k)) (λ r ws P p. p) (λ r ws. tt) (λ ws kept. root-limit H (suc k) h ws (kept-root H k h is ws kept))

pub is-forest : (H k : ℕ) → IsForest (heap H (suc k)) (λ h. h < H) (Kept H k)
is-forest H k =
    record {
      valid = λ h. there h (leb H h) refl;
      each = λ h is. is-queue H k h is;
      none = λ h n ws c. n (ltb-true h H c.1.0);
      apart = λ i j n is js r ws kept d c f. ap (λ (g : Heap (suc k)). many f (suc k) g) ((change H k i is ws kept r c).heaps j js n);
    }
  where
    there : (h : ℕ) (b : Bool) → leb H h ≡ b → (h < H) ⊎ (h < H → ⊥)
    there h true e = inr (λ l. omega (arith, l, leb-true H h e))
    there h false e = inl (leb-false H h e)

-- ---- one call on a kept store
module _ (H k h : ℕ) (is : h < H) where
  pub called-kept : (r : Request) (ws : List ℕ) → Kept H k ws → Kept H k (called H (suc k) h r ws).words
  unfolding called
  called-kept = queue.called-kept (is-queue H k h is)

  pub kept-answer : (r : Request) (ws : List ℕ) → Kept H k ws → (called H (suc k) h r ws).answer ≡ (rule_at H (suc k) h r ws).answer
  unfolding called
  kept-answer r ws kept = ap (λ (o : Outcome). o.answer) (queue.kept-called (is-queue H k h is) r ws kept tt)

  pub call-sum : (r : Request) (ws : List ℕ) → Kept H k ws → (f : Element → Bool)
      → stored H (suc k) h (called H (suc k) h r ws).words f + given r (called H (suc k) h r ws).answer f ≡ stored H (suc k) h ws f + brought r (called H (suc k) h r ws).answer f
  unfolding called
  call-sum = queue.call-sum (is-queue H k h is)

  pub kept-least : (r : Request) (ws : List ℕ) → Kept H k ws → Least (stored H (suc k) h ws) r (called H (suc k) h r ws).answer
  unfolding called
  kept-least = queue.kept-least (is-queue H k h is)

  pub kept-replaces : (x : Element) → (Untagged (Replace x) → ⊥) → (ws : List ℕ) → Kept H k ws → calls.PopThenPush (called H (suc k) h) (stored H (suc k) h) x ws
  unfolding called
  kept-replaces x tag ws kept = queue.kept-replaces (is-queue H k h is) (swaps H k h is) x tag ws kept tt

-- CLEAR
pub clear-zeroes : (H k : ℕ) (ws : List ℕ) → Shape H (suc k) (length ws) → ((cleared H (suc k) ws).answer ≡ Ok None) × Zeroed (extent H (suc k)) ws (cleared H (suc k) ws).words
unfolding cleared
clear-zeroes H k ws sh = rw ((shape-means H (suc k) (length ws)).holds sh) (refl, wiped H k ws sh)

-- ---- from a cleared store
module _ (H k : ℕ) (ws : List ℕ) (sh : Shape H (suc k) (length ws)) where
  abbrev fits : Clear ((heap H (suc k) 0).clearing ws)
  fits = ((shape-means H (suc k) (length ws)).holds sh, tt)

  pub start_is : start H (suc k) ws ≡ wipe (extent H (suc k)) ws
  unfolding cleared
  start_is = ap (λ (o : Outcome). o.words) (decided-clear (calls.left ws) ((heap H (suc k) 0).clearing ws) (calls.outcome (Ok None) (wipe (extent H (suc k)) ws)) fits)

  pub start-kept : Kept H k (start H (suc k) ws)
  start-kept = subst (Kept H k) (sym start_is) (wiped-kept H k ws sh)

  pub start-empty : (h : ℕ) → h < H → (f : Element → Bool) → stored H (suc k) h (start H (suc k) ws) f ≡ 0
  start-empty h l f = ap (λ (v : List ℕ). stored H (suc k) h v f) start_is ∙ wiped-empty H k ws sh h l f

-- THE PROMISES. Any number of heaps and levels that pass the shape, any words to start with, any list of calls at any heaps.
module _ (H : ℕ) (ws : List ℕ) (cs : List At) where
  now-kept : (k : ℕ) → Shape H (suc k) (length ws) → Kept H k (after H (suc k) cs ws)
  unfolding called
  now-kept k sh = leaves-keep (packed_queue H (suc k)) (Kept H k) (forest-kept (heap H (suc k)) (λ i. i < H) (Kept H k) (is-forest H k)) cs (start H (suc k) ws) (start-kept H k ws sh)

  pub shape-kept : (levels : ℕ) → Shape H levels (length ws) → Shape H levels (length (after H levels cs ws))
  shape-kept zero sh = absurd (not-suc-le-zero sh.some)
  shape-kept (suc k) sh = (now-kept k sh).shape

  -- PACKED: every heap is d full levels and the first r slots of the next, as its held word says, and in order
  pub packed : (levels : ℕ) → Shape H levels (length ws) → (h : ℕ) → h < H → Packed H levels (after H levels cs ws) h
  packed zero sh h is = absurd (not-suc-le-zero sh.some)
  packed (suc k) sh h is = (now-kept k sh).heaps h is

  -- HOLDS: of every kind of element each heap holds as many as went into it and have not come out of it
  pub holds : (levels : ℕ) → Shape H levels (length ws) → (h : ℕ) → h < H → Holds (stored H levels h (after H levels cs ws)) (map (seen_by h) cs) (said H levels cs ws)
  unfolding called
  holds zero sh h is f = absurd (not-suc-le-zero sh.some)
  holds (suc k) sh h is f =
      omega (arith, forest-holds (heap H (suc k)) (λ i. i < H) (Kept H k) (is-forest H k) h is cs (start H (suc k) ws) (start-kept H k ws sh) f, start-empty H k ws sh h is f)

  -- .. so each triple of rank, tag and length as often
  pub triples : (levels : ℕ) → Shape H levels (length ws) → (h : ℕ) → h < H → (e : Element)
      → stored H levels h (after H levels cs ws) (triple e) + all_given (map (seen_by h) cs) (said H levels cs ws) (triple e) ≡ all_brought (map (seen_by h) cs) (said H levels cs ws) (triple e)
  triples levels sh h is e = holds levels sh h is (triple e)

  -- TAGGED: no element of tag 0 is held, and none has come out
  pub tagged : (levels : ℕ) → Shape H levels (length ws) → (h : ℕ) → h < H → Tagged (stored H levels h (after H levels cs ws)) (map (seen_by h) cs) (said H levels cs ws)
  tagged levels sh h is =
      let none = seen_none (packed_queue H levels) (seen_by h) (λ c vs. seen-barred h c (called H levels c.queue c.asks vs).answer (barred H levels c.queue c.asks vs)) cs (start H levels ws) in
      record { kept = omega (arith, holds levels sh h is untagged, none); out = omega (arith, holds levels sh h is untagged, none) }

  -- LEAST: what comes out of a heap has the lowest rank that it holds
  pub least : (levels : ℕ) → Shape H levels (length ws) → (h : ℕ) → h < H → (r : Request) → Least (stored H levels h (after H levels cs ws)) r (called H levels h r (after H levels cs ws)).answer
  least zero sh h is r = absurd (not-suc-le-zero sh.some)
  least (suc k) sh h is r = kept-least H k h is r (after H (suc k) cs ws) (now-kept k sh)

  -- UNDAMAGED: no cause of 2 holds, at any heap
  pub undamaged : (levels : ℕ) → Shape H levels (length ws) → (h : ℕ) → h < H → (r : Request)
      → let vs = after H levels cs ws in RootDamaged H levels h vs ⊎ WayDamaged H levels h (rule_at H levels h r vs).op vs → ⊥
  undamaged zero sh h is r d = not-suc-le-zero sh.some
  undamaged (suc k) sh h is r d = queue.kept-undamaged (is-queue H k h is) r (after H (suc k) cs ws) (now-kept k sh) tt d

  -- NUMBERS: only 0, 5, 6 and 7 are answered at a heap that is there
  pub numbers : (levels : ℕ) → Shape H levels (length ws) → (h : ℕ) → h < H → (r : Request)
      → let n = number_of (called H levels h r (after H levels cs ws)).answer in (n ≡ 0) ⊎ (n ≡ 5) ⊎ (n ≡ 6) ⊎ (n ≡ 7)
  unfolding called
  numbers zero sh h is r = absurd (not-suc-le-zero sh.some)
  numbers (suc k) sh h is r =
      queue.kept-numbers (is-queue H k h is) r (after H (suc k) cs ws) (now-kept k sh) (λ n. (n ≡ 0) ⊎ (n ≡ 5) ⊎ (n ≡ 6) ⊎ (n ≡ 7)) (inl refl) tt
      (last-each r (word (after H (suc k) cs ws) h) (capacity (suc k)))

  -- HELD answers how many the heap holds
  pub held-says : (levels : ℕ) → Shape H levels (length ws) → (h : ℕ) → h < H
      → (count_number (held_count H levels h (after H levels cs ws)) ≡ 0) × (count_of (held_count H levels h (after H levels cs ws)) ≡ stored H levels h (after H levels cs ws) always)
  unfolding held_count
  held-says zero sh h is = absurd (not-suc-le-zero sh.some)
  held-says (suc k) sh h is = queue.kept-held (is-queue H k h is) (after H (suc k) cs ws) (now-kept k sh)

  -- POP-THEN-PUSH: "Replace x is a pop and then a push"
  pub pop-then-push : (levels : ℕ) → Shape H levels (length ws) → (h : ℕ) → h < H → (x : Element) → (Untagged (Replace x) → ⊥)
      → calls.PopThenPush (called H levels h) (stored H levels h) x (after H levels cs ws)
  pop-then-push zero sh h is x tag = absurd (not-suc-le-zero sh.some)
  pop-then-push (suc k) sh h is x tag = kept-replaces H k h is x tag (after H (suc k) cs ws) (now-kept k sh)
