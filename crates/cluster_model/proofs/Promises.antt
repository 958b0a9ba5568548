-- The promises: from a cleared store, over any list of requests, the heap is sound, nothing is damaged, it holds exactly what went in and has not come
-- out, and what comes out has the lowest rank. What the heap keeps between calls makes it a queue (`is-queue`); what follows is every queue's (`promise/proofs/Kept.antt`).
use Rattle.laws.specs.Prelude.{Answer, Bool, Element, List, Replace, Request, ◌+◌, ◌<◌, ◌∙◌, ◌≡◌, ◌≤◌, ◌⊎◌, ap, arith, count_number, count_of, get_or, inl, inr, length, not-suc-le-zero, number_of, refl, subst, suc, sym, true, zero, ℕ, Ok, None}
use Rattle.promise.proofs.Calls.{fits-least, last-each, last_fits}
use Rattle.promise.proofs.Kept as queue
use Rattle.promise.proofs.Kept.{IsQueue}
use Rattle.promise.specs.Prelude.{Clear, Holds, Least, Tagged, Untagged, all_brought, all_given, always, answers, brought, given, grants, last_table, lower, triple}
use Rattle.cluster_model.specs.Prelude.{Can, Damage, Heap, Op, Outcome, PopThenPush, Shape, Sound, Zeroed, act, after, called, cleared, cluster_queue, extent, gain, heap, heap_in, held_count, held_in, loss, low_elem, lowest, many, node_in, none, op_of, room, root_ok, rule, rule_at, run_words, start, stored_count, way_ok, wipe, word}
use Rattle.cluster_model.proofs.Damages.{is-shape, shape_is}
use Rattle.cluster_model.proofs.Exactly.{called-either, cleared-fine, root-limit, tested}
use Rattle.cluster_model.proofs.Heap.{acts}
use Rattle.cluster_model.proofs.Index.{root-neat, run-heap, run_length, run-neat, run_only}
use Rattle.cluster_model.proofs.NeatLevels.{clear-neat, NeatLevels}
use Rattle.cluster_model.proofs.Serve.{can-do, cleared-holds, cleared-sound, moves, root-held, root-least}
use Rattle.cluster_model.proofs.Stored.{stored-many, wiped, zero-heap}
use Rattle.cluster_model.proofs.Ways.{node-fine, way-fine}

-- what is kept between calls: the shape, neat words, and a sound heap
pub record Kept (K k : ℕ) (ws : List ℕ) : Type 0 where
  pub shape : Shape K (suc k) (length ws)
  pub neat : NeatLevels K (suc k) ws 0 1
  pub sound : Sound K (suc k) (heap_in K (suc k) ws 0)

module _ (K k : ℕ) (ws : List ℕ) (kept : Kept K k ws) where
  abbrev h : Heap (suc k)
  h = heap_in K (suc k) ws 0

  abbrev top : Element
  top = low_elem (node_in K ws 0).places

  two : 1 < K
  two = kept.shape.two

  sound-root : root_ok K (suc k) ws ≡ true
  unfolding heap_in
  sound-root = node-fine K (room K k) ws 0 _ _ (root-neat K (suc k) ws kept.neat).0 kept.sound.0

  pub kept-held : held_in K (suc k) ws ≡ many always (suc k) h
  unfolding heap_in
  kept-held = root-held K k two h kept.sound

  op-way : (o : Op) → Can (room K (suc k)) o (λ f. many f (suc k) h) → way_ok K (suc k) o 0 ws ≡ true
  unfolding heap_in
  op-way o can = way-fine K two ws (suc k) o 0 (root-neat K (suc k) ws kept.neat) kept.sound can

  low-least : 0 < held_in K (suc k) ws → stored_count K (suc k) ws (lower top.rank.0) ≡ 0
  unfolding heap_in
  low-least more = stored-many K (suc k) ws (lower top.rank.0) ∙ root-least K k two h kept.sound more

  -- what a request that is let in does
  module _ (r : Request) (c : Clear (last_table r (held_in K (suc k) ws) (room K (suc k)))) where
    can : Can (room K (suc k)) (op_of r) (λ f. many f (suc k) h)
    can = can-do (room K (suc k)) (held_in K (suc k) ws) (λ f. many f (suc k) h) kept-held r (last_fits r (held_in K (suc k) ws) (room K (suc k)) c)

    run_is : heap_in K (suc k) (run_words K (suc k) (op_of r) 0 ws) 0 ≡ act (suc k) (op_of r) h
    run_is = run-heap K (suc k) (op_of r) ws kept.shape.slice

    run-kept : Kept K k (run_words K (suc k) (op_of r) 0 ws)
    run-kept =
        record {
          shape = subst (λ (n : ℕ). Shape K (suc k) n) (sym (run_length K (suc k) (op_of r) ws)) kept.shape;
          neat = run-neat K (suc k) (op_of r) ws kept.shape.slice kept.neat;
          sound = subst (Sound K (suc k)) (sym run_is) (acts K two (suc k) (op_of r) h kept.sound can).sound;
        }

    act-sum : (f : Element → Bool) → many f (suc k) (act (suc k) (op_of r) h) + loss (op_of r) top f ≡ many f (suc k) h + gain (op_of r) f
    unfolding heap_in lowest
    act-sum = (acts K two (suc k) (op_of r) h kept.sound can).sum

    run-sum : (f : Element → Bool) → stored_count K (suc k) (run_words K (suc k) (op_of r) 0 ws) f + given r (grants r top) f ≡ stored_count K (suc k) ws f + brought r (grants r top) f
    run-sum f =
        omega (arith, stored-many K (suc k) (run_words K (suc k) (op_of r) 0 ws) f, stored-many K (suc k) ws f, ap (λ (g : Heap (suc k)). many f (suc k) g) run_is, act-sum f, moves top f r)

    run-least : Least (stored_count K (suc k) ws) r (grants r top)
    run-least = fits-least (stored_count K (suc k) ws) r (held_in K (suc k) ws) (room K (suc k)) top (last_fits r (held_in K (suc k) ws) (room K (suc k)) c) low-least

-- ---- a cleared store
module _ (K k : ℕ) (ws : List ℕ) (sh : Shape K (suc k) (length ws)) where
  abbrev vs : List ℕ
  vs = wipe (extent K (suc k) 1) ws

  wiped-zero : (i : ℕ) → i < extent K (suc k) 1 → word vs i ≡ 0
  wiped-zero i l = (wiped (extent K (suc k) 1) ws sh.slice).zeros i 0 l

  wiped-kept : Kept K k vs
  wiped-kept =
      record {
        shape = subst (λ (n : ℕ). Shape K (suc k) n) (sym (wiped (extent K (suc k) 1) ws sh.slice).length) sh;
        neat = clear-neat K (suc k) vs 0 1 (λ i g g'. wiped-zero i (omega arith));
        sound = subst (Sound K (suc k)) (sym (zero-heap K (suc k) vs wiped-zero)) (cleared-sound K (suc k));
      }

  wiped-empty : (f : Element → Bool) → stored_count K (suc k) vs f ≡ 0
  wiped-empty f = stored-many K (suc k) vs f ∙ ap (many f (suc k)) (zero-heap K (suc k) vs wiped-zero) ∙ cleared-holds K (suc k) f

-- THE HEAP IS A QUEUE
pub is-queue : (K k : ℕ) → IsQueue (heap K (suc k)) (Kept K k)
is-queue K k =
    record {
      tested = tested K (suc k);
      opens = λ ws kept. (is-shape K (suc k) (length ws) kept.shape, tt);
      root = sound-root K k;
      way = λ r ws kept d c. op-way K k ws kept (op_of r) (can K k ws kept r c);
      idles = λ ws kept. op-way K k ws kept none tt;
      keeps = λ r ws kept d c. run-kept K k ws kept r c;
      sum = λ r ws kept d c. run-sum K k ws kept r c;
      least = λ r ws kept d c. run-least K k ws kept r c;
      counts = λ ws kept. kept-held K k ws kept ∙ sym (stored-many K (suc k) ws always);
      wiped = λ ws c. wiped-kept K k ws (shape_is K (suc k) (length ws) c.0);
      bare = λ ws c. wiped-empty K k ws (shape_is K (suc k) (length ws) c.0);
    }

swaps : (K k : ℕ) → queue.Swaps (is-queue K k)
swaps K k =
    queue.last-swaps (is-queue K k) (room K (suc k)) (λ r ws P p. p) (λ r ws. tt) (λ ws kept. root-limit K (suc k) ws kept.shape.some (sound-root K k ws kept))

-- ---- one call on a kept store
module _ (K k : ℕ) where
  pub called-kept : (r : Request) (ws : List ℕ) → Kept K k ws → Kept K k (called K (suc k) r ws).words
  unfolding called
  called-kept = queue.called-kept (is-queue K k)

  pub kept-answer : (r : Request) (ws : List ℕ) → Kept K k ws → (called K (suc k) r ws).answer ≡ (rule_at K (suc k) r ws).answer
  unfolding called rule
  kept-answer r ws kept = ap (λ (o : Outcome). o.answer) (queue.kept-called (is-queue K k) r ws kept tt)

  pub call-sum : (r : Request) (ws : List ℕ) → Kept K k ws → (f : Element → Bool)
      → stored_count K (suc k) (called K (suc k) r ws).words f + given r (called K (suc k) r ws).answer f ≡ stored_count K (suc k) ws f + brought r (called K (suc k) r ws).answer f
  unfolding called
  call-sum = queue.call-sum (is-queue K k)

  pub kept-least : (r : Request) (ws : List ℕ) → Kept K k ws → Least (stored_count K (suc k) ws) r (called K (suc k) r ws).answer
  unfolding called
  kept-least = queue.kept-least (is-queue K k)

  pub kept-replaces : (x : Element) → (Untagged (Replace x) → ⊥) → (ws : List ℕ) → Kept K k ws → PopThenPush K (suc k) x ws
  unfolding called
  kept-replaces x tag ws kept = queue.kept-replaces (is-queue K k) (swaps K k) x tag ws kept tt

-- every call keeps the slice's length
pub called-length : (K levels : ℕ) (r : Request) (ws : List ℕ) → length (called K levels r ws).words ≡ length ws
called-length K levels r ws = called-either K levels r ws (λ o. length o.words ≡ length ws) (λ x. refl) (λ s o w. run_length K levels _ ws)

-- PAST: no call touches a word past those of the shape, whatever the words
pub past-stands : (K levels : ℕ) (r : Request) (ws : List ℕ) (p : ℕ) → extent K levels 1 ≤ p → get_or (called K levels r ws).words p 0 ≡ get_or ws p 0
past-stands K levels r ws p h = called-either K levels r ws (λ o. get_or o.words p 0 ≡ get_or ws p 0) (λ x. refl) (λ s o w. run_only K levels _ ws p (inr h))

-- CLEAR: "Clear writes zeros", and nothing behind
pub clear-zeroes : (K levels : ℕ) (ws : List ℕ) → Shape K levels (length ws) → ((cleared K levels ws).answer ≡ Ok None) × Zeroed (extent K levels 1) ws (cleared K levels ws).words
clear-zeroes K levels ws sh =
    let e = cleared-fine K levels ws (is-shape K levels (length ws) sh) in (
      ap (λ (o : Outcome). o.answer) e,
      rw e (wiped (extent K levels 1) ws sh.slice),
    )

-- ---- from a cleared store. The number of levels is any that passes the shape
module _ (K k : ℕ) (ws : List ℕ) (sh : Shape K (suc k) (length ws)) where
  abbrev fits : Clear ((heap K (suc k)).clearing ws)
  fits = (is-shape K (suc k) (length ws) sh, tt)

  pub start-kept : Kept K k (start K (suc k) ws)
  unfolding cleared
  start-kept = queue.start-kept (is-queue K k) ws fits

  pub start-empty : (f : Element → Bool) → stored_count K (suc k) (start K (suc k) ws) f ≡ 0
  unfolding cleared
  start-empty = queue.start-empty (is-queue K k) ws fits

-- THE PROMISES. Any K and number of levels that pass the shape, any words to start with, any list of requests.

module _ (K : ℕ) (ws : List ℕ) (rs : List Request) where
  abbrev pub said : ℕ → List Answer
  said levels = answers (cluster_queue K levels) rs (start K levels ws)

  -- HOLDS: of every kind of element as many are stored as went in and have not come out
  pub holds : (levels : ℕ) → Shape K levels (length ws) → Holds (stored_count K levels (after K levels rs ws)) rs (said levels)
  unfolding called cleared
  holds zero sh = absurd (not-suc-le-zero sh.some)
  holds (suc k) sh = queue.holds (is-queue K k) ws (fits K k ws sh) rs

  -- .. so each triple of rank, tag and length as often
  pub triples : (levels : ℕ) → Shape K levels (length ws) → (e : Element)
      → stored_count K levels (after K levels rs ws) (triple e) + all_given rs (said levels) (triple e) ≡ all_brought rs (said levels) (triple e)
  triples levels sh e = holds levels sh (triple e)

  -- TAGGED: no element of tag 0 is stored, and none has come out
  pub tagged : (levels : ℕ) → Shape K levels (length ws) → Tagged (stored_count K levels (after K levels rs ws)) rs (said levels)
  unfolding called cleared
  tagged zero sh = absurd (not-suc-le-zero sh.some)
  tagged (suc k) sh = queue.tagged (is-queue K k) ws (fits K k ws sh) rs

  -- what is kept after these requests
  now-kept : (k : ℕ) → Shape K (suc k) (length ws) → Kept K k (after K (suc k) rs ws)
  unfolding called cleared
  now-kept k sh = queue.after_kept (is-queue K k) ws (fits K k ws sh) rs

  -- LEAST: what comes out, of a pop or a replace, has the lowest rank of all stored before
  pub least : (levels : ℕ) → Shape K levels (length ws) → (r : Request) → Least (stored_count K levels (after K levels rs ws)) r (called K levels r (after K levels rs ws)).answer
  least zero sh r = absurd (not-suc-le-zero sh.some)
  least (suc k) sh r = kept-least K k r (after K (suc k) rs ws) (now-kept k sh)

  -- SOUND: nothing lies below a node that isn't full, no element is higher in rank than one below it, and every count is true
  pub sound : (levels : ℕ) → Shape K levels (length ws) → Sound K levels (heap_in K levels (after K levels rs ws) 0)
  sound zero sh = absurd (not-suc-le-zero sh.some)
  sound (suc k) sh = (now-kept k sh).sound

  -- UNDAMAGED: no call is refused for damage, and none for the shape
  pub undamaged : (levels : ℕ) → Shape K levels (length ws) → (r : Request) → Damage K levels r (after K levels rs ws) → ⊥
  unfolding rule
  undamaged zero sh r d = not-suc-le-zero sh.some
  undamaged (suc k) sh r d = queue.kept-undamaged (is-queue K k) r (after K (suc k) rs ws) (now-kept k sh) tt d

  pub shape-kept : (levels : ℕ) → Shape K levels (length ws) → Shape K levels (length (after K levels rs ws))
  shape-kept zero sh = absurd (not-suc-le-zero sh.some)
  shape-kept (suc k) sh = (now-kept k sh).shape

  -- .. so that only 0, 5, 6 and 7 are answered
  pub numbers : (levels : ℕ) → Shape K levels (length ws) → (r : Request)
      → let n = number_of (called K levels r (after K levels rs ws)).answer in (n ≡ 0) ⊎ (n ≡ 5) ⊎ (n ≡ 6) ⊎ (n ≡ 7)
  unfolding called
  numbers zero sh r = absurd (not-suc-le-zero sh.some)
  numbers (suc k) sh r =
      queue.kept-numbers (is-queue K k) r (after K (suc k) rs ws) (now-kept k sh) (λ n. (n ≡ 0) ⊎ (n ≡ 5) ⊎ (n ≡ 6) ⊎ (n ≡ 7)) (inl refl) tt
      (last-each r (held_in K (suc k) (after K (suc k) rs ws)) (room K (suc k)))

  -- the call held answers how many are stored
  pub held-says : (levels : ℕ) → Shape K levels (length ws)
      → (count_number (held_count K levels (after K levels rs ws)) ≡ 0) × (count_of (held_count K levels (after K levels rs ws)) ≡ stored_count K levels (after K levels rs ws) always)
  unfolding held_count
  held-says zero sh = absurd (not-suc-le-zero sh.some)
  held-says (suc k) sh = queue.kept-held (is-queue K k) (after K (suc k) rs ws) (now-kept k sh)

  -- POP-THEN-PUSH: "a replace is a pop and then a push"
  pub pop-then-push : (levels : ℕ) → Shape K levels (length ws) → (x : Element) → (Untagged (Replace x) → ⊥) → PopThenPush K levels x (after K levels rs ws)
  pop-then-push zero sh x tag = absurd (not-suc-le-zero sh.some)
  pop-then-push (suc k) sh x tag = kept-replaces K k x tag (after K (suc k) rs ws) (now-kept k sh)
