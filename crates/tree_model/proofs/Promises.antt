-- The promises: from a cleared store, over any list of requests, the tree is sound, nothing is damaged, it holds exactly what went in and
-- has not come out, and what comes out has the lowest rank. What the tree keeps between calls makes it a queue (`is-queue`); what follows is every queue's (`promise/proofs/Kept.antt`).
use Rattle.laws.specs.Prelude.{Answer, Bool, Element, Idle, List, Pop, Push, Replace, Request, [], ◌*◌, ◌+◌, ◌<◌, ◌∙◌, ◌∷◌, ◌≡◌, ◌≤◌, ◌⊎◌, ap, ap₂, arith, count_number, count_of, element_words, get_or, grid, inl, length, not-suc-le-zero, number_of, refl, replicate, subst, suc, sum-index, sum_of, sum_to, sym, to-add, to-append, to-ext, to-zero, true, zero, zero-add, ℕ}
use native.Mathlib.Nat.{add_assoc, one-mul, zero-mul}
use Rattle.promise.proofs.Calls.{fits-least, last-each, last_fits}
use Rattle.promise.proofs.Kept as queue
use Rattle.promise.proofs.Kept.{IsQueue}
use Rattle.promise.specs.Prelude.{Clear, Fits, Holds, Least, Tagged, Untagged, all_brought, all_given, always, answers, brought, given, grants, hit, last_table, leaves, lower, same, triple}
use Rattle.strip.proofs.Words.{read-zeros}
use Rattle.tree_model.proofs.Exactly.{called-either, called-fine, cleared-fine, is-shape, order-pos, root-limit, shape_is, tested}
use Rattle.tree_model.proofs.Hang.{below_less}
use Rattle.tree_model.proofs.Path.{node_ok_lem, root-path}
use Rattle.tree_model.proofs.Serve.{cleared-holds, cleared-store, op-served, root-least, root-low, root-slots, root-sum, Served}
use Rattle.tree_model.proofs.Slice.{wiped}
use Rattle.tree_model.proofs.Words.{apply-length, level-node, node-length, node-slot, size_room, slot-path, tab-ext, words-apply}
use Rattle.tree_model.specs.Prelude.{Can, Damage, Level, Levels, Nothing, Outcome, PopThenPush, Ruling, Shape, Slot, Sound, Store, Tree, Zeroed, after, apply, apply_words, bare_levels, called, cleared, gain, hang, held_count, holding, level_of, levels_of, loss, low, low_of, many, node_of, node_ok, op_of, outcome, own, room, root_of, root_ok, rule, rule_at, ruled, serve, size, slot_at, slot_of, slot_words, start, stored_count, sum_counts, tabulate, tree, tree_of, tree_queue, vacant, way_ok, wipe, work}

-- ---- the slots of a store and the elements of its trees
hang-sum : (f : Element → Bool) (k : ℕ) (nd : List Slot) (g : ℕ → Tree k)
    → sum_of (λ (z : Slot × Tree k). own f z.0 + many f k z.1) (hang nd g) ≡ sum_of (own f) nd + sum_to (length nd) (λ j. many f k (g j))
unfolding sum_of sum_to hang
hang-sum f k [] g = refl
hang-sum f k (s ∷ nd) g = omega (arith, hang-sum f k nd (λ j. g (suc j)))

node-sum : (f : Element → Bool) (m : ℕ) (ws : List ℕ) (i : ℕ) → sum_of (own f) (node_of m ws i) ≡ sum_to m (λ j. own f (slot_of ws (i + j)))
unfolding slot_at
node-sum f m ws i =
    sum-index (own f) (node_of m ws i) vacant ∙ ap (λ (n : ℕ). sum_to n (λ j. own f (get_or (node_of m ws i) j vacant))) (node-length m ws i)
    ∙ to-ext m _ _ (λ j lt. ap (own f) (slot-here j lt))
  where
    slot-here : (j : ℕ) → j < m → get_or (node_of m ws i) j vacant ≡ slot_of ws (i + j)
    slot-here j lt = node-slot m ws i j lt

-- the slots of k levels hold what the trees at the nodes of the first of them hold
levels-sum : (f : Element → Bool) (m k : ℕ) (ws : List ℕ) (b c : ℕ)
    → sum_to (size m k c) (λ i. own f (slot_of ws (b + i))) ≡ sum_to c (λ n. many f k (tree_of m k (levels_of m k ws b c) n))
unfolding size many tree_of levels_of sum_to
levels-sum f m zero ws b c = sym (to-zero c)
levels-sum f m (suc k) ws b c =
    let O : ℕ → ℕ = λ i. own f (slot_of ws (b + i)) in
    let M : ℕ → ℕ = λ i. many f k (tree_of m k (levels_of m k ws (b + c * m) (c * m)) i) in
    let S : ℕ → ℕ = λ n. sum_to m (λ j. O (n * m + j)) in
    let rows : sum_to c (λ n. many f (suc k) (tree_of m (suc k) (levels_of m (suc k) ws b c) n)) ≡ sum_to c (λ n. S n + sum_to m (λ j. M (n * m + j))) =
    to-ext c (λ n. many f (suc k) (tree_of m (suc k) (levels_of m (suc k) ws b c) n)) (λ n. S n + sum_to m (λ j. M (n * m + j))) (λ n l. row n l) in
    let deeper : sum_to (size m k (c * m)) (λ i. O (c * m + i)) ≡ sum_to (c * m) M =
    to-ext (size m k (c * m)) (λ i. O (c * m + i)) (λ i. own f (slot_of ws (b + c * m + i))) (λ i l. ap (λ (p : ℕ). own f (slot_of ws p)) (omega arith))
    ∙ levels-sum f m k ws (b + c * m) (c * m) in
    omega (arith, rows, to-add c S (λ n. sum_to m (λ j. M (n * m + j))), grid c m O, grid c m M, to-append (c * m) (size m k (c * m)) O, deeper)
  where
    row : (n : ℕ) → n < c → many f (suc k) (tree_of m (suc k) (levels_of m (suc k) ws b c) n)
        ≡ sum_to m (λ j. own f (slot_of ws (b + (n * m + j)))) + sum_to m (λ j. many f k (tree_of m k (levels_of m k ws (b + c * m) (c * m)) (n * m + j)))
    row n l =
        let G : ℕ → Tree k = λ j. tree_of m k (levels_of m k ws (b + c * m) (c * m)) (n * m + j) in
        let nd : List Slot = node_of m ws (b + n * m) in
        let own-sum : sum_of (own f) nd ≡ sum_to m (λ j. own f (slot_of ws (b + (n * m + j)))) =
        node-sum f m ws (b + n * m) ∙ to-ext m _ _ (λ j lt. ap (λ (p : ℕ). own f (slot_of ws p)) (add_assoc b (n * m) j)) in
        ap (λ (nd : List Slot). many f (suc k) (hang nd G)) (level-node m ws b c n l) ∙ hang-sum f k nd G
        ∙ ap₂ (λ (a n : ℕ). a + sum_to n (λ j. many f k (G j))) own-sum (node-length m ws (b + n * m))

-- ---- a cleared store
wiped-slot : (n : ℕ) (ws : List ℕ) → 4 * n ≤ length ws → (i : ℕ) → i < n → slot_of (wipe n ws) i ≡ vacant
unfolding slot_of vacant
wiped-slot n ws fits i h = slot-path (read-zeros (wipe n ws) (slot_words * i) (λ p l r. z.zeros p 0 (omega arith))) (z.zeros (slot_words * i + element_words) 0 (omega arith))
  where
    z : Zeroed n ws (wipe n ws)
    z = wiped n ws fits

tab-same : {A : Type 0} (n : ℕ) (a : A) → tabulate n (λ i. a) ≡ replicate n a
unfolding tabulate
tab-same zero a = refl
tab-same (suc n) a = ap (λ (l : List _). a ∷ l) (tab-same n a)

wiped-levels : (m k n : ℕ) (ws : List ℕ) → 4 * n ≤ length ws → (b c : ℕ) → b + size m k c ≤ n → levels_of m k (wipe n ws) b c ≡ bare_levels m k c
unfolding levels_of bare_levels size level_of node_of
wiped-levels m zero n ws fits b c h = refl
wiped-levels m (suc k) n ws fits b c h =
    ap₂ (λ (l : Level) (r : Levels k). (l, r))
    (tab-ext c _ _ (λ a ha. tab-ext m _ _ (λ j hj. wiped-slot n ws fits (b + a * m + j) (omega (arith, below_less m a c j ha hj))) ∙ tab-same m vacant) ∙ tab-same c (replicate m vacant))
    (wiped-levels m k n ws fits (b + c * m) (c * m) (omega arith))

-- ---- the words of a store
pub stored-holding : (m k : ℕ) (ws : List ℕ) (f : Element → Bool) → stored_count (room m (suc k)) ws f ≡ holding m k (levels_of m (suc k) ws 0 1) f
unfolding stored_count holding sum_to
stored-holding m k ws f =
    let e : size m (suc k) 1 ≡ room m (suc k) = size_room m (suc k) 1 ∙ one-mul (room m (suc k)) in
    let p : sum_to (room m (suc k)) (λ i. own f (slot_of ws i)) ≡ sum_to (size m (suc k) 1) (λ i. own f (slot_of ws (0 + i))) =
    ap (λ (n : ℕ). sum_to n (λ i. own f (slot_of ws i))) (sym e)
    ∙ to-ext (size m (suc k) 1) (λ i. own f (slot_of ws i)) (λ i. own f (slot_of ws (0 + i))) (λ i l. ap (λ (j : ℕ). own f (slot_of ws j)) (sym (zero-add i))) in
    omega (arith, p, levels-sum f m (suc k) ws 0 1)

-- what is kept between calls: the shape, and a sound store
pub record Kept (m k : ℕ) (ws : List ℕ) : Type 0 where
  pub shape : Shape m (suc k) (length ws)
  pub store : Store m k (levels_of m (suc k) ws 0 1)

pub root-node : (m : ℕ) (ws : List ℕ) → get_or (level_of m ws 0 1) 0 [] ≡ root_of m ws
root-node m ws = level-node m ws 0 1 0 (omega arith) ∙ ap (node_of m ws) (rw zero-mul)

module _ (m k : ℕ) (ws : List ℕ) (kept : Kept m k ws) where
  abbrev ls : Levels (suc k)
  ls = levels_of m (suc k) ws 0 1

  abbrev t : Tree (suc k)
  t = tree_of m (suc k) ls 0

  some : 0 < m
  some = order-pos kept.shape

  pub sound-root : root_ok m (suc k) ws ≡ true
  unfolding levels_of
  sound-root =
      ap (node_ok (room m k)) (sym (root-node m ws)) ∙ ap (node_ok (room m k)) (sym (root-slots m k some ls kept.store))
      ∙ node_ok_lem m k (tree_of m (suc k) ls 0) kept.store.sound

  -- held, and the lowest
  pub kept-sum : sum_counts (root_of m ws) ≡ holding m k ls always
  unfolding holding levels_of
  kept-sum = ap sum_counts (sym (root-node m ws)) ∙ root-sum m k some ls kept.store

  kept_low : low_of (suc k) t ≡ low (root_of m ws)
  unfolding levels_of
  kept_low = sym (root-low m k some ls kept.store) ∙ ap low (root-node m ws)

  low-least : 0 < sum_counts (root_of m ws) → stored_count (room m (suc k)) ws (lower (low (root_of m ws)).rank.0) ≡ 0
  unfolding holding levels_of
  low-least more =
      stored-holding m k ws (lower (low (root_of m ws)).rank.0)
      ∙ subst (λ (nd : List Slot). 0 < sum_counts nd → holding m k ls (lower (low nd).rank.0) ≡ 0) (root-node m ws) (root-least m k some ls kept.store) more

  -- what a request that is let in does
  module _ (r : Request) (c : Clear (last_table r (sum_counts (root_of m ws)) (room m (suc k)))) where
    can : Can m (suc k) (op_of r) t
    unfolding holding
    can = go r (last_fits r (sum_counts (root_of m ws)) (room m (suc k)) c)
      where
        go : (r : Request) → Fits r (sum_counts (root_of m ws)) (room m (suc k)) → Can m (suc k) (op_of r) t
        go Idle f = tt
        go (Push x) f = omega (arith, kept-sum)
        go Pop f = omega (arith, kept-sum)
        go (Replace x) f = omega (arith, kept-sum)

    served : Served m k some ls kept.store (op_of r)
    served = op-served m k some ls kept.store (op_of r) can

    way-fine : way_ok m (suc k) (op_of r) ws ≡ true
    way-fine = root-path m some (suc k) (op_of r) ls kept.store.shaped kept.store.sound can

    run-levels : levels_of m (suc k) (apply_words m (suc k) (work (op_of r) 0) 0 1 ws) 0 1 ≡ apply m (suc k) (work (op_of r) 0) ls
    run-levels = (words-apply m some (suc k) (work (op_of r) 0) 0 1 ws (omega (arith, kept.shape.slice, size_room m (suc k) 1)) way-fine).0

    run-kept : Kept m k (apply_words m (suc k) (work (op_of r) 0) 0 1 ws)
    run-kept =
        record {
          shape = subst (λ (n : ℕ). Shape m (suc k) n) (sym (apply-length m (suc k) (work (op_of r) 0) 0 1 ws)) kept.shape;
          store = subst (λ (l : Levels (suc k)). Store m k l) (sym run-levels) served.store;
        }

    moves : (f : Element → Bool) → (loss (suc k) (op_of r) t f ≡ given r (grants r (low (root_of m ws))) f) × (gain (op_of r) f ≡ brought r (grants r (low (root_of m ws))) f)
    moves f = go r
      where
        go : (r : Request) → (loss (suc k) (op_of r) t f ≡ given r (grants r (low (root_of m ws))) f) × (gain (op_of r) f ≡ brought r (grants r (low (root_of m ws))) f)
        go Idle = (refl, refl)
        go (Push x) = (refl, refl)
        go Pop = (ap (λ (e : Element). hit (f e)) kept_low, refl)
        go (Replace x) = (ap (λ (e : Element). hit (f e)) kept_low, refl)

    run-sum : (f : Element → Bool) → stored_count (room m (suc k)) (apply_words m (suc k) (work (op_of r) 0) 0 1 ws) f + given r (grants r (low (root_of m ws))) f
        ≡ stored_count (room m (suc k)) ws f + brought r (grants r (low (root_of m ws))) f
    run-sum f =
        omega (arith, stored-holding m k (apply_words m (suc k) (work (op_of r) 0) 0 1 ws) f, stored-holding m k ws f, ap (λ (l : Levels (suc k)). holding m k l f) run-levels, served.sum f, moves f)

    run-least : Least (stored_count (room m (suc k)) ws) r (grants r (low (root_of m ws)))
    run-least =
        fits-least (stored_count (room m (suc k)) ws) r (sum_counts (root_of m ws)) (room m (suc k)) (low (root_of m ws)) (last_fits r (sum_counts (root_of m ws)) (room m (suc k)) c) low-least

-- ---- a cleared store
module _ (m k : ℕ) (ws : List ℕ) (sh : Shape m (suc k) (length ws)) where
  wiped-bare : levels_of m (suc k) (wipe (room m (suc k)) ws) 0 1 ≡ bare_levels m (suc k) 1
  wiped-bare = wiped-levels m (suc k) (room m (suc k)) ws sh.slice 0 1 (omega (arith, size_room m (suc k) 1))

  wiped-kept : Kept m k (wipe (room m (suc k)) ws)
  wiped-kept =
      record {
        shape = subst (λ (n : ℕ). Shape m (suc k) n) (sym (wiped (room m (suc k)) ws sh.slice).length) sh;
        store = subst (λ (l : Levels (suc k)). Store m k l) (sym wiped-bare) (cleared-store m k);
      }

  wiped-empty : (f : Element → Bool) → stored_count (room m (suc k)) (wipe (room m (suc k)) ws) f ≡ 0
  wiped-empty f = stored-holding m k (wipe (room m (suc k)) ws) f ∙ ap (λ (l : Levels (suc k)). holding m k l f) wiped-bare ∙ cleared-holds m k f

-- THE TREE IS A QUEUE
pub is-queue : (m k : ℕ) → IsQueue (tree m (suc k)) (Kept m k)
is-queue m k =
    record {
      tested = tested m (suc k);
      opens = λ ws kept. (is-shape m (suc k) (length ws) kept.shape, tt);
      root = sound-root m k;
      way = λ r ws kept d c. way-fine m k ws kept r c;
      idles = λ ws kept. root-path m (order-pos kept.shape) (suc k) Nothing (levels_of m (suc k) ws 0 1) kept.store.shaped kept.store.sound tt;
      keeps = λ r ws kept d c. run-kept m k ws kept r c;
      sum = λ r ws kept d c. run-sum m k ws kept r c;
      least = λ r ws kept d c. run-least m k ws kept r c;
      counts = λ ws kept. kept-sum m k ws kept ∙ sym (stored-holding m k ws always);
      wiped = λ ws c. wiped-kept m k ws (shape_is m (suc k) (length ws) c.0);
      bare = λ ws c. wiped-empty m k ws (shape_is m (suc k) (length ws) c.0);
    }

pub swaps : (m k : ℕ) → queue.Swaps (is-queue m k)
swaps m k =
    queue.last-swaps (is-queue m k) (room m (suc k)) (λ r ws P p. p) (λ r ws. tt) (λ ws kept. root-limit m (suc k) ws kept.shape.some (sound-root m k ws kept))

-- ---- one call on a kept store, whatever wrote it
module _ (m k : ℕ) where
  pub called-kept : (r : Request) (ws : List ℕ) → Kept m k ws → Kept m k (called m (suc k) r ws).words
  unfolding called
  called-kept = queue.called-kept (is-queue m k)

  pub leaves_kept : (rs : List Request) (ws : List ℕ) → Kept m k ws → Kept m k (leaves (tree_queue m (suc k)) rs ws)
  unfolding called
  leaves_kept = queue.leaves_kept (is-queue m k)

  pub call-sum : (r : Request) (ws : List ℕ) → Kept m k ws → (f : Element → Bool)
      → stored_count (room m (suc k)) (called m (suc k) r ws).words f + given r (called m (suc k) r ws).answer f ≡ stored_count (room m (suc k)) ws f + brought r (called m (suc k) r ws).answer f
  unfolding called
  call-sum = queue.call-sum (is-queue m k)

module _ (m k : ℕ) (ws : List ℕ) (kept : Kept m k ws) where
  -- what its ruling says
  pub sound-way : (r : Request) → way_ok m (suc k) (rule_at m (suc k) r ws).op ws ≡ true
  unfolding rule
  sound-way r = queue.sound-way (is-queue m k) r ws kept tt

  pub kept-called : (r : Request) → called m (suc k) r ws ≡ outcome (rule_at m (suc k) r ws).answer (apply_words m (suc k) (work (rule_at m (suc k) r ws).op 0) 0 1 ws)
  kept-called r = called-fine m (suc k) r ws (is-shape m (suc k) (length ws) kept.shape) (sound-root m k ws kept) (sound-way r)

  -- .. and on its levels
  same-ruling : (r : Request) → ruled m k r (levels_of m (suc k) ws 0 1) ≡ rule_at m (suc k) r ws
  unfolding ruled levels_of
  same-ruling r = ap (rule (room m (suc k)) r) (root-node m ws)

  pub kept-words : (r : Request) → levels_of m (suc k) (called m (suc k) r ws).words 0 1 ≡ serve m k r (levels_of m (suc k) ws 0 1)
  unfolding serve
  kept-words r =
      ap (λ (o : Outcome). levels_of m (suc k) o.words 0 1) (kept-called r)
      ∙ (words-apply m (order-pos kept.shape) (suc k) (work (rule_at m (suc k) r ws).op 0) 0 1 ws (omega (arith, kept.shape.slice, size_room m (suc k) 1)) (sound-way r)).0
      ∙ ap (λ (g : Ruling). apply m (suc k) (work g.op 0) (levels_of m (suc k) ws 0 1)) (sym (same-ruling r))

  pub kept-answer : (r : Request) → (called m (suc k) r ws).answer ≡ (ruled m k r (levels_of m (suc k) ws 0 1)).answer
  kept-answer r = ap (λ (o : Outcome). o.answer) (kept-called r) ∙ ap (λ (g : Ruling). g.answer) (sym (same-ruling r))

  pub kept-sums : (rs : List Request) (f : Element → Bool)
      → stored_count (room m (suc k)) (leaves (tree_queue m (suc k)) rs ws) f + all_given rs (answers (tree_queue m (suc k)) rs ws) f
      ≡ stored_count (room m (suc k)) ws f + all_brought rs (answers (tree_queue m (suc k)) rs ws) f
  unfolding called
  kept-sums = queue.kept-sums (is-queue m k) ws kept

  pub kept-least : (r : Request) → Least (stored_count (room m (suc k)) ws) r (called m (suc k) r ws).answer
  unfolding called
  kept-least r = queue.kept-least (is-queue m k) r ws kept

  pub kept-undamaged : (r : Request) → Damage m (suc k) r ws → ⊥
  unfolding rule
  kept-undamaged r = queue.kept-undamaged (is-queue m k) r ws kept tt

  pub kept-numbers : (r : Request) → let n = number_of (called m (suc k) r ws).answer in (n ≡ 0) ⊎ (n ≡ 5) ⊎ (n ≡ 6) ⊎ (n ≡ 7)
  unfolding called
  kept-numbers r =
      queue.kept-numbers (is-queue m k) r ws kept (λ n. (n ≡ 0) ⊎ (n ≡ 5) ⊎ (n ≡ 6) ⊎ (n ≡ 7)) (inl refl) tt (last-each r (sum_counts (root_of m ws)) (room m (suc k)))

  pub kept-held : (count_number (held_count m (suc k) ws) ≡ 0) × (count_of (held_count m (suc k) ws) ≡ stored_count (room m (suc k)) ws always)
  unfolding held_count
  kept-held = queue.kept-held (is-queue m k) ws kept

  pub kept-replaces : (x : Element) → (Untagged (Replace x) → ⊥) → PopThenPush m (suc k) x ws
  unfolding called
  kept-replaces x tag = queue.kept-replaces (is-queue m k) (swaps m k) x tag ws kept tt

-- every call keeps the slice's length
pub called-length : (m levels : ℕ) (r : Request) (ws : List ℕ) → length (called m levels r ws).words ≡ length ws
called-length m levels r ws = called-either m levels r ws (λ o. length o.words ≡ length ws) (λ x. refl) (λ s o w. apply-length m levels _ 0 1 ws)

-- PAST: no call touches a word past the capacity, whatever the words
pub past-stands : (m levels : ℕ) (r : Request) (ws : List ℕ) (p : ℕ) → 4 * room m levels ≤ p → get_or (called m levels r ws).words p 0 ≡ get_or ws p 0
past-stands m levels r ws p h =
    called-either m levels r ws (λ o. get_or o.words p 0 ≡ get_or ws p 0) (λ x. refl) (λ s o w.
    let sh = shape_is m levels (length ws) s in
    (words-apply m (order-pos sh) levels _ 0 1 ws (omega (arith, sh.slice, size_room m levels 1)) w).1 p (omega (arith, size_room m levels 1)))

-- ---- from a cleared store. The number of levels is any that passes the shape
module _ (m k : ℕ) (ws : List ℕ) (sh : Shape m (suc k) (length ws)) where
  abbrev fits : Clear ((tree m (suc k)).clearing ws)
  fits = (is-shape m (suc k) (length ws) sh, tt)

  pub start-bare : levels_of m (suc k) (start m (suc k) ws) 0 1 ≡ bare_levels m (suc k) 1
  start-bare = ap (λ (o : Outcome). levels_of m (suc k) o.words 0 1) (cleared-fine m (suc k) ws (is-shape m (suc k) (length ws) sh)) ∙ wiped-bare m k ws sh

  pub start-kept : Kept m k (start m (suc k) ws)
  unfolding cleared
  start-kept = queue.start-kept (is-queue m k) ws fits

  pub start-empty : (f : Element → Bool) → stored_count (room m (suc k)) (start m (suc k) ws) f ≡ 0
  unfolding cleared
  start-empty = queue.start-empty (is-queue m k) ws fits

-- THE PROMISES. Any order and number of levels that pass the shape, any words to start with, any list of requests.

module _ (m : ℕ) (ws : List ℕ) (rs : List Request) where
  abbrev pub said : ℕ → List Answer
  said levels = answers (tree_queue m levels) rs (start m levels ws)

  -- HOLDS: of every kind of element as many are stored as went in and have not come out
  pub holds : (levels : ℕ) → Shape m levels (length ws) → Holds (stored_count (room m levels) (after m levels rs ws)) rs (said levels)
  unfolding called cleared
  holds zero sh = absurd (not-suc-le-zero sh.some)
  holds (suc k) sh = queue.holds (is-queue m k) ws (fits m k ws sh) rs

  -- .. so each pair as often
  pub pairs : (levels : ℕ) → Shape m levels (length ws) → (e : Element)
      → stored_count (room m levels) (after m levels rs ws) (same e) + all_given rs (said levels) (same e) ≡ all_brought rs (said levels) (same e)
  pairs levels sh e = holds levels sh (same e)

  -- .. and each triple of rank, tag and length
  pub triples : (levels : ℕ) → Shape m levels (length ws) → (e : Element)
      → stored_count (room m levels) (after m levels rs ws) (triple e) + all_given rs (said levels) (triple e) ≡ all_brought rs (said levels) (triple e)
  triples levels sh e = holds levels sh (triple e)

  -- TAGGED: no element of tag 0 is stored, and none has come out
  pub tagged : (levels : ℕ) → Shape m levels (length ws) → Tagged (stored_count (room m levels) (after m levels rs ws)) rs (said levels)
  unfolding called cleared
  tagged zero sh = absurd (not-suc-le-zero sh.some)
  tagged (suc k) sh = queue.tagged (is-queue m k) ws (fits m k ws sh) rs

  -- what a list of requests leaves is kept: of every call on it is so what is so of a kept store
  pub after_kept : (k : ℕ) → Shape m (suc k) (length ws) → Kept m k (after m (suc k) rs ws)
  after_kept k sh = leaves_kept m k rs (start m (suc k) ws) (start-kept m k ws sh)

  -- LEAST: what comes out, of a pop or a replace, has the lowest rank of all stored before
  pub least : (levels : ℕ) → Shape m levels (length ws) → (r : Request)
      → Least (stored_count (room m levels) (after m levels rs ws)) r (called m levels r (after m levels rs ws)).answer
  least zero sh r = absurd (not-suc-le-zero sh.some)
  least (suc k) sh r = kept-least m k (after m (suc k) rs ws) (after_kept k sh) r

  -- SOUND: every count is one plus what lies below, no rank lies above a lower one, and an empty slot is all zero with nothing below
  pub sound : (levels : ℕ) → Shape m levels (length ws) → Sound m levels (tree_of m levels (levels_of m levels (after m levels rs ws) 0 1) 0)
  sound zero sh = absurd (not-suc-le-zero sh.some)
  sound (suc k) sh = (after_kept k sh).store.sound

  -- UNDAMAGED: no call is refused for damage, and none for the shape
  pub undamaged : (levels : ℕ) → Shape m levels (length ws) → (r : Request) → Damage m levels r (after m levels rs ws) → ⊥
  undamaged zero sh r d = not-suc-le-zero sh.some
  undamaged (suc k) sh r d = kept-undamaged m k (after m (suc k) rs ws) (after_kept k sh) r d

  -- .. so that only 0, 5, 6 and 7 are answered
  pub numbers : (levels : ℕ) → Shape m levels (length ws) → (r : Request)
      → let n = number_of (called m levels r (after m levels rs ws)).answer in (n ≡ 0) ⊎ (n ≡ 5) ⊎ (n ≡ 6) ⊎ (n ≡ 7)
  numbers zero sh r = absurd (not-suc-le-zero sh.some)
  numbers (suc k) sh r = kept-numbers m k (after m (suc k) rs ws) (after_kept k sh) r

  pub shape-kept : (levels : ℕ) → Shape m levels (length ws) → Shape m levels (length (after m levels rs ws))
  shape-kept zero sh = absurd (not-suc-le-zero sh.some)
  shape-kept (suc k) sh = (after_kept k sh).shape

  -- the call held answers how many are stored
  pub held-says : (levels : ℕ) → Shape m levels (length ws)
      → (count_number (held_count m levels (after m levels rs ws)) ≡ 0) × (count_of (held_count m levels (after m levels rs ws)) ≡ stored_count (room m levels) (after m levels rs ws) always)
  held-says zero sh = absurd (not-suc-le-zero sh.some)
  held-says (suc k) sh = kept-held m k (after m (suc k) rs ws) (after_kept k sh)

  -- POP-THEN-PUSH: "a replace is a pop and then a push"
  pub pop-then-push : (levels : ℕ) → Shape m levels (length ws) → (x : Element) → (Untagged (Replace x) → ⊥) → PopThenPush m levels x (after m levels rs ws)
  pop-then-push zero sh x tag = absurd (not-suc-le-zero sh.some)
  pop-then-push (suc k) sh x tag = kept-replaces m k (after m (suc k) rs ws) (after_kept k sh) x tag
