-- Over runs from a cleared machine: in every cycle each level does its one step; an operation's last write falls within as many cycles as there are levels; and a gap made
-- in one cycle is filled in the next.
use Rattle.laws.specs.Prelude.{Bool, Element, List, Request, [], ◌*◌, ◌+◌, ◌<◌, ◌∙◌, ◌∷◌, ◌≡◌, ◌≤◌, ◌⊎◌, ap, arith, cond, eqb, eqb-true, false, false≢true, inl, inr, le-ltb, le_of_suc-le-suc, length, length-set, lt-ltb, ltb, not-suc-le-zero, refl, set, subst, suc, sym, true, zero, zero-add, ℕ, ℕ_discrete}
use Rattle.cluster_clock_model.proofs.Fine.{fit-packed, Sounds, sounds-next}
use Rattle.cluster_clock_model.proofs.Kept.{Kept, root-sound}
use Rattle.cluster_clock_model.proofs.OneStep.{one-step}
use Rattle.cluster_clock_model.proofs.Passes.{down, down-first, down_fits, level-node, node-fits, onward, onward-is}
use Rattle.cluster_clock_model.proofs.Promises.{kept-undamaged, next-kept, ran-kept}
use Rattle.cluster_clock_model.proofs.Flight.{note_below, within}
use Rattle.cluster_clock_model.proofs.Seen.{note_seen, op_at, tree_in}
use Rattle.cluster_model.proofs.Laws.{gap-has, inside-length, inside-put, low-is, node-count, op_if, place_here, place_other, place_same}
use Rattle.cluster_clock_model.specs.Prelude.{Filled, Machine, OneStep, Stage, Work, below, child_of, cycle_queue, first_node, flight, handed, leave_below, level_stage, low_at, no_stage, ran, settled, stage_at, stage_below, work_of}
use Rattle.cluster_model.specs.Prelude.{Bag, Fit, Node, Note, Op, Place, Shape, Side, begin, child, fewer, fill, fill_from, finish, free, gap, has, high, high_elem, inside, keep, lhs, low, low_elem, lower_side, node_in, none, nothing, nothing_below, onto, pick, place_at, put, put_by, raise, rhs, room, spot_of, store, swap, swap_by, take, take_by, trial, width, works}
use Rattle.promise.specs.Flight as flights
use Rattle.promise.specs.Prelude.{always, leaves}

module _ (K k : ℕ) where
  kept_step : (r : Request) (x : Machine) → Kept K k x → OneStep K (suc k) r x.records x.words
  kept_step r x kept = one-step K (suc k) r x.records x.words kept.shape kept.count (kept-undamaged K k x kept r)

  -- the record below a level that is not the last, and below the last
  below-is : (rs : List Stage) (j : ℕ) → suc j ≤ k → stage_below K (suc k) rs j ≡ stage_at rs j
  below-is rs j l = ap (λ (b : Bool). cond b (stage_at rs j) no_stage) (lt-ltb (suc j) (suc k) (omega arith))

  below_last : (rs : List Stage) → stage_below K (suc k) rs k ≡ no_stage
  below_last rs = ap (λ (b : Bool). cond b (stage_at rs k) no_stage) (le-ltb (suc k) (suc k) (omega arith))

  -- ---- LAST WRITE: what level i leaves is the work of level i + 1 in the next cycle
  handed-down : (r t : Request) (x : Machine) (i : ℕ) → Kept K k x → suc i ≤ k
      → let y = (cycle_queue K (suc k) r x).next in work_of K (suc k) t y.records y.words (suc i) ≡ leave_below K (suc k) i (work_of K (suc k) r x.records x.words i) x y
  unfolding work_of
  handed-down r t x i kept h =
      let y : Machine = (cycle_queue K (suc k) r x).next in
      ap (λ (q : Stage). handed K q.due q.node (first_node i) y.words)
      ((kept_step r x kept).loads i (omega arith) ∙ ap (λ (q : Stage). level_stage K (first_node i) (work_of K (suc k) r x.records x.words i) q x.words) (sym (below-is x.records i h)))

  -- the last level leaves nothing
  last_none : (r : Request) (x : Machine) → Kept K k x → (leave_below K (suc k) k (work_of K (suc k) r x.records x.words k) x (cycle_queue K (suc k) r x).next).op ≡ none
  unfolding handed
  last_none r x kept =
      ap (λ (q : Stage). (handed K q.due q.node (first_node k) (cycle_queue K (suc k) r x).next.words).op)
      (ap (λ (q : Stage). level_stage K (first_node k) (work_of K (suc k) r x.records x.words k) q x.words) (below_last x.records) ∙ (kept_step r x kept).last)

-- ONE STEP, in every cycle of any list of cycles from the cleared machine
pub one-step-run : (K levels : ℕ) (ws : List ℕ) (rs : List Request) → Shape K levels (length ws) → (r : Request) → OneStep K levels r (ran K levels rs ws).records (ran K levels rs ws).words
one-step-run K zero ws rs sh r = absurd (not-suc-le-zero sh.some)
one-step-run K (suc k) ws rs sh r = kept_step K k r (ran K (suc k) rs ws) (ran-kept K ws rs k sh)

-- an operation asked after any list of cycles is done at level n + 1 in the n-th cycle after its own, whatever is asked in between and then ..
pub in-flight : (K levels : ℕ) (ws : List ℕ) (before : List Request) → Shape K levels (length ws) → (r : Request) (after : List Request) (t : Request) → suc (length after) < levels
    → let x = ran K levels before ws in let z = leaves (cycle_queue K levels) (r ∷ after) x in
    work_of K levels t z.records z.words (suc (length after)) ≡ flight K levels 0 (work_of K levels r x.records x.words 0) (r ∷ after) x
in-flight K zero ws before sh r after t h = absurd (not-suc-le-zero sh.some)
in-flight K (suc k) ws before sh r after t h =
    let x : Machine = ran K (suc k) before ws in
    let z : Machine = leaves (cycle_queue K (suc k)) (r ∷ after) x in
    ap (λ (j : ℕ). work_of K (suc k) t z.records z.words (suc j)) (sym (zero-add (length after)))
    ∙ flights.flies (cycle_queue K (suc k)) (leave_below K (suc k)) (Kept K k) (next-kept K k) (λ r x. work_of K (suc k) r x.records x.words) k (handed-down K k) after r t x 0 (ran-kept K ws before k sh) (omega arith)

-- .. and after as many cycles as there are levels nothing of it is left to do: its last write falls within them, its own cycle included
pub last-write : (K levels : ℕ) (ws : List ℕ) (before : List Request) → Shape K levels (length ws) → (r : Request) (after : List Request) → length (r ∷ after) ≡ levels
    → let x = ran K levels before ws in (flight K levels 0 (work_of K levels r x.records x.words 0) (r ∷ after) x).op ≡ none
last-write K zero ws before sh r after h = absurd (not-suc-le-zero sh.some)
last-write K (suc k) ws before sh r after h =
    flights.ends (cycle_queue K (suc k)) (leave_below K (suc k)) (Kept K k) (next-kept K k) (λ r x. work_of K (suc k) r x.records x.words) k (handed-down K k) (λ w. w.op ≡ none) (last_none K k) after r
    (ran K (suc k) before ws) 0 (ran-kept K ws before k sh) (omega arith)

-- ---- GAPS
-- a node with all places flagged has none, and one with a single gap has one
full-none : (ps : List Place) (j : ℕ) → inside always ps ≡ length ps → j < length ps → place_at ps j ≡ gap → ⊥
unfolding inside place_at
full-none [] j e l g = not-suc-le-zero l
full-none (gap ∷ ps) j e l g = omega (arith, inside-length ps)
full-none (has x ∷ ps) zero e l g = gap-has x (sym g)
full-none (has x ∷ ps) (suc j) e l g = full-none ps j (omega arith) (le_of_suc-le-suc l) g

one-gap : (ps : List Place) (i j : ℕ) → suc (inside always ps) ≡ length ps → i < length ps → j < length ps → place_at ps i ≡ gap → place_at ps j ≡ gap → i ≡ j
unfolding inside place_at
one-gap [] i j e l m g h = absurd (not-suc-le-zero l)
one-gap (gap ∷ ps) zero zero e l m g h = refl
one-gap (gap ∷ ps) zero (suc j) e l m g h = absurd (full-none ps j (omega arith) (le_of_suc-le-suc m) h)
one-gap (gap ∷ ps) (suc i) j e l m g h = absurd (full-none ps i (omega arith) (le_of_suc-le-suc l) g)
one-gap (has x ∷ ps) zero j e l m g h = absurd (gap-has x (sym g))
one-gap (has x ∷ ps) (suc i) zero e l m g h = absurd (gap-has x (sym h))
one-gap (has x ∷ ps) (suc i) (suc j) e l m g h = ap suc (one-gap ps i j (omega arith) (le_of_suc-le-suc l) (le_of_suc-le-suc m) g h)

-- a gap with something below it is the one that is noted
gap-noted : (K limit : ℕ) (c : Note) (n : Node) (α β : Bag) (j : ℕ) → Fit K limit c n α β → 0 < n.left + n.right → j < length n.places → place_at n.places j ≡ gap → c ≡ fill j
gap-noted K limit nothing n α β j fit h l g = absurd (full-none n.places j (fit.order.packed (omega (arith, fit.left, fit.right))) l g)
gap-noted K limit (fill i) n α β j fit h l g = ap fill (one-gap n.places i j fit.order.packed fit.order.here l fit.order.vacant g)
gap-noted K limit (trial i x) n α β j fit h l g =
    absurd (full-none n.places j (omega (arith, fit.order.1.packed, inside-put always n.places i (has x) gap (place_here n.places i x fit.order.0) fit.order.0, length-set n.places i gap)) l g)
gap-noted K limit (onto s y) n α β j fit h l g = absurd (full-none n.places j (fit.order.packed (omega arith)) l g)

-- an element in place j is still in it, or another, once an operation has begun that gives from another place; only a put brings another
record Stays (o : Op) (j : ℕ) (e : Element) (ps : List Place) : Type 0 where
  element : Element
  holds : place_at ps j ≡ has element
  same : ((y : Element) → o ≡ put y → ⊥) → element ≡ e

module _ (j : ℕ) (e : Element) where
  stored : (ps : List Place) (i : ℕ) (x : Element) → place_at ps j ≡ has e → (z : Element) × (place_at (set ps i (has x)) j ≡ has z)
  stored ps i x h = elim (ℕ_discrete j i) [
    | yes q ↦ (x, subst (λ (i : ℕ). place_at (set ps i (has x)) j ≡ has x) q (place_same ps j (has x) (place_here ps j e h)))
    | no q ↦ (e, place_other ps i j (has x) q ∙ h)
  ]

  stays : (o : Op) (i : ℕ) (n : Node) → place_at n.places j ≡ has e → (j ≡ i → ⊥) → Stays o j e (begin o i n).node.places
  unfolding begin put_by take_by swap_by
  stays none i n h a = record { element = e; holds = h; same = λ f. refl }
  stays (put y) i n h a = go (ltb (free n.places) (length n.places)) (fewer n)
    where
      f : (z : Element) × (place_at (set n.places (free n.places) (has y)) j ≡ has z)
      f = stored n.places (free n.places) y h

      t : (z : Element) × (place_at (set n.places (high n.places) (has (keep y (high_elem n.places)))) j ≡ has z)
      t = stored n.places (high n.places) (keep y (high_elem n.places)) h

      raised : (s : Side) → Stays (put y) j e (raise s (store (high n.places) (has (keep y (high_elem n.places))) n)).places
      raised lhs = record { element = t.0; holds = t.1; same = λ g. absurd (g y refl) }
      raised rhs = record { element = t.0; holds = t.1; same = λ g. absurd (g y refl) }

      go : (b : Bool) (s : Side) → Stays (put y) j e (put_by b y n).node.places
      go true s = record { element = f.0; holds = f.1; same = λ g. absurd (g y refl) }
      go false s = raised (fewer n)
  stays take i n h a = go (nothing_below n)
    where
      go : (b : Bool) → Stays take j e (take_by b i n).node.places
      go true = record { element = e; holds = place_other n.places i j gap a ∙ h; same = λ f. refl }
      go false = record { element = e; holds = place_other n.places i j gap a ∙ h; same = λ f. refl }
  stays (swap x) i n h a = go (nothing_below n)
    where
      go : (b : Bool) → Stays (swap x) j e (swap_by b i x n).node.places
      go true = record { element = e; holds = place_other n.places i j (has x) a ∙ h; same = λ f. refl }
      go false = record { element = e; holds = place_other n.places i j (has x) a ∙ h; same = λ f. refl }

-- trees of every level are sound
descend : (K : ℕ) (two : 1 < K) (rs : List Stage) (ws : List ℕ) (t j a i : ℕ) → Sounds K two rs ws j a i → t ≤ j → (m : ℕ) × (t + m ≡ j) × Sounds K two rs ws m (down t a) (onward t i)
descend K two rs ws zero j a i s h = (j, omega arith, s)
descend K two rs ws (suc t) zero a i s h = absurd (not-suc-le-zero h)
descend K two rs ws (suc t) (suc j) a i s h =
    let d = descend K two rs ws t j (below a) (suc i) (sounds-next K two rs ws j a i s) (omega arith) in
    (d.0, omega (arith, d.1), d.2)

is_fill : Note → Bool
is_fill nothing = false
is_fill (fill j) = true
is_fill (trial j x) = false
is_fill (onto s y) = false

-- the last level notes nothing
noted : (m j : ℕ) (c : Note) → note_below m c ≡ fill j → (0 < m) × (c ≡ fill j)
unfolding note_below is_fill
noted zero j c e = absurd (false≢true (ap is_fill e))
noted (suc m) j c e = (omega arith, e)

-- only a put at the node puts there
put-there : (w : Work) (n : ℕ) (y : Element) → op_at w n ≡ put y → (w.node ≡ n) × (w.op ≡ put y)
unfolding works
put-there w n y p = go (eqb w.node n) refl p
  where
    go : (b : Bool) → eqb w.node n ≡ b → op_if b w.op ≡ put y → (w.node ≡ n) × (w.op ≡ put y)
    go true e p = (eqb-true w.node n e, p)
    go false e p = absurd (false≢true (ap works p))

fill-place : (j : ℕ) (n : Node) (a b : Element) (s : Side) → j < length n.places → place_at (fill_from s j n a b).node.places j ≡ has (pick s a b)
unfolding fill_from
fill-place j n a b lhs l = place_same n.places j (has a) l
fill-place j n a b rhs l = place_same n.places j (has b) l

module _ (K k : ℕ) (x : Machine) (kept : Kept K k x) (r : Request) (i n j : ℕ) (hi : i ≤ k) (hn : n < first_node i + 1) where
  abbrev rs : List Stage
  rs = x.records

  abbrev ws : List ℕ
  ws = x.words

  abbrev at : ℕ
  at = first_node i + n

  abbrev v : Node
  v = node_in K ws at

  abbrev w : Work
  w = work_of K (suc k) r rs ws i

  -- no put is done at the node
  abbrev NoPut : Type 0
  NoPut = (y : Element) → w.node ≡ n → w.op ≡ put y → ⊥

  module _ (some : 0 < v.left + v.right) (room_for : j < length v.places) (empty : place_at v.places j ≡ gap) where
    -- the record below the level says so
    note-is : (i < k) × (note_seen (stage_at rs i).due (stage_at rs i).node n ≡ fill j) × (0 < inside always v.places)
    unfolding tree_in
    note-is =
        let d = descend K kept.shape.two rs ws i k 0 0 (root-sound K k x kept) hi in
        let m : ℕ = d.0 in
        let here : down i 0 ≡ first_node i = down-first i in
        let up : onward i 0 ≡ i = onward-is i 0 ∙ omega arith in
        let fit = (d.2 n (subst (λ (a : ℕ). n < a + 1) (sym here) hn)).0 in
        let c : Note = note_below m (note_seen (stage_at rs (onward i 0)).due (stage_at rs (onward i 0)).node n) in
        let α : Bag = λ f. within f m (tree_in K m (below (down i 0)) (suc (onward i 0)) rs ws (child_of n lhs)) in
        let β : Bag = λ f. within f m (tree_in K m (below (down i 0)) (suc (onward i 0)) rs ws (child_of n rhs)) in
        let fit₁ : Fit K (room K m) c v α β = subst (λ (a : ℕ). Fit K (room K m) c (node_in K ws (a + n)) α β) here fit in
        let e = noted m j _ (gap-noted K (room K m) c v α β j fit₁ some room_for empty) in (
          omega (arith, d.1, e.0),
          subst (λ (t : ℕ). note_seen (stage_at rs t).due (stage_at rs t).node n ≡ fill j) up e.1,
          omega (arith, fit-packed K (room K m) c v α β fit₁ some, fit₁.size, kept.shape.two),
        )

    abbrev side : Side
    side = lower_side v (low_at K ws (child at lhs)) (low_at K ws (child at rhs))

    abbrev up : Element
    up = pick side (low_at K ws (child at lhs)) (low_at K ws (child at rhs))

    -- the node after the cycle
    after_is : node_in K (cycle_queue K (suc k) r x).next.words at ≡ (begin (op_at w n) (low v.places) (settled K (fill j) at ws).node).node
    after_is =
        (kept_step K k r x kept).each i n (omega arith) hn
        ∙ level-node K (first_node i) w (stage_below K (suc k) rs i) ws n (node-fits K (first_node i) n (length ws) hn (subst (λ (a : ℕ). spot_of K a + (a + 1) * width K ≤ length ws) (down-first i) (omega (arith, down_fits K k i 0 hi, kept.shape.slice))))
        ∙ ap (λ (c : Note). (begin (op_at w n) (low v.places) (settled K c at ws).node).node) (ap (λ (q : Stage). note_seen q.due q.node n) (below-is K k rs i note-is.0) ∙ note-is.1)

    -- the place that gives is another: it has an element
    apart : j ≡ low v.places → ⊥
    apart e = gap-has (low_elem v.places) (sym (sym (subst (λ (t : ℕ). place_at v.places t ≡ has (low_elem v.places)) (sym e) (low-is v.places note-is.2).here) ∙ empty))

    now : Stays (op_at w n) j up (begin (op_at w n) (low v.places) (settled K (fill j) at ws).node).node.places
    unfolding settled finish
    now = stays j up (op_at w n) (low v.places) (fill_from side j v (low_at K ws (child at lhs)) (low_at K ws (child at rhs))).node (fill-place j v _ _ side room_for) apart

    fills : Filled K at j NoPut ws (cycle_queue K (suc k) r x).next.words
    fills =
        record {
          element = now.element;
          holds = ap (λ (m : Node). place_at m.places j) after_is ∙ now.holds;
          lifted = λ np. go side (now.same (λ y p. let q = put-there w n y p in np y q.0 q.1));
        }
      where
        go : (s : Side) → now.element ≡ pick s (low_at K ws (child at lhs)) (low_at K ws (child at rhs)) → (now.element ≡ low_at K ws (child at lhs)) ⊎ (now.element ≡ low_at K ws (child at rhs))
        go lhs e = inl e
        go rhs e = inr e

-- GAP FILLED: after any list of cycles from the cleared machine, a place that is empty with something below its node is filled in the next cycle, whatever is asked in it
pub gap-filled : (K levels : ℕ) (ws : List ℕ) (rs : List Request) → Shape K levels (length ws) → (r : Request) (i n j : ℕ) → i < levels → n < first_node i + 1 → j < K
    → let x = ran K levels rs ws in let m = first_node i + n in let w = work_of K levels r x.records x.words i in
    0 < (node_in K x.words m).left + (node_in K x.words m).right → place_at (node_in K x.words m).places j ≡ gap
    → Filled K m j ((y : Element) → w.node ≡ n → w.op ≡ put y → ⊥) x.words (cycle_queue K levels r x).next.words
gap-filled K zero ws rs sh r i n j hi hn hj some empty = absurd (not-suc-le-zero sh.some)
gap-filled K (suc k) ws rs sh r i n j hi hn hj some empty =
    let x : Machine = ran K (suc k) rs ws in
    fills K k x (ran-kept K ws rs k sh) r i n j (omega arith) hn some (subst (λ (l : ℕ). j < l) (sym (node-count K x.words (spot_of K (first_node i + n)))) hj) empty
