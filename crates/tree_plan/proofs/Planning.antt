-- What the code of a planned step has read makes the choice, the test and the step that the definitions say.
use Rattle.std.proofs.Common.{None, Option, Some, IfSome, is_some}
use Rattle.std.proofs.lemmas.Option.{IfSome_then}
use Rattle.std.specs.Bool.{then_some}
use Rattle.tree_plan.specs.declared.Choice.{Choice}
use Rattle.laws.specs.Prelude.{Bool, Element, List, ◌&&◌, ◌*◌, ◌+◌, ◌-◌, ◌<◌, ◌||◌, ◌∙◌, ◌≡◌, ◌≤◌, and_left, and-unit, ap, arith, blank, cond, eq-eqb, eqb, eqb-true, false, key, le-ltb, leb, leb-false, leb-true, length, lt-leb, lt-ltb, ltb, mul-le-mul_right, not, pred, refl, sub-one, subst, suc, sym, true, true≢false, ℕ}
use Rattle.tree_node.proofs.Steps.{lift-ends, lift-reads, move-nothing, move-put, move-swap, move-take, put_first, put_full, put-test, some-test, step-nothing, step-swap, step-take, swap_ends, swap-lifts, swap-stays, take_ends, take-lifts}
use Rattle.tree_plan.specs.Planning.{Chosen, lifts_ok, Planned, PlanIn, put_from, swap_from, take_from}
use Rattle.tree_node.specs.Room.{child_of, ChildrenIn, lift_ok, low_below}
use Rattle.tree_node.specs.Look.{NodeIn}
use Rattle.tree_model.proofs.Laws.{all-slot_at, every-all, node-length, node-slot, slot-limit}
use Rattle.tree_model.specs.Prelude.{has_room, has_some, is_empty, keep, least_count, lifts, low, lowest, move, node_of, node_ok, pass, put_move, read_ok, room, slot_at, slot_of, slot_ok, step_ok, swap_move, take_move}
use Rattle.tree_model.specs.declared.Move.{Move}
use Rattle.tree_model.specs.declared.Op.{Op}
use Rattle.tree_model.specs.declared.Op.TheVariants.{Nothing, Put, Swap, Take}
use Rattle.tree_model.specs.declared.Slot.{Slot}

-- the node below place j lies within the words
pub child-in : (m f j : ℕ) (ws : List ℕ) → 0 < m → j < m → ChildrenIn m f ws → NodeIn m (f + j * m) ws
child-in m f j ws h lt c = record { order = h; words = omega (arith, mul-le-mul_right m lt) }

-- ---- a choice is made exactly where the test holds
pub some-then : {A : Type 0} (t : Bool) (x : A) → is_some (then_some t x) ≡ t
some-then true x = refl
some-then false x = refl

-- .. by what the scan of the node at slot i says: it is whole or not, and the place
module _ (m i : ℕ) (ws : List ℕ) (r j : ℕ) (t : Bool) (whole : t ≡ node_ok r (node_of m ws i)) where
  abbrev nd : List Slot
  nd = node_of m ws i

  pub least-order : (a : Slot) (c : Choice) → j ≡ least_count nd → j < m → a ≡ slot_of ws (i + j) → is_some (then_some (t && leb a.count r) c) ≡ (node_ok r nd && has_room r nd)
  least-order a c at_least_lem inside read = some-then (t && leb a.count r) c ∙ put-test m ws i j a inside read at_least_lem r t whole

  module _ (at_low : j ≡ lowest nd) where
    pub low-none : j ≡ m → false ≡ (node_ok r nd && has_some nd)
    low-none e = go t ∙ ap (λ (s : Bool). t && s) (sym (le-ltb j m (omega arith))) ∙ some-test m ws i j r t at_low whole
      where
        go : (t : Bool) → false ≡ (t && false)
        go true = refl
        go false = refl

    pub low-order : (c : Choice) → (j ≡ m → ⊥) → j ≤ m → is_some (then_some t c) ≡ (node_ok r nd && has_some nd)
    low-order c ne most =
        some-then t c ∙ sym (and-unit t) ∙ ap (λ (s : Bool). t && s) (sym (lt-ltb j m (omega arith))) ∙ some-test m ws i j r t at_low whole

-- ---- the steps at a chosen slot that lift the lowest element of the node below
module _ (j : ℕ) (a : Slot) (below : List Slot) (h : 1 < a.count) (up : Element) (is-low : up ≡ low below) where
  pub take-lifted : (v : Move) → v ≡ move j up (a.count - 1) Take → v ≡ take_from j a below
  unfolding take_from
  take-lifted v e = rw (lt-leb a.count 1 h) (e ∙ ap (λ (u : Element). move j u (a.count - 1) Take) is-low)

  module _ (x : Element) (s : Bool) (is-lower : s ≡ ltb (key up) (key x)) where
    pub swap-lifted : (v : Move) → s ≡ true → v ≡ move j up a.count (Swap x) → v ≡ swap_from j a below x
    unfolding swap_from
    swap-lifted v y e = rw (lt-leb a.count 1 h, ← is-low, ← is-lower, y) e

    pub swap-kept : (v : Move) → s ≡ false → v ≡ move j x a.count Nothing → v ≡ swap_from j a below x
    unfolding swap_from
    swap-kept v y e = rw (lt-leb a.count 1 h, ← is-low, ← is-lower, y) e

-- what a choice has read is what a take gives
pub chosen-low : (m i : ℕ) (ws : List ℕ) (j : ℕ) (a : Slot) → Chosen m i ws (lowest (node_of m ws i)) j a → a.element ≡ low (node_of m ws i)
unfolding low
chosen-low m i ws j a ch =
    ap (λ (s : Slot). s.element) (ch.read ∙ sym (node-slot m ws i j ch.inside)) ∙ ap (λ (p : ℕ). (slot_at (node_of m ws i) p).element) ch.place

-- ---- the steps of a node
module _ (m i f : ℕ) (ws : List ℕ) (j : ℕ) (a : Slot) where
  abbrev own : List Slot
  own = node_of m ws i

  abbrev child : ℕ → List Slot
  child = child_of m f ws

  pub put-from : Chosen m i ws (least_count own) j a → (x : Element) → put_from j a x ≡ put_move x own
  unfolding put_from is_empty
  put-from ch x = go (eqb a.count 0) refl
    where
      go : (b : Bool) → eqb a.count 0 ≡ b → cond b (move j x 1 Nothing) (move j (keep x a.element) (suc a.count) (Put (pass x a.element))) ≡ put_move x own
      go true e = put_first m ws i j a ch.inside ch.read ch.place x _ (eqb-true a.count 0 e) refl
      go false e = sym (put_full m ws i j a ch.inside ch.read ch.place x (λ z. true≢false (sym (eq-eqb a.count 0 z) ∙ e)))

  module _ (ch : Chosen m i ws (lowest own) j a) where
    pub take-from : take_from j a (child j) ≡ take_move own (low_below m f ws)
    unfolding take_from
    take-from = go (leb a.count 1) refl
      where
        go : (b : Bool) → leb a.count 1 ≡ b → cond b (move j blank 0 Nothing) (move j (low (child j)) (a.count - 1) Take) ≡ take_move own (low_below m f ws)
        go true e = take_ends m ws i j a ch.inside ch.read f ch.place blank _ (leb-true a.count 1 e) refl refl
        go false e = take-lifts m ws i j a ch.inside ch.read f ch.place (low (child j)) _ (leb-false a.count 1 e) refl refl

    pub swap-from : (x : Element) → swap_from j a (child j) x ≡ swap_move x own (low_below m f ws)
    unfolding swap_from
    swap-from x = go (leb a.count 1) refl (ltb (key (low (child j))) (key x)) refl
      where
        go : (b : Bool) → leb a.count 1 ≡ b → (d : Bool) → ltb (key (low (child j))) (key x) ≡ d
            → cond (b || not d) (move j x a.count Nothing) (move j (low (child j)) a.count (Swap x)) ≡ swap_move x own (low_below m f ws)
        go true e d p = swap_ends m ws i j a ch.inside ch.read f ch.place x _ (leb-true a.count 1 e) refl
        go false e true p = swap-lifts m ws i j a ch.inside ch.read f ch.place x (low (child j)) true _ (leb-false a.count 1 e) refl (sym p) refl refl
        go false e false p = swap-stays m ws i j a ch.inside ch.read f ch.place x (low (child j)) false _ (leb-false a.count 1 e) refl (sym p) refl refl

    -- the tests of a take or swap
    pub lift-from : (k : ℕ) → (node_ok (room m k) own && has_some own) ≡ true → lifts_ok (room m (pred k)) a (child j) ≡ lift_ok m k own child
    unfolding lifts_ok
    lift-from k ok = go (leb a.count 1) refl
      where
        go : (b : Bool) → leb a.count 1 ≡ b → (b || (node_ok (room m (pred k)) (child j) && has_some (child j))) ≡ lift_ok m k own child
        go true e = lift-ends m ws i j a ch.inside ch.read f ch.place k ok (leb-true a.count 1 e)
        go false e =
            lift-reads m ws i j a ch.inside ch.read f ch.place k _ ok (leb-false a.count 1 e)
            (ap (λ (n : ℕ). node_ok (room m n) (child j) && has_some (child j)) (sym (sub-one k)))

    -- a count above 1 in a whole node has room below it
    pub room-some : (r : ℕ) → node_ok r own ≡ true → 1 < a.count → 1 ≤ r
    unfolding node_ok
    room-some r ok h =
        let len : j < length own = omega (arith, ch.inside, node-length m ws i) in
        let lim = all-slot_at (λ s. slot_ok r s ≡ true) own j (every-all (slot_ok r) own ok) len in
        omega (arith, slot-limit r (slot_at own j) lim, ap (λ (s : Slot). s.count) (node-slot m ws i j ch.inside ∙ sym ch.read))

-- ---- plans
pub step-off : (m k : ℕ) (o : Op) (nd : List Slot) (child : ℕ → List Slot) → read_ok o (room m k) nd ≡ false → false ≡ step_ok m k o nd child
unfolding step_ok
step-off m k o nd child e = rw e

module _ (m i f r u : ℕ) (ws : List ℕ) where
  abbrev node : List Slot
  node = node_of m ws i

  pub planned-none : (o : Op) (v : Move) → o ≡ Nothing → v ≡ move m blank 0 Nothing → Planned m r u o i f ws (Some v)
  planned-none o v e ev k er eu = (step-nothing m k o _ _ e, move-nothing m o i f ws v blank e refl ev)

  pub planned-as : (o o' : Op) (p : Option Move) → o ≡ o' → Planned m r u o' i f ws p → Planned m r u o i f ws p
  planned-as o o' p e h = subst (λ (o : Op). Planned m r u o i f ws p) (sym e) h

  -- a node that is not in order
  planned-off : (o : Op) → ((k : ℕ) → r ≡ room m k → false ≡ read_ok o (room m k) node) → Planned m r u o i f ws None
  planned-off o read k er eu = (step-off m k o _ _ (sym (read k er)), tt)

  module _ (x : Element) where
    put-read : (t : Bool) → t ≡ (node_ok r node && has_room r node) → (k : ℕ) → r ≡ room m k → t ≡ read_ok (Put x) (room m k) node
    unfolding read_ok
    put-read t tested k er = tested ∙ ap (λ (r : ℕ). node_ok r node && has_room r node) er

    pub put-planned-off : false ≡ (node_ok r node && has_room r node) → Planned m r u (Put x) i f ws None
    put-planned-off tested = planned-off (Put x) (put-read false tested)

    pub put-planned : (v : Move) (j : ℕ) (a : Slot) → true ≡ (node_ok r node && has_room r node) → Chosen m i ws (least_count node) j a
        → v ≡ put_from j a x → Planned m r u (Put x) i f ws (Some v)
    unfolding step_ok lifts
    put-planned v j a tested ch ev k er eu = (rw (← put-read true tested k er), move-put m (Put x) i f ws v x refl (ev ∙ put-from m i f ws j a ch x))

  low_read : (t : Bool) → t ≡ (node_ok r node && has_some node) → (o : Op) → ((n : ℕ) → read_ok o n node ≡ (node_ok n node && has_some node)) → (k : ℕ) → r ≡ room m k
      → t ≡ read_ok o (room m k) node
  low_read t tested o h k er = tested ∙ ap (λ (r : ℕ). node_ok r node && has_some node) er ∙ sym (h (room m k))

  pub take-planned-off : false ≡ (node_ok r node && has_some node) → Planned m r u Take i f ws None
  unfolding read_ok
  take-planned-off tested = planned-off Take (low_read false tested Take (λ n. refl))

  pub swap-planned-off : (x : Element) → false ≡ (node_ok r node && has_some node) → Planned m r u (Swap x) i f ws None
  unfolding read_ok
  swap-planned-off x tested = planned-off (Swap x) (low_read false tested (Swap x) (λ n. refl))

  module _ (tested : true ≡ (node_ok r node && has_some node)) (j : ℕ) (a : Slot) (ch : Chosen m i ws (lowest node) j a) where
    -- the node below, where the step reads it
    pub below_in : PlanIn m i f r u ws → 1 < a.count → NodeIn m (f + j * m) ws
    below_in p h =
        child-in m f j ws p.node.order ch.inside (p.children (room-some m i f ws j a ch r (and_left (node_ok r node) (has_some node) (sym tested)) h))

    lifted : (t : Bool) → t ≡ lifts_ok u a (node_of m ws (f + j * m)) → (k : ℕ) → r ≡ room m k → u ≡ room m (pred k) → t ≡ lift_ok m k node (child_of m f ws)
    lifted t eb k er eu =
        eb ∙ ap (λ (n : ℕ). lifts_ok n a (node_of m ws (f + j * m))) eu
        ∙ lift-from m i f ws j a ch k (ap (λ (n : ℕ). node_ok n node && has_some node) (sym er) ∙ sym tested)

    pub take-planned : (p : Option Move) → is_some p ≡ lifts_ok u a (node_of m ws (f + j * m)) → IfSome p (λ v. v ≡ take_from j a (node_of m ws (f + j * m))) → Planned m r u Take i f ws p
    take-planned p eb ev k er eu = (
      step-take m k Take _ _ (is_some p) refl (lifted (is_some p) eb k er eu),
      IfSome_then p ev (λ v e. move-take m Take i f ws v refl (e ∙ take-from m i f ws j a ch)),
    )

    pub swap-planned : (x : Element) (p : Option Move) → is_some p ≡ lifts_ok u a (node_of m ws (f + j * m)) → IfSome p (λ v. v ≡ swap_from j a (node_of m ws (f + j * m)) x)
        → Planned m r u (Swap x) i f ws p
    swap-planned x p eb ev k er eu = (
      step-swap m k (Swap x) _ _ x (is_some p) refl (lifted (is_some p) eb k er eu),
      IfSome_then p ev (λ v e. move-swap m (Swap x) i f ws v x refl (e ∙ swap-from m i f ws j a ch x)),
    )
