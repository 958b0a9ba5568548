-- What the code has read of the root makes the answer and the step that the definitions say.
use Rattle.std.proofs.Common.{None, Option, Some, IfSome, is_some, option_map}
use Rattle.std.proofs.lemmas.Option.{IfSome_then}
use Rattle.laws.specs.Prelude.{All, Answer, Bool, Element, Empty, Full, Idle, List, NoTag, Pop, Push, Replace, Request, TooSoon, [], ◌&&◌, ◌*◌, ◌+◌, ◌<◌, ◌||◌, ◌∙◌, ◌∷◌, ◌≡◌, ◌≤◌, and_left, and_right, ap, ap₂, arith, blank, eqb, eqb-true, false, le-ltb, length, lt-ltb, not, not-false, pred, refl, sub-one, subst, suc, sym, true, true≢false, untagged, ℕ, Ok, None, Some, Err}
use Rattle.tree_clock_model.specs.Prelude.{asked_ok, asks, pops_or_replaces, rule_marked}
use Rattle.tree_clock_level.specs.Root.{RulesRoot, RoomIs, RootIn, Ruled, Settles, Still}
use Rattle.tree_clock_level.specs.declared.root.RootStep.{RootStep}
use Rattle.tree_plan.proofs.Planning.{below_in, chosen-low, put-planned, swap-planned, take-planned}
use Rattle.tree_node.proofs.Rulings.{pop-empty, pop-takes, push-untagged, replace-empty, replace-swaps, replace-untagged}
use Rattle.tree_node.proofs.Steps.{move-nothing, room-up, step-nothing}
use Rattle.tree_plan.specs.Planning.{Chosen, lifts_ok, Planned, put_from, swap_from, take_from}
use Rattle.tree_node.specs.Room.{child_of, RoomUnder}
use Rattle.tree_node.specs.Look.{NodeIn}
use Rattle.tree_model.proofs.Laws.{has-sum, node-length, room-fails, room-less}
use Rattle.tree_model.specs.Prelude.{Ruling, every, has_room, has_some, is_empty, least_count, low, lowest, move, node_move, node_of, node_ok, room, root_of, root_ok, rule, rule_at, ruling, slot_limit, step_ok, sum_counts}
use Rattle.tree_model.specs.declared.Move.{Move}
use Rattle.tree_model.specs.declared.Op.{Op}
use Rattle.tree_model.specs.declared.Op.TheVariants.{Nothing, Put, Swap, Take}
use Rattle.tree_model.specs.declared.Slot.{Slot}

-- a node with every count at its limit holds as much as it can
crowded-sum : (r : ℕ) (nd : List Slot) → All (λ s. s.count ≡ suc r) nd → sum_counts nd ≡ length nd * suc r
unfolding sum_counts
crowded-sum r [] h = omega arith
crowded-sum r (s ∷ nd) h = omega (arith, h.0, crowded-sum r nd h.1)

-- .. and one with every slot empty nothing
none-sum : (nd : List Slot) → has_some nd ≡ false → sum_counts nd ≡ 0
unfolding has_some sum_counts every is_empty
none-sum [] e = refl
none-sum (s ∷ nd) e =
    let p : (eqb s.count 0 && every is_empty nd) ≡ true = not-false (eqb s.count 0 && every is_empty nd) e in
    omega (arith, eqb-true s.count 0 (and_left (eqb s.count 0) (every is_empty nd) p), none-sum nd (ap not (and_right (eqb s.count 0) (every is_empty nd) p)))

-- one of two tests fails where both do not hold
second-off : (a b : Bool) → (a && b) ≡ false → a ≡ true → b ≡ false
second-off true b e f = e
second-off false b e f = absurd (true≢false (sym f))

full-rules : (m levels : ℕ) (ws : List ℕ) (x : Element) → untagged x ≡ false → room m levels ≤ sum_counts (root_of m ws) → rule_at m levels (Push x) ws ≡ ruling (Err Full) Nothing
unfolding rule
full-rules m levels ws x tag h = rw (tag, le-ltb (sum_counts (root_of m ws)) (room m levels) h)

puts-rules : (m levels : ℕ) (ws : List ℕ) (x : Element) → untagged x ≡ false → sum_counts (root_of m ws) < room m levels → rule_at m levels (Push x) ws ≡ ruling (Ok None) (Put x)
unfolding rule
puts-rules m levels ws x tag h = rw (tag, lt-ltb (sum_counts (root_of m ws)) (room m levels) h)

asks-too : (q : Request) → pops_or_replaces q ≡ true → asks q ≡ true
unfolding pops_or_replaces asks
asks-too Idle e = e
asks-too (Push x) e = refl
asks-too Pop e = refl
asks-too (Replace x) e = refl

-- where there is none, nothing is said of it
if-none : {A : Type 0} (P : A → Type 0) (o : Option A) → is_some o ≡ false → IfSome o P
if-none P None e = tt
if-none P (Some x) e = absurd (true≢false e)

-- what a request comes to with the plan p
abbrev pub answered : Answer → Op → Option Move → Option RootStep
answered a o p = option_map (λ v. record { answer = a; op = o; step = v }) p

module _ (m r : ℕ) (ws : List ℕ) where
  abbrev root : List Slot
  root = node_of m ws 0

  abbrev child : ℕ → List Slot
  child = child_of m m ws

  pub under-limit : RootIn m r ws → (u : ℕ) → RoomUnder m r u → u ≤ slot_limit
  under-limit i u f =
      let e = i.fits in
      omega (arith, i.limit, f i.below e, room-up m (pred i.below) i.below i.node.order (omega (arith, sub-one i.below)))

  -- ---- nothing is done: the ruling is known where the root is whole
  module _ (h : Option RootStep) (a : Answer) (b : Bool) (is : Still m b a h) (k : ℕ) (g : Ruling) where
    still-step : step_ok m k Nothing root child ≡ true
    still-step = sym (step-nothing m k Nothing root child refl)

    settled-still : (t : Bool) → b ≡ t → (t ≡ true → g ≡ ruling a Nothing) → Settles m k t g ws h
    settled-still true e f =
        let s : g ≡ ruling a Nothing = f refl in (
          is.0 ∙ e ∙ sym (ap (λ (g : Ruling). step_ok m k g.op root child) s ∙ still-step),
          IfSome_then h is.1
              (λ x p. (
                p.0 ∙ ap (λ (g : Ruling). g.answer) (sym s),
                p.1 ∙ ap (λ (g : Ruling). g.op) (sym s),
                p.2 ∙ move-nothing m Nothing 0 m ws (move m blank 0 Nothing) blank refl refl refl ∙ ap (λ (g : Ruling). node_move m g.op 0 m ws) (sym s),
              )),
        )
    settled-still false e f = (is.0 ∙ e, if-none _ h (is.0 ∙ e))

  -- ---- a step is done: the root is whole, and the plan is the step's
  settled-step : (k u : ℕ) (a : Answer) (o : Op) (t : Bool) → t ≡ true → RoomIs m k r → RoomIs m (pred k) u → (p : Option Move)
      → Planned m r u o 0 m ws p → Settles m k t (ruling a o) ws (answered a o p)
  settled-step k u a o t y er eu None p = ((p k er eu).0 ∙ sym (ap (λ (t : Bool). t && step_ok m k o root child) y), tt)
  settled-step k u a o t y er eu (Some v) p = ((p k er eu).0 ∙ sym (ap (λ (t : Bool). t && step_ok m k o root child) y), (refl, refl, (p k er eu).1))

  root-as : (k : ℕ) → RoomIs m k r → node_ok r root ≡ root_ok m (suc k) ws
  root-as k er = ap (λ (n : ℕ). node_ok n root) er

  -- ---- without a tag
  module _ (x : Element) (none : untagged x ≡ true) (h : Option RootStep) (b : Bool) (whole : b ≡ node_ok r root) (is : Still m b (Err NoTag) h) where
    pub push-barred : Ruled m r (Push x) ws h
    push-barred k er =
        settled-still h (Err NoTag) b is k (rule_at m (suc k) (Push x) ws) (root_ok m (suc k) ws) (whole ∙ root-as k er) (λ y. push-untagged m (suc k) ws x none)

    pub replace-barred : Ruled m r (Replace x) ws h
    replace-barred k er =
        settled-still h (Err NoTag) b is k (rule_at m (suc k) (Replace x) ws) (root_ok m (suc k) ws) (whole ∙ root-as k er) (λ y. replace-untagged m (suc k) ws x none)

  -- ---- push
  module _ (x : Element) (tag : untagged x ≡ false) where
    cap-is : (k : ℕ) → RoomIs m k r → length root * suc r ≡ room m (suc k)
    unfolding room
    cap-is k er = ap₂ (λ (n q : ℕ). n * suc q) (node-length m ws 0) er

    pub push-still : (h : Option RootStep) (b : Bool) → false ≡ (node_ok r root && has_room r root) → b ≡ node_ok r root → Still m b (Err Full) h → Ruled m r (Push x) ws h
    push-still h b tested whole is k er =
        settled-still h (Err Full) b is k (rule_at m (suc k) (Push x) ws) (root_ok m (suc k) ws) (whole ∙ root-as k er)
        (λ y.
        let off : has_room r root ≡ false = second-off (node_ok r root) (has_room r root) (sym tested) (root-as k er ∙ y) in
        full-rules m (suc k) ws x tag (omega (arith, crowded-sum r root ((room-fails r root).found off), cap-is k er)))

    pub push_step : (v : Move) (j : ℕ) (a : Slot) → true ≡ (node_ok r root && has_room r root) → Chosen m 0 ws (least_count root) j a → v ≡ put_from j a x
        → Ruled m r (Push x) ws (answered (Ok None) (Put x) (Some v))
    push_step v j a tested ch ev k er =
        let both : (node_ok r root && has_room r root) ≡ true = sym tested in
        let ok : node_ok r root ≡ true = and_left (node_ok r root) (has_room r root) both in
        let g : rule_at m (suc k) (Push x) ws ≡ ruling (Ok None) (Put x) =
        puts-rules m (suc k) ws x tag (omega (arith, room-less r root ok (and_right (node_ok r root) (has_room r root) both), cap-is k er)) in
        subst (λ (g : Ruling). Settles m k (root_ok m (suc k) ws) g ws (answered (Ok None) (Put x) (Some v))) (sym g)
        (settled-step k (room m (pred k)) (Ok None) (Put x) (root_ok m (suc k) ws) (sym (root-as k er) ∙ ok) er refl (Some v)
        (put-planned m 0 m r (room m (pred k)) ws x v j a tested ch ev))

  -- ---- pop and replace
  module _ (tested : false ≡ (node_ok r root && has_some root)) (h : Option RootStep) (b : Bool) (whole : b ≡ node_ok r root) (is : Still m b (Err Empty) h) where
    none_here : (k : ℕ) → RoomIs m k r → root_ok m (suc k) ws ≡ true → sum_counts root ≡ 0
    none_here k er y = none-sum root (second-off (node_ok r root) (has_some root) (sym tested) (root-as k er ∙ y))

    pub pop-still : Ruled m r Pop ws h
    pop-still k er =
        settled-still h (Err Empty) b is k (rule_at m (suc k) Pop ws) (root_ok m (suc k) ws) (whole ∙ root-as k er)
        (λ y. pop-empty m (suc k) ws (sum_counts root) refl (none_here k er y))

    pub replace-still : (x : Element) → untagged x ≡ false → Ruled m r (Replace x) ws h
    replace-still x tag k er =
        settled-still h (Err Empty) b is k (rule_at m (suc k) (Replace x) ws) (root_ok m (suc k) ws) (whole ∙ root-as k er)
        (λ y. replace-empty m (suc k) ws (sum_counts root) refl x tag (none_here k er y))

  module _ (tested : true ≡ (node_ok r root && has_some root)) (j : ℕ) (a : Slot) (chosen : Chosen m 0 ws (lowest root) j a) where
    both : (node_ok r root && has_some root) ≡ true
    both = sym tested

    ok : node_ok r root ≡ true
    ok = and_left (node_ok r root) (has_some root) both

    some : sum_counts root ≡ 0 → ⊥
    some z = omega (arith, has-sum root (and_right (node_ok r root) (has_some root) both))

    least : a.element ≡ low root
    least = chosen-low m 0 ws j a chosen

    abbrev below : List Slot
    below = node_of m ws (m + j * m)

    -- the node below, where the step reads it
    pub root_below : RootIn m r ws → (u : ℕ) → RoomUnder m r u → (1 < a.count → NodeIn m (m + j * m) ws) × (m ≤ 8) × (u ≤ slot_limit)
    root_below i u f =
        let lim = under-limit i u f in
        (below_in m 0 m r u ws tested j a chosen (record { node = i.node; few = i.few; limit = i.limit; deeper = lim; children = i.children }), i.few, lim)

    pub pop_step : (u : ℕ) → RoomUnder m r u → (p : Option Move) → is_some p ≡ lifts_ok u a below → IfSome p (λ v. v ≡ take_from j a below)
        → Ruled m r Pop ws (answered (Ok (Some a.element)) Take p)
    pop_step u f p eb ev k er =
        subst (λ (g : Ruling). Settles m k (root_ok m (suc k) ws) g ws (answered (Ok (Some a.element)) Take p)) (sym (pop-takes m (suc k) ws (sum_counts root) refl some a.element least))
        (settled-step k u (Ok (Some a.element)) Take (root_ok m (suc k) ws) (sym (root-as k er) ∙ ok) er (f k er) p (take-planned m 0 m r u ws tested j a chosen p eb ev))

    pub replace-step : (x : Element) → untagged x ≡ false → (u : ℕ) → RoomUnder m r u → (p : Option Move) → is_some p ≡ lifts_ok u a below
        → IfSome p (λ v. v ≡ swap_from j a below x) → Ruled m r (Replace x) ws (answered (Ok (Some a.element)) (Swap x) p)
    replace-step x tag u f p eb ev k er =
        subst (λ (g : Ruling). Settles m k (root_ok m (suc k) ws) g ws (answered (Ok (Some a.element)) (Swap x) p)) (sym (replace-swaps m (suc k) ws (sum_counts root) refl some a.element least x tag))
        (settled-step k u (Ok (Some a.element)) (Swap x) (root_ok m (suc k) ws) (sym (root-as k er) ∙ ok) er (f k er) p (swap-planned m 0 m r u ws tested j a chosen x p eb ev))

  -- ---- with the mark
  module _ (mark : Bool) (q : Request) (t : Bool) (read : t ≡ pops_or_replaces q) where
    pub hears-soon : (h : Option RootStep) (b : Bool) → (mark && t) ≡ true → b ≡ node_ok r root → Still m b (Err TooSoon) h → RulesRoot m r mark q ws h
    unfolding rule_marked
    hears-soon h b e whole is k er =
        settled-still h (Err TooSoon) b is k (rule_marked mark q (rule_at m (suc k) q ws)) (asked_ok m (suc k) q ws)
        (whole ∙ root-as k er ∙ sym (ap (λ (b : Bool). not b || root_ok m (suc k) ws) (asks-too q (sym read ∙ and_right mark t e))))
        (λ y. rw (← read, e))

    module _ (e : (mark && t) ≡ false) (h : Option RootStep) where
      pub hears-idle : q ≡ Idle → Still m true (Ok None) h → RulesRoot m r mark q ws h
      unfolding rule_marked rule asks
      hears-idle same is k er =
          settled-still h (Ok None) true is k (rule_marked mark q (rule_at m (suc k) q ws)) (asked_ok m (suc k) q ws)
          (sym (ap (λ (q : Request). not (asks q) || root_ok m (suc k) ws) same))
          (λ y. rw (← read, e) (ap (λ (q : Request). rule_at m (suc k) q ws) same))

      pub hears-as : (p : Request) → q ≡ p → asks p ≡ true → Ruled m r p ws h → RulesRoot m r mark q ws h
      unfolding rule_marked
      hears-as p same asked rules k er =
          subst (λ (g : Ruling). Settles m k (asked_ok m (suc k) q ws) g ws h) (sym (rw (← read, e) (ap (λ (q : Request). rule_at m (suc k) q ws) same)))
          (subst (λ (b : Bool). Settles m k b (rule_at m (suc k) p ws) ws h) (sym (ap (λ (q : Request). not (asks q) || root_ok m (suc k) ws) same ∙ ap (λ (b : Bool). not b || root_ok m (suc k) ws) asked)) (rules k er))
