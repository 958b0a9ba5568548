-- One cycle moves elements between slots and records, and loses none: at a node, over the levels, and on words and records.
use Rattle.laws.specs.Prelude.{Answer, Bool, Element, Idle, List, NoTag, Pop, Push, Replace, Request, TooSoon, [], ◌&&◌, ◌*◌, ◌+◌, ◌<◌, ◌∙◌, ◌∷◌, ◌≡◌, ◌≤◌, add-zero, and_left, and_right, ap, arith, cond_both, element_of, false, get_or, grid, length, ltb, ltb-true, not-false, not-suc-le-zero, number_of, pred, refl, set, suc, sum-set, sum_of, sum_to, sym, to-append, to-ext, true, true≢false, zero, zero-add, ℕ, Err}
use native.Mathlib.Nat.{add_assoc, one-mul}
use Rattle.tree_clock_model.proofs.Clock.{step-gap}
use Rattle.tree_clock_model.proofs.Ends.{last-ends}
use Rattle.tree_clock_model.specs.Prelude.{Clear, Gap, Machine, Spaced, Works, carried, carries, cycle_levels, cycle_ok, cycle_works, pending, pops_or_replaces, quiet, record_at, rule_marked, strikes, struck, works_of}
use Rattle.promise.specs.Prelude.{brought, given, hit, unrefused}
use Rattle.tree_model.proofs.Laws.{all-slot_at, comes, empty-found, has-sum, is_none, least-in, lowest-is, none-empty, op-work, own-suc, own-zero, place_inside, put-rule, size_room, step-none, swap-rule, take-rule, work_none}
use Rattle.tree_model.specs.Prelude.{Comes, Level, Levels, Puts, Ruling, Swaps, Takes, clears, empty, ends, every, exchanges, first_empty, full, goes, has_room, has_some, idles, is_nothing, lacks, least_count, level_at, level_move, level_of, levels_of, low, lowest, no-tag, node_of, node_ok, op_move, own, passes, puts, read_ok, receives, room, rule, ruling, size, slot_at, slot_of, stays, step_level, step_ok, step_work, stored_count, sum_counts, swaps, tabulate, takes, top, under, vacant, work, work_ok}
use Rattle.tree_model.specs.declared.Move.{Move}
use Rattle.tree_model.specs.declared.Op.{Op}
use Rattle.tree_model.specs.declared.Op.TheVariants.{Nothing, Put, Swap, Take}
use Rattle.tree_model.specs.declared.Slot.{Slot}
use Rattle.tree_model.specs.declared.Work.{Work}

-- a put finds a node with slots
room-some : (r : ℕ) (nd : List Slot) → has_room r nd ≡ true → 0 < length nd
unfolding has_room every
room-some r [] e = absurd (true≢false (sym e))
room-some r (s ∷ nd) e = omega arith

read_some : (o : Op) (r : ℕ) (nd : List Slot) → is_nothing o ≡ false → read_ok o r nd ≡ true → 0 < length nd
unfolding read_ok is_nothing
read_some Nothing r nd n e = absurd (true≢false n)
read_some (Put x) r nd n e = room-some r nd (and_right (node_ok r nd) (has_room r nd) e)
read_some Take r nd n e = omega (arith, (lowest-is nd (has-sum nd (and_right (node_ok r nd) (has_some nd) e))).inside)
read_some (Swap x) r nd n e = omega (arith, (lowest-is nd (has-sum nd (and_right (node_ok r nd) (has_some nd) e))).inside)

module _ (f : Element → Bool) where
  own-some : (s : Slot) → 0 < s.count → own f s ≡ hit (f s.element)
  own-some s h = own-suc f s (pred s.count) (go s.count h)
    where
      go : (c : ℕ) → 0 < c → c ≡ suc (pred c)
      go zero h = absurd (not-suc-le-zero h)
      go (suc c) h = refl

  -- the slot that a take or swap chooses
  chosen : (nd : List Slot) → 0 < sum_counts nd → own f (slot_at nd (lowest nd)) ≡ hit (f (low nd))
  unfolding low
  chosen nd some = own-some (slot_at nd (lowest nd)) (lowest-is nd some).occupied

  -- ---- one step at a node, with the nodes below its places: what the slot holds then, what goes on, and what the step gives are what the slot held, what
  -- is lifted and still stands below, and what the step brought
  module _ (child : ℕ → List Slot) (nd : List Slot) where
    abbrev Even : Op → Move → Type 0
    Even o v = own f v.slot + carries v.rest f + strikes o nd f ≡ own f (slot_at nd v.place) + strikes v.rest (child v.place) f + carries o f

    -- where no slot is empty
    occupied : length nd ≤ first_empty nd → 0 < length nd → own f (slot_at nd (least_count nd)) ≡ hit (f (slot_at nd (least_count nd)).element)
    occupied h some = own-some (slot_at nd (least_count nd)) (all-slot_at (λ u. 0 < u.count) nd (least_count nd) (none-empty nd h) (least-in nd some))

    even-put : (x : Element) → 0 < length nd → (v : Move) → Puts x nd v → Even (Put x) v
    even-put x some v (ends h) = omega (arith, own-zero f (slot_at nd (first_empty nd)) (empty-found nd h))
    even-put x some v (exchanges h l) = omega (arith, occupied h some)
    even-put x some v (passes h l) = omega (arith, occupied h some)

    module _ (some : 0 < sum_counts nd) where
      even-take : (v : Move) → Takes nd (λ j. low (child j)) v → Even Take v
      even-take v (clears h) = omega (arith, chosen nd some)
      even-take v (receives h) =
          let s : Slot = slot_at nd (lowest nd) in
          let left : 0 < pred s.count = omega arith in
          omega (arith, chosen nd some, own-some (record { element = low (child (lowest nd)); count = pred s.count }) left)

      even-swap : (x : Element) (v : Move) → Swaps x nd (λ j. low (child j)) v → Even (Swap x) v
      even-swap x v (stays h) = omega (arith, chosen nd some, own-some (record { element = x; count = (slot_at nd (lowest nd)).count }) (lowest-is nd some).occupied)
      even-swap x v (goes h l) = omega (arith, chosen nd some, own-some (record { element = low (child (lowest nd)); count = (slot_at nd (lowest nd)).count }) (lowest-is nd some).occupied)

    even : (o : Op) (r : ℕ) → is_nothing o ≡ false → read_ok o r nd ≡ true → Even o (op_move o nd (λ j. low (child j)))
    unfolding read_ok is_nothing op_move
    even Nothing r n e = absurd (true≢false n)
    even (Put x) r n e = even-put x (room-some r nd (and_right (node_ok r nd) (has_room r nd) e)) _ (put-rule x nd)
    even Take r n e = even-take (has-sum nd (and_right (node_ok r nd) (has_some nd) e)) _ (take-rule nd _)
    even (Swap x) r n e = even-swap (has-sum nd (and_right (node_ok r nd) (has_some nd) e)) x _ (swap-rule x nd _)

  -- ---- one level's step
  unfoldable pub node_sum : List Slot → ℕ
  node_sum nd = sum_of (own f) nd

  -- what a take or swap gives stands in a slot of its node
  low-there : (nd : List Slot) → 0 < sum_counts nd → hit (f (low nd)) ≤ node_sum nd
  unfolding node_sum slot_at vacant
  low-there nd h = omega (arith, chosen nd h, sum-set (own f) nd (lowest nd) vacant vacant (lowest-is nd h).inside, own-zero f vacant empty)
    where
      empty : vacant.count ≡ 0
      empty = refl

  strikes-there : (o : Op) (r : ℕ) (nd : List Slot) → read_ok o r nd ≡ true → strikes o nd f ≤ node_sum nd
  unfolding read_ok
  strikes-there Nothing r nd e = omega arith
  strikes-there (Put x) r nd e = omega arith
  strikes-there Take r nd e = low-there nd (has-sum nd (and_right (node_ok r nd) (has_some nd) e))
  strikes-there (Swap x) r nd e = low-there nd (has-sum nd (and_right (node_ok r nd) (has_some nd) e))

  unfoldable pub level_sum : Level → ℕ
  level_sum l = sum_of node_sum l

  -- what work at a node of the level would give
  abbrev pub gives : Work → Level → ℕ
  gives w l = strikes w.op (get_or l w.node []) f

  pub gives-work : (o : Op) (n : ℕ) (l : Level) → gives (work o n) l ≡ strikes o (get_or l n []) f
  unfolding work
  gives-work Nothing n l = refl
  gives-work (Put x) n l = refl
  gives-work Take n l = refl
  gives-work (Swap x) n l = refl

  module _ (m k : ℕ) (w : Work) (l below : Level) (ok : work_ok m k w l below ≡ true) where
    abbrev nd : List Slot
    nd = get_or l w.node []

    abbrev v : Move
    v = level_move m w.op w.node l below

    -- what it writes and leaves for the level below, with what it gives: what stood there, what it lifts and what it brought
    abbrev Evens : Type 0
    Evens = level_sum (step_level m w l below) + carries (step_work m w l below).op f + gives w l ≡ level_sum l + gives (step_work m w l below) below + carries w.op f

    still : w.op ≡ Nothing → Evens
    still e =
        omega (
          arith,
          ap level_sum (step-none m w l below e),
          ap (λ (u : Work). carries u.op f) (work_none m w l below e),
          ap (λ (u : Work). gives u below) (work_none m w l below e),
          ap (λ (o : Op). strikes o nd f) e,
          ap (λ (o : Op). carries o f) e,
        )

    module _ (busy : is_nothing w.op ≡ false) where
      there-is : ltb w.node (length l) && step_ok m k w.op nd (λ j. get_or below (w.node * m + j) []) ≡ true
      unfolding work_ok
      there-is = rw busy at ok

      inside : w.node < length l
      inside = ltb-true w.node (length l) (and_left (ltb w.node (length l)) _ there-is)

      reads : read_ok w.op (room m k) nd ≡ true
      unfolding step_ok
      reads = and_left (read_ok w.op (room m k) nd) _ (and_right (ltb w.node (length l)) _ there-is)

      slot-sum : level_sum (step_level m w l below) + own f (slot_at nd v.place) ≡ level_sum l + own f v.slot
      unfolding step_level level_move level_sum node_sum slot_at
      slot-sum =
          omega (
            arith,
            sum-set node_sum l w.node (set nd v.place v.slot) [] inside,
            sum-set (own f) nd v.place v.slot vacant (place_inside w.op (room m k) nd _ busy (read_some w.op (room m k) nd busy reads) reads),
          )

      moves : Evens
      unfolding step_work level_move
      moves =
          omega (
            arith,
            slot-sum,
            even (λ j. get_or below (w.node * m + j) []) nd w.op (room m k) busy reads,
            ap (λ (o : Op). carries o f) (op-work v.rest (w.node * m + v.place)),
            gives-work v.rest (w.node * m + v.place) below,
          )

    level-even : Evens
    level-even = go (is_nothing w.op) refl
      where
        go : (b : Bool) → is_nothing w.op ≡ b → Evens
        go true e = still (is_none w.op e)
        go false e = moves e

    -- what a pending take or swap would give stands in a slot of its level
    gives-there : gives w l ≤ level_sum l
    unfolding level_sum node_sum sum_of
    gives-there = go (is_nothing w.op) refl
      where
        go : (b : Bool) → is_nothing w.op ≡ b → gives w l ≤ level_sum l
        go true e = omega (arith, ap (λ (o : Op). strikes o nd f) (is_none w.op e))
        go false e = omega (arith, strikes-there w.op (room m k) nd (reads e), sum-set node_sum l w.node [] [] (inside e))

  -- ---- a cycle of k levels
  unfoldable pub slot_sum : (k : ℕ) → Levels k → ℕ
  slot_sum zero ls = 0
  slot_sum (suc k) ls = level_sum ls.0 + slot_sum k ls.1

  unfoldable pub carried_by : (k : ℕ) → Works k → ℕ
  carried_by zero p = 0
  carried_by (suc k) p = carries p.0.op f + carried_by k p.1

  unfoldable pub struck_by : (k : ℕ) → Works k → Levels k → ℕ
  struck_by zero p ls = 0
  struck_by (suc k) p ls = gives p.0 ls.0 + struck_by k p.1 ls.1

  -- where there is no level below, nothing is left for it
  abbrev pub Ended : ℕ → Op → Type 0
  Ended zero o = o ≡ Nothing
  Ended (suc k) o = Unit {0}

  -- what goes on is taken in by the next level in the next cycle, and what it strikes out there stands as it stood: below a take or a swap nothing is
  -- pending
  gives-still : (m k : ℕ) (q w : Work) (l below : Level) → Gap q.op (w.op ≡ Nothing) → gives q l ≡ gives q (step_level m w l below)
  gives-still m k q w l below g = go q.op g
    where
      go : (o : Op) → Gap o (w.op ≡ Nothing) → strikes o (get_or l q.node []) f ≡ strikes o (get_or (step_level m w l below) q.node []) f
      go Nothing g = refl
      go (Put x) g = refl
      go Take g = ap (λ (l : Level). strikes Take (get_or l q.node []) f) (sym (step-none m w l below g))
      go (Swap x) g = ap (λ (l : Level). strikes (Swap x) (get_or l q.node []) f) (sym (step-none m w l below g))

  ended : (m k : ℕ) (w : Work) (l below : Level) → work_ok m k w l below ≡ true → Ended k (step_work m w l below).op
  ended m zero w l below ok = last-ends m w l below ok
  ended m (suc k) w l below ok = tt

  -- in a cycle in which q comes in for the first level
  pub balance : (m k : ℕ) (q : Work) (p : Works k) (ls : Levels k) → Gap q.op (Clear k p) → Spaced k p → Ended k q.op → cycle_ok m k p ls ≡ true
      → slot_sum k (cycle_levels m k p ls) + carried_by k (cycle_works m k q p ls) + (struck_by k p ls + gives q (top k ls))
      ≡ slot_sum k ls + (carried_by k p + carries q.op f) + struck_by k (cycle_works m k q p ls) (cycle_levels m k p ls)
  unfolding slot_sum carried_by struck_by cycle_levels cycle_works cycle_ok top
  balance m zero q p ls g sp la ok = omega (arith, ap (λ (o : Op). carries o f) la, ap (λ (o : Op). strikes o (get_or [] q.node []) f) la)
  balance m (suc k) q p ls g sp la ok =
      let below : Level = top k ls.1 in
      let here : work_ok m k p.0 ls.0 below ≡ true = and_left (work_ok m k p.0 ls.0 below) (cycle_ok m k p.1 ls.1) ok in
      omega (
        arith,
        level-even m k p.0 ls.0 below here,
        gives-still m k q p.0 ls.0 below g,
        balance m k (step_work m p.0 ls.0 below) p.1 ls.1 (step-gap m p.0 ls.0 below _ sp.0) sp.1 (ended m k p.0 ls.0 below here)
            (and_right (work_ok m k p.0 ls.0 below) (cycle_ok m k p.1 ls.1) ok),
      )

  pub struck-there : (m k : ℕ) (p : Works k) (ls : Levels k) → cycle_ok m k p ls ≡ true → struck_by k p ls ≤ slot_sum k ls
  unfolding slot_sum struck_by cycle_ok
  struck-there m zero p ls ok = omega arith
  struck-there m (suc k) p ls ok =
      let below : Level = top k ls.1 in
      omega (
        arith,
        gives-there m k p.0 ls.0 below (and_left (work_ok m k p.0 ls.0 below) (cycle_ok m k p.1 ls.1) ok),
        struck-there m k p.1 ls.1 (and_right (work_ok m k p.0 ls.0 below) (cycle_ok m k p.1 ls.1) ok),
      )

  -- with nothing pending nothing is carried or struck out
  quiet_none : (k : ℕ) (p : Works k) (ls : Levels k) → quiet k p ≡ true → (carried_by k p ≡ 0) × (struck_by k p ls ≡ 0)
  unfolding quiet carried_by struck_by
  quiet_none zero p ls e = (refl, refl)
  quiet_none (suc k) p ls e =
      let none : p.0.op ≡ Nothing = is_none p.0.op (and_left (is_nothing p.0.op) (quiet k p.1) e) in
      let deeper = quiet_none k p.1 ls.1 (and_right (is_nothing p.0.op) (quiet k p.1) e) in (
        omega (arith, ap (λ (o : Op). carries o f) none, deeper.0),
        omega (arith, ap (λ (o : Op). strikes o (get_or ls.0 p.0.node []) f) none, deeper.1),
      )

  -- ---- the same sums on words and records
  sum-tab : {A : Type 0} (g : A → ℕ) (n : ℕ) (h : ℕ → A) → sum_of g (tabulate n h) ≡ sum_to n (λ i. g (h i))
  unfolding sum_of sum_to tabulate
  sum-tab g zero h = refl
  sum-tab g (suc n) h = ap (λ (a : ℕ). g (h 0) + a) (sum-tab g n (λ i. h (suc i)))

  level-words : (m : ℕ) (ws : List ℕ) (b c : ℕ) → level_sum (level_of m ws b c) ≡ sum_to (c * m) (λ i. own f (slot_of ws (b + i)))
  unfolding level_sum node_sum level_of node_of
  level-words m ws b c =
      sum-tab node_sum c (λ n. tabulate m (λ j. slot_of ws (b + n * m + j)))
      ∙ to-ext c _ _ (λ n h. sum-tab (own f) m (λ j. slot_of ws (b + n * m + j)) ∙ to-ext m _ _ (λ j l. ap (λ (i : ℕ). own f (slot_of ws i)) (add_assoc b (n * m) j)))
      ∙ grid c m (λ i. own f (slot_of ws (b + i)))

  levels-words : (m k : ℕ) (ws : List ℕ) (b c : ℕ) → slot_sum k (levels_of m k ws b c) ≡ sum_to (size m k c) (λ i. own f (slot_of ws (b + i)))
  unfolding slot_sum levels_of size sum_to
  levels-words m zero ws b c = refl
  levels-words m (suc k) ws b c =
      let O : ℕ → ℕ = λ i. own f (slot_of ws (b + i)) in
      omega (
        arith,
        level-words m ws b c,
        levels-words m k ws (b + c * m) (c * m),
        to-ext (size m k (c * m)) (λ i. own f (slot_of ws (b + c * m + i))) (λ i. O (c * m + i)) (λ i l. ap (λ (j : ℕ). own f (slot_of ws j)) (add_assoc b (c * m) i)),
        to-append (c * m) (size m k (c * m)) O,
      )

  pub slots-are : (m k : ℕ) (ws : List ℕ) → stored_count (room m k) ws f ≡ slot_sum k (levels_of m k ws 0 1)
  unfolding stored_count
  slots-are m k ws =
      ap (λ (n : ℕ). sum_to n (λ i. own f (slot_of ws i))) (sym (size_room m k 1 ∙ one-mul (room m k)))
      ∙ to-ext (size m k 1) _ _ (λ i l. ap (λ (j : ℕ). own f (slot_of ws j)) (sym (zero-add i))) ∙ sym (levels-words m k ws 0 1)

  carried_from : (k : ℕ) (rs : List Work) (b : ℕ) → sum_to k (λ i. carries (record_at rs (b + i)).op f) ≡ carried_by k (works_of k rs b)
  unfolding sum_to carried_by works_of
  carried_from zero rs b = refl
  carried_from (suc k) rs b =
      omega (
        arith,
        ap (λ (i : ℕ). carries (record_at rs i).op f) (add-zero b),
        to-ext k (λ i. carries (record_at rs (b + suc i)).op f) (λ i. carries (record_at rs (suc b + i)).op f) (λ i l. ap (λ (j : ℕ). carries (record_at rs j).op f) (omega arith)),
        carried_from k rs (suc b),
      )

  struck-from : (k : ℕ) (rs : List Work) (b : ℕ) (ls : Levels k) → sum_to k (λ i. gives (record_at rs (b + i)) (level_at k ls i)) ≡ struck_by k (works_of k rs b) ls
  unfolding sum_to struck_by works_of level_at
  struck-from zero rs b ls = refl
  struck-from (suc k) rs b ls =
      omega (
        arith,
        ap (λ (i : ℕ). gives (record_at rs i) ls.0) (add-zero b),
        to-ext k (λ i. gives (record_at rs (b + suc i)) (level_at k ls.1 i)) (λ i. gives (record_at rs (suc b + i)) (level_at k ls.1 i))
            (λ i l. ap (λ (j : ℕ). gives (record_at rs j) (level_at k ls.1 i)) (omega arith)),
        struck-from k rs (suc b) ls.1,
      )

  module _ (m k : ℕ) (x : Machine) where
    abbrev records : Works k
    records = works_of k x.state.records 0

    pub carried-is : carried m (suc k) x f ≡ carried_by k records
    unfolding carried
    carried-is = to-ext k _ _ (λ i l. ap (λ (j : ℕ). carries (record_at x.state.records j).op f) (sym (zero-add i))) ∙ carried_from k x.state.records 0

    pub struck-is : struck m (suc k) x f ≡ struck_by k records (under m k x.words 0 1)
    unfolding struck levels_of level_at
    struck-is =
        to-ext k _ _ (λ i l. ap (λ (j : ℕ). gives (record_at x.state.records j) (level_at k (under m k x.words 0 1) i)) (sym (zero-add i))) ∙ struck-from k x.state.records 0 (under m k x.words 0 1)

    pub at-rest-none : pending m (suc k) x.state ≡ false → (carried m (suc k) x f ≡ 0) × (struck m (suc k) x f ≡ 0)
    at-rest-none e =
        let q = quiet_none k records (under m k x.words 0 1) (not-false (quiet k records) e) in
        (carried-is ∙ q.0, struck-is ∙ q.1)

  -- ---- what a request brings in and gives out, at the root
  refused_none : (r : Request) (a : Answer) (n : ℕ) → number_of a ≡ suc n → (0 ≡ given r a f) × (0 ≡ brought r a f)
  refused_none Idle a n e = (refl, refl)
  refused_none (Push x) a n e = (refl, sym (ap (λ (i : ℕ). unrefused i (hit (f x))) e))
  refused_none Pop a n e = (sym (ap (λ (i : ℕ). unrefused i (hit (f (element_of a)))) e), refl)
  refused_none (Replace x) a n e = (sym (ap (λ (i : ℕ). unrefused i (hit (f (element_of a)))) e), sym (ap (λ (i : ℕ). unrefused i (hit (f x))) e))

  abbrev pub Serves : List Slot → Request → Ruling → Type 0
  Serves nd r g = (strikes g.op nd f ≡ given r g.answer f) × (carries g.op f ≡ brought r g.answer f)

  comes-sums : (c : ℕ) (nd : List Slot) (r : Request) (g : Ruling) → Comes c nd r g → Serves nd r g
  comes-sums c nd r g idles = (refl, refl)
  comes-sums c nd r g (no-tag r' u) = refused_none r (Err NoTag) 6 refl
  comes-sums c nd r g (puts x u l) = (refl, refl)
  comes-sums c nd r g (full x u l) = (refl, refl)
  comes-sums c nd r g (takes l) = (refl, refl)
  comes-sums c nd r g (empty l) = (refl, refl)
  comes-sums c nd r g (swaps x u l) = (refl, refl)
  comes-sums c nd r g (lacks x u l) = (refl, refl)

  -- .. and one that is too soon brings and gives nothing
  pub ruled-sums : (c : ℕ) (nd : List Slot) (mark : Bool) (r : Request) → Serves nd r (rule_marked mark r (rule c r nd))
  unfolding rule_marked
  ruled-sums c nd mark r =
      cond_both (Serves nd r) (mark && pops_or_replaces r) (ruling (Err TooSoon) Nothing) (rule c r nd) (λ t. refused_none r (Err TooSoon) 2 refl) (λ t. comes-sums c nd r _ (comes c r nd))
