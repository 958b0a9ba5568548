-- What a call's tests have found makes its outcome.
use Rattle.laws.specs.Prelude.{Answer, BadShape, Bool, Damaged, Element, Empty, Full, List, NoTag, Pop, Push, Refusal, Replace, Request, ◌&&◌, ◌*◌, ◌++◌, ◌+◌, ◌-◌, ◌<◌, ◌∙◌, ◌≡◌, ◌≤◌, add-one, and_left, and_right, ap, ap₂, arith, cond, drop, false, length, lt-ltb, not, not-false, not-true, refl, replicate, sub-one, suc, sym, true, untagged, zero, zero-add, ℕ, Result, Ok, Err, None, Some}
use Rattle.tree_node.proofs.Rulings.{pop-empty, pop-takes, push-full, push-puts, push-untagged, replace-empty, replace-swaps, replace-untagged}
use Rattle.tree_node.proofs.Scans.{low-found}
use Rattle.tree_node.proofs.Steps.{lowest-in, room_next, room-up, some-test}
use Rattle.tree_node.specs.Room.{Capacity}
use Rattle.tree_model.proofs.Laws.{called-bad, called-fine, called-root, called-way, has-sum, node-length, op-work, order-few, path-none, room-less, root-limit, shape_is, size_room, words-none}
use Rattle.tree_model.specs.Prelude.{Ruling, Shape, apply_words, called, cleared, has_room, has_some, held_count, is_nothing, levels_of, low, lowest, node_of, node_ok, outcome, read_ok, room, root_of, root_ok, rule_at, ruling, shape_ok, slot_limit, slot_of, slot_words, step_ok, sum_counts, way_ok, wipe, work}
use Rattle.tree_model.specs.declared.Op.{Op}
use Rattle.tree_model.specs.declared.Op.TheVariants.{Nothing, Put, Swap, Take}
use Rattle.tree_model.specs.declared.Slot.{Slot}
use Rattle.tree_path.proofs.Once.{on-path, tested}
use Rattle.tree_path.specs.Down.{Carried, Looked, Placed, Stands}
use Rattle.tree.specs.Untagged.{Bars}

-- ---- the shape
pub called-shape : (m levels : ℕ) (r : Request) (ws : List ℕ) (t : Bool) → t ≡ shape_ok m levels (length ws) → not t ≡ true → outcome (Err BadShape) ws ≡ called m levels r ws
called-shape m levels r ws t e p = sym (called-bad m levels r ws (sym e ∙ not-true t p))

pub counted-shape : (m levels : ℕ) (ws : List ℕ) (t : Bool) → t ≡ shape_ok m levels (length ws) → not t ≡ true → Err BadShape ≡ held_count m levels ws
unfolding held_count
counted-shape m levels ws t e p = rw (← e, not-true t p)

pub clear-shape : (m levels : ℕ) (ws : List ℕ) (t : Bool) → t ≡ shape_ok m levels (length ws) → not t ≡ true → outcome (Err BadShape) ws ≡ cleared m levels ws
unfolding cleared
clear-shape m levels ws t e p = rw (← e, not-true t p)

-- ---- a root that is in order, and nothing is to be done: the answer alone
still : (m levels : ℕ) (ws : List ℕ) → shape_ok m levels (length ws) ≡ true → root_ok m levels ws ≡ true → (r : Request) (a : Answer) → rule_at m levels r ws ≡ ruling a Nothing
    → outcome a ws ≡ called m levels r ws
still m levels ws s o r a rules =
    let n : (work (rule_at m levels r ws).op 0).op ≡ Nothing = op-work (rule_at m levels r ws).op 0 ∙ ap (λ (g : Ruling). g.op) rules in
    sym (called-fine m levels r ws s o (path-none m levels (work (rule_at m levels r ws).op 0) (levels_of m levels ws 0 1) n)
    ∙ ap₂ outcome (ap (λ (g : Ruling). g.answer) rules) (words-none m levels (work (rule_at m levels r ws).op 0) 0 1 ws n))

-- ---- what held answers says of every call
module _ (m levels : ℕ) (ws : List ℕ) where
  -- refused, every call is refused alike
  pub held-refused : (why : Refusal) → Err why ≡ held_count m levels ws → (r : Request) → outcome (Err why) ws ≡ called m levels r ws
  unfolding held_count
  held-refused why e r = go (shape_ok m levels (length ws)) refl (root_ok m levels ws) refl e
    where
      go : (s : Bool) → shape_ok m levels (length ws) ≡ s → (o : Bool) → root_ok m levels ws ≡ o
          → Err why ≡ cond s (cond o (Ok (sum_counts (root_of m ws))) (Err Damaged)) (Err BadShape) → outcome (Err why) ws ≡ called m levels r ws
      go false s o p z = let w : why ≡ BadShape = cc in ap (λ (w : Refusal). outcome (Err w) ws) w ∙ sym (called-bad m levels r ws s)
      go true s false o z = let w : why ≡ Damaged = cc in ap (λ (w : Refusal). outcome (Err w) ws) w ∙ sym (called-root m levels r ws s o)
      go true s true o z = let n : ◌≡◌ {A = ℕ} 0 1 = cc in absurd (omega arith)

  -- and else the shape and the root are in order
  pub held-fine : (n : ℕ) → Ok n ≡ held_count m levels ws → (shape_ok m levels (length ws) ≡ true) × (root_ok m levels ws ≡ true) × (n ≡ sum_counts (root_of m ws))
  unfolding held_count
  held-fine n e = go (shape_ok m levels (length ws)) refl (root_ok m levels ws) refl e
    where
      go : (s : Bool) → shape_ok m levels (length ws) ≡ s → (o : Bool) → root_ok m levels ws ≡ o
          → Ok n ≡ cond s (cond o (Ok (sum_counts (root_of m ws))) (Err Damaged)) (Err BadShape) → (s ≡ true) × (o ≡ true) × (n ≡ sum_counts (root_of m ws))
      go false s o p z = let n : ◌≡◌ {A = ℕ} 0 1 = cc in absurd (omega arith)
      go true s false o z = let n : ◌≡◌ {A = ℕ} 0 1 = cc in absurd (omega arith)
      go true s true o z = (refl, refl, cc)

  -- ---- an element without a tag
  pub bar-refused : (c : Result ℕ Refusal) (why : Refusal) → c ≡ held_count m levels ws → c ≡ Err why → Bars m levels ws (Err why)
  bar-refused c why e u x none = let p = held-refused why (sym u ∙ e) in (p (Push x), p (Replace x))

  pub bar-tag : (c : Result ℕ Refusal) (n : ℕ) → c ≡ held_count m levels ws → c ≡ Ok n → Bars m levels ws (Err NoTag)
  bar-tag c n e u x none =
      let f = held-fine n (sym u ∙ e) in
      (still m levels ws f.0 f.1 (Push x) (Err NoTag) (push-untagged m levels ws x none), still m levels ws f.0 f.1 (Replace x) (Err NoTag) (replace-untagged m levels ws x none))

-- what is known once the shape is tested, and the room below the root's slots counted
pub record Fit (m levels cap : ℕ) (ws : List ℕ) : Type 0 where
  pub shaped : shape_ok m levels (length ws) ≡ true
  pub shape : Shape m levels (length ws)
  pub few : (0 < m) × (m ≤ 8)
  pub below : cap ≡ room m (levels - 1)

-- .. and once the root has been looked at, is whole and holds something
pub record Opened (m levels cap j : ℕ) (ws : List ℕ) : Type 0 where
  pub fits : Fit m levels cap ws
  pub fine : root_ok m levels ws ≡ true
  pub looked : Looked m levels 0 j cap ws
  pub some : sum_counts (root_of m ws) ≡ 0 → ⊥

module _ (m levels : ℕ) (ws : List ℕ) (t : Bool) (shaped : t ≡ shape_ok m levels (length ws)) (yes : not t ≡ false) where
  pub shape-here : Shape m levels (length ws)
  shape-here = shape_is m levels (length ws) (sym shaped ∙ not-false t yes)

  pub shape-few : (0 < m) × (m ≤ 8)
  shape-few = order-few shape-here

  pub fit : (cap : ℕ) → Capacity m (levels - 1) cap → Fit m levels cap ws
  fit cap count =
      let limit : room m (levels - 1) ≤ slot_limit = omega (arith, room-up m (levels - 1) levels shape-few.0 (omega arith), shape-here.capacity) in
      record { shaped = sym shaped ∙ not-false t yes; shape = shape-here; few = shape-few; below = count.within limit }

  -- clear
  module _ (all : ℕ) (count : Capacity m levels all) where
    all-is : all ≡ room m levels
    all-is = count.within shape-here.capacity

    pub clear-fits : (all * slot_words ≤ length ws) × (all ≤ slot_limit)
    clear-fits = (omega (arith, all-is, shape-here.slice), omega (arith, all-is, shape-here.capacity))

    pub clear-done : (q : List ℕ) → q ≡ replicate (all * slot_words) 0 ++ drop (all * slot_words) ws → outcome (Ok None) q ≡ cleared m levels ws
    unfolding cleared wipe
    clear-done q e = rw (← shaped, not-false t yes) (ap (outcome (Ok None)) (e ∙ ap (λ (n : ℕ). replicate (n * slot_words) 0 ++ drop (n * slot_words) ws) all-is))

module _ {m levels cap : ℕ} {ws : List ℕ} (f : Fit m levels cap ws) where
  -- ---- the root
  root-placed : Placed m levels 0 0 1 0 ws
  root-placed =
      let e = size_room m levels 1 in
      record {
        lies = record { order = f.few.0; few = f.few.1; node = omega arith; words = omega (arith, f.shape.slice); small = omega (arith, f.shape.capacity) };
        above = omega arith;
        first = omega arith;
      }

  pub root_stands : Stands m levels 0 cap ws
  root_stands = record { base = 0; nodes = 1; node = 0; placed = root-placed; some = f.shape.some; fits = f.below }

  root-as : (u : Bool) → u ≡ node_ok cap (node_of m ws 0) → u ≡ root_ok m levels ws
  root-as u e = e ∙ ap (λ (n : ℕ). node_ok n (node_of m ws 0)) (f.below ∙ ap (room m) (sub-one levels))

  pub called-damaged : (r : Request) (u : Bool) → u ≡ node_ok cap (node_of m ws 0) → not u ≡ true → outcome (Err Damaged) ws ≡ called m levels r ws
  called-damaged r u e p = sym (called-root m levels r ws f.shaped (sym (root-as u e) ∙ not-true u p))

  pub counted-root : (u : Bool) → u ≡ node_ok cap (node_of m ws 0) → not u ≡ true → Err Damaged ≡ held_count m levels ws
  unfolding held_count
  counted-root u e p = rw (f.shaped, ← root-as u e, not-true u p)

  pub counted-sum : (u : Bool) → u ≡ node_ok cap (node_of m ws 0) → not u ≡ false → (n : ℕ) → n ≡ sum_counts (node_of m ws 0) → (n < 4294967296) × (Ok n ≡ held_count m levels ws)
  unfolding held_count
  counted-sum u e p n s =
      let o : root_ok m levels ws ≡ true = sym (root-as u e) ∙ not-false u p in
      (omega (arith, root-limit m levels ws f.shape.some o, f.shape.capacity), rw (f.shaped, o, ← s))

  -- ---- a request by its ruling, at a root that is in order
  module _ (root : root_ok m levels ws ≡ true) (r : Request) (a : Answer) (o : Op) (rules : rule_at m levels r ws ≡ ruling a o) where
    -- the operation answers whether its path was in order, and has done all of it or nothing
    module _ (t : Bool) (q : List ℕ) (d : Carried m levels 0 o ws t q) where
      way-is : (b : Bool) → t ≡ b → way_ok m levels (rule_at m levels r ws).op ws ≡ b
      way-is b e = ap (λ (g : Ruling). way_ok m levels g.op ws) rules ∙ sym (d 0 1 0 root-placed).0 ∙ e

      words_are : (b : Bool) → t ≡ b → q ≡ cond b (apply_words m levels (work o 0) 0 1 ws) ws
      words_are b e = (d 0 1 0 root-placed).1 ∙ ap (λ (t : Bool). cond t (apply_words m levels (work o 0) 0 1 ws) ws) e

      broken : t ≡ false → outcome (Err Damaged) q ≡ called m levels r ws
      broken e = ap (outcome (Err Damaged)) (words_are false e) ∙ sym (called-way m levels r ws f.shaped root (way-is false e))

      carried : t ≡ true → outcome a q ≡ called m levels r ws
      carried e =
          ap (outcome a) (words_are true e)
          ∙ sym (called-fine m levels r ws f.shaped root (way-is true e)
          ∙ ap (λ (g : Ruling). outcome g.answer (apply_words m levels (work g.op 0) 0 1 ws)) rules)

  -- ---- pop and replace begin with one look at the root
  module _ (j : ℕ) (u : Bool) (whole : u ≡ node_ok cap (node_of m ws 0)) (place : j ≡ lowest (node_of m ws 0)) (fine : not u ≡ false) where
    root-fine : root_ok m levels ws ≡ true
    root-fine = sym (root-as u whole) ∙ not-false u fine

    cap-fine : node_ok cap (node_of m ws 0) ≡ true
    cap-fine = sym whole ∙ not-false u fine

    root_none : j ≡ m → sum_counts (root_of m ws) ≡ 0
    root_none e = go (sum_counts (root_of m ws)) refl
      where
        go : (s : ℕ) → sum_counts (root_of m ws) ≡ s → s ≡ 0
        go zero p = refl
        go (suc s) p = absurd (omega (arith, lowest-in m ws 0 j (omega arith) place))

    pub pop-none : j ≡ m → outcome (Err Empty) ws ≡ called m levels Pop ws
    pop-none e = still m levels ws f.shaped root-fine Pop (Err Empty) (pop-empty m levels ws _ refl (root_none e))

    pub replace-none : (x : Element) → untagged x ≡ false → j ≡ m → outcome (Err Empty) ws ≡ called m levels (Replace x) ws
    replace-none x tag e = still m levels ws f.shaped root-fine (Replace x) (Err Empty) (replace-empty m levels ws _ refl x tag (root_none e))

    pub opened : (j ≡ m → ⊥) → j ≤ m → Opened m levels cap j ws
    opened n most =
        let inside : j < m = omega arith in
        let some : has_some (node_of m ws 0) ≡ true =
        and_right (node_ok cap (node_of m ws 0)) (has_some (node_of m ws 0)) (sym (some-test m ws 0 j cap true place (sym cap-fine)) ∙ lt-ltb j m inside) in
        record {
          fits = f;
          fine = root-fine;
          looked = record { stands = root_stands; whole = cap-fine; place = place; inside = inside };
          some = λ z. omega (arith, has-sum (node_of m ws 0) some);
        }

  -- ---- a push: the put comes first, and only where it is not done the cause is looked for
  room-top : m * suc (room m (levels - 1)) ≡ room m levels
  room-top =
      let e : levels - 1 + 1 ≡ levels = omega (arith, f.shape.some) in
      ap (λ (n : ℕ). m * n) (sym (add-one (room m (levels - 1)))) ∙ room_next m (levels - 1) ∙ ap (room m) e

  known : Capacity m levels (room m levels)
  known = record { within = λ h. refl; above = λ h. h }

  module _ (x : Element) (tag : untagged x ≡ false) (p : Bool) (q : List ℕ) (d : Carried m levels 0 (Put x) ws p q) where
    -- a put that is done had room at the root
    pub push-done : p ≡ true → outcome (Ok None) q ≡ called m levels (Push x) ws
    unfolding step_ok read_ok is_nothing
    push-done e =
        let nd : List Slot = node_of m ws 0 in
        let r : ℕ = room m (levels - 1) in
        let here : tested m 0 ws (Put x) (levels - 1) ≡ true = on-path root_stands (Put x) refl p q d e in
        let read : (node_ok r nd && has_room r nd) ≡ true = and_left (node_ok r nd && has_room r nd) _ here in
        let ok : node_ok r nd ≡ true = and_left (node_ok r nd) (has_room r nd) read in
        let less : sum_counts nd < length nd * suc r = room-less r nd ok (and_right (node_ok r nd) (has_room r nd) read) in
        let top : length nd * suc r ≡ room m levels = ap (λ (n : ℕ). n * suc r) (node-length m ws 0) ∙ room-top in
        let root : root_ok m levels ws ≡ true = ap (λ (n : ℕ). node_ok (room m n) nd) (sym (sub-one levels)) ∙ ok in
        carried root (Push x) (Ok None) (Put x) (push-puts m levels ws (sum_counts nd) refl x tag (room m levels) known f.shape.capacity (omega arith)) p q d e

    module _ (no : p ≡ false) where
      same-words : q ≡ ws
      same-words = (d 0 1 0 root-placed).1 ∙ ap (λ (t : Bool). cond t (apply_words m levels (work (Put x) 0) 0 1 ws) ws) no

      pub push-root : (why : Refusal) → Err why ≡ held_count m levels q → outcome (Err why) q ≡ called m levels (Push x) ws
      push-root why e = ap (outcome (Err why)) same-words ∙ held-refused m levels ws why (e ∙ ap (held_count m levels) same-words) (Push x)

      module _ (n : ℕ) (all : Ok n ≡ held_count m levels q) (most : ℕ) (count : Capacity m levels most) where
        held-is : (root_ok m levels ws ≡ true) × (n ≡ sum_counts (root_of m ws))
        held-is = let h = held-fine m levels ws n (all ∙ ap (held_count m levels) same-words) in (h.1, h.2)

        pub push-below : n < most → outcome (Err Damaged) q ≡ called m levels (Push x) ws
        push-below h = broken held-is.0 (Push x) (Ok None) (Put x) (push-puts m levels ws n held-is.1 x tag most count f.shape.capacity h) p q d no

        pub push-over : most ≤ n → outcome (Err Full) q ≡ called m levels (Push x) ws
        push-over h =
            ap (outcome (Err Full)) same-words ∙ still m levels ws f.shaped held-is.0 (Push x) (Err Full) (push-full m levels ws n held-is.1 x tag most count f.shape.capacity h)

-- ---- pop and replace at a root that holds something
module _ {m levels cap j : ℕ} {ws : List ℕ} (o : Opened m levels cap j ws) (a : Slot) (read : a ≡ slot_of ws j) where
  low-is : a.element ≡ low (root_of m ws)
  low-is = low-found m ws 0 j a o.looked.place o.looked.inside (read ∙ ap (slot_of ws) (sym (zero-add j)))

  module _ (t : Bool) (q : List ℕ) (d : Carried m levels 0 Take ws t q) where
    takes : rule_at m levels Pop ws ≡ ruling (Ok (Some a.element)) Take
    takes = pop-takes m levels ws _ refl o.some a.element low-is

    pub pop-broken : not t ≡ true → outcome (Err Damaged) q ≡ called m levels Pop ws
    pop-broken e = broken o.fits o.fine Pop (Ok (Some a.element)) Take takes t q d (not-true t e)

    pub pop-done : not t ≡ false → outcome (Ok (Some a.element)) q ≡ called m levels Pop ws
    pop-done e = carried o.fits o.fine Pop (Ok (Some a.element)) Take takes t q d (not-false t e)

  module _ (x : Element) (tag : untagged x ≡ false) (t : Bool) (q : List ℕ) (d : Carried m levels 0 (Swap x) ws t q) where
    swaps : rule_at m levels (Replace x) ws ≡ ruling (Ok (Some a.element)) (Swap x)
    swaps = replace-swaps m levels ws _ refl o.some a.element low-is x tag

    pub replace-broken : not t ≡ true → outcome (Err Damaged) q ≡ called m levels (Replace x) ws
    replace-broken e = broken o.fits o.fine (Replace x) (Ok (Some a.element)) (Swap x) swaps t q d (not-true t e)

    pub replace-done : not t ≡ false → outcome (Ok (Some a.element)) q ≡ called m levels (Replace x) ws
    replace-done e = carried o.fits o.fine (Replace x) (Ok (Some a.element)) (Swap x) swaps t q d (not-false t e)
