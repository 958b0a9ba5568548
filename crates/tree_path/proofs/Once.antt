-- A level tested on the way down and written on the way back.
use Rattle.laws.specs.Prelude.{Bool, Element, List, ◌&&◌, ◌*◌, ◌+◌, ◌-◌, ◌/◌, ◌<◌, ◌∙◌, ◌≡◌, ◌≤◌, add-one, ap, ap₂, arith, blank, cond, false, key, le-leb, leb, length, lt-leb, lt-ltb, ltb, mul-le-mul_right, not, not-false, not-true, refl, subst, suc, sym, true, zero, ℕ}
use Rattle.std.specs.Prelude.{None, Some}
use native.Mathlib.Nat.{mul-le-mul}
use Rattle.tree_node.proofs.Under.{under-div}
use Rattle.tree_node.proofs.Scans.{low-found}
use Rattle.tree_node.proofs.Steps.{below-some, lift-ends, lift-reads, move-put, move-swap, move-take, put_first, put_full, put-test, some-test, step-put, step-swap, step-take, swap_ends, swap-lifts, swap-stays, take_ends, take-lifts}
use Rattle.tree_node.specs.Room.{child_of, lift_ok}
use Rattle.tree_node.proofs.Winners.{least-in-none, least-in-some, low-in-none, low-in-place, low-in-some}
use Rattle.tree_node.specs.Look.{least_in, low_in, NodeIn}
use Rattle.tree_model.proofs.Laws.{apply-write, fine-here, op-work, path-none, place_here, rest-here, room-deep, words-none, write-here}
use Rattle.tree_model.specs.Prelude.{apply_words, has_some, is_nothing, keep, least_count, level_of, levels_of, low, lowest, move, node_move, node_of, node_ok, pass, path_ok, rest_words, room, slot_limit, slot_of, slot_words, step_ok, step_words, top, under, work, work_ok, write}
use Rattle.tree_model.specs.declared.Move.{Move}
use Rattle.tree_model.specs.declared.Op.{Op}
use Rattle.tree_model.specs.declared.Op.TheVariants.{Nothing, Put, Swap, Take}
use Rattle.tree_model.specs.declared.Slot.{Slot}
use Rattle.tree_model.specs.declared.Work.{Work}
use Rattle.tree_path.proofs.Down.{Level, level-of, not-zero, size_step, step_in}
use Rattle.tree_path.specs.Down.{Carried, Looked, Placed, Stands}

-- ---- the step of the node at slot `at`, and of the same node in its level
abbrev pub tested : ℕ → ℕ → List ℕ → Op → ℕ → Bool
tested m at ws o k = step_ok m k o (node_of m ws at) (child_of m ((at + 1) * m) ws)

abbrev moved : ℕ → ℕ → List ℕ → Op → Move
moved m at ws o = node_move m o at ((at + 1) * m) ws

module _ (m k b c n at : ℕ) (ws : List ℕ) (p : Placed m (suc k) at b c n ws) where
  here : b + n * m ≡ at
  here = sym p.first

  -- the first slot of the node below the first place
  deeper : b + c * m + n * m * m ≡ (at + 1) * m
  deeper =
      let e : (b + 1) * m + n * m * m ≡ (b + n * m + 1) * m = omega arith in
      ap (λ (f : ℕ). f + n * m * m) p.above ∙ e ∙ ap (λ (a : ℕ). (a + 1) * m) here

  own-level : Level m b c n (length ws)
  own-level = level-of m (suc k) b c n ws p.lies (λ e. omega arith)

  -- the node below place j
  placed_below : (j : ℕ) → j < m → Placed m k ((at + j + 1) * m) (b + c * m) (c * m) (n * m + j) ws
  placed_below j h =
      let s = size_step m k c in
      let l = p.lies in
      let e : (b + n * m + j + 1) * m ≡ b + c * m + (n * m + j) * m = omega (arith, p.above) in
      record {
        lies = record { order = l.order; few = l.few; node = omega (arith, own-level.own); words = omega (arith, l.words); small = omega (arith, l.small) };
        above = omega (arith, p.above);
        first = ap (λ (a : ℕ). (a + j + 1) * m) p.first ∙ e;
      }

  module _ (o : Op) where
    fine-at : work_ok m k (work o n) (level_of m ws b c) (top k (under m k ws b c)) ≡ tested m at ws o k
    fine-at = fine-here m k b c n ws p.lies.node o ∙ ap₂ (λ (i f : ℕ). step_ok m k o (node_of m ws i) (child_of m f ws)) here deeper

    path-off : tested m at ws o k ≡ false → false ≡ path_ok m (suc k) (work o n) (levels_of m (suc k) ws b c)
    unfolding path_ok levels_of
    path-off e = sym (ap (λ (t : Bool). t && path_ok m k (rest_words m k (work o n) b c ws) (under m k ws b c)) (fine-at ∙ e))

    module _ (ok : tested m at ws o k ≡ true) (v : Move) (is : v ≡ moved m at ws o) where
      in-level : step_ok m k o (node_of m ws (b + n * m)) (child_of m (b + c * m + n * m * m) ws) ≡ true
      in-level = ap₂ (λ (i f : ℕ). step_ok m k o (node_of m ws i) (child_of m f ws)) here deeper ∙ ok

      moved-is : node_move m o (b + n * m) (b + c * m + n * m * m) ws ≡ v
      moved-is = ap₂ (λ (i f : ℕ). node_move m o i f ws) here deeper ∙ sym is

      rest-is : rest_words m k (work o n) b c ws ≡ work v.rest (n * m + v.place)
      rest-is = rest-here m k b c n ws p.lies.node o in-level ∙ ap (λ (v : Move). work v.rest (n * m + v.place)) moved-is

      path-on : path_ok m (suc k) (work o n) (levels_of m (suc k) ws b c) ≡ path_ok m k (work v.rest (n * m + v.place)) (under m k ws b c)
      unfolding path_ok levels_of
      path-on =
          ap (λ (t : Bool). t && path_ok m k (rest_words m k (work o n) b c ws) (under m k ws b c)) (fine-at ∙ ok) ∙ ap (λ (w : Work). path_ok m k w (under m k ws b c)) rest-is

      module _ (some : is_nothing o ≡ false) where
        place_in : v.place < m
        place_in = subst (λ (v : Move). v.place < m) moved-is (place_here m k b c n ws p.lies.node o in-level p.lies.order some)

        step_is : step_words m k (work o n) b c ws ≡ write ws (at + v.place) v.slot
        step_is =
            write-here m k b c n ws p.lies.node o in-level some ∙ ap₂ (λ (i : ℕ) (v : Move). write ws (i + v.place) v.slot) here moved-is

        -- what is written below does not read this level, and writes none of it: so the own write may come last
        apply-on : apply_words m (suc k) (work o n) b c ws ≡ write (apply_words m k (work v.rest (n * m + v.place)) (b + c * m) (c * m) ws) (at + v.place) v.slot
        unfolding apply_words
        apply-on =
            ap₂ (λ (w : Work) (r : List ℕ). apply_words m k w (b + c * m) (c * m) r) rest-is step_is
            ∙ apply-write m k (work v.rest (n * m + v.place)) (b + c * m) (c * m) ws (at + v.place) v.slot (omega (arith, own-level.own, place_in, here))

-- ---- any operation at a node
module _ {m k at cap : ℕ} {ws : List ℕ} (st : Stands m k at cap ws) where
  left_is : suc (k - 1) ≡ k
  left_is = omega (arith, st.some)

  this-level : Placed m (suc (k - 1)) at st.base st.nodes st.node ws
  this-level = subst (λ (l : ℕ). Placed m l at st.base st.nodes st.node ws) (sym left_is) st.placed

  module _ (o : Op) (some : is_nothing o ≡ false) where
    at_level : (r : Bool) (q : List ℕ) → Carried m (suc (k - 1)) at o ws r q → Carried m k at o ws r q
    at_level r q d = subst (λ (l : ℕ). Carried m l at o ws r q) left_is d

    off : tested m at ws o (k - 1) ≡ false → Carried m k at o ws false ws
    off e = at_level false ws (λ b c n p. (path-off m (k - 1) b c n at ws p o e, refl))

    -- where all was in order, the node itself was
    pub on-path : (r : Bool) (q : List ℕ) → Carried m k at o ws r q → r ≡ true → tested m at ws o (k - 1) ≡ true
    on-path r q d e = go (tested m at ws o (k - 1)) refl
      where
        go : (t : Bool) → tested m at ws o (k - 1) ≡ t → t ≡ true
        go true n = refl
        go false n = (off n st.base st.nodes st.node st.placed).0 ∙ sym (d st.base st.nodes st.node st.placed).0 ∙ e

    module _ (ok : tested m at ws o (k - 1) ≡ true) (v : Move) (is : v ≡ moved m at ws o) where
      stops : v.rest ≡ Nothing → (r : List ℕ) → r ≡ write ws (at + v.place) v.slot → Carried m k at o ws true r
      stops e r w =
          at_level true r
          (λ b c n p. (
            sym (path-on m (k - 1) b c n at ws p o ok v is ∙ path-none m (k - 1) (work v.rest (n * m + v.place)) _ (op-work v.rest _ ∙ e)),
            w ∙ ap (λ (u : List ℕ). write u (at + v.place) v.slot) (sym (words-none m (k - 1) (work v.rest (n * m + v.place)) (b + c * m) (c * m) ws (op-work v.rest _ ∙ e)))
                ∙ sym (apply-on m (k - 1) b c n at ws p o ok v is some),
          ))

      module _ (q : Bool) (r : List ℕ) (d : Carried m (k - 1) ((at + v.place + 1) * m) v.rest ws q r) where
        -- the work below, in the level below
        done : (b c n : ℕ) → Placed m (suc (k - 1)) at b c n ws
            → (q ≡ path_ok m (k - 1) (work v.rest (n * m + v.place)) (under m (k - 1) ws b c))
            × (r ≡ cond q (apply_words m (k - 1) (work v.rest (n * m + v.place)) (b + c * m) (c * m) ws) ws)
        done b c n p = d (b + c * m) (c * m) (n * m + v.place) (placed_below m (k - 1) b c n at ws p v.place (place_in m (k - 1) b c n at ws p o ok v is some))

        fails : not q ≡ true → Carried m k at o ws false r
        fails e =
            let z : q ≡ false = not-true q e in
            at_level false r
            (λ b c n p. (
              sym z ∙ (done b c n p).0 ∙ sym (path-on m (k - 1) b c n at ws p o ok v is),
              (done b c n p).1 ∙ ap (λ (t : Bool). cond t (apply_words m (k - 1) (work v.rest (n * m + v.place)) (b + c * m) (c * m) ws) ws) z,
            ))

        passes : not q ≡ false → (r' : List ℕ) → r' ≡ write r (at + v.place) v.slot → Carried m k at o ws true r'
        passes e r' w =
            let z : q ≡ true = not-false q e in
            at_level true r'
            (λ b c n p. (
              sym z ∙ (done b c n p).0 ∙ sym (path-on m (k - 1) b c n at ws p o ok v is),
              w ∙ ap (λ (u : List ℕ). write u (at + v.place) v.slot) ((done b c n p).1 ∙ ap (λ (t : Bool). cond t (apply_words m (k - 1) (work v.rest (n * m + v.place)) (b + c * m) (c * m) ws) ws) z)
                  ∙ sym (apply-on m (k - 1) b c n at ws p o ok v is some),
            ))

-- ---- the numbers of a node, and of the node below one of its places
room-step : (m k : ℕ) → 1 ≤ k → room m k ≡ m * suc (room m (k - 1))
unfolding room
room-step m zero h = absurd (omega arith)
room-step m (suc k) h = let e : k ≡ suc k - 1 = omega arith in ap (λ (l : ℕ). m * suc (room m l)) e

pub record Numbers (m at cap len : ℕ) : Type 0 where
  pub order : 0 < m
  pub few : m ≤ 8
  pub slots : at + m ≤ slot_limit
  pub words : slot_words * (at + m) ≤ len
  pub limit : cap ≤ slot_limit

module _ {m k at cap : ℕ} {ws : List ℕ} (st : Stands m k at cap ws) where
  pub numbers : Numbers m at cap (length ws)
  numbers =
      let l = own-level m (k - 1) st.base st.nodes st.node at ws (this-level st) in
      let s = step_in m st.base st.nodes st.node ws k st.placed.lies (not-zero st.some) in
      record {
        order = st.placed.lies.order;
        few = st.placed.lies.few;
        slots = omega (arith, l.slots, l.own, st.placed.first);
        words = omega (arith, l.words, l.own, st.placed.first);
        limit = omega (arith, st.fits, s.limit);
      }

  pub look_in : NodeIn m at ws × (m ≤ 8) × (cap ≤ slot_limit)
  look_in = (record { order = numbers.order; words = numbers.words }, numbers.few, numbers.limit)

  pub below-small : (j : ℕ) → j < m → (at + j + 1) * m ≤ slot_limit * 8
  below-small j h = let l : at + j + 1 ≤ slot_limit = omega (arith, numbers.slots) in mul-le-mul l numbers.few

  module _ (deep : 1 ≤ k - 1) where
    cap-is : cap ≡ m * suc (room m (k - 1 - 1))
    cap-is = st.fits ∙ room-step m (k - 1) deep

    cap-some : 1 ≤ cap
    cap-some = omega (arith, cap-is, mul-le-mul_right (suc (room m (k - 1 - 1))) numbers.order)

    stands-below : (j : ℕ) → j < m → Stands m (k - 1) ((at + j + 1) * m) ((cap - 1) / m) ws
    stands-below j h =
        record {
          base = st.base + st.nodes * m;
          nodes = st.nodes * m;
          node = st.node * m + j;
          placed = placed_below m (k - 1) st.base st.nodes st.node at ws (this-level st) j h;
          some = deep;
          fits = under-div m cap (room m (k - 1 - 1)) numbers.order cap-is;
        }

  -- ---- put
  -- the test of the node, by the place of the smallest count and what is read there
  module _ (x : Element) (j : ℕ) (t : Bool) (whole : t ≡ node_ok cap (node_of m ws at)) (least : j ≡ least_count (node_of m ws at)) (inside : j < m)
      (a : Slot) (read : a ≡ slot_of ws (at + j)) where
    put-tested : tested m at ws (Put x) (k - 1) ≡ (t && leb a.count cap)
    put-tested =
        sym (step-put m (k - 1) (Put x) (node_of m ws at) (child_of m ((at + 1) * m) ws) x cap (t && leb a.count cap) refl
        (record { within = λ h. st.fits; above = λ h. omega (arith, st.fits) }) (omega (arith, st.fits, numbers.limit)) (put-test m ws at j a inside read least cap t whole))

  module _ (x : Element) where
    -- the node is damaged
    pub put-off : None ≡ least_in cap (node_of m ws at) → Carried m k at (Put x) ws false ws
    unfolding is_nothing
    put-off found =
        let z = least-in-none m ws at cap numbers.order found in
        off st (Put x) refl (put-tested x (least_count (node_of m ws at)) false z.0 refl z.1 (slot_of ws (at + least_count (node_of m ws at))) refl)

    module _ (j : ℕ) (found : Some j ≡ least_in cap (node_of m ws at)) where
      put_whole : true ≡ node_ok cap (node_of m ws at)
      put_whole = (least-in-some m ws at cap numbers.order j found).0

      put-least : j ≡ least_count (node_of m ws at)
      put-least = (least-in-some m ws at cap numbers.order j found).1.0

      pub put-inside : j < m
      put-inside = (least-in-some m ws at cap numbers.order j found).1.1

      module _ (a : Slot) (read : a ≡ slot_of ws (at + j)) where
        here-tested : tested m at ws (Put x) (k - 1) ≡ leb a.count cap
        here-tested = put-tested x j true put_whole put-least put-inside a read

        -- every count is at its limit
        pub put-crowded : cap < a.count → Carried m k at (Put x) ws false ws
        unfolding is_nothing
        put-crowded h = off st (Put x) refl (here-tested ∙ lt-leb a.count cap h)

        module _ (fits : a.count ≤ cap) where
          put-fine : tested m at ws (Put x) (k - 1) ≡ true
          put-fine = here-tested ∙ le-leb a.count cap fits

          pub put-ends : a.count ≡ 0 → (r : List ℕ) → r ≡ write ws (at + j) (record { element = x; count = 1 }) → Carried m k at (Put x) ws true r
          unfolding is_nothing
          put-ends z r w =
              stops st (Put x) refl put-fine (move j x 1 Nothing)
              (move-put m (Put x) at ((at + 1) * m) ws _ x refl (put_first m ws at j a put-inside read put-least x _ z refl)) refl r w

          module _ (z : a.count ≡ 0 → ⊥) where
            put-deep : 1 ≤ k - 1
            put-deep = room-deep m (k - 1) (omega (arith, st.fits, fits))

            pub put-cap : 1 ≤ cap
            put-cap = cap-some put-deep

            pub put-stands : Stands m (k - 1) ((at + j + 1) * m) ((cap - 1) / m) ws
            put-stands = stands-below put-deep j put-inside

            module _ (up down : Element) (eu : up ≡ keep x a.element) (ed : down ≡ pass x a.element) (q : Bool) (r : List ℕ)
                (d : Carried m (k - 1) ((at + j + 1) * m) (Put down) ws q r) where
              put-moved : move j up (a.count + 1) (Put down) ≡ moved m at ws (Put x)
              put-moved =
                  move-put m (Put x) at ((at + 1) * m) ws _ x refl
                  (ap₂ (λ (u d : Element). move j u (a.count + 1) (Put d)) eu ed
                  ∙ ap (λ (n : ℕ). move j (keep x a.element) n (Put (pass x a.element))) (add-one a.count) ∙ sym (put_full m ws at j a put-inside read put-least x z))

              pub put-fails : not q ≡ true → Carried m k at (Put x) ws false r
              unfolding is_nothing
              put-fails e = fails st (Put x) refl put-fine (move j up (a.count + 1) (Put down)) put-moved q r d e

              pub put-passes : not q ≡ false → (r' : List ℕ) → r' ≡ write r (at + j) (record { element = up; count = a.count + 1 }) → Carried m k at (Put x) ws true r'
              unfolding is_nothing
              put-passes e r' w = passes st (Put x) refl put-fine (move j up (a.count + 1) (Put down)) put-moved q r d e r' w

-- ---- take and swap, at a node that has been looked at
module _ {m k at j cap : ℕ} {ws : List ℕ} (seen : Looked m k at j cap ws) where
  st : Stands m k at cap ws
  st = seen.stands

  own-whole : node_ok (room m (k - 1)) (node_of m ws at) ≡ true
  own-whole = ap (λ (r : ℕ). node_ok r (node_of m ws at)) (sym st.fits) ∙ seen.whole

  own-some : (node_ok (room m (k - 1)) (node_of m ws at) && has_some (node_of m ws at)) ≡ true
  own-some = sym (some-test m ws at j (room m (k - 1)) true seen.place (sym own-whole)) ∙ lt-ltb j m seen.inside

  -- the first slot of the node below the first place, and of that below place j
  abbrev f : ℕ
  f = (at + 1) * m

  abbrev g : ℕ
  g = (at + j + 1) * m

  child-at : g ≡ f + j * m
  child-at = omega arith

  abbrev lifted : Bool
  lifted = lift_ok m (k - 1) (node_of m ws at) (child_of m f ws)

  via-take : (q : Bool) → q ≡ lifted → tested m at ws Take (k - 1) ≡ q
  via-take q e = sym (step-take m (k - 1) Take (node_of m ws at) (child_of m f ws) q refl e)

  via-swap : (x : Element) (q : Bool) → q ≡ lifted → tested m at ws (Swap x) (k - 1) ≡ q
  via-swap x q e = sym (step-swap m (k - 1) (Swap x) (node_of m ws at) (child_of m f ws) x q refl e)

  module _ (a : Slot) (read : a ≡ slot_of ws (at + j)) where
    -- nothing below
    module _ (h : a.count ≤ 1) (r : List ℕ) where
      last-fine : true ≡ lifted
      last-fine = lift-ends m ws at j a seen.inside read f seen.place (k - 1) own-some h

      pub take_last : (e : Element) → e ≡ blank → r ≡ write ws (at + j) (record { element = e; count = 0 }) → Carried m k at Take ws true r
      unfolding is_nothing
      take_last e eb w =
          stops st Take refl (via-take true last-fine) (move j e 0 Nothing)
          (move-take m Take at f ws _ refl (take_ends m ws at j a seen.inside read f seen.place e _ h eb refl)) refl r w

      pub swap-last : (x : Element) → r ≡ write ws (at + j) (record { element = x; count = a.count }) → Carried m k at (Swap x) ws true r
      unfolding is_nothing
      swap-last x w =
          stops st (Swap x) refl (via-swap x true last-fine) (move j x a.count Nothing)
          (move-swap m (Swap x) at f ws _ x refl (swap_ends m ws at j a seen.inside read f seen.place x _ h refl)) refl r w

    -- something below
    module _ (h : 1 < a.count) where
      lift-deep : 1 ≤ k - 1
      lift-deep = below-some m ws at j a seen.inside read f seen.place (k - 1) own-whole h

      pub lift-cap : 1 ≤ cap
      lift-cap = cap-some st lift-deep

      abbrev cap' : ℕ
      cap' = (cap - 1) / m

      pub lift-stands : Stands m (k - 1) g cap' ws
      lift-stands = stands-below st lift-deep j seen.inside

      lift-tested : (t : Bool) → t ≡ (node_ok cap' (node_of m ws g) && has_some (node_of m ws g)) → t ≡ lifted
      lift-tested t e =
          lift-reads m ws at j a seen.inside read f seen.place (k - 1) t own-some h
          (e ∙ ap₂ (λ (u i : ℕ). node_ok u (node_of m ws i) && has_some (node_of m ws i)) lift-stands.fits child-at)

      module _ (none : None ≡ low_in cap' (node_of m ws g)) where
        tests-off : false ≡ lifted
        tests-off = lift-tested false (low-in-none m ws g cap' none)

        pub take-off : Carried m k at Take ws false ws
        unfolding is_nothing
        take-off = off st Take refl (via-take false tests-off)

        pub swap-off : (x : Element) → Carried m k at (Swap x) ws false ws
        unfolding is_nothing
        swap-off x = off st (Swap x) refl (via-swap x false tests-off)

      module _ (p : ℕ) (found : Some p ≡ low_in cap' (node_of m ws g)) where
        inside : p < m
        inside = (low-in-place m ws g cap' p found).1.1

        tests-on : true ≡ lifted
        tests-on = lift-tested true (low-in-some m ws g cap' p found).0

        lowest-is : p ≡ lowest (node_of m ws g)
        lowest-is = (low-in-place m ws g cap' p found).1.0

        pub lift-looked : Looked m (k - 1) g p cap' ws
        lift-looked = record { stands = lift-stands; whole = (low-in-place m ws g cap' p found).0; place = lowest-is; inside = inside }

        module _ (e : Slot) (read_low : e ≡ slot_of ws (g + p)) where
          up_is : e.element ≡ low (child_of m f ws j)
          up_is = low-found m ws g p e lowest-is inside read_low ∙ ap (λ (i : ℕ). low (node_of m ws i)) child-at

          module _ (q : Bool) (r : List ℕ) (d : Carried m (k - 1) g Take ws q r) where
            take-moved : move j e.element (a.count - 1) Take ≡ moved m at ws Take
            take-moved = move-take m Take at f ws _ refl (take-lifts m ws at j a seen.inside read f seen.place e.element _ h up_is refl)

            pub take-fails : not q ≡ true → Carried m k at Take ws false r
            unfolding is_nothing
            take-fails n = fails st Take refl (via-take true tests-on) (move j e.element (a.count - 1) Take) take-moved q r d n

            pub take-passes : not q ≡ false → (r' : List ℕ) → r' ≡ write r (at + j) (record { element = e.element; count = a.count - 1 }) → Carried m k at Take ws true r'
            unfolding is_nothing
            take-passes n r' w = passes st Take refl (via-take true tests-on) (move j e.element (a.count - 1) Take) take-moved q r d n r' w

          module _ (x : Element) (s : Bool) (is-lower : s ≡ ltb (key e.element) (key x)) where
            pub swap-keeps : not s ≡ true → (r : List ℕ) → r ≡ write ws (at + j) (record { element = x; count = a.count }) → Carried m k at (Swap x) ws true r
            unfolding is_nothing
            swap-keeps n r w =
                stops st (Swap x) refl (via-swap x true tests-on) (move j x a.count Nothing)
                (move-swap m (Swap x) at f ws _ x refl (swap-stays m ws at j a seen.inside read f seen.place x e.element s _ h up_is is-lower (not-true s n) refl)) refl r w

            module _ (yes' : not s ≡ false) (q : Bool) (r : List ℕ) (d : Carried m (k - 1) g (Swap x) ws q r) where
              swap-moved : move j e.element a.count (Swap x) ≡ moved m at ws (Swap x)
              swap-moved =
                  move-swap m (Swap x) at f ws _ x refl
                  (swap-lifts m ws at j a seen.inside read f seen.place x e.element s _ h up_is is-lower (not-false s yes') refl)

              pub swap-fails : not q ≡ true → Carried m k at (Swap x) ws false r
              unfolding is_nothing
              swap-fails n = fails st (Swap x) refl (via-swap x true tests-on) (move j e.element a.count (Swap x)) swap-moved q r d n

              pub swap-passes : not q ≡ false → (r' : List ℕ) → r' ≡ write r (at + j) (record { element = e.element; count = a.count }) → Carried m k at (Swap x) ws true r'
              unfolding is_nothing
              swap-passes n r' w = passes st (Swap x) refl (via-swap x true tests-on) (move j e.element a.count (Swap x)) swap-moved q r d n r' w
