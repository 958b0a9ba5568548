-- The calls, test by test: what each return of the code comes to is what the definition says.
use Rattle.laws.specs.Prelude.{BadShape, Bool, Damaged, Element, Empty, Full, List, NoHeap, NoTag, Pop, Push, Refusal, Replace, Request, ◌&&◌, ◌*◌, ◌++◌, ◌+◌, ◌-◌, ◌<◌, ◌||◌, ◌∙◌, ◌≡◌, ◌≤◌, ◌⊎◌, and_left, ap, ap₂, arith, blank, cond, count_of, drop, eq-eqb, eqb, false, le-ltb, leb, leb-true, length, lt-ltb, ltb, ltb-true, ne_eqb, not, not-suc-le-zero, refl, replicate, set, subst, suc, sym, true, untagged, zero, ℕ, ℕ_discrete, Result, Ok, Err, None, Some}
use Rattle.packed_model.proofs.Numbers.{Deep, deep}
use Rattle.packed_model.proofs.Slice.{slot-by}
use Rattle.packed_model.proofs.Tests.{size-pos}
use Rattle.packed_model.proofs.Words.{spot-lies, write-length, write-other, write_same}
use Rattle.packed_model.specs.Calls.{called, cleared, does, held_count, Outcome, outcome, reads_ok, root_ok, served, shape_ok, wipe}
use Rattle.packed_model.specs.Causes.{Shape}
use Rattle.packed_model.specs.Node.{Op, put, sink, size}
use Rattle.packed_model.specs.Words.{capacity, cut_last, depth, extent, last_in, last_slot, Lies, run_words, slot_at, slot_in, slot_of, tagged, towards, way_ok, word, write_slot, zero_slot}
use Rattle.packed_way.proofs.Putted.{found-done, found_ok, found-ready, ok-is, run_is}
use Rattle.packed_way.proofs.Slots.{tagged_is}
use Rattle.packed_way.proofs.Sinks.{hole-is, hole-not}
use Rattle.std.specs.Prelude.{None, Option, Some, take}
use lib.Seq.{length-take-le}
use Rattle.packed_way.specs.Put.{PutDone, PutFound, put_ok, PutReady, PutSought}
use Rattle.packed_way.specs.Sink.{Climbed, Found, Reads, Seat, SinkReady, Sought}
use Rattle.packed.proofs.Shapes.{Ground, ground, shape-few, shape_is, size-most}
use Rattle.packed.proofs.Seats.{gets-lies, held-before, held_to, not_top}
use Rattle.packed.specs.Open.{Opened}

module _ (H levels h : ℕ) (ws : List ℕ) where
  -- ---- held
  pub held-shape : (s : Bool) → s ≡ shape_ok H levels (length ws) → s ≡ false → Err BadShape ≡ held_count H levels h ws
  unfolding held_count
  held-shape s p q = rw (sym p ∙ q) refl

  pub held_none : (s : Bool) → s ≡ shape_ok H levels (length ws) → s ≡ true → H ≤ h → Err NoHeap ≡ held_count H levels h ws
  unfolding held_count
  held_none s p q l = rw (sym p ∙ q, le-ltb h H l) refl

  pub held-bad : (s r : Bool) → s ≡ shape_ok H levels (length ws) → s ≡ true → h < H → r ≡ root_ok H levels h ws → r ≡ false → Err Damaged ≡ held_count H levels h ws
  unfolding held_count
  held-bad s r p q l e f = rw (sym p ∙ q, lt-ltb h H l, sym e ∙ f) refl

  pub held-fine : (s r : Bool) → s ≡ shape_ok H levels (length ws) → s ≡ true → h < H → r ≡ root_ok H levels h ws → r ≡ true → Ok (word ws h) ≡ held_count H levels h ws
  unfolding held_count
  held-fine s r p q l e f = rw (sym p ∙ q, lt-ltb h H l, sym e ∙ f) refl

  -- ---- what held says of a call
  told : (n : ℕ) (y : Refusal) → Ok n ≡ Err y → ⊥
  told n y e = subst (λ (c : Result ℕ Refusal). Is c) e tt
    where
      Is : Result ℕ Refusal → Type 0
      Is (Ok n) = Unit {0}
      Is (Err y) = ⊥

  why : Result ℕ Refusal → Refusal
  why (Ok n) = BadShape
  why (Err y) = y

  pub called-refused : (r : Request) (y : Refusal) → Err y ≡ held_count H levels h ws → outcome (Err y) ws ≡ called H levels h r ws
  unfolding held_count called served why
  called-refused r y e = go (shape_ok H levels (length ws)) (ltb h H) (root_ok H levels h ws) e
    where
      go : (a b c : Bool) → Err y ≡ cond a (cond b (cond c (Ok (word ws h)) (Err Damaged)) (Err NoHeap)) (Err BadShape)
          → outcome (Err y) ws ≡ cond a (cond b (cond c (served H levels h r ws) (outcome (Err Damaged) ws)) (outcome (Err NoHeap) ws)) (outcome (Err BadShape) ws)
      go false b c e = ap (λ (z : Result ℕ Refusal). outcome (Err (why z)) ws) e
      go true false c e = ap (λ (z : Result ℕ Refusal). outcome (Err (why z)) ws) e
      go true true false e = ap (λ (z : Result ℕ Refusal). outcome (Err (why z)) ws) e
      go true true true e = absurd (told (word ws h) y (sym e))

  pub opened : (n : ℕ) → Ok n ≡ held_count H levels h ws → Opened H levels h n ws
  unfolding held_count
  opened n e = go (shape_ok H levels (length ws)) refl (ltb h H) refl (root_ok H levels h ws) refl e
    where
      go : (a : Bool) → shape_ok H levels (length ws) ≡ a → (b : Bool) → ltb h H ≡ b → (c : Bool) → root_ok H levels h ws ≡ c
          → Ok n ≡ cond a (cond b (cond c (Ok (word ws h)) (Err Damaged)) (Err NoHeap)) (Err BadShape) → Opened H levels h n ws
      go false p b q c r e = absurd (told n BadShape e)
      go true p false q c r e = absurd (told n NoHeap e)
      go true p true q false r e = absurd (told n Damaged e)
      go true p true q true r e = record { shape = p; heap = ltb-true h H q; held = ap count_of e; root = r }

  pub called-open : (r : Request) (n : ℕ) → Opened H levels h n ws → served H levels h r ws ≡ called H levels h r ws
  unfolding called served
  called-open r n o = rw (o.shape, lt-ltb h H o.heap, o.root) refl

pub depth-few : (levels t d : ℕ) → levels ≤ 17 → d ≡ depth levels t → d ≤ 17
unfolding depth
depth-few levels t d l e = omega (arith, e, depth-most levels t)
  where
    depth-most : (k t : ℕ) → depth k t ≤ k
    depth-most zero t = omega arith
    depth-most (suc k) t = go (leb (size k) t) (depth-most k t)
      where
        go : (b : Bool) → depth k t ≤ k → cond b k (depth k t) ≤ suc k
        go true z = omega arith
        go false z = omega (arith, z)

-- ---- a call that is open
module _ (H levels h n : ℕ) (ws : List ℕ) (o : Opened H levels h n ws) where
  pub open-ground : Ground H levels h (length ws)
  open-ground = ground H levels h ws (record { shape = o.shape; heap = o.heap })

  pub open-room : n ≤ capacity levels
  unfolding root_ok
  open-room =
      let b : Bool = cond (eqb (word ws h) 0) (zero_slot H ws h) (tagged H ws h) in
      omega (arith, o.held, leb-true (word ws h) (capacity levels) (and_left (leb (word ws h) (capacity levels)) b o.root))

  pub open-small : capacity levels ≤ 131071
  unfolding capacity
  open-small = omega (arith, size-most levels open-ground.few)

  lies-less : (j k m l : ℕ) → j ≤ k → Lies H k m l → Lies H j m l
  lies-less zero k m l p z = tt
  lies-less (suc j) zero m l p z = absurd (not-suc-le-zero p)
  lies-less (suc j) (suc k) m l p z =
      (z.0, lies-less j k (m + m + H) l (omega arith) z.1, lies-less j k (m + m + H + 1) l (omega arith) z.2)

  -- a position of the heap
  pub record At (t d q : ℕ) : Type 0 where
    pub small : d ≤ 16
    pub inside : d < levels
    pub from : q ≤ t
    pub upto : t - q < size d
    pub lies : Lies H (suc d) h (length ws)

  pub at : (t d q : ℕ) → 0 < t → t ≤ capacity levels → d ≡ depth levels t → q ≡ size d → At t d q
  unfolding capacity
  at t d q p l e f =
      let g : Deep levels t (depth levels t) = deep levels t p (omega (arith, l, size-pos levels)) in
      let i : d < levels = omega (arith, e, g.within) in
      let s : size d ≡ size (depth levels t) = ap size e in
      record {
        small = omega (arith, i, open-ground.few);
        inside = i;
        from = omega (arith, f, s, g.from);
        upto = omega (arith, f, s, g.from, g.upto);
        lies = lies-less (suc d) levels h (length ws) i open-ground.lies;
      }

  -- ---- push
  module _ (x : Element) (b : Bool) (tag : b ≡ untagged x) where
    pub push-tag : b ≡ true → outcome (Err NoTag) ws ≡ served H levels h (Push x) ws
    unfolding served reads_ok does
    push-tag t = rw (sym tag ∙ t) refl

    pub push-full : b ≡ false → (count cap : ℕ) → count ≡ n → cap ≡ capacity levels → cap ≤ count → outcome (Err Full) ws ≡ served H levels h (Push x) ws
    unfolding served reads_ok does
    push-full t count cap p q l = rw (sym tag ∙ t, le-ltb (word ws h) (capacity levels) (omega (arith, p, q, o.held))) refl

    module _ (t : b ≡ false) (count cap d q : ℕ) (p : count ≡ n) (c : cap ≡ capacity levels) (l : count < cap) (e : d ≡ depth levels (count + 1)) (f : q ≡ size d) where
      pub push_at : At (count + 1) d q
      push_at = at (count + 1) d q (omega arith) (omega (arith, c, l)) e f

      count-is : count ≡ word ws h
      count-is = p ∙ o.held

      d-is : d ≡ depth levels (word ws h + 1)
      d-is = e ∙ ap (λ (i : ℕ). depth levels (i + 1)) count-is

      op-is : put d (count + 1 - q) x ≡ towards levels (word ws h + 1) x
      unfolding towards
      op-is = ap₂ (λ (i r : ℕ). put i r x) d-is (ap₂ (λ (i s : ℕ). i + 1 - s) count-is (f ∙ ap size d-is))

      reads-is : reads_ok H levels h (Push x) ws ≡ put_ok H d (count + 1 - q) h ws
      unfolding reads_ok
      reads-is =
          ap (λ (o : Op). way_ok H levels (word ws h) o 1 h ws) (sym op-is) ∙ ok-is H open-ground.shape.one levels (word ws h) d (count + 1 - q) x 1 h ws push_at.inside

      is-pushed : cond (reads_ok H levels h (Push x) ws) (outcome (Ok None) (does H levels h (Push x) ws)) (outcome (Err Damaged) ws) ≡ served H levels h (Push x) ws
      unfolding served
      is-pushed = rw (sym tag ∙ t, lt-ltb (word ws h) (capacity levels) (omega (arith, p, c, l, o.held))) refl

      module _ (end : ℕ) (pe : end ≡ slot_at H h d (count + 1 - q)) where
        pub end-lies : H + end * 3 + 3 ≤ length ws
        end-lies = rw pe (spot-lies H levels h d (count + 1 - q) (length ws) push_at.inside open-ground.lies)

        pub push-bad : PutSought H end x ws None → outcome (Err Damaged) ws ≡ served H levels h (Push x) ws
        push-bad s = let g : put_ok H d (count + 1 - q) h ws ≡ false = s d (count + 1 - q) h o.heap pe in rw (reads-is ∙ g) at is-pushed

        module _ (from : ℕ) (s : PutSought H end x ws (Some from)) where
          found : PutFound H d (count + 1 - q) h x ws (Some from)
          found = s d (count + 1 - q) h o.heap pe

          pub push-ready : PutReady H end from (length ws)
          push-ready = found-ready H open-ground.shape.one d (count + 1 - q) h push_at.upto end pe x ws (length ws) push_at.small end-lies from found

          pub push-done : (vs : List ℕ) → PutDone H end from x ws vs → outcome (Ok None) (set vs h (n + 1)) ≡ served H levels h (Push x) ws
          unfolding does
          push-done vs v =
              let g : put_ok H d (count + 1 - q) h ws ≡ true = found_ok H open-ground.shape.one d (count + 1 - q) h push_at.upto end pe x ws from found in
              let w : vs ≡ run_words H levels (towards levels (word ws h + 1) x) h ws =
              found-done H open-ground.shape.one d (count + 1 - q) h push_at.upto end pe x ws from found vs v
              ∙ sym (run_is H open-ground.shape.one levels d (count + 1 - q) x h ws push_at.inside) ∙ ap (λ (o : Op). run_words H levels o h ws) op-is in
              ap₂ (λ (us : List ℕ) (i : ℕ). outcome (Ok None) (set us h (i + 1))) w o.held ∙ rw (reads-is ∙ g) at is-pushed

  -- ---- sinks, of all levels
  whole : suc (levels - 1) ≡ levels
  whole = omega (arith, open-ground.shape.some)

  pub sink-ready : (last p : ℕ) → H + last * 3 + 3 ≤ length ws → (last < p) ⊎ (p < H) → SinkReady H (levels - 1) last p h ws
  sink-ready last p r z =
      record {
        one = open-ground.shape.one;
        there = o.heap;
        lies = subst (λ (k : ℕ). Lies H k h (length ws)) (sym whole) open-ground.lies;
        ends = r;
        hole = z;
      }

  -- what is sought and found, in words us of this length as they are read
  module _ (us : List ℕ) (len : length us ≡ length ws) (m : ℕ) (x : Element) where
    pub found_none : Found H (levels - 1) x h us m None → way_ok H levels m (sink x) 1 h us ≡ false
    found_none f = subst (λ (k : ℕ). way_ok H k m (sink x) 1 h us ≡ false) whole f

    module _ (r : ℕ) (f : Found H (levels - 1) x h us m (Some r)) where
      pub found_some : way_ok H levels m (sink x) 1 h us ≡ true
      found_some = subst (λ (k : ℕ). way_ok H k m (sink x) 1 h us ≡ true) whole f.0

      pub found-room : H + r * 3 + 3 ≤ length ws
      found-room =
          (gets-lies H (levels - 1) x h us (length ws) f.1.k r f.1.gets (subst (λ (k : ℕ). Lies H k h (length ws)) (sym whole) open-ground.lies)).0

      pub found-run : (vs : List ℕ) → Climbed H r x us vs → vs ≡ run_words H levels (sink x) h us
      found-run vs c = subst (λ (k : ℕ). vs ≡ run_words H k (sink x) h us) whole (c (levels - 1) h o.heap f.1)

  -- ---- the slot of a position
  module _ (count d q : ℕ) (pc : count ≡ n) (some : 0 < n) (e : d ≡ depth levels count) (f : q ≡ size d) where
    pub slot-at-of : At count d q
    slot-at-of = at count d q (omega (arith, pc, some)) (omega (arith, pc, open-room)) e f

    module _ (p : ℕ) (pp : p ≡ slot_at H h d (count - q)) where
      pub seat-of : Seat H h (word ws h) p
      seat-of =
          record {
            e = d;
            j = count - q;
            place = omega (arith, pc, o.held, f, slot-at-of.from);
            within = slot-at-of.upto;
            slot = ap (λ (i : ℕ). i + H) pp ∙ slot-by H h d (count - q) slot-at-of.upto;
          }

      pub slot-lies : H + p * 3 + 3 ≤ length ws
      slot-lies = rw pp (spot-lies H levels h d (count - q) (length ws) slot-at-of.inside open-ground.lies)

      pub last-is : p ≡ last_slot H levels h ws
      unfolding last_slot slot_of
      last-is =
          let w : count ≡ word ws h = pc ∙ o.held in
          pp ∙ ap₂ (λ (i j : ℕ). slot_at H h i j) (e ∙ ap (depth levels) w) (ap₂ (λ (i j : ℕ). i - j) w (f ∙ ap size (e ∙ ap (depth levels) w)))

  -- below the first level: no top
  pub not_first : (n ≡ 0 → ⊥) → (n ≡ 1 → ⊥) → (p : ℕ) → Seat H h (word ws h) p → 1 ≤ p
  not_first z m p s = not_top H h (word ws h) p open-ground.shape.one (omega (arith, o.held)) s

  pub before_last : (n ≡ 0 → ⊥) → (n ≡ 1 → ⊥) → (p : ℕ) → Seat H h (word ws h) p → p - 1 < p
  before_last z m p s = omega (arith, not_first z m p s)

  -- ---- replace
  module _ (x : Element) (b : Bool) (tag : b ≡ untagged x) where
    pub replace-tag : b ≡ true → outcome (Err NoTag) ws ≡ served H levels h (Replace x) ws
    unfolding served reads_ok does
    replace-tag t = rw (sym tag ∙ t) refl

    pub replace-none : b ≡ false → n ≡ 0 → outcome (Err Empty) ws ≡ served H levels h (Replace x) ws
    unfolding served reads_ok does
    replace-none t z = rw (sym tag ∙ t, eq-eqb (word ws h) 0 (sym o.held ∙ z)) refl

    module _ (t : b ≡ false) (some : n ≡ 0 → ⊥) (last : ℕ) (seat : Seat H h (word ws h) last) where
      found-replace : (r : Option ℕ) → Sought H (levels - 1) last h h x ws r → Found H (levels - 1) x h ws (word ws h) r
      found-replace r s = s (word ws h) (held_to H h (word ws h) last open-ground.shape.one seat) ws (λ m l. hole-not H h ws m (λ z. omega (arith, z, l, o.heap)))

      is-replaced : cond (way_ok H levels (word ws h) (sink x) 1 h ws) (outcome (Ok (Some (slot_in H ws h))) (run_words H levels (sink x) h ws)) (outcome (Err Damaged) ws) ≡ served H levels h (Replace x) ws
      unfolding served reads_ok does
      is-replaced = rw (sym tag ∙ t, ne_eqb (word ws h) 0 (λ z. some (o.held ∙ z))) refl

      pub replace-bad : Sought H (levels - 1) last h h x ws None → outcome (Err Damaged) ws ≡ served H levels h (Replace x) ws
      replace-bad s = rw (found_none ws refl (word ws h) x (found-replace None s)) at is-replaced

      module _ (r : ℕ) (s : Sought H (levels - 1) last h h x ws (Some r)) where
        pub replace-room : H + r * 3 + 3 ≤ length ws
        replace-room = found-room ws refl (word ws h) x r (found-replace (Some r) s)

        pub replace-done : (e : Element) → e ≡ slot_in H ws h → (vs : List ℕ) → Climbed H r x ws vs → outcome (Ok (Some e)) vs ≡ served H levels h (Replace x) ws
        replace-done e p vs c =
            ap₂ (λ (e : Element) (us : List ℕ). outcome (Ok (Some e)) us) p (found-run ws refl (word ws h) x r (found-replace (Some r) s) vs c)
            ∙ rw (found_some ws refl (word ws h) x r (found-replace (Some r) s)) at is-replaced

  -- ---- pop
  pub pop-none : n ≡ 0 → outcome (Err Empty) ws ≡ served H levels h Pop ws
  unfolding served reads_ok does
  pop-none z = rw (eq-eqb (word ws h) 0 (sym o.held ∙ z)) refl

  module _ (some : n ≡ 0 → ⊥) (p : ℕ) (pl : p ≡ last_slot H levels h ws) (fits : H + p * 3 + 3 ≤ length ws) (last : Element) (le : last ≡ slot_in H ws p) where
    abbrev us : List ℕ
    us = write_slot H ws p blank

    cut-is : us ≡ cut_last H levels h ws
    unfolding cut_last
    cut-is = ap (λ (i : ℕ). write_slot H ws i blank) pl

    in_is : last ≡ last_in H levels h ws
    unfolding last_in
    in_is = le ∙ ap (slot_in H ws) pl

    -- what a pop comes to, by the last entry's slot, element, and the words without it
    abbrev pop_by : ℕ → Element → List ℕ → Outcome
    pop_by p e us =
        cond (tagged H ws p && (eqb (word ws h) 1 || way_ok H levels (word ws h - 1) (sink e) 1 h us))
        (outcome (Ok (Some (slot_in H ws h))) (set (cond (eqb (word ws h) 1) us (run_words H levels (sink e) h us)) h (word ws h - 1))) (outcome (Err Damaged) ws)

    is-popped : pop_by p last us ≡ served H levels h Pop ws
    unfolding served reads_ok does
    is-popped =
        (λ i. pop_by (pl i) (in_is i) (cut-is i)) ∙ rw (ne_eqb (word ws h) 0 (λ z. some (o.held ∙ z))) refl

    module _ (b : Bool) (tag : b ≡ untagged last) where
      tagged-by : tagged H ws p ≡ not b
      tagged-by = tagged_is H ws p ∙ ap not (ap untagged (sym le) ∙ sym tag)

      pub pop-bare : b ≡ true → outcome (Err Damaged) ws ≡ served H levels h Pop ws
      pop-bare t = let w : tagged H ws p ≡ false = tagged-by ∙ ap not t in rw w at is-popped

      module _ (t : b ≡ false) (top : Element) (pt : top ≡ slot_in H ws h) where
        has : tagged H ws p ≡ true
        has = tagged-by ∙ ap not t

        pub pop-only : n ≡ 1 → (none : Element) (vs : List ℕ) → none ≡ blank → vs ≡ write_slot H ws p none → outcome (Ok (Some top)) (set vs h 0) ≡ served H levels h Pop ws
        pop-only z none vs pn pv =
            let one : word ws h ≡ 1 = sym o.held ∙ z in
            ap₂ (λ (e : Element) (us : List ℕ). outcome (Ok (Some e)) (set us h 0)) pt (pv ∙ ap (write_slot H ws p) pn) ∙ ap (λ (i : ℕ). outcome (Ok (Some (slot_in H ws h))) (set us h i)) (omega (arith, one)) ∙ rw (has, eq-eqb (word ws h) 1 one) at is-popped

        module _ (more : n ≡ 1 → ⊥) (seat : Seat H h (word ws h) p) where
          many : word ws h ≡ 1 → ⊥
          many z = more (o.held ∙ z)

          above : (word ws h ≡ 1 → ⊥) → 1 < word ws h
          above z = let nz : n ≡ 0 → ⊥ = some in omega (arith, o.held)

          reads-cut : Reads H p ws us
          reads-cut m l = elim (ℕ_discrete m p) [ yes e ↦ hole-is H p ws m (slot_in H us m) e (ap (slot_in H us) e ∙ write_same H ws p blank fits) | no e ↦ write-other H ws p blank m e ∙ hole-not H p ws m e ]

          found-pop : (r : Option ℕ) → Sought H (levels - 1) (p - 1) p h last ws r → Found H (levels - 1) last h us (word ws h - 1) r
          found-pop r s = s (word ws h - 1) (held-before H h (word ws h) p open-ground.shape.one (omega (arith, above many)) (not_top H h (word ws h) p open-ground.shape.one (above many) seat) seat) us reads-cut

          pub pop-stop : Sought H (levels - 1) (p - 1) p h last ws None → outcome (Err Damaged) ws ≡ served H levels h Pop ws
          pop-stop s = rw (has, ne_eqb (word ws h) 1 many, found_none us (write-length H ws p blank) (word ws h - 1) last (found-pop None s)) at is-popped

          module _ (r : ℕ) (s : Sought H (levels - 1) (p - 1) p h last ws (Some r)) where
            pub pop-done : (none : Element) (vs zs : List ℕ) → none ≡ blank → vs ≡ write_slot H ws p none → Climbed H r last vs zs → outcome (Ok (Some top)) (set zs h (n - 1)) ≡ served H levels h Pop ws
            pop-done none vs zs pn pv c =
                let f : Found H (levels - 1) last h us (word ws h - 1) (Some r) = found-pop (Some r) s in
                let g : zs ≡ run_words H levels (sink last) h us = found-run us (write-length H ws p blank) (word ws h - 1) last r f zs (subst (λ (v : List ℕ). Climbed H r last v zs) (pv ∙ ap (write_slot H ws p) pn) c) in
                (λ i. outcome (Ok (Some (pt i))) (set (g i) h (o.held i - 1))) ∙ rw (has, ne_eqb (word ws h) 1 many, found_some us (write-length H ws p blank) (word ws h - 1) last r f) at is-popped

            pub pop-room : H + r * 3 + 3 ≤ length ws
            pop-room = found-room us (write-length H ws p blank) (word ws h - 1) last r (found-pop (Some r) s)

-- ---- clear
module _ (H levels : ℕ) (ws : List ℕ) (s : Bool) (p : s ≡ shape_ok H levels (length ws)) where
  pub clear-shape : s ≡ false → outcome (Err BadShape) ws ≡ cleared H levels ws
  unfolding cleared
  clear-shape q = rw (sym p ∙ q) refl

  pub clear-ground : s ≡ true → Shape H levels (length ws)
  clear-ground q = shape_is H levels (length ws) (sym p ∙ q)

  pub clear-few : s ≡ true → levels ≤ 17
  clear-few q = shape-few H levels (length ws) (clear-ground q)

  pub clear-fits : s ≡ true → (n : ℕ) → n ≡ capacity levels → (H * n ≤ 131071) × (H ≤ 256) × (H + H * n * 3 ≤ length ws)
  unfolding extent
  clear-fits q n e =
      let g : Shape H levels (length ws) = clear-ground q in
      let z : H * n ≡ H * capacity levels = ap (λ (i : ℕ). H * i) e in
      (omega (arith, z, g.slots), g.most, omega (arith, z, g.slice))

  pub clear-done : s ≡ true → (n : ℕ) → n ≡ capacity levels → (zs : List ℕ) → zs ≡ replicate (length (take (H + H * n * 3) ws)) 0 → outcome (Ok None) (zs ++ drop (H + H * n * 3) ws) ≡ cleared H levels ws
  unfolding cleared wipe extent
  clear-done q n e zs f =
      let z : zs ≡ replicate (H + H * n * 3) 0 = f ∙ ap (λ (k : ℕ). replicate k 0) (length-take-le (H + H * n * 3) ws (clear-fits q n e).2) in
      rw (sym p ∙ q) (ap (λ (v : List ℕ). outcome (Ok None) (v ++ drop (H + H * n * 3) ws)) z ∙ ap (λ (i : ℕ). outcome (Ok None) (replicate (H + H * i * 3) 0 ++ drop (H + H * i * 3) ws)) e)
