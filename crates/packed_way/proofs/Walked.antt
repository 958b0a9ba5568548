-- The walk down a sink's way, and the climb back.
use Rattle.laws.specs.Prelude.{Bool, Element, List, ◌&&◌, ◌*◌, ◌+◌, ◌-◌, ◌/◌, ◌<◌, ◌||◌, ◌∙◌, ◌≡◌, ◌≤◌, ◌⊎◌, ap, ap₂, arith, blank, cond, eqb, false, inl, inr, is_blank, le-leb, leb, leb-false, leb-true, length, lt-leb, ltb, ltb-false, ltb-true, not, not-suc-le-zero, refl, subst, suc, sym, true, untagged, zero, ℕ}
use Rattle.packed_model.proofs.Ways.{way-none}
use Rattle.packed_model.proofs.Words.{words-none, write-other}
use Rattle.packed_model.specs.Node.{lhs, lifts, lower_side, none, pick, rhs, Side, sink, sink_by, size, step, Stepped, stepped}
use Rattle.packed_model.specs.Words.{below, child, Lies, own_ok, place_ok, run_words, slot_in, step_in, top_in, touch, way_ok, word, works, write_slot}
use Rattle.packed_way.proofs.Sinks.{Leads, read_goes, read-stay, read-torn}
use Rattle.packed_way.proofs.Slots.{tagged_is, zero_is}
use Rattle.packed_way.specs.Sink.{EdgeSought, Ends, fine, Found, Gets, HeldTo, on, Reads, Seat, sink_to, slot_but, Sought, top, towards, Walk}
use Rattle.packed_way.specs.declared.Goes.{Goes}
use Rattle.packed_way.specs.declared.Goes.TheVariants.{Nowhere}
use Rattle.std.specs.Prelude.{min, None, Option, Some}

-- ---- seats
pub seat-top : (H h : ℕ) → Seat H h 1 h
unfolding size
seat-top H h = record { e = 0; j = 0; place = refl; within = omega arith; slot = omega arith }

seat-left : (H h i m : ℕ) → Seat H h i m → Seat H h (i + i) (child H m lhs)
unfolding size
seat-left H h i m s = record { e = suc s.e; j = s.j + s.j; place = omega (arith, s.place); within = omega (arith, s.within); slot = omega (arith, s.slot) }

seat-right : (H h i m : ℕ) → Seat H h i m → Seat H h (i + i + 1) (child H m rhs)
unfolding size
seat-right H h i m s = record { e = suc s.e; j = s.j + s.j + 1; place = omega (arith, s.place); within = omega (arith, s.within); slot = omega (arith, s.slot) }

seat-child : (H h i m : ℕ) (d : Side) → Seat H h i m → Seat H h (below i d) (child H m d)
seat-child H h i m lhs s = seat-left H h i m s
seat-child H h i m rhs s = seat-right H h i m s

same-leb : (a b c d : ℕ) → (a ≤ b → c ≤ d) × (c ≤ d → a ≤ b) → leb a b ≡ leb c d
same-leb a b c d f = go (leb c d) refl
  where
    go : (t : Bool) → leb c d ≡ t → leb a b ≡ t
    go true e = le-leb a b (f.1 (leb-true c d e))
    go false e = lt-leb a b (above (λ l. omega (arith, f.0 l, leb-false c d e)))
      where
        above : (a ≤ b → ⊥) → b < a
        above n = omega arith

-- ---- what a step tells: that a child is damaged, that x stays, and to which side it goes
some-not : (g : Goes) → None ≡ Some g → ⊥
some-not g e = cc

moves : (d : Side) → Some (towards d) ≡ Some Nowhere → ⊥
moves lhs e = cc
moves rhs e = cc

same_side : (d e : Side) → Some (towards d) ≡ Some (towards e) → d ≡ e
same_side lhs lhs z = refl
same_side lhs rhs z = cc
same_side rhs lhs z = cc
same_side rhs rhs z = refl

-- ---- down
module _ (H left : ℕ) (x : Element) (h : ℕ) (us : List ℕ) (n : ℕ) where
  pub walk_top : Walk H left x h us n left h
  walk_top = record { i = 1; seat = seat-top H h; gets = top; way = refl }

  -- no levels below: x comes to rest
  pub walk-last : (m : ℕ) → Walk H left x h us n 0 m → Found H left x h us n (Some m)
  unfolding way_ok own_ok step_in step sink_by lifts lower_side top_in blank untagged
  walk-last m w = (w.way, record { k = 0; gets = w.gets; rests = refl })

  module _ (last : ℕ) (held : HeldTo H h n last) (k m : ℕ) (w : Walk H left x h us n (suc k) m) where
    abbrev a : Element
    a = slot_in H us (child H m lhs)

    abbrev b : Element
    b = slot_in H us (child H m rhs)

    place_is : (i m : ℕ) → Seat H h i m → place_ok H n i us m ≡ fine (leb m last) (slot_in H us m)
    unfolding place_ok fine
    place_is i m s = rw (same-leb i n m last (held i m s), tagged_is H us m, zero_is H us m) (go (leb m last))
      where
        go : (t : Bool) → cond t (not (untagged (slot_in H us m))) (is_blank (slot_in H us m)) ≡ fine t (slot_in H us m)
        go true = refl
        go false = refl

    abbrev in_order : Bool
    in_order = fine (leb (child H m lhs) last) a && fine (leb (child H m rhs) last) b

    step_is : step_in H (suc k) (sink x) m us ≡ sink_by (lifts x (pick (lower_side a b) a b)) (lower_side a b) x a b
    unfolding step_in step top_in
    step_is = refl

    -- the way from here: the children, and then on
    way-is : (v : Stepped) → step_in H (suc k) (sink x) m us ≡ v
        → way_ok H (suc left) n (sink x) 1 h us ≡ (in_order && way_ok H (suc k) n v.op (below w.i v.side) (child H m v.side) us)
    unfolding way_ok own_ok
    way-is v e =
        w.way ∙ ap₂ (λ (c d : Bool). c && d) (ap₂ (λ (c d : Bool). c && d) (place_is (w.i + w.i) (child H m lhs) (seat-left H h w.i m w.seat)) (place_is (w.i + w.i + 1) (child H m rhs) (seat-right H h w.i m w.seat)))
        (ap (λ (v : Stepped). way_ok H (suc k) n v.op (below w.i v.side) (child H m v.side) us) e)

    pick_is : (d : Side) → pick d a b ≡ slot_in H us (child H m d)
    pick_is lhs = refl
    pick_is rhs = refl

    -- what one step comes to
    pub record Led (t : Option Goes) : Type 0 where
      pub torn : t ≡ None → Found H left x h us n None
      pub stays : t ≡ Some Nowhere → Found H left x h us n (Some m)
      pub goes : (d : Side) → t ≡ Some (towards d) → Walk H left x h us n k (child H m d)

    stepped-is : (d : Side) → lower_side a b ≡ d → (l : Bool) → lifts x (pick d a b) ≡ l → step_in H (suc k) (sink x) m us ≡ sink_by l d x a b
    stepped-is d ed l el = step_is ∙ ap (λ (e : Side). sink_by (lifts x (pick e a b)) e x a b) ed ∙ ap (λ (t : Bool). sink_by t d x a b) el

    step-torn : in_order ≡ false → way_ok H (suc left) n (sink x) 1 h us ≡ false
    step-torn e = way-is (step_in H (suc k) (sink x) m us) refl ∙ ap (λ (c : Bool). c && way_ok H (suc k) n v.op (below w.i v.side) (child H m v.side) us) e
      where
        v : Stepped
        v = step_in H (suc k) (sink x) m us

    step_stays : in_order ≡ true → step_in H (suc k) (sink x) m us ≡ stepped x lhs none → Found H left x h us n (Some m)
    step_stays e s = (
      way-is (stepped x lhs none) s ∙ ap₂ (λ (c d : Bool). c && d) e (way-none H (suc k) n (below w.i lhs) (child H m lhs) us),
      record { k = suc k; gets = w.gets; rests = s },
    )

    step-goes : in_order ≡ true → (d : Side) → step_in H (suc k) (sink x) m us ≡ stepped (pick d a b) d (sink x) → Walk H left x h us n k (child H m d)
    step-goes e d s =
        record {
          i = below w.i d;
          seat = seat-child H h w.i m d w.seat;
          gets = on k m d w.gets (s ∙ ap (λ (z : Element). stepped z d (sink x)) (pick_is d));
          way = way-is (stepped (pick d a b) d (sink x)) s ∙ ap (λ (c : Bool). c && way_ok H (suc k) n (sink x) (below w.i d) (child H m d) us) e;
        }

    pub led : Led (sink_to (leb (child H m lhs) last) (leb (child H m rhs) last) x a b)
    unfolding sink_to sink_by
    led = go in_order refl (lower_side a b) refl (lifts x (pick (lower_side a b) a b)) refl
      where
        go : (f : Bool) → in_order ≡ f → (d : Side) → lower_side a b ≡ d → (l : Bool) → lifts x (pick d a b) ≡ l → Led (cond f (Some (cond l (towards d) Nowhere)) None)
        go false ef d ed l el = record { torn = λ z. step-torn ef; stays = λ z. absurd (some-not Nowhere z); goes = λ e z. absurd (some-not (towards e) z) }
        go true ef d ed false el = record { torn = λ z. absurd (some-not Nowhere (sym z)); stays = λ z. step_stays ef (stepped-is d ed false el); goes = λ e z. absurd (moves e (sym z)) }
        go true ef d ed true el =
            record {
              torn = λ z. absurd (some-not (towards d) (sym z));
              stays = λ z. absurd (moves d z);
              goes = λ e z. subst (λ (e : Side). Walk H left x h us n k (child H m e)) (same_side d e z) (step-goes ef d (stepped-is d ed true el));
            }

under : (H m : ℕ) (d : Side) → 0 < H → m < child H m d
under H m lhs l = omega arith
under H m rhs l = omega arith

-- ---- back up
module _ (H left : ℕ) (x : Element) (h : ℕ) (ws : List ℕ) where
  -- the climb is about to write y to slot m: that makes the sink done from there on, and the slots up to there stand
  pub record Climb (m : ℕ) (y : Element) (us : List ℕ) : Type 0 where
    pub k : ℕ
    pub gets : Gets H left x h ws k m
    pub done : write_slot H us m y ≡ run_words H (suc k) (sink x) m ws
    pub above : (j : ℕ) → j ≤ m → slot_in H us j ≡ slot_in H ws j

  pub climb-end : (m : ℕ) → Ends H left x h ws m → Climb m x ws
  unfolding run_words touch works
  climb-end m e = record { k = e.k; gets = e.gets; done = sym (ap (λ (v : Stepped). write_slot H (run_words H e.k v.op (child H m v.side) ws) m v.slot) e.rests ∙ ap (λ (v : List ℕ). write_slot H v m x) (words-none H e.k (child H m lhs) ws)); above = λ j l. refl }

  module _ (is : h < H) where
    up : (m : ℕ) (d : Side) → (child H m d - H) / 2 ≡ m
    up m lhs = omega arith
    up m rhs = omega arith

    climb-by : (k m : ℕ) → Gets H left x h ws k m → H ≤ m → (y : Element) (us : List ℕ) → write_slot H us m y ≡ run_words H (suc k) (sink x) m ws → ((j : ℕ) → j ≤ m → slot_in H us j ≡ slot_in H ws j)
        → (e : Element) → e ≡ slot_in H us m → Climb ((m - H) / 2) e (write_slot H us m y)
    unfolding run_words touch works
    climb-by k m top l y us done above e s = absurd (omega (arith, l, is))
    climb-by k m (on j q d g st) l y us done above e s =
        subst (λ (p : ℕ). Climb p e (write_slot H us (child H q d) y)) (sym (up q d))
        (record {
          k = suc k;
          gets = g;
          done = ap₂ (λ (v : List ℕ) (z : Element). write_slot H v q z) done (s ∙ above (child H q d) (omega arith))
              ∙ sym (ap (λ (v : Stepped). write_slot H (run_words H (suc k) v.op (child H q v.side) ws) q v.slot) st);
          above = λ j z. write-other H us (child H q d) y j (λ w. omega (arith, z, w, under H q d (omega (arith, is)))) ∙ above j (omega (arith, z, under H q d (omega (arith, is))));
        })

    pub climb-on : (m : ℕ) (y : Element) (us : List ℕ) → Climb m y us → H ≤ m → (e : Element) → e ≡ slot_in H us m → Climb ((m - H) / 2) e (write_slot H us m y)
    climb-on m y us c l e s = climb-by c.k m c.gets l y us c.done c.above e s

    at_top : (k m : ℕ) → Gets H left x h ws k m → m < H → (us : List ℕ) → us ≡ run_words H (suc k) (sink x) m ws → us ≡ run_words H (suc left) (sink x) h ws
    at_top k m top l us e = e
    at_top k m (on j q lhs g st) l us e = absurd (omega (arith, l))
    at_top k m (on j q rhs g st) l us e = absurd (omega (arith, l))

    pub climb-top : (m : ℕ) (y : Element) (us vs : List ℕ) → Climb m y us → m < H → vs ≡ write_slot H us m y → vs ≡ run_words H (suc left) (sink x) h ws
    climb-top m y us vs c l e = at_top c.k m c.gets l vs (e ∙ c.done)

-- ---- one step of the walk, by what the code has read: k is how many levels are below slot m before it
module _ (H left : ℕ) (x : Element) (h : ℕ) (ws us : List ℕ) (n last p : ℕ) (held : HeldTo H h n last) (reads : Reads H p ws us) (m : ℕ) (t : Option Goes)
    (goes : t ≡ sink_to (leb (m + m + H) last) (leb (m + m + H + 1) last) x (slot_but H p ws (m + m + H)) (slot_but H p ws (m + m + H + 1))) where
  led-so : (k : ℕ) (w : Walk H left x h us n (suc k) m) → Led H left x h us n last held k m w t
  led-so k w =
      subst (Led H left x h us n last held k m w)
      (ap₂ (λ (a b : Element). sink_to (leb (m + m + H) last) (leb (m + m + H + 1) last) x a b) (reads (m + m + H) (omega arith)) (reads (m + m + H + 1) (omega arith)) ∙ sym goes)
      (led H left x h us n last held k m w)

  pub walk-torn : (k : ℕ) → 0 < k → Walk H left x h us n k m → t ≡ None → Found H left x h us n None
  walk-torn zero l w z = absurd (not-suc-le-zero l)
  walk-torn (suc k) l w z = (led-so k w).torn z

  pub walk-stays : (k : ℕ) → 0 < k → Walk H left x h us n k m → t ≡ Some Nowhere → Found H left x h us n (Some m)
  walk-stays zero l w z = absurd (not-suc-le-zero l)
  walk-stays (suc k) l w z = (led-so k w).stays z

  pub walk-goes : (k : ℕ) → 0 < k → Walk H left x h us n k m → (d : Side) → t ≡ Some (towards d) → Walk H left x h us n (k - 1) (child H m d)
  walk-goes zero l w d z = absurd (not-suc-le-zero l)
  walk-goes (suc k) l w d z = let e : k ≡ suc k - 1 = omega arith in subst (λ (i : ℕ). Walk H left x h us n i (child H m d)) e ((led-so k w).goes d z)

pub lies-on : (H k m : ℕ) (d : Side) (len : ℕ) → 0 < k → Lies H (suc k) m len → Lies H (suc (k - 1)) (child H m d) len
lies-on H zero m d len l z = absurd (not-suc-le-zero l)
lies-on H (suc k) m lhs len l z = let e : k ≡ suc k - 1 = omega arith in subst (λ (i : ℕ). Lies H (suc i) (m + m + H) len) e z.1
lies-on H (suc k) m rhs len l z = let e : k ≡ suc k - 1 = omega arith in subst (λ (i : ℕ). Lies H (suc i) (m + m + H + 1) len) e z.2

-- ---- the walk of a way's end: it has come to slot `at`, with k levels below it
pub record Edge (H left last p m : ℕ) (x : Element) (ws : List ℕ) (k at : ℕ) : Type 0 where
  pub lies : Lies H (suc k) at (length ws)
  pub edge : last ≤ at + at + H
  pub walk : (l h n : ℕ) → HeldTo H h n last → (us : List ℕ) → Reads H p ws us → Walk H l x h us n left m → Walk H l x h us n k at

module _ (H left last p m : ℕ) (x : Element) (ws : List ℕ) where
  pub edge-from : Lies H (suc left) m (length ws) → last ≤ m + m + H → Edge H left last p m x ws (left - 0) m
  edge-from l e = let z : left ≡ left - 0 = omega arith in subst (λ (k : ℕ). Edge H left last p m x ws k m) z (record { lies = l; edge = e; walk = λ l h n held us reads w. w })

  pub edge-on : (i at : ℕ) → i < left → Edge H left last p m x ws (left - i) at → (t : Option Goes)
      → t ≡ sink_to (leb (at + at + H) last) (leb (at + at + H + 1) last) x (slot_but H p ws (at + at + H)) (slot_but H p ws (at + at + H + 1))
      → (d : Side) → t ≡ Some (towards d) → (v : ℕ) → v ≡ child H at d → Edge H left last p m x ws (left - (i + 1)) v
  edge-on i at l e t goes d z v is =
      let q : left - i - 1 ≡ left - (i + 1) = omega arith in
      let some : 0 < left - i = omega arith in
      subst (Edge H left last p m x ws (left - (i + 1))) (sym is)
      (subst (λ (k : ℕ). Edge H left last p m x ws k (child H at d)) q
      (record {
        lies = lies-on H (left - i) at d (length ws) some e.lies;
        edge = farther d;
        walk = λ l h n held us reads w. walk-goes H l x h ws us n last p held reads at t goes (left - i) some (e.walk l h n held us reads w) d z;
      }))
    where
      farther : (d : Side) → last ≤ child H at d + child H at d + H
      farther lhs = omega (arith, e.edge)
      farther rhs = omega (arith, e.edge)

-- the hole is neither of two children that are held
pub hole-off : (H last p c : ℕ) → (last < p) ⊎ (p < H) → H ≤ c → c < last → (c ≡ p → ⊥) × (c + 1 ≡ p → ⊥)
hole-off H last p c (inl o) l b = ((λ e. omega (arith, o, b, e)), (λ e. omega (arith, o, b, e)))
hole-off H last p c (inr o) l b = ((λ e. omega (arith, o, l, e)), (λ e. omega (arith, o, l, e)))

-- ---- the walk by words: it has come to the slot that begins at word w, with k levels below it
pub record Stands (H left last p h : ℕ) (x : Element) (ws : List ℕ) (k w : ℕ) : Type 0 where
  pub m : ℕ
  pub word : w ≡ H + m * 3
  pub lies : Lies H (suc k) m (length ws)
  pub walk : (n : ℕ) → HeldTo H h n last → (us : List ℕ) → Reads H p ws us → Walk H left x h us n k m

-- the lower of two numbers
pub lower_is : (a b : ℕ) → min a b ≡ cond (ltb b a) b a
lower_is a b = go (ltb b a) refl
  where
    go : (t : Bool) → ltb b a ≡ t → min a b ≡ cond t b a
    go true e = omega (arith, ltb-true b a e)
    go false e = omega (arith, ltb-false b a e)

module _ (H left last p h : ℕ) (x : Element) (ws : List ℕ) where
  pub stands-top : Lies H (suc left) h (length ws) → Stands H left last p h x ws left (H + h * 3)
  stands-top l = record { m = h; word = refl; lies = l; walk = λ n held us reads. walk_top H left x h us n }

  module _ (k w : ℕ) (s : Stands H left last p h x ws k w) where
    pub slot_of : (w - H) / 3 ≡ s.m
    slot_of = omega (arith, s.word)

    slot_some : Some s.m ≡ Some ((w - H) / 3)
    slot_some = ap (λ (i : ℕ). Some i) (sym slot_of)

    pub stands-last : k ≡ 0 → Sought H left last p h x ws (Some ((w - H) / 3))
    stands-last z n held us reads =
        subst (Found H left x h us n) slot_some
        (walk-last H left x h us n s.m (subst (λ (i : ℕ). Walk H left x h us n i s.m) z (s.walk n held us reads)))

    pub stands-edge : (r : Option ℕ) → EdgeSought H k last p ((w - H) / 3) x ws r → Sought H left last p h x ws r
    stands-edge r e n held us reads = e left h n held us reads (subst (Walk H left x h us n k) (sym slot_of) (s.walk n held us reads))

    module _ (some : 0 < k) (t : Option Goes)
        (goes : t ≡ sink_to (leb (s.m + s.m + H) last) (leb (s.m + s.m + H + 1) last) x (slot_but H p ws (s.m + s.m + H)) (slot_but H p ws (s.m + s.m + H + 1))) where
      pub stands-torn : t ≡ None → Sought H left last p h x ws None
      stands-torn z n held us reads = walk-torn H left x h ws us n last p held reads s.m t goes k some (s.walk n held us reads) z

      pub stands-stays : t ≡ Some Nowhere → Sought H left last p h x ws (Some ((w - H) / 3))
      stands-stays z n held us reads =
          subst (Found H left x h us n) slot_some (walk-stays H left x h ws us n last p held reads s.m t goes k some (s.walk n held us reads) z)

      pub stands_on : (d : Side) → t ≡ Some (towards d) → (v : ℕ) → v ≡ H + (s.m + s.m + H + pick d 0 1) * 3 → Stands H left last p h x ws (k - 1) v
      stands_on d z v e =
          record {
            m = child H s.m d;
            word = e ∙ ap (λ (i : ℕ). H + i * 3) (at_side s.m d);
            lies = lies-on H k s.m d (length ws) some s.lies;
            walk = λ n held us reads. walk-goes H left x h ws us n last p held reads s.m t goes k some (s.walk n held us reads) d z;
          }
        where
          at_side : (m : ℕ) (d : Side) → m + m + H + pick d 0 1 ≡ child H m d
          at_side m lhs = omega arith
          at_side m rhs = refl

  -- both children are held: i is the word at which the left one's slot begins, `end` the last one held
  module _ (k w : ℕ) (s : Stands H left last p h x ws k w) (some : 0 < k) (hole : (last < p) ⊎ (p < H)) (i end : ℕ) (is : i ≡ w + w + (H + H)) (ends : end ≡ H + last * 3) (both : i < end) where
    at : i ≡ H + (s.m + s.m + H) * 3
    at = omega (arith, is, s.word)

    held : s.m + s.m + H < last
    held = omega (arith, at, ends, both)

    off : (s.m + s.m + H ≡ p → ⊥) × (s.m + s.m + H + 1 ≡ p → ⊥)
    off = hole-off H last p (s.m + s.m + H) hole (omega arith) held

    pub down-torn : (eqb (word ws (i + 1)) 0 || eqb (word ws (i + 4)) 0) ≡ true → Sought H left last p h x ws None
    down-torn e = stands-torn k w s some None (read-torn H (s.m + s.m + H) last p ws x held off i at e) refl

    module _ (tags : (eqb (word ws (i + 1)) 0 || eqb (word ws (i + 4)) 0) ≡ false) (low : ℕ) (lows : low ≡ cond (ltb (word ws (i + 3)) (word ws i)) (word ws (i + 3)) (word ws i)) where
      pub down-stays : x.rank.0 ≤ low → Sought H left last p h x ws (Some ((w - H) / 3))
      down-stays l = stands-stays k w s some (Some Nowhere) (read-stay H (s.m + s.m + H) last p ws x held off i at tags low lows l) refl

      pub down-on : low < x.rank.0 → (v : ℕ) → v ≡ cond (ltb (word ws (i + 3)) (word ws i)) (i + 3) i → Stands H left last p h x ws (k - 1) v
      down-on l v e =
          let z : Leads H (s.m + s.m + H) last p ws x held off i at tags low lows v = read_goes H (s.m + s.m + H) last p ws x held off i at tags low lows l v e in
          stands_on k w s some (Some (towards z.side)) z.goes z.side refl v z.word
