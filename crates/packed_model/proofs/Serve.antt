-- A request that is let in, on packed heaps: nothing that it reads is damaged, it leaves all heaps packed, changes what its own heap holds as it says, and touches
-- no word of another.
use Rattle.laws.specs.Prelude.{Bool, Element, Idle, List, Pop, Push, Replace, Request, ◌*◌, ◌+◌, ◌-◌, ◌<◌, ◌||◌, ◌∙◌, ◌≡◌, ◌≤◌, and-true, ap, arith, blank, cond, eqb, eqb-false, eqb-true, false, get_or-set_other, get_or-set_same, inl, key, le-leb, length, length-set, means-off, refl, set, subst, suc, sym, true, zero, ℕ}
use Rattle.packed_model.proofs.Cut.{cuts, Shrunk}
use Rattle.packed_model.proofs.Heap.{Grown, puts}
use Rattle.packed_model.proofs.Numbers.{any, Deep, deep, room}
use Rattle.packed_model.proofs.Sink.{sinks, Swapped, top_least}
use Rattle.packed_model.proofs.Tests.{size-pos}
use Rattle.packed_model.proofs.Ways.{lies, reach-root, tagged-has, way-put, way-sink, zero-blank}
use Rattle.packed_model.proofs.Words.{heap-held, Near, run-apart, run_length, spot-apart, top-is, words-at, words-cut, words-run, write-length, write_word}
use Rattle.packed_model.specs.Calls.{does, reads_ok, root_ok}
use Rattle.packed_model.specs.Causes.{Shape}
use Rattle.packed_model.specs.Heap.{at, cut, Has, Heap, run, Sound, top}
use Rattle.packed_model.specs.Node.{Op, put, sink, size, Stepped}
use Rattle.packed_model.specs.Promise.{Packed, stored}
use Rattle.packed_model.specs.Words.{capacity, child, cut_last, depth, extent, heap_in, last_in, last_slot, Lies, run_words, slot_at, slot_in, slot_of, step_in, tagged, top_in, touch, towards, way_ok, word, works, write_slot, zero_slot}
use Rattle.promise.specs.Prelude.{Fits, Untagged, brought, given, grants, hit, lower, untagged-means}

-- held words are no slot's
pub run-word : (H k : ℕ) (o : Op) (m : ℕ) (ws : List ℕ) (i : ℕ) → i < H → word (run_words H k o m ws) i ≡ word ws i
unfolding run_words touch
run-word H zero o m ws i l = refl
run-word H (suc k) o m ws i l = let v : Stepped = step_in H k o m ws in go (works o) v.slot _ (run-word H k v.op (child H m v.side) ws i l)
  where
    go : (b : Bool) (e : Element) (vs : List ℕ) → word vs i ≡ word ws i → word (touch H b vs m e) i ≡ word ws i
    go true e vs p = write_word H vs m e i (inl (omega arith)) ∙ p
    go false e vs p = p

-- two tops are near
pub roots : (H a b : ℕ) → a < H → b < H → Near H a b
roots H a b p q = record { there = omega arith; back = omega arith }

-- what a call leaves: its own heap packed, and the others as they were
pub record Change (H L h : ℕ) (ws vs : List ℕ) : Type 0 where
  pub size : length vs ≡ length ws
  pub own : Packed H L vs h
  pub heaps : (q : ℕ) → q < H → (h ≡ q → ⊥) → heap_in H L vs q ≡ heap_in H L ws q
  pub words : (q : ℕ) → q < H → (h ≡ q → ⊥) → word vs q ≡ word ws q

pub move-packed : (H L h : ℕ) (ws vs : List ℕ) → word vs h ≡ word ws h → heap_in H L vs h ≡ heap_in H L ws h → Packed H L ws h → Packed H L vs h
move-packed H L h ws vs e g p = record { d = p.d; r = p.r; fits = p.fits; held = ap (λ (n : ℕ). n + 1) e ∙ p.held; sound = subst (Sound L p.d p.r) (sym g) p.sound }

pub shape-lies : (H L h len : ℕ) → Shape H L len → h < H → Lies H L h len
unfolding extent capacity
shape-lies H L h len sh is = lies H L h (H + H) (H * (size L - 1)) len (omega arith) (all (size L) (size-pos L)) sh.slice
  where
    all : (s : ℕ) → 0 < s → (H + H) * s ≤ H * (s - 1) + H * (s - 1) + (H + H)
    all zero l = omega arith
    all (suc s) l = let e : suc s - 1 ≡ s = omega arith in rw e (omega arith)

module _ (H k h : ℕ) (ws : List ℕ) (sh : Shape H (suc k) (length ws)) (is : h < H) (p : Packed H (suc k) ws h) where
  abbrev L : ℕ
  L = suc k

  abbrev heap : Heap (suc k)
  heap = heap_in H L ws h

  abbrev n : ℕ
  n = word ws h

  pos : 0 < H
  pos = sh.one

  all_lie : Lies H L h (length ws)
  all_lie = shape-lies H L h (length ws) sh is

  -- the heap by any number of full levels and slots over that make its count
  state : (d r : ℕ) → r ≤ size d → n + 1 ≡ size d + r → Sound L d r heap
  state d r l e = any L p.d p.r d r heap p.sound p.fits l (sym p.held ∙ e)

  pub held-room : n ≤ capacity L
  unfolding capacity
  held-room = omega (arith, room L p.d p.r heap p.fits p.sound, p.held)

  pub has-top : 0 < n → Has (slot_in H ws h)
  unfolding heap_in size
  has-top l = go p.d p.r p.held p.sound
    where
      go : (d r : ℕ) → n + 1 ≡ size d + r → Sound L d r (heap_in H L ws h) → Has (slot_in H ws h)
      go zero zero e s = absurd (omega (arith, l, e))
      go zero (suc r) e s = s.1
      go (suc d) r e s = s.0

  pub root-fine : root_ok H L h ws ≡ true
  unfolding root_ok size heap_in
  root-fine = and-true _ _ (le-leb n (capacity L) held-room) (go (eqb n 0) refl)
    where
      go : (b : Bool) → eqb n 0 ≡ b → cond b (zero_slot H ws h) (tagged H ws h) ≡ true
      go true e = zero-blank H ws h (state 0 0 (omega arith) (omega (arith, eqb-true n 0 e))).0
      go false e = tagged-has H ws h (has-top (omega (arith, eqb-false n 0 e)))

  -- ---- what is left
  -- a heap u made out of ours, and then its held word
  module _ (us : List ℕ) (len : length us ≡ length ws) (heaps : (q : ℕ) → q < H → (h ≡ q → ⊥) → heap_in H L us q ≡ heap_in H L ws q)
      (words : (q : ℕ) → q < H → word us q ≡ word ws q) where
    long : h < length us
    unfolding extent
    long = omega (arith, len, sh.slice)

    finish : (v d r : ℕ) → Sound L d r (heap_in H L us h) → r ≤ size d → v + 1 ≡ size d + r → Change H L h ws (set us h v)
    finish v d r s l e = record {
      size = length-set us h v ∙ len;
      own = record { d = d; r = r; fits = l; held = ap (λ (i : ℕ). i + 1) (get_or-set_same us h v 0 long) ∙ e; sound = subst (Sound L d r) (sym (heap-held H L h h v us is)) s };
      heaps = λ q g z. heap-held H L q h v us is ∙ heaps q g z;
      words = λ q g z. get_or-set_other us h q v 0 (λ y. z (sym y)) ∙ words q g;
    }

    stand : (d r : ℕ) → Sound L d r (heap_in H L us h) → r ≤ size d → n + 1 ≡ size d + r → Change H L h ws us
    stand d r s l e = record {
      size = len;
      own = record { d = d; r = r; fits = l; held = ap (λ (i : ℕ). i + 1) (words h is) ∙ e; sound = s };
      heaps = heaps;
      words = λ q g z. words q g;
    }

  module _ (o : Op) where
    run-others : (q : ℕ) → q < H → (h ≡ q → ⊥) → heap_in H L (run_words H L o h ws) q ≡ heap_in H L ws q
    run-others q l z = run-apart H L L o h q ws (roots H h q is l) z

  abbrev low : Element
  low = slot_in H ws h

  -- what a request that is let in leaves: vs
  pub record Done (r : Request) (vs : List ℕ) : Type 0 where
    pub change : Change H L h ws vs
    pub sum : (f : Element → Bool) → stored H L h vs f + given r (grants r low) f ≡ stored H L h ws f + brought r (grants r low) f

  -- ---- push
  push-done : (x : Element) (d r : ℕ) → Has x → d < L → r < size d → n + 1 ≡ size d + r → Done (Push x) (set (run_words H L (put d r x) h ws) h (n + 1))
  push-done x d r hx dl rl e =
      let us : List ℕ = run_words H L (put d r x) h ws in
      let g : Grown L d (suc r) x heap (run L (put d r x) heap) = puts L d r x heap dl rl hx (state d r (omega arith) e) in
      let w : heap_in H L us h ≡ run L (put d r x) heap = words-run H pos L (put d r x) h ws all_lie in
      record {
        change = finish us (run_length H L (put d r x) h ws) (run-others (put d r x)) (λ q l. run-word H L (put d r x) h ws q l) (n + 1) d (suc r)
            (subst (Sound L d (suc r)) (sym w) g.sound) (omega arith) (omega (arith, e));
        sum = λ f. rw (heap-held H L h h (n + 1) us is, w) (omega (arith, g.sum f));
      }

  -- ---- replace
  top-here : top L heap ≡ slot_in H ws h
  unfolding top heap_in
  top-here = refl

  pub low-least : 0 < n → stored H L h ws (lower (slot_in H ws h).rank.0) ≡ 0
  unfolding key top heap_in
  low-least l = top_least L p.d p.r (heap_in H L ws h) p.sound (has-top l)

  replace-done : (x : Element) → Has x → 0 < n → Done (Replace x) (run_words H L (sink x) h ws)
  replace-done x hx l =
      let us : List ℕ = run_words H L (sink x) h ws in
      let g : Swapped L p.d p.r x heap (run L (sink x) heap) = sinks L p.d p.r x heap hx (subst Has (sym top-here) (has-top l)) p.sound in
      let w : heap_in H L us h ≡ run L (sink x) heap = words-run H pos L (sink x) h ws all_lie in
      record {
        change = stand us (run_length H L (sink x) h ws) (run-others (sink x)) (λ q l. run-word H L (sink x) h ws q l) p.d p.r
            (subst (Sound L p.d p.r) (sym w) g.sound) p.fits p.held;
        sum = λ f. rw w (omega (arith, g.sum f, ap (λ (e : Element). hit (f e)) top-here));
      }

  -- ---- pop
  module _ (d r : ℕ) (dl : d < L) (rl : r < size d) (e : n ≡ size d + r) where
    abbrev spot_last : ℕ
    spot_last = slot_at H h d r

    abbrev gone : Element
    gone = slot_in H ws (slot_at H h d r)

    abbrev vs : List ℕ
    vs = write_slot H ws (slot_at H h d r) blank

    gone-is : gone ≡ at L d r heap
    gone-is = words-at H L h d r ws dl

    taken : Shrunk L d r (at L d r heap) heap (cut L d r heap)
    taken = cuts L d r heap dl rl (state d (suc r) (omega arith) (omega (arith, e)))

    vs-heap : heap_in H L vs h ≡ cut L d r heap
    vs-heap = words-cut H pos ws L h d r dl all_lie

    vs-others : (q : ℕ) → q < H → (h ≡ q → ⊥) → heap_in H L vs q ≡ heap_in H L ws q
    vs-others q l z = spot-apart H L L h q d r ws blank dl (roots H h q is l) z

    vs-words : (q : ℕ) → q < H → word vs q ≡ word ws q
    vs-words q l = write_word H ws (slot_at H h d r) blank q (inl (omega arith))

    vs-sound : Sound L d r (heap_in H L vs h)
    vs-sound = subst (Sound L d r) (sym vs-heap) taken.sound

    pub last-tagged : tagged H ws (slot_at H h d r) ≡ true
    last-tagged = tagged-has H ws (slot_at H h d r) (subst Has (sym gone-is) taken.has)

    gone-has : Has gone
    gone-has = subst Has (sym gone-is) taken.has

    -- the only one
    pop-one : n ≡ 1 → Done Pop (set vs h (n - 1))
    unfolding at heap_in size
    pop-one z = go d r dl rl e taken gone-is vs-sound
      where
        go : (d r : ℕ) → d < L → r < size d → n ≡ size d + r → Shrunk L d r (at L d r heap) heap (cut L d r heap) → slot_in H ws (slot_at H h d r) ≡ at L d r heap
            → Sound L d r (heap_in H L (write_slot H ws (slot_at H h d r) blank) h) → Done Pop (set (write_slot H ws (slot_at H h d r) blank) h (n - 1))
        go (suc d) r dl rl e t g s = absurd (omega (arith, z, e, size-pos d))
        go zero r dl rl e t g s = record {
          change = finish (write_slot H ws (slot_at H h 0 r) blank) (write-length H ws (slot_at H h 0 r) blank) (λ q l y. spot-apart H L L h q 0 r ws blank dl (roots H h q is l) y)
              (λ q l. write_word H ws (slot_at H h 0 r) blank q (inl (omega arith))) (n - 1) 0 r s (omega arith) (omega (arith, e, z));
          sum = λ f. rw (heap-held H L h h (n - 1) (write_slot H ws (slot_at H h 0 r) blank) is, words-cut H pos ws L h 0 r dl all_lie) (omega (arith, t.sum f));
        }

    -- one of several: the top stays where it was
    cut-top : (n ≡ 1 → ⊥) → top L (cut L d r heap) ≡ slot_in H ws h
    unfolding top cut heap_in size
    cut-top z = go d r rl e
      where
        go : (d r : ℕ) → r < size d → n ≡ size d + r → top L (cut L d r heap) ≡ slot_in H ws h
        go zero r rl e = absurd (z (omega (arith, e, rl)))
        go (suc d) r rl e = refl

    vs-top : (n ≡ 1 → ⊥) → top_in H L vs h ≡ slot_in H ws h
    vs-top z = sym (top-is H L h vs) ∙ ap (top L) vs-heap ∙ cut-top z

    pub pop-way : (n ≡ 1 → ⊥) → way_ok H L (n - 1) (sink gone) 1 h vs ≡ true
    pop-way z =
        way-sink H L (n - 1) gone 1 d r h vs (omega arith) vs-sound (subst Has (sym (vs-top z)) (has-top (omega (arith, e, size-pos d))))
        (reach-root (n - 1) d r (omega arith) (omega (arith, e, size-pos d)))

    pop-more : (n ≡ 1 → ⊥) → Done Pop (set (run_words H L (sink gone) h vs) h (n - 1))
    pop-more z =
        let us : List ℕ = run_words H L (sink gone) h vs in
        let hp : Heap L = cut L d r heap in
        let ht : Has (top L hp) = subst Has (sym (cut-top z)) (has-top (omega (arith, e, size-pos d))) in
        let g : Swapped L d r gone hp (run L (sink gone) hp) = sinks L d r gone hp gone-has ht taken.sound in
        let w : heap_in H L us h ≡ run L (sink gone) hp =
        words-run H pos L (sink gone) h vs (subst (λ (i : ℕ). Lies H L h i) (sym (write-length H ws (slot_at H h d r) blank)) all_lie) ∙ ap (run L (sink gone)) vs-heap in
        record {
          change = finish us (run_length H L (sink gone) h vs ∙ write-length H ws (slot_at H h d r) blank) (λ q l y. run-apart H L L (sink gone) h q vs (roots H h q is l) y ∙ vs-others q l y)
              (λ q l. run-word H L (sink gone) h vs q l ∙ vs-words q l) (n - 1) d r (subst (Sound L d r) (sym w) g.sound) (omega arith) (omega (arith, e, size-pos d));
          sum = λ f. rw (heap-held H L h h (n - 1) us is, w)
              (omega (arith, g.sum f, taken.sum f, ap (λ (y : Element). hit (f y)) (cut-top z), ap (λ (y : Element). hit (f y)) gone-is));
        }

  -- ---- each request that is let in: what it reads is in order, and what it leaves
  pub record Served (r : Request) : Type 0 where
    pub way : reads_ok H L h r ws ≡ true
    pub done : Done r (does H L h r ws)

  push-served : (x : Element) → Has x → n < capacity L → Served (Push x)
  unfolding reads_ok does towards capacity
  push-served x hx l =
      let g : Deep L (n + 1) (depth L (n + 1)) = deep L (n + 1) (omega arith) (omega (arith, l)) in
      let d : ℕ = depth L (n + 1) in
      let r : ℕ = n + 1 - size d in
      let e : n + 1 ≡ size d + r = omega (arith, g.from) in
      let rl : r < size d = omega (arith, g.upto, g.from) in
      record { way = way-put H L n d r x 1 h ws g.within rl (state d r (omega (arith, rl)) e); done = push-done x d r hx g.within rl e }

  pop-served : 0 < n → Served Pop
  unfolding reads_ok does last_slot slot_of last_in cut_last capacity
  pop-served l =
      let g : Deep L n (depth L n) = deep L n l (omega (arith, held-room, size-pos L)) in
      let d : ℕ = depth L n in
      let r : ℕ = n - size d in
      let e : n ≡ size d + r = omega (arith, g.from) in
      let rl : r < size d = omega (arith, g.upto, g.from) in
      record { way = and-true _ _ (last-tagged d r g.within rl e) (way d r g.within rl e (eqb n 1) refl); done = done d r g.within rl e (eqb n 1) refl }
    where
      way : (d r : ℕ) → d < L → r < size d → n ≡ size d + r → (b : Bool) → eqb n 1 ≡ b
          → (b || way_ok H L (n - 1) (sink (slot_in H ws (slot_at H h d r))) 1 h (write_slot H ws (slot_at H h d r) blank)) ≡ true
      way d r dl rl e true t = refl
      way d r dl rl e false t = pop-way d r dl rl e (eqb-false n 1 t)

      done : (d r : ℕ) → d < L → r < size d → n ≡ size d + r → (b : Bool) → eqb n 1 ≡ b
          → Done Pop (set (cond b (write_slot H ws (slot_at H h d r) blank) (run_words H L (sink (slot_in H ws (slot_at H h d r))) h (write_slot H ws (slot_at H h d r) blank))) h (n - 1))
      done d r dl rl e true t = pop-one d r dl rl e (eqb-true n 1 t)
      done d r dl rl e false t = pop-more d r dl rl e (eqb-false n 1 t)

  replace-served : (x : Element) → Has x → 0 < n → Served (Replace x)
  unfolding reads_ok does top_in
  replace-served x hx l =
      record { way = way-sink H L n x 1 p.d p.r h ws (omega arith) p.sound (has-top l) (reach-root n p.d p.r p.fits p.held); done = replace-done x hx l }

  idle-served : Served Idle
  unfolding reads_ok does
  idle-served = record { way = refl; done = record { change = stand ws refl (λ q g z. refl) (λ q g. refl) p.d p.r p.sound p.fits p.held; sum = λ f. refl } }

  pub all-served : (r : Request) → (Untagged r → ⊥) → Fits r n (capacity L) → Served r
  all-served Idle t f = idle-served
  all-served (Push x) t f = push-served x (means-off (untagged-means x) t) f
  all-served Pop t f = pop-served f
  all-served (Replace x) t f = replace-served x (means-off (untagged-means x) t) f
