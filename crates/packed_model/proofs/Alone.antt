-- A call at one heap neither reads nor writes another's words: whatever the words, two stores with the same held word and slots of heap h are answered the same at h
-- and left alike there, and a call at another heap leaves h's held word and slots. So what a heap is answered is what it would be answered alone.
use Rattle.laws.specs.Prelude.{BadShape, Bool, Element, Idle, List, Pop, Push, Replace, Request, ◌&&◌, ◌+◌, ◌-◌, ◌<◌, ◌||◌, ◌∙◌, ◌≡◌, ap, ap₂, arith, blank, cond, cond_both, eqb, false, get_or-set_other, get_or-set_same, inl, leb, length, length-set, lt-ltb, ltb-true, not, not-suc-le-zero, refl, set, subst, suc, sym, true, zero, ℕ}
use Rattle.strip.proofs.Words.{same-words}
use Rattle.packed_model.proofs.Exactly.{shape-means}
use Rattle.packed_model.proofs.Serve.{roots, run-word, shape-lies}
use Rattle.packed_model.proofs.Words.{heap-held, run-apart, run_length, spot-apart, top-is, words-at, words-cut, words-run, write-length, write_word}
use Rattle.packed_model.specs.Calls.{called, does, heap, Outcome, reads_ok, root_ok, rule_at, shape_ok}
use Rattle.packed_model.specs.Causes.{Shape}
use Rattle.packed_model.specs.Heap.{at, cut, Heap, run, top}
use Rattle.packed_model.specs.Node.{lhs, none, Op, put, rhs, Side, sink, size, step, Stepped}
use Rattle.packed_model.specs.Promise.{heap_queue, Like, packed_queue}
use Rattle.packed_model.specs.Words.{below, capacity, child, cut_last, depth, extent, heap_in, last_in, last_slot, own_ok, place_ok, run_words, slot_at, slot_in, slot_of, spot, step_in, tagged, top_in, towards, way_ok, word, zero_slot}
use Rattle.promise.proofs.Calls.{called-either, unread-by}
use Rattle.promise.proofs.Forest.{forest-alone}
use Rattle.promise.specs.Calls as calls
use Rattle.promise.specs.Prelude.{Clear, Ruling, answers, last_table, leaves, ruled}
use Rattle.promise.specs.Forest.{At, heard_at, own_of}

-- ---- what is read at a slot is read of its element
module _ (H : ℕ) (ws vs : List ℕ) where
  zero-like : (m : ℕ) → slot_in H ws m ≡ slot_in H vs m → zero_slot H ws m ≡ zero_slot H vs m
  unfolding zero_slot slot_in
  zero-like m e =
      let at : spot H m ≡ spot H m + 0 = omega arith in
      let a : word ws (spot H m) ≡ word vs (spot H m) = rw at (same-words ws vs (spot H m) 0 (omega arith) e) in
      let b = same-words ws vs (spot H m) 1 (omega arith) e in
      let c = same-words ws vs (spot H m) 2 (omega arith) e in
      λ i. eqb (a i) 0 && (eqb (b i) 0 && eqb (c i) 0)

  tag-like : (m : ℕ) → slot_in H ws m ≡ slot_in H vs m → tagged H ws m ≡ tagged H vs m
  unfolding tagged slot_in
  tag-like m e = ap (λ (x : Element). not (eqb x.tag.0 0)) e

  place-like : (n i m : ℕ) → slot_in H ws m ≡ slot_in H vs m → place_ok H n i ws m ≡ place_ok H n i vs m
  unfolding place_ok
  place-like n i m e = ap₂ (cond (leb i n)) (tag-like m e) (zero-like m e)

  -- ---- .. and on the way of an operation of the heap that hangs there
  slot-like : (k m : ℕ) → heap_in H (suc k) ws m ≡ heap_in H (suc k) vs m → slot_in H ws m ≡ slot_in H vs m
  unfolding heap_in
  slot-like k m e = ap (λ (g : Heap (suc k)). g.0) e

  child-like : (k m : ℕ) (s : Side) → heap_in H (suc k) ws m ≡ heap_in H (suc k) vs m → heap_in H k ws (child H m s) ≡ heap_in H k vs (child H m s)
  unfolding heap_in
  child-like k m lhs e = ap (λ (g : Heap (suc k)). g.1) e
  child-like k m rhs e = ap (λ (g : Heap (suc k)). g.2) e

  top_like : (k m : ℕ) → heap_in H k ws m ≡ heap_in H k vs m → top_in H k ws m ≡ top_in H k vs m
  top_like k m e = sym (top-is H k m ws) ∙ ap (top k) e ∙ top-is H k m vs

  step-like : (k : ℕ) (o : Op) (m : ℕ) → heap_in H (suc k) ws m ≡ heap_in H (suc k) vs m → step_in H k o m ws ≡ step_in H k o m vs
  unfolding step_in
  step-like k o m e =
      let s = slot-like k m e in
      let a = top_like k (child H m lhs) (child-like k m lhs e) in
      let b = top_like k (child H m rhs) (child-like k m rhs e) in
      λ i. step o (s i) (a i) (b i)

  own_like : (k n : ℕ) (o : Op) (i m : ℕ) → heap_in H (suc k) ws m ≡ heap_in H (suc k) vs m → own_ok H k n o i m ws ≡ own_ok H k n o i m vs
  unfolding own_ok
  own_like k n none i m e = refl
  own_like k n (put zero r x) i m e = zero-like m (slot-like k m e)
  own_like k n (put (suc d) r x) i m e = tag-like m (slot-like k m e)
  own_like zero n (sink x) i m e = refl
  own_like (suc k) n (sink x) i m e =
      ap₂ (λ (a b : Bool). a && b) (place-like n (i + i) (child H m lhs) (slot-like k (child H m lhs) (child-like (suc k) m lhs e)))
      (place-like n (i + i + 1) (child H m rhs) (slot-like k (child H m rhs) (child-like (suc k) m rhs e)))

  way-like : (k n : ℕ) (o : Op) (i m : ℕ) → heap_in H k ws m ≡ heap_in H k vs m → way_ok H k n o i m ws ≡ way_ok H k n o i m vs
  unfolding way_ok
  way-like zero n o i m e = refl
  way-like (suc k) n o i m e =
      let v : Stepped = step_in H k o m ws in
      let goes = way-like k n v.op (below i v.side) (child H m v.side) (child-like k m v.side e) in
      ap₂ (λ (a b : Bool). a && b) (own_like k n o i m e) (goes ∙ ap (λ (u : Stepped). way_ok H k n u.op (below i u.side) (child H m u.side) vs) (step-like k o m e))

-- the last entry is within the levels
depth-within : (k t : ℕ) → depth (suc k) t < suc k
unfolding depth
depth-within zero t = go (leb (size 0) t)
  where
    go : (b : Bool) → cond b 0 0 < 1
    go true = omega arith
    go false = omega arith
depth-within (suc k) t = go (leb (size (suc k)) t) (depth-within k t)
  where
    go : (b : Bool) → depth (suc k) t < suc k → cond b (suc k) (depth (suc k) t) < suc (suc k)
    go true l = omega arith
    go false l = omega (arith, l)

-- ---- two stores alike at heap h
module _ (H k h : ℕ) (ws vs : List ℕ) (is : h < H) (sh : Shape H (suc k) (length ws)) (like : Like H (suc k) h ws vs) where
  abbrev L : ℕ
  L = suc k

  sh' : Shape H L (length vs)
  sh' = subst (λ (n : ℕ). Shape H L n) like.size sh

  top-slot : slot_in H ws h ≡ slot_in H vs h
  top-slot = slot-like H ws vs k h like.slots

  root-like : root_ok H L h ws ≡ root_ok H L h vs
  unfolding root_ok
  root-like =
      let n = like.held in
      let z = zero-like H ws vs h top-slot in
      let t = tag-like H ws vs h top-slot in
      λ i. leb (n i) (capacity L) && cond (eqb (n i) 0) (z i) (t i)

  rule-like : (r : Request) → rule_at H L h r ws ≡ rule_at H L h r vs
  rule-like r = let n = like.held in let e = top-slot in λ i. ruled (λ (q : Request). q) (last_table r (n i) (capacity L)) r (e i)

  -- the last entry
  last-at : (us : List ℕ) → last_in H L h us ≡ at L (depth L (word us h)) (word us h - size (depth L (word us h))) (heap_in H L us h)
  unfolding last_in last_slot slot_of
  last-at us = words-at H L h (depth L (word us h)) (word us h - size (depth L (word us h))) us (depth-within k (word us h))

  last-like : last_in H L h ws ≡ last_in H L h vs
  last-like = last-at ws ∙ ap₂ (λ (n : ℕ) (g : Heap (suc k)). at L (depth L n) (n - size (depth L n)) g) like.held like.slots ∙ sym (last-at vs)

  last-tag : tagged H ws (last_slot H L h ws) ≡ tagged H vs (last_slot H L h vs)
  unfolding last_in tagged slot_in
  last-tag = ap (λ (x : Element). not (eqb x.tag.0 0)) last-like

  cut_at : (us : List ℕ) → Shape H L (length us) → heap_in H L (cut_last H L h us) h ≡ cut L (depth L (word us h)) (word us h - size (depth L (word us h))) (heap_in H L us h)
  unfolding cut_last last_slot slot_of
  cut_at us s =
      words-cut H s.one us L h (depth L (word us h)) (word us h - size (depth L (word us h))) (depth-within k (word us h)) (shape-lies H L h (length us) s is)

  cut-like : heap_in H L (cut_last H L h ws) h ≡ heap_in H L (cut_last H L h vs) h
  cut-like = cut_at ws sh ∙ ap₂ (λ (n : ℕ) (g : Heap (suc k)). cut L (depth L n) (n - size (depth L n)) g) like.held like.slots ∙ sym (cut_at vs sh')

  cut-length : (us : List ℕ) → length (cut_last H L h us) ≡ length us
  unfolding cut_last
  cut-length us = write-length H us (last_slot H L h us) blank

  -- what a request reads
  reads-like : (r : Request) → reads_ok H L h r ws ≡ reads_ok H L h r vs
  unfolding reads_ok
  reads-like Idle = refl
  reads-like (Push x) =
      way-like H ws vs L (word ws h) (towards L (word ws h + 1) x) 1 h like.slots ∙ ap (λ (n : ℕ). way_ok H L n (towards L (n + 1) x) 1 h vs) like.held
  reads-like Pop =
      let w : way_ok H L (word ws h - 1) (sink (last_in H L h ws)) 1 h (cut_last H L h ws) ≡ way_ok H L (word vs h - 1) (sink (last_in H L h vs)) 1 h (cut_last H L h vs) =
      way-like H (cut_last H L h ws) (cut_last H L h vs) L (word ws h - 1) (sink (last_in H L h ws)) 1 h cut-like
      ∙ ap₂ (λ (n : ℕ) (e : Element). way_ok H L (n - 1) (sink e) 1 h (cut_last H L h vs)) like.held last-like in
      let t = last-tag in
      let n = like.held in
      λ i. t i && (eqb (n i) 1 || w i)
  reads-like (Replace x) = way-like H ws vs L (word ws h) (sink x) 1 h like.slots ∙ ap (λ (n : ℕ). way_ok H L n (sink x) 1 h vs) like.held

  -- .. and leaves
  run-slots : (o : Op) (us : List ℕ) → Shape H L (length us) → heap_in H L (run_words H L o h us) h ≡ run L o (heap_in H L us h)
  run-slots o us s = words-run H s.one L o h us (shape-lies H L h (length us) s is)

  in-slice : (us : List ℕ) → Shape H L (length us) → h < length us
  unfolding extent
  in-slice us s = omega (arith, s.slice, is)

  -- the held word written in two stores with the same slots of h
  finish : (us us' : List ℕ) (n n' : ℕ) → length us ≡ length ws → length us' ≡ length vs → n ≡ n' → heap_in H L us h ≡ heap_in H L us' h → Like H L h (set us h n) (set us' h n')
  finish us us' n n' l l' e g =
      record {
        size = length-set us h n ∙ l ∙ like.size ∙ sym l' ∙ sym (length-set us' h n');
        held = get_or-set_same us h n 0 (subst (λ (i : ℕ). h < i) (sym l) (in-slice ws sh)) ∙ e ∙ sym (get_or-set_same us' h n' 0 (subst (λ (i : ℕ). h < i) (sym l') (in-slice vs sh')));
        slots = heap-held H L h h n us is ∙ g ∙ sym (heap-held H L h h n' us' is);
      }

  does-like : (r : Request) → Like H L h (does H L h r ws) (does H L h r vs)
  unfolding does
  does-like Idle = like
  does-like (Push x) =
      let o : Op = towards L (word ws h + 1) x in
      let o' : Op = towards L (word vs h + 1) x in
      finish (run_words H L o h ws) (run_words H L o' h vs) (word ws h + 1) (word vs h + 1) (run_length H L o h ws) (run_length H L o' h vs) (ap (λ (n : ℕ). n + 1) like.held)
      (run-slots o ws sh ∙ ap₂ (λ (n : ℕ) (g : Heap (suc k)). run L (towards L (n + 1) x) g) like.held like.slots ∙ sym (run-slots o' vs sh'))
  does-like Pop =
      let us : List ℕ = cut_last H L h ws in
      let us' : List ℕ = cut_last H L h vs in
      let o : Op = sink (last_in H L h ws) in
      let o' : Op = sink (last_in H L h vs) in
      let g : heap_in H L (run_words H L o h us) h ≡ heap_in H L (run_words H L o' h us') h =
      run-slots o us (cut-shape ws sh) ∙ ap₂ (λ (e : Element) (g : Heap (suc k)). run L (sink e) g) last-like cut-like ∙ sym (run-slots o' us' (cut-shape vs sh')) in
      subst (λ (b : Bool). Like H L h (set (cond (eqb (word ws h) 1) us (run_words H L o h us)) h (word ws h - 1)) (set (cond b us' (run_words H L o' h us')) h (word vs h - 1)))
      (ap (λ (n : ℕ). eqb n 1) like.held) (either (eqb (word ws h) 1) us us' (run_words H L o h us) (run_words H L o' h us') cut-like g (cut-length ws) (cut-length vs)
      (run_length H L o h us ∙ cut-length ws) (run_length H L o' h us' ∙ cut-length vs))
    where
      cut-shape : (us : List ℕ) → Shape H L (length us) → Shape H L (length (cut_last H L h us))
      cut-shape us s = subst (λ (n : ℕ). Shape H L n) (sym (cut-length us)) s

      either : (b : Bool) (a a' c c' : List ℕ) → heap_in H L a h ≡ heap_in H L a' h → heap_in H L c h ≡ heap_in H L c' h → length a ≡ length ws → length a' ≡ length vs → length c ≡ length ws
          → length c' ≡ length vs → Like H L h (set (cond b a c) h (word ws h - 1)) (set (cond b a' c') h (word vs h - 1))
      either true a a' c c' p q l l' m m' = finish a a' (word ws h - 1) (word vs h - 1) l l' (ap (λ (n : ℕ). n - 1) like.held) p
      either false a a' c c' p q l l' m m' = finish c c' (word ws h - 1) (word vs h - 1) m m' (ap (λ (n : ℕ). n - 1) like.held) q
  does-like (Replace x) =
      record {
        size = run_length H L (sink x) h ws ∙ like.size ∙ sym (run_length H L (sink x) h vs);
        held = run-word H L (sink x) h ws h is ∙ like.held ∙ sym (run-word H L (sink x) h vs h is);
        slots = run-slots (sink x) ws sh ∙ ap (run L (sink x)) like.slots ∙ sym (run-slots (sink x) vs sh');
      }

  -- UNREAD: answered the same, and left alike
  open-both : (us : List ℕ) → Shape H L (length us) → Clear ((heap H L h).opening us)
  open-both us s = ((shape-means H L (length us)).holds s, (lt-ltb h H is, tt))

  pub shaped-alike : (r : Request) → ((called H L h r ws).answer ≡ (called H L h r vs).answer) × Like H L h (called H L h r ws).words (called H L h r vs).words
  unfolding called
  shaped-alike r =
      unread-by (heap H L h) (Like H L h) r ws vs (open-both ws sh) (open-both vs sh') tt tt root-like (rule-like r)
      (reads-like (rule_at H L h r ws).op ∙ ap (λ (g : Ruling Request). reads_ok H L h g.op vs) (rule-like r)) like
      (λ o. subst (λ (g : Ruling Request). Like H L h (does H L h (rule_at H L h r ws).op ws) (does H L h g.op vs)) (rule-like r) (does-like (rule_at H L h r ws).op))

-- whatever the shape
module _ (H levels h : ℕ) (is : h < H) where
  pub alike : (r : Request) (ws vs : List ℕ) → Like H levels h ws vs
      → ((called H levels h r ws).answer ≡ (called H levels h r vs).answer) × Like H levels h (called H levels h r ws).words (called H levels h r vs).words
  unfolding called
  alike r ws vs like = go (shape_ok H levels (length ws)) refl
    where
      bad : (us : List ℕ) → shape_ok H levels (length us) ≡ false → called H levels h r us ≡ calls.left us BadShape
      bad us e = rw e refl

      some : (levels : ℕ) → Shape H levels (length ws) → Like H levels h ws vs
          → ((called H levels h r ws).answer ≡ (called H levels h r vs).answer) × Like H levels h (called H levels h r ws).words (called H levels h r vs).words
      some zero s l = absurd (not-suc-le-zero s.some)
      some (suc k) s l = shaped-alike H k h ws vs is s l r

      go : (b : Bool) → shape_ok H levels (length ws) ≡ b → ((called H levels h r ws).answer ≡ (called H levels h r vs).answer) × Like H levels h (called H levels h r ws).words (called H levels h r vs).words
      go true e = some levels ((shape-means H levels (length ws)).says e) like
      go false e = rw (bad ws e, bad vs (ap (shape_ok H levels) (sym like.size) ∙ e)) (refl, like)

-- ---- a call at another heap
module _ (H k g h : ℕ) (ws : List ℕ) (there : g < H) (is : h < H) (ne : g ≡ h → ⊥) where
  -- words and slots of h, and the length, stand
  abbrev Stands : List ℕ → Type 0
  Stands vs = Like H (suc k) h vs ws

  set-stands : (us : List ℕ) (n : ℕ) → Stands us → Stands (set us g n)
  set-stands us n l =
      record { size = length-set us g n ∙ l.size; held = get_or-set_other us g h n 0 (λ e. ne (sym e)) ∙ l.held; slots = heap-held H (suc k) h g n us there ∙ l.slots }

  run-stands : (o : Op) (us : List ℕ) → Stands us → Stands (run_words H (suc k) o g us)
  run-stands o us l =
      record {
        size = run_length H (suc k) o g us ∙ l.size;
        held = run-word H (suc k) o g us h is ∙ l.held;
        slots = run-apart H (suc k) (suc k) o g h us (roots H g h there is) ne ∙ l.slots;
      }

  cut_stands : Stands (cut_last H (suc k) g ws)
  unfolding cut_last last_slot slot_of
  cut_stands =
      let d : ℕ = depth (suc k) (word ws g) in
      record {
        size = write-length H ws (slot_at H g d (word ws g - size d)) blank;
        held = write_word H ws (slot_at H g d (word ws g - size d)) blank h (inl (omega (arith, is)));
        slots = spot-apart H (suc k) (suc k) g h d (word ws g - size d) ws blank (depth-within k (word ws g)) (roots H g h there is) ne;
      }

  same : Stands ws
  same = record { size = refl; held = refl; slots = refl }

  -- APART: whatever the words
  pub does-stands : (r : Request) → Stands (does H (suc k) g r ws)
  unfolding does
  does-stands Idle = same
  does-stands (Push x) = set-stands _ _ (run-stands (towards (suc k) (word ws g + 1) x) ws same)
  does-stands Pop = set-stands _ _ (cond_both Stands (eqb (word ws g) 1) _ _ (λ e. cut_stands) (λ e. run-stands (sink (last_in H (suc k) g ws)) (cut_last H (suc k) g ws) cut_stands))
  does-stands (Replace x) = run-stands (sink x) ws same

-- APART: whatever the words, a call at one heap leaves the held word and the slots of every other
pub apart : (H levels g h : ℕ) → h < H → (g ≡ h → ⊥) → (r : Request) (ws : List ℕ) → Like H levels h (called H levels g r ws).words ws
unfolding called
apart H levels g h is ne r ws =
    called-either (heap H levels g) r ws (λ (o : Outcome). Like H levels h o.words ws) (λ x. record { size = refl; held = refl; slots = refl })
    (λ c d o w. go levels ((shape-means H levels (length ws)).says c.0) (rule_at H levels g r ws).op (ltb-true g H c.1.0))
  where
    go : (levels : ℕ) → Shape H levels (length ws) → (r : Request) → g < H → Like H levels h (does H levels g r ws) ws
    go zero s r there = absurd (not-suc-le-zero s.some)
    go (suc k) s r there = does-stands H k g h ws there is ne r

-- ALONE: from any two stores alike at heap h, what h is answered among the calls at all heaps is what it is answered by its own calls alone, and its words are left alike
pub alone : (H levels h : ℕ) → h < H → (cs : List At) (ws vs : List ℕ) → Like H levels h ws vs
    → (heard_at h cs (answers (packed_queue H levels) cs ws) ≡ answers (heap_queue H levels h) (own_of h cs) vs)
    × Like H levels h (leaves (packed_queue H levels) cs ws) (leaves (heap_queue H levels h) (own_of h cs) vs)
unfolding called
alone H levels h is =
    forest-alone (heap H levels) h (Like H levels h) (alike H levels h is)
    (λ c ws vs ne l.
    let a = apart H levels c.queue h is ne c.asks ws in
    record { size = a.size ∙ l.size; held = a.held ∙ l.held; slots = a.slots ∙ l.slots })
