-- The put's way by itself is that of the rules; each step of the code's two walks, up its way and down again, is one of it.
use Rattle.laws.specs.Prelude.{Bool, Element, List, ◌&&◌, ◌*◌, ◌+◌, ◌-◌, ◌/◌, ◌<◌, ◌^◌, ◌∙◌, ◌≡◌, ◌≤◌, and-unit, ap, ap₂, arith, cond, false, is_blank, keep, key, le-ltb, leb, leb-false, leb-true, lt-ltb, ltb, not, not-suc-le-zero, pass, refl, subst, suc, sym, true, untagged, zero, ℕ}
use Rattle.std.specs.Prelude.{Some}
use mathlib.Core.Bool.{and-false}
use native.Mathlib.Nat.{add-mul, div-eq_of_lt, div-le_self, le-div_iff_mul-le, mul-add, mul-add-div_right}
use Rattle.packed_model.proofs.Slice.{size_is, slot-by}
use Rattle.packed_model.proofs.Tests.{size-pos}
use Rattle.packed_model.proofs.Ways.{way-none}
use Rattle.packed_model.proofs.Words.{words-none, write-other}
use Rattle.packed_model.specs.Node.{lhs, put, rest_of, rhs, Side, size, step, turn_of}
use Rattle.packed_model.specs.Words.{below, child, Lies, own_ok, run_words, slot_at, slot_in, step_in, tagged, touch, way_ok, works, write_slot, zero_slot}
use Rattle.packed_way.proofs.Slots.{tagged_is, write-comm, write-own, zero_is}
use Rattle.packed_way.specs.Put.{Comes, down, PutDone, PutFound, put_ok, PutReady, put_run, start, Starts}

module _ (H d r m : ℕ) where
  -- the end of the way
  pub record Arrives (p : ℕ) : Type 0 where
    pub rest : ℕ
    pub comes : Comes H d r m 0 rest p

  -- the walk up has come to slot p, k levels above the end; from there on the way is in order, and x is exchanged first at `best` levels above the end
  pub record Climbs (x : Element) (ws : List ℕ) (k p best : ℕ) : Type 0 where
    pub rest : ℕ
    pub comes : Comes H d r m k rest p
    pub fine : put_ok H k rest p ws ≡ true
    pub left : ℕ
    pub at : ℕ
    pub from : Comes H d r m best left at
    pub same : put_run H k rest p x ws ≡ put_run H best left at x ws

module _ (H end levels r m : ℕ) (x : Element) (ws : List ℕ) where
  -- the walk down has y on its way, with k levels to go
  pub record Falls (k : ℕ) (y : Element) (us : List ℕ) : Type 0 where
    pub rest : ℕ
    pub at : ℕ
    pub within : rest < size k
    pub lands : end ≡ slot_at H at k rest
    pub same : put_run H levels r m x ws ≡ put_run H k rest at y us

module _ (H : ℕ) (pos : 0 < H) where
  -- ---- the rules' way
  pub ok-is : (k n d r : ℕ) (x : Element) (i m : ℕ) (ws : List ℕ) → d < k → way_ok H k n (put d r x) i m ws ≡ put_ok H d r m ws
  unfolding way_ok own_ok step_in step put_ok
  ok-is zero n d r x i m ws l = absurd (not-suc-le-zero l)
  ok-is (suc k) n zero r x i m ws l = ap (λ (b : Bool). zero_slot H ws m && b) (way-none H k n (i + i) (child H m lhs) ws) ∙ and-unit (zero_slot H ws m)
  ok-is (suc k) n (suc e) r x i m ws l =
      ap (λ (b : Bool). tagged H ws m && b) (ok-is k n e (rest_of e r) (pass x (slot_in H ws m)) (below i (turn_of e r)) (child H m (turn_of e r)) ws (omega arith))

  pub run_is : (k d r : ℕ) (x : Element) (m : ℕ) (ws : List ℕ) → d < k → run_words H k (put d r x) m ws ≡ put_run H d r m x ws
  unfolding run_words step_in step touch works put_run
  run_is zero d r x m ws l = absurd (not-suc-le-zero l)
  run_is (suc k) zero r x m ws l = ap (λ (v : List ℕ). write_slot H v m x) (words-none H k (child H m lhs) ws)
  run_is (suc k) (suc e) r x m ws l =
      ap (λ (v : List ℕ). write_slot H v m (keep x (slot_in H ws m))) (run_is k e (rest_of e r) (pass x (slot_in H ws m)) (child H m (turn_of e r)) ws (omega arith))

  under : (m : ℕ) (s : Side) → m < child H m s
  under m lhs = omega arith
  under m rhs = omega arith

  -- ---- what is written above a way changes nothing of it
  child-after : (m : ℕ) (s : Side) (p : ℕ) → p < m → p < child H m s
  child-after m lhs p l = omega arith
  child-after m rhs p l = omega arith

  run-write : (d r c : ℕ) (y : Element) (ws : List ℕ) (m : ℕ) (e : Element) → m < c → put_run H d r c y (write_slot H ws m e) ≡ write_slot H (put_run H d r c y ws) m e
  unfolding put_run
  run-write zero r c y ws m e l = write-comm H ws m c e y l
  run-write (suc d) r c y ws m e l =
      let s : slot_in H (write_slot H ws m e) c ≡ slot_in H ws c = write-other H ws m e c (λ z. omega (arith, z, l)) in
      let q : ℕ = child H c (turn_of d r) in
      ap (λ (z : Element). write_slot H (put_run H d (rest_of d r) q (pass y z) (write_slot H ws m e)) c (keep y z)) s
      ∙ ap (λ (v : List ℕ). write_slot H v c (keep y (slot_in H ws c))) (run-write d (rest_of d r) q (pass y (slot_in H ws c)) ws m e (child-after c (turn_of d r) m l))
      ∙ write-comm H (put_run H d (rest_of d r) q (pass y (slot_in H ws c)) ws) m c e (keep y (slot_in H ws c)) l

  -- ---- the way down to a slot
  rest-within : (e j : ℕ) → j < size (suc e) → rest_of e j < size e
  unfolding rest_of size
  rest-within e j l = go (leb (size e) j) refl
    where
      go : (b : Bool) → leb (size e) j ≡ b → cond b (j - size e) j < size e
      go true t = omega (arith, l, leb-true (size e) j t)
      go false t = leb-false (size e) j t

  module _ (d r m : ℕ) where
    pub comes-within : r < size d → (k j p : ℕ) → Comes H d r m k j p → j < size k
    comes-within l k j p start = l
    comes-within l k j p (down e i q c) = rest-within e i (comes-within l (suc e) i q c)

    pub comes-few : (k j p : ℕ) → Comes H d r m k j p → k ≤ d
    comes-few k j p start = omega arith
    comes-few k j p (down e i q c) = omega (arith, comes-few (suc e) i q c)

    pub comes-to : (k j p : ℕ) → Comes H d r m k j p → slot_at H p k j ≡ slot_at H m d r
    unfolding slot_at
    comes-to k j p start = refl
    comes-to k j p (down e i q c) = comes-to (suc e) i q c

    comes-torn : (ws : List ℕ) (k j p : ℕ) → Comes H d r m k j p → put_ok H k j p ws ≡ false → put_ok H d r m ws ≡ false
    unfolding put_ok
    comes-torn ws k j p start z = z
    comes-torn ws k j p (down e i q c) z = comes-torn ws (suc e) i q c (ap (λ (b : Bool). tagged H ws q && b) z ∙ and-false (tagged H ws q))

    arrives : (k j p : ℕ) → Comes H d r m k j p → Arrives H d r m (slot_at H p k j)
    unfolding slot_at
    arrives zero j p c = record { rest = j; comes = c }
    arrives (suc e) j p c = arrives e (rest_of e j) (child H p (turn_of e j)) (down e j p c)

    module _ (x : Element) (ws : List ℕ) where
      pub climbs-end : (end : ℕ) → end ≡ slot_at H m d r → (e : Element) → e ≡ slot_in H ws end → is_blank e ≡ true → Climbs H d r m x ws 0 end 0
      unfolding put_ok
      climbs-end end l e s z =
          let a : Arrives H d r m end = subst (Arrives H d r m) (sym l) (arrives d r m start) in
          record {
            rest = a.rest;
            comes = a.comes;
            fine = zero_is H ws end ∙ ap is_blank (sym s) ∙ z;
            left = a.rest;
            at = end;
            from = a.comes;
            same = refl;
          }

      pub end-torn : (end : ℕ) → end ≡ slot_at H m d r → (e : Element) → e ≡ slot_in H ws end → is_blank e ≡ false → put_ok H d r m ws ≡ false
      unfolding put_ok
      end-torn end l e s z =
          let a : Arrives H d r m end = subst (Arrives H d r m) (sym l) (arrives d r m start) in
          comes-torn ws 0 a.rest end a.comes (zero_is H ws end ∙ ap is_blank (sym s) ∙ z)

      -- where x is not lower than what it meets, it goes on, and nothing changes
      passes : (e i q : ℕ) → ltb x.rank.0 (slot_in H ws q).rank.0 ≡ false → put_run H (suc e) i q x ws ≡ put_run H e (rest_of e i) (child H q (turn_of e i)) x ws
      unfolding put_run keep pass key
      passes e i q t =
          rw t (sym (run-write e (rest_of e i) (child H q (turn_of e i)) x ws q (slot_in H ws q) (under q (turn_of e i))) ∙ ap (put_run H e (rest_of e i) (child H q (turn_of e i)) x) (write-own H ws q))

      parent : (q : ℕ) (s : Side) → (child H q s - H) / 2 ≡ q
      parent q lhs = omega arith
      parent q rhs = omega arith

      not_top : (q : ℕ) (s : Side) → child H q s < H → ⊥
      not_top q lhs l = omega (arith, l)
      not_top q rhs l = omega (arith, l)

      module _ (is : m < H) where
        on-torn : (k j p : ℕ) → Comes H d r m k j p → H ≤ p → (e : Element) → e ≡ slot_in H ws ((p - H) / 2) → untagged e ≡ true → put_ok H d r m ws ≡ false
        unfolding put_ok
        on-torn k j p start l e s u = absurd (omega (arith, l, is))
        on-torn k j p (down f i q c) l e s u =
            let n : tagged H ws q ≡ false = tagged_is H ws q ∙ ap (λ (z : ℕ). not (untagged (slot_in H ws z))) (sym (parent q (turn_of f i))) ∙ ap (λ (z : Element). not (untagged z)) (sym s) ∙ ap not u in
            comes-torn ws (suc f) i q c (ap (λ (b : Bool). b && put_ok H f (rest_of f i) (child H q (turn_of f i)) ws) n)

        pub climbs-torn : (k p best : ℕ) → Climbs H d r m x ws k p best → H ≤ p → (e : Element) → e ≡ slot_in H ws ((p - H) / 2) → untagged e ≡ true → put_ok H d r m ws ≡ false
        climbs-torn k p best c l e s u = on-torn k c.rest p c.comes l e s u

        on-by : (k j p best left at : ℕ) → Comes H d r m k j p → H ≤ p → put_ok H k j p ws ≡ true → Comes H d r m best left at → put_run H k j p x ws ≡ put_run H best left at x ws
            → (b : Bool) → ltb x.rank.0 (slot_in H ws ((p - H) / 2)).rank.0 ≡ b → untagged (slot_in H ws ((p - H) / 2)) ≡ false
            → Climbs H d r m x ws (suc k) ((p - H) / 2) (cond b (suc k) best)
        unfolding put_ok
        on-by k j p best left at start l ok from same b t u = absurd (omega (arith, l, is))
        on-by k j p best left at (down f i q c) l ok from same b t u =
            subst (λ (z : ℕ). Climbs H d r m x ws (suc f) z (cond b (suc f) best)) (sym (parent q (turn_of f i))) (go b (ap (λ (z : ℕ). ltb x.rank.0 (slot_in H ws z).rank.0) (sym (parent q (turn_of f i))) ∙ t))
          where
            ok-here : put_ok H (suc f) i q ws ≡ true
            ok-here = ap (λ (b : Bool). b && put_ok H f (rest_of f i) (child H q (turn_of f i)) ws) (tagged_is H ws q ∙ ap (λ (z : ℕ). not (untagged (slot_in H ws z))) (sym (parent q (turn_of f i))) ∙ ap not u) ∙ ok

            go : (b : Bool) → ltb x.rank.0 (slot_in H ws q).rank.0 ≡ b → Climbs H d r m x ws (suc f) q (cond b (suc f) best)
            go true t = record { rest = i; comes = c; fine = ok-here; left = i; at = q; from = c; same = refl }
            go false t = record { rest = i; comes = c; fine = ok-here; left = left; at = at; from = from; same = passes f i q t ∙ same }

        pub climbs-on : (k p best : ℕ) → Climbs H d r m x ws k p best → H ≤ p → (e : Element) → e ≡ slot_in H ws ((p - H) / 2) → untagged e ≡ false
            → (next : ℕ) → next ≡ cond (ltb x.rank.0 e.rank.0) (k + 1) best → Climbs H d r m x ws (k + 1) ((p - H) / 2) next
        climbs-on k p best c l e s u next n =
            let w : suc k ≡ k + 1 = omega arith in
            subst (Climbs H d r m x ws (k + 1) ((p - H) / 2)) (ap (λ (z : Element). cond (ltb x.rank.0 z.rank.0) (k + 1) best) (sym s) ∙ sym n)
            (subst (λ (z : ℕ). Climbs H d r m x ws z ((p - H) / 2) (cond (ltb x.rank.0 (slot_in H ws ((p - H) / 2)).rank.0) z best)) w
            (on-by k c.rest p best c.left c.at c.comes l c.fine c.from c.same (ltb x.rank.0 (slot_in H ws ((p - H) / 2)).rank.0) refl (ap untagged (sym s) ∙ u)))

        top-by : (k j p best left at : ℕ) → Comes H d r m k j p → p < H → put_ok H k j p ws ≡ true → Comes H d r m best left at → put_run H k j p x ws ≡ put_run H best left at x ws
            → PutFound H d r m x ws (Some best)
        top-by k j p best left at start l ok from same = (ok, record { rest = left; at = at; comes = from; same = same })
        top-by k j p best left at (down f i q c) l ok from same = absurd (not_top q (turn_of f i) l)

        pub climbs-top : (k p best : ℕ) → Climbs H d r m x ws k p best → p < H → PutFound H d r m x ws (Some best)
        climbs-top k p best c l = top-by k c.rest p best c.left c.at c.comes l c.fine c.from c.same

  -- ---- the walk down: from the slot k levels above `end`
  slot-up : (end at k j : ℕ) → j < size k → end ≡ slot_at H at k j → (end + H) / 2 ^ k - H ≡ at
  slot-up end at k j l e =
      let s : end + H ≡ (at + H) * size k + j = ap (λ (z : ℕ). z + H) e ∙ slot-by H at k j l ∙ omega (arith, add-mul at H (size k)) in
      let q : (end + H) / size k ≡ at + H + j / size k = ap (λ (z : ℕ). z / size k) s ∙ mul-add-div_right (size-pos k) (at + H) j in
      let z : j / size k ≡ 0 = div-eq_of_lt l in
      let w : (end + H) / 2 ^ k ≡ (end + H) / size k = ap (λ (z : ℕ). (end + H) / z) (sym (size_is k)) in
      omega (arith, q, z, w)

  module _ (end levels r m : ℕ) (x : Element) (ws : List ℕ) where
    pub falls-from : r < size levels → end ≡ slot_at H m levels r → Falls H end levels r m x ws levels x ws
    falls-from l e = record { rest = r; at = m; within = l; lands = e; same = refl }

    falls-by : (e : ℕ) (y : Element) (us : List ℕ) → Falls H end levels r m x ws (suc e) y us → (p : ℕ) → p ≡ (end + H) / 2 ^ suc e - H → (z : Element) (vs : List ℕ) → z ≡ pass y (slot_in H us p)
        → vs ≡ write_slot H us p (keep y (slot_in H us p)) → Falls H end levels r m x ws e z vs
    unfolding put_run slot_at
    falls-by e y us f p is z vs pz pv =
        let q : p ≡ f.at = is ∙ slot-up end f.at (suc e) f.rest f.within f.lands in
        let s : Element = slot_in H us f.at in
        let c : ℕ = child H f.at (turn_of e f.rest) in
        record {
          rest = rest_of e f.rest;
          at = c;
          within = rest-within e f.rest f.within;
          lands = f.lands;
          same = f.same ∙ sym (run-write e (rest_of e f.rest) c (pass y s) us f.at (keep y s) (under f.at (turn_of e f.rest)))
              ∙ ap₂ (put_run H e (rest_of e f.rest) c) (sym (pz ∙ ap (λ (i : ℕ). pass y (slot_in H us i)) q)) (sym (pv ∙ ap (λ (i : ℕ). write_slot H us i (keep y (slot_in H us i))) q));
        }

    pub falls-on : (k : ℕ) → 0 < k → (y : Element) (us : List ℕ) → Falls H end levels r m x ws k y us → (p : ℕ) → p ≡ (end + H) / 2 ^ k - H → (z : Element) (vs : List ℕ) → z ≡ pass y (slot_in H us p)
        → vs ≡ write_slot H us p (keep y (slot_in H us p)) → Falls H end levels r m x ws (k - 1) z vs
    falls-on zero l y us f p is z vs pz pv = absurd (not-suc-le-zero l)
    falls-on (suc e) l y us f p is z vs pz pv = let w : e ≡ suc e - 1 = omega arith in subst (λ (i : ℕ). Falls H end levels r m x ws i z vs) w (falls-by e y us f p is z vs pz pv)

    pub falls-last : (k : ℕ) → k ≡ 0 → (y : Element) (us : List ℕ) → Falls H end levels r m x ws k y us → (vs : List ℕ) → vs ≡ write_slot H us end y → vs ≡ put_run H levels r m x ws
    unfolding put_run slot_at
    falls-last k z y us f vs w = ends f.rest f.at (subst (λ (i : ℕ). end ≡ slot_at H f.at i f.rest) z f.lands) (f.same ∙ ap (λ (i : ℕ). put_run H i f.rest f.at y us) z)
      where
        ends : (j p : ℕ) → end ≡ slot_at H p 0 j → put_run H levels r m x ws ≡ put_run H 0 j p y us → vs ≡ put_run H levels r m x ws
        ends j p e s = w ∙ ap (λ (i : ℕ). write_slot H us i y) e ∙ sym s

  -- ---- the two walks together
  module _ (d r m : ℕ) (within : r < size d) (end : ℕ) (lands : end ≡ slot_at H m d r) (x : Element) (ws : List ℕ) where
    pub found_ok : (k : ℕ) → PutFound H d r m x ws (Some k) → put_ok H d r m ws ≡ true
    found_ok k g = g.0

    pub found-ready : (len : ℕ) → d ≤ 16 → H + end * 3 + 3 ≤ len → (k : ℕ) → PutFound H d r m x ws (Some k) → PutReady H end k len
    found-ready len few room k g =
        let t : Starts H d r m x ws k = g.1 in
        let b : slot_at H t.at k t.rest + H ≡ t.at * size k + H * size k + t.rest = slot-by H t.at k t.rest (comes-within d r m within k t.rest t.at t.comes) in
        record {
          one = pos;
          few = omega (arith, few, comes-few d r m k t.rest t.at t.comes);
          room = room;
          below = omega (arith, b, lands, comes-to d r m k t.rest t.at t.comes);
        }

    pub found-done : (k : ℕ) → PutFound H d r m x ws (Some k) → (vs : List ℕ) → PutDone H end k x ws vs → vs ≡ put_run H d r m x ws
    found-done k g vs done =
        let t : Starts H d r m x ws k = g.1 in
        done t.rest t.at (comes-within d r m within k t.rest t.at t.comes) (lands ∙ sym (comes-to d r m k t.rest t.at t.comes)) ∙ sym t.same

-- ---- the numbers of both walks
pub up_least : (H k n : ℕ) → H * size k ≤ n → H ≤ n / 2 ^ k
up_least H k n l = rw (← size_is k) ((le-div_iff_mul-le (size-pos k)).1 l)

pub up-most : (k n : ℕ) → n / 2 ^ k ≤ n
up-most k n = div-le_self n (2 ^ k)

pub below_on : (H k n : ℕ) → 0 < k → H * size k ≤ n → H * size (k - 1) ≤ n
unfolding size
below_on H zero n l b = absurd (not-suc-le-zero l)
below_on H (suc e) n l b = let w : suc e - 1 ≡ e = omega arith in rw w (omega (arith, b, mul-add H (size e) (size e)))

-- the children of a slot that has levels below it lie in the slice
pub under-lies : (H k m len : ℕ) → 0 < k → Lies H (suc k) m len → H + (m + m + H + 1) * 3 + 3 ≤ len
under-lies H zero m len p l = absurd (not-suc-le-zero p)
under-lies H (suc k) m len p l = l.2.0

-- ---- the element put and the element met
module _ (H : ℕ) (x e : Element) (m : ℕ) (ws : List ℕ) (met : e ≡ slot_in H ws m) where
  pub met-high : x.rank.0 < e.rank.0 → (vs : List ℕ) → vs ≡ write_slot H ws m x → (e ≡ pass x (slot_in H ws m)) × (vs ≡ write_slot H ws m (keep x (slot_in H ws m)))
  unfolding keep pass key
  met-high l vs w = rw (← met) (rw (lt-ltb x.rank.0 e.rank.0 l) (refl, w))

  pub met-low : e.rank.0 ≤ x.rank.0 → (x ≡ pass x (slot_in H ws m)) × (ws ≡ write_slot H ws m (keep x (slot_in H ws m)))
  unfolding keep pass key
  met-low l =
      let t : ltb x.rank.0 (slot_in H ws m).rank.0 ≡ false = le-ltb x.rank.0 (slot_in H ws m).rank.0 (subst (λ (z : Element). z.rank.0 ≤ x.rank.0) met l) in
      rw t (refl, sym (write-own H ws m))
