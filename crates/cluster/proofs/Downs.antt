-- For the code of the recursions.
use Rattle.std.proofs.Common.{IfSome, None, Option, Some}
use Rattle.laws.specs.Prelude.{Bool, Element, List, ◌&&◌, ◌*◌, ◌+◌, ◌-◌, ◌<◌, ◌||◌, ◌∙◌, ◌≡◌, ◌≤◌, ap, ap₂, arith, cond, false, false≢true, key, le-leb, le-ltb, leb, leb-true, length, lt-leb, lt-ltb, ltb, ltb-false, ltb-true, not, not-false, not-true, refl, subst, suc, sym, true, zero, ℕ}
use Rattle.cluster_node.specs.declared.Seen.{Seen}
use Rattle.cluster_node.specs.declared.Lead.{Lead}
use Rattle.cluster_node.specs.declared.Chosen.{Chosen}
use Rattle.cluster_model.specs.Prelude.{gap, has, keep, pass, place_words, width, word, write_place}
use Rattle.cluster_node.specs.Seeing.{look_to}
use Rattle.cluster_node.specs.Full.{full_to, low_lead, high_lead, is_high, ranks}
use Rattle.cluster_node.specs.Leaf.{elem_at, under_of, bare_at, ok_by, raise_words, sink_words, look_node, place_in, choice_by, choice_of, counts_ok, begun, ChoiceFrom, Here, Lies, Under, Scanned}
use Rattle.cluster.specs.Down.{Went, went, fewer_right, take_back, take_node, take_down, swap_back, swap_node, swap_down, put_back, put_node, put_down, put_in, put_end, Reach, TakeReady, PutReady, TakeMeets, SwapMeets, PutMeets}
use Rattle.cluster_node.proofs.Children.{choice-place, left-begins, right-begins}
use Rattle.cluster_node.proofs.Fulls.{and_l, full-look, full-high, ok-full, counts-in, neat-room, best-lt}

-- ---- where the nodes lie
pub lies-here : (K left m len : ℕ) → Reach K left m len → Here K m len
lies-here K zero m len l = l
lies-here K (suc k) m len l = l.0

pub lies-one : (K left m len : ℕ) → (left ≡ 0 → ⊥) → Reach K left m len → Reach K 1 m len
lies-one K zero m len n l = absurd (n refl)
lies-one K (suc k) m len n l = (l.0, lies-here K k (m + m + 1) len l.1, lies-here K k (m + m + 2) len l.2)

less_one : (k : ℕ) → suc k - 1 ≡ k
less_one k = omega arith

pub lies-side : (K left m len : ℕ) (b : Bool) (d : ℕ) → (left ≡ 0 → ⊥) → Reach K left m len → d ≡ cond b (m + m + 2) (m + m + 1) → Reach K (left - 1) d len
lies-side K zero m len b d n l e = absurd (n refl)
lies-side K (suc k) m len b d n l e = subst (λ (j : ℕ). Reach K j d len) (sym (less_one k)) (subst (λ (d : ℕ). Reach K k d len) (sym e) (go b))
  where
    go : (b : Bool) → Reach K k (cond b (m + m + 2) (m + m + 1)) len
    go true = l.2
    go false = l.1

pub lies_within : (K left m o len : ℕ) → o ≡ m * width K → Reach K left m len → Lies K o len
lies_within K left m o len at l =
    let h = lies-here K left m len l in
    record { some = h.some; few = h.few; words = omega (arith, at, h.words) }

pub lies-under : (K left m o len : ℕ) → o ≡ m * width K → (left ≡ 0 → ⊥) → Reach K left m len → Under K o len
lies-under K left m o len at n l =
    let h = (lies-one K left m len n l).2 in
    record { some = h.some; few = h.few; words = omega (arith, at, h.words) }

module _ (K left o j : ℕ) (ws : List ℕ) (r : TakeReady K left o j ws) where
  pub take_within : Lies K o (length ws)
  take_within = lies_within K left r.node o (length ws) r.begins r.lies

  pub take-under : (left ≡ 0 → ⊥) → Under K o (length ws)
  take-under n = lies-under K left r.node o (length ws) r.begins n r.lies

  pub child-ready : (limit : ℕ) (c : Chosen) → (left ≡ 0 → ⊥) → ChoiceFrom K limit ws o c → TakeReady K (left - 1) c.child c.place ws
  unfolding choice_of choice_by
  child-ready limit c n chosen =
      let m : ℕ = r.node in
      let e = chosen m r.begins in
      record {
        node = (choice_of K limit ws m).child;
        begins = ap (λ (u : Chosen). u.child) e;
        lies = lies-side K left m (length ws) (choice_of K limit ws m).right (choice_of K limit ws m).child n r.lies refl;
        place = subst (λ (i : ℕ). i < K) (sym (ap (λ (u : Chosen). u.place) e)) (choice-place K limit ws m (choice_of K limit ws m) (omega (arith, lies-here K left m (length ws) r.lies)) refl);
      }

-- ---- the choice of a child: at four places a full pair is tried first
pub scanned : (K : ℕ) (ws : List ℕ) (o : ℕ) (p q : Lead) → Under K o (length ws) → K ≡ 4 → p ≡ low_lead ws (o + o + 20) 4 → q ≡ low_lead ws (o + o + 38) 4 → Scanned ws o p q
scanned K ws o p q u k ep eq =
    let a : o + o + 20 ≡ o + o + width 4 + 2 = omega arith in
    let b : o + o + 38 ≡ o + o + width 4 + width 4 + 2 = omega arith in
    record { words = omega (arith, u.words, k); left = ep ∙ ap (λ (i : ℕ). low_lead ws i 4) a; right = eq ∙ ap (λ (i : ℕ). low_lead ws i 4) b }

module _ (K below : ℕ) (ws : List ℕ) (o : ℕ) where
  -- a choice that may have been made
  abbrev pub Made : Option Chosen → Type 0
  Made d = IfSome d (ChoiceFrom K below ws o)

  pub choice-four : (d : Option Chosen) → K ≡ 4 → IfSome d (λ c. (c.ok ≡ true) × ChoiceFrom 4 below ws o c) → Made d
  choice-four None k h = h
  choice-four (Some c) k h = subst (λ (K : ℕ). ChoiceFrom K below ws o c) (sym k) h.1

  pub choice-none : (d : Option Chosen) → d ≡ None → Made d
  choice-none d e = subst Made (sym e) tt

  pub choice-first : (d : Option Chosen) (c : Chosen) → Made d → d ≡ Some c → ChoiceFrom K below ws o c
  choice-first d c h e = subst Made e h

  pub choice-any : (c r : Chosen) → ChoiceFrom K below ws o r → c ≡ r → ChoiceFrom K below ws o c
  choice-any c r h e = subst (ChoiceFrom K below ws o) (sym e) h

-- ---- take
module _ (K left m limit j : ℕ) (ws : List ℕ) (o : ℕ) (at : o ≡ m * width K) where
  pub take-zero : (q : List ℕ) → left ≡ 0 → q ≡ write_place ws (o + 2 + j * place_words) gap → went true q ≡ take_down K left m limit j ws
  unfolding take_down
  take-zero q z e = rw z (ap (went true) (e ∙ ap (λ (o : ℕ). write_place ws (o + 2 + j * place_words) gap) at))

  unroll : (left ≡ 0 → ⊥) → take_down K left m limit j ws ≡ take_node K (take_down K (left - 1)) m limit j ws
  unfolding take_down
  unroll n = go left n
    where
      go : (left : ℕ) → (left ≡ 0 → ⊥) → take_down K left m limit j ws ≡ take_node K (take_down K (left - 1)) m limit j ws
      go zero n = absurd (n refl)
      go (suc k) n = ap (λ (i : ℕ). take_node K (take_down K i) m limit j ws) (sym (less_one k))

  module _ (n : left ≡ 0 → ⊥) (bare : Bool) (read : bare ≡ bare_at ws o) where
    tested : bare ≡ bare_at ws (m * width K)
    tested = read ∙ ap (bare_at ws) at

    pub take_bare : (q : List ℕ) → bare ≡ true → q ≡ write_place ws (o + 2 + j * place_words) gap → went true q ≡ take_down K left m limit j ws
    unfolding take_node
    take_bare q t e = rw (unroll n, ← tested, t) (ap (went true) (e ∙ ap (λ (o : ℕ). write_place ws (o + 2 + j * place_words) gap) at))

    module _ (some : bare ≡ false) (below : ℕ) (under : below ≡ under_of K limit) (c : Chosen) (chosen : ChoiceFrom K below ws o c) where
      abbrev C : Chosen
      C = choice_of K below ws m

      is : c ≡ begun K C
      is = chosen m at

      fine : c.ok ≡ C.ok
      fine = ap (λ (u : Chosen). u.ok) is

      here : take_node K (take_down K (left - 1)) m limit j ws
          ≡ cond C.ok (take_back K m j (word ws (m * width K)) (word ws (m * width K + 1)) C (take_down K (left - 1) C.child below C.place ws)) (went false ws)
      unfolding take_node
      here = rw (← tested, some, ← under) refl

      pub take-bad : not c.ok ≡ true → went false ws ≡ take_down K left m limit j ws
      take-bad t = rw (unroll n, here, ← fine, not-true c.ok t) refl

      module _ (ok : not c.ok ≡ false) (g : Bool) (q : List ℕ) (goes : TakeMeets K (left - 1) c.child below c.place ws g q) where
        gone : went g q ≡ take_down K (left - 1) C.child below C.place ws
        gone = goes C.child (ap (λ (u : Chosen). u.child) is) ∙ ap (λ (u : Chosen). take_down K (left - 1) C.child below u.place ws) is

        pub take-stop : not g ≡ true → went false q ≡ take_down K left m limit j ws
        unfolding take_back
        take-stop t = rw (unroll n, here, ← fine, not-false c.ok ok, ← gone, not-true g t) refl

        pub take_done : not g ≡ false → (l r : ℕ) → l ≡ word ws o → r ≡ word ws (o + 1) → (q₁ q₂ : List ℕ) → q₁ ≡ sink_words c.right q o l r
            → q₂ ≡ write_place q₁ (o + 2 + j * place_words) (has c.up) → went true q₂ ≡ take_down K left m limit j ws
        unfolding take_back
        take_done t l r el er q₁ q₂ e₁ e₂ =
            rw (unroll n, here, ← fine, not-false c.ok ok, ← gone, not-false g t)
            (ap (went true)
            (e₂ ∙ ap (λ (q : List ℕ). write_place q (o + 2 + j * place_words) (has c.up)) (e₁ ∙ ap₂ (λ (l r : ℕ). sink_words c.right q o l r) el er)
            ∙ ap (λ (o : ℕ). write_place (sink_words c.right q o (word ws o) (word ws (o + 1))) (o + 2 + j * place_words) (has c.up)) at
            ∙ ap (λ (u : Chosen). write_place (sink_words u.right q (m * width K) (word ws (m * width K)) (word ws (m * width K + 1))) (place_in K m j) (has u.up)) is))

-- ---- swap
module _ (K left m limit j : ℕ) (x : Element) (ws : List ℕ) (o : ℕ) (at : o ≡ m * width K) where
  swap-put : (q : List ℕ) → q ≡ write_place ws (o + 2 + j * place_words) (has x) → went true q ≡ went true (write_place ws (place_in K m j) (has x))
  swap-put q e = ap (went true) (e ∙ ap (λ (o : ℕ). write_place ws (o + 2 + j * place_words) (has x)) at)

  pub swap-zero : (q : List ℕ) → left ≡ 0 → q ≡ write_place ws (o + 2 + j * place_words) (has x) → went true q ≡ swap_down K left m limit j x ws
  unfolding swap_down
  swap-zero q z e = rw z (swap-put q e)

  swap-unroll : (left ≡ 0 → ⊥) → swap_down K left m limit j x ws ≡ swap_node K (λ m limit j ws. swap_down K (left - 1) m limit j x ws) m limit j x ws
  unfolding swap_down
  swap-unroll n = go left n
    where
      go : (left : ℕ) → (left ≡ 0 → ⊥) → swap_down K left m limit j x ws ≡ swap_node K (λ m limit j ws. swap_down K (left - 1) m limit j x ws) m limit j x ws
      go zero n = absurd (n refl)
      go (suc k) n = ap (λ (i : ℕ). swap_node K (λ m limit j ws. swap_down K i m limit j x ws) m limit j x ws) (sym (less_one k))

  module _ (n : left ≡ 0 → ⊥) (bare : Bool) (read : bare ≡ bare_at ws o) where
    swap-tested : bare ≡ bare_at ws (m * width K)
    swap-tested = read ∙ ap (bare_at ws) at

    pub swap-bare : (q : List ℕ) → bare ≡ true → q ≡ write_place ws (o + 2 + j * place_words) (has x) → went true q ≡ swap_down K left m limit j x ws
    unfolding swap_node
    swap-bare q t e = rw (swap-unroll n, ← swap-tested, t) (swap-put q e)

    module _ (some : bare ≡ false) (below : ℕ) (under : below ≡ under_of K limit) (c : Chosen) (chosen : ChoiceFrom K below ws o c) where
      abbrev D : Chosen
      D = choice_of K below ws m

      swap_is : c ≡ begun K D
      swap_is = chosen m at

      swap-fine : c.ok ≡ D.ok
      swap-fine = ap (λ (u : Chosen). u.ok) swap_is

      swap-here : swap_node K (λ m limit j ws. swap_down K (left - 1) m limit j x ws) m limit j x ws
          ≡ cond D.ok
          (cond (ltb (key D.up) (key x)) (swap_back K m j D (swap_down K (left - 1) D.child below D.place x ws)) (went true (write_place ws (place_in K m j) (has x))))
          (went false ws)
      unfolding swap_node
      swap-here = rw (← swap-tested, some, ← under) refl

      pub swap-bad : not c.ok ≡ true → went false ws ≡ swap_down K left m limit j x ws
      swap-bad t = rw (swap-unroll n, swap-here, ← swap-fine, not-true c.ok t) refl

      module _ (ok : not c.ok ≡ false) (low : Bool) (compared : low ≡ ltb (key c.up) (key x)) where
        lows : low ≡ ltb (key D.up) (key x)
        lows = compared ∙ ap (λ (u : Chosen). ltb (key u.up) (key x)) swap_is

        pub swap-stays : (q : List ℕ) → not low ≡ true → q ≡ write_place ws (o + 2 + j * place_words) (has x) → went true q ≡ swap_down K left m limit j x ws
        swap-stays q t e = rw (swap-unroll n, swap-here, ← swap-fine, not-false c.ok ok, ← lows, not-true low t) (swap-put q e)

        module _ (lifts : not low ≡ false) (g : Bool) (q : List ℕ) (goes : SwapMeets K (left - 1) c.child below c.place x ws g q) where
          swap-gone : went g q ≡ swap_down K (left - 1) D.child below D.place x ws
          swap-gone = goes D.child (ap (λ (u : Chosen). u.child) swap_is) ∙ ap (λ (u : Chosen). swap_down K (left - 1) D.child below u.place x ws) swap_is

          pub swap-stop : not g ≡ true → went false q ≡ swap_down K left m limit j x ws
          unfolding swap_back
          swap-stop t = rw (swap-unroll n, swap-here, ← swap-fine, not-false c.ok ok, ← lows, not-false low lifts, ← swap-gone, not-true g t) refl

          pub swap-done : not g ≡ false → (q₂ : List ℕ) → q₂ ≡ write_place q (o + 2 + j * place_words) (has c.up) → went true q₂ ≡ swap_down K left m limit j x ws
          unfolding swap_back
          swap-done t q₂ e =
              rw (swap-unroll n, swap-here, ← swap-fine, not-false c.ok ok, ← lows, not-false low lifts, ← swap-gone, not-false g t)
              (ap (went true) (e ∙ ap (λ (o : ℕ). write_place q (o + 2 + j * place_words) (has c.up)) at ∙ ap (λ (u : Chosen). write_place q (place_in K m j) (has u.up)) swap_is))

-- ---- a node that is not full has room, if it is in order
module _ (K limit : ℕ) (x : Element) (ws : List ℕ) (o : ℕ) where
  abbrev seen : Seen
  seen = look_to ws (o + 2) K

  ok-neat : ok_by K limit ws o seen ≡ true → seen.neat ≡ true
  unfolding ok_by
  ok-neat e = and_l seen.neat (leb (word ws o) limit && (leb (word ws (o + 1)) limit && (bare_at ws o || leb K seen.count))) e

  module _ (v : Seen) (looked : v ≡ seen) (fine : Bool) (told : fine ≡ ok_by K limit ws o v) where
    known : fine ≡ ok_by K limit ws o seen
    known = told ∙ ap (ok_by K limit ws o) looked

    pub end-bad : not fine ≡ true → went false ws ≡ put_end K limit o x ws
    unfolding put_end
    end-bad t = rw (← known, not-true fine t) refl

    module _ (ok : not fine ≡ false) where
      frees : v.free ≡ seen.free
      frees = ap (λ (u : Seen). u.free) looked

      pub end-room : v.free < K → (q : List ℕ) → q ≡ write_place ws (o + 2 + v.free * place_words) (has x) → went true q ≡ put_end K limit o x ws
      unfolding put_end
      end-room h q w = rw (← known, not-false fine ok, lt-ltb seen.free K (omega (arith, frees, h))) (ap (went true) (w ∙ ap (λ (i : ℕ). write_place ws (o + 2 + i * place_words) (has x)) frees))

      pub end_none : K ≤ v.free → went false ws ≡ put_end K limit o x ws
      unfolding put_end
      end_none h = rw (← known, not-false fine ok, le-ltb seen.free K (omega (arith, frees, h))) refl

-- ---- both counts are tested by the greater, and by the lesser
and_first : (a b : Bool) → (a ≡ true → b ≡ true) → a ≡ (a && b)
and_first true b h = sym (h refl)
and_first false b h = refl

and_second : (a b : Bool) → (b ≡ true → a ≡ true) → b ≡ (a && b)
and_second true b h = refl
and_second false true h = absurd (false≢true (h refl))
and_second false false h = refl

module _ (limit l r : ℕ) where
  counts-more : (more : ℕ) → more ≡ cond (ltb r l) l r → leb more limit ≡ (leb l limit && leb r limit)
  counts-more more e = rw e (go (ltb r l) refl)
    where
      go : (b : Bool) → ltb r l ≡ b → leb (cond b l r) limit ≡ (leb l limit && leb r limit)
      go true t = and_first (leb l limit) (leb r limit) (λ h. le-leb r limit (omega (arith, ltb-true r l t, leb-true l limit h)))
      go false t = and_second (leb l limit) (leb r limit) (λ h. le-leb l limit (omega (arith, ltb-false r l t, leb-true r limit h)))

  counts-fewer : (fewer : ℕ) → fewer ≡ cond (ltb r l) r l → leb limit fewer ≡ (leb limit l && leb limit r)
  counts-fewer fewer e = rw e (go (ltb r l) refl)
    where
      go : (b : Bool) → ltb r l ≡ b → leb limit (cond b r l) ≡ (leb limit l && leb limit r)
      go true t = and_second (leb limit l) (leb limit r) (λ h. le-leb limit l (omega (arith, ltb-true r l t, leb-true limit r h)))
      go false t = and_first (leb limit l) (leb limit r) (λ h. le-leb limit r (omega (arith, ltb-false r l t, leb-true limit l h)))

-- ---- put
module _ (K left m limit : ℕ) (x : Element) (ws : List ℕ) (o : ℕ) (at : o ≡ m * width K) where
  abbrev v : Seen
  v = look_node K ws m

  end-in : full_to ws (m * width K + 2) K ≡ false → put_end K limit (m * width K) x ws ≡ put_in K left m limit x ws
  unfolding put_end put_in look_node put_down put_node
  end-in nf = go (ok_by K limit ws (m * width K) (look_to ws (m * width K + 2) K)) refl
    where
      room : ok_by K limit ws (m * width K) (look_to ws (m * width K + 2) K) ≡ true → (look_to ws (m * width K + 2) K).free < K
      room e = neat-room ws (m * width K + 2) K (ok-neat K limit x ws (m * width K) e) nf

      down : (left : ℕ) → (look_to ws (m * width K + 2) K).free < K
          → went true (write_place ws (m * width K + 2 + (look_to ws (m * width K + 2) K).free * place_words) (has x)) ≡ put_down K left m limit (look_to ws (m * width K + 2) K) x ws
      down zero h = rw (lt-ltb (look_to ws (m * width K + 2) K).free K h) refl
      down (suc k) h = rw (lt-ltb (look_to ws (m * width K + 2) K).free K h) refl

      go : (b : Bool) → ok_by K limit ws (m * width K) (look_to ws (m * width K + 2) K) ≡ b
          → cond b (cond (ltb (look_to ws (m * width K + 2) K).free K) (went true (write_place ws (m * width K + 2 + (look_to ws (m * width K + 2) K).free * place_words) (has x))) (went false ws)) (went false ws)
          ≡ cond b (put_down K left m limit (look_to ws (m * width K + 2) K) x ws) (went false ws)
      go true e = rw (lt-ltb (look_to ws (m * width K + 2) K).free K (room e)) (down left (room e))
      go false e = refl

  -- on the last level an element stays or is refused
  pub put-leaf : left ≡ 0 → (g : Bool) (q : List ℕ) → went g q ≡ put_end K limit o x ws → went g q ≡ put_in K left m limit x ws
  unfolding put_end put_in put_down look_node
  put-leaf z g q e = e ∙ ap (λ (o : ℕ). put_end K limit o x ws) at ∙ rw z refl

  module _ (f : Lead) (led : f ≡ high_lead ws (o + 2) K) where
    lead : f ≡ high_lead ws (m * width K + 2) K
    lead = led ∙ ap (λ (o : ℕ). high_lead ws (o + 2) K) at

    flags : f.full ≡ full_to ws (m * width K + 2) K
    flags = ap (λ (u : Lead). u.full) lead

    pub put-end : not f.full ≡ true → (g : Bool) (q : List ℕ) → went g q ≡ put_end K limit o x ws → went g q ≡ put_in K left m limit x ws
    put-end t g q e = e ∙ ap (λ (o : ℕ). put_end K limit o x ws) at ∙ end-in (sym flags ∙ not-true f.full t)

    module _ (full : not f.full ≡ false) (big : 1 < K) (more : ℕ) (most : more ≡ cond (ltb (word ws (o + 1)) (word ws o)) (word ws o) (word ws (o + 1))) where
      counted : leb more limit ≡ counts_ok limit ws o
      unfolding counts_ok
      counted = counts-more limit (word ws o) (word ws (o + 1)) more most

      filled : full_to ws (m * width K + 2) K ≡ true
      filled = sym flags ∙ not-false f.full full

      tests : ok_by K limit ws (m * width K) v ≡ leb more limit
      unfolding look_node
      tests = let u = full-look ws (m * width K + 2) K filled in ok-full K limit ws (m * width K) (look_to ws (m * width K + 2) K) u.0 u.1 ∙ sym (counted ∙ ap (counts_ok limit ws) at)

      pub put-bad : limit < more → went false ws ≡ put_in K left m limit x ws
      unfolding put_in
      put-bad t = rw (tests, lt-leb more limit t) refl

      module _ (ok : more ≤ limit) where
        free-none : K ≤ v.free
        unfolding look_node
        free-none = omega (arith, (full-look ws (m * width K + 2) K filled).2)

        in-down : put_in K left m limit x ws ≡ put_down K left m limit v x ws
        unfolding put_in
        in-down = rw (tests, le-leb more limit ok) refl

        pub put-counts : limit ≤ 5460 → (word ws o ≤ 5460) × (word ws (o + 1) ≤ 5460)
        put-counts h = let b = counts-in limit ws o (sym counted ∙ le-leb more limit ok) in (omega (arith, b.0), omega (arith, b.1))

        put-unroll : (left ≡ 0 → ⊥) → put_down K left m limit v x ws ≡ put_node K (put_down K (left - 1)) m limit v x ws
        unfolding put_down
        put-unroll n = go left n
          where
            go : (left : ℕ) → (left ≡ 0 → ⊥) → put_down K left m limit v x ws ≡ put_node K (put_down K (left - 1)) m limit v x ws
            go zero n = absurd (n refl)
            go (suc k) n = ap (λ (i : ℕ). put_node K (put_down K i) m limit v x ws) (sym (less_one k))

        module _ (n : left ≡ 0 → ⊥) (fewer : ℕ) (least : fewer ≡ cond (ltb (word ws (o + 1)) (word ws o)) (word ws (o + 1)) (word ws o)) where
          both_at : leb limit fewer ≡ (leb limit (word ws (m * width K)) && leb limit (word ws (m * width K + 1)))
          both_at = counts-fewer limit (word ws o) (word ws (o + 1)) fewer least ∙ ap (λ (o : ℕ). leb limit (word ws o) && leb limit (word ws (o + 1))) at

          down-full : limit ≤ fewer → went false ws ≡ put_down K left m limit v x ws
          unfolding put_node
          down-full t = rw (put-unroll n, le-ltb v.free K free-none, ← both_at, le-leb limit fewer t) refl

          pub put_full : limit ≤ fewer → went false ws ≡ put_in K left m limit x ws
          put_full t = down-full t ∙ sym in-down

          module _ (some : fewer < limit) (d : ℕ) (side : d ≡ cond (ltb (word ws (o + 1)) (word ws o)) (o + o + width K + width K) (o + o + width K)) (below : ℕ) (under : below ≡ under_of K limit)
              (small : (i : ℕ) → word ws i < 4294967296) (e : Element) (met : e ≡ elem_at ws (o + 2 + f.place * place_words)) (stays goes : Element) (kept : stays ≡ keep x e) (passed : goes ≡ pass x e)
              (g : Bool) (q : List ℕ) (went_on : PutMeets K (left - 1) d below goes ws g q) where
            abbrev R : Bool
            R = ltb (word ws (m * width K + 1)) (word ws (m * width K))

            abbrev M : ℕ
            M = cond R (m + m + 2) (m + m + 1)

            node_at : d ≡ M * width K
            node_at = side ∙ ap (λ (o : ℕ). cond (ltb (word ws (o + 1)) (word ws o)) (o + o + width K + width K) (o + o + width K)) at ∙ go R
              where
                go : (b : Bool) → cond b (m * width K + m * width K + width K + width K) (m * width K + m * width K + width K) ≡ cond b (m + m + 2) (m + m + 1) * width K
                go true = right-begins K m (m * width K) refl
                go false = left-begins K m (m * width K) refl

            high-at : f.place ≡ v.high
            unfolding look_node
            high-at = ap (λ (u : Lead). u.place) lead ∙ sym (full-high ws (m * width K + 2) small K filled)

            abbrev E : Element
            E = elem_at ws (place_in K m v.high)

            met_at : e ≡ E
            met_at = met ∙ ap₂ (λ (o j : ℕ). elem_at ws (o + 2 + j * place_words)) at high-at

            put-gone : went g q ≡ put_in K (left - 1) M below (pass x E) ws
            put-gone = went_on M node_at ∙ ap (λ (y : Element). put_in K (left - 1) M below y ws) (passed ∙ ap (pass x) met_at)

            back : (b : Bool) (h : Went) → cond b (put_back K R m v.high (word ws (m * width K)) (word ws (m * width K + 1)) (keep x E) h) (went false ws)
                ≡ put_back K R m v.high (word ws (m * width K)) (word ws (m * width K + 1)) (keep x E) (cond b h (went false ws))
            unfolding put_back
            back true h = refl
            back false h = refl

            put-here : put_node K (put_down K (left - 1)) m limit v x ws ≡ put_back K R m v.high (word ws (m * width K)) (word ws (m * width K + 1)) (keep x E) (put_in K (left - 1) M below (pass x E) ws)
            unfolding put_node fewer_right put_in
            put-here =
                rw (le-ltb v.free K free-none, ← both_at, lt-leb limit fewer some, ← under)
                (back (ok_by K below ws (M * width K) (look_node K ws M)) (put_down K (left - 1) M below (look_node K ws M) (pass x E) ws))

            pub put-stop : not g ≡ true → went false q ≡ put_in K left m limit x ws
            unfolding put_back
            put-stop t = rw (in-down, put-unroll n, put-here, ← put-gone, not-true g t) refl

            pub put-done : not g ≡ false → (q₁ q₂ : List ℕ) → q₁ ≡ raise_words (ltb (word ws (o + 1)) (word ws o)) q o (word ws o) (word ws (o + 1))
                → q₂ ≡ write_place q₁ (o + 2 + f.place * place_words) (has stays) → went true q₂ ≡ put_in K left m limit x ws
            unfolding put_back
            put-done t q₁ q₂ e₁ e₂ =
                rw (in-down, put-unroll n, put-here, ← put-gone, not-false g t)
                (ap (went true)
                (e₂ ∙ ap₂ (λ (q : List ℕ) (y : Element). write_place q (o + 2 + f.place * place_words) (has y)) e₁ (kept ∙ ap (keep x) met_at)
                ∙ ap₂ (λ (o j : ℕ). write_place (raise_words (ltb (word ws (o + 1)) (word ws o)) q o (word ws o) (word ws (o + 1))) (o + 2 + j * place_words) (has (keep x E))) at high-at))

-- ---- what a put asks
module _ (K left o limit : ℕ) (ws : List ℕ) (r : PutReady K left o limit ws) where
  pub put-within : Lies K o (length ws)
  put-within = lies_within K left r.node o (length ws) r.begins r.lies

  pub put_under : (left ≡ 0 → ⊥) → Under K o (length ws)
  put_under n = lies-under K left r.node o (length ws) r.begins n r.lies

  pub goes-ready : (left ≡ 0 → ⊥) → (b : Bool) (d below : ℕ) → d ≡ cond b (o + o + width K + width K) (o + o + width K) → below ≡ under_of K limit → PutReady K (left - 1) d below ws
  unfolding under_of
  goes-ready n b d below e u = record {
    node = cond b (r.node + r.node + 2) (r.node + r.node + 1);
    begins = e ∙ go b;
    lies = lies-side K left r.node (length ws) b (cond b (r.node + r.node + 2) (r.node + r.node + 1)) n r.lies refl;
    small = smaller;
  }
    where
      go : (b : Bool) → cond b (o + o + width K + width K) (o + o + width K) ≡ cond b (r.node + r.node + 2) (r.node + r.node + 1) * width K
      go true = right-begins K r.node o r.begins
      go false = left-begins K r.node o r.begins

      smaller : below ≤ 5460
      smaller = omega (arith, u, r.small)

pub high-in : (ws : List ℕ) (o n : ℕ) (f : Lead) → 0 < n → f ≡ high_lead ws o n → f.place < n
high-in ws o n f h e = subst (λ (u : Lead). u.place < n) (sym e) (best-lt is_high (ranks ws o) n h)
