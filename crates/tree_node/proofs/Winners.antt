-- The scans of a full node find the places that the rules choose.
use Rattle.std.specs.Prelude.{None, Some}
use Rattle.std.specs.Bool.{then_some}
use Rattle.laws.specs.Prelude.{Bool, List, ◌&&◌, ◌+◌, ◌<◌, ◌∙◌, ◌≡◌, ◌≤◌, and_left, ap, arith, cond, eqb, eqb-false, false, le-leb, lt-ltb, ltb, ltb-true, max, ne_eqb, refl, subst, suc, sym, true, zero, ℕ}
use Rattle.strip.proofs.Order.{turn-before, turn-upto}
use Rattle.tree_node.proofs.Leads.{side-case}
use Rattle.tree_node.proofs.Scans.{every_to, node-ok-end}
use Rattle.tree_node.proofs.Steps.{some-test}
use Rattle.tree_node.specs.declared.full.Winner.{Winner}
use Rattle.tree_node.specs.Full.{below, by_count, by_turn, FullLow, Wins}
use Rattle.tree_node.specs.Look.{least_in, low_in}
use Rattle.tree_model.proofs.Laws.{least-in, least-unique, lowest-unique, node-length, node-slot}
use Rattle.tree_model.specs.Prelude.{has_some, is_empty, least_count, lowest, node_of, node_ok, slot_at, slot_limit, slot_of, slot_ok}
use Rattle.tree_model.specs.declared.Slot.{Slot}

-- ---- one place
module _ (f : Slot → ℕ) (ws : List ℕ) (i j : ℕ) (x : Slot) (read : x ≡ slot_of ws (i + j)) (tag : x.element.tag.0 < 4294967296) (v : Winner)
    (ep : v.place ≡ j) (ek : v.key ≡ f x) (em : v.most ≡ below x) where
  here : (P : ℕ → Type 0) → P j → (a : ℕ) → j ≤ a → a < j + 1 → P a
  here P p a h t = let e : j ≡ a = omega arith in subst P e p

  pub one-wins : Wins f ws i j (j + 1) v
  one-wins =
      let k : v.key ≡ f (slot_of ws (i + j)) = ek ∙ ap f read in
      let m : v.most ≡ below (slot_of ws (i + j)) = em ∙ ap below read in
      record {
        from = omega (arith, ep);
        to = omega (arith, ep);
        mine = k ∙ ap (λ (n : ℕ). f (slot_of ws (i + n))) (sym ep);
        least = here (λ (a : ℕ). v.key ≤ f (slot_of ws (i + a))) (omega arith);
        left = λ a h t. absurd (omega (arith, ep));
        under = here (λ (a : ℕ). below (slot_of ws (i + a)) ≤ v.most) (omega arith);
        tags = here (λ (a : ℕ). (slot_of ws (i + a)).element.tag.0 < 4294967296) (subst (λ (s : Slot). s.element.tag.0 < 4294967296) read tag);
      }

-- ---- two neighbouring stretches
module _ (f : Slot → ℕ) (ws : List ℕ) (i lo mid hi : ℕ) (a b : Winner) (x : Wins f ws i lo mid a) (y : Wins f ws i mid hi b) (v : Winner)
    (em : v.most ≡ max a.most b.most) where
  both_under : (c : ℕ) → lo ≤ c → c < hi → below (slot_of ws (i + c)) ≤ v.most
  both_under c h t =
      side-case c mid _ (λ s. omega (arith, x.under c h s, em))
      (λ s. omega (arith, y.under c s t, em))

  both-tags : (c : ℕ) → lo ≤ c → c < hi → (slot_of ws (i + c)).element.tag.0 < 4294967296
  both-tags c h t = side-case c mid _ (λ s. x.tags c h s) (λ s. y.tags c s t)

  pub right-wins : b.key < a.key → v.place ≡ b.place → v.key ≡ b.key → Wins f ws i lo hi v
  right-wins lt ep ek = record {
    from = omega (arith, ep, x.from, x.to, y.from);
    to = omega (arith, ep, y.to);
    mine = ek ∙ y.mine ∙ ap (λ (n : ℕ). f (slot_of ws (i + n))) (sym ep);
    least = λ c h t. side-case c mid _ (λ s. omega (arith, ek, x.least c h s, lt)) (λ s. omega (arith, ek, y.least c s t));
    left = λ c h t. side-case c mid _ (λ s. omega (arith, ek, x.least c h s, lt)) (λ s. omega (arith, ek, y.left c s (omega (arith, ep, t))));
    under = both_under;
    tags = both-tags;
  }

  pub left-wins : a.key ≤ b.key → v.place ≡ a.place → v.key ≡ a.key → Wins f ws i lo hi v
  left-wins le ep ek = record {
    from = omega (arith, ep, x.from);
    to = omega (arith, ep, x.to, y.from, y.to);
    mine = ek ∙ x.mine ∙ ap (λ (n : ℕ). f (slot_of ws (i + n))) (sym ep);
    least = λ c h t. side-case c mid _ (λ s. omega (arith, ek, x.least c h s)) (λ s. omega (arith, ek, y.least c s t, le));
    left = λ c h t. omega (arith, ek, x.left c h (omega (arith, ep, t)));
    under = both_under;
    tags = both-tags;
  }

pub wins-to : (f : Slot → ℕ) (ws : List ℕ) (i lo hi end : ℕ) (v : Winner) → hi ≡ end → Wins f ws i lo hi v → Wins f ws i lo end v
wins-to f ws i lo hi end v e w = subst (λ (n : ℕ). Wins f ws i lo n v) e w

-- ---- a slot with no more below it than there is room for: it is occupied
below-filled : (r : ℕ) (s : Slot) → r ≤ slot_limit → below s ≤ r → (0 < s.count) × (s.count ≤ suc r)
unfolding below is_empty
below-filled r s few h = go (eqb s.count 0) refl
  where
    go : (t : Bool) → eqb s.count 0 ≡ t → (0 < s.count) × (s.count ≤ suc r)
    go true e = absurd (omega (arith, few, rw e at h))
    go false e = (omega (arith, eqb-false s.count 0 e), omega (arith, rw e at h))

slot-fine : (r : ℕ) (s : Slot) → 0 < s.count → s.count ≤ suc r → slot_ok r s ≡ true
unfolding slot_ok is_empty
slot-fine r s o h = rw (le-leb s.count (suc r) h, ne_eqb s.count 0 (λ e. omega arith)) refl

-- ---- the whole node
module _ (f : Slot → ℕ) (m : ℕ) (ws : List ℕ) (i r : ℕ) (few : r ≤ slot_limit) (v : Winner) (w : Wins f ws i 0 m v) (h : v.most ≤ r) where
  abbrev nd : List Slot
  nd = node_of m ws i

  at_place : (a : ℕ) → a < m → slot_at nd a ≡ slot_of ws (i + a)
  at_place a t = node-slot m ws i a t

  occupied : (a : ℕ) → a < m → (0 < (slot_at nd a).count) × ((slot_at nd a).count ≤ suc r)
  occupied a t =
      subst (λ (s : Slot). (0 < s.count) × (s.count ≤ suc r)) (sym (at_place a t))
      (below-filled r (slot_of ws (i + a)) few (omega (arith, w.under a (omega arith) t, h)))

  fine-to : (j : ℕ) → j ≤ m → true ≡ every_to (slot_ok r) nd j
  unfolding every_to
  fine-to zero l = refl
  fine-to (suc j) l =
      let o = occupied j l in
      rw (← fine-to j (omega arith), slot-fine r (slot_at nd j) o.0 o.1) refl

  pub full-whole : node_ok r nd ≡ true
  full-whole = sym (node-ok-end m ws i r m true refl (fine-to m (omega arith)))

  wins-at : (a : ℕ) → a < m → v.key ≤ f (slot_at nd a)
  wins-at a t = subst (λ (s : Slot). v.key ≤ f s) (sym (at_place a t)) (w.least a (omega arith) t)

  wins-left : (a : ℕ) → a < v.place → v.key < f (slot_at nd a)
  wins-left a t = subst (λ (s : Slot). v.key < f s) (sym (at_place a (omega (arith, w.to)))) (w.left a (omega arith) t)

  wins-own : v.key ≡ f (slot_at nd v.place)
  wins-own = w.mine ∙ ap f (sym (at_place v.place w.to))

-- the two choices
module _ (m : ℕ) (ws : List ℕ) (i r : ℕ) (few : r ≤ slot_limit) (v : Winner) where
  full-lowest : Wins by_turn ws i 0 m v → v.most ≤ r → v.place ≡ lowest (node_of m ws i)
  full-lowest w h =
      let tag : (a : ℕ) → a < m → (slot_at (node_of m ws i) a).element.tag.0 < 4294967296
      = λ a t. subst (λ (s : Slot). s.element.tag.0 < 4294967296) (sym (node-slot m ws i a t)) (w.tags a (omega arith) t) in
      let own = wins-own by_turn m ws i r few v w h in
      sym
      (lowest-unique (node_of m ws i) v.place (omega (arith, w.to, node-length m ws i)) (occupied by_turn m ws i r few v w h v.place w.to).0
      (λ a t o.
      let t' : a < m = omega (arith, t, node-length m ws i) in
      turn-upto (slot_at (node_of m ws i) v.place).element (slot_at (node_of m ws i) a).element (tag v.place w.to) (tag a t') (omega (arith, own, wins-at by_turn m ws i r few v w h a t')))
      (λ a t o.
      turn-before (slot_at (node_of m ws i) v.place).element (slot_at (node_of m ws i) a).element (tag v.place w.to) (tag a (omega (arith, t, w.to))) (omega (arith, own, wins-left by_turn m ws i r few v w h a t))))

  full-least : Wins by_count ws i 0 m v → v.most ≤ r → v.place ≡ least_count (node_of m ws i)
  full-least w h =
      let own = wins-own by_count m ws i r few v w h in
      sym
      (least-unique (node_of m ws i) v.place (omega (arith, w.to, node-length m ws i))
      (λ a t. omega (arith, own, wins-at by_count m ws i r few v w h a (omega (arith, t, node-length m ws i))))
      (λ a t. omega (arith, own, wins-left by_count m ws i r few v w h a t)))

-- ---- a winner with no more below any place than there is room for
module _ (m : ℕ) (ws : List ℕ) (i r : ℕ) (few : r ≤ slot_limit) (v : Winner) where
  pub low-full : Wins by_turn ws i 0 m v → v.most ≤ r → FullLow m r (node_of m ws i) v.place
  low-full w h =
      record {
        inside = w.to;
        whole = full-whole by_turn m ws i r few v w h;
        place = full-lowest m ws i r few v w h;
      }

  pub least-full : Wins by_count ws i 0 m v → v.most ≤ r → Some v.place ≡ least_in r (node_of m ws i)
  unfolding least_in
  least-full w h = rw (full-whole by_count m ws i r few v w h) (ap Some (full-least m ws i r few v w h))

-- ---- what a scan answers
module _ (m : ℕ) (ws : List ℕ) (i r : ℕ) where
  abbrev met : List Slot
  met = node_of m ws i

  -- the lowest, of a node in order that holds something
  low-by : (p : ℕ) (t : Bool) → p ≡ lowest met → t ≡ (node_ok r met && has_some met) → then_some t p ≡ low_in r met
  unfolding low_in
  low-by p t e et = rw (et, e) (go (node_ok r met && has_some met))
    where
      go : (t : Bool) → then_some t (lowest met) ≡ cond t (Some (lowest met)) None
      go true = refl
      go false = refl

  pub low-in-full : (p : ℕ) → FullLow m r met p → Some p ≡ low_in r met
  low-in-full p z = low-by p true z.place (rw (← lt-ltb p m z.inside) (some-test m ws i p r true z.place (sym z.whole)))

  pub low-in-seen : (p : ℕ) (t : Bool) → t ≡ node_ok r met → p ≡ lowest met → then_some (t && ltb p m) p ≡ low_in r met
  low-in-seen p t et e = low-by p (t && ltb p m) e (some-test m ws i p r t e et)

  pub least-in-seen : (p : ℕ) (t : Bool) → t ≡ node_ok r met → p ≡ least_count met → then_some t p ≡ least_in r met
  unfolding least_in
  least-in-seen p t et e = rw (et, e) (go (node_ok r met))
    where
      go : (t : Bool) → then_some t (least_count met) ≡ cond t (Some (least_count met)) None
      go true = refl
      go false = refl

-- ---- what that answer says
module _ (m : ℕ) (ws : List ℕ) (i r : ℕ) where
  abbrev looked : List Slot
  looked = node_of m ws i

  pub low-in-none : None ≡ low_in r looked → false ≡ (node_ok r looked && has_some looked)
  unfolding low_in
  low-in-none e = go (node_ok r looked && has_some looked) e
    where
      go : (t : Bool) → None ≡ cond t (Some (lowest looked)) None → false ≡ t
      go true e = cc
      go false e = refl

  pub low-in-some : (p : ℕ) → Some p ≡ low_in r looked → (true ≡ (node_ok r looked && has_some looked)) × (p ≡ lowest looked)
  unfolding low_in
  low-in-some p e = go (node_ok r looked && has_some looked) e
    where
      go : (t : Bool) → Some p ≡ cond t (Some (lowest looked)) None → (true ≡ t) × (p ≡ lowest looked)
      go true e = (refl, cc)
      go false e = cc

  pub low-in-place : (p : ℕ) → Some p ≡ low_in r looked → (node_ok r looked ≡ true) × ((p ≡ lowest looked) × (p < m))
  low-in-place p e =
      let s = low-in-some p e in
      let ok : node_ok r looked ≡ true = and_left (node_ok r looked) (has_some looked) (sym s.0) in
      (ok, (s.1, ltb-true p m (some-test m ws i p r true s.1 (sym ok) ∙ sym s.0)))

module _ (m : ℕ) (ws : List ℕ) (i r : ℕ) (some : 0 < m) where
  abbrev here-met : List Slot
  here-met = node_of m ws i

  least-place : least_count here-met < m
  least-place = omega (arith, least-in here-met (omega (arith, node-length m ws i)), node-length m ws i)

  pub least-in-some : (j : ℕ) → Some j ≡ least_in r here-met → (true ≡ node_ok r here-met) × ((j ≡ least_count here-met) × (j < m))
  unfolding least_in
  least-in-some j e = go (node_ok r here-met) e
    where
      go : (t : Bool) → Some j ≡ cond t (Some (least_count here-met)) None → (true ≡ t) × ((j ≡ least_count here-met) × (j < m))
      go true e = let s : j ≡ least_count here-met = cc in (refl, (s, omega (arith, s, least-place)))
      go false e = cc

  pub least-in-none : None ≡ least_in r here-met → (false ≡ node_ok r here-met) × (least_count here-met < m)
  unfolding least_in
  least-in-none e = (go (node_ok r here-met) e, least-place)
    where
      go : (t : Bool) → None ≡ cond t (Some (least_count here-met)) None → false ≡ t
      go true e = cc
      go false e = refl
