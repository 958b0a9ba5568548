-- The scans by turns find the place that the rules choose: in turn, and by two pairs and then the winners.
use Rattle.laws.specs.Prelude.{Bool, Element, List, ◌&&◌, ◌+◌, ◌<◌, ◌∙◌, ◌≡◌, ◌≤◌, add-one, ap, arith, false, length, ltb, ltb-false, ltb-true, ne_eqb, not-suc-le-zero, refl, subst, suc, sym, true, turn, ℕ}
use Rattle.tree_node.proofs.Scans.{every-next, every_to, last-case, node-ok-end}
use Rattle.tree_node.specs.Look.{FirstFilled, highest, Led, turn_or}
use Rattle.strip.proofs.Order.{tag-upto, turn-before, turn-upto}
use Rattle.tree_model.proofs.Laws.{filled, lowest-none, lowest-unique, node-length, node-slot}
use Rattle.tree_model.specs.Prelude.{is_empty, lowest, node_of, node_ok, slot_at, slot_of, slot_ok}
use Rattle.tree_model.specs.declared.Slot.{Slot}

-- rank and tag are words
abbrev pub IsWords : Element → Type 0
IsWords e = (e.rank.0 < 4294967296) × (e.tag.0 < 4294967296)

-- p leads the places from lo to hi with the turn k: no turn there is lower, and each one to its left is higher
pub record Leads (nd : List Slot) (lo hi p k : ℕ) : Type 0 where
  pub from : lo ≤ p
  pub to : p < hi
  pub turns : k ≡ turn_or (slot_at nd p)
  pub least : (a : ℕ) → lo ≤ a → a < hi → k ≤ turn_or (slot_at nd a)
  pub left : (a : ℕ) → lo ≤ a → a < p → k < turn_or (slot_at nd a)
  pub words : (a : ℕ) → lo ≤ a → a < hi → IsWords (slot_at nd a).element

pub side-case : (a mid : ℕ) (P : Type 0) → (a < mid → P) → (mid ≤ a → P) → P
side-case a mid P f g = go (ltb a mid) refl
  where
    go : (t : Bool) → ltb a mid ≡ t → P
    go true e = f (ltb-true a mid e)
    go false e = g (ltb-false a mid e)

-- ---- the winners of two stretches, the right one strictly lower or the left one
module _ (nd : List Slot) (lo mid hi p k q l : ℕ) (x : Leads nd lo mid p k) (y : Leads nd mid hi q l) (r m : ℕ) where
  moved : (p k : ℕ) → r ≡ p → m ≡ k → Leads nd lo hi p k → Leads nd lo hi r m
  moved p k er em z = subst (λ (p : ℕ). Leads nd lo hi p m) (sym er) (subst (λ (k : ℕ). Leads nd lo hi p k) (sym em) z)

  both_words : (a : ℕ) → lo ≤ a → a < hi → IsWords (slot_at nd a).element
  both_words a h t = side-case a mid _ (λ s. x.words a h s) (λ s. y.words a s t)

  pub right-leads : l < k → r ≡ q → m ≡ l → Leads nd lo hi r m
  right-leads lt er em =
      moved q l er em
      (record {
        from = omega (arith, x.from, x.to, y.from);
        to = y.to;
        turns = y.turns;
        least = λ a h t. side-case a mid _ (λ s. omega (arith, x.least a h s, lt)) (λ s. y.least a s t);
        left = λ a h t. side-case a mid _ (λ s. omega (arith, x.least a h s, lt)) (λ s. y.left a s t);
        words = both_words;
      })

  pub left-leads : k ≤ l → r ≡ p → m ≡ k → Leads nd lo hi r m
  left-leads le er em =
      moved p k er em
      (record {
        from = x.from;
        to = omega (arith, x.to, y.from, y.to);
        turns = x.turns;
        least = λ a h t. side-case a mid _ (λ s. x.least a h s) (λ s. omega (arith, y.least a s t, le));
        left = x.left;
        words = both_words;
      })

-- ---- what a turn says of a slot
turn-filled : (s : Slot) → is_empty s ≡ false → turn_or s ≡ turn s.element
unfolding turn_or
turn-filled s e = rw e

turn-void : (s : Slot) → is_empty s ≡ true → turn_or s ≡ highest
unfolding turn_or
turn-void s e = rw e

count-filled : (s : Slot) → 0 < s.count → is_empty s ≡ false
unfolding is_empty
count-filled s h = ne_eqb s.count 0 (λ e. omega arith)

turn-high : (s : Slot) → IsWords s.element → turn_or s ≤ highest
turn-high s w = go (is_empty s) refl
  where
    go : (b : Bool) → is_empty s ≡ b → turn_or s ≤ highest
    go true e = omega (arith, turn-void s e)
    go false e = omega (arith, turn-filled s e, w.0, w.1)

-- an occupied slot whose turn is not below the highest
top-turn : (s : Slot) → 0 < s.count → IsWords s.element → highest ≤ turn_or s → (s.element.rank.0 ≡ 4294967295) × (s.element.tag.0 ≡ 4294967295)
top-turn s o w h =
    let t : turn_or s ≡ turn s.element = turn-filled s (count-filled s o) in
    (omega (arith, w.0, w.1, t, h), omega (arith, w.0, w.1, t, h))

-- ---- the place that leads the whole node, below the highest turn
module _ (nd : List Slot) (p k : ℕ) (z : Leads nd 0 (length nd) p k) where
  pub lead-lowest : k < highest → p ≡ lowest nd
  lead-lowest lt = go (is_empty (slot_at nd p)) refl
    where
      num : (a : ℕ) → 0 < (slot_at nd a).count → turn_or (slot_at nd a) ≡ turn (slot_at nd a).element
      num a o = turn-filled (slot_at nd a) (count-filled (slot_at nd a) o)

      tag_at : (a : ℕ) → a < length nd → (slot_at nd a).element.tag.0 < 4294967296
      tag_at a t = (z.words a (omega arith) t).1

      go : (b : Bool) → is_empty (slot_at nd p) ≡ b → p ≡ lowest nd
      go true e = absurd (omega (arith, lt, z.turns, turn-void (slot_at nd p) e))
      go false e =
          let mine : k ≡ turn (slot_at nd p).element = z.turns ∙ turn-filled (slot_at nd p) e in
          sym
          (lowest-unique nd p z.to (filled (slot_at nd p) e)
          (λ a t o. turn-upto (slot_at nd p).element (slot_at nd a).element (tag_at p z.to) (tag_at a t) (omega (arith, z.least a (omega arith) t, mine, num a o)))
          (λ a t o.
          let t' : a < length nd = omega (arith, t, z.to) in
          turn-before (slot_at nd p).element (slot_at nd a).element (tag_at p z.to) (tag_at a t') (omega (arith, z.left a (omega arith) t, mine, num a o))))

  pub lead-led : k < highest → Led nd p
  lead-led lt = record { found = λ h. lead-lowest lt; none = λ h. absurd (omega (arith, h, z.to)) }

-- .. and where no turn is below it
pub none-led : (nd : List Slot) (p : ℕ) → p ≡ length nd → ((a : ℕ) → a < length nd → highest ≤ turn_or (slot_at nd a)) → ((a : ℕ) → a < length nd → IsWords (slot_at nd a).element) → Led nd p
none-led nd p e f w = record { found = λ h. absurd (omega (arith, e, h)); none = λ h a t o. top-turn (slot_at nd a) o (w a t) (f a t) }

-- ---- then the first occupied place is it
pub filled-lowest : (nd : List Slot) (p r : ℕ) → p ≡ length nd → Led nd p → FirstFilled nd r → r ≡ lowest nd
filled-lowest nd p r e d f = side-case r (length nd) _ (λ h. here h) (λ h. none h)
  where
    top : (a : ℕ) → a < length nd → 0 < (slot_at nd a).count → ((slot_at nd a).element.rank.0 ≡ 4294967295) × ((slot_at nd a).element.tag.0 ≡ 4294967295)
    top = d.none (omega (arith, e))

    here : r < length nd → r ≡ lowest nd
    here h =
        let o : 0 < (slot_at nd r).count = f.here h in
        sym
        (lowest-unique nd r h o
        (λ a t q. tag-upto (slot_at nd r).element (slot_at nd a).element ((top r h o).0 ∙ sym (top a t q).0) (omega (arith, (top r h o).1, (top a t q).1)))
        (λ a t q. absurd (not-suc-le-zero (subst (λ (n : ℕ). 0 < n) (f.left a t) q))))

    none : length nd ≤ r → r ≡ lowest nd
    none h =
        let same : r ≡ length nd = omega (arith, f.within, h) in
        same ∙ sym (lowest-none nd (λ a t. f.left a (omega (arith, same, t))))

-- ---- in turn: none of the first j turns is below the highest, or a place leads them
pub data Sofar (nd : List Slot) (j b l : ℕ) : Type 0 where
  none_yet : b ≡ length nd → l ≡ highest → ((a : ℕ) → a < j → highest ≤ turn_or (slot_at nd a)) → ((a : ℕ) → a < j → IsWords (slot_at nd a).element) → Sofar nd j b l
  leads : Leads nd 0 j b l → l < highest → Sofar nd j b l

module _ (nd : List Slot) (j b l : ℕ) where
  sofar-least : Sofar nd j b l → (a : ℕ) → a < j → l ≤ turn_or (slot_at nd a)
  sofar-least (none_yet e el f w) a h = omega (arith, el, f a h)
  sofar-least (leads z lt) a h = z.least a (omega arith) h

  sofar-words : Sofar nd j b l → (a : ℕ) → a < j → IsWords (slot_at nd a).element
  sofar-words (none_yet e el f w) a h = w a h
  sofar-words (leads z lt) a h = z.words a (omega arith) h

  sofar-high : Sofar nd j b l → l ≤ highest
  sofar-high (none_yet e el f w) = omega (arith, el)
  sofar-high (leads z lt) = omega (arith, lt)

  module _ (z : Sofar nd j b l) (k : ℕ) (ek : k ≡ turn_or (slot_at nd j)) (wj : IsWords (slot_at nd j).element) where
    next-words : (a : ℕ) → a < suc j → IsWords (slot_at nd a).element
    next-words a h = last-case a j _ h (λ t. sofar-words z a t) (λ e. subst (λ (a : ℕ). IsWords (slot_at nd a).element) (sym e) wj)

    here-least : (n : ℕ) → n ≤ k → (a : ℕ) → a ≡ j → n ≤ turn_or (slot_at nd a)
    here-least n h a e = subst (λ (a : ℕ). n ≤ turn_or (slot_at nd a)) (sym e) (omega (arith, h, ek))

    taken : k < l → Sofar nd (suc j) j k
    taken lt =
        leads
        (record {
          from = omega arith;
          to = omega arith;
          turns = ek;
          least = λ a h t. last-case a j _ t (λ s. omega (arith, lt, sofar-least z a s)) (λ e. here-least k (omega arith) a e);
          left = λ a h t. omega (arith, lt, sofar-least z a t);
          words = λ a h t. next-words a t;
        })
        (omega (arith, lt, sofar-high z))

    stays : l ≤ k → Sofar nd j b l → Sofar nd (suc j) b l
    stays le (none_yet e el f w) = none_yet e el (λ a t. last-case a j _ t (λ s. f a s) (λ q. here-least highest (omega (arith, el, le)) a q)) next-words
    stays le (leads y lt) =
        leads
        (record {
          from = y.from;
          to = omega (arith, y.to);
          turns = y.turns;
          least = λ a h t. last-case a j _ t (λ s. y.least a h s) (λ q. here-least l le a q);
          left = y.left;
          words = λ a h t. next-words a t;
        })
        lt

pub sofar-end : (nd : List Slot) (b l : ℕ) → Sofar nd (length nd) b l → Led nd b × (b ≤ length nd)
sofar-end nd b l (none_yet e el f w) = (none-led nd b e f w, omega (arith, e))
sofar-end nd b l (leads z lt) = (lead-led nd b l z lt, omega (arith, z.to))

-- ---- what the code has read
module _ (m : ℕ) (ws : List ℕ) (i : ℕ) where
  abbrev nd : List Slot
  nd = node_of m ws i

  pub sofar-start : Sofar nd 0 m highest
  sofar-start = none_yet (sym (node-length m ws i)) refl (λ a h. absurd (not-suc-le-zero h)) (λ a h. absurd (not-suc-le-zero h))

  module _ (j b l k : ℕ) (x : Slot) (hj : j < m) (z : Sofar nd j b l) (ex : x ≡ slot_of ws (i + j)) (ek : k ≡ turn_or x) (wx : IsWords x.element) where
    at_j : x ≡ slot_at nd j
    at_j = ex ∙ sym (node-slot m ws i j hj)

    pub turn-taken : k < l → (r g : ℕ) → r ≡ j → g ≡ k → Sofar nd (j + 1) r g
    turn-taken lt r g er eg =
        rw add-one (subst (λ (r : ℕ). Sofar nd (suc j) r g) (sym er) (subst (λ (g : ℕ). Sofar nd (suc j) j g) (sym eg)
        (taken nd j b l z k (ek ∙ ap turn_or at_j) (subst (λ (s : Slot). IsWords s.element) at_j wx) lt)))

    pub turn-stays : l ≤ k → (r g : ℕ) → r ≡ b → g ≡ l → Sofar nd (j + 1) r g
    turn-stays le r g er eg =
        rw add-one (subst (λ (r : ℕ). Sofar nd (suc j) r g) (sym er) (subst (λ (g : ℕ). Sofar nd (suc j) b g) (sym eg)
        (stays nd j b l z k (ek ∙ ap turn_or at_j) (subst (λ (s : Slot). IsWords s.element) at_j wx) le z)))

  pub each-looked : (r j best l : ℕ) (ok : Bool) → j ≡ m → ok ≡ every_to (slot_ok r) nd j → Sofar nd j best l → (ok ≡ node_ok r nd) × (Led nd best × (best ≤ m))
  each-looked r j best l ok end tested z =
      let len : j ≡ length nd = end ∙ sym (node-length m ws i) in
      let p = sofar-end nd best l (subst (λ (n : ℕ). Sofar nd n best l) len z) in
      (node-ok-end m ws i r j ok end tested, (p.0, omega (arith, p.1, node-length m ws i)))

  -- the first occupied place, place by place
  abbrev pub FilledTo : ℕ → Type 0
  FilledTo j = (a : ℕ) → a < j → (slot_at nd a).count ≡ 0

  pub filled_next : (j : ℕ) (x : Slot) → j < m → FilledTo j → x ≡ slot_of ws (i + j) → x.count ≡ 0 → FilledTo (j + 1)
  filled_next j x hj f ex e a h =
      last-case a j _ (subst (λ (n : ℕ). a < n) (add-one j) h) (λ s. f a s)
      (λ q. subst (λ (a : ℕ). (slot_at nd a).count ≡ 0) (sym q) (ap (λ (s : Slot). s.count) (node-slot m ws i j hj ∙ sym ex) ∙ e))

  pub filled-here : (j : ℕ) (x : Slot) → j < m → FilledTo j → x ≡ slot_of ws (i + j) → (x.count ≡ 0 → ⊥) → FirstFilled nd j
  filled-here j x hj f ex ne =
      let same : x.count ≡ (slot_at nd j).count = ap (λ (s : Slot). s.count) (ex ∙ sym (node-slot m ws i j hj)) in
      record { within = omega (arith, hj, node-length m ws i); here = λ h. omega (arith, ne, same); left = f }

  pub filled_none : (j : ℕ) → j ≡ m → FilledTo j → FirstFilled nd m
  filled_none j e f =
      record { within = omega (arith, node-length m ws i); here = λ h. absurd (omega (arith, h, node-length m ws i)); left = λ a h. f a (omega (arith, e, h)) }

-- ---- a node of four
module _ (ws : List ℕ) (i : ℕ) where
  abbrev four : List Slot
  four = node_of 4 ws i

  pub one-leads : (j n : ℕ) (x : Slot) (k : ℕ) → j < 4 → n ≡ i + j → x ≡ slot_of ws n → k ≡ turn_or x → IsWords x.element → Leads four j (suc j) j k
  one-leads j n x k hj en ex ek wx =
      let here : x ≡ slot_at four j = ex ∙ ap (slot_of ws) en ∙ sym (node-slot 4 ws i j hj) in
      let at_j : (a : ℕ) → j ≤ a → a < suc j → a ≡ j = λ a h t. omega arith in
      let num : k ≡ turn_or (slot_at four j) = ek ∙ ap turn_or here in
      record {
        from = omega arith;
        to = omega arith;
        turns = num;
        least = λ a h t. subst (λ (a : ℕ). k ≤ turn_or (slot_at four a)) (sym (at_j a h t)) (omega (arith, num));
        left = λ a h t. absurd (omega arith);
        words = λ a h t. subst (λ (a : ℕ). IsWords (slot_at four a).element) (sym (at_j a h t)) (subst (λ (s : Slot). IsWords s.element) here wx);
      }

  module _ (r : ℕ) (a b c d : Slot) (ea : a ≡ slot_of ws i) (eb : b ≡ slot_of ws (i + 1)) (ec : c ≡ slot_of ws (i + 2)) (ed : d ≡ slot_of ws (i + 3)) where
    pub four-ok : (t u v w : Bool) → t ≡ slot_ok r a → u ≡ slot_ok r b → v ≡ slot_ok r c → w ≡ slot_ok r d → (((t && u) && v) && w) ≡ node_ok r four
    unfolding every_to
    four-ok t u v w et eu ev ew =
        let zero_right : i ≡ i + 0 = omega arith in
        let p = every-next 4 ws i (slot_ok r) 0 a true t (omega arith) refl (ea ∙ ap (slot_of ws) zero_right) et in
        let q = every-next 4 ws i (slot_ok r) 1 b t u (omega arith) p eb eu in
        let s = every-next 4 ws i (slot_ok r) 2 c (t && u) v (omega arith) q ec ev in
        node-ok-end 4 ws i r 4 (((t && u) && v) && w) refl (every-next 4 ws i (slot_ok r) 3 d ((t && u) && v) w (omega arith) s ed ew)

  module _ (p k : ℕ) (z : Leads four 0 4 p k) where
    all-four : Leads four 0 (length four) p k
    all-four = subst (λ (n : ℕ). Leads four 0 n p k) (sym (node-length 4 ws i)) z

    pub four-led : (k ≡ highest → ⊥) → Led four p × (p ≤ 4)
    four-led ne = (lead-led four p k all-four (omega (arith, z.turns, turn-high (slot_at four p) (z.words p z.from z.to), ne)), omega (arith, z.to))

    pub four-none : k ≡ highest → Led four 4 × (4 ≤ 4)
    four-none e =
        (none-led four 4 (sym (node-length 4 ws i)) (λ a t. omega (arith, e, all-four.least a (omega arith) t)) (λ a t. all-four.words a (omega arith) t), omega arith)

-- ---- any order
module _ (m i : ℕ) (ws : List ℕ) (p : ℕ) (z : Led (node_of m ws i) p) where
  pub low-found-first : (r : ℕ) → p ≡ m → FirstFilled (node_of m ws i) r → (r ≡ lowest (node_of m ws i)) × (r ≤ m)
  low-found-first r e f = (filled-lowest (node_of m ws i) p r (e ∙ sym (node-length m ws i)) z f, omega (arith, f.within, node-length m ws i))

  pub low-found-here : p ≤ m → (p ≡ m → ⊥) → (p ≡ lowest (node_of m ws i)) × (p ≤ m)
  low-found-here h ne = (z.found (omega (arith, h, ne, node-length m ws i)), h)
