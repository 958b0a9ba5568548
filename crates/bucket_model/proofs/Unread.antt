-- "Longer slices are taken; the rest is never touched": not read either. Two stores that agree on the words of the shape are answered the same and left the same there, whatever stands behind.
use Rattle.laws.specs.Prelude.{Answer, Bool, Element, Idle, List, Pop, Push, Replace, Request, [], ◌%◌, ◌&&◌, ◌+◌, ◌/◌, ◌<◌, ◌^◌, ◌∙◌, ◌∷◌, ◌≡◌, ◌≤◌, ap, arith, cond, dec_lt, eq-eqb, eqb, false, false≢true, le-ltb, length, length-set, lt-ltb, ltb, ltb-true, ne_eqb, not, pow-suc, refl, set, subst, suc, sym, true, untagged, zero, ℕ, ℕ_discrete, Ok, None, Some}
use Rattle.bucket_model.specs.Prelude.{Agree, AgreeOn, Alike, AlikeOn, Laid, Outcome, Shaped, agree, asked, bit_words, blank_word, cleared, edit, find, given, head_at, held_count, is_shaped, is_whole, joined_bits, joined_words, joins, loaded, lowest_in, lowest_of, lowest_open, lowest_rank, signalled, next_at, next_of, no_lowest, node_words, opens, outcome, pop_found, popped, push_found, pushed, rank_agrees, replace_found, replace_joined, replaced, room_after, room_of, room_with, store, store_words, storeys_at, storeys_from, switched, tail_at, taken_bits, taken_words, takes, tells_above, word, words_of, write}
use Rattle.bucket_model.specs.Layout.{Lay}
use Rattle.bucket_model.specs.Calls.{Lowest, Room}
use Rattle.bucket_model.proofs.Facts.{shape-means, opens-means}
use Rattle.bucket_model.proofs.Fill.{fill-at}
use Rattle.bucket_model.proofs.Load.{load_same}
use Rattle.bucket_model.proofs.Pop.{taken-length, taken-bits-length}
use Rattle.bucket_model.proofs.Queue.{pow-pos64}
use Rattle.bucket_model.proofs.Untouched.{find-lt, low-lt, low-head}
use Rattle.bucket_model.proofs.Writes.{same, other}

-- ---- the same writes

module _ (P : ℕ → Type 0) where
  -- both slices have all these places
  abbrev pub Has : List ℕ → Type 0
  Has w = (i : ℕ) → P i → i < length w

  has-set : (w : List ℕ) (a x : ℕ) → Has w → Has (set w a x)
  has-set w a x p i l = omega (arith, p i l, length-set w a x)

  agree-set : (w v : List ℕ) (a x : ℕ) → Has w → Has v → AgreeOn P w v → AgreeOn P (set w a x) (set v a x)
  agree-set w v a x p q h i l = elim (ℕ_discrete i a) [
    | yes e ↦ rw e (same w a x (subst (λ (j : ℕ). j < length w) e (p i l)) ∙ sym (same v a x (subst (λ (j : ℕ). j < length v) e (q i l))))
    | no e ↦ other w a x i e ∙ h i l ∙ sym (other v a x i e)
  ]

  agree-write : (w v : List ℕ) (ps : List (ℕ × ℕ)) → Has w → Has v → AgreeOn P w v → AgreeOn P (write w ps) (write v ps)
  agree-write w v [] p q h = h
  agree-write w v (x ∷ ps) p q h =
      agree-write (set w x.0 x.1) (set v x.0 x.1) ps (has-set w x.0 x.1 p) (has-set v x.0 x.1 q) (agree-set w v x.0 x.1 p q h)

  agree-cond : (t : Bool) (w w' v v' : List ℕ) → AgreeOn P w v → AgreeOn P w' v' → AgreeOn P (cond t w w') (cond t v v')
  agree-cond true w w' v v' p q = p
  agree-cond false w w' v v' p q = q

  -- ---- the bits, at any depth

  -- all words of these storeys
  abbrev All : ℕ → ℕ → Type 0
  All o d = (i : ℕ) → o ≤ i → i < o + words_of d → P i

  same-edit : (on : Bool) (o d : ℕ) (b c : List ℕ) (j : ℕ) → All o d → Has b → Has c → AgreeOn P b c → j < 64 ^ d
      → AgreeOn P (edit on b (storeys_from o d) j) (edit on c (storeys_from o d) j)
  same-edit on o zero b c j m p q h l = h
  same-edit on o (suc d) b c j m p q h l =
      go (word b (o + words_of d + j / 64)) (word c (o + words_of d + j / 64)) (h (o + words_of d + j / 64) (m (o + words_of d + j / 64) (omega arith) (omega (arith, pow-suc 64 d))))
      (λ x. same-edit on o d (set b (o + words_of d + j / 64) x) (set c (o + words_of d + j / 64) x) (j / 64) (λ i a e. m i a (omega arith)) (has-set b (o + words_of d + j / 64) x p) (has-set c (o + words_of d + j / 64) x q) (agree-set b c (o + words_of d + j / 64) x p q h) (omega (arith, pow-suc 64 d)))
    where
      go : (x y : ℕ) → x ≡ y → ((x : ℕ) → AgreeOn P (edit on (set b (o + words_of d + j / 64) x) (storeys_from o d) (j / 64)) (edit on (set c (o + words_of d + j / 64) x) (storeys_from o d) (j / 64)))
          → AgreeOn P (cond (tells_above on x (switched on x (j % 64))) (edit on (set b (o + words_of d + j / 64) (switched on x (j % 64))) (storeys_from o d) (j / 64)) (set b (o + words_of d + j / 64) (switched on x (j % 64))))
          (cond (tells_above on y (switched on y (j % 64))) (edit on (set c (o + words_of d + j / 64) (switched on y (j % 64))) (storeys_from o d) (j / 64)) (set c (o + words_of d + j / 64) (switched on y (j % 64))))
      go x y e ih = rw e (agree-cond (tells_above on y (switched on y (j % 64))) _ _ _ _ (ih (switched on y (j % 64))) (agree-set b c (o + words_of d + j / 64) (switched on y (j % 64)) p q h))

  same-agree : (o d : ℕ) (b c : List ℕ) (j : ℕ) (empty : Bool) → All o d → AgreeOn P b c → j < 64 ^ d → agree b (storeys_from o d) j empty ≡ agree c (storeys_from o d) j empty
  same-agree o zero b c j empty m h l = refl
  same-agree o (suc d) b c j empty m h l =
      rw (h (o + words_of d + j / 64) (m (o + words_of d + j / 64) (omega arith) (omega (arith, pow-suc 64 d))), same-agree o d b c (j / 64) (eqb (word c (o + words_of d + j / 64)) 0) (λ i a e. m i a (omega arith)) h (omega (arith, pow-suc 64 d))) refl

  same-down : (o d : ℕ) (b c : List ℕ) → All o d → ((i : ℕ) → word b i < 2 ^ 64) → AgreeOn P b c
      → (opens b (storeys_from o d) ≡ opens c (storeys_from o d)) × (opens b (storeys_from o d) ≡ true → find b (storeys_from o d) ≡ find c (storeys_from o d))
  same-down o zero b c m f h = (refl, λ e. refl)
  same-down o (suc d) b c m f h = go (opens b (storeys_from o d)) refl (same-down o d b c (λ i a e. m i a (omega arith)) f h)
    where
      go : (t : Bool) → opens b (storeys_from o d) ≡ t → (opens b (storeys_from o d) ≡ opens c (storeys_from o d)) × (opens b (storeys_from o d) ≡ true → find b (storeys_from o d) ≡ find c (storeys_from o d))
          → (opens b (storeys_from o (suc d)) ≡ opens c (storeys_from o (suc d))) × (opens b (storeys_from o (suc d)) ≡ true → find b (storeys_from o (suc d)) ≡ find c (storeys_from o (suc d)))
      go false e ih = (rw (e, sym ih.0 ∙ e) refl, λ u. absurd (false≢true (sym (ap (λ (t : Bool). t && not (eqb (word b (o + words_of d + find b (storeys_from o d))) 0)) e) ∙ u)))
      go true e ih =
          let i = ih.1 e in
          let w : word b (o + words_of d + find b (storeys_from o d)) ≡ word c (o + words_of d + find b (storeys_from o d)) = h (o + words_of d + find b (storeys_from o d)) (m (o + words_of d + find b (storeys_from o d)) (omega arith) (omega (arith, find-lt b o d f ((opens-means b (storeys_from o d)).says e)))) in
          (rw (e, sym ih.0 ∙ e, w, i) refl, λ u. rw (w, i) refl)

-- each with its test
pub alike-cond : (B W : ℕ → Type 0) (t t' : Bool) (x x' y y' : Outcome) → t ≡ t' → (t ≡ true → AlikeOn B W x y) → AlikeOn B W x' y' → AlikeOn B W (cond t x x') (cond t' y y')
alike-cond B W true true x x' y y' e f g = f refl
alike-cond B W true false x x' y y' e f g = absurd (false≢true (sym e))
alike-cond B W false true x x' y y' e f g = absurd (false≢true e)
alike-cond B W false false x x' y y' e f g = g

-- ---- a queue's own words, and what it does at them

-- places that have all words of a queue: its bits; its heads and tails, the nodes and the free link, and its held
pub record Covers (k : Lay) (B W : ℕ → Type 0) : Type 0 where
  pub bits : (i : ℕ) → k.bits ≤ i → i < bit_words k → B i
  pub lists : (i : ℕ) → k.heads ≤ i → i < k.heads + k.ranks + k.ranks → W i
  pub pool : (i : ℕ) → k.stem + node_words ≤ i → i ≤ k.free → W i
  pub held : W k.held

module _ (k : Lay) (laid : Laid k) (B W : ℕ → Type 0) (all : Covers k B W) where
  module _ (w v : List ℕ) (h : AgreeOn W w v) where
    next-same : (l : ℕ) → next_of k w l ≡ next_of k v l
    unfolding next_of
    next-same l = elim (ℕ_discrete l 0) [
      | yes p ↦ rw (eq-eqb l 0 p) refl
      | no p ↦ rw (ne_eqb l 0 p) (elim (dec_lt k.nodes l) [ yes q ↦ rw (lt-ltb k.nodes l q) refl | no q ↦ rw (le-ltb k.nodes l (omega arith)) (h (next_at k l) (all.pool (next_at k l) (omega arith) (omega (arith, laid.pool)))) ])
    ]

    head-same : (r : ℕ) → r < k.ranks → word w (head_at k r) ≡ word v (head_at k r)
    head-same r l = h (head_at k r) (all.lists (head_at k r) (omega arith) (omega arith))

    tail-same : (r : ℕ) → r < k.ranks → word w (tail_at k r) ≡ word v (tail_at k r)
    tail-same r l = h (tail_at k r) (all.lists (tail_at k r) (omega arith) (omega arith))

    free-same : word w k.free ≡ word v k.free
    free-same = h k.free (all.pool k.free (omega (arith, laid.pool)) (omega arith))

    held_same : word w k.held ≡ word v k.held
    held_same = h k.held all.held

    lowest-same : (r : ℕ) → r < k.ranks → lowest_in k w r ≡ lowest_in k v r
    lowest-same r l = rw (head-same r l, tail-same r l, next-same (word v (head_at k r)), next-same (word v (tail_at k r))) refl

    module _ (p : Has W w) (q : Has W v) where
      pub taken-same : (low : Lowest) → AgreeOn W (taken_words k w low) (taken_words k v low)
      unfolding taken_words
      taken-same low =
          let e : takes k w low ≡ takes k v low = rw (free-same, held_same) refl in
          subst (λ (ps : List (ℕ × ℕ)). AgreeOn W (write w (takes k w low)) (write v ps)) e (agree-write W w v (takes k w low) p q h)

      joined_same : (e : Element) (to : Room) → AgreeOn W (joined_words k w e to) (joined_words k v e to)
      unfolding joined_words
      joined_same e to =
          let u : joins k w e to ≡ joins k v e to = rw (free-same, held_same) refl in
          subst (λ (ps : List (ℕ × ℕ)). AgreeOn W (write w (joins k w e to)) (write v ps)) u (agree-write W w v (joins k w e to) p q h)

  module _ (b c : List ℕ) (g : AgreeOn B b c) where
    tower : (i : ℕ) → k.bits ≤ i → i < k.bits + words_of k.storeys → B i
    tower i a l = all.bits i a (omega (arith, laid.tower))

    agrees-same : (r : ℕ) (empty : Bool) → r < k.ranks → rank_agrees k b r empty ≡ rank_agrees k c r empty
    unfolding rank_agrees
    agrees-same r empty l = same-agree B k.bits k.storeys b c r empty tower g (omega (arith, laid.ranks))

    pub top-same : word b k.bits ≡ word c k.bits
    top-same = g k.bits (all.bits k.bits (omega arith) (go k.storeys laid.deep laid.tower))
      where
        go : (d : ℕ) → 1 ≤ d → k.tower ≡ words_of d → k.bits < bit_words k
        go zero a e = absurd (omega arith)
        go (suc d) a e = omega (arith, pow-pos64 d)

    module _ (p : Has B b) (q : Has B c) where
      signalled-same : (on : Bool) (r : ℕ) → r < k.ranks → AgreeOn B (signalled on k b r) (signalled on k c r)
      unfolding signalled
      signalled-same on r l = same-edit B on k.bits k.storeys b c r tower p q g (omega (arith, laid.ranks))

      pub taken-bits-same : (low : Lowest) → low.rank < k.ranks → AgreeOn B (taken_bits k b low) (taken_bits k c low)
      unfolding taken_bits
      taken-bits-same low l = agree-cond B (eqb low.next 0) _ _ _ _ (signalled-same false low.rank l) g

      joined-bits-same : (e : Element) (to : Room) → e.rank.0 < k.ranks → AgreeOn B (joined_bits k b e to) (joined_bits k c e to)
      unfolding joined_bits
      joined-bits-same e to l = agree-cond B (eqb to.tail 0) _ _ _ _ (signalled-same true e.rank.0 l) g

  module _ (b c w v : List ℕ) (g : AgreeOn B b c) (h : AgreeOn W w v) where
    pub room-same : (used : ℕ) (r : ℕ) → r < k.ranks → room_with k used b w r ≡ room_with k used c v r
    unfolding room_with
    room-same used r l =
        rw (head-same w v h r l, tail-same w v h r l, free-same w v h, next-same w v h (word v (tail_at k r)), next-same w v h (word v k.free), agrees-same b c g r (eqb (word v (head_at k r)) 0) l) refl

    pub standing : (a : Answer) → AlikeOn B W (outcome a b w) (outcome a c v)
    standing a = record { answer = refl; bits = g; words = h }

    module _ (pb : Has B b) (pc : Has B c) (pw : Has W w) (pv : Has W v) where
      pub join-same : (e : Element) (to : Room) (a : Answer) → e.rank.0 < k.ranks → AlikeOn B W (outcome a (joined_bits k b e to) (joined_words k w e to)) (outcome a (joined_bits k c e to) (joined_words k v e to))
      join-same e to a l = record { answer = refl; bits = joined-bits-same b c g pb pc e to l; words = joined_same w v h pw pv e to }

      pub push-found-same : (used : ℕ) (e : Element) → e.rank.0 < k.ranks → AlikeOn B W (push_found k b w e (room_with k used b w e.rank.0)) (push_found k c v e (room_with k used c v e.rank.0))
      unfolding push_found
      push-found-same used e l =
          rw (room-same used e.rank.0 l) (alike-cond B W (room_with k used c v e.rank.0).good (room_with k used c v e.rank.0).good _ _ _ _ refl (λ u. join-same e (room_with k used c v e.rank.0) (Ok None) l) (standing _))

      -- ---- a pop: the bits are words of 64 bits

      module _ (fits : (i : ℕ) → word b i < 2 ^ 64) where
        pub low_same : lowest_of k b w ≡ lowest_of k c v
        unfolding lowest_of lowest_open lowest_rank
        low_same = go (opens b (storeys_at k)) refl (same-down B k.bits k.storeys b c (tower b c g) fits g)
          where
            go : (t : Bool) → opens b (storeys_at k) ≡ t → (opens b (storeys_at k) ≡ opens c (storeys_at k)) × (opens b (storeys_at k) ≡ true → find b (storeys_at k) ≡ find c (storeys_at k))
                → cond {A = Lowest} (opens b (storeys_at k)) (lowest_in k w (find b (storeys_at k))) no_lowest ≡ cond {A = Lowest} (opens c (storeys_at k)) (lowest_in k v (find c (storeys_at k))) no_lowest
            go false e i = rw (e, sym i.0 ∙ e) refl
            go true e i =
                let r< = find-lt b k.bits k.storeys fits ((opens-means b (storeys_at k)).says e) in
                rw (e, sym i.0 ∙ e) (lowest-same w v h (find b (storeys_at k)) (omega (arith, laid.ranks)) ∙ ap (lowest_in k v) (i.1 e))

        abbrev low : Lowest
        low = lowest_of k b w

        pub given-same : (lowest_of k b w).good ≡ true → given k w (lowest_of k b w) ≡ given k v (lowest_of k b w)
        given-same u =
            let d = low-head k laid b w fits u in
            ap (loaded low.rank) (load_same k.stem v w low.head (λ i l. h _ (all.pool _ (omega (arith, d.0)) (omega (arith, d.1, laid.pool)))))

        pub pop-found-same : AlikeOn B W (pop_found k b w (lowest_of k b w)) (pop_found k c v (lowest_of k c v))
        unfolding pop_found
        pop-found-same = rw (← low_same) (alike-cond B W low.good low.good _ _ _ _ refl (λ u. record {
          answer = ap (λ (e : Element). Ok (Some e)) (given-same u);
          bits = taken-bits-same b c g pb pc low (low-lt k laid b w fits u);
          words = taken-same w v h pw pv low;
        }) (standing _))

        -- ---- a replace: the store as after the pop agrees too

        pub after-agrees : (lowest_of k b w).good ≡ true → AgreeOn B (taken_bits k b (lowest_of k b w)) (taken_bits k c (lowest_of k b w)) × AgreeOn W (taken_words k w (lowest_of k b w)) (taken_words k v (lowest_of k b w))
        after-agrees u = (taken-bits-same b c g pb pc low (low-lt k laid b w fits u), taken-same w v h pw pv low)

-- .. and it has the same places
pub has-taken : (P : ℕ → Type 0) (k : Lay) (w : List ℕ) (low : Lowest) → Has P w → Has P (taken_words k w low)
has-taken P k w low p i l = omega (arith, p i l, taken-length k w low)

pub has-taken-bits : (P : ℕ → Type 0) (k : Lay) (b : List ℕ) (low : Lowest) → Has P b → Has P (taken_bits k b low)
has-taken-bits P k b low p i l = omega (arith, p i l, taken-bits-length k b low)

-- ---- one call of a queue that has the pool for itself

module _ (k : Lay) (laid : Laid k) where
  abbrev B : ℕ → Type 0
  B i = i < bit_words k

  abbrev W : ℕ → Type 0
  W i = i < store_words k

  own : Covers k B W
  own = record { bits = λ i a l. l; lists = λ i a l. omega (arith, laid.lists, laid.pool, laid.held); pool = λ i a l. omega (arith, laid.held); held = omega arith }

  module _ (b c w v : List ℕ) (g : Agree (bit_words k) b c) (h : Agree (store_words k) w v) where
    whole_same : is_whole k b w ≡ is_whole k c v
    whole_same = rw (top-same k laid B W own b c g, free-same k laid B W own w v h, held_same k laid B W own w v h) refl

    own_room : (r : ℕ) → r < k.ranks → room_of k b w r ≡ room_of k c v r
    own_room r l = ap (λ (u : ℕ). room_with k u b w r) (held_same k laid B W own w v h) ∙ room-same k laid B W own b c w v g h (word v k.held) r l

    after_same : (r : ℕ) → r < k.ranks → room_after k b w r ≡ room_after k c v r
    unfolding room_after
    after_same r l = rw (whole_same, own_room r l) refl

    stay : (a : Answer) → Alike k (outcome a b w) (outcome a c v)
    stay = standing k laid B W own b c w v g h

    some_same : not (eqb (word w k.held) 0) ≡ not (eqb (word v k.held) 0)
    some_same = ap (λ (x : ℕ). not (eqb x 0)) (held_same k laid B W own w v h)

    module _ (s : Shaped k b w) (z : Shaped k c v) where
      long-b : Has B b
      long-b i l = omega (arith, s.bits)

      long-c : Has B c
      long-c i l = omega (arith, z.bits)

      long-w : Has W w
      long-w i l = omega (arith, s.words)

      long-v : Has W v
      long-v i l = omega (arith, z.words)

      shape_same : is_shaped k b w ≡ is_shaped k c v
      shape_same = (shape-means k b w).holds s ∙ sym ((shape-means k c v).holds z)

      pub unread-clear : Alike k (cleared k b w) (cleared k c v)
      unfolding cleared
      unread-clear = alike-cond B W (is_shaped k b w) (is_shaped k c v) _ _ _ _ shape_same (λ e. record {
        answer = refl;
        bits = λ i l. fill-at (λ j. 0) (bit_words k) b i l s.bits ∙ sym (fill-at (λ j. 0) (bit_words k) c i l z.bits);
        words = λ i l. fill-at (blank_word k) (store_words k) w i l s.words ∙ sym (fill-at (blank_word k) (store_words k) v i l z.words);
      }) (stay _)

      pub unread-held : held_count k b w ≡ held_count k c v
      unfolding held_count
      unread-held = rw (shape_same, whole_same, held_same k laid B W own w v h) refl

      unread-push : (e : Element) → Alike k (pushed k b w e) (pushed k c v e)
      unfolding pushed
      unread-push e =
          alike-cond B W (is_shaped k b w) (is_shaped k c v) _ _ _ _ shape_same
          (λ _. alike-cond B W (ltb e.rank.0 k.ranks) (ltb e.rank.0 k.ranks) _ _ _ _ refl
          (λ l. alike-cond B W (not (untagged e)) (not (untagged e)) _ _ _ _ refl
          (λ _. alike-cond B W (is_whole k b w) (is_whole k c v) _ _ _ _ whole_same
          (λ _. alike-cond B W (not (eqb (word w k.held) k.nodes)) (not (eqb (word v k.held) k.nodes)) _ _ _ _ (ap (λ (x : ℕ). not (eqb x k.nodes)) (held_same k laid B W own w v h))
          (λ _. found e (ltb-true e.rank.0 k.ranks l)) (stay _)) (stay _)) (stay _)) (stay _)) (stay _)
        where
          found : (e : Element) → e.rank.0 < k.ranks → Alike k (push_found k b w e (room_of k b w e.rank.0)) (push_found k c v e (room_of k c v e.rank.0))
          found e l =
              subst (λ (u : ℕ). Alike k (push_found k b w e (room_with k (word w k.held) b w e.rank.0)) (push_found k c v e (room_with k u c v e.rank.0))) (held_same k laid B W own w v h)
              (push-found-same k laid B W own b c w v g h long-b long-c long-w long-v (word w k.held) e l)

      -- ---- pop and replace: the bits are words of 64 bits

      module _ (fits : (i : ℕ) → word b i < 2 ^ 64) where
        unread-pop : Alike k (popped k b w) (popped k c v)
        unfolding popped
        unread-pop =
            alike-cond B W (is_shaped k b w) (is_shaped k c v) _ _ _ _ shape_same
            (λ _. alike-cond B W (is_whole k b w) (is_whole k c v) _ _ _ _ whole_same
            (λ _. alike-cond B W (not (eqb (word w k.held) 0)) (not (eqb (word v k.held) 0)) _ _ _ _ some_same (λ _. pop-found-same k laid B W own b c w v g h long-b long-c long-w long-v fits) (stay _)) (stay _)) (stay _)

  module _ (b c w v : List ℕ) (g : Agree (bit_words k) b c) (h : Agree (store_words k) w v) (s : Shaped k b w) (z : Shaped k c v) (fits : (i : ℕ) → word b i < 2 ^ 64) where
    abbrev lo : Lowest
    lo = lowest_of k b w

    abbrev still : (a : Answer) → Alike k (outcome a b w) (outcome a c v)
    still = stay b c w v g h

    module _ (e : Element) (l : e.rank.0 < k.ranks) where
      replace-found-same : Alike k (replace_found k b w e (lowest_of k b w)) (replace_found k c v e (lowest_of k c v))
      unfolding replace_found replace_joined
      replace-found-same =
          rw (← low_same k laid B W own b c w v g h lb lc lw lv fits)
          (alike-cond B W lo.good lo.good _ _ _ _ refl
          (λ u. let t = after-agrees k laid B W own b c w v g h lb lc lw lv fits u in
          rw (after_same (taken_bits k b lo) (taken_bits k c lo) (taken_words k w lo) (taken_words k v lo) t.0 t.1 e.rank.0 l, given-same k laid B W own b c w v g h lb lc lw lv fits u)
          (alike-cond B W (room_after k (taken_bits k c lo) (taken_words k v lo) e.rank.0).good (room_after k (taken_bits k c lo) (taken_words k v lo) e.rank.0).good _ _ _ _ refl
          (λ x. join-same k laid B W own (taken_bits k b lo) (taken_bits k c lo) (taken_words k w lo) (taken_words k v lo) t.0 t.1 (has-taken-bits B k b lo lb) (has-taken-bits B k c lo lc) (has-taken W k w lo lw) (has-taken W k v lo lv) e (room_after k (taken_bits k c lo) (taken_words k v lo) e.rank.0) (Ok (Some (given k v lo))) l)
          (still _))) (still _))
        where
          lb : Has B b
          lb = long-b b c w v g h s z

          lc : Has B c
          lc = long-c b c w v g h s z

          lw : Has W w
          lw = long-w b c w v g h s z

          lv : Has W v
          lv = long-v b c w v g h s z

    unread-replace : (e : Element) → Alike k (replaced k b w e) (replaced k c v e)
    unfolding replaced
    unread-replace e =
        alike-cond B W (is_shaped k b w) (is_shaped k c v) _ _ _ _ (shape_same b c w v g h s z)
        (λ _. alike-cond B W (ltb e.rank.0 k.ranks) (ltb e.rank.0 k.ranks) _ _ _ _ refl
        (λ l. alike-cond B W (not (untagged e)) (not (untagged e)) _ _ _ _ refl
        (λ _. alike-cond B W (is_whole k b w) (is_whole k c v) _ _ _ _ (whole_same b c w v g h)
        (λ _. alike-cond B W (not (eqb (word w k.held) 0)) (not (eqb (word v k.held) 0)) _ _ _ _ (some_same b c w v g h)
        (λ _. replace-found-same e (ltb-true e.rank.0 k.ranks l)) (still _)) (still _)) (still _)) (still _)) (still _)

    -- UNREAD: every request
    pub unread : (q : Request) → Alike k (asked k q (store b w)) (asked k q (store c v))
    unfolding asked
    unread Idle = still (Ok None)
    unread (Push e) = unread-push b c w v g h s z e
    unread Pop = unread-pop b c w v g h s z fits
    unread (Replace e) = unread-replace e
