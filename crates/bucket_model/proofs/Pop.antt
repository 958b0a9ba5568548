-- What a pop does to a store that holds a list.
use Rattle.laws.specs.Prelude.{All, Element, Iff, List, [], ◌-◌, ◌<◌, ◌∙◌, ◌∷◌, ◌≡◌, ◌≤◌, ap, arith, cond-path, eq-eqb, eqb, false, inl, is-upd, le-ltb, length, length-set, ne_eqb, refl, same-upd, set, subst, suc, sym, true, upd, ℕ}
use Rattle.bucket_model.specs.Prelude.{Laid, PopFit, given, head_at, in_order, loaded, lowest_of, lowest_rank, signalled, next_at, next_in, next_of, tail_at, taken_bits, taken_words, takes, word}
use Rattle.bucket_model.specs.Layout.{Lay}
use Rattle.bucket_model.specs.Calls.{Lowest}
use Rattle.bucket_model.proofs.Facts.{pop-means, pop-way, low-is}
use Rattle.bucket_model.proofs.Writes.{same, write-length}
use Rattle.bucket_model.proofs.Tower as tower
use Rattle.bucket_model.proofs.Tower.{Ranks, ranks-ext, signals, signalled-length}
use Rattle.bucket_model.proofs.Chain.{Node, Seg, Apart, Mine, Chain}
use Rattle.bucket_model.proofs.Linked.{last_from, last_link, last≤, linked-off, taking, taken_q, taken_own, take-linked, taken-else, taken_free}
use Rattle.bucket_model.proofs.Order.{order-pop}
use Rattle.bucket_model.proofs.Queue.{flag, loads, flag-zero, seg-le, Seat, area, HoldsIn, lowest, top-held, Change, changed, changed-else, shaped-after}

-- ---- the next of a node

pub next-in : (k : Lay) (w : List ℕ) (l : ℕ) → 1 ≤ l → l ≤ k.nodes → next_of k w l ≡ word w (next_at k l)
unfolding next_of
next-in k w l h m = simp (ne_eqb l 0 (λ e. omega arith), le-ltb k.nodes l m)

pub next-none : (k : Lay) (w : List ℕ) → next_of k w 0 ≡ 0
unfolding next_of
next-none k w = refl

-- ---- the end of a chain

module _ (stem : ℕ) (w : List ℕ) where
  pub last-next : (l : ℕ) (xs : List Node) → Seg stem w (next_in stem l) xs → word w (next_in stem (last_from l xs)) ≡ 0
  last-next l [] z = z
  last-next l (x ∷ xs) z = last-next x.link xs z.2

  last-ne : (l k : ℕ) (xs : List Node) → (k ≡ l → ⊥) → Apart l xs → last_from k xs ≡ l → ⊥
  last-ne l k [] h o = h
  last-ne l k (x ∷ xs) h o = last-ne l x.link xs o.0 o.1

  pop-ends : (n : ℕ) (own : ℕ → ℕ) (c : ℕ) (x : Node) (xs : List Node) → Chain stem w n own c (x ∷ xs)
      → Iff (word w (next_in stem x.link) ≡ 0) (x.link ≡ last_from x.link xs)
  pop-ends n own c x [] z = record { to = λ e. refl; from = λ e. z.seg.2 }
  pop-ends n own c x (y ∷ ys) z =
      record {
        to = λ e. absurd (omega (arith, z.seg.2.0, z.mine.1.0.low));
        from = λ e. absurd (last-ne x.link y.link ys z.once.0.0 z.once.0.1 (sym e));
      }

pub taken-bits-length : (k : Lay) (b : List ℕ) (low : Lowest) → length (taken_bits k b low) ≡ length b
unfolding taken_bits
taken-bits-length k b low = cond-path length (eqb low.next 0) (signalled false k b low.rank) b (length b) (signalled-length false k b low.rank) refl

pub taken-length : (k : Lay) (w : List ℕ) (low : Lowest) → length (taken_words k w low) ≡ length w
unfolding taken_words
taken-length k w low = write-length w (takes k w low)

module _ (k : Lay) (S : Seat k) (others : ℕ) (b w : List ℕ) (l : List Element) (h : HoldsIn k S others b w l) where
  abbrev laid : Laid k
  laid = S.laid

  abbrev r : ℕ
  r = lowest_rank k b

  -- the pop that gives the first of the list
  pub record Popped (x : Element) (l' : List Element) : Type 0 where
    pub list : l ≡ x ∷ l'
    pub lowest : x.rank.0 ≡ lowest_rank k b
    pub within : lowest_rank k b < k.ranks
    pub fit : PopFit k b w (lowest_rank k b)
    pub gives : given k w (lowest_of k b w) ≡ x
    pub after : HoldsIn k S others (taken_bits k b (lowest_of k b w)) (taken_words k w (lowest_of k b w)) l'
    pub else : (c : ℕ) → S.Head c → (c ≡ head_at k (lowest_rank k b) → ⊥) → after.q c ≡ h.q c

  module _ (some : word w k.held ≡ 0 → ⊥) (x : Node) (xs : List Node) (e : h.q (head_at k (lowest_rank k b)) ≡ x ∷ xs) where
    top> : 0 < word b k.bits
    top> = let g : word b k.bits ≡ 0 → ⊥ = λ z. some ((top-held k S others b w l h).to z) in omega arith

    F : tower.Lowest k laid b (λ r. flag (h.q (head_at k r))) h.bits
    F = lowest k S others b w l h top>

    hc : S.Head (head_at k (lowest_rank k b))
    hc = S.head r F.within

    C : Chain k.stem w k.nodes h.own (head_at k r) (x ∷ xs)
    C = subst (Chain k.stem w k.nodes h.own (head_at k r)) e (h.linked.chains (head_at k r) (inl hc))

    abbrev lo : Lowest
    lo = record { good = true; rank = r; head = x.link; tail = word w (tail_at k r); next = word w (next_at k x.link) }

    head-is : word w (head_at k r) ≡ x.link
    head-is = C.seg.0

    tail-is : word w (tail_at k r) ≡ last_from x.link xs
    tail-is = h.linked.tails (head_at k r) hc ∙ ap last_link e

    next-is : next_of k w (word w (head_at k r)) ≡ word w (next_at k x.link)
    next-is = ap (next_of k w) head-is ∙ next-in k w x.link C.mine.0.low C.mine.0.high

    ends≤ : (1 ≤ last_from x.link xs) × (last_from x.link xs ≤ k.nodes)
    ends≤ = last≤ (area k S) h.own (head_at k r) x.link xs C.mine.0.low C.mine.0.high C.mine.1

    behind-is : next_of k w (word w (tail_at k r)) ≡ 0
    behind-is = ap (next_of k w) tail-is ∙ next-in k w (last_from x.link xs) ends≤.0 ends≤.1 ∙ last-next k.stem w x.link xs C.seg.2

    -- a sound bucket passes the pop's tests
    fits : PopFit k b w r
    fits =
        let a = C.mine.0 in
        record {
          way = F.way;
          head≢ = λ p. omega (arith, a.low, head-is);
          tail≢ = λ p. omega (arith, ends≤.0, tail-is);
          head≤ = omega (arith, a.high, head-is);
          tail≤ = omega (arith, ends≤.1, tail-is);
          next≤ = rw next-is (seg-le k.stem w k.nodes h.own (head_at k r) (next_at k x.link) xs C.mine.1 C.seg.2);
          behind0 = behind-is;
          ends = rw (next-is, head-is, tail-is) (pop-ends k.stem w k.nodes h.own (head_at k r) x xs C);
        }

    low-lo : lowest_of k b w ≡ lo
    low-lo =
        let g = (pop-means k b w).holds fits in
        let p = low-is k b w (pop-way k b w g) in
        p ∙ (λ i. record { good = (sym (ap (λ (l : Lowest). l.good) p) ∙ g) i; rank = r; head = head-is i; tail = word w (tail_at k r); next = next-is i })

    -- ---- the words and the bits

    abbrev T : List ℕ
    T = taking (area k S) w h.q h.own h.linked (head_at k r) hc x xs e

    abbrev W : List ℕ
    W = set T k.held (word w k.held - 1)

    words_are : taken_words k w lo ≡ W
    unfolding taken_words
    words_are = refl

    long-is : length W ≡ length w
    long-is = ap length (sym words_are) ∙ taken-length k w lo

    abbrev fb : ℕ → ℕ
    fb j = flag (h.q (head_at k j))

    bits_are : (ys : List Node) → ys ≡ xs → Ranks k (taken_bits k b lo) (upd fb r (flag ys))
    unfolding taken_bits
    bits_are [] z =
        let g : word w (next_at k x.link) ≡ 0 = subst (Seg k.stem w (next_at k x.link)) (sym z) C.seg.2 in
        rw (eq-eqb (word w (next_at k x.link)) 0 g) (signals k laid b fb h.bits r F.within false (upd fb r 0) F.here (is-upd fb r 0))
    bits_are (y ∷ ys) z =
        let g = subst (Seg k.stem w (next_at k x.link)) (sym z) C.seg.2 in
        let m = subst (All (Mine h.own k.nodes (head_at k r))) (sym z) C.mine.1 in
        rw (ne_eqb (word w (next_at k x.link)) 0 (λ q. omega (arith, g.0, m.0.low)))
        (ranks-ext k laid b fb (upd fb r 1) (λ j j<. same-upd fb (upd fb r 1) r 1 (is-upd fb r 1) F.here j) h.bits)

    -- ---- all together

    abbrev left : List Element
    left = in_order (upd (λ j. loads (h.q (head_at k j))) r (loads xs)) 0 k.ranks

    list-is : l ≡ loaded r x.load ∷ left
    list-is =
        h.is ∙ order-pop (λ j. loads (h.q (head_at k j))) r x.load (loads xs) (ap loads e) 0 k.ranks (omega arith) (omega (arith, F.within))
        (λ j l. ap loads (flag-zero (h.q (head_at k j)) (F.below j l)))

    change : Change k S others b w l h r (taken_bits k b lo) W left xs
    change =
        let z = h.linked in
        let n : length l ≡ suc (length left) = ap length list-is in
        record {
          q' = taken_q (area k S) w h.q h.own z (head_at k r) hc x xs e;
          own' = taken_own (area k S) w h.q h.own z (head_at k r) hc x xs e;
          shaped = shaped-after k b w (taken_bits k b lo) W (taken-bits-length k b lo) long-is h.shaped;
          linked = linked-off (area k S) T k.held (word w k.held - 1) _ _ laid.held (take-linked (area k S) w h.q h.own z (head_at k r) hc x xs e);
          here = taken-else (area k S) w h.q h.own z (head_at k r) hc x xs e (head_at k r) hc ∙ (is-upd h.q (head_at k r) xs).here;
          else = λ c i n. taken-else (area k S) w h.q h.own z (head_at k r) hc x xs e c i ∙ (is-upd h.q (head_at k r) xs).else c n;
          bits = bits_are xs refl;
          list = refl;
          count = same T k.held (word w k.held - 1) (omega (arith, h.shaped.words, long-is, length-set T k.held (word w k.held - 1))) ∙ omega (arith, h.held);
          free = omega (arith, ap length (taken_free (area k S) w h.q h.own z (head_at k r) hc x xs e));
          blank = rw (taken_free (area k S) w h.q h.own z (head_at k r) hc x xs e) (refl, h.blank);
        }

    abbrev Left : Lowest → List ℕ → Type 0
    Left low v = (y : HoldsIn k S others (taken_bits k b low) v left) × ((c : ℕ) → S.Head c → (c ≡ head_at k r → ⊥) → y.q c ≡ h.q c)

    leaves : Left (lowest_of k b w) (taken_words k w (lowest_of k b w))
    leaves =
        subst (λ (low : Lowest). Left low (taken_words k w low)) (sym low-lo)
        (subst (Left lo) (sym words_are) (changed k S others b w l h r (taken_bits k b lo) W left xs change, changed-else k S others b w l h r (taken_bits k b lo) W left xs change))

    does : Popped (loaded r x.load) left
    does =
        record {
          list = list-is;
          lowest = refl;
          within = F.within;
          fit = fits;
          gives = ap (given k w) low-lo ∙ ap (loaded r) C.seg.1;
          after = leaves.0;
          else = leaves.1;
        }

  -- with something held a pop gives the first of the list
  pub pops : (word w k.held ≡ 0 → ⊥) → (x : Element) × (l' : List Element) × Popped x l'
  pops some = go (h.q (head_at k r)) refl
    where
      go : (ys : List Node) → h.q (head_at k r) ≡ ys → (x : Element) × (l' : List Element) × Popped x l'
      go [] p =
          let g : word b k.bits ≡ 0 → ⊥ = λ z. some ((top-held k S others b w l h).to z) in
          let one : flag (h.q (head_at k r)) ≡ 1 = (lowest k S others b w l h (omega arith)).here in
          let nil : flag (h.q (head_at k r)) ≡ 0 = ap flag p in
          absurd (omega arith)
      go (x ∷ xs) p = (loaded r x.load, _, does some x xs p)
