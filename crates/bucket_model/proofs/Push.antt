-- What a push does to a store that holds a list.
use Rattle.laws.specs.Prelude.{All, Element, Iff, List, [], ◌++◌, ◌+◌, ◌<◌, ◌∙◌, ◌∷◌, ◌≡◌, ◌≤◌, ap, arith, cond-path, eq-eqb, eqb, inr, is-upd, length, length-set, ne_eqb, refl, same-upd, set, subst, suc, sym, true, upd, ℕ}
use Rattle.bucket_model.specs.Prelude.{JoinFit, Laid, Load, head_at, in_order, insert, joined_bits, joined_words, joins, link_at, load_of, signalled, next_at, next_of, room_with, tail_at, word}
use Rattle.bucket_model.specs.Layout.{Lay}
use Rattle.bucket_model.specs.Calls.{Room}
use Rattle.bucket_model.proofs.Facts.{join-means}
use Rattle.bucket_model.proofs.Writes.{same, write-length}
use Rattle.bucket_model.proofs.Tower.{Ranks, ranks-ext, ranks-agree, signals, signalled-length}
use Rattle.bucket_model.proofs.Chain.{Node, node, Mine, Chain, end_slot}
use Rattle.bucket_model.proofs.Linked.{last_from, last_link, last≤, linked-off, slot-end, joining, joined_q, joined_own, join-linked, joined-other, joined-here, joined_free}
use Rattle.bucket_model.proofs.Order.{order-push}
use Rattle.bucket_model.proofs.Sorted.{insert-length}
use Rattle.bucket_model.proofs.Queue.{NoLoads, flag, loads, seg-zero, seg-le, Seat, area, HoldsIn, chain_of, Change, changed, changed-else, shaped-after}
use Rattle.bucket_model.proofs.Pop.{next-in, next-none, last-next}

-- ---- the bucket of a rank

last-own : (own : ℕ → ℕ) (n c l : ℕ) (xs : List Node) → own l ≡ c → All (Mine own n c) xs → own (last_from l xs) ≡ c
last-own own n c l [] h m = h
last-own own n c l (x ∷ xs) h m = last-own own n c x.link xs m.0.owner m.1

module _ (k : Lay) (S : Seat k) (w : List ℕ) (own : ℕ → ℕ) (c : ℕ) where
  last-in : (x : Node) (xs : List Node) → Chain k.stem w k.nodes own c (x ∷ xs) → (1 ≤ last_from x.link xs) × (last_from x.link xs ≤ k.nodes)
  last-in x xs z = last≤ (area k S) own c x.link xs z.mine.0.low z.mine.0.high z.mine.1

  both_zero : (xs : List Node) → Chain k.stem w k.nodes own c xs → Iff (word w c ≡ 0) (last_link xs ≡ 0)
  both_zero [] z = record { to = λ e. refl; from = λ e. z.seg }
  both_zero (x ∷ xs) z = record { to = λ e. absurd (omega (arith, z.seg.0, z.mine.0.low)); from = λ e. absurd (omega (arith, (last-in x xs z).0)) }

  head-flag : (xs : List Node) → Chain k.stem w k.nodes own c xs → Iff (word w c ≡ 0) (flag xs ≡ 0)
  head-flag [] z = record { to = λ e. refl; from = λ e. z.seg }
  head-flag (x ∷ xs) z = record { to = λ e. absurd (omega (arith, z.seg.0, z.mine.0.low)); from = λ e. absurd (omega arith) }

  last-le : (xs : List Node) → Chain k.stem w k.nodes own c xs → last_link xs ≤ k.nodes
  last-le [] z = omega arith
  last-le (x ∷ xs) z = (last-in x xs z).1

  behind-zero : (xs : List Node) → Chain k.stem w k.nodes own c xs → next_of k w (last_link xs) ≡ 0
  behind-zero [] z = next-none k w
  behind-zero (x ∷ xs) z = next-in k w (last_from x.link xs) (last-in x xs z).0 (last-in x xs z).1 ∙ last-next k.stem w x.link xs z.seg.2

  last_apart : (xs : List Node) → Chain k.stem w k.nodes own c xs → (l : ℕ) → 1 ≤ l → (own l ≡ c → ⊥) → l ≡ last_link xs → ⊥
  last_apart [] z l h o e = omega arith
  last_apart (x ∷ xs) z l h o e = o (ap own e ∙ last-own own k.nodes c x.link xs z.mine.0.owner z.mine.1)

pub joined-bits-length : (k : Lay) (b : List ℕ) (e : Element) (to : Room) → length (joined_bits k b e to) ≡ length b
unfolding joined_bits
joined-bits-length k b e to = cond-path length (eqb to.tail 0) (signalled true k b e.rank.0) b (length b) (signalled-length true k b e.rank.0) refl

pub joined_length : (k : Lay) (w : List ℕ) (e : Element) (to : Room) → length (joined_words k w e to) ≡ length w
unfolding joined_words
joined_length k w e to = write-length w (joins k w e to)

loads-snoc : (xs : List Node) (y : Node) → loads (xs ++ y ∷ []) ≡ loads xs ++ y.load ∷ []
loads-snoc [] y = refl
loads-snoc (x ∷ xs) y = ap (λ (l : List Load). x.load ∷ l) (loads-snoc xs y)

flag-snoc : (xs : List Node) (y : Node) → flag (xs ++ y ∷ []) ≡ 1
flag-snoc [] y = refl
flag-snoc (x ∷ xs) y = refl

-- a bucket by its parts
room_by : (k : Lay) (used : ℕ) (b w : List ℕ) (r next : ℕ) → (room_with k used b w r).good ≡ true → next_of k w (word w k.free) ≡ next
    → ◌≡◌ {A = Room} (room_with k used b w r) (record { good = true; tail = word w (tail_at k r); next = next })
unfolding room_with
room_by k used b w r next g e = λ i. record { good = g i; tail = word w (tail_at k r); next = e i }

-- used: how many nodes are held, the others' too
module _ (k : Lay) (S : Seat k) (others : ℕ) (b w : List ℕ) (l : List Element) (h : HoldsIn k S others b w l) (e : Element) (r< : e.rank.0 < k.ranks) (used : ℕ) where
  abbrev laid : Laid k
  laid = S.laid

  abbrev r : ℕ
  r = e.rank.0

  abbrev c : ℕ
  c = head_at k r

  abbrev t : Load
  t = load_of e

  -- the push that puts the newcomer in behind all of its rank
  pub record Pushed : Type 0 where
    pub fit : JoinFit k used b w e.rank.0
    pub after : HoldsIn k S others (joined_bits k b e (room_with k used b w e.rank.0)) (joined_words k w e (room_with k used b w e.rank.0)) (insert e l)
    pub else : (c : ℕ) → S.Head c → (c ≡ head_at k e.rank.0 → ⊥) → after.q c ≡ h.q c

  hc : S.Head (head_at k e.rank.0)
  hc = S.head r r<

  C : Chain k.stem w k.nodes h.own (head_at k e.rank.0) (h.q (head_at k e.rank.0))
  C = chain_of k S others b w l h r r<

  tail-is : word w (tail_at k e.rank.0) ≡ last_link (h.q (head_at k e.rank.0))
  tail-is = h.linked.tails c hc

  module _ (u : used ≡ others + length l) (x : Node) (xs : List Node) (z : h.q k.free ≡ x ∷ xs) where
    F : Chain k.stem w k.nodes h.own k.free (x ∷ xs)
    F = subst (Chain k.stem w k.nodes h.own k.free) z (h.linked.chains k.free (inr refl))

    free-link : word w k.free ≡ x.link
    free-link = F.seg.0

    next-is : next_of k w (word w k.free) ≡ word w (next_at k x.link)
    next-is = ap (next_of k w) free-link ∙ next-in k w x.link F.mine.0.low F.mine.0.high

    off : h.own x.link ≡ c → ⊥
    off q = let a : k.free ≡ c = sym F.mine.0.owner ∙ q in omega (arith, S.low c hc, laid.pool)

    -- a sound bucket passes the push's tests
    fits : JoinFit k used b w r
    fits =
        let s = seg-zero k.stem w k.nodes h.own k.free (next_at k x.link) xs F.mine.1 F.seg.2 in
        let n : length (h.q k.free) ≡ suc (length xs) = ap length z in
        let fb : ℕ → ℕ = λ j. flag (h.q (head_at k j)) in
        record {
          both = rw tail-is (both_zero k S w h.own c (h.q c) C);
          bits = ranks-agree k laid b fb h.bits r r< (word w c ≡ 0) (head-flag k S w h.own c (h.q c) C);
          head≤ = seg-le k.stem w k.nodes h.own c c (h.q c) C.mine C.seg;
          tail≤ = rw tail-is (last-le k S w h.own c (h.q c) C);
          next≤ = rw next-is (seg-le k.stem w k.nodes h.own k.free (next_at k x.link) xs F.mine.1 F.seg.2);
          behind0 = ap (next_of k w) tail-is ∙ behind-zero k S w h.own c (h.q c) C;
          free≢ = λ p. last_apart k S w h.own c (h.q c) C x.link F.mine.0.low off (sym free-link ∙ p ∙ tail-is);
          ends = rw next-is (record { to = λ p. omega (arith, s.to p, h.room); from = λ p. s.from (omega (arith, h.room)) });
        }

    abbrev to : Room
    to = record { good = true; tail = word w (tail_at k r); next = word w (next_at k x.link) }

    room-is : room_with k used b w r ≡ to
    room-is = room_by k used b w r (word w (next_at k x.link)) ((join-means k b w r used).holds fits) next-is

    -- ---- the words and the bits

    abbrev T : List ℕ
    T = joining (area k S) w h.q h.own h.linked c hc x xs z t

    abbrev W : List ℕ
    W = set T k.held (word w k.held + 1)

    link-is : link_at k r (word w (tail_at k r)) ≡ end_slot k.stem c (h.q c)
    link-is = ap (link_at k r) tail-is ∙ slot-end (area k S) k refl h.own r (h.q c) c C.mine

    words_are : joined_words k w e to ≡ W
    unfolding joined_words
    words_are = rw (link-is, free-link)

    long-is : length W ≡ length w
    long-is = ap length (sym words_are) ∙ joined_length k w e to

    abbrev fb : ℕ → ℕ
    fb j = flag (h.q (head_at k j))

    abbrev ys : List Node
    ys = h.q c ++ node x.link t ∷ []

    set-bits : (us : List Node) → us ≡ h.q c → Ranks k (joined_bits k b e to) (upd fb r 1)
    unfolding joined_bits
    set-bits [] q =
        let g : word w (tail_at k r) ≡ 0 = tail-is ∙ ap last_link (sym q) in
        rw (eq-eqb (word w (tail_at k r)) 0 g) (signals k laid b fb h.bits r r< true (upd fb r 1) (ap flag (sym q)) (is-upd fb r 1))
    set-bits (u ∷ us) q =
        let i = last-in k S w h.own c u us (subst (Chain k.stem w k.nodes h.own c) (sym q) C) in
        let g : word w (tail_at k r) ≡ last_from u.link us = tail-is ∙ ap last_link (sym q) in
        rw (ne_eqb (word w (tail_at k r)) 0 (λ j. omega (arith, i.0))) (ranks-ext k laid b fb (upd fb r 1) (λ j j<. same-upd fb (upd fb r 1) r 1 (is-upd fb r 1) (ap flag (sym q)) j) h.bits)

    -- ---- all together

    list-is : insert e l ≡ in_order (upd (λ j. loads (h.q (head_at k j))) r (loads ys)) 0 k.ranks
    list-is =
        ap (insert e) h.is ∙ order-push (λ j. loads (h.q (head_at k j))) r t 0 k.ranks (omega arith) (omega arith)
        ∙ ap (λ (v : List Load). in_order (upd (λ j. loads (h.q (head_at k j))) r v) 0 k.ranks) (sym (loads-snoc (h.q c) (node x.link t)))

    change : Change k S others b w l h r (joined_bits k b e to) W (insert e l) ys
    change =
        let y = h.linked in
        record {
          q' = joined_q (area k S) w h.q h.own y c hc x xs z t;
          own' = joined_own (area k S) w h.q h.own y c hc x xs z t;
          shaped = shaped-after k b w (joined_bits k b e to) W (joined-bits-length k b e to) long-is h.shaped;
          linked = linked-off (area k S) T k.held (word w k.held + 1) _ _ laid.held (join-linked (area k S) w h.q h.own y c hc x xs z t);
          here = joined-here (area k S) w h.q h.own y c hc x xs z t;
          else = λ d i n. joined-other (area k S) w h.q h.own y c hc x xs z t d i n;
          bits = subst (λ (v : ℕ). Ranks k (joined_bits k b e to) (upd fb r v)) (sym (flag-snoc (h.q c) (node x.link t))) (set-bits (h.q c) refl);
          list = list-is;
          count = same T k.held (word w k.held + 1) (omega (arith, h.shaped.words, long-is, length-set T k.held (word w k.held + 1))) ∙ omega (arith, h.held, insert-length e l);
          free = omega (arith, insert-length e l, ap length (joined_free (area k S) w h.q h.own y c hc x xs z t), ap length z);
          blank = rw (joined_free (area k S) w h.q h.own y c hc x xs z t) (subst NoLoads z h.blank).1;
        }

    abbrev Left : Room → List ℕ → Type 0
    Left room v = (y : HoldsIn k S others (joined_bits k b e room) v (insert e l)) × ((d : ℕ) → S.Head d → (d ≡ head_at k e.rank.0 → ⊥) → y.q d ≡ h.q d)

    leaves : Left (room_with k used b w r) (joined_words k w e (room_with k used b w r))
    leaves =
        subst (λ (room : Room). Left room (joined_words k w e room)) (sym room-is)
        (subst (Left to) (sym words_are) (changed k S others b w l h r (joined_bits k b e to) W (insert e l) ys change, changed-else k S others b w l h r (joined_bits k b e to) W (insert e l) ys change))

    does : Pushed
    does = record { fit = fits; after = leaves.0; else = leaves.1 }

  -- while a node is free a push puts the newcomer in
  pub pushes : used ≡ others + length l → (used ≡ k.nodes → ⊥) → Pushed
  pushes u some = go (h.q k.free) refl
    where
      go : (ys : List Node) → h.q k.free ≡ ys → Pushed
      go [] p = let n : length (h.q k.free) ≡ 0 = ap length p in absurd (some (omega (arith, h.room)))
      go (x ∷ xs) p = does u x xs p
