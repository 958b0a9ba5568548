-- Each test of a call and the facts that it stands for.
use Rattle.laws.specs.Prelude.{Bool, List, Means, [], ◌%◌, ◌&&◌, ◌+◌, ◌/◌, ◌<◌, ◌∷◌, ◌≡◌, ap, arith, cond, eqb, false, length, means-and, means-beq, means-by, means-differ, means-eqb, means-leb, means-ltb, means-not, not, refl, true, ℕ}
use Rattle.bitmap.specs.Bits.{bit-lt}
use Rattle.bucket_model.specs.Prelude.{Agrees, JoinFit, Opens, PopFit, PushFit, Shaped, Storey, Whole, agree, bit_no, bit_of, bit_words, find, head_at, is_shaped, is_whole, least_storeys, lowest_in, lowest_of, lowest_open, lowest_rank, most_storeys, next_of, no_lowest, opens, pool, pop_ok, push_ok, rank_agrees, room_after, room_of, room_with, shape_ok, storeys_at, tail_at, whole_ok, word, word_of}
use Rattle.bucket_model.specs.Layout.{Lay}
use Rattle.bucket_model.specs.Calls.{Lowest}

-- a bit that is clear: "bit is set" answers no
pub clear-means : (x : ℕ) → x < 2 → Means (not (eqb x 1)) (x ≡ 0)
clear-means x h = means-by (means-not (means-eqb x 1)) (λ n. omega arith) (λ e p. omega arith)

module _ (k : Lay) (b w : List ℕ) where
  pub shape-means : Means (is_shaped k b w) (Shaped k b w)
  unfolding shape_ok
  shape-means =
      means-by
      (means-and (means-and (means-and (means-and (means-and (means-leb least_storeys k.storeys) (means-leb k.storeys most_storeys)) (means-leb 1 k.nodes)) (means-leb k.nodes pool)) (means-leb (bit_words k) (length b))) (means-ltb k.held (length w)))
      (λ x. record { two = x.0.0.0.0.0; three = x.0.0.0.0.1; low = x.0.0.0.1; high = x.0.0.1; bits = x.0.1; words = omega (arith, x.1) })
      (λ h. (((((h.two, h.three), h.low), h.high), h.bits), omega (arith, h.words)))

  pub whole-means : Means (is_whole k b w) (Whole k b w)
  unfolding whole_ok
  whole-means =
      let free = word w k.free in
      let held = word w k.held in
      means-by
      (means-and (means-and (means-and (means-leb free k.nodes) (means-leb held k.nodes)) (means-beq (means-eqb free 0) (means-eqb held k.nodes))) (means-beq (means-eqb (word b k.bits) 0) (means-eqb held 0)))
      (λ x. record { free≤ = x.0.0.0; held≤ = x.0.0.1; full = x.0.1; empty = x.1 })
      (λ h. (((h.free≤, h.held≤), h.full), h.empty))

-- ---- the way down and the way up, at any depth

pub opens-means : (b : List ℕ) (ps : List Storey) → Means (opens b ps) (Opens b ps)
opens-means b [] = record { says = λ e. tt; holds = λ h. refl }
opens-means b (p ∷ ps) = means-and (opens-means b ps) (means-not (means-eqb (word b (p.base + find b ps)) 0))

pub agree-means : (b : List ℕ) (ps : List Storey) (j : ℕ) (empty : Bool) (E : Type 0) → Means empty E → Means (agree b ps j empty) (Agrees b ps j E)
agree-means b [] j empty E m = record { says = λ e. tt; holds = λ h. refl }
agree-means b (p ∷ ps) j empty E m =
    means-and (means-differ m (bit_of b p j) (clear-means (bit_no b p j) (bit-lt (word_of b p j) (j % 64)))) (agree-means b ps (j / 64) (eqb (word_of b p j) 0) (word_of b p j ≡ 0) (means-eqb (word_of b p j) 0))

-- ---- a pop's bucket

module _ (k : Lay) (b w : List ℕ) where
  -- the bucket found is that of the lowest rank
  pub low-is : lowest_open k b ≡ true → lowest_of k b w ≡ lowest_in k w (lowest_rank k b)
  unfolding lowest_of
  low-is e = simp e

  open-means : Means (lowest_open k b) (Opens b (storeys_at k))
  unfolding lowest_open
  open-means = opens-means b (storeys_at k)

  fit-means : (r : ℕ) → Means (lowest_open k b && (lowest_in k w r).good) (PopFit k b w r)
  unfolding pop_ok
  fit-means r =
      let n = k.nodes in
      let head = word w (head_at k r) in
      let tail = word w (tail_at k r) in
      let next = next_of k w head in
      let behind = next_of k w tail in
      means-by
      (means-and open-means
      (means-and (means-and (means-and (means-and (means-and (means-and (means-not (means-eqb head 0)) (means-not (means-eqb tail 0))) (means-leb head n)) (means-leb tail n)) (means-leb next n)) (means-eqb behind 0))
      (means-beq (means-eqb next 0) (means-eqb head tail))))
      (λ x. let y = x.1 in record { way = x.0; head≢ = y.0.0.0.0.0.0; tail≢ = y.0.0.0.0.0.1; head≤ = y.0.0.0.0.1; tail≤ = y.0.0.0.1; next≤ = y.0.0.1; behind0 = y.0.1; ends = y.1 })
      (λ h. (h.way, ((((((h.head≢, h.tail≢), h.head≤), h.tail≤), h.next≤), h.behind0), h.ends)))

  good-is : (t : Bool) (x : Lowest) → (t && x.good) ≡ (cond {A = Lowest} t x no_lowest).good
  good-is true x = refl
  good-is false x = refl

  pub pop-means : Means (lowest_of k b w).good (PopFit k b w (lowest_rank k b))
  unfolding lowest_of
  pop-means = rw (← good-is (lowest_open k b) (lowest_in k w (lowest_rank k b))) (fit-means (lowest_rank k b))

  pub pop-way : (lowest_of k b w).good ≡ true → lowest_open k b ≡ true
  pop-way e = open-means.holds (pop-means.says e).way

  pub low-rank : (lowest_of k b w).good ≡ true → (lowest_of k b w).rank ≡ lowest_rank k b
  low-rank e = ap (λ (l : Lowest). l.rank) (low-is (pop-way e))

-- ---- a push's bucket

module _ (k : Lay) (b w : List ℕ) (r : ℕ) where
  pub join-means : (used : ℕ) → Means (room_with k used b w r).good (JoinFit k used b w r)
  unfolding push_ok room_with rank_agrees
  join-means used =
      let n = k.nodes in
      let head = word w (head_at k r) in
      let tail = word w (tail_at k r) in
      let free = word w k.free in
      let next = next_of k w free in
      let behind = next_of k w tail in
      means-by
      (means-and (means-and (means-and (means-and (means-and (means-and (means-and
      (means-beq (means-eqb head 0) (means-eqb tail 0)) (agree-means b (storeys_at k) r (eqb head 0) (head ≡ 0) (means-eqb head 0)))
      (means-leb head n)) (means-leb tail n)) (means-leb next n)) (means-eqb behind 0)) (means-not (means-eqb free tail)))
      (means-beq (means-eqb next 0) (means-eqb (used + 1) n)))
      (λ x. record { both = x.0.0.0.0.0.0.0; bits = x.0.0.0.0.0.0.1; head≤ = x.0.0.0.0.0.1; tail≤ = x.0.0.0.0.1; next≤ = x.0.0.0.1; behind0 = x.0.0.1; free≢ = x.0.1; ends = x.1 })
      (λ h. (((((((h.both, h.bits), h.head≤), h.tail≤), h.next≤), h.behind0), h.free≢), h.ends))

  pub push-means : Means (room_of k b w r).good (PushFit k b w r)
  push-means = join-means (word w k.held)

  pub room-means : Means (room_after k b w r).good (Whole k b w × PushFit k b w r)
  unfolding room_after
  room-means = means-and (whole-means k b w) push-means
