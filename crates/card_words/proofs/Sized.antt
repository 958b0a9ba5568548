-- The sizes are the calls' own: a shape is taken exactly if its size is not 0 and the slices are as long.
use Rattle.laws.specs.Prelude.{Bool, ◌&&◌, ◌*◌, ◌+◌, ◌<◌, ◌^◌, ◌∙◌, ◌≡◌, ◌≤◌, and_left, and_right, ap, arith, cond, eqb, false, le-leb, leb, leb-true, lt-leb, lt-ltb, ltb, ltb-false, ltb-true, means-and, means-leb, mul-le-mul_right, ne_eqb, not, not-false, not-true, refl, suc, sym, true, zero, ℕ, ℕ_discrete}
use lib.Dec.{lit≤}
use Rattle.bucket_model.specs.Checks as bucket
use Rattle.bucket_model.specs.declared.Lay.{Lay}
use Rattle.bucket_model.specs.Prelude.{bit_words, least_storeys, most_storeys, pool, queue, store_words}
use Rattle.card_words.specs.Sizes.{bucket_bits, bucket_words, tree_words}
use Rattle.tree_node.proofs.Steps.{order-range}
use Rattle.tree_node.specs.Room.{Capacity}
use Rattle.tree_model.specs.Calls as tree
use Rattle.tree_model.specs.Prelude.{room, slot_words}

-- ---- the tree
module _ (m levels : ℕ) where
  -- a store for the largest tree is long enough for any, so what is left of its test is the shape's own
  tree-any : tree.shape_ok m levels (slot_words * tree.slot_limit) ≡ tree.shape_ok m levels (slot_words * room m levels)
  unfolding tree.shape_ok
  tree-any = ap (λ (b : Bool). tree.order_ok m && (leb 1 levels && b)) (go (leb (room m levels) tree.slot_limit) refl)
    where
      go : (b : Bool) → leb (room m levels) tree.slot_limit ≡ b → (b && leb (slot_words * room m levels) (slot_words * tree.slot_limit)) ≡ (b && leb (slot_words * room m levels) (slot_words * room m levels))
      go true e =
          le-leb (slot_words * room m levels) (slot_words * tree.slot_limit) (omega (arith, leb-true (room m levels) tree.slot_limit e)) ∙ sym (le-leb (slot_words * room m levels) (slot_words * room m levels) (omega arith))
      go false e = refl

  module _ (ok : Bool) (shape : ok ≡ tree.shape_ok m levels (slot_words * tree.slot_limit)) where
    pub tree-none : not ok ≡ true → 0 ≡ tree_words m levels
    unfolding tree_words
    tree-none e = rw (← tree-any, ← shape, not-true ok e)

    module _ (e : not ok ≡ false) where
      taken : (tree.order_ok m && (leb 1 levels && (leb (room m levels) tree.slot_limit && leb (slot_words * room m levels) (slot_words * tree.slot_limit)))) ≡ true
      unfolding tree.shape_ok
      taken = sym shape ∙ not-false ok e

      pub tree-order : (0 < m) × (m ≤ 8)
      tree-order =
          order-range m (and_left (tree.order_ok m) (leb 1 levels && (leb (room m levels) tree.slot_limit && leb (slot_words * room m levels) (slot_words * tree.slot_limit))) taken)

      tree-room : room m levels ≤ tree.slot_limit
      tree-room =
          leb-true (room m levels) tree.slot_limit (and_left (leb (room m levels) tree.slot_limit) (leb (slot_words * room m levels) (slot_words * tree.slot_limit)) (and_right (leb 1 levels) (leb (room m levels) tree.slot_limit && leb (slot_words * room m levels) (slot_words * tree.slot_limit)) (and_right (tree.order_ok m) (leb 1 levels && (leb (room m levels) tree.slot_limit && leb (slot_words * room m levels) (slot_words * tree.slot_limit))) taken)))

      module _ (slots : ℕ) (c : Capacity m levels slots) where
        pub tree-most : slots ≤ tree.slot_limit
        tree-most = omega (arith, c.within tree-room, tree-room)

        pub tree-some : slot_words * slots ≡ tree_words m levels
        unfolding tree_words
        tree-some = rw (← tree-any, ← shape, not-false ok e) (ap (λ (n : ℕ). slot_words * n) (c.within tree-room))

-- a tree that is taken has a slot at least
some-room : (m levels : ℕ) → tree.order_ok m ≡ true → 1 ≤ levels → 0 < room m levels
unfolding room
some-room m zero e h = absurd (omega arith)
some-room m (suc k) e h = omega (arith, mul-le-mul_right (suc (room m k)) (order-range m e).0)

-- "A shorter slice is refused": a call takes the shape exactly if the size is not 0 and the slice is as long
pub tree-size : (m levels len : ℕ) → tree.shape_ok m levels len ≡ (not (eqb (tree_words m levels) 0) && leb (tree_words m levels) len)
unfolding tree_words tree.shape_ok
tree-size m levels len = go (tree.order_ok m) refl (leb 1 levels) refl (leb (room m levels) tree.slot_limit)
  where
    go : (a : Bool) → tree.order_ok m ≡ a → (b : Bool) → leb 1 levels ≡ b → (c : Bool) → (a && (b && (c && leb (slot_words * room m levels) len))) ≡ (not (eqb (cond (a && (b && (c && leb (slot_words * room m levels) (slot_words * room m levels)))) (slot_words * room m levels) 0) 0) && leb (cond (a && (b && (c && leb (slot_words * room m levels) (slot_words * room m levels)))) (slot_words * room m levels) 0) len)
    go true p true q true =
        let some : 0 < room m levels = some-room m levels p (leb-true 1 levels q) in
        let more : slot_words * room m levels ≡ 0 → ⊥ = λ z. omega arith in
        rw (le-leb (slot_words * room m levels) (slot_words * room m levels) (omega arith), ne_eqb (slot_words * room m levels) 0 more)
    go true p true q false = refl
    go true p false q c = refl
    go false p b q c = refl

-- ---- the bucket queue
-- held is the last word
last_word : (x len : ℕ) → ltb x len ≡ leb (x + 1) len
last_word x len = go (ltb x len) refl
  where
    go : (t : Bool) → ltb x len ≡ t → t ≡ leb (x + 1) len
    go true e = sym (le-leb (x + 1) len (omega (arith, ltb-true x len e)))
    go false e = sym (lt-leb (x + 1) len (omega (arith, ltb-false x len e)))

-- a store has few words, whatever its depth and its nodes
module _ (d : ℕ) (l : least_storeys ≤ d) (h : d ≤ most_storeys) where
  few-ranks : 64 ^ d ≤ 262144
  few-ranks = elim (ℕ_discrete d 2) [
    | yes e ↦ rw e (lit≤ tt)
    | no n ↦ let e : d ≡ 3 = omega arith in rw e (lit≤ tt)
  ]

  pub few_bits : (n : ℕ) (k : Lay) → k ≡ queue d n → k.tower ≤ 4161
  few_bits n k e = elim (ℕ_discrete d 2) [
    | yes two ↦ rw (e, two) (lit≤ tt)
    | no m ↦ let three : d ≡ 3 = omega arith in rw (e, three) (lit≤ tt)
  ]

  pub few_words : (n : ℕ) (k : Lay) → k ≡ queue d n → n ≤ pool → k.held ≤ 720897
  few_words n k e m = let q : k.held ≡ (queue d n).held = ap (λ (k : Lay). k.held) e in omega (arith, few-ranks)

module _ (d n : ℕ) (ok : Bool) (deep : ok ≡ bucket.depth_ok d) where
  abbrev words : ℕ
  words = store_words (queue d n)

  pub bits_none : not ok ≡ true → 0 ≡ bucket_bits d
  unfolding bucket_bits
  bits_none e = rw (← deep, not-true ok e)

  pub bits-some : not ok ≡ false → (k : Lay) → k ≡ queue d 0 → k.tower ≡ bucket_bits d
  unfolding bucket_bits
  bits-some e k q = rw (← deep, not-false ok e) (ap (λ (k : Lay). k.tower) q ∙ omega arith)

  pub bucket-undeep : not ok ≡ true → 0 ≡ bucket_words d n
  unfolding bucket_words bucket.shape_ok
  bucket-undeep e = rw (← deep, not-true ok e)

  module _ (e : not ok ≡ false) where
    is-deep : bucket.depth_ok d ≡ true
    is-deep = sym deep ∙ not-false ok e

    pub depths : (least_storeys ≤ d) × (d ≤ most_storeys)
    depths = (means-and (means-leb least_storeys d) (means-leb d most_storeys)).says is-deep

    pub bucket-none : n < 1 → 0 ≡ bucket_words d n
    unfolding bucket_words bucket.shape_ok
    bucket-none h = rw (is-deep, lt-leb 1 n h)

    pub bucket-above : pool < n → 0 ≡ bucket_words d n
    unfolding bucket_words bucket.shape_ok
    bucket-above h = rw (is-deep, lt-leb n pool h) (go (leb 1 n))
      where
        go : (b : Bool) → 0 ≡ cond (((b && false) && leb (bit_words (queue d n)) (bit_words (queue d n))) && ltb (queue d n).held words) words 0
        go true = refl
        go false = refl

    pub bucket-some : 1 ≤ n → n ≤ pool → (k : Lay) → k ≡ queue d n → k.held + 1 ≡ bucket_words d n
    unfolding bucket_words bucket.shape_ok
    bucket-some h m k q =
        rw (is-deep, le-leb 1 n h, le-leb n pool m, le-leb (bit_words (queue d n)) (bit_words (queue d n)) (omega arith), lt-ltb (queue d n).held words (omega arith)) (ap (λ (k : Lay). k.held + 1) q)

-- a call takes the shape exactly if the size is not 0 and the slices are as long
pub bucket-size : (bits words d n : ℕ) → bucket.shape_ok (queue d n) bits words ≡ ((not (eqb (bucket_words d n) 0) && leb (bucket_bits d) bits) && leb (bucket_words d n) words)
unfolding bucket_bits bucket_words bucket.shape_ok
bucket-size bits words d n = go (bucket.depth_ok d) (leb 1 n) (leb n pool)
  where
    size : ℕ
    size = store_words (queue d n)

    tower : ℕ
    tower = bit_words (queue d n)

    go : (t a b : Bool) → ((((t && a) && b) && leb tower bits) && ltb (queue d n).held words)
        ≡ ((not (eqb (cond ((((t && a) && b) && leb tower tower) && ltb (queue d n).held size) size 0) 0) && leb (cond t tower 0) bits) && leb (cond ((((t && a) && b) && leb tower tower) && ltb (queue d n).held size) size 0) words)
    go true true true =
        let more : size ≡ 0 → ⊥ = λ z. omega arith in
        rw (le-leb tower tower (omega arith), lt-ltb (queue d n).held size (omega arith), ne_eqb size 0 more) (ap (λ (t : Bool). leb tower bits && t) (last_word (queue d n).held words))
    go true true false = refl
    go true false b = refl
    go false a b = refl
