-- The words past the end of each part: no call touches them.
use Rattle.laws.specs.Prelude.{Element, List, Pop, Push, Refusal, Replace, [], ◌+◌, ◌<◌, ◌^◌, ◌∙◌, ◌∷◌, ◌≡◌, ◌≤◌, ◌⊎◌, ap, arith, cond-path, eqb, false, inr, le_of_suc-le-suc, length, not-suc-le-zero, pow-suc, refl, suc, true, zero, ℕ}
use Rattle.bitmap.specs.Bits as word64
use Rattle.promise.proofs.Tabled.{either}
use Rattle.bucket_model.specs.Prelude.{Laid, Opens, Untouched, asked, bit_words, bits_after, blank_word, cleared, fill, fill_from, find, joined_bits, lowest_of, lowest_rank, signalled, popped, pushed, refused, replaced, room_after, room_of, room_with, store_words, storeys_from, taken_bits, taken_words, word, words_after, words_of}
use Rattle.bucket_model.specs.Layout.{Lay}
use Rattle.bucket_model.specs.Calls.{Lowest, Room}
use Rattle.bucket_model.proofs.Exactly.{goes, goes-clear}
use Rattle.bucket_model.proofs.Facts.{pop-means, pop-way, low-is, low-rank}
use Rattle.bucket_model.proofs.Fill.{fill-length}
use Rattle.bucket_model.proofs.Taken.{taken-past, free-after}
use Rattle.bucket_model.proofs.Joined.{joined-past}
use Rattle.bucket_model.proofs.Pop.{taken-length, taken-bits-length}
use Rattle.bucket_model.proofs.Push.{joined_length, joined-bits-length}
use Rattle.bucket_model.proofs.Tower.{signalled-away}

-- ---- a list filled from the front, past its end

from_past : (f : ℕ → ℕ) (i n : ℕ) (w : List ℕ) (j : ℕ) → n ≤ j → word (fill_from f i n w) j ≡ word w j
from_past f i zero w j h = refl
from_past f i (suc n) [] j h = refl
from_past f i (suc n) (x ∷ xs) zero h = absurd (not-suc-le-zero h)
from_past f i (suc n) (x ∷ xs) (suc j) h = from_past f (suc i) n xs j (le_of_suc-le-suc h)

pub fill-past : (f : ℕ → ℕ) (n : ℕ) (w : List ℕ) (j : ℕ) → n ≤ j → word (fill f n w) j ≡ word w j
unfolding fill
fill-past f n w j h = from_past f 0 n w j h

-- ---- the lowest rank of words of 64 bits

pub find-lt : (b : List ℕ) (o d : ℕ) → ((i : ℕ) → word b i < 2 ^ 64) → Opens b (storeys_from o d) → find b (storeys_from o d) < 64 ^ d
find-lt b o zero f w = omega arith
find-lt b o (suc d) f w =
    let ih = find-lt b o d f w.0 in
    let i = word64.lowest 64 (word b (o + words_of d + find b (storeys_from o d))) (omega (arith, w.1)) (f (o + words_of d + find b (storeys_from o d))) in
    omega (arith, i.within, pow-suc 64 d)

-- a refused call leaves everything behind
stays : (k : Lay) (b w : List ℕ) (x : Refusal) → Untouched k b w (refused x b w)
stays k b w x = record { bits-long = refl; words_long = refl; bits-rest = λ i l. refl; words-rest = λ i l. refl }

pub rest-clear : (k : Lay) (b w : List ℕ) → Untouched k b w (cleared k b w)
rest-clear k b w = either (goes-clear k b w) (Untouched k b w) (stays k b w) (λ p. record {
  bits-long = fill-length (λ j. 0) (bit_words k) b;
  words_long = fill-length (blank_word k) (store_words k) w;
  bits-rest = fill-past (λ j. 0) (bit_words k) b;
  words-rest = fill-past (blank_word k) (store_words k) w;
})

module _ (k : Lay) (laid : Laid k) where
  -- words of bits that are none of the queue's
  pub taken-bits-away : (b : List ℕ) (low : Lowest) (i : ℕ) → low.rank < k.ranks → (i < k.bits) ⊎ (bit_words k ≤ i) → word (taken_bits k b low) i ≡ word b i
  unfolding taken_bits
  taken-bits-away b low i h l = cond-path (λ x. word x i) (eqb low.next 0) (signalled false k b low.rank) b (word b i) (signalled-away false k laid b low.rank i h l) refl

  pub joined-bits-away : (b : List ℕ) (e : Element) (to : Room) (i : ℕ) → e.rank.0 < k.ranks → (i < k.bits) ⊎ (bit_words k ≤ i) → word (joined_bits k b e to) i ≡ word b i
  unfolding joined_bits
  joined-bits-away b e to i h l = cond-path (λ x. word x i) (eqb to.tail 0) (signalled true k b e.rank.0) b (word b i) (signalled-away true k laid b e.rank.0 i h l) refl

  pub rank_lt : (b : List ℕ) → ((i : ℕ) → word b i < 2 ^ 64) → Opens b (storeys_from k.bits k.storeys) → lowest_rank k b < k.ranks
  unfolding lowest_rank
  rank_lt b f o = omega (arith, find-lt b k.bits k.storeys f o, laid.ranks)

  -- ---- call by call

  module _ (b w : List ℕ) where
    pub rest-push : (e : Element) → Untouched k b w (pushed k b w e)
    unfolding asked room_with
    rest-push e = let to = room_of k b w e.rank.0 in either (goes k b w (Push e)) (Untouched k b w) (stays k b w) (λ p. record {
      bits-long = joined-bits-length k b e to;
      words_long = joined_length k w e to;
      bits-rest = λ i m. joined-bits-away b e to i p.1.0 (inr m);
      words-rest = λ i m. joined-past k laid w e to p.1.0 p.1.1.1.0.free≤ p.1.1.1.1.1.0.tail≤ i m;
    })

    module _ (fits : (i : ℕ) → word b i < 2 ^ 64) where
      abbrev low : Lowest
      low = lowest_of k b w

      -- the lowest bucket that has passed its tests
      pub low-lt : (lowest_of k b w).good ≡ true → (lowest_of k b w).rank < k.ranks
      low-lt g = rw (low-rank k b w g) (rank_lt b fits ((pop-means k b w).says g).way)

      pub low-head : (lowest_of k b w).good ≡ true → (1 ≤ (lowest_of k b w).head) × ((lowest_of k b w).head ≤ k.nodes)
      low-head g = let f = (pop-means k b w).says g in rw (ap (λ (x : Lowest). x.head) (low-is k b w (pop-way k b w g))) (omega (arith, f.head≢), f.head≤)

      low-past : store_words k ≤ length w → (lowest_of k b w).good ≡ true → (i : ℕ) → store_words k ≤ i → word (taken_words k w (lowest_of k b w)) i ≡ word w i
      low-past s g = taken-past k laid w low s (low-lt g) (low-head g).0 (low-head g).1

      pub rest-pop : Untouched k b w (popped k b w)
      unfolding asked
      rest-pop = either (goes k b w Pop) (Untouched k b w) (stays k b w) (λ p. let g = (pop-means k b w).holds p.1.1.1.0 in record {
        bits-long = taken-bits-length k b low;
        words_long = taken-length k w low;
        bits-rest = λ i h. taken-bits-away b low i (low-lt g) (inr h);
        words-rest = low-past p.0.words g;
      })

      pub rest-replace : (e : Element) → Untouched k b w (replaced k b w e)
      unfolding asked room_after room_with
      rest-replace e =
          let B = bits_after k b w in
          let W = words_after k b w in
          let to = room_after k B W e.rank.0 in
          either (goes k b w (Replace e)) (Untouched k b w) (stays k b w) (λ p. let f = p.1.1.1.1.1 in let g = (pop-means k b w).holds f.0 in record {
            bits-long = joined-bits-length k B e to ∙ taken-bits-length k b low;
            words_long = joined_length k W e to ∙ taken-length k w low;
            bits-rest = λ i j. joined-bits-away B e to i p.1.0 (inr j) ∙ taken-bits-away b low i (low-lt g) (inr j);
            words-rest = λ i j. joined-past k laid W e to p.1.0 (rw (free-after k laid w low p.0.words) (low-head g).1) f.1.0.1.tail≤ i j ∙ low-past p.0.words g i j;
          })
