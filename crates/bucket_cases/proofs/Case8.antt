-- Case 8 of the paper, computed from the definitions at two storeys, and its twin at three: "Bucket, N = 3: push 7/1, 7/2, 4095/3; push 0/4 refused 5; 4096/4 refused 4; pops 7/1, 7/2, 4095/3, then 6".
use Rattle.laws.specs.Prelude.{Answer, List, Request, [], ◌∙◌, ◌∷◌, ◌≡◌, ◌≤◌, ap, arith, length-replicate, map, refl, replicate, untagged, ℕ, Ok, None}
use lib.Count.{count_trailing_zeros}
use lib.Dec.{lit≤}
use Rattle.bitmap.specs.Bits.{bit_at}
use Rattle.bucket_cases.specs.Case8.{case8, case8_answers, case8_three, case8_three_answers}
use Rattle.bucket_model.specs.declared.Lay.{Lay}
use Rattle.bucket_model.specs.Prelude.{Laid, Said, Shaped, Store, answered, answers_from, ask, asked, bit_words, blank_word, bucket_answers, called, cleared, counted, fill, joined_bits, joined_words, least_storeys, link_at, lowest_of, lowest_open, lowest_rank, signalled, most_storeys, next_of, plain_says, plain_with, pool, pop_found, pop_ok, popped, push_found, push_ok, pushed, queue, rank_agrees, room_with, says, shape_ok, start, store, store_words, tail_left, taken_bits, taken_words, whole_ok}
use Rattle.bucket_model.proofs.Laws.{answers, laid_of}

pub case8-holds : bucket_answers (queue 2 3) case8 ≡ case8_answers
unfolding bucket_answers answers_from asked signalled lowest_rank lowest_open rank_agrees shape_ok whole_ok next_of pop_ok push_ok fill blank_word cleared lowest_of tail_left taken_words taken_bits pop_found popped room_with link_at joined_words joined_bits push_found pushed untagged bit_at count_trailing_zeros
case8-holds = refl

-- ---- at three storeys a store has half a million words: its answers are those of the plain list, and these are computed

abbrev pub answer_of : Said → Answer
answer_of (answered a) = a
answer_of (counted c) = Ok None

one_by_one : (k : Lay) (qs : List Request) (s : Store) → answers_from k qs s ≡ map answer_of (says k (map ask qs) s)
unfolding answers_from says called
one_by_one k [] s = refl
one_by_one k (q ∷ qs) s = ap (λ (l : List Answer). (asked k q s).answer ∷ l) (one_by_one k qs (store (asked k q s).bits (asked k q s).words))

module _ (k : Lay) (laid : Laid k) (two : least_storeys ≤ k.storeys) (three : k.storeys ≤ most_storeys) (low : 1 ≤ k.nodes) (high : k.nodes ≤ pool) where
  zeros : Shaped k (replicate (bit_words k) 0) (replicate (store_words k) 0)
  zeros = record { two = two; three = three; low = low; high = high; bits = omega (arith, length-replicate {A = ℕ} (bit_words k) 0); words = omega (arith, length-replicate {A = ℕ} (store_words k) 0) }

  pub as-list : (qs : List Request) → bucket_answers k qs ≡ map answer_of (plain_says k (map ask qs) [])
  unfolding bucket_answers
  as-list qs =
      one_by_one k qs (start k (replicate (bit_words k) 0) (replicate (store_words k) 0))
      ∙ ap (map answer_of) (answers k laid (replicate (bit_words k) 0) (replicate (store_words k) 0) zeros (map ask qs))

three-listed : map answer_of (plain_says (queue 3 3) (map ask case8_three) []) ≡ case8_three_answers
unfolding plain_says plain_with untagged
three-listed = refl

pub case8-three : bucket_answers (queue 3 3) case8_three ≡ case8_three_answers
case8-three = as-list (queue 3 3) (laid_of 3 3 (lit≤ tt)) (lit≤ tt) (lit≤ tt) (lit≤ tt) (lit≤ tt) case8_three ∙ three-listed
