-- The five calls as functions of every word that they are lent, to their answer and every word that they leave, wherever these words stand. These are definitions, and the contracts cite them.
use Rattle.std.specs.Prelude.{◌%◌, ◌&&◌, ◌++◌, ◌+◌, ◌-◌, ◌/◌, ◌∷◌}
use Rattle.laws.specs.Prelude.{Answer, BadRank, BadShape, Bool, Damaged, Element, Empty, Full, List, NoTag, Refusal, [], cond, eqb, false, length, ltb, not, suc, true, untagged, zero, ℕ, Result, Ok, Err, None, Some}
use Rattle.bucket_model.specs.Layout.{Lay, load_words, node_words, bit_words, store_words, word, write, head_at, tail_at, next_at, load_in, load_writes, load_of, loaded, no_load}
use Rattle.bucket_model.specs.Storeys.{signalled, lowest_rank, lowest_open, rank_agrees}
use Rattle.bucket_model.specs.Checks.{shape_ok, whole_ok, next_of, pop_ok, Reads, push_ok}
pub use Rattle.bucket_model.specs.declared.Bucket.{Bucket}
pub use Rattle.bucket_model.specs.declared.Spot.{Spot}

-- what a call answers, and all words of both slices afterwards
pub record Outcome : Type 0 where
  pub answer : Answer
  pub bits : List ℕ
  pub words : List ℕ

abbrev pub outcome : Answer → List ℕ → List ℕ → Outcome
outcome a b w = record { answer = a; bits = b; words = w }

-- a refusal leaves everything behind
abbrev pub refused : Refusal → List ℕ → List ℕ → Outcome
refused r b w = outcome (Err r) b w

-- the shape of a call, and the tests of the whole queue
abbrev pub is_shaped : Lay → List ℕ → List ℕ → Bool
is_shaped k b w = shape_ok k (length b) (length w)

abbrev pub is_whole : Lay → List ℕ → List ℕ → Bool
is_whole k b w = whole_ok (word b k.bits) (word w k.free) (word w k.held) k.nodes

-- ---- clear

-- the first k words replaced by f i, f (i + 1), ..
abbrev pub fill_from : (ℕ → ℕ) → ℕ → ℕ → List ℕ → List ℕ
fill_from f i zero w = w
fill_from f i (suc k) [] = []
fill_from f i (suc k) (x ∷ xs) = f i ∷ fill_from f (suc i) k xs

-- .. by f 0, f 1, ..; "Longer slices are taken; the rest is never touched"
unfoldable pub fill : (ℕ → ℕ) → ℕ → List ℕ → List ℕ
fill f k w = fill_from f 0 k w

-- word i of the node that link l names: "each node's next names the node after it, the last none"
abbrev pub blank_cell : ℕ → ℕ → ℕ → ℕ
blank_cell n l i = cond (eqb i load_words) (cond (eqb l n) 0 (l + 1)) 0

-- word j of a cleared store: heads and tails 0; the nodes; free link 1; held 0
unfoldable pub blank_word : Lay → ℕ → ℕ
blank_word k j =
    cond (ltb j (k.stem + node_words)) 0
    (cond (ltb j k.free) (blank_cell k.nodes ((j - k.stem) / node_words) ((j - k.stem) % node_words))
    (cond (eqb j k.free) 1 0))

unfoldable pub cleared : Lay → List ℕ → List ℕ → Outcome
cleared k b w =
    cond (is_shaped k b w)
    (outcome (Ok None) (fill (λ j. 0) (bit_words k) b) (fill (blank_word k) (store_words k) w))
    (refused BadShape b w)

-- ---- held

unfoldable pub held_count : Lay → List ℕ → List ℕ → Result ℕ Refusal
held_count k b w = cond (is_shaped k b w) (cond (is_whole k b w) (Ok (word w k.held)) (Err Damaged)) (Err BadShape)

-- ---- pop

-- the lowest bucket as a pop finds it: whether it passes the tests, and what was read of it, good or not. next is its head's
pub record Lowest : Type 0 where
  pub good : Bool
  pub rank : ℕ
  pub head : ℕ
  pub tail : ℕ
  pub next : ℕ

-- one that is good, as the code hands it on
abbrev pub found_low : Bucket → Lowest
found_low x = record { good = true; rank = x.rank; head = x.head; tail = x.tail; next = x.next }

-- the bucket of rank r as a pop finds it
abbrev pub lowest_in : Lay → List ℕ → ℕ → Lowest
lowest_in k w r =
    record {
      good = pop_ok k.nodes (word w (head_at k r)) (word w (tail_at k r)) (next_of k w (word w (head_at k r))) (next_of k w (word w (tail_at k r)));
      rank = r;
      head = word w (head_at k r);
      tail = word w (tail_at k r);
      next = next_of k w (word w (head_at k r));
    }

-- where the bits lead to no rank, none
abbrev pub no_lowest : Lowest
no_lowest = record { good = false; rank = 0; head = 0; tail = 0; next = 0 }

unfoldable pub lowest_of : Lay → List ℕ → List ℕ → Lowest
lowest_of k b w = cond (lowest_open k b) (lowest_in k w (lowest_rank k b)) no_lowest

-- the tail of a bucket once its head is gone, whose next was this
unfoldable pub tail_left : ℕ → ℕ → ℕ
tail_left next tail = cond (eqb next 0) 0 tail

-- "Pop takes the head of the lowest rank. The freed node gets tag 0 and becomes first in the free chain"; length 0 too
abbrev pub takes : Lay → List ℕ → Lowest → List (ℕ × ℕ)
takes k w low =
    (head_at k low.rank, low.next)
    ∷ (tail_at k low.rank, tail_left low.next low.tail)
    ∷ (load_writes k.stem low.head no_load ++ (next_at k low.head, word w k.free) ∷ (k.free, low.head) ∷ (k.held, word w k.held - 1) ∷ [])

unfoldable pub taken_words : Lay → List ℕ → Lowest → List ℕ
taken_words k w low = write w (takes k w low)

unfoldable pub taken_bits : Lay → List ℕ → Lowest → List ℕ
taken_bits k b low = cond (eqb low.next 0) (signalled false k b low.rank) b

-- the element that the pop gives
abbrev pub given : Lay → List ℕ → Lowest → Element
given k w low = loaded low.rank (load_in k.stem w low.head)

unfoldable pub pop_found : Lay → List ℕ → List ℕ → Lowest → Outcome
pop_found k b w low =
    cond low.good (outcome (Ok (Some (given k w low))) (taken_bits k b low) (taken_words k w low)) (refused Damaged b w)

-- what gives the lowest asks for a whole queue, 2, and then for something held, 6
abbrev pub giving : Lay → List ℕ → List ℕ → Outcome → Outcome
giving k b w o = cond (is_whole k b w) (cond (not (eqb (word w k.held) 0)) o (refused Empty b w)) (refused Damaged b w)

-- "For the bucket queue: 1, 4, 2, then 5 or 6"
unfoldable pub popped : Lay → List ℕ → List ℕ → Outcome
popped k b w = cond (is_shaped k b w) (giving k b w (pop_found k b w (lowest_of k b w))) (refused BadShape b w)

-- ---- push

-- what a push reads, where so many nodes of the pool are in use
abbrev pub reads_of : Lay → ℕ → List ℕ → List ℕ → ℕ → Reads
reads_of k used b w r =
    record {
      held = used;
      agrees = rank_agrees k b r (eqb (word w (head_at k r)) 0);
      head = word w (head_at k r);
      tail = word w (tail_at k r);
      behind = next_of k w (word w (tail_at k r));
      free = word w k.free;
      next = next_of k w (word w k.free);
    }

-- the bucket that a push joins: whether it passes the tests, its tail, and the next of the node taken
pub record Room : Type 0 where
  pub good : Bool
  pub tail : ℕ
  pub next : ℕ

-- one that is good
abbrev pub found_room : Spot → Room
found_room x = record { good = true; tail = x.tail; next = x.next }

-- the bucket that it joins
unfoldable pub room_with : Lay → ℕ → List ℕ → List ℕ → ℕ → Room
room_with k used b w r =
    record {
      good = push_ok k.nodes (reads_of k used b w r);
      tail = word w (tail_at k r);
      next = next_of k w (word w k.free);
    }

-- .. of a queue that has the pool for itself: what it holds is in use
abbrev pub room_of : Lay → List ℕ → List ℕ → ℕ → Room
room_of k b w r = room_with k (word w k.held) b w r

-- where the link to a newcomer stands: the head of an empty bucket, or the next of its tail
unfoldable pub link_at : Lay → ℕ → ℕ → ℕ
link_at k r tail = cond (eqb tail 0) (head_at k r) (next_at k tail)

-- "Push takes the node at the free link and joins it behind the tail"
abbrev pub joins : Lay → List ℕ → Element → Room → List (ℕ × ℕ)
joins k w e to =
    let free = word w k.free in
    (k.free, to.next)
    ∷ (load_writes k.stem free (load_of e) ++ (next_at k free, 0) ∷ (link_at k e.rank.0 to.tail, free) ∷ (tail_at k e.rank.0, free) ∷ (k.held, word w k.held + 1) ∷ [])

unfoldable pub joined_words : Lay → List ℕ → Element → Room → List ℕ
joined_words k w e to = write w (joins k w e to)

unfoldable pub joined_bits : Lay → List ℕ → Element → Room → List ℕ
joined_bits k b e to = cond (eqb to.tail 0) (signalled true k b e.rank.0) b

unfoldable pub push_found : Lay → List ℕ → List ℕ → Element → Room → Outcome
push_found k b w e to =
    cond to.good (outcome (Ok None) (joined_bits k b e to) (joined_words k w e to)) (refused Damaged b w)

-- what takes an element in asks for its rank, 4, and then for its tag: 7 "comes after 4 in the bucket queue" (02 [1])
abbrev pub taking : Lay → List ℕ → List ℕ → Element → Outcome → Outcome
taking k b w e o = cond (ltb e.rank.0 k.ranks) (cond (not (untagged e)) o (refused NoTag b w)) (refused BadRank b w)

unfoldable pub pushed : Lay → List ℕ → List ℕ → Element → Outcome
pushed k b w e =
    cond (is_shaped k b w)
    (taking k b w e
    (cond (is_whole k b w)
    (cond (not (eqb (word w k.held) k.nodes)) (push_found k b w e (room_of k b w e.rank.0)) (refused Full b w))
    (refused Damaged b w)))
    (refused BadShape b w)

-- ---- replace: "a replace is a pop and then a push"

-- "all the push's on the store as after the pop": the bucket, with the tests of the whole queue once more
unfoldable pub room_after : Lay → List ℕ → List ℕ → ℕ → Room
room_after k b w r =
    record {
      good = is_whole k b w && (room_of k b w r).good;
      tail = (room_of k b w r).tail;
      next = (room_of k b w r).next;
    }

-- the pop's answer, and what the push leaves of the store as after the pop: ".. and writes only if all hold"
unfoldable pub replace_joined : Lay → List ℕ → List ℕ → Element → Lowest → Room → Outcome
replace_joined k b w e low to =
    cond to.good
    (outcome (Ok (Some (given k w low))) (joined_bits k (taken_bits k b low) e to) (joined_words k (taken_words k w low) e to))
    (refused Damaged b w)

-- "otherwise the lowest held element is answered, even if the new rank is lower": the pop's tests first
unfoldable pub replace_found : Lay → List ℕ → List ℕ → Element → Lowest → Outcome
replace_found k b w e low =
    cond low.good (replace_joined k b w e low (room_after k (taken_bits k b low) (taken_words k w low) e.rank.0)) (refused Damaged b w)

-- "an empty queue refuses replace with 6"; "The order of checks puts replace's 6 with pop's"
unfoldable pub replaced : Lay → List ℕ → List ℕ → Element → Outcome
replaced k b w e =
    cond (is_shaped k b w)
    (taking k b w e (giving k b w (replace_found k b w e (lowest_of k b w))))
    (refused BadShape b w)
