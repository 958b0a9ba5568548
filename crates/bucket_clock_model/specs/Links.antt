-- The bucket stage on the words: the writes of one at a time, but for the held count, which changes in the request's own cycle. These are definitions.
use Rattle.std.specs.Prelude.{◌&&◌, ◌++◌, ◌∷◌}
use Rattle.laws.specs.Prelude.{Bool, Bool·beq, Element, List, Request, [], eqb, false, leb, ltb, not, true, ℕ}
use Rattle.bucket_model.specs.Prelude.{head_at, link_at, load_in, load_of, load_writes, loaded, lowest_in, next_at, next_of, no_load, tail_at, tail_left, word, write}
use Rattle.bucket_model.specs.declared.Lay.{Lay}
use Rattle.std.specs.Prelude.{Option}
use Rattle.std.specs.Prelude.{None, Some}
use Rattle.bucket_clock_model.specs.Lists.{newcomer, takes}

-- "the head of the rank that the way names leaves; its node is freed, as one at a time"
abbrev pub take_writes : Lay → List ℕ → ℕ → List (ℕ × ℕ)
take_writes k w r =
    let low = lowest_in k w r in
    (head_at k r, low.next)
    ∷ (tail_at k r, tail_left low.next low.tail)
    ∷ (load_writes k.stem low.head no_load ++ (next_at k low.head, word w k.free) ∷ (k.free, low.head) ∷ [])

unfoldable pub bucket_take : Lay → ℕ → List ℕ → List ℕ
bucket_take k r w = write w (take_writes k w r)

-- "x takes the node at the free link and is joined behind the tail of its rank, as one at a time"
abbrev pub put_writes : Lay → List ℕ → Element → List (ℕ × ℕ)
put_writes k w e =
    let free = word w k.free in
    (k.free, next_of k w free)
    ∷ (load_writes k.stem free (load_of e) ++ (next_at k free, 0) ∷ (link_at k e.rank.0 (word w (tail_at k e.rank.0)), free) ∷ (tail_at k e.rank.0, free) ∷ [])

unfoldable pub bucket_put : Lay → Element → List ℕ → List ℕ
bucket_put k e w = write w (put_writes k w e)

-- the stage, at a request that has come the way r
abbrev pub bucket_take_if : Lay → Bool → ℕ → List ℕ → List ℕ
bucket_take_if k true r w = bucket_take k r w
bucket_take_if k false r w = w

abbrev pub bucket_put_if : Lay → Option Element → List ℕ → List ℕ
bucket_put_if k None w = w
bucket_put_if k (Some x) w = bucket_put k x w

abbrev pub bucket_stage : Lay → Request → ℕ → List ℕ → List ℕ
bucket_stage k q r w = bucket_put_if k (newcomer q) (bucket_take_if k (takes q) r w)

-- what leaves, as it stands in the words
abbrev pub bucket_gives : Lay → ℕ → List ℕ → Element
bucket_gives k r w = loaded r (load_in k.stem w (word w (head_at k r)))

abbrev pub bucket_leaves : Lay → Bool → ℕ → List ℕ → Option Element
bucket_leaves k true r w = Some (bucket_gives k r w)
bucket_leaves k false r w = None

-- ---- the tests of the stage

-- D5, a pop: "the way is at least R; head or tail is 0; head, tail, head's next or free link is above N; the tail's next is not 0; the head's next is 0
-- and head is not tail, or not 0 and head is tail"
unfoldable pub bucket_take_ok : Lay → ℕ → List ℕ → Bool
bucket_take_ok k r w = ltb r k.ranks && leb (word w k.free) k.nodes && (lowest_in k w r).good

-- D4, a push: "x's rank is at least R; one of head and tail is 0 and the other not; head, tail or free link is above N; the free link is 0; the taken
-- node's next is above N; the tail's next is not 0; the taken node is the tail"
unfoldable pub bucket_put_ok : Lay → ℕ → List ℕ → Bool
bucket_put_ok k r w =
    let n = k.nodes in
    let head = word w (head_at k r) in
    let tail = word w (tail_at k r) in
    let free = word w k.free in
    ltb r k.ranks && Bool·beq (eqb head 0) (eqb tail 0) && leb head n && leb tail n && leb free n && not (eqb free 0)
    && leb (next_of k w free) n && eqb (next_of k w tail) 0 && not (eqb free tail)

abbrev pub bucket_take_if_ok : Lay → Bool → ℕ → List ℕ → Bool
bucket_take_if_ok k true r w = bucket_take_ok k r w
bucket_take_if_ok k false r w = true

abbrev pub bucket_put_if_ok : Lay → Option Element → List ℕ → Bool
bucket_put_if_ok k None w = true
bucket_put_if_ok k (Some x) w = bucket_put_ok k x.rank.0 w

unfoldable pub bucket_ok : Lay → Request → ℕ → List ℕ → Bool
bucket_ok k q r w = bucket_take_if_ok k (takes q) r w && bucket_put_if_ok k (newcomer q) (bucket_take_if k (takes q) r w)
