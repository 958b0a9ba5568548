-- A pop's words, and a push's that takes the freed node: the free chain and the held count end as they were.
use Rattle.laws.specs.Prelude.{Element, List, [], ◌++◌, ◌+◌, ◌-◌, ◌<◌, ◌∙◌, ◌∷◌, ◌≡◌, ◌≤◌, ap, arith, length, set, set_comm, set-get_or, set-set, sym, ℕ}
use Rattle.bucket_model.specs.Prelude.{Laid, head_at, joined_words, link_at, load_of, load_writes, next_at, no_load, store_words, tail_at, tail_left, taken_words, word, write}
use Rattle.bucket_model.specs.Layout.{Lay}
use Rattle.bucket_model.specs.Calls.{Lowest, Room}
use Rattle.bucket_model.proofs.Load.{load-misses, load-over}
use Rattle.bucket_model.proofs.Writes.{Misses, other, write-other, write-past}
use Rattle.bucket_model.proofs.Taken.{free-after, held_after}
use Rattle.bucket_model.proofs.Joined.{link<}

module _ (k : Lay) (laid : Laid k) (w : List ℕ) (low : Lowest) (e : Element) (to : Room) (long : store_words k ≤ length w) (held> : 1 ≤ word w k.held) (h≤ : low.head ≤ k.nodes)
    (r< : low.rank < k.ranks) (s< : e.rank.0 < k.ranks) (t≤ : to.tail ≤ k.nodes) (next : to.next ≡ word w k.free) where
  abbrev next_own : ℕ
  next_own = next_at k low.head

  abbrev link : ℕ
  link = link_at k e.rank.0 to.tail

  abbrev tail_own : ℕ
  tail_own = tail_at k e.rank.0

  -- the ends of the bucket that is taken from
  abbrev w2 : List ℕ
  w2 = write w ((head_at k low.rank, low.next) ∷ (tail_at k low.rank, tail_left low.next low.tail) ∷ [])

  abbrev blank : List ℕ
  blank = write w2 (load_writes k.stem low.head no_load)

  abbrev laden : List ℕ
  laden = write w2 (load_writes k.stem low.head (load_of e))

  -- the writes behind the load
  abbrev links : List (ℕ × ℕ)
  links = (next_own, 0) ∷ (link, low.head) ∷ (tail_own, low.head) ∷ []

  free_other : word blank k.free ≡ word w k.free
  free_other =
      write-other w2 (load_writes k.stem low.head no_load) k.free (load-misses k.stem low.head no_load k.free (λ i i< p. omega (arith, laid.pool)))
      ∙ write-other w ((head_at k low.rank, low.next) ∷ (tail_at k low.rank, tail_left low.next low.tail) ∷ []) k.free ((λ p. omega (arith, laid.lists, laid.pool)), ((λ p. omega (arith, laid.lists, laid.pool)), tt))

  -- what the push writes, by what stood before the pop
  push-writes : joined_words k (taken_words k w low) e to
      ≡ write (taken_words k w low) ((k.free, word w k.free) ∷ (load_writes k.stem low.head (load_of e) ++ (next_own, 0) ∷ (link, low.head) ∷ (tail_own, low.head) ∷ (k.held, word w k.held) ∷ []))
  unfolding joined_words
  push-writes =
      let f : word (taken_words k w low) k.free ≡ low.head = free-after k laid w low long in
      let h : word (taken_words k w low) k.held + 1 ≡ word w k.held = omega (arith, held_after k laid w low long) in
      λ i. write (taken_words k w low) ((k.free, next i) ∷ (load_writes k.stem (f i) (load_of e) ++ (next_at k (f i), 0) ∷ (link, f i) ∷ (tail_own, f i) ∷ (k.held, h i) ∷ []))

  -- the free link written back
  free_back : set (taken_words k w low) k.free (word w k.free) ≡ set (set blank next_own (word w k.free)) k.held (word w k.held - 1)
  unfolding taken_words
  free_back =
      let f = word w k.free in
      let s = set blank next_own f in
      let at : word s k.free ≡ f = other blank next_own f k.free (λ p. omega (arith, laid.pool)) ∙ free_other in
      set_comm (set s k.free low.head) k.held k.free (word w k.held - 1) f (λ p. omega (arith, laid.held))
      ∙ ap (λ (x : List ℕ). set x k.held (word w k.held - 1)) (set-set s k.free low.head f ∙ ap (set s k.free) (sym at) ∙ set-get_or s k.free 0)

  abbrev load : List (ℕ × ℕ)
  load = load_writes k.stem low.head (load_of e)

  -- the new load over the blank one
  over : (f h : ℕ) → write (set (set blank next_own f) k.held h) (load_writes k.stem low.head (load_of e)) ≡ set (set laden next_own f) k.held h
  over f h =
      write-past (set blank next_own f) k.held h load (load-misses k.stem low.head (load_of e) k.held (λ i i< p. omega (arith, laid.pool, laid.held)))
      ∙ ap (λ (x : List ℕ). set x k.held h)
      (write-past blank next_own f load (load-misses k.stem low.head (load_of e) next_own (λ i i< p. omega arith))
      ∙ ap (λ (x : List ℕ). set x next_own f) (load-over k.stem w2 low.head no_load (load_of e)))

  held-apart : Misses k.held links
  held-apart =
      let l = link< k laid e.rank.0 to.tail s< t≤ in
      ((λ p. omega (arith, laid.pool, laid.held)), ((λ p. omega (arith, laid.held)), ((λ p. omega (arith, laid.lists, laid.pool, laid.held)), tt)))

  held-stands : word (write laden links) k.held ≡ word w k.held
  held-stands =
      write-other laden links k.held held-apart
      ∙ write-other w2 load k.held (load-misses k.stem low.head (load_of e) k.held (λ i i< p. omega (arith, laid.pool, laid.held)))
      ∙ write-other w ((head_at k low.rank, low.next) ∷ (tail_at k low.rank, tail_left low.next low.tail) ∷ []) k.held ((λ p. omega (arith, laid.lists, laid.pool, laid.held)), ((λ p. omega (arith, laid.lists, laid.pool, laid.held)), tt))

  -- the ends of the bucket taken from, the node with its new load, and the links to it
  pub swapped : joined_words k (taken_words k w low) e to ≡ write laden links
  swapped =
      let f = word w k.free in
      let h = word w k.held in
      push-writes
      ∙ ap (λ (x : List ℕ). set (write (write x load) links) k.held h) free_back
      ∙ ap (λ (x : List ℕ). set (write x links) k.held h) (over f (h - 1))
      ∙ ap (λ (x : List ℕ). set x k.held h) (write-past (set laden next_own f) k.held (h - 1) links held-apart)
      ∙ set-set (write (set laden next_own f) links) k.held (h - 1) h
      ∙ ap (λ (x : List ℕ). set (write x ((link, low.head) ∷ (tail_own, low.head) ∷ [])) k.held h) (set-set laden next_own f 0)
      ∙ ap (set (write laden links) k.held) (sym held-stands)
      ∙ set-get_or (write laden links) k.held 0
