-- What the bucket queue promises, wherever its words are laid out and however many storeys it has.
use Rattle.laws.specs.Prelude.{All, Bool, Element, Empty, Idle, List, Pop, Push, Replace, [], ◌++◌, ◌+◌, ◌<◌, ◌∙◌, ◌∷◌, ◌≡◌, ap, arith, false, length, ltb, means-off, subst, sym, untagged, ℕ, Ok, None, Some, Err}
use Rattle.promise.specs.Prelude.{Untagged, untagged-means}
use Rattle.bucket_model.specs.Prelude.{Call, FirstOut, Laid, Outcome, Reached, Reused, Shaped, Sorted, Store, after, answered, ask, asked, brought, called, gone, head_at, held, joined_bits, joined_words, lowest_of, of_rank, outcome, plain, plain_after, plain_says, plain_with, popped, queue, room_of, said_number, says, start, store, stored, tail_at, taken_bits, taken_words, times, word}
use Rattle.bucket_model.specs.Layout.{Lay}
use Rattle.bucket_model.specs.Calls.{Lowest}
use Rattle.bucket_model.proofs.Sorted.{Does, plain-either, Through, through}
use Rattle.bucket_model.proofs.Facts.{pop-means, pop-way, low-is}
use Rattle.bucket_model.proofs.Taken.{free-after}
use Rattle.bucket_model.proofs.Joined.{joined-tail}
use Rattle.bucket_model.proofs.Queue.{alone, Holds, laid_of}
use Rattle.bucket_model.proofs.Pop.{Popped, pops}
use Rattle.bucket_model.proofs.Push.{pushes}
use Rattle.bucket_model.proofs.Clear.{clear-holds, clear-done}
use Rattle.bucket_model.proofs.Runs.{stored_is, empty-list, calls, says-alike, after_holds, pop-is, push-is, room-again}

-- a queue of its own store is laid out as every law here counts on, whatever its depth and its nodes: what is promised below is promised of `queue d n` wherever it is shaped
pub queue-laid : (d n : ℕ) (b w : List ℕ) → Shaped (queue d n) b w → Laid (queue d n)
queue-laid d n b w h = laid_of d n (omega (arith, h.two))

-- ---- the plain list is never damaged

pub plain-sane : (ranks : ℕ) (room : Bool) (c : Call) (l : List Element) → said_number (plain_with ranks room c l).said ≡ 2 → ⊥
plain-sane ranks room c l = plain-either ranks room c l (λ x. said_number x.said ≡ 2 → ⊥) (λ x n. n) (go c)
  where
    go : (c : Call) → Does c l (λ x. said_number x.said ≡ 2 → ⊥)
    go (ask Idle) = λ e. omega arith
    go (ask (Push x)) = λ e. omega arith
    go (ask Pop) = λ x m i e. omega arith
    go (ask (Replace x)) = λ y m i e. omega arith
    go held = λ e. omega arith

plain-undamaged : (k : Lay) (cs : List Call) (l : List Element) → All (λ s. said_number s ≡ 2 → ⊥) (plain_says k cs l)
unfolding plain_says
plain-undamaged k [] l = tt
plain-undamaged k (c ∷ cs) l = (plain-sane k.ranks (ltb (length l) k.nodes) c l, plain-undamaged k cs (plain k c l).next)

module _ (k : Lay) (laid : Laid k) where
  pub start-holds : (b w : List ℕ) → Shaped k b w → Holds k laid (start k b w).bits (start k b w).words []
  start-holds b w h = rw (clear-done k laid b w h) (clear-holds k laid b w h)

  -- ---- from clear on slices long enough, whatever was in them, for any list of calls

  module _ (b w : List ℕ) (shaped : Shaped k b w) (cs : List Call) where
    -- the answers are those of the plain list in leaving order
    pub answers : says k cs (start k b w) ≡ plain_says k cs []
    answers = says-alike k laid cs (start k b w) [] (start-holds b w shaped)

    -- what the store holds then is that list
    pub keeps : stored k (after k cs (start k b w)).words ≡ plain_after k cs []
    keeps = stored_is k (alone k laid) 0 (after k cs (start k b w)).bits (after k cs (start k b w)).words (plain_after k cs []) (after_holds k laid cs (start k b w) [] (start-holds b w shaped))

    whole_run : Through cs (says k cs (start k b w)) [] (stored k (after k cs (start k b w)).words)
    whole_run = rw (answers, keeps) (through k cs [] tt)

    -- it stands in leaving order
    pub in_order : Sorted (stored k (after k cs (start k b w)).words)
    in_order = whole_run.sorted

    -- of each rank, what came in is what went out and then what is held, in this order; by 01's numbers
    pub fifo : (r : ℕ) → of_rank r (brought cs (says k cs (start k b w))) ≡ of_rank r (gone cs (says k cs (start k b w))) ++ of_rank r (stored k (after k cs (start k b w)).words)
    unfolding of_rank
    fifo r = whole_run.fifo r

    -- every element is in the store as often as it went in and has not come out: so many pass any test
    pub holds : (f : Element → Bool) → times f (brought cs (says k cs (start k b w))) ≡ times f (gone cs (says k cs (start k b w))) + times f (stored k (after k cs (start k b w)).words)
    unfolding times
    holds f = omega (arith, whole_run.holds f)

    -- nothing is damaged: no call is refused 2
    pub undamaged : All (λ s. said_number s ≡ 2 → ⊥) (says k cs (start k b w))
    undamaged = subst (All (λ s. said_number s ≡ 2 → ⊥)) (sym answers) (plain-undamaged k cs [])

  -- ---- a store that the queue's own calls lead to holds what the plain list then has

  pub reached-holds : (s : Store) → Reached k s → (l : List Element) × Sorted l × Holds k laid s.bits s.words l
  reached-holds s r = (
    plain_after k r.calls [],
    (through k r.calls [] tt).sorted,
    subst (λ (s : Store). Holds k laid s.bits s.words (plain_after k r.calls [])) (sym r.is) (after_holds k laid r.calls (start k r.bits r.words) [] (start-holds r.bits r.words r.shaped)),
  )

  -- a pop that gives x was of a store that holds x first
  module _ (s : Store) (x : Element) (l : List Element) (h : Holds k laid s.bits s.words l) (a : (asked k Pop s).answer ≡ Ok (Some x)) where
    pop-some : word s.words k.held ≡ 0 → ⊥
    unfolding called plain_with
    pop-some z =
        let p : answered (asked k Pop s).answer ≡ answered (Err Empty) = subst (λ (l : List Element). (h : Holds k laid s.bits s.words l) → answered (asked k Pop s).answer ≡ (plain k (ask Pop) l).said) (empty-list k laid s l h z) (λ h. (calls k laid s l h (ask Pop)).alike) (subst (Holds k laid s.bits s.words) (empty-list k laid s l h z) h) in
        let y : ◌≡◌ {A = ℕ} 0 1 = cc in
        omega arith

    pop-gives : (y : Element) (l' : List Element) → Popped k (alone k laid) 0 s.bits s.words l h y l' → y ≡ x
    unfolding asked
    pop-gives y l' p = let e : Ok (Some y) ≡ Ok (Some x) = sym (ap (λ (o : Outcome). o.answer) (pop-is k laid s l h pop-some y l' p)) ∙ a in cc

  -- what a pop gives
  pub least : (s : Store) (x : Element) → Reached k s → (asked k Pop s).answer ≡ Ok (Some x) → FirstOut k s x
  unfolding asked
  least s x r a = go (reached-holds s r).0 (reached-holds s r).1 (reached-holds s r).2
    where
      go : (l : List Element) → Sorted l → Holds k laid s.bits s.words l → FirstOut k s x
      go l o h = first (pops k (alone k laid) 0 s.bits s.words l h (pop-some s x l h a))
        where
          first : (y : Element) × (l' : List Element) × Popped k (alone k laid) 0 s.bits s.words l h y l' → FirstOut k s x
          first z =
              let y = z.0 in
              let l' = z.1 in
              let p = z.2 in
              let e = pop-gives s x l h a y l' p in
              let q : l ≡ x ∷ l' = p.list ∙ ap (λ (y : Element). y ∷ l') e in
              let m : stored k (asked k Pop s).words ≡ l' = ap (λ (o : Outcome). stored k o.words) (pop-is k laid s l h (pop-some s x l h a) y l' p) ∙ stored_is k (alone k laid) 0 _ _ l' p.after in
              record {
                first = stored_is k (alone k laid) 0 s.bits s.words l h ∙ q ∙ ap (λ (m : List Element). x ∷ m) (sym m);
                lowest = rw (stored_is k (alone k laid) 0 s.bits s.words l h, q) (omega arith, (subst Sorted q o).0);
              }

  -- ---- "The freed node .. becomes first in the free chain, so freed room is used at once"

  module _ (s : Store) (l : List Element) (h : Holds k laid s.bits s.words l) (some : word s.words k.held ≡ 0 → ⊥) (x : Element) (l' : List Element)
      (p : Popped k (alone k laid) 0 s.bits s.words l h x l') (e : Element) (r< : e.rank.0 < k.ranks) (t : untagged e ≡ false) where
    abbrev b1 : List ℕ
    b1 = taken_bits k s.bits (lowest_of k s.bits s.words)

    abbrev w1 : List ℕ
    w1 = taken_words k s.words (lowest_of k s.bits s.words)

    freed : word w1 k.free ≡ word s.words (head_at k x.rank.0)
    freed =
        let g = (pop-means k s.bits s.words).holds p.fit in
        free-after k laid s.words (lowest_of k s.bits s.words) h.shaped.words
        ∙ ap (λ (y : Lowest). y.head) (low-is k s.bits s.words (pop-way k s.bits s.words g))
        ∙ ap (λ (i : ℕ). word s.words (head_at k i)) (sym p.lowest)

    again : word w1 k.held ≡ k.nodes → ⊥
    again = room-again k laid s l h some x l' p e r<

    pushed-on : asked k (Push e) (store b1 w1) ≡ outcome (Ok None) (joined_bits k b1 e (room_of k b1 w1 e.rank.0)) (joined_words k w1 e (room_of k b1 w1 e.rank.0))
    unfolding asked
    pushed-on = push-is k laid (store b1 w1) l' p.after e r< t again (pushes k (alone k laid) 0 b1 w1 l' p.after e r< (word w1 k.held) (omega (arith, p.after.held)) again)

    reused : Reused k s (store b1 w1) x e
    reused =
        record {
          free = freed;
          taken = ap (λ (o : Outcome). o.answer) pushed-on;
          node = ap (λ (o : Outcome). word o.words (tail_at k e.rank.0)) pushed-on ∙ joined-tail k laid w1 e (room_of k b1 w1 e.rank.0) r< p.after.shaped.words ∙ freed;
        }

  pub reuse : (s : Store) (x e : Element) → Reached k s → (asked k Pop s).answer ≡ Ok (Some x) → e.rank.0 < k.ranks → (Untagged (Push e) → ⊥) → Reused k s (store (asked k Pop s).bits (asked k Pop s).words) x e
  unfolding asked
  reuse s x e r a r< t = go (reached-holds s r).0 (reached-holds s r).2
    where
      go : (l : List Element) → Holds k laid s.bits s.words l → Reused k s (store (popped k s.bits s.words).bits (popped k s.bits s.words).words) x e
      go l h = some (pops k (alone k laid) 0 s.bits s.words l h (pop-some s x l h a))
        where
          some : (y : Element) × (l' : List Element) × Popped k (alone k laid) 0 s.bits s.words l h y l' → Reused k s (store (popped k s.bits s.words).bits (popped k s.bits s.words).words) x e
          some z =
              let held = pop-some s x l h a in
              rw (← pop-gives s x l h a z.0 z.1 z.2, pop-is k laid s l h held z.0 z.1 z.2) (reused s l h held z.0 z.1 z.2 e r< (means-off (untagged-means e) t))
