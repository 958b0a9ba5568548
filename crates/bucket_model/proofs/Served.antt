-- What goes in and out and what is least, in 01's numbers: by the number of an answer, its rank, its tag and its length.
use Rattle.laws.specs.Prelude.{All, Answer, Bool, Element, Idle, List, Pop, Push, Replace, Request, [], ◌+◌, ◌∙◌, ◌∷◌, ◌≡◌, ◌≤◌, ap, arith, cond, count_number, count_of, false, le-ltb, length, ltb, means-off, number_of, rank_of, refl, suc, sym, true, untagged, zero, ℕ, Result, Refusal, Ok, None, Some, Err}
use Rattle.promise.proofs.Kept.{none-moved}
use Rattle.promise.specs.Queue as served
use Rattle.promise.specs.Prelude.{Barred, IsOut, Least, Tagged, all-sum, brought, given, hit, lower, tagged-by, untagged-means}
use Rattle.promise.specs.Served as said
use Rattle.bucket_model.specs.Prelude.{Call, Laid, Reached, Said, Shaped, Step, Store, answered, ask, asked, brings, bucket_queue, called, came, counted, held, held_count, if_done, plain, plain_with, says, start, step, store, stored, stored_by, times}
use Rattle.bucket_model.specs.Layout.{Lay}
use Rattle.bucket_model.specs.Plain as listed
use Rattle.bucket_model.proofs.Kind.{kind, barred}
use Rattle.bucket_model.proofs.Sorted.{Does, plain-either, times-append, times-insert}
use Rattle.bucket_model.proofs.Queue.{alone, Holds}
use Rattle.bucket_model.proofs.Runs.{stored_is, calls, Agree}
use Rattle.bucket_model.proofs.Promises.{start-holds, reached-holds, least, holds}
use Rattle.bucket_model.proofs.Replace.{replace-answers}

abbrev pub answer_of : Said → Answer
answer_of (answered a) = a
answer_of (counted c) = Ok None

hit-is : (t : Bool) → cond t 1 0 ≡ hit t
hit-is true = refl
hit-is false = refl

-- ---- on the plain list, call by call

abbrev pub Sums : List Element → (Element → Bool) → Request → Step (List Element) → Type 0
Sums l f q x = times f x.next + given q (answer_of x.said) f ≡ times f l + brought q (answer_of x.said) f

pub sums : (ranks : ℕ) (room : Bool) (q : Request) (l : List Element) (f : Element → Bool) → Sums l f q (plain_with ranks room (ask q) l)
unfolding times
sums ranks room q l f = plain-either ranks room (ask q) l (Sums l f q) (λ x n. none-moved q x (times f l) f) (go q)
  where
    go : (q : Request) → Does (ask q) l (Sums l f q)
    go Idle = refl
    go (Push e) = omega (arith, times-insert f e l, hit-is (f e))
    go Pop = λ x m i. rw i (omega (arith, hit-is (f x)))
    go (Replace e) = λ x m i. rw i (omega (arith, times-insert f e m, hit-is (f e), hit-is (f x)))

-- ---- an element without a tag

none_in : (e : Element) (n : ℕ) → (e.tag.0 ≡ 0 → n ≡ 0 → ⊥) → times untagged (if_done n e) ≡ 0
unfolding times
none_in e zero b = rw (means-off (untagged-means e) (λ u. b u refl)) refl
none_in e (suc n) b = refl

pub none-brings : (q : Request) (a : Answer) → Barred q a → times untagged (brings q a) ≡ 0
unfolding times
none-brings Idle a b = refl
none-brings (Push e) a b = none_in e (number_of a) b
none-brings Pop a b = refl
none-brings (Replace e) a b = none_in e (number_of a) b

pub none-lower : (r : ℕ) (l : List Element) → All (λ y. r ≤ y.rank.0) l → times (lower r) l ≡ 0
unfolding times
none-lower r [] a = refl
none-lower r (y ∷ l) a = rw (le-ltb y.rank.0 r a.0) (omega (arith, none-lower r l a.1))

-- an answer that is an element has its rank
pub least-out : (many : (Element → Bool) → ℕ) (a : Answer) → IsOut a → ((x : Element) → a ≡ Ok (Some x) → many (lower x.rank.0) ≡ 0) → many (lower (rank_of a)) ≡ 0
least-out many (Ok None) o f = absurd o
least-out many (Ok (Some x)) o f = f x refl
least-out many (Err r) o f = absurd o

-- ---- on the words

module _ (k : Lay) (laid : Laid k) where
  abbrev Kept : Store → Type 0
  Kept s = (l : List Element) × Holds k laid s.bits s.words l

  runs : (q : Request) (s : Store) (l : List Element) (h : Holds k laid s.bits s.words l) → Agree k laid (step (answered (asked k q s).answer) (store (asked k q s).bits (asked k q s).words)) (plain k (ask q) l)
  unfolding called
  runs q s l h = calls k laid s l h (ask q)

  keep : (q : Request) (s : Store) → Kept s → Kept (bucket_queue k q s).next
  keep q s x = ((plain k (ask q) x.0).next, (runs q s x.0 x.1).holds)

  sum : (q : Request) (s : Store) → Kept s → (f : Element → Bool) → stored_by k (bucket_queue k q s).next f + given q (bucket_queue k q s).said f ≡ stored_by k s f + brought q (bucket_queue k q s).said f
  sum q s x f =
      let l = x.0 in
      let a = runs q s l x.1 in
      let e : (asked k q s).answer ≡ answer_of (plain k (ask q) l).said = ap answer_of a.alike in
      rw (stored_is k (alone k laid) 0 _ _ _ a.holds, stored_is k (alone k laid) 0 s.bits s.words l x.1, e) (sums k.ranks (ltb (length l) k.nodes) q l f)

  -- HOLDS: from clear on slices long enough, whatever was in them, for any list of requests
  pub served-holds : (b w : List ℕ) → Shaped k b w → (qs : List Request) → said.Holds (stored_by k (served.leaves (bucket_queue k) qs (start k b w))) qs (served.answers (bucket_queue k) qs (start k b w))
  unfolding times
  served-holds b w h qs f =
      let z = start-holds k laid b w h in
      let none : times f (stored k (start k b w).words) ≡ 0 = ap (times f) (stored_is k (alone k laid) 0 (start k b w).bits (start k b w).words [] z) in
      omega (arith, all-sum (bucket_queue k) Kept keep (stored_by k) sum qs (start k b w) ([], z) f)

  -- TAGGED: no element of tag 0 is stored, and none has come out
  pub served-tagged : (b w : List ℕ) → Shaped k b w → (qs : List Request) → Tagged (stored_by k (served.leaves (bucket_queue k) qs (start k b w))) qs (served.answers (bucket_queue k) qs (start k b w))
  served-tagged b w h qs = tagged-by (bucket_queue k) (barred k) (stored_by k (served.leaves (bucket_queue k) qs (start k b w))) qs (start k b w) (served-holds b w h qs)

  -- .. with held among the calls too, on a store that the queue's own calls lead to
  none_came : (c : Call) (s : Store) → times untagged (came c (called k c s).said) ≡ 0
  unfolding called times
  none_came (ask q) s = none-brings q (asked k q s).answer (barred k q s)
  none_came held s = refl

  never-came : (cs : List Call) (s : Store) → times untagged (listed.brought cs (says k cs s)) ≡ 0
  unfolding says listed.brought times
  never-came [] s = refl
  never-came (c ∷ cs) s =
      rw (times-append untagged (came c (called k c s).said) (listed.brought cs (says k cs (called k c s).next)))
      (omega (arith, none_came c s, never-came cs (called k c s).next))

  pub tagged-reached : (s : Store) → Reached k s → stored_by k s untagged ≡ 0
  tagged-reached s r =
      rw r.is (omega (arith, holds k laid r.bits r.words r.shaped r.calls untagged, never-came r.calls (start k r.bits r.words)))

  -- ---- LEAST, on a store that the queue's own calls lead to

  pub served-least : (s : Store) → Reached k s → (q : Request) → Least (stored_by k s) q (asked k q s).answer
  served-least s h Idle = tt
  served-least s h (Push e) = tt
  served-least s h Pop = λ n. least-out (stored_by k s) (asked k Pop s).answer (kind k Pop s n) (λ x p. none-lower x.rank.0 (stored k s.words) (least k laid s x h p).lowest)
  served-least s h (Replace e) = λ n.
      least-out (stored_by k s) (asked k (Replace e) s).answer (kind k (Replace e) s n) (λ x p. none-lower x.rank.0 (stored k s.words) (least k laid s x h (replace-answers k s e x p)).lowest)

  -- held says how many are held: number 0, and so many
  counted_same : (c d : Result ℕ Refusal) → counted c ≡ counted d → c ≡ d
  counted_same c d e = cc

  pub held-says : (s : Store) → Reached k s → (count_number (held_count k s.bits s.words) ≡ 0) × (count_of (held_count k s.bits s.words) ≡ length (stored k s.words))
  unfolding called plain_with
  held-says s r =
      let y = reached-holds k laid s r in
      let e : held_count k s.bits s.words ≡ Ok (length y.0) = counted_same _ _ (calls k laid s y.0 y.2 held).alike in
      (ap count_number e, ap count_of e ∙ ap length (sym (stored_is k (alone k laid) 0 s.bits s.words y.0 y.2)))
