-- What the buckets' functions have read and written is what the rules read and write. Each law takes what a function has read as equations.
use Rattle.laws.specs.Prelude.{Bool, Bool·beq, Element, Idle, List, Pop, Push, Replace, Request, [], ◌&&◌, ◌++◌, ◌<◌, ◌∙◌, ◌∷◌, ◌≡◌, ◌≤◌, and-unit, ap, arith, eq-eqb, eqb, false, false≢true, le-leb, le-ltb, leb, length, lt-ltb, ltb, ne_eqb, not, refl, subst, sym, true, ℕ}
use Rattle.bucket_model.proofs.Laws.{free-after, head-else, head-own, next-else, next-own, tail-else, tail-own}
use Rattle.bucket_model.specs.declared.Bucket.{Bucket}
use Rattle.bucket_model.specs.declared.Lay.{Lay}
use Rattle.bucket_model.specs.Calls.{Lowest}
use Rattle.bucket_model.specs.Prelude.{Laid, head_at, link_at, load_in, load_of, load_writes, loaded, lowest_in, next_at, next_of, no_load, pop_ok, tail_at, tail_left, taken_words, word, write}
use Rattle.bucket_node.specs.Places.{Fits, Linkable, NodeOf}
use Rattle.bucket_clock_model.proofs.Damage.{bucket-means, bucket-take-means}
use Rattle.bucket_clock_model.proofs.Links.{But, low-words, take-but, take_long}
use Rattle.bucket_clock_model.proofs.StageReads.{next-same}
use Rattle.bucket_clock_model.specs.Damage.{BucketFit, BucketPutFit, BucketTakeFit}
use Rattle.std.specs.Option.{is_some}
use Rattle.std.specs.Prelude.{None, Option, Some}
use Rattle.bucket_clock_model.specs.declared.Waiting.{Waiting}
use Rattle.bucket_clock_model.specs.Links.{bucket_leaves, bucket_ok, bucket_put, bucket_put_ok, bucket_stage, bucket_take, bucket_take_ok}
use Rattle.bucket_clock_model.specs.Lists.{takes}
use Rattle.bucket_clock_step.specs.Buckets.{Found, Joins, Leaves, Seen}

-- ---- the bucket that a pop finds

module _ (k : Lay) (w : List ℕ) where
  pub take-far : (way : ℕ) → k.ranks ≤ way → bucket_take_ok k way w ≡ false
  unfolding bucket_take_ok
  take-far way h = rw (le-ltb way k.ranks h) refl

  module _ (way free behind : ℕ) (low : Bucket) (l : way < k.ranks) (s : Seen k w way low) (f : free ≡ word w k.free) (b : behind ≡ next_of k w low.tail) (t : Bool)
      (e : (leb free k.nodes && (not (eqb low.head 0) && not (eqb low.tail 0) && leb low.head k.nodes && leb low.tail k.nodes && leb low.next k.nodes && eqb behind 0 && Bool·beq (eqb low.next 0) (eqb low.head low.tail))) ≡ t) where
    pub take-is : bucket_take_ok k way w ≡ t
    unfolding bucket_take_ok pop_ok
    take-is = rw (lt-ltb way k.ranks l) ((λ i. leb (sym f i) k.nodes && pop_ok k.nodes (sym s.head i) (sym s.tail i) (sym s.next i) ((ap (next_of k w) (sym s.tail) ∙ sym b) i)) ∙ e)

  pub take-some : (o : Option Bucket) (way : ℕ) → Found k w way o → is_some o ≡ bucket_take_ok k way w
  take-some None way f = sym f
  take-some (Some low) way f = sym f.0

  -- one that passes the tests can leave
  pub leaves-of : (way : ℕ) (low : Bucket) → Fits k w → bucket_take_ok k way w ≡ true → Seen k w way low → Leaves k w low
  leaves-of way low fits t s =
      record {
        fits = fits;
        fit = subst (λ (i : ℕ). BucketTakeFit k i w) (sym s.rank) ((bucket-take-means k way w).says t);
        head = s.head ∙ ap (λ (i : ℕ). word w (head_at k i)) (sym s.rank);
        tail = s.tail ∙ ap (λ (i : ℕ). word w (tail_at k i)) (sym s.rank);
        next = s.next ∙ ap (λ (i : ℕ). next_of k w (word w (head_at k i))) (sym s.rank);
      }

  pub leaves-found : (way : ℕ) (low : Bucket) → Fits k w → Found k w way (Some low) → Leaves k w low
  leaves-found way low fits f = leaves-of way low fits f.0 f.1

  -- ---- the bucket that a push joins
  pub put-far : (r : ℕ) → k.ranks ≤ r → false ≡ bucket_put_ok k r w
  unfolding bucket_put_ok
  put-far r h = rw (le-ltb r k.ranks h) refl

  pub put_is : (r head tail free next behind : ℕ) → r < k.ranks → head ≡ word w (head_at k r) → tail ≡ word w (tail_at k r) → free ≡ word w k.free → next ≡ next_of k w free → behind ≡ next_of k w tail
      → (Bool·beq (eqb head 0) (eqb tail 0) && leb head k.nodes && leb tail k.nodes && leb free k.nodes && not (eqb free 0) && leb next k.nodes && eqb behind 0 && not (eqb free tail)) ≡ bucket_put_ok k r w
  unfolding bucket_put_ok
  put_is r head tail free next behind l p q f n b = rw (n, b, p, q, f, lt-ltb r k.ranks l) refl

-- ---- what stands after a pop that is not done yet

module _ (k : Lay) (w : List ℕ) (low : Bucket) (h : Leaves k w low) where
  laid : Laid k
  laid = h.fits.laid

  -- the bucket by the words, of which low is a copy
  abbrev own : Lowest
  own = lowest_in k w low.rank

  abbrev after : List ℕ
  after = bucket_take k low.rank w

  but : But k (bucket_take k low.rank w) (taken_words k w (lowest_in k w low.rank))
  but = take-but k laid w w (record { long = refl; words = λ a n. refl }) low.rank h.fit.within

  head> : 1 ≤ own.head
  head> = omega (arith, h.fit.head≢)

  at : (a : ℕ) → a < k.held → word after a ≡ word (taken_words k w own) a
  at a l = low-words k after (taken_words k w own) but a l

  pub head-here : (r : ℕ) → r ≡ low.rank → low.next ≡ word after (head_at k r)
  head-here r e =
      h.next ∙ sym (ap (λ (i : ℕ). word after (head_at k i)) e ∙ at (head_at k low.rank) (omega (arith, laid.lists, laid.pool, laid.held, h.fit.within))
      ∙ head-own k laid w own h.fits.words h.fit.within head> h.fit.head≤)

  pub head-stays : (r x : ℕ) → r < k.ranks → (r ≡ low.rank → ⊥) → x ≡ word w (head_at k r) → x ≡ word after (head_at k r)
  head-stays r x l n e =
      e ∙ sym (at (head_at k r) (omega (arith, laid.lists, laid.pool, laid.held)) ∙ head-else k laid w own h.fits.words h.fit.within head> h.fit.head≤ r l n)

  pub tail-here : (r x : ℕ) → r ≡ low.rank → x ≡ tail_left low.next low.tail → x ≡ word after (tail_at k r)
  tail-here r x e g =
      g ∙ (λ i. tail_left (h.next i) (h.tail i))
      ∙ sym (ap (λ (i : ℕ). word after (tail_at k i)) e ∙ at (tail_at k low.rank) (omega (arith, laid.lists, laid.pool, laid.held, h.fit.within))
      ∙ tail-own k laid w own h.fits.words h.fit.within head> h.fit.head≤)

  pub tail-stays : (r x : ℕ) → r < k.ranks → (r ≡ low.rank → ⊥) → x ≡ word w (tail_at k r) → x ≡ word after (tail_at k r)
  tail-stays r x l n e =
      e ∙ sym (at (tail_at k r) (omega (arith, laid.lists, laid.pool, laid.held)) ∙ tail-else k laid w own h.fits.words h.fit.within head> h.fit.head≤ r l n)

  free-is : word after k.free ≡ low.head
  free-is = at k.free laid.held ∙ free-after k laid w own h.fits.words ∙ sym h.head

  next-at : (l : ℕ) → next_of k after l ≡ next_of k (taken_words k w own) l
  next-at l = next-same k laid after (taken_words k w own) at l

  next-free : next_of k after low.head ≡ word w k.free
  next-free = next-at low.head ∙ ap (next_of k (taken_words k w own)) h.head ∙ next-own k laid w own h.fits.words h.fit.within head> h.fit.head≤

  next-stays : (l : ℕ) → (l ≡ low.head → ⊥) → next_of k after l ≡ next_of k w l
  next-stays l n = next-at l ∙ next-else k laid w own h.fits.words h.fit.within head> h.fit.head≤ l (λ e. n (e ∙ sym h.head))

  -- the freed node is taken, and must not be the tail
  and-false : (t : Bool) → (t && false) ≡ false
  and-false true = refl
  and-false false = refl

  pub after_tail : (r tail : ℕ) → tail ≡ word after (tail_at k r) → tail ≡ low.head → false ≡ bucket_put_ok k r after
  unfolding bucket_put_ok
  after_tail r tail e n =
      let f : not (eqb (word after k.free) (word after (tail_at k r))) ≡ false = ap not (eq-eqb (word after k.free) (word after (tail_at k r)) (free-is ∙ sym n ∙ e)) in
      sym (ap (λ (t : Bool). ltb r k.ranks && Bool·beq (eqb (word after (head_at k r)) 0) (eqb (word after (tail_at k r)) 0) && leb (word after (head_at k r)) k.nodes && leb (word after (tail_at k r)) k.nodes && leb (word after k.free) k.nodes && not (eqb (word after k.free) 0) && leb (next_of k after (word after k.free)) k.nodes && eqb (next_of k after (word after (tail_at k r))) 0 && t) f ∙ and-false (ltb r k.ranks && Bool·beq (eqb (word after (head_at k r)) 0) (eqb (word after (tail_at k r)) 0) && leb (word after (head_at k r)) k.nodes && leb (word after (tail_at k r)) k.nodes && leb (word after k.free) k.nodes && not (eqb (word after k.free) 0) && leb (next_of k after (word after k.free)) k.nodes && eqb (next_of k after (word after (tail_at k r))) 0))

  pub after_is : (r head tail behind : ℕ) → r < k.ranks → head ≡ word after (head_at k r) → tail ≡ word after (tail_at k r) → (tail ≡ low.head → ⊥) → behind ≡ next_of k w tail
      → (Bool·beq (eqb head 0) (eqb tail 0) && leb head k.nodes && leb tail k.nodes && eqb behind 0) ≡ bucket_put_ok k r after
  unfolding bucket_put_ok
  after_is r head tail behind l p q n b =
      let h≤ : low.head ≤ k.nodes = omega (arith, h.head, h.fit.head≤) in
      let h≢ : low.head ≡ 0 → ⊥ = λ e. h.fit.head≢ (sym h.head ∙ e) in
      let f : word after k.free ≡ low.head = free-is in
      rw (← p, ← q, f, next-free, next-stays tail n, ← b, lt-ltb r k.ranks l, le-leb low.head k.nodes h≤, ne_eqb low.head 0 h≢, le-leb (word w k.free) k.nodes h.fit.free≤, ne_eqb low.head tail (λ e. n (sym e)))
      (sums (Bool·beq (eqb head 0) (eqb tail 0)) (leb head k.nodes) (leb tail k.nodes) (eqb behind 0))
    where
      sums : (a b c d : Bool) → (a && b && c && d) ≡ (true && a && b && c && true && true && true && d && true)
      sums true true true true = refl
      sums true true true false = refl
      sums true true false true = refl
      sums true true false false = refl
      sums true false c d = refl
      sums false b c d = refl

  -- ---- the pop's writes
  pub out-node : NodeOf k w low.head
  out-node = record { fits = h.fits; some = omega (arith, h.head, h.fit.head≢); high = omega (arith, h.head, h.fit.head≤) }

  pub out-is : (x : Element) (tail : ℕ) → x ≡ loaded low.rank (load_in k.stem w low.head) → tail ≡ tail_left low.next low.tail
      → (write w ((head_at k low.rank, low.next) ∷ (tail_at k low.rank, tail) ∷ (load_writes k.stem low.head no_load ++ (next_at k low.head, word w k.free) ∷ (k.free, low.head) ∷ [])) ≡ bucket_take k low.rank w)
      × (Some x ≡ bucket_leaves k true low.rank w)
  unfolding bucket_take
  out-is x tail e g = (rw (g, h.head, h.tail, h.next) refl, rw (e, h.head) refl)

-- ---- the push's writes

module _ (k : Lay) (w : List ℕ) (e : Element) (h : Joins k w e.rank.0) where
  pub in-linkable : (tail : ℕ) → tail ≡ word w (tail_at k e.rank.0) → Linkable k e.rank.0 tail
  in-linkable tail q = record { laid = h.fits.laid; rank< = h.fit.within; tail≤ = omega (arith, h.fit.tail≤) }

  pub in_is : (next tail link : ℕ) → next ≡ next_of k w (word w k.free) → tail ≡ word w (tail_at k e.rank.0) → link ≡ link_at k e.rank.0 tail
      → write w ((k.free, next) ∷ (load_writes k.stem (word w k.free) (load_of e) ++ (next_at k (word w k.free), 0) ∷ (link, word w k.free) ∷ (tail_at k e.rank.0, word w k.free) ∷ [])) ≡ bucket_put k e w
  unfolding bucket_put
  in_is next tail link n t l = rw (l, n, t) refl

-- ---- what waits for the buckets

module _ (k : Lay) (w : List ℕ) (g : Waiting) where
  pub ok-idle : g.does ≡ Idle → true ≡ bucket_ok k g.does g.way w
  unfolding bucket_ok
  ok-idle e = rw e refl

  pub ok-push : (x : Element) (t : Bool) → g.does ≡ Push x → t ≡ bucket_put_ok k x.rank.0 w → t ≡ bucket_ok k g.does g.way w
  unfolding bucket_ok
  ok-push x t e h = rw e h

  pub ok-pop : (t : Bool) → g.does ≡ Pop → t ≡ bucket_take_ok k g.way w → t ≡ bucket_ok k g.does g.way w
  unfolding bucket_ok
  ok-pop t e h = rw e (h ∙ sym (and-unit (bucket_take_ok k g.way w)))

  pub ok-shut : (x : Element) → g.does ≡ Replace x → bucket_take_ok k g.way w ≡ false → false ≡ bucket_ok k g.does g.way w
  unfolding bucket_ok
  ok-shut x e n = rw (e, n) refl

  pub ok-replace : (x : Element) (low : Bucket) (t : Bool) → g.does ≡ Replace x → Found k w g.way (Some low) → t ≡ bucket_put_ok k x.rank.0 (bucket_take k low.rank w) → t ≡ bucket_ok k g.does g.way w
  unfolding bucket_ok
  ok-replace x low t e f h = rw (e, f.0, ← f.1.rank) h

  -- ---- and what is done
  module _ (fits : Fits k w) (h : bucket_ok k g.does g.way w ≡ true) where
    fit : (q : Request) → g.does ≡ q → BucketFit k q g.way w
    fit q e = subst (λ (q : Request). BucketFit k q g.way w) e ((bucket-means k g.does g.way w).says h)

    pub push-joins : (x : Element) → g.does ≡ Push x → Joins k w x.rank.0
    push-joins x e = record { fits = fits; fit = (fit (Push x) e).1 }

    -- the tests have passed, so the bucket is found
    opens : (q : Request) → takes q ≡ true → g.does ≡ q → bucket_take_ok k g.way w ≡ true
    opens q t e = (bucket-take-means k g.way w).holds (go q t (fit q e))
      where
        go : (q : Request) → takes q ≡ true → BucketFit k q g.way w → BucketTakeFit k g.way w
        go Idle t f = absurd (false≢true t)
        go (Push x) t f = absurd (false≢true t)
        go Pop t f = f.0
        go (Replace x) t f = f.0

    pub pop-way : g.does ≡ Pop → g.way < k.ranks
    pop-way e = (fit Pop e).0.within

    pub replace-way : (x : Element) → g.does ≡ Replace x → g.way < k.ranks
    replace-way x e = (fit (Replace x) e).0.within

    pub pop-leaves : (low : Bucket) → g.does ≡ Pop → Seen k w g.way low → Leaves k w low
    pop-leaves low e s = leaves-of k w g.way low fits (opens Pop refl e) s

    pub replace-leaves : (x : Element) (low : Bucket) → g.does ≡ Replace x → Seen k w g.way low → Leaves k w low
    replace-leaves x low e s = leaves-of k w g.way low fits (opens (Replace x) refl e) s

    pub replace-joins : (x : Element) (low : Bucket) (v : List ℕ) → g.does ≡ Replace x → Seen k w g.way low → v ≡ bucket_take k low.rank w → Joins k v x.rank.0
    replace-joins x low v e f t =
        let s : v ≡ bucket_take k g.way w = t ∙ ap (λ (i : ℕ). bucket_take k i w) f.rank in
        let l : length v ≡ length w = ap length s ∙ take_long k true g.way w in
        record {
          fits = record { laid = fits.laid; words = omega (arith, fits.words) };
          fit = subst (BucketPutFit k x.rank.0) (sym s) (fit (Replace x) e).1;
        }

    pub done-idle : g.does ≡ Idle → (w ≡ bucket_stage k g.does g.way w) × (None ≡ bucket_leaves k (takes g.does) g.way w)
    done-idle e = rw e (refl, refl)

    pub done-push : (x : Element) (v : List ℕ) → g.does ≡ Push x → v ≡ bucket_put k x w → (v ≡ bucket_stage k g.does g.way w) × (None ≡ bucket_leaves k (takes g.does) g.way w)
    done-push x v e t = rw e (t, refl)

    pub done-pop : (low : Bucket) (v : List ℕ) (o : Element) → g.does ≡ Pop → Seen k w g.way low → v ≡ bucket_take k low.rank w → Some o ≡ bucket_leaves k true low.rank w
        → (v ≡ bucket_stage k g.does g.way w) × (Some o ≡ bucket_leaves k (takes g.does) g.way w)
    done-pop low v o e f t y = rw (e, ← f.rank) (t, y)

    pub done-replace : (x : Element) (low : Bucket) (v u : List ℕ) (o : Element) → g.does ≡ Replace x → Seen k w g.way low → v ≡ bucket_take k low.rank w → Some o ≡ bucket_leaves k true low.rank w → u ≡ bucket_put k x v
        → (u ≡ bucket_stage k g.does g.way w) × (Some o ≡ bucket_leaves k (takes g.does) g.way w)
    done-replace x low v u o e f t y z = rw (e, ← f.rank, ← t) (z, y)
