-- The bucket stage, at a request that is accepted, leaves the words that the call of one at a time leaves, but for the held count.
use Rattle.laws.specs.Prelude.{Answer, BadRank, Bool, Element, Empty, Full, Idle, List, NoTag, Pop, Push, Replace, Request, [], ◌<◌, ◌∙◌, ◌∷◌, ◌≡◌, ◌≤◌, ap, arith, cond, eqb, false, length, ltb, ltb-true, number_of, refl, subst, sym, true, untagged, ℕ, Ok, None, Err}
use Rattle.bucket_model.proofs.Laws.{Holds, Popped, alone, low-is, pop-is, pop-means, pop-way, pops, push-is, pushes, room-again, swap_is, whole}
use Rattle.bucket_model.specs.Prelude.{JoinFit, Laid, Outcome, PopFit, Store, asked, cell, given, head_at, load_in, loaded, lowest_in, lowest_of, lowest_rank, store, taken_bits, taken_words, word}
use Rattle.bucket_model.specs.declared.Lay.{Lay}
use Rattle.bucket_clock_model.specs.Clock.{number_at}
use Rattle.bucket_clock_model.specs.Damage.{BucketFit, BucketPutFit, BucketTakeFit}
use Rattle.std.specs.Prelude.{Some}
use Rattle.bucket_clock_model.specs.Lists.{first, taken, takes}
use Rattle.bucket_clock_model.specs.Links.{bucket_gives, bucket_leaves, bucket_put, bucket_stage, bucket_take}
use Rattle.bucket_clock_model.specs.Pipe.{Fit, lead}
use Rattle.bucket_clock_model.proofs.Links.{But, put-but, put-fit-but, take-but, take-fit-but}

abbrev rank_first : List Element → ℕ
rank_first [] = 0
rank_first (x ∷ l) = x.rank.0

fit-list : (r : ℕ) (l : List Element) → Fit 0 true r l → (1 ≤ length l) × (rank_first l ≡ r)
unfolding lead
fit-list r [] f = absurd f
fit-list r (x ∷ l) f = (omega arith, f)

-- what an accepted push says of its element
record Taken (k : Lay) (x : Element) : Type 0 where
  within : x.rank.0 < k.ranks
  tagged : untagged x ≡ false

taken-by : (k : Lay) (x : Element) (b u : Bool) (a : Answer) → ltb x.rank.0 k.ranks ≡ b → untagged x ≡ u → number_of (cond b (cond u (Err NoTag) a) (Err BadRank)) ≡ 0 → Taken k x × (number_of a ≡ 0)
taken-by k x true false a p q e = (record { within = ltb-true x.rank.0 k.ranks p; tagged = q }, e)
taken-by k x true true a p q e = absurd (omega arith)
taken-by k x false u a p q e = absurd (omega arith)

room_by : (a b : ℕ) (t : Bool) → ltb a b ≡ t → number_of (cond t (Ok None) (Err Full)) ≡ 0 → a < b
room_by a b true p e = ltb-true a b p
room_by a b false p e = absurd (omega arith)

-- a push passes the tests of the stage, on a store that holds a list and has room
put-fits : (k : Lay) (laid : Laid k) (b v : List ℕ) (l : List Element) (h : Holds k laid b v l) (r : ℕ) → r < k.ranks → (word v k.held ≡ k.nodes → ⊥) → JoinFit k (word v k.held) b v r → BucketPutFit k r v
put-fits k laid b v l h r r< room f =
    let W = whole k laid b v l h in
    record {
      within = r<;
      both = f.both;
      head≤ = f.head≤;
      tail≤ = f.tail≤;
      free≤ = W.free≤;
      free≢ = λ z. room (W.full.to z);
      next≤ = f.next≤;
      behind0 = f.behind0;
      other = f.free≢;
    }

module _ (k : Lay) (laid : Laid k) (b v : List ℕ) (l : List Element) (h : Holds k laid b v l) (w : List ℕ) (c : But k w v) where
  abbrev s : Store
  s = store b v

  push-fit : (x : Element) → number_at k.ranks k.nodes (Push x) (length l) ≡ 0 → BucketPutFit k x.rank.0 w
  push-fit x e =
      let t = taken-by k x (ltb x.rank.0 k.ranks) (untagged x) (cond (ltb (length l) k.nodes) (Ok None) (Err Full)) refl refl e in
      let room : length l < k.nodes = room_by (length l) k.nodes (ltb (length l) k.nodes) refl t.1 in
      let f : word v k.held ≡ k.nodes → ⊥ = λ z. omega (arith, h.held) in
      put-fit-but k laid w v c x.rank.0 (put-fits k laid b v l h x.rank.0 t.0.within f (pushes k (alone k laid) 0 b v l h x t.0.within (word v k.held) (omega (arith, h.held)) f).fit)

  push-but : (x : Element) → number_at k.ranks k.nodes (Push x) (length l) ≡ 0 → But k (bucket_put k x w) (asked k (Push x) s).words
  unfolding asked
  push-but x e =
      let t = taken-by k x (ltb x.rank.0 k.ranks) (untagged x) (cond (ltb (length l) k.nodes) (Ok None) (Err Full)) refl refl e in
      let room : length l < k.nodes = room_by (length l) k.nodes (ltb (length l) k.nodes) refl t.1 in
      let f : word v k.held ≡ k.nodes → ⊥ = λ z. omega (arith, h.held) in
      let p = push-is k laid s l h x t.0.within t.0.tagged f (pushes k (alone k laid) 0 b v l h x t.0.within (word v k.held) (omega (arith, h.held)) f) in
      subst (λ (o : Outcome). But k (bucket_put k x w) o.words) (sym p) (put-but k laid w v c b x t.0.within)

  module _ (r : ℕ) (fit : Fit 0 true r l) where
    some-held : word v k.held ≡ 0 → ⊥
    some-held z = omega (arith, h.held, (fit-list r l fit).0)

    abbrev found : (x : Element) × (l' : List Element) × Popped k (alone k laid) 0 b v l h x l'
    found = pops k (alone k laid) 0 b v l h some-held

    lowest-is : lowest_rank k b ≡ r
    lowest-is = sym found.2.lowest ∙ sym (ap rank_first found.2.list) ∙ (fit-list r l fit).1

    low-in : lowest_of k b v ≡ lowest_in k v r
    low-in = low-is k b v (pop-way k b v ((pop-means k b v).holds found.2.fit)) ∙ ap (lowest_in k v) lowest-is

    r< : r < k.ranks
    r< = subst (λ (i : ℕ). i < k.ranks) lowest-is found.2.within

    take_words : But k (bucket_take k r w) (taken_words k v (lowest_of k b v))
    take_words = subst (λ (o : _). But k (bucket_take k r w) (taken_words k v o)) (sym low-in) (take-but k laid w v c r r<)

    pop-fit : BucketTakeFit k r w
    pop-fit =
        let f : PopFit k b v r = subst (PopFit k b v) lowest-is found.2.fit in
        take-fit-but k laid w v c r (record { within = r<; free≤ = (whole k laid b v l h).free≤; head≢ = f.head≢; tail≢ = f.tail≢; head≤ = f.head≤; tail≤ = f.tail≤; next≤ = f.next≤; behind0 = f.behind0; ends = f.ends })

    swap-fit : (x : Element) → number_at k.ranks k.nodes (Replace x) (length l) ≡ 0 → BucketPutFit k x.rank.0 (bucket_take k r w)
    swap-fit x e =
        let t = taken-by k x (ltb x.rank.0 k.ranks) (untagged x) (cond (eqb (length l) 0) (Err Empty) (Ok None)) refl refl e in
        let B = taken_bits k b (lowest_of k b v) in
        let W = taken_words k v (lowest_of k b v) in
        let room = room-again k laid s l h some-held found.0 found.1 found.2 x t.0.within in
        let u = pushes k (alone k laid) 0 B W found.1 found.2.after x t.0.within (word W k.held) (omega (arith, found.2.after.held)) room in
        put-fit-but k laid (bucket_take k r w) W take_words x.rank.0 (put-fits k laid B W found.1 found.2.after x.rank.0 t.0.within room u.fit)

    pop-but : But k (bucket_take k r w) (asked k Pop s).words
    unfolding asked
    pop-but = subst (λ (o : Outcome). But k (bucket_take k r w) o.words) (sym (pop-is k laid s l h some-held found.0 found.1 found.2)) take_words

    swap-but : (x : Element) → number_at k.ranks k.nodes (Replace x) (length l) ≡ 0 → But k (bucket_put k x (bucket_take k r w)) (asked k (Replace x) s).words
    unfolding asked
    swap-but x e =
        let t = taken-by k x (ltb x.rank.0 k.ranks) (untagged x) (cond (eqb (length l) 0) (Err Empty) (Ok None)) refl refl e in
        let B = taken_bits k b (lowest_of k b v) in
        let W = taken_words k v (lowest_of k b v) in
        let u = pushes k (alone k laid) 0 B W found.1 found.2.after x t.0.within (word W k.held) (omega (arith, found.2.after.held)) (room-again k laid s l h some-held found.0 found.1 found.2 x t.0.within) in
        let p = swap_is k laid s l h some-held found.0 found.1 found.2 x t.0.within t.0.tagged u in
        subst (λ (o : Outcome). But k (bucket_put k x (bucket_take k r w)) o.words) (sym p) (put-but k laid (bucket_take k r w) W take_words B x t.0.within)

    -- what leaves is the first of the list
    head-is : word w (head_at k r) ≡ word v (head_at k r)
    head-is = c.words (head_at k r) (λ e. omega (arith, laid.lists, laid.pool, laid.held, r<))

    head≤ : word v (head_at k r) ≤ k.nodes
    head≤ = subst (λ (i : ℕ). word v (head_at k i) ≤ k.nodes) lowest-is found.2.fit.head≤

    cell-is : (i : ℕ) → i < 2 → word w (cell k.stem (word v (head_at k r)) i) ≡ word v (cell k.stem (word v (head_at k r)) i)
    cell-is i l = c.words (cell k.stem (word v (head_at k r)) i) (λ e. omega (arith, laid.pool, laid.held, head≤))

    load_is : load_in k.stem w (word w (head_at k r)) ≡ load_in k.stem v (word v (head_at k r))
    load_is = ap (load_in k.stem w) head-is ∙ (λ i. record { tag = cell-is 0 (omega arith) i; length = cell-is 1 (omega arith) i })

    gives-is : bucket_gives k r w ≡ found.0
    gives-is = ap (loaded r) load_is ∙ sym (ap (given k v) low-in) ∙ found.2.gives

    first-is : Some (bucket_gives k r w) ≡ first l
    first-is = ap Some gives-is ∙ sym (ap first found.2.list)

  -- BUCKET-STAGE: an accepted request that has come the way of the first
  pub stage-but : (q : Request) (r : ℕ) → number_at k.ranks k.nodes q (length l) ≡ 0 → Fit 0 (takes q) r l → But k (bucket_stage k q r w) (asked k q s).words
  unfolding asked
  stage-but Idle r e f = c
  stage-but (Push x) r e f = push-but x e
  stage-but Pop r e f = pop-but r f
  stage-but (Replace x) r e f = swap-but r f x e

  -- .. and what leaves is read off the words
  pub stage-leaves : (t : Bool) (r : ℕ) → Fit 0 t r l → bucket_leaves k t r w ≡ taken t l
  stage-leaves true r f = first-is r f
  stage-leaves false r f = refl

  -- .. and it passes the tests of the stage
  pub stage-fit : (q : Request) (r : ℕ) → number_at k.ranks k.nodes q (length l) ≡ 0 → Fit 0 (takes q) r l → BucketFit k q r w
  stage-fit Idle r e f = (tt, tt)
  stage-fit (Push x) r e f = (tt, push-fit x e)
  stage-fit Pop r e f = (pop-fit r f, tt)
  stage-fit (Replace x) r e f = (pop-fit r f, swap-fit r f x e)
