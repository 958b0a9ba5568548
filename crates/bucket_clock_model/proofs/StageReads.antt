-- Words that are the same before the held count: what a bucket stage reads of them is the same.
use Rattle.laws.specs.Prelude.{Bool, Element, List, ◌<◌, ◌∙◌, ◌≡◌, ◌≤◌, ap, arith, cond, eqb, false, ltb, ltb-false, refl, sym, true, ℕ}
use Rattle.bucket_model.specs.Prelude.{Laid, head_at, next_at, next_of, tail_at, word}
use Rattle.bucket_model.specs.declared.Lay.{Lay}
use Rattle.bucket_clock_model.specs.Damage.{BucketPutFit, BucketTakeFit}
use Rattle.bucket_clock_model.specs.Links.{put_writes, take_writes}

-- words that are the same before held: all that a stage reads stands there
module _ (k : Lay) (laid : Laid k) (w v : List ℕ) (c : (a : ℕ) → a < k.held → word w a ≡ word v a) where
  pub free-same : word w k.free ≡ word v k.free
  free-same = c k.free laid.held

  pub head-same : (r : ℕ) → r < k.ranks → word w (head_at k r) ≡ word v (head_at k r)
  head-same r h = c (head_at k r) (omega (arith, laid.lists, laid.pool, laid.held))

  pub tail-same : (r : ℕ) → r < k.ranks → word w (tail_at k r) ≡ word v (tail_at k r)
  tail-same r h = c (tail_at k r) (omega (arith, laid.lists, laid.pool, laid.held))

  pub next-same : (l : ℕ) → next_of k w l ≡ next_of k v l
  unfolding next_of
  next-same l = go (eqb l 0) (ltb k.nodes l) refl
    where
      go : (a b : Bool) → ltb k.nodes l ≡ b → cond a 0 (cond b 0 (word w (next_at k l))) ≡ cond a 0 (cond b 0 (word v (next_at k l)))
      go true b e = refl
      go false true e = refl
      go false false e = let m : l ≤ k.nodes = ltb-false k.nodes l e in c (next_at k l) (omega (arith, laid.pool, laid.held))

  -- what a stage reads is what one at a time reads
  pub take_same : (r : ℕ) → r < k.ranks → take_writes k w r ≡ take_writes k v r
  take_same r h =
      let n : next_of k w (word w (head_at k r)) ≡ next_of k v (word v (head_at k r)) = ap (next_of k w) (head-same r h) ∙ next-same (word v (head_at k r)) in
      rw (n, tail-same r h, head-same r h, free-same)

  pub put_same : (e : Element) → e.rank.0 < k.ranks → put_writes k w e ≡ put_writes k v e
  put_same e h =
      let n : next_of k w (word w k.free) ≡ next_of k v (word v k.free) = ap (next_of k w) free-same ∙ next-same (word v k.free) in
      rw (n, tail-same e.rank.0 h, free-same)

  next-at : (a : ℕ) → word w a ≡ word v a → next_of k w (word w a) ≡ next_of k v (word v a)
  next-at a e = ap (next_of k w) e ∙ next-same (word v a)

  -- the tests
  pub take-fit-low : (r : ℕ) → BucketTakeFit k r v → BucketTakeFit k r w
  take-fit-low r f =
      let h : word w (head_at k r) ≡ word v (head_at k r) = head-same r f.within in
      let t : word w (tail_at k r) ≡ word v (tail_at k r) = tail-same r f.within in
      let n : next_of k w (word w (head_at k r)) ≡ next_of k v (word v (head_at k r)) = next-at (head_at k r) h in
      let b : next_of k w (word w (tail_at k r)) ≡ next_of k v (word v (tail_at k r)) = next-at (tail_at k r) t in
      record {
        within = f.within;
        free≤ = rw free-same f.free≤;
        head≢ = rw h f.head≢;
        tail≢ = rw t f.tail≢;
        head≤ = rw h f.head≤;
        tail≤ = rw t f.tail≤;
        next≤ = rw n f.next≤;
        behind0 = b ∙ f.behind0;
        ends = record { to = λ e. h ∙ f.ends.to (sym n ∙ e) ∙ sym t; from = λ e. n ∙ f.ends.from (sym h ∙ e ∙ t) };
      }

  pub put-fit-low : (r : ℕ) → BucketPutFit k r v → BucketPutFit k r w
  put-fit-low r f =
      let h : word w (head_at k r) ≡ word v (head_at k r) = head-same r f.within in
      let t : word w (tail_at k r) ≡ word v (tail_at k r) = tail-same r f.within in
      let n : next_of k w (word w k.free) ≡ next_of k v (word v k.free) = next-at k.free free-same in
      let b : next_of k w (word w (tail_at k r)) ≡ next_of k v (word v (tail_at k r)) = next-at (tail_at k r) t in
      record {
        within = f.within;
        both = record { to = λ e. t ∙ f.both.to (sym h ∙ e); from = λ e. h ∙ f.both.from (sym t ∙ e) };
        head≤ = rw h f.head≤;
        tail≤ = rw t f.tail≤;
        free≤ = rw free-same f.free≤;
        free≢ = rw free-same f.free≢;
        next≤ = rw n f.next≤;
        behind0 = b ∙ f.behind0;
        other = λ e. f.other (sym free-same ∙ e ∙ t);
      }
