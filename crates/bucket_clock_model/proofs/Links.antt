-- The bucket stage writes what one at a time writes, but for the held count.
use Rattle.laws.specs.Prelude.{Bool, Element, List, Request, [], ◌<◌, ◌∙◌, ◌∷◌, ◌≡◌, ◌≤◌, ap, arith, cond, eqb, false, length, length-set, refl, set, subst, suc, sym, true, zero, ℕ, ℕ_discrete}
use Rattle.bucket_model.proofs.Laws.{other, write-length, write-other}
use Rattle.bucket_model.specs.Prelude.{Laid, cell, head_at, joined_words, link_at, lowest_in, next_at, room_of, room_with, tail_at, taken_words, word, write}
use Rattle.bucket_model.specs.declared.Lay.{Lay}
use Rattle.bucket_clock_model.specs.Damage.{BucketFit, BucketNewFit, BucketPutFit, BucketTakeFit, BucketTakesFit}
use Rattle.std.specs.Prelude.{Option}
use Rattle.std.specs.Prelude.{None, Some}
use Rattle.bucket_clock_model.specs.Links.{bucket_put, bucket_put_if, bucket_stage, bucket_take, bucket_take_if, put_writes, take_writes}
use Rattle.bucket_clock_model.specs.Lists.{newcomer, takes}
use Rattle.bucket_clock_model.proofs.StageReads.{put-fit-low, put_same, take-fit-low, take_same}

-- the same words but for the held count
pub record But (k : Lay) (w v : List ℕ) : Type 0 where
  pub long : length w ≡ length v
  pub words : (a : ℕ) → (a ≡ k.held → ⊥) → word w a ≡ word v a

-- a word is written where there is one, in both or in none
pub set_both : (w v : List ℕ) (a x : ℕ) → length w ≡ length v → word (set w a x) a ≡ word (set v a x) a
set_both [] [] a x e = refl
set_both [] (d ∷ v) a x e = absurd (omega arith)
set_both (c ∷ w) [] a x e = absurd (omega arith)
set_both (c ∷ w) (d ∷ v) zero x e = refl
set_both (c ∷ w) (d ∷ v) (suc a) x e = set_both w v a x (omega arith)

module _ (k : Lay) where
  but-set : (w v : List ℕ) (a x : ℕ) → But k w v → But k (set w a x) (set v a x)
  but-set w v a x c = record { long = length-set w a x ∙ c.long ∙ sym (length-set v a x); words = at }
    where
      at : (i : ℕ) → (i ≡ k.held → ⊥) → word (set w a x) i ≡ word (set v a x) i
      at i n = elim (ℕ_discrete i a) [
        | yes e ↦ ap (word (set w a x)) e ∙ set_both w v a x c.long ∙ sym (ap (word (set v a x)) e)
        | no e ↦ other w a x i e ∙ c.words i n ∙ sym (other v a x i e)
      ]

  but-write : (ps : List (ℕ × ℕ)) (w v : List ℕ) → But k w v → But k (write w ps) (write v ps)
  but-write [] w v c = c
  but-write (p ∷ ps) w v c = but-write ps (set w p.0 p.1) (set v p.0 p.1) (but-set w v p.0 p.1 c)

  -- the held count may be any
  pub but-held : (w v : List ℕ) (x : ℕ) → But k w v → But k w (set v k.held x)
  but-held w v x c = record { long = c.long ∙ sym (length-set v k.held x); words = λ a n. c.words a n ∙ sym (other v k.held x a n) }

  pub low-words : (w v : List ℕ) → But k w v → (a : ℕ) → a < k.held → word w a ≡ word v a
  low-words w v c a h = c.words a (λ e. omega arith)

  module _ (laid : Laid k) (w v : List ℕ) (c : But k w v) where
    -- the tests of the stage do not read the held count
    pub take-fit-but : (r : ℕ) → BucketTakeFit k r v → BucketTakeFit k r w
    take-fit-but = take-fit-low k laid w v (low-words w v c)

    pub put-fit-but : (r : ℕ) → BucketPutFit k r v → BucketPutFit k r w
    put-fit-but = put-fit-low k laid w v (low-words w v c)

    -- BUCKETS: the stage leaves what one at a time leaves, but for the held count
    pub take-but : (r : ℕ) → r < k.ranks → But k (bucket_take k r w) (taken_words k v (lowest_in k v r))
    unfolding bucket_take taken_words
    take-but r h = but-held (write w (take_writes k w r)) (write v (take_writes k v r)) _ (subst (λ (ps : List (ℕ × ℕ)). But k (write w ps) (write v (take_writes k v r))) (sym (take_same k laid w v (low-words w v c) r h)) (but-write (take_writes k v r) w v c))

    pub put-but : (b : List ℕ) (e : Element) → e.rank.0 < k.ranks → But k (bucket_put k e w) (joined_words k v e (room_of k b v e.rank.0))
    unfolding bucket_put joined_words room_with
    put-but b e h = but-held (write w (put_writes k w e)) (write v (put_writes k v e)) _ (subst (λ (ps : List (ℕ × ℕ)). But k (write w ps) (write v (put_writes k v e))) (sym (put_same k laid w v (low-words w v c) e h)) (but-write (put_writes k v e) w v c))

-- ---- the held count stands, and so does what is behind it

module _ (k : Lay) (laid : Laid k) (a : ℕ) (behind : k.held ≤ a) where
  cell-off : (l i : ℕ) → l ≤ k.nodes → i < 3 → a ≡ cell k.stem l i → ⊥
  cell-off l i n b e = omega (arith, laid.pool, laid.held)

  head-off : (r : ℕ) → r < k.ranks → a ≡ head_at k r → ⊥
  head-off r h e = omega (arith, laid.lists, laid.pool, laid.held)

  tail-off : (r : ℕ) → r < k.ranks → a ≡ tail_at k r → ⊥
  tail-off r h e = omega (arith, laid.lists, laid.pool, laid.held)

  free_off : a ≡ k.free → ⊥
  free_off e = omega (arith, laid.held)

  take_past : (r : ℕ) (w : List ℕ) → BucketTakeFit k r w → word (bucket_take k r w) a ≡ word w a
  unfolding bucket_take
  take_past r w f =
      let c : (i : ℕ) → i < 3 → a ≡ cell k.stem (word w (head_at k r)) i → ⊥ = λ i h. cell-off (word w (head_at k r)) i f.head≤ h in
      write-other w (take_writes k w r) a (head-off r f.within, (tail-off r f.within, (c 0 (omega arith), (c 1 (omega arith), (c 2 (omega arith), (free_off, tt))))))

  link-off : (r tail : ℕ) → r < k.ranks → tail ≤ k.nodes → a ≡ link_at k r tail → ⊥
  unfolding link_at
  link-off r tail h n = go (eqb tail 0)
    where
      go : (b : Bool) → a ≡ cond b (head_at k r) (next_at k tail) → ⊥
      go true = head-off r h
      go false = cell-off tail 2 n (omega arith)

  put-past : (e : Element) (w : List ℕ) → BucketPutFit k e.rank.0 w → word (bucket_put k e w) a ≡ word w a
  unfolding bucket_put
  put-past e w f =
      let c : (i : ℕ) → i < 3 → a ≡ cell k.stem (word w k.free) i → ⊥ = λ i h. cell-off (word w k.free) i f.free≤ h in
      write-other w (put_writes k w e) a (free_off, (c 0 (omega arith), (c 1 (omega arith), (c 2 (omega arith), (link-off e.rank.0 (word w (tail_at k e.rank.0)) f.within f.tail≤, (tail-off e.rank.0 f.within, tt))))))

  takes-past : (b : Bool) (r : ℕ) (w : List ℕ) → BucketTakesFit k b r w → word (bucket_take_if k b r w) a ≡ word w a
  takes-past true r w f = take_past r w f
  takes-past false r w f = refl

  new-past : (x : Option Element) (w : List ℕ) → BucketNewFit k x w → word (bucket_put_if k x w) a ≡ word w a
  new-past None w f = refl
  new-past (Some x) w f = put-past x w f

  pub stage-past : (q : Request) (r : ℕ) (w : List ℕ) → BucketFit k q r w → word (bucket_stage k q r w) a ≡ word w a
  stage-past q r w f = new-past (newcomer q) (bucket_take_if k (takes q) r w) f.1 ∙ takes-past (takes q) r w f.0

-- HELD: no stage but the request's own changes the held count
pub stage-held : (k : Lay) (laid : Laid k) (q : Request) (r : ℕ) (w : List ℕ) → BucketFit k q r w → word (bucket_stage k q r w) k.held ≡ word w k.held
stage-held k laid q r w f = stage-past k laid k.held (omega arith) q r w f

pub take_long : (k : Lay) (b : Bool) (r : ℕ) (w : List ℕ) → length (bucket_take_if k b r w) ≡ length w
unfolding bucket_take
take_long k true r w = write-length w (take_writes k w r)
take_long k false r w = refl

put-long : (k : Lay) (x : Option Element) (w : List ℕ) → length (bucket_put_if k x w) ≡ length w
unfolding bucket_put
put-long k None w = refl
put-long k (Some x) w = write-length w (put_writes k w x)

pub stage-long : (k : Lay) (q : Request) (r : ℕ) (w : List ℕ) → length (bucket_stage k q r w) ≡ length w
stage-long k q r w = put-long k (newcomer q) (bucket_take_if k (takes q) r w) ∙ take_long k (takes q) r w
