-- Each test stands for its fact.
use Rattle.laws.specs.Prelude.{Element, Bool, Fails, Idle, List, Means, Pop, Push, Replace, Request, ◌%◌, ◌+◌, false, length, means-and, means-beq, means-by, means-differ, means-eqb, means-leb, means-ltb, means-no, means-not, means-off, refl, suc, true, zero, ℕ}
use Rattle.bitmap.specs.Bits.{bit-lt}
use Rattle.bucket_model.proofs.Laws.{clear-means, shape-means}
use Rattle.bucket_model.specs.Prelude.{Storey, bit_no, bit_of, head_at, next_of, pop_ok, storey, tail_at, word, word_of}
use Rattle.bucket_model.specs.declared.Lay.{Lay}
use Rattle.bucket_clock_model.specs.Damage.{BucketFit, BucketNewFit, BucketPutFit, BucketTakeFit, BucketTakesFit, DeskShaped, HeldFit, NewFit, PutFit, StagesFit, StoreyFit, TakeFit, TakesFit, CycleFit}
use Rattle.std.specs.Prelude.{Option}
use Rattle.std.specs.Prelude.{None, Some}
use Rattle.bucket_clock_model.specs.declared.Waiting.{Waiting}
use Rattle.bucket_clock_model.specs.Desk.{count_words, Desk, desk_ok, floor_of, held_ok, rule_now, stages_ok, cycle_ok, waiting, work_at}
use Rattle.bucket_clock_model.specs.Links.{bucket_ok, bucket_put_if_ok, bucket_put_ok, bucket_take_if, bucket_take_if_ok, bucket_take_ok}
use Rattle.bucket_clock_model.specs.Lists.{newcomer, takes}
use Rattle.bucket_clock_model.specs.Pipe.{lead}
use Rattle.bucket_clock_model.specs.Words.{count_at, Floor, put_if_ok, put_ok, storey_ok, take_if, take_if_ok, take_ok, way_below}

always-so : Means true (Unit {0})
always-so = record { says = λ e. tt; holds = λ u. refl }

-- ---- a storey

pub take-means : (n : ℕ) (p : Storey) (w : ℕ) (s : Floor) → Means (take_ok n p w s) (TakeFit n p w s)
unfolding take_ok
take-means n p w s =
    let c = word s.counts (count_at p (way_below p s.bits w)) in
    means-by
    (means-and (means-and (means-and (means-ltb w p.words) (means-not (means-eqb (word s.bits (p.base + w)) 0))) (means-not (means-eqb c 0))) (means-leb c n))
    (λ x. record { within = x.0.0.0; word≢ = x.0.0.1; counted = x.0.1; most = x.1 })
    (λ h. (((h.within, h.word≢), h.counted), h.most))

pub put-means : (n : ℕ) (p : Storey) (j : ℕ) (s : Floor) → Means (put_ok n p j s) (PutFit n p j s)
unfolding put_ok
put-means n p j s =
    let c = word s.counts (count_at p j) in
    means-by
    (means-and (means-differ (means-eqb c 0) (bit_of s.bits p j) (clear-means (bit_no s.bits p j) (bit-lt (word_of s.bits p j) (j % 64)))) (means-ltb c n))
    (λ x. record { agrees = x.0; room = x.1 })
    (λ h. (h.agrees, h.room))

takes-means : (n : ℕ) (p : Storey) (b : Bool) (w : ℕ) (s : Floor) → Means (take_if_ok n p b w s) (TakesFit n p b w s)
takes-means n p true w s = take-means n p w s
takes-means n p false w s = always-so

new-means : (k : Lay) (p : Storey) (d : ℕ) (x : Option Element) (s : Floor) → Means (put_if_ok k p d x s) (NewFit k p d x s)
new-means k p d None s = always-so
new-means k p d (Some x) s = means-and (means-ltb x.rank.0 k.ranks) (put-means k.nodes p (lead d x.rank.0) s)

pub storey-means : (k : Lay) (p : Storey) (d : ℕ) (q : Request) (w : ℕ) (s : Floor) → Means (storey_ok k p d q w s) (StoreyFit k p d q w s)
unfolding storey_ok
storey-means k p d q w s = means-and (takes-means k.nodes p (takes q) w s) (new-means k p d (newcomer q) (take_if p (takes q) w s))

-- ---- the buckets

module _ (k : Lay) where
  pub bucket-take-means : (r : ℕ) (w : List ℕ) → Means (bucket_take_ok k r w) (BucketTakeFit k r w)
  unfolding bucket_take_ok pop_ok
  bucket-take-means r w =
      let n = k.nodes in
      let head = word w (head_at k r) in
      let tail = word w (tail_at k r) in
      let next = next_of k w head in
      means-by
      (means-and (means-and (means-ltb r k.ranks) (means-leb (word w k.free) n))
      (means-and (means-and (means-and (means-and (means-and (means-and (means-not (means-eqb head 0)) (means-not (means-eqb tail 0))) (means-leb head n)) (means-leb tail n)) (means-leb next n)) (means-eqb (next_of k w tail) 0))
      (means-beq (means-eqb next 0) (means-eqb head tail))))
      (λ x. let y = x.1 in record { within = x.0.0; free≤ = x.0.1; head≢ = y.0.0.0.0.0.0; tail≢ = y.0.0.0.0.0.1; head≤ = y.0.0.0.0.1; tail≤ = y.0.0.0.1; next≤ = y.0.0.1; behind0 = y.0.1; ends = y.1 })
      (λ h. ((h.within, h.free≤), ((((((h.head≢, h.tail≢), h.head≤), h.tail≤), h.next≤), h.behind0), h.ends)))

  pub bucket-put-means : (r : ℕ) (w : List ℕ) → Means (bucket_put_ok k r w) (BucketPutFit k r w)
  unfolding bucket_put_ok
  bucket-put-means r w =
      let n = k.nodes in
      let head = word w (head_at k r) in
      let tail = word w (tail_at k r) in
      let free = word w k.free in
      means-by
      (means-and (means-and (means-and (means-and (means-and (means-and (means-and (means-and (means-ltb r k.ranks) (means-beq (means-eqb head 0) (means-eqb tail 0))) (means-leb head n)) (means-leb tail n)) (means-leb free n)) (means-not (means-eqb free 0)))
      (means-leb (next_of k w free) n)) (means-eqb (next_of k w tail) 0)) (means-not (means-eqb free tail)))
      (λ x. record { within = x.0.0.0.0.0.0.0.0; both = x.0.0.0.0.0.0.0.1; head≤ = x.0.0.0.0.0.0.1; tail≤ = x.0.0.0.0.0.1; free≤ = x.0.0.0.0.1; free≢ = x.0.0.0.1; next≤ = x.0.0.1; behind0 = x.0.1; other = x.1 })
      (λ h. ((((((((h.within, h.both), h.head≤), h.tail≤), h.free≤), h.free≢), h.next≤), h.behind0), h.other))

  bucket-takes-means : (b : Bool) (r : ℕ) (w : List ℕ) → Means (bucket_take_if_ok k b r w) (BucketTakesFit k b r w)
  bucket-takes-means true r w = bucket-take-means r w
  bucket-takes-means false r w = always-so

  bucket-new-means : (x : Option Element) (w : List ℕ) → Means (bucket_put_if_ok k x w) (BucketNewFit k x w)
  bucket-new-means None w = always-so
  bucket-new-means (Some x) w = bucket-put-means x.rank.0 w

  pub bucket-means : (q : Request) (r : ℕ) (w : List ℕ) → Means (bucket_ok k q r w) (BucketFit k q r w)
  unfolding bucket_ok
  bucket-means q r w = means-and (bucket-takes-means (takes q) r w) (bucket-new-means (newcomer q) (bucket_take_if k (takes q) r w))

  -- ---- all stages, and held

  pub stages-means : (e d : ℕ) (g : Waiting) (m : Desk) → Means (stages_ok k e d g m) (StagesFit k e d g m)
  unfolding stages_ok
  stages-means e zero g m = bucket-means g.does g.way m.words
  stages-means e (suc d) g m = means-and (storey-means k (storey k.bits e) d g.does g.way (floor_of m)) (stages-means (suc e) d (work_at m.records e) m)

  held-means : (q : Request) (w : List ℕ) → Means (held_ok k q w) (HeldFit k q w)
  held-means Idle w = always-so
  held-means (Push x) w = means-leb (word w k.held) k.nodes
  held-means Pop w = means-leb (word w k.held) k.nodes
  held-means (Replace x) w = means-leb (word w k.held) k.nodes

  pub cycle-means : (q : Request) (m : Desk) → Means (cycle_ok k q m) (CycleFit k q m)
  unfolding cycle_ok
  cycle-means q m = means-and (held-means q m.words) (stages-means 0 k.storeys (waiting (rule_now k q m).op 0) m)

  pub desk-means : (m : Desk) → Means (desk_ok k m) (DeskShaped k m)
  unfolding desk_ok
  desk-means m = means-by (means-and (shape-means k m.bits m.words) (means-leb (count_words k) (length m.counts))) (λ x. record { store = x.0; counts = x.1 }) (λ h. (h.store, h.counts))

-- a test that stands for a fact fails where the fact does not hold
pub means-fails : {t : Bool} {P : Type 0} → Means t P → Fails t (P → ⊥)
means-fails m = record { found = λ e. means-no m e; shown = λ n. means-off m n }
