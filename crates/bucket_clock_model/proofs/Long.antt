-- A cycle keeps the lengths, whatever stands in the machine.
use Rattle.laws.specs.Prelude.{Element, Bool, Idle, List, Pop, Push, Replace, Request, ◌∙◌, ◌≡◌, false, length, length-set, pred, refl, suc, true, zero, ℕ}
use Rattle.bucket_model.specs.declared.Lay.{Lay}
use Rattle.bucket_model.specs.Prelude.{Storey, storey, word}
use Rattle.std.specs.Prelude.{Option}
use Rattle.std.specs.Prelude.{None, Some}
use Rattle.bucket_clock_model.specs.declared.Waiting.{Waiting}
use Rattle.bucket_clock_model.specs.Desk.{Desk, floor_of, handed, held_words, stage_done, stages, cycle_run, waiting, work_at}
use Rattle.bucket_clock_model.specs.Lists.{newcomer, takes}
use Rattle.bucket_clock_model.specs.Words.{bit_off, bit_on, Floor, put_if, staged, storey_put, storey_take, take_if}
use Rattle.bucket_clock_model.proofs.Links.{stage-long}

pub record Long (m u : Desk) : Type 0 where
  pub bits : length u.bits ≡ length m.bits
  pub counts : length u.counts ≡ length m.counts
  pub words : length u.words ≡ length m.words
  pub records : length u.records ≡ length m.records

pub record Broad (s u : Floor) : Type 0 where
  pub bits : length u.bits ≡ length s.bits
  pub counts : length u.counts ≡ length s.counts

module _ (p : Storey) where
  off-long : (m n : ℕ) (b : List ℕ) → length (bit_off p m n b) ≡ length b
  off-long m zero b = length-set b _ _
  off-long m (suc n) b = refl

  on-long : (m n : ℕ) (b : List ℕ) → length (bit_on p m n b) ≡ length b
  on-long m zero b = length-set b _ _
  on-long m (suc n) b = refl

  takes-broad : (t : Bool) (w : ℕ) (s : Floor) → Broad s (take_if p t w s)
  unfolding storey_take
  takes-broad true w s = record { bits = off-long _ (pred (word s.counts _)) s.bits; counts = length-set s.counts _ _ }
  takes-broad false w s = record { bits = refl; counts = refl }

  puts-broad : (d : ℕ) (x : Option Element) (s : Floor) → Broad s (put_if p d x s)
  unfolding storey_put
  puts-broad d None s = record { bits = refl; counts = refl }
  puts-broad d (Some x) s = record { bits = on-long _ (word s.counts _) s.bits; counts = length-set s.counts _ _ }

  pub staged-broad : (d : ℕ) (q : Request) (w : ℕ) (s : Floor) → Broad s (staged p d q w s)
  staged-broad d q w s =
      let a = takes-broad (takes q) w s in
      let b = puts-broad d (newcomer q) (take_if p (takes q) w s) in
      record { bits = b.bits ∙ a.bits; counts = b.counts ∙ a.counts }

stages-long : (k : Lay) (e d : ℕ) (g : Waiting) (m : Desk) → Long m (stages k e d g m).next
unfolding stages
stages-long k e zero g m = record { bits = refl; counts = refl; words = stage-long k g.does g.way m.words; records = refl }
stages-long k e (suc d) g m =
    let p = storey k.bits e in
    let a = staged-broad p d g.does g.way (floor_of m) in
    let x = stages-long k (suc e) d (work_at m.records e) (stage_done k e d g m) in
    record { bits = x.bits ∙ a.bits; counts = x.counts ∙ a.counts; words = x.words; records = x.records ∙ length-set m.records e (handed p g m.bits) }

pub held-long : (k : Lay) (q : Request) (w : List ℕ) → length (held_words k q w) ≡ length w
held-long k Idle w = refl
held-long k (Push x) w = length-set w k.held _
held-long k Pop w = length-set w k.held _
held-long k (Replace x) w = refl

pub cycle-long : (k : Lay) (q : Request) (m : Desk) → Long m (cycle_run k q m).next
unfolding cycle_run
cycle-long k q m =
    let x = stages-long k 0 k.storeys (waiting q 0) m in
    record { bits = x.bits; counts = x.counts; words = held-long k q (stages k 0 k.storeys (waiting q 0) m).next.words ∙ x.words; records = x.records }
