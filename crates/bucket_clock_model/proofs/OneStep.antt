-- ONE STEP: in every cycle each stage does its own work on the words as they stood at the cycle's start, and writes its own words and the record below
-- it, no others. Whatever stands in the machine, where no test fails.
use Rattle.laws.specs.Prelude.{Element, BadShape, Bool, Damaged, Idle, List, Pop, Push, Replace, Request, ◌%◌, ◌*◌, ◌+◌, ◌-◌, ◌/◌, ◌<◌, ◌^◌, ◌∙◌, ◌≡◌, ◌≤◌, ◌⊎◌, ap, arith, cond, cond_both, false, inl, inr, length, length-set, pred, refl, set, subst, suc, sym, true, zero, ℕ, ℕ_discrete}
use lib.Count.{count_trailing_zeros}
use Rattle.bitmap.specs.Bits as word64
use Rattle.bucket_model.proofs.Laws.{other}
use Rattle.bucket_model.specs.declared.Lay.{Lay}
use Rattle.bucket_model.specs.Prelude.{Laid, Storey, bit_words, store_words, storey, word, words_of}
use Rattle.bucket_clock_model.specs.Damage.{NewFit, StagesFit, StoreyFit, TakesFit}
use Rattle.std.specs.Prelude.{Option}
use Rattle.std.specs.Prelude.{None, Some}
use Rattle.bucket_clock_model.specs.declared.Waiting.{Waiting}
use Rattle.bucket_clock_model.specs.Desk.{count_words, Desk, desk_ok, floor_of, handed, held_words, rule_now, stage_done, stages, cycle_done, cycled, cycle_ok, CycleOutcome, cycle_run, cycle_still, waiting, work_at}
use Rattle.bucket_clock_model.specs.Links.{bucket_leaves, bucket_stage}
use Rattle.bucket_clock_model.specs.Lists.{newcomer, takes}
use Rattle.bucket_clock_model.specs.Pipe.{lead}
use Rattle.bucket_clock_model.specs.Promise.{Rest, Steps}
use Rattle.bucket_clock_model.specs.Words.{bit_off, bit_on, count_at, Floor, put_if, staged, storey_put, storey_take, take_if, way_below, way_if}
use Rattle.bucket_clock_model.proofs.Damage.{cycle-means}
use Rattle.bucket_clock_model.proofs.Long.{Broad, staged-broad}
use Rattle.bucket_clock_model.proofs.Links.{set_both, stage-past}
use Rattle.bucket_clock_model.proofs.Worked.{rank-inside, words-le, work-other, work-same}

-- ---- the same words from a on

pub record From (a : ℕ) (b c : List ℕ) : Type 0 where
  pub long : length b ≡ length c
  pub at : (i : ℕ) → a ≤ i → word b i ≡ word c i

from-set : (a : ℕ) (b c : List ℕ) (y v u : ℕ) → v ≡ u → From a b c → From a (set b y v) (set c y u)
from-set a b c y v u e f = record { long = length-set b y v ∙ f.long ∙ sym (length-set c y u); at = there }
  where
    there : (i : ℕ) → a ≤ i → word (set b y v) i ≡ word (set c y u) i
    there i h = elim (ℕ_discrete i y) [
      | yes q ↦ ap (word (set b y v)) q ∙ set_both b c y v f.long ∙ ap (λ (x : ℕ). word (set c y x) y) e ∙ sym (ap (word (set c y u)) q)
      | no q ↦ other b y v i q ∙ f.at i h ∙ sym (other c y u i q)
    ]

-- of a storey's bits and counts, from its own first word on
pub record Onward (p : Storey) (s u : Floor) : Type 0 where
  pub bits : From p.base s.bits u.bits
  pub counts : From (64 * p.base) s.counts u.counts

-- ---- a stage's words: what it does goes by its own words, and it writes no others

-- outside so many words from a on
abbrev pub Outside : ℕ → ℕ → ℕ → Type 0
Outside a n i = (i < a) ⊎ (a + n ≤ i)

out-ne : (a n i y : ℕ) → Outside a n i → a ≤ y → y < a + n → i ≡ y → ⊥
out-ne a n i y (inl h) l m e = omega arith
out-ne a n i y (inr h) l m e = omega arith

module _ (p : Storey) (s u : Floor) (o : Onward p s u) where
  pub count_same : (m : ℕ) → word s.counts (count_at p m) ≡ word u.counts (count_at p m)
  count_same m = o.counts.at (count_at p m) (omega arith)

  pub bit-same : (m : ℕ) → word s.bits (p.base + m) ≡ word u.bits (p.base + m)
  bit-same m = o.bits.at (p.base + m) (omega arith)

  off-same : (m n : ℕ) → From p.base (bit_off p m n s.bits) (bit_off p m n u.bits)
  off-same m zero = from-set p.base s.bits u.bits (p.base + m / 64) _ _ (ap (λ (x : ℕ). x - 2 ^ (m % 64)) (bit-same (m / 64))) o.bits
  off-same m (suc n) = o.bits

  on_same : (m n : ℕ) → From p.base (bit_on p m n s.bits) (bit_on p m n u.bits)
  on_same m zero = from-set p.base s.bits u.bits (p.base + m / 64) _ _ (ap (λ (x : ℕ). x + 2 ^ (m % 64)) (bit-same (m / 64))) o.bits
  on_same m (suc n) = o.bits

  take_same : (m : ℕ) → Onward p (storey_take p m s) (storey_take p m u)
  unfolding storey_take
  take_same m =
      record {
        bits = subst (λ (c : ℕ). From p.base (bit_off p m (pred (word s.counts (count_at p m))) s.bits) (bit_off p m (pred c) u.bits)) (count_same m) (off-same m (pred (word s.counts (count_at p m))));
        counts = from-set (64 * p.base) s.counts u.counts (count_at p m) _ _ (ap pred (count_same m)) o.counts;
      }

  put_same : (m : ℕ) → Onward p (storey_put p m s) (storey_put p m u)
  unfolding storey_put
  put_same m =
      record {
        bits = subst (λ (c : ℕ). From p.base (bit_on p m (word s.counts (count_at p m)) s.bits) (bit_on p m c u.bits)) (count_same m) (on_same m (word s.counts (count_at p m)));
        counts = from-set (64 * p.base) s.counts u.counts (count_at p m) _ _ (ap suc (count_same m)) o.counts;
      }

  pub takes_same : (t : Bool) (w : ℕ) → Onward p (take_if p t w s) (take_if p t w u)
  takes_same true w =
      subst (λ (x : ℕ). Onward p (storey_take p (way_below p s.bits w) s) (storey_take p x u)) (ap (λ (x : ℕ). 64 * w + count_trailing_zeros 64 x) (bit-same w)) (take_same (way_below p s.bits w))
  takes_same false w = o

  -- the way, too
  pub way_same : (w : ℕ) → way_below p s.bits w ≡ way_below p u.bits w
  way_same w = ap (λ (x : ℕ). 64 * w + count_trailing_zeros 64 x) (bit-same w)

staged-same : (p : Storey) (d : ℕ) (q : Request) (w : ℕ) (s u : Floor) → Onward p s u → Onward p (staged p d q w s) (staged p d q w u)
staged-same p d q w s u o = go (newcomer q)
  where
    go : (x : Option Element) → Onward p (put_if p d x (take_if p (takes q) w s)) (put_if p d x (take_if p (takes q) w u))
    go None = takes_same p s u o (takes q) w
    go (Some x) = put_same p (take_if p (takes q) w s) (take_if p (takes q) w u) (takes_same p s u o (takes q) w) (lead d x.rank.0)

-- ---- what is written

pub record Stood (p : Storey) (s u : Floor) : Type 0 where
  pub bits : (i : ℕ) → Outside p.base p.words i → word u.bits i ≡ word s.bits i
  pub counts : (i : ℕ) → Outside (64 * p.base) (64 * p.words) i → word u.counts i ≡ word s.counts i

module _ (p : Storey) (s : Floor) (m : ℕ) (h : m < 64 * p.words) where
  off-stood : (n i : ℕ) → Outside p.base p.words i → word (bit_off p m n s.bits) i ≡ word s.bits i
  off-stood zero i o = other s.bits (p.base + m / 64) _ i (out-ne p.base p.words i (p.base + m / 64) o (omega arith) (omega arith))
  off-stood (suc n) i o = refl

  on-stood : (n i : ℕ) → Outside p.base p.words i → word (bit_on p m n s.bits) i ≡ word s.bits i
  on-stood zero i o = other s.bits (p.base + m / 64) _ i (out-ne p.base p.words i (p.base + m / 64) o (omega arith) (omega arith))
  on-stood (suc n) i o = refl

  count-stood : (v i : ℕ) → Outside (64 * p.base) (64 * p.words) i → word (set s.counts (count_at p m) v) i ≡ word s.counts i
  count-stood v i o = other s.counts (count_at p m) v i (out-ne (64 * p.base) (64 * p.words) i (count_at p m) o (omega arith) (omega arith))

  pub take-stood : Stood p s (storey_take p m s)
  unfolding storey_take
  take-stood = record { bits = off-stood (pred (word s.counts (count_at p m))); counts = count-stood (pred (word s.counts (count_at p m))) }

  pub put-stood : Stood p s (storey_put p m s)
  unfolding storey_put
  put-stood = record { bits = on-stood (word s.counts (count_at p m)); counts = count-stood (suc (word s.counts (count_at p m))) }

-- words of 64 bits: the way leads into the storey
pub way_in : (n : ℕ) (p : Storey) (w : ℕ) (s : Floor) → ((i : ℕ) → word s.bits i < 2 ^ 64) → TakesFit n p true w s → way_below p s.bits w < 64 * p.words
way_in n p w s wide f =
    let l = word64.lowest 64 (word s.bits (p.base + w)) (omega (arith, f.word≢)) (wide (p.base + w)) in
    omega (arith, l.within, f.within)

takes-stood : (n : ℕ) (p : Storey) (t : Bool) (w : ℕ) (s : Floor) → ((i : ℕ) → word s.bits i < 2 ^ 64) → TakesFit n p t w s → Stood p s (take_if p t w s)
takes-stood n p true w s wide f = take-stood p s (way_below p s.bits w) (way_in n p w s wide f)
takes-stood n p false w s wide f = record { bits = λ i o. refl; counts = λ i o. refl }

-- ---- what leaves

module _ (k : Lay) where
  -- what leaves does not depend on what stage 1 is handed
  stages-said : (d e : ℕ) (g : Waiting) (m : Desk) → (stages k e (suc d) g m).said ≡ bucket_leaves k (takes (work_at m.records (e + d)).does) (work_at m.records (e + d)).way m.words
  unfolding stages
  stages-said zero e g m = let a : e ≡ e + 0 = omega arith in ap (λ (i : ℕ). bucket_leaves k (takes (work_at m.records i).does) (work_at m.records i).way m.words) a
  stages-said (suc d) e g m =
      let a : suc e + d ≡ e + suc d = omega arith in
      stages-said d (suc e) (work_at m.records e) (stage_done k e (suc d) g m)
      ∙ ap (λ (u : Waiting). bucket_leaves k (takes u.does) u.way m.words) (work-other m.records e (suc e + d) (handed (storey k.bits e) g m.bits) (λ q. omega arith))
      ∙ ap (λ (i : ℕ). bucket_leaves k (takes (work_at m.records i).does) (work_at m.records i).way m.words) a

  pub leaving-is : (S : ℕ) (u : Request) (m : Desk) → 1 ≤ S → (stages k 0 S (waiting u 0) m).said ≡ bucket_leaves k (takes (work_at m.records (pred S)).does) (work_at m.records (pred S)).way m.words
  leaving-is zero u m h = absurd (omega arith)
  leaving-is (suc d) u m h =
      let a : 0 + d ≡ d = omega arith in
      stages-said d 0 (waiting u 0) m ∙ ap (λ (i : ℕ). bucket_leaves k (takes (work_at m.records i).does) (work_at m.records i).way m.words) a

-- ---- all stages

module _ (k : Lay) (laid : Laid k) where
  abbrev S : ℕ
  S = k.storeys

  abbrev from : ℕ → ℕ
  from e = k.bits + words_of e

  -- a stage that passes its tests writes its own words alone, on words that are the start's from its own on
  staged-stood : (e d : ℕ) → e + suc d ≡ k.storeys → (q : Request) (w : ℕ) (s u : Floor) → Onward (storey k.bits e) s u → ((i : ℕ) → word s.bits i < 2 ^ 64) → StoreyFit k (storey k.bits e) d q w s
      → Stood (storey k.bits e) u (staged (storey k.bits e) d q w u)
  staged-stood e d e_s q w s u o wide f = new (newcomer q) f.1 (took (takes q) f.0)
    where
      p : Storey
      p = storey k.bits e

      took : (t : Bool) → TakesFit k.nodes (storey k.bits e) t w s → Stood (storey k.bits e) u (take_if (storey k.bits e) t w u)
      took true g =
          take-stood (storey k.bits e) u (way_below (storey k.bits e) u.bits w)
          (subst (λ (x : ℕ). x < 64 * 64 ^ e) (way_same (storey k.bits e) s u o w) (way_in k.nodes (storey k.bits e) w s wide g))
      took false g = record { bits = λ i o. refl; counts = λ i o. refl }

      new : (x : Option Element) → NewFit k (storey k.bits e) d x (take_if (storey k.bits e) (takes q) w s) → Stood (storey k.bits e) u (take_if (storey k.bits e) (takes q) w u)
          → Stood (storey k.bits e) u (put_if (storey k.bits e) d x (take_if (storey k.bits e) (takes q) w u))
      new None g a = a
      new (Some x) g a =
          let b = put-stood (storey k.bits e) (take_if (storey k.bits e) (takes q) w u) (lead d x.rank.0) (rank-inside e d k.storeys x.rank.0 e_s (omega (arith, g.0, laid.ranks))) in
          record { bits = λ i o. b.bits i o ∙ a.bits i o; counts = λ i o. b.counts i o ∙ a.counts i o }

  -- the stages from storey e on, of a machine u that is the start's from there on
  record Went (e d : ℕ) (g : Waiting) (m u r : Desk) : Type 0 where
    steps : Steps k e d g m r
    bits : (i : ℕ) → (i < k.bits + words_of e) ⊎ (k.bits + words_of k.storeys ≤ i) → word r.bits i ≡ word u.bits i
    counts : (i : ℕ) → (i < 64 * (k.bits + words_of e)) ⊎ (64 * (k.bits + words_of k.storeys) ≤ i) → word r.counts i ≡ word u.counts i
    records : (n : ℕ) → (n < e) ⊎ (k.storeys ≤ n) → work_at r.records n ≡ work_at u.records n

  past : (a b c i : ℕ) → a ≤ b → b ≤ c → (i < a) ⊎ (c ≤ i) → (i < b) ⊎ (c ≤ i)
  past a b c i h l (inl x) = inl (omega arith)
  past a b c i h l (inr x) = inr x

  apart : (a n c i : ℕ) → a + n ≤ c → (i < a) ⊎ (c ≤ i) → (i < a) ⊎ (a + n ≤ i)
  apart a n c i h (inl x) = inl x
  apart a n c i h (inr x) = inr (omega arith)

  elsewhere : (e S n : ℕ) → e < S → (n < e) ⊎ (S ≤ n) → n ≡ e → ⊥
  elsewhere e S n h (inl x) q = omega arith
  elsewhere e S n h (inr x) q = omega arith

  went : (d e : ℕ) → e + d ≡ k.storeys → (g : Waiting) (m u : Desk) → Onward (storey k.bits e) (floor_of m) (floor_of u) → ((n : ℕ) → e ≤ n → work_at u.records n ≡ work_at m.records n) → u.words ≡ m.words
      → k.storeys ≤ length u.records → ((i : ℕ) → word m.bits i < 2 ^ 64) → StagesFit k e d g m → Went e d g m u (stages k e d g u).next
  unfolding stages
  went zero e e_s g m u o rs ws long wide fit =
      record { steps = ap (bucket_stage k g.does g.way) ws; bits = λ i x. refl; counts = λ i x. refl; records = λ n x. refl }
  went (suc d) e e_s g m u o rs ws long wide fit =
      let p : Storey = storey k.bits e in
      let v : Waiting = handed (storey k.bits e) g u.bits in
      let u1 : Desk = stage_done k e d g u in
      let le : words_of e + 64 ^ e ≤ words_of k.storeys = words-le e k.storeys (omega arith) in
      let same : Onward (storey k.bits e) (staged (storey k.bits e) d g.does g.way (floor_of m)) (floor_of u1) = staged-same (storey k.bits e) d g.does g.way (floor_of m) (floor_of u) o in
      let st : Stood (storey k.bits e) (floor_of u) (floor_of u1) = staged-stood e d e_s g.does g.way (floor_of m) (floor_of u) o wide fit.0 in
      let br : Broad (floor_of u) (floor_of u1) = staged-broad (storey k.bits e) d g.does g.way (floor_of u) in
      let next : Onward (storey k.bits (suc e)) (floor_of m) (floor_of u1) =
      record {
        bits = record { long = o.bits.long ∙ sym br.bits; at = λ i h. o.bits.at i (omega arith) ∙ sym (st.bits i (inr (omega arith))) };
        counts = record { long = o.counts.long ∙ sym br.counts; at = λ i h. o.counts.at i (omega arith) ∙ sym (st.counts i (inr (omega arith))) };
      } in
      let x : Went (suc e) d (work_at m.records e) m u1 (stages k (suc e) d (work_at u.records e) u1).next =
      subst (λ (h : Waiting). Went (suc e) d (work_at m.records e) m u1 (stages k (suc e) d h u1).next) (sym (rs e (omega arith)))
      (went d (suc e) (omega arith) (work_at m.records e) m u1 next (λ n l. work-other u.records e n v (λ q. omega arith) ∙ rs n (omega arith)) ws (omega (arith, length-set u.records e v)) wide fit.1) in
      record {
        steps = (
          record {
            bits = λ i a b. x.bits i (inl b) ∙ sym (same.bits.at i a);
            counts = λ i a b. x.counts i (inl b) ∙ sym (same.counts.at i a);
            pends = x.records e (inl (omega arith)) ∙ work-same u.records e v (omega arith) ∙ sym (ap (λ (y : ℕ). waiting g.does (way_if (takes g.does) y)) (way_same (storey k.bits e) (floor_of m) (floor_of u) o g.way));
          },
          x.steps,
        );
        bits = λ i y. x.bits i (past (k.bits + words_of e) (k.bits + words_of (suc e)) (k.bits + words_of k.storeys) i (omega arith) (omega arith) y) ∙ st.bits i (apart (k.bits + words_of e) (64 ^ e) (k.bits + words_of k.storeys) i (omega arith) y);
        counts = λ i y. x.counts i (past (64 * (k.bits + words_of e)) (64 * (k.bits + words_of (suc e))) (64 * (k.bits + words_of k.storeys)) i (omega arith) (omega arith) y) ∙ st.counts i (apart (64 * (k.bits + words_of e)) (64 * 64 ^ e) (64 * (k.bits + words_of k.storeys)) i (omega arith) y);
        records = λ n y. x.records n (past e (suc e) k.storeys n (omega arith) (omega arith) y) ∙ work-other u.records e n v (elsewhere e k.storeys n (omega arith) y);
      }

  -- ---- the cycle

  module _ (q : Request) (m : Desk) (long : k.storeys ≤ length m.records) (wide : (i : ℕ) → word m.bits i < 2 ^ 64) (fit : StagesFit k 0 k.storeys (waiting q 0) m) where
    whole : Went 0 k.storeys (waiting q 0) m m (stages k 0 k.storeys (waiting q 0) m).next
    whole =
        went k.storeys 0 (omega arith) (waiting q 0) m m (record { bits = record { long = refl; at = λ i h. refl }; counts = record { long = refl; at = λ i h. refl } }) (λ n l. refl) refl long wide fit

    -- each stage, by what stood at the cycle's start
    pub one-step : Steps k 0 k.storeys (waiting q 0) m (stages k 0 k.storeys (waiting q 0) m).next
    one-step = whole.steps

    -- words of bits before the queue's stand
    pub bits-low : (i : ℕ) → i < k.bits → word (stages k 0 k.storeys (waiting q 0) m).next.bits i ≡ word m.bits i
    bits-low i h = whole.bits i (inl (omega arith))

    pub counts-low : (i : ℕ) → i < 64 * k.bits → word (stages k 0 k.storeys (waiting q 0) m).next.counts i ≡ word m.counts i
    counts-low i h = whole.counts i (inl (omega arith))

    -- bits, counts and records past the shape stand
    pub bits-rest : (i : ℕ) → bit_words k ≤ i → word (cycle_run k q m).next.bits i ≡ word m.bits i
    unfolding cycle_run
    bits-rest i h = whole.bits i (inr (omega (arith, laid.tower)))

    pub counts-rest : (i : ℕ) → count_words k ≤ i → word (cycle_run k q m).next.counts i ≡ word m.counts i
    unfolding cycle_run
    counts-rest i h = whole.counts i (inr (omega (arith, laid.tower)))

    pub records-rest : (i : ℕ) → k.storeys ≤ i → work_at (cycle_run k q m).next.records i ≡ work_at m.records i
    unfolding cycle_run
    records-rest i h = whole.records i (inr h)

    -- heads, tails, nodes, free link and held alone are written of the words
    last_fit : (d e : ℕ) (g : Waiting) → StagesFit k e d g m → (w : List ℕ) → Steps k e d g m (stages k 0 k.storeys (waiting q 0) m).next → (i : ℕ) → k.held ≤ i → word (stages k 0 k.storeys (waiting q 0) m).next.words i ≡ word m.words i
    last_fit zero e g f w s i h = ap (λ (x : List ℕ). word x i) s ∙ stage-past k laid i h g.does g.way m.words f
    last_fit (suc d) e g f w s i h = last_fit d (suc e) (work_at m.records e) f.1 w s.1 i h

    pub words-rest : (i : ℕ) → store_words k ≤ i → word (cycle_run k q m).next.words i ≡ word m.words i
    unfolding cycle_run
    words-rest i h = held-past q (stages k 0 k.storeys (waiting q 0) m).next.words ∙ last_fit k.storeys 0 (waiting q 0) fit m.words one-step i (omega arith)
      where
        held-past : (q : Request) (w : List ℕ) → word (held_words k q w) i ≡ word w i
        held-past Idle w = refl
        held-past (Push x) w = other w k.held _ i (λ e. omega arith)
        held-past Pop w = other w k.held _ i (λ e. omega arith)
        held-past (Replace x) w = refl

    pub run-rest : Rest k m (cycle_run k q m).next
    run-rest = record { bits = bits-rest; counts = counts-rest; words = words-rest; records = records-rest }

  -- REST: whatever is asked and whatever stands in the machine, words past the shape and records past S are left alone
  pub rest : (q : Request) (m : Desk) → k.storeys ≤ length m.records → ((i : ℕ) → word m.bits i < 2 ^ 64) → Rest k m (cycled k q m).desk
  unfolding cycled
  rest q m long wide =
      let still : Rest k m m = record { bits = λ i h. refl; counts = λ i h. refl; words = λ i h. refl; records = λ i h. refl } in
      cond_both (λ (o : CycleOutcome). Rest k m o.desk) (desk_ok k m) (cond (cycle_ok k q m) (cycle_done k (rule_now k q m) m) (cycle_still m Damaged)) (cycle_still m BadShape)
      (λ _. cond_both (λ (o : CycleOutcome). Rest k m o.desk) (cycle_ok k q m) (cycle_done k (rule_now k q m) m) (cycle_still m Damaged) (λ e. run-rest (rule_now k q m).op m long wide ((cycle-means k q m).says e).1) (λ _. still)) (λ _. still)
