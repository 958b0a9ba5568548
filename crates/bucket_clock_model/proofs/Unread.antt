-- UNREAD: words past the shape and records past S are not read. Two machines that are the same within the shape answer alike, and are the same within the shape afterwards.
use Rattle.laws.specs.Prelude.{Element, Bool, Damaged, Idle, List, Pop, Push, Replace, Request, [], ◌%◌, ◌*◌, ◌+◌, ◌-◌, ◌/◌, ◌<◌, ◌^◌, ◌∙◌, ◌∷◌, ◌≡◌, ◌≤◌, ap, arith, cond, dec_lt, false, length, length-set, means-no, pred, refl, set, subst, suc, sym, true, zero, ℕ, ℕ_discrete, Ok, None, Err}
use lib.Count.{count_trailing_zeros}
use Rattle.bitmap.specs.Bits.{bit_at}
use Rattle.bucket_model.proofs.Laws.{other, same}
use Rattle.bucket_model.specs.Prelude.{Laid, Load, Storey, bit_no, bit_words, cell, head_at, load_in, loaded, store_words, storey, word, words_of, write}
use Rattle.bucket_model.specs.declared.Lay.{Lay}
use Rattle.promise.specs.Prelude.{Ruling, decided, ruling}
use Rattle.bucket_clock_model.specs.Clock.{late_table}
use Rattle.bucket_clock_model.specs.Damage.{BucketFit, BucketNewFit, BucketTakesFit, DeskShaped, HeldFit, NewFit, StagesFit, StoreyFit, TakesFit, CycleFit}
use Rattle.std.specs.Prelude.{Option}
use Rattle.std.specs.Prelude.{None, Some}
use Rattle.bucket_clock_model.specs.declared.Waiting.{Waiting}
use Rattle.bucket_clock_model.specs.Desk.{count_words, Desk, floor_of, held_words, rule_now, stages, cycle_done, cycled, cycle_ok, cycle_run, cycle_still, waiting, work_at}
use Rattle.bucket_clock_model.specs.Links.{bucket_leaves, bucket_put, bucket_put_if, bucket_stage, bucket_take, bucket_take_if, put_writes, take_writes}
use Rattle.bucket_clock_model.specs.Lists.{newcomer, takes}
use Rattle.bucket_clock_model.specs.Pipe.{lead}
use Rattle.bucket_clock_model.specs.Promise.{Alike, Near, Steps}
use Rattle.bucket_clock_model.specs.Words.{bit_off, bit_on, count_at, Floor, put_if, staged, storey_put, storey_take, take_if, way_below, way_if}
use Rattle.bucket_clock_model.proofs.Damage.{desk-means, cycle-means}
use Rattle.bucket_clock_model.proofs.StageReads.{head-same, put-fit-low, put_same, take-fit-low, take_same}
use Rattle.bucket_clock_model.proofs.OneStep.{bits-low, counts-low, leaving-is, one-step, way_in}
use Rattle.bucket_clock_model.proofs.Worked.{rank-inside, words-le}

-- ---- the same words up to n

record Under (n : ℕ) (b c : List ℕ) : Type 0 where
  left : n ≤ length b
  right : n ≤ length c
  at : (i : ℕ) → i < n → word b i ≡ word c i

under-set : (n : ℕ) (b c : List ℕ) (y v u : ℕ) → v ≡ u → Under n b c → Under n (set b y v) (set c y u)
under-set n b c y v u e f = record { left = omega (arith, length-set b y v, f.left); right = omega (arith, length-set c y u, f.right); at = there }
  where
    there : (i : ℕ) → i < n → word (set b y v) i ≡ word (set c y u) i
    there i h = elim (ℕ_discrete i y) [
      | yes q ↦ ap (word (set b y v)) q ∙ same b y v (omega (arith, f.left)) ∙ e ∙ sym (same c y u (omega (arith, f.right))) ∙ sym (ap (word (set c y u)) q)
      | no q ↦ other b y v i q ∙ f.at i h ∙ sym (other c y u i q)
    ]

under-write : (n : ℕ) (ps : List (ℕ × ℕ)) (b c : List ℕ) → Under n b c → Under n (write b ps) (write c ps)
under-write n [] b c f = f
under-write n (p ∷ ps) b c f = under-write n ps (set b p.0 p.1) (set c p.0 p.1) (under-set n b c p.0 p.1 p.1 refl f)

module _ (k : Lay) (laid : Laid k) where
  record Pair (s t : Floor) : Type 0 where
    bits : Under (bit_words k) s.bits t.bits
    counts : Under (count_words k) s.counts t.counts

  -- ---- a storey

  module _ (e d : ℕ) (e_s : e + suc d ≡ k.storeys) where
    abbrev p : Storey
    p = storey k.bits e

    inside : k.bits + words_of e + 64 ^ e ≤ bit_words k
    inside = omega (arith, words-le e k.storeys (omega arith), laid.tower)

    module _ (s t : Floor) (P : Pair s t) where
      word_same : (x : ℕ) → x < 64 ^ e → word s.bits (k.bits + words_of e + x) ≡ word t.bits (k.bits + words_of e + x)
      word_same x h = P.bits.at (k.bits + words_of e + x) (omega (arith, inside))

      count_same : (j : ℕ) → j < 64 * 64 ^ e → word s.counts (count_at p j) ≡ word t.counts (count_at p j)
      count_same j h = P.counts.at (count_at p j) (omega (arith, inside))

      off-pair : (m n : ℕ) → m < 64 * 64 ^ e → Under (bit_words k) (bit_off p m n s.bits) (bit_off p m n t.bits)
      off-pair m zero h = under-set (bit_words k) s.bits t.bits (k.bits + words_of e + m / 64) _ _ (ap (λ (x : ℕ). x - 2 ^ (m % 64)) (word_same (m / 64) (omega arith))) P.bits
      off-pair m (suc n) h = P.bits

      on-pair : (m n : ℕ) → m < 64 * 64 ^ e → Under (bit_words k) (bit_on p m n s.bits) (bit_on p m n t.bits)
      on-pair m zero h = under-set (bit_words k) s.bits t.bits (k.bits + words_of e + m / 64) _ _ (ap (λ (x : ℕ). x + 2 ^ (m % 64)) (word_same (m / 64) (omega arith))) P.bits
      on-pair m (suc n) h = P.bits

      take-pair : (m : ℕ) → m < 64 * 64 ^ e → Pair (storey_take p m s) (storey_take p m t)
      unfolding storey_take
      take-pair m h =
          record {
            bits = subst (λ (c : ℕ). Under (bit_words k) (bit_off p m (pred (word s.counts (count_at p m))) s.bits) (bit_off p m (pred c) t.bits)) (count_same m h) (off-pair m (pred (word s.counts (count_at p m))) h);
            counts = under-set (count_words k) s.counts t.counts (count_at p m) _ _ (ap pred (count_same m h)) P.counts;
          }

      put-pair : (m : ℕ) → m < 64 * 64 ^ e → Pair (storey_put p m s) (storey_put p m t)
      unfolding storey_put
      put-pair m h =
          record {
            bits = subst (λ (c : ℕ). Under (bit_words k) (bit_on p m (word s.counts (count_at p m)) s.bits) (bit_on p m c t.bits)) (count_same m h) (on-pair m (word s.counts (count_at p m)) h);
            counts = under-set (count_words k) s.counts t.counts (count_at p m) _ _ (ap suc (count_same m h)) P.counts;
          }

      -- a newcomer
      new-fit : (x : Option Element) → NewFit k p d x s → NewFit k p d x t
      new-fit None f = tt
      new-fit (Some x) f =
          let j : ℕ = lead d x.rank.0 in
          let h : lead d x.rank.0 < 64 * 64 ^ e = rank-inside e d k.storeys x.rank.0 e_s (omega (arith, f.0, laid.ranks)) in
          let c : word s.counts (count_at p (lead d x.rank.0)) ≡ word t.counts (count_at p (lead d x.rank.0)) = count_same (lead d x.rank.0) h in
          let b : bit_no s.bits p (lead d x.rank.0) ≡ bit_no t.bits p (lead d x.rank.0) = ap (λ (w : ℕ). bit_at w (lead d x.rank.0 % 64)) (word_same (lead d x.rank.0 / 64) (omega arith)) in
          (f.0, record { agrees = record { to = λ z. sym b ∙ f.1.agrees.to (c ∙ z); from = λ z. sym c ∙ f.1.agrees.from (b ∙ z) }; room = subst (λ (y : ℕ). y < k.nodes) c f.1.room })

      new-pair : (x : Option Element) → NewFit k p d x s → Pair (put_if p d x s) (put_if p d x t)
      new-pair None f = P
      new-pair (Some x) f = put-pair (lead d x.rank.0) (rank-inside e d k.storeys x.rank.0 e_s (omega (arith, f.0, laid.ranks)))

      -- what is taken
      module _ (wide : (i : ℕ) → word s.bits i < 2 ^ 64) (w : ℕ) where
        way_same : TakesFit k.nodes p true w s → way_below p s.bits w ≡ way_below p t.bits w
        way_same f = ap (λ (x : ℕ). 64 * w + count_trailing_zeros 64 x) (word_same w f.within)

        takes-way : (b : Bool) → TakesFit k.nodes p b w s → way_if b (way_below p s.bits w) ≡ way_if b (way_below p t.bits w)
        takes-way true f = way_same f
        takes-way false f = refl

        takes-pair : (b : Bool) → TakesFit k.nodes p b w s → Pair (take_if p b w s) (take_if p b w t)
        takes-pair true f = subst (λ (x : ℕ). Pair (storey_take p (way_below p s.bits w) s) (storey_take p x t)) (way_same f) (take-pair (way_below p s.bits w) (way_in k.nodes p w s wide f))
        takes-pair false f = P

        takes-fit : (b : Bool) → TakesFit k.nodes p b w s → TakesFit k.nodes p b w t
        takes-fit true f =
            let v : word s.bits (k.bits + words_of e + w) ≡ word t.bits (k.bits + words_of e + w) = word_same w f.within in
            let c : word s.counts (count_at p (way_below p s.bits w)) ≡ word t.counts (count_at p (way_below p t.bits w)) =
            count_same (way_below p s.bits w) (way_in k.nodes p w s wide f) ∙ ap (λ (x : ℕ). word t.counts (count_at p x)) (way_same f) in
            record { within = f.within; word≢ = λ z. f.word≢ (v ∙ z); counted = λ z. f.counted (c ∙ z); most = subst (λ (x : ℕ). x ≤ k.nodes) c f.most }
        takes-fit false f = tt

    storey-fit : (q : Request) (w : ℕ) (s t : Floor) → Pair s t → ((i : ℕ) → word s.bits i < 2 ^ 64) → StoreyFit k p d q w s → StoreyFit k p d q w t
    storey-fit q w s t P wide f = (takes-fit s t P wide w (takes q) f.0, new-fit (take_if p (takes q) w s) (take_if p (takes q) w t) (takes-pair s t P wide w (takes q) f.0) (newcomer q) f.1)

    staged-pair : (q : Request) (w : ℕ) (s t : Floor) → Pair s t → ((i : ℕ) → word s.bits i < 2 ^ 64) → StoreyFit k p d q w s → Pair (staged p d q w s) (staged p d q w t)
    staged-pair q w s t P wide f = new-pair (take_if p (takes q) w s) (take_if p (takes q) w t) (takes-pair s t P wide w (takes q) f.0) (newcomer q) f.1

  -- ---- the buckets

  module _ (w v : List ℕ) (U : Under (store_words k) w v) where
    low : (a : ℕ) → a < k.held → word w a ≡ word v a
    low a h = U.at a (omega arith)

    back : (a : ℕ) → a < k.held → word v a ≡ word w a
    back a h = sym (low a h)

    out-fit : (b : Bool) (r : ℕ) → BucketTakesFit k b r w → BucketTakesFit k b r v
    out-fit true r f = take-fit-low k laid v w back r f
    out-fit false r f = tt

    out-under : (b : Bool) (r : ℕ) → BucketTakesFit k b r w → Under (store_words k) (bucket_take_if k b r w) (bucket_take_if k b r v)
    unfolding bucket_take
    out-under true r f = subst (λ (ps : List (ℕ × ℕ)). Under (store_words k) (write w (take_writes k w r)) (write v ps)) (take_same k laid w v low r f.within) (under-write (store_words k) (take_writes k w r) w v U)
    out-under false r f = U

    in-fit : (x : Option Element) → BucketNewFit k x w → BucketNewFit k x v
    in-fit None f = tt
    in-fit (Some x) f = put-fit-low k laid v w back x.rank.0 f

    in-under : (x : Option Element) → BucketNewFit k x w → Under (store_words k) (bucket_put_if k x w) (bucket_put_if k x v)
    unfolding bucket_put
    in-under None f = U
    in-under (Some x) f = subst (λ (ps : List (ℕ × ℕ)). Under (store_words k) (write w (put_writes k w x)) (write v ps)) (put_same k laid w v low x f.within) (under-write (store_words k) (put_writes k w x) w v U)

    leaves-same : (b : Bool) (r : ℕ) → BucketTakesFit k b r w → bucket_leaves k b r w ≡ bucket_leaves k b r v
    leaves-same true r f =
        let h : word w (head_at k r) ≡ word v (head_at k r) = head-same k laid w v low r f.within in
        let c : (i : ℕ) → i < 2 → word w (cell k.stem (word w (head_at k r)) i) ≡ word v (cell k.stem (word w (head_at k r)) i) = λ i l. low (cell k.stem (word w (head_at k r)) i) (omega (arith, f.head≤, laid.pool, laid.held)) in
        ap (λ (t : Load). Some (loaded r t)) ((λ j. record { tag = c 0 (omega arith) j; length = c 1 (omega arith) j }) ∙ ap (load_in k.stem v) h)
    leaves-same false r f = refl

  bucket-fit : (q : Request) (r : ℕ) (w v : List ℕ) → Under (store_words k) w v → BucketFit k q r w → BucketFit k q r v
  bucket-fit q r w v U f = (out-fit w v U (takes q) r f.0, in-fit (bucket_take_if k (takes q) r w) (bucket_take_if k (takes q) r v) (out-under w v U (takes q) r f.0) (newcomer q) f.1)

  bucket-under : (q : Request) (r : ℕ) (w v : List ℕ) → Under (store_words k) w v → BucketFit k q r w → Under (store_words k) (bucket_stage k q r w) (bucket_stage k q r v)
  bucket-under q r w v U f = in-under (bucket_take_if k (takes q) r w) (bucket_take_if k (takes q) r v) (out-under w v U (takes q) r f.0) (newcomer q) f.1

  -- ---- all stages

  record Twin (m n : Desk) : Type 0 where
    pair : Pair (floor_of m) (floor_of n)
    words : Under (store_words k) m.words n.words
    records : (i : ℕ) → i < k.storeys → work_at m.records i ≡ work_at n.records i

  module _ (m n : Desk) (T : Twin m n) (wide : (i : ℕ) → word m.bits i < 2 ^ 64) where
    stages-fit : (d e : ℕ) → e + d ≡ k.storeys → (g : Waiting) → StagesFit k e d g m → StagesFit k e d g n
    stages-fit zero e e_s g f = bucket-fit g.does g.way m.words n.words T.words f
    stages-fit (suc d) e e_s g f =
        (storey-fit e d e_s g.does g.way (floor_of m) (floor_of n) T.pair wide f.0, subst (λ (h : Waiting). StagesFit k (suc e) d h n) (T.records e (omega arith)) (stages-fit d (suc e) (omega arith) (work_at m.records e) f.1))

    record Nigh (e : ℕ) (o u : Desk) : Type 0 where
      bits : (i : ℕ) → k.bits + words_of e ≤ i → i < bit_words k → word o.bits i ≡ word u.bits i
      counts : (i : ℕ) → 64 * (k.bits + words_of e) ≤ i → i < count_words k → word o.counts i ≡ word u.counts i
      words : Under (store_words k) o.words u.words
      records : (i : ℕ) → e ≤ i → i < k.storeys → work_at o.records i ≡ work_at u.records i

    nigh : (d e : ℕ) → e + d ≡ k.storeys → (g : Waiting) (o u : Desk) → StagesFit k e d g m → Steps k e d g m o → Steps k e d g n u → Nigh e o u
    nigh zero e e_s g o u f s z =
        let q : e ≡ k.storeys = omega arith in
        record {
          bits = λ i a b. absurd (omega (arith, laid.tower, ap (λ (x : ℕ). words_of x) q));
          counts = λ i a b. absurd (omega (arith, laid.tower, ap (λ (x : ℕ). words_of x) q));
          words = subst (λ (x : List ℕ). Under (store_words k) x u.words) (sym s) (subst (Under (store_words k) (bucket_stage k g.does g.way m.words)) (sym z) (bucket-under g.does g.way m.words n.words T.words f));
          records = λ i a b. absurd (omega arith);
        }
    nigh (suc d) e e_s g o u f s z =
        let S1 = staged-pair e d e_s g.does g.way (floor_of m) (floor_of n) T.pair wide f.0 in
        let x : Nigh (suc e) o u = nigh d (suc e) (omega arith) (work_at m.records e) o u f.1 s.1 (subst (λ (h : Waiting). Steps k (suc e) d h n u) (sym (T.records e (omega arith))) z.1) in
        record {
          bits = λ i a b. elim (dec_lt i (k.bits + words_of (suc e))) [ yes l ↦ s.0.bits i a l ∙ S1.bits.at i b ∙ sym (z.0.bits i a l) | no l ↦ x.bits i (omega arith) b ];
          counts = λ i a b. elim (dec_lt i (64 * (k.bits + words_of (suc e)))) [ yes l ↦ s.0.counts i a l ∙ S1.counts.at i b ∙ sym (z.0.counts i a l) | no l ↦ x.counts i (omega arith) b ];
          words = x.words;
          records = λ i a b. elim (ℕ_discrete i e) [
            | yes l ↦ ap (work_at o.records) l ∙ s.0.pends ∙ ap (waiting g.does) (takes-way e d e_s (floor_of m) (floor_of n) T.pair wide g.way (takes g.does) f.0.0) ∙ sym z.0.pends ∙ sym (ap (work_at u.records) l)
            | no l ↦ x.records i (omega arith) b
          ];
        }

    bucket-last : (d e : ℕ) (g : Waiting) → StagesFit k e (suc d) g m → BucketFit k (work_at m.records (e + d)).does (work_at m.records (e + d)).way m.words
    bucket-last zero e g f = let a : e ≡ e + 0 = omega arith in subst (λ (i : ℕ). BucketFit k (work_at m.records i).does (work_at m.records i).way m.words) a f.1
    bucket-last (suc d) e g f = let a : suc e + d ≡ e + suc d = omega arith in subst (λ (i : ℕ). BucketFit k (work_at m.records i).does (work_at m.records i).way m.words) a (bucket-last d (suc e) (work_at m.records e) f.1)

    last-at : (S : ℕ) (g : Waiting) → 1 ≤ S → StagesFit k 0 S g m → BucketFit k (work_at m.records (pred S)).does (work_at m.records (pred S)).way m.words
    last-at zero g h f = absurd (omega arith)
    last-at (suc d) g h f = let a : 0 + d ≡ d = omega arith in subst (λ (i : ℕ). BucketFit k (work_at m.records i).does (work_at m.records i).way m.words) a (bucket-last d 0 g f)

    pre-lt : (S : ℕ) → 1 ≤ S → pred S < S
    pre-lt zero h = absurd (omega arith)
    pre-lt (suc d) h = omega arith

    said_same : (q : Request) → StagesFit k 0 k.storeys (waiting q 0) m → (cycle_run k q m).said ≡ (cycle_run k q n).said
    unfolding cycle_run
    said_same q f =
        let r = pred k.storeys in
        leaving-is k k.storeys q m laid.deep
        ∙ leaves-same m.words n.words T.words (takes (work_at m.records (pred k.storeys)).does) (work_at m.records (pred k.storeys)).way (last-at k.storeys (waiting q 0) laid.deep f).0
        ∙ ap (λ (h : Waiting). bucket_leaves k (takes h.does) h.way n.words) (T.records (pred k.storeys) (pre-lt k.storeys laid.deep))
        ∙ sym (leaving-is k k.storeys q n laid.deep)

    held-under : (q : Request) (w v : List ℕ) → Under (store_words k) w v → Under (store_words k) (held_words k q w) (held_words k q v)
    held-under Idle w v U = U
    held-under (Push x) w v U = under-set (store_words k) w v k.held _ _ (ap suc (U.at k.held (omega arith))) U
    held-under Pop w v U = under-set (store_words k) w v k.held _ _ (ap pred (U.at k.held (omega arith))) U
    held-under (Replace x) w v U = U

    run-near : (q : Request) → k.storeys ≤ length m.records → k.storeys ≤ length n.records → ((i : ℕ) → word n.bits i < 2 ^ 64) → StagesFit k 0 k.storeys (waiting q 0) m → Near k (cycle_run k q m).next (cycle_run k q n).next
    unfolding cycle_run
    run-near q lm ln wide' f =
        let f' = stages-fit k.storeys 0 (omega arith) (waiting q 0) f in
        let o = (stages k 0 k.storeys (waiting q 0) m).next in
        let u = (stages k 0 k.storeys (waiting q 0) n).next in
        let x : Nigh 0 o u = nigh k.storeys 0 (omega arith) (waiting q 0) o u f (one-step k laid q m lm wide f) (one-step k laid q n ln wide' f') in
        record {
          bits = λ i h. elim (dec_lt i k.bits) [ yes l ↦ bits-low k laid q m lm wide f i l ∙ T.pair.bits.at i h ∙ sym (bits-low k laid q n ln wide' f' i l) | no l ↦ x.bits i (omega arith) h ];
          counts = λ i h. elim (dec_lt i (64 * k.bits)) [ yes l ↦ counts-low k laid q m lm wide f i l ∙ T.pair.counts.at i h ∙ sym (counts-low k laid q n ln wide' f' i l) | no l ↦ x.counts i (omega arith) h ];
          words = (held-under q o.words u.words x.words).at;
          records = λ i h. x.records i (omega arith) h;
        }

  -- ---- the cycle

  module _ (q : Request) where
    twin-of : (m n : Desk) → DeskShaped k m → DeskShaped k n → Near k m n → Twin m n
    twin-of m n a b N =
        record {
          pair = record { bits = record { left = a.store.bits; right = b.store.bits; at = N.bits }; counts = record { left = a.counts; right = b.counts; at = N.counts } };
          words = record { left = a.store.words; right = b.store.words; at = N.words };
          records = N.records;
        }

    rule-same : (m n : Desk) → Twin m n → rule_now k q m ≡ rule_now k q n
    rule-same m n T = ap (λ (h : ℕ). decided (λ r. ruling (Err r) Idle) (late_table k.ranks k.nodes q h) (ruling (Ok None) q)) (T.words.at k.held (omega arith))

    held-fit : (q : Request) (m n : Desk) → Twin m n → HeldFit k q m.words → HeldFit k q n.words
    held-fit Idle m n T f = tt
    held-fit (Push x) m n T f = omega (arith, T.words.at k.held (omega arith))
    held-fit Pop m n T f = omega (arith, T.words.at k.held (omega arith))
    held-fit (Replace x) m n T f = omega (arith, T.words.at k.held (omega arith))

    cycle-fit : (m n : Desk) → Twin m n → ((i : ℕ) → word m.bits i < 2 ^ 64) → CycleFit k q m → CycleFit k q n
    cycle-fit m n T wide f =
        (held-fit q m n T f.0, subst (λ (g : Ruling Request). StagesFit k 0 k.storeys (waiting g.op 0) n) (rule-same m n T) (stages-fit m n T wide k.storeys 0 (omega arith) (waiting (rule_now k q m).op 0) f.1))

    near-back : (m n : Desk) → Near k m n → Near k n m
    near-back m n N = record { bits = λ i h. sym (N.bits i h); counts = λ i h. sym (N.counts i h); words = λ i h. sym (N.words i h); records = λ i h. sym (N.records i h) }

    -- UNREAD
    pub unread : (m n : Desk) → DeskShaped k m → DeskShaped k n → k.storeys ≤ length m.records → k.storeys ≤ length n.records → ((i : ℕ) → word m.bits i < 2 ^ 64) → ((i : ℕ) → word n.bits i < 2 ^ 64) → Near k m n
        → Alike k (cycled k q m) (cycled k q n)
    unfolding cycled
    unread m n a b lm ln wm wn N = rw ((desk-means k m).holds a, (desk-means k n).holds b) (go (cycle_ok k q m) (cycle_ok k q n) refl refl)
      where
        T : Twin m n
        T = twin-of m n a b N

        over : CycleFit k q m → CycleFit k q n
        over = cycle-fit m n (twin-of m n a b N) wm

        under : CycleFit k q n → CycleFit k q m
        under = cycle-fit n m (twin-of n m b a (near-back m n N)) wn

        go : (x y : Bool) → cycle_ok k q m ≡ x → cycle_ok k q n ≡ y → Alike k (cond x (cycle_done k (rule_now k q m) m) (cycle_still m Damaged)) (cond y (cycle_done k (rule_now k q n) n) (cycle_still n Damaged))
        go true true e f =
            let T1 : Twin m n = twin-of m n a b N in
            let fit = ((cycle-means k q m).says e).1 in
            subst (λ (g : Ruling Request). Alike k (cycle_done k (rule_now k q m) m) (cycle_done k g n)) (rule-same m n T1)
            (record { answer = refl; leaves = said_same m n T1 wm (rule_now k q m).op fit; desk = run-near m n T1 wm (rule_now k q m).op lm ln wn fit })
        go true false e f = absurd (means-no (cycle-means k q n) f (over ((cycle-means k q m).says e)))
        go false true e f = absurd (means-no (cycle-means k q m) e (under ((cycle-means k q n).says f)))
        go false false e f = record { answer = refl; leaves = refl; desk = N }
