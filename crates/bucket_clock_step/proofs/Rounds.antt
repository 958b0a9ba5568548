-- Stage by stage: what the loops have tested and done so far is what the rules test and do, and the next stage finds its words as they stood.
use Rattle.laws.specs.Prelude.{Element, Bool, Bool·beq, Idle, List, Pop, Push, Replace, Request, ◌%◌, ◌&&◌, ◌*◌, ◌+◌, ◌/◌, ◌<◌, ◌^◌, ◌∙◌, ◌≡◌, ◌≤◌, and_assoc, and_left, and_right, ap, ap₂, arith, eqb, false, inr, leb, length, length-set, ltb, not, pow-suc, refl, set, subst, suc, sym, true, zero, ℕ}
use lib.Dec.{lit≤}
use Rattle.bitmap.specs.Bits.{bit_at}
use Rattle.promise.specs.Prelude.{Step, step}
use Rattle.bucket_model.specs.declared.Lay.{Lay}
use Rattle.bucket_model.specs.Prelude.{Storey, storey, word, words_of}
use Rattle.bucket_node.specs.Places.{Fits}
use Rattle.bucket_clock_model.proofs.Damage.{bucket-means, storey-means}
use Rattle.bucket_clock_model.proofs.Links.{stage-held}
use Rattle.bucket_clock_model.proofs.Long.{Broad, staged-broad}
use Rattle.bucket_clock_model.proofs.OneStep.{bit-same, count_same, Onward, put-stood, Stood, take-stood, takes_same, way_same}
use Rattle.bucket_clock_model.proofs.Worked.{rank-inside, words-le, work-other}
use Rattle.bucket_clock_model.specs.Damage.{StoreyFit}
use Rattle.std.specs.Prelude.{Option}
use Rattle.std.specs.Prelude.{None, Some}
use Rattle.bucket_clock_model.specs.declared.Waiting.{Waiting}
use Rattle.bucket_clock_model.specs.Desk.{Desk, desk, floor_of, handed, stage_done, stages, stages_ok, work_at}
use Rattle.bucket_clock_model.specs.Links.{bucket_leaves, bucket_ok, bucket_stage}
use Rattle.bucket_clock_model.specs.Lists.{newcomer, takes}
use Rattle.bucket_clock_model.specs.Pipe.{lead}
use Rattle.bucket_clock_model.specs.Words.{count_at, Floor, put_if_ok, put_ok, staged, storey_ok, take_if, take_if_ok, take_ok, way_below}
use Rattle.bucket_clock_step.specs.Stages.{Ready}
use Rattle.bucket_clock_step.specs.Storey.{Here, place, Worked}

-- ---- the tests of a storey go by its own words and those behind them

module _ (n : ℕ) (p : Storey) (s u : Floor) (o : Onward p s u) where
  take-ok-same : (w : ℕ) → take_ok n p w s ≡ take_ok n p w u
  unfolding take_ok
  take-ok-same w =
      let c : word s.counts (count_at p (way_below p s.bits w)) ≡ word u.counts (count_at p (way_below p u.bits w)) =
      count_same p s u o (way_below p s.bits w) ∙ ap (λ (i : ℕ). word u.counts (count_at p i)) (way_same p s u o w) in
      ap₂ (λ (x y : ℕ). ltb w p.words && not (eqb x 0) && not (eqb y 0) && leb y n) (bit-same p s u o w) c

  put-ok-same : (j : ℕ) → put_ok n p j s ≡ put_ok n p j u
  unfolding put_ok
  put-ok-same j = ap₂ (λ (x y : ℕ). not (Bool·beq (eqb y 0) (eqb (bit_at x (j % 64)) 1)) && ltb y n) (bit-same p s u o (j / 64)) (count_same p s u o j)

module _ (k : Lay) (p : Storey) (d : ℕ) where
  takes-ok-same : (b : Bool) (w : ℕ) (s u : Floor) → Onward p s u → take_if_ok k.nodes p b w s ≡ take_if_ok k.nodes p b w u
  takes-ok-same true w s u o = take-ok-same k.nodes p s u o w
  takes-ok-same false w s u o = refl

  new-ok-same : (x : Option Element) (s u : Floor) → Onward p s u → put_if_ok k p d x s ≡ put_if_ok k p d x u
  new-ok-same None s u o = refl
  new-ok-same (Some x) s u o = ap (λ (t : Bool). ltb x.rank.0 k.ranks && t) (put-ok-same k.nodes p s u o (lead d x.rank.0))

  storey-ok-same : (q : Request) (w : ℕ) (s u : Floor) → Onward p s u → storey_ok k p d q w s ≡ storey_ok k p d q w u
  unfolding storey_ok
  storey-ok-same q w s u o =
      ap₂ (λ (a b : Bool). a && b) (takes-ok-same (takes q) w s u o) (new-ok-same (newcomer q) (take_if p (takes q) w s) (take_if p (takes q) w u) (takes_same p s u o (takes q) w))

-- .. so do those of all stages from a storey on
record Ahead (k : Lay) (e : ℕ) (m u : Desk) : Type 0 where
  floor : Onward (storey k.bits e) (floor_of m) (floor_of u)
  words : m.words ≡ u.words
  records : (n : ℕ) → e ≤ n → work_at m.records n ≡ work_at u.records n

ahead-next : (k : Lay) (e : ℕ) (m u : Desk) → Ahead k e m u → Ahead k (suc e) m u
ahead-next k e m u a =
    let o = a.floor in
    record {
      floor = record {
        bits = record { long = o.bits.long; at = λ i h. o.bits.at i (omega arith) };
        counts = record { long = o.counts.long; at = λ i h. o.counts.at i (omega arith) };
      };
      words = a.words;
      records = λ n h. a.records n (omega arith);
    }

stages-ok-same : (k : Lay) (d e : ℕ) (g : Waiting) (m u : Desk) → Ahead k e m u → stages_ok k e d g m ≡ stages_ok k e d g u
unfolding stages_ok
stages-ok-same k zero e g m u a = ap (bucket_ok k g.does g.way) a.words
stages-ok-same k (suc d) e g m u a =
    ap₂ (λ (x y : Bool). x && y) (storey-ok-same k (storey k.bits e) d g.does g.way (floor_of m) (floor_of u) a.floor)
    (stages-ok-same k d (suc e) (work_at m.records e) m u (ahead-next k e m u a) ∙ ap (λ (h : Waiting). stages_ok k (suc e) d h u) (a.records e (omega arith)))

-- ---- a storey's work leaves the words of the others

-- a newcomer's bit is one of the storey's
abbrev In : Storey → ℕ → Request → Type 0
In p d Idle = Unit {0}
In p d (Push x) = lead d x.rank.0 < 64 * p.words
In p d Pop = Unit {0}
In p d (Replace x) = lead d x.rank.0 < 64 * p.words

stood : (p : Storey) (d : ℕ) (s : Floor) (w : ℕ) (q : Request) → (takes q ≡ true → way_below p s.bits w < 64 * p.words) → In p d q → Stood p s (staged p d q w s)
stood p d s w Idle a b = record { bits = λ i o. refl; counts = λ i o. refl }
stood p d s w (Push x) a b = put-stood p s (lead d x.rank.0) b
stood p d s w Pop a b = take-stood p s (way_below p s.bits w) (a refl)
stood p d s w (Replace x) a b =
    let t = take-stood p s (way_below p s.bits w) (a refl) in
    let u = put-stood p (take_if p true w s) (lead d x.rank.0) b in
    record { bits = λ i o. u.bits i o ∙ t.bits i o; counts = λ i o. u.counts i o ∙ t.counts i o }

-- ---- where a storey stands

module _ (k : Lay) (B C W : ℕ) (ready : Ready k B C W) (e d : ℕ) (e_s : e + suc d ≡ k.storeys) where
  ranks-in : (r : ℕ) → r < k.ranks → lead d r < 64 * 64 ^ e
  ranks-in r h = rank-inside e d k.storeys r e_s (omega (arith, ready.laid.ranks))

  pub here-is : (base width : ℕ) → base ≡ k.bits + words_of e → width ≡ 64 ^ e → Here k base width d B C
  here-is base width p q =
      let le : words_of e + 64 ^ e ≤ words_of k.storeys = words-le e k.storeys (omega arith) in
      let three : words_of e + 64 ^ e ≤ words_of 3 = words-le e 3 (omega (arith, ready.records)) in
      let few : words_of 3 ≤ 4161 = lit≤ tt in
      record {
        floor = record { bits = omega (arith, ready.bits, ready.laid.tower); counts = omega (arith, ready.counts, ready.laid.tower) };
        ranks = λ r h. rw q (ranks-in r h);
        few = omega arith;
        nodes = ready.nodes;
      }

  in-storey : (q : Request) (w : ℕ) (s : Floor) → StoreyFit k (storey k.bits e) d q w s → In (storey k.bits e) d q
  in-storey Idle w s f = tt
  in-storey (Push x) w s f = ranks-in x.rank.0 f.1.0
  in-storey Pop w s f = tt
  in-storey (Replace x) w s f = ranks-in x.rank.0 f.1.0

pub ready-fits : (k : Lay) (B C : ℕ) (w : List ℕ) → Ready k B C (length w) → Fits k w
ready-fits k B C w ready = record { laid = ready.laid; words = ready.words }

-- ---- the tests so far: storeys before e have been tested, `work` waits for storey e

pub record Testing (k : Lay) (m : Desk) (whole : Bool) (ok : Bool) (work : Waiting) (base width e : ℕ) : Type 0 where
  pub base-is : base ≡ k.bits + words_of e
  pub width_is : width ≡ 64 ^ e
  pub most : e ≤ k.storeys
  pub rest : (d : ℕ) → e + d ≡ k.storeys → (ok && stages_ok k e d work m) ≡ whole

module _ (k : Lay) (m : Desk) where
  pub test-first : (g : Waiting) → Testing k m (stages_ok k 0 k.storeys g m) true g k.bits 1 0
  test-first g = record { base-is = omega arith; width_is = refl; most = omega arith; rest = λ d h. let q : d ≡ k.storeys = omega arith in rw q refl }

  module _ (whole ok : Bool) (work : Waiting) (base width e : ℕ) (t : Testing k m whole ok work base width e) where
    pub test-next : (d : ℕ) → e + suc d ≡ k.storeys → (fine : Bool) → fine ≡ storey_ok k (place base width) d work.does work.way (floor_of m)
        → Testing k m whole (ok && fine) (work_at m.records e) (base + width) (width * 64) (e + 1)
    unfolding stages_ok
    test-next d e_s fine f =
        let n : e + 1 ≡ suc e = omega arith in
        let g : fine ≡ storey_ok k (storey k.bits e) d work.does work.way (floor_of m) = f ∙ (λ i. storey_ok k (place (t.base-is i) (t.width_is i)) d work.does work.way (floor_of m)) in
        rw n
        (record {
          base-is = omega (arith, t.base-is, t.width_is);
          width_is = omega (arith, t.width_is, pow-suc 64 e);
          most = omega arith;
          rest = λ c h. let q : c ≡ d = omega arith in rw (q, g) (and_assoc ok (storey_ok k (storey k.bits e) d work.does work.way (floor_of m)) (stages_ok k (suc e) d (work_at m.records e) m) ∙ t.rest (suc d) e_s);
        })

    pub test-last : k.storeys ≤ e → (last : Bool) → last ≡ bucket_ok k work.does work.way m.words → (ok && last) ≡ whole
    unfolding stages_ok
    test-last h last l = ap (λ (x : Bool). ok && x) l ∙ t.rest 0 (omega (arith, t.most))

-- ---- the work so far

pub record Going (k : Lay) (B C W : ℕ) (goal : Step (Option Element) Desk) (u : Desk) (work : Waiting) (base width e : ℕ) : Type 0 where
  pub base-is : base ≡ k.bits + words_of e
  pub width_is : width ≡ 64 ^ e
  pub most : e ≤ k.storeys
  pub bits : length u.bits ≡ B
  pub counts : length u.counts ≡ C
  pub words : length u.words ≡ W
  pub records : 3 ≤ length u.records
  pub tested : (d : ℕ) → e + d ≡ k.storeys → stages_ok k e d work u ≡ true
  pub goes : (d : ℕ) → e + d ≡ k.storeys → stages k e d work u ≡ goal

module _ (k : Lay) (B C W : ℕ) (ready : Ready k B C W) where
  pub go-first : (m : Desk) (g : Waiting) → length m.bits ≡ B → length m.counts ≡ C → length m.words ≡ W → 3 ≤ length m.records → stages_ok k 0 k.storeys g m ≡ true
      → Going k B C W (stages k 0 k.storeys g m) m g k.bits 1 0
  go-first m g b c w r t =
      record {
        base-is = omega arith;
        width_is = refl;
        most = omega arith;
        bits = b;
        counts = c;
        words = w;
        records = r;
        tested = λ d h. let q : d ≡ k.storeys = omega arith in rw q t;
        goes = λ d h. let q : d ≡ k.storeys = omega arith in rw q refl;
      }

  module _ (goal : Step (Option Element) Desk) (u : Desk) (work : Waiting) (base width e : ℕ) (t : Going k B C W goal u work base width e) where
    module _ (d : ℕ) (e_s : e + suc d ≡ k.storeys) where
      abbrev p : Storey
      p = storey k.bits e

      both : (storey_ok k (storey k.bits e) d work.does work.way (floor_of u) && stages_ok k (suc e) d (work_at u.records e) u) ≡ true
      unfolding stages_ok
      both = t.tested (suc d) e_s

      own : storey_ok k (storey k.bits e) d work.does work.way (floor_of u) ≡ true
      own = and_left _ (stages_ok k (suc e) d (work_at u.records e) u) both

      pub go-here : Here k base width d (length u.bits) (length u.counts)
      go-here = rw (t.bits, t.counts) (here-is k B C W ready e d e_s base width t.base-is t.width_is)

      pub go-ok : storey_ok k (place base width) d work.does work.way (floor_of u) ≡ true
      go-ok = (λ i. storey_ok k (place (t.base-is i) (t.width_is i)) d work.does work.way (floor_of u)) ∙ own

      module _ (s : Floor) (hand : Waiting) (done : Worked (place base width) d work (floor_of u) s hand) where
        place_is : place base width ≡ storey k.bits e
        place_is = λ i. place (t.base-is i) (t.width_is i)

        work-is : Worked (storey k.bits e) d work (floor_of u) s hand
        work-is = subst (λ (p : Storey). Worked p d work (floor_of u) s hand) place_is done

        abbrev next : Desk
        next = stage_done k e d work u

        next-is : desk s.bits s.counts u.words (set u.records e hand) ≡ stage_done k e d work u
        next-is = λ i. desk (work-is.floor i).bits (work-is.floor i).counts u.words (set u.records e (work-is.hands i))

        br : Broad (floor_of u) (floor_of next)
        br = staged-broad p d work.does work.way (floor_of u)

        st : Stood p (floor_of u) (floor_of next)
        st = stood p d (floor_of u) work.way work.does work-is.way (in-storey k B C W ready e d e_s work.does work.way (floor_of u) ((storey-means k p d work.does work.way (floor_of u)).says own))

        ahead : Ahead k (suc e) u next
        ahead =
            record {
              floor = record {
                bits = record { long = sym br.bits; at = λ i h. sym (st.bits i (inr (omega arith))) };
                counts = record { long = sym br.counts; at = λ i h. sym (st.counts i (inr (omega arith))) };
              };
              words = refl;
              records = λ n h. sym (work-other u.records e n _ (λ q. omega arith));
            }

        after : Going k B C W goal next (work_at u.records e) (base + width) (width * 64) (suc e)
        unfolding stages
        after =
            record {
              base-is = omega (arith, t.base-is, t.width_is);
              width_is = omega (arith, t.width_is, pow-suc 64 e);
              most = omega arith;
              bits = br.bits ∙ t.bits;
              counts = br.counts ∙ t.counts;
              words = t.words;
              records = omega (arith, t.records, length-set u.records e (handed p work u.bits));
              tested = λ c h. let q : c ≡ d = omega arith in rw q (sym (stages-ok-same k d (suc e) (work_at u.records e) u next ahead) ∙ and_right (storey_ok k p d work.does work.way (floor_of u)) (stages_ok k (suc e) d (work_at u.records e) u) both);
              goes = λ c h. let q : c ≡ d = omega arith in rw q (t.goes (suc d) e_s);
            }

        pub go-next : Going k B C W goal (desk s.bits s.counts u.words (set u.records e hand)) (work_at u.records e) (base + width) (width * 64) (e + 1)
        go-next =
            let n : e + 1 ≡ suc e = omega arith in
            rw n (subst (λ (v : Desk). Going k B C W goal v (work_at u.records e) (base + width) (width * 64) (suc e)) (sym next-is) after)

    pub go-last-ok : k.storeys ≤ e → bucket_ok k work.does work.way u.words ≡ true
    unfolding stages_ok
    go-last-ok h = t.tested 0 (omega (arith, t.most))

    pub go-end : k.storeys ≤ e → (w : List ℕ) (out : Option Element) → (w ≡ bucket_stage k work.does work.way u.words) × (out ≡ bucket_leaves k (takes work.does) work.way u.words)
        → step out (desk u.bits u.counts w u.records) ≡ goal
    unfolding stages
    go-end h w out z = (λ i. step (z.1 i) (desk u.bits u.counts (z.0 i) u.records)) ∙ t.goes 0 (omega (arith, t.most))

    pub go-held : k.storeys ≤ e → (w : List ℕ) → w ≡ bucket_stage k work.does work.way u.words → word w k.held ≡ word u.words k.held
    go-held h w z = ap (λ (v : List ℕ). word v k.held) z ∙ stage-held k ready.laid work.does work.way u.words ((bucket-means k work.does work.way u.words).says (go-last-ok h))
