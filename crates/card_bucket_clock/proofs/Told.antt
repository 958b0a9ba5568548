-- What the clocked bucket queue answers, told: the number, the words, the records and `out` are those of the definitions.
use Rattle.laws.specs.Prelude.{Answer, Bool, Element, List, Request, ◌&&◌, ◌<◌, ◌∙◌, ◌≡◌, ◌≤◌, and_left, ap, ap₂, arith, blank, cond, count_number, count_of, false, has_run, le-leb, leb, leb-true, length, lt-leb, number_of, refl, set, sym, true, ℕ, Result, Refusal}
use Rattle.card_words.specs.Asked.{request_of}
use Rattle.card_words.specs.Out.{count_after, count_answered}
use Rattle.bucket_model.specs.Prelude.{depth_ok, queue}
use Rattle.bucket_clock_model.proofs.Places.{counts-lie}
use Rattle.std.specs.Prelude.{Option}
use Rattle.std.specs.Prelude.{None, Some}
use Rattle.bucket_clock_model.specs.declared.Waiting.{Waiting}
use Rattle.bucket_clock_model.specs.Desk.{clock_cleared, clock_held, cycled, CycleOutcome, cycle_outcome, desk, fresh, record_count}
use Rattle.bucket_clock_records.proofs.Records.{lends-few, lends-within, read-lends}
use Rattle.bucket_clock_records.specs.declared.WorksRead.{WorksRead}
use Rattle.bucket_clock_records.specs.Lent.{BucketRecord, lends, reach, read_of, works_back}
use Rattle.card_bucket_clock.specs.Calls.{clock_after, clock_after_out, clock_clear, clock_counts, clock_cycle, clock_held_at, ended, ended_out, leaves_out, leaves_told, leave_words}

-- ---- how many records are written
pub due-fits : (d len : ℕ) (b : Bool) (n : ℕ) → n ≡ cond b d 0 → lends d len ≡ true → (n ≤ record_count) × (n ≤ len)
due-fits d len b n e h = rw e (go b)
  where
    go : (b : Bool) → (cond b d 0 ≤ record_count) × (cond b d 0 ≤ len)
    go true = (lends-few d len h, lends-within d len h)
    go false = (omega arith, omega arith)

-- ---- counts
pub counts-two : (d : ℕ) → d ≡ 2 → 4160 ≡ clock_counts d
unfolding clock_counts
counts-two d e = rw e (sym (counts-lie 1).two)

pub counts-three : (d : ℕ) → d ≡ 3 → 266304 ≡ clock_counts d
unfolding clock_counts
counts-three d e = rw e (sym (counts-lie 1).three)

pub counts-none : (d : ℕ) → (d ≡ 2 → ⊥) → (d ≡ 3 → ⊥) → 0 ≡ clock_counts d
unfolding clock_counts
counts-none d a b = rw (shallow (leb 2 d) refl (leb d 3) refl) refl
  where
    shallow : (t : Bool) → leb 2 d ≡ t → (u : Bool) → leb d 3 ≡ u → (leb 2 d && leb d 3) ≡ false
    shallow false e u f = rw e refl
    shallow true e false f = rw (e, f) refl
    shallow true e true f = absurd (two-or-three (leb-true 2 d e) (leb-true d 3 f))
      where
        two-or-three : 2 ≤ d → d ≤ 3 → ⊥
        two-or-three l h = let x : d ≡ 2 → ⊥ = a in let y : d ≡ 3 → ⊥ = b in omega arith

-- ---- clear and cycle
module _ (d n : ℕ) (b w c : List ℕ) (rs : List BucketRecord) where
  -- what a by-value call has left, told
  told : (o : CycleOutcome) (a : Answer) (y : Option Element) (b1 c1 w1 : List ℕ) (gs : List Waiting) (ran : Bool) (k m : ℕ) (rs1 : List BucketRecord)
      → cycle_outcome a y (desk b1 c1 w1 gs) ≡ o → ran ≡ has_run a → k ≡ cond ran d 0 → rs1 ≡ works_back k gs rs → m ≡ number_of a → clock_after m b1 w1 c1 rs1 ≡ ended d n b w c rs o
  told o a y b1 c1 w1 gs ran k m rs1 e r q z p =
      let x : rs1 ≡ works_back (cond (has_run a) d 0) gs rs = z ∙ ap (λ (k : ℕ). works_back k gs rs) (q ∙ ap (λ (t : Bool). cond t d 0) r) in
      (λ i. clock_after (p i) b1 w1 c1 (x i)) ∙ ap (ended d n b w c rs) e

  pub clear-short : (t : Bool) → t ≡ lends d (length rs) → t ≡ false → clock_after 1 b w c rs ≡ clock_clear d n b w c rs
  unfolding clock_clear
  clear-short t e f = rw (sym e ∙ f) refl

  pub clear_told : (t : Bool) → t ≡ lends d (length rs) → t ≡ true → (g : List Waiting) → g ≡ fresh → (a : Answer) (y : Option Element) (b1 c1 w1 : List ℕ) (gs : List Waiting) (ran : Bool) (k m : ℕ) (rs1 : List BucketRecord)
      → cycle_outcome a y (desk b1 c1 w1 gs) ≡ clock_cleared (queue d n) (desk b c w g) → ran ≡ has_run a → k ≡ cond ran d 0 → rs1 ≡ works_back k gs rs → m ≡ number_of a → clock_after m b1 w1 c1 rs1 ≡ clock_clear d n b w c rs
  unfolding clock_clear
  clear_told t e f g h a y b1 c1 w1 gs ran k m rs1 z r q x p =
      rw (sym e ∙ f) (told _ a y b1 c1 w1 gs ran k m rs1 (z ∙ ap (λ (g : List Waiting). clock_cleared (queue d n) (desk b c w g)) h) r q x p)

  module _ (request rank tag bytes : ℕ) (out : List ℕ) where
    pub cycle-short : length out < leave_words → clock_after_out 1 b w c rs out ≡ clock_cycle d n b w c rs request rank tag bytes out
    unfolding clock_cycle
    cycle-short h = rw (lt-leb leave_words (length out) h) refl

    module _ (long : leave_words ≤ length out) (read : WorksRead) (re : read ≡ read_of d rs) where
      ok-is : read.ok ≡ (read_of d rs).ok
      ok-is = ap (λ (x : WorksRead). x.ok) re

      pub cycle-bad : (out1 : List ℕ) → (read.ok && leb request 3) ≡ false → out1 ≡ leaves_told None out → clock_after_out 1 b w c rs out1 ≡ clock_cycle d n b w c rs request rank tag bytes out
      unfolding clock_cycle
      cycle-bad out1 f x =
          let g : ((read_of d rs).ok && leb request 3) ≡ false = ap (λ (t : Bool). t && leb request 3) (sym ok-is) ∙ f in
          rw (le-leb leave_words (length out) long, g) (ap (clock_after_out 1 b w c rs) x)

      module _ (f : (read.ok && leb request 3) ≡ true) where
        pub lent : lends d (length rs) ≡ true
        lent = read-lends (lends d (length rs)) (reach d rs) rs (sym ok-is ∙ and_left read.ok (leb request 3) f)

        pub cycle-told : (q : Request) → q ≡ request_of request rank tag bytes → (a : Answer) (y : Option Element) (b1 c1 w1 : List ℕ) (gs : List Waiting) (ran : Bool) (k m : ℕ) (rs1 : List BucketRecord) (out1 : List ℕ)
            → cycle_outcome a y (desk b1 c1 w1 gs) ≡ cycled (queue d n) q (desk b c w read.works) → ran ≡ has_run a → k ≡ cond ran d 0 → rs1 ≡ works_back k gs rs → m ≡ number_of a → out1 ≡ leaves_told y out
            → clock_after_out m b1 w1 c1 rs1 out1 ≡ clock_cycle d n b w c rs request rank tag bytes out
        unfolding clock_cycle
        cycle-told q qe a y b1 c1 w1 gs ran k m rs1 out1 z r s x p v =
            let g : ((read_of d rs).ok && leb request 3) ≡ true = ap (λ (t : Bool). t && leb request 3) (sym ok-is) ∙ f in
            let e : cycle_outcome a y (desk b1 c1 w1 gs) ≡ cycled (queue d n) (request_of request rank tag bytes) (desk b c w (read_of d rs).works) = z ∙ (λ i. cycled (queue d n) (qe i) (desk b c w (re i).works)) in
            let u : rs1 ≡ works_back (cond (has_run a) d 0) gs rs = x ∙ ap (λ (k : ℕ). works_back k gs rs) (s ∙ ap (λ (t : Bool). cond t d 0) r) in
            rw (le-leb leave_words (length out) long, g) ((λ i. clock_after_out (p i) b1 w1 c1 (u i) (v i)) ∙ ap (ended_out d n b w c rs out) e)

-- ---- held
module _ (d n : ℕ) (b w c out : List ℕ) where
  pub held-short : length out < 1 → count_after 1 out ≡ clock_held_at d n b w c out
  unfolding count_answered
  held-short h = rw (lt-leb 1 (length out) h) refl

  pub held-told : (r : Result ℕ Refusal) (m : ℕ) (out1 : List ℕ) → 1 ≤ length out → ((rs : List Waiting) → r ≡ clock_held (queue d n) (desk b c w rs)) → (m ≡ count_number r) × (out1 ≡ set out 0 (count_of r)) → count_after m out1 ≡ clock_held_at d n b w c out
  unfolding count_answered
  held-told r m out1 h e p = rw (le-leb 1 (length out) h) (ap₂ (λ (i : ℕ) (l : List ℕ). count_after i l) p.0 p.1 ∙ ap (λ (r : Result ℕ Refusal). count_after (count_number r) (set out 0 (count_of r))) (e fresh))

-- ---- `out`
pub told_none : (y : Option Element) (x : Element) (out out1 : List ℕ) → y ≡ None → x ≡ blank → out1 ≡ leaves_out 0 x out → out1 ≡ leaves_told y out
told_none y x out out1 e q p = rw e (p ∙ ap (λ (x : Element). leaves_out 0 x out) q)

pub told-some : (y : Option Element) (x : Element) (out out1 : List ℕ) → y ≡ Some x → out1 ≡ leaves_out 1 x out → out1 ≡ leaves_told y out
told-some y x out out1 e p = rw e p
