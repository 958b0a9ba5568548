-- The calls, from what they have tested.
use Rattle.laws.specs.Prelude.{BadRank, BadShape, Bool, Damaged, Element, Idle, List, NoTag, Request, ◌∙◌, ◌≡◌, ◌≤◌, ap, ap₂, arith, cond, false, length, not, not-false, not-true, refl, subst, sym, true, ℕ, Ok, Err, None}
use Rattle.lines_model.proofs.Full.{total-most}
use Rattle.lines_model.proofs.Tests.{below-means}
use Rattle.lines_model.specs.Calls.{acted, called, cleared, counts_ok, done, heads, held_count, outcome, queue, wipe}
use Rattle.lines_model.specs.Layout.{shape_ok, store_words, word}
use Rattle.lines_model.specs.Rules.{come_to, counted, denied, due_of, giver, goal, late_table, let_in, lines_ok, rank_fit, total}
use Rattle.lines_model.specs.declared.Choice.{Choice}
use Rattle.lines_model.specs.declared.Due.{Due}
use Rattle.lines_model.specs.declared.Due.TheVariants.{Put, Rest, Swap, Take}
use Rattle.lines_model.specs.declared.Rows.{Rows}
use Rattle.lines_work.proofs.Finds.{small}
use Rattle.lines_work.proofs.Ready.{come-ready, counted-long, looked-ok, looked-past, Ready, worked-now}
use Rattle.lines_work.specs.Sizes.{sizes, sizes_by}
use Rattle.lines_work.specs.Work.{Fits, looked, Passed, totals, worked_by}
use Rattle.lines_work.specs.declared.Look.{Look}
use Rattle.lines_work.specs.declared.Sizes.{Sizes}
use Rattle.lines_work.specs.declared.Totals.{Totals}
use Rattle.promise.specs.Prelude.{Ruling, carried_out, decided-same, grants, lacks_tag, left, rule_at, ruling}

module _ (k : Rows) (w : List ℕ) where
  pub clear-no : shape_ok k (length w) ≡ false → left w BadShape ≡ cleared k w
  unfolding cleared
  clear-no e = rw e refl

  pub clear-yes : (v : List ℕ) → shape_ok k (length w) ≡ true → v ≡ wipe (store_words k) w → outcome (Ok None) v ≡ cleared k w
  unfolding cleared
  clear-yes v e p = rw e (ap (outcome (Ok None)) p)

  pub held-no : shape_ok k (length w) ≡ false → Err BadShape ≡ held_count k w
  unfolding held_count
  held-no e = rw e refl

  module _ (s : shape_ok k (length w) ≡ true) (t : Totals) (e : t ≡ totals w k.lines k.places) where
    counts-no : not t.ok ≡ true → counts_ok k w ≡ false
    unfolding totals
    counts-no n = ap (λ (t : Totals). t.ok) (sym e) ∙ not-true t.ok n

    pub counts-yes : not t.ok ≡ false → counts_ok k w ≡ true
    unfolding totals
    counts-yes n = ap (λ (t : Totals). t.ok) (sym e) ∙ not-false t.ok n

    pub sum_is : t.sum ≡ total (word w) k.lines
    unfolding totals
    sum_is = ap (λ (t : Totals). t.sum) e

    pub held-torn : not t.ok ≡ true → Err Damaged ≡ held_count k w
    unfolding held_count
    held-torn n = rw (s, counts-no n) refl

    pub held-most : not t.ok ≡ false → t.sum ≤ 524288
    held-most n = omega (arith, sum_is, total-most (word w) k.lines k.places ((below-means k.places (word w) k.lines).says (counts-yes n)), (small k (length w) s).area)

    pub held-told : not t.ok ≡ false → Ok t.sum ≡ held_count k w
    unfolding held_count
    held-told n = rw (s, counts-yes n) (ap Ok sum_is)

-- ---- push, pop and replace

module _ (k : Rows) (q : Request) (w : List ℕ) where
  abbrev z : Choice
  z = come_to k (word w) (heads k w) q

  -- what a request comes to is tested, and done
  carried : carried_out (queue k) (rule_at (queue k) q w) w ≡ cond (lines_ok k w (word w) z.due) (acted k w z) (left w Damaged)
  unfolding come_to due_of
  carried =
      decided-same (λ (g : Ruling Request). carried_out (queue k) g w) (λ (z : Choice). cond (lines_ok k w (word w) z.due) (acted k w z) (left w Damaged)) (λ n. ruling (Err n) Idle) denied
      (late_table k (word w) (heads k w) q) (ruling (grants q (heads k w (giver k (word w) (heads k w)))) q) (let_in k (word w) (heads k w) q) (λ n. refl) refl

  pub call_shape : shape_ok k (length w) ≡ false → left w BadShape ≡ called k q w
  unfolding called
  call_shape e = rw e refl

  module _ (s : shape_ok k (length w) ≡ true) where
    pub call-rank : rank_fit k q ≡ false → left w BadRank ≡ called k q w
    unfolding called
    call-rank e = rw (s, e) refl

    module _ (r : rank_fit k q ≡ true) where
      pub call-tag : lacks_tag q ≡ true → left w NoTag ≡ called k q w
      unfolding called
      call-tag e = rw (s, r, e) refl

      module _ (t : lacks_tag q ≡ false) where
        pub call-torn : (y : Totals) → y ≡ totals w k.lines k.places → not y.ok ≡ true → left w Damaged ≡ called k q w
        unfolding called totals
        call-torn y e n = let c : counts_ok k w ≡ false = ap (λ (t : Totals). t.ok) (sym e) ∙ not-true y.ok n in rw (s, r, t, c) refl

        module _ (c : counts_ok k w ≡ true) (y : Choice) (p : y ≡ come_to k (word w) (heads k w) q) (n : Sizes) (g : n ≡ sizes_by k (word w) y.due) (look : Look) (f : look ≡ looked k w n y.due) where
          tested-is : lines_ok k w (word w) z.due ≡ look.ok
          tested-is =
              ap (λ (y : Choice). lines_ok k w (word w) y.due) (sym p)
              ∙ sym (ap (λ (o : Look). o.ok) f ∙ ap (λ (n : Sizes). (looked k w n y.due).ok) g ∙ looked-ok k w (word w) y.due)

          pub call_line : not look.ok ≡ true → left w Damaged ≡ called k q w
          unfolding called
          call_line m = rw (s, r, t, c) (sym (carried ∙ ap (λ (b : Bool). cond b (acted k w z) (left w Damaged)) (tested-is ∙ not-true look.ok m)))

          pub call-done : (u v : List ℕ) → not look.ok ≡ false → u ≡ counted k y.due w → v ≡ worked_by k n y.due u → outcome y.answer v ≡ called k q w
          unfolding called
          call-done u v m a b =
              let d = y.due in
              let done-is : v ≡ done k d w =
              b ∙ ap₂ (λ (n : Sizes) (u : List ℕ). worked_by k n d u) g a ∙ worked-now k w d (subst (λ (y : Choice). Ready k w y.due) (sym p) (come-ready k w s c q r)) in
              rw (s, r, t, c)
              (ap (outcome y.answer) done-is ∙ ap (acted k w) p ∙ sym (carried ∙ ap (λ (b : Bool). cond b (acted k w z) (left w Damaged)) (tested-is ∙ not-false look.ok m)))

-- ---- what the steps ask

pub due-ready : (k : Rows) (q : Request) (w : List ℕ) → shape_ok k (length w) ≡ true → rank_fit k q ≡ true → counts_ok k w ≡ true → (y : Choice) → y ≡ come_to k (word w) (heads k w) q → Ready k w y.due
due-ready k q w s r c y p = subst (λ (y : Choice). Ready k w y.due) (sym p) (come-ready k w s c q r)

pub sizes-fit : (k : Rows) (w : List ℕ) (d : Due) (n : Sizes) → n ≡ sizes_by k (word w) d → Ready k w d → Fits k n d
sizes-fit k w d n e r = rw e r.fits

pub work-ready : (k : Rows) (w u : List ℕ) (d : Due) (n : Sizes) (look : Look) → shape_ok k (length w) ≡ true → Ready k w d → look ≡ looked k w n d → not look.ok ≡ false → u ≡ counted k d w
    → (shape_ok k (length u) ≡ true) × Passed (looked k u n d) look.spot
work-ready k w u d n look s r f m e =
    let p : looked k u n d ≡ look = ap (λ (u : List ℕ). looked k u n d) e ∙ looked-past k w n d r.standing ∙ sym f in
    (ap (shape_ok k) (ap length e ∙ counted-long k d w) ∙ s, rw p (not-false look.ok m, refl))

-- ---- the sizes

module _ (k : Rows) (w : List ℕ) (due : Due) where
  pub sizes-rest : due ≡ Rest → sizes 0 0 ≡ sizes_by k (word w) due
  unfolding sizes_by
  sizes-rest e = rw e refl

  pub sizes-put : (l : ℕ) (x : Element) → due ≡ Put l x → sizes 0 (word w l) ≡ sizes_by k (word w) due
  unfolding sizes_by
  sizes-put l x e = rw e refl

  pub sizes-take : (l : ℕ) → due ≡ Take l → sizes (word w l) 0 ≡ sizes_by k (word w) due
  unfolding sizes_by
  sizes-take l e = rw e refl

  pub sizes-swap : (l g : ℕ) (x : Element) → due ≡ Swap l x → g ≡ goal k l x → sizes (word w l) (word w g) ≡ sizes_by k (word w) due
  unfolding sizes_by
  sizes-swap l g x e p = rw (e, p) refl
