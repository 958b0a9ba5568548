-- A cycle, from what its steps have tested and written.
use Rattle.laws.specs.Prelude.{Answer, BadRank, BadShape, Bool, Damaged, Element, List, NoTag, Request, ◌&&◌, ◌+◌, ◌-◌, ◌<◌, ◌||◌, ◌∙◌, ◌≡◌, ◌≤◌, ap, arith, eq-eqb, eqb, false, le-ltb, length, lt-ltb, ltb, ne_eqb, not, not-false, not-true, refl, subst, sym, true, ℕ, Err}
use Rattle.lines_model.proofs.Acts.{goal-lt}
use Rattle.lines_model.proofs.Clocked.{due-means, work-long}
use Rattle.lines_model.proofs.Shaped.{shape-means}
use Rattle.lines_model.proofs.Tests.{below-means}
use Rattle.lines_model.proofs.Ticks.{choose-ext, counts_same, cycled-is}
use Rattle.lines_model.proofs.Which.{total_ext}
use Rattle.lines_model.specs.Calls.{counts_ok, heads}
use Rattle.lines_model.specs.Clock.{chosen, DueFit, due_ok, had, Machine, machine, settled, written, cycled, cycle_ok}
use Rattle.lines_model.specs.Layout.{shape_ok, word}
use Rattle.lines_model.specs.Rules.{has_room, choose, come_to, counted, denied, goal, in_range, lines_ok, rank_fit, total, worked}
use Rattle.lines_model.specs.declared.Choice.{Choice}
use Rattle.lines_model.specs.declared.Due.{Due}
use Rattle.lines_model.specs.declared.Due.TheVariants.{Put, Rest, Swap, Take}
use Rattle.lines_model.specs.declared.Rows.{Rows}
use Rattle.lines_work.proofs.Finds.{room}
use Rattle.lines_work.proofs.Ready.{come-ready, due-stands, had-fits, had-worked, looked-ok, Ready, standing-in}
use Rattle.lines_work.specs.Sizes.{sizes, sizes_by, Standing}
use Rattle.lines_work.specs.Work.{Countable, Fits, looked, Passed, totals, worked_by}
use Rattle.lines_work.specs.declared.Look.{Look}
use Rattle.lines_work.specs.declared.Sizes.{Sizes}
use Rattle.lines_work.specs.declared.Totals.{Totals}
use Rattle.promise.specs.Prelude.{Outcome, lacks_tag, outcome}

-- ---- what is pending

module _ (k : Rows) (w : List ℕ) (l : ℕ) where
  pub put-no : (x : Element) → k.lines ≤ l → false ≡ due_ok k w (Put l x)
  unfolding due_ok
  put-no x h = rw (le-ltb l k.lines h) refl

  pub put-yes : (x : Element) (g : ℕ) (b : Bool) → l < k.lines → b ≡ in_range k x → g ≡ goal k l x → ((b && eqb g l) && ltb 0 (word w l)) ≡ due_ok k w (Put l x)
  unfolding due_ok
  put-yes x g b h e f = rw (lt-ltb l k.lines h, ← e, ← f) refl

  pub take_as : has_room k (word w) l ≡ due_ok k w (Take l)
  unfolding due_ok
  take_as = refl

  pub swap-no : (x : Element) → k.lines ≤ l → false ≡ due_ok k w (Swap l x)
  unfolding due_ok
  swap-no x h = rw (le-ltb l k.lines h) refl

  pub swap_rank : (x : Element) (b : Bool) → l < k.lines → b ≡ in_range k x → not b ≡ true → false ≡ due_ok k w (Swap l x)
  unfolding due_ok
  swap_rank x b h e n = rw (lt-ltb l k.lines h, sym e ∙ not-true b n) refl

  pub swap-yes : (x : Element) (g : ℕ) (b : Bool) → l < k.lines → b ≡ in_range k x → not b ≡ false → g ≡ goal k l x → (ltb 0 (word w g) && (eqb l g || ltb (word w l) k.places)) ≡ due_ok k w (Swap l x)
  unfolding due_ok
  swap-yes x g b h e n f = rw (lt-ltb l k.lines h, sym e ∙ not-false b n, ← f) refl

  pub goal-in : (x : Element) (g : ℕ) (b : Bool) → shape_ok k (length w) ≡ true → l < k.lines → b ≡ in_range k x → not b ≡ false → g ≡ goal k l x → g < length w
  goal-in x g b s h e n f =
      let z : g < k.lines = rw f (goal-lt k x (sym e ∙ not-false b n) (length w) ((shape-means k (length w)).says s) l h) in
      omega (arith, z, room k (length w) s)

pub rest_ok : (k : Rows) (w : List ℕ) → true ≡ due_ok k w Rest
unfolding due_ok
rest_ok k w = refl

module _ (k : Rows) (w : List ℕ) (due d : Due) (e : due ≡ d) where
  pub due-as : (b : Bool) → b ≡ due_ok k w d → b ≡ due_ok k w due
  due-as b p = rw e p

  pub due-fit : due_ok k w due ≡ true → DueFit k w d
  due-fit p = (due-means k w d).says (ap (due_ok k w) (sym e) ∙ p)

  pub stands-as : (n : ℕ) → Standing k n due → Standing k n d
  stands-as n p = subst (Standing k n) e p

-- the numbers of elements before
module _ (k : Rows) (w : List ℕ) (due : Due) where
  pub had-rest : due ≡ Rest → sizes 0 0 ≡ sizes_by k (had k w due) due
  unfolding sizes_by
  had-rest e = rw e refl

  pub had-put : (l : ℕ) (x : Element) → due ≡ Put l x → sizes 0 (word w l - 1) ≡ sizes_by k (had k w due) due
  unfolding sizes_by had
  had-put l x e = rw (e, eq-eqb l l refl) refl

  pub had-take : (l : ℕ) → due ≡ Take l → sizes (word w l + 1) 0 ≡ sizes_by k (had k w due) due
  unfolding sizes_by had
  had-take l e = rw (e, eq-eqb l l refl) refl

  pub had-same : (l g : ℕ) (x : Element) → due ≡ Swap l x → g ≡ goal k l x → l ≡ g → 0 < word w g → sizes (word w l) (word w l) ≡ sizes_by k (had k w due) due
  unfolding sizes_by had
  had-same l g x e f i p =
      let j : l ≡ goal k l x = i ∙ f in
      let y : word w (goal k l x) ≡ word w l = ap (word w) (sym j) in
      let q : 0 < word w l = omega (arith, ap (word w) i) in
      let z : word w l - 1 + 1 ≡ word w l = omega arith in
      rw (e, eq-eqb l l refl, eq-eqb l (goal k l x) j, eq-eqb (goal k l x) (goal k l x) refl, eq-eqb (goal k l x) l (sym j), y, z) refl

  pub had-apart : (l g : ℕ) (x : Element) → due ≡ Swap l x → g ≡ goal k l x → (l ≡ g → ⊥) → sizes (word w l + 1) (word w g - 1) ≡ sizes_by k (had k w due) due
  unfolding sizes_by had
  had-apart l g x e f i =
      let n : l ≡ goal k l x → ⊥ = λ j. i (j ∙ sym f) in
      rw (e, eq-eqb l l refl, ne_eqb l (goal k l x) n, eq-eqb (goal k l x) (goal k l x) refl, ne_eqb (goal k l x) l (λ j. n (sym j)), f) refl

-- ---- the choice

module _ (k : Rows) (w : List ℕ) (q : Request) where
  pub choose-rank : (b : Bool) → b ≡ rank_fit k q → not b ≡ true → denied BadRank ≡ choose k (word w) (heads k w) q
  unfolding choose
  choose-rank b e n = rw (sym e ∙ not-true b n) refl

  pub choose-tag : (b t : Bool) → b ≡ rank_fit k q → not b ≡ false → t ≡ lacks_tag q → t ≡ true → denied NoTag ≡ choose k (word w) (heads k w) q
  unfolding choose
  choose-tag b t e n f m = rw (sym e ∙ not-false b n, sym f ∙ m) refl

  pub choose-come : (z : Choice) (b t : Bool) → b ≡ rank_fit k q → not b ≡ false → t ≡ lacks_tag q → t ≡ false → z ≡ come_to k (word w) (heads k w) q → z ≡ choose k (word w) (heads k w) q
  unfolding choose come_to
  choose-come z b t e n f m p = rw (sym e ∙ not-false b n, sym f ∙ m) p

  pub choose-ready : shape_ok k (length w) ≡ true → counts_ok k w ≡ true → Ready k w (choose k (word w) (heads k w) q).due
  choose-ready s c = go (rank_fit k q) refl (lacks_tag q) refl
    where
      none : Ready k w Rest
      none = record { fits = tt; countable = tt; standing = tt }

      go : (r : Bool) → rank_fit k q ≡ r → (t : Bool) → lacks_tag q ≡ t → Ready k w (choose k (word w) (heads k w) q).due
      go false e t f = subst (λ (z : Choice). Ready k w z.due) (choose-rank false (sym e) refl) none
      go true e true f = subst (λ (z : Choice). Ready k w z.due) (choose-tag true true (sym e) refl (sym f) refl) none
      go true e false f = subst (λ (z : Choice). Ready k w z.due) (choose-come (come_to k (word w) (heads k w) q) true false (sym e) refl (sym f) refl refl) (come-ready k w s c q e)

-- ---- a cycle

-- what is handed back says what it is
pub cycle-answered : (w : List ℕ) (a b : Answer) (d e : Due) (o : Outcome Machine) → (a ≡ b) × (d ≡ e) → outcome b (machine w e) ≡ o → outcome a (machine w d) ≡ o
cycle-answered w a b d e o p q = rw (p.0, p.1) q

module _ (k : Rows) (q : Request) (w : List ℕ) (due : Due) where
  pub cycle-shape : shape_ok k (length w) ≡ false → outcome (Err BadShape) (machine w due) ≡ cycled k q (machine w due)
  unfolding cycled
  cycle-shape e = rw e refl

  module _ (s : shape_ok k (length w) ≡ true) where
    torn : cycle_ok k (machine w due) ≡ false → outcome (Err Damaged) (machine w due) ≡ cycled k q (machine w due)
    unfolding cycled
    torn e = rw (s, e) refl

    pub cycle-counts : counts_ok k w ≡ false → outcome (Err Damaged) (machine w due) ≡ cycled k q (machine w due)
    unfolding cycle_ok
    cycle-counts e = torn (rw e refl)

    module _ (c : counts_ok k w ≡ true) where
      pub cycle-due : due_ok k w due ≡ false → outcome (Err Damaged) (machine w due) ≡ cycled k q (machine w due)
      unfolding cycle_ok
      cycle-due e = torn (rw (c, e) refl)

      module _ (p : due_ok k w due ≡ true) (n : Sizes) (g : n ≡ sizes_by k (had k w due) due) (look : Look) (f : look ≡ looked k w n due) where
        tested-is : lines_ok k w (had k w due) due ≡ look.ok
        tested-is = sym (ap (λ (o : Look). o.ok) f ∙ ap (λ (n : Sizes). (looked k w n due).ok) g ∙ looked-ok k w (had k w due) due)

        pub cycle-line : not look.ok ≡ true → outcome (Err Damaged) (machine w due) ≡ cycled k q (machine w due)
        unfolding cycle_ok
        cycle-line m = torn (rw (c, p, tested-is ∙ not-true look.ok m) refl)

        passes : not look.ok ≡ false → cycle_ok k (machine w due) ≡ true
        unfolding cycle_ok
        passes m = rw (c, p, tested-is ∙ not-false look.ok m) refl

        pub settles : (u : List ℕ) → u ≡ worked_by k n due w → u ≡ settled k (machine w due)
        unfolding settled
        settles u e =
            e ∙ ap (λ (n : Sizes). worked_by k n due w) g
            ∙ had-worked k w ((shape-means k (length w)).says s) ((below-means k.places (word w) k.lines).says c) due ((due-means k w due).says p)

        pub cycle-done : (u v : List ℕ) (z : Choice) → not look.ok ≡ false → u ≡ worked_by k n due w → z ≡ choose k (word u) (heads k u) q → v ≡ counted k z.due u
            → outcome z.answer (machine v z.due) ≡ cycled k q (machine w due)
        cycle-done u v z m e a b =
            let st = settles u e in
            let same-choice : z ≡ chosen k q (machine w due) =
            a ∙ ap (λ (u : List ℕ). choose k (word u) (heads k u) q) st
            ∙ sym (choose-ext k (length w) ((shape-means k (length w)).says s) (word w) (word (settled k (machine w due))) (λ i h. sym (settled_same i h)) (heads k (settled k (machine w due))) q) in
            ap (λ (v : List ℕ). outcome z.answer (machine v z.due)) (b ∙ ap (counted k z.due) st)
            ∙ ap (λ (z : Choice). outcome z.answer (written k z.due (machine w due))) same-choice
            ∙ sym (cycled-is k q (machine w due) s (passes m))
          where
            settled_same : (i : ℕ) → i < k.lines → word (settled k (machine w due)) i ≡ word w i
            settled_same i h = unfold settled in counts_same k due w i h

-- ---- what the steps ask

module _ (k : Rows) (w : List ℕ) (due : Due) (s : shape_ok k (length w) ≡ true) (c : counts_ok k w ≡ true) (p : due_ok k w due ≡ true) where
  pub due_in : Standing k (length w) due
  due_in =
      standing-in k (length w) due (omega (arith, room k (length w) s))
      (due-stands k w ((shape-means k (length w)).says s) ((below-means k.places (word w) k.lines).says c) due ((due-means k w due).says p))

  pub due-fits : (n : Sizes) → n ≡ sizes_by k (had k w due) due → Fits k n due
  due-fits n g = rw g (had-fits k w ((shape-means k (length w)).says s) ((below-means k.places (word w) k.lines).says c) due ((due-means k w due).says p))

  module _ (q : Request) (n : Sizes) (g : n ≡ sizes_by k (had k w due) due) (u : List ℕ) (e : u ≡ worked_by k n due w) where
    is : u ≡ worked k due w
    is = e ∙ ap (λ (n : Sizes). worked_by k n due w) g ∙ had-worked k w ((shape-means k (length w)).says s) ((below-means k.places (word w) k.lines).says c) due ((due-means k w due).says p)

    pub work-shape : shape_ok k (length u) ≡ true
    work-shape = ap (shape_ok k) (ap length is ∙ work-long k due w) ∙ s

    same-counts : (i : ℕ) → i < k.lines → word u i ≡ word w i
    same-counts i h = ap (λ (u : List ℕ). word u i) is ∙ counts_same k due w i h

    pub work-total : (t : Totals) → t ≡ totals w k.lines k.places → t.sum ≡ total (word u) k.lines
    unfolding totals
    work-total t f = ap (λ (t : Totals). t.sum) f ∙ sym (total_ext (word u) (word w) k.lines same-counts)

    work-counts : counts_ok k u ≡ true
    work-counts = (below-means k.places (word u) k.lines).holds (λ l h. rw (same-counts l h) ((below-means k.places (word w) k.lines).says c l h))

    pub next-countable : (z : Choice) → z ≡ choose k (word u) (heads k u) q → Countable k u z.due
    next-countable z a = (subst (λ (z : Choice). Ready k u z.due) (sym a) (choose-ready k u q work-shape work-counts)).countable

pub look-passed : (k : Rows) (w : List ℕ) (n : Sizes) (due : Due) (look : Look) → look ≡ looked k w n due → not look.ok ≡ false → Passed (looked k w n due) look.spot
look-passed k w n due look f m = rw (← f) (not-false look.ok m, refl)

pub counts-no : (k : Rows) (w : List ℕ) (t : Totals) → t ≡ totals w k.lines k.places → not t.ok ≡ true → counts_ok k w ≡ false
unfolding totals
counts-no k w t e n = ap (λ (t : Totals). t.ok) (sym e) ∙ not-true t.ok n

pub counts-yes : (k : Rows) (w : List ℕ) (t : Totals) → t ≡ totals w k.lines k.places → not t.ok ≡ false → counts_ok k w ≡ true
unfolding totals
counts-yes k w t e n = ap (λ (t : Totals). t.ok) (sym e) ∙ not-false t.ok n
