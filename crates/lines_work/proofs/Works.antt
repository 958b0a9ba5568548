-- The work at a line and the looks at the lines, from what the steps have done.
use Rattle.laws.specs.Prelude.{suc, zero, Bool, Element, List, ◌&&◌, ◌*◌, ◌+◌, ◌-◌, ◌||◌, ◌∙◌, ◌≡◌, ◌≤◌, and_left, and_right, ap, ap₂, arith, cond, dec_lt, eq-eqb, eqb, false, false≢true, inl, inr, length, lt-ltb, ltb, ne_eqb, not, refl, subst, sym, true, true≢false, ℕ, ℕ_discrete}
use Rattle.lines_model.proofs.Clocked.{moved_length}
use Rattle.lines_model.proofs.Keeps.{row_before}
use Rattle.lines_model.proofs.Row.{row-ext, row-length, set-length, set_other}
use Rattle.lines_model.specs.Layout.{moved, put_in, row_at, row_in, row_set, shape_ok, without}
use Rattle.lines_model.specs.Rules.{ascends, goal, is_blank, line_ok, owned}
use Rattle.lines_model.specs.declared.Due.{Due}
use Rattle.lines_model.specs.declared.Due.TheVariants.{Put, Rest, Swap, Take}
use Rattle.lines_model.specs.declared.Rows.{Rows}
use Rattle.lines_work.proofs.Choices.{at-line}
use Rattle.lines_work.proofs.Spots.{spot-most}
use Rattle.lines_work.specs.Shift.{at_most}
use Rattle.lines_work.specs.Work.{both, Fits, lined, Look, looked, Lying, Passed, Seated, seen, Sizes, worked_by}

module _ (w : List ℕ) (a c spot : ℕ) (x : Element) where
  pub lying-both : (g t : Bool) → (g && t) ≡ true → Lying w a c g t spot x → (1 ≤ c) × (a + 3 * c ≤ length w) × Seated w a c spot x
  lying-both true true e l = l
  lying-both true false e l = absurd (false≢true e)
  lying-both false t e l = absurd (false≢true e)

  pub lying-gives : (g t : Bool) → (g && t) ≡ false → g ≡ true → Lying w a c g t spot x → (1 ≤ c) × (a + 3 * c ≤ length w)
  lying-gives true true e p l = absurd (true≢false e)
  lying-gives true false e p l = l
  lying-gives false t e p l = absurd (false≢true p)

  pub lying-takes : (g t : Bool) → g ≡ false → t ≡ true → Lying w a c g t spot x → (a + 3 * c + 3 ≤ length w) × Seated w a c spot x
  lying-takes true t p q l = absurd (true≢false p)
  lying-takes false true p q l = l
  lying-takes false false p q l = absurd (false≢true q)

module _ (w v : List ℕ) (a c : ℕ) (x : Element) where
  pub lined-both : (g t : Bool) → (g && t) ≡ true → v ≡ lined w a c true true x → v ≡ lined w a c g t x
  lined-both true true e p = p
  lined-both true false e p = absurd (false≢true e)
  lined-both false t e p = absurd (false≢true e)

  pub lined-gives : (g t : Bool) → (g && t) ≡ false → g ≡ true → v ≡ without w a c → v ≡ lined w a c g t x
  unfolding lined
  lined-gives true true e q p = absurd (true≢false e)
  lined-gives true false e q p = p
  lined-gives false t e q p = absurd (false≢true q)

  pub lined-takes : (g t : Bool) → g ≡ false → t ≡ true → v ≡ put_in w a c x → v ≡ lined w a c g t x
  unfolding lined
  lined-takes true t e q p = absurd (true≢false e)
  lined-takes false true e q p = p
  lined-takes false false e q p = absurd (false≢true q)

pub lined-none : (w : List ℕ) (a c : ℕ) (x : Element) (g t : Bool) → g ≡ false → t ≡ false → w ≡ lined w a c g t x
unfolding lined
lined-none w a c x true t e q = absurd (true≢false e)
lined-none w a c x false true e q = absurd (true≢false q)
lined-none w a c x false false e q = refl

-- x's place where the first leaves
pub swap-place : (spot place : ℕ) → place ≡ spot - 1 → place ≡ cond (ltb 0 spot) (spot - 1) 0
swap-place zero place e = e ∙ omega arith
swap-place (suc n) place e = rw (lt-ltb 0 (suc n) (omega arith)) e

pub swap-few : (w : List ℕ) (a c spot place : ℕ) (x : Element) → Seated w a c spot x → 1 ≤ c → place ≡ spot - 1 → place + 1 ≤ c
swap-few w a c spot place x s h e = omega (arith, spot-most w a c spot x s, e)

-- ---- looks

module _ (k : Rows) (w : List ℕ) (n : Sizes) (due : Due) (r : Look) where
  pub looked-rest : due ≡ Rest → r ≡ record { ok = true; spot = 0 } → r ≡ looked k w n due
  unfolding looked
  looked-rest e p = rw e p

  pub looked-put : (l : ℕ) (x : Element) → due ≡ Put l x → r ≡ seen k w l n.takes x.rank.0 → r ≡ looked k w n due
  unfolding looked
  looked-put l x e p = rw e p

  pub looked-take : (l : ℕ) → due ≡ Take l → r ≡ seen k w l n.gives 0 → r ≡ looked k w n due
  unfolding looked
  looked-take l e p = rw e p

  pub looked-swap : (l : ℕ) (x : Element) → due ≡ Swap l x → r ≡ looked k w n (Swap l x) → r ≡ looked k w n due
  looked-swap l x e p = rw e p

pub look-both : (k : Rows) (w : List ℕ) (n : Sizes) (l g : ℕ) (x : Element) (to from : Look) → g ≡ goal k l x → to ≡ seen k w g n.takes x.rank.0 → from ≡ seen k w l n.gives 0
    → ◌≡◌ {A = Look} (record { ok = from.ok && to.ok; spot = to.spot }) (looked k w n (Swap l x))
unfolding looked
look-both k w n l g x to from e p q = ap₂ (λ (a b : Look). both a b) q (p ∙ ap (λ (g : ℕ). seen k w g n.takes x.rank.0) e)

without-long : (w : List ℕ) (a c : ℕ) → length (without w a c) ≡ length w
unfolding without
without-long w a c = set-length w a (moved (row_in w a c))

-- ---- the lines of what is to be done

-- a line that passes ascends
rising-line : (k : Rows) (w : List ℕ) (l c : ℕ) → line_ok k w l c ≡ true → ascends (row_in w (row_at k l) c) ≡ true
unfolding line_ok
rising-line k w l c e =
    let r = row_in w (row_at k l) c in
    and_left (ascends r) (owned k l r) (and_left (ascends r && owned k l r) (not (ltb c k.places) || is_blank w (row_at k l + (c + c + c))) e)

module _ (k : Rows) (w : List ℕ) (n : Sizes) (spot : ℕ) where
  pub put-ready : (l a : ℕ) (x : Element) → shape_ok k (length w) ≡ true → Fits k n (Put l x) → Passed (looked k w n (Put l x)) spot → a ≡ row_at k l → Lying w a n.takes false true spot x
  unfolding looked seen
  put-ready l a x s f p e =
      let z = at-line k (length w) s l f.0 in
      rw e (omega (arith, z.row, f.1), record { rising = rising-line k w l n.takes p.0; spot_is = p.1 })

  pub take-ready : (l a : ℕ) (x : Element) → shape_ok k (length w) ≡ true → Fits k n (Take l) → a ≡ row_at k l → Lying w a n.gives true false spot x
  take-ready l a x s f e = let z = at-line k (length w) s l f.0 in rw e (f.1, omega (arith, z.row, f.2))

  module _ (l a g : ℕ) (x : Element) (s : shape_ok k (length w) ≡ true) (f : Fits k n (Swap l x)) (p : Passed (looked k w n (Swap l x)) spot) (e : a ≡ row_at k l) (q : g ≡ goal k l x) where
    seated-goal : Seated w (row_at k (goal k l x)) n.takes spot x
    unfolding looked seen
    seated-goal = record { rising = rising-line k w (goal k l x) n.takes (and_right (line_ok k w l n.gives) (line_ok k w (goal k l x) n.takes) p.0); spot_is = p.1 }

    pub swap-ready : Lying w a n.gives true (eqb l g) spot x
    swap-ready = elim (ℕ_discrete l g) [ yes i ↦ rw (eq-eqb l g i) (own i) | no i ↦ rw (ne_eqb l g i) gone ]
      where
        room_at : row_at k l + 3 * k.places ≤ length w
        room_at = (at-line k (length w) s l f.0).row

        gone : (1 ≤ n.gives) × (a + 3 * n.gives ≤ length w)
        gone = rw e (f.1, omega (arith, room_at, f.2))

        own : l ≡ g → (1 ≤ n.gives) × (a + 3 * n.gives ≤ length w) × Seated w a n.gives spot x
        own i =
            let j : l ≡ goal k l x = i ∙ q in
            (gone.0, gone.1, rw e (subst (λ (h : ℕ). Seated w (row_at k l) h spot x) (f.5 j) (subst (λ (h : ℕ). Seated w (row_at k h) n.takes spot x) (sym j) seated-goal)))

    -- the goal's row stands when another has given
    goal-stands : (l ≡ g → ⊥) → row_in (without w (row_at k l) n.gives) (row_at k g) n.takes ≡ row_in w (row_at k g) n.takes
    unfolding without
    goal-stands i =
        let r = moved (row_in w (row_at k l) n.gives) in
        let long : length r ≡ n.gives = moved_length (row_in w (row_at k l) n.gives) ∙ row-length w (row_at k l) n.gives in
        row-ext (row_set w (row_at k l) r) w (row_at k g) n.takes (λ j a b. set_other w (row_at k l) r j (elim (dec_lt g l) [
          | yes d ↦ inl (omega (arith, row_before k g l d, f.4))
          | no d ↦ inr (omega (arith, row_before k l g (omega arith), f.2))
        ]))

    pub goal-ready : (v : List ℕ) (b : ℕ) → (l ≡ g → ⊥) → v ≡ lined w a n.gives true (eqb l g) x → b ≡ row_at k g → Lying v b n.takes false true spot x
    unfolding lined
    goal-ready v b i d c =
        let gone : v ≡ without w (row_at k l) n.gives = d ∙ ap (λ (t : Bool). lined w a n.gives true t x) (ne_eqb l g i) ∙ ap (λ (a : ℕ). without w a n.gives) e in
        let row : row_in v b n.takes ≡ row_in w (row_at k (goal k l x)) n.takes =
        ap₂ (λ (v : List ℕ) (b : ℕ). row_in v b n.takes) gone c ∙ goal-stands i ∙ ap (λ (g : ℕ). row_in w (row_at k g) n.takes) q in
        let long : length v ≡ length w = ap length gone ∙ without-long w (row_at k l) n.gives in
        let z = at-line k (length w) s g (rw q f.3) in
        (omega (arith, z.row, f.6 (λ j. i (j ∙ sym q))), record { rising = rw row seated-goal.rising; spot_is = seated-goal.spot_is ∙ ap (at_most x.rank.0) (sym row) })

    pub swap-same : (v : List ℕ) → l ≡ g → v ≡ lined w a n.gives true (eqb l g) x → v ≡ worked_by k n (Swap l x) w
    unfolding worked_by
    swap-same v i d = rw (eq-eqb l (goal k l x) (i ∙ q)) (d ∙ ap₂ (λ (a : ℕ) (t : Bool). lined w a n.gives true t x) e (eq-eqb l g i))

    pub swap-both : (u v : List ℕ) (b : ℕ) → (l ≡ g → ⊥) → u ≡ lined w a n.gives true (eqb l g) x → b ≡ row_at k g → v ≡ lined u b n.takes false true x → v ≡ worked_by k n (Swap l x) w
    unfolding worked_by
    swap-both u v b i d c t =
        let gone : u ≡ without w (row_at k l) n.gives = d ∙ ap (λ (t : Bool). lined w a n.gives true t x) (ne_eqb l g i) ∙ (unfold lined in ap (λ (a : ℕ). without w a n.gives) e) in
        rw (ne_eqb l (goal k l x) (λ j. i (j ∙ sym q))) (t ∙ ap₂ (λ (u : List ℕ) (b : ℕ). lined u b n.takes false true x) gone (c ∙ ap (row_at k) q))

module _ (k : Rows) (w : List ℕ) (n : Sizes) (due : Due) where
  pub work-rest : due ≡ Rest → w ≡ worked_by k n due w
  unfolding worked_by
  work-rest e = rw e refl

  pub work-put : (v : List ℕ) (l a : ℕ) (x : Element) → due ≡ Put l x → a ≡ row_at k l → v ≡ lined w a n.takes false true x → v ≡ worked_by k n due w
  unfolding worked_by
  work-put v l a x e p q = rw e (q ∙ ap (λ (a : ℕ). lined w a n.takes false true x) p)

  pub work-take : (v : List ℕ) (l a : ℕ) (x : Element) → due ≡ Take l → a ≡ row_at k l → v ≡ lined w a n.gives true false x → v ≡ worked_by k n due w
  unfolding worked_by lined
  work-take v l a x e p q = rw e (q ∙ ap (λ (a : ℕ). without w a n.gives) p)

  pub work-swap : (v : List ℕ) (l : ℕ) (x : Element) → due ≡ Swap l x → v ≡ worked_by k n (Swap l x) w → v ≡ worked_by k n due w
  work-swap v l x e p = rw e p
