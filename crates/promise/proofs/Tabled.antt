-- A call that one table decides: where its tests hold it is done, and else it leaves what its refusal does. What is so of every such call follows from the table and from what is done.
use Rattle.laws.specs.Prelude.{Exactly, Refusal, ◌∙◌, ◌≡◌, climb-fine, false, fine, means-no, means-off, refl, refusal_number, subst, sym, true, true≢false, ℕ}
use Rattle.promise.specs.Prelude.{Clear, Table, Told, bars, decided, decided-clear, decided-either, decided-exactly, each-any, ends, ladder, needs, refusal-told, stops, zero-told}

-- what is so where no test refuses
abbrev pub Passed : Table → Type 0
Passed ends = Unit {0}
Passed (needs x t P l) = P × Passed l
Passed (stops x t D l) = (D → ⊥) × Passed l
Passed (bars x t D l) = (D → ⊥) × Passed l

tests-pass : (a : Table) → Told a → Clear a → Passed a
tests-pass ends t c = tt
tests-pass (needs x b P l) t c = let p = t.0.says c.0 in (p, tests-pass l (t.1 p) c.1)
tests-pass (stops x b D l) t c = let n : D → ⊥ = means-no t.0 c.0 in (n, tests-pass l (t.1 n) c.1)
tests-pass (bars x b D l) t c = let n : D → ⊥ = λ d. true≢false (sym c.0 ∙ t.0.shown d) in (n, tests-pass l (t.1 n) c.1)

pass-tests : (a : Table) → Told a → Passed a → Clear a
pass-tests ends t p = tt
pass-tests (needs x b P l) t p = (t.0.holds p.0, pass-tests l (t.1 p.0) p.1)
pass-tests (stops x b D l) t p = (means-off t.0 p.0, pass-tests l (t.1 p.0) p.1)
pass-tests (bars x true D l) t p = (refl, pass-tests l (t.1 p.0) p.1)
pass-tests (bars x false D l) t p = absurd (p.0 (t.0.found refl))

-- the outcome c goes by the table a: each test stands for its fact, and where none refuses o is done. says is the number of an outcome, no x what a refusal leaves
pub record Goes {O : Type 0} (says : O → ℕ) (no : Refusal → O) (a : Table) (o c : O) : Type 0 where
  pub told : Told a
  pub is : c ≡ decided no a o
  pub done : says o ≡ 0
  pub number : (x : Refusal) → says (no x) ≡ refusal_number x

module _ {O : Type 0} {says : O → ℕ} {no : Refusal → O} {a : Table} {o c : O} (g : Goes says no a o c) where
  -- what is so of every refusal, and of what is done where the facts hold, is so of the outcome
  pub either : (P : O → Type 0) → ((x : Refusal) → P (no x)) → (Passed a → P o) → P c
  either P f h = subst P (sym g.is) (decided-either no P a o (each-any _ f a) (λ k. h (tests-pass a g.told k)))

  -- where they hold o is done
  pub passes : Passed a → c ≡ o
  passes p = g.is ∙ decided-clear no a o (pass-tests a g.told p)

  -- .. and where it is not refused they hold
  pub granted : says c ≡ 0 → Passed a
  granted = either (λ v. says v ≡ 0 → Passed a) (λ x e. absurd (zero-told x (sym e ∙ g.number x))) (λ p e. p)

  -- what is so of what is done is so of what is not refused
  pub keeps : (P : O → Type 0) → P o → says c ≡ 0 → P c
  keeps P p e = subst P (sym (passes (granted e))) p

  -- EXACTLY
  pub exactly : Exactly says no c (ladder a fine)
  exactly =
      subst (λ (v : O). Exactly says no v (ladder a fine)) (sym g.is)
      (decided-exactly says no (λ x y e. refusal-told x y (sym (g.number x) ∙ e ∙ g.number y)) (λ (v : O). v) no a o fine g.told (each-any _ (λ x. refl) a)
      (λ k. climb-fine says no o (λ x e. zero-told x (sym g.done ∙ e ∙ g.number x))))
