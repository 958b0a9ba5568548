-- A test and the fact that it stands for: the test answers yes exactly if the fact holds.
use Rattle.std.specs.Prelude.{ℕ, ◌≤◌, ◌<◌, Bool, true, false, not, ◌&&◌, ◌≡◌, refl, leb, ltb, eqb}
use Rattle.std.specs.Bool.{beq}
use Rattle.std.proofs.lemmas.Bool.{false≢true}
use Rattle.std.proofs.Common.{sym, ◌∙◌, leb-true, le-leb, ltb-true, lt-ltb, eqb-true, eq-eqb}

pub record Means (t : Bool) (P : Type 0) : Type 0 where
  pub says : t ≡ true → P
  pub holds : P → t ≡ true

-- the one holds exactly if the other does
pub record Iff (A B : Type 0) : Type 0 where
  pub to : A → B
  pub from : B → A

pub means-leb : (a b : ℕ) → Means (leb a b) (a ≤ b)
means-leb a b = record { says = leb-true a b; holds = le-leb a b }

pub means-ltb : (a b : ℕ) → Means (ltb a b) (a < b)
means-ltb a b = record { says = ltb-true a b; holds = lt-ltb a b }

pub means-eqb : (a b : ℕ) → Means (eqb a b) (a ≡ b)
means-eqb a b = record { says = eqb-true a b; holds = eq-eqb a b }

-- the same fact in other words
pub means-by : {t : Bool} {P Q : Type 0} → Means t P → (P → Q) → (Q → P) → Means t Q
means-by m f g = record { says = λ e. f (m.says e); holds = λ q. m.holds (g q) }

no_test : (t : Bool) {P : Type 0} → Means t P → Means (not t) (P → ⊥)
no_test true m = record { says = λ e. absurd (false≢true e); holds = λ n. absurd (n (m.says refl)) }
no_test false m = record { says = λ e p. false≢true (m.holds p); holds = λ n. refl }

pub means-not : {t : Bool} {P : Type 0} → Means t P → Means (not t) (P → ⊥)
means-not {t} m = no_test t m

both-tests : (a b : Bool) {A B : Type 0} → Means a A → Means b B → Means (a && b) (A × B)
both-tests true b p q = record { says = λ e. (p.says refl, q.says e); holds = λ x. q.holds x.1 }
both-tests false b p q = record { says = λ e. absurd (false≢true e); holds = λ x. p.holds x.0 }

pub means-and : {a b : Bool} {A B : Type 0} → Means a A → Means b B → Means (a && b) (A × B)
means-and {a} {b} p q = both-tests a b p q

like-tests : (a b : Bool) {A B : Type 0} → Means a A → Means b B → Means (beq a b) (Iff A B)
like-tests true true p q = record { says = λ e. record { to = λ x. q.says refl; from = λ y. p.says refl }; holds = λ i. refl }
like-tests true false p q = record { says = λ e. absurd (false≢true e); holds = λ i. q.holds (i.to (p.says refl)) }
like-tests false true p q = record { says = λ e. absurd (false≢true e); holds = λ i. p.holds (i.from (q.says refl)) }
like-tests false false p q = record { says = λ e. record { to = λ x. absurd (false≢true (p.holds x)); from = λ y. absurd (false≢true (q.holds y)) }; holds = λ i. refl }

-- two tests that agree
pub means-beq : {a b : Bool} {A B : Type 0} → Means a A → Means b B → Means (beq a b) (Iff A B)
means-beq {a} {b} p q = like-tests a b p q

unlike-tests : (a b : Bool) {A B : Type 0} → Means a A → Means (not b) B → Means (not (beq a b)) (Iff A B)
unlike-tests true true p q = record { says = λ e. absurd (false≢true e); holds = λ i. q.holds (i.to (p.says refl)) }
unlike-tests true false p q = record { says = λ e. record { to = λ x. q.says refl; from = λ y. p.says refl }; holds = λ i. refl }
unlike-tests false true p q = record { says = λ e. record { to = λ x. absurd (false≢true (p.holds x)); from = λ y. absurd (false≢true (q.holds y)) }; holds = λ i. refl }
unlike-tests false false p q = record { says = λ e. absurd (false≢true e); holds = λ i. p.holds (i.from (q.says refl)) }

-- .. and two that differ: the second is told by what its no means
pub means-differ : {a : Bool} {A B : Type 0} → Means a A → (b : Bool) → Means (not b) B → Means (not (beq a b)) (Iff A B)
means-differ {a} p b q = unlike-tests a b p q

-- a test that answers no: its fact does not hold, and the other way round
pub means-no : {t : Bool} {P : Type 0} → Means t P → t ≡ false → P → ⊥
means-no m e p = false≢true (sym e ∙ m.holds p)

not_so : (t : Bool) {P : Type 0} → Means t P → (P → ⊥) → t ≡ false
not_so true m n = absurd (n (m.says refl))
not_so false m n = refl

pub means-off : {t : Bool} {P : Type 0} → Means t P → (P → ⊥) → t ≡ false
means-off {t} m n = not_so t m n
