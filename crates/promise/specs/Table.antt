-- A table of refusals with the tests that decide it: what a call asks in turn, by which test, and for which cause it refuses. From the one table come the
-- outcome (`decided`), the ladder that says it in words (`ladder`), and what has to be shown of it (`Told`): that each test stands for its fact.
use Rattle.std.specs.Prelude.{◌≡◌, ◌⊎◌}
use Rattle.laws.specs.Prelude.{Bool, Exactly, Fails, Ladder, Means, Refusal, climb-by, climb-stop, cond, false, false≢true, inl, inr, refl, rung, stop, sym, true, true≢false, ◌∙◌}

-- `needs x t P`: P is needed, the test t says whether it holds, else x. `stops x t D`: refused with x for cause D, t says D. `bars x t D`: refused with x
-- for cause D, t says that D does not hold, as the tests for damage do
pub data TableOf (R : Type 0) : Type 1 where
  ends : TableOf R
  needs : R → Bool → Type 0 → TableOf R → TableOf R
  stops : R → Bool → Type 0 → TableOf R → TableOf R
  bars : R → Bool → Type 0 → TableOf R → TableOf R

-- of a queue's refusals
abbrev pub Table : Type 1
Table = TableOf Refusal

-- the outcome: the first test that refuses decides, and o is what no test refuses
abbrev pub decided : {R O : Type 0} → (R → O) → TableOf R → O → O
decided bad ends o = o
decided bad (needs x t P l) o = cond t (decided bad l o) (bad x)
decided bad (stops x t D l) o = cond t (bad x) (decided bad l o)
decided bad (bars x t D l) o = cond t (decided bad l o) (bad x)

-- the table in words, before the ladder l
abbrev pub ladder : {R : Type 0} → TableOf R → Ladder R → Ladder R
ladder ends l = l
ladder (needs x t P a) l = rung x P (ladder a l)
ladder (stops x t D a) l = stop x D (ladder a l)
ladder (bars x t D a) l = stop x D (ladder a l)

-- every test stands for its fact, where the ones before it have not refused
abbrev pub Told : {R : Type 0} → TableOf R → Type 0
Told ends = Unit {0}
Told (needs x t P l) = Means t P × (P → Told l)
Told (stops x t D l) = Means t D × ((D → ⊥) → Told l)
Told (bars x t D l) = Fails t D × ((D → ⊥) → Told l)

-- no test refuses
abbrev pub Clear : {R : Type 0} → TableOf R → Type 0
Clear ends = Unit {0}
Clear (needs x t P l) = (t ≡ true) × Clear l
Clear (stops x t D l) = (t ≡ false) × Clear l
Clear (bars x t D l) = (t ≡ true) × Clear l

-- P holds of every refusal of the table
abbrev pub Each : {R : Type 0} → (R → Type 0) → TableOf R → Type 0
Each P ends = Unit {0}
Each P (needs x t Q l) = P x × Each P l
Each P (stops x t D l) = P x × Each P l
Each P (bars x t D l) = P x × Each P l

pub each-any : {R : Type 0} (P : R → Type 0) → ((x : R) → P x) → (a : TableOf R) → Each P a
each-any P f ends = tt
each-any P f (needs x t Q l) = (f x, each-any P f l)
each-any P f (stops x t D l) = (f x, each-any P f l)
each-any P f (bars x t D l) = (f x, each-any P f l)

-- C is among the causes, or keeps what is needed from holding: then the table refuses
abbrev pub Guards : {R : Type 0} → Type 0 → TableOf R → Type 0
Guards C ends = ⊥
Guards C (needs x t P l) = (C → P → ⊥) ⊎ Guards C l
Guards C (stops x t D l) = (C → D) ⊎ Guards C l
Guards C (bars x t D l) = (C → D) ⊎ Guards C l

-- ---- laws
-- what is so of every refusal of the table, and of what no test refuses, is so of the outcome
pub decided-either : {R O : Type 0} (bad : R → O) (P : O → Type 0) (a : TableOf R) (o : O) → Each (λ x. P (bad x)) a → (Clear a → P o) → P (decided bad a o)
decided-either bad P ends o e f = f tt
decided-either bad P (needs x true Q l) o e f = decided-either bad P l o e.1 (λ c. f (refl, c))
decided-either bad P (needs x false Q l) o e f = e.0
decided-either bad P (stops x true D l) o e f = e.0
decided-either bad P (stops x false D l) o e f = decided-either bad P l o e.1 (λ c. f (refl, c))
decided-either bad P (bars x true D l) o e f = decided-either bad P l o e.1 (λ c. f (refl, c))
decided-either bad P (bars x false D l) o e f = e.0

-- what no test refuses
pub decided-clear : {R O : Type 0} (bad : R → O) (a : TableOf R) (o : O) → Clear a → decided bad a o ≡ o
decided-clear bad ends o c = refl
decided-clear bad (needs x true Q l) o c = decided-clear bad l o c.1
decided-clear bad (needs x false Q l) o c = absurd (false≢true c.0)
decided-clear bad (stops x true D l) o c = absurd (true≢false c.0)
decided-clear bad (stops x false D l) o c = decided-clear bad l o c.1
decided-clear bad (bars x true D l) o c = decided-clear bad l o c.1
decided-clear bad (bars x false D l) o c = absurd (false≢true c.0)

-- a cause that the table guards against does not get past it
pub guarded : {R : Type 0} (a : TableOf R) {C : Type 0} → Told a → Guards C a → C → Clear a → ⊥
guarded ends t g c k = g
guarded (needs x b P l) t (inl h) c k = h c (t.0.says k.0)
guarded (needs x b P l) t (inr h) c k = guarded l (t.1 (t.0.says k.0)) h c k.1
guarded (stops x b D l) t (inl h) c k = true≢false (sym (t.0.holds (h c)) ∙ k.0)
guarded (stops x b D l) t (inr h) c k = guarded l (t.1 (λ d. true≢false (sym (t.0.holds d) ∙ k.0))) h c k.1
guarded (bars x b D l) t (inl h) c k = true≢false (sym k.0 ∙ t.0.shown (h c))
guarded (bars x b D l) t (inr h) c k = guarded l (t.1 (λ d. true≢false (sym k.0 ∙ t.0.shown d))) h c k.1

-- EXACTLY: the outcome of a table goes by its ladder. f makes an outcome of what is decided, and a refusal of the table becomes what is left behind
module _ {R O Z A : Type 0} (says : O → A) (left : R → O) (told : (x y : R) → says (left x) ≡ says (left y) → x ≡ y) (f : Z → O) (bad : R → Z) where
  pub decided-exactly : (a : TableOf R) (o : Z) (l : Ladder R) → Told a → Each (λ x. f (bad x) ≡ left x) a → (Clear a → Exactly says left (f o) l)
      → Exactly says left (f (decided bad a o)) (ladder a l)
  decided-exactly ends o l t e k = k tt
  decided-exactly (needs x true P a) o l t e k =
      climb-by says left told x P _ (ladder a l) (inl (t.0.says refl, decided-exactly a o l (t.1 (t.0.says refl)) e.1 (λ c. k (refl, c))))
  decided-exactly (needs x false P a) o l t e k = climb-by says left told x P _ (ladder a l) (inr ((λ p. false≢true (t.0.holds p)), e.0))
  decided-exactly (stops x true D a) o l t e k = climb-stop says left told x D _ (ladder a l) (inr (t.0.says refl, e.0))
  decided-exactly (stops x false D a) o l t e k =
      let n : D → ⊥ = λ d. false≢true (t.0.holds d) in
      climb-stop says left told x D _ (ladder a l) (inl (n, decided-exactly a o l (t.1 n) e.1 (λ c. k (refl, c))))
  decided-exactly (bars x true D a) o l t e k =
      let n : D → ⊥ = λ d. true≢false (t.0.shown d) in
      climb-stop says left told x D _ (ladder a l) (inl (n, decided-exactly a o l (t.1 n) e.1 (λ c. k (refl, c))))
  decided-exactly (bars x false D a) o l t e k = climb-stop says left told x D _ (ladder a l) (inr (t.0.found refl, e.0))

-- two outcomes by one table are the same where each refusal is, and what no test refuses
pub decided-same : {R O A B : Type 0} (f : A → O) (g : B → O) (bad : R → A) (ill : R → B) (a : TableOf R) (o : A) (p : B) → ((x : R) → f (bad x) ≡ g (ill x)) → f o ≡ g p
    → f (decided bad a o) ≡ g (decided ill a p)
decided-same f g bad ill ends o p h e = e
decided-same f g bad ill (needs x true P l) o p h e = decided-same f g bad ill l o p h e
decided-same f g bad ill (needs x false P l) o p h e = h x
decided-same f g bad ill (stops x true D l) o p h e = h x
decided-same f g bad ill (stops x false D l) o p h e = decided-same f g bad ill l o p h e
decided-same f g bad ill (bars x true D l) o p h e = decided-same f g bad ill l o p h e
decided-same f g bad ill (bars x false D l) o p h e = h x
