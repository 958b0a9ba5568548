-- When a test fails: each test with the readable fact that holds exactly where the test answers no.
use Rattle.std.specs.Prelude.{◌<◌, ℕ, ◌&&◌, ◌||◌, Bool, false, not, true, [], ◌∷◌, List, ◌⊎◌, ◌≡◌, refl, eqb, leb}
use Rattle.std.proofs.Common.{true≢false, inl, inr, ⊎_elim, sym, ◌∙◌, eq-eqb, eqb-true, leb-false}
use Rattle.std.proofs.lemmas.Bool.{lt-leb}
use Rattle.laws.specs.Lists.{All}

-- the test answers no exactly where D holds
pub record Fails (t : Bool) (D : Type 0) : Type 0 where
  pub found : t ≡ false → D
  pub shown : D → t ≡ false

-- P holds of some element
abbrev pub Any : {A : Type 0} → (A → Type 0) → List A → Type 0
Any P [] = ⊥
Any P (z ∷ zs) = P z ⊎ Any P zs

pub fails-true : Fails true ⊥
fails-true = record { found = λ e. true≢false e; shown = λ d. absurd d }

pub fails-and : (a b : Bool) {A B : Type 0} → Fails a A → Fails b B → Fails (a && b) (A ⊎ B)
fails-and true b p q = record { found = λ e. inr (q.found e); shown = λ d. ⊎_elim (λ x. absurd (true≢false (p.shown x))) (λ y. q.shown y) d }
fails-and false b p q = record { found = λ e. inl (p.found refl); shown = λ d. refl }

-- a part that matters only where the first test answers no
pub fails-or : (a b : Bool) {A B : Type 0} → Fails a A → Fails b B → Fails (a || b) (A × B)
fails-or true b p q = record { found = λ e. absurd (true≢false e); shown = λ d. absurd (true≢false (p.shown d.0)) }
fails-or false b p q = record { found = λ e. (p.found refl, q.found e); shown = λ d. q.shown d.1 }

pub fails-leb : (a b : ℕ) → Fails (leb a b) (b < a)
fails-leb a b = record { found = λ e. leb-false a b e; shown = λ h. lt-leb a b h }

pub fails-not-eqb : (a b : ℕ) → Fails (not (eqb a b)) (a ≡ b)
fails-not-eqb a b = record { found = λ e. go (eqb a b) refl e; shown = λ h. rw (eq-eqb a b h) }
  where
    go : (t : Bool) → eqb a b ≡ t → not t ≡ false → a ≡ b
    go true p e = eqb-true a b p
    go false p e = absurd (true≢false e)

-- what is so of every element of a list
module _ {A : Type 0} (f : A → Bool) (every : List A → Bool) (none : every [] ≡ true) (more : (a : A) (l : List A) → every (a ∷ l) ≡ (f a && every l)) where
  pub fails-every : {D : A → Type 0} → ((a : A) → Fails (f a) (D a)) → (l : List A) → Fails (every l) (Any D l)
  fails-every p [] = record { found = λ e. true≢false (sym none ∙ e); shown = λ d. absurd d }
  fails-every p (a ∷ l) =
      let q = fails-and (f a) (every l) (p a) (fails-every p l) in
      record { found = λ e. q.found (sym (more a l) ∙ e); shown = λ d. more a l ∙ q.shown d }

  pub fails-not-every : {P : A → Type 0} → ((a : A) → Fails (not (f a)) (P a)) → (l : List A) → Fails (not (every l)) (All P l)
  fails-not-every p [] = record { found = λ e. tt; shown = λ d. rw none }
  fails-not-every p (a ∷ l) = rw (more a l) (go (f a) (p a) (every l) (fails-not-every p l))
    where
      go : (x : Bool) {X : Type 0} → Fails (not x) X → (y : Bool) {Y : Type 0} → Fails (not y) Y → Fails (not (x && y)) (X × Y)
      go true p y q = record { found = λ e. (p.found refl, q.found e); shown = λ d. q.shown d.1 }
      go false p y q = record { found = λ e. absurd (true≢false e); shown = λ d. absurd (true≢false (p.shown d.0)) }
