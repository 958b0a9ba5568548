-- A table of refusals as data: what a call asks in turn, and the refusal where it does not hold. One law a rung: from what the code computes, an `if` a rung, to "exactly when".
use Rattle.std.specs.Prelude.{Bool, true, false, cond, ◌⊎◌, ◌≡◌, refl}
use Rattle.std.proofs.lemmas.Bool.{false≢true}
use Rattle.std.proofs.Common.{inl, inr, ⊎_elim, ◌∙◌, sym, ap}
use Rattle.laws.specs.Means.{Means}

-- `rung r P l` asks P, and where it does not hold the refusal is r; `stop r P l` refuses r where P holds
pub data Ladder (R : Type 0) : Type 1 where
  fine : Ladder R
  rung : R → Type 0 → Ladder R → Ladder R
  stop : R → Type 0 → Ladder R → Ladder R

-- r is the refusal of the first rung that fails: every earlier one is excluded
abbrev pub First : {R : Type 0} → Ladder R → R → Type 0
First fine r = ⊥
First (rung x P l) r = ((P → ⊥) × (r ≡ x)) ⊎ (P × First l r)
First (stop x P l) r = (P × (r ≡ x)) ⊎ ((P → ⊥) × First l r)

module _ {R O A : Type 0} (says : O → A) (no : R → O) where
  -- the columns "Exactly when" and "Left behind" of a call's outcome o: where it says a refusal that is the first rung's that does not hold, and where a rung does not hold the outcome is that of its refusal
  pub record Exactly (o : O) (l : Ladder R) : Type 0 where
    pub only : (r : R) → says o ≡ says (no r) → First l r
    pub always : (r : R) → First l r → o ≡ no r

  -- a refused call answers and leaves what its refusal does
  pub left_behind : {o : O} {l : Ladder R} → Exactly o l → (r : R) → says o ≡ says (no r) → o ≡ no r
  left_behind x r e = x.always r (x.only r e)

  -- not refused
  abbrev pub Granted : O → Type 0
  Granted o = (r : R) → says o ≡ says (no r) → ⊥

  pub climb-fine : (o : O) → Granted o → Exactly o fine
  climb-fine o g = record { only = g; always = λ r f. absurd f }

  -- by whether the fact holds, whatever computes the outcome
  pub climb-by : ((x y : R) → says (no x) ≡ says (no y) → x ≡ y) → (x : R) (P : Type 0) (o : O) (l : Ladder R) → (P × Exactly o l) ⊎ ((P → ⊥) × (o ≡ no x)) → Exactly o (rung x P l)
  climb-by same x P o l (inl h) = record { only = λ r e. inr (h.0, h.1.only r e); always = λ r u. ⊎_elim (λ v. absurd (v.0 h.0)) (λ v. h.1.always r v.1) u }
  climb-by same x P o l (inr h) =
      record {
        only = λ r e. inl (h.0, sym (same x r (ap says (sym h.1) ∙ e)));
        always = λ r u. ⊎_elim (λ v. h.1 ∙ ap no (sym v.1)) (λ v. absurd (h.0 v.0)) u;
      }

  pub climb-stop : ((x y : R) → says (no x) ≡ says (no y) → x ≡ y) → (x : R) (P : Type 0) (o : O) (l : Ladder R) → ((P → ⊥) × Exactly o l) ⊎ (P × (o ≡ no x)) → Exactly o (stop x P l)
  climb-stop same x P o l (inl h) = record { only = λ r e. inr (h.0, h.1.only r e); always = λ r u. ⊎_elim (λ v. absurd (h.0 v.0)) (λ v. h.1.always r v.1) u }
  climb-stop same x P o l (inr h) =
      record {
        only = λ r e. inl (h.0, sym (same x r (ap says (sym h.1) ∙ e)));
        always = λ r u. ⊎_elim (λ v. h.1 ∙ ap no (sym v.1)) (λ v. absurd (v.0 h.0)) u;
      }

  -- .. and by a test
  pub climb : ((x y : R) → says (no x) ≡ says (no y) → x ≡ y) → (t : Bool) (P : Type 0) (x : R) (o : O) (l : Ladder R) → Means t P → (P → Exactly o l) → Exactly (cond t o (no x)) (rung x P l)
  climb same true P x o l m z = climb-by same x P o l (inl (m.says refl, z (m.says refl)))
  climb same false P x o l m z = climb-by same x P (no x) l (inr ((λ p. false≢true (m.holds p)), refl))
