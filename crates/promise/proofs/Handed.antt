-- A call that hands on to another: it asks one thing more first, and gives what comes back another form. It goes by the other's table behind its own rung.
use Rattle.laws.specs.Prelude.{BadShape, Bool, Damaged, Exactly, First, Ladder, Means, Refusal, ◌∙◌, ◌≡◌, ◌⊎◌, ap, climb, cond, inl, inr, refl, refusal_number, rung, sym, true, ℕ}
use Rattle.promise.specs.Prelude.{refusal-told}

-- a refusal that a table gives and that is neither 1 nor 2 is given where the shape P is good and nothing is damaged
pub given-later : (ran : Refusal → Bool) → (ran BadShape ≡ true → ⊥) → (ran Damaged ≡ true → ⊥) → {P D L : Type 0} (n : Refusal) → ((P → ⊥) × (n ≡ BadShape)) ⊎ (P × ((D × (n ≡ Damaged)) ⊎ ((D → ⊥) × L))) → ran n ≡ true
    → P × (D → ⊥)
given-later ran a b n (inl u) e = absurd (a (ap ran (sym u.1) ∙ e))
given-later ran a b n (inr (p, inl u)) e = absurd (b (ap ran (sym u.1) ∙ e))
given-later ran a b n (inr (p, inr u)) e = (p, u.0)

-- EXACTLY, in another form: says and left are the other's, tells and behind its own, and f gives the form. What each refusal of the table leaves has to be right where the table gives it
pub exactly-in : {R O Q A : Type 0} (says : O → A) (left : R → O) (tells : Q → A) (behind : R → Q) (f : O → Q) → ((o : O) → tells (f o) ≡ says o) → ((r : R) → tells (behind r) ≡ says (left r))
    → (o : O) (l : Ladder R) → Exactly says left o l → ((r : R) → First l r → f (left r) ≡ behind r) → Exactly tells behind (f o) l
exactly-in says left tells behind f alike names o l x k = record { only = λ r e. x.only r (sym (alike o) ∙ e ∙ names r); always = λ r u. ap f (x.always r u) ∙ k r u }

-- .. where what is left behind is the other's in that form
pub exactly-as : {R O P A : Type 0} (says : O → A) (left : R → O) (f : O → P) (tells : P → A) → ((o : O) → tells (f o) ≡ says o) → (o : O) (l : Ladder R) → Exactly says left o l → Exactly tells (λ r. f (left r)) (f o) l
exactly-as says left f tells h o l x = exactly-in says left tells (λ r. f (left r)) f h (λ r. h (left r)) o l x (λ r u. refl)

-- .. behind one rung more
module _ {O Q : Type 0} (says : O → ℕ) (left : Refusal → O) (tells : Q → ℕ) (behind : Refusal → Q) (f : O → Q) (alike : (o : O) → tells (f o) ≡ says o)
    (numbered : (n : Refusal) → says (left n) ≡ refusal_number n) (names : (n : Refusal) → tells (behind n) ≡ refusal_number n) where
  pub exactly-behind : (t : Bool) (P : Type 0) (x : Refusal) (o : O) (l : Ladder Refusal) → Means t P → Exactly says left o l → (P → (n : Refusal) → First l n → f (left n) ≡ behind n)
      → Exactly tells behind (cond t (f o) (behind x)) (rung x P l)
  exactly-behind t P x o l m e k =
      climb tells behind (λ n u p. refusal-told n u (sym (names n) ∙ p ∙ names u)) t P x (f o) l m (λ p. exactly-in says left tells behind f alike (λ n. names n ∙ sym (numbered n)) o l e (k p))
