-- A queue is a step function on a state: what a call is answered, and the state it leaves. What is said of a list of calls is said here, once
-- for every queue.
use Rattle.std.specs.Prelude.{◌∷◌, ◌≡◌}
use Rattle.laws.specs.Prelude.{List, [], ap₂, refl, sym, ◌∙◌}

pub record Step (A S : Type 0) : Type 0 where
  pub said : A
  pub next : S

abbrev pub step : {A S : Type 0} → A → S → Step A S
step a s = record { said = a; next = s }

module _ {C A S : Type 0} (queue : C → S → Step A S) where
  -- a list of calls, one after the other, each on the state that the one before left: what they are answered, and what is left
  unfoldable pub answers : List C → S → List A
  answers [] s = []
  answers (c ∷ cs) s = (queue c s).said ∷ answers cs (queue c s).next

  unfoldable pub leaves : List C → S → S
  leaves [] s = s
  leaves (c ∷ cs) s = leaves cs (queue c s).next

  -- what every call keeps, a list of calls keeps
  pub leaves-keep : (P : S → Type 0) → ((c : C) (s : S) → P s → P (queue c s).next) → (cs : List C) (s : S) → P s → P (leaves cs s)
  unfolding leaves
  leaves-keep P keep [] s p = p
  leaves-keep P keep (c ∷ cs) s p = leaves-keep P keep cs (queue c s).next (keep c s p)

-- two queues in step: where every call is answered the same and keeps what relates the two states, a list of calls is and does
module _ {C A S T : Type 0} (one : C → S → Step A S) (other : C → T → Step A T) (R : S → T → Type 0) (same : (c : C) (s : S) (t : T) → R s t → (one c s).said ≡ (other c t).said)
    (keep : (c : C) (s : S) (t : T) → R s t → R (one c s).next (other c t).next) where
  pub answers-same : (cs : List C) (s : S) (t : T) → R s t → answers one cs s ≡ answers other cs t
  unfolding answers
  answers-same [] s t i = refl
  answers-same (c ∷ cs) s t i = ap₂ (λ (a : A) (l : List A). a ∷ l) (same c s t i) (answers-same cs _ _ (keep c s t i))

  pub leaves-in-step : (cs : List C) (s : S) (t : T) → R s t → R (leaves one cs s) (leaves other cs t)
  unfolding leaves
  leaves-in-step [] s t i = i
  leaves-in-step (c ∷ cs) s t i = leaves-in-step cs _ _ (keep c s t i)

-- PINNED: "any two outcomes allowed by the statement are shown equal". A contract states an outcome by an equation
abbrev pub Pins : {A : Type 0} → A → Type 0
Pins {A} stated = (x y : A) → x ≡ stated → y ≡ stated → x ≡ y

pub pins : {A : Type 0} (stated : A) → Pins stated
pins stated x y p q = p ∙ sym q
