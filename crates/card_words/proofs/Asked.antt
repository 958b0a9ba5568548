-- The request of a number, and the mark: each test and what follows it make what the definitions say.
use Rattle.laws.specs.Prelude.{Bool, Idle, List, Pop, Push, Replace, ◌&&◌, ◌<◌, ◌∙◌, ◌≡◌, ◌≤◌, and_left, and_right, ap, element, eq-eqb, false, get_or, le-leb, leb, leb-true, length, lt-leb, ne_eqb, not, not-false, sym, ℕ}
use Rattle.card_words.specs.Asked.{asked, marked, request_of}

module _ (n rank tag bytes : ℕ) where
  pub request-idle : (n ≡ 1 → ⊥) → (n ≡ 2 → ⊥) → (n ≡ 3 → ⊥) → Idle ≡ request_of n rank tag bytes
  unfolding request_of
  request-idle a b d = rw (ne_eqb n 1 a, ne_eqb n 2 b, ne_eqb n 3 d)

  pub request-push : n ≡ 1 → Push (element rank tag bytes) ≡ request_of n rank tag bytes
  unfolding request_of
  request-push e = rw (eq-eqb n 1 e)

  pub request-pop : (n ≡ 1 → ⊥) → n ≡ 2 → Pop ≡ request_of n rank tag bytes
  unfolding request_of
  request-pop a e = rw (ne_eqb n 1 a, eq-eqb n 2 e)

  pub request-replace : (n ≡ 1 → ⊥) → (n ≡ 2 → ⊥) → n ≡ 3 → Replace (element rank tag bytes) ≡ request_of n rank tag bytes
  unfolding request_of
  request-replace a b e = rw (ne_eqb n 1 a, ne_eqb n 2 b, eq-eqb n 3 e)

module _ (mark : List ℕ) where
  pub unmarked : length mark < 1 → false ≡ marked mark
  unfolding marked
  unmarked h = rw (lt-leb 1 (length mark) h)

  pub marked-is : 1 ≤ length mark → leb (get_or mark 0 0) 1 ≡ marked mark
  unfolding marked
  marked-is h = rw (le-leb 1 (length mark) h)

  pub marked-some : (b : Bool) → b ≡ marked mark → not b ≡ false → 1 ≤ length mark
  unfolding marked
  marked-some b e f = leb-true 1 (length mark) (and_left (leb 1 (length mark)) (leb (get_or mark 0 0) 1) (sym e ∙ not-false b f))

  pub asked_is : (request : ℕ) (b : Bool) → b ≡ marked mark → (leb request 3 && b) ≡ asked mark request
  unfolding asked
  asked_is request b e = ap (λ (b : Bool). leb request 3 && b) e

  pub asked-some : (request : ℕ) (b : Bool) → b ≡ asked mark request → not b ≡ false → 1 ≤ length mark
  unfolding asked marked
  asked-some request b e f = leb-true 1 (length mark) (and_left (leb 1 (length mark)) (leb (get_or mark 0 0) 1) (and_right (leb request 3) (leb 1 (length mark) && leb (get_or mark 0 0) 1) (sym e ∙ not-false b f)))
