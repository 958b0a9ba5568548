-- What `out` receives: a count told; zeros on a refusal wherever `out` is long enough, and one that is too short is not touched.
use Rattle.laws.specs.Prelude.{Answer, BadShape, Bool, List, ◌<◌, ◌∙◌, ◌≡◌, ◌≤◌, ap, blank, cond, count_number, count_of, false, le-leb, leb, length, lt-leb, number_of, refl, set, sym, true, ℕ, Result, Refusal, Ok, Err, None, Some}
use Rattle.card_words.specs.Out.{answer_out, answer_words, bad_shape, count_after, count_answered, refused_out, zeros}

-- ---- held
module _ (c : Result ℕ Refusal) (out : List ℕ) where
  pub count-short : length out < 1 → count_after 1 out ≡ count_answered c out
  unfolding count_answered
  count-short h = rw (lt-leb 1 (length out) h)

  pub count-told : (d : Result ℕ Refusal) (n : ℕ) (after : List ℕ) → 1 ≤ length out → d ≡ c → (n ≡ count_number d) × (after ≡ set out 0 (count_of d)) → count_after n after ≡ count_answered c out
  unfolding count_answered
  count-told d n after h e p =
      rw (le-leb 1 (length out) h) ((λ i. record { number = p.0 i; out = p.1 i }) ∙ ap (λ (c : Result ℕ Refusal). count_after (count_number c) (set out 0 (count_of c))) e)

-- ---- zeros
answer-zeros : (a : Answer) (out : List ℕ) → (number_of a ≡ 0 → ⊥) → answer_out a out ≡ zeros answer_words out
unfolding blank
answer-zeros (Ok None) out h = absurd (h refl)
answer-zeros (Ok (Some e)) out h = absurd (h refl)
answer-zeros (Err r) out h = refl

-- what a call leaves in `out`, where it answers a and where it does not touch it
pub told-zeros : (a : Answer) (out : List ℕ) (b : Bool) → leb answer_words (length out) ≡ b → (cond b (number_of a) bad_shape ≡ 0 → ⊥) → cond b (answer_out a out) out ≡ refused_out answer_words out
unfolding refused_out
told-zeros a out true e h = answer-zeros a out h ∙ ap (λ (b : Bool). cond b (zeros answer_words out) out) (sym e)
told-zeros a out false e h = ap (λ (b : Bool). cond b (zeros answer_words out) out) (sym e)

-- where the boundary itself says no
module _ (out : List ℕ) where
  pub refused-short : length out < answer_words → out ≡ refused_out answer_words out
  unfolding refused_out
  refused-short h = rw (lt-leb answer_words (length out) h)

  pub refused-told : answer_words ≤ length out → (after : List ℕ) → after ≡ answer_out (Err BadShape) out → after ≡ refused_out answer_words out
  unfolding refused_out blank
  refused-told h after e = rw (le-leb answer_words (length out) h) e

-- held answers 0
pub zeros-held : (c : Result ℕ Refusal) (out : List ℕ) → ((count_answered c out).number ≡ 0 → ⊥) → (count_answered c out).out ≡ refused_out 1 out
unfolding count_answered refused_out
zeros-held c out h = go (leb 1 (length out)) c h
  where
    go : (b : Bool) (c : Result ℕ Refusal) → ((cond b (count_after (count_number c) (set out 0 (count_of c))) (count_after bad_shape out)).number ≡ 0 → ⊥)
        → (cond b (count_after (count_number c) (set out 0 (count_of c))) (count_after bad_shape out)).out ≡ cond b (set out 0 0) out
    go true (Ok n) h = absurd (h refl)
    go true (Err r) h = refl
    go false c h = refl
