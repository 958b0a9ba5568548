-- Kind 2: "full" exactly where Q × W are held.
use Rattle.laws.specs.Prelude.{Bool, Element, Iff, List, ◌&&◌, ◌*◌, ◌<◌, ◌∙◌, ◌≡◌, ◌≤◌, ap, arith, dec_lt, false, le-ltb, lt-ltb, ltb, ltb-false, ne_eqb, refl, suc, sym, true, zero, ℕ, ℕ_discrete}
use Rattle.lines_model.proofs.Which.{sought}
use Rattle.lines_model.specs.Layout.{Rows, word}
use Rattle.lines_model.specs.Promise.{Sound}
use Rattle.lines_model.specs.Rules.{has_room, seek, taker, total}

total-all : (c : ℕ → ℕ) (n most : ℕ) → ((i : ℕ) → i < n → c i ≡ most) → total c n ≡ n * most
unfolding total
total-all c zero most h = omega arith
total-all c (suc n) most h = omega (arith, h n (omega arith), total-all c n most (λ i l. h i (omega arith)))

pub total-most : (c : ℕ → ℕ) (n most : ℕ) → ((i : ℕ) → i < n → c i ≤ most) → total c n ≤ n * most
unfolding total
total-most c zero most h = omega arith
total-most c (suc n) most h = omega (arith, h n (omega arith), total-most c n most (λ i l. h i (omega arith)))

total-less : (c : ℕ → ℕ) (n most j : ℕ) → ((i : ℕ) → i < n → c i ≤ most) → j < n → c j < most → total c n < n * most
unfolding total
total-less c zero most j h l k = absurd (omega arith)
total-less c (suc n) most j h l k = elim (ℕ_discrete j n) [
  | yes p ↦ let e : c j ≡ c n = ap c p in omega (arith, total-most c n most (λ i l. h i (omega arith)))
  | no p ↦ omega (arith, h n (omega arith), total-less c n most j (λ i l. h i (omega arith)) (omega arith) k)
]

pub full-two : (k : Rows) (w : List ℕ) (m : ℕ → List Element) → Sound k w m → (k.kind ≡ 1 → ⊥) → (x : Element) → Iff (has_room k (word w) (taker k (word w) x) ≡ false) (total (word w) k.lines ≡ k.lines * k.places)
full-two k w m s two x = record { to = to; from = from }
  where
    t : ℕ → Bool
    t l = ltb (word w l) k.places

    at : taker k (word w) x ≡ seek (λ l. ltb (word w l) k.places) k.lines
    at = unfold taker in rw (ne_eqb k.kind 1 two) refl

    most : (i : ℕ) → i < k.lines → word w i ≤ k.places
    most i l = omega (arith, s.count i l, s.fit i l)

    to : has_room k (word w) (taker k (word w) x) ≡ false → total (word w) k.lines ≡ k.lines * k.places
    to e =
        let j = seek (λ l. ltb (word w l) k.places) k.lines in
        let f = sought (λ l. ltb (word w l) k.places) k.lines in
        let z : has_room k (word w) j ≡ false = ap (has_room k (word w)) (sym at) ∙ e in
        elim (dec_lt j k.lines) [
          | yes d ↦ (let y : false ≡ true = sym z ∙ ap (λ (b : Bool). b && ltb (word w j) k.places) (lt-ltb j k.lines d) ∙ f.here d in let q : ◌≡◌ {A = ℕ} 0 1 = cc in absurd (omega arith))
          | no d ↦ total-all (word w) k.lines k.places (λ i l. let a = ltb-false (word w i) k.places (f.before i (omega arith)) in omega (arith, most i l))
        ]

    from : total (word w) k.lines ≡ k.lines * k.places → has_room k (word w) (taker k (word w) x) ≡ false
    from e =
        let j = taker k (word w) x in
        elim (dec_lt j k.lines) [
          | yes d ↦ rw (lt-ltb j k.lines d) (le-ltb (word w j) k.places (roomless j d e))
          | no d ↦ rw (le-ltb j k.lines (omega arith)) refl
        ]
      where
        roomless : (j : ℕ) → j < k.lines → total (word w) k.lines ≡ k.lines * k.places → k.places ≤ word w j
        roomless j d e = elim (dec_lt (word w j) k.places) [
          | yes l ↦ absurd (omega (arith, total-less (word w) k.lines k.places j most d l))
          | no l ↦ omega arith
        ]
