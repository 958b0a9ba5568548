-- The way down to the lowest rank, a word a switch.
use Rattle.laws.specs.Prelude.{Bool, List, ◌%◌, ◌*◌, ◌+◌, ◌-◌, ◌/◌, ◌<◌, ◌^◌, ◌∙◌, ◌≡◌, ◌≤◌, add-one, and_left, and_right, and-true, ap, arith, eqb, false, false≢true, ne_eqb, not, pow-suc, refl, subst, suc, sym, true, zero, ℕ, ℕ_discrete}
use lib.Count.{count_trailing_zeros}
use Rattle.bitmap.specs.Bits.{Found}
use Rattle.bucket_model.specs.Prelude.{find, opens, storeys_from, word, words_of}
use Rattle.bucket_bits.specs.Climbs.{LeadsTo, Switchable}
use Rattle.bucket_bits.proofs.Numbers.{words_up, words-le}

-- word i stands below d storeys, and the lowest set bits lead to it
pub record At (b : List ℕ) (o d i : ℕ) : Type 0 where
  pub j : ℕ
  pub is : i ≡ words_of d + j
  pub finds : j ≡ find b (storeys_from o d)
  pub opened : opens b (storeys_from o d) ≡ true
  pub within : j < 64 ^ d
  pub set : Switchable false b (storeys_from o d) j

-- an open way is open as far as one likes
opens-all : (b : List ℕ) (o d D : ℕ) → d ≤ D → opens b (storeys_from o D) ≡ true → opens b (storeys_from o d) ≡ true
opens-all b o zero zero h e = e
opens-all b o (suc d) zero h e = absurd (omega arith)
opens-all b o d (suc D) h e = elim (ℕ_discrete d (suc D)) [
  | yes p ↦ subst (λ (d : ℕ). opens b (storeys_from o d) ≡ true) (sym p) e
  | no p ↦ opens-all b o d D (omega arith) (and_left (opens b (storeys_from o D)) (not (eqb (word b (o + words_of D + find b (storeys_from o D))) 0)) e)
]

module _ (b : List ℕ) (o D d i : ℕ) (a : At b o d i) (l : d < D) where
  abbrev w : ℕ
  w = word b (o + i)

  abbrev j : ℕ
  j = a.j

  here-is : w ≡ word b (o + words_of d + find b (storeys_from o d))
  here-is = ap (word b) (omega (arith, a.is, a.finds))

  -- a word of the storeys
  pub down-some : i < words_of D
  down-some = omega (arith, a.is, a.within, words-le (suc d) D l)

  down-next : (t : ℕ) → Found (word b (o + i)) t → (w ≡ 0 → ⊥) → At b o (suc d) (64 * i + 1 + t)
  down-next t f n =
      let p : 0 < w = omega arith in
      let q : (64 * j + t) / 64 ≡ j = omega (arith, f.within p) in
      let m : (64 * j + t) % 64 ≡ t = omega (arith, f.within p) in
      let at : word b (o + words_of d + j) ≡ w = ap (λ (x : ℕ). word b (o + words_of d + x)) a.finds ∙ sym here-is in
      let z : t ≡ count_trailing_zeros 64 (word b (o + words_of d + find b (storeys_from o d))) = f.is ∙ ap (count_trailing_zeros 64) here-is in
      record {
        j = 64 * j + t;
        is = omega (arith, a.is, words_up d);
        finds = omega (arith, a.finds);
        opened = and-true (opens b (storeys_from o d)) (not (eqb (word b (o + words_of d + find b (storeys_from o d))) 0)) a.opened (rw (← here-is) (rw (ne_eqb w 0 n) refl));
        within = omega (arith, a.within, f.within p, pow-suc 64 d);
        set = rw (q, m) (rw at (f.here p), λ _. a.set);
      }

  pub down-open : (t : ℕ) → Found (word b (o + i)) t → (w ≡ 0 → ⊥) → At b o (d + 1) (64 * i + 1 + t)
  down-open t f n = subst (λ (d : ℕ). At b o d (64 * i + 1 + t)) (sym (add-one d)) (down-next t f n)

  pub down-shut : w ≡ 0 → opens b (storeys_from o D) ≡ false
  down-shut z = go (opens b (storeys_from o D)) refl
    where
      go : (t : Bool) → opens b (storeys_from o D) ≡ t → opens b (storeys_from o D) ≡ false
      go false e = e
      go true e =
          let x = opens-all b o (suc d) D l e in
          let y = and_right (opens b (storeys_from o d)) (not (eqb (word b (o + words_of d + find b (storeys_from o d))) 0)) x in
          absurd (false≢true ((sym (ap (λ (v : ℕ). not (eqb v 0)) (sym here-is ∙ z))) ∙ y))
