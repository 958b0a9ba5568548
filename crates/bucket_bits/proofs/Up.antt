-- The way up from a rank, a storey a switch: writing, and reading what will stand after a pop.
use Rattle.std.specs.Prelude.{None, Some}
use Rattle.laws.specs.Prelude.{Bool, Bool·beq, List, [], ◌%◌, ◌&&◌, ◌+◌, ◌-◌, ◌/◌, ◌<◌, ◌^◌, ◌∙◌, ◌∷◌, ◌≡◌, ◌≤◌, ap, arith, cond, eq-eqb, eqb, eqb-true, false, false≢true, length, length-set, ne_eqb, not, pow-suc, refl, set, set-get_or, sub-one, subst, suc, sym, true, zero, ℕ, ℕ_discrete}
use Rattle.bitmap.specs.Bits.{bit_at, bit-lt, some-set}
use Rattle.bucket_model.specs.Prelude.{Agrees, Storey, agree, bit_for, bit_no, bit_of, edit, storey, storeys_from, switched, tells_above, word, word_of, words_of}
use Rattle.bucket_model.proofs.Laws.{Bits, Outside, Shape, bits-from, deeper, edit-off, other, past_all, same, shape-from}
use Rattle.bucket_bits.specs.declared.Climb.{Climb}
use Rattle.bucket_bits.specs.Climbs.{Tall, Switchable, Stays, Switching, Signalling, bits_left, cleared, word_left, climbed, Climbable}
use Rattle.bucket_bits.proofs.Numbers.{words_up, words-le}

-- bits that agree with what is below them, from an empty bucket on, can be set
pub agreed-switchable : (b : List ℕ) (ps : List Storey) (j : ℕ) (E : Type 0) → Agrees b ps j E → E → Switchable true b ps j
agreed-switchable b [] j E a e = tt
agreed-switchable b (p ∷ ps) j E a e = (a.0.to e, λ t. agreed-switchable b ps (j / 64) (word_of b p j ≡ 0) a.1 (eqb-true (word_of b p j) 0 t))

-- .. and those of a bucket that is not empty are set
pub agreed-stays : (b : List ℕ) (ps : List Storey) (j : ℕ) (E : Type 0) → Agrees b ps j E → (E → ⊥) → Stays b ps j
agreed-stays b [] j E a n = tt
agreed-stays b (p ∷ ps) j E a n =
    let z : bit_no b p j ≡ 0 → ⊥ = λ z. n (a.0.from z) in
    omega (arith, bit-lt (word_of b p j) (j % 64))

-- so are bits that can be cleared
pub switchable-stays : (b : List ℕ) (ps : List Storey) (j : ℕ) → Switchable false b ps j → Stays b ps j
switchable-stays b [] j t = tt
switchable-stays b (p ∷ ps) j t = t.0

-- a word of another storey written
switchable-off : (on : Bool) (b : List ℕ) (ps : List Storey) (j x v : ℕ) → Shape ps → Bits ps j → Outside x ps → Switchable on b ps j → Switchable on (set b x v) ps j
switchable-off on b [] j x v s h o t = tt
switchable-off on b (p ∷ ps) j x v s h o t =
    let e : word (set b x v) (p.base + j / 64) ≡ word b (p.base + j / 64) = other b x v (p.base + j / 64) (o.0 (j / 64) (omega arith)) in
    rw e (t.0, λ q. switchable-off on b ps (j / 64) x v s.2 (deeper p ps s.1 j h) o.1 (t.1 q))

-- ---- writing

-- d storeys are still to be written, from bit j on, where i is its number; b0 is what stood at first, b1 what shall stand at last
pub record Rise (on : Bool) (b0 b1 : List ℕ) (o D : ℕ) (b : List ℕ) (more : Bool) (i d j : ℕ) : Type 0 where
  pub is : i ≡ words_of d + j
  pub deep : d ≤ D
  pub within : j < 64 ^ d
  pub long : length b ≡ length b0
  pub todo : more ≡ true → Switchable on b (storeys_from o d) j
  pub done : cond more (edit on b (storeys_from o d) j) b ≡ b1

abbrev pub Rising : Bool → List ℕ → List ℕ → ℕ → ℕ → List ℕ → Bool → ℕ → ℕ → Type 0
Rising on b0 b1 o D b more d i = (j : ℕ) × Rise on b0 b1 o D b more i d j

-- bit j of the storey below e others, by its number
number : (o e i j : ℕ) → i ≡ words_of (suc e) + j → (o + (i - 1) / 64 ≡ o + words_of e + j / 64) × ((i - 1) % 64 ≡ j % 64) × ((i - 1) / 64 ≡ words_of e + j / 64)
number o e i j h = let u = words_up e in (omega arith, omega arith, omega arith)

module _ (on : Bool) (b0 b1 : List ℕ) (o D : ℕ) (b : List ℕ) (more : Bool) (d i : ℕ) (long : o + words_of D ≤ length b0) (e : more ≡ true) (some : 0 < d) where
  -- the bit to be switched
  pub rising-turns : Rising on b0 b1 o D b more d i → (0 < i) × Switching b on true (o + (i - 1) / 64) ((i - 1) % 64)
  rising-turns z = go d z.0 some z.1
    where
      go : (d j : ℕ) → 0 < d → Rise on b0 b1 o D b more i d j → (0 < i) × Switching b on true (o + (i - 1) / 64) ((i - 1) % 64)
      go zero j l z = absurd (omega arith)
      go (suc d) j l z =
          let n = number o d i j z.is in (
            omega (arith, z.is, words_up d),
            record {
              inside = omega (arith, n.0, z.within, z.long, long, pow-suc 64 d, words-le (suc d) D z.deep);
              bit< = omega arith;
              bit = λ t. rw (n.0, n.1) (z.todo e).0;
              stays = λ t. absurd (false≢true (sym t));
            },
          )

  pub rising_step : Rising on b0 b1 o D b more d i → (b' : List ℕ) (more' : Bool)
      → b' ≡ set b (o + (i - 1) / 64) (switched on (word b (o + (i - 1) / 64)) ((i - 1) % 64))
      → more' ≡ tells_above on (word b (o + (i - 1) / 64)) (switched on (word b (o + (i - 1) / 64)) ((i - 1) % 64))
      → (d' : ℕ) → d' + 1 ≡ d → Rising on b0 b1 o D b' more' d' ((i - 1) / 64)
  rising_step z b' more' p q d' s = let k : d - 1 ≡ d' = omega (arith, s) in subst (λ (d : ℕ). Rising on b0 b1 o D b' more' d ((i - 1) / 64)) k (go d z.0 some z.1)
    where
      go : (d j : ℕ) → 0 < d → Rise on b0 b1 o D b more i d j → Rising on b0 b1 o D b' more' (d - 1) ((i - 1) / 64)
      go zero j l z = absurd (omega arith)
      go (suc d) j l z = subst (λ (d : ℕ). Rising on b0 b1 o D b' more' d ((i - 1) / 64)) (sym (sub-one (suc d))) (
        j / 64,
        record {
          is = n.2;
          deep = omega (arith, z.deep);
          within = omega (arith, z.within, pow-suc 64 d);
          long = ap length b-is ∙ length-set b _ _ ∙ z.long;
          todo = λ m. rw b-is (switchable-off on b (storeys_from o d) (j / 64) (o + words_of d + j / 64) _ (shape-from o d) (bits-from o d (j / 64) (omega (arith, z.within, pow-suc 64 d)))
              (past_all o d (o + words_of d + j / 64) (omega arith)) ((z.todo e).1 (sym more-is ∙ m)));
          done = rw (more-is, b-is) (sym (ap (λ (t : Bool). cond t (edit on b (storeys_from o (suc d)) j) b) e) ∙ z.done);
        },
      )
        where
          n : (o + (i - 1) / 64 ≡ o + words_of d + j / 64) × ((i - 1) % 64 ≡ j % 64) × ((i - 1) / 64 ≡ words_of d + j / 64)
          n = number o d i j z.is

          b-is : b' ≡ set b (o + words_of d + j / 64) (switched on (word b (o + words_of d + j / 64)) (j % 64))
          b-is = rw (n.0, n.1) at p

          more-is : more' ≡ tells_above on (word b (o + words_of d + j / 64)) (switched on (word b (o + words_of d + j / 64)) (j % 64))
          more-is = rw (n.0, n.1) at q

-- where no word tells the one above it any more, and at the top
pub rising-still : (on : Bool) (b0 b1 : List ℕ) (o D : ℕ) (b : List ℕ) (more : Bool) (d i : ℕ) → Rising on b0 b1 o D b more d i → more ≡ false → b ≡ b1
rising-still on b0 b1 o D b more d i z q = sym (ap (λ (t : Bool). cond t (edit on b (storeys_from o d) z.0) b) q) ∙ z.1.done

pub rising-top : (on : Bool) (b0 b1 : List ℕ) (o D : ℕ) (b : List ℕ) (more : Bool) (d i : ℕ) → Rising on b0 b1 o D b more d i → d ≡ 0 → b ≡ b1
rising-top on b0 b1 o D b more d i z q = go more refl ∙ ap (λ (d : ℕ). cond more (edit on b (storeys_from o d) z.0) b) (sym q) ∙ z.1.done
  where
    go : (m : Bool) → more ≡ m → b ≡ cond more b b
    go true e = rw e refl
    go false e = rw e refl

-- what shall stand at last, by what stands now
pub rising-goal : (on : Bool) (b0 b1 : List ℕ) (o D : ℕ) (b : List ℕ) (more : Bool) (d i : ℕ) → Rising on b0 b1 o D b more d i → cond more (edit on b (storeys_from o d) (i - words_of d)) b ≡ b1
rising-goal on b0 b1 o D b more d i z = let j : i - words_of d ≡ z.0 = omega (arith, z.1.is) in ap (λ (j : ℕ). cond more (edit on b (storeys_from o d) j) b) j ∙ z.1.done

pub rising-from : (on : Bool) (b0 b1 : List ℕ) (o D : ℕ) (b : List ℕ) (more : Bool) (d i : ℕ) → Rising on b0 b1 o D b more d i → Rising on b (cond more (edit on b (storeys_from o d) (i - words_of d)) b) o d b more d i
rising-from on b0 b1 o D b more d i z = (z.0, record { is = z.1.is; deep = omega arith; within = z.1.within; long = refl; todo = z.1.todo; done = z.1.done ∙ sym (rising-goal on b0 b1 o D b more d i z) })

-- the lowest storey, whose bit changes or not
module _ (on changes : Bool) (b : List ℕ) (o D tower r : ℕ) (tall : Tall b o D tower) (r< : r < 64 ^ D) (m : Signalling on changes b (storeys_from o D) r) where
  abbrev lowest : ℕ
  lowest = o + (tower + r - 1) / 64

  pub first-turns : (0 < tower + r) × Switching b on changes (o + (tower + r - 1) / 64) ((tower + r - 1) % 64)
  first-turns = go D tall.some tall.words r< tall.long m
    where
      go : (D : ℕ) → 1 ≤ D → tower ≡ words_of D → r < 64 ^ D → o + words_of D ≤ length b → Signalling on changes b (storeys_from o D) r → (0 < tower + r) × Switching b on changes (o + (tower + r - 1) / 64) ((tower + r - 1) % 64)
      go zero l e h long m = absurd (omega arith)
      go (suc d) l e h long m =
          let n = number o d (tower + r) r (omega arith) in (
            omega (arith, words_up d),
            record {
              inside = omega (arith, n.0, pow-suc 64 d);
              bit< = omega arith;
              bit = λ t. rw (n.0, n.1) (m.turns t).0;
              stays = λ t. rw (n.0, n.1) (m.stays t);
            },
          )

  pub rising-first : (b' : List ℕ) (more : Bool)
      → b' ≡ cond changes (set b (o + (tower + r - 1) / 64) (switched on (word b (o + (tower + r - 1) / 64)) ((tower + r - 1) % 64))) b
      → more ≡ (changes && tells_above on (word b (o + (tower + r - 1) / 64)) (switched on (word b (o + (tower + r - 1) / 64)) ((tower + r - 1) % 64)))
      → Rising on b (cond changes (edit on b (storeys_from o D) r) b) o D b' more (D - 1) ((tower + r - 1) / 64)
  rising-first b' more = go changes m.turns
    where
      within : ((tower + r - 1) / 64 ≡ words_of (D - 1) + r / 64) × (r / 64 < 64 ^ (D - 1))
      within = by D tall.some tall.words r<
        where
          by : (D : ℕ) → 1 ≤ D → tower ≡ words_of D → r < 64 ^ D → ((tower + r - 1) / 64 ≡ words_of (D - 1) + r / 64) × (r / 64 < 64 ^ (D - 1))
          by zero l e h = absurd (omega arith)
          by (suc d) l e h =
              let n = number o d (tower + r) r (omega arith) in
              subst (λ (x : ℕ). ((tower + r - 1) / 64 ≡ words_of x + r / 64) × (r / 64 < 64 ^ x)) (sym (sub-one (suc d))) (n.2, omega (arith, pow-suc 64 d))

      go : (changes : Bool) → (changes ≡ true → Switchable on b (storeys_from o D) r)
          → b' ≡ cond changes (set b lowest (switched on (word b lowest) ((tower + r - 1) % 64))) b → more ≡ (changes && tells_above on (word b lowest) (switched on (word b lowest) ((tower + r - 1) % 64)))
          → Rising on b (cond changes (edit on b (storeys_from o D) r) b) o D b' more (D - 1) ((tower + r - 1) / 64)
      go true t p q =
          let s : Rising on b (edit on b (storeys_from o D) r) o D b true D (tower + r) = (r, record { is = omega (arith, tall.words); deep = omega arith; within = r<; long = refl; todo = t; done = refl }) in
          rising_step on b (edit on b (storeys_from o D) r) o D b true D (tower + r) tall.long refl tall.some s b' more p q (D - 1) (omega (arith, tall.some))
      go false t p q = (
        r / 64,
        record {
          is = within.0;
          deep = omega arith;
          within = within.1;
          long = ap length p;
          todo = λ e. absurd (false≢true (sym q ∙ e));
          done = ap (λ (x : Bool). cond x (edit on b' (storeys_from o (D - 1)) (r / 64)) b') q ∙ p;
        },
      )

-- ---- reading

-- the words of these storeys are the same
abbrev SameOn : List ℕ → List ℕ → List Storey → Type 0
SameOn v b [] = Unit {0}
SameOn v b (p ∷ ps) = ((i : ℕ) → i < p.words → word v (p.base + i) ≡ word b (p.base + i)) × SameOn v b ps

same_self : (b : List ℕ) (ps : List Storey) → SameOn b b ps
same_self b [] = tt
same_self b (p ∷ ps) = ((λ i l. refl), same_self b ps)

same-off : (v b : List ℕ) (ps : List Storey) (x y : ℕ) → Outside x ps → SameOn v b ps → SameOn (set v x y) b ps
same-off v b [] x y o s = tt
same-off v b (p ∷ ps) x y o s = ((λ i l. other v x y (p.base + i) (o.0 i l) ∙ s.0 i l), same-off v b ps x y o.1 s.1)

-- d storeys are still to be read; v is what the pop would have written so far, h the bit that it would clear next, j the rank's bit
pub record Climbs (b : List ℕ) (o D : ℕ) (clears : Bool) (gone : ℕ) (empty : Bool) (own : ℕ) (c : Climb) (g i d h j : ℕ) (v : List ℕ) : Type 0 where
  pub g-is : g ≡ words_of d + h
  pub i-is : i ≡ words_of d + j
  pub deep : d ≤ D
  pub h< : h < 64 ^ d
  pub j< : j < 64 ^ d
  pub long : length v ≡ length b
  pub alike : SameOn v b (storeys_from o d)
  pub todo : c.clears ≡ true → Switchable false v (storeys_from o d) h
  pub done : bits_left b o D clears gone ≡ cond c.clears (edit false v (storeys_from o d) h) v
  pub agreed : agree (bits_left b o D clears gone) (storeys_from o D) own empty ≡ agree (bits_left b o D clears gone) (storeys_from o d) j c.empty
  pub topmost : d < D → d ≡ 0 → c.top ≡ word (bits_left b o D clears gone) o

abbrev pub Climbing : List ℕ → ℕ → ℕ → Bool → ℕ → Bool → ℕ → Climb → ℕ → ℕ → ℕ → Type 0
Climbing b o D clears gone empty own c d g i = (h : ℕ) × (j : ℕ) × (v : List ℕ) × Climbs b o D clears gone empty own c g i d h j v

pub climbing-start : (b : List ℕ) (o D tower : ℕ) (clears : Bool) (gone : ℕ) (empty : Bool) (own d : ℕ) → d ≡ D → tower ≡ words_of D → gone < 64 ^ D → own < 64 ^ D → (clears ≡ true → Switchable false b (storeys_from o D) gone)
    → Climbing b o D clears gone empty own (record { clears = clears; empty = empty; top = 0 }) d (tower + gone) (tower + own)
climbing-start b o D tower clears gone empty own d q e hg hi t = subst (λ (d : ℕ). Climbing b o D clears gone empty own (record { clears = clears; empty = empty; top = 0 }) d (tower + gone) (tower + own)) (sym q) (
  gone,
  own,
  b,
  record {
    g-is = omega arith;
    i-is = omega arith;
    deep = omega arith;
    h< = hg;
    j< = hi;
    long = refl;
    alike = same_self b (storeys_from o D);
    todo = t;
    done = refl;
    agreed = refl;
    topmost = λ l e. absurd (omega arith);
  },
)

-- one storey: the pop's bit there is bit h, the rank's is bit j, and B is what the pop would leave
module _ (b v : List ℕ) (o d h j : ℕ) (B : List ℕ) (long : o + words_of d + h / 64 < length v) (h< : h < 64 ^ suc d) (j< : j < 64 ^ suc d) (alike : SameOn v b (storeys_from o (suc d))) where
  abbrev at : ℕ
  at = o + words_of d + h / 64

  -- what the pop would have written then
  abbrev written : Bool → List ℕ
  written clears = cond clears (set v at (switched false (word v at) (h % 64))) v

  own_is : word v (o + words_of d + h / 64) ≡ word b (o + words_of d + h / 64)
  own_is = alike.0 (h / 64) (omega (arith, pow-suc 64 d))

  word-is : (clears : Bool) → B ≡ cond clears (edit false v (storeys_from o (suc d)) h) v
      → word B (o + words_of d + j / 64) ≡ cond (eqb (words_of d + h / 64) (words_of d + j / 64)) (cleared (word b (o + words_of d + h / 64)) clears (h % 64)) (word b (o + words_of d + j / 64))
  word-is clears e = ap (λ (x : List ℕ). word x (o + words_of d + j / 64)) e ∙ step clears
    where
      a : ℕ
      a = o + words_of d + j / 64

      v1 : List ℕ
      v1 = set v at (switched false (word v at) (h % 64))

      kept : (t : Bool) → word (cond t (edit false v1 (storeys_from o d) (h / 64)) v1) (o + words_of d + j / 64) ≡ word v1 (o + words_of d + j / 64)
      kept true = edit-off false v1 (storeys_from o d) (h / 64) a (bits-from o d (h / 64) (omega (arith, pow-suc 64 d))) (shape-from o d) (past_all o d a (omega arith))
      kept false = refl

      step : (clears : Bool) → word (cond clears (edit false v (storeys_from o (suc d)) h) v) (o + words_of d + j / 64) ≡ cond (eqb (words_of d + h / 64) (words_of d + j / 64)) (cleared (word b (o + words_of d + h / 64)) clears (h % 64)) (word b (o + words_of d + j / 64))
      step true =
          kept (eqb (switched false (word v at) (h % 64)) 0)
          ∙ elim (ℕ_discrete (words_of d + h / 64) (words_of d + j / 64)) [ yes q ↦ rw (eq-eqb (words_of d + h / 64) (words_of d + j / 64) q) (here q) | no q ↦ rw (ne_eqb (words_of d + h / 64) (words_of d + j / 64) q) (other v at _ a (λ p. q (omega arith)) ∙ alike.0 (j / 64) (omega (arith, pow-suc 64 d))) ]
        where
          here : words_of d + h / 64 ≡ words_of d + j / 64 → word v1 (o + words_of d + j / 64) ≡ switched false (word b (o + words_of d + h / 64)) (h % 64)
          here q = let p : o + words_of d + j / 64 ≡ at = omega arith in ap (word v1) p ∙ same v at _ long ∙ ap (λ (x : ℕ). switched false x (h % 64)) own_is
      step false =
          alike.0 (j / 64) (omega (arith, pow-suc 64 d))
          ∙ elim (ℕ_discrete (words_of d + h / 64) (words_of d + j / 64)) [ yes q ↦ rw (eq-eqb (words_of d + h / 64) (words_of d + j / 64) q) (ap (word b) (omega arith)) | no q ↦ rw (ne_eqb (words_of d + h / 64) (words_of d + j / 64) q) refl ]

  done-is : (clears : Bool) → B ≡ cond clears (edit false v (storeys_from o (suc d)) h) v
      → B ≡ cond (clears && eqb (cleared (word b (o + words_of d + h / 64)) clears (h % 64)) 0) (edit false (written clears) (storeys_from o d) (h / 64)) (written clears)
  done-is true e = rw (← own_is) e
  done-is false e = e

  todo-is : (clears : Bool) → (clears ≡ true → Switchable false v (storeys_from o (suc d)) h)
      → (clears && eqb (cleared (word b (o + words_of d + h / 64)) clears (h % 64)) 0) ≡ true → Switchable false (written clears) (storeys_from o d) (h / 64)
  todo-is true t q =
      switchable-off false v (storeys_from o d) (h / 64) at _ (shape-from o d) (bits-from o d (h / 64) (omega (arith, pow-suc 64 d))) (past_all o d at (omega arith))
      ((t refl).1 (rw own_is q))
  todo-is false t q = absurd (false≢true q)

  alike_is : (clears : Bool) → SameOn (written clears) b (storeys_from o d)
  alike_is true = same-off v b (storeys_from o d) at _ (past_all o d at (omega arith)) alike.1
  alike_is false = alike.1

  long-is : (clears : Bool) → length (written clears) ≡ length v
  long-is true = length-set v _ _
  long-is false = refl

module _ (b : List ℕ) (o D : ℕ) (clears : Bool) (gone : ℕ) (empty : Bool) (own : ℕ) (c : Climb) (d g i : ℕ) (long : o + words_of D ≤ length b) (some : 0 < d) where
  abbrev B : List ℕ
  B = bits_left b o D clears gone

  pub climbing-room : Climbing b o D clears gone empty own c d g i → (0 < g) × (0 < i) × Climbable b o c.clears (g - 1) (i - 1)
  climbing-room z = go d z.0 z.1 z.2 some z.3
    where
      go : (d h j : ℕ) (v : List ℕ) → 0 < d → Climbs b o D clears gone empty own c g i d h j v → (0 < g) × (0 < i) × Climbable b o c.clears (g - 1) (i - 1)
      go zero h j v l z = absurd (omega arith)
      go (suc d) h j v l z =
          let m = number o d g h z.g-is in
          let n = number o d i j z.i-is in
          let w = words-le (suc d) D z.deep in (
            omega (arith, words_up d, z.g-is),
            omega (arith, words_up d, z.i-is),
            record {
              gone< = omega (arith, m.0, z.h<, long, pow-suc 64 d);
              own< = omega (arith, n.0, z.j<, long, pow-suc 64 d);
              bit = λ e. rw (m.0, m.1, ← z.alike.0 (h / 64) (omega (arith, z.h<, pow-suc 64 d))) (z.todo e).0;
            },
          )

  -- whether the rank's bit there is that of an empty bucket, or word, though what is below it is not, or the other way round
  abbrev torn : Bool
  torn = Bool·beq c.empty (eqb (bit_at (word_left b o c.clears (g - 1) (i - 1)) ((i - 1) % 64)) 1)

  -- the storey read
  abbrev read : Climb
  read =
      record {
        clears = c.clears && eqb (cleared (word b (o + (g - 1) / 64)) c.clears ((g - 1) % 64)) 0;
        empty = eqb (word_left b o c.clears (g - 1) (i - 1)) 0;
        top = word_left b o c.clears (g - 1) (i - 1);
      }

  module _ (e h j : ℕ) (v : List ℕ) (z : Climbs b o D clears gone empty own c g i (suc e) h j v) where
    m : (o + (g - 1) / 64 ≡ o + words_of e + h / 64) × ((g - 1) % 64 ≡ h % 64) × ((g - 1) / 64 ≡ words_of e + h / 64)
    m = number o e g h z.g-is

    n : (o + (i - 1) / 64 ≡ o + words_of e + j / 64) × ((i - 1) % 64 ≡ j % 64) × ((i - 1) / 64 ≡ words_of e + j / 64)
    n = number o e i j z.i-is

    inside : o + words_of e + h / 64 < length v
    inside = omega (arith, z.h<, z.long, long, pow-suc 64 e, words-le (suc e) D z.deep)

    w-is : word B (o + words_of e + j / 64) ≡ word_left b o c.clears (g - 1) (i - 1)
    w-is = rw (m.0, m.1, m.2, n.0, n.2) (word-is b v o e h j B inside z.h< z.j< z.alike c.clears z.done)

    agreed-by : (t : Bool) → torn ≡ t → agree B (storeys_from o D) own empty ≡ (not t && agree B (storeys_from o e) (j / 64) (eqb (word_left b o c.clears (g - 1) (i - 1)) 0))
    agreed-by t q =
        let bit : Bool·beq c.empty (bit_of B (storey o e) j) ≡ t = rw (w-is, ← n.1) q in
        z.agreed ∙ rw (bit, w-is) refl

    step-read : torn ≡ false → Climbing b o D clears gone empty own read e ((g - 1) / 64) ((i - 1) / 64)
    step-read q = (
      h / 64,
      j / 64,
      written b v o e h j B inside z.h< z.j< z.alike c.clears,
      record {
        g-is = m.2;
        i-is = n.2;
        deep = omega (arith, z.deep);
        h< = omega (arith, z.h<, pow-suc 64 e);
        j< = omega (arith, z.j<, pow-suc 64 e);
        long = long-is b v o e h j B inside z.h< z.j< z.alike c.clears ∙ z.long;
        alike = alike_is b v o e h j B inside z.h< z.j< z.alike c.clears;
        todo = rw (m.0, m.1) (todo-is b v o e h j B inside z.h< z.j< z.alike c.clears z.todo);
        done = rw (m.0, m.1) (done-is b v o e h j B inside z.h< z.j< z.alike c.clears z.done);
        agreed = agreed-by false q;
        topmost = λ d< n0. sym w-is ∙ ap (word B) (omega (arith, z.j<, ap words_of n0, ap (λ (d : ℕ). 64 ^ suc d) n0));
      },
    )

  pub climbing-step : (c' : Climb) → climbed b o c (g - 1) (i - 1) ≡ Some c' → (d' : ℕ) → d' + 1 ≡ d → Climbing b o D clears gone empty own c d g i → Climbing b o D clears gone empty own c' d' ((g - 1) / 64) ((i - 1) / 64)
  unfolding climbed
  climbing-step c' p d' s z = let e : d - 1 ≡ d' = omega (arith, s) in subst (λ (d : ℕ). Climbing b o D clears gone empty own c' d ((g - 1) / 64) ((i - 1) / 64)) e (by torn refl p)
    where
      go : (d h j : ℕ) (v : List ℕ) → 0 < d → Climbs b o D clears gone empty own c g i d h j v → torn ≡ false → Climbing b o D clears gone empty own read (d - 1) ((g - 1) / 64) ((i - 1) / 64)
      go zero h j v l z e = absurd (omega arith)
      go (suc d) h j v l z e = subst (λ (d : ℕ). Climbing b o D clears gone empty own read d ((g - 1) / 64) ((i - 1) / 64)) (sym (sub-one (suc d))) (step-read d h j v z e)

      by : (t : Bool) → torn ≡ t → cond t None (Some read) ≡ Some c' → Climbing b o D clears gone empty own c' (d - 1) ((g - 1) / 64) ((i - 1) / 64)
      by true e p = cc
      by false e p = let q : read ≡ c' = cc in subst (λ (x : Climb). Climbing b o D clears gone empty own x (d - 1) ((g - 1) / 64) ((i - 1) / 64)) q (go d z.0 z.1 z.2 some z.3 e)

  pub climbing-shut : climbed b o c (g - 1) (i - 1) ≡ None → Climbing b o D clears gone empty own c d g i → agree B (storeys_from o D) own empty ≡ false
  unfolding climbed
  climbing-shut p z = by torn refl p
    where
      go : (d h j : ℕ) (v : List ℕ) → 0 < d → Climbs b o D clears gone empty own c g i d h j v → torn ≡ true → agree B (storeys_from o D) own empty ≡ false
      go zero h j v l z e = absurd (omega arith)
      go (suc d) h j v l z e = agreed-by d h j v z true e

      by : (t : Bool) → torn ≡ t → cond t None (Some read) ≡ None → agree B (storeys_from o D) own empty ≡ false
      by true e p = go d z.0 z.1 z.2 some z.3 e
      by false e p = cc

pub climbing-end : (b : List ℕ) (o D : ℕ) (clears : Bool) (gone : ℕ) (empty : Bool) (own : ℕ) (c : Climb) (d g i : ℕ) → 1 ≤ D → d ≡ 0 → Climbing b o D clears gone empty own c d g i
    → (agree (bits_left b o D clears gone) (storeys_from o D) own empty ≡ true) × (c.top ≡ word (bits_left b o D clears gone) o)
climbing-end b o D clears gone empty own c d g i D> e z = go d z.0 z.1 z.2 e z.3
  where
    go : (d h j : ℕ) (v : List ℕ) → d ≡ 0 → Climbs b o D clears gone empty own c g i d h j v → (agree (bits_left b o D clears gone) (storeys_from o D) own empty ≡ true) × (c.top ≡ word (bits_left b o D clears gone) o)
    go zero h j v e z = (z.agreed, z.topmost D> refl)
    go (suc d) h j v e z = absurd (omega arith)

-- ---- one storey as the code does it

pub switch-on : (b : List ℕ) (on changes : Bool) (at k x : ℕ) → on ≡ true → (changes ≡ false → bit_at (word b at) k ≡ 1) → x ≡ cond changes (word b at + 2 ^ k) (word b at)
    → (set b at x ≡ cond changes (set b at (switched on (word b at) k)) b) × (eqb (word b at) 0 ≡ (changes && tells_above on (word b at) (switched on (word b at) k)))
switch-on b on true at k x e s p = rw (e, p) (refl, refl)
switch-on b on false at k x e s p = (ap (set b at) p ∙ set-get_or b at 0, ne_eqb (word b at) 0 (some-set (word b at) k (s refl)))

pub switch-off : (b : List ℕ) (on changes : Bool) (at k x : ℕ) → on ≡ false → (changes ≡ false → bit_at (word b at) k ≡ 1) → x ≡ cond changes (word b at - 2 ^ k) (word b at)
    → (set b at x ≡ cond changes (set b at (switched on (word b at) k)) b) × (eqb x 0 ≡ (changes && tells_above on (word b at) (switched on (word b at) k)))
switch-off b on true at k x e s p = rw (e, p) (refl, refl)
switch-off b on false at k x e s p = (ap (set b at) p ∙ set-get_or b at 0, ap (λ (y : ℕ). eqb y 0) p ∙ ne_eqb (word b at) 0 (some-set (word b at) k (s refl)))

module _ (b : List ℕ) (o : ℕ) (c : Climb) (gone own left w : ℕ) (bit : Bool) (p : left ≡ cleared (word b (o + gone / 64)) c.clears (gone % 64)) (q : w ≡ cond (eqb (gone / 64) (own / 64)) left (word b (o + own / 64))) (r : bit ≡ eqb (bit_at w (own % 64)) 1) where
  pub climbed-none : Bool·beq c.empty bit ≡ true → None ≡ climbed b o c gone own
  unfolding climbed
  climbed-none e = let t : Bool·beq c.empty (eqb (bit_at w (own % 64)) 1) ≡ true = rw (← r) e in rw (← p, ← q, t) refl

  pub climbed-some : Bool·beq c.empty bit ≡ false → Some (record { clears = c.clears && eqb left 0; empty = eqb w 0; top = w }) ≡ climbed b o c gone own
  unfolding climbed
  climbed-some e = let t : Bool·beq c.empty (eqb (bit_at w (own % 64)) 1) ≡ false = rw (← r) e in rw (← p, ← q, t) refl
