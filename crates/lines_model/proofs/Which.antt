-- Which line: the first that passes, the one with the lowest first place, the line of a rank; and the sum of the counts.
use Rattle.laws.specs.Prelude.{Bool, Element, ◌*◌, ◌/◌, ◌<◌, ◌||◌, ◌∙◌, ◌≡◌, ◌≤◌, ◌⊎◌, and_left, and_right, ap, arith, cond, dec_lt, eqb, eqb-false, eqb-true, false, false≢true, inl, inr, lt-ltb, ltb, ltb-false, ltb-true, refl, subst, suc, sym, true, zero, ℕ, ℕ_discrete, ⊎_elim}
use native.Mathlib.Nat.{div-lt_iff_lt-mul, div-mul-le_self, le-div_iff_mul-le}
use Rattle.lines_model.specs.Layout.{line_of, power_of_two, Rows}
use Rattle.lines_model.specs.Rules.{leads, lowest, seek, total}

-- ---- tests

pub or_cases : (a b : Bool) → (a || b) ≡ true → (a ≡ true) ⊎ (b ≡ true)
or_cases true b e = inl refl
or_cases false b e = inr e

pub or-no-left : (a b : Bool) → (a || b) ≡ false → a ≡ false
or-no-left true b e = e
or-no-left false b e = refl

pub or-no-right : (a b : Bool) → (a || b) ≡ false → b ≡ false
or-no-right true b e = absurd (false≢true (sym e))
or-no-right false b e = e

-- ---- the first that passes

pub record Sought (t : ℕ → Bool) (n j : ℕ) : Type 0 where
  pub most : j ≤ n
  pub here : j < n → t j ≡ true
  pub before : (i : ℕ) → i < j → t i ≡ false

pub sought : (t : ℕ → Bool) (n : ℕ) → Sought t n (seek t n)
unfolding seek
sought t zero = record { most = omega arith; here = λ h. absurd (omega arith); before = λ i h. absurd (omega arith) }
sought t (suc n) = go (seek t n) (sought t n) (t (seek t n)) refl
  where
    go : (j : ℕ) → Sought t n j → (b : Bool) → t j ≡ b → Sought t (suc n) (cond b j (suc j))
    go j s true e = record { most = omega (arith, s.most); here = λ h. e; before = s.before }
    go j s false e =
        record {
          most = omega (arith, s.most);
          here = λ h. absurd (false≢true (sym e ∙ s.here (omega arith)));
          before = λ i h. elim (ℕ_discrete i j) [ yes p ↦ ap t p ∙ e | no p ↦ s.before i (omega arith) ];
        }

-- ---- the sum

pub total-none : (c : ℕ → ℕ) (n : ℕ) → ((i : ℕ) → i < n → c i ≡ 0) → total c n ≡ 0
unfolding total
total-none c zero h = refl
total-none c (suc n) h = omega (arith, h n (omega arith), total-none c n (λ i l. h i (omega arith)))

pub total-le : (c : ℕ → ℕ) (n j : ℕ) → j < n → c j ≤ total c n
unfolding total
total-le c zero j h = absurd (omega arith)
total-le c (suc n) j h = elim (ℕ_discrete j n) [
  | yes p ↦ let e : c j ≡ c n = ap c p in omega arith
  | no p ↦ omega (arith, total-le c n j (omega arith))
]

pub total_ext : (c d : ℕ → ℕ) (n : ℕ) → ((i : ℕ) → i < n → c i ≡ d i) → total c n ≡ total d n
unfolding total
total_ext c d zero h = refl
total_ext c d (suc n) h = omega (arith, h n (omega arith), total_ext c d n (λ i l. h i (omega arith)))

-- where something is held a line is not empty
pub first_some : (c : ℕ → ℕ) (n : ℕ) → (total c n ≡ 0 → ⊥) → seek (λ l. ltb 0 (c l)) n < n
first_some c n h = elim (dec_lt (seek (λ l. ltb 0 (c l)) n) n) [
  | yes d ↦ d
  | no d ↦ absurd (h (total-none c n (λ i l. omega (arith, ltb-false 0 (c i) ((sought (λ l. ltb 0 (c l)) n).before i (omega arith))))))
]

-- ---- the lowest first place

module _ (c : ℕ → ℕ) (h : ℕ → Element) where
  leads-yes : (i j : ℕ) → leads c h i j ≡ true → (0 < c i) × ((c j ≡ 0) ⊎ ((h i).rank.0 < (h j).rank.0))
  unfolding leads
  leads-yes i j e =
      let a = ltb 0 (c i) in
      let b = eqb (c j) 0 in
      let d = ltb (h i).rank.0 (h j).rank.0 in
      (ltb-true 0 (c i) (and_left a (b || d) e), ⊎_elim (λ p. inl (eqb-true (c j) 0 p)) (λ p. inr (ltb-true (h i).rank.0 (h j).rank.0 p)) (or_cases b d (and_right a (b || d) e)))

  leads-no : (i j : ℕ) → leads c h i j ≡ false → 0 < c i → (0 < c j) × ((h j).rank.0 ≤ (h i).rank.0)
  unfolding leads
  leads-no i j e l =
      let b = eqb (c j) 0 in
      let d = ltb (h i).rank.0 (h j).rank.0 in
      let f : (b || d) ≡ false = rw (lt-ltb 0 (c i) l) at e in
      let n : c j ≡ 0 → ⊥ = eqb-false (c j) 0 (or-no-left b d f) in
      (omega arith, ltb-false (h i).rank.0 (h j).rank.0 (or-no-right b d f))

  pub record LeastLine (n j : ℕ) : Type 0 where
    pub some : c j ≡ 0 → total c n ≡ 0
    pub least : (i : ℕ) → i < n → 0 < c i → (0 < c j) × ((h j).rank.0 ≤ (h i).rank.0)

  pub lowest-least : (n : ℕ) → LeastLine n (lowest c h n)
  unfolding lowest total
  lowest-least zero = record { some = λ e. refl; least = λ i l. absurd (omega arith) }
  lowest-least (suc n) = go (lowest c h n) (lowest-least n) (leads c h n (lowest c h n)) refl
    where
      go : (j : ℕ) → LeastLine n j → (b : Bool) → leads c h n j ≡ b → LeastLine (suc n) (cond b n j)
      go j s true e =
          let y = leads-yes n j e in
          record {
            some = λ z. absurd (omega (arith, y.0));
            least = λ i l p. elim (ℕ_discrete i n) [
              | yes q ↦ (y.0, let z : (h i).rank.0 ≡ (h n).rank.0 = ap (λ (x : ℕ). (h x).rank.0) q in omega arith)
              | no q ↦ let z = s.least i (omega arith) p in (y.0, ⊎_elim (λ r. absurd (omega (arith, z.0))) (λ r. omega (arith, z.1)) y.1)
            ];
          }
      go j s false e =
          record {
            some = λ z. elim (dec_lt 0 (c n)) [
              | yes q ↦ absurd (omega (arith, (leads-no n j e q).0))
              | no q ↦ omega (arith, s.some z)
            ];
            least = λ i l p. elim (ℕ_discrete i n) [
              | yes q ↦ subst (λ (x : ℕ). (0 < c j) × ((h j).rank.0 ≤ (h x).rank.0)) (sym q) (leads-no n j e (subst (λ (x : ℕ). 0 < c x) q p))
              | no q ↦ s.least i (omega arith) p
            ];
          }

  pub lowest-below : (n : ℕ) → lowest c h (suc n) ≤ n
  unfolding lowest
  lowest-below zero = both (leads c h 0 0)
    where
      both : (b : Bool) → cond b 0 0 ≤ 0
      both true = omega arith
      both false = omega arith
  lowest-below (suc n) = both (leads c h (suc n) (lowest c h (suc n))) (lowest c h (suc n)) (lowest-below n)
    where
      both : (b : Bool) (j : ℕ) → j ≤ n → cond b (suc n) j ≤ suc n
      both true j l = omega arith
      both false j l = omega arith

  pub lowest-lt : (n : ℕ) → 0 < n → lowest c h n < n
  lowest-lt zero l = absurd (omega arith)
  lowest-lt (suc n) l = omega (arith, lowest-below n)

-- ---- the line of a rank

-- the lines' ranges are all ranks
pub record Spans (n : ℕ) : Type 0 where
  pub lines : 0 < n
  pub span : 0 < 65536 / n
  pub all : n * (65536 / n) ≡ 65536

power-by : (P : ℕ → Type 0) (n : ℕ) → power_of_two n ≡ true → P 1 → P 2 → P 4 → P 8 → P 16 → P 32 → P 64 → P 128 → P 256 → P 512 → P n
unfolding power_of_two
power-by P n e a b c d f g h i j l =
    ⊎_elim (λ p. ⊎_elim (λ p. ⊎_elim (λ p. ⊎_elim (λ p. ⊎_elim (λ p. ⊎_elim (λ p. ⊎_elim (λ p. ⊎_elim (λ p. ⊎_elim (λ p. at 1 a p) (λ p. at 2 b p)
    (or_cases (eqb n 1) (eqb n 2) p)) (λ p. at 4 c p) (or_cases _ (eqb n 4) p)) (λ p. at 8 d p) (or_cases _ (eqb n 8) p)) (λ p. at 16 f p) (or_cases _ (eqb n 16) p))
    (λ p. at 32 g p) (or_cases _ (eqb n 32) p)) (λ p. at 64 h p) (or_cases _ (eqb n 64) p)) (λ p. at 128 i p) (or_cases _ (eqb n 128) p))
    (λ p. at 256 j p) (or_cases _ (eqb n 256) p)) (λ p. at 512 l p) (or_cases _ (eqb n 512) e)
  where
    at : (x : ℕ) → P x → eqb n x ≡ true → P n
    at x p e = subst P (sym (eqb-true n x e)) p

pub power-most : (n : ℕ) → power_of_two n ≡ true → n ≤ 512
power-most n e =
    power-by (λ m. m ≤ 512) n e (omega arith) (omega arith) (omega arith) (omega arith) (omega arith) (omega arith) (omega arith) (omega arith) (omega arith) (omega arith)

spans-by : (n s : ℕ) → 0 < n → 0 < s → 65536 / n ≡ s → n * s ≡ 65536 → Spans n
spans-by n s a b e f = record { lines = a; span = rw e b; all = ap (λ (x : ℕ). n * x) e ∙ f }

pub spans : (n : ℕ) → power_of_two n ≡ true → Spans n
spans n e =
    power-by Spans n e (spans-by 1 65536 (omega arith) (omega arith) refl refl) (spans-by 2 32768 (omega arith) (omega arith) refl refl)
    (spans-by 4 16384 (omega arith) (omega arith) refl refl) (spans-by 8 8192 (omega arith) (omega arith) refl refl) (spans-by 16 4096 (omega arith) (omega arith) refl refl)
    (spans-by 32 2048 (omega arith) (omega arith) refl refl) (spans-by 64 1024 (omega arith) (omega arith) refl refl) (spans-by 128 512 (omega arith) (omega arith) refl refl)
    (spans-by 256 256 (omega arith) (omega arith) refl refl) (spans-by 512 128 (omega arith) (omega arith) refl refl)

module _ (k : Rows) (p : Spans k.lines) where
  pub line-lt : (r : ℕ) → r < 65536 → line_of k r < k.lines
  unfolding line_of
  line-lt r h = (div-lt_iff_lt-mul p.span).1 (omega (arith, p.all))

  -- "the top bits of the rank": a lower line has the lower ranks
  pub line-mono : (r s : ℕ) → r ≤ s → line_of k r ≤ line_of k s
  unfolding line_of
  line-mono r s h = (le-div_iff_mul-le p.span).1 (omega (arith, div-mul-le_self r (65536 / k.lines)))

  -- a rank above 65,535 has no line
  pub line-past : (r : ℕ) → 65536 ≤ r → k.lines ≤ line_of k r
  unfolding line_of
  line-past r h = (le-div_iff_mul-le p.span).1 (omega (arith, p.all))
