-- What every cycle keeps.
use Rattle.laws.specs.Prelude.{Bool, Element, List, Request, [], ◌+◌, ◌<◌, ◌∙◌, ◌∷◌, ◌≡◌, ◌≤◌, ap, arith, dec_lt, false, length, lt-ltb, ltb, ltb-false, ltb-true, min, refl, suc, true, ℕ, ℕ_discrete}
use Rattle.bucket_model.specs.Prelude.{Sorted}
use Rattle.promise.specs.Prelude.{always, hit, lower}
use Rattle.std.specs.Prelude.{Option}
use Rattle.std.specs.Prelude.{None, Some}
use Rattle.bucket_clock_model.specs.Lists.{arrives, at, but_last, coming, first, last, left, many, newcomer, placed, taken, takes}
use Rattle.front_model.specs.Front.{due, held, Kept, leak_if, Soon, State, cycled, worked}
use Rattle.bucket_clock_model.proofs.Counts.{at-le, coming-le, first-high, last-low, last-many, last-sorted, left-many, left-sorted, many-always, moved-coming, moved_length, placed-many, placed-sorted}
use Rattle.front_model.proofs.Counts.{due-end, moved-due, moved-last}

-- ---- nothing is lost and nothing made, for every test

pub worked-sum : (f : Element → Bool) (t : Bool) (x : Option Element) (s : State) → held f (worked t x s) + at f (taken t s.front) ≡ held f s + at f x
worked-sum f t x s =
    let z : Option Element = taken t s.behind in
    let y : Option Element = arrives s.way z in
    omega (arith, placed-many f x (placed y (left t s.front)), placed-many f y (left t s.front), left-many f t s.front, left-many f t s.behind, moved-coming f s.way z)

pub leak-sum : (f : Element → Bool) (b : Bool) (s : State) → held f (leak_if b s) ≡ held f s
leak-sum f true s = omega (arith, last-many f s.front, placed-many f (last s.front) s.behind)
leak-sum f false s = refl

pub cycled-sum : (k : ℕ) (f : Element → Bool) (q : Request) (s : State) → held f (cycled k q s) + at f (taken (takes q) s.front) ≡ held f s + at f (newcomer q)
unfolding cycled
cycled-sum k f q s =
    let v : State = worked (takes q) (newcomer q) s in
    omega (arith, leak-sum f (ltb k (length v.front + coming always v.way)) v, worked-sum f (takes q) (newcomer q) s)

nil : (q : ℕ) → many (lower q) [] ≡ 0
unfolding many
nil q = refl

-- ---- the invariant

-- what is below no q is not there
none-many : (l : List Element) → ((q : ℕ) → many (lower q) l ≡ 0) → length l ≡ 0
unfolding many
none-many [] h = refl
none-many (x ∷ l) h = absurd (omega (arith, h (suc x.rank.0), ap hit (lt-ltb x.rank.0 (suc x.rank.0) (omega arith))))

none-coming : (w : List (Option Element)) → ((q : ℕ) → coming (lower q) w ≡ 0) → coming always w ≡ 0
unfolding coming
none-coming [] h = refl
none-coming (None ∷ w) h = omega (arith, none-coming w (λ q. omega (arith, h q)))
none-coming (Some x ∷ w) h = absurd (omega (arith, h (suc x.rank.0), ap hit (lt-ltb x.rank.0 (suc x.rank.0) (omega arith))))

some-last : (l : List Element) → 1 ≤ length l → at always (last l) ≡ 1
some-last [] h = absurd (omega arith)
some-last (x ∷ []) h = refl
some-last (x ∷ y ∷ l) h = some-last (y ∷ l) (omega arith)

pub some_first : (l : List Element) → 1 ≤ length l → at always (first l) ≡ 1
some_first [] h = absurd (omega arith)
some_first (x ∷ l) h = refl

module _ (p c : ℕ) (s : State) (kept : Kept p c s) where
  -- FIRST: nothing that is held has a rank below that of place 0
  pub front_low : 1 ≤ c → (q : ℕ) → many (lower q) s.front ≡ 0 → held (lower q) s ≡ 0
  unfolding due
  front_low h q e = omega (arith, kept.soon 0 q (omega arith))

  -- where anything is held, the front has some of it
  pub some-front : 1 ≤ c → 1 ≤ held always s → 1 ≤ length s.front
  some-front h n = go s.front refl
    where
      go : (l : List Element) → s.front ≡ l → 1 ≤ length l
      go (x ∷ l) e = omega arith
      go [] e =
          let z : (q : ℕ) → held (lower q) s ≡ 0 = λ q. front_low h q (ap (many (lower q)) e ∙ nil q) in
          let a : length s.front ≡ 0 = ap length e in
          let b : coming always s.way ≡ 0 = none-coming s.way (λ q. omega (arith, z q)) in
          let d : length s.behind ≡ 0 = none-many s.behind (λ q. omega (arith, z q)) in
          absurd (omega (arith, many-always s.front, many-always s.behind))

  -- where one is taken and something behind is below q, so is what is asked for
  made_up : (q : ℕ) (t : Bool) → min (at (lower q) (taken t s.front)) (many (lower q) s.behind) ≤ at (lower q) (taken t s.behind)
  made_up q false = omega arith
  made_up q true = elim (ℕ_discrete (at (lower q) (first s.behind)) 0) [
    | yes e ↦ omega (arith, first-high q s.behind kept.behind e)
    | no e ↦ omega (arith, at-le (lower q) (first s.front))
  ]

  module _ (t : Bool) (x : Option Element) where
    abbrev z : Option Element
    z = taken t s.behind

    abbrev y : Option Element
    y = arrives s.way (taken t s.behind)

    abbrev v : State
    v = worked t x s

    fore : (f : Element → Bool) → many f v.front + at f (taken t s.front) ≡ at f x + at f y + many f s.front
    fore f = omega (arith, placed-many f x (placed y (left t s.front)), placed-many f y (left t s.front), left-many f t s.front)

    -- as many as before in front and way, less what is taken, with what is asked for and the newcomer
    size : length v.front + coming always v.way + at always (taken t s.front) ≡ length s.front + coming always s.way + at always z + at always x
    size = omega (arith, fore always, many-always v.front, many-always s.front, moved-coming always s.way z)

    -- before the leak the claim holds
    soon-worked : Soon p c v
    soon-worked j q h = elim (dec_lt j p) [
      | yes l ↦ omega (arith, kept.soon (suc j) q l, fore (lower q), worked-sum (lower q) t x s, moved-due (lower q) j s.way z (omega (arith, kept.long)), at-le (lower q) (taken t s.front))
      | no l ↦ omega (arith, kept.soon j q h, fore (lower q), worked-sum (lower q) t x s, moved-last (lower q) j s.way z (omega (arith, kept.long)), due-end (lower q) j s.way (omega (arith, kept.long)), made_up q t, at-le (lower q) (taken t s.front))
    ]

    -- nothing is asked for where nothing is taken, and something where something is taken and anything is behind
    asked-le : 1 ≤ c → (t : Bool) → at always (taken t s.behind) ≤ at always (taken t s.front)
    asked-le h false = omega arith
    asked-le h true = elim (ℕ_discrete (length s.behind) 0) [
      | yes e ↦ omega (arith, left-many always true s.behind, many-always s.behind)
      | no e ↦ omega (arith, at-le always (first s.behind), some_first s.front (some-front h (omega (arith, many-always s.behind))))
    ]

    asked-ge : 1 ≤ length s.behind → (t : Bool) → at always (taken t s.front) ≤ at always (taken t s.behind)
    asked-ge h false = omega arith
    asked-ge h true = omega (arith, at-le always (first s.front), some_first s.behind h)

    v-sorted : Sorted v.front
    v-sorted = placed-sorted x (placed y (left t s.front)) (placed-sorted y (left t s.front) (left-sorted t s.front kept.sorted))

    v-long : length v.way ≡ p
    v-long = moved_length s.way z ∙ kept.long

    leak-kept : 1 ≤ c → (b : Bool) → ltb (p + p + c) (length v.front + coming always v.way) ≡ b → Kept p c (leak_if b v)
    leak-kept h true e =
        let more : p + p + c < length v.front + coming always v.way = ltb-true (p + p + c) (length v.front + coming always v.way) e in
        let Some : at always (last v.front) ≡ 1 = some-last v.front (omega (arith, coming-le always v.way, v-long)) in
        let full : length (but_last v.front) + coming always v.way ≡ p + p + c =
        omega (arith, size, kept.fits, asked-le h t, at-le always x, last-many always v.front, many-always v.front, many-always (but_last v.front)) in
        record {
          long = v-long;
          sorted = last-sorted v.front v-sorted;
          behind = placed-sorted (last v.front) v.behind (left-sorted t s.behind kept.behind);
          fits = omega arith;
          filled = λ n. omega arith;
          soon = λ j q l. elim (ℕ_discrete (at (lower q) (last v.front)) 0) [
            | yes a ↦ omega (arith, soon-worked j q l, leak-sum (lower q) true v, last-many (lower q) v.front)
            | no a ↦ omega (arith, last-low q v.front v-sorted (omega (arith, at-le (lower q) (last v.front))), coming-le always v.way, v-long)
          ];
        }
    leak-kept h false e =
        let less : length v.front + coming always v.way ≤ p + p + c = ltb-false (p + p + c) (length v.front + coming always v.way) e in
        record {
          long = v-long;
          sorted = v-sorted;
          behind = left-sorted t s.behind kept.behind;
          fits = less;
          filled = λ n.
              let m : 1 ≤ length s.behind = omega (arith, left-many always t s.behind, many-always s.behind, many-always (left t s.behind)) in
              omega (arith, size, kept.filled m, asked-ge m t);
          soon = soon-worked;
        }

  -- CYCLE-KEEPS: whatever is asked
  pub cycled-kept : 1 ≤ c → (q : Request) → Kept p c (cycled (p + p + c) q s)
  unfolding cycled
  cycled-kept h q = leak-kept (takes q) (newcomer q) h (ltb (p + p + c) (length (v (takes q) (newcomer q)).front + coming always (v (takes q) (newcomer q)).way)) refl
