-- What the front promises: from nothing held, any list of cycles.
use Rattle.laws.specs.Prelude.{Answer, Bool, Element, Empty, Full, Idle, List, NoTag, Pop, Push, Replace, Request, ◌+◌, ◌∙◌, ◌≡◌, ◌≤◌, ap, arith, cond, cond_both, eqb, eqb-false, false, le-ltb, length, ltb, number_of, rank_of, refl, replicate, suc, true, untagged, zero, ℕ, Ok, None, Err}
use Rattle.agreement.specs.Plain.{number_for}
use Rattle.promise.specs.Prelude.{Holds, IsOut, Kind, Least, all-sum, always, answers, brought, given, hit, leaves, leaves-keep, lower}
use Rattle.std.specs.Prelude.{Option}
use Rattle.std.specs.Prelude.{None, Some}
use Rattle.bucket_clock_model.specs.Lists.{at, coming, first, heeded, many}
use Rattle.front_model.specs.Front.{fresh, fronted, heard, held, Kept, out_of, State, cycled}
use Rattle.bucket_clock_model.proofs.Counts.{first-high}
use Rattle.front_model.proofs.Cycle.{front_low, some_first, some-front, cycled-kept, cycled-sum}

-- ---- at the start

pub none-way : (f : Element → Bool) (p : ℕ) → coming f (replicate p None) ≡ 0
unfolding coming
none-way f zero = refl
none-way f (suc p) = omega (arith, none-way f p)

way_long : (p : ℕ) → length {A = Option Element} (replicate p None) ≡ p
way_long zero = refl
way_long (suc p) = ap suc (way_long p)

pub fresh-none : (p : ℕ) (f : Element → Bool) → held f (fresh p) ≡ 0
unfolding many
fresh-none p f = omega (arith, none-way f p)

pub fresh_kept : (p c : ℕ) → Kept p c (fresh p)
fresh_kept p c =
    record {
      long = way_long p;
      sorted = tt;
      behind = tt;
      fits = omega (arith, none-way always p);
      filled = λ h. absurd (omega arith);
      soon = λ j q h. omega (arith, fresh-none p (lower q));
    }

-- ---- one cycle

out-number : (m : Option Element) → IsOut (out_of m) → number_of (out_of m) ≡ 0
out-number None o = absurd o
out-number (Some x) o = refl

number-out : (m : Option Element) → number_of (out_of m) ≡ 0 → IsOut (out_of m)
number-out None e = absurd (omega arith)
number-out (Some x) e = tt

module _ (p c n : ℕ) (some-place : 1 ≤ c) where
  abbrev k : ℕ
  k = p + p + c

  pub called-kept : (q : Request) (s : State) → Kept p c s → Kept p c (fronted k n q s).next
  unfolding fronted
  called-kept q s kept = cycled-kept p c s kept some-place (heeded (number_of (heard n q s)) q)

  module _ (s : State) where
    -- what an answer to a request comes to, for every test
    abbrev Sums : (Element → Bool) → Request → Answer → Type 0
    Sums f q a = held f (cycled k (heeded (number_of a) q) s) + given q a f ≡ held f s + brought q a f

    sum-none : (f : Element → Bool) → held f (cycled k Idle s) + 0 ≡ held f s + 0
    sum-none f = cycled-sum k f Idle s

    sum-out : (f : Element → Bool) (m : Option Element) → first s.front ≡ m → Sums f Pop (out_of m)
    sum-out f None e = sum-none f
    sum-out f (Some x) e = omega (arith, cycled-sum k f Pop s, ap (at f) e)

    sum-swap : (f : Element → Bool) (x : Element) (m : Option Element) → first s.front ≡ m → Sums f (Replace x) (out_of m)
    sum-swap f x None e = sum-none f
    sum-swap f x (Some y) e = omega (arith, cycled-sum k f (Replace x) s, ap (at f) e)

    -- CALL-SUM: nothing is lost and nothing made
    sums : (f : Element → Bool) (q : Request) → Sums f q (heard n q s)
    sums f Idle = sum-none f
    sums f (Push x) =
        cond_both (Sums f (Push x)) (untagged x) (Err NoTag) (cond (ltb (held always s) n) (Ok None) (Err Full)) (λ _. sum-none f)
        (λ _. cond_both (Sums f (Push x)) (ltb (held always s) n) (Ok None) (Err Full) (λ _. cycled-sum k f (Push x) s) (λ _. sum-none f))
    sums f Pop = cond_both (Sums f Pop) (eqb (held always s) 0) (Err Empty) (out_of (first s.front)) (λ _. sum-none f) (λ _. sum-out f (first s.front) refl)
    sums f (Replace x) =
        cond_both (Sums f (Replace x)) (untagged x) (Err NoTag) (cond (eqb (held always s) 0) (Err Empty) (out_of (first s.front))) (λ _. sum-none f)
        (λ _. cond_both (Sums f (Replace x)) (eqb (held always s) 0) (Err Empty) (out_of (first s.front)) (λ _. sum-none f) (λ _. sum-swap f x (first s.front) refl))

    module _ (kept : Kept p c s) where
      -- place 0 has the lowest rank of all held
      abbrev Low : Answer → Type 0
      Low a = number_of a ≡ 0 → held (lower (rank_of a)) s ≡ 0

      low-out : (m : Option Element) → first s.front ≡ m → Low (out_of m)
      low-out None e = λ z. absurd (omega arith)
      low-out (Some x) e =
          λ z. front_low p c s kept some-place x.rank.0
          (first-high x.rank.0 s.front kept.sorted (ap (at (lower x.rank.0)) e ∙ ap hit (le-ltb x.rank.0 x.rank.0 (omega arith))))

      low-some : Low (cond (eqb (held always s) 0) (Err Empty) (out_of (first s.front)))
      low-some = cond_both Low (eqb (held always s) 0) (Err Empty) (out_of (first s.front)) (λ _. λ z. absurd (omega arith)) (λ _. low-out (first s.front) refl)

      lows : (q : Request) → Least (λ f. held f s) q (heard n q s)
      lows Idle = tt
      lows (Push x) = tt
      lows Pop = low-some
      lows (Replace x) = cond_both Low (untagged x) (Err NoTag) (cond (eqb (held always s) 0) (Err Empty) (out_of (first s.front))) (λ _. λ z. absurd (omega arith)) (λ _. low-some)

  pub call-sum : (q : Request) (s : State) → (f : Element → Bool) → held f (fronted k n q s).next + given q (fronted k n q s).said f ≡ held f s + brought q (fronted k n q s).said f
  unfolding fronted
  call-sum q s f = sums s f q

  -- LEAST: every pop and replace that is answered is answered, in its own cycle, an element of the lowest rank of all held
  pub least : (q : Request) (s : State) → Kept p c s → Least (λ f. held f s) q (fronted k n q s).said
  unfolding fronted
  least q s kept = lows s kept q

  -- ---- numbers: 7, then 5 or 6, and never 2

  -- something held: place 0 is occupied
  out_some : (s : State) → Kept p c s → eqb (held always s) 0 ≡ false → (m : Option Element) → first s.front ≡ m → IsOut (out_of m)
  out_some s kept h None e = absurd (omega (arith, some_first s.front (some-front p c s kept some-place (some-held (eqb-false (held always s) 0 h))), ap (at always) e))
    where
      some-held : (held always s ≡ 0 → ⊥) → 1 ≤ held always s
      some-held n = omega arith
  out_some s kept h (Some x) e = tt

  pub number : (q : Request) (s : State) → Kept p c s → number_of (fronted k n q s).said ≡ number_for n q (held always s)
  unfolding fronted
  number Idle s kept = refl
  number (Push x) s kept = push (untagged x) (ltb (held always s) n)
    where
      push : (u r : Bool) → number_of (cond u (Err NoTag) (cond r (Ok None) (Err Full))) ≡ cond u 7 (cond r 0 5)
      push true r = refl
      push false true = refl
      push false false = refl
  number Pop s kept = pop (eqb (held always s) 0) refl
    where
      pop : (b : Bool) → eqb (held always s) 0 ≡ b → number_of (cond b (Err Empty) (out_of (first s.front))) ≡ cond b 6 0
      pop true e = refl
      pop false e = out-number (first s.front) (out_some s kept e (first s.front) refl)
  number (Replace x) s kept = swap (untagged x) (eqb (held always s) 0) refl
    where
      swap : (u b : Bool) → eqb (held always s) 0 ≡ b → number_of (cond u (Err NoTag) (cond b (Err Empty) (out_of (first s.front)))) ≡ cond u 7 (cond b 6 0)
      swap true b e = refl
      swap false true e = refl
      swap false false e = out-number (first s.front) (out_some s kept e (first s.front) refl)

  -- what is not refused is answered what it asked for
  pub kind : (q : Request) (s : State) → number_of (fronted k n q s).said ≡ 0 → Kind q (fronted k n q s).said
  unfolding fronted
  kind Idle s e = refl
  kind (Push x) s e = push (untagged x) (ltb (held always s) n) e
    where
      push : (u r : Bool) → number_of (cond u (Err NoTag) (cond r (Ok None) (Err Full))) ≡ 0 → cond {A = Answer} u (Err NoTag) (cond r (Ok None) (Err Full)) ≡ Ok None
      push true r e = absurd (omega arith)
      push false true e = refl
      push false false e = absurd (omega arith)
  kind Pop s e = pop (eqb (held always s) 0) e
    where
      pop : (b : Bool) → number_of (cond b (Err Empty) (out_of (first s.front))) ≡ 0 → IsOut (cond b (Err Empty) (out_of (first s.front)))
      pop true e = absurd (omega arith)
      pop false e = number-out (first s.front) e
  kind (Replace x) s e = swap (untagged x) (eqb (held always s) 0) e
    where
      swap : (u b : Bool) → number_of (cond u (Err NoTag) (cond b (Err Empty) (out_of (first s.front)))) ≡ 0 → IsOut (cond u (Err NoTag) (cond b (Err Empty) (out_of (first s.front))))
      swap true b e = absurd (omega arith)
      swap false true e = absurd (omega arith)
      swap false false e = number-out (first s.front) e

  -- a replace answers what a pop would
  pub as-pop : (x : Element) (s : State) → number_of (fronted k n (Replace x) s).said ≡ 0 → (fronted k n (Replace x) s).said ≡ (fronted k n Pop s).said
  unfolding fronted
  as-pop x s e = swap (untagged x) e
    where
      swap : (u : Bool) → number_of (cond u (Err NoTag) (cond (eqb (held always s) 0) (Err Empty) (out_of (first s.front)))) ≡ 0
          → cond u (Err NoTag) (cond (eqb (held always s) 0) (Err Empty) (out_of (first s.front))) ≡ cond (eqb (held always s) 0) (Err Empty) (out_of (first s.front))
      swap true e = absurd (omega arith)
      swap false e = refl

  -- ---- any list of cycles

  pub leaves_kept : (qs : List Request) → Kept p c (leaves (fronted k n) qs (fresh p))
  leaves_kept qs = leaves-keep (fronted k n) (Kept p c) called-kept qs (fresh p) (fresh_kept p c)

  -- HOLDS: front, way and queue behind hold what went in and has not come out
  pub holds : (qs : List Request) → Holds (λ f. held f (leaves (fronted k n) qs (fresh p))) qs (answers (fronted k n) qs (fresh p))
  holds qs f = omega (arith, all-sum (fronted k n) (Kept p c) called-kept (λ s f. held f s) (λ q s kept f. call-sum q s f) qs (fresh p) (fresh_kept p c) f, fresh-none p f)

  -- PLACES: no more than k are in the front, and there is one for each on the way
  pub places : (qs : List Request) → length (leaves (fronted k n) qs (fresh p)).front + coming always (leaves (fronted k n) qs (fresh p)).way ≤ k
  places qs = (leaves_kept qs).fits
