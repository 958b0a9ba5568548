-- A drain of any machine is so many idle cycles: none once nothing is pending, no more than the budget, and it stops at damage. First of a queue and what is pending
-- in its state, where on a good state an idle cycle runs, or jams and leaves everything; then of any clock.
use Rattle.laws.specs.Prelude.{Answer, BadShape, Bool, Damaged, Exactly, Idle, Refusal, Request, ◌+◌, ◌<◌, ◌∙◌, ◌≡◌, ◌≤◌, ◌⊎◌, add-zero, ap, arith, climb-by, climb-fine, climb-stop, cond, false, false≢true, fine, inl, inr, is_refused, leb, leb-false, leb-true, left_behind, means-no, not-suc-le-zero, number_of, refl, refusal_number, replicate, subst, suc, sym, true, true≢false, zero, zero-add, ℕ, Ok, None, Err}
use Rattle.promise.proofs.Clock.{damaged, idle-runs, shape-stays, Ticks}
use Rattle.promise.specs.Prelude.{Clock, Close, Drained, Step, Stuck, asking, behind, capped, done, drain_by, drain_refusals, drained, drained_by, drains_by, idled, leaves, leaves-keep, refusal-told, step, stopped, zero-told}

pub less-not : {a b : ℕ} → (a < b → ⊥) → b ≤ a
less-not {a} {b} h = go (leb b a) refl
  where
    go : (t : Bool) → leb b a ≡ t → b ≤ a
    go true e = leb-true b a e
    go false e = absurd (h (leb-false b a e))

module _ {S : Type 0} (queue : Request → S → Step Answer S) (pending : S → Bool) where
  -- a model's own drain, with an outcome record of its own, is this one where each of its rounds is
  module _ {D : Type 0} (shown : Drained S → D) (from : ℕ → ℕ → S → D) (spent : (n : ℕ) (s : S) → from 0 n s ≡ shown (drained (Ok None) n (pending s) s))
      (round : (b n : ℕ) (s : S) → let o = queue Idle s in from (suc b) n s
      ≡ cond (pending s) (cond (is_refused o.said) (shown (drained o.said n true o.next)) (from b (suc n) o.next)) (shown (drained (Ok None) n false s))) where
    drain-shown : (b n : ℕ) (s : S) → from b n s ≡ shown (drain_by queue pending b n s)
    unfolding drain_by
    drain-shown zero n s = spent n s
    drain-shown (suc b) n s = round b n s ∙ go (pending s) (is_refused (queue Idle s).said) (drain-shown b (suc n) (queue Idle s).next)
      where
        o : Step Answer S
        o = queue Idle s

        go : (p q : Bool) → from b (suc n) o.next ≡ shown (drain_by queue pending b (suc n) o.next)
            → cond p (cond q (shown (drained o.said n true o.next)) (from b (suc n) o.next)) (shown (drained (Ok None) n false s))
            ≡ shown (cond {A = Drained S} p (cond {A = Drained S} q (drained o.said n true o.next) (drain_by queue pending b (suc n) o.next)) (drained (Ok None) n false s))
        go true true ih = refl
        go true false ih = ih
        go false q ih = refl

    pub drains-shown : (t : Bool) (b : ℕ) (s : S) → cond t (from b 0 s) (shown (drained (Err BadShape) 0 false s)) ≡ shown (drains_by queue pending t b s)
    drains-shown true b s = drain-shown b 0 s
    drains-shown false b s = refl

  module _ (Jam : S → Type 0) where
    -- a drain after n cycles already run
    pub record Closes (b n : ℕ) (s : S) (d : Drained S) : Type 0 where
      pub more : ℕ
      pub counts : d.cycles ≡ n + more
      pub state : d.state ≡ idled queue more s
      pub within : more ≤ b
      pub needed : (j : ℕ) → j < more → pending (idled queue j s) ≡ true
      pub unrefused : (j : ℕ) → j < more → number_of (queue Idle (idled queue j s)).said ≡ 0
      pub left : d.left ≡ pending d.state
      pub close : Close queue pending Jam b more s d

    -- nothing is run
    closes_here : (b n : ℕ) (s : S) (a : Answer) (l : Bool) → l ≡ pending s → Close queue pending Jam b 0 s (drained a n l s) → Closes b n s (drained a n l s)
    unfolding leaves
    closes_here b n s a l p end =
        record {
          more = 0;
          counts = omega arith;
          state = refl;
          within = omega arith;
          needed = λ j h. absurd (not-suc-le-zero h);
          unrefused = λ j h. absurd (not-suc-le-zero h);
          left = p;
          close = end;
        }

    stuck-here : (b : ℕ) (s : S) → pending s ≡ true → Jam s → Stuck queue pending Jam (suc b) 0 s
    unfolding leaves
    stuck-here b s on d = record { within = omega arith; waits = λ j h. still j h; damage = d }
      where
        still : (j : ℕ) → j ≤ 0 → pending (idled queue j s) ≡ true
        still zero h = on
        still (suc j) h = absurd (not-suc-le-zero h)

    -- one cycle is run, and the rest after it
    closes-next : (b n : ℕ) (s : S) (d : Drained S) → pending s ≡ true → (queue Idle s).said ≡ Ok None → Closes b (suc n) (queue Idle s).next d → Closes (suc b) n s d
    unfolding leaves
    closes-next b n s d on ok i =
        record {
          more = suc i.more;
          counts = omega (arith, i.counts);
          state = i.state;
          within = omega (arith, i.within);
          needed = λ j h. needs j h;
          unrefused = λ j h. runs_so j h;
          left = i.left;
          close = later i.close;
        }
      where
        needs : (j : ℕ) → j < suc i.more → pending (idled queue j s) ≡ true
        needs zero h = on
        needs (suc j) h = i.needed j (omega arith)

        runs_so : (j : ℕ) → j < suc i.more → number_of (queue Idle (idled queue j s)).said ≡ 0
        runs_so zero h = ap number_of ok
        runs_so (suc j) h = i.unrefused j (omega arith)

        waits : Stuck queue pending Jam b i.more (queue Idle s).next → (j : ℕ) → j ≤ suc i.more → pending (idled queue j s) ≡ true
        waits x zero h = on
        waits x (suc j) h = x.waits j (omega arith)

        later : Close queue pending Jam b i.more (queue Idle s).next d → Close queue pending Jam (suc b) (suc i.more) s d
        later (done a l) = done a (λ e. ap suc (l e))
        later (stopped a l x) = stopped a l (record { within = omega (arith, x.within); waits = waits x; damage = x.damage })

    -- one round: nothing is pending; the idle cycle meets damage; it runs
    module _ (b n : ℕ) (s : S) where
      round-quiet : pending s ≡ false → drain_by queue pending (suc b) n s ≡ drained (Ok None) n false s
      unfolding drain_by
      round-quiet e = rw e

      round-jams : pending s ≡ true → queue Idle s ≡ step (Err Damaged) s → drain_by queue pending (suc b) n s ≡ drained (Err Damaged) n true s
      unfolding drain_by is_refused
      round-jams e x = rw (e, x)

      round-runs : pending s ≡ true → (queue Idle s).said ≡ Ok None → drain_by queue pending (suc b) n s ≡ drain_by queue pending b (suc n) (queue Idle s).next
      unfolding drain_by is_refused
      round-runs e x = rw (e, x)

    module _ (Good : S → Type 0) (keep : (s : S) → Good s → Good (queue Idle s).next)
        (idling : (s : S) → Good s → ((queue Idle s).said ≡ Ok None) ⊎ ((queue Idle s ≡ step (Err Damaged) s) × Jam s)) where
      pub closes : (b n : ℕ) (s : S) → Good s → Closes b n s (drain_by queue pending b n s)
      unfolding drain_by
      closes zero n s g = closes_here zero n s (Ok None) (pending s) refl (done refl (λ l. refl))
      closes (suc b) n s g = go (pending s) refl (idling s g) (closes b (suc n) (queue Idle s).next (keep s g))
        where
          on : Drained S
          on = drain_by queue pending b (suc n) (queue Idle s).next

          go : (p : Bool) → pending s ≡ p → ((queue Idle s).said ≡ Ok None) ⊎ ((queue Idle s ≡ step (Err Damaged) s) × Jam s) → Closes b (suc n) (queue Idle s).next on
              → Closes (suc b) n s (drain_by queue pending (suc b) n s)
          go false q x ih = subst (Closes (suc b) n s) (sym (round-quiet b n s q)) (closes_here (suc b) n s (Ok None) false (sym q) (done refl (λ l. absurd (false≢true l))))
          go true q (inl x) ih = subst (Closes (suc b) n s) (sym (round-runs b n s q x)) (closes-next b n s on q x ih)
          go true q (inr x) ih = subst (Closes (suc b) n s) (sym (round-jams b n s q x.0)) (closes_here (suc b) n s (Err Damaged) true (sym q) (stopped refl refl (stuck-here b s q x.1)))

    -- ---- what a whole drain says
    module _ (b : ℕ) (s : S) (d : Drained S) (c : Closes b 0 s d) where
      pub so-many : c.more ≡ d.cycles
      so-many = omega (arith, c.counts)

      pub close-state : d.state ≡ idled queue d.cycles s
      close-state = c.state ∙ ap (λ (n : ℕ). idled queue n s) so-many

      pub close-needed : (j : ℕ) → j < d.cycles → pending (idled queue j s) ≡ true
      close-needed j h = c.needed j (omega (arith, so-many))

      pub close-ran : (j : ℕ) → j < d.cycles → number_of (queue Idle (idled queue j s)).said ≡ 0
      close-ran j h = c.unrefused j (omega (arith, so-many))

      pub close-within : d.cycles ≤ b
      close-within = omega (arith, so-many, c.within)

      pub close-ends : Close queue pending Jam b d.cycles s d
      close-ends = subst (λ (n : ℕ). Close queue pending Jam b n s d) so-many c.close

      -- with work left and no damage the budget is spent
      pub close-spent : number_of d.answer ≡ 0 → d.left ≡ true → d.cycles ≡ b
      close-spent r l = go close-ends
        where
          go : Close queue pending Jam b d.cycles s d → d.cycles ≡ b
          go (done a f) = f l
          go (stopped a f j) = absurd (zero-told Damaged (sym r ∙ ap number_of a))

      -- where no cycle is refused and n idle cycles are those until nothing is pending, the count is n capped by the budget
      pub close-count : number_of d.answer ≡ 0 → (n : ℕ) → pending (idled queue n s) ≡ false → ((j : ℕ) → j < n → pending (idled queue j s) ≡ true) → d.cycles ≡ capped b n
      close-count r n quiet before = go (leb n b) refl d.left refl
        where
          most : n < d.cycles → ⊥
          most h = true≢false (sym (close-needed n h) ∙ quiet)

          least : d.left ≡ false → d.cycles < n → ⊥
          least l h = true≢false (sym (before d.cycles h) ∙ ap pending (sym close-state) ∙ sym c.left ∙ l)

          go : (t : Bool) → leb n b ≡ t → (l : Bool) → d.left ≡ l → d.cycles ≡ cond t n b
          go true e true l = let a = close-spent r l in let h : d.cycles ≤ n = less-not most in omega (arith, leb-true n b e)
          go true e false l = let h : d.cycles ≤ n = less-not most in let k : n ≤ d.cycles = less-not (least l) in omega arith
          go false e true l = close-spent r l
          go false e false l = let k : n ≤ d.cycles = less-not (least l) in absurd (omega (arith, leb-false n b e, close-within))

      -- a drain that is not refused is done
      pub close-kind : number_of d.answer ≡ 0 → d.answer ≡ Ok None
      close-kind e = go close-ends
        where
          go : Close queue pending Jam b d.cycles s d → d.answer ≡ Ok None
          go (done a l) = a
          go (stopped a l j) = absurd (zero-told Damaged (sym e ∙ ap number_of a))

      -- one refused stopped at the cycle that meets damage
      pub close-stops : number_of d.answer ≡ 2 → Stuck queue pending Jam b d.cycles s
      close-stops e = go close-ends
        where
          go : Close queue pending Jam b d.cycles s d → Stuck queue pending Jam b d.cycles s
          go (done a l) = absurd (omega (arith, ap number_of a))
          go (stopped a l j) = j

      -- one that is done has met no damage that it could meet: an idle cycle that meets damage is refused
      pub close-free : ((n : ℕ) → Jam (idled queue n s) → number_of (queue Idle (idled queue n s)).said ≡ 0 → ⊥) → d.answer ≡ Ok None → (d.left ≡ true → d.cycles ≡ b) → (n : ℕ) → Stuck queue pending Jam b n s → ⊥
      close-free refused a l n j = go (leb d.cycles n) refl
        where
          go : (t : Bool) → leb d.cycles n ≡ t → ⊥
          go false e = refused n j.damage (close-ran n (leb-false d.cycles n e))
          go true e =
              let waits : d.left ≡ true = c.left ∙ ap pending close-state ∙ j.waits d.cycles (leb-true d.cycles n e) in
              omega (arith, l waits, j.within, leb-true d.cycles n e)

-- ---- the drains of a clock
module _ {C M : Type 0} {k : Clock C M} {queue : C → M → Step Answer M} (t : Ticks k queue) where
  -- a cycle with a request, what is pending, and what jams an idle cycle
  abbrev tick : Request → M → Step Answer M
  tick = asking k queue

  abbrev pending : M → Bool
  pending = k.pending

  abbrev Jam : M → Type 0
  Jam = k.Torn (k.call Idle)

  keeps : (r : Request) (x : M) → k.shape_ok (tick r x).next ≡ k.shape_ok x
  keeps r x = shape-stays t (k.call r) x

  idling : (x : M) → k.shape_ok x ≡ true → ((tick Idle x).said ≡ Ok None) ⊎ ((tick Idle x ≡ step (Err Damaged) x) × Jam x)
  idling x e = go (k.sound_ok (k.call Idle) x) refl
    where
      go : (b : Bool) → k.sound_ok (k.call Idle) x ≡ b → ((tick Idle x).said ≡ Ok None) ⊎ ((tick Idle x ≡ step (Err Damaged) x) × Jam x)
      go true f = inl (ap (λ (s : Step Answer M). s.said) (idle-runs t (k.call Idle) x e f))
      go false f = inr (damaged t (k.call Idle) x e f, (t.torn (k.call Idle) x).found f)

  jams : (x : M) → k.shape_ok x ≡ true → Jam x → number_of (tick Idle x).said ≡ 0 → ⊥
  jams x e d z = zero-told Damaged (sym z ∙ ap (λ (s : Step Answer M). number_of s.said) (damaged t (k.call Idle) x e ((t.torn (k.call Idle) x).shown d)))

  module _ (b : ℕ) (s : M) where
    abbrev d : Drained M
    d = drained_by k queue b s

    ended : k.shape_ok s ≡ true → Closes tick pending Jam b 0 s (drain_by tick pending b 0 s)
    ended e = closes tick pending Jam (λ s. k.shape_ok s ≡ true) (λ s e. keeps Idle s ∙ e) idling b 0 s e

    -- refused for the shape, or one that closes
    pub by_shape : (P : Drained M → Type 0) → P (drained (Err BadShape) 0 false s) → ((x : Drained M) → k.shape_ok s ≡ true → Closes tick pending Jam b 0 s x → P x) → P d
    by_shape P bad good = go (k.shape_ok s) refl
      where
        go : (t : Bool) → k.shape_ok s ≡ t → P (drains_by tick pending t b s)
        go true e = good (drain_by tick pending b 0 s) e (ended e)
        go false e = bad

    -- DRAIN-STATE: "The state left is that of exactly so many idle cycles", whatever is drained
    pub drain-state : d.state ≡ idled tick d.cycles s
    unfolding leaves
    drain-state = by_shape (λ d. d.state ≡ idled tick d.cycles s) refl (λ x e c. close-state tick pending Jam b s x c)

    -- DRAIN-NEEDED: "none is run once nothing is pending", and none past the budget
    pub drain-needed : (j : ℕ) → j < d.cycles → pending (idled tick j s) ≡ true
    drain-needed = by_shape (λ d. (j : ℕ) → j < d.cycles → pending (idled tick j s) ≡ true) (λ j h. absurd (not-suc-le-zero h)) (λ x e c. close-needed tick pending Jam b s x c)

    pub drain-within : d.cycles ≤ b
    drain-within = by_shape (λ d. d.cycles ≤ b) (omega arith) (λ x e c. close-within tick pending Jam b s x c)

    -- DRAIN-RAN: each of the cycles reported ran unrefused
    pub drain-ran : (j : ℕ) → j < d.cycles → number_of (tick Idle (idled tick j s)).said ≡ 0
    drain-ran = by_shape (λ d. (j : ℕ) → j < d.cycles → number_of (tick Idle (idled tick j s)).said ≡ 0) (λ j h. absurd (not-suc-le-zero h)) (λ x e c. close-ran tick pending Jam b s x c)

    -- KIND: a drain that is not refused is done
    pub drain-kind : number_of d.answer ≡ 0 → d.answer ≡ Ok None
    drain-kind = by_shape (λ d. number_of d.answer ≡ 0 → d.answer ≡ Ok None) (λ e. absurd (zero-told BadShape (sym e))) (λ x e c. close-kind tick pending Jam b s x c)

    -- DRAIN-STOPS: the cycle after exactly so many idle cycles is the one that meets damage
    pub drain-stops : number_of d.answer ≡ 2 → Stuck tick pending Jam b d.cycles s
    drain-stops = by_shape (λ d. number_of d.answer ≡ 2 → Stuck tick pending Jam b d.cycles s) (λ e. absurd (omega arith)) (λ x e c. close-stops tick pending Jam b s x c)

    module _ (sh : k.Shape s) where
      -- "whether work is left"
      pub drain-left : d.left ≡ pending d.state
      drain-left = rw ((t.shape s).holds sh) (ended ((t.shape s).holds sh)).left

      -- with work left and no damage the budget is spent
      pub drain-spent : number_of d.answer ≡ 0 → d.left ≡ true → d.cycles ≡ b
      drain-spent = rw ((t.shape s).holds sh) (close-spent tick pending Jam b s (drain_by tick pending b 0 s) (ended ((t.shape s).holds sh)))

      -- DRAIN-COUNT: where no cycle is refused and n idle cycles are those until nothing is pending, the count is n capped by the budget
      pub drain-count : number_of d.answer ≡ 0 → (n : ℕ) → pending (idled tick n s) ≡ false → ((j : ℕ) → j < n → pending (idled tick j s) ≡ true) → d.cycles ≡ capped b n
      drain-count = rw ((t.shape s).holds sh) (close-count tick pending Jam b s (drain_by tick pending b 0 s) (ended ((t.shape s).holds sh)))

      -- DRAIN-ENDS: done, with no work left or the budget spent; or stopped at 2 with work left, where the cycle after exactly so many meets damage
      pub drain-ends : Close tick pending Jam b d.cycles s d
      drain-ends = rw ((t.shape s).holds sh) (close-ends tick pending Jam b s (drain_by tick pending b 0 s) (ended ((t.shape s).holds sh)))

    -- ---- EXACTLY: a drain is refused for the shape, or where an idle cycle within the budget meets damage, and leaves behind what the rule says
    abbrev says : Drained M → ℕ
    says d = number_of d.answer

    idles-good : (n : ℕ) → k.shape_ok s ≡ true → k.shape_ok (idled tick n s) ≡ true
    idles-good n = leaves-keep tick (λ s. k.shape_ok s ≡ true) (λ r s e. keeps r s ∙ e) (replicate n Idle) s

    pub exactly-drain : Exactly says (behind tick d.cycles s) d (drain_refusals tick pending Jam k.Shape b s)
    unfolding leaves
    exactly-drain = go (k.shape_ok s) refl
      where
        by_end : (x : Drained M) → k.shape_ok s ≡ true → Closes tick pending Jam b 0 s x → Close tick pending Jam b x.cycles s x
            → (((n : ℕ) × Stuck tick pending Jam b n s → ⊥) × Exactly says (behind tick x.cycles s) x fine) ⊎ (((n : ℕ) × Stuck tick pending Jam b n s) × (x ≡ behind tick x.cycles s Damaged))
        by_end x e c (done a l) =
            inl ((λ z. close-free tick pending Jam b s x c (λ n. jams (idled tick n s) (idles-good n e)) a l z.0 z.1), climb-fine says (behind tick x.cycles s) _ (λ r q. zero-told r (sym (ap number_of a) ∙ q)))
        by_end x e c (stopped a l j) =
            let st = close-state tick pending Jam b s x c in
            inr ((x.cycles, j), λ i. record { answer = a i; cycles = x.cycles; left = l i; state = st i })

        go : (t : Bool) → k.shape_ok s ≡ t → Exactly says (behind tick (drains_by tick pending t b s).cycles s) (drains_by tick pending t b s) (drain_refusals tick pending Jam k.Shape b s)
        go true e =
            let x : Drained M = drain_by tick pending b 0 s in
            climb-by says (behind tick x.cycles s) refusal-told BadShape _ _ _ (inl ((t.shape s).says e, climb-stop says (behind tick x.cycles s) refusal-told Damaged _ _ fine (by_end x e (ended e) (close-ends tick pending Jam b s x (ended e)))))
        go false e = climb-by says (behind tick 0 s) refusal-told BadShape _ _ _ (inr (means-no (t.shape s) e, refl))

    pub drain-refused : (n : Refusal) → number_of d.answer ≡ refusal_number n → d ≡ behind tick d.cycles s n
    drain-refused = left_behind says (behind tick d.cycles s) exactly-drain

  -- ---- DRAIN-FEW: where each idle cycle that is not refused leaves one more of n levels with nothing to do, n are enough
  module _ (n : ℕ) (Lead : ℕ → M → Type 0) (next : (i : ℕ) (s : M) → number_of (tick Idle s).said ≡ 0 → Lead i s → Lead (suc i) (tick Idle s).next) (rests : (s : M) → Lead n s → pending s ≡ false) where
    along : (j i : ℕ) (s : M) → Lead i s → ((t : ℕ) → t < j → number_of (tick Idle (idled tick t s)).said ≡ 0) → Lead (i + j) (idled tick j s)
    unfolding leaves
    along zero i s h ran = rw add-zero h
    along (suc j) i s h ran =
        let at : i + suc j ≡ suc i + j = omega arith in
        rw at (along j (suc i) (tick Idle s).next (next i s (ran 0 (omega arith)) h) (λ t l. ran (suc t) (omega arith)))

    -- so many idle cycles that are not refused leave nothing pending
    pub idles-quiet : (s : M) → Lead 0 s → ((t : ℕ) → t < n → number_of (tick Idle (idled tick t s)).said ≡ 0) → pending (idled tick n s) ≡ false
    idles-quiet s h ran = rests (idled tick n s) (rw zero-add at (along n 0 s h ran))

    pub drain-few : (b : ℕ) (s : M) → Lead 0 s → (drained_by k queue b s).cycles ≤ n
    drain-few b s h = less-not (λ l. true≢false (sym (drain-needed b s n l) ∙ idles-quiet s h (λ t m. drain-ran b s t (omega arith))))
