-- What a machine keeps between cycles (`IsClock`) and what it holds in flight (`Bag`, `Lowest`). Then, over any list of cycles and drains from a cleared machine,
-- nothing is damaged, nothing is lost, what comes out has the lowest rank, a replace is a pop and then a push, and idling brings the machine to rest.
use Rattle.laws.specs.Prelude.{Answer, Bool, Element, Idle, List, Pop, Push, Refusal, Replace, Request, [], ◌+◌, ◌<◌, ◌∙◌, ◌∷◌, ◌≡◌, ◌≤◌, ap, arith, false, map, number_of, refl, refusal_number, replicate, subst, suc, sym, true, true≢false, zero, ℕ, Ok, None, Err}
use Rattle.promise.proofs.Clock.{in_order, idle-runs, let-in, no-damage, stands, Ticks}
use Rattle.promise.proofs.Drains.{drain-ends, drain-left, drain-needed, drain-spent, drain-state, less-not}
use Rattle.promise.proofs.Forest.{seen-sum}
use Rattle.promise.proofs.Kept.{given_out, none-least, none-moved, passed, replaces_by}
use Rattle.promise.specs.Prelude.{Call, Clear, Clock, Close, Drained, Each, Holds, Kind, Least, Outcome, PopThenPush, Step, Untagged, all-sum, always, answers, asking, brought, calls, comes, cycle, cycle_left, done, drain, drained_by, each-any, given, leaves, leaves-keep, outcome, rested, ruling, sees, step, stopped}

-- ---- what a machine keeps between cycles, and what a request that is let in does
pub record IsClock {C M : Type 0} (k : Clock C M) (queue : C → M → Step Answer M) (Kept : M → Type 0) : Type 0 where
  pub ticks : Ticks k queue
  -- a kept machine is in order
  pub shaped : (x : M) → Kept x → k.shape_ok x ≡ true
  pub sound : (c : C) (x : M) → Kept x → k.sound_ok c x ≡ true
  -- a cycle whose request is let in keeps it; so does an idle one, which always is
  pub keeps : (c : C) (x : M) → Kept x → Clear (k.late c x) → Kept (k.moves c x)

-- ---- what it holds in the middle of any work, how many that pass a test; `seen` is what a cycle asks of what is counted: in a forest a cycle at another heap is idle
pub record Bag {C M : Type 0} (k : Clock C M) (Kept : M → Type 0) (seen : C → Request) (stored : M → (Element → Bool) → ℕ) : Type 0 where
  pub still : seen (k.call Idle) ≡ Idle
  pub sum : (c : C) (x : M) → Kept x → Clear (k.late c x) → (f : Element → Bool) → stored (k.moves c x) f + given (seen c) (k.gives c x) f ≡ stored x f + brought (seen c) (k.gives c x) f

-- .. and that what is given has the lowest rank of it
pub record Lowest {C M : Type 0} (k : Clock C M) (Kept : M → Type 0) (seen : C → Request) (stored : M → (Element → Bool) → ℕ) : Type 0 where
  pub least : (c : C) (x : M) → Kept x → Clear (k.late c x) → Least (stored x) (seen c) (k.gives c x)

-- all three, from what is known of the model's own cycles
module _ {C M : Type 0} {k : Clock C M} {queue : C → M → Step Answer M} (t : Ticks k queue) (Kept : M → Type 0) (shaped : (x : M) → Kept x → k.shape_ok x ≡ true)
    (sound : (c : C) (x : M) → Kept x → k.sound_ok c x ≡ true) where
  enters : (c : C) (x : M) → Kept x → Clear (k.late c x) → queue c x ≡ step (k.gives c x) (k.moves c x)
  enters c x kept d = let-in t c x (shaped x kept) (sound c x kept) d

  pub is-clock-by : ((c : C) (x : M) → Kept x → Kept (queue c x).next) → IsClock k queue Kept
  is-clock-by keeps = record { ticks = t; shaped = shaped; sound = sound; keeps = λ c x kept d. subst (λ (s : Step Answer M). Kept s.next) (enters c x kept d) (keeps c x kept) }

  pub bag-by : (seen : C → Request) (stored : M → (Element → Bool) → ℕ) → seen (k.call Idle) ≡ Idle
      → ((c : C) (x : M) → Kept x → (f : Element → Bool) → stored (queue c x).next f + given (seen c) (queue c x).said f ≡ stored x f + brought (seen c) (queue c x).said f) → Bag k Kept seen stored
  bag-by seen stored still sum =
      record {
        still = still;
        sum = λ c x kept d f. subst (λ (s : Step Answer M). stored s.next f + given (seen c) s.said f ≡ stored x f + brought (seen c) s.said f) (enters c x kept d) (sum c x kept f);
      }

  pub lowest_by : (seen : C → Request) (stored : M → (Element → Bool) → ℕ) → ((c : C) (x : M) → Kept x → Least (stored x) (seen c) (queue c x).said) → Lowest k Kept seen stored
  lowest_by seen stored least = record { least = λ c x kept d. subst (λ (s : Step Answer M). Least (stored x) (seen c) s.said) (enters c x kept d) (least c x kept) }

-- ---- lists of calls of a machine that answers later: what comes in and what leaves by the state too
module _ {C A S : Type 0} (queue : C → S → Step A S) where
  -- over a list of calls
  unfoldable pub over : (C → S → (Element → Bool) → ℕ) → List C → S → (Element → Bool) → ℕ
  over flow [] s f = 0
  over flow (c ∷ cs) s f = flow c s f + over flow cs (queue c s).next f

  pub flow-sum : (came gone : C → S → (Element → Bool) → ℕ) (Kept : S → Type 0) → ((c : C) (s : S) → Kept s → Kept (queue c s).next) → (held : S → (Element → Bool) → ℕ)
      → ((c : C) (s : S) → Kept s → (f : Element → Bool) → held (queue c s).next f + gone c s f ≡ held s f + came c s f)
      → (cs : List C) (s : S) → Kept s → (f : Element → Bool) → held (leaves queue cs s) f + over gone cs s f ≡ held s f + over came cs s f
  unfolding leaves over
  flow-sum came gone Kept keep held sum [] s kept f = refl
  flow-sum came gone Kept keep held sum (c ∷ cs) s kept f = omega (arith, sum c s kept f, flow-sum came gone Kept keep held sum cs (queue c s).next (keep c s kept) f)

module _ {C M : Type 0} {k : Clock C M} {queue : C → M → Step Answer M} {Kept : M → Type 0} (is : IsClock k queue Kept) where
  -- ---- one cycle on a kept machine: refused as idle, or let in
  module _ (c : C) (x : M) (kept : Kept x) where
    pub kept_either : (P : Outcome M → Type 0) → Each (λ n. P (outcome (Err n) (k.moves (k.call Idle) x))) (k.late c x) → (Clear (k.late c x) → P (outcome (k.gives c x) (k.moves c x)))
        → P (outcome (queue c x).said (queue c x).next)
    kept_either P = in_order is.ticks c x P (is.shaped x kept) (is.sound c x kept)

    kept_any : (P : Outcome M → Type 0) → ((n : Refusal) → P (outcome (Err n) (k.moves (k.call Idle) x))) → (Clear (k.late c x) → P (outcome (k.gives c x) (k.moves c x)))
        → P (outcome (queue c x).said (queue c x).next)
    kept_any P f = kept_either P (each-any _ f (k.late c x))

    pub next-kept : Kept (queue c x).next
    next-kept = kept_any (λ o. Kept o.words) (λ n. is.keeps (k.call Idle) x kept (is.ticks.free x)) (is.keeps c x kept)

    pub kept-undamaged : k.Torn c x → ⊥
    kept-undamaged = no-damage is.ticks c x (is.sound c x kept)

    -- NUMBERS: 0, or that of a refusal in the table
    pub kept-numbers : (P : ℕ → Type 0) → P 0 → Each (λ n. P (refusal_number n)) (k.late c x) → P (number_of (queue c x).said)
    kept-numbers P z each = kept_either (λ o. P (number_of o.answer)) each (λ d. subst P (sym (is.ticks.zero c x)) z)

  pub idle-kept : (x : M) → Kept x → queue (k.call Idle) x ≡ step (Ok None) (k.moves (k.call Idle) x)
  idle-kept x kept = idle-runs is.ticks (k.call Idle) x (is.shaped x kept) (is.sound (k.call Idle) x kept)

  pub idles-kept : (n : ℕ) (x : M) → Kept x → Kept (rested k queue n x)
  idles-kept n x = leaves-keep (asking k queue) Kept (λ r x kept. next-kept (k.call r) x kept) (replicate n Idle) x

  -- ---- cycles and drains
  drain-next : (b : ℕ) (x : M) → (calls k queue (drain b) x).next ≡ rested k queue (drained_by k queue b x).cycles x
  drain-next b x =
      drain-state is.ticks b x

  -- LEAST: what a cycle gives out is the least of all that is held, in the middle of any work
  pub cycle-least : {seen : C → Request} {stored : M → (Element → Bool) → ℕ} → Lowest k Kept seen stored → (c : C) (x : M) → Kept x → Least (stored x) (seen c) (queue c x).said
  cycle-least {seen} {stored} lowest c x kept = kept_any c x kept (λ o. Least (stored x) (seen c) o.answer) (λ n. none-least (seen c) n (stored x)) (lowest.least c x kept)

  module _ {seen : C → Request} {stored : M → (Element → Bool) → ℕ} (bag : Bag k Kept seen stored) where
    idle-stored : (x : M) → Kept x → (f : Element → Bool) → stored (k.moves (k.call Idle) x) f ≡ stored x f
    idle-stored x kept f =
        let s : stored (k.moves (k.call Idle) x) f + given Idle (k.gives (k.call Idle) x) f ≡ stored x f + brought Idle (k.gives (k.call Idle) x) f =
        subst (λ (r : Request). stored (k.moves (k.call Idle) x) f + given r (k.gives (k.call Idle) x) f ≡ stored x f + brought r (k.gives (k.call Idle) x) f) bag.still (bag.sum (k.call Idle) x kept (is.ticks.free x) f) in
        omega arith

    pub cycle-sum : (c : C) (x : M) → Kept x → (f : Element → Bool) → stored (queue c x).next f + given (seen c) (queue c x).said f ≡ stored x f + brought (seen c) (queue c x).said f
    cycle-sum c x kept f =
        kept_any c x kept (λ o. stored o.words f + given (seen c) o.answer f ≡ stored x f + brought (seen c) o.answer f)
        (λ n. ap (λ (i : ℕ). i + given (seen c) (Err n) f) (idle-stored x kept f) ∙ none-moved (seen c) n (stored x f) f) (λ d. bag.sum c x kept d f)

    pub idles-sum : (n : ℕ) (x : M) → Kept x → (f : Element → Bool) → stored (rested k queue n x) f ≡ stored x f
    unfolding leaves
    idles-sum zero x kept f = refl
    idles-sum (suc n) x kept f =
        idles-sum n (queue (k.call Idle) x).next (next-kept (k.call Idle) x kept) f ∙ ap (λ (s : Step Answer M). stored s.next f) (idle-kept x kept) ∙ idle-stored x kept f

  -- ---- THE PROMISES: from a kept machine that holds nothing, as clear leaves it, over any list of cycles
  module _ (x : M) (kept : Kept x) where
    pub ran-kept : (cs : List C) → Kept (leaves queue cs x)
    ran-kept cs = leaves-keep queue Kept next-kept cs x kept

    module _ {seen : C → Request} {stored : M → (Element → Bool) → ℕ} (bag : Bag k Kept seen stored) (bare : (f : Element → Bool) → stored x f ≡ 0) where
      -- HOLDS, at every moment
      pub holds : (cs : List C) → Holds (stored (leaves queue cs x)) (map seen cs) (answers queue cs x)
      holds cs f = omega (arith, seen-sum queue seen Kept next-kept stored (cycle-sum bag) cs x kept f, bare f)

  -- ---- cycles and drains: steps are the model's own calls
  module _ (steps : Call C → M → Step Answer M) (alike : (c : Call C) (x : M) → steps c x ≡ calls k queue c x) where
    pub call_kept : (c : Call C) (x : M) → Kept x → Kept (steps c x).next
    call_kept c x kept = subst (λ (s : Step Answer M). Kept s.next) (sym (alike c x)) (go c)
      where
        go : (c : Call C) → Kept (calls k queue c x).next
        go (cycle c) = next-kept c x kept
        go (drain b) = subst Kept (sym (drain-next b x)) (idles-kept (drained_by k queue b x).cycles x kept)

    pub calls-kept : (cs : List (Call C)) (x : M) → Kept x → Kept (leaves steps cs x)
    calls-kept cs x = leaves-keep steps Kept call_kept cs x

    module _ {seen : C → Request} {stored : M → (Element → Bool) → ℕ} (bag : Bag k Kept seen stored) where
      pub call-sum : (c : Call C) (x : M) → Kept x → (f : Element → Bool) → stored (steps c x).next f + given (sees seen c) (steps c x).said f ≡ stored x f + brought (sees seen c) (steps c x).said f
      call-sum c x kept f = subst (λ (s : Step Answer M). stored s.next f + given (sees seen c) s.said f ≡ stored x f + brought (sees seen c) s.said f) (sym (alike c x)) (go c)
        where
          go : (c : Call C) → stored (calls k queue c x).next f + given (sees seen c) (calls k queue c x).said f ≡ stored x f + brought (sees seen c) (calls k queue c x).said f
          go (cycle c) = cycle-sum bag c x kept f
          go (drain b) = omega (arith, ap (λ (y : M). stored y f) (drain-next b x), idles-sum bag (drained_by k queue b x).cycles x kept f)

      -- NOTHING LOST, over any list of cycles and drains
      pub nothing-lost : (x : M) → Kept x → ((f : Element → Bool) → stored x f ≡ 0) → (cs : List (Call C)) → Holds (stored (leaves steps cs x)) (map (sees seen) cs) (answers steps cs x)
      nothing-lost x kept bare cs f = omega (arith, seen-sum steps (sees seen) Kept call_kept stored call-sum cs x kept f, bare f)

  -- ---- AT REST: where so many idle cycles leave nothing pending, a drain with that budget or more is not refused, runs no more, and leaves no work
  module _ (most : ℕ) (settles : (x : M) → Kept x → k.pending (rested k queue most x) ≡ false) (x : M) (kept : Kept x) (b : ℕ) (enough : most ≤ b) where
    abbrev pub d : Drained M
    d = drained_by k queue b x

    sh : k.Shape x
    sh = (is.ticks.shape x).says (is.shaped x kept)

    pub drained-fine : number_of d.answer ≡ 0
    drained-fine =
        go (drain-ends is.ticks b x sh)
      where
        go : Close (asking k queue) k.pending (k.Torn (k.call Idle)) b d.cycles x d → number_of d.answer ≡ 0
        go (done a l) = ap number_of a
        go (stopped a l j) = absurd (kept-undamaged (k.call Idle) (rested k queue d.cycles x) (idles-kept d.cycles x kept) j.damage)

    pub drained-few : d.cycles ≤ most
    drained-few =
        less-not (λ h. true≢false (sym
        (drain-needed is.ticks b x most h)
        ∙ settles x kept))

    left_is : d.left ≡ k.pending (rested k queue d.cycles x)
    left_is =
        drain-left is.ticks b x sh
        ∙ ap k.pending (drain-next b x)

    pub drained-left : d.left ≡ false
    drained-left = go d.left refl
      where
        go : (l : Bool) → d.left ≡ l → l ≡ false
        go false e = refl
        go true e =
            let all : d.cycles ≡ most =
            omega (arith, drain-spent is.ticks b x sh drained-fine e, drained-few) in
            sym e ∙ left_is ∙ ap (λ (n : ℕ). k.pending (rested k queue n x)) all ∙ settles x kept

    pub drained-rest : k.pending (rested k queue d.cycles x) ≡ false
    drained-rest = sym left_is ∙ drained-left

-- ---- the same where a cycle is handed a request, and all that is held is counted
module _ {M : Type 0} {k : Clock Request M} {queue : Request → M → Step Answer M} {Kept : M → Type 0} (is : IsClock k queue Kept) {stored : M → (Element → Bool) → ℕ} (bag : Bag k Kept (λ r. r) stored) where
  pub all_held : (x : M) → Kept x → ((f : Element → Bool) → stored x f ≡ 0) → (rs : List Request) → Holds (stored (leaves queue rs x)) rs (answers queue rs x)
  all_held x kept bare rs f = omega (arith, all-sum queue Kept (next-kept is) stored (cycle-sum is bag) rs x kept f, bare f)

  -- ---- POP-THEN-PUSH: "a replace is a pop and then a push" (02 [4]), by cycles. A replace of an element that has a tag is refused where a pop is, and what a pop
  -- leaves has room
  pub record Swaps : Type 0 where
    pub kinds : (r : Request) (x : M) → Kind r (k.gives r x)
    pub alike : (e : Element) (x : M) → Kept x → (Untagged (Replace e) → ⊥) → (comes k (Replace e) x).answer ≡ (comes k Pop x).answer
    pub room : (e : Element) (x : M) → Kept x → (Untagged (Replace e) → ⊥) → Clear (k.late Pop x) → Clear (k.late (Push e) (k.moves Pop x))

  -- .. the room that a pop makes, of a machine that has room for cap
  pub popped-less : ((x : M) → Kept x → k.held x ≡ stored x always) → (cap : ℕ) → ((x : M) → Kept x → k.held x ≤ cap) → (x : M) → Kept x → Clear (k.late Pop x) → k.held (k.moves Pop x) < cap
  popped-less counts cap few x kept c =
      omega (arith, bag.sum Pop x kept c always, given_out (k.gives Pop x) (is.ticks.zero Pop x) always, counts x kept, counts (k.moves Pop x) (is.keeps Pop x kept c), few x kept)

  module _ (sw : Swaps) (e : Element) (tag : Untagged (Replace e) → ⊥) (y : M) (at : Kept y) where
    came-to : (r : Request) → (queue r y).said ≡ (comes k r y).answer
    came-to r = ap (λ (s : Step Answer M). s.said) (is.ticks.same r y) ∙ rw (is.shaped y at, is.sound r y at) refl

    same_answer : (queue (Replace e) y).said ≡ (queue Pop y).said
    same_answer = came-to (Replace e) ∙ sw.alike e y at tag ∙ sym (came-to Pop)

    abbrev held_then : Request → M → Outcome M
    held_then r x = outcome (queue r x).said (queue r x).next

    pop-clear : number_of (queue (Replace e) y).said ≡ 0 → Clear (k.late Pop y)
    pop-clear z = passed (k.call Idle) (ruling (k.gives Pop y) Pop) (k.late Pop y) (ap number_of (sym (came-to Pop) ∙ sym same_answer) ∙ z)

    push-taken : number_of (queue (Replace e) y).said ≡ 0 → (queue (Push e) (queue Pop y).next).said ≡ Ok None
    push-taken z =
        let c = pop-clear z in
        let popped = is.keeps Pop y at c in
        subst (λ (v : M). (queue (Push e) v).said ≡ Ok None) (sym (ap (λ (s : Step Answer M). s.next) (let-in is.ticks Pop y (is.shaped y at) (is.sound Pop y at) c)))
        (ap (λ (s : Step Answer M). s.said) (let-in is.ticks (Push e) (k.moves Pop y) (is.shaped _ popped) (is.sound (Push e) _ popped) (sw.room e y at tag c)) ∙ sw.kinds (Push e) (k.moves Pop y))

    pub pop-then-push : PopThenPush held_then stored e y
    pop-then-push =
        replaces_by held_then stored e y (cycle_left k queue y) (λ r. stands is.ticks r y) same_answer push-taken (cycle-sum is bag (Replace e) y at) (cycle-sum is bag Pop y at)
        (cycle-sum is bag (Push e) (queue Pop y).next (next-kept is Pop y at))
