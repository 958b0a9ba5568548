-- THE PROMISES of a queue that does one operation at a time, from what it keeps between calls. `IsQueue` is all that a queue has to show; what follows is the
-- same for every queue: from a cleared store, over any list of requests, nothing is damaged, it holds exactly what went in and has not come out, what comes out
-- has the lowest rank, and a replace is a pop and then a push.
use Rattle.laws.specs.Prelude.{Answer, Bool, Element, Empty, Idle, List, Pop, Push, Refusal, Replace, Request, ◌+◌, ◌<◌, ◌∙◌, ◌≡◌, ◌≤◌, ap, arith, blank, cond, count_number, count_of, element_of, eqb, false, lt-ltb, means-off, number_of, refl, refusal_number, subst, suc, sym, true, untagged, zero, ℕ, Ok, Err, None, Some}
use Rattle.promise.proofs.Calls.{barred, grants-zero, no-damage, stands, Tested}
use Rattle.promise.specs.Prelude.{Clear, Damage, Each, Holds, Least, Outcome, PopThenPush, Queue, Ruling, Step, Table, Tagged, Untagged, all-sum, all_brought, all_given, always, answers, brought, called, cleared, decided, decided-clear, decided-either, does, each-any, given, grants, held_count, hit, last_table, leaves, leaves-keep, left, outcome, rule_at, ruled, ruling, same, stepping, tagged-by, triple, unrefused, untagged-means, zero-told}

-- what a queue keeps between calls, and what an operation that is let in does
pub record IsQueue {S : Type 0} (q : Queue S) (Kept : S → Type 0) : Type 0 where
  pub tested : Tested q
  -- a kept store is in order
  pub opens : (s : S) → Kept s → Clear (q.opening s)
  pub root : (s : S) → Kept s → q.root_ok s ≡ true
  pub way : (r : Request) (s : S) → Kept s → Clear (q.asked r s) → Clear (q.late r s) → q.way_ok (q.op r) s ≡ true
  pub idles : (s : S) → Kept s → q.way_ok (q.op Idle) s ≡ true
  -- an operation keeps it, and the elements change as it says
  pub keeps : (r : Request) (s : S) → Kept s → Clear (q.asked r s) → Clear (q.late r s) → Kept (q.run (q.op r) s)
  pub sum : (r : Request) (s : S) → Kept s → Clear (q.asked r s) → Clear (q.late r s) → (f : Element → Bool)
      → q.stored (q.run (q.op r) s) f + given r (grants r (q.low s)) f ≡ q.stored s f + brought r (grants r (q.low s)) f
  -- the lowest is least, where a request gives it
  pub least : (r : Request) (s : S) → Kept s → Clear (q.asked r s) → Clear (q.late r s) → Least (q.stored s) r (grants r (q.low s))
  -- held counts the store
  pub counts : (s : S) → Kept s → q.held s ≡ q.stored s always
  -- clear
  pub wiped : (s : S) → Clear (q.clearing s) → Kept (q.wipe s)
  pub bare : (s : S) → Clear (q.clearing s) → (f : Element → Bool) → q.stored (q.wipe s) f ≡ 0

-- a refused request counts nothing, and gives nothing
pub none-refused : (x : Refusal) (n : ℕ) → unrefused (refusal_number x) n ≡ 0
none-refused x n = go (refusal_number x) refl
  where
    go : (i : ℕ) → refusal_number x ≡ i → unrefused i n ≡ 0
    go zero e = absurd (zero-told x (sym e))
    go (suc i) e = refl

pub none-moved : (r : Request) (x : Refusal) (n : ℕ) (f : Element → Bool) → n + given r (Err x) f ≡ n + brought r (Err x) f
none-moved Idle x n f = refl
none-moved (Push y) x n f = omega (arith, none-refused x (hit (f y)))
none-moved Pop x n f = omega (arith, none-refused x (hit (f blank)))
none-moved (Replace y) x n f = omega (arith, none-refused x (hit (f y)), none-refused x (hit (f blank)))

pub none-least : (r : Request) (x : Refusal) (held : (Element → Bool) → ℕ) → Least held r (Err x)
none-least Idle x held = tt
none-least (Push y) x held = tt
none-least Pop x held = λ z. absurd (zero-told x (sym z))
none-least (Replace y) x held = λ z. absurd (zero-told x (sym z))

-- what a pop and a replace that are not refused give and bring
pub given_out : (a : Answer) → number_of a ≡ 0 → (f : Element → Bool) → given Pop a f ≡ hit (f (element_of a))
given_out a e f = ap (λ (n : ℕ). unrefused n (hit (f (element_of a)))) e

pub brought-in : (x : Element) (a : Answer) → number_of a ≡ 0 → (f : Element → Bool) → brought (Replace x) a f ≡ hit (f x)
brought-in x a e f = ap (λ (n : ℕ). unrefused n (hit (f x))) e

-- ---- POP-THEN-PUSH, of any calls: a replace that is answered as a pop is, refused leaves what the refused pop leaves, and where it is not refused the push after the
-- pop is taken; and of each of the three the elements change as it says
module _ {S : Type 0} (calls : Request → S → Outcome S) (stored : S → (Element → Bool) → ℕ) where
  -- what is held then, with what is given, is what was held and what is brought
  abbrev pub Sums : Request → S → Type 0
  Sums r s = (f : Element → Bool) → stored (calls r s).words f + given r (calls r s).answer f ≡ stored s f + brought r (calls r s).answer f

  module _ (x : Element) (s : S) (behind : Refusal → Outcome S) (stands : (r : Request) (n : Refusal) → number_of (calls r s).answer ≡ refusal_number n → calls r s ≡ behind n)
      (same_answer : (calls (Replace x) s).answer ≡ (calls Pop s).answer) (taken : number_of (calls (Replace x) s).answer ≡ 0 → (calls (Push x) (calls Pop s).words).answer ≡ Ok None)
      (swap : Sums (Replace x) s) (pop : Sums Pop s) (push : Sums (Push x) (calls Pop s).words) where
    abbrev swapped : Answer
    swapped = (calls (Replace x) s).answer

    stand : (number_of swapped ≡ 0 → ⊥) → calls (Replace x) s ≡ calls Pop s
    stand h = go swapped refl
      where
        go : (b : Answer) → swapped ≡ b → calls (Replace x) s ≡ calls Pop s
        go (Ok None) e = absurd (h (ap number_of e))
        go (Ok (Some y)) e = absurd (h (ap number_of e))
        go (Err n) e = stands (Replace x) n (ap number_of e) ∙ sym (stands Pop n (ap number_of (sym same_answer ∙ e)))

    pop-sum : number_of swapped ≡ 0 → (f : Element → Bool) → stored (calls Pop s).words f + hit (f (element_of swapped)) ≡ stored s f
    pop-sum e f =
        let p : number_of (calls Pop s).answer ≡ 0 = ap number_of (sym same_answer) ∙ e in
        omega (arith, pop f, given_out (calls Pop s).answer p f, ap (λ (b : Answer). hit (f (element_of b))) same_answer)

    replace-sum : number_of swapped ≡ 0 → (f : Element → Bool) → stored (calls (Replace x) s).words f + hit (f (element_of swapped)) ≡ stored s f + hit (f x)
    replace-sum e f = omega (arith, swap f, given_out swapped e f, brought-in x swapped e f)

    push-sum : number_of swapped ≡ 0 → (f : Element → Bool) → stored (calls (Push x) (calls Pop s).words).words f ≡ stored (calls Pop s).words f + hit (f x)
    push-sum e f = omega (arith, push f, ap (λ (b : Answer). brought (Push x) b f) (taken e))

    pub replaces_by : PopThenPush calls stored x s
    unfolding leaves
    replaces_by =
        record {
          answer = same_answer;
          refused = stand;
          taken = taken;
          stores = λ e f. omega (arith, replace-sum e f, pop-sum e f, push-sum e f);
          swapped = λ y e f. omega (arith, replace-sum (ap number_of e) f, ap (λ (b : Answer). hit (f (element_of b))) e);
        }

-- a ruling that is not refused has passed the table
pub passed : {W : Type 0} (none : W) (g : Ruling W) (a : Table) → number_of (decided (λ x. ruling (Err x) none) a g).answer ≡ 0 → Clear a
passed {W} none g a =
    decided-either (λ x. ruling (Err x) none) (λ (g : Ruling W). number_of g.answer ≡ 0 → Clear a) a g (each-any _ (λ x z. absurd (zero-told x (sym z))) a) (λ c z. c)

-- by its tag and its limits alone a replace of an element that has a tag is answered as a pop is
pub last-alike : {W : Type 0} (op : Request → W) (x e : Element) (h c : ℕ) → untagged x ≡ false → (ruled op (last_table (Replace x) h c) (Replace x) e).answer ≡ (ruled op (last_table Pop h c) Pop e).answer
last-alike {W} op x e h c t = rw t (go (eqb h 0))
  where
    go : (b : Bool) → (cond {A = Ruling W} b (ruling (Err Empty) (op Idle)) (ruling (Ok (Some e)) (op (Replace x)))).answer ≡ (cond {A = Ruling W} b (ruling (Err Empty) (op Idle)) (ruling (Ok (Some e)) (op Pop))).answer
    go true = refl
    go false = refl

module _ {S : Type 0} {q : Queue S} {Kept : S → Type 0} (is : IsQueue q Kept) where
  -- ---- one call on a kept store
  module _ (r : Request) (s : S) (kept : Kept s) where
    -- refused, a ruling has no work
    pub sound-way : Clear (q.asked r s) → q.way_ok (rule_at q r s).op s ≡ true
    sound-way d =
        decided-either (λ x. ruling (Err x) (q.op Idle)) (λ (g : Ruling q.Op). q.way_ok g.op s ≡ true) (q.late r s) (ruling (grants r (q.low s)) (q.op r))
        (each-any _ (λ x. is.idles s kept) (q.late r s)) (λ c. is.way r s kept d c)

    -- what is so of a refused call, and of one that is let in, is so of the call
    pub kept_either : (P : Outcome S → Type 0) → Each (λ x. P (left s x)) (q.asked r s) → Each (λ x. P (left s x)) (q.late r s)
        → (Clear (q.asked r s) → Clear (q.late r s) → P (outcome (grants r (q.low s)) (q.run (q.op r) s))) → P (called q r s)
    kept_either P first last done =
        subst P (sym (decided-clear (left s) (q.opening s) _ (is.opens s kept)))
        (decided-either (left s) P (q.asked r s) _ first (λ d. rw (is.root s kept, sound-way d) (late d)))
      where
        late : Clear (q.asked r s) → P (does q (rule_at q r s) s)
        late d =
            decided-either (λ x. ruling (Err x) (q.op Idle)) (λ (g : Ruling q.Op). P (does q g s)) (q.late r s) (ruling (grants r (q.low s)) (q.op r))
            (stay (q.late r s) last) (λ c. done d c)
          where
            stay : (a : Table) → Each (λ x. P (left s x)) a → Each (λ x. P (does q (ruling (Err x) (q.op Idle)) s)) a
            stay a e = subst (λ (v : S). Each (λ x. P (outcome (Err x) v)) a) (sym (is.tested.stays s)) e

    -- the same of any refusal
    kept_any : (P : Outcome S → Type 0) → ((x : Refusal) → P (left s x)) → (Clear (q.asked r s) → Clear (q.late r s) → P (outcome (grants r (q.low s)) (q.run (q.op r) s))) → P (called q r s)
    kept_any P f = kept_either P (each-any _ f (q.asked r s)) (each-any _ f (q.late r s))

    -- a call that is let in
    pub let-in : Clear (q.asked r s) → Clear (q.late r s) → called q r s ≡ outcome (grants r (q.low s)) (q.run (q.op r) s)
    let-in d c =
        decided-clear (left s) (q.opening s) _ (is.opens s kept) ∙ decided-clear (left s) (q.asked r s) _ d
        ∙ rw (is.root s kept, sound-way d) (ap (λ (g : Ruling q.Op). does q g s) (decided-clear (λ x. ruling (Err x) (q.op Idle)) (q.late r s) _ c))

    -- .. and one that is asked nothing before the words are read: what its ruling says
    pub kept-called : Clear (q.asked r s) → called q r s ≡ does q (rule_at q r s) s
    kept-called d =
        decided-clear (left s) (q.opening s) _ (is.opens s kept) ∙ decided-clear (left s) (q.asked r s) _ d ∙ rw (is.root s kept, sound-way d)

    pub called-kept : Kept (called q r s).words
    called-kept = kept_any (λ o. Kept o.words) (λ x. kept) (is.keeps r s kept)

    pub call-sum : (f : Element → Bool) → q.stored (called q r s).words f + given r (called q r s).answer f ≡ q.stored s f + brought r (called q r s).answer f
    call-sum f =
        kept_any (λ o. q.stored o.words f + given r o.answer f ≡ q.stored s f + brought r o.answer f) (λ x. none-moved r x (q.stored s f) f) (λ d c. is.sum r s kept d c f)

    pub kept-least : Least (q.stored s) r (called q r s).answer
    kept-least = kept_any (λ o. Least (q.stored s) r o.answer) (λ x. none-least r x (q.stored s)) (is.least r s kept)

    pub kept-undamaged : Clear (q.asked r s) → Damage q r s → ⊥
    kept-undamaged d = no-damage is.tested r s (is.root s kept) (sound-way d)

    pub kept-numbers : (P : ℕ → Type 0) → P 0 → Each (λ x. P (refusal_number x)) (q.asked r s) → Each (λ x. P (refusal_number x)) (q.late r s) → P (number_of (called q r s).answer)
    kept-numbers P z first last = kept_either (λ o. P (number_of o.answer)) first last (λ d c. subst P (sym (grants-zero r (q.low s))) z)

  -- held
  pub kept-held : (s : S) → Kept s → (count_number (held_count q s) ≡ 0) × (count_of (held_count q s) ≡ q.stored s always)
  kept-held s kept =
      let e : held_count q s ≡ Ok (q.held s) = decided-clear Err (q.opening s) _ (is.opens s kept) ∙ rw (is.root s kept) in
      (ap count_number e, ap count_of e ∙ is.counts s kept)

  -- ---- lists of requests
  abbrev pub steps : Request → S → Step Answer S
  steps = stepping (called q)

  pub leaves_kept : (rs : List Request) (s : S) → Kept s → Kept (leaves steps rs s)
  leaves_kept = leaves-keep steps Kept called-kept

  pub kept-sums : (s : S) → Kept s → (rs : List Request) (f : Element → Bool)
      → q.stored (leaves steps rs s) f + all_given rs (answers steps rs s) f ≡ q.stored s f + all_brought rs (answers steps rs s) f
  kept-sums s kept rs f = all-sum steps Kept called-kept q.stored call-sum rs s kept f

  -- ---- a replace is a pop and then a push. What a queue has to show of it: a replace of an element that has a tag is refused where a pop is, and what a pop leaves
  -- has room
  pub record Swaps : Type 0 where
    pub pops : (s : S) → Clear (q.asked Pop s)
    pub alike : (x : Element) (s : S) → Kept s → (Untagged (Replace x) → ⊥) → (rule_at q (Replace x) s).answer ≡ (rule_at q Pop s).answer
    pub room : (x : Element) (s : S) → Kept s → (Untagged (Replace x) → ⊥) → Clear (q.asked (Replace x) s) → Clear (q.late Pop s)
        → Clear (q.asked (Push x) (q.run (q.op Pop) s)) × Clear (q.late (Push x) (q.run (q.op Pop) s))

  module _ (sw : Swaps) (x : Element) (tag : Untagged (Replace x) → ⊥) (s : S) (kept : Kept s) (first : Clear (q.asked (Replace x) s)) where
    -- what the replace is answered, and what the pop leaves
    abbrev a : Answer
    a = (called q (Replace x) s).answer

    abbrev vs : S
    vs = (called q Pop s).words

    popped : Kept vs
    popped = called-kept Pop s kept

    same_answer : a ≡ (called q Pop s).answer
    same_answer =
        ap (λ (o : Outcome S). o.answer) (kept-called (Replace x) s kept first) ∙ sw.alike x s kept tag
        ∙ sym (ap (λ (o : Outcome S). o.answer) (kept-called Pop s kept (sw.pops s)))

    -- the pop is let in, and so is the push on what it leaves
    pop-clear : number_of a ≡ 0 → Clear (q.late Pop s)
    pop-clear e =
        passed (q.op Idle) (ruling (grants Pop (q.low s)) (q.op Pop)) (q.late Pop s)
        (ap number_of (sym (ap (λ (o : Outcome S). o.answer) (kept-called Pop s kept (sw.pops s))) ∙ sym same_answer) ∙ e)

    push-taken : number_of a ≡ 0 → (called q (Push x) vs).answer ≡ Ok None
    push-taken e =
        let c = pop-clear e in
        let r = sw.room x s kept tag first c in
        subst (λ (v : S). (called q (Push x) v).answer ≡ Ok None) (sym (ap (λ (o : Outcome S). o.words) (let-in Pop s kept (sw.pops s) c)))
        (ap (λ (o : Outcome S). o.answer) (let-in (Push x) (q.run (q.op Pop) s) (is.keeps Pop s kept (sw.pops s) c) r.0 r.1))

    pub kept-replaces : PopThenPush (called q) q.stored x s
    kept-replaces =
        replaces_by (called q) q.stored x s (left s) (λ r. stands is.tested r s) same_answer push-taken (call-sum (Replace x) s kept) (call-sum Pop s kept) (call-sum (Push x) vs popped)

  -- .. of a queue that has no more to ask than its tag and its limits
  module _ (cap : ℕ) (last : (r : Request) (s : S) (P : Table → Type 0) → P (last_table r (q.held s) cap) → P (q.late r s)) (free : (r : Request) (s : S) → Clear (q.asked r s))
      (few : (s : S) → Kept s → q.held s ≤ cap) where
    less : (s : S) → Kept s → Clear (q.late Pop s) → q.held (q.run (q.op Pop) s) < cap
    less s kept c =
        omega (arith, is.sum Pop s kept (free Pop s) c always, is.counts (q.run (q.op Pop) s) (is.keeps Pop s kept (free Pop s) c), is.counts s kept, few s kept)

    pub last-swaps : Swaps
    last-swaps =
        record {
          pops = λ s. free Pop s;
          alike = λ x s kept tag.
              last (Replace x) s (λ a. (ruled q.op a (Replace x) (q.low s)).answer ≡ (rule_at q Pop s).answer)
              (last Pop s (λ b. (ruled q.op (last_table (Replace x) (q.held s) cap) (Replace x) (q.low s)).answer ≡ (ruled q.op b Pop (q.low s)).answer)
              (last-alike q.op x (q.low s) (q.held s) cap (means-off (untagged-means x) tag)));
          room = λ x s kept tag first c.
              (free (Push x) (q.run (q.op Pop) s), last (Push x) (q.run (q.op Pop) s) Clear (means-off (untagged-means x) tag, (lt-ltb _ cap (less s kept c), tt)));
        }

  -- ---- THE PROMISES: from a cleared store, whatever it was lent, over any list of requests
  module _ (s : S) (fits : Clear (q.clearing s)) where
    abbrev pub start : S
    start = (cleared q s).words

    start_is : start ≡ q.wipe s
    start_is = ap (λ (o : Outcome S). o.words) (decided-clear (left s) (q.clearing s) _ fits)

    pub start-kept : Kept start
    start-kept = subst Kept (sym start_is) (is.wiped s fits)

    pub start-empty : (f : Element → Bool) → q.stored start f ≡ 0
    start-empty f = ap (λ (v : S). q.stored v f) start_is ∙ is.bare s fits f

    module _ (rs : List Request) where
      abbrev pub after : S
      after = leaves steps rs start

      abbrev pub spoken : List Answer
      spoken = answers steps rs start

      pub after_kept : Kept after
      after_kept = leaves_kept rs start start-kept

      -- HOLDS: of every kind of element as many are stored as went in and have not come out
      pub holds : Holds (q.stored after) rs spoken
      holds f = omega (arith, kept-sums start start-kept rs f, start-empty f)

      -- TAGGED: no element of tag 0 is stored, and none has come out
      pub tagged : Tagged (q.stored after) rs spoken
      tagged = tagged-by steps (barred is.tested) (q.stored after) rs start holds

      -- LEAST: what comes out, of a pop or a replace, has the lowest rank of all stored before
      pub least : (r : Request) → Least (q.stored after) r (called q r after).answer
      least r = kept-least r after after_kept

      -- UNDAMAGED: no call is refused for damage
      pub undamaged : (r : Request) → Clear (q.asked r after) → Damage q r after → ⊥
      undamaged r = kept-undamaged r after after_kept

      -- HELD: the call held answers how many are stored
      pub held-says : (count_number (held_count q after) ≡ 0) × (count_of (held_count q after) ≡ q.stored after always)
      held-says = kept-held after after_kept

      -- SHAPE: what every call asks first still holds
      pub shape-kept : Clear (q.opening after)
      shape-kept = is.opens after after_kept

      -- .. so each pair as often, and each triple of rank, tag and length
      pub pairs : (e : Element) → q.stored after (same e) + all_given rs spoken (same e) ≡ all_brought rs spoken (same e)
      pairs e = holds (same e)

      pub triples : (e : Element) → q.stored after (triple e) + all_given rs spoken (triple e) ≡ all_brought rs spoken (triple e)
      triples e = holds (triple e)

      -- POP-THEN-PUSH
      pub pop-then-push : Swaps → (x : Element) → (Untagged (Replace x) → ⊥) → Clear (q.asked (Replace x) after) → PopThenPush (called q) q.stored x after
      pop-then-push sw x tag first = kept-replaces sw x tag after after_kept first
