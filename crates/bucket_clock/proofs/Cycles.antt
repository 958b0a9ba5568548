-- What the calls have tested and done is what the rules test and do. Each law takes what a function has found as equations.
use Rattle.laws.specs.Prelude.{Answer, BadRank, BadShape, Bool, Damaged, Element, Empty, Full, Idle, List, NoTag, Pop, Push, Replace, Request, ◌&&◌, ◌*◌, ◌+◌, ◌-◌, ◌<◌, ◌∙◌, ◌≡◌, ◌≤◌, and_left, and_right, ap, arith, asks, cond, eq-eqb, eqb, false, false≢true, le-leb, le-ltb, leb, leb-true, length, lt-leb, lt-ltb, ltb, ltb-false, ltb-true, means-and, means-leb, ne_eqb, not, not-false, not-true, pred, refl, set, set-get_or, sub-one, subst, suc, sym, true, untagged, ℕ, Result, Refusal, Ok, Err, None}
use lib.Dec.{lit≤}
use Rattle.bucket_bits.proofs.Numbers.{words-le}
use Rattle.bucket_model.proofs.Laws.{laid_of, shape-means}
use Rattle.bucket_model.specs.declared.Lay.{Lay}
use Rattle.bucket_model.specs.Prelude.{Laid, Shaped, bit_words, blank_word, depth_ok, fill, least_storeys, most_storeys, queue, shape_ok, store_words, word, words_of}
use Rattle.bucket_node.specs.Places.{Fits}
use Rattle.bucket_step.proofs.Depths.{deep_of, undeep}
use Rattle.promise.specs.Prelude.{Ruling, Step, ruling, step}
use Rattle.bucket_clock_model.specs.Clock.{held_after}
use Rattle.std.specs.Prelude.{Option}
use Rattle.std.specs.Prelude.{None}
use Rattle.bucket_clock_model.specs.declared.Waiting.{Waiting}
use Rattle.bucket_clock_model.specs.Desk.{clock_cleared, clock_held, count_words, cycle_done, cycled, cycle_ok, CycleOutcome, cycle_outcome, cycle_run, cycle_still, Desk, desk, desk_ok, fresh, held_ok, held_words, rule_now, stages, stages_ok, waiting}
use Rattle.bucket_clock_step.specs.Stages.{Ready}
use Rattle.bucket_clock.specs.declared.Ruled.{Ruled}
use Rattle.bucket_clock.specs.Rules.{Counts, HeldIs, Rules}

-- ---- what a request comes to

module _ (k : Lay) (h : ℕ) (g : Ruled) where
  abbrev No : Answer → Type 0
  No a = (g.answer ≡ a) × (g.op ≡ Idle)

  none : g.op ≡ Idle → Counts k.nodes g.op h
  none e = rw e tt

  says : (a : Answer) → No a → ruling g.answer g.op ≡ ruling a Idle
  says a n = λ i. ruling (n.0 i) (n.1 i)

  pub push-far : (x : Element) → k.ranks ≤ x.rank.0 → No (Err BadRank) → Rules k (Push x) h g
  push-far x l n = record { is = rw (le-ltb x.rank.0 k.ranks l) (says _ n); counts = none n.1 }

  pub push-bare : (x : Element) (t : Bool) → x.rank.0 < k.ranks → t ≡ untagged x → t ≡ true → No (Err NoTag) → Rules k (Push x) h g
  push-bare x t l e y n = record { is = rw (lt-ltb x.rank.0 k.ranks l, sym e ∙ y) (says _ n); counts = none n.1 }

  pub push-full : (x : Element) (t : Bool) → x.rank.0 < k.ranks → t ≡ untagged x → t ≡ false → k.nodes ≤ h → No (Err Full) → Rules k (Push x) h g
  push-full x t l e y f n = record { is = rw (lt-ltb x.rank.0 k.ranks l, sym e ∙ y, le-ltb h k.nodes f) (says _ n); counts = none n.1 }

  pub pop-none : h ≡ 0 → No (Err Empty) → Rules k Pop h g
  pop-none e n = record { is = rw (eq-eqb h 0 e) (says _ n); counts = none n.1 }

  pub replace-far : (x : Element) → k.ranks ≤ x.rank.0 → No (Err BadRank) → Rules k (Replace x) h g
  replace-far x l n = record { is = rw (le-ltb x.rank.0 k.ranks l) (says _ n); counts = none n.1 }

  pub replace-bare : (x : Element) (t : Bool) → x.rank.0 < k.ranks → t ≡ untagged x → t ≡ true → No (Err NoTag) → Rules k (Replace x) h g
  replace-bare x t l e y n = record { is = rw (lt-ltb x.rank.0 k.ranks l, sym e ∙ y) (says _ n); counts = none n.1 }

  pub replace-none : (x : Element) (t : Bool) → x.rank.0 < k.ranks → t ≡ untagged x → t ≡ false → h ≡ 0 → No (Err Empty) → Rules k (Replace x) h g
  replace-none x t l e y f n = record { is = rw (lt-ltb x.rank.0 k.ranks l, sym e ∙ y, eq-eqb h 0 f) (says _ n); counts = none n.1 }

abbrev goes : Request → Ruled
goes q = record { answer = (Ok None); op = q }

module _ (k : Lay) (h : ℕ) where
  pub idle-goes : Rules k Idle h (goes Idle)
  idle-goes = record { is = refl; counts = tt }

  pub push_goes : (x : Element) (t : Bool) → x.rank.0 < k.ranks → t ≡ untagged x → t ≡ false → h < k.nodes → Rules k (Push x) h (goes (Push x))
  push_goes x t l e y f = record { is = rw (lt-ltb x.rank.0 k.ranks l, sym e ∙ y, lt-ltb h k.nodes f) refl; counts = f }

  pub pop_goes : (h ≡ 0 → ⊥) → Rules k Pop h (goes Pop)
  pop_goes n = record { is = rw (ne_eqb h 0 n) refl; counts = omega (arith, n) }

  pub replace-goes : (x : Element) (t : Bool) → x.rank.0 < k.ranks → t ≡ untagged x → t ≡ false → (h ≡ 0 → ⊥) → Rules k (Replace x) h (goes (Replace x))
  replace-goes x t l e y n = record { is = rw (lt-ltb x.rank.0 k.ranks l, sym e ∙ y, ne_eqb h 0 n) refl; counts = tt }

pub rules-as : (k : Lay) (q p : Request) (h : ℕ) (g : Ruled) → q ≡ p → Rules k p h g → Rules k q h g
rules-as k q p h g e r = rw e r

-- ---- held

pub after_same : (op : Request) (h : ℕ) → op ≡ Idle → h ≡ held_after op h
after_same op h e = rw e refl

pub after_push : (op : Request) (x : Element) (h : ℕ) → op ≡ Push x → h + 1 ≡ held_after op h
after_push op x h e = rw e (omega arith)

pub after-pop : (op : Request) (h : ℕ) → op ≡ Pop → h - 1 ≡ held_after op h
after-pop op h e = rw e (sub-one h)

pub after-swap : (op : Request) (x : Element) (h : ℕ) → op ≡ Replace x → h ≡ held_after op h
after-swap op x h e = rw e refl

pub push-counts : (n : ℕ) (op : Request) (x : Element) (h : ℕ) → op ≡ Push x → Counts n op h → h < n
push-counts n op x h e c = subst (λ (q : Request). Counts n q h) e c

pub pop-counts : (n : ℕ) (op : Request) (h : ℕ) → op ≡ Pop → Counts n op h → 0 < h
pop-counts n op h e c = subst (λ (q : Request). Counts n q h) e c

written : (k : Lay) (op : Request) (w : List ℕ) → set w k.held (held_after op (word w k.held)) ≡ held_words k op w
written k Idle w = set-get_or w k.held 0
written k (Push x) w = refl
written k Pop w = refl
written k (Replace x) w = set-get_or w k.held 0

-- ---- a cycle

module _ (k : Lay) (q : Request) (b c w : List ℕ) (rs : List Waiting) (h : ℕ) (he : h ≡ word w k.held) (g : Ruled) (r : Rules k q h g) where
  abbrev m : Desk
  m = desk b c w rs

  ruled-is : ruling g.answer g.op ≡ rule_now k q m
  ruled-is = (subst (λ (i : ℕ). Rules k q i g) he r).is

  abbrev o : CycleOutcome
  o = cond (cycle_ok k q m) (cycle_done k (rule_now k q m) m) (cycle_still m Damaged)

  held-bad : (q : Request) → asks q ≡ true → k.nodes < h → held_ok k q w ≡ false
  unfolding asks
  held-bad Idle a l = absurd (false≢true a)
  held-bad (Push x) a l = rw (← he) (lt-leb h k.nodes l)
  held-bad Pop a l = rw (← he) (lt-leb h k.nodes l)
  held-bad (Replace x) a l = rw (← he) (lt-leb h k.nodes l)

  held-good : (q : Request) → (asks q && ltb k.nodes h) ≡ false → held_ok k q w ≡ true
  unfolding asks
  held-good Idle e = refl
  held-good (Push x) e = rw (← he) (le-leb h k.nodes (ltb-false k.nodes h e))
  held-good Pop e = rw (← he) (le-leb h k.nodes (ltb-false k.nodes h e))
  held-good (Replace x) e = rw (← he) (le-leb h k.nodes (ltb-false k.nodes h e))

  still : (a : Answer) (y : Option Element) (rs' : List Waiting) → (a ≡ Err Damaged) × (y ≡ None) × (rs' ≡ rs) → cycle_outcome a y (desk b c w rs') ≡ cycle_still m Damaged
  still a y rs' n = λ i. cycle_outcome (n.0 i) (n.1 i) (desk b c w (n.2 i))

  pub torn-held : (t : Bool) (a : Answer) (y : Option Element) (rs' : List Waiting) → t ≡ asks q → (t && ltb k.nodes h) ≡ true → (a ≡ Err Damaged) × (y ≡ None) × (rs' ≡ rs) → cycle_outcome a y (desk b c w rs') ≡ o
  unfolding cycle_ok
  torn-held t a y rs' e n s =
      rw (held-bad q (sym e ∙ and_left t (ltb k.nodes h) n) (ltb-true k.nodes h (and_right t (ltb k.nodes h) n))) (still a y rs' s)

  module _ (t : Bool) (te : t ≡ asks q) (tn : (t && ltb k.nodes h) ≡ false) where
    fine : held_ok k q w ≡ true
    fine = held-good q (ap (λ (t : Bool). t && ltb k.nodes h) (sym te) ∙ tn)

    op-is : g.op ≡ (rule_now k q m).op
    op-is = ap (λ (x : Ruling Request). x.op) ruled-is

    ok-is : (u : Bool) → u ≡ stages_ok k 0 k.storeys (waiting g.op 0) m → cycle_ok k q m ≡ u
    unfolding cycle_ok
    ok-is u e = rw (fine, e, op-is) refl

    pub torn-stages : (u : Bool) (a : Answer) (y : Option Element) (rs' : List Waiting) → u ≡ stages_ok k 0 k.storeys (waiting g.op 0) m → u ≡ false
        → (a ≡ Err Damaged) × (y ≡ None) × (rs' ≡ rs) → cycle_outcome a y (desk b c w rs') ≡ o
    torn-stages u a y rs' e n s = rw (ok-is u e ∙ n) (still a y rs' s)

    -- all tests have passed, and all stages have worked
    pub runs : (u : Bool) → u ≡ stages_ok k 0 k.storeys (waiting g.op 0) m → u ≡ true → (y : Option Element) (b1 c1 w1 w2 : List ℕ) (rs1 : List Waiting) (v : ℕ)
        → step y (desk b1 c1 w1 rs1) ≡ stages k 0 k.storeys (waiting g.op 0) m → word w1 k.held ≡ word w k.held → v ≡ held_after g.op h → w2 ≡ set w1 k.held v
        → cycle_outcome g.answer y (desk b1 c1 w2 rs1) ≡ o
    unfolding cycle_run
    runs u e n y b1 c1 w1 w2 rs1 v z same f x =
        let s : w2 ≡ held_words k g.op w1 = x ∙ ap (set w1 k.held) (f ∙ ap (held_after g.op) (he ∙ sym same)) ∙ written k g.op w1 in
        rw (ok-is u e ∙ n) (ap (λ (w2 : List ℕ). cycle_outcome g.answer y (desk b1 c1 w2 rs1)) s ∙ ap (λ (t : Step (Option Element) Desk). cycle_outcome g.answer t.said (desk t.next.bits t.next.counts (held_words k g.op t.next.words) t.next.records)) z ∙ as-ruled)
      where
        as-ruled : cycle_outcome g.answer (cycle_run k g.op m).said (cycle_run k g.op m).next ≡ cycle_done k (rule_now k q m) m
        as-ruled = ap (λ (x : Ruling Request). cycle_done k x m) ruled-is

-- ---- the shape

abbrev lends : ℕ → ℕ → List ℕ → List ℕ → List ℕ → Bool
lends d n b c w = shape_ok (queue d n) (length b) (length w) && leb (count_words (queue d n)) (length c)

few_bits : (d n : ℕ) → least_storeys ≤ d → d ≤ most_storeys → bit_words (queue d n) ≤ 4161
few_bits d n l h = let a = words-le d most_storeys h in let b : words_of most_storeys ≤ 4161 = lit≤ tt in omega arith

pub few : (d n : ℕ) (k : Lay) → least_storeys ≤ d → d ≤ most_storeys → k ≡ queue d n → bit_words k ≤ 4161
few d n k l h e = rw e (few_bits d n l h)

pub lent-shallow : (d n : ℕ) (b c w : List ℕ) → depth_ok d ≡ false → false ≡ lends d n b c w
lent-shallow d n b c w e = rw (undeep d n b w e) refl

pub lent_is : (d n : ℕ) (b c w : List ℕ) (k : Lay) (t : Bool) → k ≡ queue d n → t ≡ shape_ok k (length b) (length w) → (t && leb (64 * (k.bits + k.tower)) (length c)) ≡ lends d n b c w
lent_is d n b c w k t e f = ap (λ (t : Bool). t && leb (64 * (k.bits + k.tower)) (length c)) f ∙ ap (λ (k : Lay). shape_ok k (length b) (length w) && leb (count_words k) (length c)) e

module _ (d n : ℕ) (b c w : List ℕ) (t : Bool) (e : t ≡ lends d n b c w) where
  abbrev q : Lay
  q = queue d n

  module _ (yes : t ≡ true) where
    all : (shape_ok (queue d n) (length b) (length w) && leb (count_words (queue d n)) (length c)) ≡ true
    all = sym e ∙ yes

    shaped : Shaped (queue d n) b w
    shaped = (shape-means (queue d n) b w).says (and_left _ (leb (count_words (queue d n)) (length c)) all)

    pub depth : (least_storeys ≤ d) × (d ≤ most_storeys)
    depth = deep_of d (depth-of (shape_ok (queue d n) (length b) (length w)) refl)
      where
        depth-of : (t : Bool) → shape_ok (queue d n) (length b) (length w) ≡ t → depth_ok d ≡ true
        depth-of true f = go (depth_ok d) refl
          where
            go : (u : Bool) → depth_ok d ≡ u → depth_ok d ≡ true
            go true g = g
            go false g = absurd (false≢true (sym (undeep d n b w g) ∙ f))
        depth-of false f = absurd (false≢true (sym f ∙ and_left _ (leb (count_words (queue d n)) (length c)) all))

    ready_at : Ready (queue d n) (length b) (length c) (length w)
    ready_at =
        let counts = leb-true (count_words (queue d n)) (length c) (and_right (shape_ok (queue d n) (length b) (length w)) (leb (count_words (queue d n)) (length c)) all) in
        record { laid = laid_of d n (omega (arith, depth)); bits = shaped.bits; counts = counts; words = shaped.words; records = depth.1; nodes = shaped.high }

    pub ready : (k : Lay) → k ≡ queue d n → Ready k (length b) (length c) (length w)
    ready k f = rw f ready_at

    desk-ok : (rs : List Waiting) → desk_ok (queue d n) (desk b c w rs) ≡ true
    unfolding desk_ok
    desk-ok rs = all

    pub cycled-is : (r : Request) (rs : List Waiting) (k : Lay) (x : CycleOutcome) → k ≡ queue d n
        → x ≡ cond (cycle_ok k r (desk b c w rs)) (cycle_done k (rule_now k r (desk b c w rs)) (desk b c w rs)) (cycle_still (desk b c w rs) Damaged) → x ≡ cycled (queue d n) r (desk b c w rs)
    unfolding cycled
    cycled-is r rs k x f z = z ∙ ap (λ (k : Lay). cond (cycle_ok k r (desk b c w rs)) (cycle_done k (rule_now k r (desk b c w rs)) (desk b c w rs)) (cycle_still (desk b c w rs) Damaged)) f ∙ rw (desk-ok rs) refl

    pub cleared-is : (rs rs1 : List Waiting) (k : Lay) (b1 c1 w1 : List ℕ) → k ≡ queue d n → b1 ≡ fill (λ j. 0) (k.bits + k.tower) b → c1 ≡ fill (λ j. 0) (64 * (k.bits + k.tower)) c → w1 ≡ fill (blank_word k) (store_words k) w → rs1 ≡ fresh
        → cycle_outcome (Ok None) None (desk b1 c1 w1 rs1) ≡ clock_cleared (queue d n) (desk b c w rs)
    unfolding clock_cleared
    cleared-is rs rs1 k b1 c1 w1 f x y z v =
        (λ i. cycle_outcome (Ok None) None (desk (x i) (y i) (z i) (v i)))
        ∙ ap (λ (k : Lay). cycle_outcome (Ok None) None (desk (fill (λ j. 0) (k.bits + k.tower) b) (fill (λ j. 0) (64 * (k.bits + k.tower)) c) (fill (blank_word k) (store_words k) w) fresh)) f
        ∙ rw (desk-ok rs) refl

    pub held-torn : (k : Lay) (h : ℕ) → k ≡ queue d n → h ≡ word w k.held → k.nodes < h → HeldIs (queue d n) b c w (Err Damaged)
    unfolding clock_held
    held-torn k h f g l rs =
        let p : leb (word w (queue d n).held) (queue d n).nodes ≡ false = ap (λ (k : Lay). leb (word w k.held) k.nodes) (sym f) ∙ ap (λ (h : ℕ). leb h k.nodes) (sym g) ∙ lt-leb h k.nodes l in
        rw (desk-ok rs, p) refl

    pub held-told : (k : Lay) (h : ℕ) → k ≡ queue d n → h ≡ word w k.held → h ≤ k.nodes → HeldIs (queue d n) b c w (Ok h)
    unfolding clock_held
    held-told k h f g l rs =
        let x : h ≡ word w (queue d n).held = g ∙ ap (λ (k : Lay). word w k.held) f in
        let p : leb (word w (queue d n).held) (queue d n).nodes ≡ true = ap (λ (k : Lay). leb (word w k.held) k.nodes) (sym f) ∙ ap (λ (h : ℕ). leb h k.nodes) (sym g) ∙ le-leb h k.nodes l in
        rw (desk-ok rs, p, ← x) refl

  module _ (none : t ≡ false) where
    desk-bad : (rs : List Waiting) → desk_ok (queue d n) (desk b c w rs) ≡ false
    unfolding desk_ok
    desk-bad rs = sym e ∙ none

    stands : (rs rs' : List Waiting) (a : Answer) (y : Option Element) → (a ≡ Err BadShape) × (y ≡ None) × (rs' ≡ rs) → cycle_outcome a y (desk b c w rs') ≡ cycle_still (desk b c w rs) BadShape
    stands rs rs' a y n = λ i. cycle_outcome (n.0 i) (n.1 i) (desk b c w (n.2 i))

    pub cycled-bad : (r : Request) (rs rs' : List Waiting) (a : Answer) (y : Option Element) → (a ≡ Err BadShape) × (y ≡ None) × (rs' ≡ rs) → cycle_outcome a y (desk b c w rs') ≡ cycled (queue d n) r (desk b c w rs)
    unfolding cycled
    cycled-bad r rs rs' a y s = rw (desk-bad rs) (stands rs rs' a y s)

    pub cleared-bad : (rs rs' : List Waiting) (a : Answer) (y : Option Element) → (a ≡ Err BadShape) × (y ≡ None) × (rs' ≡ rs) → cycle_outcome a y (desk b c w rs') ≡ clock_cleared (queue d n) (desk b c w rs)
    unfolding clock_cleared
    cleared-bad rs rs' a y s = rw (desk-bad rs) (stands rs rs' a y s)

    pub held-bad-shape : HeldIs (queue d n) b c w (Err BadShape)
    unfolding clock_held
    held-bad-shape rs = rw (desk-bad rs) refl

pub ready-fits : (k : Lay) (B C : ℕ) (w : List ℕ) → Ready k B C (length w) → Fits k w
ready-fits k B C w ready = record { laid = ready.laid; words = ready.words }
