-- The front on the words stands for a front of lists before a queue with a way, and a cycle of the one is a cycle of the other.
use Rattle.laws.specs.Prelude.{Bool, Element, Idle, List, Request, ◌+◌, ◌<◌, ◌∙◌, ◌≡◌, ◌≤◌, ap, ap₂, arith, blank, eqb, eqb-false, false, length, lt-ltb, ltb, ltb-true, not, pred, refl, subst, sym, true, true≢false, untagged, ℕ}
use Rattle.bucket_clock_model.proofs.Clock.{Same, same_at}
use Rattle.bucket_clock_model.proofs.Counts.{hit-le, many-always, placed-many}
use Rattle.bucket_clock_model.proofs.Kept.{Kept as QueueKept, rule-sent, cycle-good, cycle-kept, cycle-leaves}
use Rattle.bucket_clock_model.proofs.Last.{after_store}
use Rattle.bucket_clock_model.proofs.OneStep.{leaving-is}
use Rattle.bucket_clock_model.specs.Clock.{number_at, out_of}
use Rattle.bucket_clock_model.specs.Damage.{StagesFit}
use Rattle.std.specs.Prelude.{Option}
use Rattle.std.specs.Prelude.{None, Some}
use Rattle.bucket_clock_model.specs.Desk.{rule_now, cycle_run, waiting}
use Rattle.bucket_clock_model.specs.Lists.{arrives, at, coming, heeded, left, many, moved, newcomer, placed, taken, takes}
use Rattle.bucket_clock_model.specs.Pipe.{after}
use Rattle.bucket_model.specs.declared.Lay.{Lay}
use Rattle.bucket_model.specs.Prelude.{Laid, Store, ask, called, plain, plain_with, word}
use Rattle.promise.specs.Prelude.{always, hit, lower}
use Rattle.front_model.specs.Damage.{FrontShaped}
use Rattle.front_model.specs.Desk.{all_held, behind_count, faced, FrontDesk, front_in, front_of, front_run, leaving_now, on_way, place_at, place_count}
use Rattle.front_model.specs.Front.{held, Kept, leak_if, State, state, cycled}
use Rattle.front_model.specs.Handed.{asks, handed, leaked, stays}
use Rattle.front_model.proofs.Cycle.{cycled-kept, cycled-sum}
use Rattle.front_model.proofs.Handed.{ahead-at, arrives-any, asks-hit, asks-left, asks-taken, coming-is, coming-le, handed-fine, many-le, newcomer-handed, RankedOne, RoomFor, takes-handed}
use Rattle.front_model.proofs.Places.{front-count, front-in, front_long, front-place, past_end, places-length}

-- ---- a leak, as a list and what is handed on

leak-is : (b : Bool) (f : List Element) (w : List (Option Element)) (l : List Element) → leak_if b (state f w l) ≡ state (stays b f) w (placed (leaked b f) l)
leak-is true f w l = refl
leak-is false f w l = refl

asks-some : (t : Bool) (n : ℕ) → asks t n ≡ true → n ≡ 0 → ⊥
asks-some true n e z = eqb-false n 0 (not_on (eqb n 0) e) z
  where
    not_on : (b : Bool) → not b ≡ true → b ≡ false
    not_on true e = absurd (true≢false (sym e))
    not_on false e = refl
asks-some false n e z = true≢false (sym e)

-- ---- ranks and tags, by counting

at_low : (R : ℕ) (x : Option Element) → RankedOne R x → at always x ≤ at (lower R) x
at_low R None h = omega arith
at_low R (Some x) h = omega (arith, ap hit (lt-ltb x.rank.0 R h))

low-at : (R : ℕ) (x : Option Element) → at always x ≤ at (lower R) x → RankedOne R x
low-at R None h = tt
low-at R (Some x) h = go (ltb x.rank.0 R) refl h
  where
    go : (b : Bool) → ltb x.rank.0 R ≡ b → 1 ≤ hit b → x.rank.0 < R
    go true e h = ltb-true x.rank.0 R e
    go false e h = absurd (omega arith)

at-most : (f : Element → Bool) (x : Option Element) → at f x ≤ at always x
at-most f None = omega arith
at-most f (Some x) = hit-le (f x)

module _ (k : Lay) (laid : Laid k) where
  abbrev pub K : ℕ
  K = place_count k

  -- the state that the words stand for
  abbrev pub state_of : FrontDesk → (ℕ → List Element) → List (Option Element) → State
  state_of m ago v = state (front_in m.front) v (ago 0)

  -- what is so of every state: ranks that there are, tags, and room
  pub record Decent (t : State) : Type 0 where
    pub ranked : held always t ≤ held (lower k.ranks) t
    pub tagged : held untagged t ≡ 0
    pub room : held always t ≤ k.nodes

  pub record Faces (m : FrontDesk) : Type 0 where
    pub was : ℕ → Store
    pub ago : ℕ → List Element
    pub later : List (Option Element)
    pub shaped : FrontShaped k m
    pub behind : QueueKept k laid m.behind was ago later
    pub kept : Kept k.storeys 1 (state_of m ago later)
    pub decent : Decent (state_of m ago later)
    pub blanks : (i : ℕ) → word m.front 0 ≤ i → i < place_count k → place_at m.front i ≡ blank

  -- what a request that is let in is known for
  pub record Good (q : Request) (t : State) : Type 0 where
    pub ranked : RankedOne k.ranks (newcomer q)
    pub tagged : at untagged (newcomer q) ≡ 0
    pub room : held always (cycled (place_count k) q t) ≤ k.nodes

  module _ (m : FrontDesk) (x : Faces m) where
    abbrev S : ℕ
    S = k.storeys

    abbrev F : List Element
    F = front_in m.front

    abbrev L : List Element
    L = x.ago 0

    abbrev v : List (Option Element)
    v = x.later

    abbrev pub T : State
    T = state_of m x.ago x.later

    pub way-is : on_way k.storeys m.behind.records 0 ≡ coming always x.later
    way-is = sym (coming-is k 0 S m.behind x.behind.machine.pipe x.ago v x.behind.stands x.behind.vault.runs.shows)

    pub behind-is : behind_count k m ≡ length (x.ago 0)
    behind-is = x.behind.held ∙ x.behind.vault.runs.held

    pub front-size : length (front_in m.front) ≡ word m.front 0
    front-size = places-length m.front 0 (word m.front 0)

    -- HELD: the sum of the three
    pub all_held_lem : all_held k m ≡ held always T
    unfolding all_held
    all_held_lem = omega (arith, way-is, behind-is, front-size, many-always F, many-always L)

    -- what leaves the bucket stage is what arrives
    y-is : (z : Option Element) → leaving_now k m.behind ≡ arrives x.later z
    unfolding leaving_now cycle_run plain_with
    y-is z =
        sym (leaving-is k S Idle m.behind laid.deep) ∙ cycle-leaves k laid Idle m.behind x.was x.ago v x.behind
        ∙ arrives-any v None z (omega (arith, x.kept.long, laid.deep))

    module _ (q : Request) (good : Good q T) where
      abbrev z : Option Element
      z = taken (takes q) (x.ago 0)

      abbrev a : Bool
      a = asks (takes q) (behind_count k m)

      abbrev f : List Element
      f = placed (newcomer q) (placed (leaving_now k m.behind) (left (takes q) (front_in m.front)))

      abbrev b : Bool
      b = ltb (place_count k) (length f + (hit a + on_way (pred k.storeys) m.behind.records 0))

      abbrev u : Request
      u = handed a (leaked b f)

      a-is : asks (takes q) (behind_count k m) ≡ asks (takes q) (length (x.ago 0))
      a-is = ap (asks (takes q)) behind-is

      count-is : hit a + on_way (pred k.storeys) m.behind.records 0 ≡ coming always (moved x.later z)
      count-is =
          omega (arith, ap hit a-is, asks-hit (takes q) L, ahead-at k S m.behind x.behind.machine.pipe x.ago v z laid.deep x.behind.stands x.behind.vault.runs.shows)

      -- the state after the cycle, by what the front keeps and what leaks
      abbrev T1 : State
      T1 = state (stays b f) (moved x.later z) (placed (leaked b f) (left (takes q) (x.ago 0)))

      cycled-is : cycled (place_count k) q T ≡ T1
      unfolding cycled
      cycled-is =
          let f1 : List Element = placed (newcomer q) (placed (arrives v z) (left (takes q) F)) in
          let fe : f1 ≡ f = ap (λ (y : Option Element). placed (newcomer q) (placed y (left (takes q) F))) (sym (y-is z)) in
          let be : ltb K (length f1 + coming always (moved v z)) ≡ b = ap₂ (λ (g : List Element) (n : ℕ). ltb K (length g + n)) fe (sym count-is) in
          ap₂ (λ (g : List Element) (c : Bool). leak_if c (state g (moved v z) (left (takes q) L))) fe be ∙ leak-is b f (moved v z) (left (takes q) L)

      kept_next : Kept S 1 T1
      kept_next = subst (Kept S 1) cycled-is (cycled-kept S 1 T x.kept (omega arith) q)

      decent-next : Decent T1
      decent-next =
          let s0 = cycled-sum K always q T in
          let s1 = cycled-sum K (lower k.ranks) q T in
          let s2 = cycled-sum K untagged q T in
          subst Decent cycled-is
          (record {
            ranked = omega (arith, s0, s1, at_low k.ranks (newcomer q) good.ranked, at-most (lower k.ranks) (taken (takes q) F), x.decent.ranked);
            tagged = omega (arith, s2, good.tagged, x.decent.tagged);
            room = good.room;
          })

      -- what leaks
      leak-many : (g : Element → Bool) → many g T1.behind ≡ at g (leaked b f) + many g (left (takes q) L)
      leak-many g = placed-many g (leaked b f) (left (takes q) L)

      leak-ranked : RankedOne k.ranks (leaked b f)
      leak-ranked =
          low-at k.ranks (leaked b f)
          (omega (
            arith,
            decent-next.ranked,
            many-le (lower k.ranks) T1.front,
            coming-le (lower k.ranks) T1.way,
            leak-many always,
            leak-many (lower k.ranks),
            many-le (lower k.ranks) (left (takes q) L),
          ))

      leak-tagged : at untagged (leaked b f) ≡ 0
      leak-tagged = omega (arith, decent-next.tagged, leak-many untagged)

      leak-room : a ≡ false → RoomFor (leaked b f) (length (x.ago 0)) k.nodes
      leak-room e = go (leaked b f) refl
        where
          still : left (takes q) L ≡ L
          still = sym (asks-left (takes q) L) ∙ ap (λ (c : Bool). left c L) (sym a-is ∙ e)

          go : (y : Option Element) → leaked b f ≡ y → RoomFor y (length L) k.nodes
          go None p = tt
          go (Some y) p = omega (arith, decent-next.room, leak-many always, ap (at always) p, ap (many always) still, many-always L)

      u-fine : number_at k.ranks k.nodes u x.behind.machine.held ≡ 0
      u-fine =
          subst (λ (h : ℕ). number_at k.ranks k.nodes u h ≡ 0) (sym x.behind.vault.runs.held)
          (handed-fine k.ranks k.nodes (length L) a (leaked b f) (λ e n. asks-some (takes q) (behind_count k m) e (behind-is ∙ n)) leak-ranked leak-tagged leak-room)

      -- the queue behind takes it as it is
      u-sent : (rule_now k u m.behind).op ≡ u
      u-sent = rule-sent k u m.behind x.behind.machine.held x.behind.held ∙ ap (λ (n : ℕ). heeded n u) u-fine

      alike : Same S k.ranks laid.ranks u 0 L (plain k (ask u) L)
      alike = subst (λ (n : ℕ). Same S k.ranks laid.ranks u n L (plain k (ask u) L)) u-fine (same_at k laid u x.behind.machine x.ago v x.behind.vault.runs)

      list-is : (plain k (ask u) (x.ago 0)).next ≡ placed (leaked b f) (left (takes q) (x.ago 0))
      list-is =
          sym alike.next ∙ ap₂ (λ (t : Bool) (y : Option Element). placed y (left t L)) (takes-handed a (leaked b f)) (newcomer-handed a (leaked b f))
          ∙ ap (λ (t : Bool). placed (leaked b f) (left t L)) a-is ∙ ap (placed (leaked b f)) (asks-left (takes q) L)

      way_next : moved x.later (out_of (plain k (ask u) (x.ago 0)).said) ≡ moved x.later z
      way_next =
          ap (moved v) (sym alike.leaves ∙ ap (λ (t : Bool). taken t L) (takes-handed a (leaked b f)) ∙ ap (λ (t : Bool). taken t L) a-is ∙ asks-taken (takes q) L)

      -- the stages pass their tests
      pub hands-fit : StagesFit k 0 k.storeys (waiting (faced k q m).hands 0) m.behind
      unfolding faced
      hands-fit = subst (λ (r : Request). StagesFit k 0 S (waiting r 0) m.behind) u-sent (cycle-good k laid u m.behind x.was x.ago v x.behind).1

      abbrev m1 : FrontDesk
      m1 = front_run k q m

      list-next : front_in (front_of k (stays b f) m.front) ≡ stays b f
      list-next = front-in k (stays b f) m.front x.shaped.front (omega (arith, kept_next.fits))

      abbrev ago1 : ℕ → List Element
      ago1 = after (plain k (ask u) (x.ago 0)).next x.ago

      state-next : state_of m1 ago1 (moved x.later z) ≡ T1
      unfolding front_run faced
      state-next = ap₂ (λ (g l : List Element). state g (moved v z) l) list-next list-is

      -- a cycle keeps it
      pub faces-next : Faces (front_run k q m)
      unfolding front_run faced
      faces-next =
          let queue : QueueKept k laid (cycle_run k u m.behind).next (after_store (called k (ask u) (x.was 0)).next x.was) ago1 (moved v z) =
          subst (λ (w : List (Option Element)). QueueKept k laid (cycle_run k u m.behind).next (after_store (called k (ask u) (x.was 0)).next x.was) ago1 w) way_next
          (subst (λ (r : Request). QueueKept k laid (cycle_run k r m.behind).next (after_store (called k (ask u) (x.was 0)).next x.was) ago1 (moved v (out_of (plain k (ask u) L).said))) u-sent
          (cycle-kept k laid u m.behind x.was x.ago v x.behind)) in
          record {
            was = after_store (called k (ask u) (x.was 0)).next x.was;
            ago = ago1;
            later = moved v z;
            shaped = record { desk = queue.shaped; front = omega (arith, front_long k (stays b f) m.front x.shaped.front, x.shaped.front) };
            behind = queue;
            kept = subst (Kept S 1) (sym state-next) kept_next;
            decent = subst Decent (sym state-next) decent-next;
            blanks = λ i h l. front-place k (stays b f) m.front x.shaped.front i l ∙ past_end (stays b f) i (omega (arith, front-count k (stays b f) m.front x.shaped.front));
          }

      -- .. and its state is that of the lists
      pub state-is : state_of (front_run k q m) faces-next.ago faces-next.later ≡ cycled (place_count k) q T
      unfolding faces-next front_run faced
      state-is = state-next ∙ sym cycled-is
