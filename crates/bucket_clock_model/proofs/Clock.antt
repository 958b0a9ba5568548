-- Cycle by cycle: the numbers of one at a time, and its answers as many cycles later as there are storeys.
use Rattle.laws.specs.Prelude.{All, BadRank, Bool, Element, Empty, Full, Idle, List, NoTag, Pop, Push, Replace, Request, [], ◌*◌, ◌++◌, ◌+◌, ◌-◌, ◌<◌, ◌^◌, ◌∙◌, ◌∷◌, ◌≡◌, ◌≤◌, ap, ap₂, arith, cond, false, length, ltb, ltb-true, map, ne_eqb, not, number_of, pow-suc, refl, replicate, subst, suc, sym, true, untagged, zero, ℕ, Ok, None, Some, Err}
use native.Mathlib.Decide.{dec_le}
use native.Mathlib.Nat.{mul_assoc}
use mathlib.Core.List.{append_assoc, append-nil}
use Rattle.bucket_model.specs.declared.Lay.{Lay}
use Rattle.bucket_model.specs.Prelude.{Laid, Step, answered, ask, insert, of_rank, plain, plain_after, plain_says, plain_with, said_number, step}
use Rattle.bucket_model.proofs.Laws.{insert_all, insert-length}
use Rattle.promise.specs.Prelude.{answers, leaves}
use Rattle.std.specs.Prelude.{Option}
use Rattle.std.specs.Prelude.{None, Some}
use Rattle.bucket_clock_model.specs.Lists.{arrives, done, heeded, left, many, moved, newcomer, placed, taken, takes}
use Rattle.bucket_clock_model.specs.Pipe.{after, below, buckets_of, counts_at, Fit, fresh_pipe, lead, Shows}
use Rattle.bucket_clock_model.specs.Clock.{clocked, fresh_machine, held_after, history, Machine, number_at, out_of, Runs, sent}
use Rattle.bucket_clock_model.proofs.Counts.{left-sorted, placed-sorted}
use Rattle.bucket_clock_model.proofs.Pipe.{buckets-at, counts-at, Followed, follows}

-- ---- a rank that there is has no digit before the first

pub lead-lt : (d m r : ℕ) → r < m * 64 ^ d → lead d r < m
unfolding lead
lead-lt zero m r h = omega (arith, h)
lead-lt (suc d) m r h =
    let e : 64 ^ suc d ≡ 64 * 64 ^ d = omega (arith, pow-suc 64 d) in
    let i : lead d r < m * 64 = lead-lt d (m * 64) r (rw (e, ← mul_assoc m 64 (64 ^ d)) at h) in
    omega arith

pub lead-top : (d r : ℕ) → r < 64 ^ d → lead d r ≡ 0
lead-top d r h = let i : lead d r < 1 = lead-lt d 1 r (omega arith) in omega arith

-- ---- a request and the call of one at a time

abbrev pub Ranked : ℕ → Option Element → Type 0
Ranked ranks None = Unit {0}
Ranked ranks (Some x) = x.rank.0 < ranks

pub placed-all : (ranks : ℕ) (x : Option Element) (l : List Element) → Ranked ranks x → All (λ y. y.rank.0 < ranks) l → All (λ y. y.rank.0 < ranks) (placed x l)
placed-all ranks None l p a = a
placed-all ranks (Some x) l p a = insert_all (λ y. y.rank.0 < ranks) x l p a

pub left-all : (ranks : ℕ) (t : Bool) (l : List Element) → All (λ y. y.rank.0 < ranks) l → All (λ y. y.rank.0 < ranks) (left t l)
left-all ranks false l a = a
left-all ranks true [] a = a
left-all ranks true (x ∷ l) a = a.1

module _ (d R : ℕ) (there : R ≡ 64 ^ d) where
  -- a request that is answered the number a, and the call x: the number, the list after it, and what leaves; and that it may be sent into the pipeline
  pub record Same (q : Request) (a : ℕ) (l : List Element) (x : Step (List Element)) : Type 0 where
    pub number : a ≡ said_number x.said
    pub next : done (heeded a q) l ≡ x.next
    pub leaves : taken (takes (heeded a q)) l ≡ out_of x.said
    pub fit : Fit d (takes (heeded a q)) 0 l
    pub ranked : Ranked R (newcomer (heeded a q))
    pub count : held_after (heeded a q) (length l) ≡ length (done (heeded a q) l)

  same-push : (x : Element) (l : List Element) (b u r : Bool) → ltb x.rank.0 R ≡ b
      → Same (Push x) (number_of (cond b (cond u (Err NoTag) (cond r (Ok None) (Err Full))) (Err BadRank))) l (cond b (cond (not u) (cond r (step (answered (Ok None)) (insert x l)) (step (answered (Err Full)) l)) (step (answered (Err NoTag)) l)) (step (answered (Err BadRank)) l))
  same-push x l true false true e = record { number = refl; next = refl; leaves = refl; fit = tt; ranked = ltb-true x.rank.0 R e; count = sym (insert-length x l) }
  same-push x l true false false e = record { number = refl; next = refl; leaves = refl; fit = tt; ranked = tt; count = refl }
  same-push x l true true r e = record { number = refl; next = refl; leaves = refl; fit = tt; ranked = tt; count = refl }
  same-push x l false u r e = record { number = refl; next = refl; leaves = refl; fit = tt; ranked = tt; count = refl }

  same-swap : (x y : Element) (l : List Element) (b u : Bool) → ltb x.rank.0 R ≡ b → y.rank.0 < R
      → Same (Replace x) (number_of (cond b (cond u (Err NoTag) (Ok None)) (Err BadRank))) (y ∷ l) (cond b (cond (not u) (step (answered (Ok (Some y))) (insert x l)) (step (answered (Err NoTag)) (y ∷ l))) (step (answered (Err BadRank)) (y ∷ l)))
  same-swap x y l true false e h = record { number = refl; next = refl; leaves = refl; fit = lead-top d y.rank.0 (omega (arith, there)); ranked = ltb-true x.rank.0 R e; count = sym (insert-length x l) }
  same-swap x y l true true e h = record { number = refl; next = refl; leaves = refl; fit = tt; ranked = tt; count = refl }
  same-swap x y l false u e h = record { number = refl; next = refl; leaves = refl; fit = tt; ranked = tt; count = refl }

  same_none : (x : Element) (b u : Bool)
      → Same (Replace x) (number_of (cond b (cond u (Err NoTag) (Err Empty)) (Err BadRank))) [] (cond b (cond (not u) (step (answered (Err Empty)) []) (step (answered (Err NoTag)) [])) (step (answered (Err BadRank)) []))
  same_none x true true = record { number = refl; next = refl; leaves = refl; fit = tt; ranked = tt; count = refl }
  same_none x true false = record { number = refl; next = refl; leaves = refl; fit = tt; ranked = tt; count = refl }
  same_none x false u = record { number = refl; next = refl; leaves = refl; fit = tt; ranked = tt; count = refl }

  pub same-call : (n : ℕ) (q : Request) (l : List Element) → All (λ y. y.rank.0 < R) l → Same q (number_at R n q (length l)) l (plain_with R (ltb (length l) n) (ask q) l)
  unfolding plain_with
  same-call n Idle l a = record { number = refl; next = refl; leaves = refl; fit = tt; ranked = tt; count = refl }
  same-call n (Push x) l a = same-push x l (ltb x.rank.0 R) (untagged x) (ltb (length l) n) refl
  same-call n Pop [] a = record { number = refl; next = refl; leaves = refl; fit = tt; ranked = tt; count = refl }
  same-call n Pop (y ∷ l) a =
      rw (ne_eqb (suc (length l)) 0 (λ e. omega arith)) (record { number = refl; next = refl; leaves = refl; fit = lead-top d y.rank.0 (omega (arith, a.0, there)); ranked = tt; count = refl })
  same-call n (Replace x) [] a = same_none x (ltb x.rank.0 R) (untagged x)
  same-call n (Replace x) (y ∷ l) a = rw (ne_eqb (suc (length l)) 0 (λ e. omega arith)) (same-swap x y l (ltb x.rank.0 R) (untagged x) refl a.0)

-- what arrives, and then what is still on the way, is what was on the way, and then what has joined it
pub arrives-moved : (v : List (Option Element)) (z : Option Element) → arrives v z ∷ moved v z ≡ v ++ z ∷ []
arrives-moved [] z = refl
arrives-moved (y ∷ v) z = refl

-- ---- one cycle

pub idles : (n : ℕ) → length (replicate n Idle) ≡ n
idles zero = refl
idles (suc n) = ap suc (idles n)

module _ (k : Lay) (laid : Laid k) where
  pub record Cycled (q : Request) (m : Machine k.storeys) (ago : ℕ → List Element) (v : List (Option Element)) : Type 0 where
    pub number : (clocked k q m).said.number ≡ said_number (plain k (ask q) (ago 0)).said
    pub leaves : (clocked k q m).said.leaves ≡ arrives v (out_of (plain k (ask q) (ago 0)).said)
    pub runs : Runs k (clocked k q m).next (after (plain k (ask q) (ago 0)).next ago) (moved v (out_of (plain k (ask q) (ago 0)).said))

  -- the request that is sent into the pipeline fits it
  pub same_at : (q : Request) (m : Machine k.storeys) (ago : ℕ → List Element) (v : List (Option Element)) → Runs k m ago v → Same k.storeys k.ranks laid.ranks q (number_at k.ranks k.nodes q m.held) (ago 0) (plain k (ask q) (ago 0))
  same_at q m ago v r =
      subst (λ (h : ℕ). Same k.storeys k.ranks laid.ranks q (number_at k.ranks k.nodes q h) (ago 0) (plain k (ask q) (ago 0))) (sym r.held) (same-call k.storeys k.ranks laid.ranks k.nodes q (ago 0) r.ranked)

  pub cycles : (q : Request) (m : Machine k.storeys) (ago : ℕ → List Element) (v : List (Option Element)) → Runs k m ago v → Cycled q m ago v
  unfolding clocked
  cycles q m ago v r =
      let d : ℕ = k.storeys in
      let l : List Element = ago 0 in
      let u : Request = sent k q m.held in
      let a : Same d k.ranks laid.ranks q (number_at k.ranks k.nodes q m.held) l (plain k (ask q) l) = same_at q m ago v r in
      let f : Followed d u 0 m.pipe ago v = follows d u 0 m.pipe ago v r.sorted a.fit r.shows in
      let z : Runs k (clocked k q m).next (after (done u l) ago) (moved v (taken (takes u) l)) =
      record {
        held = ap (held_after u) r.held ∙ a.count;
        sorted = placed-sorted (newcomer u) (left (takes u) l) (left-sorted (takes u) l r.sorted);
        ranked = placed-all k.ranks (newcomer u) (left (takes u) l) a.ranked (left-all k.ranks (takes u) l r.ranked);
        shows = f.shows;
      } in
      record {
        number = a.number;
        leaves = f.leaves ∙ ap (arrives v) a.leaves;
        runs = subst (λ (x : Option Element). Runs k (clocked k q m).next (after (plain k (ask q) l).next ago) (moved v x)) a.leaves (subst (λ (y : List Element). Runs k (clocked k q m).next (after y ago) (moved v (taken (takes u) l))) a.next z);
      }

  -- ---- any list of cycles

  -- the numbers of one at a time; and what leaves, followed by what will leave, is what was still to leave, followed by all that one at a time gives out
  pub record Ran (qs : List Request) (m : Machine k.storeys) (ago : ℕ → List Element) (v : List (Option Element)) : Type 0 where
    pub numbers : map (λ h. h.number) (answers (clocked k) qs m) ≡ map said_number (plain_says k (map ask qs) (ago 0))
    pub later : List (Option Element)
    pub left : map (λ h. h.leaves) (answers (clocked k) qs m) ++ later ≡ v ++ map out_of (plain_says k (map ask qs) (ago 0))
    pub runs : Runs k (leaves (clocked k) qs m) (history k qs ago) later

  pub runs : (qs : List Request) (m : Machine k.storeys) (ago : ℕ → List Element) (v : List (Option Element)) → Runs k m ago v → Ran qs m ago v
  unfolding answers leaves plain_says history
  runs [] m ago v r = record { numbers = refl; later = v; left = sym (append-nil v); runs = r }
  runs (q ∷ qs) m ago v r =
      let c : Cycled q m ago v = cycles q m ago v r in
      let x : Step (List Element) = plain k (ask q) (ago 0) in
      let o : Option Element = out_of x.said in
      let t : Ran qs (clocked k q m).next (after x.next ago) (moved v o) = runs qs (clocked k q m).next (after x.next ago) (moved v o) c.runs in
      let zs : List (Option Element) = map out_of (plain_says k (map ask qs) x.next) in
      record {
        numbers = ap₂ (λ (a : ℕ) (as' : List ℕ). a ∷ as') c.number t.numbers;
        later = t.later;
        left = ap₂ (λ (a : Option Element) (as' : List (Option Element)). a ∷ as') c.leaves t.left ∙ ap (λ (w : List (Option Element)). w ++ zs) (arrives-moved v o) ∙ append_assoc v (o ∷ []) zs;
        runs = t.runs;
      }

  -- ---- the lists of earlier cycles

  pub history-append : (as' bs : List Request) (ago : ℕ → List Element) → history k (as' ++ bs) ago ≡ history k bs (history k as' ago)
  unfolding history
  history-append [] bs ago = refl
  history-append (a ∷ as') bs ago = history-append as' bs (after (plain k (ask a) (ago 0)).next ago)

  history-ago : (bs : List Request) (ago : ℕ → List Element) (i : ℕ) → history k bs ago (length bs + i) ≡ ago i
  unfolding history
  history-ago [] ago i = ap ago (omega arith)
  history-ago (b ∷ bs) ago i = let e : suc (length bs) + i ≡ length bs + suc i = omega arith in rw e (history-ago bs (after (plain k (ask b) (ago 0)).next ago) (suc i))

  pub history-now : (as' : List Request) (ago : ℕ → List Element) → history k as' ago 0 ≡ plain_after k (map ask as') (ago 0)
  unfolding history plain_after
  history-now [] ago = refl
  history-now (a ∷ as') ago = history-now as' (after (plain k (ask a) (ago 0)).next ago)

  -- the list of so many cycles ago is that of the requests before
  pub history-at : (as' bs : List Request) (ago : ℕ → List Element) → history k (as' ++ bs) ago (length bs) ≡ plain_after k (map ask as') (ago 0)
  history-at as' bs ago =
      let e : length bs + 0 ≡ length bs = omega arith in
      ap (λ (h : ℕ → List Element). h (length bs)) (history-append as' bs ago)
      ∙ (rw e at (history-ago bs (history k as' ago) 0)) ∙ history-now as' ago

  -- through idle cycles the list stands
  pub idle-history : (n : ℕ) (ago : ℕ → List Element) (i : ℕ) → i ≤ n → history k (replicate n Idle) ago i ≡ ago 0
  unfolding history plain_with
  idle-history zero ago zero h = refl
  idle-history zero ago (suc i) h = absurd (omega arith)
  idle-history (suc n) ago i h = elim (dec_le i n) [
    | yes l ↦ idle-history n (after (ago 0) ago) i l
    | no l ↦ let e : length (replicate n Idle) + 1 ≡ i = omega (arith, idles n) in (rw e at (history-ago (replicate n Idle) (after (ago 0) ago) 1))
  ]

-- ---- from nothing held

none_below : (d j : ℕ) → below d [] j ≡ 0
unfolding many
none_below d j = refl

none_of : (r : ℕ) → of_rank r [] ≡ []
unfolding of_rank
none_of r = refl

nones : (d : ℕ) → ◌≡◌ {A = List (Option Element)} (replicate (suc d) None) (replicate d None ++ None ∷ [])
nones zero = refl
nones (suc d) = ap (λ (w : List (Option Element)). None ∷ w) (nones d)

pub fresh-shows : (d : ℕ) → Shows d (fresh_pipe d) (λ i. []) (replicate d None)
fresh-shows zero = ((λ r. sym (none_of r)), refl)
fresh-shows (suc d) =
    record {
      counts = λ j. sym (none_below d j);
      older = replicate d None;
      sorted = tt;
      fit = tt;
      is = refl;
      way = nones d;
      rest = fresh-shows d;
    }

pub fresh-runs : (k : Lay) → Runs k (fresh_machine k.storeys) (λ i. []) (replicate k.storeys None)
fresh-runs k = record { held = refl; sorted = tt; ranked = tt; shows = fresh-shows k.storeys }

-- CLOCK: from a cleared machine, any list of cycles: the numbers are those of one at a time, and what leaves in cycle t + S is its answer to the request
-- of cycle t, S the storeys
pub clock : (k : Lay) (laid : Laid k) (qs : List Request) → Ran k laid qs (fresh_machine k.storeys) (λ i. []) (replicate k.storeys None)
clock k laid qs = runs k laid qs (fresh_machine k.storeys) (λ i. []) (replicate k.storeys None) (fresh-runs k)

-- IN-FLIGHT: after any list of cycles, stage i + 1 has counted all but the last i requests, and the buckets hold all but the last S
pub in-flight : (k : Lay) (laid : Laid k) (as' bs : List Request) → length bs < k.storeys → (j : ℕ)
    → counts_at k.storeys (leaves (clocked k) (as' ++ bs) (fresh_machine k.storeys)).pipe (length bs) j ≡ below (k.storeys - suc (length bs)) (plain_after k (map ask as') []) j
in-flight k laid as' bs h j =
    let c = clock k laid (as' ++ bs) in
    counts-at k.storeys (leaves (clocked k) (as' ++ bs) (fresh_machine k.storeys)).pipe (history k (as' ++ bs) (λ i. [])) c.later c.runs.shows (length bs) j h
    ∙ ap (λ (l : List Element). below (k.storeys - suc (length bs)) l j) (history-at k laid as' bs (λ i. []))

pub in-buckets : (k : Lay) (laid : Laid k) (as' bs : List Request) → length bs ≡ k.storeys → (r : ℕ)
    → buckets_of k.storeys (leaves (clocked k) (as' ++ bs) (fresh_machine k.storeys)).pipe r ≡ of_rank r (plain_after k (map ask as') [])
in-buckets k laid as' bs e r =
    let c = clock k laid (as' ++ bs) in
    buckets-at k.storeys (leaves (clocked k) (as' ++ bs) (fresh_machine k.storeys)).pipe (history k (as' ++ bs) (λ i. [])) c.later c.runs.shows r
    ∙ ap (of_rank r) (ap (history k (as' ++ bs) (λ i. [])) (sym e) ∙ history-at k laid as' bs (λ i. []))

-- SETTLED: after any list of cycles, S idle ones leave every count and every bucket those of one at a time
pub settled : (k : Lay) (laid : Laid k) (qs : List Request) (i j : ℕ) → i < k.storeys
    → counts_at k.storeys (leaves (clocked k) (qs ++ replicate k.storeys Idle) (fresh_machine k.storeys)).pipe i j ≡ below (k.storeys - suc i) (plain_after k (map ask qs) []) j
settled k laid qs i j h =
    let S = k.storeys in
    let c = clock k laid (qs ++ replicate S Idle) in
    counts-at S (leaves (clocked k) (qs ++ replicate S Idle) (fresh_machine S)).pipe (history k (qs ++ replicate S Idle) (λ i. [])) c.later c.runs.shows i j h
    ∙ ap (λ (l : List Element). below (S - suc i) l j)
    (ap (λ (f : ℕ → List Element). f i) (history-append k laid qs (replicate S Idle) (λ i. [])) ∙ idle-history k laid S (history k qs (λ i. [])) i (omega arith) ∙ history-now k laid qs (λ i. []))

pub settled-buckets : (k : Lay) (laid : Laid k) (qs : List Request) (r : ℕ)
    → buckets_of k.storeys (leaves (clocked k) (qs ++ replicate k.storeys Idle) (fresh_machine k.storeys)).pipe r ≡ of_rank r (plain_after k (map ask qs) [])
settled-buckets k laid qs r = in-buckets k laid qs (replicate k.storeys Idle) (idles k.storeys) r
