-- The front is a clock: its tests stand for their causes, a machine that has come through any list of cycles passes them, nothing is lost, and every pop
-- gives the lowest.
use Rattle.laws.specs.Prelude.{All, Answer, Bool, Element, Idle, List, Pop, Push, Replace, Request, [], ◌+◌, ◌<◌, ◌∙◌, ◌∷◌, ◌≡◌, ◌≤◌, and-true, ap, arith, blank, eqb-false, false, le-ltb, length, ltb, ltb-true, not, not-suc-le-zero, refl, replicate, runs_idle, subst, suc, sym, true, untagged, zero, ℕ, Err}
use Rattle.strip.proofs.Words.{blank-zeros}
use Rattle.bucket_clock_model.proofs.Clear.{clear_kept}
use Rattle.bucket_clock_model.proofs.Counts.{first-high}
use Rattle.bucket_clock_model.proofs.Damage.{means-fails}
use Rattle.bucket_clock_model.proofs.Exactly.{late-each, late-told}
use Rattle.bucket_clock_model.proofs.Flow.{in-machine}
use Rattle.bucket_clock_model.proofs.Long.{Long, cycle-long}
use Rattle.bucket_clock_model.proofs.Quiet.{quiet-stages}
use Rattle.bucket_clock_model.specs.Clock.{late_table}
use Rattle.std.specs.Prelude.{None, Some}
use Rattle.bucket_clock_model.specs.declared.Waiting.{Waiting}
use Rattle.bucket_clock_model.specs.Desk.{desk_ok, cycle_run, waiting, work_at}
use Rattle.bucket_clock_model.specs.Lists.{at, coming, first, many, newcomer, taken, takes}
use Rattle.bucket_model.proofs.Laws.{fill-length}
use Rattle.bucket_model.specs.declared.Lay.{Lay}
use Rattle.bucket_model.specs.Prelude.{Laid, Sorted, start, word}
use Rattle.promise.proofs.Calls.{grants-zero, last-tags}
use Rattle.promise.proofs.Clock.{Ticks}
use Rattle.promise.proofs.InFlight.{Bag, idle-kept, IsClock, Lowest, next-kept}
use Rattle.promise.specs.Prelude.{Clear, Least, Ruling, Step, Table, Untagged, always, brought, cycling, decided-either, each-any, given, grants, hit, leaves, lower, rested, ruling}
use Rattle.front_model.specs.Damage.{Ascends, FrontFit, FrontShaped, PlacesFit, SomeFit}
use Rattle.front_model.specs.Desk.{all_held, faced, FrontDesk, front_in, front_of, front_rule, front_run, front_shape_ok, front_wiped, front_word, front_words, place_at, place_count}
use Rattle.front_model.specs.Front.{fresh, held, Kept, State, state, cycled}
use Rattle.front_model.specs.Promise.{front_clock, front_pending, front_stored, is_idle, quiet}
use Rattle.front_model.proofs.Cycle.{front_low, some-front, cycled-sum}
use Rattle.front_model.proofs.Damage.{calm, front-means, idle-hands, places-means, shape-means}
use Rattle.front_model.proofs.Faces.{all_held_lem, Decent, Faces, faces-next, front-size, Good, hands-fit, state-is, state_of, T, way-is}
use Rattle.front_model.proofs.Handed.{coming-le, many-le}
use Rattle.front_model.proofs.Places.{front-in, front_long, front-place, past_end, places-first}
use Rattle.front_model.proofs.Promises.{fresh_kept, fresh-none}

-- ---- lists

sorted-ascends : (l : List Element) → Sorted l → Ascends l
sorted-ascends [] s = tt
sorted-ascends (x ∷ []) s = tt
sorted-ascends (x ∷ y ∷ l) s = (s.0.0, sorted-ascends (y ∷ l) s.1)

all-ranked : (R : ℕ) (l : List Element) → many always l ≤ many (lower R) l → All (λ x. x.rank.0 < R) l
unfolding many
all-ranked R [] h = tt
all-ranked R (x ∷ l) h = go (ltb x.rank.0 R) refl (all-ranked R l)
  where
    go : (b : Bool) → ltb x.rank.0 R ≡ b → (many always l ≤ many (lower R) l → All (λ x. x.rank.0 < R) l) → All (λ x. x.rank.0 < R) (x ∷ l)
    go true e ih = (ltb-true x.rank.0 R e, ih (omega (arith, h, ap hit e)))
    go false e ih = absurd (omega (arith, h, ap hit e, many-le (lower R) l))

-- ---- the tests

module _ (k : Lay) (deep : 1 ≤ k.storeys) where
  abbrev late : Request → FrontDesk → Table
  late q m = late_table k.ranks k.nodes q (all_held k m)

  stays-shaped : (q : Request) (m : FrontDesk) → front_shape_ok k (front_run k q m) ≡ front_shape_ok k m
  unfolding front_shape_ok front_run front_of desk_ok
  stays-shaped q m =
      let l : Long m.behind (cycle_run k (faced k q m).hands m.behind).next = cycle-long k (faced k q m).hands m.behind in
      rw (l.bits, l.counts, l.words, fill-length (front_word (faced k q m).front) (front_words k) m.front) refl

  pub ticks : Ticks (front_clock k) (cycling (front_clock k))
  ticks =
      record {
        same = λ q m. refl;
        shape = λ m. shape-means k m;
        torn = λ q m. means-fails (front-means k q m);
        root = λ m. means-fails (places-means k m);
        late = λ q m e f. late-told k.ranks k.nodes q (all_held k m) (λ p. ((front-means k q m).says f).0.room);
        idles = λ q m. late-each (λ n. runs_idle n ≡ true) (λ n e. e) k.ranks k.nodes q (all_held k m);
        free = λ m. (refl, tt);
        calm = λ q m f. (front-means k Idle m).holds (calm k q m deep ((front-means k q m).says f));
        rest = λ m. refl;
        zero = λ q m. grants-zero q (place_at m.front 0);
        stays = stays-shaped;
      }

  pub no-tag : (q : Request) (m : FrontDesk) → Untagged q → Clear (late_table k.ranks k.nodes q (all_held k m)) → ⊥
  no-tag Idle m u c = u
  no-tag (Push x) m u c = last-tags (Push x) (all_held k m) k.nodes u c.1
  no-tag Pop m u c = u
  no-tag (Replace x) m u c = last-tags (Replace x) (all_held k m) k.nodes u c.1

-- ---- what is kept

module _ (k : Lay) (laid : Laid k) where
  module _ (m : FrontDesk) (x : Faces k laid m) where
    abbrev t : State
    t = T k laid m x

    some-place : (all_held k m ≡ 0 → ⊥) → 1 ≤ length (front_in m.front)
    some-place n = some-front k.storeys 1 t x.kept (omega arith) (some-held (all_held_lem k laid m x) n)
      where
        some-held : all_held k m ≡ held always t → (all_held k m ≡ 0 → ⊥) → 1 ≤ held always t
        some-held e n = omega arith

    tag-off : (y : Element) → untagged y ≡ false → at untagged (Some y) ≡ 0
    tag-off y e = ap hit e

    -- a request that is let in is good, and so is an idle one
    good-in : (q : Request) → Clear (late_table k.ranks k.nodes q (all_held k m)) → Good k laid q t
    good-in Idle c = record { ranked = tt; tagged = refl; room = omega (arith, cycled-sum (place_count k) always Idle t, x.decent.room) }
    good-in (Push y) c =
        record {
          ranked = ltb-true y.rank.0 k.ranks c.0;
          tagged = tag-off y c.1.0;
          room = omega (arith, cycled-sum (place_count k) always (Push y) t, ltb-true (all_held k m) k.nodes c.1.1.0, all_held_lem k laid m x);
        }
    good-in Pop c = record { ranked = tt; tagged = refl; room = omega (arith, cycled-sum (place_count k) always Pop t, x.decent.room) }
    good-in (Replace y) c =
        let e = first_some (front_in m.front) (some-place (eqb-false (all_held k m) 0 c.1.1.0)) in
        record {
          ranked = ltb-true y.rank.0 k.ranks c.0;
          tagged = tag-off y c.1.0;
          room = omega (arith, cycled-sum (place_count k) always (Replace y) t, e, x.decent.room);
        }
      where
        first_some : (l : List Element) → 1 ≤ length l → at always (first l) ≡ 1
        first_some [] h = absurd (omega arith)
        first_some (z ∷ l) h = refl

    places-fit : PlacesFit k m
    places-fit =
        record {
          places = omega (arith, way-is k laid m x, front-size k laid m x, x.kept.fits);
          room = omega (arith, all_held_lem k laid m x, x.decent.room);
          order = sorted-ascends (front_in m.front) x.kept.sorted;
          ranks = all-ranked k.ranks (front_in m.front) (omega (arith, x.decent.ranked, behind-le, way-le));
          blank = λ h. blank-zeros _ (x.blanks (word m.front 0) (omega arith) h);
        }
      where
        behind-le : many (lower k.ranks) (x.ago 0) ≤ many always (x.ago 0)
        behind-le = many-le (lower k.ranks) (x.ago 0)

        way-le : coming (lower k.ranks) x.later ≤ coming always x.later
        way-le = coming-le (lower k.ranks) x.later

    -- what the rule lets through is good, and the front has a place where one is taken
    ruled-good : (q : Request) → Good k laid (front_rule k q m).op t × SomeFit (takes (front_rule k q m).op) (word m.front 0)
    ruled-good q =
        decided-either (λ n. ruling (Err n) Idle) (λ (g : Ruling Request). Good k laid g.op t × SomeFit (takes g.op) (word m.front 0)) (late_table k.ranks k.nodes q (all_held k m)) (ruling (grants q (place_at m.front 0)) q)
        (each-any _ (λ n. (good-in Idle (refl, tt), tt)) (late_table k.ranks k.nodes q (all_held k m))) (λ c. (good-in q c, some_in q c))
      where
        some_in : (q : Request) → Clear (late_table k.ranks k.nodes q (all_held k m)) → SomeFit (takes q) (word m.front 0)
        some_in Idle c = tt
        some_in (Push y) c = tt
        some_in Pop c = λ z. omega (arith, some-place (eqb-false (all_held k m) 0 c.1.0), front-size k laid m x)
        some_in (Replace y) c = λ z. omega (arith, some-place (eqb-false (all_held k m) 0 c.1.1.0), front-size k laid m x)

    -- UNDAMAGED
    pub front-fit : (q : Request) → FrontFit k q m
    front-fit q = let g = ruled-good q in (places-fit, g.1, hands-fit k laid m x (front_rule k q m).op g.0)

  pub is-clock : IsClock (front_clock k) (cycling (front_clock k)) (Faces k laid)
  is-clock =
      record {
        ticks = ticks k laid.deep;
        shaped = λ m x. (shape-means k m).holds x.shaped;
        sound = λ q m x. (front-means k q m).holds (front-fit m x q);
        keeps = λ q m x c. faces-next k laid m x q (good-in m x q c);
      }

  -- ---- what is held

  pub stored_is : (m : FrontDesk) (x : Faces k laid m) (f : Element → Bool) → front_stored m k f ≡ held f (T k laid m x)
  stored_is m x f = omega (arith, in-machine k laid m.behind x.was x.ago x.later x.behind f)

  -- place 0, where there is one
  first-is : (m : FrontDesk) → (word m.front 0 ≡ 0 → ⊥) → first (front_in m.front) ≡ Some (place_at m.front 0)
  first-is m n = ap first (places-first m.front (word m.front 0) n).1

  module _ (m : FrontDesk) (x : Faces k laid m) where
    some-count : (all_held k m ≡ 0 → ⊥) → word m.front 0 ≡ 0 → ⊥
    some-count n z = omega (arith, some-place m x n, front-size k laid m x)

    sum : (q : Request) → Clear (late_table k.ranks k.nodes q (all_held k m)) → (f : Element → Bool)
        → front_stored (front_run k q m) k f + given q (grants q (place_at m.front 0)) f ≡ front_stored m k f + brought q (grants q (place_at m.front 0)) f
    sum q c f =
        let y = faces-next k laid m x q (good-in m x q c) in
        let s : held f (T k laid (front_run k q m) (faces-next k laid m x q (good-in m x q c))) ≡ held f (cycled (place_count k) q (T k laid m x)) = ap (held f) (state-is k laid m x q (good-in m x q c)) in
        omega (arith, stored_is (front_run k q m) (faces-next k laid m x q (good-in m x q c)) f, stored_is m x f, cycled-sum (place_count k) f q (T k laid m x), s, flows q c)
      where
        -- what is given is what is taken out, and what is brought the newcomer
        flows : (q : Request) → Clear (late_table k.ranks k.nodes q (all_held k m))
            → given q (grants q (place_at m.front 0)) f + at f (newcomer q) ≡ at f (taken (takes q) (front_in m.front)) + brought q (grants q (place_at m.front 0)) f
        flows Idle c = refl
        flows (Push y) c = omega arith
        flows Pop c = omega (arith, ap (at f) (first-is m (some-count (eqb-false (all_held k m) 0 c.1.0))))
        flows (Replace y) c = omega (arith, ap (at f) (first-is m (some-count (eqb-false (all_held k m) 0 c.1.1.0))))

    -- nothing held is below place 0
    low : (all_held k m ≡ 0 → ⊥) → front_stored m k (lower (place_at m.front 0).rank.0) ≡ 0
    low n =
        let r : ℕ = (place_at m.front 0).rank.0 in
        stored_is m x (lower (place_at m.front 0).rank.0)
        ∙ front_low k.storeys 1 (T k laid m x) x.kept (omega arith) r
        (first-high r (front_in m.front) x.kept.sorted (ap (at (lower r)) (first-is m (some-count n)) ∙ ap hit (le-ltb r r (omega arith))))

    least : (q : Request) → Clear (late_table k.ranks k.nodes q (all_held k m)) → Least (λ f. front_stored m k f) q (grants q (place_at m.front 0))
    least Idle c = tt
    least (Push y) c = tt
    least Pop c = λ e. low (eqb-false (all_held k m) 0 c.1.0)
    least (Replace y) c = λ e. low (eqb-false (all_held k m) 0 c.1.1.0)

  pub bag : Bag (front_clock k) (Faces k laid) (λ q. q) (λ m f. front_stored m k f)
  bag = record { still = refl; sum = λ q m x c f. sum m x q c f }

  pub lowest : Lowest (front_clock k) (Faces k laid) (λ q. q) (λ m f. front_stored m k f)
  lowest = record { least = λ q m x c. least m x q c }

  -- ---- clear

  module _ (m : FrontDesk) (h : FrontShaped k m) where
    none_in : front_in (front_of k [] m.front) ≡ []
    none_in = front-in k [] m.front h.front (omega arith)

    fresh-is : state_of k laid (front_wiped k m) (λ i. []) (replicate k.storeys None) ≡ fresh k.storeys
    fresh-is = ap (λ (l : List Element). state l (replicate k.storeys None) []) none_in

    pub cleared-faces : Faces k laid (front_wiped k m)
    cleared-faces =
        let p = k.storeys in
        let queue = clear_kept k laid m.behind h.desk in
        record {
          was = λ i. start k m.behind.bits m.behind.words;
          ago = λ i. [];
          later = replicate k.storeys None;
          shaped = record { desk = queue.shaped; front = omega (arith, front_long k [] m.front h.front, h.front) };
          behind = queue;
          kept = subst (Kept k.storeys 1) (sym fresh-is) (fresh_kept k.storeys 1);
          decent = subst (Decent k laid) (sym fresh-is) (record {
            ranked = omega (arith, fresh-none k.storeys always);
            tagged = fresh-none k.storeys untagged;
            room = omega (arith, fresh-none k.storeys always);
          });
          blanks = λ i a l. front-place k [] m.front h.front i l ∙ past_end [] i (omega arith);
        }

    pub cleared-bare : (f : Element → Bool) → front_stored (front_wiped k m) k f ≡ 0
    unfolding cleared-faces
    cleared-bare f = stored_is (front_wiped k m) cleared-faces f ∙ ap (held f) fresh-is ∙ fresh-none k.storeys f

  -- ---- at rest: as many idle cycles as there are storeys

  -- the first n records wait with nothing
  abbrev Quiet : ℕ → FrontDesk → Type 0
  Quiet n m = (i : ℕ) → i < n → i < k.storeys → (work_at m.behind.records i).does ≡ Idle

  idle-quiet : (n : ℕ) (m : FrontDesk) → Faces k laid m → Quiet n m → Quiet (suc n) (front_run k Idle m)
  unfolding front_run cycle_run
  idle-quiet n m x q i a b =
      ap (λ (u : Request). (work_at (cycle_run k u m.behind).next.records i).does) (idle-hands k m laid.deep (places-fit m x).places)
      ∙ ap (λ (g : Waiting). g.does) (quiet-stages k k.storeys 0 (waiting Idle 0) m.behind (omega (arith, x.behind.long)) refl n (λ j c d e. q j (omega arith) (omega arith)) i (omega arith) (omega arith) (omega arith))

  idles-quiet : (n j : ℕ) (m : FrontDesk) → Faces k laid m → Quiet j m → Quiet (j + n) (rested (front_clock k) (cycling (front_clock k)) n m)
  unfolding leaves
  idles-quiet zero j m x q i a b = q i (omega arith) b
  idles-quiet (suc n) j m x q i a b =
      idles-quiet n (suc j) (cycling (front_clock k) Idle m).next (next-kept is-clock Idle m x) (subst (λ (s : Step Answer FrontDesk). Quiet (suc j) s.next) (sym (idle-kept is-clock m x)) (idle-quiet j m x q)) i (omega arith) b

  quiet-true : (d i : ℕ) (rs : List Waiting) → ((j : ℕ) → i ≤ j → j < i + d → (work_at rs j).does ≡ Idle) → quiet d rs i ≡ true
  unfolding quiet
  quiet-true zero i rs h = refl
  quiet-true (suc d) i rs h = and-true _ _ (ap is_idle (h i (omega arith) (omega arith))) (quiet-true d (suc i) rs (λ j a b. h j (omega arith) (omega arith)))

  pub settles : (m : FrontDesk) → Faces k laid m → front_pending k (rested (front_clock k) (cycling (front_clock k)) k.storeys m) ≡ false
  settles m x =
      ap not (quiet-true k.storeys 0 (rested (front_clock k) (cycling (front_clock k)) k.storeys m).behind.records
      (λ j a b. idles-quiet k.storeys 0 m x (λ i c d. absurd (not-suc-le-zero c)) j (omega arith) (omega arith)))
