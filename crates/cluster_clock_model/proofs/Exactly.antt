-- Every refusal of a cycle is given exactly for its cause, and leaves behind what the table says.
use Rattle.laws.specs.Prelude.{Answer, BadShape, Bool, Damaged, Exactly, Fails, Idle, List, Pop, Push, Refusal, Replace, Request, ◌&&◌, ◌*◌, ◌+◌, ◌||◌, ◌∙◌, ◌≡◌, ◌≤◌, and_left, and_right, and-true, ap, arith, asks, count_number, eqb, eqb-false, eqb-true, fails-and, fails-leb, fails-or, fails-true, false, leb, leb-true, left_behind, length, ltb, means-off, not, not-suc-le-zero, number_of, pred, refl, refusal_number, rung, runs_idle, stop, suc, sym, true, true≢false, zero, ℕ, Ok, Err, None}
use Rattle.promise.specs.Prelude.{Barred, IsPush, Kind, Outcome, Step, always, asks-fails, bars, cycle_left as clock-left, cycling, decided-either, decided-same, ends, last_table, left, needs, step}
use Rattle.cluster_clock_model.proofs.Seen.{pass-length}
use Rattle.cluster_clock_model.specs.Prelude.{ChildTorn, CycleDamage, CycleOutcome, Due, Fill, Machine, NodeTorn, Nothing, Put, Stage, StageTorn, StagesTorn, Swap, WaitTorn, asked_ok, below, clock, clock_cleared, clock_held, cycle_left, cycle_outcome, cycle_queue, cycle_refusals, cycle_run, cycled, fresh, gives_ok, held_refusals, is_gap, machine, sane, sane_at, stage_at, stage_ok, stages_ok, wait_ok}
use Rattle.cluster_model.specs.Prelude.{Node, Place, Ruling, Shape, child, gap, has, held_in, inside, lhs, neat_to, node_in, none, nothing_below, place_at, rhs, room, root_held, rule, rule_at, ruling, shape_ok, some, start, width}
use Rattle.cluster_model.proofs.Laws.{below_fails, cleared-fine, fails_by, fails-ltb, gap-has, inside-length, is-shape, node-count, room-fails, shape_is, shape-means, some-fails, to-fails}
use Rattle.promise.proofs.Calls.{grants-kind, grants-zero, last-all, last-ladder, last-tags, last-told}
use Rattle.promise.proofs.Clock as clocks
use Rattle.promise.proofs.Clock.{Ticks}
use Rattle.promise.proofs.Handed.{exactly-as}
use Rattle.promise.specs.Calls as calls

-- ---- each test fails exactly where it finds damage
gap-fails : (p : Place) → Fails (is_gap p) (p ≡ gap → ⊥)
unfolding is_gap
gap-fails gap = record { found = λ e. absurd (true≢false e); shown = λ d. absurd (d refl) }
gap-fails (has e) = record { found = λ z d. gap-has e (sym d); shown = λ d. refl }

flag-fails : (p : Place) → Fails (not (is_gap p)) (p ≡ gap)
unfolding is_gap
flag-fails gap = record { found = λ e. refl; shown = λ d. refl }
flag-fails (has e) = record { found = λ z. absurd (true≢false z); shown = λ d. absurd (gap-has e (sym d)) }

some-below-fails : (n : Node) → Fails (not (nothing_below n)) (n.left + n.right ≡ 0)
unfolding nothing_below
some-below-fails n = go (eqb (n.left + n.right) 0) refl
  where
    go : (b : Bool) → eqb (n.left + n.right) 0 ≡ b → Fails (not b) (n.left + n.right ≡ 0)
    go true e = record { found = λ z. eqb-true (n.left + n.right) 0 e; shown = λ d. refl }
    go false e = record { found = λ z. absurd (true≢false z); shown = λ d. absurd (eqb-false (n.left + n.right) 0 e d) }

module _ (K : ℕ) where
  pub torn-fails : (limit : ℕ) (ws : List ℕ) (m : ℕ) → Fails (sane_at K limit ws m) (NodeTorn K limit ws m)
  unfolding sane_at sane
  torn-fails limit ws m =
      let n : Node = node_in K ws m in
      let size : length n.places ≡ K = node-count K ws (m * width K) in
      fails-and (neat_to K ws (m * width K + 2) K) _ (to-fails K ws (m * width K + 2) K)
      (fails-and (leb n.left limit) _ (fails-leb n.left limit)
      (fails-and (leb n.right limit) _ (fails-leb n.right limit)
      (fails-or (nothing_below n) (leb (length n.places) (suc (inside always n.places))) (below_fails n)
      (fails_by (fails-leb (length n.places) (suc (inside always n.places))) (λ h. omega arith) (λ h. omega arith)))))

  gives-fails : (x limit : ℕ) (ws : List ℕ) (m : ℕ) → Fails (gives_ok K (eqb x 0) limit ws m) (ChildTorn K x limit ws m)
  unfolding gives_ok
  gives-fails x limit ws m = go (eqb x 0) refl
    where
      go : (b : Bool) → eqb x 0 ≡ b → Fails (gives_ok K b limit ws m) (ChildTorn K x limit ws m)
      go true e = record { found = λ z. absurd (true≢false z); shown = λ d. absurd (omega (arith, eqb-true x 0 e, d.0)) }
      go false e =
          let ne : x ≡ 0 → ⊥ = eqb-false x 0 e in
          fails_by (fails-and (sane_at K limit ws m) (some (node_in K ws m)) (torn-fails limit ws m) (some-fails (node_in K ws m))) (λ d. (omega arith, d)) (λ d. d.1)

  wait-fails : (k m : ℕ) (ws : List ℕ) → Fails (wait_ok K k m ws) (WaitTorn K k m ws)
  unfolding wait_ok
  wait-fails k m ws =
      fails-and (sane_at K (room K (suc k)) ws m) _ (torn-fails (room K (suc k)) ws m)
      (fails-and (not (nothing_below (node_in K ws m))) _ (some-below-fails (node_in K ws m))
      (fails-and (gives_ok K (eqb (node_in K ws m).left 0) (room K k) ws (child m lhs)) _ (gives-fails (node_in K ws m).left (room K k) ws (child m lhs))
      (gives-fails (node_in K ws m).right (room K k) ws (child m rhs))))

  stage-fails : (k : ℕ) (d : Due) (n a : ℕ) (ws : List ℕ) → Fails (stage_ok K k d n a ws) (StageTorn K k d n a ws)
  unfolding stage_ok
  stage-fails k Nothing n a ws = fails-true
  stage-fails k (Put y) n a ws =
      fails-and (ltb n (below a + 1)) _ (fails_by (fails-ltb n (below a + 1)) (λ h. omega arith) (λ h. omega arith))
      (fails-and (sane_at K (room K k) ws (below a + n)) _ (torn-fails (room K k) ws (below a + n)) (room-fails K (room K k) ws (below a + n)))
  stage-fails k (Fill j) n a ws =
      fails-and (ltb n (a + 1)) _ (fails-ltb n (a + 1))
      (fails-and (ltb j K) _ (fails-ltb j K) (fails-and (is_gap (place_at (node_in K ws (a + n)).places j)) _ (gap-fails (place_at (node_in K ws (a + n)).places j)) (wait-fails k (a + n) ws)))
  stage-fails k (Swap j x) n a ws =
      fails-and (ltb n (a + 1)) _ (fails-ltb n (a + 1))
      (fails-and (ltb j K) _ (fails-ltb j K) (fails-and (not (is_gap (place_at (node_in K ws (a + n)).places j))) _ (flag-fails (place_at (node_in K ws (a + n)).places j)) (wait-fails k (a + n) ws)))

  stages-fails : (k a i : ℕ) (rs : List Stage) (ws : List ℕ) → Fails (stages_ok K k a i rs ws) (StagesTorn K k a i rs ws)
  unfolding stages_ok
  stages-fails zero a i rs ws = fails-true
  stages-fails (suc k) a i rs ws =
      fails-and (stage_ok K k (stage_at rs i).due (stage_at rs i).node a ws) _ (stage-fails k (stage_at rs i).due (stage_at rs i).node a ws) (stages-fails k (below a) (suc i) rs ws)

-- ---- the cycle by its tests
module _ (K levels : ℕ) (r : Request) (rs : List Stage) (ws : List ℕ) where
  abbrev g : Ruling
  g = rule_at K levels r ws

  abbrev pub sound : Bool
  sound = asked_ok K levels r ws && stages_ok K (pred levels) 0 0 rs ws

  pub cycled-bad : shape_ok K levels (length ws) ≡ false → cycled K levels r rs ws ≡ cycle_outcome (Err BadShape) ws rs
  unfolding cycled
  cycled-bad e = rw e

  pub cycled-damaged : shape_ok K levels (length ws) ≡ true → sound ≡ false → cycled K levels r rs ws ≡ cycle_outcome (Err Damaged) ws rs
  unfolding cycled
  cycled-damaged e f = rw (e, f)

  pub cycled-fine : shape_ok K levels (length ws) ≡ true → sound ≡ true → cycled K levels r rs ws ≡ cycle_run K levels g rs ws
  unfolding cycled
  cycled-fine e f = rw (e, f)

  -- what is so of a cycle refused for the shape or for damage, and of one that ran, is so of the cycle
  pub cycled-either : (P : CycleOutcome → Type 0) → P (cycle_outcome (Err BadShape) ws rs) → P (cycle_outcome (Err Damaged) ws rs)
      → (shape_ok K levels (length ws) ≡ true → sound ≡ true → P (cycle_run K levels g rs ws)) → P (cycled K levels r rs ws)
  unfolding cycled
  cycled-either P bad damaged good =
      decided-either (λ n. cycle_outcome (Err n) ws rs) P
      (needs BadShape (shape_ok K levels (length ws)) (Shape K levels (length ws)) (bars Damaged sound (CycleDamage K levels r rs ws) ends))
      (cycle_run K levels g rs ws) (bad, (damaged, tt)) (λ c. good c.0 c.1.0)

  pub damage-fails : Fails sound (CycleDamage K levels r rs ws)
  damage-fails =
      fails-and (asked_ok K levels r ws) (stages_ok K (pred levels) 0 0 rs ws)
      (fails-or (not (asks r)) (sane_at K (room K (pred levels)) ws 0) (asks-fails r) (torn-fails K (room K (pred levels)) ws 0)) (stages-fails K (pred levels) 0 0 rs ws)

  pub sound-no-damage : sound ≡ true → CycleDamage K levels r rs ws → ⊥
  sound-no-damage e d = true≢false (sym e ∙ damage-fails.shown d)

-- every cycle keeps the slice's length
pub cycled-length : (K levels : ℕ) (r : Request) (rs : List Stage) (ws : List ℕ) → length (cycled K levels r rs ws).words ≡ length ws
unfolding cycle_run
cycled-length K levels r rs ws = cycled-either K levels r rs ws (λ c. length c.words ≡ length ws) refl refl (λ e f. pass-length K (pred levels) 0 _ 0 rs ws)

-- ---- an idle cycle reads no root
idle-asked : (K levels : ℕ) (ws : List ℕ) → asked_ok K levels Idle ws ≡ true
unfolding asks
idle-asked K levels ws = refl

pub idle-sound : (K levels : ℕ) (rs : List Stage) (ws : List ℕ) → stages_ok K (pred levels) 0 0 rs ws ≡ true → sound K levels Idle rs ws ≡ true
idle-sound K levels rs ws e = and-true _ _ (idle-asked K levels ws) e

-- a root in order holds at most the capacity
pub root-limit : (K levels : ℕ) (ws : List ℕ) → 1 ≤ levels → sane_at K (room K (pred levels)) ws 0 ≡ true → held_in K levels ws ≤ room K levels
unfolding room sane_at sane root_held
root-limit K zero ws h e = absurd (not-suc-le-zero h)
root-limit K (suc k) ws h e =
    let n : Node = node_in K ws 0 in
    let a : Bool = neat_to K ws (0 * width K + 2) K in
    let l : Bool = leb n.left (room K k) in
    let r : Bool = leb n.right (room K k) in
    let c : Bool = nothing_below n || leb (length n.places) (suc (inside always n.places)) in
    let b : (l && (r && c)) ≡ true = and_right a (l && (r && c)) e in
    omega (
      arith,
      leb-true n.left (room K k) (and_left l (r && c) b),
      leb-true n.right (room K k) (and_left r c (and_right l (r && c) b)),
      inside-length n.places,
      node-count K ws (0 * width K),
    )

-- ---- this machine is a clock
module _ (K levels : ℕ) where
  abbrev as_step : CycleOutcome → Step Answer Machine
  as_step c = step c.answer (machine c.records c.words)

  abbrev shown : Outcome Machine → CycleOutcome
  shown o = cycle_outcome o.answer o.words.words o.words.records

  -- its cycle is the clock's
  same : (r : Request) (x : Machine) → cycle_queue K levels r x ≡ cycling (clock K levels) r x
  unfolding cycled cycle_run rule
  same r x =
      decided-same as_step (λ (o : Outcome Machine). step o.answer o.words) (λ n. cycle_outcome (Err n) x.words x.records) (left x)
      (needs BadShape (shape_ok K levels (length x.words)) (Unit {0}) (bars Damaged (sound K levels r x.records x.words) (Unit {0}) ends)) _ _ (λ n. refl)
      (decided-same (λ (g : Ruling). as_step (cycle_run K levels g x.records x.words)) (λ (g : calls.Ruling Request). step g.answer ((clock K levels).moves g.op x))
      (λ n. ruling (Err n) none) (λ n. calls.ruling (Err n) Idle) (last_table r (held_in K levels x.words) (room K levels)) _ _ (λ n. refl) refl)

  push-root : (r : Request) (ws : List ℕ) → IsPush r → asked_ok K levels r ws ≡ true → sane_at K (room K (pred levels)) ws 0 ≡ true
  unfolding asks
  push-root Idle ws p e = absurd p
  push-root (Push x) ws p e = e
  push-root Pop ws p e = absurd p
  push-root (Replace x) ws p e = absurd p

  pub ticks : Ticks (clock K levels) (cycle_queue K levels)
  ticks =
      record {
        same = same;
        shape = λ x. shape-means K levels (length x.words);
        torn = λ r x. damage-fails K levels r x.records x.words;
        root = λ x. torn-fails K (room K (pred levels)) x.words 0;
        late = λ r x e f. last-told r _ _ (λ p. root-limit K levels x.words (shape_is K levels (length x.words) e).some (push-root r x.words p (and_left (asked_ok K levels r x.words) _ f)));
        idles = λ r x. last-all (λ n. runs_idle n ≡ true) refl refl refl r _ _;
        free = λ x. (refl, tt);
        calm = λ r x f. idle-sound K levels x.records x.words (and_right (asked_ok K levels r x.words) _ f);
        rest = λ x. refl;
        zero = λ r x. grants-zero r _;
        stays = λ r x. ap (shape_ok K levels) (pass-length K (pred levels) 0 _ 0 x.records x.words);
      }

abbrev pub said : CycleOutcome → ℕ
said c = number_of c.answer

-- EXACTLY: a cycle gives each refusal for its cause and for that cause only, and leaves behind what the table says
module _ (K levels : ℕ) (r : Request) (rs : List Stage) (ws : List ℕ) where
  pub exactly-cycle : Exactly said (cycle_left K levels rs ws) (cycled K levels r rs ws) (cycle_refusals K levels r rs ws)
  exactly-cycle =
      last-ladder (λ l. Exactly said (cycle_left K levels rs ws) (cycled K levels r rs ws) (rung BadShape (Shape K levels (length ws)) (stop Damaged (CycleDamage K levels r rs ws) l))) r (held_in K levels ws) (room K levels)
      (exactly-as (λ (o : Outcome Machine). number_of o.answer) (clock-left (clock K levels) (cycle_queue K levels) (machine rs ws)) (shown K levels) said (λ o. refl) _ _
      (clocks.exactly-cycle (ticks K levels) r (machine rs ws)))

  -- LEFT BEHIND: 1 and 2 everything, records too; 5, 6 and 7 "cycle runs as idle"
  pub stands : (n : Refusal) → said (cycled K levels r rs ws) ≡ refusal_number n → cycled K levels r rs ws ≡ cycle_left K levels rs ws n
  stands = left_behind said (cycle_left K levels rs ws) exactly-cycle

  -- KIND: of a cycle that is not refused a push and an idle request answer done, a pop and a replace an element
  pub kind : number_of (cycled K levels r rs ws).answer ≡ 0 → Kind r (cycled K levels r rs ws).answer
  kind = clocks.kind (ticks K levels) (λ r x. grants-kind r _) r (machine rs ws)

  -- BARRED: an element without a tag is never let in, whatever stands in the machine
  pub barred : Barred r (cycled K levels r rs ws).answer
  barred = clocks.barred (ticks K levels) r (machine rs ws) (last-tags r _ _)

  -- NEVER TOO SOON: no cycle is refused 3
  pub never-soon : number_of (cycled K levels r rs ws).answer ≡ 3 → ⊥
  never-soon =
      clocks.numbered (ticks K levels) (λ n. n ≡ 3 → ⊥) r (machine rs ws) (λ e. omega arith) (λ e. omega arith) (λ e. omega arith)
      (last-all (λ n. refusal_number n ≡ 3 → ⊥) (λ e. omega arith) (λ e. omega arith) (λ e. omega arith) r _ _)

-- ---- held and clear
module _ (K levels : ℕ) (ws : List ℕ) where
  pub held-fine : Shape K levels (length ws) → sane_at K (room K (pred levels)) ws 0 ≡ true → clock_held K levels ws ≡ Ok (held_in K levels ws)
  unfolding clock_held
  held-fine sh o = rw (is-shape K levels (length ws) sh, o)

  pub exactly-held : Exactly count_number Err (clock_held K levels ws) (held_refusals K levels ws)
  unfolding clock_held
  exactly-held = clocks.exactly-held (ticks K levels) (machine fresh ws)

  -- CLEAR: zeros, and nothing pending, whatever records are handed over; refused it leaves everything, the records too
  pub clear-taken : (rs : List Stage) → Shape K levels (length ws) → clock_cleared K levels rs ws ≡ cycle_outcome (Ok None) (start K levels ws) fresh
  unfolding clock_cleared
  clear-taken rs sh =
      let e = is-shape K levels (length ws) sh in
      rw e (ap (λ (o : Outcome (List ℕ)). cycle_outcome (Ok None) o.words fresh) (sym (cleared-fine K levels ws e)))

  pub clear-stands : (rs : List Stage) → (Shape K levels (length ws) → ⊥) → clock_cleared K levels rs ws ≡ cycle_outcome (Err BadShape) ws rs
  unfolding clock_cleared
  clear-stands rs bad = rw (means-off (shape-means K levels (length ws)) bad)
