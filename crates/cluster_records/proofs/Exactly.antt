-- Every refusal of a lent cycle and clear is given exactly for its cause, and leaves words and records as its table says. A drain's are in `Drained.antt`.
use Rattle.laws.specs.Prelude.{Answer, BadShape, Bool, Exactly, Idle, List, Means, Refusal, Request, ◌-◌, ◌<◌, ◌≡◌, ◌≤◌, and_left, and_right, and-true, ap, arith, climb, climb-fine, cond, eq-or-lt_of_le, false, false≢true, fine, get_or, has_run, le-leb, le_of_suc-le-suc, leb, leb-true, left_behind, length, means-and, means-by, means-leb, not-suc-le-zero, number_of, refl, refusal_number, rung, runs_idle, subst, suc, sym, true, zero, ℕ, ⊎_elim, Ok, None, Err}
use Rattle.cluster_clock_model.proofs.Exactly as cycles
use Rattle.cluster_clock_model.proofs.Laws.{damage-fails, sound, ticks}
use Rattle.cluster_clock_model.specs.Prelude.{CycleDamage, CycleOutcome, Machine, clock_cleared, cycle_left, cycle_outcome, cycle_refusals, cycled, fresh, machine}
use Rattle.cluster_clock_model.specs.declared.Stage.{Stage}
use Rattle.cluster_records.specs.Lent.{ClusterRecord, kind_in, kinds_ok, lent_cleared, lent_of, lent_outcome, LentOutcome, lent_cycled, no_record, readable, records_back, stages_read}
use Rattle.cluster_records.specs.Refusals.{lent_clear_left, lent_clear_refusals, lent_left, lent_refusals, Readable}
use Rattle.cluster_model.proofs.Laws.{shape-means}
use Rattle.cluster_model.specs.Prelude.{Shape, extent, shape_ok, wipe}
use Rattle.promise.proofs.Clock as clocks
use Rattle.promise.proofs.Handed.{exactly-behind, given-later}
use Rattle.promise.specs.Prelude.{Step, decided-exactly, ends, leaves, needs, refusal-told, zero-told}

abbrev pub said : LentOutcome → ℕ
said o = number_of o.answer

-- ---- the test of the records stands for what is needed of them
kind_at : (k : ℕ) (rs : List ClusterRecord) → kinds_ok k rs ≡ true → (j : ℕ) → j < k → kind_in (get_or rs j no_record) ≤ 3
unfolding kinds_ok
kind_at zero rs e j l = absurd (not-suc-le-zero l)
kind_at (suc k) rs e j l =
    ⊎_elim
    (λ p. subst (λ (j : ℕ). kind_in (get_or rs j no_record) ≤ 3) (sym p) (leb-true (kind_in (get_or rs k no_record)) 3 (and_right (kinds_ok k rs) (leb (kind_in (get_or rs k no_record)) 3) e)))
    (λ l. kind_at k rs (and_left (kinds_ok k rs) (leb (kind_in (get_or rs k no_record)) 3) e) j l)
    (eq-or-lt_of_le (le_of_suc-le-suc l))

kinds-of : (k : ℕ) (rs : List ClusterRecord) → ((j : ℕ) → j < k → kind_in (get_or rs j no_record) ≤ 3) → kinds_ok k rs ≡ true
unfolding kinds_ok
kinds-of zero rs f = refl
kinds-of (suc k) rs f = and-true (kinds_ok k rs) (leb (kind_in (get_or rs k no_record)) 3) (kinds-of k rs (λ j l. f j (omega (arith, l)))) (le-leb (kind_in (get_or rs k no_record)) 3 (f k (omega arith)))

pub readable-means : (k : ℕ) (rs : List ClusterRecord) → Means (readable k rs) (Readable k rs)
unfolding readable
readable-means k rs =
    means-by (means-and (means-leb k (length rs)) (record { says = kind_at k rs; holds = kinds-of k rs })) (λ p. record { long = p.0; kinds = p.1 }) (λ p. (p.long, p.kinds))

module _ (K levels : ℕ) (rs : List ClusterRecord) (ws : List ℕ) where
  abbrev qs : List Stage
  qs = stages_read (levels - 1) rs

  -- ---- a cycle
  no-damage-sound : (r : Request) → (CycleDamage K levels r qs ws → ⊥) → sound K levels r qs ws ≡ true
  no-damage-sound r d = go (sound K levels r qs ws) refl
    where
      go : (b : Bool) → sound K levels r qs ws ≡ b → b ≡ true
      go true e = refl
      go false e = absurd (d ((damage-fails K levels r qs ws).found e))

  -- an idle cycle runs wherever a cycle finds shape and nodes in order
  idle-runs : (r : Request) → Shape K levels (length ws) → (CycleDamage K levels r qs ws → ⊥) → has_run (cycled K levels Idle qs ws).answer ≡ true
  idle-runs r sh d =
      ap (λ (o : Step Answer Machine). has_run o.said)
      (clocks.idle-runs (ticks K levels) r (machine qs ws) ((shape-means K levels (length ws)).holds sh) (no-damage-sound r d))

  -- what a refused cycle leaves, in the host's memory
  left_as : readable (levels - 1) rs ≡ true → (n : Refusal) → (runs_idle n ≡ true → has_run (cycled K levels Idle qs ws).answer ≡ true) → lent_of levels rs (cycle_left K levels qs ws n) ≡ lent_left K levels rs ws n
  unfolding leaves lent_cycled
  left_as e n ran = rw e (go (runs_idle n) ran)
    where
      o : CycleOutcome
      o = cycled K levels Idle qs ws

      go : (b : Bool) → (b ≡ true → has_run o.answer ≡ true)
          → (let x = cond {A = Machine} b (machine o.records o.words) (machine qs ws) in
          let y = cond {A = LentOutcome} b (lent_of levels rs o) (lent_outcome (Err n) ws rs) in
          lent_outcome (Err n) x.words (records_back levels rs b x.records) ≡ lent_outcome (Err n) y.words y.records)
      go true f = rw (f refl)
      go false f = refl

  -- EXACTLY: a lent cycle
  pub exactly-cycle : (r : Request) → Exactly said (lent_left K levels rs ws) (lent_cycled K levels rs ws r) (lent_refusals K levels rs ws r)
  unfolding lent_cycled
  exactly-cycle r =
      exactly-behind cycles.said (cycle_left K levels qs ws) said (lent_left K levels rs ws) (lent_of levels rs) (λ o. refl) (λ n. refl) (λ n. refl) (readable (levels - 1) rs) (Readable (levels - 1) rs) BadShape (cycled K levels r qs ws) (cycle_refusals K levels r qs ws)
      (readable-means (levels - 1) rs) (cycles.exactly-cycle K levels r qs ws)
      (λ p n u. left_as ((readable-means (levels - 1) rs).holds p) n (λ e.
      let q = given-later runs_idle false≢true false≢true n u e in
      idle-runs r q.0 q.1))

  -- LEFT BEHIND: 1 and 2 everything, words and records
  pub stands : (r : Request) (n : Refusal) → said (lent_cycled K levels rs ws r) ≡ refusal_number n → lent_cycled K levels rs ws r ≡ lent_left K levels rs ws n
  stands r = left_behind said (lent_left K levels rs ws) (exactly-cycle r)

  -- ---- a clear
  -- EXACTLY: a lent clear is refused for its records or its shape, and then leaves everything
  pub exactly-clear : Exactly said (lent_clear_left K levels rs ws) (lent_cleared K levels rs ws) (lent_clear_refusals K levels rs ws)
  unfolding lent_cleared clock_cleared
  exactly-clear =
      climb said (lent_clear_left K levels rs ws) refusal-told (leb (levels - 1) (length rs)) (levels - 1 ≤ length rs) BadShape _ (rung BadShape (Shape K levels (length ws)) fine) (means-leb (levels - 1) (length rs))
      (λ p. decided-exactly said (lent_clear_left K levels rs ws) refusal-told (lent_of levels rs) (λ n. cycle_outcome (Err n) ws fresh) (needs BadShape (shape_ok K levels (length ws)) (Shape K levels (length ws)) ends)
      (cycle_outcome (Ok None) (wipe (extent K levels 1) ws) fresh) fine (shape-means K levels (length ws), λ s. tt) (refl, tt) (λ c. climb-fine said (lent_clear_left K levels rs ws) _ (λ n z. zero-told n z)))
