-- Every refusal of a lent call is given exactly for its cause, and leaves words, records and mark as its table says.
use Rattle.laws.specs.Prelude.{Answer, BadShape, Bool, Exactly, Idle, List, Means, Refusal, Request, ◌-◌, ◌∙◌, ◌≡◌, ◌≤◌, ap, climb, climb-fine, cond, false, false≢true, fine, leb, left_behind, length, ltb, means-and, means-by, means-leb, not, number_of, refl, refusal_number, rung, subst, sym, true, ℕ, Ok, None, Err}
use Rattle.tree_clock_model.proofs.Drain as model
use Rattle.tree_clock_model.proofs.Exactly as cycles
use Rattle.tree_clock_model.proofs.Laws.{no-damage-sound, timed}
use Rattle.tree_clock_model.specs.Prelude.{CycleDamage, CycleOutcome, DrainOutcome, Machine, clocked_cleared, cycle_left, cycle_outcome, cycle_refusals, cycled, drain_left, drain_outcome, drain_refusals, drains, fresh, has_run, idles, is_bad_shape, machine, runs_idle}
use Rattle.tree_clock_model.specs.declared.State.{State}
use Rattle.tree_records.proofs.Follows.{drain-cycles}
use Rattle.tree_records.proofs.Stood.{kind_at, kinds-of}
use Rattle.tree_records.specs.History.{lent_idles, Memory, memory}
use Rattle.tree_records.specs.Lent.{drain_of, lent_cleared, lent_cycled, lent_drain, LentDrain, lent_drains, lent_of, lent_outcome, LentOutcome, readable, records_back, state_read}
use Rattle.tree_records.specs.Refusals.{lent_clear_left, lent_clear_refusals, lent_drain_left, lent_drain_refusals, lent_left, lent_refusals, Readable}
use Rattle.tree_records.specs.Steps.{unread}
use Rattle.tree_records.specs.declared.Record.{Record}
use Rattle.promise.proofs.Clock as clocks
use Rattle.promise.proofs.Handed.{exactly-behind, given-later}
use Rattle.promise.specs.Prelude.{Step, decided-exactly, ends, leaves, needs, refusal-told, zero-told}
use Rattle.tree_model.proofs.Laws.{shape-means}
use Rattle.tree_model.specs.Prelude.{Shape, room, shape_ok, wipe}

abbrev said : LentOutcome → ℕ
said o = number_of o.answer

abbrev reports : LentDrain → ℕ
reports d = number_of d.answer

-- the test of the records stands for what is needed of them
pub readable-means : (k : ℕ) (rs : List Record) → Means (readable k rs) (Readable k rs)
unfolding readable
readable-means k rs =
    means-by (means-and (means-leb k (length rs)) (record { says = kind_at k rs; holds = kinds-of k rs })) (λ p. record { long = p.0; kinds = p.1 }) (λ p. (p.long, p.kinds))

module _ (m levels : ℕ) (mark : Bool) (rs : List Record) (ws : List ℕ) where
  abbrev s : State
  s = state_read (levels - 1) rs mark

  -- ---- a cycle
  -- an idle cycle runs wherever a cycle finds shape and nodes in order
  idle-runs : (r : Request) → Shape m levels (length ws) → (CycleDamage m levels r s ws → ⊥) → has_run (cycled m levels Idle s ws).answer ≡ true
  idle-runs r sh d =
      ap (λ (o : Step Answer Machine). has_run o.said)
      (clocks.idle-runs (timed m levels) r (machine s ws) ((shape-means m levels (length ws)).holds sh) (no-damage-sound m levels r s ws d))

  -- what a refused cycle leaves, in the host's memory
  left_as : readable (levels - 1) rs ≡ true → (n : Refusal) → (runs_idle n ≡ true → has_run (cycled m levels Idle s ws).answer ≡ true) → lent_of levels rs (cycle_left m levels s ws n) ≡ lent_left m levels mark rs ws n
  unfolding leaves lent_cycled
  left_as e n ran = rw e (go (runs_idle n) ran)
    where
      o : CycleOutcome
      o = cycled m levels Idle s ws

      go : (b : Bool) → (b ≡ true → has_run o.answer ≡ true)
          → (let x = cond {A = Machine} b (machine o.state o.words) (machine s ws) in let y = cond {A = Memory} b (memory (records_back levels rs (has_run o.answer) o.state) o.state.mark o.words) (memory rs mark ws) in
          lent_outcome (Err n) x.words (records_back levels rs b x.state) x.state.mark ≡ lent_outcome (Err n) y.words y.records y.mark)
      go true f = rw (f refl)
      go false f = refl

  -- EXACTLY: a lent cycle
  pub exactly-cycle : (r : Request) → Exactly said (lent_left m levels mark rs ws) (lent_cycled m levels mark rs ws r) (lent_refusals m levels mark rs ws r)
  unfolding lent_cycled
  exactly-cycle r =
      exactly-behind cycles.said (cycle_left m levels s ws) said (lent_left m levels mark rs ws) (lent_of levels rs) (λ o. refl) (λ n. refl) (λ n. refl) (readable (levels - 1) rs) (Readable (levels - 1) rs) BadShape (cycled m levels r s ws) (cycle_refusals m levels r s ws)
      (readable-means (levels - 1) rs) (cycles.exactly-cycle m levels r s ws)
      (λ p n u. left_as ((readable-means (levels - 1) rs).holds p) n (λ e.
      let q = given-later runs_idle false≢true false≢true n u e in
      idle-runs r q.0 q.1))

  -- LEFT BEHIND: 1 and 2 everything, words, records and mark
  pub stands : (r : Request) (n : Refusal) → said (lent_cycled m levels mark rs ws r) ≡ refusal_number n → lent_cycled m levels mark rs ws r ≡ lent_left m levels mark rs ws n
  stands r = left_behind said (lent_left m levels mark rs ws) (exactly-cycle r)

  -- ---- a drain
  module _ (budget : ℕ) where
    abbrev o : DrainOutcome
    o = drains m levels budget s ws

    abbrev d : LentDrain
    d = lent_drains m levels mark rs ws budget

    drain-read : readable (levels - 1) rs ≡ true → d ≡ drain_of levels rs o
    unfolding lent_drains
    drain-read e = rw e

    drain-by : cond (readable (levels - 1) rs) (drain_of levels rs o) (lent_drain_left m levels mark rs ws d.cycles BadShape) ≡ d
    unfolding lent_drains leaves
    drain-by = refl

    drain-left-as : readable (levels - 1) rs ≡ true → (n : Refusal) → drain_of levels rs (drain_left m levels o.cycles s ws n) ≡ lent_drain_left m levels mark rs ws d.cycles n
    unfolding leaves
    drain-left-as e n = go (is_bad_shape n)
      where
        is : d ≡ drain_of levels rs o
        is = drain-read e

        z : (o.words ≡ (idles m levels o.cycles s ws).words) × (o.state ≡ (idles m levels o.cycles s ws).state)
        z = model.drain-state m levels budget s ws

        go : (b : Bool) → (let ran = cond b 0 o.cycles in let did = cond b 0 d.cycles in let x = lent_idles m levels did (memory rs mark ws) in
            drain_of levels rs (drain_outcome (Err n) ran (not b) (idles m levels ran s ws).words (idles m levels ran s ws).state) ≡ lent_drain (Err n) did (not b) x.words x.records x.mark)
        go true = refl
        go false =
            (λ i. lent_drain (Err n) o.cycles true (sym z.0 i) (records_back levels rs (ltb 0 o.cycles) (sym z.1 i)) (sym z.1 i).mark)
            ∙ ap (λ (d : LentDrain). lent_drain (Err n) d.cycles true d.words d.records d.mark) (sym is)
            ∙ ap (λ (x : Memory). lent_drain (Err n) d.cycles true x.words x.records x.mark) (drain-cycles m levels mark rs ws budget)

    -- EXACTLY: a lent drain. Refused 2 it leaves the memory of the cycles already run
    pub exactly-drain : Exactly reports (lent_drain_left m levels mark rs ws d.cycles) d (lent_drain_refusals m levels mark rs ws budget)
    exactly-drain =
        subst (λ (v : LentDrain). Exactly reports (lent_drain_left m levels mark rs ws d.cycles) v (lent_drain_refusals m levels mark rs ws budget)) drain-by
        (exactly-behind (λ (d : DrainOutcome). number_of d.answer) (drain_left m levels o.cycles s ws) reports (lent_drain_left m levels mark rs ws d.cycles) (drain_of levels rs) (λ o. refl) (λ n. refl) (λ n. refl)
        (readable (levels - 1) rs) (Readable (levels - 1) rs) BadShape o (drain_refusals m levels budget s ws) (readable-means (levels - 1) rs) (model.exactly-drain m levels budget s ws)
        (λ p n u. drain-left-as ((readable-means (levels - 1) rs).holds p) n))

  -- ---- a clear
  -- EXACTLY: a lent clear is refused for its records or its shape, and then leaves everything
  pub exactly-clear : Exactly said (lent_clear_left m levels mark rs ws) (lent_cleared m levels mark rs ws) (lent_clear_refusals m levels mark rs ws)
  unfolding lent_cleared clocked_cleared
  exactly-clear =
      climb said (lent_clear_left m levels mark rs ws) refusal-told (leb (levels - 1) (length rs)) (levels - 1 ≤ length rs) BadShape _ (rung BadShape (Shape m levels (length ws)) fine) (means-leb (levels - 1) (length rs))
      (λ p. decided-exactly said (lent_clear_left m levels mark rs ws) refusal-told (lent_of levels rs) (λ n. cycle_outcome (Err n) ws (unread mark)) (needs BadShape (shape_ok m levels (length ws)) (Shape m levels (length ws)) ends)
      (cycle_outcome (Ok None) (wipe (room m levels) ws) fresh) fine (shape-means m levels (length ws), λ s. tt) (refl, tt) (λ c. climb-fine said (lent_clear_left m levels mark rs ws) _ (λ n z. zero-told n z)))
