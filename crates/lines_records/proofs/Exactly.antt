-- Every refusal of a lent cycle, drain and clear is given exactly for its cause, and leaves words and record as its table says.
use Rattle.laws.specs.Prelude.{BadShape, Exactly, First, Idle, List, Means, Refusal, Request, ◌≡◌, ◌≤◌, inl, inr, leb, length, means-and, means-by, means-leb, number_of, refl, subst, sym, ℕ}
use Rattle.lines_model.proofs.Clocked.{clock-answers-so}
use Rattle.lines_model.specs.Clock.{clock, clock_cleared, drains, Machine, machine, cycled, ticking}
use Rattle.lines_model.specs.declared.Due.TheVariants.{Rest}
use Rattle.lines_model.specs.declared.Rows.{Rows}
use Rattle.lines_records.specs.Lent.{drain_of, first_of, kind_in, LentDrain, lent_cleared, lent_cycled, lent_drains, lent_of, LentOutcome, LineRecord, machine_in, readable}
use Rattle.lines_records.specs.Refusals.{lent_clear_left, lent_clear_refusals, lent_drain_left, lent_drain_refusals, lent_left, lent_refusals, Readable}
use Rattle.promise.proofs.Handed.{exactly-behind}
use Rattle.promise.specs.Prelude.{Drained, Outcome, asking, behind, cycle_left, cycle_refusals, drain_refusals, leaves, left, wipe_refusals}

readable-means : (rs : List LineRecord) → Means (readable rs) (Readable rs)
unfolding readable
readable-means rs =
    means-by (means-and (means-leb 1 (length rs)) (means-leb (kind_in (first_of rs)) 3)) (λ p. record { long = p.0; kind = p.1 }) (λ p. (p.long, p.kind))

module _ (k : Rows) (rs : List LineRecord) (ws : List ℕ) where
  abbrev m : Machine
  m = machine_in k rs ws

  -- EXACTLY: a lent cycle
  pub exactly-cycle : (q : Request) → Exactly (λ (o : LentOutcome). number_of o.answer) (lent_left k rs ws) (lent_cycled k rs ws q) (lent_refusals k rs ws q)
  unfolding lent_cycled cycled
  exactly-cycle q =
      exactly-behind (λ (o : Outcome Machine). number_of o.answer) (cycle_left (clock k) (ticking k) m) (λ (o : LentOutcome). number_of o.answer) (lent_left k rs ws) (lent_of rs) (λ o. refl) (λ n. refl) (λ n. refl)
      (readable rs) (Readable rs) BadShape (cycled k q m) (cycle_refusals (clock k) q m) (readable-means rs) ((clock-answers-so k).exactly q m) (λ p n u. refl)

  -- .. a lent drain
  pub exactly-drain : (b : ℕ) → Exactly (λ (d : LentDrain). number_of d.answer) (lent_drain_left k rs ws (drains k b m).cycles) (lent_drains k rs ws b) (lent_drain_refusals k rs ws b)
  unfolding lent_drains drains leaves
  exactly-drain b =
      exactly-behind (λ (d : Drained Machine). number_of d.answer) (behind (asking (clock k) (ticking k)) (drains k b m).cycles m) (λ (d : LentDrain). number_of d.answer) (lent_drain_left k rs ws (drains k b m).cycles)
      (drain_of rs) (λ o. refl) (λ n. refl) (λ n. refl) (readable rs) (Readable rs) BadShape (drains k b m)
      (drain_refusals (asking (clock k) (ticking k)) (clock k).pending ((clock k).Torn Idle) (clock k).Shape b m) (readable-means rs) ((clock-answers-so k).exactly-drain b m) (λ p n u. refl)

  -- .. and a lent clear, for the record or the shape
  pub exactly-clear : Exactly (λ (o : LentOutcome). number_of o.answer) (lent_clear_left k rs ws) (lent_cleared k rs ws) (lent_clear_refusals k rs ws)
  unfolding lent_cleared clock_cleared
  exactly-clear =
      exactly-behind (λ (o : Outcome Machine). number_of o.answer) (left (machine ws Rest)) (λ (o : LentOutcome). number_of o.answer) (lent_clear_left k rs ws) (lent_of rs) (λ o. refl) (λ n. refl) (λ n. refl)
      (leb 1 (length rs)) (1 ≤ length rs) BadShape (clock_cleared k (machine ws Rest)) (wipe_refusals (clock k) (machine ws Rest)) (means-leb 1 (length rs)) ((clock-answers-so k).exactly-clear (machine ws Rest)) (λ p. only)
    where
      only : (n : Refusal) → First (wipe_refusals (clock k) (machine ws Rest)) n → lent_of rs (left (machine ws Rest) n) ≡ lent_clear_left k rs ws n
      only n (inl u) = subst (λ (n : Refusal). lent_of rs (left (machine ws Rest) n) ≡ lent_clear_left k rs ws n) (sym u.1) refl
      only n (inr u) = absurd u.1
