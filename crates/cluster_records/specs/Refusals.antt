-- The tables of refusals of the lent calls, and what each refusal leaves behind: words and records. A drain's is in `History.antt`, beside the list of calls.
use Rattle.std.specs.Prelude.{◌-◌, ◌<◌, ◌≤◌}
use Rattle.laws.specs.Prelude.{BadShape, Idle, Ladder, List, Refusal, Request, cond, fine, get_or, length, rung, runs_idle, ℕ, Err}
use Rattle.cluster_clock_model.specs.Prelude.{cycle_refusals, drain_refusals}
use Rattle.cluster_records.specs.Lent.{ClusterRecord, kind_in, lent_outcome, LentOutcome, lent_cycled, no_record, stages_read}
use Rattle.cluster_model.specs.Prelude.{Shape}

-- what a cycle and a drain need of the host's records: one for each level from 2, of kinds 0 to 3
pub record Readable (k : ℕ) (rs : List ClusterRecord) : Type 0 where
  pub long : k ≤ length rs
  pub kinds : (i : ℕ) → i < k → kind_in (get_or rs i no_record) ≤ 3

module _ (K levels : ℕ) (rs : List ClusterRecord) (ws : List ℕ) where
  -- 1 for the records; then the table of the by-value form, on what is read
  abbrev pub lent_refusals : Request → Ladder Refusal
  lent_refusals r = rung BadShape (Readable (levels - 1) rs) (cycle_refusals K levels r (stages_read (levels - 1) rs) ws)

  abbrev pub lent_drain_refusals : ℕ → Ladder Refusal
  lent_drain_refusals budget = rung BadShape (Readable (levels - 1) rs) (drain_refusals K levels budget (stages_read (levels - 1) rs) ws)

  -- a clear reads no record, and asks for their number alone
  abbrev pub lent_clear_refusals : Ladder Refusal
  lent_clear_refusals = rung BadShape (levels - 1 ≤ length rs) (rung BadShape (Shape K levels (length ws)) fine)

  -- column "Left behind": after 1 and 2 everything, records too; after the others the "cycle runs as idle"
  abbrev pub lent_clear_left : Refusal → LentOutcome
  lent_clear_left n = lent_outcome (Err n) ws rs

  abbrev pub lent_left : Refusal → LentOutcome
  lent_left n = let x = cond {A = LentOutcome} (runs_idle n) (lent_cycled K levels rs ws Idle) (lent_clear_left n) in lent_outcome (Err n) x.words x.records
