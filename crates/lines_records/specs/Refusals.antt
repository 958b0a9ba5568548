-- The tables of refusals of the lent calls, and what each refusal leaves behind: words and record. These are definitions.
use Rattle.std.specs.Prelude.{◌≤◌}
use Rattle.laws.specs.Prelude.{BadShape, Idle, Ladder, List, Refusal, Request, length, rung, ℕ, Err}
use Rattle.lines_model.specs.Clock.{clock, machine, ticking}
use Rattle.lines_model.specs.declared.Due.TheVariants.{Rest}
use Rattle.lines_model.specs.declared.Rows.{Rows}
use Rattle.lines_records.specs.Lent.{drain_of, first_of, kind_in, LentDrain, lent_of, lent_outcome, LentOutcome, LineRecord, machine_in}
use Rattle.promise.specs.Prelude.{asking, behind, cycle_left, cycle_refusals, drain_refusals, wipe_refusals}

-- what a cycle and a drain need of the host's record: it is there, and its kind is one
pub record Readable (rs : List LineRecord) : Type 0 where
  pub long : 1 ≤ length rs
  pub kind : kind_in (first_of rs) ≤ 3

module _ (k : Rows) (rs : List LineRecord) (ws : List ℕ) where
  -- 1 for the record; then the table of the by-value form, on what is read
  abbrev pub lent_refusals : Request → Ladder Refusal
  lent_refusals q = rung BadShape (Readable rs) (cycle_refusals (clock k) q (machine_in k rs ws))

  abbrev pub lent_drain_refusals : ℕ → Ladder Refusal
  lent_drain_refusals b =
      rung BadShape (Readable rs) (drain_refusals (asking (clock k) (ticking k)) (clock k).pending ((clock k).Torn Idle) (clock k).Shape b (machine_in k rs ws))

  -- a clear reads no record, and asks that there is one
  abbrev pub lent_clear_refusals : Ladder Refusal
  lent_clear_refusals = rung BadShape (1 ≤ length rs) (wipe_refusals (clock k) (machine ws Rest))

  -- what the by-value refusal leaves, in the host's memory: after 1 and 2 everything, the record too; after the others what the idle cycle leaves
  abbrev pub lent_left : Refusal → LentOutcome
  lent_left n = lent_of rs (cycle_left (clock k) (ticking k) (machine_in k rs ws) n)

  -- .. of a drain that ran so many cycles
  abbrev pub lent_drain_left : ℕ → Refusal → LentDrain
  lent_drain_left cycles n = drain_of rs (behind (asking (clock k) (ticking k)) cycles (machine_in k rs ws) n)

  -- .. and of a clear everything
  abbrev pub lent_clear_left : Refusal → LentOutcome
  lent_clear_left n = lent_outcome (Err n) ws rs
