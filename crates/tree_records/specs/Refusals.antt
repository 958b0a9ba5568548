-- The tables of refusals of the lent calls, and what each refusal leaves behind: words, records and mark.
use Rattle.std.specs.Prelude.{◌-◌, ◌<◌, ◌≤◌}
use Rattle.laws.specs.Prelude.{BadShape, Bool, Ladder, List, Refusal, Request, cond, fine, get_or, length, not, rung, ℕ, Err}
use Rattle.tree_clock_model.specs.Prelude.{cycle_refusals, drain_refusals, is_bad_shape, runs_idle}
use Rattle.tree_records.specs.History.{lent_idles, Memory, memory}
use Rattle.tree_records.specs.Lent.{lent_drain, LentDrain, lent_outcome, LentOutcome, no_record, state_read}
use Rattle.tree_records.specs.declared.Record.{Record}
use Rattle.tree_model.specs.Prelude.{Shape}

-- what a cycle and a drain need of the host's records: one for each level from 2, of kinds 0 to 3
pub record Readable (k : ℕ) (rs : List Record) : Type 0 where
  pub long : k ≤ length rs
  pub kinds : (i : ℕ) → i < k → (get_or rs i no_record).kind ≤ 3

module _ (m levels : ℕ) (mark : Bool) (rs : List Record) (ws : List ℕ) where
  abbrev handed_in : Memory
  handed_in = memory rs mark ws

  -- 1 for the records; then the table of the by-value form, on what is read
  abbrev pub lent_refusals : Request → Ladder Refusal
  lent_refusals r = rung BadShape (Readable (levels - 1) rs) (cycle_refusals m levels r (state_read (levels - 1) rs mark) ws)

  abbrev pub lent_drain_refusals : ℕ → Ladder Refusal
  lent_drain_refusals budget = rung BadShape (Readable (levels - 1) rs) (drain_refusals m levels budget (state_read (levels - 1) rs mark) ws)

  -- a clear reads no record, and asks for their number alone
  abbrev pub lent_clear_refusals : Ladder Refusal
  lent_clear_refusals = rung BadShape (levels - 1 ≤ length rs) (rung BadShape (Shape m levels (length ws)) fine)

  -- column "Left behind": after 1 and 2 "everything, mark and records too"; after the others the "cycle runs as idle"
  abbrev pub lent_left : Refusal → LentOutcome
  lent_left n = let x = cond {A = Memory} (runs_idle n) (lent_idles m levels 1 handed_in) handed_in in lent_outcome (Err n) x.words x.records x.mark

  -- .. of a clear everything
  abbrev pub lent_clear_left : Refusal → LentOutcome
  lent_clear_left n = lent_outcome (Err n) ws rs mark

  -- "Drain stops at 2 and reports the cycles already run, work left; at 1 it reports 0 and no work left": the memory is that of so many idle cycles
  abbrev pub lent_drain_left : ℕ → Refusal → LentDrain
  lent_drain_left cycles n =
      let ran = cond (is_bad_shape n) 0 cycles in
      let x = lent_idles m levels ran handed_in in
      lent_drain (Err n) ran (not (is_bad_shape n)) x.words x.records x.mark
