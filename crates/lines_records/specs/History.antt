-- What is promised of lent calls is said in these words: the host's memory beside a machine that goes by value. These are definitions.
use Rattle.std.specs.Prelude.{◌≡◌}
use Rattle.laws.specs.Prelude.{Answer, List, true, ℕ}
use Rattle.lines_model.specs.Clock.{Machine}
use Rattle.lines_model.specs.declared.Rows.{Rows}
use Rattle.lines_records.specs.Lent.{first_of, lent_cleared, lent_cycled, lent_drains, LineRecord, pending_of, readable}
use Rattle.promise.specs.Prelude.{SoleCall, Step, cycle, drain, step}

-- what the host keeps: its record and the store
pub record Memory : Type 0 where
  pub records : List LineRecord
  pub words : List ℕ

abbrev pub memory : List LineRecord → List ℕ → Memory
memory rs ws = record { records = rs; words = ws }

module _ (k : Rows) where
  -- cycles and drains, each handed the memory that the one before left
  abbrev pub lent_calls : SoleCall → Memory → Step Answer Memory
  lent_calls (cycle q) x =
      let o = lent_cycled k x.records x.words q in
      step o.answer (memory o.records o.words)
  lent_calls (drain b) x =
      let d = lent_drains k x.records x.words b in
      step d.answer (memory d.records d.words)

  -- what a clear makes of it
  abbrev pub cleared_memory : Memory → Memory
  cleared_memory x =
      let o = lent_cleared k x.records x.words in
      memory o.records o.words

-- the memory x holds the machine m: its record can be read, and what is read and the words are m's
pub record Holds (x : Memory) (m : Machine) : Type 0 where
  pub read : readable x.records ≡ true
  pub due : pending_of (first_of x.records) ≡ m.due
  pub words : x.words ≡ m.words
