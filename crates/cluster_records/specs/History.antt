-- What is promised of lent calls is said in these words: the host's memory beside a machine that goes by value.
use Rattle.std.specs.Prelude.{◌-◌, ◌≡◌}
use Rattle.laws.specs.Prelude.{Answer, Idle, List, Refusal, Request, cond, length, not, replicate, true, ℕ, Err}
use Rattle.promise.specs.Prelude.{Step, is_bad_shape, leaves, step}
use Rattle.cluster_clock_model.specs.Prelude.{Machine}
use Rattle.cluster_records.specs.Lent.{ClusterRecord, lent_cleared, lent_drain, LentDrain, lent_cycled, readable, stages_read}
use Rattle.cluster_model.specs.Prelude.{Shape}

-- ---- what the host keeps: its records and the store
pub record Memory : Type 0 where
  pub records : List ClusterRecord
  pub words : List ℕ

abbrev pub memory : List ClusterRecord → List ℕ → Memory
memory rs ws = record { records = rs; words = ws }

module _ (K levels : ℕ) where
  -- the lent cycle as a queue, each handed the memory that the one before left
  abbrev pub lent_queue : Request → Memory → Step Answer Memory
  lent_queue r x =
      let o = lent_cycled K levels x.records x.words r in
      step o.answer (memory o.records o.words)

  abbrev pub lent_idles : ℕ → Memory → Memory
  lent_idles n x = leaves lent_queue (replicate n Idle) x

  -- what a refused drain that ran so many cycles leaves: "Drain stops at 2 and reports the cycles already run, work left; at 1 it reports 0 and no work left"
  abbrev pub lent_drain_left : ℕ → Memory → Refusal → LentDrain
  lent_drain_left cycles x n =
      let ran = cond (is_bad_shape n) 0 cycles in
      let y = lent_idles ran x in
      lent_drain (Err n) ran (not (is_bad_shape n)) y.words y.records

  -- what a clear makes of it
  abbrev pub cleared_memory : Memory → Memory
  cleared_memory x =
      let o = lent_cleared K levels x.records x.words in
      memory o.records o.words

-- the memory x holds the machine y: its records can be read, and what is read and the words are y's
pub record Holds (K levels : ℕ) (x : Memory) (y : Machine) : Type 0 where
  pub shape : Shape K levels (length y.words)
  pub read : readable (levels - 1) x.records ≡ true
  pub stages : stages_read (levels - 1) x.records ≡ y.records
  pub words : x.words ≡ y.words
