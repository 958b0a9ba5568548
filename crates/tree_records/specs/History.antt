-- What is promised of lent calls is said in these words: the host's memory beside a machine that goes by value.
use Rattle.std.specs.Prelude.{◌-◌, ◌≡◌}
use Rattle.laws.specs.Prelude.{Answer, Bool, Idle, List, Request, length, replicate, true, ℕ}
use Rattle.tree_clock_model.specs.Prelude.{Machine, record_count, works_of}
use Rattle.tree_records.specs.Lent.{lent_cleared, lent_cycled, no_record, readable, record_of, works_read}
use Rattle.tree_records.specs.declared.Record.{Record}
use Rattle.promise.specs.Prelude.{Step, leaves, step}
use Rattle.tree_model.specs.Prelude.{Shape, IsWork}
use Rattle.tree_model.specs.declared.Op.TheVariants.{Nothing}
use Rattle.tree_model.specs.declared.Work.{Work}

-- ---- what the host keeps: its records, the mark, and the store
pub record Memory : Type 0 where
  pub records : List Record
  pub mark : Bool
  pub words : List ℕ

abbrev pub memory : List Record → Bool → List ℕ → Memory
memory rs mark ws = record { records = rs; mark = mark; words = ws }

module _ (m levels : ℕ) where
  -- the lent cycle as a queue, each handed the memory that the one before left
  abbrev pub lent_queue : Request → Memory → Step Answer Memory
  lent_queue r x =
      let o = lent_cycled m levels x.mark x.records x.words r in
      step o.answer (memory o.records o.mark o.words)

  abbrev pub lent_idles : ℕ → Memory → Memory
  lent_idles n x = leaves lent_queue (replicate n Idle) x

  -- what a clear makes of it
  abbrev pub cleared_memory : Memory → Memory
  cleared_memory x =
      let o = lent_cleared m levels x.mark x.records x.words in
      memory o.records o.mark o.words

-- the memory x holds the machine y: its records can be read, and the work of each level, the mark and the words are y's
pub record Holds (m levels : ℕ) (x : Memory) (y : Machine) : Type 0 where
  pub shape : Shape m levels (length y.words)
  pub read : readable (levels - 1) x.records ≡ true
  pub works : works_of (levels - 1) (works_read (levels - 1) x.records) 0 ≡ works_of (levels - 1) y.state.records 0
  pub mark : x.mark ≡ y.state.mark
  pub words : x.words ≡ y.words
  pub few : length y.state.records ≡ record_count

-- one record over a cycle that runs: q is what the level above leaves for it, r what the host handed in, v what it is then
pub record RecordStep (q : Work) (r v : Record) : Type 0 where
  -- "it loads the next level's record"
  pub loaded : IsWork q.op → v ≡ record_of q
  -- work done and nothing loaded: "Numbers that a record's kind doesn't use are written 0"
  pub finished : q.op ≡ Nothing → (r.kind ≡ 0 → ⊥) → v ≡ no_record
  -- "A level with nothing to do changes no word": it stands, whatever its numbers
  pub stands : q.op ≡ Nothing → r.kind ≡ 0 → v ≡ r
