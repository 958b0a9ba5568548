-- The clocked tree's calls over records in the host's own memory: "entry points that are lent this slice of records and do what the by-value form does,
-- record for record" (02 [13]). Each is the by-value call on the records read, and what that leaves is written back.
use Rattle.std.specs.Prelude.{◌&&◌, ◌-◌}
use Rattle.laws.specs.Prelude.{Answer, BadShape, Bool, Element, List, Request, cond, element, eqb, false, get_or, leb, length, ltb, not, replicate, set, suc, true, zero, ℕ, Err}
use Rattle.tree_clock_model.specs.Prelude.{CycleOutcome, DrainOutcome, clocked_cleared, cycled, drains, fresh, has_run, record_count}
use Rattle.tree_clock_model.specs.declared.State.{State}
use Rattle.tree_records.specs.declared.Record.{Record}
use Rattle.tree_model.specs.Prelude.{idle, is_nothing}
use Rattle.tree_model.specs.declared.Op.{Op}
use Rattle.tree_model.specs.declared.Op.TheVariants.{Nothing, Put, Swap, Take}
use Rattle.tree_model.specs.declared.Work.{Work}

-- ---- reading: "nothing, put, take or swap; a node number; an element", kinds 0 to 3
abbrev pub carries : Record → Element
carries r = element r.rank r.tag r.length

-- a record of nothing that is handed in. The by-value form never reads its number, and leaves it as it is where the record is not loaded: so this
-- number, which no cycle writes, says afterwards that the host's record stands
abbrev pub standing : Work
standing = record { op = Nothing; node = 1 }

unfoldable pub work_of : Record → Work
work_of r =
    cond (eqb r.kind 1) (record { op = Put (carries r); node = r.node })
    (cond (eqb r.kind 2) (record { op = Take; node = r.node })
    (cond (eqb r.kind 3) (record { op = Swap (carries r); node = r.node }) standing))

-- a record that carries no element, and one that does: "Numbers that a record's kind doesn't use are written 0"
abbrev pub bare_record : ℕ → ℕ → Record
bare_record kind node = record { kind = kind; node = node; rank = 0; tag = 0; length = 0 }

abbrev pub laden_record : ℕ → ℕ → Element → Record
laden_record kind node x = record { kind = kind; node = node; rank = x.rank.0; tag = x.tag.0; length = x.length.0 }

abbrev pub no_record : Record
no_record = bare_record 0 0

-- the first k records; past them nothing is pending
unfoldable pub works_read : ℕ → List Record → List Work
works_read zero rs = replicate record_count idle
works_read (suc k) rs = set (works_read k rs) k (work_of (get_or rs k no_record))

abbrev pub state_read : ℕ → List Record → Bool → State
state_read k rs mark = record { records = works_read k rs; mark = mark }

-- the kinds of the first k records are kinds
unfoldable pub kinds_ok : ℕ → List Record → Bool
kinds_ok zero rs = true
kinds_ok (suc k) rs = kinds_ok k rs && leb (get_or rs k no_record).kind 3

-- "A slice shorter than levels less one is refusal 1", and so is a kind that is none
unfoldable pub readable : ℕ → List Record → Bool
readable k rs = leb k (length rs) && kinds_ok k rs

-- ---- writing
abbrev pub record_by : Op → ℕ → Record
record_by Nothing n = no_record
record_by (Put x) n = laden_record 1 n x
record_by Take n = bare_record 2 n
record_by (Swap x) n = laden_record 3 n x

abbrev pub record_of : Work → Record
record_of w = record_by w.op w.node

-- the host's record r, where the by-value form leaves w for it: a record of nothing that was not loaded "stands as it was handed in"
abbrev pub stands : Work → Bool
stands w = is_nothing w.op && not (eqb w.node 0)

unfoldable pub handed : Record → Work → Record
handed r w = cond (stands w) r (record_of w)

-- the first k records; "records past it aren't touched"
unfoldable pub works_back : ℕ → List Work → List Record → List Record
works_back zero ws rs = rs
works_back (suc k) ws rs = set (works_back k ws rs) k (handed (get_or rs k no_record) (get_or ws k idle))

-- ---- what the calls answer and leave
pub record LentOutcome : Type 0 where
  pub answer : Answer
  pub words : List ℕ
  pub records : List Record
  pub mark : Bool

abbrev pub lent_outcome : Answer → List ℕ → List Record → Bool → LentOutcome
lent_outcome a ws rs mark = record { answer = a; words = ws; records = rs; mark = mark }

pub record LentDrain : Type 0 where
  pub answer : Answer
  pub cycles : ℕ
  pub left : Bool
  pub words : List ℕ
  pub records : List Record
  pub mark : Bool

abbrev pub lent_drain : Answer → ℕ → Bool → List ℕ → List Record → Bool → LentDrain
lent_drain a n left ws rs mark = record { answer = a; cycles = n; left = left; words = ws; records = rs; mark = mark }

module _ (levels : ℕ) (rs : List Record) where
  -- the records of levels less one where a cycle ran, and else none
  abbrev pub records_back : Bool → State → List Record
  records_back ran s = cond ran (works_back (levels - 1) s.records rs) rs

  abbrev pub lent_of : CycleOutcome → LentOutcome
  lent_of o = lent_outcome o.answer o.words (records_back (has_run o.answer) o.state) o.state.mark

  abbrev pub drain_of : DrainOutcome → LentDrain
  drain_of d = lent_drain d.answer d.cycles d.left d.words (records_back (ltb 0 d.cycles) d.state) d.state.mark

module _ (m levels : ℕ) (mark : Bool) (rs : List Record) (ws : List ℕ) where
  unfoldable pub lent_cycled : Request → LentOutcome
  lent_cycled r =
      cond (readable (levels - 1) rs) (lent_of levels rs (cycled m levels r (state_read (levels - 1) rs mark) ws)) (lent_outcome (Err BadShape) ws rs mark)

  -- "The state left is that of exactly so many idle cycles" (`drain-cycles` in proofs/)
  unfoldable pub lent_drains : ℕ → LentDrain
  lent_drains budget =
      cond (readable (levels - 1) rs) (drain_of levels rs (drains m levels budget (state_read (levels - 1) rs mark) ws)) (lent_drain (Err BadShape) 0 false ws rs mark)

  -- a clear reads no record
  unfoldable pub lent_cleared : LentOutcome
  lent_cleared =
      cond (leb (levels - 1) (length rs)) (lent_of levels rs (clocked_cleared m levels (record { records = fresh.records; mark = mark }) ws))
      (lent_outcome (Err BadShape) ws rs mark)
