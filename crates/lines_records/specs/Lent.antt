-- The clocked lines' calls over a record in the host's own memory: each is the by-value call on what the record holds, and what that leaves is written back. These
-- are definitions.
use Rattle.std.specs.Prelude.{◌&&◌, ◌∷◌}
use Rattle.laws.specs.Prelude.{Answer, BadShape, Bool, Element, List, Request, [], cond, element, eqb, false, get_or, has_run, leb, length, ltb, set, ℕ, Err}
use Rattle.lines_model.specs.Clock.{clock_cleared, drains, Machine, machine, cycled}
use Rattle.lines_model.specs.declared.Due.{Due}
use Rattle.lines_model.specs.declared.Due.TheVariants.{Put, Rest, Swap, Take}
use Rattle.lines_model.specs.declared.Rows.{Rows}
use Rattle.promise.specs.Prelude.{Drained, Outcome}

-- a word of 32 bits is below this
abbrev pub word_limit : ℕ
word_limit = 4294967296

-- ---- a record as it lies in the host's memory: five numbers, kind, line, rank, tag, length
abbrev pub LineRecord : Type 0
LineRecord = List ℕ

abbrev pub kind_in : LineRecord → ℕ
kind_in r = get_or r 0 0

abbrev pub line_in : LineRecord → ℕ
line_in r = get_or r 1 0

abbrev pub carries : LineRecord → Element
carries r = element (get_or r 2 0) (get_or r 3 0) (get_or r 4 0)

-- ---- reading: kinds 0 nothing, 1 push, 2 pop, 3 replace. A record of nothing is read as nothing, whatever its other numbers
unfoldable pub pending_of : LineRecord → Due
pending_of r =
    cond (eqb (kind_in r) 1) (Put (line_in r) (carries r))
    (cond (eqb (kind_in r) 2) (Take (line_in r))
    (cond (eqb (kind_in r) 3) (Swap (line_in r) (carries r)) Rest))

-- ---- writing: "Numbers that a kind does not use are written 0"
abbrev pub bare_record : ℕ → ℕ → LineRecord
bare_record kind line = kind ∷ line ∷ 0 ∷ 0 ∷ 0 ∷ []

abbrev pub laden_record : ℕ → ℕ → Element → LineRecord
laden_record kind line x = kind ∷ line ∷ x.rank.0 ∷ x.tag.0 ∷ x.length.0 ∷ []

abbrev pub no_record : LineRecord
no_record = bare_record 0 0

abbrev pub record_of : Due → LineRecord
record_of Rest = no_record
record_of (Put l x) = laden_record 1 l x
record_of (Take l) = bare_record 2 l
record_of (Swap l x) = laden_record 3 l x

-- ---- the host lends a slice: "only the first is read and written"
abbrev pub first_of : List LineRecord → LineRecord
first_of rs = get_or rs 0 []

-- "no record, or a kind above 3" is refusal 1
unfoldable pub readable : List LineRecord → Bool
readable rs = leb 1 (length rs) && leb (kind_in (first_of rs)) 3

-- "the record becomes the request's, or nothing with all numbers 0 where none was accepted"; after 1 and 2 it stands
abbrev pub records_back : Bool → Due → List LineRecord → List LineRecord
records_back ran d rs = cond ran (set rs 0 (record_of d)) rs

-- ---- what the calls answer and leave
pub record LentOutcome : Type 0 where
  pub answer : Answer
  pub words : List ℕ
  pub records : List LineRecord

abbrev pub lent_outcome : Answer → List ℕ → List LineRecord → LentOutcome
lent_outcome a ws rs = record { answer = a; words = ws; records = rs }

pub record LentDrain : Type 0 where
  pub answer : Answer
  pub cycles : ℕ
  pub left : Bool
  pub words : List ℕ
  pub records : List LineRecord

abbrev pub lent_drain : Answer → ℕ → Bool → List ℕ → List LineRecord → LentDrain
lent_drain a n left ws rs = record { answer = a; cycles = n; left = left; words = ws; records = rs }

abbrev pub lent_of : List LineRecord → Outcome Machine → LentOutcome
lent_of rs o = lent_outcome o.answer o.words.words (records_back (has_run o.answer) o.words.due rs)

abbrev pub drain_of : List LineRecord → Drained Machine → LentDrain
drain_of rs d = lent_drain d.answer d.cycles d.left d.state.words (records_back (ltb 0 d.cycles) d.state.due rs)

module _ (k : Rows) (rs : List LineRecord) (ws : List ℕ) where
  abbrev pub machine_in : Machine
  machine_in = machine ws (pending_of (first_of rs))

  unfoldable pub lent_cycled : Request → LentOutcome
  lent_cycled q = cond (readable rs) (lent_of rs (cycled k q machine_in)) (lent_outcome (Err BadShape) ws rs)

  unfoldable pub lent_drains : ℕ → LentDrain
  lent_drains budget = cond (readable rs) (drain_of rs (drains k budget machine_in)) (lent_drain (Err BadShape) 0 false ws rs)

  -- a clear reads no record
  unfoldable pub lent_cleared : LentOutcome
  lent_cleared = cond (leb 1 (length rs)) (lent_of rs (clock_cleared k (machine ws Rest))) (lent_outcome (Err BadShape) ws rs)
