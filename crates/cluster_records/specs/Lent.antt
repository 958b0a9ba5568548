-- The clocked cluster heap's calls over records in the host's own memory, as 02 [13] has them for the tree: each is the by-value call on the records read,
-- and what that leaves is written back.
use Rattle.std.specs.Prelude.{◌&&◌, ◌-◌, ◌∷◌}
use Rattle.laws.specs.Prelude.{Answer, BadShape, Bool, Element, List, Request, [], cond, element, eqb, false, get_or, has_run, leb, length, ltb, set, suc, true, zero, ℕ, Err}
use Rattle.cluster_clock_model.specs.Prelude.{CycleOutcome, DrainOutcome, clock_cleared, cycled, drains, fresh, no_stage, stage, stage_at}
use Rattle.cluster_clock_model.specs.declared.Due.{Due}
use Rattle.cluster_clock_model.specs.declared.Due.TheVariants.{Fill, Nothing, Put, Swap}
use Rattle.cluster_clock_model.specs.declared.Stage.{Stage}

-- ---- a record as it lies in the host's memory: six numbers, kind, node, place, rank, tag, length
abbrev pub ClusterRecord : Type 0
ClusterRecord = List ℕ

abbrev pub kind_in : ClusterRecord → ℕ
kind_in r = get_or r 0 0

abbrev pub at_node : ClusterRecord → ℕ
at_node r = get_or r 1 0

abbrev pub at_place : ClusterRecord → ℕ
at_place r = get_or r 2 0

-- ---- reading: kinds 0 nothing, 1 put, 2 fill, 3 swap. A record of nothing is read as nothing, whatever its other numbers
abbrev pub carries : ClusterRecord → Element
carries r = element (get_or r 3 0) (get_or r 4 0) (get_or r 5 0)

unfoldable pub stage_of : ClusterRecord → Stage
stage_of r =
    cond (eqb (kind_in r) 1) (stage (Put (carries r)) (at_node r))
    (cond (eqb (kind_in r) 2) (stage (Fill (at_place r)) (at_node r))
    (cond (eqb (kind_in r) 3) (stage (Swap (at_place r) (carries r)) (at_node r)) no_stage))

-- a record that carries no element, and one that does: "Numbers that a kind does not use are written 0"
abbrev pub bare_record : ℕ → ℕ → ℕ → ClusterRecord
bare_record kind node place = kind ∷ node ∷ place ∷ 0 ∷ 0 ∷ 0 ∷ []

abbrev pub laden_record : ℕ → ℕ → ℕ → Element → ClusterRecord
laden_record kind node place x = kind ∷ node ∷ place ∷ x.rank.0 ∷ x.tag.0 ∷ x.length.0 ∷ []

abbrev pub no_record : ClusterRecord
no_record = bare_record 0 0 0

-- the first k records; past them nothing is pending
unfoldable pub stages_read : ℕ → List ClusterRecord → List Stage
stages_read zero rs = fresh
stages_read (suc k) rs = set (stages_read k rs) k (stage_of (get_or rs k no_record))

-- the kinds of the first k records are kinds
unfoldable pub kinds_ok : ℕ → List ClusterRecord → Bool
kinds_ok zero rs = true
kinds_ok (suc k) rs = kinds_ok k rs && leb (kind_in (get_or rs k no_record)) 3

-- "A slice shorter than levels less one is refusal 1", and so is a kind that is none
unfoldable pub readable : ℕ → List ClusterRecord → Bool
readable k rs = leb k (length rs) && kinds_ok k rs

-- ---- writing
abbrev pub record_by : Due → ℕ → ClusterRecord
record_by Nothing n = no_record
record_by (Put y) n = laden_record 1 n 0 y
record_by (Fill j) n = bare_record 2 n j
record_by (Swap j x) n = laden_record 3 n j x

abbrev pub record_of : Stage → ClusterRecord
record_of q = record_by q.due q.node

-- the first k records; "records past it aren't touched"
unfoldable pub stages_back : ℕ → List Stage → List ClusterRecord → List ClusterRecord
stages_back zero qs rs = rs
stages_back (suc k) qs rs = set (stages_back k qs rs) k (record_of (stage_at qs k))

-- ---- what the calls answer and leave
pub record LentOutcome : Type 0 where
  pub answer : Answer
  pub words : List ℕ
  pub records : List ClusterRecord

abbrev pub lent_outcome : Answer → List ℕ → List ClusterRecord → LentOutcome
lent_outcome a ws rs = record { answer = a; words = ws; records = rs }

pub record LentDrain : Type 0 where
  pub answer : Answer
  pub cycles : ℕ
  pub left : Bool
  pub words : List ℕ
  pub records : List ClusterRecord

abbrev pub lent_drain : Answer → ℕ → Bool → List ℕ → List ClusterRecord → LentDrain
lent_drain a n left ws rs = record { answer = a; cycles = n; left = left; words = ws; records = rs }

module _ (levels : ℕ) (rs : List ClusterRecord) where
  -- the records of levels less one where a cycle ran, and else none
  abbrev pub records_back : Bool → List Stage → List ClusterRecord
  records_back ran qs = cond ran (stages_back (levels - 1) qs rs) rs

  abbrev pub lent_of : CycleOutcome → LentOutcome
  lent_of o = lent_outcome o.answer o.words (records_back (has_run o.answer) o.records)

  abbrev pub drain_of : DrainOutcome → LentDrain
  drain_of d = lent_drain d.answer d.cycles d.left d.words (records_back (ltb 0 d.cycles) d.records)

module _ (K levels : ℕ) (rs : List ClusterRecord) (ws : List ℕ) where
  unfoldable pub lent_cycled : Request → LentOutcome
  lent_cycled r = cond (readable (levels - 1) rs) (lent_of levels rs (cycled K levels r (stages_read (levels - 1) rs) ws)) (lent_outcome (Err BadShape) ws rs)

  unfoldable pub lent_drains : ℕ → LentDrain
  lent_drains budget = cond (readable (levels - 1) rs) (drain_of levels rs (drains K levels budget (stages_read (levels - 1) rs) ws)) (lent_drain (Err BadShape) 0 false ws rs)

  -- a clear reads no record
  unfoldable pub lent_cleared : LentOutcome
  lent_cleared = cond (leb (levels - 1) (length rs)) (lent_of levels rs (clock_cleared K levels fresh ws)) (lent_outcome (Err BadShape) ws rs)
