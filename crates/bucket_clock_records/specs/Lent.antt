-- The clocked bucket queue's records in the host's own memory: what is read of them, and what is written back. These are definitions.
use Rattle.std.specs.Prelude.{◌&&◌, ◌∷◌}
use Rattle.laws.specs.Prelude.{Bool, Element, Idle, List, Pop, Push, Replace, Request, [], cond, element, eqb, get_or, leb, length, set, suc, zero, ℕ}
use Rattle.bucket_clock_model.specs.declared.Waiting.{Waiting}
use Rattle.bucket_clock_model.specs.Desk.{fresh, no_work, record_count, waiting, work_at}
use Rattle.bucket_clock_records.specs.declared.WorksRead.{WorksRead}

-- ---- a record as it lies in the host's memory: five numbers, kind, way, rank, tag, length
abbrev pub BucketRecord : Type 0
BucketRecord = List ℕ

abbrev pub kind_in : BucketRecord → ℕ
kind_in r = get_or r 0 0

abbrev pub way_in : BucketRecord → ℕ
way_in r = get_or r 1 0

abbrev pub carries : BucketRecord → Element
carries r = element (get_or r 2 0) (get_or r 3 0) (get_or r 4 0)

-- ---- reading: "kind 0 nothing, 1 push, 2 pop, 3 replace". "Numbers that a kind does not use are .. never read"
unfoldable pub waiting_of : BucketRecord → Waiting
waiting_of r =
    cond (eqb (kind_in r) 1) (waiting (Push (carries r)) 0)
    (cond (eqb (kind_in r) 2) (waiting Pop (way_in r))
    (cond (eqb (kind_in r) 3) (waiting (Replace (carries r)) (way_in r)) no_work))

-- a record that carries no element, and one that does: "Numbers that a kind does not use are written 0"
abbrev pub bare_record : ℕ → ℕ → BucketRecord
bare_record kind way = kind ∷ way ∷ 0 ∷ 0 ∷ 0 ∷ []

abbrev pub laden_record : ℕ → ℕ → Element → BucketRecord
laden_record kind way x = kind ∷ way ∷ x.rank.0 ∷ x.tag.0 ∷ x.length.0 ∷ []

abbrev pub no_record : BucketRecord
no_record = bare_record 0 0

-- the first k records; past them nothing is pending
unfoldable pub works_read : ℕ → List BucketRecord → List Waiting
works_read zero rs = fresh
works_read (suc k) rs = set (works_read k rs) k (waiting_of (get_or rs k no_record))

-- "one behind each storey": no queue has more storeys than records by value, and the slice has one for each
unfoldable pub lends : ℕ → ℕ → Bool
lends d len = leb d record_count && leb d len

-- .. and "a kind .. above 3 is refusal 1"
unfoldable pub kinds_from : Bool → ℕ → List BucketRecord → Bool
kinds_from b zero rs = b
kinds_from b (suc k) rs = kinds_from b k rs && leb (kind_in (get_or rs k no_record)) 3

abbrev pub reach : ℕ → List BucketRecord → ℕ
reach d rs = cond (lends d (length rs)) d 0

abbrev pub read_of : ℕ → List BucketRecord → WorksRead
read_of d rs = record { works = works_read (reach d rs) rs; ok = kinds_from (lends d (length rs)) (reach d rs) rs }

-- ---- writing
abbrev pub record_by : Request → ℕ → BucketRecord
record_by Idle w = no_record
record_by (Push x) w = laden_record 1 0 x
record_by Pop w = bare_record 2 w
record_by (Replace x) w = laden_record 3 w x

abbrev pub record_of : Waiting → BucketRecord
record_of g = record_by g.does g.way

-- the first k records; "Records past S are neither read nor written"
unfoldable pub works_back : ℕ → List Waiting → List BucketRecord → List BucketRecord
works_back zero gs rs = rs
works_back (suc k) gs rs = set (works_back k gs rs) k (record_of (work_at gs k))
