-- The storeys as a pipeline, to any depth: each a stage with its counts, and behind each the operation that waits for the next. Behind the last are the
-- buckets. These are definitions.
use Rattle.std.specs.Prelude.{◌*◌, ◌++◌, ◌/◌, ◌∷◌, ◌≡◌}
use Rattle.laws.specs.Prelude.{Bool, Element, Idle, List, Request, [], cond, eqb, false, pred, suc, true, upd, zero, ℕ}
use Rattle.bucket_model.specs.Prelude.{Sorted, of_rank}
use Rattle.promise.specs.Prelude.{Step, step}
use Rattle.std.specs.Prelude.{Option}
use Rattle.std.specs.Prelude.{None, Some}
use Rattle.bucket_clock_model.specs.Lists.{done, left, many, newcomer, taken, takes}

-- a rank without its last d digits: the number of its bit in the storey above d others
unfoldable pub lead : ℕ → ℕ → ℕ
lead zero r = r
lead (suc d) r = lead d r / 64

-- how many of a list are below bit j of that storey
abbrev pub under : ℕ → ℕ → Element → Bool
under d j x = eqb (lead d x.rank.0) j

abbrev pub below : ℕ → List Element → ℕ → ℕ
below d l j = many (under d j) l

-- ---- one storey

-- the first of n bits from i on whose count is not 0
unfoldable pub lowest_from : (ℕ → ℕ) → ℕ → ℕ → ℕ
lowest_from c i zero = i
lowest_from c i (suc n) = cond (eqb (c i) 0) (lowest_from c (suc i) n) i

-- "the lowest set bit of the word that the way names": the way becomes way * 64 + that bit
abbrev pub found : Bool → (ℕ → ℕ) → ℕ → ℕ
found true c w = lowest_from c (64 * w) 64
found false c w = 0

-- "its count falls by one"
abbrev pub fewer : Bool → ℕ → (ℕ → ℕ) → ℕ → ℕ
fewer true m c = upd c m (pred (c m))
fewer false m c = c

-- "the count of x's bit rises by one"
abbrev pub more : ℕ → Option Element → (ℕ → ℕ) → ℕ → ℕ
more d None c = c
more d (Some x) c = upd c (lead d x.rank.0) (suc (c (lead d x.rank.0)))

-- "the pop and then the push, in one cycle"
abbrev pub counted : ℕ → Request → ℕ → (ℕ → ℕ) → ℕ → ℕ
counted d q w c = more d (newcomer q) (fewer (takes q) (found (takes q) c w) c)

-- ---- the buckets, a list for each rank

-- "the head of the rank that the way names leaves"
abbrev pub headless : Bool → ℕ → (ℕ → List Element) → ℕ → List Element
headless true w b = upd b w (left true (b w))
headless false w b = b

-- "joined behind the tail of its rank"
abbrev pub joined : Option Element → (ℕ → List Element) → ℕ → List Element
joined None b = b
joined (Some x) b = upd b x.rank.0 (b x.rank.0 ++ x ∷ [])

-- ---- all stages

-- a storey, and what is pending behind it: an operation, and the way that it has found
pub record Stage : Type 0 where
  pub counts : ℕ → ℕ
  pub does : Request
  pub way : ℕ

abbrev pub stage : (ℕ → ℕ) → Request → ℕ → Stage
stage c q w = record { counts = c; does = q; way = w }

-- the storey above d others and the buckets
abbrev pub Pipe : ℕ → Type 0
Pipe zero = ℕ → List Element
Pipe (suc d) = Stage × Pipe d

-- a cycle: every stage does one operation, on what it finds at the cycle's start; what leaves, leaves the buckets
unfoldable pub piped : (d : ℕ) → Request → ℕ → Pipe d → Step (Option Element) (Pipe d)
piped zero q w b = step (taken (takes q) (b w)) (joined (newcomer q) (headless (takes q) w b))
piped (suc d) q w s =
    let g = s.0 in
    let r = piped d g.does g.way s.1 in
    step r.said (stage (counted d q w g.counts) q (found (takes q) g.counts w), r.next)

-- nothing held and nothing pending
abbrev pub fresh_pipe : (d : ℕ) → Pipe d
fresh_pipe zero = λ r. []
fresh_pipe (suc d) = (stage (λ j. 0) Idle 0, fresh_pipe d)

-- ---- what a pipeline stands for

-- an operation takes only where there is something, and its way is that of the first
abbrev pub Fit : ℕ → Bool → ℕ → List Element → Type 0
Fit d false w l = Unit {0}
Fit d true w [] = ⊥
Fit d true w (x ∷ l) = lead d x.rank.0 ≡ w

-- a storey that has counted l: the stages below it have `before`, and what is pending makes l of that. What leaves later is in `later`, with
-- `older` of it asked for before
pub record Staged (d : ℕ) (g : Stage) (P : List (Option Element) → Type 0) (l before : List Element) (later : List (Option Element)) : Type 0 where
  pub counts : (j : ℕ) → g.counts j ≡ below d l j
  pub older : List (Option Element)
  pub sorted : Sorted before
  pub fit : Fit d (takes g.does) g.way before
  pub is : l ≡ done g.does before
  pub way : later ≡ older ++ taken (takes g.does) before ∷ []
  pub rest : P older

-- STAGED: where `ago i` is the list of i cycles ago, stage i + 1 has done all but the last i operations
abbrev pub Shows : (d : ℕ) → Pipe d → (ℕ → List Element) → List (Option Element) → Type 0
Shows zero b ago later = ((r : ℕ) → b r ≡ of_rank r (ago 0)) × (later ≡ [])
Shows (suc d) s ago later = Staged d s.0 (Shows d s.1 (λ i. ago (suc i))) (ago 0) (ago 1) later

-- a cycle later
abbrev pub after : List Element → (ℕ → List Element) → ℕ → List Element
after l ago zero = l
after l ago (suc i) = ago i

-- ---- to read off

-- the counts of stage i + 1, and the buckets
abbrev pub counts_at : (d : ℕ) → Pipe d → ℕ → ℕ → ℕ
counts_at zero b i j = 0
counts_at (suc d) s zero j = s.0.counts j
counts_at (suc d) s (suc i) j = counts_at d s.1 i j

abbrev pub buckets_of : (d : ℕ) → Pipe d → ℕ → List Element
buckets_of zero b = b
buckets_of (suc d) s = buckets_of d s.1
