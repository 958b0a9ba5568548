-- What is promised of a played trace beside its text.
use Rattle.std.specs.Prelude.{◌∷◌, ◌≡◌}
use Rattle.laws.specs.Prelude.{BadPort, BadRank, BadShape, Damaged, Empty, Full, List, NoHeap, NoTag, Refusal, TooSoon, [], drop, ℕ}
use Rattle.tree_clock_model.specs.Prelude.{cleared_machine, cycled}
use Rattle.tree_clock_model.specs.declared.State.{State}
use Rattle.trace_model.specs.Format.{header_bytes, header_of, records_of, word_of}
use Rattle.trace_model.specs.Program.{empty_store}
use Rattle.std.specs.Prelude.{None, Option, Some}
use Rattle.trace_model.specs.declared.Header.{Header}
use Rattle.laws.specs.Prelude.{Request}
use Rattle.trace_model.specs.declared.Version.{Version}

-- refusals 1, 2, 4, 8 and 12, which have no word
abbrev pub Silent : Refusal → Type 0
Silent BadShape = Unit {0}
Silent Damaged = Unit {0}
Silent TooSoon = ⊥
Silent BadRank = Unit {0}
Silent Full = ⊥
Silent Empty = ⊥
Silent NoTag = ⊥
Silent BadPort = Unit {0}
Silent NoHeap = Unit {0}

-- every line that these records write has a word
abbrev pub Worded : Version → ℕ → ℕ → State → List ℕ → List (Option Request) → Type 0
Worded v m levels s ws [] = Unit {0}
Worded v m levels s ws (None ∷ es) = Unit {0}
Worded v m levels s ws (Some r ∷ es) =
    (word_of v r (cycled m levels r s ws).answer ≡ [] → ⊥) × Worded v m levels (cycled m levels r s ws).state (cycled m levels r s ws).words es

abbrev pub WordedBy : Option Header → List ℕ → Type 0
WordedBy None rest = Unit {0}
WordedBy (Some h) rest =
    Worded h.version h.order h.levels (cleared_machine h.order h.levels empty_store).state (cleared_machine h.order h.levels empty_store).words (records_of h.version rest)

-- .. of a whole trace
abbrev pub TraceWorded : List ℕ → Type 0
TraceWorded bs = WordedBy (header_of bs) (drop header_bytes bs)
