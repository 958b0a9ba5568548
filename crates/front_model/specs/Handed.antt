-- What the front hands to the queue behind it. These are definitions.
use Rattle.std.specs.Prelude.{◌&&◌}
use Rattle.laws.specs.Prelude.{Bool, Element, Idle, List, Pop, Push, Replace, Request, eqb, false, not, true, ℕ}
use Rattle.std.specs.Prelude.{Option}
use Rattle.std.specs.Prelude.{None, Some}
use Rattle.bucket_clock_model.specs.Lists.{but_last, last}

-- "if anything is behind, the front asks"
abbrev pub asks : Bool → ℕ → Bool
asks t n = t && not (eqb n 0)

-- "replace of the leaking element where it asks and leaks, pop where it only asks, push where it only leaks, else nothing"
abbrev pub handed : Bool → Option Element → Request
handed true None = Pop
handed true (Some x) = Replace x
handed false None = Idle
handed false (Some x) = Push x

-- "the last place leaks"
abbrev pub leaked : Bool → List Element → Option Element
leaked true f = last f
leaked false f = None

abbrev pub stays : Bool → List Element → List Element
stays true f = but_last f
stays false f = f
