-- What fair ranks answer.
use Rattle.std.specs.Prelude.{Option, Result}
use Rattle.strip.specs.declared.Element.{Element}
use Rattle.fair_model.specs.declared.FairRefusal.{FairRefusal}

-- that a call is accepted, the element that is served, or a refusal
abbrev pub FairAnswer : Type 0
FairAnswer = Result (Option Element) FairRefusal
