-- The same with every length 0: "a length in bytes" travels with its strip and decides nothing (02 [9]).
use Rattle.laws.specs.Prelude.{Answer, Element, Idle, Pop, Push, Replace, Request, element, Ok, None, Some, Err}

-- rank and tag of an element
abbrev pub short : Element → Element
short e = element e.rank.0 e.tag.0 0

-- what is asked and answered, but for lengths
abbrev pub short_request : Request → Request
short_request Idle = Idle
short_request (Push x) = Push (short x)
short_request Pop = Pop
short_request (Replace x) = Replace (short x)

abbrev pub short_answer : Answer → Answer
short_answer (Ok None) = Ok None
short_answer (Ok (Some e)) = Ok (Some (short e))
short_answer (Err r) = Err r
