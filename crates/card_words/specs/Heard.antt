-- What a caller in C hears: the number returned and the words of `out`, and the answer that these stand for. What is promised of a list of calls through C is said of what is heard.
use Rattle.std.specs.Prelude.{◌∷◌}
use Rattle.laws.specs.Prelude.{Answer, Bool, Element, Idle, List, Pop, Push, Replace, Request, [], cond, element_in, eqb, map, ℕ, Ok, None, Some, Err}
use Rattle.card_words.specs.Out.{CountAfter}
use Rattle.promise.specs.Prelude.{Holds, Least, Step, answers, leaves, refusal_of}

-- the element in the first words: rank, tag, length
abbrev pub heard_element : List ℕ → Element
heard_element out = element_in out 0

-- the answer of a call that is not refused, by what it asks for
abbrev pub heard_taken : Request → List ℕ → Answer
heard_taken Idle out = Ok None
heard_taken (Push x) out = Ok None
heard_taken Pop out = Ok (Some (heard_element out))
heard_taken (Replace x) out = Ok (Some (heard_element out))

unfoldable pub heard : Request → CountAfter → Answer
heard r c = cond (eqb c.number 0) (heard_taken r c.out) (Err (refusal_of c.number))

-- ---- the calls of a queue that does one operation at a time, as C has them: there is no idle one
pub data Ask : Type 0 where
  push : Element → Ask
  pop : Ask
  replace : Element → Ask

abbrev pub wanted : Ask → Request
wanted (push x) = Push x
wanted pop = Pop
wanted (replace x) = Replace x

-- ---- over a list of calls
module _ {C A : Type 0} (hears : C → CountAfter → A) where
  unfoldable pub heard_all : List C → List CountAfter → List A
  heard_all [] said = []
  heard_all (c ∷ cs) [] = []
  heard_all (c ∷ cs) (a ∷ said) = hears c a ∷ heard_all cs said

-- call_c are the calls through C, each on what the one before left and answering its number and `out`; wants says what each asks for, stored how many elements that pass a test a state holds
module _ {C X : Type 0} (wants : C → Request) (call_c : C → X → Step CountAfter X) (stored : X → (Element → Bool) → ℕ) where
  abbrev pub told : List C → X → List Answer
  told cs x = heard_all (λ c. heard (wants c)) cs (answers call_c cs x)

  -- HEARD: the promises, read off the numbers
  pub record Heard (cs : List C) (x : X) : Type 0 where
    -- "each queue holds exactly what went in and has not come out": by the numbers returned and the words of `out`
    pub holds : Holds (stored (leaves call_c cs x)) (map wants cs) (told cs x)
    -- "what comes out has the lowest rank held": the rank in the first word of `out`
    pub least : (c : C) → Least (stored (leaves call_c cs x)) (wants c) (heard (wants c) (call_c c (leaves call_c cs x)).said)
