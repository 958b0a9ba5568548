-- Several ports as plain lists, one a port, under 02's rule of acceptance; and what one port hears of a history. These are definitions.
use Rattle.std.specs.Prelude.{◌&&◌, ◌++◌, ◌-◌, ◌<◌, ◌∷◌, ◌⊎◌}
use Rattle.laws.specs.Prelude.{Answer, BadPort, Bool, Element, Idle, List, Pop, Push, Refusal, Replace, [], cond, eqb, false, leb, length, ltb, max, sum_to, true, upd, ℕ, Err, Ok, None, Some}
use Rattle.promise.specs.Prelude.{Step, step}
use Rattle.bucket_model.specs.Plain as plain
use Rattle.bucket_model.specs.Prelude.{Call, Said, answered, ask, counted, held, plain_with}
use Rattle.ports_model.specs.Layout.{Shape, ranks_of, floor_of, ceiling_of}
use Rattle.ports_model.specs.Checks.{room_ok}

-- ---- calls at ports

pub record Ask : Type 0 where
  pub port : ℕ
  pub call : Call

abbrev pub at : ℕ → Call → Ask
at p c = record { port = p; call = c }

-- a call that is refused; asking for nothing never is
abbrev pub denied : Call → Refusal → Said
denied (ask Idle) r = answered (Ok None)
denied (ask (Push e)) r = answered (Err r)
denied (ask Pop) r = answered (Err r)
denied (ask (Replace e)) r = answered (Err r)
denied held r = counted (Err r)

-- ---- what each port holds, in leaving order

abbrev pub Lists : Type 0
Lists = ℕ → List Element

abbrev pub none : Lists
none p = []

-- all that is held
abbrev pub held_in_all : Shape → Lists → ℕ
held_in_all s st = sum_to s.ports (λ p. length (st p))

-- one list's step, put back at its port
abbrev pub back : Lists → ℕ → plain.Step (List Element) → Step Said Lists
back st p x = step x.said (upd st p x.next)

module _ (s : Shape) (lim : List ℕ) where
  -- "the larger of held and floor"
  abbrev pub claim : Lists → ℕ → ℕ
  claim st p = max (length (st p)) (floor_of lim p)

  -- ".. the sum, over all ports"
  abbrev pub claimed : Lists → ℕ
  claimed st = sum_to s.ports (claim st)

  -- "A push of port p that no earlier test refuses is accepted exactly if p holds less than its floor, or less than its ceiling while N minus the sum, over all ports, of the larger of held and floor is above zero"
  abbrev pub accepts : Lists → ℕ → Bool
  accepts st p = room_ok (length (st p)) (floor_of lim p) (ceiling_of lim p) (claimed st) s.nodes

  abbrev pub Accepts : Lists → ℕ → Type 0
  Accepts st p = (length (st p) < floor_of lim p) ⊎ ((length (st p) < ceiling_of lim p) × (0 < s.nodes - claimed st))

  -- "An unknown port is refusal 8"; any other is served as the plain queue is, with 02's rule for its room
  unfoldable pub served : Ask → Lists → Step Said Lists
  served a st =
      cond (ltb a.port s.ports)
      (back st a.port (plain_with (ranks_of s) (accepts st a.port) a.call (st a.port)))
      (step (denied a.call BadPort) st)

-- ---- what one port hears of a history

-- a call of the port, how many it held before, and what was said
pub record Heard : Type 0 where
  pub call : Call
  pub before : ℕ
  pub said : Said

abbrev pub heard_if : Bool → Heard → List Heard → List Heard
heard_if true h hs = h ∷ hs
heard_if false h hs = hs

-- .. where `many p x` is how many the port holds in state x
module _ {S : Type 0} (queue : Ask → S → Step Said S) (many : ℕ → S → ℕ) where
  unfoldable pub heard_at : ℕ → List Ask → S → List Heard
  heard_at p [] x = []
  heard_at p (a ∷ as') x =
      let y = queue a x in
      heard_if (eqb a.port p) (record { call = a.call; before = many p x; said = y.said }) (heard_at p as' y.next)

-- "p's requests"
abbrev pub calls_if : Bool → Call → List Call → List Call
calls_if true c cs = c ∷ cs
calls_if false c cs = cs

unfoldable pub calls_at : ℕ → List Ask → List Call
calls_at p [] = []
calls_at p (a ∷ as') = calls_if (eqb a.port p) a.call (calls_at p as')

-- p's answers
abbrev pub answers_of : List Heard → List Said
answers_of [] = []
answers_of (h ∷ hs) = h.said ∷ answers_of hs

abbrev pub calls_of : List Heard → List Call
calls_of [] = []
calls_of (h ∷ hs) = h.call ∷ calls_of hs

-- accepted, or refused
abbrev pub agreed : Answer → Bool
agreed (Ok None) = true
agreed (Ok (Some x)) = true
agreed (Err r) = false

abbrev pub agreed_to : Said → Bool
agreed_to (answered a) = agreed a
agreed_to (counted c) = true

-- "p's pushes and replaces are accepted at the same places": of each push and replace, in their order, whether it was accepted
abbrev pub yes_of : Call → Said → List Bool
yes_of (ask Idle) x = []
yes_of (ask (Push e)) x = agreed_to x ∷ []
yes_of (ask Pop) x = []
yes_of (ask (Replace e)) x = agreed_to x ∷ []
yes_of held x = []

abbrev pub yeses : List Heard → List Bool
yeses [] = []
yeses (h ∷ hs) = yes_of h.call h.said ++ yeses hs

-- "the yes or no of a push above the floor": of each push that comes while the port holds its floor or more, and less than its ceiling
abbrev pub only_if : Bool → Bool → List Bool
only_if true y = y ∷ []
only_if false y = []

abbrev pub open' : List ℕ → ℕ → ℕ → Bool
open' lim p n = leb (floor_of lim p) n && ltb n (ceiling_of lim p)

abbrev pub touched_in : Bool → Call → Said → List Bool
touched_in o (ask Idle) x = []
touched_in o (ask (Push e)) x = only_if o (agreed_to x)
touched_in o (ask Pop) x = []
touched_in o (ask (Replace e)) x = []
touched_in o held x = []

abbrev pub touched : List ℕ → ℕ → List Heard → List Bool
touched lim p [] = []
touched lim p (h ∷ hs) = touched_in (open' lim p h.before) h.call h.said ++ touched lim p hs
