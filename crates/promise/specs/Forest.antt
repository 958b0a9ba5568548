-- Several queues in one store, each call at one of them: what a list of calls is to one of the queues.
use Rattle.std.specs.Prelude.{◌∷◌}
use Rattle.laws.specs.Prelude.{Idle, List, Request, [], cond, eqb, ℕ}

-- a request at one of the queues
pub record At : Type 0 where
  pub queue : ℕ
  pub asks : Request

-- what it is to queue i: idle, where it is another's
abbrev pub seen_by : ℕ → At → Request
seen_by i c = cond (eqb c.queue i) c.asks Idle

-- the requests at queue i alone
unfoldable pub own_of : ℕ → List At → List Request
own_of i [] = []
own_of i (c ∷ cs) = cond (eqb c.queue i) (c.asks ∷ own_of i cs) (own_of i cs)

-- .. and what they are answered, among the answers of all
unfoldable pub heard_at : {A : Type 0} → ℕ → List At → List A → List A
heard_at i [] said = []
heard_at i (c ∷ cs) [] = []
heard_at i (c ∷ cs) (a ∷ said) = cond (eqb c.queue i) (a ∷ heard_at i cs said) (heard_at i cs said)
