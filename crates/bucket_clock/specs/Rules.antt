-- What a request comes to, and what held says. These are definitions.
use Rattle.std.specs.Prelude.{◌<◌, ◌≡◌}
use Rattle.laws.specs.Prelude.{Idle, List, Pop, Push, Replace, Request, ℕ, Result, Refusal, Ok, None, Err}
use Rattle.promise.specs.Prelude.{Ruling, decided, ruling}
use Rattle.bucket_model.specs.declared.Lay.{Lay}
use Rattle.bucket_clock_model.specs.Clock.{late_table}
use Rattle.bucket_clock_model.specs.declared.Waiting.{Waiting}
use Rattle.bucket_clock_model.specs.Desk.{clock_held, desk}
use Rattle.bucket_clock.specs.declared.Ruled.{Ruled}

-- what goes in can be counted, where h are held of n
abbrev pub Counts : ℕ → Request → ℕ → Type 0
Counts n Idle h = Unit {0}
Counts n (Push x) h = h < n
Counts n Pop h = 0 < h
Counts n (Replace x) h = Unit {0}

-- a request is answered, and goes in, as the table says where h are held
pub record Rules (k : Lay) (q : Request) (h : ℕ) (g : Ruled) : Type 0 where
  pub is : ruling g.answer g.op ≡ decided (λ n. ruling (Err n) Idle) (late_table k.ranks k.nodes q h) (ruling (Ok None) q)
  pub counts : Counts k.nodes g.op h

-- held reads no record
abbrev pub HeldIs : Lay → List ℕ → List ℕ → List ℕ → Result ℕ Refusal → Type 0
HeldIs k b c w r = (rs : List Waiting) → r ≡ clock_held k (desk b c w rs)
