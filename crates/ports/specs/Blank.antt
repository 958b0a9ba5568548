-- What clear's functions ask of their callers, and what they promise. These are definitions.
use Rattle.std.specs.Prelude.{◌*◌, ◌+◌, ◌-◌, ◌≤◌}
use Rattle.laws.specs.Prelude.{List, cond, length, ltb, ℕ}
use Rattle.bucket_model.specs.declared.Lay.{Lay}
use Rattle.bucket_model.specs.Prelude.{Laid, blank_word, pool}
use Rattle.ports_model.specs.Prelude.{blank_port}

-- word j of a cleared store, by the seat of its first port
abbrev pub blank_at : Lay → List ℕ → ℕ → ℕ
blank_at k lim j = cond (ltb k.free j) (blank_port lim (j - (k.free + 1))) (blank_word k j)

-- a layout of no more nodes than there may be, and a floor and a ceiling for each port
pub record Wiping (k : Lay) (ports : ℕ) (lim : List ℕ) : Type 0 where
  pub laid : Laid k
  pub nodes≤ : k.nodes ≤ pool
  pub few : ports ≤ 16
  pub long : 2 * ports ≤ length lim
