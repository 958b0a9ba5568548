-- The numbers of 02 [10]: cells, steps and finishes.
use Rattle.std.specs.Prelude.{◌*◌, ◌+◌, ◌/◌, ◌<◌, ◌≤◌}
use Rattle.laws.specs.Prelude.{max, ℕ}

-- "for up to 64 flows, weight 1 to 1,024"
abbrev pub flows : ℕ
flows = 64

abbrev pub heaviest : ℕ
heaviest = 1024

-- "A length counts in cells of 64 bytes, rounded up, 1 to 144"
abbrev pub cell_limit : ℕ
cell_limit = 144

abbrev pub longest : ℕ
longest = 9216

unfoldable pub cells : ℕ → ℕ
cells n = (n + 63) / 64

-- "for weight w, 65,536 / w rounded down"
unfoldable pub step : ℕ → ℕ
step w = 65536 / w

-- the largest rank
abbrev pub latest : ℕ
latest = 4294967295

-- "the larger of the clock and its flow's last finish, plus cells times step"
unfoldable pub finish : ℕ → ℕ → ℕ → ℕ → ℕ
finish clock last weight bytes = max clock last + cells bytes * step weight

-- what is not a "bad strip"
pub record Good (flow weight bytes : ℕ) : Type 0 where
  pub known : flow < flows
  pub some : 1 ≤ weight
  pub light : weight ≤ heaviest
  pub long : 1 ≤ bytes
  pub short : bytes ≤ longest
