-- What the stages ask of their callers. These are definitions.
use Rattle.std.specs.Prelude.{◌≤◌}
use Rattle.laws.specs.Prelude.{ℕ}
use Rattle.bucket_model.specs.declared.Lay.{Lay}
use Rattle.bucket_model.specs.Prelude.{Laid, bit_words, pool, store_words}
use Rattle.bucket_clock_model.specs.Desk.{count_words, record_count}

-- all words are there, in B words of bits, C counts and W words, and a record behind each storey
pub record Ready (k : Lay) (B C W : ℕ) : Type 0 where
  pub laid : Laid k
  pub bits : bit_words k ≤ B
  pub counts : count_words k ≤ C
  pub words : store_words k ≤ W
  pub records : k.storeys ≤ record_count
  pub nodes : k.nodes ≤ pool
