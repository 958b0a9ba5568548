-- What the calls ask of a layout. These are definitions.
use Rattle.std.specs.Prelude.{◌≤◌}
use Rattle.bucket_model.specs.declared.Lay.{Lay}
use Rattle.bucket_model.specs.Prelude.{Laid, bit_words}

-- a layout whose numbers fit the machine's
pub record Placed (k : Lay) : Type 0 where
  pub laid : Laid k
  pub small : bit_words k ≤ 4294967296
