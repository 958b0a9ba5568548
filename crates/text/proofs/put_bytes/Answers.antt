-- `text::put_bytes` meets its contract.
use Rattle.std.proofs.Common.{rules}
use mathlib.Core.Path.{refl}
use native.Mathlib.Omega.{arith}
use Rattle.text.proofs.Laws.{overlay-put_mid}
use Rattle.text.proofs.put_bytes.Goals as goal

pub returns : goal.returns
returns c = (refl, overlay-put_mid _ _ _ _ _ (search rules) (omega arith) c.requires)
