-- `card_bucket::pool::card_ports_clear` meets its contract.
use Rattle.ports_model.specs.declared.Shape.{Shape}
use Rattle.ports_model.specs.Prelude.{cleared}
use Rattle.card_bucket.proofs.Calls.{bucket-done}
use Rattle.card_bucket.proofs.Ports.{at-shape}
use Rattle.card_bucket.proofs.pool.card_ports_clear.Goals as goal

pub returns : goal.returns
returns c =
    let a = c.args in
    bucket-done _ _ _ _ _ c.number.ensures (at-shape (λ (s : Shape). cleared s a.limits.now a.bits.now a.words.now) _ _ _ c.shape_of-s.ensures c.clear.ensures)
