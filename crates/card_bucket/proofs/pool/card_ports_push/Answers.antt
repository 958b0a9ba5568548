-- `card_bucket::pool::card_ports_push` meets its contract.
use Rattle.ports_model.specs.declared.Shape.{Shape}
use Rattle.laws.specs.Prelude.{element}
use Rattle.ports_model.specs.Prelude.{pushed}
use Rattle.card_bucket.proofs.Calls.{bucket-done}
use Rattle.card_bucket.proofs.Ports.{at-shape}
use Rattle.card_bucket.proofs.pool.card_ports_push.Goals as goal

pub returns : goal.returns
returns c =
    let a = c.args in
    bucket-done _ _ _ _ _ c.number.ensures (at-shape (λ (s : Shape). pushed s a.port a.bits.now a.words.now (element a.rank a.tag a.length)) _ _ _ c.shape_of-s.ensures (rw c.element_of-e.ensures at c.push.ensures))
