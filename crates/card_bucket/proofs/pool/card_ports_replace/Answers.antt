-- `card_bucket::pool::card_ports_replace` meets its contract.
use Rattle.ports_model.specs.declared.Shape.{Shape}
use Rattle.laws.specs.Prelude.{element}
use Rattle.ports_model.specs.Prelude.{replaced}
use Rattle.card_bucket.proofs.Calls.{bucket-short, bucket-told}
use Rattle.card_bucket.proofs.Ports.{at-shape}
use Rattle.card_bucket.proofs.pool.card_ports_replace.Goals as goal

pub returns-then-out-lt-OUT : goal.returns-then-out-lt-OUT
returns-then-out-lt-OUT c = bucket-short _ _ _ _ c.if-out-lt-OUT.true

pub returns : goal.returns
returns c =
    let a = c.args in
    bucket-told _ _ _ _ _ _ _ _ _ c.if-out-lt-OUT.false (at-shape (λ (s : Shape). replaced s a.port a.bits.now a.words.now (element a.rank a.tag a.length)) _ _ _ c.shape_of-s.ensures (rw c.element_of-e.ensures at c.replace-answer.ensures)) c.tell.ensures
