-- `card_bucket::pool::card_ports_held` meets its contract.
use Rattle.laws.specs.Prelude.{◌∙◌, ap}
use Rattle.ports_model.specs.declared.Shape.{Shape}
use Rattle.ports_model.specs.Prelude.{held_count}
use Rattle.card_words.proofs.Out.{count-short, count-told}
use Rattle.card_bucket.proofs.pool.card_ports_held.Goals as goal

pub returns-then-out-lt1 : goal.returns-then-out-lt1
returns-then-out-lt1 c = count-short _ _ c.if-out-lt1.true

pub returns : goal.returns
returns c =
    let a = c.args in
    count-told _ _ _ _ _ c.if-out-lt1.false (c.held-count.ensures ∙ ap (λ (s : Shape). held_count s a.port a.bits.now a.words.now) c.shape_of-s.ensures) c.tell_count.ensures
