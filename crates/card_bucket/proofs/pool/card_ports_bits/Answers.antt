-- `card_bucket::pool::card_ports_bits` meets its contract.
use Rattle.laws.specs.Prelude.{◌∙◌, ◌≡◌, ap}
use Rattle.ports_model.specs.Prelude.{bit_words}
use Rattle.ports_step.specs.Sums.{numbers_ok}
use Rattle.card_bucket.specs.Ports.{shape}
use Rattle.card_bucket.proofs.Ports.{numbered, bits_none, bits-some}
use Rattle.card_bucket.proofs.pool.card_ports_bits.Goals as goal
use Rattle.card_bucket.proofs.pool.card_ports_bits.Goals.{After-is_numbered}

-- the numbers have been tested
tested : (c : After-is_numbered) → c.is_numbered.result ≡ numbers_ok (shape c.args.storeys 1 c.args.ports)
tested c = c.is_numbered.ensures ∙ ap numbers_ok c.shape_of-s.ensures

pub returns-then-not-is_numbered : goal.returns-then-not-is_numbered
returns-then-not-is_numbered c = bits_none c.args.storeys c.args.ports _ (tested (goal.at.returns-then-not-is_numbered c).After-is_numbered) c.if-not-is_numbered.true-raw

pub bit_words-requires : goal.bit_words-requires
bit_words-requires c = numbered _ _ c.is_numbered.ensures c.if-not-is_numbered.false-raw

pub returns : goal.returns
returns c = bits-some c.args.storeys c.args.ports _ (tested (goal.at.returns c).After-is_numbered) _ c.if-not-is_numbered.false-raw (c.bit_words.ensures.is ∙ ap bit_words c.shape_of-s.ensures)
