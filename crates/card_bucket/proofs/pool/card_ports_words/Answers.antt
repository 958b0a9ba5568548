-- `card_bucket::pool::card_ports_words` meets its contract.
use Rattle.laws.specs.Prelude.{◌∙◌, ◌≡◌, ap}
use Rattle.ports_model.specs.Prelude.{store_words}
use Rattle.ports_step.specs.Sums.{numbers_ok}
use Rattle.card_bucket.specs.Ports.{shape}
use Rattle.card_bucket.proofs.Ports.{numbered, words-none, words-some}
use Rattle.card_bucket.proofs.pool.card_ports_words.Goals as goal
use Rattle.card_bucket.proofs.pool.card_ports_words.Goals.{After-is_numbered}

-- the numbers have been tested
tested : (c : After-is_numbered) → c.is_numbered.result ≡ numbers_ok (shape c.args.storeys c.args.nodes c.args.ports)
tested c = c.is_numbered.ensures ∙ ap numbers_ok c.shape_of-s.ensures

pub returns-then-not-is_numbered : goal.returns-then-not-is_numbered
returns-then-not-is_numbered c = words-none c.args.storeys c.args.nodes c.args.ports _ (tested (goal.at.returns-then-not-is_numbered c).After-is_numbered) c.if-not-is_numbered.true-raw

pub store_words-requires : goal.store_words-requires
store_words-requires c = numbered _ _ c.is_numbered.ensures c.if-not-is_numbered.false-raw

pub returns : goal.returns
returns c = words-some c.args.storeys c.args.nodes c.args.ports _ (tested (goal.at.returns c).After-is_numbered) _ c.if-not-is_numbered.false-raw (c.store_words.ensures.is ∙ ap store_words c.shape_of-s.ensures)
