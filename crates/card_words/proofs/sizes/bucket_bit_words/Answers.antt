-- `card_words::sizes::bucket_bit_words` meets its contract.
use Rattle.laws.specs.Prelude.{◌≤◌, rules}
use Rattle.bucket_model.specs.Prelude.{least_storeys, most_storeys}
use Rattle.card_words.proofs.Sized.{bits_none, bits-some, depths, few_bits}
use Rattle.card_words.proofs.sizes.bucket_bit_words.Goals as goal
use Rattle.card_words.proofs.sizes.bucket_bit_words.Goals.{Else-not-is_deep}

-- the depth has been tested
deep : (c : Else-not-is_deep) → (least_storeys ≤ c.args.storeys) × (c.args.storeys ≤ most_storeys)
deep c = depths _ 0 _ c.is_deep.ensures c.if-not-is_deep.false-raw

pub returns-then-not-is_deep : goal.returns-then-not-is_deep
returns-then-not-is_deep c = bits_none _ 0 _ c.is_deep.ensures c.if-not-is_deep.true-raw

pub queue_of-k-requires-clause-least : goal.queue_of-k-requires-clause-least
queue_of-k-requires-clause-least c = (deep c).0

pub queue_of-k-requires-clause-most : goal.queue_of-k-requires-clause-most
queue_of-k-requires-clause-most c = (deep c).1

pub overflow_cast-result : goal.overflow_cast-result
overflow_cast-result c = search (rules, few_bits _ (deep (goal.at.overflow_cast-result c).Else-not-is_deep).0 (deep (goal.at.overflow_cast-result c).Else-not-is_deep).1 0 _ c.queue_of-k.ensures)

pub returns : goal.returns
returns c = bits-some _ 0 _ c.is_deep.ensures c.if-not-is_deep.false-raw _ c.queue_of-k.ensures
