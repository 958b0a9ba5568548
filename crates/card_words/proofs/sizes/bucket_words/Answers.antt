-- `card_words::sizes::bucket_words` meets its contract.
use Rattle.laws.specs.Prelude.{◌≤◌, rules}
use Rattle.bucket_model.specs.Prelude.{least_storeys, most_storeys}
use Rattle.card_words.proofs.Sized.{bucket-above, bucket-none, bucket-some, bucket-undeep, depths, few_words}
use Rattle.card_words.proofs.sizes.bucket_words.Goals as goal
use Rattle.card_words.proofs.sizes.bucket_words.Goals.{After-queue_of-k, Else-not-is_deep}

-- the depth has been tested
deep : (c : Else-not-is_deep) → (least_storeys ≤ c.args.storeys) × (c.args.storeys ≤ most_storeys)
deep c = depths _ 0 _ c.is_deep.ensures c.if-not-is_deep.false-raw

-- no more words than this
few : (c : After-queue_of-k) → c.queue_of-k.result.held ≤ 720897
few c =
    few_words _ (deep (goal.at.After-queue_of-k c).Else-not-is_deep).0 (deep (goal.at.After-queue_of-k c).Else-not-is_deep).1 _ _ c.queue_of-k.ensures c.if-nodes-gt-POOL.false

pub returns-then-not-is_deep : goal.returns-then-not-is_deep
returns-then-not-is_deep c = bucket-undeep _ _ _ c.is_deep.ensures c.if-not-is_deep.true-raw

pub returns-then-nodes-lt1 : goal.returns-then-nodes-lt1
returns-then-nodes-lt1 c = bucket-none _ _ _ c.is_deep.ensures c.if-not-is_deep.false-raw c.if-nodes-lt1.true

pub returns-then-nodes-gt-POOL : goal.returns-then-nodes-gt-POOL
returns-then-nodes-gt-POOL c = bucket-above _ _ _ c.is_deep.ensures c.if-not-is_deep.false-raw c.if-nodes-gt-POOL.true

pub queue_of-k-requires-clause-least : goal.queue_of-k-requires-clause-least
queue_of-k-requires-clause-least c = (deep (goal.at.queue_of-k-requires-clause-least c).Else-not-is_deep).0

pub queue_of-k-requires-clause-most : goal.queue_of-k-requires-clause-most
queue_of-k-requires-clause-most c = (deep (goal.at.queue_of-k-requires-clause-most c).Else-not-is_deep).1

pub overflow_add-result : goal.overflow_add-result
overflow_add-result c = search (rules, few c)

pub overflow_cast-result : goal.overflow_cast-result
overflow_cast-result c = search (rules, few c)

pub returns : goal.returns
returns c = bucket-some _ _ _ c.is_deep.ensures c.if-not-is_deep.false-raw c.if-nodes-lt1.false c.if-nodes-gt-POOL.false _ c.queue_of-k.ensures
