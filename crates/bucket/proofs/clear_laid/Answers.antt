-- `bucket::clear_laid` meets its contract.
use Rattle.laws.specs.Prelude.{◌∙◌, ◌≡◌, not-false, not-true, sym, true}
use Rattle.bucket_model.specs.Prelude.{is_shaped}
use Rattle.bucket_step.specs.Tested.{Stands}
use Rattle.bucket_model.proofs.Laws.{clear-bad, clear-done}
use Rattle.bucket_step.proofs.Read.{fits}
use Rattle.bucket.proofs.Steps.{stands}
use Rattle.bucket.proofs.clear_laid.Goals as goal
use Rattle.bucket.proofs.clear_laid.Goals.{Else-not-is_shaped}

-- what has been tested so far
ok : (c : Else-not-is_shaped) → is_shaped c.args.k c.args.bits.now c.args.words.now ≡ true
ok c = sym c.is_shaped.ensures ∙ not-false c.is_shaped.result c.if-not-is_shaped.false-raw

st : (c : Else-not-is_shaped) → Stands c.args.k c.args.bits.now c.args.words.now
st c = stands _ _ _ c.requires (ok c)

pub returns-then-not-is_shaped : goal.returns-then-not-is_shaped
returns-then-not-is_shaped c = clear-bad _ _ _ (sym c.is_shaped.ensures ∙ not-true c.is_shaped.result c.if-not-is_shaped.true-raw)

pub wipe-requires : goal.wipe-requires
wipe-requires c = (st (goal.at.wipe-requires c).Else-not-is_shaped).shaped.bits

pub wipe_words-requires : goal.wipe_words-requires
wipe_words-requires c = record { fits = fits _ _ _ (st (goal.at.wipe_words-requires c).Else-not-is_shaped); pool_in = (st (goal.at.wipe_words-requires c).Else-not-is_shaped).shaped.high }

pub returns : goal.returns
returns c = clear-done _ _ _ _ _ (ok (goal.at.returns c).Else-not-is_shaped) c.wipe.ensures c.wipe_words.ensures
