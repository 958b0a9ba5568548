-- `bucket::held_laid` meets its contract.
use Rattle.laws.specs.Prelude.{◌∙◌, ◌≡◌, not-false, not-true, sym, true}
use Rattle.bucket_model.specs.Prelude.{is_shaped, is_whole}
use Rattle.bucket_step.specs.Tested.{Stands}
use Rattle.bucket_model.proofs.Laws.{held-bad, held-told, held-torn}
use Rattle.bucket_step.proofs.Read.{fits}
use Rattle.bucket.proofs.Steps.{stands}
use Rattle.bucket.proofs.held_laid.Goals as goal
use Rattle.bucket.proofs.held_laid.Goals.{Else-not-is_shaped, Else-not-is_whole}

-- what has been tested so far
ok : (c : Else-not-is_shaped) → is_shaped c.args.k c.args.bits.now c.args.words.now ≡ true
ok c = sym c.is_shaped.ensures ∙ not-false c.is_shaped.result c.if-not-is_shaped.false-raw

st : (c : Else-not-is_shaped) → Stands c.args.k c.args.bits.now c.args.words.now
st c = stands _ _ _ c.requires (ok c)

sound : (c : Else-not-is_whole) → is_whole c.args.k c.args.bits.now c.args.words.now ≡ true
sound c = sym c.is_whole.ensures ∙ not-false c.is_whole.result c.if-not-is_whole.false-raw

pub returns-then-not-is_shaped : goal.returns-then-not-is_shaped
returns-then-not-is_shaped c = held-bad _ _ _ (sym c.is_shaped.ensures ∙ not-true c.is_shaped.result c.if-not-is_shaped.true-raw)

pub is_whole-requires : goal.is_whole-requires
is_whole-requires c = st (c)

pub returns-then-not-is_whole : goal.returns-then-not-is_whole
returns-then-not-is_whole c = held-torn _ _ _ (ok (goal.at.returns-then-not-is_whole c).Else-not-is_shaped) (sym c.is_whole.ensures ∙ not-true c.is_whole.result c.if-not-is_whole.true-raw)

pub held_count-requires : goal.held_count-requires
held_count-requires c = fits _ _ _ (st (goal.at.held_count-requires c).Else-not-is_shaped)

pub returns : goal.returns
returns c = held-told _ _ _ _ (ok (goal.at.returns c).Else-not-is_shaped) (sound (goal.at.returns c).Else-not-is_whole) c.held_count.ensures
