-- `bucket::pop_laid` meets its contract.
use Rattle.laws.specs.Prelude.{◌&&◌, ◌∙◌, ◌≡◌, eqb, not, refl, sym, true}
use Rattle.bucket_model.specs.Prelude.{found_low, is_shaped, is_whole, lowest_of, word}
use Rattle.bucket_step.specs.Tested.{Stands, Freeing}
use Rattle.bucket_model.proofs.Laws.{pop-bad, pop-limit, pop-out, pop-unfit}
use Rattle.bucket_step.proofs.Steps.{freeing}
use Rattle.bucket.proofs.Steps.{stands, whole_of, some_of}
use Rattle.bucket.proofs.pop_laid.Goals as goal
use Rattle.bucket.proofs.pop_laid.Goals.{Else-not-has_some, Else-not-is_shaped, In-Some}

-- what has been tested so far
ok : (c : Else-not-is_shaped) → is_shaped c.args.k c.args.bits.now c.args.words.now ≡ true
ok c = sym c.is_shaped.ensures ∙ c.if-not-is_shaped.false

st : (c : Else-not-is_shaped) → Stands c.args.k c.args.bits.now c.args.words.now
st c = stands _ _ _ c.requires (ok c)

given : (c : Else-not-has_some) → (is_whole c.args.k c.args.bits.now c.args.words.now && not (eqb (word c.args.words.now c.args.k.held) 0)) ≡ true
given c = sym c.has_some.ensures ∙ c.if-not-has_some.false

sound : (c : Else-not-has_some) → is_whole c.args.k c.args.bits.now c.args.words.now ≡ true
sound c =
    whole_of c.args.k c.args.bits.now c.args.words.now (not (eqb (word c.args.words.now c.args.k.held) 0)) (given c)

some : (c : Else-not-has_some) → word c.args.words.now c.args.k.held ≡ 0 → ⊥
some c =
    some_of c.args.k c.args.bits.now c.args.words.now (given c)

takes : (c : In-Some) → Freeing c.args.k c.args.bits.now c.args.words.now (found_low c.in-Some.low)
takes c =
    freeing _ _ _ (st (goal.at.In-Some c).Else-not-is_shaped) c.in-Some.low (some (goal.at.In-Some c).Else-not-has_some) c.in-Some.ensures

pub returns-then-not-is_shaped : goal.returns-then-not-is_shaped
returns-then-not-is_shaped c = pop-bad _ _ _ (sym c.is_shaped.ensures ∙ c.if-not-is_shaped.true)

pub has_some-requires : goal.has_some-requires
has_some-requires c = st c

pub limit_or_damage-requires : goal.limit_or_damage-requires
limit_or_damage-requires c = st (goal.at.limit_or_damage-requires c).Else-not-is_shaped

pub returns-then-not-has_some : goal.returns-then-not-has_some
returns-then-not-has_some c = pop-limit _ _ _ (ok (goal.at.returns-then-not-has_some c).Else-not-is_shaped) _ (sym c.has_some.ensures ∙ c.if-not-has_some.true) c.limit_or_damage.ensures

pub find_lowest-requires : goal.find_lowest-requires
find_lowest-requires c = st (goal.at.find_lowest-requires c).Else-not-is_shaped

pub returns-in_default : goal.returns-in_default
returns-in_default c = pop-unfit _ _ _ (ok (goal.at.returns-in_default c).Else-not-is_shaped) (sound (goal.at.returns-in_default c).Else-not-has_some) (some (goal.at.returns-in_default c).Else-not-has_some) (lowest_of c.args.k c.args.bits.now c.args.words.now) refl c.in_default.ensures

pub element_of-out-requires : goal.element_of-out-requires
element_of-out-requires c = (takes c).takable.node

pub take-requires : goal.take-requires
take-requires c = takes (goal.at.take-requires c).In-Some

pub returns : goal.returns
returns c = pop-out _ _ _ (ok (goal.at.returns c).Else-not-is_shaped) (sound (goal.at.returns c).Else-not-has_some) (some (goal.at.returns c).Else-not-has_some) (found_low c.in-Some.low) c.in-Some.ensures.is _ _ _ refl c.element_of-out.ensures c.take.ensures.0 c.take.ensures.1
