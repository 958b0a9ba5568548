-- `bucket::replace_laid` meets its contract.
use Rattle.laws.specs.Prelude.{◌&&◌, ◌<◌, ◌∙◌, ◌≡◌, and_left, and_right, eqb, false, ltb, ltb-true, not, not-true, refl, sym, true, untagged}
use Rattle.bucket_model.specs.Prelude.{found_low, found_room, is_shaped, is_whole, lowest_of, room_after, taken_bits, taken_words, word}
use Rattle.bucket_step.specs.Tested.{Stands, Freeing, FoundRoom, room_freed}
use Rattle.bucket_step.proofs.Read.{freed-found}
use Rattle.bucket_model.proofs.Laws.{replace-bad, replace-limit, replace-newcomer, replace-out, replace-shut, replace-unfit}
use Rattle.bucket_step.proofs.Steps.{all-tall, within, freeing, swapping, showing}
use Rattle.bucket.proofs.Steps.{after, after-none, some_of, stands, whole_of}
use Rattle.bucket.proofs.replace_laid.Goals as goal
use Rattle.bucket.proofs.replace_laid.Goals.{After-agrees_after, Else-not-has_some, Else-not-is_shaped, Else-not-may_come, In-Some}

-- what has been tested so far
ok : (c : Else-not-is_shaped) → is_shaped c.args.k c.args.bits.now c.args.words.now ≡ true
ok c = sym c.is_shaped.ensures ∙ c.if-not-is_shaped.false

st : (c : Else-not-is_shaped) → Stands c.args.k c.args.bits.now c.args.words.now
st c = stands _ _ _ c.requires (ok c)

comes : (c : Else-not-may_come) → (ltb c.args.e.rank.0 c.args.k.ranks && not (untagged c.args.e)) ≡ true
comes c = sym c.may_come.ensures ∙ c.if-not-may_come.false

ranked : (c : Else-not-may_come) → c.args.e.rank.0 < c.args.k.ranks
ranked c =
    ltb-true _ _ (and_left (ltb c.args.e.rank.0 c.args.k.ranks) (not (untagged c.args.e)) (comes c))

tag : (c : Else-not-may_come) → untagged c.args.e ≡ false
tag c =
    not-true _ (and_right (ltb c.args.e.rank.0 c.args.k.ranks) (not (untagged c.args.e)) (comes c))

given : (c : Else-not-has_some) → (is_whole c.args.k c.args.bits.now c.args.words.now && not (eqb (word c.args.words.now c.args.k.held) 0)) ≡ true
given c = sym c.has_some.ensures ∙ c.if-not-has_some.false

sound : (c : Else-not-has_some) → is_whole c.args.k c.args.bits.now c.args.words.now ≡ true
sound c =
    whole_of c.args.k c.args.bits.now c.args.words.now (not (eqb (word c.args.words.now c.args.k.held) 0)) (given c)

some : (c : Else-not-has_some) → word c.args.words.now c.args.k.held ≡ 0 → ⊥
some c =
    some_of c.args.k c.args.bits.now c.args.words.now (given c)

takes : (c : In-Some) → Freeing c.args.k c.args.bits.now c.args.words.now (found_low c.in-Some.low)
takes c =
    freeing _ _ _ (st (goal.at.In-Some c).Else-not-is_shaped) c.in-Some.low (some (goal.at.In-Some c).Else-not-has_some) c.in-Some.ensures

-- the newcomer's bucket as after the pop
found : (c : After-agrees_after) → FoundRoom c.agrees_after.result (found_room c.in-Some-room_after.room) (room_freed c.args.k (taken_bits c.args.k c.args.bits.now (found_low c.in-Some.low)) (taken_words c.args.k c.args.words.now (found_low c.in-Some.low)) c.args.e.rank.0)
found c =
    freed-found c.args.k c.args.bits.now c.args.words.now (found_low c.in-Some.low) (takes (goal.at.After-agrees_after c).In-Some).takable c.args.e.rank.0 c.in-Some-room_after.room c.in-Some-room_after.ensures _ _ c.held_count-held.ensures c.agrees_after.ensures

pub returns-then-not-is_shaped : goal.returns-then-not-is_shaped
returns-then-not-is_shaped c = replace-bad _ _ _ c.args.e (sym c.is_shaped.ensures ∙ c.if-not-is_shaped.true)

pub returns-then-not-may_come : goal.returns-then-not-may_come
returns-then-not-may_come c = replace-newcomer _ _ _ c.args.e (ok (goal.at.returns-then-not-may_come c).Else-not-is_shaped) _ (sym c.may_come.ensures ∙ c.if-not-may_come.true) c.rank_or_tag.ensures

pub has_some-requires : goal.has_some-requires
has_some-requires c = st (goal.at.has_some-requires c).Else-not-is_shaped

pub limit_or_damage-requires : goal.limit_or_damage-requires
limit_or_damage-requires c = st (goal.at.limit_or_damage-requires c).Else-not-is_shaped

pub returns-then-not-has_some : goal.returns-then-not-has_some
returns-then-not-has_some c = replace-limit _ _ _ c.args.e (ok (goal.at.returns-then-not-has_some c).Else-not-is_shaped) (ranked (goal.at.returns-then-not-has_some c).Else-not-may_come) (tag (goal.at.returns-then-not-has_some c).Else-not-may_come) _ (sym c.has_some.ensures ∙ c.if-not-has_some.true) c.limit_or_damage.ensures

pub find_lowest-requires : goal.find_lowest-requires
find_lowest-requires c = st (goal.at.find_lowest-requires c).Else-not-is_shaped

pub returns-in_default : goal.returns-in_default
returns-in_default c =
    replace-unfit _ _ _ c.args.e (ok (goal.at.returns-in_default c).Else-not-is_shaped) (ranked (goal.at.returns-in_default c).Else-not-may_come) (tag (goal.at.returns-in_default c).Else-not-may_come) (sound (goal.at.returns-in_default c).Else-not-has_some) (some (goal.at.returns-in_default c).Else-not-has_some)
    (lowest_of c.args.k c.args.bits.now c.args.words.now) refl c.in_default.ensures

pub room_after-requires : goal.room_after-requires
room_after-requires c = record { takable = (takes (goal.at.room_after-requires c).In-Some).takable; rank_in = ranked (goal.at.room_after-requires c).Else-not-may_come }

-- what the bits' test asks: the slice has the words of all storeys, and a bit for either rank,
-- and the pop's bit is set as far up as it would be cleared
pub agrees_after-requires : goal.agrees_after-requires
agrees_after-requires c = let t = takes (goal.at.agrees_after-requires c).In-Some in record { tall = all-tall _ _ _ t.stands; low_in = within _ _ _ _ t.stands t.takable.rank<; rank_in = within _ _ _ _ t.stands (ranked (goal.at.agrees_after-requires c).Else-not-may_come); switchable = t.set }

pub returns-in_default-room_after : goal.returns-in_default-room_after
returns-in_default-room_after c =
    let a = c.args in
    let low = found_low c.in-Some.low in
    replace-shut _ _ _ a.e (ok (goal.at.returns-in_default-room_after c).Else-not-is_shaped) (ranked (goal.at.returns-in_default-room_after c).Else-not-may_come) (tag (goal.at.returns-in_default-room_after c).Else-not-may_come) (sound (goal.at.returns-in_default-room_after c).Else-not-has_some) (some (goal.at.returns-in_default-room_after c).Else-not-has_some) low c.in-Some.ensures.is refl
    (room_after a.k (taken_bits a.k a.bits.now low) (taken_words a.k a.words.now low) a.e.rank.0) refl
    (after-none _ _ _ _ _ (takes (goal.at.returns-in_default-room_after c).In-Some) (sound (goal.at.returns-in_default-room_after c).Else-not-has_some) c.in_default-room_after.ensures)

pub returns-then-not-agrees_after : goal.returns-then-not-agrees_after
returns-then-not-agrees_after c =
    let a = c.args in
    let low = found_low c.in-Some.low in
    replace-shut _ _ _ a.e (ok (goal.at.returns-then-not-agrees_after c).Else-not-is_shaped) (ranked (goal.at.returns-then-not-agrees_after c).Else-not-may_come) (tag (goal.at.returns-then-not-agrees_after c).Else-not-may_come) (sound (goal.at.returns-then-not-agrees_after c).Else-not-has_some) (some (goal.at.returns-then-not-agrees_after c).Else-not-has_some) low c.in-Some.ensures.is refl
    (room_after a.k (taken_bits a.k a.bits.now low) (taken_words a.k a.words.now low) a.e.rank.0) refl
    (sym (after _ _ _ _ _ _ _ (takes (goal.at.returns-then-not-agrees_after c).In-Some) (sound (goal.at.returns-then-not-agrees_after c).Else-not-has_some) (found (goal.at.returns-then-not-agrees_after c).After-agrees_after)).good ∙ c.if-not-agrees_after.true)

pub element_of-first-requires : goal.element_of-first-requires
element_of-first-requires c = (takes (goal.at.element_of-first-requires c).In-Some).takable.node

pub swap-requires : goal.swap-requires
swap-requires c = swapping _ _ _ _ _ _ _ (takes (goal.at.swap-requires c).In-Some) (ranked (goal.at.swap-requires c).Else-not-may_come) (found (goal.at.swap-requires c).After-agrees_after) c.if-not-agrees_after.false

pub show-requires : goal.show-requires
show-requires c = showing _ _ _ _ _ _ (swapping _ _ _ _ _ _ _ (takes (goal.at.show-requires c).In-Some) (ranked (goal.at.show-requires c).Else-not-may_come) (found (goal.at.show-requires c).After-agrees_after) c.if-not-agrees_after.false) _ c.swap.ensures.0

pub returns : goal.returns
returns c =
    replace-out _ _ _ c.args.e (ok (goal.at.returns c).Else-not-is_shaped) (ranked (goal.at.returns c).Else-not-may_come) (tag (goal.at.returns c).Else-not-may_come) (sound (goal.at.returns c).Else-not-has_some) (some (goal.at.returns c).Else-not-has_some) (found_low c.in-Some.low) c.in-Some.ensures.is refl
    (found_room c.in-Some-room_after.room) ((after _ _ _ _ _ _ _ (takes (goal.at.returns c).In-Some) (sound (goal.at.returns c).Else-not-has_some) (found (goal.at.returns c).After-agrees_after)).is c.if-not-agrees_after.false) _ _ _ _ _ refl c.element_of-first.ensures c.swap.ensures.0 refl c.show.ensures c.swap.ensures.1
