-- `ports::replace` meets its contract.
use Rattle.laws.specs.Prelude.{◌&&◌, ◌<◌, ◌∙◌, ◌≡◌, and_left, eqb, false, ltb, ltb-true, not, refl, sym, true, untagged}
use Rattle.bucket_model.specs.Prelude.{found_low, found_room, taken_bits, taken_words, word}
use Rattle.bucket_step.specs.Tested.{Stands, Freeing, FoundRoom, room_freed}
use Rattle.bucket_step.proofs.Read.{fits, freed-found, freed-unfound}
use Rattle.bucket_step.proofs.Steps.{all-tall, within, freeing, swapping, showing}
use Rattle.ports_step.specs.Sums.{whole_by}
use Rattle.ports.proofs.Pool.{Known, numbers, port<, stands, all_there}
use Rattle.ports.proofs.Returns.{give-some, replace-unknown, replace-newcomer, replace-limit, replace-unfit, replace-shut, replace-out}
use Rattle.ports.proofs.replace.Goals as goal
use Rattle.ports.proofs.replace.Goals.{After-agrees_after, After-seat_of-k, Else-not-has_some, Else-not-is_known, Else-not-may_come, In-Some}

-- places on the way, each from a later one

-- what has been tested so far
ok : (c : Else-not-is_known) → Known c.args.s c.args.port c.args.bits.now c.args.words.now
ok c = record { both = sym c.is_known.ensures ∙ c.if-not-is_known.false }

st : (c : After-seat_of-k) → Stands c.seat_of-k.result c.args.bits.now c.args.words.now
st c = stands _ _ _ _ _ c.seat_of-k.ensures (ok (goal.at.After-seat_of-k c).Else-not-is_known)

pub seat_of-k-requires : goal.seat_of-k-requires
seat_of-k-requires c = record { numbers = numbers _ _ _ _ (ok c); port_in = port< _ _ _ _ (ok c) }

pub add_up-t-requires : goal.add_up-t-requires
add_up-t-requires c = ((numbers _ _ _ _ (ok (goal.at.add_up-t-requires c).Else-not-is_known)).few, all_there _ _ _ _ _ c.seat_of-k.ensures (ok (goal.at.add_up-t-requires c).Else-not-is_known))

comes : (c : Else-not-may_come) → (ltb c.args.e.rank.0 c.seat_of-k.result.ranks && not (untagged c.args.e)) ≡ true
comes c = sym c.may_come.ensures ∙ c.if-not-may_come.false

ranked : (c : Else-not-may_come) → c.args.e.rank.0 < c.seat_of-k.result.ranks
ranked c =
    ltb-true _ _ (and_left (ltb c.args.e.rank.0 c.seat_of-k.result.ranks) (not (untagged c.args.e)) (comes c))

given : (c : Else-not-has_some) → (whole_by c.seat_of-k.result c.add_up-t.result c.args.bits.now c.args.words.now && not (eqb (word c.args.words.now c.seat_of-k.result.held) 0)) ≡ true
given c = sym c.has_some.ensures ∙ c.if-not-has_some.false

takes : (c : In-Some) → Freeing c.seat_of-k.result c.args.bits.now c.args.words.now (found_low c.in-Some.low)
takes c =
    freeing _ _ _ (st (goal.at.In-Some c).After-seat_of-k) c.in-Some.low (give-some _ _ _ _ _ c.seat_of-k.ensures (ok (goal.at.In-Some c).Else-not-is_known) _ c.add_up-t.ensures (given (goal.at.In-Some c).Else-not-has_some)) c.in-Some.ensures

-- the newcomer's bucket as after the pop
found : (c : After-agrees_after) → FoundRoom c.agrees_after.result (found_room c.in-Some-room_after.room) (room_freed c.seat_of-k.result (taken_bits c.seat_of-k.result c.args.bits.now (found_low c.in-Some.low)) (taken_words c.seat_of-k.result c.args.words.now (found_low c.in-Some.low)) c.args.e.rank.0)
found c =
    freed-found _ c.args.bits.now _ (found_low c.in-Some.low) (takes (goal.at.After-agrees_after c).In-Some).takable _ c.in-Some-room_after.room c.in-Some-room_after.ensures _ _ c.held_count-held.ensures c.agrees_after.ensures

pub returns-then-not-is_known : goal.returns-then-not-is_known
returns-then-not-is_known c = replace-unknown _ _ _ _ _ (sym c.is_known.ensures ∙ c.if-not-is_known.true) c.shape_or_port.ensures c.args.e

pub returns-then-not-may_come : goal.returns-then-not-may_come
returns-then-not-may_come c = replace-newcomer _ _ _ _ _ c.seat_of-k.ensures (ok (goal.at.returns-then-not-may_come c).Else-not-is_known) c.args.e _ (sym c.may_come.ensures ∙ c.if-not-may_come.true) c.rank_or_tag.ensures

pub has_some-requires : goal.has_some-requires
has_some-requires c = st (goal.at.has_some-requires c).After-seat_of-k

pub limit_or_damage-requires : goal.limit_or_damage-requires
limit_or_damage-requires c = st (goal.at.limit_or_damage-requires c).After-seat_of-k

pub returns-then-not-has_some : goal.returns-then-not-has_some
returns-then-not-has_some c = replace-limit _ _ _ _ _ c.seat_of-k.ensures (ok (goal.at.returns-then-not-has_some c).Else-not-is_known) _ c.add_up-t.ensures _ (sym c.has_some.ensures ∙ c.if-not-has_some.true) c.limit_or_damage.ensures c.args.e (comes (goal.at.returns-then-not-has_some c).Else-not-may_come)

pub find_lowest-requires : goal.find_lowest-requires
find_lowest-requires c = st (goal.at.find_lowest-requires c).After-seat_of-k

pub returns-in_default : goal.returns-in_default
returns-in_default c = replace-unfit _ _ _ _ _ c.seat_of-k.ensures (ok (goal.at.returns-in_default c).Else-not-is_known) _ c.add_up-t.ensures (given (goal.at.returns-in_default c).Else-not-has_some) c.args.e (comes (goal.at.returns-in_default c).Else-not-may_come) c.in_default.ensures

pub room_after-requires : goal.room_after-requires
room_after-requires c = record { takable = (takes c).takable; rank_in = ranked (goal.at.room_after-requires c).Else-not-may_come }

pub held_count-held-requires : goal.held_count-held-requires
held_count-held-requires c = fits _ _ _ (st (goal.at.held_count-held-requires c).After-seat_of-k)

pub agrees_after-requires : goal.agrees_after-requires
agrees_after-requires c = let t = takes (goal.at.agrees_after-requires c).In-Some in record { tall = all-tall _ _ _ t.stands; low_in = within _ _ _ _ t.stands t.takable.rank<; rank_in = within _ _ _ _ t.stands (ranked (goal.at.agrees_after-requires c).Else-not-may_come); switchable = t.set }

pub returns-in_default-room_after : goal.returns-in_default-room_after
returns-in_default-room_after c =
    let t = takes (goal.at.returns-in_default-room_after c).In-Some in
    replace-shut _ _ _ _ _ c.seat_of-k.ensures (ok (goal.at.returns-in_default-room_after c).Else-not-is_known) _ c.add_up-t.ensures (given (goal.at.returns-in_default-room_after c).Else-not-has_some) c.args.e (comes (goal.at.returns-in_default-room_after c).Else-not-may_come) (found_low c.in-Some.low) c.in-Some.ensures.is refl t false _ (freed-unfound _ c.args.bits.now _ (found_low c.in-Some.low) t.takable _ c.in_default-room_after.ensures) refl

pub returns-then-not-agrees_after : goal.returns-then-not-agrees_after
returns-then-not-agrees_after c = replace-shut _ _ _ _ _ c.seat_of-k.ensures (ok (goal.at.returns-then-not-agrees_after c).Else-not-is_known) _ c.add_up-t.ensures (given (goal.at.returns-then-not-agrees_after c).Else-not-has_some) c.args.e (comes (goal.at.returns-then-not-agrees_after c).Else-not-may_come) (found_low c.in-Some.low) c.in-Some.ensures.is refl (takes (goal.at.returns-then-not-agrees_after c).In-Some) _ _ (found (goal.at.returns-then-not-agrees_after c).After-agrees_after) c.if-not-agrees_after.true

pub element_of-first-requires : goal.element_of-first-requires
element_of-first-requires c = (takes (goal.at.element_of-first-requires c).In-Some).takable.node

pub swap-requires : goal.swap-requires
swap-requires c = swapping _ _ _ _ _ _ _ (takes (goal.at.swap-requires c).In-Some) (ranked (goal.at.swap-requires c).Else-not-may_come) (found (goal.at.swap-requires c).After-agrees_after) c.if-not-agrees_after.false

pub show-requires : goal.show-requires
show-requires c = showing _ _ _ _ _ _ (swapping _ _ _ _ _ _ _ (takes (goal.at.show-requires c).In-Some) (ranked (goal.at.show-requires c).Else-not-may_come) (found (goal.at.show-requires c).After-agrees_after) c.if-not-agrees_after.false) _ c.swap.ensures.0

pub returns : goal.returns
returns c = replace-out _ _ _ _ _ c.seat_of-k.ensures (ok (goal.at.returns c).Else-not-is_known) _ c.add_up-t.ensures (given (goal.at.returns c).Else-not-has_some) c.args.e (comes (goal.at.returns c).Else-not-may_come) (found_low c.in-Some.low) c.in-Some.ensures.is refl (takes (goal.at.returns c).In-Some) _ _ (found (goal.at.returns c).After-agrees_after) c.if-not-agrees_after.false _ _ _ _ c.element_of-first.ensures c.swap.ensures.0 c.show.ensures c.swap.ensures.1
