-- `ports::push_at` meets its contract.
use Rattle.laws.specs.Prelude.{◌&&◌, ◌<◌, ◌∙◌, ◌≡◌, and_left, arith, ltb, ltb-true, not, refl, sym, true, untagged}
use Rattle.bucket_step.specs.Tested.{Stands, FoundRoom}
use Rattle.bucket_step.proofs.Read.{fits, room-found, room-none}
use Rattle.bucket_step.proofs.Steps.{all-tall, within}
use Rattle.ports_step.specs.Sums.{whole_by, room_by}
use Rattle.bucket_model.specs.Prelude.{found_room, room_with}
use Rattle.ports.proofs.Pool.{Known, numbers, port<, stands, all_there, limits-there, used-fits, roomy, joining}
use Rattle.ports.proofs.Returns.{push-unknown, push-newcomer, push-limit, push-unfit, push-done}
use Rattle.ports.proofs.push_at.Goals as goal
use Rattle.ports.proofs.push_at.Goals.{After-agrees, After-seat_of-k, Else-not-has_room, Else-not-is_known, Else-not-may_come}

-- places on the way, each from a later one

-- what has been tested so far
ok : (c : Else-not-is_known) → Known c.args.s c.args.port c.args.bits.now c.args.words.now
ok c = record { both = sym c.is_known.ensures ∙ c.if-not-is_known.false }

st : (c : After-seat_of-k) → Stands c.seat_of-k.result c.args.bits.now c.args.words.now
st c = stands _ _ _ _ _ c.seat_of-k.ensures (ok (goal.at.After-seat_of-k c).Else-not-is_known)

pub seat_of-k-requires : goal.seat_of-k-requires
seat_of-k-requires c = record { numbers = numbers _ _ _ _ (ok c); port_in = port< _ _ _ _ (ok c) }

pub add_up-t-requires : goal.add_up-t-requires
add_up-t-requires c = ((numbers _ _ _ _ (ok (goal.at.add_up-t-requires c).Else-not-is_known)).few, all_there _ _ _ _ _ c.seat_of-k.ensures (ok (goal.at.add_up-t-requires c).Else-not-is_known))

comes : (c : Else-not-may_come) → (ltb c.args.e.rank.0 c.seat_of-k.result.ranks && not (untagged c.args.e)) ≡ true
comes c = sym c.may_come.ensures ∙ c.if-not-may_come.false

ranked : (c : Else-not-may_come) → c.args.e.rank.0 < c.seat_of-k.result.ranks
ranked c =
    ltb-true _ _ (and_left (ltb c.args.e.rank.0 c.seat_of-k.result.ranks) (not (untagged c.args.e)) (comes c))

given : (c : Else-not-has_room) → (whole_by c.seat_of-k.result c.add_up-t.result c.args.bits.now c.args.words.now && room_by c.seat_of-k.result c.add_up-t.result c.args.words.now) ≡ true
given c = sym c.has_room.ensures ∙ c.if-not-has_room.false

found : (c : After-agrees) → FoundRoom c.agrees.result (found_room c.in-Some.to) (room_with c.seat_of-k.result c.add_up-t.result.used c.args.bits.now c.args.words.now c.args.e.rank.0)
found c =
    room-found _ c.args.bits.now _ _ c.in-Some.to _ c.in-Some.ensures _ c.agrees.ensures

pub returns-then-not-is_known : goal.returns-then-not-is_known
returns-then-not-is_known c = push-unknown _ _ _ _ _ (sym c.is_known.ensures ∙ c.if-not-is_known.true) c.shape_or_port.ensures c.args.e

pub returns-then-not-may_come : goal.returns-then-not-may_come
returns-then-not-may_come c = push-newcomer _ _ _ _ _ c.seat_of-k.ensures (ok (goal.at.returns-then-not-may_come c).Else-not-is_known) c.args.e _ (sym c.may_come.ensures ∙ c.if-not-may_come.true) c.rank_or_tag.ensures

pub has_room-requires : goal.has_room-requires
has_room-requires c = record { stands = st (goal.at.has_room-requires c).After-seat_of-k; held_in = limits-there _ _ _ _ _ c.seat_of-k.ensures (ok (goal.at.has_room-requires c).Else-not-is_known) }

pub limit_or_damage-requires : goal.limit_or_damage-requires
limit_or_damage-requires c = st (goal.at.limit_or_damage-requires c).After-seat_of-k

pub returns-then-not-has_room : goal.returns-then-not-has_room
returns-then-not-has_room c = push-limit _ _ _ _ _ c.seat_of-k.ensures (ok (goal.at.returns-then-not-has_room c).Else-not-is_known) _ c.add_up-t.ensures c.args.e (comes (goal.at.returns-then-not-has_room c).Else-not-may_come) _ (sym c.has_room.ensures ∙ c.if-not-has_room.true) c.limit_or_damage.ensures

pub overflow_cast-t : goal.overflow_cast-t
overflow_cast-t c = omega (arith, used-fits c.args.s c.args.port c.args.bits.now c.args.words.now c.seat_of-k.result c.seat_of-k.ensures c.add_up-t.result c.add_up-t.ensures (ok (goal.at.overflow_cast-t c).Else-not-is_known) (given (goal.at.overflow_cast-t c).Else-not-has_room))

pub find_room-requires : goal.find_room-requires
find_room-requires c = record { fits = fits _ _ _ (st (goal.at.find_room-requires c).After-seat_of-k); rank_in = ranked (goal.at.find_room-requires c).Else-not-may_come; roomy = roomy _ _ _ _ _ c.seat_of-k.ensures _ c.add_up-t.ensures (ok (goal.at.find_room-requires c).Else-not-is_known) (given (goal.at.find_room-requires c).Else-not-has_room) }

pub agrees-requires : goal.agrees-requires
agrees-requires c = record { tall = all-tall _ _ _ (st (goal.at.agrees-requires c).After-seat_of-k); rank_in = within _ _ _ _ (st (goal.at.agrees-requires c).After-seat_of-k) (ranked (goal.at.agrees-requires c).Else-not-may_come) }

pub returns-in_default : goal.returns-in_default
returns-in_default c = push-unfit _ _ _ _ _ c.seat_of-k.ensures (ok (goal.at.returns-in_default c).Else-not-is_known) _ c.add_up-t.ensures c.args.e (comes (goal.at.returns-in_default c).Else-not-may_come) (given (goal.at.returns-in_default c).Else-not-has_room) (room-none c.seat_of-k.result c.args.bits.now c.args.words.now c.args.e.rank.0 _ c.in_default.ensures)

pub returns-then-not-agrees : goal.returns-then-not-agrees
returns-then-not-agrees c = push-unfit _ _ _ _ _ c.seat_of-k.ensures (ok (goal.at.returns-then-not-agrees c).Else-not-is_known) _ c.add_up-t.ensures c.args.e (comes (goal.at.returns-then-not-agrees c).Else-not-may_come) (given (goal.at.returns-then-not-agrees c).Else-not-has_room) (sym (found (goal.at.returns-then-not-agrees c).After-agrees).good ∙ c.if-not-agrees.true)

pub join-requires : goal.join-requires
join-requires c = joining _ _ _ _ _ c.seat_of-k.ensures _ c.add_up-t.ensures (ok (goal.at.join-requires c).Else-not-is_known) (given (goal.at.join-requires c).Else-not-has_room) _ _ _ (ranked (goal.at.join-requires c).Else-not-may_come) (found (goal.at.join-requires c).After-agrees) c.if-not-agrees.false

pub returns : goal.returns
returns c = push-done _ _ _ _ _ c.seat_of-k.ensures (ok (goal.at.returns c).Else-not-is_known) _ c.add_up-t.ensures c.args.e (comes (goal.at.returns c).Else-not-may_come) (given (goal.at.returns c).Else-not-has_room) (found_room c.in-Some.to) ((found (goal.at.returns c).After-agrees).is c.if-not-agrees.false) refl _ _ c.join.ensures.0 c.join.ensures.1
