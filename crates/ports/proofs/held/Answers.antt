-- `ports::held` meets its contract.
use Rattle.laws.specs.Prelude.{◌∙◌, not-false, not-true, sym}
use Rattle.bucket_step.specs.Tested.{Stands}
use Rattle.bucket_step.proofs.Read.{fits}
use Rattle.ports.proofs.Pool.{Known, numbers, port<, stands, all_there}
use Rattle.ports.proofs.Returns.{held-unknown, held-torn, held-told}
use Rattle.ports.proofs.held.Goals as goal
use Rattle.ports.proofs.held.Goals.{After-seat_of-k, Else-not-is_known}

-- what has been tested so far
ok : (c : Else-not-is_known) → Known c.args.s c.args.port c.args.bits.now c.args.words.now
ok c = record { both = sym c.is_known.ensures ∙ not-false c.is_known.result c.if-not-is_known.false-raw }

st : (c : After-seat_of-k) → Stands c.seat_of-k.result c.args.bits.now c.args.words.now
st c = stands _ _ _ _ _ c.seat_of-k.ensures (ok (goal.at.After-seat_of-k c).Else-not-is_known)

pub seat_of-k-requires : goal.seat_of-k-requires
seat_of-k-requires c = record { numbers = numbers _ _ _ _ (ok c); port_in = port< _ _ _ _ (ok c) }

pub add_up-t-requires : goal.add_up-t-requires
add_up-t-requires c = ((numbers _ _ _ _ (ok (goal.at.add_up-t-requires c).Else-not-is_known)).few, all_there _ _ _ _ _ c.seat_of-k.ensures (ok (goal.at.add_up-t-requires c).Else-not-is_known))

pub returns-then-not-is_known : goal.returns-then-not-is_known
returns-then-not-is_known c = held-unknown _ _ _ _ _ (sym c.is_known.ensures ∙ not-true c.is_known.result c.if-not-is_known.true-raw) c.shape_or_port.ensures

pub is_whole-requires : goal.is_whole-requires
is_whole-requires c = st (goal.at.is_whole-requires c).After-seat_of-k

pub returns-then-not-is_whole : goal.returns-then-not-is_whole
returns-then-not-is_whole c = held-torn _ _ _ _ _ c.seat_of-k.ensures (ok (goal.at.returns-then-not-is_whole c).Else-not-is_known) _ c.add_up-t.ensures (sym c.is_whole.ensures ∙ not-true c.is_whole.result c.if-not-is_whole.true-raw)

pub held_count-requires : goal.held_count-requires
held_count-requires c = fits _ _ _ (st (goal.at.held_count-requires c).After-seat_of-k)

pub returns : goal.returns
returns c = held-told _ _ _ _ _ c.seat_of-k.ensures (ok (goal.at.returns c).Else-not-is_known) _ c.add_up-t.ensures _ (sym c.is_whole.ensures ∙ not-false c.is_whole.result c.if-not-is_whole.false-raw) c.held_count.ensures
