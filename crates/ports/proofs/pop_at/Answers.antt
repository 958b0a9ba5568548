-- `ports::pop_at` meets its contract.
use Rattle.laws.specs.Prelude.{◌&&◌, ◌∙◌, ◌≡◌, eqb, not, refl, sym, true}
use Rattle.bucket_model.specs.Prelude.{found_low, word}
use Rattle.bucket_step.specs.Tested.{Stands, Freeing}
use Rattle.bucket_step.proofs.Steps.{freeing}
use Rattle.ports_step.specs.Sums.{whole_by}
use Rattle.ports.proofs.Pool.{Known, numbers, port<, stands, all_there}
use Rattle.ports.proofs.Returns.{give-some, pop-unknown, pop-limit, pop-unfit, pop-out}
use Rattle.ports.proofs.pop_at.Goals as goal
use Rattle.ports.proofs.pop_at.Goals.{After-seat_of-k, Else-not-has_some, Else-not-is_known, In-Some}

-- places on the way, each from a later one

-- what has been tested so far
ok : (c : Else-not-is_known) → Known c.args.s c.args.port c.args.bits.now c.args.words.now
ok c = record { both = sym c.is_known.ensures ∙ c.if-not-is_known.false }

st : (c : After-seat_of-k) → Stands c.seat_of-k.result c.args.bits.now c.args.words.now
st c = stands _ _ _ _ _ c.seat_of-k.ensures (ok (goal.at.After-seat_of-k c).Else-not-is_known)

pub seat_of-k-requires : goal.seat_of-k-requires
seat_of-k-requires c = record { numbers = numbers _ _ _ _ (ok c); port_in = port< _ _ _ _ (ok c) }

pub add_up-t-requires : goal.add_up-t-requires
add_up-t-requires c = ((numbers _ _ _ _ (ok (goal.at.add_up-t-requires c).Else-not-is_known)).few, all_there _ _ _ _ _ c.seat_of-k.ensures (ok (goal.at.add_up-t-requires c).Else-not-is_known))

given : (c : Else-not-has_some) → (whole_by c.seat_of-k.result c.add_up-t.result c.args.bits.now c.args.words.now && not (eqb (word c.args.words.now c.seat_of-k.result.held) 0)) ≡ true
given c = sym c.has_some.ensures ∙ c.if-not-has_some.false

takes : (c : In-Some) → Freeing c.seat_of-k.result c.args.bits.now c.args.words.now (found_low c.in-Some.low)
takes c =
    freeing _ _ _ (st (goal.at.In-Some c).After-seat_of-k) c.in-Some.low (give-some _ _ _ _ _ c.seat_of-k.ensures (ok (goal.at.In-Some c).Else-not-is_known) _ c.add_up-t.ensures (given (goal.at.In-Some c).Else-not-has_some)) c.in-Some.ensures

pub returns-then-not-is_known : goal.returns-then-not-is_known
returns-then-not-is_known c = pop-unknown _ _ _ _ _ (sym c.is_known.ensures ∙ c.if-not-is_known.true) c.shape_or_port.ensures

pub has_some-requires : goal.has_some-requires
has_some-requires c = st (goal.at.has_some-requires c).After-seat_of-k

pub limit_or_damage-requires : goal.limit_or_damage-requires
limit_or_damage-requires c = st (goal.at.limit_or_damage-requires c).After-seat_of-k

pub returns-then-not-has_some : goal.returns-then-not-has_some
returns-then-not-has_some c = pop-limit _ _ _ _ _ c.seat_of-k.ensures (ok (goal.at.returns-then-not-has_some c).Else-not-is_known) _ c.add_up-t.ensures _ (sym c.has_some.ensures ∙ c.if-not-has_some.true) c.limit_or_damage.ensures

pub find_lowest-requires : goal.find_lowest-requires
find_lowest-requires c = st (goal.at.find_lowest-requires c).After-seat_of-k

pub returns-in_default : goal.returns-in_default
returns-in_default c = pop-unfit _ _ _ _ _ c.seat_of-k.ensures (ok (goal.at.returns-in_default c).Else-not-is_known) _ c.add_up-t.ensures (given (goal.at.returns-in_default c).Else-not-has_some) c.in_default.ensures

pub element_of-out-requires : goal.element_of-out-requires
element_of-out-requires c = (takes c).takable.node

pub take-requires : goal.take-requires
take-requires c = takes (goal.at.take-requires c).In-Some

pub returns : goal.returns
returns c = pop-out _ _ _ _ _ c.seat_of-k.ensures (ok (goal.at.returns c).Else-not-is_known) _ c.add_up-t.ensures (given (goal.at.returns c).Else-not-has_some) (found_low c.in-Some.low) c.in-Some.ensures.is refl _ _ _ c.element_of-out.ensures c.take.ensures.0 c.take.ensures.1
