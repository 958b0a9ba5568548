-- `ports_step::room_left` meets its contract.
use Rattle.laws.specs.Prelude.{Bool, ◌&&◌, ◌||◌, ap, ltb}
use Rattle.ports_model.specs.Prelude.{room_ok}
use Rattle.ports_step.proofs.Sums.{spare}
use Rattle.ports_step.proofs.room_left.Goals as goal

pub returns : goal.returns
unfolding room_ok
returns c =
    let a = c.args in
    ap (λ (x : Bool). ltb a.mine a.floor || (ltb a.mine a.ceiling && x)) (spare a.t.claimed a.n)
