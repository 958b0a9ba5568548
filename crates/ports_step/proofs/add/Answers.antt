-- `ports_step::add` meets its contract.
use Rattle.laws.specs.Prelude.{◌*◌, ◌+◌, arith, refl}
use Rattle.ports_step.proofs.Sums.{sums-more}
use Rattle.ports_step.proofs.add.Goals as goal

pub returns : goal.returns
returns c =
    let a = c.args in
    let known = c.shared_slice_known-1.given in
    sums-more a.words.now a.free a.p a.t _ _ _ _ c.requires.2 refl refl refl c.max.ensures
    (omega (arith, known (a.free + (1 + 3 * a.p)))) (omega (arith, known (a.free + (2 + 3 * a.p))))
