-- `tree_clock_level::records::is_quiet` meets its contract.
use Rattle.laws.specs.Prelude.{◌<◌, arith}
use Rattle.std.proofs.lemmas.List.{get_or-take, length-take}
use Rattle.tree_clock_level.proofs.Works.{quiet-end, quiet_next}
use Rattle.tree_clock_level.proofs.records.is_quiet.Goals as goal

pub loop-own-preserved : goal.loop-own-preserved
loop-own-preserved c =
    let less : c.loop-own.own-index < c.args.count = omega (arith, length-take c.args.count c.args.records) in
    quiet_next _ c.args.count c.loop-own.own-index c.loop-own.ok c.is_idle-ok.result less c.loop-own.invariant (rw get_or-take at c.is_idle-ok.ensures)

pub returns : goal.returns
returns c = quiet-end _ c.args.count c.loop-own.own-index c.loop-own.ok (omega (arith, length-take c.args.count c.args.records)) c.loop-own.invariant
