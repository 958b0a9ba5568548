-- `tree_clock_level::write_all` meets its contract.
use Rattle.laws.specs.Prelude.{◌∙◌, ◌≡◌, ◌<◌, arith, refl}
use Rattle.std.proofs.lemmas.List.{get_or-take, length-take}
use Rattle.tree_clock_level.proofs.Rounds.{written_next, written_none}
use Rattle.tree_clock_level.proofs.write_all.Goals as goal

pub loop-w-preserved : goal.loop-w-preserved
loop-w-preserved c =
    let less : c.loop-w.w-index < c.args.count = omega (arith, length-take c.args.count c.args.writes) in (
      c.write_slot.auto.s ∙ c.loop-w.invariant.0,
      written_next _ _ _ _ _ c.loop-w.invariant.1 (rw get_or-take at c.write_slot.ensures),
    )

pub returns : goal.returns
returns c =
    let e : c.loop-w.w-index ≡ c.args.count = omega (arith, length-take c.args.count c.args.writes, c.requires.few) in
    rw (← e) c.loop-w.invariant.1

pub loop-w-init : goal.loop-w-init
loop-w-init c = (refl, written_none _ _)
