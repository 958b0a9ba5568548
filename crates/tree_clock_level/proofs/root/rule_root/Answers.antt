-- `tree_clock_level::root::rule_root` meets its contract.
use Rattle.laws.specs.Prelude.{refl}
use Rattle.tree_clock_model.specs.Prelude.{asks}
use Rattle.std.proofs.Common.{Some}
use Rattle.tree_clock_level.proofs.Roots.{hears-as, hears-idle, hears-soon}
use Rattle.tree_clock_level.proofs.root.rule_root.Goals as goal

pub returns-then-mark-pops_or_replaces : goal.returns-then-mark-pops_or_replaces
returns-then-mark-pops_or_replaces c = hears-soon _ _ _ _ _ _ c.pops_or_replaces.ensures _ _ c.if-mark-pops_or_replaces.true refl c.stands.ensures

pub returns-in-Idle : goal.returns-in-Idle
returns-in-Idle c = hears-idle _ _ _ _ _ _ c.pops_or_replaces.ensures c.if-mark-pops_or_replaces.false (Some c.still.result) c.in-Idle.is (refl, c.still.ensures)

pub returns-in-Push : goal.returns-in-Push
unfolding asks
returns-in-Push c = hears-as _ _ _ _ _ _ c.pops_or_replaces.ensures c.if-mark-pops_or_replaces.false _ _ c.in-Push.is refl c.rule_push.ensures

pub returns-in-Pop : goal.returns-in-Pop
unfolding asks
returns-in-Pop c = hears-as _ _ _ _ _ _ c.pops_or_replaces.ensures c.if-mark-pops_or_replaces.false _ _ c.in-Pop.is refl c.rule_pop.ensures

pub returns-in-Replace : goal.returns-in-Replace
unfolding asks
returns-in-Replace c = hears-as _ _ _ _ _ _ c.pops_or_replaces.ensures c.if-mark-pops_or_replaces.false _ _ c.in-Replace.is refl c.rule_replace.ensures
