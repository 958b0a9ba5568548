-- `packed_way::slot_but` meets its contract.
use Rattle.laws.specs.Prelude.{◌∙◌}
use Rattle.packed_way.proofs.Sinks.{hole-is, hole-not}
use Rattle.packed_way.proofs.slot_but.Goals as goal

pub returns-then-m-p : goal.returns-then-m-p
returns-then-m-p c = hole-is _ _ _ _ _ c.if-m-p.true c.no_element.ensures

pub returns : goal.returns
returns c = c.slot.ensures ∙ hole-not _ _ _ _ c.if-m-p.false
