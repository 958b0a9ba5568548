-- `packed_way::edge_to` meets its contract.
use Rattle.packed_way.proofs.Sinks.{last-torn, none_stays, none-torn, one-goes, one-stays, one-torn}
use Rattle.packed_way.proofs.edge_to.Goals as goal

pub returns-then-not-is_blank : goal.returns-then-not-is_blank
returns-then-not-is_blank c = rw (← c.slot_but-a.ensures, ← c.slot_but-b.ensures) (last-torn c.args.c c.args.last c.args.x c.slot_but-a.result c.slot_but-b.result c.requires.1 c.is_blank.result c.is_blank.ensures c.if-not-is_blank.true-raw)

pub returns-then-not-is_blank-2 : goal.returns-then-not-is_blank-2
returns-then-not-is_blank-2 c = rw (← c.slot_but-a.ensures, ← c.slot_but-b.ensures) (none-torn c.args.c c.args.last c.args.x c.slot_but-a.result c.slot_but-b.result c.requires.1 c.is_blank.result c.is_blank.ensures c.if-not-is_blank.false-raw c.if-last-c.true _ c.is_blank-then-last-c.ensures c.if-not-is_blank-2.true-raw)

pub returns-then-last-c : goal.returns-then-last-c
returns-then-last-c c = rw (← c.slot_but-a.ensures, ← c.slot_but-b.ensures) (none_stays c.args.c c.args.last c.args.x c.slot_but-a.result c.slot_but-b.result c.requires.1 c.is_blank.result c.is_blank.ensures c.if-not-is_blank.false-raw c.if-last-c.true _ c.is_blank-then-last-c.ensures c.if-not-is_blank-2.false-raw)

pub returns-then-is_untagged : goal.returns-then-is_untagged
returns-then-is_untagged c = rw (← c.slot_but-a.ensures, ← c.slot_but-b.ensures) (one-torn c.args.c c.args.last c.args.x c.slot_but-a.result c.slot_but-b.result c.requires.1 c.is_blank.result c.is_blank.ensures c.if-not-is_blank.false-raw c.if-last-c.false _ c.is_untagged.ensures c.if-is_untagged.true)

pub returns-then-a-x : goal.returns-then-a-x
returns-then-a-x c = rw (← c.slot_but-a.ensures, ← c.slot_but-b.ensures) (one-goes c.args.c c.args.last c.args.x c.slot_but-a.result c.slot_but-b.result c.requires.1 c.is_blank.result c.is_blank.ensures c.if-not-is_blank.false-raw c.if-last-c.false _ c.is_untagged.ensures c.if-is_untagged.false c.if-a-x.true)

pub returns : goal.returns
returns c = rw (← c.slot_but-a.ensures, ← c.slot_but-b.ensures) (one-stays c.args.c c.args.last c.args.x c.slot_but-a.result c.slot_but-b.result c.requires.1 c.is_blank.result c.is_blank.ensures c.if-not-is_blank.false-raw c.if-last-c.false _ c.is_untagged.ensures c.if-is_untagged.false c.if-a-x.false)
