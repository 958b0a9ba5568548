use Rattle.laws.specs.Prelude.{arith, length}
use Rattle.lines_work.proofs.Comes.{come-full, come-put}
use Rattle.lines_work.proofs.Finds.{room}
use Rattle.lines_work.proofs.come_push.Goals as goal

pub has_room-requires : goal.has_room-requires
has_room-requires c = omega (arith, room c.args.k (length c.args.s.now) c.requires)

pub returns-then-not-has_room : goal.returns-then-not-has_room
returns-then-not-has_room c = come-full c.args.k c.args.s.now c.args.x _ _ c.taker_of-l.ensures c.has_room.ensures _ c.if-not-has_room.true-raw c.denied.ensures

pub returns : goal.returns
returns c = come-put c.args.k c.args.s.now c.args.x _ _ c.taker_of-l.ensures c.has_room.ensures c.if-not-has_room.false-raw
