-- `bucket_step::tests::room_after` meets its contract.
use Rattle.bucket_step.proofs.Read.{room-after-is, room-after-shut}
use Rattle.bucket_step.proofs.tests.room_after.Goals as goal

pub returns-then-not-links_fit : goal.returns-then-not-links_fit
returns-then-not-links_fit c = room-after-shut _ _ _ c.requires.takable _ _ _ c.head_after-head.ensures c.tail_after-tail.ensures _ 0 c.links_fit.ensures c.if-not-links_fit.true

pub returns : goal.returns
returns c = room-after-is _ _ _ c.requires.takable _ _ _ c.head_after-head.ensures c.tail_after-tail.ensures _ _ c.links_fit.ensures c.if-not-links_fit.false c.free_link.ensures
