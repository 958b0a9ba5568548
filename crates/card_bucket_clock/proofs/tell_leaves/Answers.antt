use Rattle.card_bucket_clock.proofs.Told.{told_none, told-some}
use Rattle.card_bucket_clock.proofs.tell_leaves.Goals as goal

pub returns-in-None : goal.returns-in-None
returns-in-None c = told_none c.args.leaves _ c.args.out.now _ c.in-None.is c.no_element.ensures c.tell_element.ensures

pub returns-in-Some : goal.returns-in-Some
returns-in-Some c = told-some c.args.leaves _ c.args.out.now _ c.in-Some.is c.tell_element-in-Some.ensures
