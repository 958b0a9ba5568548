-- `tree_mend::broken_at` meets its contract.
use Rattle.tree_mend.proofs.Steps.{walk-above, walk-broken, walk-slot}
use Rattle.tree_mend.proofs.broken_at.Goals as goal

pub rank_above-above-requires : goal.rank_above-above-requires
rank_above-above-requires c = walk-above _ _ _ _ c.requires

pub slot_broken-requires : goal.slot_broken-requires
slot_broken-requires c = walk-slot _ _ _ _ c.requires

pub returns : goal.returns
returns c = walk-broken _ _ _ _ _ _ c.rank_above-above.ensures c.slot_broken.ensures
