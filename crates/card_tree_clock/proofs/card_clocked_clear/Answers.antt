-- `card_tree_clock::card_clocked_clear` meets its contract.
use Rattle.laws.specs.Prelude.{◌∙◌, ap, length, subst, sym}
use Rattle.card_tree_clock.specs.Clocked.{clocked_after, Told}
use Rattle.card_tree_clock.proofs.Clocked.{clear-ends, clear-goes, clear_back}
use Rattle.tree_records.specs.Steps.{Ready}
use Rattle.card_tree_clock.proofs.card_clocked_clear.Goals as goal

pub hand_back-requires : goal.hand_back-requires
hand_back-requires c =
    subst (λ (u : Told). Ready u.ended (length c.args.records.now)) (sym c.clear_told-ended.ensures)
    (clear-goes c.args.order c.args.levels c.args.store.now c.args.records.now c.args.mark.now)

pub returns : goal.returns
returns c =
    (λ i. clocked_after (c.hand_back.ensures.1 i) c.clear_told-ended.new.store (c.hand_back.ensures.0 i) c.clear_told-ended.new.mark)
    ∙ ap (clear_back c.args.order c.args.levels c.args.store.now c.args.records.now c.args.mark.now) c.clear_told-ended.ensures
    ∙ clear-ends c.args.order c.args.levels c.args.store.now c.args.records.now c.args.mark.now
