-- `card_tree_clock::card_clocked_cycle` meets its contract.
use Rattle.laws.specs.Prelude.{◌∙◌, ◌≡◌, ap, length, subst, sym}
use Rattle.card_tree_clock.specs.Clocked.{clocked_after_out, cycle_told, told_out, ToldOut}
use Rattle.card_tree_clock.proofs.Clocked.{cycle-ends, cycle-goes, cycle_back}
use Rattle.tree_records.specs.Steps.{reach, read_of, Ready}
use Rattle.tree_records.specs.declared.Read.{Read}
use Rattle.card_tree_clock.proofs.card_clocked_cycle.Goals as goal
use Rattle.card_tree_clock.proofs.card_clocked_cycle.Goals.{After-cycle_told-ended}

-- what the call on what was read leaves, by the records
told : (c : After-cycle_told-ended) → told_out c.cycle_told-ended.result c.cycle_told-ended.new.store c.cycle_told-ended.new.mark c.cycle_told-ended.new.out
    ≡ cycle_told c.args.order c.args.levels (length c.args.records.now) c.args.store.now c.args.mark.now (read_of (reach c.args.levels (length c.args.records.now)) c.args.records.now) c.args.request c.args.rank c.args.tag c.args.length c.args.out.now
told c =
    c.cycle_told-ended.ensures
    ∙ ap (λ (d : Read). cycle_told c.args.order c.args.levels (length c.args.records.now) c.args.store.now c.args.mark.now d c.args.request c.args.rank c.args.tag c.args.length c.args.out.now) c.load-read.ensures

pub hand_back-requires : goal.hand_back-requires
hand_back-requires c =
    subst (λ (u : ToldOut). Ready u.ended (length c.args.records.now)) (sym (told (goal.at.hand_back-requires c).After-cycle_told-ended))
    (cycle-goes c.args.order c.args.levels c.args.store.now c.args.records.now c.args.mark.now c.args.request c.args.rank c.args.tag c.args.length c.args.out.now)

pub returns : goal.returns
returns c =
    (λ i. clocked_after_out (c.hand_back.ensures.1 i) c.cycle_told-ended.new.store (c.hand_back.ensures.0 i) c.cycle_told-ended.new.mark c.cycle_told-ended.new.out)
    ∙ ap (cycle_back c.args.records.now) (told (goal.at.returns c).After-cycle_told-ended)
    ∙ cycle-ends c.args.order c.args.levels c.args.store.now c.args.records.now c.args.mark.now c.args.request c.args.rank c.args.tag c.args.length c.args.out.now
