-- `card_tree_clock::card_clocked_drain` meets its contract.
use Rattle.laws.specs.Prelude.{◌∙◌, ◌≡◌, ap, length, subst, sym}
use Rattle.card_tree_clock.specs.Clocked.{clocked_after_out, drain_told, told_out, ToldOut}
use Rattle.card_tree_clock.proofs.Clocked.{drain-ends, drain-goes, cycle_back}
use Rattle.tree_records.specs.Steps.{reach, read_of, Ready}
use Rattle.tree_records.specs.declared.Read.{Read}
use Rattle.card_tree_clock.proofs.card_clocked_drain.Goals as goal
use Rattle.card_tree_clock.proofs.card_clocked_drain.Goals.{After-drain_told-ended}

-- what the call on what was read leaves, by the records
told : (c : After-drain_told-ended) → told_out c.drain_told-ended.result c.drain_told-ended.new.store c.drain_told-ended.new.mark c.drain_told-ended.new.out
    ≡ drain_told c.args.order c.args.levels (length c.args.records.now) c.args.store.now c.args.mark.now (read_of (reach c.args.levels (length c.args.records.now)) c.args.records.now) c.args.budget c.args.out.now
told c =
    c.drain_told-ended.ensures
    ∙ ap (λ (d : Read). drain_told c.args.order c.args.levels (length c.args.records.now) c.args.store.now c.args.mark.now d c.args.budget c.args.out.now) c.load-read.ensures

pub hand_back-requires : goal.hand_back-requires
hand_back-requires c =
    subst (λ (u : ToldOut). Ready u.ended (length c.args.records.now)) (sym (told (goal.at.hand_back-requires c).After-drain_told-ended))
    (drain-goes c.args.order c.args.levels c.args.store.now c.args.records.now c.args.mark.now c.args.budget c.args.out.now)

pub returns : goal.returns
returns c =
    (λ i. clocked_after_out (c.hand_back.ensures.1 i) c.drain_told-ended.new.store (c.hand_back.ensures.0 i) c.drain_told-ended.new.mark c.drain_told-ended.new.out)
    ∙ ap (cycle_back c.args.records.now) (told (goal.at.returns c).After-drain_told-ended)
    ∙ drain-ends c.args.order c.args.levels c.args.store.now c.args.records.now c.args.mark.now c.args.budget c.args.out.now
