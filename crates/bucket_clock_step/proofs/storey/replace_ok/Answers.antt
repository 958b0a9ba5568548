use Rattle.bucket_clock_step.proofs.Storeys.{falls-if, swap-far, swap_is, swap-unfit}
use Rattle.laws.specs.Prelude.{◌∙◌, arith, not-false, not-true, sym}
use Rattle.bucket_clock_step.proofs.storey.replace_ok.Goals as goal

pub returns-then-not-take_ok : goal.returns-then-not-take_ok
returns-then-not-take_ok c = swap-unfit _ _ _ _ _ _ _ _ _ c.take_ok.ensures (not-true c.take_ok.result c.if-not-take_ok.true-raw)

pub returns-then-k-rank : goal.returns-then-k-rank
returns-then-k-rank c = swap-far _ _ _ _ _ _ _ _ _ c.take_ok.ensures (not-false c.take_ok.result c.if-not-take_ok.false-raw) c.if-k-rank.true

pub put_after_ok-requires : goal.put_after_ok-requires
put_after_ok-requires c = record { floored = c.requires.floor; place_in = omega (arith, c.lead_of-j.ensures, c.requires.ranks c.args.x.rank.0 c.if-k-rank.false); falls = falls-if _ _ _ _ _ _ (sym c.take_ok.ensures ∙ (not-false c.take_ok.result c.if-not-take_ok.false-raw)) }

pub returns : goal.returns
returns c = swap_is _ _ _ _ _ _ _ _ _ _ _ c.take_ok.ensures (not-false c.take_ok.result c.if-not-take_ok.false-raw) c.if-k-rank.false c.lead_of-j.ensures c.put_after_ok.ensures
