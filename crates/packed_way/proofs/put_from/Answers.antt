-- `packed_way::put_from` meets its contract.
use Rattle.laws.specs.Prelude.{◌∙◌, arith, le-ltb, lt-ltb, not-false, not-true, refl, sym}
use Rattle.packed_way.proofs.Putted.{climbs-end, climbs-on, climbs-torn, end-torn}
use Rattle.packed_way.proofs.put_from.Goals as goal

pub returns-then-not-is_blank : goal.returns-then-not-is_blank
returns-then-not-is_blank c = λ d r t l e. end-torn c.args.heaps c.requires.0 d r t c.args.x c.args.s.now c.args.end e c.slot-e.result c.slot-e.ensures (sym c.is_blank.ensures ∙ not-true c.is_blank.result c.if-not-is_blank.true-raw)

pub loop-at-init : goal.loop-at-init
loop-at-init c = (omega arith, omega arith, λ d r t l e. climbs-end c.args.heaps c.requires.0 d r t c.args.x c.args.s.now c.args.end e c.slot-e.result c.slot-e.ensures (sym c.is_blank.ensures ∙ not-false c.is_blank.result c.if-not-is_blank.false-raw))

pub returns-then-is_untagged : goal.returns-then-is_untagged
returns-then-is_untagged c = λ d r t l e. climbs-torn c.args.heaps c.requires.0 d r t c.args.x c.args.s.now l _ _ _ (c.loop-at.invariant.2 d r t l e) c.loop-at-test.true c.slot-e-in-loop-at.result c.slot-e-in-loop-at.ensures (sym c.is_untagged.ensures ∙ c.if-is_untagged.true)

pub loop-at-preserved-then-x-e : goal.loop-at-preserved-then-x-e
loop-at-preserved-then-x-e c = (omega (arith, c.loop-at.invariant.0, c.loop-at-test.true, c.requires.0), omega (arith, c.loop-at.invariant.1), λ d r t l e. climbs-on c.args.heaps c.requires.0 d r t c.args.x c.args.s.now l _ _ _ (c.loop-at.invariant.2 d r t l e) c.loop-at-test.true c.slot-e-in-loop-at.result c.slot-e-in-loop-at.ensures (sym c.is_untagged.ensures ∙ c.if-is_untagged.false) _ (rw (lt-ltb _ _ c.if-x-e.true) refl))

pub loop-at-preserved : goal.loop-at-preserved
loop-at-preserved c = (omega (arith, c.loop-at.invariant.0, c.loop-at-test.true, c.requires.0), omega (arith, c.loop-at.invariant.1), λ d r t l e. climbs-on c.args.heaps c.requires.0 d r t c.args.x c.args.s.now l _ _ _ (c.loop-at.invariant.2 d r t l e) c.loop-at-test.true c.slot-e-in-loop-at.result c.slot-e-in-loop-at.ensures (sym c.is_untagged.ensures ∙ c.if-is_untagged.false) _ (rw (le-ltb _ _ c.if-x-e.false) refl))
