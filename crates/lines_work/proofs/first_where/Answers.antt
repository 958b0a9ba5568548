-- `lines_work::first_where` meets its contract.
use Rattle.laws.specs.Prelude.{◌∙◌, ◌≡◌, ap, arith, sym}
use Rattle.lines_model.specs.Layout.{word}
use Rattle.lines_model.specs.Rules.{seek}
use Rattle.lines_work.proofs.Finds.{seek_found, seek-none, seek-past}
use Rattle.lines_work.proofs.first_where.Goals as goal

pub loop-i-init : goal.loop-i-init
loop-i-init g c = λ t h. seek-none _

pub returns-then-passes : goal.returns-then-passes
returns-then-passes g c = λ t h. seek_found (λ l. t (word c.args.s.now l)) c.loop-i.i c.args.n (c.loop-i.invariant t h) (sym (h _ _ (omega (arith, c.type_inv.s c.loop-i.i)) c.if-passes.ensures)) c.loop-i-test.true

pub loop-i-preserved : goal.loop-i-preserved
loop-i-preserved g c = λ t h. seek-past (λ l. t (word c.args.s.now l)) c.loop-i.i (c.loop-i.invariant t h) (sym (h _ _ (omega (arith, c.type_inv.s c.loop-i.i)) c.if-passes.ensures))

pub returns : goal.returns
returns g c = λ t h. let z : c.loop-i.i ≡ c.args.n = omega arith in sym (ap (seek (λ l. t (word c.args.s.now l))) (sym z) ∙ c.loop-i.invariant t h ∙ z)
