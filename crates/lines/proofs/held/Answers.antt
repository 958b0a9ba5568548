use Rattle.laws.specs.Prelude.{arith, length}
use Rattle.lines_model.specs.Layout.{shape_ok}
use Rattle.lines_work.proofs.Finds.{room, small, told-no, told-yes}
use Rattle.lines.proofs.Calls.{held-most, held-no, held-told, held-torn}
use Rattle.lines.proofs.held.Goals as goal

pub returns-then-not-shape_ok : goal.returns-then-not-shape_ok
returns-then-not-shape_ok c = held-no c.args.k c.args.s.now (told-no _ _ c.shape_ok.ensures c.if-not-shape_ok.true-raw)

pub sum_up-seen-requires : goal.sum_up-seen-requires
sum_up-seen-requires c = ((small c.args.k (length c.args.s.now) (told-yes _ (shape_ok c.args.k (length c.args.s.now)) c.shape_ok.ensures c.if-not-shape_ok.false-raw)).lines, omega (arith, room c.args.k (length c.args.s.now) (told-yes _ (shape_ok c.args.k (length c.args.s.now)) c.shape_ok.ensures c.if-not-shape_ok.false-raw)))

pub returns-then-not-seen : goal.returns-then-not-seen
returns-then-not-seen c = held-torn c.args.k c.args.s.now (told-yes _ (shape_ok c.args.k (length c.args.s.now)) c.shape_ok.ensures c.if-not-shape_ok.false-raw) _ c.sum_up-seen.ensures c.if-not-seen.true

pub overflow_cast-result : goal.overflow_cast-result
overflow_cast-result c = omega (arith, held-most c.args.k c.args.s.now (told-yes _ (shape_ok c.args.k (length c.args.s.now)) c.shape_ok.ensures c.if-not-shape_ok.false-raw) c.sum_up-seen.result c.sum_up-seen.ensures c.if-not-seen.false)

pub returns : goal.returns
returns c = held-told c.args.k c.args.s.now (told-yes _ (shape_ok c.args.k (length c.args.s.now)) c.shape_ok.ensures c.if-not-shape_ok.false-raw) _ c.sum_up-seen.ensures c.if-not-seen.false
