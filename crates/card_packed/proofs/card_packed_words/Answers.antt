-- `card_packed::card_packed_words` meets its contract.
use Rattle.laws.specs.Prelude.{arith, not-false, not-true}
use Rattle.card_packed.proofs.Sized.{words-few, words-fit, words-none, words-some}
use Rattle.packed_model.proofs.Tests.{size-pos}
use Rattle.card_packed.proofs.card_packed_words.Goals as goal

pub returns-then-not-shape_ok : goal.returns-then-not-shape_ok
returns-then-not-shape_ok c = words-none c.args.heaps c.args.levels c.shape_ok.result c.shape_ok.ensures (not-true c.shape_ok.result c.if-not-shape_ok.true-raw)

pub power-n-requires : goal.power-n-requires
power-n-requires c = words-few c.args.heaps c.args.levels c.shape_ok.result c.shape_ok.ensures (not-false c.shape_ok.result c.if-not-shape_ok.false-raw)

pub overflow_sub-n : goal.overflow_sub-n
overflow_sub-n c = omega (arith, c.power-n.ensures, size-pos c.args.levels)

pub overflow_mul-result : goal.overflow_mul-result
overflow_mul-result c = omega (arith, words-fit c.args.heaps c.args.levels c.shape_ok.result c.shape_ok.ensures (not-false c.shape_ok.result c.if-not-shape_ok.false-raw) c.power-n.result c.power-n.ensures)

pub overflow_mul-result-2 : goal.overflow_mul-result-2
overflow_mul-result-2 c = omega (arith, words-fit c.args.heaps c.args.levels c.shape_ok.result c.shape_ok.ensures (not-false c.shape_ok.result c.if-not-shape_ok.false-raw) c.power-n.result c.power-n.ensures)

pub overflow_add-result : goal.overflow_add-result
overflow_add-result c = omega (arith, words-fit c.args.heaps c.args.levels c.shape_ok.result c.shape_ok.ensures (not-false c.shape_ok.result c.if-not-shape_ok.false-raw) c.power-n.result c.power-n.ensures)

pub overflow_cast-result : goal.overflow_cast-result
overflow_cast-result c = omega (arith, words-fit c.args.heaps c.args.levels c.shape_ok.result c.shape_ok.ensures (not-false c.shape_ok.result c.if-not-shape_ok.false-raw) c.power-n.result c.power-n.ensures)

pub returns : goal.returns
returns c = words-some c.args.heaps c.args.levels c.shape_ok.result c.shape_ok.ensures (not-false c.shape_ok.result c.if-not-shape_ok.false-raw) _ c.power-n.ensures
