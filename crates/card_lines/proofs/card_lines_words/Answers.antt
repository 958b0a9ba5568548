-- `card_lines::card_lines_words` meets its contract.
use Rattle.laws.specs.Prelude.{◌∙◌, ap, arith, sym}
use Rattle.card_lines.proofs.Sized.{words-none, words-some}
use Rattle.lines_model.specs.Layout.{shape_ok, store_words}
use Rattle.lines_model.specs.declared.Rows.{Rows}
use Rattle.lines_work.proofs.Finds.{small, told-no, told-yes}
use Rattle.card_lines.proofs.card_lines_words.Goals as goal

pub returns-then-not-shape_ok : goal.returns-then-not-shape_ok
returns-then-not-shape_ok c =
    let a = c.args in
    words-none a.kind a.lines a.places (ap (λ (k : Rows). shape_ok k 1573376) (sym c.rows_of-k.ensures) ∙ told-no _ _ c.shape_ok.ensures c.if-not-shape_ok.true-raw)

pub overflow_mul-result : goal.overflow_mul-result
overflow_mul-result c = omega (arith, (small c.rows_of-k.result 1573376 (told-yes _ (shape_ok c.rows_of-k.result 1573376) c.shape_ok.ensures c.if-not-shape_ok.false-raw)).area)

pub overflow_mul-result-2 : goal.overflow_mul-result-2
overflow_mul-result-2 c = omega (arith, (small c.rows_of-k.result 1573376 (told-yes _ (shape_ok c.rows_of-k.result 1573376) c.shape_ok.ensures c.if-not-shape_ok.false-raw)).area)

pub overflow_add-result : goal.overflow_add-result
overflow_add-result c = omega (arith, (small c.rows_of-k.result 1573376 (told-yes _ (shape_ok c.rows_of-k.result 1573376) c.shape_ok.ensures c.if-not-shape_ok.false-raw)).lines, (small c.rows_of-k.result 1573376 (told-yes _ (shape_ok c.rows_of-k.result 1573376) c.shape_ok.ensures c.if-not-shape_ok.false-raw)).area)

pub overflow_cast-result : goal.overflow_cast-result
overflow_cast-result c = omega (arith, (small c.rows_of-k.result 1573376 (told-yes _ (shape_ok c.rows_of-k.result 1573376) c.shape_ok.ensures c.if-not-shape_ok.false-raw)).lines, (small c.rows_of-k.result 1573376 (told-yes _ (shape_ok c.rows_of-k.result 1573376) c.shape_ok.ensures c.if-not-shape_ok.false-raw)).area)

pub returns : goal.returns
returns c =
    let a = c.args in
    ap store_words c.rows_of-k.ensures
    ∙ words-some a.kind a.lines a.places (ap (λ (k : Rows). shape_ok k 1573376) (sym c.rows_of-k.ensures) ∙ told-yes _ _ c.shape_ok.ensures c.if-not-shape_ok.false-raw)
