use Rattle.laws.specs.Prelude.{arith, length}
use Rattle.lines_model.specs.Layout.{shape_ok}
use Rattle.lines_work.proofs.Finds.{room, small, told-no, told-yes}
use Rattle.lines.proofs.Calls.{clear-no, clear-yes}
use Rattle.lines.proofs.clear.Goals as goal

pub returns-then-not-shape_ok : goal.returns-then-not-shape_ok
returns-then-not-shape_ok c = clear-no c.args.k c.args.s.now (told-no _ _ c.shape_ok.ensures c.if-not-shape_ok.true-raw)

pub overflow_mul-words : goal.overflow_mul-words
overflow_mul-words c = omega (arith, (small c.args.k (length c.args.s.now) (told-yes _ (shape_ok c.args.k (length c.args.s.now)) c.shape_ok.ensures c.if-not-shape_ok.false-raw)).area)

pub overflow_mul-words-2 : goal.overflow_mul-words-2
overflow_mul-words-2 c = omega (arith, (small c.args.k (length c.args.s.now) (told-yes _ (shape_ok c.args.k (length c.args.s.now)) c.shape_ok.ensures c.if-not-shape_ok.false-raw)).area)

pub overflow_add-words : goal.overflow_add-words
overflow_add-words c = omega (arith, (small c.args.k (length c.args.s.now) (told-yes _ (shape_ok c.args.k (length c.args.s.now)) c.shape_ok.ensures c.if-not-shape_ok.false-raw)).area, (small c.args.k (length c.args.s.now) (told-yes _ (shape_ok c.args.k (length c.args.s.now)) c.shape_ok.ensures c.if-not-shape_ok.false-raw)).lines)

pub wipe_words-requires : goal.wipe_words-requires
wipe_words-requires c = omega (arith, room c.args.k (length c.args.s.now) (told-yes _ (shape_ok c.args.k (length c.args.s.now)) c.shape_ok.ensures c.if-not-shape_ok.false-raw))

pub returns : goal.returns
returns c = clear-yes c.args.k c.args.s.now _ (told-yes _ (shape_ok c.args.k (length c.args.s.now)) c.shape_ok.ensures c.if-not-shape_ok.false-raw) c.wipe_words.ensures
