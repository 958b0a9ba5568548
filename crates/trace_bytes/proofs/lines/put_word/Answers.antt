-- `trace_bytes::lines::put_word` meets its contract.
use Rattle.laws.specs.Prelude.{Element, Ok, Option, ◌∙◌, ap, sym}
use Rattle.text.proofs.Laws.{laid_same}
use Rattle.trace_model.specs.Format.{word_of}
use Rattle.trace_bytes.proofs.lines.put_word.Goals as goal

pub returns-in-Ok-None : goal.returns-in-Ok-None
unfolding word_of
returns-in-Ok-None c =
    let inner = rw c.in-Ok-None.is at c.in-Ok-None.field-0-is in
    laid_same _ _ _ _ _ _ (ap (word_of c.args.version c.args.request) (sym (c.in-Ok-None.is ∙ ap (λ (o : Option Element). Ok o) inner))) c.put_done.ensures

pub returns-in-Ok-Some : goal.returns-in-Ok-Some
unfolding word_of
returns-in-Ok-Some c =
    let inner = rw c.in-Ok-Some.is at c.in-Ok-Some.field-0-is in
    laid_same _ _ _ _ _ _ (ap (word_of c.args.version c.args.request) (sym (c.in-Ok-Some.is ∙ ap (λ (o : Option Element). Ok o) inner))) c.put_out.ensures

pub returns-in-Err : goal.returns-in-Err
unfolding word_of
returns-in-Err c = laid_same _ _ _ _ _ _ (ap (word_of c.args.version c.args.request) (sym c.in-Err.is)) c.put_refusal.ensures
