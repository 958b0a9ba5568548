-- `fair::reset` meets its contract.
use Rattle.std.proofs.lemmas.Result.{err_from_is_err_and}
use Rattle.fair.proofs.Notes.{reset-done, reset-held, reset-refused, reset-short}
use Rattle.fair.proofs.reset.Goals as goal

pub returns-then-state-lt-STATE_WORDS : goal.returns-then-state-lt-STATE_WORDS
returns-then-state-lt-STATE_WORDS c = reset-short _ _ _ _ c.if-state-lt-STATE_WORDS.true

pub returns-in_err-held : goal.returns-in_err-held
returns-in_err-held c =
    let p = err_from_is_err_and c.from_residual.result c.from_residual.ensures.1 in
    rw (p.1, p.2) (reset-refused _ _ _ _ _ _ c.if-state-lt-STATE_WORDS.false c.held.ensures c.in_err-held.was)

pub returns-then-branch-gt0 : goal.returns-then-branch-gt0
returns-then-branch-gt0 c = reset-held _ _ _ _ _ _ c.if-state-lt-STATE_WORDS.false c.held.ensures c.in_ok-held.was c.if-branch-gt0.true

pub returns : goal.returns
returns c = reset-done _ _ _ _ _ _ _ c.if-state-lt-STATE_WORDS.false c.held.ensures c.in_ok-held.was c.if-branch-gt0.false c.zero_words.ensures
