-- `cluster::bar` meets its contract.
use Rattle.std.proofs.lemmas.Result.{err_from_is_err_and}
use Rattle.cluster.proofs.Barred.{bar-refused, bar-tag}
use Rattle.cluster.proofs.bar.Goals as goal

pub returns-in_err-held : goal.returns-in_err-held
returns-in_err-held c =
    let p = err_from_is_err_and c.from_residual.result c.from_residual.ensures.1 in
    rw (p.1, p.2) (bar-refused _ _ _ _ _ c.held.ensures c.in_err-held.was)

pub returns : goal.returns
returns c = bar-tag _ _ _ _ _ c.held.ensures c.in_ok-held.was
