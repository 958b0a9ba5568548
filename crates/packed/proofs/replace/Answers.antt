-- `packed::replace` meets its contract.
use Rattle.std.proofs.lemmas.Result.{err_from_is_err_and}
use Rattle.packed.proofs.Calls.{opened, called-refused, called-open}
use Rattle.laws.specs.Prelude.{◌∙◌, sym}
use Rattle.packed.proofs.replace.Goals as goal

pub replace_open-requires : goal.replace_open-requires
replace_open-requires c = opened _ _ _ _ _ (sym c.in_ok-n.was ∙ c.held.ensures)

pub returns-in_err-n : goal.returns-in_err-n
returns-in_err-n c =
    let p = err_from_is_err_and c.from_residual.result c.from_residual.ensures.1 in
    rw (p.1, p.2) (called-refused _ _ _ _ _ _ (sym c.in_err-n.was ∙ c.held.ensures))

pub returns : goal.returns
returns c = c.replace_open.ensures ∙ called-open _ _ _ _ _ _ (opened _ _ _ _ _ (sym c.in_ok-n.was ∙ c.held.ensures))
