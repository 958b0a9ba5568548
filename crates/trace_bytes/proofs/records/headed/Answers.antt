-- `trace_bytes::records::headed` meets its contract.
use Rattle.laws.specs.Prelude.{rules}
use Rattle.trace_bytes.proofs.Read.{headed-one, headed-other, headed-two}
use Rattle.trace_bytes.proofs.records.headed.Goals as goal

pub returns-in-1 : goal.returns-in-1
returns-in-1 c = headed-one _ _ _ c.in-1.is

pub returns-in-2 : goal.returns-in-2
returns-in-2 c = headed-two _ _ _ c.in-2.is

pub returns-in_default : goal.returns-in_default
returns-in_default c = headed-other _ _ _ (λ e. search rules) (λ e. search rules)
