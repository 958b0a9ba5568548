-- `trace_bytes::records::record_of` meets its contract.
use Rattle.laws.specs.Prelude.{rules}
use Rattle.trace_bytes.proofs.Read.{entry-idle, entry_other, entry-pop, entry-push, entry-replace}
use Rattle.trace_bytes.proofs.records.record_of.Goals as goal

pub returns-in-0 : goal.returns-in-0
returns-in-0 c = entry-idle _ _ _ c.in-0.is c.only_blank.ensures

pub returns-in-1 : goal.returns-in-1
returns-in-1 c = entry-push _ _ c.in-1.is

pub returns-in-2 : goal.returns-in-2
returns-in-2 c = entry-pop _ _ _ c.in-2.is c.only_blank-in-2.ensures

pub returns-in-3 : goal.returns-in-3
returns-in-3 c = entry-replace _ _ c.in-3.is

pub returns-in-4-to-255 : goal.returns-in-4-to-255
returns-in-4-to-255 c = entry_other _ _ (λ e. search rules) (λ e. search rules) (λ e. search rules) (λ e. search rules)
