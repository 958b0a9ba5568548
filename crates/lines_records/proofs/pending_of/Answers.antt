-- `lines_records::pending_of` meets its contract.
use Rattle.laws.specs.Prelude.{arith, rules}
use Rattle.lines_records.proofs.Records.{pending-none, pending-put, pending-swap, pending-take}
use Rattle.lines_records.proofs.pending_of.Goals as goal

pub returns-in-1 : goal.returns-in-1
returns-in-1 c = pending-put _ _ c.element_of-x.ensures c.in-1.is

pub returns-in-2 : goal.returns-in-2
returns-in-2 c = pending-take _ (λ e. omega arith) c.in-2.is

pub returns-in-3 : goal.returns-in-3
returns-in-3 c = pending-swap _ (λ e. omega arith) (λ e. omega arith) _ c.element_of-x.ensures c.in-3.is

pub returns-in_default : goal.returns-in_default
returns-in_default c = pending-none _ (λ e. search rules) (λ e. search rules) (λ e. search rules)
