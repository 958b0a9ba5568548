use Rattle.laws.specs.Prelude.{arith}
use Rattle.bucket_clock_records.proofs.Records.{is-nothing, is-pop, is-push, is-replace}
use Rattle.bucket_clock_records.proofs.waiting_of.Goals as goal

pub returns-in-1 : goal.returns-in-1
returns-in-1 c = is-push _ _ c.element_of-x.ensures c.in-1.is

pub returns-in-2 : goal.returns-in-2
returns-in-2 c = is-pop c.args.r (λ e. omega (arith, c.in-2.is)) c.in-2.is

pub returns-in-3 : goal.returns-in-3
returns-in-3 c = is-replace c.args.r (λ e. omega (arith, c.in-3.is)) (λ e. omega (arith, c.in-3.is)) _ c.element_of-x.ensures c.in-3.is

pub returns-in_default : goal.returns-in_default
returns-in_default c = is-nothing c.args.r (λ e. omega arith) (λ e. omega arith) (λ e. omega arith) _ c.no_work.ensures
