-- `cluster_records::record_of` meets its contract.
use Rattle.laws.specs.Prelude.{arith}
use Rattle.cluster_records.proofs.Records.{node-is, place_is, record_is}
use Rattle.cluster_records.proofs.record_of.Goals as goal

pub overflow_cast-q : goal.overflow_cast-q
overflow_cast-q c = omega (arith, node-is c.args.q _ c.in-Put.is c.requires)

pub overflow_cast-q-in-Fill : goal.overflow_cast-q-in-Fill
overflow_cast-q-in-Fill c = omega (arith, node-is c.args.q _ c.in-Fill.is c.requires)

pub overflow_cast-j : goal.overflow_cast-j
overflow_cast-j c = omega (arith, place_is c.args.q _ c.in-Fill.is c.requires)

pub overflow_cast-q-in-Swap : goal.overflow_cast-q-in-Swap
overflow_cast-q-in-Swap c = omega (arith, node-is c.args.q _ c.in-Swap.is c.requires)

pub overflow_cast-j-in-Swap : goal.overflow_cast-j-in-Swap
overflow_cast-j-in-Swap c = omega (arith, place_is c.args.q _ c.in-Swap.is c.requires)

pub returns-in-Nothing : goal.returns-in-Nothing
returns-in-Nothing c = record_is _ _ _ c.in-Nothing.is c.bare.ensures

pub returns-in-Put : goal.returns-in-Put
returns-in-Put c = record_is _ _ _ c.in-Put.is c.laden.ensures

pub returns-in-Fill : goal.returns-in-Fill
returns-in-Fill c = record_is _ _ _ c.in-Fill.is c.bare-in-Fill.ensures

pub returns-in-Swap : goal.returns-in-Swap
returns-in-Swap c = record_is _ _ _ c.in-Swap.is c.laden-in-Swap.ensures
