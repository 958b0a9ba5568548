-- `trace_bytes::records::sign_ok` meets its contract.
use Rattle.laws.specs.Prelude.{refl}
use Rattle.trace_model.specs.Format.{sign_ok}
use Rattle.trace_bytes.proofs.records.sign_ok.Goals as goal

pub returns : goal.returns
unfolding sign_ok
returns c = refl
