-- `bucket_step::tests::is_shaped` meets its contract.
use Rattle.laws.specs.Prelude.{Bool, ◌&&◌, ap, leb, length, ltb}
use Rattle.bucket_model.specs.Prelude.{bit_words, pool, shape_ok}
use Rattle.bucket_step.proofs.tests.is_shaped.Goals as goal

pub returns : goal.returns
unfolding shape_ok
returns c =
    let a = c.args in
    ap (λ (t : Bool). t && leb 1 a.k.nodes && leb a.k.nodes pool && leb (bit_words a.k) (length a.bits.now) && ltb a.k.held (length a.words.now)) c.is_deep.ensures
