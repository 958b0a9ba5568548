-- `ports::wipe_words` meets its contract.
use Rattle.laws.specs.Prelude.{◌*◌, ◌+◌, ◌≡◌}
use Rattle.bucket_model.specs.Prelude.{fill}
use Rattle.ports.specs.Blank.{blank_at}
use Rattle.ports.proofs.wipe_words.Given as goal

abbrev pub invariant-loop-p : goal.invariant-loop-p
invariant-loop-p l = l.words ≡ fill (blank_at l.k l.limits) (l.k.free + 3 * l.p + 1) l.fn.words
