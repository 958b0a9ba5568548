-- `bucket_bits::wipe` meets its contract.
use Rattle.std.proofs.Common.{◌≡◌, ap, ◌++◌, drop, replicate, rules}
use Rattle.laws.specs.Prelude.{List, ◌∙◌, ℕ}
use Rattle.bucket_model.proofs.Laws.{fill-zeros}
use Rattle.bucket_bits.proofs.wipe.Goals as goal

pub returns : goal.returns
returns c =
    let e : c.fill.new.self ≡ replicate c.args.end 0 = search rules in
    ap (λ (x : List ℕ). x ++ drop c.args.end c.args.bits.now) e ∙ fill-zeros c.args.end c.args.bits.now c.requires
