-- `bucket_node::wipe_words` meets its contract.
use Rattle.std.proofs.Common.{replicate, rules}
use Rattle.laws.specs.Prelude.{◌+◌, ◌-◌, ◌≡◌, arith, sym}
use Rattle.bucket_model.specs.Prelude.{blank_word, store_words}
use Rattle.bucket_node.proofs.Blanks.{blank-behind, fill-behind}
use Rattle.bucket_node.proofs.wipe_words.Goals as goal

pub returns : goal.returns
returns c =
    let k = c.args.k in
    let e : c.fill.new.self ≡ replicate (k.held + 1 - (k.free + 1)) 0 = search rules in
    rw (e, c.wipe_lists.ensures) (fill-behind (blank_word k) (k.free + 1) _ (store_words k) c.args.words.now (omega (arith, c.requires.fits.laid.held)) c.requires.fits.words (λ j l. sym (blank-behind k c.requires.fits.laid j (omega (arith, l)))))
