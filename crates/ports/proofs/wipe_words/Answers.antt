-- `ports::wipe_words` meets its contract.
use Rattle.laws.specs.Prelude.{◌*◌, ◌+◌, ◌∙◌, ◌≡◌, ap, arith, ℕ}
use Rattle.bucket_model.specs.Prelude.{fill}
use Rattle.ports.specs.Blank.{blank_at}
use Rattle.ports.proofs.Blanks.{fill-first, fill-port}
use Rattle.ports.proofs.wipe_words.Goals as goal

pub wipe_lists-requires : goal.wipe_lists-requires
wipe_lists-requires c = record { laid = c.requires.wiping.laid; free_in = omega (arith, c.requires.words_in); pool_in = c.requires.wiping.nodes≤ }

pub loop-p-init : goal.loop-p-init
loop-p-init c = fill-first c.args.k c.args.limits.now c.args.words.now _ c.wipe_lists.ensures

pub loop-p-preserved : goal.loop-p-preserved
loop-p-preserved c = fill-port c.args.k c.args.limits.now c.loop-p.p _ _ _ _ (omega (arith, c.requires.words_in, c.loop-p-test.true)) c.loop-p.invariant c.floor_of.ensures c.ceiling_of.ensures

pub returns : goal.returns
returns c =
    let a = c.args in
    let ended : a.k.free + 3 * c.loop-p.p + 1 ≡ a.k.free + (1 + 3 * a.ports) = omega (arith, c.loop-p-test.false) in
    c.loop-p.invariant ∙ ap (λ (i : ℕ). fill (blank_at a.k a.limits.now) i a.words.now) ended
