-- `bucket_node::wipe_lists` meets its contract.
use Rattle.std.proofs.Common.{◌++◌, drop, replicate, rules}
use Rattle.laws.specs.Prelude.{List, ◌+◌, ◌∙◌, ◌≡◌, ◌≤◌, ap, arith, length, refl, ℕ}
use Rattle.bucket_model.proofs.Laws.{fill-zeros}
use Rattle.bucket_node.proofs.Blanks.{blank-lists, ends-lists, fill-node}
use Rattle.bucket_node.proofs.wipe_lists.Goals as goal

pub loop-link-init : goal.loop-link-init
loop-link-init c =
    let e : c.fill.new.self ≡ replicate (c.args.k.stem + 3) 0 = search rules in
    let all : c.args.k.stem + 3 ≤ length c.args.words.now = omega (arith, c.requires.free_in, c.requires.laid.pool) in
    (ap (λ (x : List ℕ). x ++ drop (c.args.k.stem + 3) c.args.words.now) e ∙ fill-zeros _ _ all ∙ blank-lists c.args.k c.args.words.now, refl)

pub loop-link-preserved : goal.loop-link-preserved
loop-link-preserved c = (fill-node c.args.k c.requires.laid _ _ c.loop-link.link c.loop-link.node _ c.loop-link.auto.link (omega (arith, c.loop-link-test.true)) c.requires.free_in c.loop-link.invariant.0 c.loop-link.invariant.1 c.blank_next.ensures, omega (arith, c.loop-link.invariant.1))

pub returns : goal.returns
returns c = ends-lists c.args.k c.requires.laid _ _ _ c.loop-link.invariant.0 (omega (arith, c.loop-link.invariant.1, c.requires.laid.pool, c.loop-link-test.false)) c.requires.free_in
