-- `fair::push` meets its contract.
use Rattle.laws.specs.Prelude.{◌∙◌, ◌≡◌, arith}
use Rattle.fair.proofs.Notes.{good-strip, push-bad, push-short, push-spent, push-taken}
use Rattle.fair.proofs.push.Goals as goal

pub returns-then-not-strip_ok : goal.returns-then-not-strip_ok
returns-then-not-strip_ok c = push-bad c.strip_ok.result c.args.flow.0 c.args.weight.0 c.args.length.0 c.strip_ok.ensures _ _ _ _ _ c.if-not-strip_ok.true-raw

pub returns-then-state-lt-STATE_WORDS : goal.returns-then-state-lt-STATE_WORDS
returns-then-state-lt-STATE_WORDS c = push-short c.strip_ok.result c.args.flow.0 c.args.weight.0 c.args.length.0 c.strip_ok.ensures _ _ _ _ _ c.if-not-strip_ok.false-raw c.if-state-lt-STATE_WORDS.true

pub bounds-state-flow : goal.bounds-state-flow
bounds-state-flow c = omega (arith, good-strip c.strip_ok.result c.args.flow.0 c.args.weight.0 c.args.length.0 c.strip_ok.ensures c.if-not-strip_ok.false-raw, c.if-state-lt-STATE_WORDS.false)

pub finish_of-next-requires : goal.finish_of-next-requires
finish_of-next-requires c = good-strip c.strip_ok.result c.args.flow.0 c.args.weight.0 c.args.length.0 c.strip_ok.ensures c.if-not-strip_ok.false-raw

pub returns-in_default : goal.returns-in_default
returns-in_default c = push-spent c.strip_ok.result c.args.flow.0 c.args.weight.0 c.args.length.0 c.strip_ok.ensures _ _ _ _ _ _ c.if-not-strip_ok.false-raw c.if-state-lt-STATE_WORDS.false c.finish_of-next.ensures (omega (arith, c.in_default.ensures))

pub note-requires : goal.note-requires
note-requires c = omega (arith, good-strip c.strip_ok.result c.args.flow.0 c.args.weight.0 c.args.length.0 c.strip_ok.ensures c.if-not-strip_ok.false-raw, c.if-state-lt-STATE_WORDS.false)

pub returns : goal.returns
returns c =
    let same : c.in-Ok.rank ≡ c.finish_of-next.result = omega (arith, c.in-Ok.ensures) in
    push-taken c.strip_ok.result c.args.flow.0 c.args.weight.0 c.args.length.0 c.strip_ok.ensures _ _ _ _ _ c.in-Ok.rank _ _ _ _
    c.if-not-strip_ok.false-raw c.if-state-lt-STATE_WORDS.false (same ∙ c.finish_of-next.ensures) (omega (arith, c.in-Ok.ensures)) c.push-answer.ensures c.note.ensures
