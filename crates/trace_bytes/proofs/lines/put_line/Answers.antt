-- `trace_bytes::lines::put_line` meets its contract.
use Rattle.laws.specs.Prelude.{arith}
use Rattle.text.proofs.Laws.{laid_then}
use Rattle.trace_model.proofs.Laws.{word-short}
use Rattle.trace_model.specs.Format.{line_of}
use Rattle.trace_bytes.proofs.lines.put_line.Goals as goal

pub put_bytes-requires : goal.put_bytes-requires
put_bytes-requires c = omega (arith, word-short c.args.version c.args.request c.args.answer, c.put_word-c.ensures.0, c.put_bytes-b.ensures.0, c.put_number-a.ensures.1, c.put_word-c.auto.out, c.put_bytes-b.auto.out, c.put_number-a.auto.out, c.requires)

pub returns : goal.returns
unfolding line_of
returns c = laid_then _ _ _ _ _ _ _ _ (c.put_number-a.ensures.0, c.put_number-a.ensures.2) (laid_then _ _ _ _ _ _ _ _ c.put_bytes-b.ensures (laid_then _ _ _ _ _ _ _ _ c.put_word-c.ensures c.put_bytes.ensures))
