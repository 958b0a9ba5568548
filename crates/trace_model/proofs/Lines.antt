-- The lengths of words and lines.
use Rattle.laws.specs.Prelude.{Answer, BadPort, BadRank, BadShape, Damaged, Element, Empty, Full, Idle, NoHeap, NoTag, Pop, Push, Replace, Request, TooSoon, ◌≤◌, arith, length, length-append, ℕ, Ok, None, Some, Err}
use Rattle.text.proofs.Laws.{decimal-short}
use Rattle.text.specs.Text.{decimal}
use Rattle.trace_model.specs.Format.{bad_line, done_word, end_line, length_word, line_of, longest_line, longest_word, out_word, refusal_word, word_of}
use Rattle.trace_model.specs.declared.Version.{Version}
use Rattle.trace_model.specs.declared.Version.TheVariants.{One, Two}

third-short : (v : Version) (l : ℕ) → length (length_word v l) ≤ 21
unfolding length_word decimal
third-short One l = omega arith
third-short Two l = rw length-append (omega (arith, decimal-short 20 l))

out-short : (v : Version) (e : Element) → length (out_word v e) ≤ 66
unfolding out_word decimal
out-short v e =
    rw (length-append, length-append, length-append, length-append)
    (omega (arith, decimal-short 20 e.rank.0, decimal-short 20 e.tag.0, third-short v e.length.0))

pub word-short : (v : Version) (r : Request) (a : Answer) → length (word_of v r a) ≤ longest_word
unfolding word_of done_word refusal_word
word-short v Idle (Ok None) = omega arith
word-short v (Push x) (Ok None) = omega arith
word-short v Pop (Ok None) = omega arith
word-short v (Replace x) (Ok None) = omega arith
word-short v r (Ok (Some e)) = omega (arith, out-short v e)
word-short v r (Err BadShape) = omega arith
word-short v r (Err Damaged) = omega arith
word-short v r (Err TooSoon) = omega arith
word-short v r (Err BadRank) = omega arith
word-short v r (Err Full) = omega arith
word-short v r (Err Empty) = omega arith
word-short v r (Err NoTag) = omega arith
word-short v r (Err BadPort) = omega arith
word-short v r (Err NoHeap) = omega arith

pub line-short : (v : Version) (n : ℕ) (r : Request) (a : Answer) → length (line_of v n r a) ≤ longest_line
unfolding line_of decimal
line-short v n r a = rw (length-append, length-append, length-append) (omega (arith, decimal-short 20 n, word-short v r a))

pub bad-short : (n : ℕ) → length (bad_line n) ≤ longest_line
unfolding bad_line decimal
bad-short n = rw (length-append, length-append) (omega (arith, decimal-short 20 n))

pub end_short : (h d : ℕ) → length (end_line h d) ≤ longest_line
unfolding end_line decimal
end_short h d = rw (length-append, length-append, length-append, length-append) (omega (arith, decimal-short 20 h, decimal-short 20 d))
