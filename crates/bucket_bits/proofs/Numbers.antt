-- The words' numbers: the word above number i is number (i - 1) / 64, whatever the depth.
use Rattle.laws.specs.Prelude.{◌*◌, ◌+◌, ◌<◌, ◌^◌, ◌≡◌, ◌≤◌, arith, pow-suc, suc, zero, ℕ}
use Rattle.bucket_model.specs.Prelude.{words_of}

pub words_up : (d : ℕ) → words_of (suc d) ≡ 64 * words_of d + 1
words_up zero = omega arith
words_up (suc d) = omega (arith, words_up d, pow-suc 64 d)

pub words-le : (d e : ℕ) → d ≤ e → words_of d ≤ words_of e
words-le zero e h = omega arith
words-le (suc d) zero h = absurd (omega arith)
words-le (suc d) (suc e) h = let a = words-le d e (omega arith) in omega (arith, words_up d, words_up e)

-- the storeys end well before the ranks do
pub words-lt : (d : ℕ) → words_of d < 64 ^ d
words-lt zero = omega arith
words-lt (suc d) = omega (arith, words-lt d, pow-suc 64 d)
