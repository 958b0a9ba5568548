-- Text as lists of bytes: quoted texts, numbers in decimal, and a text laid into a buffer.
use Prim.Native.Char.{code}
use Rattle.std.specs.Prelude.{◌%◌, ◌*◌, ◌+◌, ◌-◌, ◌/◌, suc, zero, ℕ, cond, [], ◌++◌, ◌∷◌, List, ◌≡◌, ltb, length, set}
use Prim.Native.String.{String}
use Prim.Native.String as string

-- the bytes of a quoted text
abbrev pub bytes_of : String → List ℕ
bytes_of string.[] = []
bytes_of (string.◌∷◌ c s) = code c ∷ bytes_of s

-- the bytes of a text laid over a buffer from a place on
unfoldable pub overlay : List ℕ → ℕ → List ℕ → List ℕ
overlay s i [] = s
overlay s i (x ∷ xs) = overlay (set s i x) (suc i) xs

-- a number's last k digits in decimal, without leading zeros; 48 is the byte of the digit 0
unfoldable pub decimal_by : ℕ → ℕ → List ℕ
decimal_by zero n = []
decimal_by (suc k) n = cond (ltb n 10) ((48 + n) ∷ []) (decimal_by k (n / 10) ++ ((48 + n % 10) ∷ []))

-- the longest number of 64 bits has 20 digits
abbrev pub longest : ℕ
longest = 20

unfoldable pub decimal : ℕ → List ℕ
decimal n = decimal_by longest n

-- the number that digits say
unfoldable pub value_from : ℕ → List ℕ → ℕ
value_from a [] = a
value_from a (d ∷ ds) = value_from (10 * a + (d - 48)) ds

abbrev pub value : List ℕ → ℕ
value ds = value_from 0 ds

-- a text laid into the buffer s from i on makes the buffer r, and p is the place past it
abbrev pub Laid : List ℕ → ℕ → List ℕ → List ℕ → ℕ → Type 0
Laid s i t r p = (p ≡ i + length t) × (r ≡ overlay s i t)
