-- The trace's bytes: header, records, and the text of a line.
use Rattle.std.specs.Prelude.{◌%◌, ◌&&◌, ◌*◌, ◌++◌, ◌+◌, ◌/◌, ◌∷◌}
use Rattle.laws.specs.Prelude.{Answer, BadPort, BadRank, BadShape, Bool, Damaged, Element, Empty, Full, Idle, List, NoHeap, NoTag, Pop, Push, Refusal, Replace, Request, TooSoon, [], cond, element, eqb, get_or, is_blank, leb, length, not, suc, zero, ℕ, Ok, None, Some, Err}
use Rattle.text.specs.Text.{bytes_of, decimal}
use Rattle.std.specs.Prelude.{None, Option, Some}
use Rattle.trace_model.specs.declared.Header.{Header}
use Rattle.trace_model.specs.declared.Version.{Version}
use Rattle.trace_model.specs.declared.Version.TheVariants.{One, Two}
use Rattle.tree_model.specs.Prelude.{order_ok, room}

-- ---- text
-- "Other words: idle, full, empty"
unfoldable pub done_word : Request → List ℕ
done_word Idle = bytes_of "idle"
done_word (Push x) = bytes_of "pushed"
done_word Pop = []
done_word (Replace x) = []

-- too soon, full, empty, and "The trace writes `no tag`" (02 [1]); the others have no word, and a cleared machine never gives them
unfoldable pub refusal_word : Refusal → List ℕ
refusal_word BadShape = []
refusal_word Damaged = []
refusal_word TooSoon = bytes_of "too soon"
refusal_word BadRank = []
refusal_word Full = bytes_of "full"
refusal_word Empty = bytes_of "empty"
refusal_word NoTag = bytes_of "no tag"
refusal_word BadPort = []
refusal_word NoHeap = []

-- out R T; "an `out` line with a third number" in version 2, "the old lines" in version 1 (02 [9])
unfoldable pub length_word : Version → ℕ → List ℕ
length_word One l = []
length_word Two l = bytes_of " " ++ decimal l

unfoldable pub out_word : Version → Element → List ℕ
out_word v e = bytes_of "out " ++ (decimal e.rank.0 ++ (bytes_of " " ++ (decimal e.tag.0 ++ length_word v e.length.0)))

unfoldable pub word_of : Version → Request → Answer → List ℕ
word_of v r (Ok None) = done_word r
word_of v r (Ok (Some e)) = out_word v e
word_of v r (Err n) = refusal_word n

-- a record's number, a space, the word, and a newline
unfoldable pub line_of : Version → ℕ → Request → Answer → List ℕ
line_of v n r a = decimal n ++ (bytes_of " " ++ (word_of v r a ++ bytes_of "\n"))

-- held H drained D
unfoldable pub end_line : ℕ → ℕ → List ℕ
end_line h d = bytes_of "held " ++ (decimal h ++ (bytes_of " drained " ++ (decimal d ++ bytes_of "\n")))

-- bad record N
unfoldable pub bad_line : ℕ → List ℕ
bad_line n = bytes_of "bad record " ++ (decimal n ++ bytes_of "\n")

abbrev pub bad_trace : List ℕ
bad_trace = bytes_of "bad trace\n"

-- more than any word and any line has
abbrev pub longest_word : ℕ
longest_word = 72

abbrev pub longest_line : ℕ
longest_line = 96

-- ---- the header: "PFT", a 16-bit version 1 (low byte first), one byte order, one byte levels; "Trace version 2 ..; version 1 is still
-- read" (02 [9])
abbrev pub header_bytes : ℕ
header_bytes = 7

abbrev pub byte_at : List ℕ → ℕ → ℕ
byte_at bs i = get_or bs i 0

-- "Shapes up to 4,094 slots"
abbrev pub trace_limit : ℕ
trace_limit = 4094

unfoldable pub sign_ok : List ℕ → Bool
sign_ok bs = eqb (byte_at bs 0) 80 && (eqb (byte_at bs 1) 70 && eqb (byte_at bs 2) 84)

unfoldable pub trace_shape : ℕ → ℕ → Bool
trace_shape m levels = order_ok m && (leb 1 levels && leb (room m levels) trace_limit)

abbrev pub version_at : List ℕ → ℕ → ℕ
version_at bs i = byte_at bs i + 256 * byte_at bs (i + 1)

abbrev pub header : Version → ℕ → ℕ → Header
header v m levels = record { version = v; order = m; levels = levels }

-- a shape in the version of this number; there are two
unfoldable pub headed : ℕ → ℕ → ℕ → Option Header
headed n m levels = cond (eqb n 1) (Some (header One m levels)) (cond (eqb n 2) (Some (header Two m levels)) None)

unfoldable pub header_of : List ℕ → Option Header
header_of bs = cond (leb header_bytes (length bs) && (sign_ok bs && trace_shape (byte_at bs 5) (byte_at bs 6))) (headed (version_at bs 3) (byte_at bs 5) (byte_at bs 6)) None

-- ---- records "of 9 bytes: code, rank, tag, low bytes first"; "Trace version 2 has 13-byte records" (02 [9])
abbrev pub record_bytes : Version → ℕ
record_bytes One = 9
record_bytes Two = 13

abbrev pub number_at : List ℕ → ℕ → ℕ
number_at bs i = byte_at bs i + 256 * byte_at bs (i + 1) + 65536 * byte_at bs (i + 2) + 16777216 * byte_at bs (i + 3)

-- behind the tag in version 2; "version 1 is still read, with length 0"
unfoldable pub length_at : Version → List ℕ → ℕ → ℕ
length_at One bs i = 0
length_at Two bs i = number_at bs (i + 9)

-- "Codes are 0 idle, 1 push, 2 pop, 3 replace; every other code is a bad record, and so is a 0 or 2 with rank or tag not 0"; "length 0
-- too on codes 0 and 2"
abbrev pub only_blank : Element → Request → Option Request
only_blank e r = cond (is_blank e) (Some r) None

unfoldable pub entry_of : ℕ → Element → Option Request
entry_of code e =
    cond (eqb code 0) (only_blank e Idle)
    (cond (eqb code 1) (Some (Push e))
    (cond (eqb code 2) (only_blank e Pop)
    (cond (eqb code 3) (Some (Replace e)) None)))

unfoldable pub entry_at : Version → List ℕ → ℕ → Option Request
entry_at v bs i = entry_of (byte_at bs i) (element (number_at bs (i + 1)) (number_at bs (i + 5)) (length_at v bs i))

-- so many whole records, the first of them at i
unfoldable pub records_from : Version → ℕ → ℕ → List ℕ → List (Option Request)
records_from v zero i bs = []
records_from v (suc k) i bs = entry_at v bs i ∷ records_from v k (i + record_bytes v) bs

-- "and so is .. a cut record"
unfoldable pub cut_record : Bool → List (Option Request)
cut_record cut = cond cut (None ∷ []) []

-- all records of these bytes; what is left over is one that is cut
unfoldable pub records_of : Version → List ℕ → List (Option Request)
records_of v bs = records_from v (length bs / record_bytes v) 0 bs ++ cut_record (not (eqb (length bs % record_bytes v) 0))
