-- The paper's number, rank, tag and length of each answer.
use Rattle.std.specs.Prelude.{ℕ, ◌*◌, ◌+◌, Bool, true, false, ◌&&◌, ◌||◌, eqb, ltb, Option, None, Some, Result, Ok, Err}
use Rattle.strip.specs.declared.Element.{Element}
use Rattle.strip.specs.declared.Refusal.{Refusal}
use Rattle.strip.specs.declared.Refusal.TheVariants.{BadShape, Damaged, TooSoon, BadRank, Full, Empty, NoTag, BadPort, NoHeap}
use Rattle.strip.specs.declared.Request.{Request}
use Rattle.strip.specs.declared.Request.TheVariants.{Idle, Push, Pop, Replace}

-- an element of this rank, tag and length
abbrev pub element : ℕ → ℕ → ℕ → Element
element r t l = record { rank = record { 0 = r }; tag = record { 0 = t }; length = record { 0 = l } }

-- the element that stands where there is none: "A refusal, idle cycle or push answers rank 0, tag 0"; "Every answer and refusal has the length (0 on refusal)" (02 [9])
unfoldable pub blank : Element
blank = element 0 0 0

-- what the order goes by: "Lower rank leaves first". Comparisons with a carried element are by this alone
unfoldable pub key : Element → ℕ
key e = e.rank.0

-- an element without a tag: "Our lenders use tag 0 for "no strip"" (02 [1])
unfoldable pub untagged : Element → Bool
untagged e = eqb e.tag.0 0

-- what the choice of a node's lowest goes by: "equal ranks within one node .. leave by lower tag"
unfoldable pub precedes : Element → Element → Bool
precedes a b = ltb (key a) (key b) || (eqb (key a) (key b) && ltb a.tag.0 b.tag.0)

-- .. as one number: of rank and tag that are words, the lower precedes
abbrev pub turn : Element → ℕ
turn e = e.rank.0 * 4294967296 + e.tag.0

-- column "No." of the table of refusals
abbrev pub refusal_number : Refusal → ℕ
refusal_number BadShape = 1
refusal_number Damaged = 2
refusal_number TooSoon = 3
refusal_number BadRank = 4
refusal_number Full = 5
refusal_number Empty = 6
refusal_number NoTag = 7
refusal_number BadPort = 8
refusal_number NoHeap = 12

-- what a call answers: that it is done, an element, or a refusal
abbrev pub Answer : Type 0
Answer = Result (Option Element) Refusal

-- .. its number, 0 where nothing is refused
abbrev pub number_of : Answer → ℕ
number_of (Ok o) = 0
number_of (Err r) = refusal_number r

unfoldable pub is_refused : Answer → Bool
is_refused (Ok o) = false
is_refused (Err r) = true

abbrev pub element_of : Answer → Element
element_of (Ok None) = blank
element_of (Ok (Some e)) = e
element_of (Err r) = blank

abbrev pub rank_of : Answer → ℕ
rank_of a = (element_of a).rank.0

abbrev pub tag_of : Answer → ℕ
tag_of a = (element_of a).tag.0

abbrev pub length_of : Answer → ℕ
length_of a = (element_of a).length.0

-- held: its number, and what it answers. "In every queue a refused held answers 0"
abbrev pub count_number : Result ℕ Refusal → ℕ
count_number (Ok n) = 0
count_number (Err r) = refusal_number r

abbrev pub count_of : Result ℕ Refusal → ℕ
count_of (Ok n) = n
count_of (Err r) = 0

-- ---- requests, and cycles of a machine that works by clock cycles
-- is an operation asked for?
unfoldable pub asks : Request → Bool
asks Idle = false
asks (Push x) = true
asks Pop = true
asks (Replace x) = true

-- column "Left behind": after 1 and 2 "everything, mark and records too"; after the others the "cycle runs as idle", after 7 too: "a clocked refusal counts as an
-- idle cycle"
abbrev pub runs_idle : Refusal → Bool
runs_idle BadShape = false
runs_idle Damaged = false
runs_idle TooSoon = true
runs_idle BadRank = true
runs_idle Full = true
runs_idle Empty = true
runs_idle NoTag = true
runs_idle BadPort = true
runs_idle NoHeap = true

-- a cycle with this answer has run
abbrev pub has_run : Answer → Bool
has_run (Ok o) = true
has_run (Err r) = runs_idle r
