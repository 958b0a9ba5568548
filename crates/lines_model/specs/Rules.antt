-- What a request is asked and comes to, by the counts and the lines' first places; and what is done for it. These are definitions.
use Rattle.std.specs.Prelude.{◌&&◌, ◌+◌, ◌-◌, ◌||◌, ◌∷◌, ◌≡◌}
use Rattle.laws.specs.Prelude.{Answer, BadRank, Bool, Element, Empty, Full, Idle, List, NoTag, Pop, Push, Refusal, Replace, Request, [], cond, eqb, leb, ltb, not, set, suc, true, zero, ℕ, Err}
use Rattle.promise.specs.Prelude.{Table, Untagged, bars, decided, ends, grants, lacks_tag, needs, stops}
use Rattle.lines_model.specs.Causes.{LineFit, NoRoom, NoRoomAfter, Ranked}
use Rattle.lines_model.specs.Layout.{line_of, put_in, row_at, row_in, Rows, without, word}
pub use Rattle.lines_model.specs.declared.Choice.{Choice}
pub use Rattle.lines_model.specs.declared.Due.{Due}
pub use Rattle.lines_model.specs.declared.Due.TheVariants.{Put, Rest, Swap, Take}

-- ---- which line

-- the first number below n that passes the test, n where none does
abbrev pub onward : (ℕ → Bool) → ℕ → ℕ
onward t j = cond (t j) j (suc j)

unfoldable pub seek : (ℕ → Bool) → ℕ → ℕ
seek t zero = 0
seek t (suc n) = onward t (seek t n)

-- "of the lines that are not empty the one whose first place has the lowest rank, the first of these on a tie": line i goes before line j
unfoldable pub leads : (ℕ → ℕ) → (ℕ → Element) → ℕ → ℕ → Bool
leads c h i j = ltb 0 (c i) && (eqb (c j) 0 || ltb (h i).rank.0 (h j).rank.0)

unfoldable pub lowest : (ℕ → ℕ) → (ℕ → Element) → ℕ → ℕ
lowest c h zero = 0
lowest c h (suc n) = cond (leads c h n (lowest c h n)) n (lowest c h n)

-- HELD: "the sum of the counts"
unfoldable pub total : (ℕ → ℕ) → ℕ → ℕ
total c zero = 0
total c (suc n) = total c n + c n

-- x goes into: kind 1 "the line of its rank", kind 2 "the first line that is not full"
unfoldable pub taker : Rows → (ℕ → ℕ) → Element → ℕ
taker k c x = cond (eqb k.kind 1) (line_of k x.rank.0) (seek (λ l. ltb (c l) k.places) k.lines)

-- given from: kind 1 "the first line that is not empty"
unfoldable pub giver : Rows → (ℕ → ℕ) → (ℕ → Element) → ℕ
giver k c h = cond (eqb k.kind 1) (seek (λ l. ltb 0 (c l)) k.lines) (lowest c h k.lines)

-- where a replace's x goes: kind 1 "the line of its rank"; kind 2 "the line that gave"
unfoldable pub goal : Rows → ℕ → Element → ℕ
goal k l x = cond (eqb k.kind 1) (line_of k x.rank.0) l

-- ---- what a request is asked

-- kind 1: "ranks 0 to 65,535; above, refusal 4"
abbrev pub in_range : Rows → Element → Bool
in_range k x = not (eqb k.kind 1) || ltb x.rank.0 65536

abbrev pub rank_fit : Rows → Request → Bool
rank_fit k Idle = true
rank_fit k (Push x) = in_range k x
rank_fit k Pop = true
rank_fit k (Replace x) = in_range k x

-- "push and replace: 4 (kind 1), 7", before the table a
abbrev pub ask_table : Rows → Request → Table → Table
ask_table k q a = needs BadRank (rank_fit k q) (Ranked k q) (stops NoTag (lacks_tag q) (Untagged q) a)

-- is it a line, and not full?
abbrev pub has_room : Rows → (ℕ → ℕ) → ℕ → Bool
has_room k c l = ltb l k.lines && ltb (c l) k.places

-- a replace that takes from line l: "Where that is the line that gave there is always room; where it is another one and is full, the replace is refused 5"
abbrev pub room_after : Rows → (ℕ → ℕ) → ℕ → ℕ → Bool
room_after k c l g = eqb l g || ltb (c g) k.places

-- "5 or 6", by the counts c and the first places h
abbrev pub late_table : Rows → (ℕ → ℕ) → (ℕ → Element) → Request → Table
late_table k c h Idle = ends
late_table k c h (Push x) = bars Full (has_room k c (taker k c x)) (NoRoom k c x) ends
late_table k c h Pop = stops Empty (eqb (total c k.lines) 0) (total c k.lines ≡ 0) ends
late_table k c h (Replace x) =
    let l = giver k c h in
    stops Empty (eqb (total c k.lines) 0) (total c k.lines ≡ 0) (bars Full (room_after k c l (goal k l x)) (NoRoomAfter k c l (goal k l x)) ends)

-- ---- what a request comes to

-- the lines' work for it
unfoldable pub due_of : Rows → (ℕ → ℕ) → (ℕ → Element) → Request → Due
due_of k c h Idle = Rest
due_of k c h (Push x) = Put (taker k c x) x
due_of k c h Pop = Take (giver k c h)
due_of k c h (Replace x) = Swap (giver k c h) x

abbrev pub choice : Answer → Due → Choice
choice a d = record { answer = a; due = d }

-- refused there is nothing to be done
abbrev pub denied : Refusal → Choice
denied r = choice (Err r) Rest

-- let in: pop and replace answer "the first place of the giver"
abbrev pub let_in : Rows → (ℕ → ℕ) → (ℕ → Element) → Request → Choice
let_in k c h q = choice (grants q (h (giver k c h))) (due_of k c h q)

-- what is answered, and what is to be done; and the same where 4 and 7 have been asked
unfoldable pub choose : Rows → (ℕ → ℕ) → (ℕ → Element) → Request → Choice
choose k c h q = decided denied (ask_table k q (late_table k c h q)) (let_in k c h q)

unfoldable pub come_to : Rows → (ℕ → ℕ) → (ℕ → Element) → Request → Choice
come_to k c h q = decided denied (late_table k c h q) (let_in k c h q)

-- ---- what is done for it

abbrev pub more : List ℕ → ℕ → List ℕ
more w l = set w l (word w l + 1)

abbrev pub fewer : List ℕ → ℕ → List ℕ
fewer w l = set w l (word w l - 1)

-- the counts
unfoldable pub counted : Rows → Due → List ℕ → List ℕ
counted k Rest w = w
counted k (Put l x) w = more w l
counted k (Take l) w = fewer w l
counted k (Swap l x) w = more (fewer w l) (goal k l x)

-- "The number of elements that the line had before is its count, less one where x comes in, and one more where one leaves"
abbrev pub gave_of : List ℕ → ℕ → ℕ → ℕ
gave_of w l g = cond (eqb l g) (word w l) (word w l + 1)

-- the lines, where the counts have changed already
unfoldable pub worked : Rows → Due → List ℕ → List ℕ
worked k Rest w = w
worked k (Put l x) w = put_in w (row_at k l) (word w l - 1) x
worked k (Take l) w = without w (row_at k l) (word w l + 1)
worked k (Swap l x) w = put_in (without w (row_at k l) (gave_of w l (goal k l x))) (row_at k (goal k l x)) (word w (goal k l x) - 1) x

-- ---- damage

-- "every one of the Q counts is at most W"
unfoldable pub counts_below : ℕ → (ℕ → ℕ) → ℕ → Bool
counts_below most c zero = true
counts_below most c (suc n) = counts_below most c n && leb (c n) most

-- "the ranks of places 0 to c − 1 ascend (each at most the next)"
unfoldable pub ascends : List Element → Bool
ascends [] = true
ascends (x ∷ []) = true
ascends (x ∷ y ∷ xs) = leb x.rank.0 y.rank.0 && ascends (y ∷ xs)

-- "the rank of each of the c places is at most 65,535 and belongs to this line"
abbrev pub own_rank : Rows → ℕ → ℕ → Bool
own_rank k l r = not (eqb k.kind 1) || (ltb r 65536 && eqb (line_of k r) l)

unfoldable pub owned : Rows → ℕ → List Element → Bool
owned k l [] = true
owned k l (x ∷ xs) = own_rank k l x.rank.0 && owned k l xs

-- "place c, where c is below W, is 0, 0, 0"
abbrev pub is_blank : List ℕ → ℕ → Bool
is_blank w a = eqb (word w a) 0 && eqb (word w (a + 1)) 0 && eqb (word w (a + 2)) 0

unfoldable pub line_ok : Rows → List ℕ → ℕ → ℕ → Bool
line_ok k w l c = ascends (row_in w (row_at k l) c) && owned k l (row_in w (row_at k l) c) && (not (ltb c k.places) || is_blank w (row_at k l + (c + c + c)))

-- the lines of what is to be done, where line l had `had l` elements before
unfoldable pub lines_ok : Rows → List ℕ → (ℕ → ℕ) → Due → Bool
lines_ok k w had Rest = true
lines_ok k w had (Put l x) = line_ok k w l (had l)
lines_ok k w had (Take l) = line_ok k w l (had l)
lines_ok k w had (Swap l x) = line_ok k w l (had l) && line_ok k w (goal k l x) (had (goal k l x))

abbrev pub LinesFit : Rows → List ℕ → (ℕ → ℕ) → Due → Type 0
LinesFit k w had Rest = Unit {0}
LinesFit k w had (Put l x) = LineFit k w l (had l)
LinesFit k w had (Take l) = LineFit k w l (had l)
LinesFit k w had (Swap l x) = LineFit k w l (had l) × LineFit k w (goal k l x) (had (goal k l x))
