-- The lent words: a node is the left and the right count, then K places, each rank, tag, length and flag; nodes lie level by level, node by node.
use Rattle.std.specs.Prelude.{◌&&◌, ◌*◌, ◌+◌, ◌<◌, ◌||◌, ◌∷◌, ◌≡◌, ◌≤◌, ◌⊎◌}
use Rattle.laws.specs.Prelude.{Bool, Element, List, [], element_in, element_words, eqb, false, get_or, set, suc, true, write_element, zero, ℕ}
unfoldable pub use Rattle.strip.specs.Words.{is_blank}
use Rattle.cluster_model.specs.Node.{Place, gap, has, elem_of, Node}

abbrev pub word : List ℕ → ℕ → ℕ
word ws i = get_or ws i 0

-- c things of d words each, from o on
unfoldable pub row_of : {A : Type 0} → (List ℕ → ℕ → A) → ℕ → ℕ → List ℕ → ℕ → List A
row_of rd d zero ws o = []
row_of rd d (suc c) ws o = rd ws o ∷ row_of rd d c ws (o + d)

unfoldable pub place_by : Bool → Element → Place
place_by true e = gap
place_by false e = has e

-- a place's words: its element's, and the flag behind them
abbrev pub place_words : ℕ
place_words = element_words + 1

abbrev pub flag_at : ℕ → ℕ
flag_at o = o + element_words

unfoldable pub place_of : List ℕ → ℕ → Place
place_of ws o = place_by (eqb (word ws (flag_at o)) 0) (element_in ws o)

-- a node's words: the count on the left, the count on the right, then its places
abbrev pub count_words : ℕ
count_words = 2

abbrev pub right_at : ℕ → ℕ
right_at b = b + 1

abbrev pub width : ℕ → ℕ
width K = count_words + K * place_words

unfoldable pub node_of : ℕ → List ℕ → ℕ → Node
node_of K ws b = record { left = word ws b; right = word ws (right_at b); places = row_of place_of place_words K ws (b + count_words) }

-- ---- writes
unfoldable pub flag_of : Place → ℕ
flag_of gap = 0
flag_of (has e) = 1

unfoldable pub write_place : List ℕ → ℕ → Place → List ℕ
write_place ws o p = set (write_element ws o (elem_of p)) (flag_at o) (flag_of p)

unfoldable pub write_row : List Place → List ℕ → ℕ → List ℕ
write_row [] ws o = ws
write_row (p ∷ ps) ws o = write_row ps (write_place ws o p) (o + place_words)

unfoldable pub write_node : List ℕ → ℕ → Node → List ℕ
write_node ws o n = write_row n.places (set (set ws o n.left) (right_at o) n.right) (o + count_words)

-- the same words but from lo up to hi
abbrev pub Only : ℕ → ℕ → List ℕ → List ℕ → Type 0
Only lo hi ws ws' = (i : ℕ) → (i < lo) ⊎ (hi ≤ i) → word ws' i ≡ word ws i

-- ---- a flag is 0 or 1, and where it is 0 the place is all zero
abbrev pub NeatPlace : List ℕ → ℕ → Type 0
NeatPlace ws o = (elem_of (place_of ws o) ≡ element_in ws o) × (flag_of (place_of ws o) ≡ word ws (flag_at o))

abbrev pub NeatRow : ℕ → List ℕ → ℕ → Type 0
NeatRow zero ws o = Unit {0}
NeatRow (suc K) ws o = NeatPlace ws o × NeatRow K ws (o + place_words)

-- of a node that begins at o
abbrev pub Neat : ℕ → List ℕ → ℕ → Type 0
Neat K ws o = NeatRow K ws (o + count_words)

-- the test of a place
unfoldable pub neat_place : List ℕ → ℕ → Bool
neat_place ws o = (eqb (word ws (flag_at o)) 0 && is_blank (element_in ws o)) || eqb (word ws (flag_at o)) 1
