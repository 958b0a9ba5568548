-- What the code of one node computes: the tests of a node once it has been scanned, the lower of two children, a count one more or less.
use Rattle.std.specs.Prelude.{◌&&◌, ◌*◌, ◌+◌, ◌-◌, ◌/◌, ◌<◌, ◌||◌, ◌≡◌, ◌≤◌}
use Rattle.laws.specs.Prelude.{Bool, Element, List, cond, element_in, eqb, key, leb, length, ltb, not, pred, set, true, ℕ}
use Rattle.cluster_node.specs.declared.Seen.{Seen}
use Rattle.cluster_node.specs.declared.Lead.{Lead}
use Rattle.cluster_node.specs.declared.Found.{Found}
use Rattle.cluster_node.specs.declared.Chosen.{Chosen}
use Rattle.cluster_model.specs.Prelude.{count_words, place_words, right_at, width, word}
use Rattle.cluster_node.specs.Seeing.{look_to}
use Rattle.cluster_node.specs.Full.{low_lead}

unfoldable pub elem_at : List ℕ → ℕ → Element
elem_at ws o = element_in ws o

-- the room of a child's child
unfoldable pub under_of : ℕ → ℕ → ℕ
under_of K limit = (limit - K) / 2

-- nothing below the node at word o
unfoldable pub bare_at : List ℕ → ℕ → Bool
bare_at ws o = eqb (word ws o) 0 && eqb (word ws (right_at o)) 0

-- the node at word o is in order, once it has been scanned
unfoldable pub ok_by : ℕ → ℕ → List ℕ → ℕ → Seen → Bool
ok_by K limit ws o v = v.neat && (leb (word ws o) limit && (leb (word ws (right_at o)) limit && (bare_at ws o || leb K v.count)))

-- its counts are within the room of its children
unfoldable pub counts_ok : ℕ → List ℕ → ℕ → Bool
counts_ok limit ws o = leb (word ws o) limit && leb (word ws (right_at o)) limit

unfoldable pub raise_words : Bool → List ℕ → ℕ → ℕ → ℕ → List ℕ
raise_words right ws o l r = cond right (set ws (right_at o) (r + 1)) (set ws o (l + 1))

unfoldable pub sink_words : Bool → List ℕ → ℕ → ℕ → ℕ → List ℕ
sink_words right ws o l r = cond right (set ws (right_at o) (pred r)) (set ws o (pred l))

-- of the children whose count is not 0 the one with the lower lowest, left on a tie
unfoldable pub right_lower : ℕ → ℕ → Element → Element → Bool
right_lower l r a b = not (eqb r 0) && (eqb l 0 || ltb (key b) (key a))

unfoldable pub choice_by : Found → Found → ℕ → ℕ → ℕ → Element → Element → Chosen
choice_by p q m l r a b = record {
  ok = p.ok && q.ok;
  right = right_lower l r a b;
  child = cond (right_lower l r a b) (m + m + 2) (m + m + 1);
  place = cond (right_lower l r a b) q.place p.place;
  up = cond (right_lower l r a b) b a;
}

module _ (K : ℕ) where
  -- the scan of node m
  unfoldable pub look_node : List ℕ → ℕ → Seen
  look_node ws m = look_to ws (m * width K + count_words) K

  -- word of place j of node m
  abbrev pub place_in : ℕ → ℕ → ℕ
  place_in m j = m * width K + count_words + j * place_words

  -- the node at word o, read for its lowest; limit is the room of its children
  unfoldable pub peek_here : ℕ → List ℕ → ℕ → Found
  peek_here limit ws o =
      let v = look_to ws (o + count_words) K in
      record { ok = ok_by K limit ws o v && not (eqb v.count 0); place = v.low; rank = word ws (o + count_words + v.low * place_words) }

  -- .. if its count is not 0
  unfoldable pub peek_at : ℕ → List ℕ → ℕ → ℕ → Found
  peek_at limit ws o count = cond (eqb count 0) (record { ok = true; place = 0; rank = 0 }) (peek_here limit ws o)

  abbrev pub peek_of : ℕ → List ℕ → ℕ → ℕ → Found
  peek_of limit ws m count = peek_at limit ws (m * width K) count

  -- limit is the room of a child's child
  unfoldable pub choice_of : ℕ → List ℕ → ℕ → Chosen
  choice_of limit ws m =
      let l = word ws (m * width K) in
      let r = word ws (right_at (m * width K)) in
      let p = peek_of limit ws (m + m + 1) l in
      let q = peek_of limit ws (m + m + 2) r in
      choice_by p q m l r (elem_at ws (place_in (m + m + 1) p.place)) (elem_at ws (place_in (m + m + 2) q.place))

-- whether that is the right one, by the ranks of their lowest
unfoldable pub right_rank : ℕ → ℕ → ℕ → ℕ → Bool
right_rank l r a b = not (eqb r 0) && (eqb l 0 || ltb b a)

-- a choice whose child goes by the word where it begins
abbrev pub begun : ℕ → Chosen → Chosen
begun K c = record { ok = c.ok; right = c.right; child = c.child * width K; place = c.place; up = c.up }

-- what the code finds at word o: whichever node begins there, the lower of its children
abbrev pub ChoiceFrom : ℕ → ℕ → List ℕ → ℕ → Chosen → Type 0
ChoiceFrom K limit ws o c = (m : ℕ) → o ≡ m * width K → c ≡ begun K (choice_of K limit ws m)

-- the node at word o lies within the words
pub record Lies (K o len : ℕ) : Type 0 where
  pub some : 1 < K
  pub few : K ≤ 16
  pub words : o + width K ≤ len

-- .. and so do its children, which lie behind it
pub record Under (K o len : ℕ) : Type 0 where
  pub some : 1 < K
  pub few : K ≤ 16
  pub words : o + o + width K * 3 ≤ len

-- the node at word o has four places, and p and q are the scans of its children
pub record Scanned (ws : List ℕ) (o : ℕ) (p q : Lead) : Type 0 where
  pub words : o + o + width 4 * 3 ≤ length ws
  pub left : p ≡ low_lead ws (o + o + width 4 + count_words) 4
  pub right : q ≡ low_lead ws (o + o + width 4 + width 4 + count_words) 4

-- node m lies within the words
pub record Here (K m len : ℕ) : Type 0 where
  pub some : 1 < K
  pub few : K ≤ 16
  pub node : m ≤ 5460
  pub words : m * width K + width K ≤ len
