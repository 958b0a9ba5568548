-- What is promised of several ports on one pool, beside the plain lists. These are definitions.
use Rattle.std.specs.Prelude.{◌*◌, ◌+◌, ◌<◌, ◌∷◌, ◌≡◌, ◌≤◌, ◌⊎◌}
use Rattle.laws.specs.Prelude.{All, Element, Iff, List, Pop, Push, Replace, eqb, length, length_of, number_of, rank_of, tag_of, ℕ, Ok, None}
use Rattle.bucket_model.specs.Prelude.{Depth, Outcome, Store, head_at, lane, load_in, next_at, store, storeys_at, storeys_from, tail_at, walk, word, words_of}
use Rattle.ports_model.specs.Layout.{Shape, ranks_of, bit_words, store_words, nodes_at, free_at, held_at, floor_at, ceiling_at, seat}
use Rattle.ports_model.specs.Checks.{used_in, claimed_in}
use Rattle.ports_model.specs.Causes.{Shaped}
use Rattle.ports_model.specs.Lists.{Heard, answers_of}
use Rattle.ports_model.specs.Runs.{asked, stored_at}

-- ---- what a call at port p leaves, on any words

-- another port's bits, heads, tails and held; every floor and every ceiling; what stands behind; and both lengths
pub record Framed (s : Shape) (p : ℕ) (b w : List ℕ) (o : Outcome) : Type 0 where
  pub bits-long : length o.bits ≡ length b
  pub words_long : length o.words ≡ length w
  pub bits : (q : ℕ) → q < s.ports → (q ≡ p → ⊥) → (i : ℕ) → i < words_of s.storeys → word o.bits ((seat s q).bits + i) ≡ word b ((seat s q).bits + i)
  pub heads : (q : ℕ) → q < s.ports → (q ≡ p → ⊥) → (r : ℕ) → r < ranks_of s → word o.words (head_at (seat s q) r) ≡ word w (head_at (seat s q) r)
  pub tails : (q : ℕ) → q < s.ports → (q ≡ p → ⊥) → (r : ℕ) → r < ranks_of s → word o.words (tail_at (seat s q) r) ≡ word w (tail_at (seat s q) r)
  pub held : (q : ℕ) → q < s.ports → (q ≡ p → ⊥) → word o.words (held_at s q) ≡ word w (held_at s q)
  pub floors : (q : ℕ) → q < s.ports → word o.words (floor_at s q) ≡ word w (floor_at s q)
  pub ceilings : (q : ℕ) → q < s.ports → word o.words (ceiling_at s q) ≡ word w (ceiling_at s q)
  pub bits-rest : (i : ℕ) → bit_words s ≤ i → word o.bits i ≡ word b i
  pub words-rest : (i : ℕ) → store_words s ≤ i → word o.words i ≡ word w i

-- no port is above its ceiling, and what is held or kept for floors is at most N: on any words, whatever stands in them
pub record Bounds (s : Shape) (w : List ℕ) : Type 0 where
  pub ceilings : (q : ℕ) → q < s.ports → word w (held_at s q) ≤ word w (ceiling_at s q)
  pub claims : claimed_in s w ≤ s.nodes

-- ---- what a call at port p reads: its own bits; its own heads and tails, the nodes, the free link, and every port's held, floor and ceiling

abbrev pub ReadBits : Shape → ℕ → ℕ → Type 0
ReadBits s p i = ((seat s p).bits ≤ i) × (i < (seat s p).bits + words_of s.storeys)

abbrev pub ReadWords : Shape → ℕ → ℕ → Type 0
ReadWords s p i = (((seat s p).heads ≤ i) × (i < (seat s p).heads + ranks_of s + ranks_of s)) ⊎ ((nodes_at s ≤ i) × (i < store_words s))

-- clear: what stands behind the shape, and both lengths
pub record Untouched (s : Shape) (b w : List ℕ) (o : Outcome) : Type 0 where
  pub bits-long : length o.bits ≡ length b
  pub words_long : length o.words ≡ length w
  pub bits-rest : (i : ℕ) → bit_words s ≤ i → word o.bits i ≡ word b i
  pub words-rest : (i : ℕ) → store_words s ≤ i → word o.words i ≡ word w i

-- ---- "the yes or no of a push above the floor, and the number of a node, are all that the others can touch"

-- two stores that differ, as far as port p goes, in node numbers alone: its bits and its held, floor and ceiling are the same words; each rank has the same loads in the same order; the same heads and tails are 0
pub record Alike (s : Shape) (p : ℕ) (x y : Store) : Type 0 where
  pub bits : (i : ℕ) → i < words_of s.storeys → word x.bits ((seat s p).bits + i) ≡ word y.bits ((seat s p).bits + i)
  pub held : word x.words (held_at s p) ≡ word y.words (held_at s p)
  pub floor : word x.words (floor_at s p) ≡ word y.words (floor_at s p)
  pub ceiling : word x.words (ceiling_at s p) ≡ word y.words (ceiling_at s p)
  pub lanes : (r : ℕ) → r < ranks_of s → lane (seat s p) x.words r ≡ lane (seat s p) y.words r
  pub heads : (r : ℕ) → r < ranks_of s → eqb (word x.words (head_at (seat s p) r)) 0 ≡ eqb (word y.words (head_at (seat s p) r)) 0
  pub tails : (r : ℕ) → r < ranks_of s → eqb (word x.words (tail_at (seat s p) r)) 0 ≡ eqb (word y.words (tail_at (seat s p) r)) 0

-- .. and the port has heard the same: "give p the same answers"
pub record SameAt (s : Shape) (p : ℕ) (hs gs : List Heard) (x y : Store) : Type 0 where
  pub answers : answers_of hs ≡ answers_of gs
  pub holds : stored_at s p x ≡ stored_at s p y
  pub alike : Alike s p x y

-- ---- the free chain: as many nodes as no port holds, each with tag 0 and length 0

pub record Spare (s : Shape) (x : Store) : Type 0 where
  pub many : length (walk (seat s 0).stem x.words s.nodes (word x.words (free_at s))) + used_in s x.words ≡ s.nodes
  pub tags : All (λ t. t.tag ≡ 0) (walk (seat s 0).stem x.words s.nodes (word x.words (free_at s)))
  pub lengths : All (λ t. t.length ≡ 0) (walk (seat s 0).stem x.words s.nodes (word x.words (free_at s)))

-- ---- a pop at port p

-- what it gives is the first of all that the port holds, and nothing held there has a lower rank
pub record FirstOut (s : Shape) (p : ℕ) (x : Store) (y : Element) : Type 0 where
  pub first : stored_at s p x ≡ y ∷ stored_at s p (store (asked s p Pop x).bits (asked s p Pop x).words)
  pub lowest : All (λ z. y.rank.0 ≤ z.rank.0) (stored_at s p x)

-- the store that it leaves
abbrev pub pop_leaves : Shape → ℕ → Store → Store
pop_leaves s p x = store (asked s p Pop x).bits (asked s p Pop x).words

-- ---- "Replace is a pop and a push at one port and needs no room"

-- at port p neither is refused, the replace answers the rank, tag and length that the pop answers, and it leaves what the push of e leaves on the store that the pop left; nor is that push
pub record Swaps (s : Shape) (p : ℕ) (x : Store) (e : Element) : Type 0 where
  pub pop : number_of (asked s p Pop x).answer ≡ 0
  pub replace : number_of (asked s p (Replace e) x).answer ≡ 0
  pub rank : rank_of (asked s p (Replace e) x).answer ≡ rank_of (asked s p Pop x).answer
  pub tag : tag_of (asked s p (Replace e) x).answer ≡ tag_of (asked s p Pop x).answer
  pub bytes : length_of (asked s p (Replace e) x).answer ≡ length_of (asked s p Pop x).answer
  pub push : number_of (asked s p (Push e) (pop_leaves s p x)).answer ≡ 0
  pub bits : (asked s p (Replace e) x).bits ≡ (asked s p (Push e) (pop_leaves s p x)).bits
  pub words : (asked s p (Replace e) x).words ≡ (asked s p (Push e) (pop_leaves s p x)).words

-- ---- the layout in numbers, at either depth

-- 1 to 65,536 nodes, 1 to 16 ports, and the lengths of the slices
pub record Sized (d : Depth) (s : Shape) (bits_long words_long : ℕ) : Type 0 where
  pub low : 1 ≤ s.nodes
  pub high : s.nodes ≤ 65536
  pub some : 1 ≤ s.ports
  pub few : s.ports ≤ 16
  pub bits : s.ports * d.bits ≤ bits_long
  pub words : s.ports * (2 * d.ranks) + 3 * s.nodes + 1 + 3 * s.ports ≤ words_long

-- each place, with R ranks and T words of bits at a port: bits from p_t on; heads from 2Rp on and tails R behind; nodes from 2RP on; the free link behind them, and then for each port held, floor, ceiling
pub record Lies (d : Depth) (s : Shape) : Type 0 where
  pub ranks : (p : ℕ) → (seat s p).ranks ≡ d.ranks
  pub storeys : (p : ℕ) → storeys_at (seat s p) ≡ storeys_from (p * d.bits) d.storeys
  pub head : (p r : ℕ) → head_at (seat s p) r ≡ p * (2 * d.ranks) + r
  pub tail : (p r : ℕ) → tail_at (seat s p) r ≡ p * (2 * d.ranks) + d.ranks + r
  pub tag : (p : ℕ) → p < s.ports → (w : List ℕ) (i : ℕ) → (load_in (seat s p).stem w (i + 1)).tag ≡ word w (s.ports * (2 * d.ranks) + 3 * i)
  pub lengths : (p : ℕ) → p < s.ports → (w : List ℕ) (i : ℕ) → (load_in (seat s p).stem w (i + 1)).length ≡ word w (s.ports * (2 * d.ranks) + 3 * i + 1)
  pub next : (p : ℕ) → p < s.ports → (i : ℕ) → next_at (seat s p) (i + 1) ≡ s.ports * (2 * d.ranks) + 3 * i + 2
  pub free : (p : ℕ) → (seat s p).free ≡ s.ports * (2 * d.ranks) + 3 * s.nodes
  pub held : (p : ℕ) → (seat s p).held ≡ s.ports * (2 * d.ranks) + 3 * s.nodes + 1 + 3 * p
  pub floor : (p : ℕ) → floor_at s p ≡ s.ports * (2 * d.ranks) + 3 * s.nodes + 2 + 3 * p
  pub ceiling : (p : ℕ) → ceiling_at s p ≡ s.ports * (2 * d.ranks) + 3 * s.nodes + 3 + 3 * p
  pub shaped : (b w : List ℕ) → Iff (Shaped s b w) (Sized d s (length b) (length w))

-- clear, word by word: bits, heads and tails 0; each node 0, 0 and the link of the node after it, the last none; free link 1; each port's held 0, its floor and its ceiling as handed over. Behind the shape every word is as before, and no slice is longer or shorter
pub record Blank (d : Depth) (s : Shape) (lim b w : List ℕ) (o : Outcome) : Type 0 where
  pub answer : o.answer ≡ Ok None
  pub bits : (i : ℕ) → i < s.ports * d.bits → word o.bits i ≡ 0
  pub lists : (i : ℕ) → i < s.ports * (2 * d.ranks) → word o.words i ≡ 0
  pub tag : (i : ℕ) → i < s.nodes → word o.words (s.ports * (2 * d.ranks) + 3 * i) ≡ 0
  pub lengths : (i : ℕ) → i < s.nodes → word o.words (s.ports * (2 * d.ranks) + 3 * i + 1) ≡ 0
  pub next : (i : ℕ) → i + 1 < s.nodes → word o.words (s.ports * (2 * d.ranks) + 3 * i + 2) ≡ i + 2
  pub last : (i : ℕ) → i + 1 ≡ s.nodes → word o.words (s.ports * (2 * d.ranks) + 3 * i + 2) ≡ 0
  pub free : word o.words (s.ports * (2 * d.ranks) + 3 * s.nodes) ≡ 1
  pub held : (p : ℕ) → p < s.ports → word o.words (s.ports * (2 * d.ranks) + 3 * s.nodes + 1 + 3 * p) ≡ 0
  pub floor : (p : ℕ) → p < s.ports → word o.words (s.ports * (2 * d.ranks) + 3 * s.nodes + 2 + 3 * p) ≡ word lim (2 * p)
  pub ceiling : (p : ℕ) → p < s.ports → word o.words (s.ports * (2 * d.ranks) + 3 * s.nodes + 3 + 3 * p) ≡ word lim (2 * p + 1)
  pub rest : Untouched s b w o
