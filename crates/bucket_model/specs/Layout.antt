-- Where a bucket queue's words stand, as a value; what a node carries; and the queue of a store of its own, two storeys deep or three. These are definitions.
use Rattle.std.specs.Prelude.{◌*◌, ◌+◌, ◌-◌, ◌<◌, ◌^◌, ◌∷◌, ◌≡◌, ◌≤◌}
use Rattle.laws.specs.Prelude.{Element, List, [], element, get_or, set, suc, zero, ℕ}
pub use Rattle.bucket_model.specs.declared.Lay.{Lay}

-- the word at a place
abbrev pub word : List ℕ → ℕ → ℕ
word w i = get_or w i 0

-- words written one after the other, each at its place
abbrev pub write : List ℕ → List (ℕ × ℕ) → List ℕ
write w [] = w
write w (p ∷ ps) = write (set w p.0 p.1) ps

-- ---- limits

-- "N up to 65,536 at either depth" (02 [7])
abbrev pub pool : ℕ
pool = 65536

-- "Both depths stay available": two storeys, or "a third"
abbrev pub least_storeys : ℕ
least_storeys = 2

abbrev pub most_storeys : ℕ
most_storeys = 3

-- ---- a node: "A node is a tag and a next", and "a bucket node three" words (02 [9]): tag, length, next. Beside its next it carries a load

abbrev pub load_words : ℕ
load_words = 2

abbrev pub node_words : ℕ
node_words = load_words + 1

-- word i of the node that link l names. "Links are node number plus one": stem is where link 0 would lead
abbrev pub cell : ℕ → ℕ → ℕ → ℕ
cell stem l i = stem + node_words * l + i

abbrev pub next_in : ℕ → ℕ → ℕ
next_in stem l = cell stem l load_words

pub record Load : Type 0 where
  pub tag : ℕ
  pub length : ℕ

-- what stands of it in the words, and what is written
abbrev pub load_in : ℕ → List ℕ → ℕ → Load
load_in stem w l = record { tag = word w (cell stem l 0); length = word w (cell stem l 1) }

abbrev pub load_writes : ℕ → ℕ → Load → List (ℕ × ℕ)
load_writes stem l t = (cell stem l 0, t.tag) ∷ (cell stem l 1, t.length) ∷ []

-- of an element, and back
abbrev pub load_of : Element → Load
load_of e = record { tag = e.tag.0; length = e.length.0 }

abbrev pub loaded : ℕ → Load → Element
loaded r t = element r t.tag t.length

-- "The freed node gets tag 0", and length 0
abbrev pub no_load : Load
no_load = record { tag = 0; length = 0 }

-- ---- places

-- "Each rank has a head and a tail link": as many tails behind the heads
abbrev pub head_at : Lay → ℕ → ℕ
head_at k r = k.heads + r

abbrev pub tail_at : Lay → ℕ → ℕ
tail_at k r = k.heads + r + k.ranks

abbrev pub next_at : Lay → ℕ → ℕ
next_at k l = next_in k.stem l

-- how many words the storeys have: 1, 64, .. of them
abbrev pub words_of : ℕ → ℕ
words_of zero = 0
words_of (suc d) = words_of d + 64 ^ d

-- how many words a store must have, of 64 bits and of 32
abbrev pub bit_words : Lay → ℕ
bit_words k = k.bits + k.tower

abbrev pub store_words : Lay → ℕ
store_words k = k.held + 1

-- what every law counts on: at least one storey, and as many words as they have; a bit of the lowest for each rank; heads and tails before the nodes, the free link right behind them, and held behind it
pub record Laid (k : Lay) : Type 0 where
  pub deep : 1 ≤ k.storeys
  pub tower : k.tower ≡ words_of k.storeys
  pub ranks : k.ranks ≡ 64 ^ k.storeys
  pub lists : k.heads + k.ranks + k.ranks ≤ k.stem + node_words
  pub pool : k.free ≡ k.stem + node_words * k.nodes + node_words
  pub held : k.free < k.held

-- ---- one queue in a store of its own

-- so many storeys, words of bits, ranks and nodes: as many heads as ranks, as many tails, "N pairs of tag and next, free link, held", with the length between tag and next
abbrev pub lay_of : (storeys tower ranks nodes : ℕ) → Lay
lay_of d tower ranks n =
    record {
      storeys = d;
      tower = tower;
      bits = 0;
      ranks = ranks;
      heads = 0;
      stem = 2 * ranks - node_words;
      nodes = n;
      free = 2 * ranks + node_words * n;
      held = 2 * ranks + node_words * n + 1;
    }

-- d storeys, n nodes: 64 × 64 ranks at two storeys, "64 × 64 × 64 = 262,144" at three
abbrev pub queue : ℕ → ℕ → Lay
queue d n = lay_of d (words_of d) (64 ^ d) n
