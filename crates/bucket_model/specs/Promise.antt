-- What is promised of the bucket queue's words, beside the plain queue. These are definitions.
use Rattle.std.specs.Prelude.{◌%◌, ◌*◌, ◌+◌, ◌/◌, ◌<◌, ◌∷◌, ◌≡◌, ◌≤◌}
use Rattle.laws.specs.Prelude.{All, Answer, Bool, Element, Iff, List, Pop, Request, [], length, map, ℕ, Ok, None}
use Rattle.bitmap.specs.Bits.{bit_at}
use Rattle.promise.specs.Queue as served
use Rattle.promise.specs.Prelude.{short, short_answer, short_request}
use Rattle.bucket_model.specs.Layout.{Lay, queue, bit_words, store_words, word, head_at, tail_at, next_at, load_in}
use Rattle.bucket_model.specs.Storeys.{Storey, storeys_at}
use Rattle.bucket_model.specs.Calls.{Outcome}
use Rattle.bucket_model.specs.Causes.{Shaped, bit_no}
use Rattle.bucket_model.specs.Plain.{Call, ask, held, Said, answered, counted, Store, store, asked, walk, lane, stored, times}

-- ---- the layout in 01's and 02's own numbers, at either depth

-- the numbers of a depth: how many ranks there are; its storeys, from the lowest up; how many words these have
pub record Depth : Type 0 where
  pub storeys : ℕ
  pub ranks : ℕ
  pub places : List Storey
  pub bits : ℕ

-- "Ranks 0 to 4,095, as 64 groups of 64": "65 words of 64 bits (top first)"
abbrev pub two_storeys : Depth
two_storeys = record { storeys = 2; ranks = 4096; places = record { base = 1; words = 64 } ∷ record { base = 0; words = 1 } ∷ []; bits = 65 }

-- "a third storey: 64 × 64 × 64 = 262,144 ranks, .. words in the order top, middle, lowest"
abbrev pub three_storeys : Depth
three_storeys =
    record {
      storeys = 3;
      ranks = 262144;
      places = record { base = 65; words = 4096 } ∷ record { base = 1; words = 64 } ∷ record { base = 0; words = 1 } ∷ [];
      bits = 4161;
    }

-- N, "up to 65,536 at either depth", and the lengths of the slices
pub record Shape (d : Depth) (n bits_long words_long : ℕ) : Type 0 where
  pub low : 1 ≤ n
  pub high : n ≤ 65536
  pub bits : d.bits ≤ bits_long
  pub words : 2 * d.ranks + 3 * n + 2 ≤ words_long

-- the storeys' words; "4,096 heads, 4,096 tails, N pairs of tag and next, free link, held", with as many heads and tails as ranks, and the length between tag and next; "Links are node number plus one": node i has link i + 1
pub record Lies (d : Depth) (n : ℕ) : Type 0 where
  pub ranks : (queue d.storeys n).ranks ≡ d.ranks
  pub nodes : (queue d.storeys n).nodes ≡ n
  pub storeys : storeys_at (queue d.storeys n) ≡ d.places
  pub bits : bit_words (queue d.storeys n) ≡ d.bits
  pub head : (r : ℕ) → head_at (queue d.storeys n) r ≡ r
  pub tail : (r : ℕ) → tail_at (queue d.storeys n) r ≡ d.ranks + r
  pub tag : (w : List ℕ) (i : ℕ) → (load_in (queue d.storeys n).stem w (i + 1)).tag ≡ word w (2 * d.ranks + 3 * i)
  pub lengths : (w : List ℕ) (i : ℕ) → (load_in (queue d.storeys n).stem w (i + 1)).length ≡ word w (2 * d.ranks + 3 * i + 1)
  pub next : (i : ℕ) → next_at (queue d.storeys n) (i + 1) ≡ 2 * d.ranks + 3 * i + 2
  pub free : (queue d.storeys n).free ≡ 2 * d.ranks + 3 * n
  pub held : (queue d.storeys n).held ≡ 2 * d.ranks + 3 * n + 1
  pub words : store_words (queue d.storeys n) ≡ 2 * d.ranks + 3 * n + 2
  pub shaped : (b w : List ℕ) → Iff (Shaped (queue d.storeys n) b w) (Shape d n (length b) (length w))

-- ---- clear, word by word

-- bits 0; heads and tails 0; each node's tag 0, its length 0, its next the link of the node after it, the last none; free link 1; held 0. Behind the shape every word is as before, and no slice is longer or shorter
pub record Blank (d : Depth) (n : ℕ) (b w : List ℕ) (o : Outcome) : Type 0 where
  pub answer : o.answer ≡ Ok None
  pub bits : (i : ℕ) → i < d.bits → word o.bits i ≡ 0
  pub head : (r : ℕ) → r < d.ranks → word o.words r ≡ 0
  pub tail : (r : ℕ) → r < d.ranks → word o.words (d.ranks + r) ≡ 0
  pub tag : (i : ℕ) → i < n → word o.words (2 * d.ranks + 3 * i) ≡ 0
  pub lengths : (i : ℕ) → i < n → word o.words (2 * d.ranks + 3 * i + 1) ≡ 0
  pub next : (i : ℕ) → i + 1 < n → word o.words (2 * d.ranks + 3 * i + 2) ≡ i + 2
  pub last : (i : ℕ) → i + 1 ≡ n → word o.words (2 * d.ranks + 3 * i + 2) ≡ 0
  pub free : word o.words (2 * d.ranks + 3 * n) ≡ 1
  pub held : word o.words (2 * d.ranks + 3 * n + 1) ≡ 0
  pub bits-rest : (i : ℕ) → d.bits ≤ i → word o.bits i ≡ word b i
  pub words-rest : (i : ℕ) → 2 * d.ranks + 3 * n + 2 ≤ i → word o.words i ≡ word w i
  pub bits-long : length o.bits ≡ length b
  pub words_long : length o.words ≡ length w

-- ---- what stands behind the shape

-- the same words at these places
abbrev pub AgreeOn : (ℕ → Type 0) → List ℕ → List ℕ → Type 0
AgreeOn P w v = (i : ℕ) → P i → word w i ≡ word v i

abbrev pub Agree : ℕ → List ℕ → List ℕ → Type 0
Agree n w v = AgreeOn (λ i. i < n) w v

-- the same answer, and the same words of 64 bits and of 32 at these places
pub record AlikeOn (B W : ℕ → Type 0) (o p : Outcome) : Type 0 where
  pub answer : o.answer ≡ p.answer
  pub bits : AgreeOn B o.bits p.bits
  pub words : AgreeOn W o.words p.words

-- .. within the shape
abbrev pub Alike : Lay → Outcome → Outcome → Type 0
Alike k o p = AlikeOn (λ i. i < bit_words k) (λ i. i < store_words k) o p

-- ---- bits

-- something is held of rank r
abbrev pub Occupied : Lay → List ℕ → ℕ → Type 0
Occupied k w r = lane k w r ≡ [] → ⊥

-- "A bit is set exactly if something is held below it", storey by storey from the lowest up, of any number of storeys: below bit j of the lowest is P j, below a bit of another one are the 64 bits of a word
abbrev pub Shows : List ℕ → List Storey → (ℕ → Type 0) → Type 0
Shows b [] P = Unit {0}
Shows b (p ∷ ps) P = ((j : ℕ) → j < 64 * p.words → Iff (bit_no b p j ≡ 1) (P j)) × Shows b ps (λ g. (u : ℕ) × (u < 64) × P (64 * g + u))

-- something is held of a rank of group g, where a group is so many ranks
abbrev pub Grouped : Lay → List ℕ → ℕ → ℕ → Type 0
Grouped k w size g = (r : ℕ) × (g * size ≤ r) × (r < g * size + size) × Occupied k w r

-- .. in 01's own numbers, at two storeys: a rank's bit, and a group's
pub record BitsTell (n : ℕ) (s : Store) : Type 0 where
  pub rank : (r : ℕ) → r < 4096 → Iff (bit_at (word s.bits (1 + r / 64)) (r % 64) ≡ 1) (Occupied (queue 2 n) s.words r)
  pub group : (g : ℕ) → g < 64 → Iff (bit_at (word s.bits 0) g ≡ 1) (Grouped (queue 2 n) s.words 64 g)

-- .. and at three: the lowest storey, the middle, the top
pub record BitsTellThree (n : ℕ) (s : Store) : Type 0 where
  pub rank : (r : ℕ) → r < 262144 → Iff (bit_at (word s.bits (65 + r / 64)) (r % 64) ≡ 1) (Occupied (queue 3 n) s.words r)
  pub middle : (g : ℕ) → g < 4096 → Iff (bit_at (word s.bits (1 + g / 64)) (g % 64) ≡ 1) (Grouped (queue 3 n) s.words 64 g)
  pub top : (g : ℕ) → g < 64 → Iff (bit_at (word s.bits 0) g ≡ 1) (Grouped (queue 3 n) s.words 4096 g)

-- ---- the free chain

-- "The freed node gets tag 0", and length 0: from the free link on stand as many nodes as are not held, each with tag 0 and length 0
pub record Spare (k : Lay) (s : Store) : Type 0 where
  pub many : length (walk k.stem s.words k.nodes (word s.words k.free)) + word s.words k.held ≡ k.nodes
  pub tags : All (λ t. t.tag ≡ 0) (walk k.stem s.words k.nodes (word s.words k.free))
  pub lengths : All (λ t. t.length ≡ 0) (walk k.stem s.words k.nodes (word s.words k.free))

-- ---- the length decides nothing: what is asked and what is said, with every length left out

abbrev pub short_call : Call → Call
short_call (ask q) = ask (short_request q)
short_call held = held

abbrev pub short_said : Said → Said
short_said (answered a) = answered (short_answer a)
short_said (counted c) = counted c

-- two runs: what is said and what is held then, alike in rank and tag
pub record Blind (said said' : List Said) (left left' : List Element) : Type 0 where
  pub says : map short_said said ≡ map short_said said'
  pub holds : map short left ≡ map short left'

-- ---- replace

-- the store that a pop leaves
abbrev pub pop_leaves : Lay → Store → Store
pop_leaves k s = store (asked k Pop s).bits (asked k Pop s).words

-- ---- the queue as a step function, and how many of what it holds pass a test

abbrev pub bucket_queue : Lay → Request → Store → served.Step Answer Store
bucket_queue k q s = served.step (asked k q s).answer (store (asked k q s).bits (asked k q s).words)

abbrev pub stored_by : Lay → Store → (Element → Bool) → ℕ
stored_by k s f = times f (stored k s.words)
