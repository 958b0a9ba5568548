-- What is promised of the clocked bucket queue is said in these words: what a refused cycle leaves, the table of refusals, and the promises (1) to (5)
-- against the bucket queue of one
-- operation at a time. These are definitions.
use Rattle.std.specs.Prelude.{◌*◌, ◌++◌, ◌+◌, ◌-◌, ◌<◌, ◌^◌, ◌∷◌, ◌≡◌, ◌≤◌}
use Rattle.laws.specs.Prelude.{BadShape, Bool, Damaged, Element, Idle, List, Refusal, Request, [], cond, leb, length, map, number_of, replicate, runs_idle, suc, zero, ℕ, Err}
use Rattle.bucket_model.specs.Prelude.{Store, ask, bit_words, held_count, of_rank, queue, said_number, says, start, store_words, stored, storey, times, word, words_of}
use Rattle.bucket_model.specs.declared.Lay.{Lay}
use Rattle.bucket_model.specs.Plain as stores
use Rattle.promise.specs.Prelude.{Table, answers, ends, leaves, needs}
use Rattle.bucket_clock_model.specs.Clock.{late_table, out_of}
use Rattle.bucket_clock_model.specs.Damage.{DeskShaped, CycleFit}
use Rattle.std.specs.Prelude.{Option}
use Rattle.std.specs.Prelude.{None, Some}
use Rattle.bucket_clock_model.specs.declared.Waiting.{Waiting}
use Rattle.bucket_clock_model.specs.Desk.{clock_cleared, clock_held, count_words, Desk, desk_ok, floor_of, fresh, handed, no_work, cycled, cycling, cycle_ok, cycle_outcome, CycleOutcome, cycle_still, work_at}
use Rattle.bucket_clock_model.specs.Links.{bucket_stage}
use Rattle.bucket_clock_model.specs.Lists.{at, newcomer}
use Rattle.bucket_clock_model.specs.Pipe.{below, lead}
use Rattle.bucket_clock_model.specs.Words.{count_at, staged}

-- ---- refusals

-- "After 4, 5, 6 and 7 the cycle runs as an idle one, and what leaves, leaves; after 1 and 2 nothing moves and nothing leaves"
abbrev pub cycle_left : Lay → Desk → Refusal → CycleOutcome
cycle_left k m n = let o = cycled k Idle m in cond (runs_idle n) (cycle_outcome (Err n) o.leaves o.desk) (cycle_still m n)

-- "Refusals in this order: 1, 2 .., 4, 7, then 5 (push, held is N) or 6 (pop and replace, held is 0)"
abbrev pub cycle_table : Lay → Request → Desk → Table
cycle_table k q m = needs BadShape (desk_ok k m) (DeskShaped k m) (needs Damaged (cycle_ok k q m) (CycleFit k q m) (late_table k.ranks k.nodes q (word m.words k.held)))

abbrev pub wipe_table : Lay → Desk → Table
wipe_table k m = needs BadShape (desk_ok k m) (DeskShaped k m) ends

abbrev pub count_table : Lay → Desk → Table
count_table k m = needs BadShape (desk_ok k m) (DeskShaped k m) (needs Damaged (leb (word m.words k.held) k.nodes) (word m.words k.held ≤ k.nodes) ends)

-- ---- runs

-- (4): "at most S idle cycles leave every word of the store equal to the one-at-a-time store, the counts true, nothing pending"
pub record Settled (k : Lay) (m : Desk) (s : Store) : Type 0 where
  pub bits : (i : ℕ) → k.bits ≤ i → i < bit_words k → word m.bits i ≡ word s.bits i
  pub words : (i : ℕ) → word m.words i ≡ word s.words i
  pub counts : (n j : ℕ) → n < k.storeys → j < 64 * 64 ^ n → word m.counts (64 * (k.bits + words_of n) + j) ≡ below (k.storeys - suc n) (stored k s.words) j
  pub nothing : (i : ℕ) → i < k.storeys → work_at m.records i ≡ no_work

module _ (k : Lay) (m : Desk) where
  -- any list of cycles from a machine cleared on slices long enough, whatever was in them
  abbrev pub ran : List Request → Desk
  ran qs = leaves (cycling k) qs (clock_cleared k m).desk

  abbrev pub numbers_of : List Request → List ℕ
  numbers_of qs = map (λ h. number_of h.number) (answers (cycling k) qs (clock_cleared k m).desk)

  abbrev pub leaves_of : List Request → List (Option Element)
  leaves_of qs = map (λ h. h.leaves) (answers (cycling k) qs (clock_cleared k m).desk)

  -- the bucket queue of one operation at a time, on the same slices: what it says, its store
  abbrev pub one_says : List Request → List stores.Said
  one_says qs = says k (map ask qs) (start k m.bits m.words)

  abbrev pub one_store : List Request → Store
  one_store qs = stores.after k (map ask qs) (start k m.bits m.words)

  -- (1) and (2): "numbers .. are the one-at-a-time bucket queue's; what leaves in cycle t + S is its answer to the request of cycle t, and nothing else leaves"
  pub record Answers (qs : List Request) : Type 0 where
    pub numbers : numbers_of qs ≡ map said_number (one_says qs)
    pub later : List (Option Element)
    pub leaves : leaves_of qs ++ later ≡ replicate k.storeys None ++ map out_of (one_says qs)
    pub due : length later ≡ k.storeys

  -- (1), of held: "exact in the middle of any work"
  abbrev pub HeldExact : List Request → Type 0
  HeldExact qs = clock_held k (ran qs) ≡ held_count k (one_store qs).bits (one_store qs).words

  -- (3): "behind cycle t storey i, bits and counts, is that of the requests up to cycle t - (i - 1) .., word for word". Storey length bs, the top one is
  -- 0, after as' and then bs
  pub record StoreyIs (as' bs : List Request) : Type 0 where
    pub bits : (i : ℕ) → i < 64 ^ length bs → word (ran (as' ++ bs)).bits (k.bits + words_of (length bs) + i) ≡ word (one_store as').bits (k.bits + words_of (length bs) + i)
    -- "for each bit of each storey how many elements are held below it"
    pub counts : (j : ℕ) → j < 64 * 64 ^ length bs
        → word (ran (as' ++ bs)).counts (64 * (k.bits + words_of (length bs)) + j) ≡ below (k.storeys - suc (length bs)) (stored k (one_store as').words) j

  -- ".. and heads, tails, nodes and free link those up to cycle t - S": every word but held
  abbrev pub BucketsAre : List Request → List Request → Type 0
  BucketsAre as' bs = (i : ℕ) → (i ≡ k.held → ⊥) → word (ran (as' ++ bs)).words i ≡ word (one_store as').words i

  -- (4): S idle cycles more
  abbrev pub rested : List Request → Desk
  rested qs = ran (qs ++ replicate k.storeys Idle)

  -- (5): never 1, never 2, whatever is asked next; so never too soon either, by (1)
  pub record Undamaged (qs : List Request) : Type 0 where
    pub shaped : DeskShaped k (ran qs)
    pub fit : (q : Request) → CycleFit k q (ran qs)

-- ---- first in, first out

-- the elements among what leaves, cycle by cycle
unfoldable pub outs : List (Option Element) → List Element
outs [] = []
outs (None ∷ ys) = outs ys
outs (Some x ∷ ys) = x ∷ outs ys

-- of each rank, what came in is what has left, then what has still to leave, then what is held, in this order, "also where pops are back to back". What
-- came in goes by the numbers, which are those of one at a time
pub record InOrder (k : Lay) (m : Desk) (qs : List Request) : Type 0 where
  pub later : List (Option Element)
  pub due : length later ≡ k.storeys
  pub fifo : (r : ℕ) → of_rank r (stores.brought (map ask qs) (one_says k m qs)) ≡ of_rank r (outs (leaves_of k m qs)) ++ (of_rank r (outs later) ++ of_rank r (stored k (one_store k m qs).words))

-- ---- what is held in the middle of any work

-- of the newcomers of d records from record i on, how many pass the test
unfoldable pub carried : (Element → Bool) → ℕ → List Waiting → ℕ → ℕ
carried f zero rs i = 0
carried f (suc d) rs i = at f (newcomer (work_at rs i).does) + carried f d rs (suc i)

-- an element that is on its way out stands in its bucket until it leaves, one that is on its way in is in a record
abbrev pub in_machine : Lay → Desk → (Element → Bool) → ℕ
in_machine k m f = times f (stored k m.words) + carried f k.storeys m.records 0

-- ---- the counts' places in plain numbers, of n nodes: "0 .. 63 top: word b belongs to bit b of word 0; 64 .. 4159 second storey: word 64 + 64 g + k
-- belongs to bit k of word 1 + g of the bits; at two storeys that is 64 + rank; 4160 .. 266303 three storeys, lowest: 4160 + rank"
pub record CountsLie (n : ℕ) : Type 0 where
  pub top : (b : ℕ) → count_at (storey 0 0) b ≡ b
  pub second : (g u : ℕ) → count_at (storey 0 1) (64 * g + u) ≡ 64 + 64 * g + u
  pub lowest : (r : ℕ) → count_at (storey 0 2) r ≡ 4160 + r
  -- "at least 4,160 words at two storeys, 266,304 at three"
  pub two : count_words (queue 2 n) ≡ 4160
  pub three : count_words (queue 3 n) ≡ 266304
  -- the bits of a rank, storey by storey: "A rank is S digits of six bits, the top one first"
  pub digits : (a b c : ℕ) → a < 64 → b < 64 → c < 64 → (lead 2 (4096 * a + 64 * b + c) ≡ a) × (lead 1 (4096 * a + 64 * b + c) ≡ 64 * a + b) × (lead 0 (4096 * a + 64 * b + c) ≡ 4096 * a + 64 * b + c)
  pub records : length fresh ≡ 3

-- ---- one step: what a cycle does to each stage, by what stood at its start

-- "it reads the words of its own storey .. as they stood at the cycle's start, and writes these and the record below it": storey e, with d more below
-- it, works at g on the machine m, and o is what the cycle leaves
pub record OwnStep (k : Lay) (e d : ℕ) (g : Waiting) (m o : Desk) : Type 0 where
  pub bits : (i : ℕ) → k.bits + words_of e ≤ i → i < k.bits + words_of (suc e) → word o.bits i ≡ word (staged (storey k.bits e) d g.does g.way (floor_of m)).bits i
  pub counts : (i : ℕ) → 64 * (k.bits + words_of e) ≤ i → i < 64 * (k.bits + words_of (suc e)) → word o.counts i ≡ word (staged (storey k.bits e) d g.does g.way (floor_of m)).counts i
  pub pends : work_at o.records e ≡ handed (storey k.bits e) g m.bits

-- "stage 1 the request, each other stage its record's"; the buckets likewise
abbrev pub Steps : Lay → (e d : ℕ) → Waiting → Desk → Desk → Type 0
Steps k e zero g m o = o.words ≡ bucket_stage k g.does g.way m.words
Steps k e (suc d) g m o = OwnStep k e d g m o × Steps k (suc e) d (work_at m.records e) m o

-- ".. no others": words past the shape and records past S stand
pub record Rest (k : Lay) (m o : Desk) : Type 0 where
  pub bits : (i : ℕ) → bit_words k ≤ i → word o.bits i ≡ word m.bits i
  pub counts : (i : ℕ) → count_words k ≤ i → word o.counts i ≡ word m.counts i
  pub words : (i : ℕ) → store_words k ≤ i → word o.words i ≡ word m.words i
  pub records : (i : ℕ) → k.storeys ≤ i → work_at o.records i ≡ work_at m.records i

-- ---- what is not read

-- the same words within the shape, and the same records up to S
pub record Near (k : Lay) (m n : Desk) : Type 0 where
  pub bits : (i : ℕ) → i < bit_words k → word m.bits i ≡ word n.bits i
  pub counts : (i : ℕ) → i < count_words k → word m.counts i ≡ word n.counts i
  pub words : (i : ℕ) → i < store_words k → word m.words i ≡ word n.words i
  pub records : (i : ℕ) → i < k.storeys → work_at m.records i ≡ work_at n.records i

-- two cycles alike: what is past the shape, and records past S, are not read
pub record Alike (k : Lay) (o p : CycleOutcome) : Type 0 where
  pub answer : o.answer ≡ p.answer
  pub leaves : o.leaves ≡ p.leaves
  pub desk : Near k o.desk p.desk
