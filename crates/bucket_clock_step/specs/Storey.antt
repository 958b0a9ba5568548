-- What a storey's functions ask of their callers, and what its work leaves. These are definitions.
use Rattle.std.specs.Prelude.{◌*◌, ◌+◌, ◌<◌, ◌≡◌, ◌≤◌}
use Rattle.laws.specs.Prelude.{true, ℕ}
use Rattle.bucket_model.specs.declared.Lay.{Lay}
use Rattle.bucket_model.specs.Prelude.{Storey, bit_no, pool, word}
use Rattle.bucket_clock_model.specs.declared.Waiting.{Waiting}
use Rattle.bucket_clock_model.specs.Desk.{handed}
use Rattle.bucket_clock_model.specs.Lists.{takes}
use Rattle.bucket_clock_model.specs.Pipe.{lead}
use Rattle.bucket_clock_model.specs.Words.{count_at, Floor, staged, way_below}

-- a storey by its first word and how many it has
abbrev pub place : ℕ → ℕ → Storey
place b n = record { base = b; words = n }

-- its words and its counts are there, in B words of bits and C counts
pub record Floored (base words B C : ℕ) : Type 0 where
  pub bits : base + words ≤ B
  pub counts : 64 * base + 64 * words ≤ C

-- .. of a queue, with d storeys below it: every rank has a bit, whose number fits a record
pub record Here (k : Lay) (base words d B C : ℕ) : Type 0 where
  pub floor : Floored base words B C
  pub ranks : (r : ℕ) → r < k.ranks → lead d r < 64 * words
  pub few : 64 * words ≤ 4294967296
  pub nodes : k.nodes ≤ pool

-- a pop that has come the way w finds a set bit that is counted
pub record Falls (p : Storey) (w : ℕ) (s : Floor) : Type 0 where
  pub within : w < p.words
  pub word≢ : word s.bits (p.base + w) ≡ 0 → ⊥
  pub counted : word s.counts (count_at p (way_below p s.bits w)) ≡ 0 → ⊥

-- bit j can be set where it has no count, and counted once more
pub record Rises (p : Storey) (j : ℕ) (s : Floor) : Type 0 where
  pub clear : word s.counts (count_at p j) ≡ 0 → bit_no s.bits p j ≡ 0
  pub room : word s.counts (count_at p j) < pool

-- a storey has worked at g: the words u that it leaves of s, and what waits below; a pop's way leads to one of its bits
pub record Worked (p : Storey) (d : ℕ) (g : Waiting) (s u : Floor) (r : Waiting) : Type 0 where
  pub floor : u ≡ staged p d g.does g.way s
  pub hands : r ≡ handed p g s.bits
  pub way : takes g.does ≡ true → way_below p s.bits g.way < 64 * p.words
