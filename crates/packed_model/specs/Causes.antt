-- Causes: column "Exactly when" of the table of refusals, in words.
use Rattle.std.specs.Prelude.{◌*◌, ◌+◌, ◌-◌, ◌<◌, ◌≡◌, ◌≤◌, ◌⊎◌}
use Rattle.laws.specs.Prelude.{Idle, List, Pop, Push, Replace, Request, suc, zero, ℕ}
use Rattle.packed_model.specs.Node.{none, Op, put, sink}
use Rattle.packed_model.specs.Words.{below, capacity, child, cut_last, extent, last_in, last_slot, step_in, towards, word}

-- what a shape must be; anything else is cause 1: "1 to 256" heaps; "at least 1" level; "H(2^L − 1) is at most 131,071"; "at least H + 3H(2^L − 1) words"
pub record Shape (H levels len : ℕ) : Type 0 where
  pub one : 1 ≤ H
  pub most : H ≤ 256
  pub some : 1 ≤ levels
  pub slots : H * capacity levels ≤ 131071
  pub slice : extent H levels ≤ len

module _ (H : ℕ) where
  -- "a word .. is not 0"
  abbrev pub NotZero : List ℕ → ℕ → Type 0
  NotZero ws m = (word ws (H + m * 3) ≡ 0) × (word ws (H + m * 3 + 1) ≡ 0) × (word ws (H + m * 3 + 2) ≡ 0) → ⊥

  abbrev pub NoTagAt : List ℕ → ℕ → Type 0
  NoTagAt ws m = word ws (H + m * 3 + 1) ≡ 0

  -- "the held word is above 2^L − 1; or held is 0 and a word of position 1's slot is not 0; or held is not 0 and that slot's tag is 0"
  abbrev pub RootDamaged : ℕ → ℕ → List ℕ → Type 0
  RootDamaged levels h ws = (capacity levels < word ws h) ⊎ (((word ws h ≡ 0) × NotZero ws h) ⊎ ((word ws h ≡ 0 → ⊥) × NoTagAt ws h))

  -- "a child at or below position n has tag 0, or a word of a child above position n is not 0": the slot m is position i
  abbrev pub PlaceDamaged : ℕ → ℕ → List ℕ → ℕ → Type 0
  PlaceDamaged n i ws m = ((i ≤ n) × NoTagAt ws m) ⊎ ((n < i) × NotZero ws m)

  -- at one position, with k levels below it. "A slot of the way to held + 1, above it, has tag 0; or a word of that position's own slot is not 0"; of a sink
  -- "(Both children are read, also where x then stays)"
  abbrev pub OwnDamaged : ℕ → ℕ → Op → ℕ → ℕ → List ℕ → Type 0
  OwnDamaged k n none i m ws = ⊥
  OwnDamaged k n (put zero r x) i m ws = NotZero ws m
  OwnDamaged k n (put (suc e) r x) i m ws = NoTagAt ws m
  OwnDamaged zero n (sink x) i m ws = ⊥
  OwnDamaged (suc k) n (sink x) i m ws = PlaceDamaged n (i + i) ws (m + m + H) ⊎ PlaceDamaged n (i + i + 1) ws (m + m + H + 1)

  -- on the whole way
  abbrev pub PathDamaged : (k : ℕ) → ℕ → Op → ℕ → ℕ → List ℕ → Type 0
  PathDamaged zero n o i m ws = ⊥
  PathDamaged (suc k) n o i m ws =
      OwnDamaged k n o i m ws ⊎ PathDamaged k n (step_in H k o m ws).op (below i (step_in H k o m ws).side) (child H m (step_in H k o m ws).side) ws

  -- what a request that is let in reads, beside the top: "For replace n is held; for pop n is held − 1, and the slot of the last entry is read as 0, 0, 0"
  abbrev pub WayDamaged : ℕ → ℕ → Request → List ℕ → Type 0
  WayDamaged levels h Idle ws = ⊥
  WayDamaged levels h (Push x) ws = PathDamaged levels (word ws h) (towards levels (word ws h + 1) x) 1 h ws
  WayDamaged levels h Pop ws =
      NoTagAt ws (last_slot H levels h ws) ⊎ ((word ws h ≡ 1 → ⊥) × PathDamaged levels (word ws h - 1) (sink (last_in H levels h ws)) 1 h (cut_last H levels h ws))
  WayDamaged levels h (Replace x) ws = PathDamaged levels (word ws h) (sink x) 1 h ws
