-- The trace format in the words of 01 and 02, byte by byte. `proofs/Bytes.antt` shows that header and records are these.
use Rattle.std.specs.Prelude.{◌*◌, ◌+◌, ◌<◌, ◌∷◌, ◌≡◌, ◌≤◌, ◌⊎◌}
use Rattle.laws.specs.Prelude.{Idle, List, Pop, Push, Replace, element, ℕ}
use Rattle.std.specs.Prelude.{None, Option, Some}
use Rattle.laws.specs.Prelude.{Request}
use Rattle.trace_model.specs.declared.Version.{Version}
use Rattle.trace_model.specs.declared.Version.TheVariants.{One, Two}

-- "low bytes first"
abbrev pub four_bytes : ℕ → ℕ → ℕ → ℕ → ℕ
four_bytes a b c d = a * 1 + b * 256 + c * 65536 + d * 16777216

-- "Shapes up to 4,094 slots": 2 + 4 + .. + 2,048 are so many; 4 + .. + 1,024 are 1,364, and 8 + 64 + 512 are 584
abbrev pub Taken : ℕ → ℕ → Type 0
Taken order levels =
    ((order ≡ 2) × (1 ≤ levels) × (levels ≤ 11)) ⊎ (((order ≡ 4) × (1 ≤ levels) × (levels ≤ 5)) ⊎ ((order ≡ 8) × (1 ≤ levels) × (levels ≤ 3)))

-- "PFT", a 16-bit version (low byte first), one byte order, one byte levels; then records
abbrev pub version_number : Version → ℕ
version_number One = 1
version_number Two = 2

abbrev pub head_bytes : Version → ℕ → ℕ → List ℕ → List ℕ
head_bytes v order levels records = 80 ∷ 70 ∷ 84 ∷ version_number v ∷ 0 ∷ order ∷ levels ∷ records

-- "A cut or wrong header, or any other shape"
abbrev pub Headless : List ℕ → Type 0
Headless bs = (v : Version) (order levels : ℕ) (records : List ℕ) → Taken order levels → bs ≡ head_bytes v order levels records → ⊥

-- "Codes are 0 idle, 1 push, 2 pop, 3 replace; every other code is a bad record, and so is a 0 or 2 with rank or tag not 0"; "length 0 too on codes 0
-- and 2" (02 [9])
pub data Says (rank tag length : ℕ) : ℕ → Option Request → Type 0 where
  idle : rank ≡ 0 → tag ≡ 0 → length ≡ 0 → Says rank tag length 0 (Some Idle)
  push : Says rank tag length 1 (Some (Push (element rank tag length)))
  pop : rank ≡ 0 → tag ≡ 0 → length ≡ 0 → Says rank tag length 2 (Some Pop)
  replace : Says rank tag length 3 (Some (Replace (element rank tag length)))
  other : (code : ℕ) → 3 < code → Says rank tag length code None
  idle-with : ((rank ≡ 0 → ⊥) ⊎ ((tag ≡ 0 → ⊥) ⊎ (length ≡ 0 → ⊥))) → Says rank tag length 0 None
  pop-with : ((rank ≡ 0 → ⊥) ⊎ ((tag ≡ 0 → ⊥) ⊎ (length ≡ 0 → ⊥))) → Says rank tag length 2 None

-- every code with any numbers says something
pub record Said (rank tag length code : ℕ) : Type 0 where
  pub entry : Option Request
  pub says : Says rank tag length code entry
