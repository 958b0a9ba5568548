-- What the proofs say of pending work: all of it done to its end, where it may stand, and that no damage awaits it.
use Rattle.std.specs.Prelude.{◌≡◌}
use Rattle.laws.specs.Prelude.{suc, true, zero, ℕ}
use Rattle.tree_clock_model.specs.Cycle.{Works}
use Rattle.tree_model.specs.Prelude.{Levels, apply, path_ok}
use Rattle.tree_model.specs.declared.Op.{Op}
use Rattle.tree_model.specs.declared.Op.TheVariants.{Nothing, Put, Swap, Take}

module _ (m : ℕ) where
  -- all work done to its end, the older and deeper first
  unfoldable pub settle : (k : ℕ) → Works k → Levels k → Levels k
  settle zero p ls = ls
  settle (suc k) p ls = apply m (suc k) p.0 (ls.0, settle k p.1 ls.1)

  -- .. below a first level that has no work
  abbrev pub finally : (k : ℕ) → Works k → Levels (suc k) → Levels (suc k)
  finally k p ls = (ls.0, settle k p ls.1)

  -- each level's work finds its whole path in order, once the older work below is done
  abbrev pub PathsOk : (k : ℕ) → Works k → Levels k → Type 0
  PathsOk zero p ls = Unit {0}
  PathsOk (suc k) p ls = (path_ok m (suc k) p.0 (finally k p.1 ls) ≡ true) × PathsOk k p.1 ls.1

-- nothing is pending for the first level
abbrev pub Clear : (k : ℕ) → Works k → Type 0
Clear zero p = Unit {0}
Clear (suc k) p = p.0.op ≡ Nothing

-- an operation that reads the level below asks for G
abbrev pub Gap : Op → Type 0 → Type 0
Gap Nothing G = Unit {0}
Gap (Put x) G = Unit {0}
Gap Take G = G
Gap (Swap x) G = G

-- a take or swap has nothing pending one level deeper
abbrev pub Spaced : (k : ℕ) → Works k → Type 0
Spaced zero p = Unit {0}
Spaced (suc k) p = Gap p.0.op (Clear k p.1) × Spaced k p.1

-- the first j of k levels have no work
abbrev pub Lead : ℕ → (k : ℕ) → Works k → Type 0
Lead zero k p = Unit {0}
Lead (suc j) zero p = Unit {0}
Lead (suc j) (suc k) p = (p.0.op ≡ Nothing) × Lead j k p.1
