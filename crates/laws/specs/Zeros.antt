-- A store that has been cleared: "Clear writes zeros", and of a longer slice the rest is not touched, word by word.
use Rattle.std.specs.Prelude.{◌+◌, ◌-◌, ◌<◌, ◌≤◌, ℕ, ◌++◌, List, ◌≡◌, drop, get_or, length, replicate}
use Rattle.std.proofs.Common.{arith, ◌∙◌, ap, length-append, length-drop, get_or-append-add, get_or-drop}
use Rattle.std.proofs.lemmas.List.{get_or-replicate, length-replicate}
use Rattle.std.proofs.Math.ListN.{get_or-append}

pub record Zeroed (n : ℕ) (ws vs : List ℕ) : Type 0 where
  pub length : length vs ≡ length ws
  pub zeros : (p d : ℕ) → p < n → get_or vs p d ≡ 0
  pub rest : (p d : ℕ) → n ≤ p → get_or vs p d ≡ get_or ws p d

pub zeroed : (n : ℕ) (ws : List ℕ) → n ≤ length ws → Zeroed n ws (replicate n 0 ++ drop n ws)
zeroed n ws h =
    record {
      length = simp (length-append, length-replicate, length-drop) (omega arith);
      zeros = λ p d l. get_or-append (replicate n 0) (drop n ws) d p (rw length-replicate l) ∙ get_or-replicate n p 0 d l;
      rest = λ p d l. behind p d l;
    }
  where
    behind : (p d : ℕ) → n ≤ p → get_or (replicate n 0 ++ drop n ws) p d ≡ get_or ws p d
    behind p d l =
        let z : List ℕ = replicate n 0 in
        let at : p ≡ length z + (p - n) = rw length-replicate (omega arith) in
        ap (λ (p : ℕ). get_or (z ++ drop n ws) p d) at ∙ get_or-append-add z (drop n ws) (p - n) d ∙ get_or-drop n ws (p - n) d ∙ ap (λ (p : ℕ). get_or ws p d) (omega arith)
