-- A node's load in the words. The only laws that know its words by name.
use Rattle.laws.specs.Prelude.{All, List, ◌<◌, ◌∙◌, ◌≡◌, ◌≤◌, all_map, ap, arith, length, length-set, refl, set, set_comm, set-set, ℕ}
use Rattle.bucket_model.specs.Prelude.{Load, cell, load_in, load_words, load_writes, no_load, word, write}
use Rattle.bucket_model.proofs.Writes.{same, other, Misses}

-- place a is a word of the load of the node that link l names
abbrev pub InLoad : ℕ → ℕ → ℕ → Type 0
InLoad stem l a = (i : ℕ) × (i < load_words) × (a ≡ cell stem l i)

-- the load stands where its words do
pub load_same : (stem : ℕ) (s s' : List ℕ) (l : ℕ) → ((i : ℕ) → i < load_words → word s' (cell stem l i) ≡ word s (cell stem l i)) → load_in stem s' l ≡ load_in stem s l
load_same stem s s' l h = λ i. record { tag = h 0 (omega arith) i; length = h 1 (omega arith) i }

-- what is written is the load's words, and then the load is there
pub load_cells : (stem l : ℕ) (t : Load) → All (λ p. InLoad stem l p.0) (load_writes stem l t)
load_cells stem l t = ((0, omega arith, refl), ((1, omega arith, refl), tt))

pub load-misses : (stem l : ℕ) (t : Load) (a : ℕ) → ((i : ℕ) → i < load_words → a ≡ cell stem l i → ⊥) → Misses a (load_writes stem l t)
load-misses stem l t a h = all_map (λ (p : ℕ × ℕ). InLoad stem l p.0) (λ (p : ℕ × ℕ). a ≡ p.0 → ⊥) (λ p c e. h c.0 c.1 (e ∙ c.2)) (load_writes stem l t) (load_cells stem l t)

pub load-there : (stem : ℕ) (s : List ℕ) (l : ℕ) (t : Load) → cell stem l load_words ≤ length s → load_in stem (write s (load_writes stem l t)) l ≡ t
load-there stem s l t h = λ i. record { tag = tag i; length = same s0 (cell stem l 1) t.length (omega (arith, length-set s (cell stem l 0) t.tag)) i }
  where
    s0 : List ℕ
    s0 = set s (cell stem l 0) t.tag

    tag : word (set s0 (cell stem l 1) t.length) (cell stem l 0) ≡ t.tag
    tag = other s0 (cell stem l 1) t.length (cell stem l 0) (λ p. omega arith) ∙ same s (cell stem l 0) t.tag (omega arith)

-- a load is written over another
pub load-over : (stem : ℕ) (s : List ℕ) (l : ℕ) (t u : Load) → write (write s (load_writes stem l t)) (load_writes stem l u) ≡ write s (load_writes stem l u)
load-over stem s l t u =
    ap (λ (x : List ℕ). set x (cell stem l 1) u.length) (set_comm (set s (cell stem l 0) t.tag) (cell stem l 1) (cell stem l 0) t.length u.tag (λ p. omega arith) ∙ ap (λ (x : List ℕ). set x (cell stem l 1) t.length) (set-set s (cell stem l 0) t.tag u.tag))
    ∙ set-set (set s (cell stem l 0) u.tag) (cell stem l 1) t.length u.length

-- a load whose words are all 0 is none
pub load-blank : (stem : ℕ) (w : List ℕ) (l : ℕ) → ((i : ℕ) → i < load_words → word w (cell stem l i) ≡ 0) → load_in stem w l ≡ no_load
load-blank stem w l h = λ i. record { tag = h 0 (omega arith) i; length = h 1 (omega arith) i }
