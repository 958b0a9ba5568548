-- Records read and written one after the other, and what the tests of them say.
use Rattle.laws.specs.Prelude.{Bool, Element, [], ◌&&◌, ◌-◌, ◌<◌, ◌∙◌, ◌∷◌, ◌≡◌, ◌≤◌, and_left, and_right, ap, arith, blank, cond, false, le-leb, leb, leb-true, lt-leb, ne_eqb, refl, subst, sym, true, ℕ}
use Rattle.cluster_clock_model.specs.Prelude.{no_stage, stage, stage_count, stage_numbers}
use Rattle.cluster_clock_model.specs.declared.Due.{Due}
use Rattle.cluster_clock_model.specs.declared.Due.TheVariants.{Fill, Nothing, Put, Swap}
use Rattle.cluster_clock_model.specs.declared.Stage.{Stage}
use Rattle.cluster_records.specs.Lent.{at_node, at_place, ClusterRecord, kind_in, carries, record_by, record_of, stage_of}
use Rattle.cluster_records.specs.Steps.{lends, reach, word_limit, Written}

-- ---- how many
module _ (levels len : ℕ) where
  pub lends-zero : levels ≡ 0 → false ≡ lends levels len
  unfolding lends
  lends-zero z = rw (lt-leb 1 levels (omega arith))

  pub lends_some : (levels ≡ 0 → ⊥) → (leb (levels - 1) stage_count && leb (levels - 1) len) ≡ lends levels len
  unfolding lends
  lends_some ne = rw (le-leb 1 levels (omega (arith, ne)))

  module _ (e : lends levels len ≡ true) where
    pub lends-levels : 1 ≤ levels
    unfolding lends
    lends-levels = leb-true 1 levels (and_left (leb 1 levels) (leb (levels - 1) stage_count && leb (levels - 1) len) e)

    pub lends-few : levels - 1 ≤ stage_count
    unfolding lends
    lends-few = leb-true (levels - 1) stage_count (and_left (leb (levels - 1) stage_count) (leb (levels - 1) len) (and_right (leb 1 levels) (leb (levels - 1) stage_count && leb (levels - 1) len) e))

    pub lends-within : levels - 1 ≤ len
    unfolding lends
    lends-within = leb-true (levels - 1) len (and_right (leb (levels - 1) stage_count) (leb (levels - 1) len) (and_right (leb 1 levels) (leb (levels - 1) stage_count && leb (levels - 1) len) e))

  pub reach-yes : (b : Bool) → b ≡ lends levels len → b ≡ true → levels - 1 ≡ reach levels len
  reach-yes b p e = rw (sym p ∙ e)

  pub reach-no : (b : Bool) → b ≡ lends levels len → b ≡ false → 0 ≡ reach levels len
  reach-no b p e = rw (sym p ∙ e)

pub reach_few : (levels len : ℕ) → reach levels len ≤ stage_count
reach_few levels len = go (lends levels len) refl
  where
    go : (b : Bool) → lends levels len ≡ b → cond b (levels - 1) 0 ≤ stage_count
    go true e = lends-few levels len e
    go false e = omega arith

pub reach-within : (levels len : ℕ) → reach levels len ≤ len
reach-within levels len = go (lends levels len) refl
  where
    go : (b : Bool) → lends levels len ≡ b → cond b (levels - 1) 0 ≤ len
    go true e = lends-within levels len e
    go false e = omega arith

-- ---- one record read
module _ (r : ClusterRecord) where
  pub stage-put : kind_in r ≡ 1 → stage (Put (carries r)) (at_node r) ≡ stage_of r
  unfolding stage_of
  stage-put e = rw e

  pub stage-fill : kind_in r ≡ 2 → stage (Fill (at_place r)) (at_node r) ≡ stage_of r
  unfolding stage_of
  stage-fill e = rw e

  pub stage-swap : kind_in r ≡ 3 → stage (Swap (at_place r) (carries r)) (at_node r) ≡ stage_of r
  unfolding stage_of
  stage-swap e = rw e

  pub stage-nothing : (kind_in r ≡ 1 → ⊥) → (kind_in r ≡ 2 → ⊥) → (kind_in r ≡ 3 → ⊥) → (q : Stage) → q ≡ no_stage → q ≡ stage_of r
  unfolding stage_of
  stage-nothing a b d q e = rw (ne_eqb (kind_in r) 1 a, ne_eqb (kind_in r) 2 b, ne_eqb (kind_in r) 3 d) e

-- ---- one record written
pub record_is : (q : Stage) (d : Due) (r : ClusterRecord) → q.due ≡ d → r ≡ record_by d q.node → r ≡ record_of q
record_is q d r e p = p ∙ ap (λ (d : Due). record_by d q.node) (sym e)

module _ (q : Stage) (d : Due) (e : q.due ≡ d) (h : Written q) where
  pub node-is : at_node (record_by d q.node) < word_limit
  node-is = subst (λ (d : Due). at_node (record_by d q.node) < word_limit) e h.node

  pub place_is : at_place (record_by d q.node) < word_limit
  place_is = subst (λ (d : Due). at_place (record_by d q.node) < word_limit) e h.place

-- NUMBERS: what is written are the six numbers of the record
pub written-numbers : (q : Stage) → record_of q ≡ stage_numbers q
unfolding blank
written-numbers q = go q.due q.node
  where
    go : (d : Due) (n : ℕ) → record_by d n ≡ stage_numbers (stage d n)
    go Nothing n = refl
    go (Put y) n = refl
    go (Fill j) n = refl
    go (Swap j x) n = refl

-- .. by name: what is written of each kind. "Numbers that a kind does not use are written 0"
pub written-nothing : (n : ℕ) → record_by Nothing n ≡ 0 ∷ 0 ∷ 0 ∷ 0 ∷ 0 ∷ 0 ∷ []
written-nothing n = refl

pub written-put : (y : Element) (n : ℕ) → record_by (Put y) n ≡ 1 ∷ n ∷ 0 ∷ y.rank.0 ∷ y.tag.0 ∷ y.length.0 ∷ []
written-put y n = refl

pub written-fill : (j n : ℕ) → record_by (Fill j) n ≡ 2 ∷ n ∷ j ∷ 0 ∷ 0 ∷ 0 ∷ []
written-fill j n = refl

pub written-swap : (j : ℕ) (x : Element) (n : ℕ) → record_by (Swap j x) n ≡ 3 ∷ n ∷ j ∷ x.rank.0 ∷ x.tag.0 ∷ x.length.0 ∷ []
written-swap j x n = refl

-- .. and what is read of each kind of record, whatever the numbers that it does not use: of kind 0 nothing, in all its numbers
module _ (n j r t l : ℕ) where
  pub read_none : stage_of (0 ∷ n ∷ j ∷ r ∷ t ∷ l ∷ []) ≡ record { due = Nothing; node = 0 }
  unfolding stage_of
  read_none = refl

  pub read-put : stage_of (1 ∷ n ∷ j ∷ r ∷ t ∷ l ∷ []) ≡ record { due = Put (record { rank = record { 0 = r }; tag = record { 0 = t }; length = record { 0 = l } }); node = n }
  unfolding stage_of
  read-put = refl

  pub read-fill : stage_of (2 ∷ n ∷ j ∷ r ∷ t ∷ l ∷ []) ≡ record { due = Fill j; node = n }
  unfolding stage_of
  read-fill = refl

  pub read-swap : stage_of (3 ∷ n ∷ j ∷ r ∷ t ∷ l ∷ []) ≡ record { due = Swap j (record { rank = record { 0 = r }; tag = record { 0 = t }; length = record { 0 = l } }); node = n }
  unfolding stage_of
  read-swap = refl
