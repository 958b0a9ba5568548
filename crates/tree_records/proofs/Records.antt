-- Records read and written one after the other, and what the tests of them say.
use Rattle.laws.specs.Prelude.{Element, ◌&&◌, ◌-◌, ◌≡◌, ◌≤◌, and_left, and_right, leb, leb-true, refl, true, ℕ}
use Rattle.tree_clock_model.specs.Prelude.{record_count}
use Rattle.tree_records.specs.Lent.{record_by, work_of}
use Rattle.tree_records.specs.Steps.{lends}
use Rattle.tree_model.specs.declared.Op.TheVariants.{Nothing, Put, Swap, Take}

-- ---- how many
module _ (levels len : ℕ) where
  module _ (e : lends levels len ≡ true) where
    pub lends-few : levels - 1 ≤ record_count
    unfolding lends
    lends-few = leb-true (levels - 1) record_count (and_left (leb (levels - 1) record_count) (leb (levels - 1) len) (and_right (leb 1 levels) (leb (levels - 1) record_count && leb (levels - 1) len) e))

    pub lends-within : levels - 1 ≤ len
    unfolding lends
    lends-within = leb-true (levels - 1) len (and_right (leb (levels - 1) record_count) (leb (levels - 1) len) (and_right (leb 1 levels) (leb (levels - 1) record_count && leb (levels - 1) len) e))

-- NUMBERS: what is written of each kind of work. "Numbers that a record's kind doesn't use are written 0"
pub written-nothing : (n : ℕ) → record_by Nothing n ≡ record { kind = 0; node = 0; rank = 0; tag = 0; length = 0 }
written-nothing n = refl

pub written-put : (x : Element) (n : ℕ) → record_by (Put x) n ≡ record { kind = 1; node = n; rank = x.rank.0; tag = x.tag.0; length = x.length.0 }
written-put x n = refl

pub written-take : (n : ℕ) → record_by Take n ≡ record { kind = 2; node = n; rank = 0; tag = 0; length = 0 }
written-take n = refl

pub written-swap : (x : Element) (n : ℕ) → record_by (Swap x) n ≡ record { kind = 3; node = n; rank = x.rank.0; tag = x.tag.0; length = x.length.0 }
written-swap x n = refl

-- .. and what is read of each kind of record, whatever the numbers that it does not use: of kind 0 nothing
module _ (n r t l : ℕ) where
  pub read_none : (work_of (record { kind = 0; node = n; rank = r; tag = t; length = l })).op ≡ Nothing
  unfolding work_of
  read_none = refl

  pub read-put : work_of (record { kind = 1; node = n; rank = r; tag = t; length = l }) ≡ record { op = Put (record { rank = record { 0 = r }; tag = record { 0 = t }; length = record { 0 = l } }); node = n }
  unfolding work_of
  read-put = refl

  pub read_take : work_of (record { kind = 2; node = n; rank = r; tag = t; length = l }) ≡ record { op = Take; node = n }
  unfolding work_of
  read_take = refl

  pub read-swap : work_of (record { kind = 3; node = n; rank = r; tag = t; length = l }) ≡ record { op = Swap (record { rank = record { 0 = r }; tag = record { 0 = t }; length = record { 0 = l } }); node = n }
  unfolding work_of
  read-swap = refl
